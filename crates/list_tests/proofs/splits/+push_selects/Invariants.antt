use Rattle.list_tests.proofs.splits.+push_selects.Given as goal

abbrev pub decreases-push_selects : goal.decreases-push_selects
decreases-push_selects l = l.times
