use Rattle.plan_tests.proofs.trees.+full.Given as goal

abbrev pub decreases-full : goal.decreases-full
decreases-full l = l.height
