use Rattle.plan_tests.proofs.orders.+counter_tree.Given as goal

abbrev pub decreases-counter_tree : goal.decreases-counter_tree
decreases-counter_tree l = l.height
