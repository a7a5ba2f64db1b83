use Rattle.std.proofs.Common.{◌≡◌, take}
use Rattle.pass_plan.specs.Need.{widest_leaf}
use Rattle.pass_plan.proofs.needs.widest_of_leaves.Given as goal

abbrev pub invariant-loop-leaf : goal.invariant-loop-leaf
invariant-loop-leaf l = l.widest ≡ widest_leaf (take l.leaf-index l.leaves)
