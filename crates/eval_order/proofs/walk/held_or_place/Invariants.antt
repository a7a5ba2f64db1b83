use Rattle.pass_plan.specs.Shown.{tree_of}
use Rattle.eval_order.specs.Walk.{HasWalked}
use Rattle.eval_order.proofs.walk.held_or_place.Given as goal

abbrev pub invariant-loop-at : goal.invariant-loop-at
invariant-loop-at l = HasWalked (tree_of l.tree) l.order l.at l.came.items l.resting l.all.items
