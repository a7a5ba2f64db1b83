use Rattle.std.proofs.Common.{◌-◌, length}
use Rattle.pass_plan.specs.Shown.{tree_of}
use Rattle.pass_plan.specs.Numbers.{inner_of}
use Rattle.eval_order.proofs.Waiting.{IsFromEnd}
use Rattle.eval_order.proofs.best.best_numbers.Given as goal

abbrev pub invariant-loop-number : goal.invariant-loop-number
invariant-loop-number l = IsFromEnd (tree_of l.whole.tree.now) l.waiting.items l.order.items

abbrev pub decreases-loop-number : goal.decreases-loop-number
decreases-loop-number l = inner_of (tree_of l.whole.tree.now) - length l.order.items
