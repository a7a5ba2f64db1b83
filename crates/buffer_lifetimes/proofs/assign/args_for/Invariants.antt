use Rattle.std.proofs.Common.{◌≡◌, take}
use Rattle.pass_plan.specs.Tree.{operands_of}
use Rattle.pass_plan.specs.Shown.{tree_of}
use Rattle.buffer_lifetimes.specs.OrderOf as spec
use Rattle.buffer_lifetimes.proofs.Evaluation.{slot_in}
use Rattle.buffer_lifetimes.proofs.assign.args_for.Given as goal

abbrev pub invariant-loop-place : goal.invariant-loop-place
invariant-loop-place l = l.args.items ≡ spec.args_for (take l.place (operands_of (tree_of l.tree))) (slot_in l.slots) 0
