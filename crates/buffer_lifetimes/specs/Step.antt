-- Steps of evaluation as plain values.
use Rattle.std.specs.Prelude.{ℕ, List, map}
use Rattle.ven_base.specs.declared.elem.Elem.{Elem}
use Rattle.pass_plan.specs.declared.tree.TreeOp.{TreeOp}
use Rattle.pass_plan.specs.Tree.{TreeOver}
use Rattle.buffer_lifetimes.specs.declared.step.Operand.{Operand}
use Rattle.buffer_lifetimes.specs.declared.step.EvalStep.{EvalStep}

-- a tree over the numbers of its leaves
abbrev pub Tree : Type 0
Tree = TreeOver ℕ

-- an operation on arguments, whose result goes to a slot
pub record Step : Type 0 where
  pub op : TreeOp
  pub elem : Elem
  pub from : Elem
  pub args : List Operand
  pub to : ℕ

abbrev pub step_of : EvalStep → Step
step_of step = record { op = step.op; elem = step.elem; from = step.from; args = step.args.items; to = step.to }

abbrev pub steps_of : List EvalStep → List Step
steps_of steps = map step_of steps
