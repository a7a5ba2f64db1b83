-- Inner: what the code needs to know, so that its numbers fit.
use Rattle.std.specs.Prelude.{◌≡◌, ℕ, ◌+◌, ◌*◌, ◌^◌, ◌≤◌, ◌<◌, Bool, true, false, length, All}
use Rattle.ven_base.specs.declared.elem.Elem.{Elem}
use Rattle.ven_base.specs.Elem.{size_of}
use Rattle.ven_base.specs.Extent.{element_limit}
use Rattle.pass_plan.specs.declared.tree.TreeOp.{TreeOp}
use Rattle.pass_plan.specs.declared.tree.TreeOp.TheVariants as tree_op
use Rattle.buffer_lifetimes.specs.declared.step.Operand.{Operand}
use Rattle.buffer_lifetimes.specs.declared.step.Operand.TheVariants as operand
use Rattle.buffer_lifetimes.specs.Step.{Step}
use Rattle.vector_codegen.specs.Work.{Shape, Buffers, Source, Buffer, Scalar}

-- how many buffers there are
abbrev pub results_with : (has_partial : Bool) → ℕ
results_with true = 3
results_with false = 2

abbrev pub buffer_count : Buffers → ℕ
buffer_count b = b.leaves * 2 + b.slots + results_with b.has_partial

-- the elements are few, and all buffers lie below 2 to the 32
pub record IsFitting (shape : Shape) (b : Buffers) : Type 0 where
  pub few : shape.rows * shape.cols ≤ element_limit
  pub some_rows : 1 ≤ shape.rows
  pub some_cols : 1 ≤ shape.cols
  pub some_room : 1 ≤ shape.room
  pub rooms : buffer_count b * shape.room < 2 ^ 32
  pub half : b.in_half < 2
  pub out : b.out_half < 2

-- a source's buffer begins below 2 to the 32
abbrev pub FitsSource : (room : ℕ) → Source → Type 0
FitsSource room (Buffer buffer) = buffer * room < 2 ^ 32
FitsSource room (Scalar n) = Unit {0}

-- the first row of a buffer ends below 2 to the 32
pub record HasRowsFitting (shape : Shape) (elem : Elem) (buffer : ℕ) : Type 0 where
  pub few : shape.cols ≤ element_limit
  pub some : 1 ≤ shape.cols
  pub row : buffer * shape.room + shape.cols * size_of elem < 2 ^ 32

-- the argument is one of the tile's leaves or slots, or a literal
abbrev pub IsArgOf : Buffers → Operand → Type 0
IsArgOf b (operand.Leaf number) = number < b.leaves
IsArgOf b (operand.Literal n) = Unit {0}
IsArgOf b (operand.Slot slot) = slot < b.slots

-- how many operands an operation has
abbrev pub arity_of : TreeOp → ℕ
arity_of (tree_op.One op) = 1
arity_of (tree_op.Two op) = 2
arity_of tree_op.Cast = 1
arity_of tree_op.Move = 1
arity_of tree_op.Select = 3

-- the step has as many arguments as its operation, all of them the tile's, and writes one of its slots
pub record IsStepOf (b : Buffers) (step : Step) : Type 0 where
  pub args : All (IsArgOf b) step.args
  pub count : length step.args ≡ arity_of step.op
  pub to : step.to < b.slots
