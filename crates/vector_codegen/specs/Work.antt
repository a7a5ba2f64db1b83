-- Buffers by number, and the vector instruction of each step of an order over them.
use Rattle.std.specs.Prelude.{ℕ, ◌+◌, ◌*◌, pos, negsuc, Bool, true, false, List, [], ◌∷◌, map, if◌then◌else◌}
use Rattle.ven_base.specs.declared.elem.Elem.{Elem}
use Rattle.ven_base.specs.declared.ops.Op1.TheVariants as op1
use Rattle.ven_base.specs.declared.ops.Op2.{Op2}
use Rattle.ven_base.specs.declared.ops.Op2.TheVariants as op2
use Rattle.ven_base.specs.Elem.{size_of}
use Rattle.venice_isa.specs.declared.work.VecWork.{VecWork}
use Rattle.venice_isa.specs.declared.kind.VecKind.{VecKind}
use Rattle.pass_plan.specs.declared.tree.TreeOp.{TreeOp}
use Rattle.pass_plan.specs.declared.tree.TreeOp.TheVariants as tree_op
use Rattle.buffer_lifetimes.specs.declared.step.Operand.{Operand}
use Rattle.buffer_lifetimes.specs.declared.step.Operand.TheVariants as operand
use Rattle.buffer_lifetimes.specs.Step.{Step}
pub use Rattle.vector_codegen.specs.declared.buffers.Source.{Source}
pub use Rattle.vector_codegen.specs.declared.buffers.Source.TheVariants.{Buffer, Scalar}
pub use Rattle.vector_codegen.specs.declared.buffers.Shape.{Shape}
pub use Rattle.vector_codegen.specs.declared.buffers.Buffers.{Buffers}
pub use Rattle.dma_segments.specs.FillWork.{word_of}
use Rattle.vector_codegen.specs.Kind.{is_turned, two_kind, move_kind, abs_kind, cast_kind, conditional_kind}

-- a source is a buffer or one number; a shape is that of buffers of so many bytes, each with rows of so many elements
-- that follow one another without gaps
-- all elements as one row, and a column of one element for each row
abbrev pub flat : Shape → Shape
flat shape = record { room = shape.room; rows = 1; cols = shape.rows * shape.cols }

abbrev pub column_of : Shape → Shape
column_of shape = record { room = shape.room; rows = 1; cols = shape.rows }

abbrev pub parameter_of : (room : ℕ) → Source → ℕ
parameter_of room (Buffer buffer) = buffer * room
parameter_of room (Scalar n) = word_of n

abbrev pub is_scalar : Source → Bool
is_scalar (Buffer buffer) = false
is_scalar (Scalar n) = true

-- an instruction over all elements of a shape; with accumulate its results, one a row, follow one another too
abbrev pub work_of : Shape → VecKind → (to : ℕ) → (a b : Source) → VecWork
work_of shape kind to a b = record {
  kind = kind;
  vl = shape.cols;
  rows = shape.rows;
  dst = to * shape.room;
  a = parameter_of shape.room a;
  b = parameter_of shape.room b;
  dst_step = if kind.acc then size_of kind.elem else shape.cols * size_of kind.elem;
  a_step = shape.cols * size_of kind.from;
  b_step = shape.cols * size_of kind.elem;
}

-- in the place of a B that isn't used
abbrev pub nothing : Source
nothing = Scalar (pos 0)

abbrev pub two_work : Shape → (acc : Bool) → Op2 → Elem → (to : ℕ) → (a b : Source) → VecWork
two_work shape acc op elem to a b = work_of shape (two_kind op elem (is_scalar a) (is_scalar b) acc) to a b

-- the one instruction of an operation: negation is 0 less the operand, and the complement -1 less it
abbrev pub op_work : Shape → (acc : Bool) → TreeOp → (elem from : Elem) → List Source → (to : ℕ) → VecWork
op_work shape acc (tree_op.Two op) elem from (a ∷ b ∷ []) to =
    if is_turned op then two_work shape acc op elem to b a else two_work shape acc op elem to a b
op_work shape acc (tree_op.One op1.Neg) elem from (a ∷ []) to =
    two_work shape acc op2.Sub elem to (Scalar (pos 0)) a
op_work shape acc (tree_op.One op1.Not) elem from (a ∷ []) to =
    two_work shape acc op2.Sub elem to (Scalar (negsuc 0)) a
op_work shape acc (tree_op.One op1.Abs) elem from (a ∷ []) to =
    work_of shape (abs_kind elem (is_scalar a) acc) to a nothing
op_work shape acc tree_op.Cast elem from (a ∷ []) to =
    work_of shape (cast_kind elem from (is_scalar a) acc) to a nothing
op_work shape acc tree_op.Move elem from (a ∷ []) to = work_of shape (move_kind elem (is_scalar a) acc) to a nothing
op_work shape acc tree_op.Select elem from (c ∷ x ∷ y ∷ []) to =
    work_of shape (conditional_kind elem (is_scalar x)) to x c
op_work shape acc op elem from sources to = work_of shape (move_kind elem true acc) to nothing nothing

-- ---- the buffers of a tile

-- the buffers of so many leaves and slots, with the halves that the tile works on
abbrev pub leaf_buffer : Buffers → (number : ℕ) → ℕ
leaf_buffer b number = number * 2 + b.in_half

abbrev pub slot_buffer : Buffers → (slot : ℕ) → ℕ
slot_buffer b slot = b.leaves * 2 + slot

abbrev pub out_buffer : Buffers → ℕ
out_buffer b = b.leaves * 2 + b.slots + b.out_half

abbrev pub partial_buffer : Buffers → ℕ
partial_buffer b = b.leaves * 2 + b.slots + 2

-- what a step reads
abbrev pub source_of : Buffers → Operand → Source
source_of b (operand.Leaf number) = Buffer (leaf_buffer b number)
source_of b (operand.Literal n) = Scalar n
source_of b (operand.Slot slot) = Buffer (slot_buffer b slot)

-- a step's instruction, with its results in this buffer
abbrev pub step_work : Shape → Buffers → (acc : Bool) → Step → (to : ℕ) → VecWork
step_work shape b acc step to = op_work shape acc step.op step.elem step.from (map (source_of b) step.args) to
