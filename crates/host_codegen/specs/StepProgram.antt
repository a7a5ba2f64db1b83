-- The vector instruction of a step, by expressions.
use Rattle.std.specs.Prelude.{ℕ, ◌+◌, ◌/◌, ℤ, pos, negsuc, Bool, true, false, List, [], ◌∷◌, map, if◌then◌else◌}
use Rattle.ven_base.specs.declared.elem.Elem.{Elem}
use Rattle.ven_base.specs.declared.ops.Op1.TheVariants as op1
use Rattle.ven_base.specs.declared.ops.Op2.{Op2}
use Rattle.ven_base.specs.declared.ops.Op2.TheVariants as op2
use Rattle.ven_base.specs.Elem.{size_of}
use Rattle.venice_isa.specs.declared.kind.VecKind.{VecKind}
use Rattle.pass_plan.specs.declared.tree.TreeOp.{TreeOp}
use Rattle.pass_plan.specs.declared.tree.TreeOp.TheVariants as tree_op
use Rattle.buffer_lifetimes.specs.declared.step.Operand.{Operand}
use Rattle.buffer_lifetimes.specs.declared.step.Operand.TheVariants as operand
use Rattle.buffer_lifetimes.specs.Step.{Step}
use Rattle.vector_codegen.specs.Kind.{is_turned, two_kind, move_kind, abs_kind, cast_kind, conditional_kind}
use Rattle.vector_codegen.specs.Work.{word_of}
use Rattle.host_programs.specs.Expr.{Expr, Number, Variable, Sum}
use Rattle.host_programs.specs.Program.{VectorOrder, Program, Let}
use Rattle.host_codegen.specs.Geometry.{Layout, slot_cell, leaf_expr}

-- ---- rows of elements

-- rows of so many elements: register `cols` has how many, and the next two twice and four times as many
pub record RowsExpr : Type 0 where
  pub rows : Expr
  pub cols : ℕ

-- names for these three, from register d on
abbrev pub with_row : Expr → (d : ℕ) → Program → Program
with_row cols d p = Let cols (Let (Sum (Variable d) (Variable d)) (Let (Sum (Variable (d + 1)) (Variable (d + 1))) p))

-- the bytes of a row: elements have one, two or four
abbrev pub row_bytes : RowsExpr → Elem → Expr
row_bytes shape elem = Variable (shape.cols + size_of elem / 2)

-- ---- an instruction

-- a buffer's first cell, or one number
pub data SourceExpr : Type 0 where
  Buffer : (cell : Expr) → SourceExpr
  Scalar : (n : ℤ) → SourceExpr

abbrev pub parameter_expr : SourceExpr → Expr
parameter_expr (Buffer cell) = cell
parameter_expr (Scalar n) = Number (word_of n)

abbrev pub is_scalar : SourceExpr → Bool
is_scalar (Buffer cell) = false
is_scalar (Scalar n) = true

-- in the place of a B that isn't used
abbrev pub nothing : SourceExpr
nothing = Scalar (pos 0)

abbrev pub order_with : RowsExpr → VecKind → (to : Expr) → (a b : SourceExpr) → VectorOrder
order_with shape kind to a b = record {
  kind = kind;
  vl = Variable shape.cols;
  rows = shape.rows;
  dst = to;
  a = parameter_expr a;
  b = parameter_expr b;
  dst_step = if kind.acc then Number (size_of kind.elem) else row_bytes shape kind.elem;
  a_step = row_bytes shape kind.from;
  b_step = row_bytes shape kind.elem;
}

abbrev pub two_order : RowsExpr → (acc : Bool) → Op2 → Elem → (to : Expr) → (a b : SourceExpr) → VectorOrder
two_order shape acc op elem to a b = order_with shape (two_kind op elem (is_scalar a) (is_scalar b) acc) to a b

-- that of an operation, as vector_codegen's `op_work`
abbrev pub op_order : RowsExpr → (acc : Bool) → TreeOp → (elem from : Elem) → List SourceExpr → (to : Expr)
    → VectorOrder
op_order shape acc (tree_op.Two op) elem from (a ∷ b ∷ []) to =
    if is_turned op then two_order shape acc op elem to b a else two_order shape acc op elem to a b
op_order shape acc (tree_op.One op1.Neg) elem from (a ∷ []) to =
    two_order shape acc op2.Sub elem to (Scalar (pos 0)) a
op_order shape acc (tree_op.One op1.Not) elem from (a ∷ []) to =
    two_order shape acc op2.Sub elem to (Scalar (negsuc 0)) a
op_order shape acc (tree_op.One op1.Abs) elem from (a ∷ []) to =
    order_with shape (abs_kind elem (is_scalar a) acc) to a nothing
op_order shape acc tree_op.Cast elem from (a ∷ []) to =
    order_with shape (cast_kind elem from (is_scalar a) acc) to a nothing
op_order shape acc tree_op.Move elem from (a ∷ []) to = order_with shape (move_kind elem (is_scalar a) acc) to a nothing
op_order shape acc tree_op.Select elem from (c ∷ x ∷ y ∷ []) to =
    order_with shape (conditional_kind elem (is_scalar x)) to x c
op_order shape acc op elem from sources to = order_with shape (move_kind elem true acc) to nothing nothing

-- ---- a step

-- what a step reads; register `half` has how far the leaves' half is from half 0
abbrev pub source_expr : Layout → (half : ℕ) → Operand → SourceExpr
source_expr layout half (operand.Leaf number) = Buffer (leaf_expr layout half number)
source_expr layout half (operand.Literal n) = Scalar n
source_expr layout half (operand.Slot slot) = Buffer (Number (slot_cell layout slot))

-- a step's instruction, with its results from this cell on
abbrev pub step_order : Layout → (half : ℕ) → RowsExpr → (acc : Bool) → Step → (to : Expr) → VectorOrder
step_order layout half shape acc step to =
    op_order shape acc step.op step.elem step.from (map (source_expr layout half) step.args) to
