-- The instruction of a step by expressions is the step's.
use Rattle.std.proofs.Common.{◌≡◌, ℕ, ◌+◌, ◌*◌, ◌%◌, refl, ap, ◌∙◌, arith, Bool, true, false, cond, List, [], ◌∷◌, ℤ}
use Rattle.std.specs.Prelude.{map, pos, negsuc}
use Rattle.ven_base.specs.declared.elem.Elem.{Elem}
use Rattle.ven_base.specs.declared.elem.Elem.TheVariants.{U8, I8, U16, I16, U32, I32}
use Rattle.ven_base.specs.declared.ops.Op1.TheVariants as op1
use Rattle.ven_base.specs.declared.ops.Op2.{Op2}
use Rattle.ven_base.specs.declared.ops.Op2.TheVariants as op2
use Rattle.ven_base.specs.Elem.{size_of}
use Rattle.venice_isa.specs.declared.kind.VecKind.{VecKind}
use Rattle.venice_isa.specs.declared.work.VecWork.{VecWork}
use Rattle.venice_isa.specs.Host.{with_number}
use Rattle.pass_plan.specs.declared.tree.TreeOp.{TreeOp}
use Rattle.pass_plan.specs.declared.tree.TreeOp.TheVariants as tree_op
use Rattle.pass_plan.specs.declared.parts.Tile.{Tile}
use Rattle.pass_plan.specs.Pass.{Pass}
use Rattle.pass_plan.specs.Buffers.{buffer_bytes}
use Rattle.buffer_lifetimes.specs.declared.step.Operand.{Operand}
use Rattle.buffer_lifetimes.specs.declared.step.Operand.TheVariants as operand
use Rattle.buffer_lifetimes.specs.Step.{Step}
use Rattle.vector_codegen.specs.Kind.{is_turned, two_kind, move_kind, abs_kind, cast_kind, conditional_kind}
use Rattle.vector_codegen.specs.Work as work
use Rattle.vector_codegen.specs.Work.{parameter_of, work_of, source_of, op_work, two_work, step_work}
use Rattle.vector_codegen.specs.TileList.{tile_buffers}
use Rattle.host_programs.specs.Expr.{Expr, Number, Variable, value}
use Rattle.host_programs.specs.Program.{VectorOrder, vector_by}
use Rattle.transfer_programs.proofs.Axes.{value_plus}
use Rattle.host_codegen.specs.Geometry.{layout_of, leaf_expr}
use Rattle.host_codegen.specs.StepProgram.{RowsExpr, row_bytes, SourceExpr, Scalar, parameter_expr, is_scalar, nothing, order_with, two_order, op_order, source_expr, step_order}

-- ---- rows

-- the registers have the numbers of so many rows of so many elements
pub record HasRows (rows : RowsExpr) (height width : ℕ) (f : ℕ → ℕ) : Type 0 where
  pub rows_are : value rows.rows f ≡ height
  pub once : f rows.cols ≡ width
  pub twice : f (rows.cols + 1) ≡ width * 2
  pub four_times : f (rows.cols + 2) ≡ width * 4

-- those that name a row's three numbers
abbrev pub row_names : (d cols : ℕ) → (ℕ → ℕ) → (ℕ → ℕ)
row_names d cols f =
    with_number (d + 1 + 1) (cols + cols + (cols + cols)) (with_number (d + 1) (cols + cols) (with_number d cols f))

pub has_row : (rows : RowsExpr) (height width : ℕ) (f : ℕ → ℕ) (cols : ℕ) → cols ≡ width → value rows.rows f ≡ height
    → f rows.cols ≡ cols → f (rows.cols + 1) ≡ cols + cols → f (rows.cols + 2) ≡ cols + cols + (cols + cols) → HasRows rows height width f
has_row rows height width f cols is high once twice four = record {
  rows_are = high;
  once = once ∙ is;
  twice = omega (arith, is, twice);
  four_times = omega (arith, is, four);
}

once_bytes : (rows : RowsExpr) (height width : ℕ) (f : ℕ → ℕ) → HasRows rows height width f → f (rows.cols + 0) ≡ width * 1
once_bytes rows height width f has =
    let here : rows.cols + 0 ≡ rows.cols = omega arith in
    let all : width ≡ width * 1 = omega arith in
    ap f here ∙ has.once ∙ all

pub row_bytes_value : (rows : RowsExpr) (height width : ℕ) (f : ℕ → ℕ) → HasRows rows height width f → (elem : Elem) → value (row_bytes rows elem) f ≡ width * size_of elem
row_bytes_value rows height width f has U8 = once_bytes rows height width f has
row_bytes_value rows height width f has I8 = once_bytes rows height width f has
row_bytes_value rows height width f has U16 = has.twice
row_bytes_value rows height width f has I16 = has.twice
row_bytes_value rows height width f has U32 = has.four_times
row_bytes_value rows height width f has I32 = has.four_times

-- ---- sources

-- register `half` has how far the half of the leaves' buffers is from half 0
module _ (pass : Pass) (tile : Tile) (t half : ℕ) (f : ℕ → ℕ) (half_is : f half ≡ t % 2 * buffer_bytes pass tile) where
  abbrev room : ℕ
  room = buffer_bytes pass tile

  -- the expression means what an operand is
  pub record IsSource (a : SourceExpr) (arg : Operand) : Type 0 where
    pub scalar : is_scalar a ≡ work.is_scalar (source_of (tile_buffers pass tile t) arg)
    pub parameter : value (parameter_expr a) f ≡ parameter_of room (source_of (tile_buffers pass tile t) arg)

  pub leaf_value : (number : ℕ) → value (leaf_expr (layout_of pass tile) half number) f ≡ (number * 2 + t % 2) * room
  leaf_value number = value_plus (Number (number * 2 * room)) (Variable half) f ∙ omega (arith, half_is)

  is_source : (arg : Operand) → IsSource (source_expr (layout_of pass tile) half arg) arg
  is_source (operand.Leaf number) = record { scalar = refl; parameter = leaf_value number }
  is_source (operand.Literal n) = record { scalar = refl; parameter = refl }
  is_source (operand.Slot slot) = record { scalar = refl; parameter = refl }

  number_is : (n : ℤ) → IsSource (Scalar n) (operand.Literal n)
  number_is n = record { scalar = refl; parameter = refl }

  -- ---- instructions over so many rows of so many elements

  module _ (rows : RowsExpr) (height width : ℕ) (has : HasRows rows height width f) where
    abbrev by_value : VectorOrder → VecWork
    by_value order = vector_by (λ e. value e f) order

    abbrev work_on : (kind : VecKind) (place : ℕ) (a b : Operand) → VecWork
    work_on kind place a b =
        work_of (record { room = room; rows = height; cols = width }) kind place (source_of (tile_buffers pass tile t) a) (source_of (tile_buffers pass tile t) b)

    abbrev two_on : (acc : Bool) (op : Op2) (elem : Elem) (place : ℕ) (a b : Operand) → VecWork
    two_on acc op elem place a b =
        two_work (record { room = room; rows = height; cols = width }) acc op elem place (source_of (tile_buffers pass tile t) a) (source_of (tile_buffers pass tile t) b)

    abbrev scalar_of : Operand → Bool
    scalar_of arg = work.is_scalar (source_of (tile_buffers pass tile t) arg)

    stepped : (acc : Bool) (elem : Elem) → value (cond acc (Number (size_of elem)) (row_bytes rows elem)) f ≡ cond acc (size_of elem) (width * size_of elem)
    stepped true elem = refl
    stepped false elem = row_bytes_value rows height width f has elem

    pub order_value : (kind : VecKind) (to : Expr) (place : ℕ) (a b : SourceExpr) (x y : Operand) → value to f ≡ place * room → IsSource a x → IsSource b y
        → by_value (order_with rows kind to a b) ≡ work_on kind place x y
    order_value kind to place a b x y at is_a is_b =
        let e0 = has.once in
        let e1 = has.rows_are in
        let e2 = is_a.parameter in
        let e3 = is_b.parameter in
        let e4 = stepped kind.acc kind.elem in
        let e5 = row_bytes_value rows height width f has kind.from in
        let e6 = row_bytes_value rows height width f has kind.elem in
        cc

    module _ (acc : Bool) (elem from : Elem) (to : Expr) (place : ℕ) (at : value to f ≡ place * room) where
      two_value : (op : Op2) (a b : SourceExpr) (x y : Operand) → IsSource a x → IsSource b y → by_value (two_order rows acc op elem to a b) ≡ two_on acc op elem place x y
      two_value op a b x y is_a is_b =
          order_value (two_kind op elem (is_scalar a) (is_scalar b) acc) to place a b x y at is_a is_b
          ∙ ap (λ s. work_on (two_kind op elem s (is_scalar b) acc) place x y) is_a.scalar
          ∙ ap (λ s. work_on (two_kind op elem (scalar_of x) s acc) place x y) is_b.scalar

      one_value : (kind : Bool → VecKind) (a : SourceExpr) (x : Operand) → IsSource a x
          → by_value (order_with rows (kind (is_scalar a)) to a nothing) ≡ work_on (kind (scalar_of x)) place x (operand.Literal (pos 0))
      one_value kind a x is_a =
          order_value (kind (is_scalar a)) to place a nothing x (operand.Literal (pos 0)) at is_a (number_is (pos 0))
          ∙ ap (λ s. work_on (kind s) place x (operand.Literal (pos 0))) is_a.scalar

      select_value : (a b : SourceExpr) (x y : Operand) → IsSource a x → IsSource b y
          → by_value (order_with rows (conditional_kind elem (is_scalar a)) to a b) ≡ work_on (conditional_kind elem (scalar_of x)) place x y
      select_value a b x y is_a is_b =
          order_value (conditional_kind elem (is_scalar a)) to place a b x y at is_a is_b
          ∙ ap (λ s. work_on (conditional_kind elem s) place x y) is_a.scalar

      none_value : by_value (order_with rows (move_kind elem true acc) to nothing nothing) ≡ work_on (move_kind elem true acc) place (operand.Literal (pos 0)) (operand.Literal (pos 0))
      none_value = order_value (move_kind elem true acc) to place nothing nothing (operand.Literal (pos 0)) (operand.Literal (pos 0)) at (number_is (pos 0)) (number_is (pos 0))

      abbrev expr : Operand → SourceExpr
      expr arg = source_expr (layout_of pass tile) half arg

      turned : (t : Bool) (op : Op2) (a b : Operand)
          → by_value (cond t (two_order rows acc op elem to (expr b) (expr a)) (two_order rows acc op elem to (expr a) (expr b))) ≡ cond t (two_on acc op elem place b a) (two_on acc op elem place a b)
      turned true op a b = two_value op (expr b) (expr a) b a (is_source b) (is_source a)
      turned false op a b = two_value op (expr a) (expr b) a b (is_source a) (is_source b)

      op_value : (op : TreeOp) (args : List Operand)
          → by_value (op_order rows acc op elem from (map (source_expr (layout_of pass tile) half) args) to)
          ≡ op_work (record { room = room; rows = height; cols = width }) acc op elem from (map (source_of (tile_buffers pass tile t)) args) place
      op_value (tree_op.Two op) [] = none_value
      op_value (tree_op.Two op) (a ∷ []) = none_value
      op_value (tree_op.Two op) (a ∷ b ∷ []) = turned (is_turned op) op a b
      op_value (tree_op.Two op) (a ∷ b ∷ c ∷ args) = none_value
      op_value (tree_op.One op1.Neg) [] = none_value
      op_value (tree_op.One op1.Not) [] = none_value
      op_value (tree_op.One op1.Abs) [] = none_value
      op_value (tree_op.One op1.Neg) (a ∷ []) = two_value op2.Sub (Scalar (pos 0)) (expr a) (operand.Literal (pos 0)) a (number_is (pos 0)) (is_source a)
      op_value (tree_op.One op1.Not) (a ∷ []) = two_value op2.Sub (Scalar (negsuc 0)) (expr a) (operand.Literal (negsuc 0)) a (number_is (negsuc 0)) (is_source a)
      op_value (tree_op.One op1.Abs) (a ∷ []) = one_value (λ s. abs_kind elem s acc) (expr a) a (is_source a)
      op_value (tree_op.One op1.Neg) (a ∷ b ∷ args) = none_value
      op_value (tree_op.One op1.Not) (a ∷ b ∷ args) = none_value
      op_value (tree_op.One op1.Abs) (a ∷ b ∷ args) = none_value
      op_value tree_op.Cast [] = none_value
      op_value tree_op.Cast (a ∷ []) = one_value (λ s. cast_kind elem from s acc) (expr a) a (is_source a)
      op_value tree_op.Cast (a ∷ b ∷ args) = none_value
      op_value tree_op.Move [] = none_value
      op_value tree_op.Move (a ∷ []) = one_value (λ s. move_kind elem s acc) (expr a) a (is_source a)
      op_value tree_op.Move (a ∷ b ∷ args) = none_value
      op_value tree_op.Select [] = none_value
      op_value tree_op.Select (c ∷ []) = none_value
      op_value tree_op.Select (c ∷ x ∷ []) = none_value
      op_value tree_op.Select (c ∷ x ∷ y ∷ []) = select_value (expr x) (expr c) x c (is_source x) (is_source c)
      op_value tree_op.Select (c ∷ x ∷ y ∷ z ∷ args) = none_value

    pub step_value : (acc : Bool) (step : Step) (to : Expr) (place : ℕ) → value to f ≡ place * room
        → by_value (step_order (layout_of pass tile) half rows acc step to) ≡ step_work (record { room = room; rows = height; cols = width }) (tile_buffers pass tile t) acc step place
    step_value acc step to place at = op_value acc step.elem step.from to place at step.op step.args
