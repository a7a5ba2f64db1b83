-- What holds of each instruction of two sources holds of a step's.
use Rattle.std.proofs.Common.{Bool, true, List, [], ◌∷◌, ℤ}
use Rattle.std.specs.Prelude.{map, pos, negsuc}
use Rattle.std.proofs.lemmas.Bool.{cond_both}
use Rattle.ven_base.specs.declared.elem.Elem.{Elem}
use Rattle.ven_base.specs.declared.ops.Op1.TheVariants as op1
use Rattle.ven_base.specs.declared.ops.Op2.{Op2}
use Rattle.ven_base.specs.declared.ops.Op2.TheVariants as op2
use Rattle.venice_isa.specs.declared.kind.VecKind.{VecKind}
use Rattle.pass_plan.specs.declared.tree.TreeOp.{TreeOp}
use Rattle.pass_plan.specs.declared.tree.TreeOp.TheVariants as tree_op
use Rattle.buffer_lifetimes.specs.declared.step.Operand.{Operand}
use Rattle.vector_codegen.specs.Kind.{is_turned, two_kind, move_kind, abs_kind, cast_kind, conditional_kind}
use Rattle.host_programs.specs.Expr.{Expr}
use Rattle.host_programs.specs.Program.{VectorOrder}
use Rattle.host_codegen.specs.StepProgram.{RowsExpr, SourceExpr, Scalar, is_scalar, nothing, order_with, two_order, op_order}

module _ (P : VectorOrder → Type 0) (Q : SourceExpr → Type 0) (rows : RowsExpr) (to : Expr) (made : (kind : VecKind) (a b : SourceExpr) → Q a → Q b → P (order_with rows kind to a b))
    (number : (n : ℤ) → Q (Scalar n)) (source : Operand → SourceExpr) (each : (arg : Operand) → Q (source arg)) where
  one : (kind : Bool → VecKind) (a : Operand) → P (order_with rows (kind (is_scalar (source a))) to (source a) nothing)
  one kind a = made (kind (is_scalar (source a))) (source a) nothing (each a) (number (pos 0))

  two : (acc : Bool) (op : Op2) (elem : Elem) (a b : SourceExpr) → Q a → Q b → P (two_order rows acc op elem to a b)
  two acc op elem a b is_a is_b = made (two_kind op elem (is_scalar a) (is_scalar b) acc) a b is_a is_b

  none : (acc : Bool) (elem : Elem) → P (order_with rows (move_kind elem true acc) to nothing nothing)
  none acc elem = made (move_kind elem true acc) nothing nothing (number (pos 0)) (number (pos 0))

  pub op_cases : (op : TreeOp) (args : List Operand) (acc : Bool) (elem from : Elem) → P (op_order rows acc op elem from (map source args) to)
  op_cases (tree_op.Two op) [] acc elem from = none acc elem
  op_cases (tree_op.Two op) (a ∷ []) acc elem from = none acc elem
  op_cases (tree_op.Two op) (a ∷ b ∷ []) acc elem from =
      cond_both (is_turned op) (two_order rows acc op elem to (source b) (source a)) (two_order rows acc op elem to (source a) (source b)) P
      (λ e. two acc op elem (source b) (source a) (each b) (each a)) (λ e. two acc op elem (source a) (source b) (each a) (each b))
  op_cases (tree_op.Two op) (a ∷ b ∷ c ∷ args) acc elem from = none acc elem
  op_cases (tree_op.One op1.Neg) [] acc elem from = none acc elem
  op_cases (tree_op.One op1.Not) [] acc elem from = none acc elem
  op_cases (tree_op.One op1.Abs) [] acc elem from = none acc elem
  op_cases (tree_op.One op1.Neg) (a ∷ []) acc elem from = two acc op2.Sub elem (Scalar (pos 0)) (source a) (number (pos 0)) (each a)
  op_cases (tree_op.One op1.Not) (a ∷ []) acc elem from = two acc op2.Sub elem (Scalar (negsuc 0)) (source a) (number (negsuc 0)) (each a)
  op_cases (tree_op.One op1.Abs) (a ∷ []) acc elem from = one (λ s. abs_kind elem s acc) a
  op_cases (tree_op.One op1.Neg) (a ∷ b ∷ args) acc elem from = none acc elem
  op_cases (tree_op.One op1.Not) (a ∷ b ∷ args) acc elem from = none acc elem
  op_cases (tree_op.One op1.Abs) (a ∷ b ∷ args) acc elem from = none acc elem
  op_cases tree_op.Cast [] acc elem from = none acc elem
  op_cases tree_op.Cast (a ∷ []) acc elem from = one (λ s. cast_kind elem from s acc) a
  op_cases tree_op.Cast (a ∷ b ∷ args) acc elem from = none acc elem
  op_cases tree_op.Move [] acc elem from = none acc elem
  op_cases tree_op.Move (a ∷ []) acc elem from = one (λ s. move_kind elem s acc) a
  op_cases tree_op.Move (a ∷ b ∷ args) acc elem from = none acc elem
  op_cases tree_op.Select [] acc elem from = none acc elem
  op_cases tree_op.Select (c ∷ []) acc elem from = none acc elem
  op_cases tree_op.Select (c ∷ x ∷ []) acc elem from = none acc elem
  op_cases tree_op.Select (c ∷ x ∷ y ∷ []) acc elem from = made (conditional_kind elem (is_scalar (source x))) (source x) (source c) (each x) (each c)
  op_cases tree_op.Select (c ∷ x ∷ y ∷ z ∷ args) acc elem from = none acc elem
