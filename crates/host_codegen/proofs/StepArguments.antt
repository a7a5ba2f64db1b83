-- The sources of a step as the code reads them.
use Rattle.std.proofs.Common.{◌≡◌, ℕ, ap, sym, ◌∙◌, refl, arith, List, [], ◌∷◌, length, get_or, map, Bool}
use Rattle.ven_base.specs.declared.elem.Elem.{Elem}
use Rattle.ven_base.specs.declared.ops.Op1.{Op1}
use Rattle.ven_base.specs.declared.ops.Op1.TheVariants as op1
use Rattle.pass_plan.specs.declared.tree.TreeOp.{TreeOp}
use Rattle.pass_plan.specs.declared.tree.TreeOp.TheVariants as tree_op
use Rattle.buffer_lifetimes.specs.declared.step.Operand.{Operand}
use Rattle.buffer_lifetimes.specs.Order.{no_operand}
use Rattle.vector_codegen.specs.Kind.{conditional_kind}
use Rattle.vector_codegen.specs.Fit.{arity_of}
use Rattle.host_programs.specs.Expr.{Expr}
use Rattle.host_programs.specs.Program.{VectorOrder}
use Rattle.host_codegen.specs.Geometry.{Layout}
use Rattle.host_codegen.specs.StepProgram.{RowsExpr, SourceExpr, is_scalar, order_with, op_order, source_expr}

-- the type of the operand says nothing but in a cast
pub same_on_one : (op : Op1) (shape : RowsExpr) (acc : Bool) (elem from : Elem) (a : SourceExpr) (to : Expr) → op_order shape acc (tree_op.One op) elem elem (a ∷ []) to ≡ op_order shape acc (tree_op.One op) elem from (a ∷ []) to
same_on_one op1.Neg shape acc elem from a to = refl
same_on_one op1.Not shape acc elem from a to = refl
same_on_one op1.Abs shape acc elem from a to = refl

module _ (layout : Layout) (half : ℕ) where
  abbrev read_by : Operand → SourceExpr
  read_by arg = source_expr layout half arg

  one_source : (args : List Operand) → length args ≡ 1 → map (source_expr layout half) args ≡ read_by (get_or args 0 no_operand) ∷ []
  one_source [] is = absurd (omega arith)
  one_source (x ∷ []) is = refl
  one_source (x ∷ y ∷ args) is = absurd (omega arith)

  two_sources : (args : List Operand) → length args ≡ 2 → map (source_expr layout half) args ≡ read_by (get_or args 0 no_operand) ∷ read_by (get_or args 1 no_operand) ∷ []
  two_sources [] is = absurd (omega arith)
  two_sources (x ∷ []) is = absurd (omega arith)
  two_sources (x ∷ y ∷ []) is = refl
  two_sources (x ∷ y ∷ z ∷ args) is = absurd (omega arith)

  three_sources : (args : List Operand) → length args ≡ 3 → map (source_expr layout half) args ≡ read_by (get_or args 0 no_operand) ∷ read_by (get_or args 1 no_operand) ∷ read_by (get_or args 2 no_operand) ∷ []
  three_sources [] is = absurd (omega arith)
  three_sources (x ∷ []) is = absurd (omega arith)
  three_sources (x ∷ y ∷ []) is = absurd (omega arith)
  three_sources (x ∷ y ∷ z ∷ []) is = refl
  three_sources (x ∷ y ∷ z ∷ w ∷ args) is = absurd (omega arith)

  module _ (shape : RowsExpr) (acc : Bool) (elem from : Elem) (args read : List Operand) (to : Expr) (same : read ≡ args) where
    source_there : (a : SourceExpr) (place : ℕ) → a ≡ source_expr layout half (get_or read place no_operand) → read_by (get_or args place no_operand) ≡ a
    source_there a place is = sym (is ∙ ap (λ xs. read_by (get_or xs place no_operand)) same)

    pub with_one : (op op' : TreeOp) (a : SourceExpr) (order : VectorOrder) → op ≡ op' → length args ≡ arity_of op → arity_of op' ≡ 1 → a ≡ source_expr layout half (get_or read 0 no_operand)
        → order ≡ op_order shape acc op' elem from (a ∷ []) to → order ≡ op_order shape acc op elem from (map (source_expr layout half) args) to
    with_one op op' a order op_is count one a_is is =
        let sources : map (source_expr layout half) args ≡ a ∷ [] = one_source args (count ∙ ap arity_of op_is ∙ one) ∙ ap (λ s. s ∷ []) (source_there a 0 a_is) in
        is ∙ ap (λ sources. op_order shape acc op' elem from sources to) (sym sources) ∙ ap (λ op. op_order shape acc op elem from (map (source_expr layout half) args) to) (sym op_is)

    pub with_two : (op op' : TreeOp) (a b : SourceExpr) (order : VectorOrder) → op ≡ op' → length args ≡ arity_of op → arity_of op' ≡ 2
        → a ≡ source_expr layout half (get_or read 0 no_operand) → b ≡ source_expr layout half (get_or read 1 no_operand)
        → order ≡ op_order shape acc op' elem from (a ∷ b ∷ []) to → order ≡ op_order shape acc op elem from (map (source_expr layout half) args) to
    with_two op op' a b order op_is count two a_is b_is is =
        let sources : map (source_expr layout half) args ≡ a ∷ b ∷ [] = two_sources args (count ∙ ap arity_of op_is ∙ two) ∙ ap (λ s. s ∷ read_by (get_or args 1 no_operand) ∷ []) (source_there a 0 a_is) ∙ ap (λ s. a ∷ s ∷ []) (source_there b 1 b_is) in
        is ∙ ap (λ sources. op_order shape acc op' elem from sources to) (sym sources) ∙ ap (λ op. op_order shape acc op elem from (map (source_expr layout half) args) to) (sym op_is)

    pub with_select : (op : TreeOp) (condition a : SourceExpr) (order : VectorOrder) → op ≡ tree_op.Select → length args ≡ arity_of op
        → condition ≡ source_expr layout half (get_or read 0 no_operand) → a ≡ source_expr layout half (get_or read 1 no_operand)
        → order ≡ order_with shape (conditional_kind elem (is_scalar a)) to a condition → order ≡ op_order shape acc op elem from (map (source_expr layout half) args) to
    with_select op condition a order op_is count c_is a_is is =
        let y = read_by (get_or args 2 no_operand) in
        let sources : map (source_expr layout half) args ≡ condition ∷ a ∷ y ∷ [] = three_sources args (count ∙ ap arity_of op_is) ∙ ap (λ s. s ∷ read_by (get_or args 1 no_operand) ∷ y ∷ []) (source_there condition 0 c_is) ∙ ap (λ s. condition ∷ s ∷ y ∷ []) (source_there a 1 a_is) in
        is ∙ ap (λ sources. op_order shape acc tree_op.Select elem from sources to) (sym sources) ∙ ap (λ op. op_order shape acc op elem from (map (source_expr layout half) args) to) (sym op_is)
