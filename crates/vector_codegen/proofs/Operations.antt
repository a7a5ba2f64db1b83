-- What the instruction of each operation leaves in its buffer.
use Rattle.std.proofs.Common.{◌≡◌, ℕ, ◌*◌, inl, inr, ap, sym, ◌∙◌, subst, refl, List, [], ◌∷◌, Bool, true, false, ℤ, pos, negsuc, ◌&&◌}
use Rattle.std.specs.Prelude.{if◌then◌else◌}
use Rattle.std.proofs.lemmas.Bool.{cases_Bool, cond-false, cond-true, false≢true}
use Rattle.ven_base.specs.declared.elem.Elem.{Elem}
use Rattle.ven_base.specs.declared.ops.Op1.{Op1}
use Rattle.ven_base.specs.declared.ops.Op1.TheVariants as op1
use Rattle.ven_base.specs.declared.ops.Op2.{Op2}
use Rattle.ven_base.specs.declared.ops.Op2.TheVariants as op2
use Rattle.ven_base.specs.Elem.{size_of}
use Rattle.ven_base.specs.Wrap.{wrapped}
use Rattle.ven_base.specs.Cell.{Cell}
use Rattle.venice_isa.specs.declared.work.VecWork.{VecWork}
use Rattle.venice_isa.specs.declared.kind.VecKind.{VecKind}
use Rattle.venice_isa.specs.declared.op.VecOp.TheVariants as vec_op
use Rattle.venice_isa.specs.Cell.{cell_at}
use Rattle.venice_isa.specs.Mode.{is_conditional, is_comparison}
use Rattle.venice_isa.specs.Answer.{result_of, answer_of}
use Rattle.venice_isa.specs.Whole.{is_one, IsWhole}
use Rattle.venice_isa.proofs.Results.{result_is as op_result}
use Rattle.pass_plan.specs.declared.tree.TreeOp.TheVariants as tree_op
use Rattle.pass_plan.specs.Tree.{One, Two, Move, Select, Cast, elem_of}
use Rattle.pass_plan.specs.Normal.{compares, is_comparison as is_compared}
use Rattle.buffer_lifetimes.specs.Step.{Tree}
use Rattle.vector_codegen.specs.Kind.{two_kind, move_kind, abs_kind, cast_kind, conditional_kind, vec_of, is_turned}
use Rattle.vector_codegen.specs.Work.{Shape, Source, Buffer, Scalar, is_scalar, work_of, nothing, two_work, op_work}
use Rattle.vector_codegen.proofs.Good.{IsIn, IsGood}
use Rattle.vector_codegen.proofs.Held.{Holds, IsFlagged, HoldsTree, values_of}
use Rattle.vector_codegen.proofs.Elements.{spells_as}
use Rattle.vector_codegen.proofs.Works.{IsSource, AreSources, IsPlaced, good, keeps, gives, gives_flags, chooses}
use Rattle.vector_codegen.proofs.Answers.{two_plain, two_compares, two_answer, turned_answer, chosen_compared, neg_answer, invert_answer}

-- the work leaves the tree's values in its buffer, and keeps all else
pub record GivesTree (shape : Shape) (Allowed : ℕ → Type 0) (leaf : ℕ → ℕ → ℤ) (before : List Cell) (work : VecWork) (to : ℕ) (t : Tree) : Type 0 where
  pub good : IsGood Allowed shape.room work
  pub holds : (after : List Cell) → IsWhole work before after → HoldsTree shape leaf after to t
  pub keeps : (after : List Cell) → IsWhole work before after → (p : ℕ) → ¬ IsIn (to * shape.room) shape.room p → cell_at after p ≡ cell_at before p

-- what a work does with an operation, said of any kind of outcome that follows from its results: with accumulate or without
module _ (shape : Shape) (Allowed : ℕ → Type 0) (leaf : ℕ → ℕ → ℤ) (before : List Cell) (to : ℕ) (acc : Bool) (May : Source → Type 0) (may_scalar : (n : ℤ) → May (Scalar n)) (Outcome : VecWork → Tree → Type 0)
    (plain : (kind : VecKind) (a b : Source) (value_a value_b : ℕ → ℤ) (t : Tree) → IsPlaced shape Allowed kind.elem to → AreSources shape Allowed before kind to a b value_a value_b
    → kind.acc ≡ acc → is_conditional kind.op ≡ false → kind.elem ≡ elem_of t → May a → May b
    → ((i : ℕ) → result_of kind (value_a i) (value_b i) ≡ values_of leaf t i) → (is_compared t ≡ true → is_comparison kind.op ≡ true)
    → Outcome (work_of shape kind to a b) t) where
  module _ (elem : Elem) (placed : IsPlaced shape Allowed elem to) where
    module _ (x : Tree) (a : Source) (a_is : IsSource a shape Allowed before elem (values_of leaf x)) (may_a : May a) where
      -- a scalar less the operand
      less : (n : ℤ) (t : Tree) → elem ≡ elem_of t → is_compared t ≡ false → ((i : ℕ) → answer_of vec_op.Sub elem (wrapped elem n) (values_of leaf x i) ≡ values_of leaf t i) → Outcome (two_work shape acc op2.Sub elem to (Scalar n) a) t
      less n t one_elem no_flags answers =
          plain (two_kind op2.Sub elem true (is_scalar a) acc) (Scalar n) a (λ i. wrapped elem n) (values_of leaf x) t placed
          (record { a_scalar = refl; b_scalar = λ used. refl; a_is = λ i. refl; b_is = λ used. a_is; share = λ same. refl })
          refl refl one_elem (may_scalar n) may_a (λ i. op_result (two_kind op2.Sub elem true (is_scalar a) acc) _ _ vec_op.Sub refl ∙ answers i) (λ is. absurd (false≢true (sym no_flags ∙ is)))

      pub gives_one : (op : Op1) → Outcome (op_work shape acc (tree_op.One op) elem elem (a ∷ []) to) (One op elem x)
      gives_one op1.Neg = less (pos 0) (One op1.Neg elem x) refl refl (λ i. neg_answer elem (values_of leaf x i))
      gives_one op1.Not = less (negsuc 0) (One op1.Not elem x) refl refl (λ i. invert_answer elem (values_of leaf x i))
      gives_one op1.Abs =
          plain (abs_kind elem (is_scalar a) acc) a nothing (values_of leaf x) (λ i. pos 0) (One op1.Abs elem x) placed
          (record { a_scalar = refl; b_scalar = λ used. absurd (false≢true used); a_is = a_is; b_is = λ used. absurd (false≢true used); share = λ same. refl })
          refl refl refl may_a (may_scalar (pos 0)) (λ i. op_result (abs_kind elem (is_scalar a) acc) _ _ vec_op.Abs refl) (λ is. absurd (false≢true is))

      pub gives_move : Outcome (op_work shape acc tree_op.Move elem elem (a ∷ []) to) (Move elem x)
      gives_move =
          plain (move_kind elem (is_scalar a) acc) a nothing (values_of leaf x) (λ i. pos 0) (Move elem x) placed
          (record { a_scalar = refl; b_scalar = λ used. absurd (false≢true used); a_is = a_is; b_is = λ used. absurd (false≢true used); share = λ same. refl })
          refl refl refl may_a (may_scalar (pos 0)) (λ i. op_result (move_kind elem (is_scalar a) acc) _ _ vec_op.Mov refl) (λ is. absurd (false≢true is))

      module _ (y : Tree) (b : Source) (b_is : IsSource b shape Allowed before elem (values_of leaf y)) (may_b : May b) where
        -- an operation on two, its operands as they stand or turned
        pub gives_two : (op : Op2) → Outcome (op_work shape acc (tree_op.Two op) elem elem (a ∷ b ∷ []) to) (Two op elem x y)
        gives_two op =
            elim (cases_Bool (is_turned op)) [
              | inl turned ↦ subst (λ work. Outcome work (Two op elem x y)) (sym (cond-true (is_turned op) _ _ turned))
                  (plain (two_kind op elem (is_scalar b) (is_scalar a) acc) b a (values_of leaf y) (values_of leaf x) (Two op elem x y) placed
                  (record { a_scalar = refl; b_scalar = λ used. refl; a_is = b_is; b_is = λ used. a_is; share = λ same. refl })
                  refl (two_plain op) refl may_b may_a (λ i. op_result (two_kind op elem (is_scalar b) (is_scalar a) acc) _ _ (vec_of op) refl ∙ turned_answer op elem _ _ turned) (two_compares op))
              | inr straight ↦ subst (λ work. Outcome work (Two op elem x y)) (sym (cond-false (is_turned op) _ _ straight))
                  (plain (two_kind op elem (is_scalar a) (is_scalar b) acc) a b (values_of leaf x) (values_of leaf y) (Two op elem x y) placed
                  (record { a_scalar = refl; b_scalar = λ used. refl; a_is = a_is; b_is = λ used. b_is; share = λ same. refl })
                  refl (two_plain op) refl may_a may_b (λ i. op_result (two_kind op elem (is_scalar a) (is_scalar b) acc) _ _ (vec_of op) refl ∙ two_answer op elem _ _ straight) (two_compares op))
            ]

    -- a cast, which works in place only where the sizes are the same
    pub gives_cast : (from : Elem) (x : Tree) (a : Source) → IsSource a shape Allowed before from (values_of leaf x) → (a ≡ Buffer to → size_of from ≡ size_of elem) → May a → Outcome (op_work shape acc tree_op.Cast elem from (a ∷ []) to) (Cast elem from x)
    gives_cast from x a a_is share may_a =
        plain (cast_kind elem from (is_scalar a) acc) a nothing (values_of leaf x) (λ i. pos 0) (Cast elem from x) placed
        (record { a_scalar = refl; b_scalar = λ used. absurd (false≢true used); a_is = a_is; b_is = λ used. absurd (false≢true used); share = share })
        refl refl refl may_a (may_scalar (pos 0)) (λ i. op_result (cast_kind elem from (is_scalar a) acc) _ _ vec_op.Cast refl) (λ is. absurd (false≢true is))

module _ (shape : Shape) (Allowed : ℕ → Type 0) (leaf : ℕ → ℕ → ℤ) (before : List Cell) (to : ℕ) where
  -- an instruction that answers the tree's value at each element
  pub plain_tree : (kind : VecKind) (a b : Source) (value_a value_b : ℕ → ℤ) (t : Tree) → IsPlaced shape Allowed kind.elem to → AreSources shape Allowed before kind to a b value_a value_b
      → kind.acc ≡ false → is_conditional kind.op ≡ false → kind.elem ≡ elem_of t
      → ((i : ℕ) → result_of kind (value_a i) (value_b i) ≡ values_of leaf t i) → (is_compared t ≡ true → is_comparison kind.op ≡ true)
      → GivesTree shape Allowed leaf before (work_of shape kind to a b) to t
  plain_tree kind a b value_a value_b t placed sources no_sum unconditional one_elem answers compare = record {
    good = good shape Allowed before kind to a b value_a value_b placed sources no_sum;
    holds = λ after whole.
        let given = gives shape Allowed before kind to a b value_a value_b placed sources no_sum after whole unconditional in
        let flags = gives_flags shape Allowed before kind to a b value_a value_b placed sources no_sum after whole unconditional in
        record {
          numbers = subst (λ elem. Holds shape elem after to (values_of leaf t)) one_elem (record { each = λ i below. spells_as kind.elem after _ _ _ _ (given.each i below) refl (answers i) });
          flags = λ is. subst (λ elem. IsFlagged shape elem after to (values_of leaf t)) one_elem (record { each = λ i below. flags i below ∙ ap (λ c. c && is_one (result_of kind (value_a i) (value_b i))) (compare is) ∙ ap is_one (answers i) });
        };
    keeps = keeps shape Allowed before kind to a b value_a value_b placed sources no_sum;
  }

  module _ (elem : Elem) (placed : IsPlaced shape Allowed elem to) where
    -- a choice: its third operand stands in its buffer, and its condition's buffer has flags
    pub gives_select : (op : Op2) (l r x y : Tree) (c : ℕ) (a : Source) → compares op ≡ true → Allowed c → HoldsTree shape leaf before c (Two op elem l r) → IsSource a shape Allowed before elem (values_of leaf x) → Holds shape elem before to (values_of leaf y)
        → GivesTree shape Allowed leaf before (op_work shape false tree_op.Select elem elem (Buffer c ∷ a ∷ Buffer to ∷ []) to) to (Select elem (Two op elem l r) x y)
    gives_select op l r x y c a compare one condition a_is third =
        let kind = conditional_kind elem (is_scalar a) in
        let value_c = values_of leaf (Two op elem l r) in
        let b_is : IsSource (Buffer c) shape Allowed before elem value_c = (one, placed.fits, condition.numbers) in
        let sources : AreSources shape Allowed before kind to a (Buffer c) (values_of leaf x) value_c = record { a_scalar = refl; b_scalar = λ used. refl; a_is = a_is; b_is = λ used. b_is; share = λ same. refl } in
        record {
          good = good shape Allowed before kind to a (Buffer c) (values_of leaf x) value_c placed sources refl;
          holds = λ after whole.
              let given = chooses shape Allowed before kind to a (Buffer c) (values_of leaf x) value_c placed sources refl after whole refl c refl value_c (values_of leaf y) (condition.flags compare) third in
              record {
                numbers = record { each = λ i below. spells_as elem after _ _ _ _ (given.each i below) refl (ap (λ v. if is_one (value_c i) then v else values_of leaf y i) (op_result kind (values_of leaf x i) (value_c i) vec_op.Cmov refl) ∙ sym (chosen_compared op elem _ _ (values_of leaf x i) (values_of leaf y i) compare)) };
                flags = λ is. absurd (false≢true is);
              };
          keeps = keeps shape Allowed before kind to a (Buffer c) (values_of leaf x) value_c placed sources refl;
        }
