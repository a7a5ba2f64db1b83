-- Halving keeps each row's best value.
use Rattle.std.proofs.Common.{◌⊎◌, ◌≡◌, ℕ, ◌+◌, ◌-◌, ◌*◌, ◌<◌, ◌≤◌, inl, inr, ap, sym, ◌∙◌, subst, refl, arith, List, Bool, true, false, ℤ, not, ◌&&◌}
use Rattle.std.specs.Prelude.{if◌then◌else◌, int_lt, ◌≤ℤ◌}
use Rattle.std.specs.Int.{int_min, int_max}
use Rattle.std.proofs.lemmas.Int.{ints, clamps}
use Rattle.std.proofs.lemmas.Bool.{cases_lt}
use Rattle.ven_base.specs.declared.elem.Elem.{Elem}
use Rattle.ven_base.specs.Elem.{size_of, IsElement}
use Rattle.ven_base.specs.Operation.{applied2}
use Rattle.ven_base.specs.Cell.{Cell}
use Rattle.ven_base.proofs.Wrapped.{wrapped_in, IsElement-wrapped}
use Rattle.ven_base.proofs.Operations.{IsElement-min, IsElement-max}
use Rattle.venice_isa.specs.declared.work.VecWork.{VecWork}
use Rattle.venice_isa.specs.declared.op.VecOp.TheVariants as vec_op
use Rattle.venice_isa.specs.Cell.{cell_at, flag_of}
use Rattle.venice_isa.specs.Mode.{is_conditional}
use Rattle.venice_isa.specs.Answer.{result_of}
use Rattle.venice_isa.specs.Region.{place_in, IsAt}
use Rattle.venice_isa.specs.Element.{number_at}
use Rattle.venice_isa.specs.Footprint.{destination, source_b}
use Rattle.venice_isa.specs.Whole.{IsWhole, result_at, is_left_alone}
use Rattle.venice_isa.proofs.Results.{result_is as op_result}
use Rattle.vector_codegen.specs.Kind.{two_kind, vec_of}
use Rattle.vector_codegen.specs.Work.{Shape}
use Rattle.vector_codegen.specs.Root.{better_of, halving_work}
use Rattle.vector_codegen.proofs.Good.{IsIn, IsGood}
use Rattle.vector_codegen.proofs.Held.{count_of, element_place}
use Rattle.vector_codegen.proofs.Elements.{number_there, number_written, number_kept}
use Rattle.vector_codegen.proofs.Blocks.{block_of, block_place, block_apart, block_bounds, in_room}

-- the first is as good as the second: no greater, or no less
abbrev pub IsAsGood : (least : Bool) → ℤ → ℤ → Type 0
IsAsGood true x y = x ≤ℤ y
IsAsGood false x y = y ≤ℤ x

-- the least or the greatest of so many values: one of them, and as good as each
pub record IsBest (least : Bool) (count : ℕ) (value : ℕ → ℤ) (x : ℤ) : Type 0 where
  pub one : (j : ℕ) × (j < count) × (value j ≡ x)
  pub best : (j : ℕ) → j < count → IsAsGood least x (value j)

-- ---- the better of two elements

either : {A : Type 0} (c : Bool) (x y : A) → ((if c then x else y) ≡ x) ⊎ ((if c then x else y) ≡ y)
either true x y = inl refl
either false x y = inr refl

module _ (elem : Elem) (x y : ℤ) (x_in : IsElement elem x) (y_in : IsElement elem y) where
  pub better : (least : Bool) → (applied2 (better_of least) elem x y ≡ x) ⊎ (applied2 (better_of least) elem x y ≡ y)
  better true =
      let exact = wrapped_in elem (int_min x y) (IsElement-min elem x y x_in y_in) in
      elim (either (int_lt y x) y x) [ inl is ↦ inr (exact ∙ is) | inr is ↦ inl (exact ∙ is) ]
  better false =
      let exact = wrapped_in elem (int_max x y) (IsElement-max elem x y x_in y_in) in
      elim (either (int_lt y x) x y) [ inl is ↦ inl (exact ∙ is) | inr is ↦ inr (exact ∙ is) ]

  pub as_good : (least : Bool) → IsAsGood least (applied2 (better_of least) elem x y) x × IsAsGood least (applied2 (better_of least) elem x y) y
  as_good true = let exact = wrapped_in elem (int_min x y) (IsElement-min elem x y x_in y_in) in rw exact ((omega (arith, ints, clamps)), omega (arith, ints, clamps))
  as_good false = let exact = wrapped_in elem (int_max x y) (IsElement-max elem x y x_in y_in) in rw exact ((omega (arith, ints, clamps)), omega (arith, ints, clamps))

good_trans : (least : Bool) (x y z : ℤ) → IsAsGood least x y → IsAsGood least y z → IsAsGood least x z
good_trans true x y z a b = omega (arith, ints, a, b)
good_trans false x y z a b = omega (arith, ints, a, b)

-- where so many values are halved, what is best of the rest is best of all
module _ (least : Bool) (elem : Elem) (low high : ℕ) (less : low ≤ high) (value rest : ℕ → ℤ) (in_type : (j : ℕ) → IsElement elem (value j))
    (met : (j : ℕ) → j < low → rest j ≡ applied2 (better_of least) elem (value j) (value (high + j))) (same : (j : ℕ) → low ≤ j → j < high → rest j ≡ value j) where
  pub best_before : (x : ℤ) → IsBest least high rest x → IsBest least (low + high) value x
  best_before x is = record {
    one =
        let j = is.one.0 in
        elim (cases_lt j low) [
          | inl first ↦ elim (better elem (value j) (value (high + j)) (in_type j) (in_type (high + j)) least) [
            | inl left ↦ (j, omega (arith, first, less), sym (met j first ∙ left) ∙ is.one.2)
            | inr right ↦ (high + j, omega (arith, first), sym (met j first ∙ right) ∙ is.one.2)
          ]
          | inr second ↦ (j, omega (arith, is.one.1), sym (same j second is.one.1) ∙ is.one.2)
        ];
    best = λ j below. elim (cases_lt j low) [
      | inl first ↦ good_trans least x (rest j) (value j) (is.best j (omega (arith, first, less))) (subst (λ v. IsAsGood least v (value j)) (sym (met j first)) (as_good elem (value j) (value (high + j)) (in_type j) (in_type (high + j)) least).0)
      | inr not_first ↦ elim (cases_lt j high) [
        | inl second ↦ subst (IsAsGood least x) (same j not_first second) (is.best j second)
        | inr third ↦
            let i = j - high in
            let first : i < low = omega (arith, below, third) in
            let there : high + i ≡ j = omega (arith, third) in
            subst (λ j. IsAsGood least x (value j)) there
            (good_trans least x (rest i) (value (high + i)) (is.best i (omega (arith, first, less))) (subst (λ v. IsAsGood least v (value (high + i))) (sym (met i first)) (as_good elem (value i) (value (high + i)) (in_type i) (in_type (high + i)) least).1))
      ]
    ];
  }

-- ---- the work of a halving

-- the number in row r and column j of a buffer
abbrev pub entry : Shape → Elem → ℕ → List Cell → ℕ → ℕ → ℤ
entry shape elem k cells r j = number_at elem cells (element_place shape elem k (r * shape.cols + j))

pub entry_in_type : (shape : Shape) (elem : Elem) (k : ℕ) (cells : List Cell) (r j : ℕ) → IsElement elem (entry shape elem k cells r j)
entry_in_type shape elem k cells r j = IsElement-wrapped elem _

pub op_plain : (least : Bool) (elem : Elem) (x y : ℤ) → result_of (two_kind (better_of least) elem false false false) x y ≡ applied2 (better_of least) elem x y
op_plain true elem x y = op_result (two_kind (better_of true) elem false false false) x y vec_op.Min refl
op_plain false elem x y = op_result (two_kind (better_of false) elem false false false) x y vec_op.Max refl

pub op_moves : (least : Bool) (work : VecWork) (cells : List Cell) (r j : ℕ) → work.kind.op ≡ vec_of (better_of least) → is_left_alone work cells r j ≡ false
unfolding is_left_alone
op_moves true work cells r j is = ap (λ op. is_conditional op && not (flag_of (cell_at cells (place_in (source_b work) r j)))) is
op_moves false work cells r j is = ap (λ op. is_conditional op && not (flag_of (cell_at cells (place_in (source_b work) r j)))) is

module _ (shape : Shape) (least : Bool) (elem : Elem) (k low high : ℕ) (some_rows : 0 < shape.rows) (some_low : 0 < low) (less : low ≤ high) (inside : low + high ≤ shape.cols) (fits : count_of shape * size_of elem ≤ shape.room) where
  -- the elements that are written are those of the rows' first columns
  in_block : (p r j : ℕ) → IsAt (destination (halving_work shape least elem k low high)) r j p → IsAt (block_of shape elem k) r j p
  in_block p r j at = record { row = at.row; column = omega (arith, at.column); from = at.from; below = at.below }

  right_place : (r j : ℕ) → place_in (source_b (halving_work shape least elem k low high)) r j ≡ place_in (block_of shape elem k) r (high + j)
  right_place r j = omega arith

  right_in_block : (p r j : ℕ) → IsAt (source_b (halving_work shape least elem k low high)) r j p → IsAt (block_of shape elem k) r (high + j) p
  right_in_block p r j at = let place = right_place r j in record { row = at.row; column = omega (arith, at.column); from = omega (arith, at.from, place); below = omega (arith, at.below, place) }

  pub halving_good : (Allowed : ℕ → Type 0) → Allowed k → IsGood Allowed shape.room (halving_work shape least elem k low high)
  halving_good Allowed one = record {
    simple = record {
      counts = record { elements = some_low; rows = some_rows };
      elements_apart = λ p r j r' j' at at'. block_apart shape elem k p r j r' j' (in_block p r j at) (in_block p r' j' at');
      a_in_place_or_apart = λ vector. inl (record { size = refl; rows = refl; columns = refl; places = λ r j row column. refl });
      b_in_place_or_apart = λ used vector. inr (λ p read written.
          let apart = block_apart shape elem k p read.0 (high + read.1) written.0 written.1 (right_in_block p read.0 read.1 read.2) (in_block p written.0 written.1 written.2) in
          omega (arith, apart.1, written.2.column, less));
    };
    reads = λ p read. elim read [
      | inl a_read ↦ (k, one, in_room shape.room k _ p fits (block_bounds shape elem k p (a_read.1.0, a_read.1.1, in_block p a_read.1.0 a_read.1.1 a_read.1.2)))
      | inr more ↦ elim more [
        | inl b_read ↦ (k, one, in_room shape.room k _ p fits (block_bounds shape elem k p (b_read.2.0, high + b_read.2.1, right_in_block p b_read.2.0 b_read.2.1 b_read.2.2)))
        | inr old ↦ (k, one, in_room shape.room k _ p fits (block_bounds shape elem k p (old.1.0, old.1.1, in_block p old.1.0 old.1.1 old.1.2)))
      ]
    ];
    writes = λ p written. (k, one, in_room shape.room k _ p fits (block_bounds shape elem k p (written.0, written.1, in_block p written.0 written.1 written.2)));
  }

  module _ (cells after : List Cell) (whole : IsWhole (halving_work shape least elem k low high) cells after) where
    pub halving_keeps : (p : ℕ) → ¬ IsIn (k * shape.room) shape.room p → cell_at after p ≡ cell_at cells p
    halving_keeps p outside = whole.kept p (λ written. outside (in_room shape.room k _ p fits (block_bounds shape elem k p (written.0, written.1, in_block p written.0 written.1 written.2))))

    met_at : (r j : ℕ) → r < shape.rows → j < low → entry shape elem k after r j ≡ applied2 (better_of least) elem (entry shape elem k cells r j) (entry shape elem k cells r (high + j))
    unfolding result_at
    met_at r j row column =
        let work = halving_work shape least elem k low high in
        ap (number_at elem after) (sym (block_place shape elem k r j))
        ∙ number_there elem after _ _ (number_written work cells after whole refl r j row column (op_moves least work cells r j refl))
        ∙ op_plain least elem _ _
        ∙ ap (λ p. applied2 (better_of least) elem (number_at elem cells p) (number_at elem cells (place_in (source_b work) r j))) (block_place shape elem k r j)
        ∙ ap (λ p. applied2 (better_of least) elem (entry shape elem k cells r j) (number_at elem cells p)) (right_place r j ∙ block_place shape elem k r (high + j))

    same_at : (r j : ℕ) → r < shape.rows → low ≤ j → j < high → entry shape elem k after r j ≡ entry shape elem k cells r j
    same_at r j row behind column =
        number_kept (halving_work shape least elem k low high) cells after whole elem (element_place shape elem k (r * shape.cols + j))
        (λ p from ends written.
        let place = block_place shape elem k r j in
        let here : IsAt (block_of shape elem k) r j p = record { row = row; column = omega arith; from = omega (arith, place); below = omega (arith, place) } in
        let apart = block_apart shape elem k p r j written.0 written.1 here (in_block p written.0 written.1 written.2) in
        omega (arith, apart.1, written.2.column))

    pub halved : (r : ℕ) (x : ℤ) → r < shape.rows → IsBest least high (entry shape elem k after r) x → IsBest least (low + high) (entry shape elem k cells r) x
    halved r x row is = best_before least elem low high less (entry shape elem k cells r) (entry shape elem k after r) (entry_in_type shape elem k cells r) (λ j column. met_at r j row column) (λ j behind column. same_at r j row behind column) x is
