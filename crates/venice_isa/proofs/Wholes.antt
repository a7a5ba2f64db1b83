-- What a vector instruction's effect depends on, and that it is determined.
use Rattle.std.proofs.Common.{◌⊎◌, ◌≡◌, ℕ, zero, suc, ◌+◌, ◌-◌, ◌<◌, ◌≤◌, inl, inr, ap, sym, ◌∙◌, subst, refl, arith, List, length, get_or, drop, min, Bool, true, false, cond, ℤ, ◌+ℤ◌, not, ◌&&◌, map, lit<, Some}
use Rattle.std.specs.Prelude.{slice_get, unwrap_or}
use Rattle.std.proofs.lemmas.Bool.{cases_lt, cases_Bool, true≢false, false≢true, and_parts, cond-false}
use Rattle.std.proofs.lemmas.List.{ext_get_or, length-take, length-drop, get_or-take, get_or-drop}
use Rattle.std.proofs.lemmas.Option.{slice_get-get_or, slice_get_past, slice_get_within, unwrap_or-slice_get}
use Rattle.ven_base.specs.declared.elem.Elem.{Elem}
use Rattle.ven_base.specs.declared.elem.Elem.TheVariants.{U8, I8, U16, I16, U32, I32}
use Rattle.ven_base.specs.Elem.{size_of}
use Rattle.venice_isa.specs.declared.work.VecWork.{VecWork}
use Rattle.venice_isa.specs.declared.kind.VecKind.{VecKind}
use Rattle.venice_isa.specs.declared.op.VecOp.{VecOp}
use Rattle.venice_isa.specs.declared.op.VecOp.TheVariants.{Mov, Cast, Abs, Cmov}
use Rattle.venice_isa.specs.declared.issue.Issue.TheVariants.{Vector}
use Rattle.venice_isa.specs.Mode.{uses_b, is_conditional, allows_mode}
use Rattle.ven_base.specs.Cell.{Cell}
use Rattle.ven_base.specs.Store.{in_cells}
use Rattle.venice_isa.specs.Cell.{cell_at, part, byte_of, flag_of}
use Rattle.venice_isa.specs.declared.region.Region.{Region}
use Rattle.venice_isa.specs.Region.{place_in, IsAt}
use Rattle.venice_isa.specs.Element.{number_at, number_of, spelled}
use Rattle.venice_isa.specs.Answer.{answer_of, result_of}
use Rattle.venice_isa.specs.Footprint.{source_a, source_b, destination, written_in_row, Reads, Writes}
use Rattle.venice_isa.specs.Whole.{number_of_a, number_of_b, result_at, is_left_alone, new_element, sum_of_results, spelled_sum, flag_for, after_work, IsWhole}
use Rattle.venice_isa.proofs.Regions.{covered_or_not}

-- ---- parts of lists

pub part_length : {A : Type 0} (xs : List A) (place count : ℕ) → length (part xs place count) ≡ min count (length xs - place)
part_length xs place count = simp (length-take, length-drop)

pub part_at : {A : Type 0} (d : A) (xs : List A) (place count k : ℕ) → k < count → get_or (part xs place count) k d ≡ get_or xs (place + k) d
part_at d xs place count k below = get_or-take count (drop place xs) k d below ∙ get_or-drop place xs k d

-- lists of one length have the same at a place, where they have the same there at a default
pub same_slot : {A : Type 0} (d : A) (xs ys : List A) (p : ℕ) → length ys ≡ length xs → get_or ys p d ≡ get_or xs p d → slice_get ys p ≡ slice_get xs p
same_slot d xs ys p long same =
    elim (cases_lt p (length xs)) [
      | inl below ↦ slice_get-get_or ys p d (omega (arith, long)) ∙ ap (λ x. Some x) same ∙ sym (slice_get-get_or xs p d below)
      | inr past ↦ slice_get_past ys p (omega (arith, long)) ∙ sym (slice_get_past xs p past)
    ]

pub same_item : {A : Type 0} (d : A) (xs ys : List A) (p : ℕ) → slice_get ys p ≡ slice_get xs p → get_or ys p d ≡ get_or xs p d
same_item d xs ys p same = sym (unwrap_or-slice_get ys p d) ∙ ap (λ slot. unwrap_or slot d) same ∙ unwrap_or-slice_get xs p d

-- where two lists have the same at a place, both reach it or neither does
reaches : {A : Type 0} (d : A) (xs ys : List A) (p : ℕ) → slice_get ys p ≡ slice_get xs p → p < length xs → p < length ys
reaches d xs ys p same below = slice_get_within ys p (get_or xs p d) (same ∙ slice_get-get_or xs p d below)

-- so their parts are as long
same_reach : (place count m n : ℕ) → ((p : ℕ) → place ≤ p → p < place + count → p < m → p < n) → ((p : ℕ) → place ≤ p → p < place + count → p < n → p < m) → min count (n - place) ≡ min count (m - place)
same_reach place zero m n there back = omega arith
same_reach place (suc count) m n there back =
    elim (cases_lt place m) [
      | inl some ↦
          let some' : place < n = there place (omega arith) (omega arith) some in
          elim (cases_lt m n) [
            | inl less ↦ elim (cases_lt m (place + suc count)) [
              | inl within ↦ let wrong : m < m = back m (omega arith) within less in omega arith
              | inr past ↦ omega arith
            ]
            | inr more ↦ elim (cases_lt n (place + suc count)) [
              | inl within ↦ elim (cases_lt n m) [
                | inl less ↦ let wrong : n < n = there n (omega arith) within less in omega arith
                | inr same ↦ omega arith
              ]
              | inr past ↦ omega arith
            ]
          ]
      | inr none ↦ elim (cases_lt place n) [
        | inl some' ↦ let some : place < m = back place (omega arith) (omega arith) some' in omega arith
        | inr none' ↦ omega arith
      ]
    ]

-- two lists have one part where they have the same at each of its places
pub part_of_slots : {A : Type 0} (d : A) (xs ys : List A) (place count : ℕ) → ((p : ℕ) → place ≤ p → p < place + count → slice_get ys p ≡ slice_get xs p) → part ys place count ≡ part xs place count
part_of_slots d xs ys place count same =
    let reached : (p : ℕ) → place ≤ p → p < place + count → p < length xs → p < length ys = λ p from below. reaches d xs ys p (same p from below) in
    let reached' : (p : ℕ) → place ≤ p → p < place + count → p < length ys → p < length xs = λ p from below. reaches d ys xs p (sym (same p from below)) in
    let one_length : length (part ys place count) ≡ length (part xs place count) = part_length ys place count ∙ same_reach place count (length xs) (length ys) reached reached' ∙ sym (part_length xs place count) in
    ext_get_or d (part ys place count) (part xs place count) one_length
    (λ k below. let in_part : k < count = omega (arith, part_length ys place count, below) in
    part_at d ys place count k in_part ∙ same_item d xs ys (place + k) (same (place + k) (omega arith) (omega arith)) ∙ sym (part_at d xs place count k in_part))

-- two lists of one length have one part where they agree there
pub same_part : {A : Type 0} (d : A) (xs ys : List A) (place count : ℕ) → length ys ≡ length xs → ((p : ℕ) → place ≤ p → p < place + count → get_or ys p d ≡ get_or xs p d) → part ys place count ≡ part xs place count
same_part d xs ys place count long same = part_of_slots d xs ys place count (λ p from below. same_slot d xs ys p long (same p from below))

-- and so they have one number there
same_number : (elem : Elem) (before before' : List Cell) (place : ℕ) → ((p : ℕ) → place ≤ p → p < place + size_of elem → slice_get before' p ≡ slice_get before p) → number_at elem before' place ≡ number_at elem before place
same_number elem before before' place same =
    ap (λ cells. number_of elem (map byte_of cells)) (part_of_slots (0, false) before before' place (size_of elem) same)

-- ---- what the operations look at

-- an operation that takes A alone answers the same whatever B is
answer_without_b : (op : VecOp) (elem : Elem) (a b b' : ℤ) → uses_b op ≡ false → answer_of op elem a b' ≡ answer_of op elem a b
answer_without_b Mov elem a b b' none = refl
answer_without_b Cast elem a b b' none = refl
answer_without_b Abs elem a b b' none = refl
answer_without_b _ elem a b b' none = absurd (true≢false none)

pub result_without_b : (kind : VecKind) (a b b' : ℤ) → uses_b kind.op ≡ false → result_of kind a b' ≡ result_of kind a b
unfolding result_of
result_without_b kind a b b' none = answer_without_b kind.op kind.elem a b b' none

-- a choice is the same where what is chosen is
same_choice : {A : Type 0} (b : Bool) (x x' y y' : A) → (b ≡ true → x' ≡ x) → (b ≡ false → y' ≡ y) → cond b x' y' ≡ cond b x y
same_choice true x x' y y' on_true on_false = on_true refl
same_choice false x x' y y' on_true on_false = on_false refl

-- an element has a byte
pub size_positive : (elem : Elem) → 0 < size_of elem
size_positive U8 = lit< tt
size_positive I8 = lit< tt
size_positive U16 = lit< tt
size_positive I16 = lit< tt
size_positive U32 = lit< tt
size_positive I32 = lit< tt

-- the first byte of an element is one of the element's
first_byte : (region : Region) (r j : ℕ) → r < region.rows → j < region.columns → 0 < region.size → IsAt region r j (place_in region r j)
first_byte region r j row column positive = record { row = row; column = column; from = omega arith; below = omega arith }

-- only a conditional move looks at a flag, and its B is no scalar
no_flag_without_b : (op : VecOp) → uses_b op ≡ false → (flag flag' : Bool) → (is_conditional op && not flag) ≡ (is_conditional op && not flag')
no_flag_without_b Mov unused flag flag' = refl
no_flag_without_b Cast unused flag flag' = refl
no_flag_without_b Abs unused flag flag' = refl
no_flag_without_b _ unused flag flag' = absurd (true≢false unused)

no_scalar_mode : (op : VecOp) (b_scalar acc : Bool) → allows_mode op b_scalar acc ≡ true → b_scalar ≡ true → (flag flag' : Bool) → (is_conditional op && not flag) ≡ (is_conditional op && not flag')
no_scalar_mode Cmov true acc mode scalar flag flag' = absurd (false≢true mode)
no_scalar_mode Cmov false acc mode scalar flag flag' = absurd (false≢true scalar)
no_scalar_mode _ b_scalar acc mode scalar flag flag' = refl

no_flag_of_scalar : (work : VecWork) → work.kind.b_scalar ≡ true → (flag flag' : Bool) → (is_conditional work.kind.op && not flag) ≡ (is_conditional work.kind.op && not flag')
no_flag_of_scalar work scalar = no_scalar_mode work.kind.op work.kind.b_scalar work.kind.acc work.kind.mode_allowed scalar

-- an element that is left alone is a conditional move's
pub conditional_from : (work : VecWork) (cells : List Cell) (r j : ℕ) → is_left_alone work cells r j ≡ true → is_conditional work.kind.op ≡ true
unfolding is_left_alone
conditional_from work cells r j alone = (and_parts _ _ alone).0

-- the cells of a result
element_of : VecWork → List Cell → ℕ → ℕ → List Cell
element_of work cells r j = spelled work.kind.elem (result_at work cells r j) (flag_for work.kind (result_at work cells r j))

-- without a sum each element of a row is written
pub columns_without_sum : (work : VecWork) → work.kind.acc ≡ false → written_in_row work ≡ work.vl
columns_without_sum work no_sum = cond-false work.kind.acc (min 1 work.vl) work.vl no_sum

-- ---- two lists of cells that agree on what is read for an element

-- byte p is read for element j of row r
abbrev pub ReadsFor : VecWork → ℕ → ℕ → ℕ → Type 0
ReadsFor work r j p =
    ((work.kind.a_scalar ≡ false) × IsAt (source_a work) r j p) ⊎ (((uses_b work.kind.op ≡ true) × (work.kind.b_scalar ≡ false) × IsAt (source_b work) r j p) ⊎ ((is_conditional work.kind.op ≡ true) × IsAt (destination work) r j p))

-- what is read for an element is in the read footprint
pub reads_for_is_read : (work : VecWork) (r j p : ℕ) → ReadsFor work r j p → Reads (Vector work) (in_cells p)
reads_for_is_read work r j p read =
    elim read [
      | inl by_a ↦ inl (by_a.0, (r, j, by_a.1))
      | inr rest ↦ elim rest [ inl by_b ↦ inr (inl (by_b.0, by_b.1, (r, j, by_b.2))) | inr old ↦ inr (inr (old.0, (r, j, old.1))) ]
    ]

module _ (work : VecWork) (before before' : List Cell) (r j : ℕ) (row : r < work.rows) (column : j < work.vl) (agree : (p : ℕ) → ReadsFor work r j p → slice_get before' p ≡ slice_get before p) where
  same_a : number_of_a work before' r j ≡ number_of_a work before r j
  same_a =
      same_choice work.kind.a_scalar _ _ _ _ (λ scalar. refl)
      (λ vector. same_number work.kind.from before before' (place_in (source_a work) r j)
      (λ p from below. agree p (inl (vector, record { row = row; column = column; from = from; below = below }))))

  same_b : uses_b work.kind.op ≡ true → number_of_b work before' r j ≡ number_of_b work before r j
  same_b used =
      same_choice work.kind.b_scalar _ _ _ _ (λ scalar. refl)
      (λ vector. same_number work.kind.elem before before' (place_in (source_b work) r j)
      (λ p from below. agree p (inr (inl (used, vector, record { row = row; column = column; from = from; below = below })))))

  pub same_result : result_at work before' r j ≡ result_at work before r j
  unfolding result_at
  same_result =
      elim (cases_Bool (uses_b work.kind.op)) [
        | inl used ↦ ap (λ a. result_of work.kind a (number_of_b work before' r j)) same_a ∙ ap (λ b. result_of work.kind (number_of_a work before r j) b) (same_b used)
        | inr unused ↦ ap (λ a. result_of work.kind a (number_of_b work before' r j)) same_a ∙ result_without_b work.kind (number_of_a work before r j) (number_of_b work before r j) (number_of_b work before' r j) unused
      ]

  same_left_alone : is_left_alone work before' r j ≡ is_left_alone work before r j
  unfolding is_left_alone
  same_left_alone =
      elim (cases_Bool (uses_b work.kind.op)) [
        | inl used ↦ elim (cases_Bool work.kind.b_scalar) [
          | inl scalar ↦ no_flag_of_scalar work scalar (flag_of (cell_at before' (place_in (source_b work) r j))) (flag_of (cell_at before (place_in (source_b work) r j)))
          | inr vector ↦ ap (λ cell. is_conditional work.kind.op && not (flag_of cell)) (same_item (0, false) before before' (place_in (source_b work) r j) (agree (place_in (source_b work) r j) (inr (inl (used, vector, first_byte (source_b work) r j row column (size_positive work.kind.elem))))))
        ]
        | inr unused ↦ no_flag_without_b work.kind.op unused (flag_of (cell_at before' (place_in (source_b work) r j))) (flag_of (cell_at before (place_in (source_b work) r j)))
      ]

  pub same_new_element : work.kind.acc ≡ false → new_element work before' r j ≡ new_element work before r j
  unfolding new_element element_of
  same_new_element no_sum =
      ap (λ alone. cond alone (part before' (place_in (destination work) r j) (size_of work.kind.elem)) (element_of work before' r j)) same_left_alone
      ∙ same_choice (is_left_alone work before r j) _ _ _ _
      (λ alone. part_of_slots (0, false) before before' (place_in (destination work) r j) (size_of work.kind.elem)
      (λ p from below. agree p (inr (inr (conditional_from work before r j alone, record { row = row; column = rw (columns_without_sum work no_sum) column; from = from; below = below })))))
      (λ moved. ap (λ result. spelled work.kind.elem result (flag_for work.kind result)) same_result)

-- the results of a part of a row add up to the same
pub same_sum : (work : VecWork) (before before' : List Cell) (r j count : ℕ) → r < work.rows → j + count ≤ work.vl → ((i p : ℕ) → j ≤ i → i < work.vl → ReadsFor work r i p → slice_get before' p ≡ slice_get before p) → sum_of_results work before' r j count ≡ sum_of_results work before r j count
same_sum work before before' r j zero row columns agree = refl
same_sum work before before' r j (suc count) row columns agree =
    ap (λ result. result +ℤ sum_of_results work before' r (j + 1) count) (same_result work before before' r j row (omega arith) (λ p. agree j p (omega arith) (omega arith)))
    ∙ ap (λ sum. result_at work before r j +ℤ sum) (same_sum work before before' r (j + 1) count row (omega arith) (λ i p from. agree i p (omega arith)))

-- ---- two lists of cells that agree on the read footprint

module _ (work : VecWork) (before before' : List Cell) (same : (p : ℕ) → Reads (Vector work) (in_cells p) → slice_get before' p ≡ slice_get before p) where
  same_after_work : (r j : ℕ) → r < work.rows → j < written_in_row work → after_work work before' r j ≡ after_work work before r j
  same_after_work r j row column =
      same_choice work.kind.acc _ _ _ _
      (λ sum. ap (spelled_sum work) (same_sum work before before' r 0 work.vl row (omega arith) (λ i p from in_row read. same p (reads_for_is_read work r i p read))))
      (λ no_sum. same_new_element work before before' r j row (rw (columns_without_sum work no_sum) at column) (λ p read. same p (reads_for_is_read work r j p read)) no_sum)

  module _ (after after' : List Cell) (whole : IsWhole work before after) (whole' : IsWhole work before' after') where
    -- the written elements agree
    same_element : (r j : ℕ) → r < work.rows → j < written_in_row work → part after' (place_in (destination work) r j) (size_of work.kind.elem) ≡ part after (place_in (destination work) r j) (size_of work.kind.elem)
    same_element r j row column = whole'.written r j row column ∙ same_after_work r j row column ∙ sym (whole.written r j row column)

    pub same_written : (p : ℕ) → Writes (Vector work) (in_cells p) → cell_at after' p ≡ cell_at after p
    same_written p covered =
        let r = covered.0 in
        let j = covered.1 in
        let at : IsAt (destination work) r j p = covered.2 in
        let place = place_in (destination work) r j in
        let size = size_of work.kind.elem in
        let k = p - place in
        let inside : k < size = omega (arith, at.from, at.below) in
        let here : place + k ≡ p = omega (arith, at.from) in
        let agrees : get_or after' (place + k) (0, false) ≡ get_or after (place + k) (0, false) =
        sym (part_at (0, false) after' place size k inside) ∙ ap (λ cells. get_or cells k (0, false)) (same_element r j at.row at.column) ∙ part_at (0, false) after place size k inside in
        subst (λ q. get_or after' q (0, false) ≡ get_or after q (0, false)) here agrees

-- what an instruction writes depends only on the cells of its read footprint
pub whole_reads : (work : VecWork) (before after before' after' : List Cell) → IsWhole work before after → IsWhole work before' after' → length before' ≡ length before → ((p : ℕ) → Reads (Vector work) (in_cells p) → cell_at before' p ≡ cell_at before p) → (p : ℕ) → Writes (Vector work) (in_cells p) → cell_at after' p ≡ cell_at after p
whole_reads work before after before' after' whole whole' long agree = same_written work before before' (λ p read. same_slot (0, false) before before' p long (agree p read)) after after' whole whole'

-- the cells before determine the cells after
pub whole_determined : (work : VecWork) (before after after' : List Cell) → IsWhole work before after → IsWhole work before after' → after' ≡ after
whole_determined work before after after' whole whole' =
    ext_get_or (0, false) after' after (whole'.same_length ∙ sym whole.same_length)
    (λ p below. elim (covered_or_not (destination work) p) [
      | inl covered ↦ same_written work before before (λ q read. refl) after after' whole whole' p covered
      | inr outside ↦ whole'.kept p outside ∙ sym (whole.kept p outside)
    ])
