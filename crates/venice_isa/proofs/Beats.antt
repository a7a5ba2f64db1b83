-- The beats of a simple vector instruction together are its whole effect.
use Rattle.std.proofs.Common.{◌≡◌, ℕ, zero, suc, ◌+◌, ◌-◌, ◌*◌, ◌/◌, ◌%◌, ◌<◌, ◌≤◌, ◌⊎◌, inl, inr, ap, sym, ◌∙◌, refl, subst, arith, lit≤, List, ◌++◌, length, take, drop, min, max, Bool, true, false, cond, leb, ℤ, pos, ◌+ℤ◌}
use Rattle.std.proofs.lemmas.Int.{ints}
use Rattle.std.proofs.lemmas.Bool.{cases_lt, cases_eq, cases_Bool, cond-true, cond-false, le-leb, lt-leb}
use Rattle.std.proofs.lemmas.Nat.{le-div, div-mul-add, mod-mul-add}
use Rattle.std.proofs.lemmas.List.{length-map, length-append, take_at, drop_at, drop-drop, take_all}
use Rattle.ven_base.specs.declared.elem.Elem.{Elem}
use Rattle.ven_base.specs.declared.elem.Elem.TheVariants.{U8, I8, U16, I16, U32, I32}
use Rattle.ven_base.specs.Elem.{size_of}
use Rattle.ven_base.specs.Operation.{bits_of}
use Rattle.ven_base.specs.Wrap.{wrapped}
use Rattle.venice_isa.specs.declared.work.VecWork.{VecWork}
use Rattle.venice_isa.specs.declared.region.Region.{Region}
use Rattle.venice_isa.specs.declared.issue.Issue.TheVariants.{Vector}
use Rattle.ven_base.specs.Cell.{Cell}
use Rattle.ven_base.specs.Store.{Store, in_cells, store_size, IsInRange}
use Rattle.venice_isa.specs.Cell.{cell_at, part, overwritten}
use Rattle.venice_isa.specs.Region.{place_in, IsAt, LiesBelow}
use Rattle.venice_isa.specs.Element.{spelled}
use Rattle.venice_isa.specs.Footprint.{source_a, source_b, destination, Reads, Writes}
use Rattle.venice_isa.specs.Does.{DoesOne}
use Rattle.venice_isa.specs.Whole.{is_left_alone, new_element, sum_of_results, spelled_sum, after_work, IsWhole, IsSimple, IsInPlaceOrApart}
use Rattle.venice_isa.specs.Beat.{Progress, not_begun, lane_group_items, beats_of_row, vector_beats, group_at, lane_group_at, new_elements, cells_after_sum, sum_left, cells_after_group, vector_beat, progress_after, after_beats, after_all_beats}
use Rattle.venice_isa.proofs.Wholes.{part_length, size_positive, ReadsFor, columns_without_sum, same_slot, same_new_element, same_sum}
use Rattle.venice_isa.proofs.Spellings.{low_bytes_length}
use Rattle.venice_isa.proofs.Groups.{element_end, group_length, group_kept, group_others, group_element}
use Rattle.venice_isa.proofs.Counts.{some_beats, first_below, row_below, next_beat}

-- ---- sizes

pub size_at_most : (elem : Elem) → size_of elem ≤ 4
size_at_most U8 = lit≤ tt
size_at_most I8 = lit≤ tt
size_at_most U16 = lit≤ tt
size_at_most I16 = lit≤ tt
size_at_most U32 = lit≤ tt
size_at_most I32 = lit≤ tt

-- a beat of a lane or more takes an element or more
pub some_group : (work : VecWork) (lanes : ℕ) → 0 < lanes → 0 < lane_group_items work.kind lanes
some_group work lanes some =
    let greater = max (size_of work.kind.elem) (size_of work.kind.from) in
    let positive : 0 < greater = omega (arith, size_positive work.kind.elem) in
    let fits : 1 * greater ≤ 4 * lanes = omega (arith, size_at_most work.kind.elem, size_at_most work.kind.from) in
    le-div 1 (4 * lanes) greater positive fits

pub spelled_length : (elem : Elem) (n : ℤ) (flag : Bool) → length (spelled elem n flag) ≡ size_of elem
spelled_length elem n flag = length-map _ _ ∙ low_bytes_length (size_of elem) (bits_of elem n)

-- ---- the cells of a group

module _ (work : VecWork) (no_sum : work.kind.acc ≡ false) (cells : List Cell) (inside : LiesBelow (destination work) (length cells)) (r : ℕ) (row : r < work.rows) where
  pub element_length : (j : ℕ) → j < work.vl → length (new_element work cells r j) ≡ size_of work.kind.elem
  unfolding new_element
  element_length j column =
      let size = size_of work.kind.elem in
      let place = place_in (destination work) r j in
      let end : place + size ≤ length cells = element_end (destination work) (length cells) r j inside row (rw (columns_without_sum work no_sum) column) (size_positive work.kind.elem) in
      let old : length (part cells place size) ≡ size = omega (arith, part_length cells place size) in
      elim (cases_Bool (is_left_alone work cells r j)) [
        | inl alone ↦ ap length (cond-true _ _ _ alone) ∙ old
        | inr moved ↦ ap length (cond-false _ _ _ moved) ∙ spelled_length _ _ _
      ]

  pub elements_length : (j count : ℕ) → j + count ≤ work.vl → length (new_elements work cells r j count) ≡ count * size_of work.kind.elem
  elements_length j zero columns = omega arith
  elements_length j (suc count) columns =
      omega (arith, length-append (new_element work cells r j) (new_elements work cells r (j + 1) count), element_length j (omega arith), elements_length (j + 1) count (omega arith))

  element_in : (j count i : ℕ) → j + count ≤ work.vl → i < count → part (new_elements work cells r j count) (i * size_of work.kind.elem) (size_of work.kind.elem) ≡ new_element work cells r (j + i)
  element_in j zero i columns in_count = absurd (omega arith)
  element_in j (suc count) zero columns in_count =
      let size = size_of work.kind.elem in
      let front : zero * size ≡ 0 = omega arith in
      let here : j ≡ j + zero = omega arith in
      let first = new_element work cells r j in
      let rest = new_elements work cells r (j + 1) count in
      ap (λ n. take size (drop n (first ++ rest))) front ∙ take_at first rest size (element_length j (omega arith)) ∙ ap (new_element work cells r) here
  element_in j (suc count) (suc i) columns in_count =
      let size = size_of work.kind.elem in
      let on : suc i * size ≡ size + i * size = omega arith in
      let here : (j + 1) + i ≡ j + suc i = omega arith in
      let first = new_element work cells r j in
      let rest = new_elements work cells r (j + 1) count in
      ap (λ n. take size (drop n (first ++ rest))) on
      ∙ ap (take size) (sym (drop-drop (i * size) size (first ++ rest)) ∙ ap (drop (i * size)) (drop_at first rest size (element_length j (omega arith))))
      ∙ element_in (j + 1) count i (omega arith) (omega arith)
      ∙ ap (new_element work cells r) here

-- the sum of a part of a row and of the part behind it
pub sum_on : (work : VecWork) (cells : List Cell) (r j m n : ℕ) → sum_of_results work cells r j m +ℤ sum_of_results work cells r (j + m) n ≡ sum_of_results work cells r j (m + n)
sum_on work cells r j zero n =
    let here : j + zero ≡ j = omega arith in
    let all : zero + n ≡ n = omega arith in
    omega (arith, ints, ap (λ k. sum_of_results work cells r k n) here, ap (sum_of_results work cells r j) all)
sum_on work cells r j (suc m) n =
    let over : (j + 1) + m ≡ j + suc m = omega arith in
    let all : suc m + n ≡ suc (m + n) = omega arith in
    omega (arith, ints, sum_on work cells r (j + 1) m n, ap (λ k. sum_of_results work cells r k n) over, ap (sum_of_results work cells r j) all)

-- ---- a simple instruction

module _ (work : VecWork) (simple : IsSimple work) where
  -- what is read for an element and written at all is written for that element
  in_place : (source : Region) → IsInPlaceOrApart work source → (r j p r' j' : ℕ) → IsAt source r j p → IsAt (destination work) r' j' p → (r' ≡ r) × (j' ≡ j)
  in_place source simply r j p r' j' at at' =
      elim simply [
        | inl places ↦
            let one_place : place_in source r j ≡ place_in (destination work) r j = places.places r j at.row at.column in
            let here : IsAt (destination work) r j p = record { row = omega (arith, at.row, places.rows); column = omega (arith, at.column, places.columns); from = omega (arith, at.from); below = omega (arith, at.below, places.size) } in
            simple.elements_apart p r' j' r j at' here
        | inr apart ↦ absurd (apart p (r, j, at) (r', j', at'))
      ]

  pub read_in_place : (r j p r' j' : ℕ) → ReadsFor work r j p → IsAt (destination work) r' j' p → (r' ≡ r) × (j' ≡ j)
  read_in_place r j p r' j' read at' =
      elim read [
        | inl by_a ↦ in_place (source_a work) (simple.a_in_place_or_apart by_a.0) r j p r' j' by_a.1 at'
        | inr rest ↦ elim rest [
          | inl by_b ↦ in_place (source_b work) (simple.b_in_place_or_apart by_b.0 by_b.1) r j p r' j' by_b.2 at'
          | inr old ↦ simple.elements_apart p r' j' r j at' old.1
        ]
      ]

-- ---- without a sum: how far the instruction is, before element j of row r

-- element j of row r is written before the beat that begins at element `first` of row `row`
abbrev pub IsWritten : (row first r j : ℕ) → Type 0
IsWritten row first r j = (r < row) ⊎ ((r ≡ row) × (j < first))

-- the elements so far have their results, all taken from the cells before, and the rest is as before
pub record HasWritten (work : VecWork) (before cells : List Cell) (row first : ℕ) : Type 0 where
  pub same_length : length cells ≡ length before
  pub written : (r j : ℕ) → r < work.rows → j < work.vl → IsWritten row first r j → part cells (place_in (destination work) r j) (size_of work.kind.elem) ≡ new_element work before r j
  pub kept : (p : ℕ) → ((r j : ℕ) → IsAt (destination work) r j p → ¬ IsWritten row first r j) → cell_at cells p ≡ cell_at before p

not_written_itself : (row first j : ℕ) → first ≤ j → ¬ IsWritten row first row j
not_written_itself row first j from written = elim written [ inl before ↦ omega arith | inr same ↦ omega (arith, same.1) ]

module _ (work : VecWork) (simple : IsSimple work) (no_sum : work.kind.acc ≡ false) (before : List Cell) (inside : LiesBelow (destination work) (length before)) where
  module _ (cells : List Cell) (row first count : ℕ) (so_far : HasWritten work before cells row first) (in_rows : row < work.rows) (some : 0 < count) (fits : first + count ≤ work.vl) where
    -- the group's sources are as they were before
    source_kept : (j p : ℕ) → first ≤ j → ReadsFor work row j p → cell_at cells p ≡ cell_at before p
    source_kept j p from read =
        so_far.kept p (λ r' j' at written.
        let same = read_in_place work simple row j p r' j' read at in
        not_written_itself row first j from (subst (λ n. IsWritten row first row n) same.1 (subst (λ n. IsWritten row first n j') same.0 written)))

    cells_inside : LiesBelow (destination work) (length cells)
    cells_inside p covered = omega (arith, inside p covered, so_far.same_length)

    after : List Cell
    after = overwritten cells (place_in (destination work) row first) (new_elements work cells row first count)

    all_columns : first + count ≤ (destination work).columns
    all_columns = rw (columns_without_sum work no_sum) fits

    new_length : length (new_elements work cells row first count) ≡ count * size_of work.kind.elem
    new_length = elements_length work no_sum cells cells_inside row in_rows first count fits

    in_group_written : (i : ℕ) → i < count → part after (place_in (destination work) row (first + i)) (size_of work.kind.elem) ≡ new_element work before row (first + i)
    unfolding after
    in_group_written i in_count =
        group_element (0, false) (destination work) simple.elements_apart (size_positive work.kind.elem) cells cells_inside row first count in_rows some all_columns (new_elements work cells row first count) new_length i in_count
        ∙ element_in work no_sum cells cells_inside row in_rows first count i fits in_count
        ∙ same_new_element work before cells row (first + i) in_rows (omega arith) (λ p read. same_slot (0, false) before cells p so_far.same_length (source_kept (first + i) p (omega arith) read)) no_sum

    others_written : (r j : ℕ) → r < work.rows → j < work.vl → IsWritten row first r j → part after (place_in (destination work) r j) (size_of work.kind.elem) ≡ new_element work before r j
    unfolding after
    others_written r j row' column written =
        group_others (0, false) (destination work) simple.elements_apart (size_positive work.kind.elem) cells cells_inside row first count in_rows some all_columns (new_elements work cells row first count) new_length r j row' (rw (columns_without_sum work no_sum) column)
        (λ i in_count same_row same_column. elim written [ inl earlier ↦ omega arith | inr same ↦ omega (arith, same.1) ])
        ∙ so_far.written r j row' column written

    written_now : (r j : ℕ) → r < work.rows → j < work.vl → IsWritten row (first + count) r j → part after (place_in (destination work) r j) (size_of work.kind.elem) ≡ new_element work before r j
    written_now r j row' column written =
        elim written [
          | inl earlier ↦ others_written r j row' column (inl earlier)
          | inr same ↦ elim (cases_lt j first) [
            | inl left ↦ others_written r j row' column (inr (same.0, left))
            | inr from ↦
                let i = j - first in
                let here : first + i ≡ j = omega arith in
                let in_count : i < count = omega (arith, same.1) in
                subst (λ n. part after (place_in (destination work) n j) (size_of work.kind.elem) ≡ new_element work before n j) (sym same.0)
                (subst (λ n. part after (place_in (destination work) row n) (size_of work.kind.elem) ≡ new_element work before row n) here (in_group_written i in_count))
          ]
        ]

    kept_now : (p : ℕ) → ((r j : ℕ) → IsAt (destination work) r j p → ¬ IsWritten row (first + count) r j) → cell_at after p ≡ cell_at before p
    unfolding after
    kept_now p none =
        group_kept (0, false) (destination work) simple.elements_apart (size_positive work.kind.elem) cells cells_inside row first count in_rows some all_columns (new_elements work cells row first count) new_length p
        (λ i in_count at. none row (first + i) at (inr (refl, omega arith)))
        ∙ so_far.kept p (λ r j at written. none r j at (elim written [ inl earlier ↦ inl earlier | inr same ↦ inr (same.0, omega (arith, same.1)) ]))

    written_on : HasWritten work before after row (first + count)
    unfolding after
    written_on = record {
      same_length = group_length (0, false) (destination work) simple.elements_apart (size_positive work.kind.elem) cells cells_inside row first count in_rows some all_columns (new_elements work cells row first count) new_length ∙ so_far.same_length;
      written = written_now;
      kept = kept_now;
    }

  -- a whole row is the begin of the next
  pub next_row : (cells : List Cell) (row : ℕ) → HasWritten work before cells row work.vl → HasWritten work before cells (row + 1) 0
  next_row cells row so_far = record {
    same_length = so_far.same_length;
    written = λ r j row' column written. so_far.written r j row' column (elim written [
      | inl earlier ↦ elim (cases_eq r row) [ inl same ↦ inr (same, column) | inr other ↦ inl (omega arith) ]
      | inr none ↦ absurd (omega (arith, none.1))
    ]);
    kept = λ p none. so_far.kept p (λ r j at written. none r j at (elim written [ inl earlier ↦ inl (omega arith) | inr same ↦ inl (omega (arith, same.0)) ]));
  }

-- ---- without a sum: all beats

module _ (work : VecWork) (simple : IsSimple work) (no_sum : work.kind.acc ≡ false) (before : List Cell) (inside : LiesBelow (destination work) (length before)) (lanes : ℕ) (some_lanes : 0 < lanes) where
  group_beat : (progress : Progress) (cells : List Cell) → progress.done < vector_beats work lanes → HasWritten work before cells (lane_group_at work lanes progress).row (lane_group_at work lanes progress).first → HasWritten work before (cells_after_group work lanes progress cells) (group_at work.vl (lane_group_items work.kind lanes) (progress.done + 1)).row (group_at work.vl (lane_group_items work.kind lanes) (progress.done + 1)).first
  unfolding cells_after_group after
  group_beat progress cells below so_far =
      let items = work.vl in
      let size = lane_group_items work.kind lanes in
      let n = progress.done in
      let group = group_at items size n in
      let next = group_at items size (n + 1) in
      let some = simple.counts.elements in
      let positive = some_group work lanes some_lanes in
      let begins : group.first < items = first_below items size some positive n in
      let in_rows : group.row < work.rows = row_below items size some positive work.rows n below in
      let after = overwritten cells (place_in (destination work) group.row group.first) (new_elements work cells group.row group.first group.count) in
      let on = written_on work simple no_sum before inside cells group.row group.first group.count so_far in_rows (omega arith) (omega arith) in
      elim (next_beat items size some positive n) [
        | inl goes_on ↦ subst (λ r. HasWritten work before after r next.first) (sym goes_on.0) (subst (HasWritten work before after group.row) (sym goes_on.1) on)
        | inr ends ↦
            let row_done = subst (HasWritten work before after group.row) ends.2 on in
            subst (λ r. HasWritten work before after r next.first) (sym ends.0) (subst (HasWritten work before after (group.row + 1)) (sym ends.1) (next_row work simple no_sum before inside after group.row row_done))
      ]

  one_beat : (progress : Progress) (cells : List Cell) → progress.done < vector_beats work lanes → HasWritten work before cells (lane_group_at work lanes progress).row (lane_group_at work lanes progress).first → HasWritten work before (vector_beat work lanes progress cells) (group_at work.vl (lane_group_items work.kind lanes) (progress.done + 1)).row (group_at work.vl (lane_group_items work.kind lanes) (progress.done + 1)).first
  one_beat progress cells below so_far =
      subst (λ after. HasWritten work before after (group_at work.vl (lane_group_items work.kind lanes) (progress.done + 1)).row (group_at work.vl (lane_group_items work.kind lanes) (progress.done + 1)).first)
      (sym (cond-false work.kind.acc (cells_after_sum work lanes progress cells) (cells_after_group work lanes progress cells) no_sum))
      (group_beat progress cells below so_far)

  beats_on : (count : ℕ) (progress : Progress) (store : Store) → progress.done + count ≡ vector_beats work lanes → HasWritten work before store.cells (lane_group_at work lanes progress).row (lane_group_at work lanes progress).first → HasWritten work before (after_beats count (Vector work) lanes progress store).cells (group_at work.vl (lane_group_items work.kind lanes) (vector_beats work lanes)).row (group_at work.vl (lane_group_items work.kind lanes) (vector_beats work lanes)).first
  beats_on zero progress store all so_far =
      let end : progress.done ≡ vector_beats work lanes = omega arith in
      subst (λ n. HasWritten work before store.cells (group_at work.vl (lane_group_items work.kind lanes) n).row (group_at work.vl (lane_group_items work.kind lanes) n).first) end so_far
  beats_on (suc count) progress store all so_far =
      beats_on count (progress_after work lanes progress store.cells) (record store { cells = vector_beat work lanes progress store.cells }) (omega arith)
      (one_beat progress store.cells (omega arith) so_far)

  -- all beats end behind the last row
  pub whole_without_sum : (store : Store) → store.cells ≡ before → IsWhole work before (after_beats (vector_beats work lanes) (Vector work) lanes not_begun store).cells
  whole_without_sum store is_before =
      let items = work.vl in
      let size = lane_group_items work.kind lanes in
      let some = simple.counts.elements in
      let positive = some_group work lanes some_lanes in
      let beats = beats_of_row items size in
      let some_in_row = some_beats items size some positive in
      let total : vector_beats work lanes ≡ work.rows * beats + 0 = omega arith in
      let end_row : vector_beats work lanes / beats ≡ work.rows = ap (λ n. n / beats) total ∙ div-mul-add work.rows beats 0 some_in_row in
      let end_place : vector_beats work lanes % beats ≡ 0 = ap (λ n. n % beats) total ∙ mod-mul-add work.rows beats 0 some_in_row in
      let end_first : vector_beats work lanes % beats * size ≡ 0 * size = ap (λ n. n * size) end_place in
      let start : 0 ≡ 0 * beats + 0 = omega arith in
      let start_row : 0 / beats ≡ 0 = ap (λ n. n / beats) start ∙ div-mul-add 0 beats 0 some_in_row in
      let start_place : 0 % beats ≡ 0 = ap (λ n. n % beats) start ∙ mod-mul-add 0 beats 0 some_in_row in
      let start_first : 0 % beats * size ≡ 0 * size = ap (λ n. n * size) start_place in
      let nothing_yet : HasWritten work before store.cells (0 / beats) (0 % beats * size) = record {
        same_length = ap length is_before;
        written = λ r j row column written. absurd (elim written [ inl earlier ↦ omega arith | inr same ↦ omega (arith, same.1) ]);
        kept = λ p none. ap (λ cells. cell_at cells p) is_before;
      } in
      let final = beats_on (vector_beats work lanes) not_begun store (omega arith) nothing_yet in
      record {
        same_length = final.same_length;
        written = λ r j row column. final.written r j row (rw (columns_without_sum work no_sum) at column) (inl (omega (arith, end_row))) ∙ sym (cond-false work.kind.acc (spelled_sum work (sum_of_results work before r 0 work.vl)) (new_element work before r j) no_sum);
        kept = λ p outside. final.kept p (λ r j at written. outside (r, j, at));
      }

-- ---- with a sum

-- the rows so far have their sums, all taken from the cells before, the row's sum so far is exact, and
-- the rest is as before
pub record HasSummed (work : VecWork) (before cells : List Cell) (sum : ℤ) (row first : ℕ) : Type 0 where
  pub same_length : length cells ≡ length before
  pub written : (r : ℕ) → r < work.rows → r < row → part cells (place_in (destination work) r 0) (size_of work.kind.elem) ≡ spelled_sum work (sum_of_results work before r 0 work.vl)
  pub kept : (p : ℕ) → ((r j : ℕ) → IsAt (destination work) r j p → ¬ (r < row)) → cell_at cells p ≡ cell_at before p
  pub sum_is : sum ≡ sum_of_results work before row 0 first

module _ (work : VecWork) (simple : IsSimple work) (with_sum : work.kind.acc ≡ true) (before : List Cell) (inside : LiesBelow (destination work) (length before)) where
  one_column : (destination work).columns ≡ 1
  one_column =
      let some : 0 < work.vl = simple.counts.elements in
      let one : min 1 work.vl ≡ 1 = omega arith in
      cond-true work.kind.acc (min 1 work.vl) work.vl with_sum ∙ one

  module _ (cells : List Cell) (sum : ℤ) (row first count : ℕ) (so_far : HasSummed work before cells sum row first) (in_rows : row < work.rows) (fits : first + count ≤ work.vl) where
    sum_goes_on : sum +ℤ sum_of_results work cells row first count ≡ sum_of_results work before row 0 (first + count)
    sum_goes_on =
        let unchanged = same_sum work before cells row first count in_rows fits
        (λ i p from in_row read. same_slot (0, false) before cells p so_far.same_length (so_far.kept p (λ r' j' at earlier.
        let same = read_in_place work simple row i p r' j' read at in
        omega (arith, same.0)))) in
        let here : 0 + first ≡ first = omega arith in
        omega (arith, ints, unchanged, so_far.sum_is, sum_on work before row 0 first count, ap (λ k. sum_of_results work before row k count) here)

    summed_on : HasSummed work before cells (sum +ℤ sum_of_results work cells row first count) row (first + count)
    summed_on = record { same_length = so_far.same_length; written = so_far.written; kept = so_far.kept; sum_is = sum_goes_on }

    sum_inside : LiesBelow (destination work) (length cells)
    sum_inside p covered = omega (arith, inside p covered, so_far.same_length)

    row_cells : List Cell
    row_cells = spelled_sum work (sum +ℤ sum_of_results work cells row first count)

    row_cells_length : length (spelled_sum work (sum +ℤ sum_of_results work cells row first count)) ≡ 1 * size_of work.kind.elem
    row_cells_length = omega (arith, spelled_length work.kind.elem (wrapped work.kind.elem (sum +ℤ sum_of_results work cells row first count)) false)

    one_fits : 0 + 1 ≤ (destination work).columns
    one_fits = omega (arith, one_column)

    after_row : List Cell
    after_row = overwritten cells (place_in (destination work) row 0) (spelled_sum work (sum +ℤ sum_of_results work cells row first count))

    this_row_written : first + count ≡ work.vl → part after_row (place_in (destination work) row 0) (size_of work.kind.elem) ≡ spelled_sum work (sum_of_results work before row 0 work.vl)
    unfolding after_row
    this_row_written all =
        let size = size_of work.kind.elem in
        let new = spelled_sum work (sum +ℤ sum_of_results work cells row first count) in
        let none : 0 * size ≡ 0 = omega arith in
        let long : length new ≤ size = omega (arith, row_cells_length) in
        group_element (0, false) (destination work) simple.elements_apart (size_positive work.kind.elem) cells sum_inside row 0 1 in_rows (omega arith) one_fits new row_cells_length 0 (omega arith)
        ∙ ap (λ n. take size (drop n new)) none
        ∙ take_all size new long
        ∙ ap (spelled_sum work) (sum_goes_on ∙ ap (sum_of_results work before row 0) all)

    row_ends : first + count ≡ work.vl → HasSummed work before after_row (pos 0) (row + 1) 0
    unfolding after_row
    row_ends all =
        let new = spelled_sum work (sum +ℤ sum_of_results work cells row first count) in
        record {
          same_length = group_length (0, false) (destination work) simple.elements_apart (size_positive work.kind.elem) cells sum_inside row 0 1 in_rows (omega arith) one_fits new row_cells_length ∙ so_far.same_length;
          written = λ r row' earlier. elim (cases_eq r row) [
            | inl same ↦ subst (λ n. part after_row (place_in (destination work) n 0) (size_of work.kind.elem) ≡ spelled_sum work (sum_of_results work before n 0 work.vl)) (sym same) (this_row_written all)
            | inr other ↦
                group_others (0, false) (destination work) simple.elements_apart (size_positive work.kind.elem) cells sum_inside row 0 1 in_rows (omega arith) one_fits new row_cells_length r 0 row' (omega (arith, one_fits)) (λ i in_count same_row same_column. other same_row)
                ∙ so_far.written r row' (omega arith)
          ];
          kept = λ p none.
              group_kept (0, false) (destination work) simple.elements_apart (size_positive work.kind.elem) cells sum_inside row 0 1 in_rows (omega arith) one_fits new row_cells_length p (λ i in_count at. none row (0 + i) at (omega arith))
              ∙ so_far.kept p (λ r j at earlier. none r j at (omega arith));
          sum_is = refl;
        }

-- ---- with a sum: all beats

module _ (work : VecWork) (simple : IsSimple work) (with_sum : work.kind.acc ≡ true) (before : List Cell) (inside : LiesBelow (destination work) (length before)) (lanes : ℕ) (some_lanes : 0 < lanes) where
  sum_beat : (progress : Progress) (cells : List Cell) → progress.done < vector_beats work lanes → HasSummed work before cells progress.sum (lane_group_at work lanes progress).row (lane_group_at work lanes progress).first → HasSummed work before (cells_after_sum work lanes progress cells) (sum_left work lanes progress cells) (group_at work.vl (lane_group_items work.kind lanes) (progress.done + 1)).row (group_at work.vl (lane_group_items work.kind lanes) (progress.done + 1)).first
  unfolding cells_after_sum sum_left after_row
  sum_beat progress cells below so_far =
      let items = work.vl in
      let size = lane_group_items work.kind lanes in
      let n = progress.done in
      let group = group_at items size n in
      let next = group_at items size (n + 1) in
      let some = simple.counts.elements in
      let positive = some_group work lanes some_lanes in
      let begins : group.first < items = first_below items size some positive n in
      let in_rows : group.row < work.rows = row_below items size some positive work.rows n below in
      let fits : group.first + group.count ≤ items = omega arith in
      let sum = progress.sum +ℤ sum_of_results work cells group.row group.first group.count in
      let after = overwritten cells (place_in (destination work) group.row 0) (spelled_sum work sum) in
      let Reached : List Cell → ℤ → ℕ → ℕ → Type 0 = λ now so r first. HasSummed work before now so r first in
      elim (next_beat items size some positive n) [
        | inl goes_on ↦
            let not_last : leb items (group.first + group.count) ≡ false = lt-leb items (group.first + group.count) goes_on.2 in
            let on : Reached cells sum group.row (group.first + group.count) = summed_on work simple with_sum before inside cells progress.sum group.row group.first group.count so_far in_rows fits in
            let there : Reached cells sum next.row next.first = subst (λ r. Reached cells sum r next.first) (sym goes_on.0) (subst (Reached cells sum group.row) (sym goes_on.1) on) in
            subst (λ now. Reached now (cond (leb items (group.first + group.count)) (pos 0) sum) next.row next.first) (sym (cond-false (leb items (group.first + group.count)) after cells not_last))
            (subst (λ so. Reached cells so next.row next.first) (sym (cond-false (leb items (group.first + group.count)) (pos 0) sum not_last)) there)
        | inr ends ↦
            let reached : items ≤ group.first + group.count = omega (arith, ends.2) in
            let last : leb items (group.first + group.count) ≡ true = le-leb items (group.first + group.count) reached in
            let on : Reached after (pos 0) (group.row + 1) 0 = row_ends work simple with_sum before inside cells progress.sum group.row group.first group.count so_far in_rows fits ends.2 in
            let there : Reached after (pos 0) next.row next.first = subst (λ r. Reached after (pos 0) r next.first) (sym ends.0) (subst (Reached after (pos 0) (group.row + 1)) (sym ends.1) on) in
            subst (λ now. Reached now (cond (leb items (group.first + group.count)) (pos 0) sum) next.row next.first) (sym (cond-true (leb items (group.first + group.count)) after cells last))
            (subst (λ so. Reached after so next.row next.first) (sym (cond-true (leb items (group.first + group.count)) (pos 0) sum last)) there)
      ]

  one_sum_beat : (progress : Progress) (cells : List Cell) → progress.done < vector_beats work lanes → HasSummed work before cells progress.sum (lane_group_at work lanes progress).row (lane_group_at work lanes progress).first → HasSummed work before (vector_beat work lanes progress cells) (progress_after work lanes progress cells).sum (group_at work.vl (lane_group_items work.kind lanes) (progress.done + 1)).row (group_at work.vl (lane_group_items work.kind lanes) (progress.done + 1)).first
  one_sum_beat progress cells below so_far =
      let next = group_at work.vl (lane_group_items work.kind lanes) (progress.done + 1) in
      subst (λ now. HasSummed work before now (progress_after work lanes progress cells).sum next.row next.first)
      (sym (cond-true work.kind.acc (cells_after_sum work lanes progress cells) (cells_after_group work lanes progress cells) with_sum))
      (subst (λ so. HasSummed work before (cells_after_sum work lanes progress cells) so next.row next.first)
      (sym (cond-true work.kind.acc (sum_left work lanes progress cells) (pos 0) with_sum))
      (sum_beat progress cells below so_far))

  sum_beats_on : (count : ℕ) (progress : Progress) (store : Store) → progress.done + count ≡ vector_beats work lanes → HasSummed work before store.cells progress.sum (lane_group_at work lanes progress).row (lane_group_at work lanes progress).first → (sum : ℤ) × HasSummed work before (after_beats count (Vector work) lanes progress store).cells sum (group_at work.vl (lane_group_items work.kind lanes) (vector_beats work lanes)).row (group_at work.vl (lane_group_items work.kind lanes) (vector_beats work lanes)).first
  sum_beats_on zero progress store all so_far =
      let end : progress.done ≡ vector_beats work lanes = omega arith in
      (progress.sum, subst (λ n. HasSummed work before store.cells progress.sum (group_at work.vl (lane_group_items work.kind lanes) n).row (group_at work.vl (lane_group_items work.kind lanes) n).first) end so_far)
  sum_beats_on (suc count) progress store all so_far =
      sum_beats_on count (progress_after work lanes progress store.cells) (record store { cells = vector_beat work lanes progress store.cells }) (omega arith)
      (one_sum_beat progress store.cells (omega arith) so_far)

  pub whole_with_sum : (store : Store) → store.cells ≡ before → IsWhole work before (after_beats (vector_beats work lanes) (Vector work) lanes not_begun store).cells
  whole_with_sum store is_before =
      let items = work.vl in
      let size = lane_group_items work.kind lanes in
      let some = simple.counts.elements in
      let positive = some_group work lanes some_lanes in
      let beats = beats_of_row items size in
      let some_in_row = some_beats items size some positive in
      let total : vector_beats work lanes ≡ work.rows * beats + 0 = omega arith in
      let end_row : vector_beats work lanes / beats ≡ work.rows = ap (λ n. n / beats) total ∙ div-mul-add work.rows beats 0 some_in_row in
      let start : 0 ≡ 0 * beats + 0 = omega arith in
      let start_row : 0 / beats ≡ 0 = ap (λ n. n / beats) start ∙ div-mul-add 0 beats 0 some_in_row in
      let start_place : 0 % beats ≡ 0 = ap (λ n. n % beats) start ∙ mod-mul-add 0 beats 0 some_in_row in
      let start_first : 0 % beats * size ≡ 0 = ap (λ n. n * size) start_place ∙ (omega arith) in
      let nothing_yet : HasSummed work before store.cells (pos 0) (0 / beats) (0 % beats * size) = record {
        same_length = ap length is_before;
        written = λ r row earlier. absurd (omega arith);
        kept = λ p none. ap (λ cells. cell_at cells p) is_before;
        sum_is = ap (sum_of_results work before (0 / beats) 0) (sym start_first);
      } in
      let reached = sum_beats_on (vector_beats work lanes) not_begun store (omega arith) nothing_yet in
      let final = reached.1 in
      record {
        same_length = final.same_length;
        written = λ r j row column.
            let first : j ≡ 0 = omega (arith, column, one_column work simple with_sum before inside) in
            subst (λ k. part (after_beats (vector_beats work lanes) (Vector work) lanes not_begun store).cells (place_in (destination work) r k) (size_of work.kind.elem) ≡ after_work work before r k) (sym first)
            (final.written r row (omega (arith, end_row)) ∙ sym (cond-true work.kind.acc (spelled_sum work (sum_of_results work before r 0 work.vl)) (new_element work before r 0) with_sum));
        kept = λ p outside. final.kept p (λ r j at earlier. outside (r, j, at));
      }

-- ---- any simple instruction

pub memory_stays : (work : VecWork) (lanes count : ℕ) (progress : Progress) (store : Store) → (after_beats count (Vector work) lanes progress store).memory ≡ store.memory
memory_stays work lanes zero progress store = refl
memory_stays work lanes (suc count) progress store = memory_stays work lanes count (progress_after work lanes progress store.cells) (record store { cells = vector_beat work lanes progress store.cells })

pub beats_do_it : (work : VecWork) (lanes : ℕ) (store : Store) → IsSimple work → 0 < lanes → IsInRange (Reads (Vector work)) (Writes (Vector work)) (store_size store) → DoesOne (Vector work) store (after_all_beats (Vector work) lanes store)
unfolding after_all_beats
beats_do_it work lanes store simple some_lanes in_range = (
  elim (cases_Bool work.kind.acc) [
    | inl with_sum ↦ whole_with_sum work simple with_sum store.cells (λ p. in_range.has_writes (in_cells p)) lanes some_lanes store refl
    | inr no_sum ↦ whole_without_sum work simple no_sum store.cells (λ p. in_range.has_writes (in_cells p)) lanes some_lanes store refl
  ],
  memory_stays work lanes (vector_beats work lanes) not_begun store,
)
