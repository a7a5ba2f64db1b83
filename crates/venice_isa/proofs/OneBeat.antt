-- One beat of a vector instruction, simple or not: what it writes, and what it depends on.
use Rattle.std.proofs.Common.{◌≡◌, ℕ, zero, suc, ◌+◌, ◌-◌, ◌*◌, ◌/◌, ◌%◌, ◌<◌, ◌≤◌, ◌⊎◌, inl, inr, ap, sym, ◌∙◌, refl, subst, arith, List, ◌++◌, length, get_or, min, true, false, cond, leb, ℤ, pos, ◌+ℤ◌, Some}
use Rattle.std.specs.Prelude.{slice_get}
use Rattle.std.proofs.lemmas.Bool.{cases_lt, cases_Bool, cond-true, cond-false}
use Rattle.std.proofs.Math.Nat.{mul-pos}
use Rattle.std.proofs.lemmas.Nat.{div_below, mod_below, div-add-mod'}
use Rattle.std.proofs.lemmas.Option.{slice_get-get_or}
use Rattle.ven_base.specs.Elem.{size_of}
use Rattle.ven_base.specs.Wrap.{wrapped}
use Rattle.venice_isa.specs.declared.work.VecWork.{VecWork}
use Rattle.venice_isa.specs.declared.region.Region.{Region}
use Rattle.venice_isa.specs.declared.issue.Issue.TheVariants.{Vector}
use Rattle.ven_base.specs.Cell.{Cell}
use Rattle.ven_base.specs.Store.{in_cells, IsInRange}
use Rattle.venice_isa.specs.Cell.{overwritten}
use Rattle.venice_isa.specs.Region.{place_in, Covers, LiesBelow}
use Rattle.venice_isa.specs.Footprint.{source_a, source_b, destination, Reads, Writes}
use Rattle.venice_isa.specs.Whole.{new_element, spelled_sum, HasCounts}
use Rattle.venice_isa.specs.Beat.{Progress, lane_group_items, vector_beats, lane_group_at, new_elements, sum_after, cells_after_sum, sum_left, cells_after_group, vector_beat, progress_after}
use Rattle.venice_isa.proofs.Regions.{end_of, covered_below_end}
use Rattle.venice_isa.proofs.Ranges.{vector_in_range}
use Rattle.venice_isa.proofs.Overwrites.{overwritten_length, overwritten_below, overwritten_in, overwritten_above}
use Rattle.venice_isa.proofs.Wholes.{size_positive, ReadsFor, reads_for_is_read, columns_without_sum, same_slot, same_new_element, same_sum}
use Rattle.venice_isa.proofs.Groups.{element_end}
use Rattle.venice_isa.proofs.Counts.{some_beats, first_below, row_below}
use Rattle.venice_isa.proofs.Beats.{some_group, spelled_length, elements_length}

-- ---- lists

-- two lists over which the same is written at one place change alike
pub written_alike : {A : Type 0} (d : A) (xs ys : List A) (place : ℕ) (new : List A) → place + length new ≤ length xs → place + length new ≤ length ys → (p : ℕ) → ((place ≤ p) × (p < place + length new) × (slice_get (overwritten ys place new) p ≡ slice_get (overwritten xs place new) p)) ⊎ ((slice_get (overwritten xs place new) p ≡ slice_get xs p) × (slice_get (overwritten ys place new) p ≡ slice_get ys p))
written_alike d xs ys place new inside inside' p =
    let xs' = overwritten xs place new in
    let ys' = overwritten ys place new in
    let xs_long : length xs' ≡ length xs = overwritten_length xs place new inside in
    let ys_long : length ys' ≡ length ys = overwritten_length ys place new inside' in
    elim (cases_lt p place) [
      | inl below ↦ inr (same_slot d xs xs' p xs_long (overwritten_below xs place new inside d p below), same_slot d ys ys' p ys_long (overwritten_below ys place new inside' d p below))
      | inr from ↦ elim (cases_lt p (place + length new)) [
        | inl within ↦
            let k = p - place in
            let in_new : k < length new = omega arith in
            let here : place + k ≡ p = omega arith in
            let same : get_or ys' (place + k) d ≡ get_or xs' (place + k) d = overwritten_in ys place new inside' d k in_new ∙ sym (overwritten_in xs place new inside d k in_new) in
            inl (from, within, slice_get-get_or ys' p d (omega (arith, ys_long)) ∙ ap (λ x. Some x) (subst (λ q. get_or ys' q d ≡ get_or xs' q d) here same) ∙ sym (slice_get-get_or xs' p d (omega (arith, xs_long))))
        | inr above ↦ inr (same_slot d xs xs' p xs_long (overwritten_above xs place new inside d p above), same_slot d ys ys' p ys_long (overwritten_above ys place new inside' d p above))
      ]
    ]

-- ---- a group of a row's elements

module _ (region : Region) (some_bytes : 0 < region.size) (r first count : ℕ) (row : r < region.rows) (fits : first + count ≤ region.columns) where
  -- a byte of the group is one of the region's
  pub covers_group : (p : ℕ) → place_in region r first ≤ p → p < place_in region r first + count * region.size → Covers region p
  covers_group p from below =
      let off = p - place_in region r first in
      let i = off / region.size in
      let in_count : i < count = div_below off region.size count some_bytes (omega arith) in
      let split : i * region.size + off % region.size ≡ off = div-add-mod' off region.size in
      let rest : off % region.size < region.size = mod_below off region.size some_bytes in
      let place : place_in region r (first + i) ≡ place_in region r first + i * region.size = omega arith in
      (r, first + i, record { row = row; column = omega arith; from = omega arith; below = omega arith })

  pub group_end : (end : ℕ) → LiesBelow region end → 0 < count → place_in region r first + count * region.size ≤ end
  group_end end inside some =
      let last = count - 1 in
      let here : place_in region r (first + last) + region.size ≤ end = element_end region end r (first + last) inside row (omega arith) some_bytes in
      let one_more : count ≡ suc last = omega arith in
      let size : count * region.size ≡ last * region.size + region.size = ap (λ n. n * region.size) one_more ∙ (omega arith) in
      let place : place_in region r (first + last) ≡ place_in region r first + last * region.size = omega arith in
      omega arith

  module _ {A : Type 0} (d : A) (cells new : List A) (long : length new ≡ count * region.size) (inside : place_in region r first + length new ≤ length cells) where
    kept_outside : (p : ℕ) → ¬ Covers region p → get_or (overwritten cells (place_in region r first) new) p d ≡ get_or cells p d
    kept_outside p outside =
        elim (cases_lt p (place_in region r first)) [
          | inl below ↦ overwritten_below cells (place_in region r first) new inside d p below
          | inr from ↦ elim (cases_lt p (place_in region r first + length new)) [
            | inl within ↦ absurd (outside (covers_group p from (omega (arith, long))))
            | inr above ↦ overwritten_above cells (place_in region r first) new inside d p above
          ]
        ]

  -- two lists over which the same is written at the group's place change alike, at bytes of the region
  pub group_alike : {A : Type 0} (d : A) (xs ys new : List A) → length new ≡ count * region.size → place_in region r first + length new ≤ length xs → place_in region r first + length new ≤ length ys → (p : ℕ)
      → (Covers region p × (slice_get (overwritten ys (place_in region r first) new) p ≡ slice_get (overwritten xs (place_in region r first) new) p)) ⊎ ((slice_get (overwritten xs (place_in region r first) new) p ≡ slice_get xs p) × (slice_get (overwritten ys (place_in region r first) new) p ≡ slice_get ys p))
  group_alike d xs ys new long inside inside' p =
      elim (written_alike d xs ys (place_in region r first) new inside inside' p) [
        | inl written ↦ inl (covers_group p written.0 (omega (arith, long, written.1)), written.2)
        | inr left ↦ inr left
      ]

-- ---- the footprint

-- every cell that an instruction reads or writes is below some place
pub vector_end : VecWork → ℕ
vector_end work = end_of (source_a work) + end_of (source_b work) + end_of (destination work)

pub vector_ends : (work : VecWork) → IsInRange (Reads (Vector work)) (Writes (Vector work)) (record { cells = vector_end work; memory = 0 })
unfolding vector_end
vector_ends work =
    vector_in_range work (record { cells = vector_end work; memory = 0 })
    (λ vector p covers. omega (arith, covered_below_end (source_a work) p covers))
    (λ uses vector p covers. omega (arith, covered_below_end (source_b work) p covers))
    (λ p covers. omega (arith, covered_below_end (destination work) p covers))

-- ---- a beat

-- an instruction whose counts aren't 0 takes a beat
pub some_vector_beat : (work : VecWork) (lanes : ℕ) → 0 < lanes → HasCounts work → 0 < vector_beats work lanes
some_vector_beat work lanes some_lanes counts =
    let one_row = some_beats work.vl (lane_group_items work.kind lanes) counts.elements (some_group work lanes some_lanes) in
    mul-pos counts.rows one_row

module _ (work : VecWork) (lanes : ℕ) (progress : Progress) (some_lanes : 0 < lanes) (counts : HasCounts work) (below : progress.done < vector_beats work lanes) where
  pub group_row : (lane_group_at work lanes progress).row < work.rows
  group_row = row_below work.vl (lane_group_items work.kind lanes) counts.elements (some_group work lanes some_lanes) work.rows progress.done below

  pub group_first : (lane_group_at work lanes progress).first < work.vl
  group_first = first_below work.vl (lane_group_items work.kind lanes) counts.elements (some_group work lanes some_lanes) progress.done

  pub group_fits : (lane_group_at work lanes progress).first + (lane_group_at work lanes progress).count ≤ work.vl
  group_fits = omega (arith, group_first)

  pub group_some : 0 < (lane_group_at work lanes progress).count
  group_some = omega (arith, group_first, some_group work lanes some_lanes)

  module _ (cells : List Cell) (inside : LiesBelow (destination work) (length cells)) where
    row : ℕ
    row = (lane_group_at work lanes progress).row

    -- ---- with a sum
    sum_cells : List Cell
    sum_cells = spelled_sum work (sum_after work progress cells (lane_group_at work lanes progress))

    sum_long : length (spelled_sum work (sum_after work progress cells (lane_group_at work lanes progress))) ≡ 1 * size_of work.kind.elem
    sum_long = omega (arith, spelled_length work.kind.elem (wrapped work.kind.elem (sum_after work progress cells (lane_group_at work lanes progress))) false)

    sum_fits : work.kind.acc ≡ true → 0 + 1 ≤ (destination work).columns
    sum_fits with_sum =
        let some : 0 < work.vl = counts.elements in
        let one : min 1 work.vl ≡ 1 = omega arith in
        let columns : (destination work).columns ≡ 1 = cond-true work.kind.acc (min 1 work.vl) work.vl with_sum ∙ one in
        omega (arith, columns)

    sum_inside : work.kind.acc ≡ true → place_in (destination work) (lane_group_at work lanes progress).row 0 + length (spelled_sum work (sum_after work progress cells (lane_group_at work lanes progress))) ≤ length cells
    sum_inside with_sum =
        let end = group_end (destination work) (size_positive work.kind.elem) (lane_group_at work lanes progress).row 0 1 group_row (sum_fits with_sum) (length cells) inside (omega arith) in
        omega (arith, sum_long, end)

    -- ---- without
    columns_fit : work.kind.acc ≡ false → (lane_group_at work lanes progress).first + (lane_group_at work lanes progress).count ≤ (destination work).columns
    columns_fit no_sum = rw (columns_without_sum work no_sum) group_fits

    elements_long : work.kind.acc ≡ false → length (new_elements work cells (lane_group_at work lanes progress).row (lane_group_at work lanes progress).first (lane_group_at work lanes progress).count) ≡ (lane_group_at work lanes progress).count * size_of work.kind.elem
    elements_long no_sum = elements_length work no_sum cells inside (lane_group_at work lanes progress).row group_row (lane_group_at work lanes progress).first (lane_group_at work lanes progress).count group_fits

    elements_inside : work.kind.acc ≡ false → place_in (destination work) (lane_group_at work lanes progress).row (lane_group_at work lanes progress).first + length (new_elements work cells (lane_group_at work lanes progress).row (lane_group_at work lanes progress).first (lane_group_at work lanes progress).count) ≤ length cells
    elements_inside no_sum =
        let group = lane_group_at work lanes progress in
        let end = group_end (destination work) (size_positive work.kind.elem) group.row group.first group.count group_row (columns_fit no_sum) (length cells) inside group_some in
        omega (arith, elements_long no_sum, end)

    -- what a beat leaves is as long, and is the same outside the destination
    abbrev Keeps : List Cell → Type 0
    Keeps after = (length after ≡ length cells) × ((p : ℕ) → ¬ Covers (destination work) p → slice_get after p ≡ slice_get cells p)

    keeps_nothing_done : Keeps cells
    keeps_nothing_done = (refl, λ p outside. refl)

    keeps_sum : work.kind.acc ≡ true → Keeps (cells_after_sum work lanes progress cells)
    unfolding cells_after_sum
    keeps_sum with_sum =
        let group = lane_group_at work lanes progress in
        let new = spelled_sum work (sum_after work progress cells group) in
        let place = place_in (destination work) group.row 0 in
        let fits = sum_inside with_sum in
        let long : length (overwritten cells place new) ≡ length cells = overwritten_length cells place new fits in
        elim (cases_Bool (leb work.vl (group.first + group.count))) [
          | inl ends ↦ subst Keeps (sym (cond-true (leb work.vl (group.first + group.count)) (overwritten cells place new) cells ends))
              (long, λ p outside. same_slot (0, false) cells (overwritten cells place new) p long (kept_outside (destination work) (size_positive work.kind.elem) group.row 0 1 group_row (sum_fits with_sum) (0, false) cells new sum_long fits p outside))
          | inr goes_on ↦ subst Keeps (sym (cond-false (leb work.vl (group.first + group.count)) (overwritten cells place new) cells goes_on)) keeps_nothing_done
        ]

    keeps_group : work.kind.acc ≡ false → Keeps (cells_after_group work lanes progress cells)
    unfolding cells_after_group
    keeps_group no_sum =
        let group = lane_group_at work lanes progress in
        let new = new_elements work cells group.row group.first group.count in
        let place = place_in (destination work) group.row group.first in
        let fits = elements_inside no_sum in
        let long : length (overwritten cells place new) ≡ length cells = overwritten_length cells place new fits in
        (long, λ p outside. same_slot (0, false) cells (overwritten cells place new) p long (kept_outside (destination work) (size_positive work.kind.elem) group.row group.first group.count group_row (columns_fit no_sum) (0, false) cells new (elements_long no_sum) fits p outside))

    pub beat_keeps : (length (vector_beat work lanes progress cells) ≡ length cells) × ((p : ℕ) → ¬ Covers (destination work) p → slice_get (vector_beat work lanes progress cells) p ≡ slice_get cells p)
    beat_keeps =
        elim (cases_Bool work.kind.acc) [
          | inl with_sum ↦ subst Keeps (sym (cond-true work.kind.acc (cells_after_sum work lanes progress cells) (cells_after_group work lanes progress cells) with_sum)) (keeps_sum with_sum)
          | inr no_sum ↦ subst Keeps (sym (cond-false work.kind.acc (cells_after_sum work lanes progress cells) (cells_after_group work lanes progress cells) no_sum)) (keeps_group no_sum)
        ]

    -- ---- other cells that agree on what is read
    module _ (cells' : List Cell) (inside' : LiesBelow (destination work) (length cells')) (agree : (p : ℕ) → Reads (Vector work) (in_cells p) → slice_get cells' p ≡ slice_get cells p) where
      agree_at : (r j p : ℕ) → ReadsFor work r j p → slice_get cells' p ≡ slice_get cells p
      agree_at r j p read = agree p (reads_for_is_read work r j p read)

      same_elements : work.kind.acc ≡ false → (r j count : ℕ) → r < work.rows → j + count ≤ work.vl → new_elements work cells' r j count ≡ new_elements work cells r j count
      same_elements no_sum r j zero in_rows fits = refl
      same_elements no_sum r j (suc count) in_rows fits =
          ap (λ new. new ++ new_elements work cells' r (j + 1) count) (same_new_element work cells cells' r j in_rows (omega arith) (agree_at r j) no_sum)
          ∙ ap (λ rest. new_element work cells r j ++ rest) (same_elements no_sum r (j + 1) count in_rows (omega arith))

      same_sum_after : sum_after work progress cells' (lane_group_at work lanes progress) ≡ sum_after work progress cells (lane_group_at work lanes progress)
      same_sum_after =
          let group = lane_group_at work lanes progress in
          ap (λ sum. progress.sum +ℤ sum) (same_sum work cells cells' group.row group.first group.count group_row group_fits (λ i p from in_row read. agree_at group.row i p read))

      -- what is written lies in the other cells too
      sum_in_other : work.kind.acc ≡ true → place_in (destination work) (lane_group_at work lanes progress).row 0 + length (spelled_sum work (sum_after work progress cells (lane_group_at work lanes progress))) ≤ length cells'
      sum_in_other with_sum =
          let end = group_end (destination work) (size_positive work.kind.elem) (lane_group_at work lanes progress).row 0 1 group_row (sum_fits with_sum) (length cells') inside' (omega arith) in
          omega (arith, sum_long, end)

      elements_in_other : work.kind.acc ≡ false → place_in (destination work) (lane_group_at work lanes progress).row (lane_group_at work lanes progress).first + length (new_elements work cells (lane_group_at work lanes progress).row (lane_group_at work lanes progress).first (lane_group_at work lanes progress).count) ≤ length cells'
      elements_in_other no_sum =
          let group = lane_group_at work lanes progress in
          let end = group_end (destination work) (size_positive work.kind.elem) group.row group.first group.count group_row (columns_fit no_sum) (length cells') inside' group_some in
          omega (arith, elements_long no_sum, end)

      -- two lists change alike
      abbrev Alike : List Cell → List Cell → Type 0
      Alike after after' = (p : ℕ) → (Covers (destination work) p × (slice_get after' p ≡ slice_get after p)) ⊎ ((slice_get after p ≡ slice_get cells p) × (slice_get after' p ≡ slice_get cells' p))

      alike_sum : work.kind.acc ≡ true → Alike (cells_after_sum work lanes progress cells) (cells_after_sum work lanes progress cells')
      unfolding cells_after_sum
      alike_sum with_sum =
          let group = lane_group_at work lanes progress in
          let new = spelled_sum work (sum_after work progress cells group) in
          let new' = spelled_sum work (sum_after work progress cells' group) in
          let place = place_in (destination work) group.row 0 in
          let ends = leb work.vl (group.first + group.count) in
          let one : Alike (overwritten cells place new) (overwritten cells' place new) = group_alike (destination work) (size_positive work.kind.elem) group.row 0 1 group_row (sum_fits with_sum) (0, false) cells cells' new sum_long (sum_inside with_sum) (sum_in_other with_sum) in
          let both : Alike (overwritten cells place new) (overwritten cells' place new') = subst (λ sum. Alike (overwritten cells place new) (overwritten cells' place (spelled_sum work sum))) (sym same_sum_after) one in
          elim (cases_Bool ends) [
            | inl holds ↦ subst (λ after. Alike after (cond ends (overwritten cells' place new') cells')) (sym (cond-true ends (overwritten cells place new) cells holds)) (subst (Alike (overwritten cells place new)) (sym (cond-true ends (overwritten cells' place new') cells' holds)) both)
            | inr fails ↦ subst (λ after. Alike after (cond ends (overwritten cells' place new') cells')) (sym (cond-false ends (overwritten cells place new) cells fails)) (subst (Alike cells) (sym (cond-false ends (overwritten cells' place new') cells' fails)) (λ p. inr (refl, refl)))
          ]

      alike_group : work.kind.acc ≡ false → Alike (cells_after_group work lanes progress cells) (cells_after_group work lanes progress cells')
      unfolding cells_after_group
      alike_group no_sum =
          let group = lane_group_at work lanes progress in
          let new = new_elements work cells group.row group.first group.count in
          let place = place_in (destination work) group.row group.first in
          subst (λ other. Alike (overwritten cells place new) (overwritten cells' place other)) (sym (same_elements no_sum group.row group.first group.count group_row group_fits))
          (group_alike (destination work) (size_positive work.kind.elem) group.row group.first group.count group_row (columns_fit no_sum) (0, false) cells cells' new (elements_long no_sum) (elements_inside no_sum) (elements_in_other no_sum))

      pub beat_alike : (p : ℕ) → (Covers (destination work) p × (slice_get (vector_beat work lanes progress cells') p ≡ slice_get (vector_beat work lanes progress cells) p)) ⊎ ((slice_get (vector_beat work lanes progress cells) p ≡ slice_get cells p) × (slice_get (vector_beat work lanes progress cells') p ≡ slice_get cells' p))
      beat_alike =
          let acc = work.kind.acc in
          let by_sum = cells_after_sum work lanes progress cells in
          let by_sum' = cells_after_sum work lanes progress cells' in
          let by_group = cells_after_group work lanes progress cells in
          let by_group' = cells_after_group work lanes progress cells' in
          elim (cases_Bool acc) [
            | inl holds ↦ subst (λ after. Alike after (cond acc by_sum' by_group')) (sym (cond-true acc by_sum by_group holds)) (subst (Alike by_sum) (sym (cond-true acc by_sum' by_group' holds)) (alike_sum holds))
            | inr fails ↦ subst (λ after. Alike after (cond acc by_sum' by_group')) (sym (cond-false acc by_sum by_group fails)) (subst (Alike by_group) (sym (cond-false acc by_sum' by_group' fails)) (alike_group fails))
          ]

      same_left : sum_left work lanes progress cells' ≡ sum_left work lanes progress cells
      unfolding sum_left
      same_left = ap (λ sum. cond (leb work.vl ((lane_group_at work lanes progress).first + (lane_group_at work lanes progress).count)) (pos 0) sum) same_sum_after

      pub same_progress : progress_after work lanes progress cells' ≡ progress_after work lanes progress cells
      same_progress =
          let made : ℤ → Progress = λ sum. record { done = progress.done + 1; sum = cond work.kind.acc sum (pos 0) } in
          ap made same_left
