-- A beat of the work under way is the definition's.
use Rattle.std.proofs.Common.{◌≡◌, ℕ, ◌+◌, ◌-◌, ap, sym, ◌∙◌, arith, List, true, false, leb, cond, Bool, ℤ, pos, ◌+ℤ◌, inl, inr, refl}
use Rattle.std.specs.Prelude.{if◌then◌else◌}
use Rattle.std.proofs.lemmas.Bool.{cases_Bool, cond-true, cond-false, le-leb, lt-leb}
use Rattle.venice_isa.specs.declared.work.VecWork.{VecWork}
use Rattle.ven_base.specs.Cell.{Cell}
use Rattle.venice_isa.specs.Cell.{overwritten}
use Rattle.venice_isa.specs.Region.{place_in}
use Rattle.venice_isa.specs.Footprint.{destination}
use Rattle.venice_isa.specs.Whole.{sum_of_results, spelled_sum}
use Rattle.venice_isa.specs.Beat.{Progress, lane_group_items, group_at, lane_group_at, new_elements, sum_after, cells_after_sum, sum_left, cells_after_group, vector_beat, progress_after}
use Rattle.lane_machine.specs.declared.current.Current.{Current}
use Rattle.lane_machine.specs.Current.{IsAt, IsNext, next_count, progress_of}

module _ (lanes : ℕ) (work : VecWork) (current : Current) (at : IsAt work current) (on : current.group_items ≡ lane_group_items work.kind lanes) where
  row_is : current.row ≡ (lane_group_at work lanes (progress_of current)).row
  row_is = at.come.row_is ∙ ap (λ group. (group_at work.vl group current.done).row) on

  first_is : current.first ≡ (lane_group_at work lanes (progress_of current)).first
  first_is = at.come.first_is ∙ ap (λ group. (group_at work.vl group current.done).first) on

  pub count_same : next_count work current ≡ (lane_group_at work lanes (progress_of current)).count
  count_same = omega (arith, on, first_is)

  -- the row's sum with the group's results
  pub sum_same : (cells : List Cell) (part : ℤ) → part ≡ sum_of_results work cells current.row current.first (next_count work current) → current.sum +ℤ part ≡ sum_after work (progress_of current) cells (lane_group_at work lanes (progress_of current))
  sum_same cells part is =
      let group = lane_group_at work lanes (progress_of current) in
      ap (λ part. current.sum +ℤ part)
      (is ∙ ap (λ r. sum_of_results work cells r current.first (next_count work current)) row_is ∙ ap (λ first. sum_of_results work cells group.row first (next_count work current)) first_is ∙ ap (sum_of_results work cells group.row group.first) count_same)

  -- with accumulate, at the row's last beat
  pub sum_beat_ends : (cells : List Cell) (sum : ℤ) → work.kind.acc ≡ true → work.vl - current.first ≡ next_count work current → sum ≡ sum_after work (progress_of current) cells (lane_group_at work lanes (progress_of current)) → overwritten cells (place_in (destination work) current.row 0) (spelled_sum work sum) ≡ vector_beat work lanes (progress_of current) cells
  unfolding cells_after_sum
  sum_beat_ends cells sum with_sum ends is =
      let group = lane_group_at work lanes (progress_of current) in
      let reached : leb work.vl (group.first + group.count) ≡ true = le-leb work.vl (group.first + group.count) (omega (arith, first_is, count_same)) in
      let whole = sum_after work (progress_of current) cells group in
      ap (λ sum. overwritten cells (place_in (destination work) current.row 0) (spelled_sum work sum)) is
      ∙ ap (λ r. overwritten cells (place_in (destination work) r 0) (spelled_sum work whole)) row_is
      ∙ sym (cond-true (leb work.vl (group.first + group.count)) (overwritten cells (place_in (destination work) group.row 0) (spelled_sum work whole)) cells reached)
      ∙ sym (cond-true work.kind.acc (cells_after_sum work lanes (progress_of current) cells) (cells_after_group work lanes (progress_of current) cells) with_sum)

  -- and before it
  pub sum_beat_goes_on : (cells : List Cell) → work.kind.acc ≡ true → ¬ (work.vl - current.first ≡ next_count work current) → cells ≡ vector_beat work lanes (progress_of current) cells
  unfolding cells_after_sum
  sum_beat_goes_on cells with_sum goes_on =
      let group = lane_group_at work lanes (progress_of current) in
      let whole = sum_after work (progress_of current) cells group in
      let before : leb work.vl (group.first + group.count) ≡ false = lt-leb work.vl (group.first + group.count) (omega (arith, first_is, count_same, goes_on, at.placed.in_row)) in
      sym (cond-false (leb work.vl (group.first + group.count)) (overwritten cells (place_in (destination work) group.row 0) (spelled_sum work whole)) cells before)
      ∙ sym (cond-true work.kind.acc (cells_after_sum work lanes (progress_of current) cells) (cells_after_group work lanes (progress_of current) cells) with_sum)

  -- without accumulate
  pub group_beat : (cells : List Cell) → work.kind.acc ≡ false → overwritten cells (place_in (destination work) current.row current.first) (new_elements work cells current.row current.first (next_count work current)) ≡ vector_beat work lanes (progress_of current) cells
  unfolding cells_after_group
  group_beat cells no_sum =
      let group = lane_group_at work lanes (progress_of current) in
      let written : ℕ → ℕ → ℕ → List Cell = λ r first count. overwritten cells (place_in (destination work) r first) (new_elements work cells r first count) in
      ap (λ r. written r current.first (next_count work current)) row_is
      ∙ ap (λ first. written group.row first (next_count work current)) first_is
      ∙ ap (written group.row group.first) count_same
      ∙ sym (cond-false work.kind.acc (cells_after_sum work lanes (progress_of current) cells) (cells_after_group work lanes (progress_of current) cells) no_sum)

-- ---- progress

no_choice : (b : Bool) → cond b (pos 0) (pos 0) ≡ pos 0
no_choice true = refl
no_choice false = refl

-- the work's progress after a beat that wasn't its last is the definition's
pub progress_on : (lanes : ℕ) (work : VecWork) (current next : Current) (cells : List Cell) (sum : ℤ) → IsAt work current → current.group_items ≡ lane_group_items work.kind lanes → sum ≡ (if work.kind.acc then sum_after work (progress_of current) cells (lane_group_at work lanes (progress_of current)) else pos 0) → IsNext work current sum next → progress_of next ≡ progress_after work lanes (progress_of current) cells
unfolding sum_left
progress_on lanes work current next cells sum at same_group is on =
    let group = lane_group_at work lanes (progress_of current) in
    let made : ℕ → ℤ → Progress = λ done sum. record { done = done; sum = sum } in
    let ended = leb work.vl (group.first + group.count) in
    let whole = sum_after work (progress_of current) cells group in
    let turned : leb work.vl (current.first + next_count work current) ≡ ended = ap (λ first. leb work.vl (first + next_count work current)) (first_is lanes work current at same_group) ∙ ap (λ count. leb work.vl (group.first + count)) (count_same lanes work current at same_group) in
    let left : next.sum ≡ (if ended then pos 0 else sum) = on.sum_is ∙ ap (λ b. cond b (pos 0) sum) turned in
    let same : (if ended then pos 0 else sum) ≡ (if work.kind.acc then (if ended then pos 0 else whole) else pos 0) =
    elim (cases_Bool work.kind.acc) [
      | inl with_sum ↦ ap (λ sum. cond ended (pos 0) sum) (is ∙ cond-true work.kind.acc whole (pos 0) with_sum) ∙ sym (cond-true work.kind.acc (cond ended (pos 0) whole) (pos 0) with_sum)
      | inr no_sum ↦ ap (λ sum. cond ended (pos 0) sum) (is ∙ cond-false work.kind.acc whole (pos 0) no_sum) ∙ no_choice ended ∙ sym (cond-false work.kind.acc (cond ended (pos 0) whole) (pos 0) no_sum)
    ] in
    ap (λ done. made done next.sum) on.done_is ∙ ap (made (current.done + 1)) (left ∙ same)
