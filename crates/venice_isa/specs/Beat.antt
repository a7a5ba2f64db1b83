-- How works go beat by beat: the size and the place of each beat, what it does, and all of them.
use Rattle.std.specs.Prelude.{ℕ, zero, suc, ◌+◌, ◌-◌, ◌*◌, ◌/◌, ◌%◌, min, max, ℤ, pos, ◌+ℤ◌, List, [], ◌∷◌, ◌++◌, nat_le, if◌then◌else◌}
use Rattle.std.specs.Int.{div_ceil}
use Rattle.ven_base.specs.Elem.{size_of}
use Rattle.venice_isa.specs.declared.kind.VecKind.{VecKind}
use Rattle.venice_isa.specs.declared.work.VecWork.{VecWork}
use Rattle.venice_isa.specs.declared.work.DmaWork.{DmaWork}
use Rattle.venice_isa.specs.declared.issue.Issue.{Issue}
use Rattle.venice_isa.specs.declared.issue.Issue.TheVariants.{Vector, Read, Write}
use Rattle.ven_base.specs.Cell.{Cell}
use Rattle.ven_base.specs.Store.{Store}
use Rattle.ven_base.specs.Job.{Course, beats_on}
use Rattle.venice_isa.specs.Cell.{byte_of, clear, overwritten}
use Rattle.venice_isa.specs.Region.{place_in}
use Rattle.venice_isa.specs.Footprint.{destination, cells_of, memory_of}
use Rattle.venice_isa.specs.Whole.{new_element, sum_of_results, spelled_sum}
use Rattle.venice_isa.specs.Copy.{with_bytes_copied}

-- a work's progress: the number of its beats done and, with accumulate, the exact sum of the row so
-- far, which is 0 again after the row's last beat
pub record Progress : Type 0 where
  pub done : ℕ
  pub sum : ℤ

abbrev pub not_begun : Progress
not_begun = record { done = 0; sum = pos 0 }

-- ---- the place of a beat

-- a part of a row: so many of its items, from the first on
pub record Group : Type 0 where
  pub row : ℕ
  pub first : ℕ
  pub count : ℕ

-- how many beats a row takes, where a beat takes so many items
abbrev pub beats_of_row : (items group_items : ℕ) → ℕ
beats_of_row items group_items = div_ceil items group_items

-- what beat n takes, from 0: the next items of the current row, or the row's rest
abbrev pub group_at : (items group_items n : ℕ) → Group
group_at items group_items n =
    let beats = beats_of_row items group_items in
    let first = (n % beats) * group_items in
    record { row = n / beats; first = first; count = min group_items (items - first) }

-- how many elements a beat of the lanes takes: 4 bytes a lane, by the greater of the two sizes of a cast
abbrev pub lane_group_items : VecKind → ℕ → ℕ
lane_group_items kind lanes = (4 * lanes) / max (size_of kind.elem) (size_of kind.from)

-- a beat of a channel takes 16 bytes
abbrev pub channel_group_bytes : ℕ
channel_group_bytes = 16

-- how many beats a work takes; a wait takes none
abbrev pub vector_beats : VecWork → ℕ → ℕ
vector_beats work lanes = work.rows * beats_of_row work.vl (lane_group_items work.kind lanes)

abbrev pub transfer_beats : DmaWork → ℕ
transfer_beats work = work.rows * beats_of_row work.bytes channel_group_bytes

abbrev pub beats_of : Issue → ℕ → ℕ
beats_of (Vector work) lanes = vector_beats work lanes
beats_of (Read work) lanes = transfer_beats work
beats_of (Write work) lanes = transfer_beats work
beats_of _ lanes = 0

-- how many beats the works of a list have together
abbrev pub beats_of_all : List Issue → (lanes : ℕ) → ℕ
beats_of_all [] lanes = 0
beats_of_all (issue ∷ issues) lanes = beats_of issue lanes + beats_of_all issues lanes

-- ---- a beat of the lanes

-- the cells that so many elements of row r get, from element j on
abbrev pub new_elements : VecWork → List Cell → ℕ → ℕ → ℕ → List Cell
new_elements work cells r j zero = []
new_elements work cells r j (suc count) = new_element work cells r j ++ new_elements work cells r (j + 1) count

-- the group of the beat that comes next
abbrev pub lane_group_at : VecWork → ℕ → Progress → Group
lane_group_at work lanes progress = group_at work.vl (lane_group_items work.kind lanes) progress.done

-- the row's sum with the group's results
abbrev pub sum_after : VecWork → Progress → List Cell → Group → ℤ
sum_after work progress cells group = progress.sum +ℤ sum_of_results work cells group.row group.first group.count

-- with accumulate: the row's sum goes to its element at the row's last beat, and is 0 again
unfoldable pub cells_after_sum : VecWork → ℕ → Progress → List Cell → List Cell
cells_after_sum work lanes progress cells =
    let group = lane_group_at work lanes progress in
    if nat_le work.vl (group.first + group.count)
    then overwritten cells (place_in (destination work) group.row 0)
    (spelled_sum work (sum_after work progress cells group))
    else cells

unfoldable pub sum_left : VecWork → ℕ → Progress → List Cell → ℤ
sum_left work lanes progress cells =
    let group = lane_group_at work lanes progress in
    if nat_le work.vl (group.first + group.count) then pos 0 else sum_after work progress cells group

-- without: each element of the group gets its result
unfoldable pub cells_after_group : VecWork → ℕ → Progress → List Cell → List Cell
cells_after_group work lanes progress cells =
    let group = lane_group_at work lanes progress in
    overwritten cells (place_in (destination work) group.row group.first)
    (new_elements work cells group.row group.first group.count)

-- the cells after the next beat: all sources of the group are read before it is written
abbrev pub vector_beat : VecWork → ℕ → Progress → List Cell → List Cell
vector_beat work lanes progress cells =
    if work.kind.acc then cells_after_sum work lanes progress cells else cells_after_group work lanes progress cells

-- the progress after the next beat
abbrev pub progress_after : VecWork → ℕ → Progress → List Cell → Progress
progress_after work lanes progress cells = record {
  done = progress.done + 1;
  sum = if work.kind.acc then sum_left work lanes progress cells else pos 0;
}

-- ---- a beat of a channel

unfoldable pub read_beat : DmaWork → ℕ → Store → List Cell
read_beat work done store =
    let group = group_at work.bytes channel_group_bytes done in
    with_bytes_copied clear (memory_of work) (cells_of work) store.memory group.row group.first group.count store.cells

unfoldable pub write_beat : DmaWork → ℕ → Store → List ℕ
write_beat work done store =
    let group = group_at work.bytes channel_group_bytes done in
    with_bytes_copied byte_of (cells_of work) (memory_of work)
    store.cells group.row group.first group.count store.memory

-- ---- beats of any work

-- cells and memory after the next beat
abbrev pub beat : Issue → ℕ → Progress → Store → Store
beat (Vector work) lanes progress store = record store { cells = vector_beat work lanes progress store.cells }
beat (Read work) lanes progress store = record store { cells = read_beat work progress.done store }
beat (Write work) lanes progress store = record store { memory = write_beat work progress.done store }
beat _ lanes progress store = store

-- the progress after the next beat
abbrev pub next_progress : Issue → ℕ → Progress → Store → Progress
next_progress (Vector work) lanes progress store = progress_after work lanes progress store.cells
next_progress (Read work) lanes progress store = record { done = progress.done + 1; sum = pos 0 }
next_progress (Write work) lanes progress store = record { done = progress.done + 1; sum = pos 0 }
next_progress _ lanes progress store = progress

-- how works go on so many lanes
abbrev pub course_of : ℕ → Course Issue Progress
course_of lanes = record {
  not_begun = not_begun;
  beats = λ issue. beats_of issue lanes;
  done = λ progress. progress.done;
  store_after = λ issue. beat issue lanes;
  progress_after = λ issue. next_progress issue lanes;
}

-- so many beats, one after another
abbrev pub after_beats : ℕ → Issue → ℕ → Progress → Store → Store
after_beats count issue lanes progress store =
    beats_on (course_of lanes) count (record { work = issue; progress = progress }) store

-- all beats of a work
unfoldable pub after_all_beats : Issue → ℕ → Store → Store
after_all_beats issue lanes store = after_beats (beats_of issue lanes) issue lanes not_begun store

-- all beats of each work of a list, one work after another; a wait has none
abbrev pub sequential : List Issue → ℕ → Store → Store
sequential [] lanes store = store
sequential (issue ∷ issues) lanes store = sequential issues lanes (after_all_beats issue lanes store)
