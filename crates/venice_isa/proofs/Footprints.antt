-- The next beat of any work keeps to its footprint.
use Rattle.std.proofs.Common.{◌≡◌, ◌⊎◌, inl, inr, ℕ, ◌+◌, ◌*◌, ◌<◌, ◌≤◌, sym, refl, subst, ap, ◌∙◌, arith, List, length, drop, map, slice_get, Option, Some, None, option_map, false}
use Rattle.std.proofs.lemmas.Bool.{cases_eq}
use Rattle.std.proofs.lemmas.List.{same_lists, get_or-take, get_or-drop, length-map}
use Rattle.std.proofs.lemmas.Option.{unwrap_or-slice_get, same_Some, none-some}
use Rattle.std.specs.Option.{unwrap_or}
use Rattle.ven_base.specs.Cell.{Cell}
use Rattle.ven_base.specs.Store.{Place, in_cells, in_memory, content_at, Store, store_size, IsInRange, AgreeOn, ChangeAlike}
use Rattle.ven_base.specs.Job.{Job, IsReady, KeepsToFootprint}
use Rattle.venice_isa.specs.declared.issue.Issue.{Issue}
use Rattle.venice_isa.specs.declared.issue.Issue.TheVariants.{Vector, Read, Write}
use Rattle.venice_isa.specs.declared.work.VecWork.{VecWork}
use Rattle.venice_isa.specs.declared.work.DmaWork.{DmaWork}
use Rattle.venice_isa.specs.declared.region.Region.{Region}
use Rattle.venice_isa.specs.Region.{place_in, Covers, LiesBelow}
use Rattle.venice_isa.specs.Footprint.{destination, cells_of, memory_of, Reads, Writes}
use Rattle.venice_isa.specs.Whole.{HasCounts}
use Rattle.venice_isa.specs.Copy.{with_bytes_copied}
use Rattle.venice_isa.specs.Cell.{clear, byte_of, part, overwritten}
use Rattle.venice_isa.specs.Beat.{Progress, beats_of_row, lane_group_items, channel_group_bytes, group_at, beat, read_beat, write_beat, course_of}
use Rattle.venice_isa.specs.Laws.{NextBeatKeepsToFootprint}
use Rattle.venice_isa.proofs.Beats.{some_group}
use Rattle.venice_isa.proofs.Counts.{first_below, row_below}
use Rattle.venice_isa.proofs.Overwrites.{overwritten_length}
use Rattle.venice_isa.proofs.OneBeat.{beat_keeps, beat_alike, same_progress, group_end, group_alike, covers_group}
use Rattle.venice_isa.proofs.Wholes.{part_length}

-- ---- counts

rows_and_items : (rows items group done : ℕ) → 0 < group → done < rows * beats_of_row items group → (0 < rows) × (0 < items)
rows_and_items rows items group done some_group below =
    let beats = beats_of_row items group in
    elim (cases_eq rows 0) [
      | inl none ↦ absurd (omega (arith, ap (λ n. n * beats) none))
      | inr some ↦ elim (cases_eq items 0) [
        | inl none ↦
            let no_beats : beats ≡ 0 = omega arith in
            absurd (omega (arith, ap (λ n. rows * n) no_beats))
        | inr more ↦ (omega arith, omega arith)
      ]
    ]

-- ---- equal parts

same_part : {A : Type 0} (d : A) (xs ys : List A) (place count : ℕ) → place + count ≤ length xs → place + count ≤ length ys → ((p : ℕ) → place ≤ p → p < place + count → slice_get ys p ≡ slice_get xs p)
    → part ys place count ≡ part xs place count
same_part d xs ys place count inside inside' same =
    same_lists (part ys place count) (part xs place count) (omega (arith, part_length xs place count, part_length ys place count))
    (λ k e below.
    let in_count : k < count = omega (arith, part_length ys place count) in
    get_or-take count (drop place ys) k e in_count
    ∙ get_or-drop place ys k e
    ∙ sym (unwrap_or-slice_get ys (place + k) e)
    ∙ ap (λ slot. unwrap_or slot e) (same (place + k) (omega arith) (omega arith))
    ∙ unwrap_or-slice_get xs (place + k) e
    ∙ sym (get_or-drop place xs k e)
    ∙ sym (get_or-take count (drop place xs) k e in_count))

-- ---- a beat of a channel, whichever way

module _ {A B : Type 0} (copy : A → B) (a : A) (b : B) (from to : Region) (from_bytes : from.size ≡ 1) (to_bytes : to.size ≡ 1) (same_rows : from.rows ≡ to.rows) (same_columns : from.columns ≡ to.columns)
    (r first count : ℕ) (row : r < to.rows) (fits : first + count ≤ to.columns) (some : 0 < count)
    (source source' : List A) (target target' : List B) (from_inside : LiesBelow from (length source)) (from_inside' : LiesBelow from (length source')) (to_inside : LiesBelow to (length target)) (to_inside' : LiesBelow to (length target'))
    (agree : (p : ℕ) → Covers from p → slice_get source' p ≡ slice_get source p) where
  from_end : (items : List A) → LiesBelow from (length items) → place_in from r first + count ≤ length items
  from_end items inside =
      let width : count * from.size ≡ count * 1 = ap (λ n. count * n) from_bytes in
      omega (arith, group_end from (omega arith) r first count (omega arith) (omega arith) (length items) inside some)

  to_end : (items : List B) → LiesBelow to (length items) → place_in to r first + count ≤ length items
  to_end items inside =
      let width : count * to.size ≡ count * 1 = ap (λ n. count * n) to_bytes in
      omega (arith, group_end to (omega arith) r first count row fits (length items) inside some)

  new : List A → List B
  new source = map copy (part source (place_in from r first) count)

  new_long : length (new source) ≡ count
  unfolding new
  new_long = let end = from_end source from_inside in omega (arith, length-map (part source (place_in from r first) count) copy, part_length source (place_in from r first) count)

  same_new : new source' ≡ new source
  unfolding new
  same_new =
      let width : count * from.size ≡ count * 1 = ap (λ n. count * n) from_bytes in
      ap (map copy) (same_part a source source' (place_in from r first) count (from_end source from_inside) (from_end source' from_inside')
      (λ p low high. agree p (covers_group from (omega arith) r first count (omega arith) (omega arith) p low (omega arith))))

  pub copied_long : length (with_bytes_copied copy from to source r first count target) ≡ length target
  unfolding new
  copied_long = let end = to_end target to_inside in overwritten_length target (place_in to r first) (new source) (omega (arith, new_long))

  pub copied_alike : (p : ℕ) → (Covers to p × (slice_get (with_bytes_copied copy from to source' r first count target') p ≡ slice_get (with_bytes_copied copy from to source r first count target) p))
      ⊎ ((slice_get (with_bytes_copied copy from to source r first count target) p ≡ slice_get target p) × (slice_get (with_bytes_copied copy from to source' r first count target') p ≡ slice_get target' p))
  unfolding new
  copied_alike p =
      let end = to_end target to_inside in
      let end' = to_end target' to_inside' in
      let width : count * to.size ≡ count * 1 = ap (λ n. count * n) to_bytes in
      subst (λ items. (Covers to p × (slice_get (overwritten target' (place_in to r first) items) p ≡ slice_get (overwritten target (place_in to r first) (new source)) p))
      ⊎ ((slice_get (overwritten target (place_in to r first) (new source)) p ≡ slice_get target p) × (slice_get (overwritten target' (place_in to r first) items) p ≡ slice_get target' p)))
      (sym same_new)
      (group_alike to (omega arith) r first count row fits b target target' (new source) (omega (arith, new_long)) (omega (arith, new_long)) (omega (arith, new_long)) p)

-- ---- any work

-- a byte of memory is what stands at its place
same_byte : (x y : Option ℕ) → option_map clear x ≡ option_map clear y → x ≡ y
same_byte None None same = refl
same_byte None (Some y) same = absurd (none-some (clear y) same)
same_byte (Some x) None same = absurd (none-some (clear x) (sym same))
same_byte (Some x) (Some y) same = ap (λ (cell : Cell). Some cell.0) (same_Some (clear x) (clear y) same)

-- how one place changes in two stores
abbrev AlikeAt : (places : Place → Type 0) → (first first_after second second_after : Store) → Place → Type 0
AlikeAt places first first_after second second_after place =
    (places place × (content_at second_after place ≡ content_at first_after place))
    ⊎ ((content_at first_after place ≡ content_at first place) × (content_at second_after place ≡ content_at second place))

by_places : (places : Place → Type 0) (first first_after second second_after : Store) → ((p : ℕ) → AlikeAt places first first_after second second_after (in_cells p)) → ((p : ℕ) → AlikeAt places first first_after second second_after (in_memory p))
    → ChangeAlike places first first_after second second_after
by_places places first first_after second second_after cells memory (in_cells p) = cells p
by_places places first first_after second second_after cells memory (in_memory p) = memory p

abbrev job_of : Issue → Progress → Job Issue Progress
job_of issue progress = record { work = issue; progress = progress }

module _ (lanes : ℕ) (some_lanes : 0 < lanes) where
  vector_keeps : (work : VecWork) (progress : Progress) (first second : Store) → IsReady (course_of lanes) Reads Writes (job_of (Vector work) progress) (store_size first) → IsReady (course_of lanes) Reads Writes (job_of (Vector work) progress) (store_size second) → AgreeOn (Reads (Vector work)) first second
      → KeepsToFootprint (course_of lanes) Writes (job_of (Vector work) progress) first second
  vector_keeps work progress first second ready ready' agree =
      let more = ready.more in
      let counts' = rows_and_items work.rows work.vl (lane_group_items work.kind lanes) progress.done (some_group work lanes some_lanes) more in
      let counts : HasCounts work = record { elements = counts'.1; rows = counts'.0 } in
      let inside : LiesBelow (destination work) (length first.cells) = λ p covers. ready.in_range.has_writes (in_cells p) covers in
      let inside' : LiesBelow (destination work) (length second.cells) = λ p covers. ready'.in_range.has_writes (in_cells p) covers in
      let agree' : (p : ℕ) → Reads (Vector work) (in_cells p) → slice_get second.cells p ≡ slice_get first.cells p = λ p reads. agree (in_cells p) reads in
      let kept = (beat_keeps work lanes progress some_lanes counts more first.cells inside).0 in
      record {
        same_size = λ i. record { cells = kept i; memory = length first.memory };
        comes_nearer = refl;
        same_progress = same_progress work lanes progress some_lanes counts more first.cells inside second.cells inside' agree';
        alike = by_places (Writes (Vector work)) first (beat (Vector work) lanes progress first) second (beat (Vector work) lanes progress second)
            (beat_alike work lanes progress some_lanes counts more first.cells inside second.cells inside' agree') (λ p. inr (refl, refl));
      }

  -- ---- transfers
  module _ (work : DmaWork) (progress : Progress) (first second : Store) (more : progress.done < work.rows * beats_of_row work.bytes channel_group_bytes) where
    items : 0 < work.bytes
    items = (rows_and_items work.rows work.bytes 16 progress.done (omega arith) more).1

    row : (group_at work.bytes channel_group_bytes progress.done).row < work.rows
    row = row_below work.bytes 16 items (omega arith) work.rows progress.done more

    begins : (group_at work.bytes channel_group_bytes progress.done).first < work.bytes
    begins = first_below work.bytes 16 items (omega arith) progress.done

    fits : (group_at work.bytes channel_group_bytes progress.done).first + (group_at work.bytes channel_group_bytes progress.done).count ≤ work.bytes
    fits = let b = begins in omega arith

    some : 0 < (group_at work.bytes channel_group_bytes progress.done).count
    some = let b = begins in omega arith

    read_keeps : IsInRange (Reads (Read work)) (Writes (Read work)) (store_size first) → IsInRange (Reads (Read work)) (Writes (Read work)) (store_size second) → AgreeOn (Reads (Read work)) first second → KeepsToFootprint (course_of lanes) Writes (job_of (Read work) progress) first second
    unfolding read_beat
    read_keeps in_range in_range' agree =
        let group = group_at work.bytes channel_group_bytes progress.done in
        let from_inside : LiesBelow (memory_of work) (length first.memory) = λ p covers. in_range.has_reads (in_memory p) covers in
        let to_inside : LiesBelow (cells_of work) (length first.cells) = λ p covers. in_range.has_writes (in_cells p) covers in
        let from_inside' : LiesBelow (memory_of work) (length second.memory) = λ p covers. in_range'.has_reads (in_memory p) covers in
        let to_inside' : LiesBelow (cells_of work) (length second.cells) = λ p covers. in_range'.has_writes (in_cells p) covers in
        let agree' : (p : ℕ) → Covers (memory_of work) p → slice_get second.memory p ≡ slice_get first.memory p = λ p covers. same_byte _ _ (agree (in_memory p) covers) in
        let long = copied_long clear 0 (0, false) (memory_of work) (cells_of work) refl refl refl refl group.row group.first group.count row fits some first.memory second.memory first.cells second.cells from_inside from_inside' to_inside to_inside' agree' in
        record {
          same_size = λ i. record { cells = long i; memory = length first.memory };
          comes_nearer = refl;
          same_progress = refl;
          alike = by_places (Writes (Read work)) first (beat (Read work) lanes progress first) second (beat (Read work) lanes progress second)
              (copied_alike clear 0 (0, false) (memory_of work) (cells_of work) refl refl refl refl group.row group.first group.count row fits some first.memory second.memory first.cells second.cells from_inside from_inside' to_inside to_inside' agree')
              (λ p. inr (refl, refl));
        }

    bytes_alike : {P : Type 0} (x x' y y' : Option ℕ) → (P × (y' ≡ x')) ⊎ ((x' ≡ x) × (y' ≡ y)) → (P × (option_map clear y' ≡ option_map clear x')) ⊎ ((option_map clear x' ≡ option_map clear x) × (option_map clear y' ≡ option_map clear y))
    bytes_alike x x' y y' alike = elim alike [ inl same ↦ inl (same.0, ap (option_map clear) same.1) | inr left ↦ inr (ap (option_map clear) left.0, ap (option_map clear) left.1) ]

    write_keeps : IsInRange (Reads (Write work)) (Writes (Write work)) (store_size first) → IsInRange (Reads (Write work)) (Writes (Write work)) (store_size second) → AgreeOn (Reads (Write work)) first second → KeepsToFootprint (course_of lanes) Writes (job_of (Write work) progress) first second
    unfolding write_beat
    write_keeps in_range in_range' agree =
        let group = group_at work.bytes channel_group_bytes progress.done in
        let from_inside : LiesBelow (cells_of work) (length first.cells) = λ p covers. in_range.has_reads (in_cells p) covers in
        let to_inside : LiesBelow (memory_of work) (length first.memory) = λ p covers. in_range.has_writes (in_memory p) covers in
        let from_inside' : LiesBelow (cells_of work) (length second.cells) = λ p covers. in_range'.has_reads (in_cells p) covers in
        let to_inside' : LiesBelow (memory_of work) (length second.memory) = λ p covers. in_range'.has_writes (in_memory p) covers in
        let agree' : (p : ℕ) → Covers (cells_of work) p → slice_get second.cells p ≡ slice_get first.cells p = λ p covers. agree (in_cells p) covers in
        let long = copied_long byte_of (0, false) 0 (cells_of work) (memory_of work) refl refl refl refl group.row group.first group.count row fits some first.cells second.cells first.memory second.memory from_inside from_inside' to_inside to_inside' agree' in
        record {
          same_size = λ i. record { cells = length first.cells; memory = long i };
          comes_nearer = refl;
          same_progress = refl;
          alike = by_places (Writes (Write work)) first (beat (Write work) lanes progress first) second (beat (Write work) lanes progress second)
              (λ p. inr (refl, refl))
              (λ p. bytes_alike _ _ _ _ (copied_alike byte_of (0, false) 0 (cells_of work) (memory_of work) refl refl refl refl group.row group.first group.count row fits some first.cells second.cells first.memory second.memory from_inside from_inside' to_inside to_inside' agree' p));
        }

  next_beat_keeps : (issue : Issue) (progress : Progress) (first second : Store) → IsReady (course_of lanes) Reads Writes (job_of issue progress) (store_size first) → IsReady (course_of lanes) Reads Writes (job_of issue progress) (store_size second) → AgreeOn (Reads issue) first second
      → KeepsToFootprint (course_of lanes) Writes (job_of issue progress) first second
  next_beat_keeps (Vector work) progress first second ready ready' agree = vector_keeps work progress first second ready ready' agree
  next_beat_keeps (Read work) progress first second ready ready' agree = read_keeps work progress first second ready.more ready.in_range ready'.in_range agree
  next_beat_keeps (Write work) progress first second ready ready' agree = write_keeps work progress first second ready.more ready.in_range ready'.in_range agree
  next_beat_keeps issue progress first second ready ready' agree = let more = ready.more in absurd (omega arith)

pub beats_keep : NextBeatKeepsToFootprint
beats_keep lanes job first second some_lanes ready = next_beat_keeps lanes some_lanes job.work job.progress first second ready
