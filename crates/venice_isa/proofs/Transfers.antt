-- The beats of a transfer together are its copy.
use Rattle.std.proofs.Common.{◌≡◌, ℕ, zero, suc, ◌+◌, ◌*◌, ◌/◌, ◌%◌, ◌<◌, ◌≤◌, inl, inr, ap, sym, ◌∙◌, refl, arith, lit<, List, ◌++◌, length, take, drop, map, false, pos, append_assoc}
use Rattle.std.proofs.Math.Seq.{take-add}
use Rattle.std.proofs.lemmas.Bool.{cases_lt}
use Rattle.std.proofs.lemmas.Nat.{div-mul-add, mod-mul-add}
use Rattle.std.proofs.lemmas.List.{length-map, length-append, length-take-le, take_at, drop_at, drop-drop, map-append}
use Rattle.venice_isa.specs.declared.work.DmaWork.{DmaWork}
use Rattle.venice_isa.specs.declared.region.Region.{Region}
use Rattle.venice_isa.specs.declared.issue.Issue.TheVariants.{Read, Write}
use Rattle.ven_base.specs.Cell.{Cell}
use Rattle.ven_base.specs.Store.{Store, in_cells, in_memory, store_size, IsInRange}
use Rattle.venice_isa.specs.Cell.{byte_of, clear, part, overwritten}
use Rattle.venice_isa.specs.Region.{place_in, LiesBelow}
use Rattle.venice_isa.specs.Footprint.{cells_of, memory_of, Reads, Writes}
use Rattle.venice_isa.specs.Copy.{with_bytes_copied, with_rows_copied, read_into, written_back}
use Rattle.venice_isa.specs.Does.{DoesOne}
use Rattle.venice_isa.specs.Beat.{Progress, not_begun, channel_group_bytes, transfer_beats, beats_of_row, group_at, read_beat, write_beat, after_beats, after_all_beats}
use Rattle.venice_isa.proofs.Wholes.{part_length}
use Rattle.venice_isa.proofs.Overwrites.{overwritten_nothing}
use Rattle.venice_isa.proofs.Counts.{some_beats, first_below, row_below, next_beat}
use Rattle.venice_isa.proofs.Copies.{row_end, rows_length, rows_of_nothing}

-- ---- one part after another

-- a part and the part behind it
parts_join : {A : Type 0} (items : List A) (place m n : ℕ) → part items place m ++ part items (place + m) n ≡ part items place (m + n)
parts_join items place m n = sym (take-add m n (drop place items) ∙ ap (λ rest. take m (drop place items) ++ take n rest) (drop-drop m place items))

-- to overwrite a part and then the part behind it is to overwrite both
overwritten_twice : {A : Type 0} (items : List A) (place : ℕ) (first second : List A) → place + (length first + length second) ≤ length items → overwritten (overwritten items place first) (place + length first) second ≡ overwritten items place (first ++ second)
overwritten_twice items place first second inside =
    let front = take place items ++ first in
    let rest = drop (place + length first) items in
    let joined : overwritten items place first ≡ front ++ rest = sym (append_assoc (take place items) first rest) in
    let long : length front ≡ place + length first = omega (arith, length-append (take place items) first, length-take-le place items (omega arith)) in
    let behind = (place + length first) + length second in
    let taken : take (place + length first) (overwritten items place first) ≡ front = ap (take (place + length first)) joined ∙ take_at front rest (place + length first) long in
    let dropped : drop behind (overwritten items place first) ≡ drop (place + length (first ++ second)) items =
    sym (drop-drop (length second) (place + length first) (overwritten items place first))
    ∙ ap (drop (length second)) (ap (drop (place + length first)) joined ∙ drop_at front rest (place + length first) long)
    ∙ drop-drop (length second) (place + length first) items
    ∙ ap (λ n. drop n items) (omega (arith, length-append first second)) in
    ap (λ head. head ++ (second ++ drop behind (overwritten items place first))) taken
    ∙ ap (λ tail. front ++ (second ++ tail)) dropped
    ∙ append_assoc (take place items) first (second ++ drop (place + length (first ++ second)) items)
    ∙ ap (λ tail. take place items ++ tail) (sym (append_assoc first second (drop (place + length (first ++ second)) items)))

-- ---- a row, and all rows

module _ {A B : Type 0} (copy : A → B) (missing : A) (nothing : B) (from to : Region) (source : List A) (before : List B) (from_bytes : from.size ≡ 1) (to_bytes : to.size ≡ 1) (same_rows : from.rows ≡ to.rows) (same_columns : from.columns ≡ to.columns) (source_inside : LiesBelow from (length source)) (inside : LiesBelow to (length before)) (some : 0 < to.columns) where
  -- what is copied before the byte `first` of row r
  copied_to : (r first : ℕ) → List B
  copied_to r first = with_bytes_copied copy from to source r 0 first (with_rows_copied copy from to source r before)

  piece : (r j count : ℕ) → List B
  piece r j count = map copy (part source (place_in from r j) count)

  piece_length : (r j count : ℕ) → r < to.rows → j + count ≤ to.columns → length (piece r j count) ≡ count
  unfolding piece
  piece_length r j count row fits =
      let end : place_in from r 0 + from.columns ≤ length source = row_end from (length source) r from_bytes source_inside (omega arith) (omega arith) in
      let width : j * from.size ≡ j * 1 = ap (λ n. j * n) from_bytes in
      omega (arith, length-map (part source (place_in from r j) count) copy, part_length source (place_in from r j) count)

  -- the next piece of a row
  copied_on : (r first count : ℕ) → r < to.rows → first + count ≤ to.columns → with_bytes_copied copy from to source r first count (copied_to r first) ≡ copied_to r (first + count)
  unfolding copied_to piece
  copied_on r first count row fits =
      let items = with_rows_copied copy from to source r before in
      let long : length items ≡ length before = rows_length copy missing nothing from to source before from_bytes to_bytes same_rows same_columns source_inside inside some r (omega arith) in
      let end : place_in to r 0 + to.columns ≤ length before = row_end to (length before) r to_bytes inside row some in
      let place = place_in to r 0 in
      let done = piece r 0 first in
      let next = piece r first count in
      let done_length : length done ≡ first = piece_length r 0 first row (omega arith) in
      let next_length : length next ≡ count = piece_length r first count row fits in
      let to_width : first * to.size ≡ first * 1 = ap (λ n. first * n) to_bytes in
      let from_width : first * from.size ≡ first * 1 = ap (λ n. first * n) from_bytes in
      let there : place_in to r first ≡ place + length done = omega arith in
      let taken_from : place_in from r first ≡ place_in from r 0 + first = omega arith in
      let fits_there : place + (length done + length next) ≤ length items = omega arith in
      ap (λ p. overwritten (overwritten items place done) p next) there
      ∙ overwritten_twice items place done next fits_there
      ∙ ap (overwritten items place)
      (sym (map-append copy (part source (place_in from r 0) first) (part source (place_in from r first) count))
      ∙ ap (λ p. map copy (part source (place_in from r 0) first ++ part source p count)) taken_from
      ∙ ap (map copy) (parts_join source (place_in from r 0) first count))

  copied_nothing : (r : ℕ) → copied_to r 0 ≡ with_rows_copied copy from to source r before
  unfolding copied_to
  copied_nothing r =
      overwritten_nothing (with_rows_copied copy from to source r before) (place_in to r 0) (map copy (part source (place_in from r 0) 0)) (length-map (part source (place_in from r 0) 0) copy)

  -- a whole row is the begin of the next
  copied_row : (r : ℕ) → r < to.rows → copied_to r to.columns ≡ copied_to (r + 1) 0
  unfolding copied_to piece
  copied_row r row =
      let next : suc r ≡ r + 1 = omega arith in
      ap (λ count. with_bytes_copied copy from to source r 0 count (with_rows_copied copy from to source r before)) (sym same_columns)
      ∙ ap (λ n. with_rows_copied copy from to source n before) next
      ∙ sym (copied_nothing (r + 1))

  -- beat n goes on from what the beats before it have copied
  beat_on : (n : ℕ) → n < to.rows * beats_of_row to.columns channel_group_bytes → with_bytes_copied copy from to source (group_at to.columns channel_group_bytes n).row (group_at to.columns channel_group_bytes n).first (group_at to.columns channel_group_bytes n).count (copied_to (group_at to.columns channel_group_bytes n).row (group_at to.columns channel_group_bytes n).first) ≡ copied_to (group_at to.columns channel_group_bytes (n + 1)).row (group_at to.columns channel_group_bytes (n + 1)).first
  beat_on n below =
      let group = group_at to.columns channel_group_bytes n in
      let next = group_at to.columns channel_group_bytes (n + 1) in
      let begins : group.first < to.columns = first_below to.columns channel_group_bytes some (lit< tt) n in
      let in_rows : group.row < to.rows = row_below to.columns channel_group_bytes some (lit< tt) to.rows n below in
      let on = copied_on group.row group.first group.count in_rows (omega arith) in
      on ∙ elim (next_beat to.columns channel_group_bytes some (lit< tt) n) [
        | inl goes_on ↦ ap (copied_to group.row) (sym goes_on.1) ∙ ap (λ r. copied_to r next.first) (sym goes_on.0)
        | inr ends ↦ ap (copied_to group.row) ends.2 ∙ copied_row group.row in_rows ∙ ap (copied_to (group.row + 1)) (sym ends.1) ∙ ap (λ r. copied_to r next.first) (sym ends.0)
      ]

  -- before the first beat nothing is copied, and behind the last all rows are
  copied_at_start : copied_to (group_at to.columns channel_group_bytes 0).row (group_at to.columns channel_group_bytes 0).first ≡ before
  copied_at_start =
      let beats = beats_of_row to.columns channel_group_bytes in
      let some_in_row = some_beats to.columns channel_group_bytes some (lit< tt) in
      let start : 0 ≡ 0 * beats + 0 = omega arith in
      let start_row : 0 / beats ≡ 0 = ap (λ n. n / beats) start ∙ div-mul-add 0 beats 0 some_in_row in
      let start_place : 0 % beats ≡ 0 = ap (λ n. n % beats) start ∙ mod-mul-add 0 beats 0 some_in_row in
      ap (λ r. copied_to r (0 % beats * channel_group_bytes)) start_row ∙ ap (λ q. copied_to 0 (q * channel_group_bytes)) start_place ∙ copied_nothing 0

  copied_at_end : (total : ℕ) → total ≡ to.rows * beats_of_row to.columns channel_group_bytes → copied_to (group_at to.columns channel_group_bytes total).row (group_at to.columns channel_group_bytes total).first ≡ with_rows_copied copy from to source to.rows before
  copied_at_end total is_total =
      let beats = beats_of_row to.columns channel_group_bytes in
      let some_in_row = some_beats to.columns channel_group_bytes some (lit< tt) in
      let end : total ≡ to.rows * beats + 0 = omega arith in
      let end_row : total / beats ≡ to.rows = ap (λ n. n / beats) end ∙ div-mul-add to.rows beats 0 some_in_row in
      let end_place : total % beats ≡ 0 = ap (λ n. n % beats) end ∙ mod-mul-add to.rows beats 0 some_in_row in
      ap (λ r. copied_to r (total % beats * channel_group_bytes)) end_row ∙ ap (λ q. copied_to to.rows (q * channel_group_bytes)) end_place ∙ copied_nothing to.rows

-- ---- reads

module _ (work : DmaWork) (lanes : ℕ) (store : Store) (in_range : IsInRange (Reads (Read work)) (Writes (Read work)) (store_size store)) (some : 0 < work.bytes) where
  read_to : ℕ → List Cell
  read_to n = copied_to clear 0 (0, false) (memory_of work) (cells_of work) store.memory store.cells refl refl refl refl (λ p. in_range.has_reads (in_memory p)) (λ p. in_range.has_writes (in_cells p)) some (group_at work.bytes channel_group_bytes n).row (group_at work.bytes channel_group_bytes n).first

  read_on : (n : ℕ) (now : Store) → n < transfer_beats work → now.memory ≡ store.memory → now.cells ≡ read_to n → read_beat work n now ≡ read_to (n + 1)
  unfolding read_beat read_to
  read_on n now below same so_far =
      let group = group_at work.bytes channel_group_bytes n in
      ap (λ memory. with_bytes_copied clear (memory_of work) (cells_of work) memory group.row group.first group.count now.cells) same
      ∙ ap (with_bytes_copied clear (memory_of work) (cells_of work) store.memory group.row group.first group.count) so_far
      ∙ beat_on clear 0 (0, false) (memory_of work) (cells_of work) store.memory store.cells refl refl refl refl (λ p. in_range.has_reads (in_memory p)) (λ p. in_range.has_writes (in_cells p)) some n below

  read_rest : (count : ℕ) (progress : Progress) (now : Store) → progress.done + count ≡ transfer_beats work → now.memory ≡ store.memory → now.cells ≡ read_to progress.done → (after_beats count (Read work) lanes progress now).cells ≡ read_to (transfer_beats work)
  read_rest zero progress now all same so_far =
      let end : progress.done ≡ transfer_beats work = omega arith in
      so_far ∙ ap read_to end
  read_rest (suc count) progress now all same so_far =
      read_rest count (record { done = progress.done + 1; sum = pos 0 }) (record now { cells = read_beat work progress.done now }) (omega arith) same
      (read_on progress.done now (omega arith) same so_far)

  some_read : (after_beats (transfer_beats work) (Read work) lanes not_begun store).cells ≡ read_into work store.memory store.cells
  unfolding read_into read_to
  some_read =
      read_rest (transfer_beats work) not_begun store (omega arith) refl
      (sym (copied_at_start clear 0 (0, false) (memory_of work) (cells_of work) store.memory store.cells refl refl refl refl (λ p. in_range.has_reads (in_memory p)) (λ p. in_range.has_writes (in_cells p)) some))
      ∙ copied_at_end clear 0 (0, false) (memory_of work) (cells_of work) store.memory store.cells refl refl refl refl (λ p. in_range.has_reads (in_memory p)) (λ p. in_range.has_writes (in_cells p)) some (transfer_beats work) refl

read_leaves_memory : (work : DmaWork) (lanes count : ℕ) (progress : Progress) (store : Store) → (after_beats count (Read work) lanes progress store).memory ≡ store.memory
read_leaves_memory work lanes zero progress store = refl
read_leaves_memory work lanes (suc count) progress store =
    read_leaves_memory work lanes count (record { done = progress.done + 1; sum = pos 0 }) (record store { cells = read_beat work progress.done store })

-- a transfer of empty rows has no beats
no_beats : (work : DmaWork) → work.bytes ≡ 0 → transfer_beats work ≡ 0
no_beats work none = ap (λ bytes. work.rows * beats_of_row bytes channel_group_bytes) none ∙ (omega arith)

pub read_beats : (work : DmaWork) (lanes : ℕ) (store : Store) → IsInRange (Reads (Read work)) (Writes (Read work)) (store_size store) → DoesOne (Read work) store (after_all_beats (Read work) lanes store)
unfolding after_all_beats read_into
read_beats work lanes store in_range = (
  elim (cases_lt 0 work.bytes) [
    | inl some ↦ some_read work lanes store in_range some
    | inr less ↦
        let none : work.bytes ≡ 0 = omega arith in
        ap (λ count. (after_beats count (Read work) lanes not_begun store).cells) (no_beats work none)
        ∙ sym (rows_of_nothing clear 0 (0, false) (memory_of work) (cells_of work) store.memory store.cells refl refl refl refl (λ p. in_range.has_reads (in_memory p)) (λ p. in_range.has_writes (in_cells p)) none work.rows)
  ],
  read_leaves_memory work lanes (transfer_beats work) not_begun store,
)

-- ---- writes

module _ (work : DmaWork) (lanes : ℕ) (store : Store) (in_range : IsInRange (Reads (Write work)) (Writes (Write work)) (store_size store)) (some : 0 < work.bytes) where
  written_to : ℕ → List ℕ
  written_to n = copied_to byte_of (0, false) 0 (cells_of work) (memory_of work) store.cells store.memory refl refl refl refl (λ p. in_range.has_reads (in_cells p)) (λ p. in_range.has_writes (in_memory p)) some (group_at work.bytes channel_group_bytes n).row (group_at work.bytes channel_group_bytes n).first

  write_on : (n : ℕ) (now : Store) → n < transfer_beats work → now.cells ≡ store.cells → now.memory ≡ written_to n → write_beat work n now ≡ written_to (n + 1)
  unfolding write_beat written_to
  write_on n now below same so_far =
      let group = group_at work.bytes channel_group_bytes n in
      ap (λ cells. with_bytes_copied byte_of (cells_of work) (memory_of work) cells group.row group.first group.count now.memory) same
      ∙ ap (with_bytes_copied byte_of (cells_of work) (memory_of work) store.cells group.row group.first group.count) so_far
      ∙ beat_on byte_of (0, false) 0 (cells_of work) (memory_of work) store.cells store.memory refl refl refl refl (λ p. in_range.has_reads (in_cells p)) (λ p. in_range.has_writes (in_memory p)) some n below

  write_rest : (count : ℕ) (progress : Progress) (now : Store) → progress.done + count ≡ transfer_beats work → now.cells ≡ store.cells → now.memory ≡ written_to progress.done → (after_beats count (Write work) lanes progress now).memory ≡ written_to (transfer_beats work)
  write_rest zero progress now all same so_far =
      let end : progress.done ≡ transfer_beats work = omega arith in
      so_far ∙ ap written_to end
  write_rest (suc count) progress now all same so_far =
      write_rest count (record { done = progress.done + 1; sum = pos 0 }) (record now { memory = write_beat work progress.done now }) (omega arith) same
      (write_on progress.done now (omega arith) same so_far)

  some_write : (after_beats (transfer_beats work) (Write work) lanes not_begun store).memory ≡ written_back work store.cells store.memory
  unfolding written_back written_to
  some_write =
      write_rest (transfer_beats work) not_begun store (omega arith) refl
      (sym (copied_at_start byte_of (0, false) 0 (cells_of work) (memory_of work) store.cells store.memory refl refl refl refl (λ p. in_range.has_reads (in_cells p)) (λ p. in_range.has_writes (in_memory p)) some))
      ∙ copied_at_end byte_of (0, false) 0 (cells_of work) (memory_of work) store.cells store.memory refl refl refl refl (λ p. in_range.has_reads (in_cells p)) (λ p. in_range.has_writes (in_memory p)) some (transfer_beats work) refl

write_leaves_cells : (work : DmaWork) (lanes count : ℕ) (progress : Progress) (store : Store) → (after_beats count (Write work) lanes progress store).cells ≡ store.cells
write_leaves_cells work lanes zero progress store = refl
write_leaves_cells work lanes (suc count) progress store =
    write_leaves_cells work lanes count (record { done = progress.done + 1; sum = pos 0 }) (record store { memory = write_beat work progress.done store })

pub write_beats : (work : DmaWork) (lanes : ℕ) (store : Store) → IsInRange (Reads (Write work)) (Writes (Write work)) (store_size store) → DoesOne (Write work) store (after_all_beats (Write work) lanes store)
unfolding after_all_beats written_back
write_beats work lanes store in_range = (
  write_leaves_cells work lanes (transfer_beats work) not_begun store,
  elim (cases_lt 0 work.bytes) [
    | inl some ↦ some_write work lanes store in_range some
    | inr less ↦
        let none : work.bytes ≡ 0 = omega arith in
        ap (λ count. (after_beats count (Write work) lanes not_begun store).memory) (no_beats work none)
        ∙ sym (rows_of_nothing byte_of (0, false) 0 (cells_of work) (memory_of work) store.cells store.memory refl refl refl refl (λ p. in_range.has_reads (in_cells p)) (λ p. in_range.has_writes (in_memory p)) none work.rows)
  ],
)
