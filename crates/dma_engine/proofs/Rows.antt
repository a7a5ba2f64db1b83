-- Several beats of a transfer at once are one move.
use Rattle.std.proofs.Common.{◌≡◌, ◌⊎◌, inl, inr, ℕ, zero, suc, ◌+◌, ◌-◌, ◌*◌, ◌/◌, ◌<◌, ◌≤◌, ap, sym, ◌∙◌, refl, subst, arith, List, [], ◌∷◌, ◌++◌, length, map, take, drop, Option, Some, None}
use Rattle.std.proofs.lemmas.Bool.{cases_lt}
use Rattle.std.proofs.lemmas.Option.{none-some}
use Rattle.std.proofs.lemmas.List.{length-map, length-append, length-take-le, map-append, append_assoc, drop-drop}
use Rattle.std.proofs.Math.Seq.{take-add, take-append-add, take-append_seam, drop-append-add}
use Rattle.ven_base.specs.Store.{Store, Size, store_size, IsInRange}
use Rattle.ven_base.specs.Job.{Job, next_job, next_store, jobs_beaten, beats_on}
use Rattle.ven_base.proofs.Jobs.{comes_on}
use Rattle.ven_base.specs.Beats.{jobs_after_beats, store_after_beats, HasMore}
use Rattle.venice_isa.specs.declared.work.DmaWork.{DmaWork}
use Rattle.venice_isa.specs.Cell.{byte_of, clear, part, overwritten}
use Rattle.venice_isa.specs.Region.{place_in}
use Rattle.venice_isa.specs.Footprint.{Reads, Writes, cells_of, memory_of}
use Rattle.venice_isa.specs.Beat.{Progress, beats_of_row, transfer_beats}
use Rattle.venice_isa.proofs.OneBeat.{group_end}
use Rattle.venice_isa.proofs.Wholes.{part_length}
use Rattle.venice_isa.proofs.Overwrites.{overwritten_length, overwritten_nothing}
use Rattle.dma_engine.specs.declared.direction.Direction.{Direction}
use Rattle.dma_engine.specs.declared.direction.Direction.TheVariants.{IntoCells, IntoMemory}
use Rattle.dma_engine.specs.declared.current.Current.{Current}
use Rattle.dma_engine.specs.Direction.{issue_of, channel_course}
use Rattle.dma_engine.specs.Current.{moved, done_of, job_of, beat_bytes_of, IsUnderWay}
use Rattle.dma_engine.specs.Channel.{jobs_of, IsFront}
use Rattle.dma_engine.specs.Rows.{row_left_of, bytes_of_beats, IsOn, BeatsToGo}
use Rattle.dma_engine.proofs.Currents.{goes_on, beat_moves, job_with, next_is, same_beats, cells_below, memory_below}

-- ---- two moves, one behind the other

overwritten_twice : {A : Type 0} (items new more : List A) (place : ℕ) → place + (length new + length more) ≤ length items
    → overwritten (overwritten items place new) (place + length new) more ≡ overwritten items place (new ++ more)
overwritten_twice items new more place inside =
    let front = take place items in
    let back = drop (place + length new) items in
    let here : length front ≡ place = length-take-le place items (omega (arith, inside)) in
    let before : take (place + length new) (front ++ (new ++ back)) ≡ front ++ new =
    ap (λ n. take (n + length new) (front ++ (new ++ back))) (sym here) ∙ take-append-add front (new ++ back) (length new) ∙ ap (λ rest. front ++ rest) (take-append_seam new back) in
    let far : place + length new + length more ≡ length front + (length new + length more) = omega (arith, here) in
    let behind : drop (place + length new + length more) (front ++ (new ++ back)) ≡ drop (place + (length new + length more)) items =
    ap (λ n. drop n (front ++ (new ++ back))) far ∙ drop-append-add front (new ++ back) (length new + length more) ∙ drop-append-add new back (length more)
    ∙ drop-drop (length more) (place + length new) items ∙ ap (λ n. drop n items) (sym (plus_assoc place (length new) (length more))) in
    ap (λ start. start ++ (more ++ drop (place + length new + length more) (front ++ (new ++ back)))) before
    ∙ ap (λ rest. (front ++ new) ++ (more ++ rest)) behind
    ∙ append_assoc front new (more ++ drop (place + (length new + length more)) items)
    ∙ ap (λ rest. front ++ rest) (sym (append_assoc new more (drop (place + (length new + length more)) items)))
    ∙ ap (λ n. front ++ ((new ++ more) ++ drop (place + n) items)) (sym (length_both new more))
  where
    plus_assoc : (a b c : ℕ) → a + (b + c) ≡ a + b + c
    plus_assoc a b c = omega arith

    length_both : {A : Type 0} (xs ys : List A) → length (xs ++ ys) ≡ length xs + length ys
    length_both xs ys = length-append xs ys

part_more : {A : Type 0} (items : List A) (place a b : ℕ) → part items place (a + b) ≡ part items place a ++ part items (place + a) b
part_more items place a b = take-add a b (drop place items) ∙ ap (λ rest. take a (drop place items) ++ take b rest) (drop-drop a place items)

-- what is copied to one place and behind it is copied at once
copied_more : {A B : Type 0} (copy : A → B) (source : List A) (target : List B) (to from a b : ℕ) → from + (a + b) ≤ length source → to + (a + b) ≤ length target
    → overwritten (overwritten target to (map copy (part source from a))) (to + a) (map copy (part source (from + a) b)) ≡ overwritten target to (map copy (part source from (a + b)))
copied_more copy source target to from a b source_fits target_fits =
    let new = map copy (part source from a) in
    let more = map copy (part source (from + a) b) in
    let new_length : length new ≡ a = omega (arith, length-map (part source from a) copy, part_length source from a, source_fits) in
    let more_length : length more ≡ b = omega (arith, length-map (part source (from + a) b) copy, part_length source (from + a) b, source_fits) in
    ap (λ n. overwritten (overwritten target to new) (to + n) more) (sym new_length)
    ∙ overwritten_twice target new more to (omega (arith, new_length, more_length, target_fits))
    ∙ ap (overwritten target to) (sym (map-append copy (part source from a) (part source (from + a) b)) ∙ ap (map copy) (sym (part_more source from a b)))

module _ (direction : Direction) where
  pub moved_more : (cell place a b : ℕ) (store : Store) → cell + (a + b) ≤ length store.cells → place + (a + b) ≤ length store.memory
      → moved direction (cell + a) (place + a) b (moved direction cell place a store) ≡ moved direction cell place (a + b) store
  moved_more cell place a b store in_cells in_memory = go direction
    where
      go : (direction : Direction) → moved direction (cell + a) (place + a) b (moved direction cell place a store) ≡ moved direction cell place (a + b) store
      go IntoCells = ap (λ cells. record store { cells = cells }) (copied_more clear store.memory store.cells cell place a b in_memory in_cells)
      go IntoMemory = ap (λ memory. record store { memory = memory }) (copied_more byte_of store.cells store.memory place cell a b in_cells in_memory)

  pub moved_none : (cell place : ℕ) (store : Store) → moved direction cell place 0 store ≡ store
  moved_none cell place store = go direction
    where
      nothing : {A B : Type 0} (copy : A → B) (items : List A) (from : ℕ) → length (map copy (part items from 0)) ≡ 0
      nothing copy items from = omega (arith, length-map (part items from 0) copy, part_length items from 0)

      go : (direction : Direction) → moved direction cell place 0 store ≡ store
      go IntoCells = ap (λ cells. record store { cells = cells }) (overwritten_nothing store.cells cell (map clear (part store.memory place 0)) (nothing clear store.memory place))
      go IntoMemory = ap (λ memory. record store { memory = memory }) (overwritten_nothing store.memory place (map byte_of (part store.cells cell 0)) (nothing byte_of store.cells cell))

  moved_size : (cell place count : ℕ) (store : Store) → cell + count ≤ length store.cells → place + count ≤ length store.memory → store_size (moved direction cell place count store) ≡ store_size store
  moved_size cell place count store in_cells in_memory = go direction
    where
      go : (direction : Direction) → store_size (moved direction cell place count store) ≡ store_size store
      go IntoCells =
          let new = map clear (part store.memory place count) in
          let long : length new ≡ count = omega (arith, length-map (part store.memory place count) clear, part_length store.memory place count, in_memory) in
          ap (λ n. record { cells = n; memory = length store.memory }) (overwritten_length store.cells cell new (omega (arith, long, in_cells)))
      go IntoMemory =
          let new = map byte_of (part store.cells cell count) in
          let long : length new ≡ count = omega (arith, length-map (part store.cells cell count) byte_of, part_length store.cells cell count, in_cells) in
          ap (λ n. record { cells = length store.cells; memory = n }) (overwritten_length store.memory place new (omega (arith, long, in_memory)))

-- ---- the beats of a row

-- the row's rest lies in cells and memory
pub record RowFits (current : Current) (size : Size) : Type 0 where
  pub in_cells : place_in (cells_of current.work) current.row current.column + (current.work.bytes - current.column) ≤ size.cells
  pub in_memory : place_in (memory_of current.work) current.row current.column + (current.work.bytes - current.column) ≤ size.memory

abbrev group_on : Current → Current
group_on current = record current { column = current.column + 16 }

module _ (direction : Direction) where
  -- what so many beats move
  abbrev row_moved : ℕ → Current → Store → Store
  row_moved bytes current store = moved direction (place_in (cells_of current.work) current.row current.column) (place_in (memory_of current.work) current.row current.column) bytes store

  pub row_moves : (count : ℕ) (current : Current) → IsUnderWay current → count ≤ row_left_of current → (store : Store) → RowFits current (store_size store)
      → beats_on (channel_course direction) count (job_of current) store ≡ row_moved (bytes_of_beats count current) current store
  row_moves zero current under_way few store fits =
      let none : bytes_of_beats 0 current ≡ 0 = omega arith in
      sym (ap (λ bytes. row_moved bytes current store) none ∙ moved_none direction (place_in (cells_of current.work) current.row current.column) (place_in (memory_of current.work) current.row current.column) store)
  row_moves (suc count) current under_way few store fits = go (λ next. row_moves count next) (cases_lt 16 (current.work.bytes - current.column))
    where
      go : ((next : Current) → IsUnderWay next → count ≤ row_left_of next → (store : Store) → RowFits next (store_size store) → beats_on (channel_course direction) count (job_of next) store ≡ row_moved (bytes_of_beats count next) next store)
          → (16 < current.work.bytes - current.column) ⊎ (current.work.bytes - current.column ≤ 16)
          → beats_on (channel_course direction) (suc count) (job_of current) store ≡ row_moved (bytes_of_beats (suc count) current) current store
      go others (inl more) =
          let next = group_on current in
          let on = goes_on current under_way more in
          let bytes : beat_bytes_of current ≡ 16 = omega (arith, more) in
          let after = row_moved 16 current store in
          let cell = place_in (cells_of current.work) current.row current.column in
          let place = place_in (memory_of current.work) current.row current.column in
          let rest = bytes_of_beats count next in
          let first : next_store (channel_course direction) (job_of current) store ≡ after = sym (beat_moves current under_way direction store) ∙ ap (λ bytes. row_moved bytes current store) bytes in
          let job : next_job (channel_course direction) (job_of current) store ≡ job_of next = next_is direction current store ∙ ap (job_with current.work) (sym on.one_more) in
          let size : store_size after ≡ store_size store = moved_size direction cell place 16 store (omega (arith, fits.in_cells, more)) (omega (arith, fits.in_memory, more)) in
          let next_cell : place_in (cells_of current.work) current.row (current.column + 16) ≡ cell + 16 = omega arith in
          let next_place : place_in (memory_of current.work) current.row (current.column + 16) ≡ place + 16 = omega arith in
          let next_fits : RowFits next (store_size store) = record { in_cells = omega (arith, fits.in_cells, next_cell, more); in_memory = omega (arith, fits.in_memory, next_place, more) } in
          let all : 16 + rest ≡ bytes_of_beats (suc count) current = omega (arith, more) in
          let few_more : 16 + rest ≤ current.work.bytes - current.column = omega (arith, more) in
          ap (λ job. beats_on (channel_course direction) count job (next_store (channel_course direction) (job_of current) store)) job
          ∙ ap (beats_on (channel_course direction) count (job_of next)) first
          ∙ others next on.under_way (omega (arith, few, more)) after (subst (RowFits next) (sym size) next_fits)
          ∙ ap (λ c. moved direction c (place_in (memory_of current.work) current.row (current.column + 16)) rest after) next_cell
          ∙ ap (λ p. moved direction (cell + 16) p rest after) next_place
          ∙ moved_more direction cell place 16 rest store (omega (arith, few_more, fits.in_cells)) (omega (arith, few_more, fits.in_memory))
          ∙ ap (λ bytes. row_moved bytes current store) all
      go others (inr last) =
          let none : count ≡ 0 = omega (arith, few, last, under_way.in_row) in
          let bytes : beat_bytes_of current ≡ bytes_of_beats (suc count) current = omega (arith, none, last) in
          ap (λ n. beats_on (channel_course direction) n (next_job (channel_course direction) (job_of current) store) (next_store (channel_course direction) (job_of current) store)) none
          ∙ sym (beat_moves current under_way direction store) ∙ ap (λ bytes. row_moved bytes current store) bytes

-- ---- how far it has come then

module _ (current : Current) (under_way : IsUnderWay current) where
  abbrev beats : ℕ
  beats = beats_of_row current.work.bytes 16

  whole_row : current.column / 16 + row_left_of current ≡ beats_of_row current.work.bytes 16
  whole_row = omega (arith, under_way.in_row, under_way.begins_beat)

  some_beats : 0 < beats_of_row current.work.bytes 16
  some_beats = omega (arith, under_way.in_row)

  pub goes_on_in_row : (count : ℕ) → count < row_left_of current → IsOn current count (record current { column = current.column + count * 16 })
  unfolding done_of
  goes_on_in_row count few =
      let q : (current.column + count * 16) / 16 ≡ current.column / 16 + count = omega arith in
      record {
        same_work = refl;
        under_way = record { in_rows = under_way.in_rows; in_row = omega (arith, few, under_way.in_row); begins_beat = omega (arith, under_way.begins_beat) };
        done = omega (arith, q);
      }

  pub goes_to_next_row : (count : ℕ) → count ≡ row_left_of current → done_of current + count < transfer_beats current.work → IsOn current count (record current { row = current.row + 1; column = 0 })
  unfolding done_of
  goes_to_next_row count all more =
      let next : (current.row + 1) * beats ≡ current.row * beats + beats = omega arith in
      let last : ¬ (current.row + 1 ≡ current.work.rows) = λ same. absurd (omega (arith, more, ap (λ n. n * beats) same, next, whole_row, all)) in
      record {
        same_work = refl;
        under_way = record { in_rows = elim (cases_lt (current.row + 1) current.work.rows) [ inl below ↦ below | inr over ↦ absurd (last (omega (arith, over, under_way.in_rows))) ]; in_row = omega (arith, under_way.in_row); begins_beat = refl };
        done = omega (arith, next, whole_row, all);
      }

  -- ---- its row lies in cells and memory

  module _ (direction : Direction) (size : Size) (in_range : IsInRange (Reads (issue_of direction current.work)) (Writes (issue_of direction current.work)) size) where
    pub row_fits : RowFits current size
    row_fits =
        let rest = current.work.bytes - current.column in
        let fits : current.column + rest ≤ current.work.bytes = omega (arith, under_way.in_row) in
        let some : 0 < rest = omega (arith, under_way.in_row) in
        record {
          in_cells = omega (arith, group_end (cells_of current.work) (omega arith) current.row current.column rest under_way.in_rows fits size.cells (cells_below current under_way direction size in_range) some);
          in_memory = omega (arith, group_end (memory_of current.work) (omega arith) current.row current.column rest under_way.in_rows fits size.memory (memory_below current under_way direction size in_range) some);
        }

-- ---- beats of several rows

abbrev work_on : DmaWork → ℕ → Job DmaWork Progress
work_on work done = job_with work done

next_with : (direction : Direction) (work : DmaWork) (done : ℕ) (store : Store) → next_job (channel_course direction) (job_with work done) store ≡ job_with work (done + 1)
next_with IntoCells work done store = refl
next_with IntoMemory work done store = refl

-- some beats and then more
pub beats_split : (direction : Direction) (work : DmaWork) (a b done : ℕ) (store : Store)
    → beats_on (channel_course direction) (a + b) (job_with work done) store ≡ beats_on (channel_course direction) b (job_with work (done + a)) (beats_on (channel_course direction) a (job_with work done) store)
beats_split direction work a b done store = go a done store
  where
    course : ℕ → Store → Store
    course done store = next_store (channel_course direction) (job_with work done) store

    go : (a done : ℕ) (store : Store)
        → beats_on (channel_course direction) (a + b) (job_with work done) store ≡ beats_on (channel_course direction) b (job_with work (done + a)) (beats_on (channel_course direction) a (job_with work done) store)
    go zero done store =
        let none : 0 + b ≡ b = omega arith in
        let same : done ≡ done + 0 = omega arith in
        ap (λ n. beats_on (channel_course direction) n (job_with work done) store) none ∙ ap (λ d. beats_on (channel_course direction) b (job_with work d) store) same
    go (suc a) done store =
        let one : suc a + b ≡ suc (a + b) = omega arith in
        let d : done + 1 + a ≡ done + suc a = omega arith in
        let then = next_store (channel_course direction) (job_with work done) store in
        ap (λ n. beats_on (channel_course direction) n (job_with work done) store) one
        ∙ ap (λ job. beats_on (channel_course direction) (a + b) job then) (next_with direction work done store)
        ∙ go a (done + 1) then
        ∙ ap (λ d. beats_on (channel_course direction) b (job_with work d) (beats_on (channel_course direction) a (job_with work (done + 1)) then)) d
        ∙ ap (λ job. beats_on (channel_course direction) b (job_with work (done + suc a)) (beats_on (channel_course direction) a job then)) (sym (next_with direction work done store))

-- ---- the queue

module _ (direction : Direction) (jobs : List (Job DmaWork Progress)) where
  first_stays : (work : DmaWork) (done : ℕ) (store : Store) → done + 1 < transfer_beats work → jobs_beaten (channel_course direction) 0 (job_with work done ∷ jobs) store ≡ job_with work (done + 1) ∷ jobs
  first_stays work done store more =
      ap (λ left. left ++ jobs) (comes_on (channel_course direction) (job_with work done) store (omega (arith, more, same_beats direction work))) ∙ ap (λ job. job ∷ jobs) (next_with direction work done store)

  pub jobs_on_many : (count : ℕ) (work : DmaWork) (done : ℕ) (store : Store) → done + count < transfer_beats work
      → jobs_after_beats (channel_course direction) count (job_with work done ∷ jobs) store ≡ job_with work (done + count) ∷ jobs
  jobs_on_many zero work done store more = let same : done ≡ done + 0 = omega arith in ap (λ d. job_with work d ∷ jobs) same
  jobs_on_many (suc count) work done store more =
      let then = next_store (channel_course direction) (job_with work done) store in
      let d : done + 1 + count ≡ done + suc count = omega arith in
      ap (λ queue. jobs_after_beats (channel_course direction) count queue then) (first_stays work done store (omega (arith, more)))
      ∙ jobs_on_many count work (done + 1) then (omega (arith, more)) ∙ ap (λ d. job_with work d ∷ jobs) d

  pub store_on_many : (count : ℕ) (work : DmaWork) (done : ℕ) (store : Store) → done + count < transfer_beats work
      → store_after_beats (channel_course direction) count (job_with work done ∷ jobs) store ≡ beats_on (channel_course direction) count (job_with work done) store
  store_on_many zero work done store more = refl
  store_on_many (suc count) work done store more =
      let then = next_store (channel_course direction) (job_with work done) store in
      ap (λ queue. store_after_beats (channel_course direction) count queue then) (first_stays work done store (omega (arith, more)))
      ∙ store_on_many count work (done + 1) then (omega (arith, more))
      ∙ ap (λ job. beats_on (channel_course direction) count job then) (sym (next_with direction work done store))

-- the first transfer comes on, and the others stay
module _ (direction : Direction) (others : List Current) where
  pub first_on_many : (count : ℕ) (first next : Current) (store : Store) → done_of first + count < transfer_beats first.work → IsOn first count next
      → job_of next ∷ map job_of others ≡ jobs_after_beats (channel_course direction) count (job_of first ∷ map job_of others) store
  first_on_many count first next store more on =
      ap (λ work. job_with work (done_of next) ∷ map job_of others) on.same_work
      ∙ ap (λ done. job_with first.work done ∷ map job_of others) on.done
      ∙ sym (jobs_on_many direction (map job_of others) count first.work (done_of first) store more)

pub more_left : (direction : Direction) (first : Current) (others : List Current) (count : ℕ) → HasMore (channel_course direction) count (jobs_of (Some first) others) → done_of first + count < transfer_beats first.work
more_left direction first others count more = omega (arith, more, same_beats direction first.work)

pub none_are : (first : Option Current) (others : List Current) → first ≡ None → IsFront first others → jobs_of first others ≡ []
none_are None others is front = ap (map job_of) front
none_are (Some first) others is front = absurd (none-some first (sym is))

-- where there is none nothing changes
module _ (direction : Direction) where
  pub none_on_many : (count : ℕ) (store : Store) → (jobs_after_beats (channel_course direction) count [] store ≡ []) × (store_after_beats (channel_course direction) count [] store ≡ store)
  none_on_many zero store = (refl, refl)
  none_on_many (suc count) store = none_on_many count store

-- ---- the loop over rows

module _ (direction : Direction) (first : Current) (before : Store) (count : ℕ) where
  pub begins_to_go : IsUnderWay first → BeatsToGo direction first before count count first before
  begins_to_go under_way = record { same_work = refl; under_way = under_way; done = refl; end_is = refl; same_size = refl }

  pub goes_on_to_go : (left here : ℕ) (now next : Current) (store then : Store) → BeatsToGo direction first before count left now store → here ≤ left → IsOn now here next
      → then ≡ beats_on (channel_course direction) here (job_of now) store → store_size then ≡ store_size store → BeatsToGo direction first before count (left - here) next then
  goes_on_to_go left here now next store then so_far few on is size =
      let split : here + (left - here) ≡ left = omega (arith, few) in
      record {
        same_work = on.same_work ∙ so_far.same_work;
        under_way = on.under_way;
        done = omega (arith, so_far.done, on.done, few);
        end_is =
            ap (beats_on (channel_course direction) (left - here) (job_of next)) is
            ∙ ap (λ work. beats_on (channel_course direction) (left - here) (job_with work (done_of next)) (beats_on (channel_course direction) here (job_of now) store)) on.same_work
            ∙ ap (λ done. beats_on (channel_course direction) (left - here) (job_with now.work done) (beats_on (channel_course direction) here (job_of now) store)) on.done
            ∙ sym (beats_split direction now.work here (left - here) (done_of now) store)
            ∙ ap (λ n. beats_on (channel_course direction) n (job_of now) store) split
            ∙ so_far.end_is;
        same_size = size ∙ so_far.same_size;
      }
