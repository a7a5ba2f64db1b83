-- That the tests of an issue decide what they test.
use Rattle.std.proofs.Common.{◌≡◌, ◌↔◌, ℕ, ◌+◌, ◌-◌, ◌<◌, ◌⊎◌, inl, inr, refl, sym, ap, subst, Bool, true, false, not, ◌&&◌, ◌||◌, nat_lt, IsTrue, IsFalse, arith}
use Rattle.std.specs.Bool.{Decides}
use Rattle.std.proofs.lemmas.Bool.{cases_lt, false≢true}
use Rattle.std.proofs.lemmas.Bool.Decides.{Decides-and, Decides-or, Decides-not, Decides-like, Decides-ltb, Decides-eqb, Decides-below_or}
use Rattle.ven_base.specs.Store.{Place, in_cells, in_memory, Size, HasPlace}
use Rattle.venice_isa.specs.declared.region.Region.{Region}
use Rattle.venice_isa.specs.declared.work.VecWork.{VecWork}
use Rattle.venice_isa.specs.declared.issue.Issue.{Issue}
use Rattle.venice_isa.specs.declared.issue.Issue.TheVariants.{Vector, Read, Write, RWait, WWait, VWait, TWait}
use Rattle.venice_isa.specs.Mode.{uses_b, is_conditional}
use Rattle.venice_isa.specs.Region.{place_in, Covers}
use Rattle.venice_isa.specs.Footprint.{Reads, Writes, source_a, source_b, destination, cells_of, memory_of, HasFootprint, Conflicts, writes_what_is_read, reads_what_is_written, both_write}
use Rattle.venice_isa.specs.Tests.{some_below, some_byte, some_read, some_written, is_outside, is_same, is_in_range, are_in_conflict}

-- ---- some byte of a region

below_decides : (test : ℕ → Bool) (P : ℕ → Type 0) → ((k : ℕ) → Decides (test k) (P k)) → (n : ℕ) → Decides (some_below n test) ((k : ℕ) × (k < n) × P k)
below_decides test P decides n = Decides-below_or test P (λ n. some_below n test) decides refl (λ n. refl) n

module _ (region : Region) (test : ℕ → Bool) (P : ℕ → Type 0) (decides : (p : ℕ) → Decides (test p) (P p)) where
  abbrev Found : Type 0
  Found = (p : ℕ) × Covers region p × P p

  abbrev FoundAt : Type 0
  FoundAt = (r : ℕ) × (r < region.rows) × ((j : ℕ) × (j < region.columns) × ((byte : ℕ) × (byte < region.size) × P (place_in region r j + byte)))

  to_place : FoundAt → Found
  to_place (r, row, (j, column, (byte, below, holds))) = (place_in region r j + byte, (r, j, record { row = row; column = column; from = omega arith; below = omega arith }), holds)

  from_place : Found → FoundAt
  from_place (p, (r, j, at), holds) =
      let back : place_in region r j + (p - place_in region r j) ≡ p = omega (arith, at.from) in
      (r, at.row, (j, at.column, (p - place_in region r j, omega (arith, at.from, at.below), subst P (sym back) holds)))

  pub byte_decides : Decides (some_byte region test) Found
  byte_decides =
      Decides-like (some_byte region test) to_place from_place
      (below_decides (λ r. some_below region.columns (λ j. some_below region.size (λ byte. test (place_in region r j + byte)))) (λ r. (j : ℕ) × (j < region.columns) × ((byte : ℕ) × (byte < region.size) × P (place_in region r j + byte)))
      (λ r. below_decides (λ j. some_below region.size (λ byte. test (place_in region r j + byte))) (λ j. (byte : ℕ) × (byte < region.size) × P (place_in region r j + byte))
      (λ j. below_decides (λ byte. test (place_in region r j + byte)) (λ byte. P (place_in region r j + byte)) (λ byte. decides (place_in region r j + byte)) region.size)
      region.columns)
      region.rows)

-- ---- waits touch no place

data Wait : Type 0 where
  for_reads : ℕ → Wait
  for_writes : ℕ → Wait
  for_vectors : Wait
  for_tag : ℕ → Wait

abbrev issue_of_wait : Wait → Issue
issue_of_wait (for_reads most) = RWait most
issue_of_wait (for_writes most) = WWait most
issue_of_wait for_vectors = VWait
issue_of_wait (for_tag tag) = TWait tag

-- the same four waits, at each kind of place
waits_read : (wait : Wait) (place : Place) → ¬ Reads (issue_of_wait wait) place
waits_read (for_reads most) (in_cells p) read = read
waits_read (for_reads most) (in_memory p) read = read
waits_read (for_writes most) (in_cells p) read = read
waits_read (for_writes most) (in_memory p) read = read
waits_read for_vectors (in_cells p) read = read
waits_read for_vectors (in_memory p) read = read
waits_read (for_tag tag) (in_cells p) read = read
waits_read (for_tag tag) (in_memory p) read = read

waits_write : (wait : Wait) (place : Place) → ¬ Writes (issue_of_wait wait) place
waits_write (for_reads most) (in_cells p) written = written
waits_write (for_reads most) (in_memory p) written = written
waits_write (for_writes most) (in_cells p) written = written
waits_write (for_writes most) (in_memory p) written = written
waits_write for_vectors (in_cells p) written = written
waits_write for_vectors (in_memory p) written = written
waits_write (for_tag tag) (in_cells p) written = written
waits_write (for_tag tag) (in_memory p) written = written

-- ---- some place that an issue reads, or writes

both : {x y : Bool} {P Q : Type 0} → Decides x P → Decides y Q → Decides (x && y) (P × Q)
both {x} {y} first second = Decides-and x y first second

either : {x y : Bool} {P Q : Type 0} → Decides x P → Decides y Q → Decides (x || y) (P ⊎ Q)
either {x} {y} first second = Decides-or x y first second

like : {x : Bool} {P Q : Type 0} → (P → Q) → (Q → P) → Decides x P → Decides x Q
like {x} to from decides = Decides-like x to from decides

itself : (x : Bool) → Decides x (IsTrue x)
itself x = (λ test. test, λ test. test)

is_false : (x : Bool) → Decides (not x) (IsFalse x)
is_false true = (λ test. absurd (false≢true test), λ false_one. absurd (false≢true (sym false_one)))
is_false false = (λ test. refl, λ false_one. refl)

module _ (test : Place → Bool) (P : Place → Type 0) (decides : (place : Place) → Decides (test place) (P place)) where
  -- one of these places passes the test
  abbrev Some : (Place → Type 0) → Type 0
  Some touches = (place : Place) × touches place × P place

  module _ (region : Region) (touches : Place → Type 0) where
    abbrev IsRegion : Type 0
    IsRegion = (p : ℕ) → touches (in_cells p) ↔ Covers region p

    abbrev IsRegionOfMemory : Type 0
    IsRegionOfMemory = (p : ℕ) → touches (in_memory p) ↔ Covers region p

    from_cells : IsRegion → ((p : ℕ) → ¬ touches (in_memory p)) → Some touches → (p : ℕ) × Covers region p × P (in_cells p)
    from_cells same none (in_cells p, touched, holds) = (p, (same p).0 touched, holds)
    from_cells same none (in_memory p, touched, holds) = absurd (none p touched)

    cells_decide : IsRegion → ((p : ℕ) → ¬ touches (in_memory p)) → Decides (some_byte region (λ p. test (in_cells p))) (Some touches)
    cells_decide same none =
        like (λ found. (in_cells found.0, (same found.0).1 found.1, found.2)) (from_cells same none)
        (byte_decides region (λ p. test (in_cells p)) (λ p. P (in_cells p)) (λ p. decides (in_cells p)))

    from_memory : IsRegionOfMemory → ((p : ℕ) → ¬ touches (in_cells p)) → Some touches → (p : ℕ) × Covers region p × P (in_memory p)
    from_memory same none (in_cells p, touched, holds) = absurd (none p touched)
    from_memory same none (in_memory p, touched, holds) = (p, (same p).0 touched, holds)

    memory_decides : IsRegionOfMemory → ((p : ℕ) → ¬ touches (in_cells p)) → Decides (some_byte region (λ p. test (in_memory p))) (Some touches)
    memory_decides same none =
        like (λ found. (in_memory found.0, (same found.0).1 found.1, found.2)) (from_memory same none)
        (byte_decides region (λ p. test (in_memory p)) (λ p. P (in_memory p)) (λ p. decides (in_memory p)))

  nowhere : (touches : Place → Type 0) → ((place : Place) → ¬ touches place) → Decides false (Some touches)
  nowhere touches none = (λ test. absurd (false≢true test), λ found. absurd (none found.0 found.1))

  pub written_decides : (issue : Issue) → Decides (some_written issue test) (Some (Writes issue))
  written_decides (Vector work) = cells_decide (destination work) (Writes (Vector work)) (λ p. (λ c. c, λ c. c)) (λ p none. none)
  written_decides (Read work) = cells_decide (cells_of work) (Writes (Read work)) (λ p. (λ c. c, λ c. c)) (λ p none. none)
  written_decides (Write work) = memory_decides (memory_of work) (Writes (Write work)) (λ p. (λ c. c, λ c. c)) (λ p none. none)
  written_decides (RWait most) = nowhere (Writes (RWait most)) (waits_write (for_reads most))
  written_decides (WWait most) = nowhere (Writes (WWait most)) (waits_write (for_writes most))
  written_decides VWait = nowhere (Writes VWait) (waits_write for_vectors)
  written_decides (TWait tag) = nowhere (Writes (TWait tag)) (waits_write (for_tag tag))

  module _ (work : VecWork) where
    abbrev Byte : Region → Type 0
    Byte region = (p : ℕ) × Covers region p × P (in_cells p)

    byte_of_cells : (region : Region) → Decides (some_byte region (λ p. test (in_cells p))) (Byte region)
    byte_of_cells region = byte_decides region (λ p. test (in_cells p)) (λ p. P (in_cells p)) (λ p. decides (in_cells p))

    abbrev Source : Type 0
    Source =
        ((IsFalse work.kind.a_scalar × Byte (source_a work))
        ⊎ ((IsTrue (uses_b work.kind.op) × IsFalse work.kind.b_scalar) × Byte (source_b work)))
        ⊎ (IsTrue (is_conditional work.kind.op) × Byte (destination work))

    is_read : Source → Some (Reads (Vector work))
    is_read (inl (inl (vector, found))) = (in_cells found.0, inl (vector, found.1), found.2)
    is_read (inl (inr (uses, found))) = (in_cells found.0, inr (inl (uses.0, uses.1, found.1)), found.2)
    is_read (inr (conditional, found)) = (in_cells found.0, inr (inr (conditional, found.1)), found.2)

    from_read : Some (Reads (Vector work)) → Source
    from_read (in_cells p, inl by_a, holds) = inl (inl (by_a.0, (p, by_a.1, holds)))
    from_read (in_cells p, inr (inl by_b), holds) = inl (inr ((by_b.0, by_b.1), (p, by_b.2, holds)))
    from_read (in_cells p, inr (inr old), holds) = inr (old.0, (p, old.1, holds))
    from_read (in_memory p, read, holds) = absurd read

    vector_read_decides : Decides (some_read (Vector work) test) (Some (Reads (Vector work)))
    vector_read_decides =
        like is_read from_read
        (either
        (either (both (is_false work.kind.a_scalar) (byte_of_cells (source_a work)))
        (both (both (itself (uses_b work.kind.op)) (is_false work.kind.b_scalar)) (byte_of_cells (source_b work))))
        (both (itself (is_conditional work.kind.op)) (byte_of_cells (destination work))))

  pub read_decides : (issue : Issue) → Decides (some_read issue test) (Some (Reads issue))
  read_decides (Vector work) = vector_read_decides work
  read_decides (Read work) = memory_decides (memory_of work) (Reads (Read work)) (λ p. (λ c. c, λ c. c)) (λ p none. none)
  read_decides (Write work) = cells_decide (cells_of work) (Reads (Write work)) (λ p. (λ c. c, λ c. c)) (λ p none. none)
  read_decides (RWait most) = nowhere (Reads (RWait most)) (waits_read (for_reads most))
  read_decides (WWait most) = nowhere (Reads (WWait most)) (waits_read (for_writes most))
  read_decides VWait = nowhere (Reads VWait) (waits_read for_vectors)
  read_decides (TWait tag) = nowhere (Reads (TWait tag)) (waits_read (for_tag tag))

-- ---- range

has_or_lacks : (size : Size) (place : Place) → HasPlace size place ⊎ (¬ HasPlace size place)
has_or_lacks size (in_cells p) = elim (cases_lt p size.cells) [ inl below ↦ inl below | inr past ↦ inr (λ below. omega arith) ]
has_or_lacks size (in_memory p) = elim (cases_lt p size.memory) [ inl below ↦ inl below | inr past ↦ inr (λ below. omega arith) ]

outside_decides : (size : Size) (place : Place) → Decides (is_outside size place) (¬ HasPlace size place)
outside_decides size (in_cells p) = Decides-not (nat_lt p size.cells) (Decides-ltb p size.cells)
outside_decides size (in_memory p) = Decides-not (nat_lt p size.memory) (Decides-ltb p size.memory)

module _ (size : Size) (touches : Place → Type 0) where
  has_all : ¬ Some (is_outside size) (λ place. ¬ HasPlace size place) (outside_decides size) touches → (place : Place) → touches place → HasPlace size place
  has_all none place touched = elim (has_or_lacks size place) [ inl has ↦ has | inr lacks ↦ absurd (none (place, touched, lacks)) ]

pub range_decides : (size : Size) (issue : Issue) → Decides (is_in_range size issue) (HasFootprint size issue)
unfolding is_in_range
range_decides size issue =
    like (λ none. record { has_reads = has_all size (Reads issue) none.0; has_writes = has_all size (Writes issue) none.1 })
    (λ has. (λ found. found.2 (has.has_reads found.0 found.1), λ found. found.2 (has.has_writes found.0 found.1)))
    (both (Decides-not (some_read issue (is_outside size)) (read_decides (is_outside size) (λ place. ¬ HasPlace size place) (outside_decides size) issue))
    (Decides-not (some_written issue (is_outside size)) (written_decides (is_outside size) (λ place. ¬ HasPlace size place) (outside_decides size) issue)))

-- ---- conflict

abbrev number_of_place : Place → ℕ
number_of_place (in_cells p) = p
number_of_place (in_memory p) = p

abbrev is_of_cells : Place → Bool
is_of_cells (in_cells p) = true
is_of_cells (in_memory p) = false

same_decides : (place other : Place) → Decides (is_same place other) (place ≡ other)
same_decides (in_cells p) (in_cells q) = like (λ same. ap in_cells same) (λ same. ap number_of_place same) (Decides-eqb p q)
same_decides (in_memory p) (in_memory q) = like (λ same. ap in_memory same) (λ same. ap number_of_place same) (Decides-eqb p q)
same_decides (in_cells p) (in_memory q) = (λ test. absurd (false≢true test), λ same. absurd (false≢true (ap is_of_cells (sym same))))
same_decides (in_memory p) (in_cells q) = (λ test. absurd (false≢true test), λ same. absurd (false≢true (ap is_of_cells same)))

module _ (first second : Issue) where
  abbrev Third : Place → Type 0
  Third place = Some (is_same place) (λ other. place ≡ other) (same_decides place) (Reads second) ⊎ Some (is_same place) (λ other. place ≡ other) (same_decides place) (Writes second)

  abbrev Fourth : Place → Type 0
  Fourth place = Some (is_same place) (λ other. place ≡ other) (same_decides place) (Writes second)

  abbrev Ways : Type 0
  Ways = ((place : Place) × Writes first place × Third place) ⊎ ((place : Place) × Reads first place × Fourth place)

  one_way : Ways → Conflicts first second
  one_way (inl (place, written, inl (other, read, same))) = writes_what_is_read other (subst (Writes first) same written) read
  one_way (inl (place, written, inr (other, written_too, same))) = both_write other (subst (Writes first) same written) written_too
  one_way (inr (place, read, (other, written, same))) = reads_what_is_written other (subst (Reads first) same read) written

  some_way : Conflicts first second → Ways
  some_way (writes_what_is_read place written read) = inl (place, written, inl (place, read, refl))
  some_way (reads_what_is_written place read written) = inr (place, read, (place, written, refl))
  some_way (both_write place written written_too) = inl (place, written, inr (place, written_too, refl))

  pub conflict_decides : Decides (are_in_conflict first second) (Conflicts first second)
  unfolding are_in_conflict
  conflict_decides =
      like one_way some_way
      (either
      (written_decides (λ place. some_read second (is_same place) || some_written second (is_same place)) Third
      (λ place. either (read_decides (is_same place) (λ other. place ≡ other) (same_decides place) second) (written_decides (is_same place) (λ other. place ≡ other) (same_decides place) second)) first)
      (read_decides (λ place. some_written second (is_same place)) Fourth
      (λ place. written_decides (is_same place) (λ other. place ≡ other) (same_decides place) second) first))
