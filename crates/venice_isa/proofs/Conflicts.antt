-- When two works conflict, by what they are: which of their regions share a byte.
use Rattle.std.proofs.Common.{◌≡◌, ◌↔◌, ◌⊎◌, ℕ, inl, inr, subst, sym, IsTrue, IsFalse}
use Rattle.ven_base.specs.Store.{in_cells, in_memory}
use Rattle.venice_isa.specs.declared.region.Region.{Region}
use Rattle.venice_isa.specs.declared.work.VecWork.{VecWork}
use Rattle.venice_isa.specs.declared.work.DmaWork.{DmaWork}
use Rattle.venice_isa.specs.declared.issue.Issue.{Issue}
use Rattle.venice_isa.specs.declared.issue.Issue.TheVariants.{Vector, Read, Write}
use Rattle.venice_isa.specs.Mode.{uses_b}
use Rattle.venice_isa.specs.Region.{Covers}
use Rattle.venice_isa.specs.Footprint.{Reads, Writes, ReadsA, ReadsB, source_a, source_b, destination, cells_of, memory_of, Conflicts, writes_what_is_read, reads_what_is_written, both_write}
use Rattle.venice_isa.specs.Meeting.{Meet}

-- a source that isn't a scalar has a byte of the region
abbrev pub ReadsFrom : VecWork → Region → Type 0
ReadsFrom work region = (p : ℕ) × Covers region p × (ReadsA work p ⊎ ReadsB work p)

-- the instruction reads or writes a byte of the region
abbrev pub Touches : VecWork → Region → Type 0
Touches work region = (p : ℕ) × Covers region p × (Reads (Vector work) (in_cells p) ⊎ Writes (Vector work) (in_cells p))

abbrev meet_at : (first second : Region) (p : ℕ) → Covers first p → Covers second p → Meet first second
meet_at first second p in_first in_second = record { place = p; in_first = in_first; in_second = in_second }

module _ (work : VecWork) (region : Region) where
  pub by_a : IsFalse work.kind.a_scalar → Meet (source_a work) region → ReadsFrom work region
  by_a vector meet = (meet.place, meet.in_second, inl (vector, meet.in_first))

  pub by_b : IsTrue (uses_b work.kind.op) → IsFalse work.kind.b_scalar → Meet (source_b work) region → ReadsFrom work region
  by_b uses vector meet = (meet.place, meet.in_second, inr (uses, vector, meet.in_first))

  pub which_source : ReadsFrom work region → (IsFalse work.kind.a_scalar × Meet (source_a work) region) ⊎ ((IsTrue (uses_b work.kind.op) × IsFalse work.kind.b_scalar) × Meet (source_b work) region)
  which_source (p, covers, inl a) = inl (a.0, meet_at (source_a work) region p a.1 covers)
  which_source (p, covers, inr b) = inr ((b.0, b.1), meet_at (source_b work) region p b.2 covers)

  pub by_destination : Meet (destination work) region → Touches work region
  by_destination meet = (meet.place, meet.in_second, inr meet.in_first)

  pub by_source : ReadsFrom work region → Touches work region
  by_source (p, covers, inl a) = (p, covers, inl (inl a))
  by_source (p, covers, inr b) = (p, covers, inl (inr (inl b)))

  pub which_touch : Touches work region → Meet (destination work) region ⊎ ReadsFrom work region
  which_touch (p, covers, inl (inl a)) = inr (p, covers, inl a)
  which_touch (p, covers, inl (inr (inl b))) = inr (p, covers, inr b)
  which_touch (p, covers, inl (inr (inr old))) = inl (meet_at (destination work) region p old.1 covers)
  which_touch (p, covers, inr written) = inl (meet_at (destination work) region p written covers)

-- a test of two regions is one of two that are the same
pub same_regions : (test : Type 0) (first second first_too second_too : Region) → first ≡ first_too → second ≡ second_too → test ↔ Meet first second → test ↔ Meet first_too second_too
same_regions test first second first_too second_too first_same second_same decides =
    subst (λ region. test ↔ Meet region second_too) first_same (subst (λ region. test ↔ Meet first region) second_same decides)

-- ---- two instructions

module _ (first second : VecWork) where
  pub vectors_by_touch : Touches first (destination second) → Conflicts (Vector first) (Vector second)
  vectors_by_touch (p, covers, inl read) = reads_what_is_written (in_cells p) read covers
  vectors_by_touch (p, covers, inr written) = both_write (in_cells p) written covers

  pub vectors_by_read : ReadsFrom second (destination first) → Conflicts (Vector first) (Vector second)
  vectors_by_read (p, covers, inl a) = writes_what_is_read (in_cells p) covers (inl a)
  vectors_by_read (p, covers, inr b) = writes_what_is_read (in_cells p) covers (inr (inl b))

  pub vectors_which : Conflicts (Vector first) (Vector second) → Touches first (destination second) ⊎ ReadsFrom second (destination first)
  vectors_which (writes_what_is_read (in_cells p) written (inl a)) = inr (p, written, inl a)
  vectors_which (writes_what_is_read (in_cells p) written (inr (inl b))) = inr (p, written, inr b)
  vectors_which (writes_what_is_read (in_cells p) written (inr (inr old))) = inl (p, old.1, inr written)
  vectors_which (writes_what_is_read (in_memory p) written read) = absurd written
  vectors_which (reads_what_is_written (in_cells p) read written) = inl (p, written, inl read)
  vectors_which (reads_what_is_written (in_memory p) read written) = absurd written
  vectors_which (both_write (in_cells p) written written_too) = inl (p, written_too, inr written)
  vectors_which (both_write (in_memory p) written written_too) = absurd written

-- ---- an instruction and a transfer

module _ (vector : VecWork) (transfer : DmaWork) where
  pub vector_and_read : Conflicts (Vector vector) (Read transfer) ↔ Touches vector (cells_of transfer)
  vector_and_read = (to, from)
    where
      to : Conflicts (Vector vector) (Read transfer) → Touches vector (cells_of transfer)
      to (writes_what_is_read (in_cells p) written read) = absurd read
      to (writes_what_is_read (in_memory p) written read) = absurd written
      to (reads_what_is_written (in_cells p) read written) = (p, written, inl read)
      to (reads_what_is_written (in_memory p) read written) = absurd written
      to (both_write (in_cells p) written written_too) = (p, written_too, inr written)
      to (both_write (in_memory p) written written_too) = absurd written

      from : Touches vector (cells_of transfer) → Conflicts (Vector vector) (Read transfer)
      from (p, covers, inl read) = reads_what_is_written (in_cells p) read covers
      from (p, covers, inr written) = both_write (in_cells p) written covers

  pub vector_and_write : Conflicts (Vector vector) (Write transfer) ↔ Meet (destination vector) (cells_of transfer)
  vector_and_write = (to, from)
    where
      to : Conflicts (Vector vector) (Write transfer) → Meet (destination vector) (cells_of transfer)
      to (writes_what_is_read (in_cells p) written read) = meet_at (destination vector) (cells_of transfer) p written read
      to (writes_what_is_read (in_memory p) written read) = absurd written
      to (reads_what_is_written (in_cells p) read written) = absurd written
      to (reads_what_is_written (in_memory p) read written) = absurd read
      to (both_write (in_cells p) written written_too) = absurd written_too
      to (both_write (in_memory p) written written_too) = absurd written

      from : Meet (destination vector) (cells_of transfer) → Conflicts (Vector vector) (Write transfer)
      from meet = writes_what_is_read (in_cells meet.place) meet.in_first meet.in_second

-- ---- two transfers

module _ (first second : DmaWork) where
  pub two_reads : Conflicts (Read first) (Read second) ↔ Meet (cells_of first) (cells_of second)
  two_reads = (to, from)
    where
      to : Conflicts (Read first) (Read second) → Meet (cells_of first) (cells_of second)
      to (writes_what_is_read (in_cells p) written read) = absurd read
      to (writes_what_is_read (in_memory p) written read) = absurd written
      to (reads_what_is_written (in_cells p) read written) = absurd read
      to (reads_what_is_written (in_memory p) read written) = absurd written
      to (both_write (in_cells p) written written_too) = meet_at (cells_of first) (cells_of second) p written written_too
      to (both_write (in_memory p) written written_too) = absurd written

      from : Meet (cells_of first) (cells_of second) → Conflicts (Read first) (Read second)
      from meet = both_write (in_cells meet.place) meet.in_first meet.in_second

  pub two_writes : Conflicts (Write first) (Write second) ↔ Meet (memory_of first) (memory_of second)
  two_writes = (to, from)
    where
      to : Conflicts (Write first) (Write second) → Meet (memory_of first) (memory_of second)
      to (writes_what_is_read (in_cells p) written read) = absurd written
      to (writes_what_is_read (in_memory p) written read) = absurd read
      to (reads_what_is_written (in_cells p) read written) = absurd written
      to (reads_what_is_written (in_memory p) read written) = absurd read
      to (both_write (in_cells p) written written_too) = absurd written
      to (both_write (in_memory p) written written_too) = meet_at (memory_of first) (memory_of second) p written written_too

      from : Meet (memory_of first) (memory_of second) → Conflicts (Write first) (Write second)
      from meet = both_write (in_memory meet.place) meet.in_first meet.in_second

  pub read_and_write : Conflicts (Read first) (Write second) ↔ (Meet (cells_of first) (cells_of second) ⊎ Meet (memory_of first) (memory_of second))
  read_and_write = (to, from)
    where
      to : Conflicts (Read first) (Write second) → Meet (cells_of first) (cells_of second) ⊎ Meet (memory_of first) (memory_of second)
      to (writes_what_is_read (in_cells p) written read) = inl (meet_at (cells_of first) (cells_of second) p written read)
      to (writes_what_is_read (in_memory p) written read) = absurd written
      to (reads_what_is_written (in_cells p) read written) = absurd read
      to (reads_what_is_written (in_memory p) read written) = inr (meet_at (memory_of first) (memory_of second) p read written)
      to (both_write (in_cells p) written written_too) = absurd written_too
      to (both_write (in_memory p) written written_too) = absurd written

      from : Meet (cells_of first) (cells_of second) ⊎ Meet (memory_of first) (memory_of second) → Conflicts (Read first) (Write second)
      from (inl meet) = writes_what_is_read (in_cells meet.place) meet.in_first meet.in_second
      from (inr meet) = reads_what_is_written (in_memory meet.place) meet.in_first meet.in_second

-- ---- either order

swapped : (first second : Issue) → Conflicts first second → Conflicts second first
swapped first second (writes_what_is_read place written read) = reads_what_is_written place read written
swapped first second (reads_what_is_written place read written) = writes_what_is_read place written read
swapped first second (both_write place written written_too) = both_write place written_too written

pub turned : (one other : Issue) (Fact : Type 0) → Conflicts one other ↔ Fact → Conflicts other one ↔ Fact
turned one other Fact law = (λ conflict. law.0 (swapped other one conflict), λ fact. swapped one other (law.1 fact))

-- what a test says of a fact it says of the conflict that the fact stands for, where the other issue is this work
pub by_law : (test : Type 0) (one other second : Issue) (Fact : Type 0) → Conflicts one other ↔ Fact → second ≡ other → test ↔ Fact → test ↔ Conflicts one second
by_law test one other second Fact law is_other decides =
    subst (λ issue. test ↔ Conflicts one issue) (sym is_other) (λ holds. law.1 (decides.0 holds), λ conflict. decides.1 (law.0 conflict))

-- the same of what a test says of two works
pub of_first : (test : Type 0) (one first second : Issue) → first ≡ one → test ↔ Conflicts one second → test ↔ Conflicts first second
of_first test one first second is_one decides = subst (λ issue. test ↔ Conflicts issue second) (sym is_one) decides
