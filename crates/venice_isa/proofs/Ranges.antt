-- When a work is in range, by where its elements or bytes stand.
use Rattle.std.proofs.Common.{ℕ, inl, inr, IsTrue, IsFalse}
use Rattle.ven_base.specs.Store.{Place, in_cells, in_memory, Size, HasPlace, IsInRange}
use Rattle.venice_isa.specs.declared.work.VecWork.{VecWork}
use Rattle.venice_isa.specs.declared.work.DmaWork.{DmaWork}
use Rattle.venice_isa.specs.declared.issue.Issue.TheVariants.{Vector, Read, Write}
use Rattle.venice_isa.specs.Mode.{uses_b}
use Rattle.venice_isa.specs.Region.{LiesBelow}
use Rattle.venice_isa.specs.Footprint.{Reads, Writes, source_a, source_b, destination, cells_of, memory_of}

-- ---- an instruction

module _ (work : VecWork) (size : Size) where
  -- its cells are those of its sources and of its destination
  pub vector_in_range : (IsFalse work.kind.a_scalar → LiesBelow (source_a work) size.cells) → (IsTrue (uses_b work.kind.op) → IsFalse work.kind.b_scalar → LiesBelow (source_b work) size.cells) → LiesBelow (destination work) size.cells
      → IsInRange (Reads (Vector work)) (Writes (Vector work)) size
  vector_in_range below_a below_b below = record { has_reads = reads; has_writes = writes }
    where
      reads : (place : Place) → Reads (Vector work) place → HasPlace size place
      reads (in_cells p) read =
          elim read [
            | inl by_a ↦ below_a by_a.0 p by_a.1
            | inr rest ↦ elim rest [ inl by_b ↦ below_b by_b.0 by_b.1 p by_b.2 | inr old ↦ below p old.1 ]
          ]
      reads (in_memory p) read = absurd read

      writes : (place : Place) → Writes (Vector work) place → HasPlace size place
      writes (in_cells p) written = below p written
      writes (in_memory p) written = absurd written

  module _ (in_range : IsInRange (Reads (Vector work)) (Writes (Vector work)) size) where
    pub a_below : IsFalse work.kind.a_scalar → LiesBelow (source_a work) size.cells
    a_below vector p covers = in_range.has_reads (in_cells p) (inl (vector, covers))

    pub b_below : IsTrue (uses_b work.kind.op) → IsFalse work.kind.b_scalar → LiesBelow (source_b work) size.cells
    b_below uses vector p covers = in_range.has_reads (in_cells p) (inr (inl (uses, vector, covers)))

    pub destination_below : LiesBelow (destination work) size.cells
    destination_below p covers = in_range.has_writes (in_cells p) covers

    -- it touches no memory
    pub in_any_memory : (memory : ℕ) → IsInRange (Reads (Vector work)) (Writes (Vector work)) (record { cells = size.cells; memory = memory })
    in_any_memory memory = record { has_reads = reads; has_writes = writes }
      where
        reads : (place : Place) → Reads (Vector work) place → HasPlace (record { cells = size.cells; memory = memory }) place
        reads (in_cells p) read = in_range.has_reads (in_cells p) read
        reads (in_memory p) read = absurd read

        writes : (place : Place) → Writes (Vector work) place → HasPlace (record { cells = size.cells; memory = memory }) place
        writes (in_cells p) written = in_range.has_writes (in_cells p) written
        writes (in_memory p) written = absurd written

-- ---- a transfer

module _ (work : DmaWork) (size : Size) where
  pub read_in_range : LiesBelow (memory_of work) size.memory → LiesBelow (cells_of work) size.cells → IsInRange (Reads (Read work)) (Writes (Read work)) size
  read_in_range memory_below cells_below = record { has_reads = reads; has_writes = writes }
    where
      reads : (place : Place) → Reads (Read work) place → HasPlace size place
      reads (in_cells p) read = absurd read
      reads (in_memory p) read = memory_below p read

      writes : (place : Place) → Writes (Read work) place → HasPlace size place
      writes (in_cells p) written = cells_below p written
      writes (in_memory p) written = absurd written

  pub write_in_range : LiesBelow (memory_of work) size.memory → LiesBelow (cells_of work) size.cells → IsInRange (Reads (Write work)) (Writes (Write work)) size
  write_in_range memory_below cells_below = record { has_reads = reads; has_writes = writes }
    where
      reads : (place : Place) → Reads (Write work) place → HasPlace size place
      reads (in_cells p) read = cells_below p read
      reads (in_memory p) read = absurd read

      writes : (place : Place) → Writes (Write work) place → HasPlace size place
      writes (in_cells p) written = absurd written
      writes (in_memory p) written = memory_below p written
