-- Good instructions: simple, and within the buffers of a tile.
use Rattle.std.specs.Prelude.{◌≡◌, ℕ, ◌+◌, ◌*◌, ◌<◌, ◌≤◌, true}
use Rattle.ven_base.specs.Store.{in_cells}
use Rattle.venice_isa.specs.declared.work.VecWork.{VecWork}
use Rattle.venice_isa.specs.declared.issue.Issue.TheVariants.{Vector}
use Rattle.venice_isa.specs.Footprint.{Reads, Writes}
use Rattle.venice_isa.specs.Whole.{IsSimple}
use Rattle.vector_codegen.specs.Work.{Buffers, leaf_buffer, slot_buffer, out_buffer, partial_buffer}

-- a cell lies among so many from the first on
pub record IsIn (first count p : ℕ) : Type 0 where
  pub begins : first ≤ p
  pub ends : p < first + count

-- a cell lies in one of these buffers
abbrev pub IsNamed : (ℕ → Type 0) → (room : ℕ) → ℕ → Type 0
IsNamed Allowed room p = (buffer : ℕ) × Allowed buffer × IsIn (buffer * room) room p

-- the instruction is simple, so it has counts, and all that it reads and writes lies in these buffers
pub record IsGood (Allowed : ℕ → Type 0) (room : ℕ) (work : VecWork) : Type 0 where
  pub simple : IsSimple work
  pub reads : (p : ℕ) → Reads (Vector work) (in_cells p) → IsNamed Allowed room p
  pub writes : (p : ℕ) → Writes (Vector work) (in_cells p) → IsNamed Allowed room p

-- the buffers that a tile may touch: the leaves' halves, the slots, the output half, and the partial result where there
-- is one
pub data IsTileBuffer (b : Buffers) (buffer : ℕ) : Type 0 where
  a_leaf : (number : ℕ) → number < b.leaves → buffer ≡ leaf_buffer b number → IsTileBuffer b buffer
  a_slot : (slot : ℕ) → slot < b.slots → buffer ≡ slot_buffer b slot → IsTileBuffer b buffer
  the_output : buffer ≡ out_buffer b → IsTileBuffer b buffer
  the_partial : b.has_partial ≡ true → buffer ≡ partial_buffer b → IsTileBuffer b buffer
