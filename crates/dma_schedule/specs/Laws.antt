-- What holds of the pipelined list of a split.
use Rattle.std.specs.Prelude.{ℕ, ◌^◌, ◌≤◌, ◌<◌, length, get_or, All, Contains, IsTrue}
use Rattle.ven_base.specs.Store.{Store}
use Rattle.venice_isa.specs.declared.instr.Version.TheVariants.{Two}
use Rattle.venice_isa.specs.declared.issue.Issue.{Issue}
use Rattle.venice_isa.specs.Tests.{has_counts}
use Rattle.venice_isa.specs.Footprint.{HasFootprint}
use Rattle.venice_isa.specs.Beat.{sequential}
use Rattle.venice_isa.specs.Flight.{IsDisciplined}
use Rattle.pass_plan.specs.Pass.{Pass, Arrays, arrays_after}
use Rattle.pass_plan.specs.Need.{need_of}
use Rattle.pass_plan.specs.Tile.{tile_of, tiles_of}
use Rattle.pass_plan.specs.Sound.{Split, IsSound, no_place, destinations_of, IsArrayOf}
use Rattle.dma_segments.specs.Laws.{HasArray}
use Rattle.vector_codegen.specs.Effect.{AreFew}
use Rattle.dma_schedule.specs.PipeList.{tile_works, pipe_list}
use Rattle.dma_schedule.specs.Pipelined.{IsPipelined}

-- for a sound split, and a scratchpad of fewer than 2 to the 32 bytes that holds its need
abbrev pub OfSplits : (Split → (spad : ℕ) → Type 0) → Type 0
OfSplits Holds = (split : Split) (spad : ℕ) → IsSound split → need_of split.passes ≤ spad → spad < 2 ^ 32
    → Holds split spad

-- it is pipelined
abbrev pub ListsArePipelined : Type 0
ListsArePipelined = OfSplits (λ split spad. IsPipelined split spad (pipe_list split spad))

-- where each channel may overtake, it meets no hazard
abbrev pub ListsAreDisciplined : Type 0
ListsAreDisciplined = OfSplits (λ split spad. IsDisciplined Two (pipe_list split spad))

-- the work has counts, and keeps below the scratchpad and the split's memory
pub record KeepsInside (split : Split) (spad : ℕ) (issue : Issue) : Type 0 where
  pub counts : IsTrue (has_counts issue)
  pub inside : HasFootprint (record { cells = spad; memory = split.memory }) issue

abbrev pub ListsKeepInside : Type 0
ListsKeepInside = OfSplits (λ split spad. All (KeepsInside split spad) (pipe_list split spad))

-- the instructions of each tile are few, and so are their beats
abbrev pub ComputesFew : Split → (spad : ℕ) → Pass → Type 0
ComputesFew split spad pass = (t : ℕ) → t < tiles_of pass.domain (tile_of pass spad)
    → AreFew pass (tile_of pass spad) t (tile_works split.arrays pass (tile_of pass spad) t)

abbrev pub ListsAreShort : Type 0
ListsAreShort = OfSplits (λ split spad. All (ComputesFew split spad) split.passes)

-- the store has the scratchpad and the split's memory, and there each array that no pass makes
pub record HoldsSources (split : Split) (spad : ℕ) (arrays : Arrays) (store : Store) : Type 0 where
  pub cells : spad ≤ length store.cells
  pub memory : split.memory ≤ length store.memory
  pub are : (k : ℕ) → k < length split.arrays → ¬ Contains (destinations_of split.passes) k
      → IsArrayOf (get_or split.arrays k no_place) (arrays k)
  pub stand : (k : ℕ) → k < length split.arrays → ¬ Contains (destinations_of split.passes) k
      → HasArray (get_or split.arrays k no_place) (arrays k) store

-- done one issue after another, for any number of lanes and whatever else stood in cells and memory, the list leaves
-- every array, those that the passes make among them
abbrev pub ListsLeaveArrays : Type 0
ListsLeaveArrays = OfSplits (λ split spad. (arrays : Arrays) (lanes : ℕ) (store : Store) → 0 < lanes
    → HoldsSources split spad arrays store → (k : ℕ) → k < length split.arrays
    → HasArray (get_or split.arrays k no_place) (arrays_after split.passes arrays k)
    (sequential (pipe_list split spad) lanes store))
