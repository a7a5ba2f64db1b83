-- Pipelined lists: what is asked of the blocks of each pass.
use Rattle.std.specs.Prelude.{◌≡◌, ◌↔◌, ℕ, suc, ◌<◌, true, false, ◌⊎◌, List, [], ◌∷◌, ◌++◌, length, get_or, All, AllPairs, Any}
use Rattle.ven_base.specs.Store.{in_cells, in_memory}
use Rattle.venice_isa.specs.declared.work.VecWork.{VecWork}
use Rattle.venice_isa.specs.declared.work.DmaWork.{DmaWork}
use Rattle.venice_isa.specs.declared.issue.Issue.{Issue}
use Rattle.venice_isa.specs.declared.issue.Issue.TheVariants.{Vector, Read, Write}
use Rattle.venice_isa.specs.Region.{HasElementsApart}
use Rattle.venice_isa.specs.Footprint.{Writes, cells_of}
use Rattle.pass_plan.specs.declared.parts.Tile.{Tile}
use Rattle.pass_plan.specs.declared.split.ArrayPlace.{ArrayPlace}
use Rattle.pass_plan.specs.Pass.{Pass}
use Rattle.pass_plan.specs.Tile.{tile_of, tiles_of, piece_of}
use Rattle.pass_plan.specs.Buffers.{buffer_bytes, leaf_buffer, output_buffer, output_half, cell_of, tiles_per_row, ends_row, IsLeafPlace, IsPiecePlace}
use Rattle.pass_plan.specs.Sound.{Split, no_place}
use Rattle.dma_segments.specs.Moves.{moves}
use Rattle.dma_segments.specs.Laws.{leaf_of}
use Rattle.dma_schedule.specs.Blocks.{Blocks, leaf_half, write_tag, pass_list}

-- at most so many of the list are of a kind
abbrev pub HasAtMost : (Is : Issue → Type 0) → List Issue → (most : ℕ) → Type 0
HasAtMost Is [] most = Unit {0}
HasAtMost Is (issue ∷ issues) most =
    (¬ Is issue × HasAtMost Is issues most) ⊎ ((fewer : ℕ) × (most ≡ suc fewer) × HasAtMost Is issues fewer)

-- a read with the tag, which writes no byte twice
abbrev pub IsTaggedRead : (tag : ℕ) → Issue → Type 0
IsTaggedRead tag issue =
    (work : DmaWork) × (issue ≡ Read work) × (work.tag ≡ tag) × HasElementsApart (cells_of work)

abbrev pub IsVector : Issue → Type 0
IsVector issue = (work : VecWork) × (issue ≡ Vector work)

-- two issues write no byte both
abbrev pub WriteApart : (first second : Issue) → Type 0
WriteApart first second = (p : ℕ) → Writes first (in_cells p) → ¬ Writes second (in_cells p)

module _ (pass : Pass) (tile : Tile) (place : ℕ) where
  -- the issue writes into a leaf's half for tile t
  abbrev pub WritesHalf : (number t : ℕ) → Issue → Type 0
  WritesHalf number t issue =
      (o : ℕ) × (o < buffer_bytes pass tile)
      × Writes issue (in_cells (cell_of pass tile (leaf_buffer pass tile number (leaf_half t)) o))

  -- reads with the tile's tag, which together write the bytes of the leaves' pieces, fills apart, each once; each
  -- leaf's half is written by few of them
  pub record AreReads (t : ℕ) (block : List Issue) : Type 0 where
    pub are_reads : All (IsTaggedRead (leaf_half t)) block
    pub few : (number : ℕ) → number < length pass.leaves
        → HasAtMost (WritesHalf number t) block (moves (leaf_of pass number).map (piece_of pass.domain tile t))
    pub only : All (λ issue. (p : ℕ) → Writes issue (in_cells p)
        → (number : ℕ) × IsLeafPlace pass tile number t p) block
    pub each : (number p : ℕ) → IsLeafPlace pass tile number t p → Any (λ issue. Writes issue (in_cells p)) block
    pub once : AllPairs WriteApart block

  -- vector instructions, which write no output half but the tile's
  pub record AreInstructions (t : ℕ) (block : List Issue) : Type 0 where
    pub are_vectors : All IsVector block
    pub one_half : All (λ issue. (half o : ℕ) → half < 2 → o < buffer_bytes pass tile
        → Writes issue (in_cells (cell_of pass tile (output_buffer pass tile half) o))
        → half ≡ output_half pass tile t) block

  -- one write with the tag of the output half, of the destination's piece, where a tile ends its row, else none
  pub record AreWrites (t : ℕ) (block : List Issue) : Type 0 where
    pub one : ends_row pass tile t ≡ true → (work : DmaWork) × (block ≡ Write work ∷ [])
        × (work.tag ≡ write_tag (output_half pass tile t))
        × ((p : ℕ) → Writes (Write work) (in_memory p) ↔ IsPiecePlace pass tile place t p)
    pub none : ends_row pass tile t ≡ false → block ≡ []

  pub record AreBlocks (blocks : Blocks) : Type 0 where
    pub tiles_are : blocks.tiles ≡ tiles_of pass.domain tile
    pub rows_are : blocks.tiles_per_row ≡ tiles_per_row pass tile
    pub reads : (t : ℕ) → t < blocks.tiles → AreReads t (blocks.reads t)
    pub compute : (t : ℕ) → t < blocks.tiles → AreInstructions t (blocks.compute t)
    pub writes : (t : ℕ) → t < blocks.tiles → AreWrites t (blocks.writes t)

-- the list of one pass, whose array stands at this place
pub record IsPassList (pass : Pass) (tile : Tile) (place : ℕ) (list : List Issue) : Type 0 where
  pub blocks : Blocks
  pub are : AreBlocks pass tile place blocks
  pub is : list ≡ pass_list blocks

-- a list for each pass, one after another
abbrev pub ArePassLists : List ArrayPlace → (spad : ℕ) → List Pass → List Issue → Type 0
ArePassLists arrays spad [] list = list ≡ []
ArePassLists arrays spad (pass ∷ passes) list = (front : List Issue) × (back : List Issue)
    × IsPassList pass (tile_of pass spad) (get_or arrays pass.dest no_place).place front
    × ArePassLists arrays spad passes back × (list ≡ front ++ back)

abbrev pub IsPipelined : Split → (spad : ℕ) → List Issue → Type 0
IsPipelined split spad list = ArePassLists split.arrays spad split.passes list
