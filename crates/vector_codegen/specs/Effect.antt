-- What the instructions of a tile are given, and what they leave.
use Rattle.std.specs.Prelude.{◌≡◌, ℕ, ◌+◌, ◌*◌, ◌^◌, ◌≤◌, ◌<◌, None, List, length, map, All, AllPairs, Any}
use Rattle.ven_base.specs.Store.{Store, in_cells}
use Rattle.venice_isa.specs.declared.work.VecWork.{VecWork}
use Rattle.venice_isa.specs.declared.issue.Issue.TheVariants.{Vector}
use Rattle.venice_isa.specs.Beat.{sequential}
use Rattle.venice_isa.specs.Footprint.{Reads, Writes}
use Rattle.venice_isa.specs.Region.{Covers, IsApartFrom, HasRowsApart}
use Rattle.venice_isa.specs.Whole.{IsSimple}
use Rattle.pass_plan.specs.declared.parts.Piece.{Piece}
use Rattle.pass_plan.specs.declared.parts.Tile.{Tile}
use Rattle.pass_plan.specs.declared.split.ArrayPlace.{ArrayPlace}
use Rattle.pass_plan.specs.Tree.{nodes_of}
use Rattle.pass_plan.specs.Label.{label_of}
use Rattle.pass_plan.specs.Pass.{Pass, Arrays}
use Rattle.pass_plan.specs.Need.{buffers_of, pass_need}
use Rattle.pass_plan.specs.Tile.{tile_of, tiles_of, piece_of}
use Rattle.pass_plan.specs.Buffers.{buffer_bytes, piece_rows, piece_columns, IsLeafByte, IsCarriedByte, IsResultByte, IsTileCell}
use Rattle.pass_plan.specs.Sound.{IsSoundPass, HasArrays}
use Rattle.buffer_lifetimes.specs.Step.{Tree, Step}
use Rattle.buffer_lifetimes.specs.Order.{IsOrder}
use Rattle.dma_segments.specs.declared.segments.Fill.{Fill}
use Rattle.dma_segments.specs.Put.{IsFill, cells_of_fill, source_in, piece_cell}
use Rattle.dma_segments.specs.Effect.{HasByte}
use Rattle.dma_segments.specs.Laws.{leaf_of, leaf_cell}
use Rattle.vector_codegen.specs.Count.{AreAtMost}

-- some arrays and later destinations make the pass a sound one
abbrev pub IsSoundSomewhere : Pass → Type 0
IsSoundSomewhere pass = (places : List ArrayPlace) × (later : List ℕ) × IsSoundPass places later pass

-- the tile is that of the pass in a scratchpad of fewer than 2 to the 32 bytes, and it has a tile number t
pub record IsTileNumber (pass : Pass) (tile : Tile) (t : ℕ) : Type 0 where
  pub spad : ℕ
  pub holds : pass_need pass ≤ spad
  pub few : spad < 2 ^ 32
  pub is : tile ≡ tile_of pass spad
  pub within : t < tiles_of pass.domain tile

-- the steps are an order of the tree, on as many slots as its label
pub record IsOrderOf (tree : Tree) (slots : ℕ) (steps : List Step) : Type 0 where
  pub slots_are : slots ≡ label_of tree
  pub to : ℕ
  pub order : IsOrder tree (label_of tree) steps to

module _ (pass : Pass) (tile : Tile) (t : ℕ) where
  abbrev pub tile_piece : Piece
  tile_piece = piece_of pass.domain tile t

  -- ---- before

  -- a fill of a leaf's piece, as it is read from some array, with no row that reaches into the next
  pub record IsTileFill (number : ℕ) (fill : Fill) : Type 0 where
    pub from : ArrayPlace
    pub number_within : number < length pass.leaves
    pub is_fill : IsFill (leaf_of pass number) from tile_piece (leaf_cell pass tile number t) fill
    pub rows_apart : HasRowsApart (cells_of_fill fill)

  -- the first cell of an element of a leaf's piece
  abbrev pub element_cell : (number row column : ℕ) → ℕ
  element_cell number row column =
      piece_cell (leaf_of pass number).elem tile_piece (leaf_cell pass tile number t) row column 0

  -- each is a fill of some leaf's piece, each element of a leaf's piece that has no source is filled, and no two fills
  -- share a cell
  pub record AreTileFills (fills : List Fill) : Type 0 where
    pub each : All (λ fill. (number : ℕ) × IsTileFill number fill) fills
    pub all : (number row column : ℕ) → number < length pass.leaves → row < tile_piece.h → column < tile_piece.w
        → source_in (leaf_of pass number) tile_piece row column ≡ None
        → Any (λ fill. IsTileFill number fill × Covers (cells_of_fill fill) (element_cell number row column)) fills
    pub apart : AllPairs (λ a b. IsApartFrom (cells_of_fill a) (cells_of_fill b)) fills

  -- the cells have all buffers, and in them the leaves' pieces, fills apart, and in a later tile of a cut row the
  -- results so far
  pub record HoldsTile (arrays : Arrays) (store : Store) : Type 0 where
    pub inside : buffers_of pass * buffer_bytes pass tile ≤ length store.cells
    pub leaves : (number p byte : ℕ) → IsLeafByte pass tile arrays number t p byte → HasByte store (in_cells p) byte
    pub carried : (p byte : ℕ) → IsCarriedByte pass tile arrays t p byte → HasByte store (in_cells p) byte

  -- ---- after

  -- the cells have the tile's results
  abbrev pub HoldsItsResults : Arrays → Store → Type 0
  HoldsItsResults arrays store = (p byte : ℕ) → IsResultByte pass tile arrays t p byte → HasByte store (in_cells p) byte

  -- done one after another, for any number of lanes and over any arrays, the instructions leave the tile's results
  abbrev pub LeaveResults : List VecWork → Type 0
  LeaveResults works = (places : List ArrayPlace) (later : List ℕ) (arrays : Arrays) (lanes : ℕ) (store : Store)
      → IsSoundPass places later pass → HasArrays places arrays pass.leaves → 0 < lanes → HoldsTile arrays store
      → HoldsItsResults arrays (sequential (map (λ work. Vector work) works) lanes store)

  -- the instruction is simple, so it has counts, and it reads and writes cells of the tile's buffers alone
  pub record KeepsToTile (work : VecWork) : Type 0 where
    pub simple : IsSimple work
    pub reads : (p : ℕ) → Reads (Vector work) (in_cells p) → IsTileCell pass tile t p
    pub writes : (p : ℕ) → Writes (Vector work) (in_cells p) → IsTileCell pass tile t p

  -- at most so many instructions, and as many beats
  abbrev pub AreFew : List VecWork → Type 0
  AreFew works = (lanes : ℕ) → 0 < lanes
      → AreAtMost works lanes (piece_rows pass tile t * piece_columns pass tile t * (nodes_of pass.tree + 3))
