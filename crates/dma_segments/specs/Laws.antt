-- What holds of commands and fills that put a piece, and of a command that takes one.
use Rattle.std.specs.Prelude.{◌≡◌, ◌↔◌, ℕ, ◌+◌, ◌*◌, ◌%◌, ◌<◌, get_or, List, map, length, true, All, AllPairs, Any}
use Rattle.ven_base.specs.Cell.{Cell}
use Rattle.ven_base.specs.Extent.{IsExtent, elements_of}
use Rattle.ven_base.specs.Grid.{Grid, mapped_at}
use Rattle.ven_base.specs.Store.{Store, in_cells, in_memory}
use Rattle.venice_isa.specs.declared.issue.Issue.TheVariants.{Read, Write}
use Rattle.venice_isa.specs.declared.work.DmaWork.{DmaWork}
use Rattle.venice_isa.specs.Beat.{sequential}
use Rattle.venice_isa.specs.Region.{Covers, IsApartFrom, HasRowsApart}
use Rattle.venice_isa.specs.Footprint.{cells_of, memory_of}
use Rattle.venice_isa.specs.Cell.{byte_of, cell_at}
use Rattle.pass_plan.specs.declared.leaf.Leaf.{Leaf}
use Rattle.pass_plan.specs.declared.parts.Piece.{Piece}
use Rattle.pass_plan.specs.declared.parts.Tile.{Tile}
use Rattle.pass_plan.specs.declared.split.ArrayPlace.{ArrayPlace}
use Rattle.pass_plan.specs.Pass.{Pass, Arrays, no_leaf, read_as, result_of}
use Rattle.pass_plan.specs.Tile.{piece_of, first_row, IsPieceOf}
use Rattle.pass_plan.specs.Buffers.{byte_of_value, IsArrayPlace, IsArrayByte, buffer_bytes, leaf_buffer, output_buffer, output_half, piece_rows, piece_results, first_result, IsLeafPlace, IsLeafByte, IsResultPlace, IsResultByte, IsPiecePlace, IsPieceByte, ends_row}
use Rattle.dma_segments.specs.declared.segments.Fill.{Fill}
use Rattle.dma_segments.specs.Put.{CanRead, IsByteOf, piece_cell, PutPiece}
use Rattle.dma_segments.specs.Taken.{TakePiece}
use Rattle.dma_segments.specs.Effect.{AreFilled, IsPieceCell, IsSourcedCell, IsBlankCell, KeepOthers, HoldSources, HoldFills, HasSides, IsTakenByte, HasTaken, HasByte}

-- commands done one after another, for any number of lanes
abbrev pub after_reads : List DmaWork → (lanes : ℕ) → Store → Store
after_reads commands lanes store = sequential (map (λ work. Read work) commands) lanes store

abbrev pub after_writes : List DmaWork → (lanes : ℕ) → Store → Store
after_writes commands lanes store = sequential (map (λ work. Write work) commands) lanes store

-- the same command with another tag
abbrev pub with_tag : (tag : ℕ) → DmaWork → DmaWork
with_tag tag work = record work { tag = tag }

-- ---- commands and fills that put a piece

-- tags have no say
abbrev pub TagsHaveNoSay : Type 0
TagsHaveNoSay = (leaf : Leaf) (from : ArrayPlace) (piece : Piece) (buffer : ℕ) (commands : List DmaWork)
    (fills : List Fill) (tag : ℕ) → PutPiece leaf from piece buffer commands fills
    → PutPiece leaf from piece buffer (map (with_tag tag) commands) fills

-- the cells that commands write are those of the elements with a source, and the places that they read those of the
-- array
abbrev pub CommandCells : Type 0
CommandCells = (leaf : Leaf) (from : ArrayPlace) (piece : Piece) (buffer : ℕ) (commands : List DmaWork)
    (fills : List Fill) → PutPiece leaf from piece buffer commands fills
    → (p : ℕ) → Any (λ work. Covers (cells_of work) p) commands ↔ IsSourcedCell leaf piece buffer p

abbrev pub CommandPlaces : Type 0
CommandPlaces = (leaf : Leaf) (from : ArrayPlace) (piece : Piece) (buffer : ℕ) (commands : List DmaWork)
    (fills : List Fill) → from.elem ≡ leaf.elem → PutPiece leaf from piece buffer commands fills
    → All (λ work. (p : ℕ) → Covers (memory_of work) p → IsArrayPlace from (elements_of from.shape) p) commands

-- no cell is written by two rows of a command, nor by two commands
abbrev pub CommandsWriteOnce : Type 0
CommandsWriteOnce = (leaf : Leaf) (from : ArrayPlace) (piece : Piece) (buffer : ℕ) (commands : List DmaWork)
    (fills : List Fill) → PutPiece leaf from piece buffer commands fills
    → All (λ work. HasRowsApart (cells_of work)) commands
    × AllPairs (λ a b. IsApartFrom (cells_of a) (cells_of b)) commands

-- the commands bring each element that has a source, whatever stood there, and change nothing else
pub record BringSources (leaf : Leaf) (from : ArrayPlace) (piece : Piece) (buffer : ℕ)
    (before after : Store) : Type 0 where
  pub same_memory : after.memory ≡ before.memory
  pub sources : HoldSources leaf from piece buffer before.memory after.cells
  pub others : KeepOthers (IsSourcedCell leaf piece buffer) before.cells after.cells

abbrev pub ReadsBring : Type 0
ReadsBring = (leaf : Leaf) (from : ArrayPlace) (piece : Piece) (buffer : ℕ) (commands : List DmaWork)
    (fills : List Fill) (lanes : ℕ) (store : Store) → from.elem ≡ leaf.elem
    → PutPiece leaf from piece buffer commands fills → HasSides from piece buffer store
    → BringSources leaf from piece buffer store (after_reads commands lanes store)

-- the fills fill each element that has none, and change nothing else
abbrev pub FillsFill : Type 0
FillsFill = (leaf : Leaf) (from : ArrayPlace) (piece : Piece) (buffer : ℕ) (commands : List DmaWork)
    (fills : List Fill) (before after : List Cell) → PutPiece leaf from piece buffer commands fills
    → AreFilled fills before after
    → HoldFills leaf piece buffer after × KeepOthers (IsBlankCell leaf piece buffer) before after

-- so commands and then fills leave the piece in its buffer, whatever stood there, and change nothing else
pub record HoldPiece (leaf : Leaf) (from : ArrayPlace) (piece : Piece) (buffer : ℕ)
    (before : Store) (after : List Cell) : Type 0 where
  pub sources : HoldSources leaf from piece buffer before.memory after
  pub fills : HoldFills leaf piece buffer after
  pub others : KeepOthers (IsPieceCell leaf.elem piece buffer) before.cells after

abbrev pub PutsHold : Type 0
PutsHold = (leaf : Leaf) (from : ArrayPlace) (piece : Piece) (buffer : ℕ) (commands : List DmaWork)
    (fills : List Fill) (lanes : ℕ) (store : Store) (after : List Cell) → from.elem ≡ leaf.elem
    → PutPiece leaf from piece buffer commands fills → HasSides from piece buffer store
    → AreFilled fills (after_reads commands lanes store).cells after → HoldPiece leaf from piece buffer store after

-- memory has each byte of an array
abbrev pub HasArray : ArrayPlace → Grid → Store → Type 0
HasArray from array store = (p byte : ℕ) → IsArrayByte from array.values p byte → HasByte store (in_memory p) byte

-- where memory has the leaf's array, each byte of the piece is then that of the map's value
abbrev pub PieceHasValues : Type 0
PieceHasValues = (leaf : Leaf) (from : ArrayPlace) (piece : Piece) (buffer : ℕ) (array : Grid) (store : Store)
    (after : List Cell) → CanRead leaf from piece buffer → IsExtent leaf.shape
    → length array.values ≡ elements_of from.shape
    → HasArray from array store → HoldPiece leaf from piece buffer store after
    → (row column b : ℕ) → IsByteOf leaf.elem piece row column b
    → byte_of (cell_at after (piece_cell leaf.elem piece buffer row column b))
    ≡ byte_of_value leaf.elem (mapped_at leaf.map (read_as leaf array) (piece.r0 + row) (piece.c0 + column)) b

-- ---- in the words of a pass's buffers

abbrev pub leaf_of : Pass → (number : ℕ) → Leaf
leaf_of pass number = get_or pass.leaves number no_leaf

-- the first cell of a leaf's half for tile t
abbrev pub leaf_cell : Pass → Tile → (number t : ℕ) → ℕ
leaf_cell pass tile number t = leaf_buffer pass tile number (t % 2) * buffer_bytes pass tile

-- the elements of a leaf's piece that have a source are its places
abbrev pub LeafCellsAreItsPlaces : Type 0
LeafCellsAreItsPlaces = (pass : Pass) (tile : Tile) (number t p : ℕ) → number < length pass.leaves
    → IsSourcedCell (leaf_of pass number) (piece_of pass.domain tile t) (leaf_cell pass tile number t) p
    ↔ IsLeafPlace pass tile number t p

-- where memory has the leaf's array, its piece is brought into its half, fills apart
abbrev pub ReadsShowLeaf : Type 0
ReadsShowLeaf = (pass : Pass) (tile : Tile) (number t : ℕ) (from : ArrayPlace) (arrays : Arrays)
    (commands : List DmaWork) (fills : List Fill) (lanes : ℕ) (store : Store)
    → number < length pass.leaves → from.elem ≡ (leaf_of pass number).elem
    → length (arrays (leaf_of pass number).array).values ≡ elements_of from.shape
    → PutPiece (leaf_of pass number) from (piece_of pass.domain tile t) (leaf_cell pass tile number t) commands fills
    → HasSides from (piece_of pass.domain tile t) (leaf_cell pass tile number t) store
    → HasArray from (arrays (leaf_of pass number).array) store
    → (p byte : ℕ) → IsLeafByte pass tile arrays number t p byte
    → HasByte (after_reads commands lanes store) (in_cells p) byte

-- ---- a command that takes a piece

-- the command reads the buffer's piece alone, and the places that it writes are the piece's in the array
abbrev pub WriteCells : Type 0
WriteCells = (to : ArrayPlace) (piece : Piece) (buffer : ℕ) (commands : List DmaWork)
    → TakePiece to piece buffer commands
    → All (λ work. (p : ℕ) → Covers (cells_of work) p → IsPieceCell to.elem piece buffer p) commands
    × All (λ work. (p : ℕ) → Covers (memory_of work) p ↔ IsTakenByte to piece p) commands

abbrev pub WriteTagsHaveNoSay : Type 0
WriteTagsHaveNoSay = (to : ArrayPlace) (piece : Piece) (buffer : ℕ) (commands : List DmaWork) (tag : ℕ)
    → TakePiece to piece buffer commands → TakePiece to piece buffer (map (with_tag tag) commands)

abbrev pub WritesTake : Type 0
WritesTake = (to : ArrayPlace) (piece : Piece) (buffer : ℕ) (commands : List DmaWork) (lanes : ℕ) (store : Store)
    → IsPieceOf to.shape piece → TakePiece to piece buffer commands → HasSides to piece buffer store
    → HasTaken to piece buffer store (after_writes commands lanes store)

-- what a pass makes, at its place, and a tile's piece of it with its first cell
abbrev pub result_array : Pass → (place : ℕ) → ArrayPlace
result_array pass place = record { elem = pass.elem; shape = result_of pass.kind pass.domain; place = place }

abbrev pub result_piece : Pass → Tile → (t : ℕ) → Piece
result_piece pass tile t = record {
  r0 = first_row pass.domain tile t;
  c0 = first_result pass tile t;
  h = piece_rows pass tile t;
  w = piece_results pass tile t;
}

abbrev pub result_cell : Pass → Tile → (t : ℕ) → ℕ
result_cell pass tile t = output_buffer pass tile (output_half pass tile t) * buffer_bytes pass tile

-- these are the places of a tile's results, and those of the destination's piece
abbrev pub ResultCellsAreItsPlaces : Type 0
ResultCellsAreItsPlaces = (pass : Pass) (tile : Tile) (t p : ℕ)
    → IsPieceCell pass.elem (result_piece pass tile t) (result_cell pass tile t) p ↔ IsResultPlace pass tile t p

abbrev pub TakenBytesAreItsPlaces : Type 0
TakenBytesAreItsPlaces = (pass : Pass) (tile : Tile) (t place p : ℕ) → ends_row pass tile t ≡ true
    → IsTakenByte (result_array pass place) (result_piece pass tile t) p ↔ IsPiecePlace pass tile place t p

-- where cells have a tile's results, they are taken to the destination's piece
abbrev pub WritesShowPiece : Type 0
WritesShowPiece = (pass : Pass) (tile : Tile) (t place : ℕ) (arrays : Arrays)
    (commands : List DmaWork) (lanes : ℕ) (store : Store)
    → IsPieceOf (result_of pass.kind pass.domain) (result_piece pass tile t)
    → TakePiece (result_array pass place) (result_piece pass tile t) (result_cell pass tile t) commands
    → HasSides (result_array pass place) (result_piece pass tile t) (result_cell pass tile t) store
    → ((p byte : ℕ) → IsResultByte pass tile arrays t p byte → HasByte store (in_cells p) byte)
    → (p byte : ℕ) → IsPieceByte pass tile arrays place t p byte
    → HasByte (after_writes commands lanes store) (in_memory p) byte
