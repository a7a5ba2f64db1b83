-- What stands in cells and in memory after commands and fills.
use Rattle.std.specs.Prelude.{◌≡◌, ℕ, ◌+◌, ◌*◌, ◌≤◌, ◌<◌, None, Some, List, [], ◌∷◌, length, slice_index_or}
use Rattle.std.specs.Option.{option_map}
use Rattle.ven_base.specs.declared.elem.Elem.{Elem}
use Rattle.ven_base.specs.Elem.{size_of}
use Rattle.ven_base.specs.Mapping.{fill_of}
use Rattle.ven_base.specs.Cell.{Cell}
use Rattle.ven_base.specs.Store.{Store, Place, content_at}
use Rattle.venice_isa.specs.Region.{place_in, Covers}
use Rattle.venice_isa.specs.Cell.{cell_at, byte_of, clear}
use Rattle.venice_isa.specs.Element.{bytes_of}
use Rattle.pass_plan.specs.declared.leaf.Leaf.{Leaf}
use Rattle.pass_plan.specs.declared.parts.Piece.{Piece}
use Rattle.pass_plan.specs.declared.split.ArrayPlace.{ArrayPlace}
use Rattle.pass_plan.specs.Sound.{end_of}
use Rattle.dma_segments.specs.declared.segments.Fill.{Fill}
use Rattle.dma_segments.specs.Put.{IsByteOf, piece_cell, array_byte, source_in, cells_of_fill}
use Rattle.dma_segments.specs.Taken.{element_in}

-- ---- fills

-- the cells after a fill: each of its elements has the bytes of its number, flags cleared, and no other cell has
-- changed
pub record IsFilled (fill : Fill) (before after : List Cell) : Type 0 where
  pub same_length : length after ≡ length before
  pub filled : (r k b : ℕ) → r < fill.rows → k < fill.cols → b < size_of fill.elem
      → cell_at after (place_in (cells_of_fill fill) r k + b)
      ≡ clear (slice_index_or (bytes_of fill.elem fill.value) b 0)
  pub kept : (p : ℕ) → ¬ Covers (cells_of_fill fill) p → cell_at after p ≡ cell_at before p

-- the cells after fills, one after another
abbrev pub AreFilled : List Fill → List Cell → List Cell → Type 0
AreFilled [] before after = after ≡ before
AreFilled (fill ∷ fills) before after =
    (middle : List Cell) × IsFilled fill before middle × AreFilled fills middle after

-- ---- a piece in its buffer

-- the cell is a byte of the piece; of an element that has a source; of one that has none
pub record IsPieceCell (elem : Elem) (piece : Piece) (buffer p : ℕ) : Type 0 where
  pub row : ℕ
  pub column : ℕ
  pub b : ℕ
  pub is_byte : IsByteOf elem piece row column b
  pub is : p ≡ piece_cell elem piece buffer row column b

pub record IsSourcedCell (leaf : Leaf) (piece : Piece) (buffer p : ℕ) : Type 0 where
  pub cell : IsPieceCell leaf.elem piece buffer p
  pub index : ℕ
  pub mapped : source_in leaf piece cell.row cell.column ≡ Some index

pub record IsBlankCell (leaf : Leaf) (piece : Piece) (buffer p : ℕ) : Type 0 where
  pub cell : IsPieceCell leaf.elem piece buffer p
  pub blank : source_in leaf piece cell.row cell.column ≡ None

-- only cells of a kind have changed
pub record KeepOthers (Changes : ℕ → Type 0) (before after : List Cell) : Type 0 where
  pub same_length : length after ≡ length before
  pub kept : (p : ℕ) → ¬ Changes p → cell_at after p ≡ cell_at before p

-- each byte of an element with a source is that of its source, its flag cleared
abbrev pub HoldSources : Leaf → ArrayPlace → Piece → (buffer : ℕ) → List ℕ → List Cell → Type 0
HoldSources leaf from piece buffer memory cells = (row column b index : ℕ)
    → IsByteOf leaf.elem piece row column b → source_in leaf piece row column ≡ Some index
    → cell_at cells (piece_cell leaf.elem piece buffer row column b)
    ≡ clear (slice_index_or memory (array_byte from index b) 0)

-- each byte of an element without one is that of the map's number, its flag cleared
abbrev pub HoldFills : Leaf → Piece → (buffer : ℕ) → List Cell → Type 0
HoldFills leaf piece buffer cells = (row column b : ℕ)
    → IsByteOf leaf.elem piece row column b → source_in leaf piece row column ≡ None
    → cell_at cells (piece_cell leaf.elem piece buffer row column b)
    ≡ clear (slice_index_or (bytes_of leaf.elem (fill_of leaf.map)) b 0)

-- the array lies in the store's memory, and the piece's buffer in its cells
pub record HasSides (array : ArrayPlace) (piece : Piece) (buffer : ℕ) (store : Store) : Type 0 where
  pub in_memory : end_of array ≤ length store.memory
  pub in_cells : buffer + piece.h * piece.w * size_of array.elem ≤ length store.cells

-- ---- a piece in its array

-- the byte of memory is one of the piece's place in the array
pub record IsTakenByte (to : ArrayPlace) (piece : Piece) (p : ℕ) : Type 0 where
  pub row : ℕ
  pub column : ℕ
  pub b : ℕ
  pub is_byte : IsByteOf to.elem piece row column b
  pub is : p ≡ array_byte to (element_in to.shape piece row column) b

-- the piece's place in the array has the buffer's bytes, and no other byte of memory has changed
pub record HasTaken (to : ArrayPlace) (piece : Piece) (buffer : ℕ) (before after : Store) : Type 0 where
  pub same_cells : after.cells ≡ before.cells
  pub same_length : length after.memory ≡ length before.memory
  pub taken : (row column b : ℕ) → IsByteOf to.elem piece row column b
      → slice_index_or after.memory (array_byte to (element_in to.shape piece row column) b) 0
      ≡ byte_of (cell_at before.cells (piece_cell to.elem piece buffer row column b))
  pub kept : (p : ℕ) → ¬ IsTakenByte to piece p
      → slice_index_or after.memory p 0 ≡ slice_index_or before.memory p 0

-- ---- bytes by their places

-- the store has the place, and this byte there
abbrev pub HasByte : Store → Place → ℕ → Type 0
HasByte store place byte = option_map byte_of (content_at store place) ≡ Some byte
