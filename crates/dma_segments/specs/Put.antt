-- What the commands and fills of a piece of a leaf do: they put each element in its place of the buffer.
use Rattle.std.specs.Prelude.{◌≡◌, ℕ, ◌+◌, ◌*◌, ◌≤◌, ◌<◌, ◌^◌, Option, None, Some, List, ◌++◌, map, All, AllPairs, Any}
use Rattle.ven_base.specs.declared.elem.Elem.{Elem}
use Rattle.ven_base.specs.Elem.{size_of}
use Rattle.ven_base.specs.Extent.{elements_of}
use Rattle.ven_base.specs.Mapping.{FitsShape, result_shape, fill_of}
use Rattle.venice_isa.specs.declared.work.DmaWork.{DmaWork}
use Rattle.venice_isa.specs.declared.region.Region.{Region}
use Rattle.venice_isa.specs.Region.{place_in, Covers, IsApartFrom, HasRowsApart}
use Rattle.venice_isa.specs.Footprint.{cells_of, memory_of}
use Rattle.pass_plan.specs.declared.leaf.Leaf.{Leaf}
use Rattle.pass_plan.specs.declared.parts.Piece.{Piece}
use Rattle.pass_plan.specs.declared.split.ArrayPlace.{ArrayPlace}
use Rattle.pass_plan.specs.Tile.{IsPieceOf}
use Rattle.pass_plan.specs.Sound.{end_of}
use Rattle.pass_plan.specs.Buffers.{element_of}
use Rattle.dma_segments.specs.declared.segments.Fill.{Fill}

-- a piece of a leaf's result can be brought from this array into the buffer that begins at this cell
pub record CanRead (leaf : Leaf) (from : ArrayPlace) (piece : Piece) (buffer : ℕ) : Type 0 where
  pub fits : FitsShape leaf.map leaf.shape
  pub inside : IsPieceOf (result_shape leaf.map leaf.shape) piece
  pub elem_is : from.elem ≡ leaf.elem
  pub as_many : elements_of from.shape ≡ elements_of leaf.shape
  pub in_memory : end_of from < 2 ^ 32
  pub in_cells : buffer + piece.h * piece.w * size_of leaf.elem < 2 ^ 32

-- ---- the bytes of a piece

-- byte b of the element in a row and a column of the piece
pub record IsByteOf (elem : Elem) (piece : Piece) (row column b : ℕ) : Type 0 where
  pub row_within : row < piece.h
  pub column_within : column < piece.w
  pub b_within : b < size_of elem

-- its cell: the piece's rows follow one another without gaps
abbrev pub piece_cell : Elem → Piece → (buffer row column b : ℕ) → ℕ
piece_cell elem piece buffer row column b = buffer + ((row * piece.w + column) * size_of elem + b)

-- byte b of element `index` of an array, in memory
abbrev pub array_byte : ArrayPlace → (index b : ℕ) → ℕ
array_byte array index b = array.place + (index * size_of array.elem + b)

-- the number of the element from which the element in a row and a column of the piece comes: none where a fill stands
abbrev pub source_in : Leaf → Piece → (row column : ℕ) → Option ℕ
source_in leaf piece row column = element_of leaf (piece.r0 + row) (piece.c0 + column)

-- the cells of a fill
abbrev pub cells_of_fill : Fill → Region
cells_of_fill fill = record {
  place = fill.at;
  step = fill.step;
  size = size_of fill.elem;
  rows = fill.rows;
  columns = fill.cols;
}

-- all cells of commands and fills, a region each
abbrev pub regions_of : List DmaWork → List Fill → List Region
regions_of commands fills = map cells_of commands ++ map cells_of_fill fills

-- ---- a piece that is put

module _ (leaf : Leaf) (from : ArrayPlace) (piece : Piece) (buffer : ℕ) where
  -- the cell is a byte of an element of the piece, and the byte of memory is the same byte of that element's source
  pub record IsSourceByte (cell byte : ℕ) : Type 0 where
    pub row : ℕ
    pub column : ℕ
    pub b : ℕ
    pub index : ℕ
    pub is_byte : IsByteOf leaf.elem piece row column b
    pub mapped : source_in leaf piece row column ≡ Some index
    pub within : index < elements_of from.shape
    pub cell_is : cell ≡ piece_cell leaf.elem piece buffer row column b
    pub byte_is : byte ≡ array_byte from index b

  -- a command with rows and bytes, each of which comes from its source
  pub record IsRead (work : DmaWork) : Type 0 where
    pub some_rows : 1 ≤ work.rows
    pub some_bytes : 1 ≤ work.bytes
    pub bytes : (r j : ℕ) → r < work.rows → j < work.bytes
        → IsSourceByte (place_in (cells_of work) r j) (place_in (memory_of work) r j)

  -- the cell begins an element of the piece that has no source
  pub record IsBlank (cell : ℕ) : Type 0 where
    pub row : ℕ
    pub column : ℕ
    pub row_within : row < piece.h
    pub column_within : column < piece.w
    pub blank : source_in leaf piece row column ≡ None
    pub cell_is : cell ≡ piece_cell leaf.elem piece buffer row column 0

  -- a fill with rows and elements, of the leaf's type and with its map's number, each at an element without a source
  pub record IsFill (fill : Fill) : Type 0 where
    pub some_rows : 1 ≤ fill.rows
    pub some_cols : 1 ≤ fill.cols
    pub elem_is : fill.elem ≡ leaf.elem
    pub value_is : fill.value ≡ fill_of leaf.map
    pub places : (r k : ℕ) → r < fill.rows → k < fill.cols → IsBlank (place_in (cells_of_fill fill) r k)

  -- each element of the piece comes to its place, from the array by a command or with its number by a fill: each byte
  -- once, and no other
  pub record PutPiece (commands : List DmaWork) (fills : List Fill) : Type 0 where
    pub are_reads : All IsRead commands
    pub are_fills : All IsFill fills
    pub each_read : (row column b index : ℕ) → IsByteOf leaf.elem piece row column b
        → source_in leaf piece row column ≡ Some index
        → Any (λ work. Covers (cells_of work) (piece_cell leaf.elem piece buffer row column b)) commands
    pub each_filled : (row column b : ℕ) → IsByteOf leaf.elem piece row column b
        → source_in leaf piece row column ≡ None
        → Any (λ fill. Covers (cells_of_fill fill) (piece_cell leaf.elem piece buffer row column b)) fills
    pub rows_apart : All HasRowsApart (regions_of commands fills)
    pub once : AllPairs IsApartFrom (regions_of commands fills)

-- ---- few and large

-- rows that would follow one another on both sides are one row
abbrev pub HasLongRows : DmaWork → Type 0
HasLongRows work = 1 < work.rows → work.mem_step ≡ work.bytes → ¬ (work.spad_step ≡ work.bytes)

abbrev pub HasLongFillRows : Fill → Type 0
HasLongFillRows fill = 1 < fill.rows → ¬ (fill.step ≡ fill.cols * size_of fill.elem)
