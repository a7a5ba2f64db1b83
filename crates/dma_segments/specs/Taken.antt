-- What the command of `writes` does: it takes a piece from its buffer to its place in an array.
use Rattle.std.specs.Prelude.{◌≡◌, ℕ, ◌+◌, ◌*◌, ◌≤◌, ◌<◌, List, length, All}
use Rattle.ven_base.specs.Extent.{Extent}
use Rattle.venice_isa.specs.declared.work.DmaWork.{DmaWork}
use Rattle.venice_isa.specs.Region.{place_in, Covers, HasRowsApart}
use Rattle.venice_isa.specs.Footprint.{cells_of, memory_of}
use Rattle.pass_plan.specs.declared.parts.Piece.{Piece}
use Rattle.pass_plan.specs.declared.split.ArrayPlace.{ArrayPlace}
use Rattle.dma_segments.specs.Put.{IsByteOf, piece_cell, array_byte}

-- the number of the element of an array of this shape that stands in a row and a column of the piece
abbrev pub element_in : Extent → Piece → (row column : ℕ) → ℕ
element_in shape piece row column = (piece.r0 + row) * shape.cols + (piece.c0 + column)

module _ (to : ArrayPlace) (piece : Piece) (buffer : ℕ) where
  -- the cell is a byte of an element of the piece, and the byte of memory is the same byte of that element of the
  -- array
  pub record IsTargetByte (cell byte : ℕ) : Type 0 where
    pub row : ℕ
    pub column : ℕ
    pub b : ℕ
    pub is_byte : IsByteOf to.elem piece row column b
    pub cell_is : cell ≡ piece_cell to.elem piece buffer row column b
    pub byte_is : byte ≡ array_byte to (element_in to.shape piece row column) b

  -- a command with rows and bytes, which takes each byte of the piece to its place, once, and no other
  pub record IsWrite (work : DmaWork) : Type 0 where
    pub some_rows : 1 ≤ work.rows
    pub some_bytes : 1 ≤ work.bytes
    pub bytes : (r j : ℕ) → r < work.rows → j < work.bytes
        → IsTargetByte (place_in (cells_of work) r j) (place_in (memory_of work) r j)
    pub each : (row column b : ℕ) → IsByteOf to.elem piece row column b
        → Covers (memory_of work) (array_byte to (element_in to.shape piece row column) b)
    pub rows_apart : HasRowsApart (memory_of work)

  -- one command, which takes the piece
  pub record TakePiece (commands : List DmaWork) : Type 0 where
    pub one : length commands ≡ 1
    pub takes : All IsWrite commands
