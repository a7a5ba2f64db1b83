-- The lists of small pieces of an array of bytes at place 0, in the buffer at cell 0, as the definitions compute
-- them.
use Rattle.std.specs.Prelude.{◌≡◌, ℕ, ℤ, pos, negsuc, [], ◌∷◌}
use Rattle.ven_base.specs.declared.elem.Elem.TheVariants.{U8}
use Rattle.ven_base.specs.declared.mapping.Mapping.{Mapping}
use Rattle.ven_base.specs.declared.mapping.Mapping.TheVariants.{Identity, Shift, Rotate, Stretch, Transpose}
use Rattle.ven_base.specs.Extent.{Extent}
use Rattle.venice_isa.specs.declared.work.DmaWork.{DmaWork}
use Rattle.pass_plan.specs.declared.parts.Piece.{Piece}
use Rattle.pass_plan.specs.declared.split.ArrayPlace.{ArrayPlace}
use Rattle.dma_segments.specs.declared.segments.Fill.{Fill}
use Rattle.dma_segments.specs.ReadList.{ReadList, read_list}
use Rattle.dma_segments.specs.WriteList.{write_list}

abbrev pub extent : (rows cols : ℕ) → Extent
extent rows cols = record { rows = rows; cols = cols }

abbrev pub part_of : (r0 c0 h w : ℕ) → Piece
part_of r0 c0 h w = record { r0 = r0; c0 = c0; h = h; w = w }

abbrev pub bytes_at_0 : Extent → ArrayPlace
bytes_at_0 shape = record { elem = U8; shape = shape; place = 0 }

abbrev pub list_of : Mapping → Extent → Piece → ReadList
list_of mapping shape piece =
    read_list (record { array = 0; elem = U8; shape = shape; map = mapping }) (bytes_at_0 shape) piece 0

abbrev pub of_one_row : (mem spad bytes : ℕ) → DmaWork
of_one_row mem spad bytes =
    record { mem = mem; spad = spad; rows = 1; bytes = bytes; mem_step = 0; spad_step = 0; tag = 0 }

abbrev pub of_rows : (mem spad rows bytes mem_step spad_step : ℕ) → DmaWork
of_rows mem spad rows bytes mem_step spad_step =
    record { mem = mem; spad = spad; rows = rows; bytes = bytes; mem_step = mem_step; spad_step = spad_step; tag = 0 }

abbrev pub fill_of_row : (at cols : ℕ) → ℤ → Fill
fill_of_row at cols value = record { at = at; elem = U8; rows = 1; cols = cols; step = 0; value = value }

-- three elements in a row, and the piece of all of them
abbrev pub three : Extent
three = extent 1 3

abbrev pub whole_three : Piece
whole_three = part_of 0 0 1 3

pub record WorkedRows : Type 0 where
  -- shifted by one: two elements from the array, and the last filled
  pub shifted_by_one : list_of (Shift (pos 0) (pos 1) (pos 7)) three whole_three
      ≡ record { commands = of_one_row 1 0 2 ∷ []; fills = fill_of_row 2 1 (pos 7) ∷ [] }
  -- shifted out of the shape: all filled
  pub shifted_by_five : list_of (Shift (pos 0) (pos 5) (pos 7)) three whole_three
      ≡ record { commands = []; fills = fill_of_row 0 3 (pos 7) ∷ [] }
  -- rotated by one: the last element, then the first two
  pub rotated_back : list_of (Rotate (pos 0) (negsuc 0)) three whole_three
      ≡ record { commands = of_one_row 2 0 1 ∷ of_one_row 0 1 2 ∷ []; fills = [] }
  -- each column twice, columns 1 to 4: the places 1 and 3 by one command, 2 and 4 by the other
  pub stretched : list_of (Stretch 1 2) three (part_of 0 1 1 4)
      ≡ record { commands = of_rows 0 0 2 1 1 2 ∷ of_rows 1 1 2 1 1 2 ∷ []; fills = [] }
  -- a part of two rows of four: one command of two rows
  pub part_of_two_rows : list_of Identity (extent 2 4) (part_of 0 1 2 2)
      ≡ record { commands = of_rows 1 0 2 2 4 2 ∷ []; fills = [] }
  -- whole rows are one row
  pub whole_rows : list_of Identity (extent 100 5) (part_of 0 0 100 5)
      ≡ record { commands = of_one_row 0 0 500 ∷ []; fills = [] }
  -- a transpose: a command for each row of two, whose elements are the array's columns; of one row it is a row
  pub transposed : list_of Transpose (extent 3 2) (part_of 0 0 2 3)
      ≡ record { commands = of_rows 0 0 3 1 2 1 ∷ of_rows 1 3 3 1 2 1 ∷ []; fills = [] }
  pub transposed_row : list_of Transpose three (part_of 0 0 3 1)
      ≡ record { commands = of_one_row 0 0 3 ∷ []; fills = [] }
  -- a part of two rows of four is written by one command of two rows, and a column by one row
  pub part_written : write_list (bytes_at_0 (extent 2 4)) (part_of 0 1 2 2) 0 ≡ of_rows 1 0 2 2 4 2 ∷ []
  pub column_written : write_list (bytes_at_0 (extent 9 1)) (part_of 3 0 4 1) 8 ≡ of_one_row 3 8 4 ∷ []
