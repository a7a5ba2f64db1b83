-- Cells, what stands at a place of a list, and what it is to write over a part of one.
use Rattle.std.specs.Prelude.{ℕ, Bool, false, List, ◌++◌, ◌+◌, length, take, drop, slice_index_or}
use Rattle.ven_base.specs.Cell.{Cell}

abbrev pub byte_of : Cell → ℕ
byte_of cell = cell.0

abbrev pub flag_of : Cell → Bool
flag_of cell = cell.1

-- a byte whose flag is cleared
abbrev pub clear : ℕ → Cell
clear byte = (byte, false)

-- the cell at a place
abbrev pub cell_at : List Cell → ℕ → Cell
cell_at cells place = slice_index_or cells place (0, false)

-- the items of a list at so many places from one on
abbrev pub part : {A : Type 0} → List A → ℕ → ℕ → List A
part items place count = take count (drop place items)

-- a list whose items from a place on are these
abbrev pub overwritten : {A : Type 0} → List A → ℕ → List A → List A
overwritten items place new = take place items ++ (new ++ drop (place + length new) items)
