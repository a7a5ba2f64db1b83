-- The scratchpad as a list of cells, and what it is to change some of them.
use Rattle.std.specs.Prelude.{ℕ, zero, suc, ◌+◌, ◌/◌, ◌%◌, ◌==◌, Bool, false, List, [], ◌∷◌, ◌++◌, length, map, take, drop, slice_index_or}
use Rattle.std.specs.List.{zip}
use Rattle.ven_base.specs.Cell.{Cell}

-- the byte of the cell at a place
abbrev pub byte_at : List Cell → ℕ → ℕ
byte_at cells place = (slice_index_or cells place (0, false)).0

-- the flag of the cell at a place
abbrev pub flag_at : List Cell → ℕ → Bool
flag_at cells place = (slice_index_or cells place (0, false)).1

-- the bytes of so many cells from a place on
abbrev pub bytes_from : List Cell → (place count : ℕ) → List ℕ
bytes_from cells place count = map (λ cell. cell.0) (take count (drop place cells))

-- their flags
abbrev pub flags_from : List Cell → (place count : ℕ) → List Bool
flags_from cells place count = map (λ cell. cell.1) (take count (drop place cells))

-- the cells where those from a place on hold these bytes and their flags are clear; all others stay
abbrev pub with_bytes : List Cell → ℕ → List ℕ → List Cell
with_bytes cells place bytes =
    take place cells ++ (map (λ byte. (byte, false)) bytes ++ drop (place + length bytes) cells)

-- the cells where those from a place on have these flags; their bytes and all other cells stay
abbrev pub with_flags : List Cell → ℕ → List Bool → List Cell
with_flags cells place flags =
    take place cells ++ (zip (bytes_from cells place (length flags)) flags ++ drop (place + length flags) cells)

-- a number's lowest bits as flags, the lowest first
abbrev pub flags_of : (count bits : ℕ) → List Bool
flags_of zero bits = []
flags_of (suc count) bits = (bits % 2 == 1) ∷ flags_of count (bits / 2)
