-- The text of arrays.
use Rattle.std.specs.Prelude.{ℕ, ℤ, List, [], ◌∷◌, ◌++◌, take, drop, map, codes, decimal, zero, suc}
use Rattle.std.specs.Fmt.{signed_decimal}
use Rattle.std.specs.List.{join_with_byte}
use Rattle.ven_io.specs.Token.{line_end}
use Rattle.ven_base.specs.declared.elem.Elem.{Elem}
use Rattle.ven_base.specs.Extent.{Extent}
use Rattle.ven_base.specs.Grid.{Grid}
use Rattle.ven_base.specs.Pairs.{Pairs}
use Rattle.ven_base.specs.ElemWord.{elem_word}

-- `[R,C]` and a line end
abbrev pub shape_text : Extent → List ℕ
shape_text shape = codes "[" ++ decimal shape.rows ++ codes "," ++ decimal shape.cols ++ codes "]" ++ line_end ∷ []

-- `NAME TYPE[R,C]` and a line end
abbrev pub heading_text : List ℕ → Elem → Extent → List ℕ
heading_text name elem shape = name ++ codes " " ++ elem_word elem ++ shape_text shape

-- numbers in decimal, with one space between
abbrev pub values_text : List ℤ → List ℕ
values_text values = join_with_byte 32 (map signed_decimal values)

-- the values of a row, and a line end
abbrev pub row_text : List ℤ → List ℕ
row_text row = values_text row ++ line_end ∷ []

-- rows of so many columns, a line for each
abbrev pub rows_text : ℕ → ℕ → List ℤ → List ℕ
rows_text zero cols values = []
rows_text (suc rows) cols values = row_text (take cols values) ++ rows_text rows cols (drop cols values)

-- an array: its heading, and then its rows
abbrev pub array_text : List ℕ → Grid → List ℕ
array_text name grid = heading_text name grid.elem grid.shape ++ rows_text grid.shape.rows grid.shape.cols grid.values

-- arrays, one after another
abbrev pub arrays_text : Pairs → List ℕ
arrays_text [] = []
arrays_text (pair ∷ arrays) = array_text pair.0 pair.1 ++ arrays_text arrays
