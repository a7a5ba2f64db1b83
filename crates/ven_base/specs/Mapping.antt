-- Index maps: which index of the operand an index of the result stands for, one index at a time.
use Rattle.std.specs.Prelude.{ℕ, ℤ, pos, ◌+◌, ◌*◌, ◌/◌, ◌+ℤ◌, Option, None, Some}
use Rattle.ven_base.specs.declared.mapping.Mapping.{Mapping}
use Rattle.ven_base.specs.declared.mapping.Mapping.TheVariants.{Identity, Shift, Rotate, Section, Stretch, Transpose}
use Rattle.ven_base.specs.Extent.{Extent}
use Rattle.ven_base.specs.Place.{place_within, place_round, IsMove, IsCut, IsRepeat}

-- the index of both, where both are there
abbrev pub index_of_both : Option ℕ → Option ℕ → Option (ℕ × ℕ)
index_of_both (Some i) (Some j) = Some (i, j)
index_of_both (Some i) None = None
index_of_both None j = None

-- the index of an operand of this shape that index (i, j) of the result stands for: none where a shift leaves the shape
abbrev pub source_of : Mapping → Extent → ℕ → ℕ → Option (ℕ × ℕ)
source_of Identity shape i j = Some (i, j)
source_of (Shift dr dc fill) shape i j =
    index_of_both (place_within shape.rows (pos i +ℤ dr)) (place_within shape.cols (pos j +ℤ dc))
source_of (Rotate dr dc) shape i j = Some (place_round shape.rows (pos i +ℤ dr), place_round shape.cols (pos j +ℤ dc))
source_of (Section r0 nr sr c0 nc sc) shape i j = Some (r0 + i * sr, c0 + j * sc)
source_of (Stretch kr kc) shape i j = Some (i / kr, j / kc)
source_of Transpose shape i j = Some (j, i)

-- the number that stands where there is no source, which only a shift has
abbrev pub fill_of : Mapping → ℤ
fill_of (Shift dr dc fill) = fill
fill_of _ = pos 0

-- the shape of the result
abbrev pub result_shape : Mapping → Extent → Extent
result_shape Identity shape = shape
result_shape (Shift dr dc fill) shape = shape
result_shape (Rotate dr dc) shape = shape
result_shape (Section r0 nr sr c0 nc sc) shape = record { rows = nr; cols = nc }
result_shape (Stretch kr kc) shape = record { rows = shape.rows * kr; cols = shape.cols * kc }
result_shape Transpose shape = record { rows = shape.cols; cols = shape.rows }

-- the mapping may be taken of an array of this shape
abbrev pub FitsShape : Mapping → Extent → Type 0
FitsShape Identity shape = Unit {0}
FitsShape (Shift dr dc fill) shape = IsMove dr × IsMove dc
FitsShape (Rotate dr dc) shape = IsMove dr × IsMove dc
FitsShape (Section r0 nr sr c0 nc sc) shape = IsCut shape.rows r0 nr sr × IsCut shape.cols c0 nc sc
FitsShape (Stretch kr kc) shape = IsRepeat kr kc (result_shape (Stretch kr kc) shape)
FitsShape Transpose shape = Unit {0}
