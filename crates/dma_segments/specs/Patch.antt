-- Patches: rows of adjacent elements of a piece, each of which is one command or one fill. Places are counted in
-- elements: those of the piece row by row, those of the array too.
use Rattle.std.specs.Prelude.{ℕ, ◌+◌, ◌*◌, ◌&&◌, ◌==◌, Bool, true, false, nat_le, if◌then◌else◌, Option, None, Some, List, [], ◌∷◌, map, length}
use Rattle.std.specs.List.{flat_map}
use Rattle.ven_base.specs.declared.mapping.Mapping.{Mapping}
use Rattle.ven_base.specs.declared.mapping.Mapping.TheVariants.{Identity, Shift, Rotate, Section, Stretch, Transpose}
use Rattle.ven_base.specs.Extent.{Extent}
use Rattle.pass_plan.specs.declared.parts.Piece.{Piece}
use Rattle.dma_segments.specs.declared.patches.Run.{Run}
use Rattle.dma_segments.specs.declared.patches.Patch.{Patch}
use Rattle.dma_segments.specs.declared.patches.Layout.{Layout}
use Rattle.dma_segments.specs.Run.{row_runs, column_runs, singles}

-- ---- runs of rows times runs of columns

-- how far apart the sources of neighbouring rows stand, and of neighbouring columns: a transpose exchanges them
abbrev pub row_pitch_of : Mapping → Extent → ℕ
row_pitch_of Transpose shape = 1
row_pitch_of _ shape = shape.cols

abbrev pub column_pitch_of : Mapping → Extent → ℕ
column_pitch_of Transpose shape = shape.cols
column_pitch_of _ shape = 1

-- with how wide the piece is
abbrev pub layout_of : Mapping → Extent → Piece → Layout
layout_of mapping shape piece = record {
  width = piece.w;
  row_pitch = row_pitch_of mapping shape;
  column_pitch = column_pitch_of mapping shape;
}

-- the source of a row and a column, where both have one
abbrev pub source_of_both : Layout → Option ℕ → Option ℕ → Option ℕ
source_of_both layout (Some y) (Some x) = Some (y * layout.row_pitch + x * layout.column_pitch)
source_of_both layout (Some y) None = None
source_of_both layout None x = None

-- a run's columns in the rows of a run, where the columns are adjacent
abbrev pub line : Layout → Run → Run → Patch
line layout a b = record {
  rows = a.count;
  cols = b.count;
  to = a.first * layout.width + b.first;
  to_step = a.step * layout.width;
  from = source_of_both layout a.source b.source;
  from_step = a.source_step * layout.row_pitch;
}

-- whole rows without a source
abbrev pub blank : Layout → Run → Patch
blank layout a = record {
  rows = a.count;
  cols = layout.width;
  to = a.first * layout.width;
  to_step = a.step * layout.width;
  from = None;
  from_step = 0;
}

-- a run's columns in the first row of a run, an element a row of the patch
abbrev pub cross : Layout → Run → Run → Patch
cross layout a b = record {
  rows = b.count;
  cols = 1;
  to = a.first * layout.width + b.first;
  to_step = b.step;
  from = source_of_both layout a.source b.source;
  from_step = b.source_step * layout.column_pitch;
}

-- the patches of one run of rows: one blank where the rows have no source, else a line for each run of columns
abbrev pub row_lines_from : Option ℕ → Layout → List Run → Run → List Patch
row_lines_from None layout columns a = blank layout a ∷ []
row_lines_from (Some y) layout columns a = map (line layout a) columns

abbrev pub row_lines : Layout → List Run → Run → List Patch
row_lines layout columns a = row_lines_from a.source layout columns a

abbrev pub lines : Layout → List Run → List Run → List Patch
lines layout rows columns = flat_map (row_lines layout columns) rows

abbrev pub crosses : Layout → List Run → List Run → List Patch
crosses layout rows columns = flat_map (λ a. map (cross layout a) columns) rows

-- ---- adjacent rows

-- the rows' sources are adjacent, or there are none
abbrev pub has_adjacent_sources : Option ℕ → (cols from_step : ℕ) → Bool
has_adjacent_sources None cols from_step = true
has_adjacent_sources (Some s) cols from_step = from_step == cols

-- rows that are adjacent in the buffer, and where they have sources in the array, are one row
abbrev pub with_rows_joined : Patch → Patch
with_rows_joined patch =
    if (patch.to_step == patch.cols) && has_adjacent_sources patch.from patch.cols patch.from_step
    then record patch { rows = 1; cols = patch.rows * patch.cols }
    else patch

-- ---- the patches of a piece

-- neighbours in a row of the result come from neighbours, run by run
abbrev pub keeps_neighbours : Mapping → Bool
keeps_neighbours Identity = true
keeps_neighbours (Shift dr dc fill) = true
keeps_neighbours (Rotate dr dc) = true
keeps_neighbours (Section r0 nr sr c0 nc sc) = sc == 1
keeps_neighbours (Stretch kr kc) = kc == 1
keeps_neighbours Transpose = false

-- whole lines where neighbours stay neighbours; else element by element, along the rows or along the columns,
-- whichever are fewer
abbrev pub patches_of : Bool → Layout → ℕ → List Run → List Run → List Patch
patches_of keeps layout height rows columns =
    if keeps then lines layout rows columns
    else (if nat_le (height * length columns) (length rows * layout.width)
    then crosses layout (singles rows) columns
    else lines layout rows (singles columns))

abbrev pub read_patches : Mapping → Extent → Piece → List Patch
read_patches mapping shape piece =
    map with_rows_joined (patches_of (keeps_neighbours mapping) (layout_of mapping shape piece) piece.h
    (row_runs mapping shape piece) (column_runs mapping shape piece))
