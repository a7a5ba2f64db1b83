-- How many beats the transfers of a tile take: no more than it has elements for each leaf, and for its results.
use Rattle.std.proofs.Common.{◌≡◌, ℕ, ◌+◌, ◌*◌, ◌≤◌, List, [], ◌∷◌, length, refl, ap, arith, Bool, true, false, cond, eqb, leb, Option, None, Some}
use Rattle.std.specs.Prelude.{◌&&◌, map}
use Rattle.std.specs.Int.{div_ceil}
use Rattle.std.specs.List.{range_with_len}
use Rattle.std.proofs.lemmas.Grind.{div_ceil_times}
use Rattle.std.proofs.lemmas.Nat.{mul-le}
use Rattle.std.proofs.lemmas.List.{length-append, length-map}
use Rattle.std.proofs.lemmas.List.FromFn.{length-range_with_len}
use Rattle.ven_base.specs.declared.elem.Elem.{Elem}
use Rattle.ven_base.specs.declared.elem.Elem.TheVariants.{U8, I8, U16, I16, U32, I32}
use Rattle.ven_base.specs.Elem.{size_of}
use Rattle.ven_base.specs.Extent.{IsExtent}
use Rattle.ven_base.specs.Mapping.{FitsShape, result_shape}
use Rattle.venice_isa.specs.Beat.{transfer_beats}
use Rattle.pass_plan.specs.declared.leaf.Leaf.{Leaf}
use Rattle.pass_plan.specs.declared.parts.Piece.{Piece}
use Rattle.pass_plan.specs.declared.split.ArrayPlace.{ArrayPlace}
use Rattle.pass_plan.specs.Tile.{IsPieceOf}
use Rattle.dma_segments.specs.declared.patches.Run.{Run}
use Rattle.dma_segments.specs.declared.patches.Patch.{Patch}
use Rattle.dma_segments.specs.declared.patches.Layout.{Layout}
use Rattle.dma_segments.specs.declared.patches.Sides.{Sides}
use Rattle.dma_segments.specs.Run.{row_runs, column_runs, single, singles}
use Rattle.dma_segments.specs.Patch.{layout_of, line, cross, row_lines, row_lines_from, lines, crosses, has_adjacent_sources, with_rows_joined, keeps_neighbours, patches_of}
use Rattle.dma_segments.specs.ReadList.{command_at, command_from, commands_of, sides_of, read_list}
use Rattle.dma_segments.specs.WriteList.{whole_patch, first_element, write_list}
use Rattle.dma_segments.proofs.AxisRuns.{AreRunsOf, row_axis, column_axis}
use Rattle.dma_segments.proofs.Axes.{singles_are}
use Rattle.dma_segments.proofs.Counts.{runs_few}
use Rattle.dma_segments.proofs.Pieces.{rows_are, columns_are}
use Rattle.transfer_programs.proofs.CostSteps.{total, total_append}

-- ---- a command

elem_small : (elem : Elem) → size_of elem ≤ 4
elem_small U8 = omega arith
elem_small I8 = omega arith
elem_small U16 = omega arith
elem_small I16 = omega arith
elem_small U32 = omega arith
elem_small I32 = omega arith

-- a beat takes at least one element
row_beats : (cols size : ℕ) → size ≤ 4 → div_ceil (cols * size) 16 ≤ cols
row_beats cols size small =
    let times = div_ceil_times (cols * size) 16 (omega arith) in
    let bytes = mul-le cols size cols 4 (omega arith) small in
    omega (arith, times.1, bytes)

abbrev area : Patch → ℕ
area patch = patch.rows * patch.cols

joined_area : (patch : Patch) → area (with_rows_joined patch) ≡ area patch
joined_area patch = go (eqb patch.to_step patch.cols && has_adjacent_sources patch.from patch.cols patch.from_step)
  where
    go : (t : Bool) → area (cond t (record patch { rows = 1; cols = patch.rows * patch.cols }) patch) ≡ area patch
    go true = omega arith
    go false = refl

command_beats : (sides : Sides) (patch : Patch) (source : ℕ) → sides.size ≤ 4 → transfer_beats (command_at sides patch source) ≤ area patch
command_beats sides patch source small = mul-le patch.rows (div_ceil (patch.cols * sides.size) 16) patch.rows patch.cols (omega arith) (row_beats patch.cols sides.size small)

commands_beats : (sides : Sides) (patches : List Patch) → sides.size ≤ 4 → total transfer_beats (commands_of sides (map with_rows_joined patches)) ≤ total area patches
commands_beats sides [] small = omega arith
commands_beats sides (patch ∷ patches) small =
    let joined = with_rows_joined patch in
    omega (arith, total_append transfer_beats (command_from joined.from sides joined) (commands_of sides (map with_rows_joined patches)), go joined.from, joined_area patch, commands_beats sides patches small)
  where
    go : (o : Option ℕ) → total transfer_beats (command_from o sides (with_rows_joined patch)) ≤ area (with_rows_joined patch)
    go None = omega arith
    go (Some source) = omega (arith, command_beats sides (with_rows_joined patch) source small)

-- ---- patches

abbrev places : List Run → ℕ
places runs = total (λ (run : Run). run.count) runs

singles_places : (runs : List Run) → places runs ≡ length (singles runs)
singles_places [] = refl
singles_places (run ∷ runs) =
    omega (arith, length-append (map (single run) (range_with_len 0 run.count)) (singles runs), length-map (range_with_len 0 run.count) (single run), length-range_with_len 0 run.count, singles_places runs)

places_few : (n : ℕ) (axis : ℕ → Option ℕ) (runs : List Run) → AreRunsOf n axis runs → places runs ≤ n
places_few n axis runs all = omega (arith, singles_places runs, runs_few n axis (singles runs) (singles_are n axis runs all))

columns_area : (layout : Layout) (a : Run) (columns : List Run) → total area (map (line layout a) columns) ≡ a.count * places columns
columns_area layout a [] = omega arith
columns_area layout a (b ∷ columns) = omega (arith, columns_area layout a columns)

lines_area : (layout : Layout) (columns rows : List Run) → places columns ≤ layout.width → total area (lines layout rows columns) ≤ places rows * layout.width
lines_area layout columns [] few = omega arith
lines_area layout columns (a ∷ rows) few =
    omega (arith, total_append area (row_lines layout columns a) (lines layout rows columns), go a.source, lines_area layout columns rows few)
  where
    go : (o : Option ℕ) → total area (row_lines_from o layout columns a) ≤ a.count * layout.width
    go None = omega arith
    go (Some y) = omega (arith, columns_area layout a columns, mul-le a.count (places columns) a.count layout.width (omega arith) few)

cross_area : (layout : Layout) (a : Run) (columns : List Run) → total area (map (cross layout a) columns) ≡ places columns
cross_area layout a [] = refl
cross_area layout a (b ∷ columns) = omega (arith, cross_area layout a columns)

crosses_area : (layout : Layout) (columns rows : List Run) → places columns ≤ layout.width → total area (crosses layout rows columns) ≤ length rows * layout.width
crosses_area layout columns [] few = omega arith
crosses_area layout columns (a ∷ rows) few =
    let next : length (a ∷ rows) ≡ 1 + length rows = omega arith in
    omega (arith, next, ap (λ n. n * layout.width) next, total_append area (map (cross layout a) columns) (crosses layout rows columns), cross_area layout a columns, crosses_area layout columns rows few, few)

patches_area : (keeps : Bool) (layout : Layout) (h : ℕ) (f g : ℕ → Option ℕ) (rows columns : List Run) → AreRunsOf h f rows → AreRunsOf layout.width g columns
    → total area (patches_of keeps layout h rows columns) ≤ h * layout.width
patches_area true layout h f g rows columns all_r all_c =
    omega (arith, lines_area layout columns rows (places_few layout.width g columns all_c), mul-le (places rows) layout.width h layout.width (places_few h f rows all_r) (omega arith))
patches_area false layout h f g rows columns all_r all_c = by (leb (h * length columns) (length rows * layout.width))
  where
    by : (b : Bool) → total area (cond b (crosses layout (singles rows) columns) (lines layout rows (singles columns))) ≤ h * layout.width
    by true =
        omega (arith, crosses_area layout columns (singles rows) (places_few layout.width g columns all_c), mul-le (length (singles rows)) layout.width h layout.width (runs_few h f (singles rows) (singles_are h f rows all_r)) (omega arith))
    by false =
        omega (arith, lines_area layout (singles columns) rows (places_few layout.width g (singles columns) (singles_are layout.width g columns all_c)), mul-le (places rows) layout.width h layout.width (places_few h f rows all_r) (omega arith))

-- ---- a leaf's piece, and a piece of results

pub read_beats : (leaf : Leaf) (from : ArrayPlace) (piece : Piece) (buffer : ℕ) → IsExtent leaf.shape → FitsShape leaf.map leaf.shape → IsPieceOf (result_shape leaf.map leaf.shape) piece
    → total transfer_beats (read_list leaf from piece buffer).commands ≤ piece.h * piece.w
read_beats leaf from piece buffer extent fits inside =
    let rows = row_runs leaf.map leaf.shape piece in
    let columns = column_runs leaf.map leaf.shape piece in
    let layout = layout_of leaf.map leaf.shape piece in
    let patches = patches_of (keeps_neighbours leaf.map) layout piece.h rows columns in
    omega (
      arith,
      commands_beats (sides_of leaf.elem from buffer) patches (elem_small leaf.elem),
      patches_area (keeps_neighbours leaf.map) layout piece.h (row_axis leaf.map leaf.shape piece) (column_axis leaf.map leaf.shape piece) rows columns (rows_are leaf.shape piece leaf.map extent fits inside) (columns_are leaf.shape piece leaf.map extent fits inside),
    )

pub write_beats : (to : ArrayPlace) (piece : Piece) (buffer : ℕ) → total transfer_beats (write_list to piece buffer) ≤ piece.h * piece.w
write_beats to piece buffer =
    let whole = whole_patch to.shape piece in
    omega (arith, command_beats (sides_of to.elem to buffer) (with_rows_joined whole) (first_element to.shape piece) (elem_small to.elem), joined_area whole)
