-- The moves of a piece's fills, run by run, are those that its program issues.
use Rattle.std.proofs.Common.{◌≡◌, ℕ, zero, suc, ◌+◌, ◌-◌, ◌*◌, ◌/◌, ◌≤◌, min, ℤ, pos, negsuc, ◌+ℤ◌, List, [], ◌∷◌, ◌++◌, length, refl, sym, ap, ◌∙◌, subst, arith, Bool, true, false, cond, eqb, ltb, leb, None, Some}
use Rattle.std.specs.Prelude.{◌&&◌, map}
use Rattle.std.specs.List.{flat_map, range_with_len}
use Rattle.std.proofs.lemmas.Bool.{cond_both, cond-false, and_from, ne_eqb, lt-ltb, le-ltb}
use Rattle.std.proofs.lemmas.List.{append-nil, map-append}
use Rattle.std.proofs.lemmas.List.Concat.{flat_map-append}
use Rattle.ven_base.specs.declared.mapping.Mapping.{Mapping}
use Rattle.ven_base.specs.declared.mapping.Mapping.TheVariants.{Identity, Shift, Rotate, Section, Stretch, Transpose}
use Rattle.ven_base.specs.Elem.{size_of}
use Rattle.ven_base.specs.Mapping.{fill_of}
use Rattle.ven_base.specs.Place.{place_round}
use Rattle.venice_isa.specs.declared.issue.Issue.{Issue}
use Rattle.venice_isa.specs.declared.issue.Issue.TheVariants.{Vector}
use Rattle.venice_isa.specs.Host.{with_number}
use Rattle.pass_plan.specs.declared.leaf.Leaf.{Leaf}
use Rattle.pass_plan.specs.declared.parts.Piece.{Piece}
use Rattle.pass_plan.specs.declared.split.ArrayPlace.{ArrayPlace}
use Rattle.dma_segments.specs.declared.patches.Run.{Run}
use Rattle.dma_segments.specs.declared.patches.Patch.{Patch}
use Rattle.dma_segments.specs.declared.patches.Layout.{Layout}
use Rattle.dma_segments.specs.Run.{neighbours, some_places, shifted_runs, round_runs, phase, phase_count, phases, block, block_count, blocks, repeated_runs, row_runs, column_runs, further, single, singles}
use Rattle.dma_segments.specs.Patch.{has_adjacent_sources, with_rows_joined, source_of_both, line, cross, row_lines, row_lines_from, lines, crosses, patches_of, read_patches}
use Rattle.dma_segments.specs.ReadList.{fill_from, fills_of, sides_of}
use Rattle.dma_segments.proofs.Lists.{Each, each_append}
use Rattle.dma_segments.specs.FillWork.{fill_work}
use Rattle.host_programs.specs.Expr.{Expr, Number, Variable, Difference, value, is_below}
use Rattle.host_programs.specs.ExprLaws.{Agree}
use Rattle.host_programs.specs.Program.{list_by}
use Rattle.transfer_programs.specs.ReadProgram.{PieceExpr}
use Rattle.transfer_programs.specs.ReadLaws.{piece_value}
use Rattle.transfer_programs.specs.FillProgram.{FillSides, rows_fill, columns_fill, outside_expr, bytes_before, fills_in_order, map_fills}
use Rattle.transfer_programs.specs.FillLaws.{FillsBelow, FillsAreIssued}
use Rattle.host_programs.proofs.Blocks.{with_same, with_other}
use Rattle.host_programs.proofs.Exprs.{below_more}
use Rattle.transfer_programs.proofs.Axes.{value_agree, agree_new, agree_then, value_scaled, below_scaled}
use Rattle.transfer_programs.proofs.AxisRuns.{new_below}
use Rattle.transfer_programs.proofs.Fills.{outside_of, outside_value, rows_list, columns_filled, columns_list, sides, filled_with, bytes_of_row, bare, issue_of, rows_filled, columns_filled_is}

-- the run has sources
abbrev HasSource : Run → Type 0
HasSource run = (x : ℕ) × (run.source ≡ Some x)

-- where the columns without a source begin
abbrev first_outside : ℤ → (width outside : ℕ) → ℕ
first_outside (pos k) width outside = width - outside
first_outside (negsuc k) width outside = 0

-- the fill of so many columns, where there are any, in rows, where there are any
abbrev columns_issued : FillSides → (n o first width before buffer : ℕ) → List Issue
columns_issued s n o first width before buffer =
    cond (ltb o 1) [] (cond (ltb n 1) [] (columns_filled s (first * bytes_of_row s width + (before + buffer)) n o width ∷ []))

abbrev rows_issued : FillSides → (n first width buffer : ℕ) → List Issue
rows_issued s n first width buffer = cond (ltb n 1) [] (filled_with s (first * bytes_of_row s width + buffer) 1 (n * width) 0 ∷ [])

-- what the expressions of a shift's fills mean
record ShiftAt (s : FillSides) (height outside before columns : Expr) (d : ℕ) (f : ℕ → ℕ) (buffer width h o_rows o_columns first : ℕ) : Type 0 where
  low_buffer : is_below s.buffer d ≡ true
  low_width : is_below s.width d ≡ true
  low_outside : is_below outside d ≡ true
  low_before : is_below before d ≡ true
  low_columns : is_below columns d ≡ true
  buffer_is : value s.buffer f ≡ buffer
  width_is : value s.width f ≡ width
  height_is : value height f ≡ h
  outside_is : value outside f ≡ o_rows
  columns_is : value columns f ≡ o_columns
  before_is : value before f ≡ first * size_of s.elem

swap : (a b : Bool) (xs : List Issue) → cond a [] (cond b [] xs) ≡ cond b [] (cond a [] xs)
swap true true xs = refl
swap true false xs = refl
swap false b xs = refl

module _ (s : FillSides) (array buffer width row_pitch column_pitch : ℕ) where
  abbrev layout : Layout
  layout = record { width = width; row_pitch = row_pitch; column_pitch = column_pitch }

  unfoldable filled : List Patch → List Issue
  filled patches = map (λ fill. Vector (fill_work fill)) (fills_of (sides s array buffer width) s.elem s.value (map with_rows_joined patches))

  empty_filled : filled [] ≡ []
  unfolding filled
  empty_filled = refl

  filled_append : (xs ys : List Patch) → filled (xs ++ ys) ≡ filled xs ++ filled ys
  unfolding filled
  filled_append xs ys =
      let each = λ (patch : Patch). fill_from patch.from (sides s array buffer width) s.elem s.value patch in
      ap (λ ps. map (λ fill. Vector (fill_work fill)) (flat_map each ps)) (map-append with_rows_joined xs ys) ∙ ap (map (λ fill. Vector (fill_work fill))) (flat_map-append each (map with_rows_joined xs) (map with_rows_joined ys))
      ∙ map-append (λ fill. Vector (fill_work fill)) (flat_map each (map with_rows_joined xs)) (flat_map each (map with_rows_joined ys))

  joined_from : (patch : Patch) (t : Bool) → (cond t (record patch { rows = 1; cols = patch.rows * patch.cols }) patch).from ≡ patch.from
  joined_from patch true = refl
  joined_from patch false = refl

  one_filled : (patch : Patch) → patch.from ≡ None → filled (patch ∷ []) ≡ issue_of s array buffer width (with_rows_joined patch) ∷ []
  unfolding filled
  one_filled patch is =
      let joined = with_rows_joined patch in
      let from : joined.from ≡ None = joined_from patch (eqb patch.to_step patch.cols && has_adjacent_sources patch.from patch.cols patch.from_step) ∙ is in
      ap (λ o. map (λ fill. Vector (fill_work fill)) (fill_from o (sides s array buffer width) s.elem s.value joined ++ [])) from

  none_filled : (patch : Patch) (source : ℕ) → patch.from ≡ Some source → filled (patch ∷ []) ≡ []
  unfolding filled
  none_filled patch source is =
      let joined = with_rows_joined patch in
      let from : joined.from ≡ Some source = joined_from patch (eqb patch.to_step patch.cols && has_adjacent_sources patch.from patch.cols patch.from_step) ∙ is in
      ap (λ o. map (λ fill. Vector (fill_work fill)) (fill_from o (sides s array buffer width) s.elem s.value joined ++ [])) from

  -- ---- what has sources alone isn't filled

  no_fills : (patches : List Patch) → Each (λ patch. (x : ℕ) × (patch.from ≡ Some x)) patches → filled patches ≡ []
  no_fills [] all = empty_filled
  no_fills (patch ∷ patches) all = filled_append (patch ∷ []) patches ∙ ap (λ xs. xs ++ filled patches) (none_filled patch (all.0.0) (all.0.1)) ∙ no_fills patches all.1

  both_sources : (a b : Run) → HasSource a → HasSource b → (x : ℕ) × (source_of_both layout a.source b.source ≡ Some x)
  both_sources a b (y, is_a) (x, is_b) = (y * row_pitch + x * column_pitch, ap (λ o. source_of_both layout o b.source) is_a ∙ ap (source_of_both layout (Some y)) is_b)

  each_sourced : (make : Run → Run → Patch) → ((a b : Run) → (make a b).from ≡ source_of_both layout a.source b.source) → (a : Run) (columns : List Run) → HasSource a → Each HasSource columns
      → Each (λ patch. (x : ℕ) × (patch.from ≡ Some x)) (map (make a) columns)
  each_sourced make is a [] has all = tt
  each_sourced make is a (b ∷ columns) has all = let both = both_sources a b has all.0 in ((both.0, is a b ∙ both.1), each_sourced make is a columns has all.1)

  lines_sourced : (rows columns : List Run) → Each HasSource rows → Each HasSource columns → Each (λ patch. (x : ℕ) × (patch.from ≡ Some x)) (lines layout rows columns)
  lines_sourced [] columns rows_all all = tt
  lines_sourced (a ∷ rows) columns rows_all all =
      each_append (λ patch. (x : ℕ) × (patch.from ≡ Some x)) (row_lines layout columns a) (lines layout rows columns)
      (subst (λ o. Each (λ patch. (x : ℕ) × (patch.from ≡ Some x)) (row_lines_from o layout columns a)) (sym rows_all.0.1) (each_sourced (line layout) (λ a b. refl) a columns rows_all.0 all))
      (lines_sourced rows columns rows_all.1 all)

  crosses_sourced : (rows columns : List Run) → Each HasSource rows → Each HasSource columns → Each (λ patch. (x : ℕ) × (patch.from ≡ Some x)) (crosses layout rows columns)
  crosses_sourced [] columns rows_all all = tt
  crosses_sourced (a ∷ rows) columns rows_all all =
      each_append (λ patch. (x : ℕ) × (patch.from ≡ Some x)) (map (cross layout a) columns) (crosses layout rows columns)
      (each_sourced (cross layout) (λ a b. refl) a columns rows_all.0 all) (crosses_sourced rows columns rows_all.1 all)

  parts_sourced : (run : Run) (ts : List ℕ) → HasSource run → Each HasSource (map (single run) ts)
  parts_sourced run [] has = tt
  parts_sourced run (t ∷ ts) has = ((has.0 + t * run.source_step, ap (λ o. further o (t * run.source_step)) has.1), parts_sourced run ts has)

  singles_sourced : (runs : List Run) → Each HasSource runs → Each HasSource (singles runs)
  singles_sourced [] all = tt
  singles_sourced (run ∷ runs) all = each_append HasSource (map (single run) (range_with_len 0 run.count)) (singles runs) (parts_sourced run (range_with_len 0 run.count) all.0) (singles_sourced runs all.1)

  unfilled : (keeps : Bool) (height : ℕ) (rows columns : List Run) → Each HasSource rows → Each HasSource columns → filled (patches_of keeps layout height rows columns) ≡ []
  unfilled true height rows columns rows_all all = no_fills (lines layout rows columns) (lines_sourced rows columns rows_all all)
  unfilled false height rows columns rows_all all =
      cond_both (leb (height * length columns) (length rows * width)) (crosses layout (singles rows) columns) (lines layout rows (singles columns)) (λ patches. filled patches ≡ [])
      (λ e. no_fills (crosses layout (singles rows) columns) (crosses_sourced (singles rows) columns (singles_sourced rows rows_all) all))
      (λ e. no_fills (lines layout rows (singles columns)) (lines_sourced rows (singles columns) rows_all (singles_sourced columns all)))

  -- ---- a run's fills

  -- where there is a place
  unless_none : (n : ℕ) (xs : List Issue) → 1 ≤ n → xs ≡ cond (ltb n 1) [] xs
  unless_none n xs some = sym (cond-false (ltb n 1) [] xs (le-ltb n 1 some))

  columns_sourced : (a : Run) (y : ℕ) → a.source ≡ Some y → (first n x : ℕ) → filled (map (line layout a) (some_places first n (Some x))) ≡ []
  columns_sourced a y is first zero x = empty_filled
  columns_sourced a y is first (suc n) x = none_filled (line layout a (neighbours first (suc n) (Some x))) (y * row_pitch + x * column_pitch) (ap (λ o. source_of_both layout o (Some x)) is)

  columns_outside : (first n y column o : ℕ) → o ≤ width → filled (map (line layout (neighbours first n (Some y))) (some_places column o None))
      ≡ cond (ltb o 1) [] (columns_filled s (first * bytes_of_row s width + (column * size_of s.elem + buffer)) n o width ∷ [])
  columns_outside first n y column zero le = empty_filled
  columns_outside first n y column (suc o) le =
      let patch = bare s array buffer width n (suc o) (first * width + column) (1 * width) (1 * row_pitch) in
      one_filled patch refl ∙ ap (λ i. i ∷ []) (sym (columns_filled_is s array buffer width first column n (suc o) (1 * row_pitch) le)) ∙ unless_none (suc o) (columns_filled s (first * bytes_of_row s width + (column * size_of s.elem + buffer)) n (suc o) width ∷ []) (omega arith)

  -- of a run of rows with sources
  abbrev row_fills : (size : ℕ) (by : ℤ) (start first n : ℕ) → List Issue
  row_fills size by start first n =
      let o = outside_of size by start width in
      cond (ltb o 1) [] (columns_filled s (first * bytes_of_row s width + (first_outside by width o * size_of s.elem + buffer)) n o width ∷ [])

  rows_columns : (size : ℕ) (by : ℤ) (start first n y : ℕ) → filled (map (line layout (neighbours first n (Some y))) (shifted_runs size by start width)) ≡ row_fills size by start first n
  rows_columns size (pos k) start first n y =
      let a = neighbours first n (Some y) in
      let inside = min width (size - (start + k)) in
      let o = width - inside in
      let column : inside ≡ width - o = omega arith in
      ap filled (map-append (line layout a) (some_places 0 inside (Some (start + k))) (some_places inside o None)) ∙ filled_append (map (line layout a) (some_places 0 inside (Some (start + k)))) (map (line layout a) (some_places inside o None))
      ∙ ap (λ xs. xs ++ filled (map (line layout a) (some_places inside o None))) (columns_sourced a y refl 0 inside (start + k)) ∙ columns_outside first n y inside o (omega arith)
      ∙ ap (λ m. cond (ltb o 1) [] (columns_filled s (first * bytes_of_row s width + (m * size_of s.elem + buffer)) n o width ∷ [])) column
  rows_columns size (negsuc k) start first n y =
      let a = neighbours first n (Some y) in
      let o = min width (suc k - start) in
      let source = start + o - suc k in
      let last = row_fills size (negsuc k) start first n in
      ap filled (map-append (line layout a) (some_places 0 o None) (some_places o (width - o) (Some source))) ∙ filled_append (map (line layout a) (some_places 0 o None)) (map (line layout a) (some_places o (width - o) (Some source)))
      ∙ ap (λ xs. xs ++ filled (map (line layout a) (some_places o (width - o) (Some source)))) (columns_outside first n y 0 o (omega arith)) ∙ ap (λ xs. last ++ xs) (columns_sourced a y refl o (width - o) source) ∙ append-nil last

  rows_inside : (size : ℕ) (by : ℤ) (start first n y : ℕ) → filled (lines layout (some_places first n (Some y)) (shifted_runs size by start width)) ≡ cond (ltb n 1) [] (row_fills size by start first n)
  rows_inside size by start first zero y = empty_filled
  rows_inside size by start first (suc n) y =
      let columns = shifted_runs size by start width in
      ap filled (append-nil (map (line layout (neighbours first (suc n) (Some y))) columns)) ∙ rows_columns size by start first (suc n) y ∙ unless_none (suc n) (row_fills size by start first (suc n)) (omega arith)

  rows_outside : (columns : List Run) (first n : ℕ) → filled (lines layout (some_places first n None) columns) ≡ cond (ltb n 1) [] (filled_with s (first * bytes_of_row s width + buffer) 1 (n * width) 0 ∷ [])
  rows_outside columns first zero = empty_filled
  rows_outside columns first (suc n) =
      one_filled (bare s array buffer width (suc n) width (first * width) (1 * width) 0) refl ∙ ap (λ i. i ∷ []) (sym (rows_filled s array buffer width first (suc n) 0))
      ∙ unless_none (suc n) (filled_with s (first * bytes_of_row s width + buffer) 1 (suc n * width) 0 ∷ []) (omega arith)

  -- ---- the fills of a shift

  module _ (dr dc : ℤ) (size_rows size_columns r h c : ℕ) (height outside before columns : Expr) (d : ℕ) (f : ℕ → ℕ)
      (at : ShiftAt s height outside before columns d f buffer width h (outside_of size_rows dr r h) (outside_of size_columns dc c width) (first_outside dc width (outside_of size_columns dc c width))) where
    abbrev o_columns : ℕ
    o_columns = outside_of size_columns dc c width

    abbrev here : ℕ
    here = first_outside dc width o_columns * size_of s.elem

    abbrev column_runs_here : List Run
    column_runs_here = shifted_runs size_columns dc c width

    columns_here : (first count : Expr) (y n : ℕ) → is_below first d ≡ true → value first f ≡ y → value count f ≡ n
        → list_by value (columns_fill s first count before columns d) d f ≡ cond (ltb n 1) [] (row_fills size_columns dc c y n)
    columns_here first count y n low first_is count_is =
        columns_list s first count before columns d f at.low_width at.low_buffer low at.low_before at.low_columns
        ∙ ap (λ m. columns_issued s m (value columns f) (value first f) (value s.width f) (value before f) (value s.buffer f)) count_is
        ∙ ap (λ m. columns_issued s n m (value first f) (value s.width f) (value before f) (value s.buffer f)) at.columns_is
        ∙ ap (λ m. columns_issued s n o_columns m (value s.width f) (value before f) (value s.buffer f)) first_is
        ∙ ap (λ m. columns_issued s n o_columns y m (value before f) (value s.buffer f)) at.width_is
        ∙ ap (λ m. columns_issued s n o_columns y width m (value s.buffer f)) at.before_is
        ∙ ap (columns_issued s n o_columns y width here) at.buffer_is
        ∙ swap (ltb o_columns 1) (ltb n 1) (columns_filled s (y * bytes_of_row s width + (here + buffer)) n o_columns width ∷ [])

    rows_here : (first count : Expr) (y n : ℕ) → value first f ≡ y → value count f ≡ n → list_by value (rows_fill s first count) d f ≡ rows_issued s n y width buffer
    rows_here first count y n first_is count_is =
        rows_list s first count d f
        ∙ ap (λ m. rows_issued s m (value first f) (value s.width f) (value s.buffer f)) count_is
        ∙ ap (λ m. rows_issued s n m (value s.width f) (value s.buffer f)) first_is
        ∙ ap (λ m. rows_issued s n y m (value s.buffer f)) at.width_is
        ∙ ap (rows_issued s n y width) at.buffer_is

    both_parts : (xs ys : List Run) → filled (lines layout (xs ++ ys) column_runs_here) ≡ filled (lines layout xs column_runs_here) ++ filled (lines layout ys column_runs_here)
    both_parts xs ys = ap filled (flat_map-append (row_lines layout column_runs_here) xs ys) ∙ filled_append (lines layout xs column_runs_here) (lines layout ys column_runs_here)

    left : value (Difference height outside) f ≡ h - outside_of size_rows dr r h
    left = ap (λ m. m - value outside f) at.height_is ∙ ap (λ m. h - m) at.outside_is

  in_order : (dr dc : ℤ) (size_rows size_columns r h c : ℕ) (height outside before columns : Expr) (d : ℕ) (f : ℕ → ℕ)
      → ShiftAt s height outside before columns d f buffer width h (outside_of size_rows dr r h) (outside_of size_columns dc c width) (first_outside dc width (outside_of size_columns dc c width))
      → list_by value (fills_in_order s dr height outside before columns d) d f ≡ filled (lines layout (shifted_runs size_rows dr r h) (shifted_runs size_columns dc c width))
  in_order (pos k) dc size_rows size_columns r h c height outside before columns d f at =
      let inside = min h (size_rows - (r + k)) in
      let away = h - inside in
      let cols = shifted_runs size_columns dc c width in
      let xs = some_places 0 inside (Some (r + k)) in
      let ys = some_places inside away None in
      let rest : value (Difference height outside) f ≡ inside = left (pos k) dc size_rows size_columns r h c height outside before columns d f at ∙ omega arith in
      let one = columns_here (pos k) dc size_rows size_columns r h c height outside before columns d f at (Number 0) (Difference height outside) 0 inside refl refl rest in
      let two = rows_here (pos k) dc size_rows size_columns r h c height outside before columns d f at (Difference height outside) outside inside away rest at.outside_is in
      ap (λ zs. zs ++ list_by value (rows_fill s (Difference height outside) outside) d f) (one ∙ sym (rows_inside size_columns dc c 0 inside (r + k)))
      ∙ ap (λ zs. filled (lines layout xs cols) ++ zs) (two ∙ sym (rows_outside cols inside away))
      ∙ sym (both_parts (pos k) dc size_rows size_columns r h c height outside before columns d f at xs ys)
  in_order (negsuc k) dc size_rows size_columns r h c height outside before columns d f at =
      let away = min h (suc k - r) in
      let inside = h - away in
      let source = r + away - suc k in
      let cols = shifted_runs size_columns dc c width in
      let xs = some_places 0 away None in
      let ys = some_places away inside (Some source) in
      let rest = left (negsuc k) dc size_rows size_columns r h c height outside before columns d f at in
      let one = rows_here (negsuc k) dc size_rows size_columns r h c height outside before columns d f at (Number 0) outside 0 away refl at.outside_is in
      let two = columns_here (negsuc k) dc size_rows size_columns r h c height outside before columns d f at outside (Difference height outside) away inside at.low_outside at.outside_is rest in
      ap (λ zs. zs ++ list_by value (columns_fill s outside (Difference height outside) before columns d) d f) (one ∙ sym (rows_outside cols 0 away))
      ∙ ap (λ zs. filled (lines layout xs cols) ++ zs) (two ∙ sym (rows_inside size_columns dc c away inside source))
      ∙ sym (both_parts (negsuc k) dc size_rows size_columns r h c height outside before columns d f at xs ys)

-- ---- runs with sources

phases_sourced : (k start n : ℕ) (ts : List ℕ) → Each HasSource (map (phase k start n) ts)
phases_sourced k start n [] = tt
phases_sourced k start n (t ∷ ts) = (((start + t) / k, refl), phases_sourced k start n ts)

blocks_sourced : (k start n : ℕ) (ts : List ℕ) → Each HasSource (map (block k start n) ts)
blocks_sourced k start n [] = tt
blocks_sourced k start n (t ∷ ts) = ((t, refl), blocks_sourced k start n ts)

repeated_sourced : (k start n : ℕ) → Each HasSource (repeated_runs k start n)
repeated_sourced k start n =
    cond_both (leb (phase_count k n) (block_count k start n)) (phases k start n) (blocks k start n) (λ runs. Each HasSource runs)
    (λ e. phases_sourced k start n (range_with_len 0 (phase_count k n))) (λ e. blocks_sourced k start n (range_with_len (start / k) (block_count k start n)))

some_sourced : (first n x : ℕ) → Each HasSource (some_places first n (Some x))
some_sourced first zero x = tt
some_sourced first (suc n) x = ((x, refl), tt)

round_sourced : (size : ℕ) (by : ℤ) (start n : ℕ) → Each HasSource (round_runs size by start n)
round_sourced size by start n =
    let first = place_round size (pos start +ℤ by) in
    let before = min n (size - first) in
    each_append HasSource (some_places 0 before (Some first)) (some_places before (n - before) (Some 0)) (some_sourced 0 before first) (some_sourced before (n - before) 0)

-- ---- the fills of a leaf's piece

module _ (leaf : Leaf) (from : ArrayPlace) (piece : PieceExpr) (buffer : Expr) (d : ℕ) (f : ℕ → ℕ) (low : FillsBelow piece buffer d) where
  abbrev part : Piece
  part = piece_value piece f

  abbrev sides_with : ℤ → FillSides
  sides_with number = record { elem = leaf.elem; value = number; buffer = buffer; width = piece.w }

  abbrev moves : Mapping → List Issue
  moves mapping = map (λ fill. Vector (fill_work fill)) (fills_of (sides_of leaf.elem from (value buffer f)) leaf.elem (fill_of mapping) (read_patches mapping leaf.shape part))

  -- no fills, where each run has sources
  none_list : (row_pitch column_pitch : ℕ) (keeps : Bool) (rows columns : List Run) → Each HasSource rows → Each HasSource columns
      → [] ≡ map (λ fill. Vector (fill_work fill)) (fills_of (sides_of leaf.elem from (value buffer f)) leaf.elem (pos 0)
      (map with_rows_joined (patches_of keeps (record { width = part.w; row_pitch = row_pitch; column_pitch = column_pitch }) part.h rows columns)))
  unfolding filled
  none_list row_pitch column_pitch keeps rows columns rows_all all =
      sym (unfilled (sides_with (pos 0)) from.place (value buffer f) part.w row_pitch column_pitch keeps part.h rows columns rows_all all)

  module _ (dr dc number : ℤ) where
    abbrev s : FillSides
    s = sides_with number

    abbrev away_rows : ℕ
    away_rows = value (outside_expr leaf.shape.rows dr piece.r0 piece.h) f

    abbrev f1 : ℕ → ℕ
    f1 = with_number d away_rows f

    abbrev away_columns : ℕ
    away_columns = value (outside_expr leaf.shape.cols dc piece.c0 piece.w) f1

    abbrev f2 : ℕ → ℕ
    f2 = with_number (d + 1) away_columns f1

    a1 : Agree d f1 f
    a1 = agree_new d d away_rows f (omega arith)

    a2 : Agree d f2 f
    a2 = agree_then d (d + 1) f f1 f2 (omega arith) (agree_new (d + 1) (d + 1) away_columns f1 (omega arith)) a1

    up : (e : Expr) → is_below e d ≡ true → is_below e (d + 1 + 1) ≡ true
    up e h = below_more e d (d + 1 + 1) (omega arith) h

    o_columns_is : away_columns ≡ outside_of leaf.shape.cols dc part.c0 part.w
    o_columns_is =
        outside_value leaf.shape.cols dc piece.c0 piece.w f1 ∙ ap (λ m. outside_of leaf.shape.cols dc m (value piece.w f1)) (value_agree piece.c0 d f1 f a1 low.c0)
        ∙ ap (outside_of leaf.shape.cols dc part.c0) (value_agree piece.w d f1 f a1 low.w)

    columns_at : f2 (d + 1) ≡ outside_of leaf.shape.cols dc part.c0 part.w
    columns_at = with_same f1 (d + 1) away_columns ∙ o_columns_is

    width_at : value piece.w f2 ≡ part.w
    width_at = value_agree piece.w d f2 f a2 low.w

    rows_at : f2 d ≡ outside_of leaf.shape.rows dr part.r0 part.h
    rows_at = with_other f1 (d + 1) away_columns d (ne_eqb d (d + 1) (λ e. omega (arith, e))) ∙ with_same f d away_rows ∙ outside_value leaf.shape.rows dr piece.r0 piece.h f

    before_at : (by : ℤ) (o : ℕ) → f2 (d + 1) ≡ o → value (bytes_before s by (Variable (d + 1))) f2 ≡ first_outside by part.w o * size_of leaf.elem
    before_at (pos k) o is =
        value_scaled (Difference piece.w (Variable (d + 1))) (size_of leaf.elem) f2 ∙ ap (λ m. (m - f2 (d + 1)) * size_of leaf.elem) width_at ∙ ap (λ m. (part.w - m) * size_of leaf.elem) is
    before_at (negsuc k) o is = omega arith

    before_low : (by : ℤ) → is_below (bytes_before s by (Variable (d + 1))) (d + 1 + 1) ≡ true
    before_low (pos k) = below_scaled (Difference piece.w (Variable (d + 1))) (size_of leaf.elem) (d + 1 + 1) (and_from _ _ (up piece.w low.w) (new_below (d + 1)))
    before_low (negsuc k) = refl

    shift_list : list_by value (map_fills (Shift dr dc number) leaf piece buffer d) d f ≡ moves (Shift dr dc number)
    unfolding filled
    shift_list = in_order s from.place (value buffer f) part.w leaf.shape.cols 1 dr dc leaf.shape.rows leaf.shape.cols part.r0 part.h part.c0 piece.h (Variable d) (bytes_before s dc (Variable (d + 1))) (Variable (d + 1)) (d + 1 + 1) f2 (record {
      low_buffer = up buffer low.buffer_below;
      low_width = up piece.w low.w;
      low_outside = lt-ltb d (d + 1 + 1) (omega arith);
      low_before = before_low dc;
      low_columns = new_below (d + 1);
      buffer_is = value_agree buffer d f2 f a2 low.buffer_below;
      width_is = width_at;
      height_is = value_agree piece.h d f2 f a2 low.h;
      outside_is = rows_at;
      columns_is = columns_at;
      before_is = before_at dc (outside_of leaf.shape.cols dc part.c0 part.w) columns_at;
    })

  map_list : (mapping : Mapping) → list_by value (map_fills mapping leaf piece buffer d) d f ≡ moves mapping
  map_list Identity = none_list leaf.shape.cols 1 true (row_runs Identity leaf.shape part) (column_runs Identity leaf.shape part) ((part.r0, refl), tt) ((part.c0, refl), tt)
  map_list (Shift dr dc number) = shift_list dr dc number
  map_list (Rotate dr dc) =
      none_list leaf.shape.cols 1 true (row_runs (Rotate dr dc) leaf.shape part) (column_runs (Rotate dr dc) leaf.shape part)
      (round_sourced leaf.shape.rows dr part.r0 part.h) (round_sourced leaf.shape.cols dc part.c0 part.w)
  map_list (Section r0 nr sr c0 nc sc) =
      none_list leaf.shape.cols 1 (eqb sc 1) (row_runs (Section r0 nr sr c0 nc sc) leaf.shape part) (column_runs (Section r0 nr sr c0 nc sc) leaf.shape part)
      ((r0 + part.r0 * sr, refl), tt) ((c0 + part.c0 * sc, refl), tt)
  map_list (Stretch kr kc) =
      none_list leaf.shape.cols 1 (eqb kc 1) (row_runs (Stretch kr kc) leaf.shape part) (column_runs (Stretch kr kc) leaf.shape part)
      (repeated_sourced kr part.r0 part.h) (repeated_sourced kc part.c0 part.w)
  map_list Transpose = none_list 1 leaf.shape.cols false (row_runs Transpose leaf.shape part) (column_runs Transpose leaf.shape part) ((part.r0, refl), tt) ((part.c0, refl), tt)

pub fills_are_issued : FillsAreIssued
fills_are_issued leaf from piece buffer d f low = map_list leaf from piece buffer d f low leaf.map
