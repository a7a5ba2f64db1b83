-- How many commands and fills a piece has, and that their rows are long.
use Rattle.std.proofs.Common.{◌≡◌, ℕ, zero, suc, ◌+◌, ◌-◌, ◌*◌, ◌/◌, ◌%◌, ◌<◌, ◌≤◌, Option, None, Some, List, [], ◌∷◌, ◌++◌, length, inl, inr, ap, sym, ◌∙◌, refl, arith, min}
use Rattle.std.specs.Prelude.{ℤ, pos, negsuc, ◌+ℤ◌, map, Bool, true, false, ◌&&◌, ◌==◌, nat_le, if◌then◌else◌}
use Rattle.std.proofs.Common.{eqb}
use Rattle.std.specs.List.{list_any, IsDistinct, AllByRecursion}
use Rattle.std.proofs.lemmas.Map.Steps.{length-le_from_distinct_below}
use Rattle.std.proofs.lemmas.Bool.{cases_lt, cases_eq, eqb-true, eq-eqb, leb-true, leb-false, ne_eqb, or_cases, false≢true}
use Rattle.std.proofs.lemmas.List.{length-append, length-map}
use Rattle.std.proofs.lemmas.List.FromFn.{length-map-range_with_len}
use Rattle.std.proofs.lemmas.Nat.{mul-le}
use Rattle.ven_base.specs.declared.elem.Elem.{Elem}
use Rattle.ven_base.specs.Elem.{size_of}
use Rattle.ven_base.specs.Place.{place_round}
use Rattle.ven_base.specs.declared.mapping.Mapping.{Mapping}
use Rattle.ven_base.specs.declared.mapping.Mapping.TheVariants.{Identity, Shift, Rotate, Section, Stretch, Transpose}
use Rattle.ven_base.specs.Extent.{Extent, IsExtent}
use Rattle.std.specs.Option.{option_map}
use Rattle.ven_base.specs.Mapping.{source_of, result_shape, FitsShape, fill_of}
use Rattle.pass_plan.specs.declared.leaf.Leaf.{Leaf}
use Rattle.pass_plan.specs.declared.parts.Piece.{Piece}
use Rattle.pass_plan.specs.Tile.{IsPieceOf}
use Rattle.dma_segments.specs.declared.patches.Run.{Run}
use Rattle.dma_segments.specs.declared.patches.Patch.{Patch}
use Rattle.dma_segments.specs.declared.patches.Layout.{Layout}
use Rattle.dma_segments.specs.declared.patches.Sides.{Sides}
use Rattle.dma_segments.specs.Run.{further, neighbours, unless_empty, some_places, phase, phases, block, blocks, phase_count, block_count, repeated_runs, shifted_runs, round_runs, singles, row_runs, column_runs}
use Rattle.dma_segments.specs.Patch.{source_of_both, layout_of, line, cross, row_lines_from, row_lines, lines, crosses, has_adjacent_sources, with_rows_joined, patches_of, read_patches}
use Rattle.dma_segments.specs.ReadList.{step_between, command_at, fill_at, command_from, fill_from, commands_of, fills_of}
use Rattle.dma_segments.specs.Moves.{moves, moves_of_map, repeated_count, command_limit, fill_limit}
use Rattle.dma_segments.specs.Put.{HasLongRows, HasLongFillRows}
use Rattle.dma_segments.proofs.AxisRuns.{IsRunOf, AreRunsApart, AreRunsOf, row_axis, column_axis}
use Rattle.dma_segments.proofs.PiecePatches.{to_place, IsPatchOf, ArePatchesApart, ArePatchesOf}
use Rattle.dma_segments.proofs.Lists.{Each, EachPair, each_append, each_weaker, each_map, pairs_map, pairs_weaker}
use Rattle.dma_segments.proofs.Axes.{singles_are}
use Rattle.dma_segments.proofs.Bytes.{some_bytes, sides_at}
use Rattle.dma_segments.proofs.Pieces.{wanted_of, patches_with, rows_are, columns_are, plain_patches, plain_patches_are}

-- ---- each patch is one command or one fill

abbrev one_if_some : Option ℕ → ℕ
one_if_some None = 0
one_if_some (Some s) = 1

abbrev one_if_none : Option ℕ → ℕ
one_if_none None = 1
one_if_none (Some s) = 0

-- how many patches have a source, and how many have none
abbrev sourced : List Patch → ℕ
sourced [] = 0
sourced (patch ∷ patches) = one_if_some patch.from + sourced patches

abbrev blanks : List Patch → ℕ
blanks [] = 0
blanks (patch ∷ patches) = one_if_none patch.from + blanks patches

commands_length : (sides : Sides) (patches : List Patch) → length (commands_of sides patches) ≡ sourced patches
commands_length sides [] = refl
commands_length sides (patch ∷ patches) =
    let one = by patch.from in
    let rest = commands_length sides patches in
    omega (arith, length-append (command_from patch.from sides patch) (commands_of sides patches))
  where
    by : (o : Option ℕ) → length (command_from o sides patch) ≡ one_if_some o
    by None = refl
    by (Some s) = omega arith

fills_length : (sides : Sides) (elem : Elem) (value : ℤ) (patches : List Patch) → length (fills_of sides elem value patches) ≡ blanks patches
fills_length sides elem value [] = refl
fills_length sides elem value (patch ∷ patches) =
    let one = by patch.from in
    let rest = fills_length sides elem value patches in
    omega (arith, length-append (fill_from patch.from sides elem value patch) (fills_of sides elem value patches))
  where
    by : (o : Option ℕ) → length (fill_from o sides elem value patch) ≡ one_if_none o
    by None = omega arith
    by (Some s) = refl

both_length : (patches : List Patch) → sourced patches + blanks patches ≡ length patches
both_length [] = omega arith
both_length (patch ∷ patches) = let one = by patch.from in let rest = both_length patches in omega arith
  where
    by : (o : Option ℕ) → one_if_some o + one_if_none o ≡ 1
    by None = omega arith
    by (Some s) = omega arith

-- joining rows leaves a patch its source
pub joined_from : (patch : Patch) → (with_rows_joined patch).from ≡ patch.from
joined_from patch = by ((patch.to_step == patch.cols) && has_adjacent_sources patch.from patch.cols patch.from_step)
  where
    by : (b : Bool) → (if b then record patch { rows = 1; cols = patch.rows * patch.cols } else patch).from ≡ patch.from
    by true = refl
    by false = refl

sourced_joined : (patches : List Patch) → sourced (map with_rows_joined patches) ≡ sourced patches
sourced_joined [] = refl
sourced_joined (patch ∷ patches) = let one = ap one_if_some (joined_from patch) in let rest = sourced_joined patches in omega arith

blanks_joined : (patches : List Patch) → blanks (map with_rows_joined patches) ≡ blanks patches
blanks_joined [] = refl
blanks_joined (patch ∷ patches) = let one = ap one_if_none (joined_from patch) in let rest = blanks_joined patches in omega arith

sourced_append : (xs ys : List Patch) → sourced (xs ++ ys) ≡ sourced xs + sourced ys
sourced_append [] ys = omega arith
sourced_append (x ∷ xs) ys = let rest = sourced_append xs ys in omega arith

blanks_append : (xs ys : List Patch) → blanks (xs ++ ys) ≡ blanks xs + blanks ys
blanks_append [] ys = omega arith
blanks_append (x ∷ xs) ys = let rest = blanks_append xs ys in omega arith

-- ---- lines and crosses

row_lines_count : (layout : Layout) (columns : List Run) (a : Run) (o : Option ℕ) → 1 ≤ length columns → length (row_lines_from o layout columns a) ≤ length columns
row_lines_count layout columns a None some = omega arith
row_lines_count layout columns a (Some y) some = omega (arith, length-map columns (line layout a))

pub lines_count : (layout : Layout) (rows columns : List Run) → 1 ≤ length columns → length (lines layout rows columns) ≤ length rows * length columns
lines_count layout [] columns some = omega arith
lines_count layout (a ∷ rows) columns some =
    let one = row_lines_count layout columns a a.source some in
    let rest = lines_count layout rows columns some in
    omega (arith, length-append (row_lines layout columns a) (lines layout rows columns))

pub crosses_count : (layout : Layout) (rows columns : List Run) → length (crosses layout rows columns) ≡ length rows * length columns
crosses_count layout [] columns = omega arith
crosses_count layout (a ∷ rows) columns =
    let rest = crosses_count layout rows columns in
    omega (arith, length-append (map (cross layout a) columns) (crosses layout rows columns), length-map columns (cross layout a))

-- ---- no more than places

apart_from : (a : ℕ) (xs : List ℕ) → Each (λ b. ¬ (a ≡ b)) xs → AllByRecursion (λ b. eqb a b ≡ false) xs
apart_from a [] h = tt
apart_from a (x ∷ xs) h = (ne_eqb a x h.0, apart_from a xs h.1)

all_distinct : (xs : List ℕ) → EachPair (λ a b. ¬ (a ≡ b)) xs → IsDistinct eqb xs
unfolding IsDistinct
all_distinct [] h = tt
all_distinct (x ∷ xs) h = (apart_from x xs h.0, all_distinct xs h.1)

found_below : (n q : ℕ) (xs : List ℕ) → Each (λ x. x < n) xs → list_any (eqb q) xs ≡ true → q < n
found_below n q [] h found = absurd (false≢true found)
found_below n q (x ∷ xs) h found = elim (or_cases (eqb q x) (list_any (eqb q) xs) found) [
  | inl here ↦ let same = eqb-true q x here in let below = h.0 in omega arith
  | inr later ↦ found_below n q xs h.1 later
]

-- items that each have a place below n, and share none, are at most n
pub few_items : {A : Type 0} (place : A → ℕ) (n : ℕ) (xs : List A) → Each (λ x. place x < n) xs → EachPair (λ x y. ¬ (place x ≡ place y)) xs → length xs ≤ n
few_items place n xs below apart =
    let l = length-le_from_distinct_below (map place xs) n (all_distinct (map place xs) (pairs_map place (λ a b. ¬ (a ≡ b)) xs apart)) (λ q found. found_below n q (map place xs) (each_map place (λ x. x < n) xs below) found) in
    omega (arith, length-map xs place)

pub patches_few : (n : ℕ) (wanted : ℕ → Option ℕ) (patches : List Patch) → ArePatchesOf n wanted patches → length patches ≤ n
patches_few n wanted patches all =
    few_items (λ patch. patch.to) n patches (each_weaker (IsPatchOf n wanted) (λ patch. patch.to < n) (λ patch at. let l = at.inside 0 0 at.some_rows at.some_cols in omega arith) patches all.each)
    (pairs_weaker ArePatchesApart (IsPatchOf n wanted) (λ x y. ¬ (x.to ≡ y.to)) (λ x y xt yt apart same. apart x.to (0, 0, xt.some_rows, xt.some_cols, omega arith) (0, 0, yt.some_rows, yt.some_cols, omega arith)) patches all.each all.once)

pub runs_few : (n : ℕ) (axis : ℕ → Option ℕ) (runs : List Run) → AreRunsOf n axis runs → length runs ≤ n
runs_few n axis runs all =
    few_items (λ run. run.first) n runs (each_weaker (IsRunOf n axis) (λ run. run.first < n) (λ run at. let l = at.inside 0 at.some in omega arith) runs all.each)
    (pairs_weaker AreRunsApart (IsRunOf n axis) (λ x y. ¬ (x.first ≡ y.first)) (λ x y xt yt apart same. apart x.first (0, xt.some, omega arith) (0, yt.some, omega arith)) runs all.each all.once)

-- ---- runs

some_runs : (n : ℕ) (axis : ℕ → Option ℕ) (runs : List Run) → 1 ≤ n → AreRunsOf n axis runs → 1 ≤ length runs
some_runs n axis [] some all = absurd (all.covered 0 some)
some_runs n axis (run ∷ runs) some all = omega arith

places_count : (first n : ℕ) (source : Option ℕ) → length (some_places first n source) ≤ min 1 n
places_count first n source = by n
  where
    by : (m : ℕ) → length (unless_empty m (neighbours first n source)) ≤ min 1 m
    by zero = omega arith
    by (suc m) = omega arith

two_count : (m n : ℕ) (X Y : Option ℕ) → m ≤ n → length (some_places 0 m X ++ some_places m (n - m) Y) ≤ min 2 n
two_count m n X Y within =
    let left = places_count 0 m X in
    let right = places_count m (n - m) Y in
    omega (arith, length-append (some_places 0 m X) (some_places m (n - m) Y))

shifted_count : (size : ℕ) (d : ℤ) (start n : ℕ) → length (shifted_runs size d start n) ≤ min 2 n
shifted_count size (pos k) start n = two_count (min n (size - (start + k))) n (Some (start + k)) None (omega arith)
shifted_count size (negsuc k) start n = let m = min n (suc k - start) in two_count m n None (Some (start + m - suc k)) (omega arith)

round_count : (size : ℕ) (d : ℤ) (start n : ℕ) → length (round_runs size d start n) ≤ min 2 n
round_count size d start n = let q = place_round size (pos start +ℤ d) in two_count (min n (size - q)) n (Some q) (Some 0) (omega arith)

repeated_few : (times start n : ℕ) → length (repeated_runs times start n) ≤ repeated_count times start n
repeated_few times start n = by (nat_le (phase_count times n) (block_count times start n)) refl
  where
    by : (b : Bool) → nat_le (phase_count times n) (block_count times start n) ≡ b → length (if b then phases times start n else blocks times start n) ≤ repeated_count times start n
    by true e = let few = leb-true (phase_count times n) (block_count times start n) e in omega (arith, length-map-range_with_len (phase times start n) 0 (phase_count times n))
    by false e = let few = leb-false (phase_count times n) (block_count times start n) e in omega (arith, length-map-range_with_len (block times start n) (start / times) (block_count times start n))

-- ---- patches

-- where neighbours stay neighbours, no more than runs of rows times runs of columns
kept_count : (layout : Layout) (h : ℕ) (rows columns : List Run) (m n : ℕ) → length rows ≤ m → length columns ≤ n → 1 ≤ length columns → length (patches_of true layout h rows columns) ≤ m * n
kept_count layout h rows columns m n few_rows few_columns some =
    let l = lines_count layout rows columns some in
    let k = mul-le (length rows) (length columns) m n few_rows few_columns in
    omega arith

-- else along the rows or along the columns, whichever are fewer
spread_count : (layout : Layout) (h : ℕ) (rows columns : List Run) → 1 ≤ layout.width → 1 ≤ length (singles columns) → length (singles rows) ≤ h → length (singles columns) ≤ layout.width
    → length (patches_of false layout h rows columns) ≤ min (h * length columns) (length rows * layout.width)
spread_count layout h rows columns wide some few_rows few_columns = by (nat_le (h * length columns) (length rows * layout.width)) refl
  where
    by : (b : Bool) → nat_le (h * length columns) (length rows * layout.width) ≡ b → length (if b then crosses layout (singles rows) columns else lines layout rows (singles columns)) ≤ min (h * length columns) (length rows * layout.width)
    by true e =
        let few = leb-true (h * length columns) (length rows * layout.width) e in
        let l = crosses_count layout (singles rows) columns in
        let k = mul-le (length (singles rows)) (length columns) h (length columns) few_rows (omega arith) in
        omega arith
    by false e =
        let few = leb-false (h * length columns) (length rows * layout.width) e in
        let l = lines_count layout rows (singles columns) some in
        let k = mul-le (length rows) (length (singles columns)) (length rows) layout.width (omega arith) few_columns in
        omega arith

-- ---- a shift: one command and two fills

abbrev run_sourced : List Run → ℕ
run_sourced [] = 0
run_sourced (run ∷ runs) = one_if_some run.source + run_sourced runs

abbrev run_blanks : List Run → ℕ
run_blanks [] = 0
run_blanks (run ∷ runs) = one_if_none run.source + run_blanks runs

run_sourced_append : (xs ys : List Run) → run_sourced (xs ++ ys) ≡ run_sourced xs + run_sourced ys
run_sourced_append [] ys = omega arith
run_sourced_append (x ∷ xs) ys = let rest = run_sourced_append xs ys in omega arith

run_blanks_append : (xs ys : List Run) → run_blanks (xs ++ ys) ≡ run_blanks xs + run_blanks ys
run_blanks_append [] ys = omega arith
run_blanks_append (x ∷ xs) ys = let rest = run_blanks_append xs ys in omega arith

module _ (layout : Layout) (a : Run) (y : ℕ) (source_is : a.source ≡ Some y) where
  line_sourced : (b : Run) → one_if_some (line layout a b).from ≡ one_if_some b.source
  line_sourced b = ap (λ s. one_if_some (source_of_both layout s b.source)) source_is ∙ by b.source
    where
      by : (o : Option ℕ) → one_if_some (source_of_both layout (Some y) o) ≡ one_if_some o
      by None = refl
      by (Some x) = refl

  line_blanks : (b : Run) → one_if_none (line layout a b).from ≡ one_if_none b.source
  line_blanks b = ap (λ s. one_if_none (source_of_both layout s b.source)) source_is ∙ by b.source
    where
      by : (o : Option ℕ) → one_if_none (source_of_both layout (Some y) o) ≡ one_if_none o
      by None = refl
      by (Some x) = refl

  lines_of_row : (columns : List Run) → (sourced (map (line layout a) columns) ≡ run_sourced columns) × (blanks (map (line layout a) columns) ≡ run_blanks columns)
  lines_of_row [] = (refl, refl)
  lines_of_row (b ∷ columns) =
      let some = line_sourced b in
      let none = line_blanks b in
      let rest = lines_of_row columns in
      (omega (arith, rest.0), omega (arith, rest.1))

row_count : (layout : Layout) (columns : List Run) (a : Run) (o : Option ℕ) → a.source ≡ o
    → (sourced (row_lines_from o layout columns a) ≡ one_if_some o * run_sourced columns) × (blanks (row_lines_from o layout columns a) ≡ one_if_none o + one_if_some o * run_blanks columns)
row_count layout columns a None is = (omega arith, omega arith)
row_count layout columns a (Some y) is = let all = lines_of_row layout a y is columns in (omega (arith, all.0), omega (arith, all.1))

lines_sourced : (layout : Layout) (rows columns : List Run) → sourced (lines layout rows columns) ≡ run_sourced rows * run_sourced columns
lines_sourced layout [] columns = omega arith
lines_sourced layout (a ∷ rows) columns =
    let one = row_count layout columns a a.source refl in
    let rest = lines_sourced layout rows columns in
    omega (arith, one.0, sourced_append (row_lines layout columns a) (lines layout rows columns))

lines_blanks : (layout : Layout) (rows columns : List Run) → blanks (lines layout rows columns) ≡ run_blanks rows + run_sourced rows * run_blanks columns
lines_blanks layout [] columns = omega arith
lines_blanks layout (a ∷ rows) columns =
    let one = row_count layout columns a a.source refl in
    let rest = lines_blanks layout rows columns in
    omega (arith, one.1, blanks_append (row_lines layout columns a) (lines layout rows columns))

places_kind : (first n : ℕ) (X : Option ℕ) → (run_sourced (some_places first n X) ≤ one_if_some X) × (run_blanks (some_places first n X) ≤ one_if_none X)
places_kind first n X = by n
  where
    by : (m : ℕ) → (run_sourced (unless_empty m (neighbours first n X)) ≤ one_if_some X) × (run_blanks (unless_empty m (neighbours first n X)) ≤ one_if_none X)
    by zero = (omega arith, omega arith)
    by (suc m) = (omega arith, omega arith)

two_kinds : (first m second n : ℕ) (X Y : Option ℕ) → one_if_some X + one_if_some Y ≤ 1 → one_if_none X + one_if_none Y ≤ 1
    → (run_sourced (some_places first m X ++ some_places second n Y) ≤ 1) × (run_blanks (some_places first m X ++ some_places second n Y) ≤ 1)
two_kinds first m second n X Y some none =
    let left = places_kind first m X in
    let right = places_kind second n Y in (
      omega (arith, left.0, right.0, run_sourced_append (some_places first m X) (some_places second n Y)),
      omega (arith, left.1, right.1, run_blanks_append (some_places first m X) (some_places second n Y)),
    )

shifted_kinds : (size : ℕ) (d : ℤ) (start n : ℕ) → (run_sourced (shifted_runs size d start n) ≤ 1) × (run_blanks (shifted_runs size d start n) ≤ 1)
shifted_kinds size (pos k) start n = let m = min n (size - (start + k)) in two_kinds 0 m m (n - m) (Some (start + k)) None (omega arith) (omega arith)
shifted_kinds size (negsuc k) start n = let m = min n (suc k - start) in two_kinds 0 m m (n - m) None (Some (start + m - suc k)) (omega arith) (omega arith)

-- ---- the limits, map by map

-- where no element is without a source, no patch is
no_blanks : (n : ℕ) (wanted : ℕ → Option ℕ) → ((p : ℕ) → ¬ (wanted p ≡ None)) → (patches : List Patch) → Each (IsPatchOf n wanted) patches → blanks patches ≡ 0
no_blanks n wanted some [] each = refl
no_blanks n wanted some (patch ∷ patches) each =
    let one = by patch.from refl in
    let rest = no_blanks n wanted some patches each.1 in
    omega arith
  where
    by : (o : Option ℕ) → patch.from ≡ o → one_if_none o ≡ 0
    by None none = absurd (some (to_place patch 0 0) (each.0.sources 0 0 each.0.some_rows each.0.some_cols ∙ ap (λ s. further s (0 * patch.from_step + 0)) none))
    by (Some s) is = refl

module _ (shape : Extent) (piece : Piece) where
  abbrev rows_of : Mapping → List Run
  rows_of mapping = row_runs mapping shape piece

  abbrev columns_of : Mapping → List Run
  columns_of mapping = column_runs mapping shape piece

  -- what the limits rest on
  record Bounds (mapping : Mapping) : Type 0 where
    few_rows : length (rows_of mapping) ≤ piece.h
    some_columns : 1 ≤ length (columns_of mapping)
    spread : length (patches_of false (layout_of mapping shape piece) piece.h (rows_of mapping) (columns_of mapping)) ≤ min (piece.h * length (columns_of mapping)) (length (rows_of mapping) * piece.w)
    all_few : length (patches_with shape piece mapping) ≤ piece.h * piece.w

  kept : (mapping : Mapping) (m n : ℕ) → Bounds mapping → length (rows_of mapping) ≤ m → length (columns_of mapping) ≤ n → length (patches_of true (layout_of mapping shape piece) piece.h (rows_of mapping) (columns_of mapping)) ≤ m * n
  kept mapping m n bounds few_rows few_columns = kept_count (layout_of mapping shape piece) piece.h (rows_of mapping) (columns_of mapping) m n few_rows few_columns bounds.some_columns

  one_column : (times : ℕ) → times ≡ 1 → length (repeated_runs times piece.c0 piece.w) ≤ 1
  one_column times one = let few = repeated_few times piece.c0 piece.w in omega arith

  section_few : (r0 nr sr c0 nc sc : ℕ) → Bounds (Section r0 nr sr c0 nc sc) → (b : Bool)
      → length (patches_of b (layout_of (Section r0 nr sr c0 nc sc) shape piece) piece.h (rows_of (Section r0 nr sr c0 nc sc)) (columns_of (Section r0 nr sr c0 nc sc))) ≤ (if b then 1 else min piece.h piece.w)
  section_few r0 nr sr c0 nc sc bounds true = let l = kept (Section r0 nr sr c0 nc sc) 1 1 bounds (omega arith) (omega arith) in omega arith
  section_few r0 nr sr c0 nc sc bounds false = let l = bounds.spread in omega arith

  stretch_few : (kr kc : ℕ) → Bounds (Stretch kr kc) → (b : Bool) → (kc == 1) ≡ b
      → length (patches_of b (layout_of (Stretch kr kc) shape piece) piece.h (rows_of (Stretch kr kc)) (columns_of (Stretch kr kc)))
      ≤ (if b then repeated_count kr piece.r0 piece.h else min (piece.h * repeated_count kc piece.c0 piece.w) (piece.w * repeated_count kr piece.r0 piece.h))
  stretch_few kr kc bounds true e =
      let rows = repeated_few kr piece.r0 piece.h in
      let l = kept (Stretch kr kc) (repeated_count kr piece.r0 piece.h) 1 bounds rows (one_column kc (eqb-true kc 1 e)) in
      omega arith
  stretch_few kr kc bounds false e =
      let rows = repeated_few kr piece.r0 piece.h in
      let columns = repeated_few kc piece.c0 piece.w in
      let l = bounds.spread in
      let by_rows = mul-le piece.h (length (columns_of (Stretch kr kc))) piece.h (repeated_count kc piece.c0 piece.w) (omega arith) columns in
      let by_columns = mul-le piece.w (length (rows_of (Stretch kr kc))) piece.w (repeated_count kr piece.r0 piece.h) (omega arith) rows in
      omega arith

  -- all but a shift's patches are few together
  patches_few_of : (mapping : Mapping) → Bounds mapping → fill_limit mapping ≡ 0 → length (patches_with shape piece mapping) ≤ command_limit mapping piece
  patches_few_of Identity bounds h = let l = kept Identity 1 1 bounds (omega arith) (omega arith) in omega arith
  patches_few_of (Shift dr dc fill) bounds h = absurd (omega arith)
  patches_few_of (Rotate dr dc) bounds h =
      let rows = round_count shape.rows dr piece.r0 piece.h in
      let columns = round_count shape.cols dc piece.c0 piece.w in
      let l = kept (Rotate dr dc) 2 2 bounds (omega arith) (omega arith) in
      omega arith
  patches_few_of (Section r0 nr sr c0 nc sc) bounds h = section_few r0 nr sr c0 nc sc bounds (sc == 1)
  patches_few_of (Stretch kr kc) bounds h = stretch_few kr kc bounds (kc == 1) refl
  patches_few_of Transpose bounds h = let l = bounds.spread in omega arith

  sourced_few : (mapping : Mapping) → Bounds mapping → sourced (patches_with shape piece mapping) ≤ command_limit mapping piece
  sourced_few (Shift dr dc fill) bounds =
      let rows = shifted_kinds shape.rows dr piece.r0 piece.h in
      let columns = shifted_kinds shape.cols dc piece.c0 piece.w in
      let l = lines_sourced (layout_of (Shift dr dc fill) shape piece) (rows_of (Shift dr dc fill)) (columns_of (Shift dr dc fill)) in
      let k = mul-le (run_sourced (rows_of (Shift dr dc fill))) (run_sourced (columns_of (Shift dr dc fill))) 1 1 rows.0 columns.0 in
      omega arith
  sourced_few Identity bounds = let l = patches_few_of Identity bounds refl in omega (arith, both_length (patches_with shape piece Identity))
  sourced_few (Rotate dr dc) bounds = let l = patches_few_of (Rotate dr dc) bounds refl in omega (arith, both_length (patches_with shape piece (Rotate dr dc)))
  sourced_few (Section r0 nr sr c0 nc sc) bounds = let l = patches_few_of (Section r0 nr sr c0 nc sc) bounds refl in omega (arith, both_length (patches_with shape piece (Section r0 nr sr c0 nc sc)))
  sourced_few (Stretch kr kc) bounds = let l = patches_few_of (Stretch kr kc) bounds refl in omega (arith, both_length (patches_with shape piece (Stretch kr kc)))
  sourced_few Transpose bounds = let l = patches_few_of Transpose bounds refl in omega (arith, both_length (patches_with shape piece Transpose))

  blanks_few : (mapping : Mapping) (wanted : ℕ → Option ℕ) → Each (IsPatchOf (piece.h * piece.w) wanted) (patches_with shape piece mapping) → ((p : ℕ) → wanted p ≡ None → fill_limit mapping ≡ 2)
      → blanks (patches_with shape piece mapping) ≤ fill_limit mapping
  blanks_few (Shift dr dc fill) wanted each none =
      let rows = shifted_kinds shape.rows dr piece.r0 piece.h in
      let columns = shifted_kinds shape.cols dc piece.c0 piece.w in
      let l = lines_blanks (layout_of (Shift dr dc fill) shape piece) (rows_of (Shift dr dc fill)) (columns_of (Shift dr dc fill)) in
      let k = mul-le (run_sourced (rows_of (Shift dr dc fill))) (run_blanks (columns_of (Shift dr dc fill))) 1 1 rows.0 columns.1 in
      omega (arith, rows.1)
  blanks_few Identity wanted each none = let l = no_blanks (piece.h * piece.w) wanted (λ p is. let two = none p is in omega arith) (patches_with shape piece Identity) each in omega arith
  blanks_few (Rotate dr dc) wanted each none = let l = no_blanks (piece.h * piece.w) wanted (λ p is. let two = none p is in omega arith) (patches_with shape piece (Rotate dr dc)) each in omega arith
  blanks_few (Section r0 nr sr c0 nc sc) wanted each none = let l = no_blanks (piece.h * piece.w) wanted (λ p is. let two = none p is in omega arith) (patches_with shape piece (Section r0 nr sr c0 nc sc)) each in omega arith
  blanks_few (Stretch kr kc) wanted each none = let l = no_blanks (piece.h * piece.w) wanted (λ p is. let two = none p is in omega arith) (patches_with shape piece (Stretch kr kc)) each in omega arith
  blanks_few Transpose wanted each none = let l = no_blanks (piece.h * piece.w) wanted (λ p is. let two = none p is in omega arith) (patches_with shape piece Transpose) each in omega arith

  -- ---- commands and fills together

  section_moves : (r0 nr sr c0 nc sc : ℕ) → Bounds (Section r0 nr sr c0 nc sc) → (b : Bool)
      → length (patches_of b (layout_of (Section r0 nr sr c0 nc sc) shape piece) piece.h (rows_of (Section r0 nr sr c0 nc sc)) (columns_of (Section r0 nr sr c0 nc sc))) ≤ piece.h * piece.w
      → length (patches_of b (layout_of (Section r0 nr sr c0 nc sc) shape piece) piece.h (rows_of (Section r0 nr sr c0 nc sc)) (columns_of (Section r0 nr sr c0 nc sc))) ≤ (if b then piece.h else piece.h * piece.w)
  section_moves r0 nr sr c0 nc sc bounds true l = let k = kept (Section r0 nr sr c0 nc sc) piece.h 1 bounds bounds.few_rows (omega arith) in omega arith
  section_moves r0 nr sr c0 nc sc bounds false l = l

  stretch_moves : (kr kc : ℕ) → Bounds (Stretch kr kc) → (b : Bool) → (kc == 1) ≡ b
      → length (patches_of b (layout_of (Stretch kr kc) shape piece) piece.h (rows_of (Stretch kr kc)) (columns_of (Stretch kr kc))) ≤ piece.h * piece.w
      → length (patches_of b (layout_of (Stretch kr kc) shape piece) piece.h (rows_of (Stretch kr kc)) (columns_of (Stretch kr kc))) ≤ (if b then piece.h else piece.h * piece.w)
  stretch_moves kr kc bounds true e l = let k = kept (Stretch kr kc) piece.h 1 bounds bounds.few_rows (one_column kc (eqb-true kc 1 e)) in omega arith
  stretch_moves kr kc bounds false e l = l

  moves_few : (mapping : Mapping) → Bounds mapping → length (patches_with shape piece mapping) ≤ moves_of_map mapping piece
  moves_few Identity bounds = let l = kept Identity 1 1 bounds (omega arith) (omega arith) in omega arith
  moves_few (Shift dr dc fill) bounds =
      let columns = shifted_count shape.cols dc piece.c0 piece.w in
      let l = kept (Shift dr dc fill) piece.h 2 bounds bounds.few_rows (omega arith) in
      omega arith
  moves_few (Rotate dr dc) bounds =
      let columns = round_count shape.cols dc piece.c0 piece.w in
      let l = kept (Rotate dr dc) piece.h 2 bounds bounds.few_rows (omega arith) in
      omega arith
  moves_few (Section r0 nr sr c0 nc sc) bounds = section_moves r0 nr sr c0 nc sc bounds (sc == 1) bounds.all_few
  moves_few (Stretch kr kc) bounds = stretch_moves kr kc bounds (kc == 1) refl bounds.all_few
  moves_few Transpose bounds = bounds.all_few

-- an element without a source is a shift's
blank_shift : (mapping : Mapping) (shape : Extent) (F : ℕ × ℕ → ℕ) (i j : ℕ) → option_map F (source_of mapping shape i j) ≡ None → fill_limit mapping ≡ 2
blank_shift Identity shape F i j is = absurd (cc)
blank_shift (Shift dr dc fill) shape F i j is = refl
blank_shift (Rotate dr dc) shape F i j is = absurd (cc)
blank_shift (Section r0 nr sr c0 nc sc) shape F i j is = absurd (cc)
blank_shift (Stretch kr kc) shape F i j is = absurd (cc)
blank_shift Transpose shape F i j is = absurd (cc)

-- ---- a piece

module _ (leaf : Leaf) (piece : Piece) (e : IsExtent leaf.shape) (f : FitsShape leaf.map leaf.shape) (inside : IsPieceOf (result_shape leaf.map leaf.shape) piece) (sides : Sides) where
  bounds_of : Bounds leaf.shape piece leaf.map
  bounds_of =
      let all_rows = rows_are leaf.shape piece leaf.map e f inside in
      let all_columns = columns_are leaf.shape piece leaf.map e f inside in
      let f' = row_axis leaf.map leaf.shape piece in
      let g' = column_axis leaf.map leaf.shape piece in
      let rows = row_runs leaf.map leaf.shape piece in
      let columns = column_runs leaf.map leaf.shape piece in
      let single_rows = singles_are piece.h f' rows all_rows in
      let single_columns = singles_are piece.w g' columns all_columns in
      record {
        few_rows = runs_few piece.h f' rows all_rows;
        some_columns = some_runs piece.w g' columns inside.some_cols all_columns;
        spread = spread_count (layout_of leaf.map leaf.shape piece) piece.h rows columns inside.some_cols
            (some_runs piece.w g' (singles columns) inside.some_cols single_columns)
            (runs_few piece.h f' (singles rows) single_rows)
            (runs_few piece.w g' (singles columns) single_columns);
        all_few = patches_few (piece.h * piece.w) (wanted_of leaf piece) (plain_patches leaf piece) (plain_patches_are leaf piece e f inside);
      }

  pub commands_few : length (commands_of sides (read_patches leaf.map leaf.shape piece)) ≤ command_limit leaf.map piece
  commands_few =
      let l = sourced_few leaf.shape piece leaf.map bounds_of in
      omega (arith, commands_length sides (read_patches leaf.map leaf.shape piece), sourced_joined (plain_patches leaf piece))

  pub fills_few : length (fills_of sides leaf.elem (fill_of leaf.map) (read_patches leaf.map leaf.shape piece)) ≤ fill_limit leaf.map
  fills_few =
      let l = blanks_few leaf.shape piece leaf.map (wanted_of leaf piece) (plain_patches_are leaf piece e f inside).each
      (λ p is. blank_shift leaf.map leaf.shape (λ s. s.0 * leaf.shape.cols + s.1) (piece.r0 + p / piece.w) (piece.c0 + p % piece.w) is) in
      omega (arith, fills_length sides leaf.elem (fill_of leaf.map) (read_patches leaf.map leaf.shape piece), blanks_joined (plain_patches leaf piece))

  pub both_few : length (commands_of sides (read_patches leaf.map leaf.shape piece)) + length (fills_of sides leaf.elem (fill_of leaf.map) (read_patches leaf.map leaf.shape piece)) ≤ moves leaf.map piece
  both_few =
      let l = moves_few leaf.shape piece leaf.map bounds_of in
      let all = bounds_of.all_few in
      let c = commands_length sides (read_patches leaf.map leaf.shape piece) in
      let d = fills_length sides leaf.elem (fill_of leaf.map) (read_patches leaf.map leaf.shape piece) in
      let s = sourced_joined (plain_patches leaf piece) in
      let b = blanks_joined (plain_patches leaf piece) in
      let n = both_length (plain_patches leaf piece) in
      omega arith

-- ---- long rows

-- the patch's rows aren't adjacent on both sides
abbrev IsLong : Patch → Type 0
IsLong patch = 1 < patch.rows → patch.to_step ≡ patch.cols → ¬ (has_adjacent_sources patch.from patch.cols patch.from_step ≡ true)

joined_long : (patch : Patch) → IsLong (with_rows_joined patch)
joined_long patch = by (patch.to_step == patch.cols) (has_adjacent_sources patch.from patch.cols patch.from_step) refl refl
  where
    by : (a b : Bool) → (patch.to_step == patch.cols) ≡ a → has_adjacent_sources patch.from patch.cols patch.from_step ≡ b → IsLong (if a && b then record patch { rows = 1; cols = patch.rows * patch.cols } else patch)
    by true true to_is from_is = λ many same true_is. omega arith
    by true false to_is from_is = λ many same true_is. false≢true (sym from_is ∙ true_is)
    by false b to_is from_is = λ many same true_is. false≢true (sym to_is ∙ eq-eqb patch.to_step patch.cols same)

-- steps in bytes are the same where they are in elements
same_step : (a b size : ℕ) → 0 < size → a * size ≡ b * size → a ≡ b
same_step a b size some same = elim (cases_eq a b) [
  | inl one ↦ one
  | inr other ↦ absurd (elim (cases_lt a b) [
    | inl less ↦ let l = mul-le (a + 1) size b size (omega arith) (omega arith) in omega arith
    | inr more ↦ let l = mul-le (b + 1) size a size (omega arith) (omega arith) in omega arith
  ])
]

step_of_many : (rows step : ℕ) → 1 < rows → step_between rows step ≡ step
step_of_many zero step many = absurd (omega arith)
step_of_many (suc zero) step many = absurd (omega arith)
step_of_many (suc (suc rows)) step many = refl

module _ (elem : Elem) (array buffer : ℕ) where
  long_command : (patch : Patch) (s : ℕ) → patch.from ≡ Some s → IsLong patch → HasLongRows (command_at (sides_at elem array buffer) patch s)
  long_command patch s from long many mem_is spad_is =
      let size = size_of elem in
      let some = some_bytes elem in
      let to : patch.to_step ≡ patch.cols = same_step patch.to_step patch.cols size some (sym (step_of_many patch.rows (patch.to_step * size) many) ∙ spad_is) in
      let way : patch.from_step ≡ patch.cols = same_step patch.from_step patch.cols size some (sym (step_of_many patch.rows (patch.from_step * size) many) ∙ mem_is) in
      long many to (ap (λ o. has_adjacent_sources o patch.cols patch.from_step) from ∙ eq-eqb patch.from_step patch.cols way)

  long_fill : (value : ℤ) (patch : Patch) → patch.from ≡ None → IsLong patch → HasLongFillRows (fill_at (sides_at elem array buffer) elem value patch)
  long_fill value patch from long many step_is =
      let size = size_of elem in
      let to : patch.to_step ≡ patch.cols = same_step patch.to_step patch.cols size (some_bytes elem) (sym (step_of_many patch.rows (patch.to_step * size) many) ∙ step_is) in
      long many to (ap (λ o. has_adjacent_sources o patch.cols patch.from_step) from)

  pub commands_long : (patches : List Patch) → Each HasLongRows (commands_of (sides_at elem array buffer) (map with_rows_joined patches))
  commands_long [] = tt
  commands_long (patch ∷ patches) =
      each_append HasLongRows (command_from (with_rows_joined patch).from (sides_at elem array buffer) (with_rows_joined patch)) (commands_of (sides_at elem array buffer) (map with_rows_joined patches))
      (by (with_rows_joined patch).from refl) (commands_long patches)
    where
      by : (o : Option ℕ) → (with_rows_joined patch).from ≡ o → Each HasLongRows (command_from o (sides_at elem array buffer) (with_rows_joined patch))
      by None is = tt
      by (Some s) is = (long_command (with_rows_joined patch) s is (joined_long patch), tt)

  pub fills_long : (value : ℤ) (patches : List Patch) → Each HasLongFillRows (fills_of (sides_at elem array buffer) elem value (map with_rows_joined patches))
  fills_long value [] = tt
  fills_long value (patch ∷ patches) =
      each_append HasLongFillRows (fill_from (with_rows_joined patch).from (sides_at elem array buffer) elem value (with_rows_joined patch)) (fills_of (sides_at elem array buffer) elem value (map with_rows_joined patches))
      (by (with_rows_joined patch).from refl) (fills_long value patches)
    where
      by : (o : Option ℕ) → (with_rows_joined patch).from ≡ o → Each HasLongFillRows (fill_from o (sides_at elem array buffer) elem value (with_rows_joined patch))
      by None is = (long_fill value (with_rows_joined patch) is (joined_long patch), tt)
      by (Some s) is = tt
