-- The programs that bring a leaf's piece and that take a piece to its array fit.
use Rattle.std.proofs.Common.{◌≡◌, ℕ, ◌+◌, ◌-◌, ◌*◌, ◌/◌, ◌<◌, ◌≤◌, refl, ap, subst, arith, Bool, true, false, cond}
use Rattle.std.proofs.Math.Nat.{div-le_self}
use Rattle.std.proofs.lemmas.Nat.{div-add-mod', le-div, mul-le, mul-add-lt}
use Rattle.std.proofs.lemmas.Bool.{and_from}
use Rattle.ven_base.specs.declared.mapping.Mapping.{Mapping}
use Rattle.ven_base.specs.declared.mapping.Mapping.TheVariants.{Stretch, Transpose}
use Rattle.ven_base.specs.Elem.{size_of}
use Rattle.ven_base.specs.Extent.{Extent, IsExtent, elements_of}
use Rattle.ven_base.specs.Mapping.{FitsShape, result_shape}
use Rattle.ven_base.proofs.Sources.{result_shape-IsExtent, factor_within}
use Rattle.pass_plan.specs.declared.leaf.Leaf.{Leaf}
use Rattle.pass_plan.specs.declared.split.ArrayPlace.{ArrayPlace}
use Rattle.pass_plan.specs.Sound.{end_of}
use Rattle.dma_segments.specs.Patch.{keeps_neighbours, row_pitch_of, column_pitch_of}
use Rattle.dma_segments.specs.Put.{CanRead}
use Rattle.dma_segments.proofs.Bytes.{some_bytes}
use Rattle.host_programs.specs.Expr.{Expr, Number, Offset, Sum, Difference, Product, Quotient, value, Fits}
use Rattle.host_programs.specs.ExprLaws.{Agree}
use Rattle.host_programs.specs.Program.{Program, Both, UnlessLess}
use Rattle.host_programs.specs.ProgramFits.{FitsWord, ProgramFits}
use Rattle.transfer_programs.specs.Axis.{lesser, scaled, Axis, singles_of}
use Rattle.transfer_programs.specs.ReadProgram.{SidesExpr, PieceExpr, Target, rows_axis, columns_axis, repeated_count, run_count, lines_program, crosses_program, sides_of_leaf, sides_of_array, whole_expr}
use Rattle.transfer_programs.specs.ReadLaws.{piece_value, ReadsBelow}
use Rattle.transfer_programs.specs.FitLaws.{ReadWords, ReadsFit, WritesFit}
use Rattle.host_programs.proofs.Exprs.{below_more}
use Rattle.transfer_programs.proofs.Axes.{value_agree, value_lesser, value_scaled, below_scaled}
use Rattle.transfer_programs.proofs.Patches.{SidesBelow}
use Rattle.transfer_programs.proofs.FitExprs.{word_agree, word_lesser, word_quotient, fits_scaled}
use Rattle.transfer_programs.proofs.FitAxes.{agree_back, AxisFits, fits_singles}
use Rattle.transfer_programs.proofs.FitMaps.{row_sources, column_sources, rows_fit, columns_fit}
use Rattle.transfer_programs.proofs.FitPatches.{SidesFit, HasCorners, patch_fits, lines_fit, crosses_fit}

-- ---- how many runs

-- the expression fits, and its value is at most this
abbrev FewRuns : Expr → (most : ℕ) → (f : ℕ → ℕ) → Type 0
FewRuns e most f = FitsWord e f × (value e f ≤ most)

repeated_few : (k : ℕ) (start n : Expr) (f : ℕ → ℕ) → FitsWord start f → FitsWord n f → 0 < k → k ≤ 1048576 → 1 ≤ value n f → value start f + value n f ≤ 1048576 → FewRuns (repeated_count k start n) (value n f) f
repeated_few k start n f start_word n_word some small any few =
    let s = value start f in
    let m = value n f in
    let last = Quotient (Difference (Sum start n) (Number 1)) (Number k) in
    let first = Quotient start (Number k) in
    let blocks = Difference (Offset last 1) first in
    let less_k : s / k ≤ (s + m - 1) / k = le-div (s / k) (s + m - 1) k some (omega (arith, div-add-mod' s k, any)) in
    let last_fits : Fits last f = (((start_word.0, n_word.0), tt, omega (arith, any)), tt, omega (arith, few), some, omega (arith, small)) in
    let first_word = word_quotient start k f start_word some (omega (arith, small)) in
    let blocks_word : FitsWord blocks f = ((last_fits, first_word.0, omega (arith, less_k)), omega (arith, div-le_self (s + m - 1) k, few)) in
    let phases_word = word_lesser (Number k) n f (tt, omega (arith, small)) n_word in
    let e_phases = value_lesser (Number k) n f in
    (word_lesser (lesser (Number k) n) blocks f phases_word blocks_word, omega (arith, value_lesser (lesser (Number k) n) blocks f, e_phases))

-- a factor of a stretch is no greater than all elements
factor_small : (a b ka kb : ℕ) → 1 ≤ a → 1 ≤ b → 1 ≤ kb → (a * ka) * (b * kb) ≤ 1048576 → ka ≤ 1048576
factor_small a b ka kb some_a some_b some_kb small =
    let l = mul-le 1 1 b kb some_b some_kb in
    let whole : a * ka ≤ 1048576 = factor_within (a * ka) (b * kb) 1048576 (omega (arith, l)) small in
    factor_within ka a 1048576 some_a (omega (arith, whole))

module _ (shape : Extent) (is_extent : IsExtent shape) (start n : Expr) (f : ℕ → ℕ) (start_word : FitsWord start f) (n_word : FitsWord n f) (any : 1 ≤ value n f) (few : value start f + value n f ≤ 1048576) where
  rows_few : (mapping : Mapping) → FitsShape mapping shape → FewRuns (run_count mapping start n true) (value n f) f
  rows_few (Stretch kr kc) fits = repeated_few kr start n f start_word n_word fits.some_rows (factor_small shape.rows shape.cols kr kc is_extent.some_rows is_extent.some_cols fits.some_cols fits.within) any few
  rows_few _ fits = ((tt, omega arith), any)

  columns_few : (mapping : Mapping) → FitsShape mapping shape → FewRuns (run_count mapping start n false) (value n f) f
  columns_few (Stretch kr kc) fits =
      repeated_few kc start n f start_word n_word fits.some_cols (factor_small shape.cols shape.rows kc kr is_extent.some_cols is_extent.some_rows fits.some_rows (omega (arith, fits.within))) any few
  columns_few _ fits = ((tt, omega arith), any)

-- ---- a leaf's piece

corners_of : (mapping : Mapping) (shape : Extent) (y x : ℕ) → y < row_sources mapping shape → x < column_sources mapping shape → y * row_pitch_of mapping shape + x * column_pitch_of mapping shape < elements_of shape
corners_of Transpose shape y x row column = omega (arith, mul-add-lt x shape.cols y shape.rows column row)
corners_of _ shape y x row column = omega (arith, mul-add-lt y shape.cols x shape.rows row column)

module _ (leaf : Leaf) (from : ArrayPlace) (piece : PieceExpr) (target : Target) (d : ℕ) (f : ℕ → ℕ) (is_extent : IsExtent leaf.shape) (can : CanRead leaf from (piece_value piece f) (value target.buffer f)) (low : ReadsBelow piece target d) (words : ReadWords piece target f) where
  abbrev shape : Extent
  shape = leaf.shape

  abbrev h : ℕ
  h = value piece.h f

  abbrev w : ℕ
  w = value piece.w f

  abbrev s : SidesExpr
  s = sides_of_leaf leaf from target.buffer piece.w target.tag

  abbrev rows : Axis
  rows = rows_axis leaf.map shape piece.r0 piece.h

  abbrev columns : Axis
  columns = columns_axis leaf.map shape piece.c0 piece.w

  domain_is : IsExtent (result_shape leaf.map shape)
  domain_is = result_shape-IsExtent leaf.map shape is_extent can.fits

  rows_small : value piece.r0 f + h ≤ 1048576
  rows_small = omega (arith, can.inside.rows_inside, factor_within (result_shape leaf.map shape).rows (result_shape leaf.map shape).cols 1048576 domain_is.some_cols domain_is.within)

  cols_small : value piece.c0 f + w ≤ 1048576
  cols_small =
      omega (arith, can.inside.cols_inside, factor_within (result_shape leaf.map shape).cols (result_shape leaf.map shape).rows 1048576 domain_is.some_rows (omega (arith, domain_is.within)))

  area_small : h * w ≤ 1048576
  area_small =
      let l = mul-le h w (result_shape leaf.map shape).rows (result_shape leaf.map shape).cols (omega (arith, can.inside.rows_inside)) (omega (arith, can.inside.cols_inside)) in
      omega (arith, l, domain_is.within)

  fits_r : AxisFits rows h (row_sources leaf.map shape) d f
  fits_r = rows_fit shape is_extent piece.r0 piece.h d f (record { low_start = low.r0; low_n = low.h; start_word = words.r0; n_word = words.h; some = can.inside.some_rows }) leaf.map can.fits can.inside.rows_inside

  fits_c : (k : ℕ) (g : ℕ → ℕ) → d ≤ k → Agree d g f → AxisFits columns w (column_sources leaf.map shape) k g
  fits_c k g le same =
      let back = agree_back d g f same in
      let e_c = value_agree piece.c0 d g f same low.c0 in
      let e_w = value_agree piece.w d g f same low.w in
      subst (λ m. AxisFits columns m (column_sources leaf.map shape) k g) e_w (columns_fit shape is_extent piece.c0 piece.w k g (record {
        low_start = below_more piece.c0 d k le low.c0;
        low_n = below_more piece.w d k le low.w;
        start_word = word_agree piece.c0 d f g back low.c0 words.c0;
        n_word = word_agree piece.w d f g back low.w words.w;
        some = omega (arith, e_w, can.inside.some_cols);
      }) leaf.map can.fits (omega (arith, e_c, e_w, can.inside.cols_inside)))

  low_sides : SidesBelow s d
  low_sides = record { buffer = low.buffer; width = low.w; tag = low.tag }

  sides : SidesFit s (h * w) (elements_of shape) f
  sides = record {
    some_bytes = some_bytes leaf.elem;
    buffer = words.buffer.0;
    width = words.w;
    tag = words.tag;
    in_cells = omega (arith, can.in_cells);
    in_memory =
        let size : end_of from ≡ from.place + elements_of from.shape * size_of leaf.elem = ap (λ e. from.place + elements_of from.shape * size_of e) can.elem_is in
        let many : elements_of from.shape * size_of leaf.elem ≡ elements_of shape * size_of leaf.elem = ap (λ m. m * size_of leaf.elem) can.as_many in
        omega (arith, size, many, can.in_memory);
  }

  corners : HasCorners s (row_sources leaf.map shape) (column_sources leaf.map shape) (elements_of shape)
  corners = corners_of leaf.map shape

  by_lines : ProgramFits (lines_program s rows columns d) d f
  by_lines = lines_fit s h w (row_sources leaf.map shape) (column_sources leaf.map shape) (elements_of shape) corners rows columns d f low_sides sides refl fits_r fits_c

  by_single_lines : ProgramFits (lines_program s rows (singles_of columns) d) d f
  by_single_lines =
      lines_fit s h w (row_sources leaf.map shape) (column_sources leaf.map shape) (elements_of shape) corners rows (singles_of columns) d f low_sides sides refl fits_r
      (λ k g le same. fits_singles w (column_sources leaf.map shape) words.w.1 columns k g (fits_c k g le same))

  by_crosses : ProgramFits (crosses_program s (singles_of rows) columns d) d f
  by_crosses =
      crosses_fit s h w (row_sources leaf.map shape) (column_sources leaf.map shape) (elements_of shape) corners (singles_of rows) columns d f low_sides sides refl
      (fits_singles h (row_sources leaf.map shape) words.h.1 rows d f fits_r) fits_c

  abbrev by_rows : Expr
  by_rows = Product piece.h (run_count leaf.map piece.c0 piece.w false)

  abbrev by_columns : Expr
  by_columns = Product (run_count leaf.map piece.r0 piece.h true) piece.w

  by_rows_word : FewRuns by_rows (h * w) f
  by_rows_word =
      let few = columns_few shape is_extent piece.c0 piece.w f words.c0 words.w can.inside.some_cols cols_small leaf.map can.fits in
      let l = mul-le h (value (run_count leaf.map piece.c0 piece.w false) f) h w (omega arith) few.1 in
      (((words.h.0, few.0.0), omega (arith, l, area_small)), l)

  by_columns_word : FewRuns by_columns (h * w) f
  by_columns_word =
      let few = rows_few shape is_extent piece.r0 piece.h f words.r0 words.h can.inside.some_rows rows_small leaf.map can.fits in
      let l = mul-le (value (run_count leaf.map piece.r0 piece.h true) f) w h w few.1 (omega arith) in
      (((few.0.0, words.w.0), omega (arith, l, area_small)), l)

  abbrev singly : Program
  singly = Both (UnlessLess by_columns by_rows (crosses_program s (singles_of rows) columns d)) (UnlessLess by_rows (Offset by_columns 1) (lines_program s rows (singles_of columns) d))

  piece_fits : (keeps : Bool) → ProgramFits (cond keeps (lines_program s rows columns d) singly) d f
  piece_fits true = by_lines
  piece_fits false =
      ((by_columns_word.0, by_rows_word.0, λ e. by_crosses), (by_rows_word.0, (by_columns_word.0.0, omega (arith, by_columns_word.1, area_small)), λ e. by_single_lines))

pub reads_fit : ReadsFit
reads_fit leaf from piece target d f is_extent can low words = piece_fits leaf from piece target d f is_extent can low words (keeps_neighbours leaf.map)

-- ---- a piece of a result

pub writes_fit : WritesFit
writes_fit to piece target d f can low words =
    let at = piece_value piece f in
    let size = size_of to.elem in
    let s = sides_of_array to target.buffer piece.w target.tag in
    let elements = elements_of to.shape in
    let first_is : value (scaled piece.r0 to.shape.cols) f ≡ at.r0 * to.shape.cols = value_scaled piece.r0 to.shape.cols f in
    let corner = mul-add-lt at.r0 to.shape.cols at.c0 to.shape.rows (omega (arith, can.inside.rows_inside, can.inside.some_rows)) (omega (arith, can.inside.cols_inside, can.inside.some_cols)) in
    let row = mul-le 1 to.shape.cols to.shape.rows to.shape.cols (omega (arith, can.inside.rows_inside, can.inside.some_rows)) (omega arith) in
    let wide = mul-le 1 at.w at.h at.w can.inside.some_rows (omega arith) in
    let high = mul-le at.h 1 at.h at.w (omega arith) can.inside.some_cols in
    patch_fits true s (whole_expr to.shape piece) (at.h * at.w) elements d f (record { buffer = low.buffer; width = low.w; tag = low.tag }) (record {
      rows = low.h;
      cols = low.w;
      to = refl;
      to_step = low.w;
      from = and_from _ _ (below_scaled piece.r0 to.shape.cols d low.r0) low.c0;
      from_step = refl;
    }) (record { some_bytes = some_bytes to.elem; buffer = words.buffer.0; width = words.w; tag = words.tag; in_cells = omega (arith, can.in_cells); in_memory = omega (arith, can.in_memory) }) (record {
      rows = words.h.0;
      cols = words.w.0;
      to = tt;
      to_step = words.w.0;
      from = (fits_scaled piece.r0 to.shape.cols f words.r0.0, words.c0.0);
      from_step = tt;
    }) (record {
      area = omega arith;
      few_rows = omega (arith, high);
      few_cols = omega (arith, wide);
      to_less = omega (arith, wide, can.inside.some_cols);
      to_step_few = λ many. omega (arith, wide);
      from_less = omega (arith, first_is, corner);
      from_step_few = λ many. omega (arith, row);
    })
