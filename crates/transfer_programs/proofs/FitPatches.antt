-- The programs of patches fit, and those of rows times columns.
use Rattle.std.proofs.Common.{◌≡◌, ℕ, ◌+◌, ◌*◌, ◌<◌, ◌≤◌, ap, ◌∙◌, arith, Bool, true, false}
use Rattle.std.proofs.lemmas.Bool.{ne_eqb}
use Rattle.std.proofs.lemmas.Nat.{mul-le, mul-add-lt}
use Rattle.venice_isa.specs.Host.{with_number}
use Rattle.host_programs.specs.Expr.{Expr, Number, Variable, Product, IfLess, value, Fits, is_below}
use Rattle.host_programs.specs.ExprLaws.{Agree}
use Rattle.host_programs.specs.ProgramFits.{FitsWord, ProgramFits}
use Rattle.transfer_programs.specs.Axis.{RunExpr, scaled, times, plus, Axis}
use Rattle.transfer_programs.specs.SourcedRuns.{SourcedRun}
use Rattle.transfer_programs.specs.ReadProgram.{SidesExpr, PatchExpr, line_expr, cross_expr, is_joined, patch_program, lines_program, crosses_program}
use Rattle.host_programs.proofs.Blocks.{with_same, with_other}
use Rattle.transfer_programs.proofs.Axes.{value_agree, agree_new, agree_then, value_scaled, value_times, value_plus, run_later}
use Rattle.transfer_programs.proofs.Patches.{SidesBelow, sides_later}
use Rattle.transfer_programs.proofs.Closed.{PatchBelow, line_low, cross_low}
use Rattle.transfer_programs.proofs.FitExprs.{fits_agree, word_agree, fits_scaled, fits_times, fits_plus, fits_choice, choice_value}
use Rattle.transfer_programs.proofs.FitAxes.{run_agree, agree_back, RunOf, AxisFits}

-- ---- one patch

pub record PatchFits (p : PatchExpr) (f : ℕ → ℕ) : Type 0 where
  pub rows : Fits p.rows f
  pub cols : Fits p.cols f
  pub to : Fits p.to f
  pub to_step : Fits p.to_step f
  pub from : Fits p.from f
  pub from_step : Fits p.from_step f

-- the patch's elements lie among the n elements of a piece, and come from an array of so many
pub record PatchInside (n elements rows cols to to_step from from_step : ℕ) : Type 0 where
  pub area : rows * cols ≤ n
  pub few_rows : rows ≤ n
  pub few_cols : cols ≤ n
  pub to_less : to < n
  pub to_step_few : 2 ≤ rows → to_step ≤ n
  pub from_less : from < elements
  pub from_step_few : 2 ≤ rows → from_step ≤ elements

abbrev pub IsPatchInside : (n elements : ℕ) → PatchExpr → (f : ℕ → ℕ) → Type 0
IsPatchInside n elements p f = PatchInside n elements (value p.rows f) (value p.cols f) (value p.to f) (value p.to_step f) (value p.from f) (value p.from_step f)

-- a buffer of n elements and an array of so many end below 2 to the 32
pub record SidesFit (s : SidesExpr) (n elements : ℕ) (f : ℕ → ℕ) : Type 0 where
  pub some_bytes : 1 ≤ s.size
  pub buffer : Fits s.buffer f
  pub width : FitsWord s.width f
  pub tag : FitsWord s.tag f
  pub in_cells : value s.buffer f + n * s.size < 4294967296
  pub in_memory : s.array + elements * s.size < 4294967296

pub sides_agree : (s : SidesExpr) (n elements d : ℕ) (f g : ℕ → ℕ) → Agree d f g → SidesBelow s d → SidesFit s n elements f → SidesFit s n elements g
sides_agree s n elements d f g same low fit = record {
  some_bytes = fit.some_bytes;
  buffer = fits_agree s.buffer d f g same low.buffer fit.buffer;
  width = word_agree s.width d f g same low.width fit.width;
  tag = word_agree s.tag d f g same low.tag fit.tag;
  in_cells = omega (arith, value_agree s.buffer d f g same low.buffer, fit.in_cells);
  in_memory = fit.in_memory;
}

-- 0 where a is below b
zero_fits : (a b y : Expr) (f : ℕ → ℕ) → FitsWord a f → FitsWord b f → Fits y f → Fits (IfLess a b (Number 0) y) f
zero_fits a b y f fit_a fit_b fit_y = fits_choice a b (Number 0) y f fit_a fit_b (λ l. tt) (λ l. fit_y)

zero_small : (a b y : Expr) (f : ℕ → ℕ) → value y f ≤ 1 → value (IfLess a b (Number 0) y) f ≤ 1
zero_small a b y f small = choice_value a b (Number 0) y f (λ m. m ≤ 1) (λ l. omega arith) (λ l. small)

module _ (write : Bool) (s : SidesExpr) (p : PatchExpr) (n elements d : ℕ) (f : ℕ → ℕ) (low_sides : SidesBelow s d) (low : PatchBelow p d) (sides : SidesFit s n elements f) (fit : PatchFits p f) (inside : IsPatchInside n elements p f) where
  bytes_few : n ≤ n * s.size
  bytes_few = omega (arith, mul-le n 1 n s.size (omega arith) sides.some_bytes)

  elements_few : elements ≤ elements * s.size
  elements_few = omega (arith, mul-le elements 1 elements s.size (omega arith) sides.some_bytes)

  many_words : 2 ≤ value p.rows f → FitsWord p.to_step f × FitsWord p.cols f × FitsWord p.from_step f
  many_words many = (
    (fit.to_step, omega (arith, inside.to_step_few many, bytes_few, sides.in_cells)),
    (fit.cols, omega (arith, inside.few_cols, bytes_few, sides.in_cells)),
    (fit.from_step, omega (arith, inside.from_step_few many, elements_few, sides.in_memory)),
  )

  rows_word : FitsWord p.rows f
  rows_word = (fit.rows, omega (arith, inside.few_rows, bytes_few, sides.in_cells))

  -- ---- whether its rows are one

  abbrev last : Expr
  last = IfLess p.cols p.from_step (Number 0) (Number 1)

  abbrev third : Expr
  third = IfLess p.from_step p.cols (Number 0) last

  abbrev second : Expr
  second = IfLess p.cols p.to_step (Number 0) third

  abbrev chain : Expr
  chain = IfLess p.to_step p.cols (Number 0) second

  chain_fits : FitsWord p.to_step f → FitsWord p.cols f → FitsWord p.from_step f → Fits chain f
  chain_fits to_step cols from_step =
      zero_fits p.to_step p.cols second f to_step cols (zero_fits p.cols p.to_step third f cols to_step
      (zero_fits p.from_step p.cols last f from_step cols (zero_fits p.cols p.from_step (Number 1) f cols from_step tt)))

  chain_small : value chain f ≤ 1
  chain_small =
      zero_small p.to_step p.cols second f (zero_small p.cols p.to_step third f (zero_small p.from_step p.cols last f (zero_small p.cols p.from_step (Number 1) f (omega arith))))

  joined_word : FitsWord (is_joined p) f
  joined_word = (
    fits_choice p.rows (Number 2) (Number 0) chain f rows_word (tt, omega arith) (λ l. tt) (λ many. let w = many_words many in chain_fits w.0 w.1 w.2),
    omega (arith, zero_small p.rows (Number 2) chain f chain_small),
  )

  -- ---- the registers

  abbrev f1 : ℕ → ℕ
  f1 = with_number d (value (is_joined p) f) f

  abbrev rows_expr : Expr
  rows_expr = IfLess (Variable d) (Number 1) p.rows (Number 1)

  abbrev f2 : ℕ → ℕ
  f2 = with_number (d + 1) (value rows_expr f1) f1

  abbrev cols_expr : Expr
  cols_expr = IfLess (Variable d) (Number 1) p.cols (Product p.rows p.cols)

  abbrev f3 : ℕ → ℕ
  f3 = with_number (d + 1 + 1) (value cols_expr f2) f2

  a1 : Agree d f1 f
  a1 = agree_new d d (value (is_joined p) f) f (omega arith)

  a2 : Agree d f2 f
  a2 = agree_then d (d + 1) f f1 f2 (omega arith) (agree_new (d + 1) (d + 1) (value rows_expr f1) f1 (omega arith)) a1

  a3 : Agree d f3 f
  a3 = agree_then d (d + 1 + 1) f f2 f3 (omega arith) (agree_new (d + 1 + 1) (d + 1 + 1) (value cols_expr f2) f2 (omega arith)) a2

  at_flag : f1 d ≡ value (is_joined p) f
  at_flag = with_same f d (value (is_joined p) f)

  flag_later : f2 d ≡ value (is_joined p) f
  flag_later = with_other f1 (d + 1) (value rows_expr f1) d (ne_eqb d (d + 1) (λ e. omega (arith, e))) ∙ at_flag

  rows_now : value rows_expr f1 ≤ value p.rows f + 1
  rows_now = choice_value (Variable d) (Number 1) p.rows (Number 1) f1 (λ m. m ≤ value p.rows f + 1) (λ l. omega (arith, value_agree p.rows d f1 f a1 low.rows)) (λ l. omega arith)

  -- where it has two rows now it had
  rows_many : 2 ≤ value rows_expr f1 → 2 ≤ value p.rows f
  rows_many = choice_value (Variable d) (Number 1) p.rows (Number 1) f1 (λ m. 2 ≤ m → 2 ≤ value p.rows f) (λ l many. omega (arith, many, value_agree p.rows d f1 f a1 low.rows)) (λ l many. absurd (omega (arith, many)))

  rows_small : value rows_expr f1 < 4294967296
  rows_small = choice_value (Variable d) (Number 1) p.rows (Number 1) f1 (λ m. m < 4294967296) (λ l. omega (arith, value_agree p.rows d f1 f a1 low.rows, rows_word.1)) (λ l. omega arith)

  cols_now : value cols_expr f2 ≤ n
  cols_now =
      let e_rows = value_agree p.rows d f2 f a2 low.rows in
      let e_cols = value_agree p.cols d f2 f a2 low.cols in
      let e_area : value p.rows f2 * value p.cols f2 ≡ value p.rows f * value p.cols f = ap (λ m. m * value p.cols f2) e_rows ∙ ap (λ m. value p.rows f * m) e_cols in
      choice_value (Variable d) (Number 1) p.cols (Product p.rows p.cols) f2 (λ m. m ≤ n) (λ l. omega (arith, e_cols, inside.few_cols)) (λ l. omega (arith, e_area, inside.area))

  cols_bytes : value cols_expr f2 * s.size ≤ n * s.size
  cols_bytes = mul-le (value cols_expr f2) s.size n s.size cols_now (omega arith)

  at_rows : f3 (d + 1) ≡ value rows_expr f1
  at_rows = with_other f2 (d + 1 + 1) (value cols_expr f2) (d + 1) (ne_eqb (d + 1) (d + 1 + 1) (λ e. omega (arith, e))) ∙ with_same f1 (d + 1) (value rows_expr f1)

  at_cols : f3 (d + 1 + 1) ≡ value cols_expr f2
  at_cols = with_same f2 (d + 1 + 1) (value cols_expr f2)

  -- ---- its parameters

  scaled_word : (e : Expr) (m : ℕ) → Fits e f3 → value e f3 ≤ m → m * s.size < 4294967296 → FitsWord (scaled e s.size) f3
  scaled_word e m fit_e few small = (fits_scaled e s.size f3 fit_e, omega (arith, value_scaled e s.size f3, mul-le (value e f3) s.size m s.size few (omega arith), small))

  step_word : (e : Expr) (m : ℕ) → Fits e f3 → (2 ≤ value p.rows f → value e f3 ≤ m) → m * s.size < 4294967296 → FitsWord (IfLess (Variable (d + 1)) (Number 2) (Number 0) (scaled e s.size)) f3
  step_word e m fit_e few small =
      let word : 2 ≤ f3 (d + 1) → FitsWord (scaled e s.size) f3 = λ many. scaled_word e m fit_e (few (rows_many (omega (arith, at_rows, many)))) small in (
        fits_choice (Variable (d + 1)) (Number 2) (Number 0) (scaled e s.size) f3 (tt, omega (arith, at_rows, rows_small)) (tt, omega arith) (λ l. tt) (λ many. (word many).0),
        choice_value (Variable (d + 1)) (Number 2) (Number 0) (scaled e s.size) f3 (λ x. x < 4294967296) (λ l. omega arith) (λ many. (word many).1),
      )

  pub patch_fits : ProgramFits (patch_program write s p d) d f
  patch_fits =
      let back1 = agree_back d f1 f a1 in
      let back2 = agree_back d f2 f a2 in
      let back3 = agree_back d f3 f a3 in
      let later : (e : Expr) → is_below e d ≡ true → Fits e f → Fits e f3 = λ e h fit_e. fits_agree e d f f3 back3 h fit_e in
      let same : (e : Expr) → is_below e d ≡ true → value e f3 ≡ value e f = λ e h. value_agree e d f3 f a3 h in
      let sides3 = sides_agree s n elements d f f3 back3 low_sides sides in
      let from_bytes = mul-le (value p.from f + 1) s.size elements s.size (omega (arith, inside.from_less)) (omega arith) in
      let to_bytes = mul-le (value p.to f + 1) s.size n s.size (omega (arith, inside.to_less)) (omega arith) in
      let from_value : value (scaled p.from s.size) f3 ≡ value p.from f * s.size = value_scaled p.from s.size f3 ∙ ap (λ m. m * s.size) (same p.from low.from) in
      let to_value : value (scaled p.to s.size) f3 ≡ value p.to f * s.size = value_scaled p.to s.size f3 ∙ ap (λ m. m * s.size) (same p.to low.to) in
      let rows_fit = fits_choice (Variable d) (Number 1) p.rows (Number 1) f1 (tt, omega (arith, at_flag, joined_word.1)) (tt, omega arith) (λ l. fits_agree p.rows d f f1 back1 low.rows fit.rows) (λ l. tt) in
      let cols2 = fits_agree p.cols d f f2 back2 low.cols fit.cols in
      let cols_fit = fits_choice (Variable d) (Number 1) p.cols (Product p.rows p.cols) f2 (tt, omega (arith, flag_later, joined_word.1)) (tt, omega arith) (λ l. cols2) (λ l. (fits_agree p.rows d f f2 back2 low.rows fit.rows, cols2)) in (
        joined_word,
        (
          (rows_fit, rows_small),
          (
            (cols_fit, omega (arith, cols_now, bytes_few, sides.in_cells)),
            record {
              mem = (fits_scaled p.from s.size f3 (later p.from low.from fit.from), omega (arith, from_value, from_bytes, sides.in_memory));
              spad = ((sides3.buffer, fits_scaled p.to s.size f3 (later p.to low.to fit.to)), omega (arith, to_value, to_bytes, sides3.in_cells));
              rows = (tt, omega (arith, at_rows, rows_small));
              bytes = scaled_word (Variable (d + 1 + 1)) n tt (omega (arith, at_cols, cols_now)) (omega (arith, sides.in_cells));
              mem_step = step_word p.from_step elements (later p.from_step low.from_step fit.from_step) (λ many. omega (arith, same p.from_step low.from_step, inside.from_step_few many)) (omega (arith, sides.in_memory));
              spad_step = step_word p.to_step n (later p.to_step low.to_step fit.to_step) (λ many. omega (arith, same p.to_step low.to_step, inside.to_step_few many)) (omega (arith, sides.in_cells));
              tag = sides3.tag;
            },
          ),
        ),
      )

-- ---- a line and a cross

-- the source of each row and column of the sources is an element
abbrev pub HasCorners : SidesExpr → (row_sources column_sources elements : ℕ) → Type 0
HasCorners s row_sources column_sources elements = (y x : ℕ) → y < row_sources → x < column_sources → y * s.row_pitch + x * s.column_pitch < elements

module _ (s : SidesExpr) (h w row_sources column_sources elements : ℕ) (corners : HasCorners s row_sources column_sources elements) (a b : RunExpr) (k : ℕ) (g : ℕ → ℕ) (va vb : SourcedRun)
    (of_a : RunOf h row_sources a k g va) (of_b : RunOf w column_sources b k g vb) (width_is : value s.width g ≡ w) (fit_width : Fits s.width g) where
  to_is : value (plus (times a.first s.width) b.first) g ≡ va.first * w + vb.first
  to_is =
      let e0 : value a.first g ≡ va.first = ap (λ (v : SourcedRun). v.first) of_a.is.values in
      let e1 : value b.first g ≡ vb.first = ap (λ (v : SourcedRun). v.first) of_b.is.values in
      value_plus (times a.first s.width) b.first g ∙ ap (λ m. m + value b.first g) (value_times a.first s.width g) ∙ ap (λ m. m * value s.width g + value b.first g) e0
      ∙ ap (λ m. va.first * m + value b.first g) width_is ∙ ap (λ m. va.first * w + m) e1

  to_less : va.first * w + vb.first < h * w
  to_less =
      let row = of_a.inside.places 0 of_a.inside.some in
      let column = of_b.inside.places 0 of_b.inside.some in
      omega (arith, mul-add-lt va.first w vb.first h (omega (arith, row)) (omega (arith, column)))

  from_is : value (scaled a.source s.row_pitch) g + value (scaled b.source s.column_pitch) g ≡ va.source * s.row_pitch + vb.source * s.column_pitch
  from_is =
      let e0 : value a.source g ≡ va.source = ap (λ (v : SourcedRun). v.source) of_a.is.values in
      let e1 : value b.source g ≡ vb.source = ap (λ (v : SourcedRun). v.source) of_b.is.values in
      ap (λ m. m + value (scaled b.source s.column_pitch) g) (value_scaled a.source s.row_pitch g ∙ ap (λ m. m * s.row_pitch) e0) ∙ ap (λ m. va.source * s.row_pitch + m) (value_scaled b.source s.column_pitch g ∙ ap (λ m. m * s.column_pitch) e1)

  row_source : va.source < row_sources
  row_source = omega (arith, of_a.inside.sources 0 of_a.inside.some)

  column_source : vb.source < column_sources
  column_source = omega (arith, of_b.inside.sources 0 of_b.inside.some)

  some_area : (h ≤ h * w) × (w ≤ h * w)
  some_area =
      let row = of_a.inside.places 0 of_a.inside.some in
      let column = of_b.inside.places 0 of_b.inside.some in
      (omega (arith, mul-le h 1 h w (omega arith) (omega (arith, column))), omega (arith, mul-le 1 w h w (omega (arith, row)) (omega arith)))

  rows_are : value a.count g ≡ va.count
  rows_are = ap (λ (v : SourcedRun). v.count) of_a.is.values

  columns_are : value b.count g ≡ vb.count
  columns_are = ap (λ (v : SourcedRun). v.count) of_b.is.values

  line_inside : IsPatchInside (h * w) elements (line_expr s a b) g
  line_inside =
      let area : value a.count g * value b.count g ≡ va.count * vb.count = ap (λ m. m * value b.count g) rows_are ∙ ap (λ m. va.count * m) columns_are in
      let step_is : value (times a.step s.width) g ≡ va.step * w = value_times a.step s.width g ∙ ap (λ m. m * value s.width g) (ap (λ (v : SourcedRun). v.step) of_a.is.values) ∙ ap (λ m. va.step * m) width_is in
      let from_step_is : value (scaled a.source_step s.row_pitch) g ≡ va.source_step * s.row_pitch = value_scaled a.source_step s.row_pitch g ∙ ap (λ m. m * s.row_pitch) (ap (λ (v : SourcedRun). v.source_step) of_a.is.values) in
      record {
        area = omega (arith, area, mul-le va.count vb.count h w of_a.inside.few of_b.inside.few);
        few_rows = omega (arith, rows_are, of_a.inside.few, some_area);
        few_cols = omega (arith, columns_are, of_b.inside.few, some_area);
        to_less = omega (arith, to_is, to_less);
        to_step_few = λ many.
            let place = of_a.inside.places 1 (omega (arith, many, rows_are)) in
            let l = mul-le va.step w h w (omega (arith, place)) (omega arith) in
            omega (arith, l, step_is);
        from_less = omega (arith, from_is, corners va.source vb.source row_source column_source);
        from_step_few = λ many.
            let place = of_a.inside.sources 1 (omega (arith, many, rows_are)) in
            let l = corners (va.source + va.source_step) vb.source (omega (arith, place)) column_source in
            omega (arith, l, from_step_is);
      }

  line_fits : PatchFits (line_expr s a b) g
  line_fits = record {
    rows = of_a.fits.count;
    cols = of_b.fits.count;
    to = fits_plus (times a.first s.width) b.first g (fits_times a.first s.width g of_a.fits.first fit_width) of_b.fits.first;
    to_step = fits_times a.step s.width g of_a.fits.step fit_width;
    from = (fits_scaled a.source s.row_pitch g of_a.fits.source, fits_scaled b.source s.column_pitch g of_b.fits.source);
    from_step = fits_scaled a.source_step s.row_pitch g of_a.fits.source_step;
  }

  cross_inside : IsPatchInside (h * w) elements (cross_expr s a b) g
  cross_inside =
      let step_is : value b.step g ≡ vb.step = ap (λ (v : SourcedRun). v.step) of_b.is.values in
      let from_step_is : value (scaled b.source_step s.column_pitch) g ≡ vb.source_step * s.column_pitch =
      value_scaled b.source_step s.column_pitch g ∙ ap (λ m. m * s.column_pitch) (ap (λ (v : SourcedRun). v.source_step) of_b.is.values) in
      let column = of_b.inside.places 0 of_b.inside.some in
      record {
        area = omega (arith, columns_are, of_b.inside.few, some_area);
        few_rows = omega (arith, columns_are, of_b.inside.few, some_area);
        few_cols = omega (arith, some_area, column);
        to_less = omega (arith, to_is, to_less);
        to_step_few = λ many. omega (arith, of_b.inside.places 1 (omega (arith, many, columns_are)), step_is, some_area);
        from_less = omega (arith, from_is, corners va.source vb.source row_source column_source);
        from_step_few = λ many.
            let place = of_b.inside.sources 1 (omega (arith, many, columns_are)) in
            let l = corners va.source (vb.source + vb.source_step) row_source (omega (arith, place)) in
            omega (arith, l, from_step_is);
      }

  cross_fits : PatchFits (cross_expr s a b) g
  cross_fits = record {
    rows = of_b.fits.count;
    cols = tt;
    to = fits_plus (times a.first s.width) b.first g (fits_times a.first s.width g of_a.fits.first fit_width) of_b.fits.first;
    to_step = of_b.fits.step;
    from = (fits_scaled a.source s.row_pitch g of_a.fits.source, fits_scaled b.source s.column_pitch g of_b.fits.source);
    from_step = fits_scaled b.source_step s.column_pitch g of_b.fits.source_step;
  }

-- ---- rows times columns

run_of_later : (n size : ℕ) (run : RunExpr) (d k : ℕ) (f g : ℕ → ℕ) (v : SourcedRun) → d ≤ k → Agree d g f → RunOf n size run d f v → RunOf n size run k g v
run_of_later n size run d k f g v le same of = record { is = run_later run d k f g v le same of.is; fits = run_agree run d f g (agree_back d g f same) of.is.below of.fits; inside = of.inside }

module _ (s : SidesExpr) (h w row_sources column_sources elements : ℕ) (corners : HasCorners s row_sources column_sources elements) (rows columns : Axis) (d : ℕ) (f : ℕ → ℕ)
    (low : SidesBelow s d) (sides : SidesFit s (h * w) elements f) (width_is : value s.width f ≡ w) (fits_r : AxisFits rows h row_sources d f) (fits_c : (k : ℕ) (g : ℕ → ℕ) → d ≤ k → Agree d g f → AxisFits columns w column_sources k g) where
  -- what is done with a run of rows and one of columns fits
  abbrev PairFits : (made : RunExpr → RunExpr → PatchExpr) → Type 0
  PairFits made = (k : ℕ) (g : ℕ → ℕ) (a b : RunExpr) (va vb : SourcedRun) → d ≤ k → Agree d g f → RunOf h row_sources a k g va → RunOf w column_sources b k g vb → ProgramFits (patch_program false s (made a b) k) k g

  pairs_fit : (made : RunExpr → RunExpr → PatchExpr) → PairFits made → ProgramFits (rows d (λ k a. columns k (λ l b. patch_program false s (made a b) l))) d f
  pairs_fit made pair = fits_r.fits (λ k a. columns k (λ l b. patch_program false s (made a b) l)) (record {
    fits = λ k g a va le same of_a. (fits_c k g le same).fits (λ l b. patch_program false s (made a b) l) (record {
      fits = λ l g' b vb more agree of_b. pair l g' a b va vb (omega (arith, le, more)) (agree_then d k f g g' le agree same) (run_of_later h row_sources a k l g g' va more agree of_a) of_b;
    });
  })

  sides_there : (k : ℕ) (g : ℕ → ℕ) → Agree d g f → SidesFit s (h * w) elements g
  sides_there k g same = sides_agree s (h * w) elements d f g (agree_back d g f same) low sides

  pub lines_fit : ProgramFits (lines_program s rows columns d) d f
  lines_fit = pairs_fit (line_expr s) (λ k g a b va vb le same of_a of_b.
      let there = sides_there k g same in
      let width = value_agree s.width d g f same low.width ∙ width_is in
      let low_k = sides_later s d k le low in
      patch_fits false s (line_expr s a b) (h * w) elements k g low_k (line_low s a b k low_k of_a.is.below of_b.is.below) there
      (line_fits s h w row_sources column_sources elements corners a b k g va vb of_a of_b width there.width.0)
      (line_inside s h w row_sources column_sources elements corners a b k g va vb of_a of_b width there.width.0))

  pub crosses_fit : ProgramFits (crosses_program s rows columns d) d f
  crosses_fit = pairs_fit (cross_expr s) (λ k g a b va vb le same of_a of_b.
      let there = sides_there k g same in
      let width = value_agree s.width d g f same low.width ∙ width_is in
      let low_k = sides_later s d k le low in
      patch_fits false s (cross_expr s a b) (h * w) elements k g low_k (cross_low s a b k low_k of_a.is.below of_b.is.below) there
      (cross_fits s h w row_sources column_sources elements corners a b k g va vb of_a of_b width there.width.0)
      (cross_inside s h w row_sources column_sources elements corners a b k g va vb of_a of_b width there.width.0))
