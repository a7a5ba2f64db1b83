-- The program that fills a leaf's piece fits.
use Rattle.std.proofs.Common.{◌≡◌, ℕ, suc, ◌+◌, ◌-◌, ◌*◌, ◌<◌, ◌≤◌, min, ℤ, pos, negsuc, refl, ap, ◌∙◌, arith, true}
use Rattle.std.proofs.lemmas.Bool.{ltb-false, lt-ltb, ne_eqb, and_from}
use Rattle.std.proofs.lemmas.Int.{ints}
use Rattle.std.proofs.lemmas.Nat.{mul-le}
use Rattle.ven_base.specs.declared.mapping.Mapping.{Mapping}
use Rattle.ven_base.specs.declared.mapping.Mapping.TheVariants.{Identity, Shift, Rotate, Section, Stretch, Transpose}
use Rattle.ven_base.specs.Elem.{size_of}
use Rattle.ven_base.specs.Extent.{IsExtent}
use Rattle.ven_base.specs.Mapping.{FitsShape, result_shape}
use Rattle.ven_base.specs.Place.{IsMove}
use Rattle.ven_base.proofs.Congruence.{rem_below}
use Rattle.ven_base.proofs.Sources.{factor_within}
use Rattle.venice_isa.specs.Host.{with_number}
use Rattle.pass_plan.specs.declared.leaf.Leaf.{Leaf}
use Rattle.pass_plan.specs.Tile.{IsPieceOf}
use Rattle.dma_segments.proofs.Bytes.{some_bytes}
use Rattle.dma_segments.specs.FillWork.{word_of}
use Rattle.host_programs.specs.Expr.{Expr, Number, Variable, Offset, Sum, Difference, Product, IfLess, value, Fits, is_below}
use Rattle.host_programs.specs.ExprLaws.{Agree}
use Rattle.host_programs.specs.ProgramFits.{FitsWord, OrderFits, ProgramFits}
use Rattle.transfer_programs.specs.Axis.{scaled, times, plus, lesser}
use Rattle.transfer_programs.specs.ReadProgram.{PieceExpr}
use Rattle.transfer_programs.specs.ReadLaws.{piece_value}
use Rattle.transfer_programs.specs.FillProgram.{FillSides, row_bytes, FillExpr, fill_order, rows_fill, columns_fill, outside_expr, bytes_before, fills_in_order, shift_fills, map_fills}
use Rattle.transfer_programs.specs.FillLaws.{FillsBelow}
use Rattle.transfer_programs.specs.FitLaws.{FillWords, FillsFit}
use Rattle.host_programs.proofs.Blocks.{with_same, with_other}
use Rattle.host_programs.proofs.Exprs.{below_more}
use Rattle.transfer_programs.proofs.Axes.{value_agree, agree_new, agree_then, value_scaled, below_scaled, value_times, value_plus, value_lesser}
use Rattle.transfer_programs.proofs.FitExprs.{fits_agree, word_agree, fits_scaled, fits_times, fits_plus, fits_choice, choice_value, word_lesser}
use Rattle.transfer_programs.proofs.FitAxes.{agree_back}

-- ---- how many places have no source

outside_word : (size : ℕ) (by : ℤ) (start n : Expr) (f : ℕ → ℕ) → FitsWord start f → FitsWord n f → IsMove by → size ≤ 1048576 → value start f + value n f ≤ size → FitsWord (outside_expr size by start n) f × (value (outside_expr size by start n) f ≤ value n f)
outside_word size (pos k) start n f start_word n_word move small inside =
    let past = Offset (Sum start n) (min k size) in
    let rest = Difference past (Number size) in
    let past_word : FitsWord past f = ((start_word.0, n_word.0), omega (arith, inside, small)) in
    let rest_word : size < value past f → FitsWord rest f = λ l. ((past_word.0, tt, omega (arith, l)), omega (arith, past_word.1)) in
    let few : value (outside_expr size (pos k) start n) f ≤ value n f = choice_value past (Number (suc size)) (Number 0) (lesser n rest) f (λ m. m ≤ value n f) (λ l. omega arith) (λ l. omega (arith, value_lesser n rest f)) in
    ((fits_choice past (Number (suc size)) (Number 0) (lesser n rest) f past_word (tt, omega (arith, small)) (λ l. tt) (λ l. (word_lesser n rest f n_word (rest_word (omega (arith, l)))).0), omega (arith, few, n_word.1)), few)
outside_word size (negsuc k) start n f start_word n_word move small inside =
    let rest = Difference (Number (suc k)) start in
    let small_k : suc k < 4294967296 = omega (arith, ints, move.least) in
    let rest_word : value start f ≤ k → FitsWord rest f = λ l. ((tt, start_word.0, omega (arith, l)), omega (arith, small_k)) in
    let few : value (outside_expr size (negsuc k) start n) f ≤ value n f = choice_value (Number k) start (Number 0) (lesser n rest) f (λ m. m ≤ value n f) (λ l. omega arith) (λ l. omega (arith, value_lesser n rest f)) in
    ((fits_choice (Number k) start (Number 0) (lesser n rest) f (tt, omega (arith, small_k)) start_word (λ l. tt) (λ l. (word_lesser n rest f n_word (rest_word l)).0), omega (arith, few, n_word.1)), few)

-- ---- one fill

pub word_small : (n : ℤ) → word_of n < 4294967296
word_small n = rem_below 4294967296 n (omega arith)

order_fits : (s : FillSides) (fill : FillExpr) (f : ℕ → ℕ) → FitsWord fill.at f → FitsWord fill.rows f → FitsWord fill.cols f → FitsWord fill.step f → OrderFits (fill_order s fill) f
order_fits s fill f at rows cols step = record {
  vl = cols;
  rows = rows;
  dst = at;
  a = (tt, word_small s.value);
  b = (tt, omega arith);
  dst_step = step;
  a_step = (tt, omega arith);
  b_step = (tt, omega arith);
}

-- a piece of h rows of w elements, in a buffer that ends below 2 to the 32
record FillsSides (s : FillSides) (h w : ℕ) (f : ℕ → ℕ) : Type 0 where
  width : FitsWord s.width f
  width_is : value s.width f ≡ w
  buffer : FitsWord s.buffer f
  height : h < 4294967296
  in_cells : value s.buffer f + h * w * size_of s.elem < 4294967296

record SidesLow (s : FillSides) (d : ℕ) : Type 0 where
  width : is_below s.width d ≡ true
  buffer : is_below s.buffer d ≡ true

low_later : (s : FillSides) (d k : ℕ) → d ≤ k → SidesLow s d → SidesLow s k
low_later s d k le low = record { width = below_more s.width d k le low.width; buffer = below_more s.buffer d k le low.buffer }

sides_later : (s : FillSides) (h w d : ℕ) (f g : ℕ → ℕ) → Agree d f g → SidesLow s d → FillsSides s h w f → FillsSides s h w g
sides_later s h w d f g same low sides =
    let width = value_agree s.width d f g same low.width in
    record {
      width = word_agree s.width d f g same low.width sides.width;
      width_is = omega (arith, width, sides.width_is);
      buffer = word_agree s.buffer d f g same low.buffer sides.buffer;
      height = sides.height;
      in_cells = omega (arith, value_agree s.buffer d f g same low.buffer, sides.in_cells);
    }

module _ (s : FillSides) (h w d : ℕ) (f : ℕ → ℕ) (low : SidesLow s d) (sides : FillsSides s h w f) where
  abbrev size : ℕ
  size = size_of s.elem

  row_is : value (row_bytes s) f ≡ w * size
  row_is = value_scaled s.width size f ∙ ap (λ m. m * size) sides.width_is

  row_fits : Fits (row_bytes s) f
  row_fits = fits_scaled s.width size f sides.width.0

  elements_few : h * w ≤ h * w * size
  elements_few = omega (arith, mul-le (h * w) 1 (h * w) size (omega arith) (some_bytes s.elem))

  -- the first cell of a row, and the bytes before a column
  at_is : (first before : Expr) → value (plus (times first (row_bytes s)) (plus before s.buffer)) f ≡ value first f * (w * size) + (value before f + value s.buffer f)
  at_is first before =
      value_plus (times first (row_bytes s)) (plus before s.buffer) f ∙ ap (λ m. m + value (plus before s.buffer) f) (value_times first (row_bytes s) f ∙ ap (λ m. value first f * m) row_is)
      ∙ ap (λ m. value first f * (w * size) + m) (value_plus before s.buffer f)

  rows_fit : (first count : Expr) → Fits first f → FitsWord count f → value first f + value count f ≤ h → ProgramFits (rows_fill s first count) d f
  rows_fit first count first_fits count_word inside = (
    count_word,
    (tt, omega arith),
    λ e.
        let rows = mul-le (value first f) (w * size) h (w * size) (omega (arith, inside)) (omega arith) in
        let elements = mul-le (value count f) w h w (omega (arith, inside)) (omega arith) in
        let at = plus (times first (row_bytes s)) s.buffer in
        let at_value : value at f ≡ value first f * (w * size) + value s.buffer f =
        value_plus (times first (row_bytes s)) s.buffer f ∙ ap (λ m. m + value s.buffer f) (value_times first (row_bytes s) f ∙ ap (λ m. value first f * m) row_is) in
        let cols_value : value count f * value s.width f ≡ value count f * w = ap (λ m. value count f * m) sides.width_is in
        order_fits s (record { at = at; rows = Number 1; cols = Product count s.width; step = Number 0 }) f
        (fits_plus (times first (row_bytes s)) s.buffer f (fits_times first (row_bytes s) f first_fits row_fits) sides.buffer.0, omega (arith, at_value, rows, sides.in_cells)) (tt, omega arith)
        ((count_word.0, sides.width.0), omega (arith, cols_value, elements, elements_few, sides.in_cells)) (tt, omega arith),
  )

  columns_order : (first before columns : Expr) (n : ℕ) → Fits first f → Fits before f → FitsWord columns f → f d ≡ n → 1 ≤ n → value first f + n ≤ h → value columns f ≤ w → value before f ≤ w * size
      → (f (d + 1) ≤ n) → OrderFits (fill_order s (record {
        at = plus (times first (row_bytes s)) (plus before s.buffer);
        rows = Variable (d + 1);
        cols = IfLess columns s.width columns (Product (Variable d) columns);
        step = IfLess (Variable (d + 1)) (Number 2) (Number 0) (row_bytes s);
      })) f
  columns_order first before columns n first_fits before_fits columns_word count_is some inside few few_bytes few_rows =
      let rows_small : f (d + 1) < 4294967296 = omega (arith, few_rows, inside, sides.height) in
      let rows = mul-le (value first f + 1) (w * size) h (w * size) (omega (arith, inside, some)) (omega arith) in
      let elements = mul-le n (value columns f) h w (omega (arith, inside)) few in
      let high = mul-le h 1 h w (omega arith) in
      let wide = mul-le 1 w h w (omega (arith, inside, some)) (omega arith) in
      let row = mul-le 1 (w * size) h (w * size) (omega (arith, inside, some)) (omega arith) in
      let product : f d * value columns f ≡ n * value columns f = ap (λ m. m * value columns f) count_is in
      let cols = IfLess columns s.width columns (Product (Variable d) columns) in
      let cols_few : value cols f ≤ h * w = choice_value columns s.width columns (Product (Variable d) columns) f (λ m. m ≤ h * w) (λ l. omega (arith, few, wide)) (λ l. omega (arith, product, elements)) in
      order_fits s (record { at = plus (times first (row_bytes s)) (plus before s.buffer); rows = Variable (d + 1); cols = cols; step = IfLess (Variable (d + 1)) (Number 2) (Number 0) (row_bytes s) }) f (
        fits_plus (times first (row_bytes s)) (plus before s.buffer) f (fits_times first (row_bytes s) f first_fits row_fits) (fits_plus before s.buffer f before_fits sides.buffer.0),
        omega (arith, at_is first before, rows, few_bytes, sides.in_cells),
      )
      (tt, rows_small)
      (fits_choice columns s.width columns (Product (Variable d) columns) f columns_word sides.width (λ l. columns_word.0) (λ l. (tt, columns_word.0)), omega (arith, cols_few, elements_few, sides.in_cells)) (
        fits_choice (Variable (d + 1)) (Number 2) (Number 0) (row_bytes s) f (tt, rows_small) (tt, omega arith) (λ l. tt) (λ l. row_fits),
        choice_value (Variable (d + 1)) (Number 2) (Number 0) (row_bytes s) f (λ m. m < 4294967296) (λ l. omega arith) (λ l. omega (arith, row_is, row, sides.in_cells)),
      )

module _ (s : FillSides) (h w d : ℕ) (f : ℕ → ℕ) (low : SidesLow s d) (sides : FillsSides s h w f) where
  columns_fit : (first count before columns : Expr) → is_below first d ≡ true → is_below before d ≡ true → is_below columns d ≡ true → Fits first f → FitsWord count f → Fits before f → FitsWord columns f
      → value first f + value count f ≤ h → value columns f ≤ w → value before f ≤ w * size_of s.elem → ProgramFits (columns_fill s first count before columns d) d f
  columns_fit first count before columns low_first low_before low_columns first_fits count_word before_fits columns_word inside few few_bytes =
      let n = value count f in
      let f1 = with_number d n f in
      let a1 : Agree d f1 f = agree_new d d n f (omega arith) in
      let back1 = agree_back d f1 f a1 in
      let rows_expr = IfLess columns s.width (Variable d) (Number 1) in
      let r = value rows_expr f1 in
      let f2 = with_number (d + 1) r f1 in
      let a2 : Agree d f2 f = agree_then d (d + 1) f f1 f2 (omega arith) (agree_new (d + 1) (d + 1) r f1 (omega arith)) a1 in
      let back2 = agree_back d f2 f a2 in
      let count1 : f1 d ≡ n = with_same f d n in
      let count2 : f2 d ≡ n = with_other f1 (d + 1) r d (ne_eqb d (d + 1) (λ e. omega (arith, e))) ∙ count1 in
      let rows2 : f2 (d + 1) ≡ r = with_same f1 (d + 1) r in
      let columns1 = word_agree columns d f f1 back1 low_columns columns_word in
      let width1 = word_agree s.width d f f1 back1 low.width sides.width in
      let e_first = value_agree first d f2 f a2 low_first in
      let e_before = value_agree before d f2 f a2 low_before in
      let e_columns = value_agree columns d f2 f a2 low_columns in (
        columns_word,
        (tt, omega arith),
        λ e. (
          count_word,
          (
            (tt, omega (arith, count1, count_word.1)),
            (tt, omega arith),
            λ e'.
                let some : 1 ≤ n = omega (arith, count1, ltb-false (f1 d) 1 e') in
                let few_rows : r ≤ n = choice_value columns s.width (Variable d) (Number 1) f1 (λ m. m ≤ n) (λ l. omega (arith, count1)) (λ l. some) in (
                  (fits_choice columns s.width (Variable d) (Number 1) f1 columns1 width1 (λ l. tt) (λ l. tt), omega (arith, few_rows, count_word.1)),
                  columns_order s h w d f2 low (sides_later s h w d f f2 back2 low sides) first before columns n (fits_agree first d f f2 back2 low_first first_fits) (fits_agree before d f f2 back2 low_before before_fits)
                      (word_agree columns d f f2 back2 low_columns columns_word) count2 some (omega (arith, e_first, inside)) (omega (arith, e_columns, few)) (omega (arith, e_before, few_bytes)) (omega (arith, rows2, few_rows)),
                ),
          ),
        ),
      )

-- ---- the fills of a shift

module _ (s : FillSides) (h w d : ℕ) (f : ℕ → ℕ) (low : SidesLow s d) (sides : FillsSides s h w f) where
  -- the bytes before the columns, and the columns, are those of a row
  before_fits : (by : ℤ) (columns : Expr) → Fits columns f → value columns f ≤ w → Fits (bytes_before s by columns) f × (value (bytes_before s by columns) f ≤ w * size_of s.elem)
  before_fits (pos k) columns fit few =
      let rest = Difference s.width columns in
      let e : value (scaled rest (size_of s.elem)) f ≡ (w - value columns f) * size_of s.elem = value_scaled rest (size_of s.elem) f ∙ ap (λ m. (m - value columns f) * size_of s.elem) sides.width_is in
      (fits_scaled rest (size_of s.elem) f (sides.width.0, fit, omega (arith, sides.width_is, few)), omega (arith, e, mul-le (w - value columns f) (size_of s.elem) w (size_of s.elem) (omega arith) (omega arith)))
  before_fits (negsuc k) columns fit few = (tt, omega arith)

  before_low : (by : ℤ) (columns : Expr) → is_below columns d ≡ true → is_below (bytes_before s by columns) d ≡ true
  before_low (pos k) columns h = below_scaled (Difference s.width columns) (size_of s.elem) d (and_from _ _ low.width h)
  before_low (negsuc k) columns h = refl

  in_order_fit : (by : ℤ) (height outside before columns : Expr) → is_below height d ≡ true → is_below outside d ≡ true → is_below before d ≡ true → is_below columns d ≡ true
      → FitsWord height f → value height f ≡ h → FitsWord outside f → value outside f ≤ h → Fits before f → value before f ≤ w * size_of s.elem → FitsWord columns f → value columns f ≤ w
      → ProgramFits (fills_in_order s by height outside before columns d) d f
  in_order_fit (pos k) height outside before columns low_height low_outside low_before low_columns height_word height_is outside_word few_rows before_fit few_bytes columns_word few =
      let rest = Difference height outside in
      let rest_word : FitsWord rest f = ((height_word.0, outside_word.0, omega (arith, height_is, few_rows)), omega (arith, height_word.1)) in (
        columns_fit s h w d f low sides (Number 0) rest before columns refl low_before low_columns tt rest_word before_fit columns_word (omega (arith, height_is)) few few_bytes,
        rows_fit s h w d f low sides rest outside rest_word.0 outside_word (omega (arith, height_is, few_rows)),
      )
  in_order_fit (negsuc k) height outside before columns low_height low_outside low_before low_columns height_word height_is outside_word few_rows before_fit few_bytes columns_word few =
      let rest = Difference height outside in
      let rest_word : FitsWord rest f = ((height_word.0, outside_word.0, omega (arith, height_is, few_rows)), omega (arith, height_word.1)) in (
        rows_fit s h w d f low sides (Number 0) outside tt outside_word (omega (arith, few_rows)),
        columns_fit s h w d f low sides outside rest before columns low_outside low_before low_columns outside_word.0 rest_word before_fit columns_word (omega (arith, height_is, few_rows)) few few_bytes,
      )

-- ---- the fills of a leaf's piece

module _ (leaf : Leaf) (piece : PieceExpr) (buffer : Expr) (d : ℕ) (f : ℕ → ℕ) (is_extent : IsExtent leaf.shape) (in_cells : value buffer f + value piece.h f * value piece.w f * size_of leaf.elem < 4294967296) (low : FillsBelow piece buffer d) (words : FillWords piece buffer f) where
  shift_fit : (dr dc fill : ℤ) → IsMove dr × IsMove dc → IsPieceOf leaf.shape (piece_value piece f)
      → ProgramFits (shift_fills (record { elem = leaf.elem; value = fill; buffer = buffer; width = piece.w }) leaf.shape dr dc piece d) d f
  shift_fit dr dc fill moves inside =
      let s : FillSides = record { elem = leaf.elem; value = fill; buffer = buffer; width = piece.w } in
      let shape = leaf.shape in
      let h = value piece.h f in
      let w = value piece.w f in
      let rows_small : shape.rows ≤ 1048576 = factor_within shape.rows shape.cols 1048576 is_extent.some_cols is_extent.within in
      let cols_small : shape.cols ≤ 1048576 = factor_within shape.cols shape.rows 1048576 is_extent.some_rows (omega (arith, is_extent.within)) in
      let rows_out = outside_expr shape.rows dr piece.r0 piece.h in
      let cols_out = outside_expr shape.cols dc piece.c0 piece.w in
      let r = value rows_out f in
      let f1 = with_number d r f in
      let a1 : Agree d f1 f = agree_new d d r f (omega arith) in
      let back1 = agree_back d f1 f a1 in
      let c = value cols_out f1 in
      let f2 = with_number (d + 1) c f1 in
      let a2 : Agree d f2 f = agree_then d (d + 1) f f1 f2 (omega arith) (agree_new (d + 1) (d + 1) c f1 (omega arith)) a1 in
      let back2 = agree_back d f2 f a2 in
      let e_c0 = value_agree piece.c0 d f1 f a1 low.c0 in
      let e_w = value_agree piece.w d f1 f a1 low.w in
      let rows_word = outside_word shape.rows dr piece.r0 piece.h f words.r0 words.h moves.0 rows_small inside.rows_inside in
      let cols_word = outside_word shape.cols dc piece.c0 piece.w f1 (word_agree piece.c0 d f f1 back1 low.c0 words.c0) (word_agree piece.w d f f1 back1 low.w words.w) moves.1 cols_small (omega (arith, e_c0, e_w, inside.cols_inside)) in
      let rows2 : f2 d ≡ r = with_other f1 (d + 1) c d (ne_eqb d (d + 1) (λ e. omega (arith, e))) ∙ with_same f d r in
      let cols2 : f2 (d + 1) ≡ c = with_same f1 (d + 1) c in
      let low_s : SidesLow s d = record { width = low.w; buffer = low.buffer_below } in
      let low_2 = low_later s d (d + 1 + 1) (omega arith) low_s in
      let sides : FillsSides s h w f = record { width = words.w; width_is = refl; buffer = words.buffer_word; height = words.h.1; in_cells = in_cells } in
      let sides_2 = sides_later s h w d f f2 back2 low_s sides in
      let columns = Variable (d + 1) in
      let low_columns = lt-ltb (d + 1) (d + 1 + 1) (omega arith) in
      let few : f2 (d + 1) ≤ w = omega (arith, cols2, cols_word.1, e_w) in
      let before = before_fits s h w (d + 1 + 1) f2 low_2 sides_2 dc columns tt few in (
        rows_word.0,
        (
          cols_word.0,
          in_order_fit s h w (d + 1 + 1) f2 low_2 sides_2 dr piece.h (Variable d) (bytes_before s dc columns) columns (below_more piece.h d (d + 1 + 1) (omega arith) low.h) (lt-ltb d (d + 1 + 1) (omega arith))
              (before_low s h w (d + 1 + 1) f2 low_2 sides_2 dc columns low_columns) low_columns (word_agree piece.h d f f2 back2 low.h words.h) (value_agree piece.h d f2 f a2 low.h) (tt, omega (arith, rows2, rows_word.0.1)) (omega (arith, rows2, rows_word.1))
              before.0 before.1 (tt, omega (arith, cols2, cols_word.0.1)) few,
        ),
      )

  map_fit : (mapping : Mapping) → FitsShape mapping leaf.shape → IsPieceOf (result_shape mapping leaf.shape) (piece_value piece f) → ProgramFits (map_fills mapping leaf piece buffer d) d f
  map_fit (Shift dr dc fill) fits inside = shift_fit dr dc fill fits inside
  map_fit Identity fits inside = tt
  map_fit (Rotate dr dc) fits inside = tt
  map_fit (Section r0 nr sr c0 nc sc) fits inside = tt
  map_fit (Stretch kr kc) fits inside = tt
  map_fit Transpose fits inside = tt

pub fills_fit : FillsFit
fills_fit leaf piece buffer d f is_extent can low words = map_fit leaf piece buffer d f is_extent (omega (arith, can.in_cells)) low words leaf.map can.fits can.inside
