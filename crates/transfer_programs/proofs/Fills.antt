-- The program that fills a leaf's piece issues the moves of its fills.
use Rattle.std.proofs.Common.{◌≡◌, ℕ, suc, ◌+◌, ◌-◌, ◌*◌, ◌<◌, ◌≤◌, ◌⊎◌, inl, inr, min, ℤ, pos, negsuc, [], ◌∷◌, sym, ap, ◌∙◌, arith, Bool, true, false, cond, eqb, ltb, None}
use Rattle.std.specs.Prelude.{◌&&◌}
use Rattle.std.proofs.lemmas.Bool.{cond_both, ne_eqb, eq-eqb, ltb-true, ltb-false, lt-ltb, le-ltb, cases_lt}
use Rattle.ven_base.specs.Elem.{size_of}
use Rattle.venice_isa.specs.declared.issue.Issue.{Issue}
use Rattle.venice_isa.specs.declared.issue.Issue.TheVariants.{Vector}
use Rattle.venice_isa.specs.Host.{with_number}
use Rattle.dma_segments.specs.declared.patches.Patch.{Patch}
use Rattle.dma_segments.specs.declared.patches.Sides.{Sides}
use Rattle.dma_segments.specs.Patch.{with_rows_joined}
use Rattle.dma_segments.specs.ReadList.{fill_at}
use Rattle.dma_segments.specs.FillWork.{fill_work}
use Rattle.host_programs.specs.Expr.{Expr, Number, Offset, Sum, Difference, value, is_below}
use Rattle.host_programs.specs.ExprLaws.{Agree}
use Rattle.host_programs.specs.Program.{list_by}
use Rattle.transfer_programs.specs.Axis.{times, plus, lesser}
use Rattle.transfer_programs.specs.FillProgram.{FillSides, row_bytes, rows_fill, columns_fill, outside_expr}
use Rattle.host_programs.proofs.Blocks.{with_same, with_other}
use Rattle.transfer_programs.proofs.Axes.{value_agree, agree_new, agree_then, value_scaled, value_times, value_plus, value_lesser}
use Rattle.transfer_programs.proofs.Patches.{step_is}

-- ---- how many places have no source

abbrev pub outside_of : (size : ℕ) → ℤ → (start n : ℕ) → ℕ
outside_of size (pos k) start n = n - min n (size - (start + k))
outside_of size (negsuc k) start n = min n (suc k - start)

pub outside_value : (size : ℕ) (by : ℤ) (start n : Expr) (f : ℕ → ℕ) → value (outside_expr size by start n) f ≡ outside_of size by (value start f) (value n f)
outside_value size (pos k) start n f =
    let past = value start f + value n f + min k size in
    cond_both (ltb past (suc size)) 0 (value (lesser n (Difference (Offset (Sum start n) (min k size)) (Number size))) f) (λ m. m ≡ outside_of size (pos k) (value start f) (value n f))
    (λ e. let less = ltb-true past (suc size) e in omega (arith, less))
    (λ e. let more = ltb-false past (suc size) e in omega (arith, more, value_lesser n (Difference (Offset (Sum start n) (min k size)) (Number size)) f))
outside_value size (negsuc k) start n f =
    cond_both (ltb k (value start f)) 0 (value (lesser n (Difference (Number (suc k)) start)) f) (λ m. m ≡ outside_of size (negsuc k) (value start f) (value n f))
    (λ e. let less = ltb-true k (value start f) e in omega (arith, less))
    (λ e. value_lesser n (Difference (Number (suc k)) start) f)

-- ---- what each program issues

abbrev pub filled_with : FillSides → (at rows cols step : ℕ) → Issue
filled_with s at rows cols step = Vector (fill_work (record { at = at; elem = s.elem; rows = rows; cols = cols; step = step; value = s.value }))

abbrev pub bytes_of_row : FillSides → (width : ℕ) → ℕ
bytes_of_row s width = width * size_of s.elem

pub rows_list : (s : FillSides) (first count : Expr) (d : ℕ) (f : ℕ → ℕ)
    → list_by value (rows_fill s first count) d f ≡ cond (ltb (value count f) 1) [] (filled_with s (value first f * bytes_of_row s (value s.width f) + value s.buffer f) 1 (value count f * value s.width f) 0 ∷ [])
rows_list s first count d f =
    let at : value (plus (times first (row_bytes s)) s.buffer) f ≡ value first f * bytes_of_row s (value s.width f) + value s.buffer f =
    value_plus (times first (row_bytes s)) s.buffer f ∙ ap (λ m. m + value s.buffer f) (value_times first (row_bytes s) f ∙ ap (λ m. value first f * m) (value_scaled s.width (size_of s.elem) f)) in
    ap (λ m. cond (ltb (value count f) 1) [] (filled_with s m 1 (value count f * value s.width f) 0 ∷ [])) at

-- of n rows of o columns in a piece so wide, where rows as wide as the piece are one
abbrev pub columns_filled : FillSides → (at n o width : ℕ) → Issue
columns_filled s at n o width =
    let rows = cond (ltb o width) n 1 in
    filled_with s at rows (cond (ltb o width) o (n * o)) (cond (ltb rows 2) 0 (bytes_of_row s width))

pub columns_list : (s : FillSides) (first count before columns : Expr) (d : ℕ) (f : ℕ → ℕ)
    → is_below s.width d ≡ true → is_below s.buffer d ≡ true → is_below first d ≡ true → is_below before d ≡ true → is_below columns d ≡ true
    → list_by value (columns_fill s first count before columns d) d f
    ≡ cond (ltb (value columns f) 1) [] (cond (ltb (value count f) 1) []
    (columns_filled s (value first f * bytes_of_row s (value s.width f) + (value before f + value s.buffer f)) (value count f) (value columns f) (value s.width f) ∷ []))
columns_list s first count before columns d f low_width low_buffer low_first low_before low_columns =
    ap (λ m. cond (ltb o 1) [] (cond (ltb m 1) [] (issued ∷ []))) (with_same f d n) ∙ ap (λ i. cond (ltb o 1) [] (cond (ltb n 1) [] (i ∷ []))) fields
  where
    n : ℕ
    n = value count f

    o : ℕ
    o = value columns f

    w : ℕ
    w = value s.width f

    f1 : ℕ → ℕ
    f1 = with_number d n f

    rows_now : ℕ
    rows_now = cond (ltb (value columns f1) (value s.width f1)) (f1 d) 1

    f2 : ℕ → ℕ
    f2 = with_number (d + 1) rows_now f1

    issued : Issue
    issued = filled_with s (value (plus (times first (row_bytes s)) (plus before s.buffer)) f2) (f2 (d + 1))
        (cond (ltb (value columns f2) (value s.width f2)) (value columns f2) (f2 d * value columns f2)) (cond (ltb (f2 (d + 1)) 2) 0 (value (row_bytes s) f2))

    a1 : Agree d f1 f
    a1 = agree_new d d n f (omega arith)

    a2 : Agree d f2 f
    a2 = agree_then d (d + 1) f f1 f2 (omega arith) (agree_new (d + 1) (d + 1) rows_now f1 (omega arith)) a1

    o1 : value columns f1 ≡ o
    o1 = value_agree columns d f1 f a1 low_columns

    w1 : value s.width f1 ≡ w
    w1 = value_agree s.width d f1 f a1 low_width

    rows_is : rows_now ≡ cond (ltb o w) n 1
    rows_is = ap (λ m. cond (ltb m (value s.width f1)) (f1 d) 1) o1 ∙ ap (λ m. cond (ltb o m) (f1 d) 1) w1 ∙ ap (λ m. cond (ltb o w) m 1) (with_same f d n)

    fields : issued ≡ columns_filled s (value first f * bytes_of_row s w + (value before f + value s.buffer f)) n o w
    fields =
        let e_first = value_agree first d f2 f a2 low_first in
        let e_before = value_agree before d f2 f a2 low_before in
        let e_buffer = value_agree s.buffer d f2 f a2 low_buffer in
        let w2 = value_agree s.width d f2 f a2 low_width in
        let o2 = value_agree columns d f2 f a2 low_columns in
        let n2 : f2 d ≡ n = with_other f1 (d + 1) rows_now d (ne_eqb d (d + 1) (λ e. omega (arith, e))) ∙ with_same f d n in
        let r2 : f2 (d + 1) ≡ cond (ltb o w) n 1 = with_same f1 (d + 1) rows_now ∙ rows_is in
        let b2 : value (row_bytes s) f2 ≡ bytes_of_row s w = value_scaled s.width (size_of s.elem) f2 ∙ ap (λ m. m * size_of s.elem) w2 in
        let at : value (plus (times first (row_bytes s)) (plus before s.buffer)) f2 ≡ value first f * bytes_of_row s w + (value before f + value s.buffer f) =
        value_plus (times first (row_bytes s)) (plus before s.buffer) f2 ∙ ap (λ m. m + value (plus before s.buffer) f2) (value_times first (row_bytes s) f2 ∙ ap (λ m. m * value (row_bytes s) f2) e_first ∙ ap (λ m. value first f * m) b2)
        ∙ ap (λ m. value first f * bytes_of_row s w + m) (value_plus before s.buffer f2 ∙ ap (λ m. m + value s.buffer f2) e_before ∙ ap (λ m. value before f + m) e_buffer) in
        cc

-- ---- the fill of a patch

module _ (s : FillSides) (array buffer width : ℕ) where
  abbrev pub sides : Sides
  sides = record { size = size_of s.elem; array = array; buffer = buffer }

  abbrev pub issue_of : Patch → Issue
  issue_of patch = Vector (fill_work (fill_at sides s.elem s.value patch))

  abbrev pub bare : (rows cols to to_step from_step : ℕ) → Patch
  bare rows cols to to_step from_step = record { rows = rows; cols = cols; to = to; to_step = to_step; from = None; from_step = from_step }

  pub rows_filled : (first count from_step : ℕ) → filled_with s (first * bytes_of_row s width + buffer) 1 (count * width) 0 ≡ issue_of (with_rows_joined (bare count width (first * width) (1 * width) from_step))
  rows_filled first count from_step =
      let at : first * bytes_of_row s width + buffer ≡ buffer + first * width * size_of s.elem = omega arith in
      let once : 1 * width ≡ width = omega arith in
      let adjacent : eqb (1 * width) width ≡ true = eq-eqb (1 * width) width once in
      ap (λ m. filled_with s m 1 (count * width) 0) at ∙ sym (ap (λ t. issue_of (cond (t && true) (bare 1 (count * width) (first * width) (1 * width) from_step) (bare count width (first * width) (1 * width) from_step))) adjacent)

  pub columns_filled_is : (first column n o from_step : ℕ) → o ≤ width
      → columns_filled s (first * bytes_of_row s width + (column * size_of s.elem + buffer)) n o width ≡ issue_of (with_rows_joined (bare n o (first * width + column) (1 * width) from_step))
  columns_filled_is first column n o from_step le =
      ap (λ m. columns_filled s m n o width) at ∙ go (cases_lt o width)
    where
      to : ℕ
      to = first * width + column

      place : ℕ
      place = buffer + to * size_of s.elem

      at : first * bytes_of_row s width + (column * size_of s.elem + buffer) ≡ place
      at = omega arith

      joined_by : Bool → Patch
      joined_by t = cond (t && true) (bare 1 (n * o) to (1 * width) from_step) (bare n o to (1 * width) from_step)

      filled_by : Bool → Issue
      filled_by t = let rows = cond t n 1 in filled_with s place rows (cond t o (n * o)) (cond (ltb rows 2) 0 (bytes_of_row s width))

      go : ((o < width) ⊎ (width ≤ o)) → filled_by (ltb o width) ≡ issue_of (joined_by (eqb (1 * width) o))
      go (inl lt) =
          let apart : eqb (1 * width) o ≡ false = ne_eqb (1 * width) o (λ e. omega (arith, e, lt)) in
          let bytes : bytes_of_row s width ≡ 1 * width * size_of s.elem = omega arith in
          ap filled_by (lt-ltb o width lt) ∙ ap (λ m. filled_with s place n o (cond (ltb n 2) 0 m)) bytes ∙ ap (λ m. filled_with s place n o m) (sym (step_is n (1 * width * size_of s.elem))) ∙ sym (ap (λ t. issue_of (joined_by t)) apart)
      go (inr ge) =
          let same : eqb (1 * width) o ≡ true = eq-eqb (1 * width) o (omega (arith, le, ge)) in
          ap filled_by (le-ltb o width ge) ∙ sym (ap (λ t. issue_of (joined_by t)) same)
