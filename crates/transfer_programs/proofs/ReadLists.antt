-- The program that brings a leaf's piece issues its commands.
use Rattle.std.proofs.Common.{◌≡◌, ℕ, zero, suc, ℤ, pos, negsuc, ◌+ℤ◌, ◌+◌, ◌-◌, ◌*◌, ◌/◌, ◌<◌, ◌≤◌, ◌⊎◌, inl, inr, min, List, [], ◌∷◌, ◌++◌, length, refl, sym, ap, ◌∙◌, subst, arith, Bool, true, false, cond, ltb, leb, Option, None, Some}
use Rattle.std.specs.Prelude.{map}
use Rattle.std.specs.List.{flat_map, range_with_len}
use Rattle.std.proofs.lemmas.Bool.{lt-ltb, le-ltb, le-leb, lt-leb, leb-true, leb-false, cases_lt}
use Rattle.std.proofs.lemmas.List.{append-nil, length-map}
use Rattle.std.proofs.lemmas.List.FromFn.{length-range_with_len}
use Rattle.ven_base.specs.declared.mapping.Mapping.{Mapping}
use Rattle.ven_base.specs.declared.mapping.Mapping.TheVariants.{Identity, Shift, Rotate, Section, Stretch, Transpose}
use Rattle.ven_base.specs.Extent.{Extent}
use Rattle.ven_base.specs.Place.{place_round}
use Rattle.venice_isa.specs.declared.issue.Issue.{Issue}
use Rattle.pass_plan.specs.declared.parts.Piece.{Piece}
use Rattle.dma_segments.specs.declared.patches.Run.{Run}
use Rattle.dma_segments.specs.declared.patches.Patch.{Patch}
use Rattle.dma_segments.specs.declared.patches.Layout.{Layout}
use Rattle.dma_segments.specs.Run.{further, phase, phase_count, phases, block, block_count, blocks, some_places, shifted_runs, round_runs, repeated_runs, row_runs, column_runs, single, singles}
use Rattle.dma_segments.specs.Patch.{lines, crosses, keeps_neighbours, patches_of}
use Rattle.dma_segments.proofs.Lists.{Each, each_append, each_weaker}
use Rattle.dma_segments.proofs.AxisRuns.{IsRunOf, repeated_axis}
use Rattle.dma_segments.proofs.Axes.{repeated_is}
use Rattle.host_programs.specs.Expr.{Expr, Number, Offset, Sum, Difference, Product, Quotient, value, is_below}
use Rattle.host_programs.specs.ExprLaws.{Agree}
use Rattle.host_programs.specs.Program.{Program, Both, UnlessLess, list_by}
use Rattle.transfer_programs.specs.Axis.{lesser, Axis, singles_of}
use Rattle.transfer_programs.specs.SourcedRuns.{SourcedRun, sourced_from, sourced, GoesThrough}
use Rattle.transfer_programs.specs.ReadProgram.{SidesExpr, rows_axis, columns_axis, repeated_count, run_count, PieceExpr, read_program, lines_program, crosses_program, sides_of_leaf}
use Rattle.transfer_programs.specs.ReadLaws.{piece_value, HasElements, LeavesIssueTheirReads}
use Rattle.host_programs.proofs.Exprs.{below_more}
use Rattle.transfer_programs.proofs.Axes.{value_agree, value_lesser, single_at, singles_at, goes_singles}
use Rattle.transfer_programs.proofs.AxisRuns.{goes_same, sourced_append, sourced_map, goes_plain, goes_cut, goes_shifted, goes_round, goes_on, goes_repeated}
use Rattle.transfer_programs.proofs.Patches.{SidesBelow, lines_list, crosses_list, NotEmpty, sent, lines_sent, crosses_sent}

-- ---- the axes of a map

goes_rows : (mapping : Mapping) (shape : Extent) (start n : Expr) (d : ℕ) (f : ℕ → ℕ) (c w : ℕ) → 0 < shape.rows → is_below start d ≡ true → is_below n d ≡ true
    → GoesThrough (rows_axis mapping shape start n) d f (sourced (row_runs mapping shape (record { r0 = value start f; c0 = c; h = value n f; w = w })))
goes_rows Identity shape start n d f c w some low_start low_n = goes_plain start n d f low_start low_n
goes_rows (Shift dr dc fill) shape start n d f c w some low_start low_n = goes_shifted shape.rows dr start n d f low_start low_n
goes_rows (Rotate dr dc) shape start n d f c w some low_start low_n = goes_round shape.rows dr start n d f (goes_on shape.rows dr (value start f) some) low_start low_n
goes_rows (Section r0 nr sr c0 nc sc) shape start n d f c w some low_start low_n = goes_cut r0 sr start n d f low_start low_n
goes_rows (Stretch kr kc) shape start n d f c w some low_start low_n = goes_repeated kr start n d f low_start low_n
goes_rows Transpose shape start n d f c w some low_start low_n = goes_plain start n d f low_start low_n

goes_columns : (mapping : Mapping) (shape : Extent) (start n : Expr) (d : ℕ) (f : ℕ → ℕ) (r h : ℕ) → 0 < shape.cols → is_below start d ≡ true → is_below n d ≡ true
    → GoesThrough (columns_axis mapping shape start n) d f (sourced (column_runs mapping shape (record { r0 = r; c0 = value start f; h = h; w = value n f })))
goes_columns Identity shape start n d f r h some low_start low_n = goes_plain start n d f low_start low_n
goes_columns (Shift dr dc fill) shape start n d f r h some low_start low_n = goes_shifted shape.cols dc start n d f low_start low_n
goes_columns (Rotate dr dc) shape start n d f r h some low_start low_n = goes_round shape.cols dc start n d f (goes_on shape.cols dc (value start f) some) low_start low_n
goes_columns (Section r0 nr sr c0 nc sc) shape start n d f r h some low_start low_n = goes_cut c0 sc start n d f low_start low_n
goes_columns (Stretch kr kc) shape start n d f r h some low_start low_n = goes_repeated kc start n d f low_start low_n
goes_columns Transpose shape start n d f r h some low_start low_n = goes_plain start n d f low_start low_n

-- ---- each place of each run

no_singles : (run : Run) → run.source ≡ None → (ts : List ℕ) → sourced (map (single run) ts) ≡ []
no_singles run none [] = refl
no_singles run none (t ∷ ts) =
    sourced_append (single run t ∷ []) (map (single run) ts) ∙ ap (λ o. (sourced_from (further o (t * run.source_step)) (single run t) ++ []) ++ sourced (map (single run) ts)) none ∙ no_singles run none ts

sourced_singles : (runs : List Run) → sourced (singles runs) ≡ flat_map singles_at (sourced runs)
sourced_singles [] = refl
sourced_singles (run ∷ runs) =
    sourced_append (map (single run) (range_with_len 0 run.count)) (singles runs) ∙ ap (λ xs. sourced (map (single run) (range_with_len 0 run.count)) ++ xs) (sourced_singles runs) ∙ go run.source refl
  where
    go : (source : Option ℕ) → run.source ≡ source → sourced (map (single run) (range_with_len 0 run.count)) ++ flat_map singles_at (sourced runs) ≡ flat_map singles_at (sourced_from source run ++ sourced runs)
    go None is = ap (λ xs. xs ++ flat_map singles_at (sourced runs)) (no_singles run is (range_with_len 0 run.count))
    go (Some x) is =
        let v : SourcedRun = record { first = run.first; step = run.step; count = run.count; source = x; source_step = run.source_step } in
        ap (λ xs. xs ++ flat_map singles_at (sourced runs)) (sourced_map (single run) (single_at v) (λ t. ap (λ o. sourced_from (further o (t * run.source_step)) (single run t) ++ []) is) (range_with_len 0 run.count))

-- ---- runs have places

some_each : (first n : ℕ) (source : Option ℕ) → Each NotEmpty (some_places first n source)
some_each first zero source = tt
some_each first (suc n) source = (omega arith, tt)

shifted_each : (size : ℕ) (by : ℤ) (start n : ℕ) → Each NotEmpty (shifted_runs size by start n)
shifted_each size (pos k) start n =
    let inside = min n (size - (start + k)) in
    each_append NotEmpty (some_places 0 inside (Some (start + k))) (some_places inside (n - inside) None) (some_each 0 inside (Some (start + k))) (some_each inside (n - inside) None)
shifted_each size (negsuc k) start n =
    let outside = min n (suc k - start) in
    let source = Some (start + outside - suc k) in
    each_append NotEmpty (some_places 0 outside None) (some_places outside (n - outside) source) (some_each 0 outside None) (some_each outside (n - outside) source)

round_each : (size : ℕ) (by : ℤ) (start n : ℕ) → Each NotEmpty (round_runs size by start n)
round_each size by start n =
    let first = place_round size (pos start +ℤ by) in
    let before = min n (size - first) in
    each_append NotEmpty (some_places 0 before (Some first)) (some_places before (n - before) (Some 0)) (some_each 0 before (Some first)) (some_each before (n - before) (Some 0))

repeated_each : (k start n : ℕ) → 1 ≤ n → Each NotEmpty (repeated_runs k start n)
repeated_each zero start n some = go (block_count 0 start n)
  where
    none : min 0 n ≡ 0
    none = omega arith

    go : (count : ℕ) → Each NotEmpty (cond (leb (min 0 n) count) (phases 0 start n) (blocks 0 start n))
    go count =
        let first : leb (min 0 n) count ≡ true = le-leb (min 0 n) count (omega arith) in
        subst (λ t. Each NotEmpty (cond t (phases 0 start n) (blocks 0 start n))) (sym first) (subst (λ m. Each NotEmpty (map (phase 0 start n) (range_with_len 0 m))) (sym none) tt)
repeated_each (suc k) start n some =
    each_weaker (IsRunOf n (repeated_axis (suc k) start)) NotEmpty (λ run is. is.some) (repeated_runs (suc k) start n) (repeated_is (suc k) start n (omega arith) some).each

rows_each : (mapping : Mapping) (shape : Extent) (piece : Piece) → HasElements piece → Each NotEmpty (row_runs mapping shape piece)
rows_each Identity shape piece has = (has.some_rows, tt)
rows_each (Shift dr dc fill) shape piece has = shifted_each shape.rows dr piece.r0 piece.h
rows_each (Rotate dr dc) shape piece has = round_each shape.rows dr piece.r0 piece.h
rows_each (Section r0 nr sr c0 nc sc) shape piece has = (has.some_rows, tt)
rows_each (Stretch kr kc) shape piece has = repeated_each kr piece.r0 piece.h has.some_rows
rows_each Transpose shape piece has = (has.some_rows, tt)

columns_each : (mapping : Mapping) (shape : Extent) (piece : Piece) → HasElements piece → Each NotEmpty (column_runs mapping shape piece)
columns_each Identity shape piece has = (has.some_cols, tt)
columns_each (Shift dr dc fill) shape piece has = shifted_each shape.cols dc piece.c0 piece.w
columns_each (Rotate dr dc) shape piece has = round_each shape.cols dc piece.c0 piece.w
columns_each (Section r0 nr sr c0 nc sc) shape piece has = (has.some_cols, tt)
columns_each (Stretch kr kc) shape piece has = repeated_each kc piece.c0 piece.w has.some_cols
columns_each Transpose shape piece has = (has.some_cols, tt)

-- ---- how many runs

repeated_length : (k s m : ℕ) → length (repeated_runs k s m) ≡ min (phase_count k m) (block_count k s m)
repeated_length k s m = go (leb (phase_count k m) (block_count k s m)) refl
  where
    p : ℕ
    p = phase_count k m

    b : ℕ
    b = block_count k s m

    long : length (phases k s m) ≡ p
    long = length-map (range_with_len 0 p) (phase k s m) ∙ length-range_with_len 0 p

    wide : length (blocks k s m) ≡ b
    wide = length-map (range_with_len (s / k) b) (block k s m) ∙ length-range_with_len (s / k) b

    go : (t : Bool) → leb p b ≡ t → length (cond t (phases k s m) (blocks k s m)) ≡ min p b
    go true is = let le : p ≤ b = leb-true p b is in omega (arith, long, le)
    go false is = let lt : b < p = leb-false p b is in omega (arith, wide, lt)

repeated_value : (k : ℕ) (start n : Expr) (f : ℕ → ℕ) → value (repeated_count k start n) f ≡ length (repeated_runs k (value start f) (value n f))
repeated_value k start n f =
    let blocks_expr = Difference (Offset (Quotient (Difference (Sum start n) (Number 1)) (Number k)) 1) (Quotient start (Number k)) in
    value_lesser (lesser (Number k) n) blocks_expr f ∙ ap (λ x. min x (value blocks_expr f)) (value_lesser (Number k) n f) ∙ sym (repeated_length k (value start f) (value n f))

columns_count : (mapping : Mapping) (shape : Extent) (start n : Expr) (f : ℕ → ℕ) (r h : ℕ) → keeps_neighbours mapping ≡ false
    → value (run_count mapping start n false) f ≡ length (column_runs mapping shape (record { r0 = r; c0 = value start f; h = h; w = value n f }))
columns_count Identity shape start n f r h e = absurd cc
columns_count (Shift dr dc fill) shape start n f r h e = absurd cc
columns_count (Rotate dr dc) shape start n f r h e = absurd cc
columns_count (Section r0 nr sr c0 nc sc) shape start n f r h e = refl
columns_count (Stretch kr kc) shape start n f r h e = repeated_value kc start n f
columns_count Transpose shape start n f r h e = refl

rows_count : (mapping : Mapping) (shape : Extent) (start n : Expr) (f : ℕ → ℕ) (c w : ℕ) → keeps_neighbours mapping ≡ false
    → value (run_count mapping start n true) f ≡ length (row_runs mapping shape (record { r0 = value start f; c0 = c; h = value n f; w = w }))
rows_count Identity shape start n f c w e = absurd cc
rows_count (Shift dr dc fill) shape start n f c w e = absurd cc
rows_count (Rotate dr dc) shape start n f c w e = absurd cc
rows_count (Section r0 nr sr c0 nc sc) shape start n f c w e = refl
rows_count (Stretch kr kc) shape start n f c w e = repeated_value kr start n f
rows_count Transpose shape start n f c w e = refl

-- ---- the list of a piece

either_list : (u v : ℕ) (xs ys : List Issue) → cond (ltb v u) [] xs ++ cond (ltb u (v + 1)) [] ys ≡ cond (leb u v) xs ys
either_list u v xs ys = go (cases_lt v u)
  where
    go : ((v < u) ⊎ (u ≤ v)) → cond (ltb v u) [] xs ++ cond (ltb u (v + 1)) [] ys ≡ cond (leb u v) xs ys
    go (inl lt) =
        let e1 : ltb v u ≡ true = lt-ltb v u lt in
        let e2 : ltb u (v + 1) ≡ false = le-ltb u (v + 1) (omega (arith, lt)) in
        let e3 : leb u v ≡ false = lt-leb u v lt in
        ap (λ t. cond t [] xs ++ cond (ltb u (v + 1)) [] ys) e1 ∙ ap (λ t. cond t [] ys) e2 ∙ ap (λ t. cond t xs ys) (sym e3)
    go (inr le) =
        let e1 : ltb v u ≡ false = le-ltb v u le in
        let e2 : ltb u (v + 1) ≡ true = lt-ltb u (v + 1) (omega (arith, le)) in
        let e3 : leb u v ≡ true = le-leb u v le in
        ap (λ t. cond t [] xs ++ cond (ltb u (v + 1)) [] ys) e1 ∙ ap (λ t. xs ++ cond t [] ys) e2 ∙ append-nil xs ∙ ap (λ t. cond t xs ys) (sym e3)

module _ (mapping : Mapping) (shape : Extent) (s : SidesExpr) (piece : PieceExpr) (d : ℕ) (f : ℕ → ℕ) (some_rows : 0 < shape.rows) (some_cols : 0 < shape.cols)
    (has : HasElements (piece_value piece f)) (low_r0 : is_below piece.r0 d ≡ true) (low_c0 : is_below piece.c0 d ≡ true) (low_h : is_below piece.h d ≡ true) (low_w : is_below piece.w d ≡ true) (low : SidesBelow s d) (is_width : s.width ≡ piece.w) where
  abbrev at : Piece
  at = piece_value piece f

  abbrev rows : Axis
  rows = rows_axis mapping shape piece.r0 piece.h

  abbrev columns : Axis
  columns = columns_axis mapping shape piece.c0 piece.w

  abbrev row_list : List Run
  row_list = row_runs mapping shape at

  abbrev column_list : List Run
  column_list = column_runs mapping shape at

  go_rows : GoesThrough rows d f (sourced row_list)
  go_rows = goes_rows mapping shape piece.r0 piece.h d f (value piece.c0 f) (value piece.w f) some_rows low_r0 low_h

  -- the columns are the same wherever more registers are in use
  go_columns : (k : ℕ) (g : ℕ → ℕ) → d ≤ k → Agree d g f → GoesThrough columns k g (sourced column_list)
  go_columns k g le same =
      let e_c = value_agree piece.c0 d g f same low_c0 in
      let e_w = value_agree piece.w d g f same low_w in
      let here = goes_columns mapping shape piece.c0 piece.w k g (value piece.r0 f) (value piece.h f) some_cols (below_more piece.c0 d k le low_c0) (below_more piece.w d k le low_w) in
      let runs : ℕ → ℕ → List SourcedRun = λ c w. sourced (column_runs mapping shape (record { r0 = value piece.r0 f; c0 = c; h = value piece.h f; w = w })) in
      goes_same columns k g (runs (value piece.c0 g) (value piece.w g)) (runs (value piece.c0 f) (value piece.w f)) (ap (λ c. runs c (value piece.w g)) e_c ∙ ap (runs (value piece.c0 f)) e_w) here

  go_single_columns : (k : ℕ) (g : ℕ → ℕ) → d ≤ k → Agree d g f → GoesThrough (singles_of columns) k g (sourced (singles column_list))
  go_single_columns k g le same = goes_same (singles_of columns) k g (flat_map singles_at (sourced column_list)) (sourced (singles column_list)) (sym (sourced_singles column_list)) (goes_singles columns k g (sourced column_list) (go_columns k g le same))

  go_single_rows : GoesThrough (singles_of rows) d f (sourced (singles row_list))
  go_single_rows = goes_same (singles_of rows) d f (flat_map singles_at (sourced row_list)) (sourced (singles row_list)) (sym (sourced_singles row_list)) (goes_singles rows d f (sourced row_list) go_rows)

  abbrev issued : List Patch → List Issue
  issued patches = sent s (value s.buffer f) (value s.width f) (value s.tag f) patches

  abbrev layout_here : Layout
  layout_here = record { width = value s.width f; row_pitch = s.row_pitch; column_pitch = s.column_pitch }

  by_lines : list_by value (lines_program s rows columns d) d f ≡ issued (lines layout_here row_list column_list)
  by_lines =
      lines_list s d f rows columns (sourced row_list) (sourced column_list) low go_rows go_columns
      ∙ sym (lines_sent s (value s.buffer f) (value s.width f) (value s.tag f) row_list column_list (rows_each mapping shape at has))

  by_single_lines : list_by value (lines_program s rows (singles_of columns) d) d f ≡ issued (lines layout_here row_list (singles column_list))
  by_single_lines =
      lines_list s d f rows (singles_of columns) (sourced row_list) (sourced (singles column_list)) low go_rows go_single_columns
      ∙ sym (lines_sent s (value s.buffer f) (value s.width f) (value s.tag f) row_list (singles column_list) (rows_each mapping shape at has))

  by_crosses : list_by value (crosses_program s (singles_of rows) columns d) d f ≡ issued (crosses layout_here (singles row_list) column_list)
  by_crosses =
      crosses_list s d f (singles_of rows) columns (sourced (singles row_list)) (sourced column_list) low go_single_rows go_columns
      ∙ sym (crosses_sent s (value s.buffer f) (value s.width f) (value s.tag f) (singles row_list) column_list (columns_each mapping shape at has))

  pub piece_list : list_by value (read_program mapping shape s piece d) d f ≡ issued (patches_of (keeps_neighbours mapping) layout_here (value piece.h f) row_list column_list)
  piece_list = go (keeps_neighbours mapping) refl
    where
      by_rows : Expr
      by_rows = Product piece.h (run_count mapping piece.c0 piece.w false)

      by_columns : Expr
      by_columns = Product (run_count mapping piece.r0 piece.h true) piece.w

      singly : Program
      singly = Both (UnlessLess by_columns by_rows (crosses_program s (singles_of rows) columns d)) (UnlessLess by_rows (Offset by_columns 1) (lines_program s rows (singles_of columns) d))

      choose : (t : Bool) → cond t (issued (crosses layout_here (singles row_list) column_list)) (issued (lines layout_here row_list (singles column_list)))
          ≡ issued (cond t (crosses layout_here (singles row_list) column_list) (lines layout_here row_list (singles column_list)))
      choose true = refl
      choose false = refl

      go : (keeps : Bool) → keeps_neighbours mapping ≡ keeps → list_by value (cond keeps (lines_program s rows columns d) singly) d f ≡ issued (patches_of keeps layout_here (value piece.h f) row_list column_list)
      go true is = by_lines
      go false is =
          let u = value by_rows f in
          let v = value by_columns f in
          let a = list_by value (crosses_program s (singles_of rows) columns d) d f in
          let b = list_by value (lines_program s rows (singles_of columns) d) d f in
          let xs = issued (crosses layout_here (singles row_list) column_list) in
          let ys = issued (lines layout_here row_list (singles column_list)) in
          let e_u : u ≡ value piece.h f * length column_list = ap (λ m. value piece.h f * m) (columns_count mapping shape piece.c0 piece.w f (value piece.r0 f) (value piece.h f) is) in
          let e_v : v ≡ length row_list * value s.width f = ap (λ m. m * value piece.w f) (rows_count mapping shape piece.r0 piece.h f (value piece.c0 f) (value piece.w f) is) ∙ ap (λ (e : Expr). length row_list * value e f) (sym is_width) in
          either_list u v a b ∙ ap (λ zs. cond (leb u v) zs b) by_crosses ∙ ap (λ zs. cond (leb u v) xs zs) by_single_lines
          ∙ ap (λ m. cond (leb m v) xs ys) e_u ∙ ap (λ m. cond (leb (value piece.h f * length column_list) m) xs ys) e_v ∙ choose (leb (value piece.h f * length column_list) (length row_list * value s.width f))

-- ---- the list of a leaf

pub leaves_issue_their_reads : LeavesIssueTheirReads
unfolding sent
leaves_issue_their_reads leaf from piece target d f is_extent has low =
    piece_list leaf.map leaf.shape (sides_of_leaf leaf from target.buffer piece.w target.tag) piece d f (omega (arith, is_extent.some_rows)) (omega (arith, is_extent.some_cols)) has low.r0 low.c0 low.h low.w
    (record { buffer = low.buffer; width = low.w; tag = low.tag }) refl
