-- How many steps the program of a leaf's piece takes.
use Rattle.std.proofs.Common.{◌≡◌, ℕ, ◌+◌, ◌*◌, ◌<◌, ◌≤◌, ◌⊎◌, inl, inr, max, ℤ, pos, negsuc, List, [], ◌∷◌, ◌++◌, length, refl, sym, ap, ◌∙◌, subst, arith, Bool, true, false, cond, eqb, ltb, Option, None, Some}
use Rattle.std.specs.Prelude.{map}
use Rattle.std.specs.List.{flat_map, range_with_len}
use Rattle.std.proofs.lemmas.Bool.{cond-true, cond-false, lt-ltb, le-ltb, cases_lt, and_from}
use Rattle.std.proofs.lemmas.List.{length-append, length-map}
use Rattle.std.proofs.lemmas.List.FromFn.{length-range_with_len}
use Rattle.std.proofs.lemmas.Nat.{mul-le}
use Rattle.ven_base.specs.declared.mapping.Mapping.{Mapping}
use Rattle.ven_base.specs.declared.mapping.Mapping.TheVariants.{Identity, Shift, Rotate, Section, Stretch, Transpose}
use Rattle.ven_base.specs.Extent.{Extent, IsExtent}
use Rattle.ven_base.specs.Mapping.{FitsShape, result_shape}
use Rattle.pass_plan.specs.declared.parts.Piece.{Piece}
use Rattle.pass_plan.specs.Tile.{IsPieceOf}
use Rattle.dma_segments.specs.declared.patches.Run.{Run}
use Rattle.dma_segments.specs.Run.{plain_runs, cut_runs, repeated_runs, row_runs, column_runs, single, singles}
use Rattle.dma_segments.proofs.Lists.{Each}
use Rattle.dma_segments.proofs.AxisRuns.{IsRunOf, AreRunsOf, row_axis, column_axis}
use Rattle.dma_segments.proofs.Axes.{singles_are}
use Rattle.dma_segments.proofs.Counts.{runs_few}
use Rattle.dma_segments.proofs.Pieces.{rows_are, columns_are}
use Rattle.host_programs.specs.Expr.{Expr, Number, Variable, Offset, Product, value, is_below}
use Rattle.host_programs.specs.ExprLaws.{Agree}
use Rattle.host_programs.specs.Program.{Program, Both, UnlessLess}
use Rattle.host_programs.proofs.Exprs.{below_more}
use Rattle.transfer_programs.specs.Axis.{RunExpr, Axis, scaled, singles_of}
use Rattle.transfer_programs.specs.SourcedRuns.{SourcedRun, sourced_from, sourced, IsRun}
use Rattle.transfer_programs.specs.ReadProgram.{SidesExpr, line_expr, cross_expr, patch_program, lines_program, crosses_program, plain_axis, cut_axis, repeated_axis, rows_axis, columns_axis, run_count, read_program, PieceExpr, sides_of_leaf, leaf_program, write_program}
use Rattle.transfer_programs.specs.ReadLaws.{piece_value}
use Rattle.transfer_programs.specs.Cost.{bring_size, program_size, most_steps}
use Rattle.transfer_programs.specs.CostLaws.{leaf_room, leaf_steps, LeavesTakeFewSteps, WritesTakeFewSteps}
use Rattle.transfer_programs.proofs.Axes.{value_agree, value_scaled, below_scaled, run_parts, run_later, singles_at}
use Rattle.transfer_programs.proofs.AxisRuns.{repeated_by}
use Rattle.transfer_programs.proofs.CostPrograms.{bring_least}
use Rattle.transfer_programs.proofs.CostSizes.{bring_scaled, RunSizes, IsSized, single_sizes, SizedSides, line_sizes, line_sized, cross_sizes, cross_sized, SizedAxis, sizes_of, axis_size, copies_of, stretch_sizes, stretch_sized, sized_rows, sized_columns, named_piece, piece_named, read_size, write_sized, plain_sizes, further_sizes}
use Rattle.transfer_programs.proofs.CostSteps.{is_straight, straight_least, total_same, total_most, counts, HavePlaces, CoverAtMost, length_counts, total_places, singles_length, idle_body, AxisSpends, spends_one, spends_rule, spends_singles, low_size, full_size, patch_steps}

-- ---- rows times columns

module _ (s : SidesExpr) (d : ℕ) (f : ℕ → ℕ) (rows columns : Axis) (sa sb : RunSizes) (row_values column_values : List SourcedRun) (h w over : ℕ)
    (sides : SizedSides s) (at_hand : bring_size s.width ≤ 0) (some_h : 1 ≤ h) (some_w : 1 ≤ w) (cover_r : CoverAtMost row_values h) (cover_c : CoverAtMost column_values w)
    (spends_r : AxisSpends sa rows d f row_values) (spends_c : (k : ℕ) (g : ℕ → ℕ) → d ≤ k → Agree d g f → AxisSpends sb columns k g column_values)
    (over_r : program_size (rows d idle_body) ≤ over) (over_c : (k : ℕ) → program_size (columns k idle_body) ≤ over) where
  few_rows : length row_values ≤ h
  few_rows = omega (arith, length_counts row_values cover_r.some, cover_r.few)

  few_columns : length column_values ≤ w
  few_columns = omega (arith, length_counts column_values cover_c.some, cover_c.few)

  module _ (u : ℕ) where
    -- whole lines, of which each takes so many steps for each row
    lines_spend : low_size (line_sizes sa sb) ≤ u → full_size (line_sizes sa sb) ≤ 2 * u → most_steps (lines_program s rows columns d) d f ≤ (over + over + 6 + u) * (h * w)
    lines_spend low full =
        let n = length column_values in
        let each : SourcedRun → ℕ = λ va. over + (3 + u * max va.count 1) * n in
        let whole = spends_r.takes (λ k a. columns k (λ l b. patch_program false s (line_expr s a b) l)) each (record { spends = one }) in
        let even = total_most (λ va. 3 + each va) (λ va. (3 + over + 3 * n) + (u * n) * max va.count 1) row_values (λ va. omega arith) in
        let sum = total_places (3 + over + 3 * n) (u * n) row_values cover_r.some in
        let a = mul-le (3 + over + 3 * n) (length row_values) (3 + over + 3 * w) h (omega (arith, few_columns)) few_rows in
        let b = mul-le (u * n) (counts row_values) (u * w) h (mul-le u n u w (omega arith) few_columns) cover_r.few in
        let c = mul-le over 1 over (h * w) (omega arith) (mul-le 1 1 h w some_h some_w) in
        let e = mul-le ((3 + over) * h) 1 ((3 + over) * h) w (omega arith) some_w in
        omega (arith, whole, even, sum, a, b, c, e, over_r)
      where
        one : (k : ℕ) (g : ℕ → ℕ) (a : RunExpr) (va : SourcedRun) → d ≤ k → Agree d g f → IsRun a k g va → IsSized a sa
            → most_steps (columns k (λ l b. patch_program false s (line_expr s a b) l)) k g ≤ over + (3 + u * max va.count 1) * length column_values
        one k g a va le same is sized =
            let inner = (spends_c k g le same).takes (λ l b. patch_program false s (line_expr s a b) l) (λ vb. u * max va.count 1) (record {
              spends = λ l h b vb more agree is_b sized_b.
                  let is_a = run_later a k l g h va more agree is in
                  patch_steps false s (line_expr s a b) (line_sizes sa sb) l h sides (line_sized s a b sa sb at_hand sized sized_b) u va.count (run_parts a l is_a.below).count (ap (λ (v : SourcedRun). v.count) is_a.values) low full;
            }) in
            omega (arith, inner, over_c k, total_same (3 + u * max va.count 1) column_values)

    -- element by element along the rows, of which each run of columns takes so many steps for each of its places
    crosses_spend : low_size (cross_sizes (single_sizes sa) sb) ≤ u → full_size (cross_sizes (single_sizes sa) sb) ≤ 2 * u
        → most_steps (crosses_program s (singles_of rows) columns d) d f ≤ (over + over + sa.count + 13 + u) * (h * w)
    crosses_spend low full =
        let each : ℕ = over + (3 * w + u * w) in
        let whole = spends_singles sa rows d f row_values (λ k a. columns k (λ l b. patch_program false s (cross_expr s a b) l)) (λ va. each) spends_r (record { spends = one }) in
        let sum = total_same (3 + each) (flat_map singles_at row_values) in
        let count = singles_length row_values in
        let a = mul-le (sa.count + 7) (length row_values) (sa.count + 7) h (omega arith) few_rows in
        let b = mul-le (3 + each) (length (flat_map singles_at row_values)) (3 + each) h (omega arith) (omega (arith, count, cover_r.few)) in
        let c = mul-le over 1 over (h * w) (omega arith) (mul-le 1 1 h w some_h some_w) in
        let e = mul-le ((sa.count + 7 + 3 + over) * h) 1 ((sa.count + 7 + 3 + over) * h) w (omega arith) some_w in
        omega (arith, whole, sum, a, b, c, e, over_r)
      where
        one : (k : ℕ) (g : ℕ → ℕ) (a : RunExpr) (va : SourcedRun) → d ≤ k → Agree d g f → IsRun a k g va → IsSized a (single_sizes sa)
            → most_steps (columns k (λ l b. patch_program false s (cross_expr s a b) l)) k g ≤ over + (3 * w + u * w)
        one k g a va le same is sized =
            let inner = (spends_c k g le same).takes (λ l b. patch_program false s (cross_expr s a b) l) (λ vb. u * max vb.count 1) (record {
              spends = λ l h b vb more agree is_b sized_b.
                  patch_steps false s (cross_expr s a b) (cross_sizes (single_sizes sa) sb) l h sides (cross_sized s a b (single_sizes sa) sb at_hand sized sized_b) u vb.count (run_parts b l is_b.below).count (ap (λ (v : SourcedRun). v.count) is_b.values) low full;
            }) in
            let x = mul-le 3 (length column_values) 3 w (omega arith) few_columns in
            let y = mul-le u (counts column_values) u w (omega arith) cover_c.few in
            omega (arith, inner, over_c k, total_places 3 u column_values cover_c.some, x, y)

    -- and along the columns
    columns_spend : low_size (line_sizes sa (single_sizes sb)) ≤ u → full_size (line_sizes sa (single_sizes sb)) ≤ 2 * u
        → most_steps (lines_program s rows (singles_of columns) d) d f ≤ (over + over + sb.count + 13 + u) * (h * w)
    columns_spend low full =
        let each : SourcedRun → ℕ = λ va. over + ((sb.count + 7) * w + (3 + u * max va.count 1) * w) in
        let whole = spends_r.takes (λ k a. singles_of columns k (λ l b. patch_program false s (line_expr s a b) l)) each (record { spends = one }) in
        let even = total_most (λ va. 3 + each va) (λ va. (3 + over + (sb.count + 10) * w) + (u * w) * max va.count 1) row_values (λ va. omega arith) in
        let sum = total_places (3 + over + (sb.count + 10) * w) (u * w) row_values cover_r.some in
        let a = mul-le (3 + over + (sb.count + 10) * w) (length row_values) (3 + over + (sb.count + 10) * w) h (omega arith) few_rows in
        let b = mul-le (u * w) (counts row_values) (u * w) h (omega arith) cover_r.few in
        let c = mul-le over 1 over (h * w) (omega arith) (mul-le 1 1 h w some_h some_w) in
        let e = mul-le ((3 + over) * h) 1 ((3 + over) * h) w (omega arith) some_w in
        omega (arith, whole, even, sum, a, b, c, e, over_r)
      where
        one : (k : ℕ) (g : ℕ → ℕ) (a : RunExpr) (va : SourcedRun) → d ≤ k → Agree d g f → IsRun a k g va → IsSized a sa
            → most_steps (singles_of columns k (λ l b. patch_program false s (line_expr s a b) l)) k g ≤ over + ((sb.count + 7) * w + (3 + u * max va.count 1) * w)
        one k g a va le same is sized =
            let inner = spends_singles sb columns k g column_values (λ l b. patch_program false s (line_expr s a b) l) (λ vb. u * max va.count 1) (spends_c k g le same) (record {
              spends = λ l h b vb more agree is_b sized_b.
                  let is_a = run_later a k l g h va more agree is in
                  patch_steps false s (line_expr s a b) (line_sizes sa (single_sizes sb)) l h sides (line_sized s a b sa (single_sizes sb) at_hand sized sized_b) u va.count (run_parts a l is_a.below).count (ap (λ (v : SourcedRun). v.count) is_a.values) low full;
            }) in
            let sum = total_same (3 + u * max va.count 1) (flat_map singles_at column_values) in
            let x = mul-le (sb.count + 7) (length column_values) (sb.count + 7) w (omega arith) few_columns in
            let y = mul-le (3 + u * max va.count 1) (length (flat_map singles_at column_values)) (3 + u * max va.count 1) w (omega arith) (omega (arith, singles_length column_values, cover_c.few)) in
            omega (arith, inner, over_c k, sum, x, y)

-- ---- the runs of an axis

places_sourced : (runs : List Run) → counts (sourced runs) ≤ length (singles runs)
places_sourced [] = omega arith
places_sourced (run ∷ runs) =
    let whole = length-append (map (single run) (range_with_len 0 run.count)) (singles runs) in
    let here = length-map (range_with_len 0 run.count) (single run) in
    omega (arith, whole, here, length-range_with_len 0 run.count, go (places_sourced runs) run.source)
  where
    go : counts (sourced runs) ≤ length (singles runs) → (o : Option ℕ) → counts (sourced_from o run ++ sourced runs) ≤ run.count + length (singles runs)
    go rest None = omega (arith, rest)
    go rest (Some x) = omega (arith, rest)

have_places : (n : ℕ) (axis : ℕ → Option ℕ) (runs : List Run) → Each (IsRunOf n axis) runs → HavePlaces (sourced runs)
have_places n axis [] all = tt
have_places n axis (run ∷ runs) all = go (have_places n axis runs all.1) run.source
  where
    go : HavePlaces (sourced runs) → (o : Option ℕ) → HavePlaces (sourced_from o run ++ sourced runs)
    go rest None = rest
    go rest (Some x) = (all.0.some, rest)

cover_runs : (n : ℕ) (axis : ℕ → Option ℕ) (runs : List Run) → AreRunsOf n axis runs → CoverAtMost (sourced runs) n
cover_runs n axis runs all = record {
  some = have_places n axis runs all.each;
  few = omega (arith, places_sourced runs, runs_few n axis (singles runs) (singles_are n axis runs all));
}

-- ---- axes over names

module _ (start n : ℕ) (d : ℕ) (f : ℕ → ℕ) (low_start : is_below (Variable start) d ≡ true) (low_n : is_below (Variable n) d ≡ true) where
  spends_plain : AxisSpends plain_sizes (plain_axis (Variable start) (Variable n)) d f (sourced (plain_runs (f start) (f n)))
  spends_plain =
      let run : RunExpr = record { first = Number 0; step = Number 1; count = Variable n; source = Variable start; source_step = Number 1 } in
      let v : SourcedRun = record { first = 0; step = 1; count = f n; source = f start; source_step = 1 } in
      spends_one plain_sizes run d f v (record { below = and_from _ _ refl (and_from _ _ refl (and_from _ _ low_n (and_from _ _ low_start refl))); values = refl })
      (record { first_size = omega arith; step_size = omega arith; count_size = omega arith; source_size = omega arith; source_step_size = omega arith })

  spends_cut : (first step : ℕ) → AxisSpends further_sizes (cut_axis first step (Variable start) (Variable n)) d f (sourced (cut_runs first step (f start) (f n)))
  spends_cut first step =
      let run : RunExpr = record { first = Number 0; step = Number 1; count = Variable n; source = Offset (scaled (Variable start) step) first; source_step = Number step } in
      let made : ℕ → SourcedRun = λ m. record { first = 0; step = 1; count = f n; source = m; source_step = step } in
      let e : value (scaled (Variable start) step) f + first ≡ first + f start * step = omega (arith, value_scaled (Variable start) step f) in
      spends_one further_sizes run d f (made (first + f start * step))
      (record {
        below = and_from _ _ refl (and_from _ _ refl (and_from _ _ low_n (and_from _ _ (below_scaled (Variable start) step d low_start) refl)));
        values = ap made e;
      })
      (record { first_size = omega arith; step_size = omega arith; count_size = omega arith; source_size = omega (arith, bring_scaled (Variable start) step); source_step_size = omega arith })

  spends_repeated : (k : ℕ) → AxisSpends stretch_sizes (repeated_axis k (Variable start) (Variable n)) d f (sourced (repeated_runs k (f start) (f n)))
  spends_repeated k =
      repeated_by (λ run. IsSized run stretch_sizes) (AxisSpends stretch_sizes) (spends_rule stretch_sizes) k (Variable start) (Variable n) d f low_start low_n (λ flag first r. stretch_sized k start n flag first r)

-- the maps whose programs have loops
abbrev has_loops : Mapping → Bool
has_loops (Section r0 nr sr c0 nc sc) = true
has_loops (Stretch kr kc) = true
has_loops Transpose = true
has_loops _ = false

spends_rows : (mapping : Mapping) (shape : Extent) (start n c w : ℕ) (d : ℕ) (f : ℕ → ℕ) → has_loops mapping ≡ true → is_below (Variable start) d ≡ true → is_below (Variable n) d ≡ true
    → AxisSpends (sizes_of mapping) (rows_axis mapping shape (Variable start) (Variable n)) d f (sourced (row_runs mapping shape (record { r0 = f start; c0 = c; h = f n; w = w })))
spends_rows Identity shape start n c w d f loops low_start low_n = absurd (cc loops)
spends_rows (Shift dr dc fill) shape start n c w d f loops low_start low_n = absurd (cc loops)
spends_rows (Rotate dr dc) shape start n c w d f loops low_start low_n = absurd (cc loops)
spends_rows (Section r0 nr sr c0 nc sc) shape start n c w d f loops low_start low_n = spends_cut start n d f low_start low_n r0 sr
spends_rows (Stretch kr kc) shape start n c w d f loops low_start low_n = spends_repeated start n d f low_start low_n kr
spends_rows Transpose shape start n c w d f loops low_start low_n = spends_plain start n d f low_start low_n

spends_columns : (mapping : Mapping) (shape : Extent) (start n r h : ℕ) (d : ℕ) (f : ℕ → ℕ) → has_loops mapping ≡ true → is_below (Variable start) d ≡ true → is_below (Variable n) d ≡ true
    → AxisSpends (sizes_of mapping) (columns_axis mapping shape (Variable start) (Variable n)) d f (sourced (column_runs mapping shape (record { r0 = r; c0 = f start; h = h; w = f n })))
spends_columns Identity shape start n r h d f loops low_start low_n = absurd (cc loops)
spends_columns (Shift dr dc fill) shape start n r h d f loops low_start low_n = absurd (cc loops)
spends_columns (Rotate dr dc) shape start n r h d f loops low_start low_n = absurd (cc loops)
spends_columns (Section r0 nr sr c0 nc sc) shape start n r h d f loops low_start low_n = spends_cut start n d f low_start low_n c0 sc
spends_columns (Stretch kr kc) shape start n r h d f loops low_start low_n = spends_repeated start n d f low_start low_n kc
spends_columns Transpose shape start n r h d f loops low_start low_n = spends_plain start n d f low_start low_n

one_copy : (mapping : Mapping) → has_loops mapping ≡ true → copies_of mapping ≡ 1
one_copy Identity loops = absurd (cc loops)
one_copy (Shift dr dc fill) loops = absurd (cc loops)
one_copy (Rotate dr dc) loops = absurd (cc loops)
one_copy (Section r0 nr sr c0 nc sc) loops = refl
one_copy (Stretch kr kc) loops = refl
one_copy Transpose loops = refl

idle_size : (axis : Axis) (sizes : RunSizes) (over copies k : ℕ) → SizedAxis axis sizes over copies → program_size (axis k idle_body) ≤ over
idle_size axis sizes over copies k sized = omega (arith, sized.takes k idle_body 0 (record { takes = λ l run is. omega arith }))

-- ---- one of two programs, whichever issues fewer commands

abbrev either_program : (u v : Expr) (p q : Program) → Program
either_program u v p q = Both (UnlessLess u v p) (UnlessLess v (Offset u 1) q)

either_spends : (u v : Expr) (p q : Program) (g most : ℕ) (d : ℕ) (f : ℕ → ℕ) → bring_size u ≤ g → bring_size v ≤ g → most_steps p d f ≤ most → most_steps q d f ≤ most
    → most_steps (either_program u v p q) d f ≤ 4 * g + 3 + most
either_spends u v p q g most d f small_u small_v first second =
    omega (arith, bring_least u f, bring_least v f, bring_least (Offset u 1) f, small_u, small_v, one (cases_lt (value u f) (value v f)))
  where
    one : ((value u f < value v f) ⊎ (value v f ≤ value u f)) → cond (ltb (value u f) (value v f)) 0 (most_steps p d f) + cond (ltb (value v f) (value u f + 1)) 0 (most_steps q d f) ≤ most
    one (inl lt) =
        let a = cond-true (ltb (value u f) (value v f)) 0 (most_steps p d f) (lt-ltb (value u f) (value v f) lt) in
        let b = cond-false (ltb (value v f) (value u f + 1)) 0 (most_steps q d f) (le-ltb (value v f) (value u f + 1) (omega (arith, lt))) in
        omega (arith, a, b, second)
    one (inr le) =
        let a = cond-false (ltb (value u f) (value v f)) 0 (most_steps p d f) (le-ltb (value u f) (value v f) le) in
        let b = cond-true (ltb (value v f) (value u f + 1)) 0 (most_steps q d f) (lt-ltb (value v f) (value u f + 1) (omega (arith, le))) in
        omega (arith, a, b, first)

-- ---- a leaf's piece

two_limits : (t : Bool) (p q : Program) (d : ℕ) (f : ℕ → ℕ) (most : ℕ) → most_steps p d f ≤ most → most_steps q d f ≤ most → most_steps (cond t p q) d f ≤ most
two_limits true p q d f most first second = first
two_limits false p q d f most first second = second

straight_shift : (dr dc : ℤ) (fill : ℤ) (shape : Extent) (s : SidesExpr) (r c h w d : ℕ) → is_straight (read_program (Shift dr dc fill) shape s (named_piece r c h w) d) ≡ true
straight_shift (pos k) (pos l) fill shape s r c h w d = refl
straight_shift (pos k) (negsuc l) fill shape s r c h w d = refl
straight_shift (negsuc k) (pos l) fill shape s r c h w d = refl
straight_shift (negsuc k) (negsuc l) fill shape s r c h w d = refl

module _ (shape : Extent) (s : SidesExpr) (r c h w d : ℕ) (f : ℕ → ℕ) (sides : SizedSides s) (at_hand : bring_size s.width ≤ 0) (extent : IsExtent shape)
    (low_r : is_below (Variable r) d ≡ true) (low_c : is_below (Variable c) d ≡ true) (low_h : is_below (Variable h) d ≡ true) (low_w : is_below (Variable w) d ≡ true) where
  abbrev at : Piece
  at = record { r0 = f r; c0 = f c; h = f h; w = f w }

  abbrev area : ℕ
  area = f h * f w

  module _ (mapping : Mapping) (fits : FitsShape mapping shape) (inside : IsPieceOf (result_shape mapping shape) at) where
    abbrev rows : Axis
    rows = rows_axis mapping shape (Variable r) (Variable h)

    abbrev columns : Axis
    columns = columns_axis mapping shape (Variable c) (Variable w)

    abbrev row_values : List SourcedRun
    row_values = sourced (row_runs mapping shape at)

    abbrev column_values : List SourcedRun
    column_values = sourced (column_runs mapping shape at)

    some_area : 1 ≤ area
    some_area = mul-le 1 1 (f h) (f w) inside.some_rows inside.some_cols

    -- without loops
    straight_steps : is_straight (read_program mapping shape s (named_piece r c h w) d) ≡ true → most_steps (read_program mapping shape s (named_piece r c h w) d) d f ≤ leaf_room mapping * area
    straight_steps straight =
        let few = straight_least (read_program mapping shape s (named_piece r c h w) d) d f straight in
        omega (arith, few, read_size shape s r c h w d sides at_hand mapping, mul-le (leaf_room mapping) 1 (leaf_room mapping) area (omega arith) some_area)

    module _ (loops : has_loops mapping ≡ true) where
      cover_r : CoverAtMost row_values (f h)
      cover_r = cover_runs (f h) (row_axis mapping shape at) (row_runs mapping shape at) (rows_are shape at mapping extent fits inside)

      cover_c : CoverAtMost column_values (f w)
      cover_c = cover_runs (f w) (column_axis mapping shape at) (column_runs mapping shape at) (columns_are shape at mapping extent fits inside)

      spends_r : AxisSpends (sizes_of mapping) rows d f row_values
      spends_r = spends_rows mapping shape r h (f c) (f w) d f loops low_r low_h

      spends_c : (k : ℕ) (g : ℕ → ℕ) → d ≤ k → Agree d g f → AxisSpends (sizes_of mapping) columns k g column_values
      spends_c k g le same =
          let e_c : g c ≡ f c = value_agree (Variable c) d g f same low_c in
          let e_w : g w ≡ f w = value_agree (Variable w) d g f same low_w in
          let here = spends_columns mapping shape c w (f r) (f h) k g loops (below_more (Variable c) d k le low_c) (below_more (Variable w) d k le low_w) in
          let runs : ℕ → ℕ → List SourcedRun = λ x y. sourced (column_runs mapping shape (record { r0 = f r; c0 = x; h = f h; w = y })) in
          subst (λ vs. AxisSpends (sizes_of mapping) columns k g vs) (ap (λ x. runs x (g w)) e_c ∙ ap (runs (f c)) e_w) here

      over_r : program_size (rows d idle_body) ≤ axis_size mapping
      over_r = idle_size rows (sizes_of mapping) (axis_size mapping) (copies_of mapping) d (sized_rows mapping shape r h)

      over_c : (k : ℕ) → program_size (columns k idle_body) ≤ axis_size mapping
      over_c k = idle_size columns (sizes_of mapping) (axis_size mapping) (copies_of mapping) k (sized_columns mapping shape c w)

      kept_steps : (u : ℕ) → low_size (line_sizes (sizes_of mapping) (sizes_of mapping)) ≤ u → full_size (line_sizes (sizes_of mapping) (sizes_of mapping)) ≤ 2 * u
          → most_steps (lines_program s rows columns d) d f ≤ (axis_size mapping + axis_size mapping + 6 + u) * area
      kept_steps u low full =
          lines_spend s d f rows columns (sizes_of mapping) (sizes_of mapping) row_values column_values (f h) (f w) (axis_size mapping) sides at_hand inside.some_rows inside.some_cols cover_r cover_c spends_r spends_c over_r over_c u low full

      single_rows_steps : (u : ℕ) → low_size (cross_sizes (single_sizes (sizes_of mapping)) (sizes_of mapping)) ≤ u → full_size (cross_sizes (single_sizes (sizes_of mapping)) (sizes_of mapping)) ≤ 2 * u
          → most_steps (crosses_program s (singles_of rows) columns d) d f ≤ (axis_size mapping + axis_size mapping + (sizes_of mapping).count + 13 + u) * area
      single_rows_steps u low full =
          crosses_spend s d f rows columns (sizes_of mapping) (sizes_of mapping) row_values column_values (f h) (f w) (axis_size mapping) sides at_hand inside.some_rows inside.some_cols cover_r cover_c spends_r spends_c over_r over_c u low full

      single_columns_steps : (u : ℕ) → low_size (line_sizes (sizes_of mapping) (single_sizes (sizes_of mapping))) ≤ u → full_size (line_sizes (sizes_of mapping) (single_sizes (sizes_of mapping))) ≤ 2 * u
          → most_steps (lines_program s rows (singles_of columns) d) d f ≤ (axis_size mapping + axis_size mapping + (sizes_of mapping).count + 13 + u) * area
      single_columns_steps u low full =
          columns_spend s d f rows columns (sizes_of mapping) (sizes_of mapping) row_values column_values (f h) (f w) (axis_size mapping) sides at_hand inside.some_rows inside.some_cols cover_r cover_c spends_r spends_c over_r over_c u low full

      abbrev by_rows : Expr
      by_rows = Product (Variable h) (run_count mapping (Variable c) (Variable w) false)

      abbrev by_columns : Expr
      by_columns = Product (run_count mapping (Variable r) (Variable h) true) (Variable w)

      abbrev singly : Program
      singly = either_program by_columns by_rows (crosses_program s (singles_of rows) columns d) (lines_program s rows (singles_of columns) d)

      single_steps : (g u : ℕ) → bring_size by_columns ≤ g → bring_size by_rows ≤ g
          → low_size (cross_sizes (single_sizes (sizes_of mapping)) (sizes_of mapping)) ≤ u → full_size (cross_sizes (single_sizes (sizes_of mapping)) (sizes_of mapping)) ≤ 2 * u
          → low_size (line_sizes (sizes_of mapping) (single_sizes (sizes_of mapping))) ≤ u → full_size (line_sizes (sizes_of mapping) (single_sizes (sizes_of mapping))) ≤ 2 * u
          → most_steps singly d f ≤ (4 * g + 3 + (axis_size mapping + axis_size mapping + (sizes_of mapping).count + 13 + u)) * area
      single_steps g u small_u small_v low_rows full_rows low_columns full_columns =
          let k = axis_size mapping + axis_size mapping + (sizes_of mapping).count + 13 + u in
          let whole = either_spends by_columns by_rows (crosses_program s (singles_of rows) columns d) (lines_program s rows (singles_of columns) d) g (k * area) d f small_u small_v (single_rows_steps u low_rows full_rows) (single_columns_steps u low_columns full_columns) in
          omega (arith, whole, mul-le (4 * g + 3) 1 (4 * g + 3) area (omega arith) some_area)

  pub read_steps : (mapping : Mapping) → FitsShape mapping shape → IsPieceOf (result_shape mapping shape) at → most_steps (read_program mapping shape s (named_piece r c h w) d) d f ≤ leaf_steps mapping * area
  read_steps Identity fits inside = straight_steps Identity fits inside refl
  read_steps (Shift dr dc fill) fits inside = straight_steps (Shift dr dc fill) fits inside (straight_shift dr dc fill shape s r c h w d)
  read_steps (Rotate dr dc) fits inside = straight_steps (Rotate dr dc) fits inside refl
  read_steps (Section r0 nr sr c0 nc sc) fits inside =
      let m = Section r0 nr sr c0 nc sc in
      let kept = kept_steps m fits inside refl 64 (omega arith) (omega arith) in
      let singly = single_steps m fits inside refl 2 56 (omega arith) (omega arith) (omega arith) (omega arith) (omega arith) (omega arith) in
      two_limits (eqb sc 1) _ _ d f (80 * area) (omega (arith, kept)) (omega (arith, singly))
  read_steps (Stretch kr kc) fits inside =
      let m = Stretch kr kc in
      let kept = kept_steps m fits inside refl 197 (omega arith) (omega arith) in
      let singly = single_steps m fits inside refl 28 149 (omega arith) (omega arith) (omega arith) (omega arith) (omega arith) (omega arith) in
      two_limits (eqb kc 1) _ _ d f (363 * area) (omega (arith, kept)) (omega (arith, singly))
  read_steps Transpose fits inside = omega (arith, single_steps Transpose fits inside refl 2 56 (omega arith) (omega arith) (omega arith) (omega arith) (omega arith) (omega arith))

pub leaves_take_few_steps : LeavesTakeFewSteps
leaves_take_few_steps leaf from piece target d f extent fits inside low names =
    let (r, c, h, w, is) = piece_named piece target names in
    go r c h w is
  where
    go : (r c h w : ℕ) → piece ≡ named_piece r c h w → most_steps (leaf_program leaf from piece target d) d f ≤ leaf_steps leaf.map * (value piece.h f * value piece.w f)
    go r c h w is =
        let sides = sides_of_leaf leaf from target.buffer (Variable w) target.tag in
        let inside' : IsPieceOf (result_shape leaf.map leaf.shape) (piece_value (named_piece r c h w) f) = subst (λ (q : PieceExpr). IsPieceOf (result_shape leaf.map leaf.shape) (piece_value q f)) is inside in
        let low_r : is_below (Variable r) d ≡ true = subst (λ (q : PieceExpr). is_below q.r0 d ≡ true) is low.r0 in
        let low_c : is_below (Variable c) d ≡ true = subst (λ (q : PieceExpr). is_below q.c0 d ≡ true) is low.c0 in
        let low_h : is_below (Variable h) d ≡ true = subst (λ (q : PieceExpr). is_below q.h d ≡ true) is low.h in
        let low_w : is_below (Variable w) d ≡ true = subst (λ (q : PieceExpr). is_below q.w d ≡ true) is low.w in
        let here = read_steps leaf.shape sides r c h w d f (record { buffer_size = names.buffer; tag_size = names.tag }) (omega arith) extent low_r low_c low_h low_w leaf.map fits inside' in
        subst (λ (q : PieceExpr). most_steps (leaf_program leaf from q target d) d f ≤ leaf_steps leaf.map * (value q.h f * value q.w f)) (sym is) here

pub writes_take_few_steps : WritesTakeFewSteps
writes_take_few_steps to piece target d f names = omega (arith, straight_least (write_program to piece target d) d f refl, write_sized to piece target d names)
