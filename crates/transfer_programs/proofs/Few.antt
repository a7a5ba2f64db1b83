-- The programs of pieces take few registers.
use Rattle.std.proofs.Common.{ℕ, suc, ◌+◌, ◌≤◌, max, min, ℤ, pos, negsuc, arith, Bool, true, false, cond, eqb}
use Rattle.std.proofs.lemmas.Bool.{cond_both}
use Rattle.ven_base.specs.declared.mapping.Mapping.{Mapping}
use Rattle.ven_base.specs.declared.mapping.Mapping.TheVariants.{Identity, Shift, Rotate, Section, Stretch, Transpose}
use Rattle.ven_base.specs.Extent.{Extent}
use Rattle.ven_base.specs.Place.{place_round}
use Rattle.dma_segments.specs.Patch.{keeps_neighbours}
use Rattle.host_programs.specs.Expr.{Expr, Number, Variable, Offset, Sum, Difference, Product, Quotient, Remainder, IfLess}
use Rattle.host_programs.specs.Program.{Program, Both, UnlessLess, For}
use Rattle.host_programs.specs.Room.{room, program_room}
use Rattle.transfer_programs.specs.Axis.{RunExpr, scaled, times, plus, lesser, single_run, Axis, one_run, some_run, named, both_axes, each_run, pick, pick_run, either_runs, singles_of}
use Rattle.transfer_programs.specs.ReadProgram.{SidesExpr, PatchExpr, line_expr, cross_expr, is_joined, patch_program, lines_program, crosses_program, plain_axis, neighbours_axis, later_axis, shifted_axis, round_axis, cut_axis, phase_expr, block_expr, repeated_axis, rows_axis, columns_axis, run_count, PieceExpr, read_program, sides_of_leaf, whole_expr, sides_of_array}
use Rattle.transfer_programs.specs.ReadLaws.{ReadsTakeFew, WritesTakeFew}

pub room_scaled : (e : Expr) (n : ℕ) → room (scaled e n) ≤ max (room e) 2
room_scaled e n = cond_both (eqb n 1) e (Product e (Number n)) (λ x. room x ≤ max (room e) 2) (λ q. omega arith) (λ q. omega arith)

pub room_times : (a b : Expr) → room (times a b) ≤ max (max (room a) (room b + 1)) 2
room_times (Number n) b = cond_both (eqb n 0) (Number 0) (scaled b n) (λ x. room x ≤ max (max 1 (room b + 1)) 2) (λ q. omega arith) (λ q. omega (arith, room_scaled b n))
room_times _ b = omega arith

pub room_plus : (a b : Expr) → room (plus a b) ≤ max (room a) (room b + 1)
room_plus (Number n) b = cond_both (eqb n 0) b (Offset b n) (λ x. room x ≤ max 1 (room b + 1)) (λ q. omega arith) (λ q. omega arith)
room_plus _ b = omega arith

-- ---- axes

record SmallRun (run : RunExpr) (most : ℕ) : Type 0 where
  first : room run.first ≤ most
  step : room run.step ≤ most
  count : room run.count ≤ most
  source : room run.source ≤ most
  source_step : room run.source_step ≤ most

record FewBody (body : ℕ → RunExpr → Program) (most few : ℕ) : Type 0 where
  takes : (k : ℕ) (run : RunExpr) → SmallRun run most → program_room (body k run) ≤ few

record FewAxis (axis : Axis) (most more : ℕ) : Type 0 where
  takes : (d : ℕ) (body : ℕ → RunExpr → Program) (few : ℕ) → 8 ≤ few → FewBody body most few → program_room (axis d body) ≤ more + few

few_one : (run : RunExpr) → SmallRun run 4 → FewAxis (one_run run) 4 0
few_one run small = record { takes = λ d body few enough all. omega (arith, all.takes d run small) }

few_some : (count : Expr) (run : Expr → RunExpr) → room count ≤ 8 → ((d : ℕ) → SmallRun (run (Variable d)) 4) → FewAxis (some_run count run) 4 1
few_some count run low small = record { takes = λ d body few enough all. omega (arith, all.takes (d + 1) (run (Variable d)) (small d), low, enough) }

few_named : (e : Expr) (axis : Expr → Axis) (more : ℕ) → room e ≤ 8 → ((d : ℕ) → FewAxis (axis (Variable d)) 4 more) → FewAxis (named e axis) 4 (more + 1)
few_named e axis more low inner = record { takes = λ d body few enough all. omega (arith, (inner d).takes (d + 1) body few enough all, low, enough) }

few_both : (a b : Axis) (more : ℕ) → FewAxis a 4 more → FewAxis b 4 more → FewAxis (both_axes a b) 4 more
few_both a b more first second = record { takes = λ d body few enough all. omega (arith, first.takes d body few enough all, second.takes d body few enough all) }

few_each : (count : Expr) (run : Expr → RunExpr) → room count ≤ 8 → ((d : ℕ) → SmallRun (run (Variable d)) 4) → FewAxis (each_run count run) 4 2
few_each count run low small = record { takes = λ d body few enough all. omega (arith, all.takes (d + 2) (run (Variable (d + 1))) (small (d + 1)), low, enough) }

few_single : (run : RunExpr) (r : ℕ) → SmallRun run 4 → SmallRun (single_run run (Variable r)) 5
few_single run r small = record {
  first = omega (arith, room_plus run.first (times run.step (Variable r)), room_times run.step (Variable r), small.first, small.step);
  step = omega arith;
  count = omega arith;
  source = omega (arith, room_plus run.source (times run.source_step (Variable r)), room_times run.source_step (Variable r), small.source, small.source_step);
  source_step = omega arith;
}

few_singles : (axis : Axis) (more : ℕ) → FewAxis axis 4 more → FewAxis (singles_of axis) 5 (more + 2)
few_singles axis more inner = record {
  takes = λ d body few enough all.
      let turns = inner.takes d (λ k run. For run.count (body (k + 2) (single_run run (Variable (k + 1))))) (few + 2) (omega (arith, enough)) (record {
        takes = λ k run small. omega (arith, small.count, enough, all.takes (k + 2) (single_run run (Variable (k + 1))) (few_single run (k + 1) small));
      }) in
      omega (arith, turns);
}

-- what is right for any runs of up to 5 registers is right for those of up to 4
few_more : (body : ℕ → RunExpr → Program) (few : ℕ) → FewBody body 5 few → FewBody body 4 few
few_more body few all = record {
  takes = λ k run small. all.takes k run (record {
    first = omega (arith, small.first);
    step = omega (arith, small.step);
    count = omega (arith, small.count);
    source = omega (arith, small.source);
    source_step = omega (arith, small.source_step);
  });
}

small_up : (run : RunExpr) (a b : ℕ) → a ≤ b → SmallRun run a → SmallRun run b
small_up run a b le small = record {
  first = omega (arith, le, small.first);
  step = omega (arith, le, small.step);
  count = omega (arith, le, small.count);
  source = omega (arith, le, small.source);
  source_step = omega (arith, le, small.source_step);
}

few_up : (axis : Axis) (a b : ℕ) → a ≤ b → FewAxis axis 4 a → FewAxis axis 4 b
few_up axis a b le inner = record { takes = λ d body few enough all. omega (arith, le, inner.takes d body few enough all) }

-- ---- the axes of a map, over names

few_plain : (start n : Expr) → room start ≤ 1 → room n ≤ 1 → FewAxis (plain_axis start n) 4 0
few_plain start n low_start low_n =
    few_one (record { first = Number 0; step = Number 1; count = n; source = start; source_step = Number 1 })
    (record { first = omega arith; step = omega arith; count = omega (arith, low_n); source = omega (arith, low_start); source_step = omega arith })

few_cut : (first step : ℕ) (start n : Expr) → room start ≤ 1 → room n ≤ 1 → FewAxis (cut_axis first step start n) 4 0
few_cut first step start n low_start low_n =
    few_one (record { first = Number 0; step = Number 1; count = n; source = Offset (scaled start step) first; source_step = Number step })
    (record { first = omega arith; step = omega arith; count = omega (arith, low_n); source = omega (arith, room_scaled start step, low_start); source_step = omega arith })

few_neighbours : (first count source : Expr) → room first ≤ 4 → room count ≤ 8 → room source ≤ 4 → FewAxis (neighbours_axis first count source) 4 1
few_neighbours first count source low_first low_count low_source =
    few_some count (λ c. record { first = first; step = Number 1; count = c; source = source; source_step = Number 1 }) low_count
    (λ d. record { first = low_first; step = omega arith; count = omega arith; source = low_source; source_step = omega arith })

few_shifted : (size : ℕ) (by : ℤ) (start n : Expr) → room start ≤ 1 → room n ≤ 1 → FewAxis (shifted_axis size by start n) 4 2
few_shifted size (pos k) start n low_start low_n =
    few_up (later_axis size (min k size) start n) 1 2 (omega arith)
    (few_neighbours (Number 0) (IfLess (Offset start (min k size)) (Number size) (lesser n (Difference (Number size) (Offset start (min k size)))) (Number 0)) (Offset start (min k size)) (omega arith) (omega (arith, low_start, low_n)) (omega (arith, low_start)))
few_shifted size (negsuc k) start n low_start low_n =
    few_named (lesser n (IfLess start (Number (suc k)) (Difference (Number (suc k)) start) (Number 0))) (λ outside. neighbours_axis outside (Difference n outside) (Difference (Sum start outside) (Number (suc k)))) 1
    (omega (arith, low_start, low_n))
    (λ d. few_neighbours (Variable d) (Difference n (Variable d)) (Difference (Sum start (Variable d)) (Number (suc k))) (omega arith) (omega (arith, low_n)) (omega (arith, low_start)))

few_round : (size : ℕ) (by : ℤ) (start n : Expr) → room start ≤ 1 → room n ≤ 1 → FewAxis (round_axis size by start n) 4 3
few_round size by start n low_start low_n =
    few_named (Remainder (Offset start (place_round size by)) (Number size)) (λ first. named (lesser n (Difference (Number size) first)) (λ before. both_axes (neighbours_axis (Number 0) before first) (neighbours_axis before (Difference n before) (Number 0)))) 2
    (omega (arith, low_start))
    (λ d. few_named (lesser n (Difference (Number size) (Variable d))) (λ before. both_axes (neighbours_axis (Number 0) before (Variable d)) (neighbours_axis before (Difference n before) (Number 0))) 1
    (omega (arith, low_n))
    (λ k. few_both (neighbours_axis (Number 0) (Variable k) (Variable d)) (neighbours_axis (Variable k) (Difference n (Variable k)) (Number 0)) 1
    (few_neighbours (Number 0) (Variable k) (Variable d) (omega arith) (omega arith) (omega arith))
    (few_neighbours (Variable k) (Difference n (Variable k)) (Number 0) (omega arith) (omega (arith, low_n)) (omega arith))))

few_stretch_run : (k : ℕ) (start n flag first p : Expr) → room start ≤ 1 → room n ≤ 1 → room flag ≤ 1 → room first ≤ 1 → room p ≤ 1 → SmallRun (pick_run flag (phase_expr k start n p) (block_expr k start n (Sum first p))) 4
few_stretch_run k start n flag first p low_start low_n low_flag low_first low_p = record {
  first = omega (arith, low_start, low_flag, low_first, low_p);
  step = omega (arith, low_flag);
  count = omega (arith, low_start, low_n, low_flag, low_first, low_p);
  source = omega (arith, low_start, low_flag, low_first, low_p);
  source_step = omega (arith, low_flag);
}

few_repeated : (k : ℕ) (start n : Expr) → room start ≤ 1 → room n ≤ 1 → FewAxis (repeated_axis k start n) 4 5
few_repeated k start n low_start low_n =
    few_named (Quotient start (Number k)) (λ first. named (Difference (Offset (Quotient (Difference (Sum start n) (Number 1)) (Number k)) 1) first) (λ blocks.
    named (IfLess blocks (lesser (Number k) n) (Number 1) (Number 0)) (λ flag. either_runs flag (lesser (Number k) n) blocks (phase_expr k start n) (λ t. block_expr k start n (Sum first t))))) 4 (omega (arith, low_start))
    (λ a. few_named (Difference (Offset (Quotient (Difference (Sum start n) (Number 1)) (Number k)) 1) (Variable a)) (λ blocks.
    named (IfLess blocks (lesser (Number k) n) (Number 1) (Number 0)) (λ flag. either_runs flag (lesser (Number k) n) blocks (phase_expr k start n) (λ t. block_expr k start n (Sum (Variable a) t)))) 3 (omega (arith, low_start, low_n))
    (λ c. few_named (IfLess (Variable c) (lesser (Number k) n) (Number 1) (Number 0)) (λ flag. either_runs flag (lesser (Number k) n) (Variable c) (phase_expr k start n) (λ t. block_expr k start n (Sum (Variable a) t))) 2 (omega (arith, low_n))
    (λ e. few_each (pick (Variable e) (lesser (Number k) n) (Variable c)) (λ t. pick_run (Variable e) (phase_expr k start n t) (block_expr k start n (Sum (Variable a) t))) (omega (arith, low_n))
    (λ t. few_stretch_run k start n (Variable e) (Variable a) (Variable t) low_start low_n (omega arith) (omega arith) (omega arith)))))

few_rows : (mapping : Mapping) (shape : Extent) (start n : Expr) → room start ≤ 1 → room n ≤ 1 → FewAxis (rows_axis mapping shape start n) 4 5
few_rows Identity shape start n low_start low_n = few_up (plain_axis start n) 0 5 (omega arith) (few_plain start n low_start low_n)
few_rows (Shift dr dc fill) shape start n low_start low_n = few_up (shifted_axis shape.rows dr start n) 2 5 (omega arith) (few_shifted shape.rows dr start n low_start low_n)
few_rows (Rotate dr dc) shape start n low_start low_n = few_up (round_axis shape.rows dr start n) 3 5 (omega arith) (few_round shape.rows dr start n low_start low_n)
few_rows (Section r0 nr sr c0 nc sc) shape start n low_start low_n = few_up (cut_axis r0 sr start n) 0 5 (omega arith) (few_cut r0 sr start n low_start low_n)
few_rows (Stretch kr kc) shape start n low_start low_n = few_repeated kr start n low_start low_n
few_rows Transpose shape start n low_start low_n = few_up (plain_axis start n) 0 5 (omega arith) (few_plain start n low_start low_n)

few_columns : (mapping : Mapping) (shape : Extent) (start n : Expr) → room start ≤ 1 → room n ≤ 1 → FewAxis (columns_axis mapping shape start n) 4 5
few_columns Identity shape start n low_start low_n = few_up (plain_axis start n) 0 5 (omega arith) (few_plain start n low_start low_n)
few_columns (Shift dr dc fill) shape start n low_start low_n = few_up (shifted_axis shape.cols dc start n) 2 5 (omega arith) (few_shifted shape.cols dc start n low_start low_n)
few_columns (Rotate dr dc) shape start n low_start low_n = few_up (round_axis shape.cols dc start n) 3 5 (omega arith) (few_round shape.cols dc start n low_start low_n)
few_columns (Section r0 nr sr c0 nc sc) shape start n low_start low_n = few_up (cut_axis c0 sc start n) 0 5 (omega arith) (few_cut c0 sc start n low_start low_n)
few_columns (Stretch kr kc) shape start n low_start low_n = few_repeated kc start n low_start low_n
few_columns Transpose shape start n low_start low_n = few_up (plain_axis start n) 0 5 (omega arith) (few_plain start n low_start low_n)

-- ---- patches

record SmallPatch (p : PatchExpr) : Type 0 where
  rows : room p.rows ≤ 5
  cols : room p.cols ≤ 5
  to : room p.to ≤ 6
  to_step : room p.to_step ≤ 5
  from : room p.from ≤ 6
  from_step : room p.from_step ≤ 5

record SmallSides (s : SidesExpr) : Type 0 where
  buffer : room s.buffer ≤ 1
  width : room s.width ≤ 1
  tag : room s.tag ≤ 1

few_patch : (write : Bool) (s : SidesExpr) (p : PatchExpr) (d : ℕ) → SmallSides s → SmallPatch p → program_room (patch_program write s p d) ≤ 10
few_patch write s p d sides small =
    let mem : room (Offset (scaled p.from s.size) s.array) ≤ 6 = omega (arith, room_scaled p.from s.size, small.from) in
    let spad : room (Sum s.buffer (scaled p.to s.size)) ≤ 7 = omega (arith, room_scaled p.to s.size, small.to, sides.buffer) in
    let bytes : room (scaled (Variable (d + 1 + 1)) s.size) ≤ 2 = omega (arith, room_scaled (Variable (d + 1 + 1)) s.size) in
    let from_step : room (scaled p.from_step s.size) ≤ 5 = omega (arith, room_scaled p.from_step s.size, small.from_step) in
    let to_step : room (scaled p.to_step s.size) ≤ 5 = omega (arith, room_scaled p.to_step s.size, small.to_step) in
    let mem_step : room (IfLess (Variable (d + 1)) (Number 2) (Number 0) (scaled p.from_step s.size)) ≤ 5 = omega (arith, from_step) in
    let spad_step : room (IfLess (Variable (d + 1)) (Number 2) (Number 0) (scaled p.to_step s.size)) ≤ 5 = omega (arith, to_step) in
    let rows : room (IfLess (Variable d) (Number 1) p.rows (Number 1)) ≤ 5 = omega (arith, small.rows) in
    let cols : room (IfLess (Variable d) (Number 1) p.cols (Product p.rows p.cols)) ≤ 6 = omega (arith, small.rows, small.cols) in
    let first = IfLess p.cols p.from_step (Number 0) (Number 1) in
    let second = IfLess p.from_step p.cols (Number 0) first in
    let third = IfLess p.cols p.to_step (Number 0) second in
    let one : room first ≤ 7 = omega (arith, small.cols, small.from_step) in
    let two : room second ≤ 7 = omega (arith, one, small.cols, small.from_step) in
    let three : room third ≤ 7 = omega (arith, two, small.cols, small.to_step) in
    let four : room (IfLess p.to_step p.cols (Number 0) third) ≤ 7 = omega (arith, three, small.cols, small.to_step) in
    let flag : room (is_joined p) ≤ 7 = omega (arith, four, small.rows) in
    sums _ _ _ _ _ _ _ _ _ mem spad bytes mem_step spad_step sides.tag rows cols flag
  where
    -- the greatest of a transfer's rooms, behind three names
    sums : (mem spad bytes mem_step spad_step tag rows cols flag : ℕ) → mem ≤ 6 → spad ≤ 7 → bytes ≤ 2 → mem_step ≤ 5 → spad_step ≤ 5 → tag ≤ 1 → rows ≤ 5 → cols ≤ 6 → flag ≤ 7
        → max flag (max rows (max cols (max (max mem (max spad (max 1 (max bytes (max mem_step (max spad_step 1)))))) tag + 1) + 1) + 1) ≤ 10
    sums mem spad bytes mem_step spad_step tag rows cols flag a b c d e f g h i = omega (arith, most)
      where
        least : max mem_step (max spad_step 1) ≤ 5
        least = omega (arith, d, e)

        some : max 1 (max bytes (max mem_step (max spad_step 1))) ≤ 5
        some = omega (arith, least, c)

        more : max mem (max spad (max 1 (max bytes (max mem_step (max spad_step 1))))) ≤ 7
        more = omega (arith, some, a, b)

        most : max (max mem (max spad (max 1 (max bytes (max mem_step (max spad_step 1)))))) tag ≤ 7
        most = omega (arith, more, f)

few_line : (s : SidesExpr) (a b : RunExpr) → SmallSides s → SmallRun a 5 → SmallRun b 5 → SmallPatch (line_expr s a b)
few_line s a b sides small_a small_b = record {
  rows = small_a.count;
  cols = small_b.count;
  to = omega (arith, room_plus (times a.first s.width) b.first, room_times a.first s.width, small_a.first, small_b.first, sides.width);
  to_step = omega (arith, room_times a.step s.width, small_a.step, sides.width);
  from = omega (arith, room_scaled a.source s.row_pitch, room_scaled b.source s.column_pitch, small_a.source, small_b.source);
  from_step = omega (arith, room_scaled a.source_step s.row_pitch, small_a.source_step);
}

few_cross : (s : SidesExpr) (a b : RunExpr) → SmallSides s → SmallRun a 5 → SmallRun b 5 → SmallPatch (cross_expr s a b)
few_cross s a b sides small_a small_b = record {
  rows = small_b.count;
  cols = omega arith;
  to = omega (arith, room_plus (times a.first s.width) b.first, room_times a.first s.width, small_a.first, small_b.first, sides.width);
  to_step = small_b.step;
  from = omega (arith, room_scaled a.source s.row_pitch, room_scaled b.source s.column_pitch, small_a.source, small_b.source);
  from_step = omega (arith, room_scaled b.source_step s.column_pitch, small_b.source_step);
}

module _ (s : SidesExpr) (rows columns : Axis) (u v r c d : ℕ) (sides : SmallSides s) (u_low : u ≤ 5) (v_low : v ≤ 5) (few_r : FewAxis rows u r) (few_c : FewAxis columns v c) where
  few_lines : program_room (lines_program s rows columns d) ≤ r + (c + 10)
  few_lines = few_r.takes d (λ k a. columns k (λ l b. patch_program false s (line_expr s a b) l)) (c + 10) (omega arith) (record {
    takes = λ k a small_a. few_c.takes k (λ l b. patch_program false s (line_expr s a b) l) 10 (omega arith) (record {
      takes = λ l b small_b. few_patch false s (line_expr s a b) l sides (few_line s a b sides (small_up a u 5 u_low small_a) (small_up b v 5 v_low small_b));
    });
  })

  few_crosses : program_room (crosses_program s rows columns d) ≤ r + (c + 10)
  few_crosses = few_r.takes d (λ k a. columns k (λ l b. patch_program false s (cross_expr s a b) l)) (c + 10) (omega arith) (record {
    takes = λ k a small_a. few_c.takes k (λ l b. patch_program false s (cross_expr s a b) l) 10 (omega arith) (record {
      takes = λ l b small_b. few_patch false s (cross_expr s a b) l sides (few_cross s a b sides (small_up a u 5 u_low small_a) (small_up b v 5 v_low small_b));
    });
  })

few_count : (mapping : Mapping) (start n : Expr) (of_rows : Bool) → room start ≤ 1 → room n ≤ 1 → room (run_count mapping start n of_rows) ≤ 5
few_count (Stretch kr kc) start n of_rows low_start low_n = omega (arith, low_start, low_n)
few_count _ start n of_rows low_start low_n = omega arith

few_read : (mapping : Mapping) (shape : Extent) (s : SidesExpr) (piece : PieceExpr) (d : ℕ) → SmallSides s → room piece.r0 ≤ 1 → room piece.c0 ≤ 1 → room piece.h ≤ 1 → room piece.w ≤ 1
    → program_room (read_program mapping shape s piece d) ≤ 22
few_read mapping shape s piece d sides low_r0 low_c0 low_h low_w = go (keeps_neighbours mapping)
  where
    rows : Axis
    rows = rows_axis mapping shape piece.r0 piece.h

    columns : Axis
    columns = columns_axis mapping shape piece.c0 piece.w

    by_rows : Expr
    by_rows = Product piece.h (run_count mapping piece.c0 piece.w false)

    by_columns : Expr
    by_columns = Product (run_count mapping piece.r0 piece.h true) piece.w

    singly : Program
    singly = Both (UnlessLess by_columns by_rows (crosses_program s (singles_of rows) columns d)) (UnlessLess by_rows (Offset by_columns 1) (lines_program s rows (singles_of columns) d))

    few_r : FewAxis rows 4 5
    few_r = few_rows mapping shape piece.r0 piece.h low_r0 low_h

    few_c : FewAxis columns 4 5
    few_c = few_columns mapping shape piece.c0 piece.w low_c0 low_w

    low_rows : room by_rows ≤ 6
    low_rows = omega (arith, few_count mapping piece.c0 piece.w false low_c0 low_w, low_h)

    low_columns : room by_columns ≤ 6
    low_columns = omega (arith, few_count mapping piece.r0 piece.h true low_r0 low_h, low_w)

    go : (keeps : Bool) → program_room (cond keeps (lines_program s rows columns d) singly) ≤ 22
    go true = omega (arith, few_lines s rows columns 4 4 5 5 d sides (omega arith) (omega arith) few_r few_c)
    go false =
        let one = few_crosses s (singles_of rows) columns 5 4 7 5 d sides (omega arith) (omega arith) (few_singles rows 5 few_r) few_c in
        let two = few_lines s rows (singles_of columns) 4 5 5 7 d sides (omega arith) (omega arith) few_r (few_singles columns 5 few_c) in
        omega (arith, one, two, low_rows, low_columns)

pub reads_take_few : ReadsTakeFew
reads_take_few leaf from piece target d names =
    few_read leaf.map leaf.shape (sides_of_leaf leaf from target.buffer piece.w target.tag) piece d (record { buffer = names.buffer; width = names.w; tag = names.tag }) names.r0 names.c0 names.h names.w

pub writes_take_few : WritesTakeFew
writes_take_few to piece target d names =
    few_patch true (sides_of_array to target.buffer piece.w target.tag) (whole_expr to.shape piece) d (record { buffer = names.buffer; width = names.w; tag = names.tag }) (record {
      rows = omega (arith, names.h);
      cols = omega (arith, names.w);
      to = omega arith;
      to_step = omega (arith, names.w);
      from = omega (arith, room_scaled piece.r0 to.shape.cols, names.r0, names.c0);
      from_step = omega arith;
    })
