-- The programs of pieces read no register that isn't in use.
use Rattle.std.proofs.Common.{◌≡◌, ℕ, suc, ◌+◌, ◌<◌, ◌≤◌, min, ℤ, pos, negsuc, refl, arith, Bool, true, false, cond}
use Rattle.std.proofs.lemmas.Bool.{and_from, lt-ltb}
use Rattle.ven_base.specs.declared.mapping.Mapping.{Mapping}
use Rattle.ven_base.specs.declared.mapping.Mapping.TheVariants.{Identity, Shift, Rotate, Section, Stretch, Transpose}
use Rattle.ven_base.specs.Extent.{Extent}
use Rattle.ven_base.specs.Place.{place_round}
use Rattle.dma_segments.specs.Patch.{keeps_neighbours}
use Rattle.host_programs.specs.Expr.{Expr, Number, Variable, Offset, Sum, Difference, Product, Quotient, Remainder, IfLess, is_below}
use Rattle.host_programs.specs.Program.{Program, Both, UnlessLess, For}
use Rattle.host_programs.specs.ProgramCode.{is_closed}
use Rattle.transfer_programs.specs.Axis.{RunExpr, scaled, times, lesser, single_run, Axis, one_run, some_run, named, both_axes, each_run, pick, pick_run, either_runs, singles_of}
use Rattle.transfer_programs.specs.SourcedRuns.{is_run_below}
use Rattle.transfer_programs.specs.ReadProgram.{SidesExpr, PatchExpr, line_expr, cross_expr, is_joined, patch_program, lines_program, crosses_program, plain_axis, neighbours_axis, later_axis, earlier_axis, shifted_axis, round_axis, cut_axis, phase_expr, block_first, block_expr, repeated_axis, rows_axis, columns_axis, run_count, PieceExpr, read_program, sides_of_leaf, whole_expr, sides_of_array}
use Rattle.transfer_programs.specs.ReadLaws.{ReadsAreClosed, WritesAreClosed}
use Rattle.host_programs.proofs.Exprs.{below_more}
use Rattle.transfer_programs.proofs.Axes.{run_parts, run_from, below_scaled, below_times, below_plus, below_pick}
use Rattle.transfer_programs.proofs.Patches.{SidesBelow, sides_later}

-- ---- axes

record ClosedBody (body : ℕ → RunExpr → Program) (d : ℕ) : Type 0 where
  closed : (k : ℕ) (run : RunExpr) → d ≤ k → is_run_below run k ≡ true → is_closed (body k run) k ≡ true

record ClosedAxis (axis : Axis) (d : ℕ) : Type 0 where
  closes : (body : ℕ → RunExpr → Program) → ClosedBody body d → is_closed (axis d body) d ≡ true

body_later : (body : ℕ → RunExpr → Program) (d k : ℕ) → d ≤ k → ClosedBody body d → ClosedBody body k
body_later body d k le all = record { closed = λ l run more low. all.closed l run (omega (arith, le, more)) low }

pub variable_low : (r d : ℕ) → r < d → is_below (Variable r) d ≡ true
variable_low r d lt = lt-ltb r d lt

closed_one : (run : RunExpr) (d : ℕ) → is_run_below run d ≡ true → ClosedAxis (one_run run) d
closed_one run d low = record { closes = λ body all. all.closed d run (omega arith) low }

closed_named : (e : Expr) (axis : Expr → Axis) (d : ℕ) → is_below e d ≡ true → ClosedAxis (axis (Variable d)) (d + 1) → ClosedAxis (named e axis) d
closed_named e axis d low inner = record { closes = λ body all. and_from _ _ low (inner.closes body (body_later body d (d + 1) (omega arith) all)) }

closed_some : (count : Expr) (run : Expr → RunExpr) (d : ℕ) → is_below count d ≡ true → is_run_below (run (Variable d)) (d + 1) ≡ true → ClosedAxis (some_run count run) d
closed_some count run d low_count low_run = record {
  closes = λ body all. and_from _ _ low_count (and_from _ _ (variable_low d (d + 1) (omega arith)) (and_from _ _ refl (all.closed (d + 1) (run (Variable d)) (omega arith) low_run)));
}

closed_both : (a b : Axis) (d : ℕ) → ClosedAxis a d → ClosedAxis b d → ClosedAxis (both_axes a b) d
closed_both a b d first second = record { closes = λ body all. and_from _ _ (first.closes body all) (second.closes body all) }

closed_each : (count : Expr) (run : Expr → RunExpr) (d : ℕ) → is_below count d ≡ true → is_run_below (run (Variable (d + 1))) (d + 2) ≡ true → ClosedAxis (each_run count run) d
closed_each count run d low_count low_run = record { closes = λ body all. and_from _ _ low_count (all.closed (d + 2) (run (Variable (d + 1))) (omega arith) low_run) }

single_low : (run : RunExpr) (k r : ℕ) → r < k → is_run_below run k ≡ true → is_run_below (single_run run (Variable r)) k ≡ true
single_low run k r less low =
    let p = run_parts run k low in
    let low_r = variable_low r k less in
    run_from (single_run run (Variable r)) k (record {
      first = below_plus run.first (times run.step (Variable r)) k p.first (below_times run.step (Variable r) k p.step low_r);
      step = refl;
      count = refl;
      source = below_plus run.source (times run.source_step (Variable r)) k p.source (below_times run.source_step (Variable r) k p.source_step low_r);
      source_step = refl;
    })

run_more : (run : RunExpr) (d k : ℕ) → d ≤ k → is_run_below run d ≡ true → is_run_below run k ≡ true
run_more run d k le low =
    let p = run_parts run d low in
    run_from run k (record {
      first = below_more run.first d k le p.first;
      step = below_more run.step d k le p.step;
      count = below_more run.count d k le p.count;
      source = below_more run.source d k le p.source;
      source_step = below_more run.source_step d k le p.source_step;
    })

closed_singles : (axis : Axis) (d : ℕ) → ClosedAxis axis d → ClosedAxis (singles_of axis) d
closed_singles axis d inner = record {
  closes = λ body all. inner.closes (λ k run. For run.count (body (k + 2) (single_run run (Variable (k + 1))))) (record {
    closed = λ k run le low.
        let p = run_parts run k low in
        and_from _ _ p.count (all.closed (k + 2) (single_run run (Variable (k + 1))) (omega (arith, le)) (single_low run (k + 2) (k + 1) (omega arith) (run_more run k (k + 2) (omega arith) low)));
  });
}

-- ---- the axes of a map

closed_neighbours : (first count source : Expr) (d : ℕ) → is_below first d ≡ true → is_below count d ≡ true → is_below source d ≡ true → ClosedAxis (neighbours_axis first count source) d
closed_neighbours first count source d low_first low_count low_source =
    closed_some count (λ c. record { first = first; step = Number 1; count = c; source = source; source_step = Number 1 }) d low_count
    (and_from _ _ (below_more first d (d + 1) (omega arith) low_first) (and_from _ _ refl (and_from _ _ (variable_low d (d + 1) (omega arith)) (and_from _ _ (below_more source d (d + 1) (omega arith) low_source) refl))))

pub lesser_low : (a b : Expr) (d : ℕ) → is_below a d ≡ true → is_below b d ≡ true → is_below (lesser a b) d ≡ true
lesser_low a b d low_a low_b = and_from _ _ (and_from _ _ low_a low_b) (and_from _ _ low_a low_b)

closed_plain : (start n : Expr) (d : ℕ) → is_below start d ≡ true → is_below n d ≡ true → ClosedAxis (plain_axis start n) d
closed_plain start n d low_start low_n =
    closed_one (record { first = Number 0; step = Number 1; count = n; source = start; source_step = Number 1 }) d (and_from _ _ refl (and_from _ _ refl (and_from _ _ low_n (and_from _ _ low_start refl))))

closed_cut : (first step : ℕ) (start n : Expr) (d : ℕ) → is_below start d ≡ true → is_below n d ≡ true → ClosedAxis (cut_axis first step start n) d
closed_cut first step start n d low_start low_n =
    closed_one (record { first = Number 0; step = Number 1; count = n; source = Offset (scaled start step) first; source_step = Number step }) d
    (and_from _ _ refl (and_from _ _ refl (and_from _ _ low_n (and_from _ _ (below_scaled start step d low_start) refl))))

closed_later : (size k : ℕ) (start n : Expr) (d : ℕ) → is_below start d ≡ true → is_below n d ≡ true → ClosedAxis (later_axis size k start n) d
closed_later size k start n d low_start low_n =
    let back : is_below (Difference (Number size) (Offset start k)) d ≡ true = and_from _ _ refl low_start in
    closed_neighbours (Number 0) (IfLess (Offset start k) (Number size) (lesser n (Difference (Number size) (Offset start k))) (Number 0)) (Offset start k) d refl
    (and_from _ _ (and_from _ _ low_start refl) (and_from _ _ (lesser_low n (Difference (Number size) (Offset start k)) d low_n back) refl)) low_start

closed_earlier : (k : ℕ) (start n : Expr) (d : ℕ) → is_below start d ≡ true → is_below n d ≡ true → ClosedAxis (earlier_axis k start n) d
closed_earlier k start n d low_start low_n =
    let back = IfLess start (Number k) (Difference (Number k) start) (Number 0) in
    let low_back : is_below back d ≡ true = and_from _ _ (and_from _ _ low_start refl) (and_from _ _ (and_from _ _ refl low_start) refl) in
    let low_d = variable_low d (d + 1) (omega arith) in
    let low_n1 = below_more n d (d + 1) (omega arith) low_n in
    let low_s1 = below_more start d (d + 1) (omega arith) low_start in
    closed_named (lesser n back) (λ outside. neighbours_axis outside (Difference n outside) (Difference (Sum start outside) (Number k))) d (lesser_low n back d low_n low_back)
    (closed_neighbours (Variable d) (Difference n (Variable d)) (Difference (Sum start (Variable d)) (Number k)) (d + 1) low_d (and_from _ _ low_n1 low_d) (and_from _ _ (and_from _ _ low_s1 low_d) refl))

closed_shifted : (size : ℕ) (by : ℤ) (start n : Expr) (d : ℕ) → is_below start d ≡ true → is_below n d ≡ true → ClosedAxis (shifted_axis size by start n) d
closed_shifted size (pos k) start n d low_start low_n = closed_later size (min k size) start n d low_start low_n
closed_shifted size (negsuc k) start n d low_start low_n = closed_earlier (suc k) start n d low_start low_n

closed_round : (size : ℕ) (by : ℤ) (start n : Expr) (d : ℕ) → is_below start d ≡ true → is_below n d ≡ true → ClosedAxis (round_axis size by start n) d
closed_round size by start n d low_start low_n =
    let low_q : is_below (Variable d) (d + 1) ≡ true = variable_low d (d + 1) (omega arith) in
    let low_n1 = below_more n d (d + 1) (omega arith) low_n in
    let low_n2 = below_more n (d + 1) (d + 1 + 1) (omega arith) low_n1 in
    let low_q2 : is_below (Variable d) (d + 1 + 1) ≡ true = variable_low d (d + 1 + 1) (omega arith) in
    let low_m : is_below (Variable (d + 1)) (d + 1 + 1) ≡ true = variable_low (d + 1) (d + 1 + 1) (omega arith) in
    let a = neighbours_axis (Number 0) (Variable (d + 1)) (Variable d) in
    let b = neighbours_axis (Variable (d + 1)) (Difference n (Variable (d + 1))) (Number 0) in
    closed_named (Remainder (Offset start (place_round size by)) (Number size)) (λ first. named (lesser n (Difference (Number size) first)) (λ before. both_axes (neighbours_axis (Number 0) before first) (neighbours_axis before (Difference n before) (Number 0)))) d
    (and_from _ _ low_start refl)
    (closed_named (lesser n (Difference (Number size) (Variable d))) (λ before. both_axes (neighbours_axis (Number 0) before (Variable d)) (neighbours_axis before (Difference n before) (Number 0))) (d + 1)
    (lesser_low n (Difference (Number size) (Variable d)) (d + 1) low_n1 (and_from _ _ refl low_q))
    (closed_both a b (d + 1 + 1) (closed_neighbours (Number 0) (Variable (d + 1)) (Variable d) (d + 1 + 1) refl low_m low_q2)
    (closed_neighbours (Variable (d + 1)) (Difference n (Variable (d + 1))) (Number 0) (d + 1 + 1) low_m (and_from _ _ low_n2 low_m) refl)))

pick_low : (flag : Expr) (x y : RunExpr) (k : ℕ) → is_below flag k ≡ true → is_run_below x k ≡ true → is_run_below y k ≡ true → is_run_below (pick_run flag x y) k ≡ true
pick_low flag x y k low_flag low_x low_y =
    let px = run_parts x k low_x in
    let py = run_parts y k low_y in
    run_from (pick_run flag x y) k (record {
      first = below_pick flag x.first y.first k low_flag px.first py.first;
      step = below_pick flag x.step y.step k low_flag px.step py.step;
      count = below_pick flag x.count y.count k low_flag px.count py.count;
      source = below_pick flag x.source y.source k low_flag px.source py.source;
      source_step = below_pick flag x.source_step y.source_step k low_flag px.source_step py.source_step;
    })

phase_low : (k : ℕ) (start n p : Expr) (d : ℕ) → is_below start d ≡ true → is_below n d ≡ true → is_below p d ≡ true → is_run_below (phase_expr k start n p) d ≡ true
phase_low k start n p d low_start low_n low_p =
    and_from _ _ low_p (and_from _ _ refl (and_from _ _ (and_from _ _ (and_from _ _ (and_from _ _ low_n low_p) refl) refl) (and_from _ _ (and_from _ _ (and_from _ _ low_start low_p) refl) refl)))

block_low : (k : ℕ) (start n q : Expr) (d : ℕ) → is_below start d ≡ true → is_below n d ≡ true → is_below q d ≡ true → is_run_below (block_expr k start n q) d ≡ true
block_low k start n q d low_start low_n low =
    let low_begin : is_below (block_first k start q) d ≡ true = and_from _ _ (and_from _ _ (and_from _ _ low refl) low_start) (and_from _ _ refl (and_from _ _ (and_from _ _ low refl) low_start)) in
    let low_end : is_below (Difference (Offset (Product q (Number k)) k) start) d ≡ true = and_from _ _ (and_from _ _ low refl) low_start in
    and_from _ _ low_begin (and_from _ _ refl (and_from _ _ (and_from _ _ (lesser_low n (Difference (Offset (Product q (Number k)) k) start) d low_n low_end) low_begin) (and_from _ _ low refl)))

closed_repeated : (k : ℕ) (start n : Expr) (d : ℕ) → is_below start d ≡ true → is_below n d ≡ true → ClosedAxis (repeated_axis k start n) d
closed_repeated k start n d low_start low_n =
    let d3 = d + 1 + 1 in
    let low_s1 = below_more start d (d + 1) (omega arith) low_start in
    let low_n1 = below_more n d (d + 1) (omega arith) low_n in
    let low_q1 = variable_low d (d + 1) (omega arith) in
    let low_n2 = below_more n d d3 (omega arith) low_n in
    let low_b2 = variable_low (d + 1) d3 (omega arith) in
    let e = d3 + 1 in
    let turn = variable_low (e + 1) (e + 2) (omega arith) in
    let low_s = below_more start d (e + 2) (omega arith) low_start in
    let low_m = below_more n d (e + 2) (omega arith) low_n in
    let low_flag = variable_low d3 e (omega arith) in
    let runs_low = pick_low (Variable d3) (phase_expr k start n (Variable (e + 1))) (block_expr k start n (Sum (Variable d) (Variable (e + 1)))) (e + 2) (variable_low d3 (e + 2) (omega arith))
    (phase_low k start n (Variable (e + 1)) (e + 2) low_s low_m turn) (block_low k start n (Sum (Variable d) (Variable (e + 1))) (e + 2) low_s low_m (and_from _ _ (variable_low d (e + 2) (omega arith)) turn)) in
    let count_low = below_pick (Variable d3) (lesser (Number k) n) (Variable (d + 1)) e low_flag (lesser_low (Number k) n e refl (below_more n d e (omega arith) low_n)) (variable_low (d + 1) e (omega arith)) in
    let last = closed_each (pick (Variable d3) (lesser (Number k) n) (Variable (d + 1))) (λ t. pick_run (Variable d3) (phase_expr k start n t) (block_expr k start n (Sum (Variable d) t))) e count_low runs_low in
    closed_named (Quotient start (Number k)) (λ first. named (Difference (Offset (Quotient (Difference (Sum start n) (Number 1)) (Number k)) 1) first) (λ blocks.
    named (IfLess blocks (lesser (Number k) n) (Number 1) (Number 0)) (λ flag. either_runs flag (lesser (Number k) n) blocks (phase_expr k start n) (λ t. block_expr k start n (Sum first t))))) d (and_from _ _ low_start refl)
    (closed_named (Difference (Offset (Quotient (Difference (Sum start n) (Number 1)) (Number k)) 1) (Variable d)) (λ blocks.
    named (IfLess blocks (lesser (Number k) n) (Number 1) (Number 0)) (λ flag. either_runs flag (lesser (Number k) n) blocks (phase_expr k start n) (λ t. block_expr k start n (Sum (Variable d) t)))) (d + 1)
    (and_from _ _ (and_from _ _ (and_from _ _ (and_from _ _ low_s1 low_n1) refl) refl) low_q1)
    (closed_named (IfLess (Variable (d + 1)) (lesser (Number k) n) (Number 1) (Number 0)) (λ flag. either_runs flag (lesser (Number k) n) (Variable (d + 1)) (phase_expr k start n) (λ t. block_expr k start n (Sum (Variable d) t))) d3
    (and_from _ _ (and_from _ _ low_b2 (lesser_low (Number k) n d3 refl low_n2)) refl) last))

closed_rows : (mapping : Mapping) (shape : Extent) (start n : Expr) (d : ℕ) → is_below start d ≡ true → is_below n d ≡ true → ClosedAxis (rows_axis mapping shape start n) d
closed_rows Identity shape start n d low_start low_n = closed_plain start n d low_start low_n
closed_rows (Shift dr dc fill) shape start n d low_start low_n = closed_shifted shape.rows dr start n d low_start low_n
closed_rows (Rotate dr dc) shape start n d low_start low_n = closed_round shape.rows dr start n d low_start low_n
closed_rows (Section r0 nr sr c0 nc sc) shape start n d low_start low_n = closed_cut r0 sr start n d low_start low_n
closed_rows (Stretch kr kc) shape start n d low_start low_n = closed_repeated kr start n d low_start low_n
closed_rows Transpose shape start n d low_start low_n = closed_plain start n d low_start low_n

closed_columns : (mapping : Mapping) (shape : Extent) (start n : Expr) (d : ℕ) → is_below start d ≡ true → is_below n d ≡ true → ClosedAxis (columns_axis mapping shape start n) d
closed_columns Identity shape start n d low_start low_n = closed_plain start n d low_start low_n
closed_columns (Shift dr dc fill) shape start n d low_start low_n = closed_shifted shape.cols dc start n d low_start low_n
closed_columns (Rotate dr dc) shape start n d low_start low_n = closed_round shape.cols dc start n d low_start low_n
closed_columns (Section r0 nr sr c0 nc sc) shape start n d low_start low_n = closed_cut c0 sc start n d low_start low_n
closed_columns (Stretch kr kc) shape start n d low_start low_n = closed_repeated kc start n d low_start low_n
closed_columns Transpose shape start n d low_start low_n = closed_plain start n d low_start low_n

-- ---- patches

pub record PatchBelow (p : PatchExpr) (d : ℕ) : Type 0 where
  pub rows : is_below p.rows d ≡ true
  pub cols : is_below p.cols d ≡ true
  pub to : is_below p.to d ≡ true
  pub to_step : is_below p.to_step d ≡ true
  pub from : is_below p.from d ≡ true
  pub from_step : is_below p.from_step d ≡ true

closed_patch : (write : Bool) (s : SidesExpr) (p : PatchExpr) (d : ℕ) → SidesBelow s d → PatchBelow p d → is_closed (patch_program write s p d) d ≡ true
closed_patch write s p d low is =
    let up : (e : Expr) (k : ℕ) → d ≤ k → is_below e d ≡ true → is_below e k ≡ true = λ e k le h. below_more e d k le h in
    let last = d + 1 + 1 + 1 in
    let less : (a b y : Expr) → is_below a d ≡ true → is_below b d ≡ true → is_below y d ≡ true → is_below (IfLess a b (Number 0) y) d ≡ true = λ a b y low_a low_b low_y. and_from _ _ (and_from _ _ low_a low_b) (and_from _ _ refl low_y) in
    let first = IfLess p.cols p.from_step (Number 0) (Number 1) in
    let second = IfLess p.from_step p.cols (Number 0) first in
    let third = IfLess p.cols p.to_step (Number 0) second in
    let fourth = IfLess p.to_step p.cols (Number 0) third in
    let flag_low : is_below (is_joined p) d ≡ true =
    less p.rows (Number 2) fourth is.rows refl (less p.to_step p.cols third is.to_step is.cols (less p.cols p.to_step second is.cols is.to_step (less p.from_step p.cols first is.from_step is.cols (less p.cols p.from_step (Number 1) is.cols is.from_step refl)))) in
    let flag1 = variable_low d (d + 1) (omega arith) in
    let flag2 = variable_low d (d + 1 + 1) (omega arith) in
    let rows3 = variable_low (d + 1) last (omega arith) in
    let cols3 = variable_low (d + 1 + 1) last (omega arith) in
    let scaled_low : (e : Expr) → is_below e d ≡ true → is_below (scaled e s.size) last ≡ true = λ e h. below_scaled e s.size last (up e last (omega arith) h) in
    let rows_low = and_from _ _ (and_from _ _ flag1 refl) (and_from _ _ (up p.rows (d + 1) (omega arith) is.rows) refl) in
    let cols_low = and_from _ _ (and_from _ _ flag2 refl) (and_from _ _ (up p.cols (d + 1 + 1) (omega arith) is.cols) (and_from _ _ (up p.rows (d + 1 + 1) (omega arith) is.rows) (up p.cols (d + 1 + 1) (omega arith) is.cols))) in
    let mem = scaled_low p.from is.from in
    let spad = and_from _ _ (up s.buffer last (omega arith) low.buffer) (scaled_low p.to is.to) in
    let bytes = below_scaled (Variable (d + 1 + 1)) s.size last cols3 in
    let mem_step = and_from _ _ (and_from _ _ rows3 refl) (and_from _ _ refl (scaled_low p.from_step is.from_step)) in
    let spad_step = and_from _ _ (and_from _ _ rows3 refl) (and_from _ _ refl (scaled_low p.to_step is.to_step)) in
    let tag = up s.tag last (omega arith) low.tag in
    and_from _ _ flag_low (and_from _ _ rows_low (and_from _ _ cols_low (and_from _ _
    (and_from _ _ mem (and_from _ _ spad (and_from _ _ rows3 (and_from _ _ bytes (and_from _ _ mem_step (and_from _ _ spad_step refl)))))) tag)))

pub line_low : (s : SidesExpr) (a b : RunExpr) (k : ℕ) → SidesBelow s k → is_run_below a k ≡ true → is_run_below b k ≡ true → PatchBelow (line_expr s a b) k
line_low s a b k low low_a low_b =
    let pa = run_parts a k low_a in
    let pb = run_parts b k low_b in
    record {
      rows = pa.count;
      cols = pb.count;
      to = below_plus (times a.first s.width) b.first k (below_times a.first s.width k pa.first low.width) pb.first;
      to_step = below_times a.step s.width k pa.step low.width;
      from = and_from _ _ (below_scaled a.source s.row_pitch k pa.source) (below_scaled b.source s.column_pitch k pb.source);
      from_step = below_scaled a.source_step s.row_pitch k pa.source_step;
    }

pub cross_low : (s : SidesExpr) (a b : RunExpr) (k : ℕ) → SidesBelow s k → is_run_below a k ≡ true → is_run_below b k ≡ true → PatchBelow (cross_expr s a b) k
cross_low s a b k low low_a low_b =
    let pa = run_parts a k low_a in
    let pb = run_parts b k low_b in
    record {
      rows = pb.count;
      cols = refl;
      to = below_plus (times a.first s.width) b.first k (below_times a.first s.width k pa.first low.width) pb.first;
      to_step = pb.step;
      from = and_from _ _ (below_scaled a.source s.row_pitch k pa.source) (below_scaled b.source s.column_pitch k pb.source);
      from_step = below_scaled b.source_step s.column_pitch k pb.source_step;
    }

module _ (s : SidesExpr) (rows columns : Axis) (d : ℕ) (low : SidesBelow s d) (closed_r : ClosedAxis rows d) (closed_c : (k : ℕ) → d ≤ k → ClosedAxis columns k) where
  closed_lines : is_closed (lines_program s rows columns d) d ≡ true
  closed_lines = closed_r.closes (λ k a. columns k (λ l b. patch_program false s (line_expr s a b) l)) (record {
    closed = λ k a le low_a. (closed_c k le).closes (λ l b. patch_program false s (line_expr s a b) l) (record {
      closed = λ l b more low_b.
          let low_l = sides_later s d l (omega (arith, le, more)) low in
          closed_patch false s (line_expr s a b) l low_l (line_low s a b l low_l (run_more a k l more low_a) low_b);
    });
  })

  closed_crosses : is_closed (crosses_program s rows columns d) d ≡ true
  closed_crosses = closed_r.closes (λ k a. columns k (λ l b. patch_program false s (cross_expr s a b) l)) (record {
    closed = λ k a le low_a. (closed_c k le).closes (λ l b. patch_program false s (cross_expr s a b) l) (record {
      closed = λ l b more low_b.
          let low_l = sides_later s d l (omega (arith, le, more)) low in
          closed_patch false s (cross_expr s a b) l low_l (cross_low s a b l low_l (run_more a k l more low_a) low_b);
    });
  })

-- ---- pieces

count_low : (mapping : Mapping) (start n : Expr) (of_rows : Bool) (d : ℕ) → is_below start d ≡ true → is_below n d ≡ true → is_below (run_count mapping start n of_rows) d ≡ true
count_low (Stretch kr kc) start n of_rows d low_start low_n =
    lesser_low (lesser (Number (cond of_rows kr kc)) n) (Difference (Offset (Quotient (Difference (Sum start n) (Number 1)) (Number (cond of_rows kr kc))) 1) (Quotient start (Number (cond of_rows kr kc)))) d
    (lesser_low (Number (cond of_rows kr kc)) n d refl low_n) (and_from _ _ (and_from _ _ (and_from _ _ (and_from _ _ low_start low_n) refl) refl) (and_from _ _ low_start refl))
count_low _ start n of_rows d low_start low_n = refl

closed_read : (mapping : Mapping) (shape : Extent) (s : SidesExpr) (piece : PieceExpr) (d : ℕ) → SidesBelow s d → is_below piece.r0 d ≡ true → is_below piece.c0 d ≡ true → is_below piece.h d ≡ true → is_below piece.w d ≡ true
    → is_closed (read_program mapping shape s piece d) d ≡ true
closed_read mapping shape s piece d low low_r0 low_c0 low_h low_w = go (keeps_neighbours mapping)
  where
    rows : Axis
    rows = rows_axis mapping shape piece.r0 piece.h

    columns : Axis
    columns = columns_axis mapping shape piece.c0 piece.w

    by_rows : Expr
    by_rows = Product piece.h (run_count mapping piece.c0 piece.w false)

    by_columns : Expr
    by_columns = Product (run_count mapping piece.r0 piece.h true) piece.w

    singly : Program
    singly = Both (UnlessLess by_columns by_rows (crosses_program s (singles_of rows) columns d)) (UnlessLess by_rows (Offset by_columns 1) (lines_program s rows (singles_of columns) d))

    low_rows : is_below by_rows d ≡ true
    low_rows = and_from _ _ low_h (count_low mapping piece.c0 piece.w false d low_c0 low_w)

    low_columns : is_below by_columns d ≡ true
    low_columns = and_from _ _ (count_low mapping piece.r0 piece.h true d low_r0 low_h) low_w

    closed_r : ClosedAxis rows d
    closed_r = closed_rows mapping shape piece.r0 piece.h d low_r0 low_h

    closed_c : (k : ℕ) → d ≤ k → ClosedAxis columns k
    closed_c k le = closed_columns mapping shape piece.c0 piece.w k (below_more piece.c0 d k le low_c0) (below_more piece.w d k le low_w)

    go : (keeps : Bool) → is_closed (cond keeps (lines_program s rows columns d) singly) d ≡ true
    go true = closed_lines s rows columns d low closed_r closed_c
    go false = and_from _ _ (and_from _ _ low_columns (and_from _ _ low_rows (closed_crosses s (singles_of rows) columns d low (closed_singles rows d closed_r) closed_c)))
        (and_from _ _ low_rows (and_from _ _ low_columns (closed_lines s rows (singles_of columns) d low closed_r (λ k le. closed_singles columns k (closed_c k le)))))

pub reads_are_closed : ReadsAreClosed
reads_are_closed leaf from piece target d low =
    closed_read leaf.map leaf.shape (sides_of_leaf leaf from target.buffer piece.w target.tag) piece d (record { buffer = low.buffer; width = low.w; tag = low.tag }) low.r0 low.c0 low.h low.w

pub writes_are_closed : WritesAreClosed
writes_are_closed to piece target d low =
    closed_patch true (sides_of_array to target.buffer piece.w target.tag) (whole_expr to.shape piece) d (record { buffer = low.buffer; width = low.w; tag = low.tag }) (record {
      rows = low.h;
      cols = low.w;
      to = refl;
      to_step = low.w;
      from = and_from _ _ (below_scaled piece.r0 to.shape.cols d low.r0) low.c0;
      from_step = refl;
    })
