-- How large the code of the programs of pieces is.
use Rattle.std.proofs.Common.{◌≡◌, ℕ, suc, ◌+◌, ◌*◌, ◌≤◌, min, ℤ, pos, negsuc, arith, refl, sym, ap, ◌∙◌, subst, Bool, true, false, cond, eqb}
use Rattle.std.proofs.lemmas.Bool.{cond_both}
use Rattle.ven_base.specs.declared.mapping.Mapping.{Mapping}
use Rattle.ven_base.specs.declared.mapping.Mapping.TheVariants.{Identity, Shift, Rotate, Section, Stretch, Transpose}
use Rattle.ven_base.specs.Extent.{Extent}
use Rattle.ven_base.specs.Place.{place_round}
use Rattle.pass_plan.specs.declared.leaf.Leaf.{Leaf}
use Rattle.pass_plan.specs.declared.split.ArrayPlace.{ArrayPlace}
use Rattle.host_programs.specs.Expr.{Expr, Number, Variable, Offset, Sum, Difference, Product, Quotient, Remainder, IfLess}
use Rattle.host_programs.specs.Program.{Program, For}
use Rattle.transfer_programs.specs.Axis.{RunExpr, scaled, times, plus, lesser, single_run, Axis, one_run, some_run, named, both_axes, each_run, pick, pick_run, either_runs, singles_of}
use Rattle.transfer_programs.specs.ReadProgram.{SidesExpr, PatchExpr, line_expr, cross_expr, patch_program, lines_program, crosses_program, plain_axis, neighbours_axis, shifted_axis, round_axis, cut_axis, phase_expr, block_expr, repeated_axis, rows_axis, columns_axis, PieceExpr, read_program, sides_of_leaf, Target, leaf_program, whole_expr, sides_of_array, write_program}
use Rattle.transfer_programs.specs.Cost.{expr_size, bring_size, program_size}
use Rattle.transfer_programs.specs.CostLaws.{AreAtHand, AreShort, leaf_room, write_room, LeavesTakeTheirRoom, WritesTakeTheirRoom}
use Rattle.transfer_programs.proofs.CostPrograms.{block_sized}

-- ---- expressions

pub size_bring : (e : Expr) → expr_size e ≤ bring_size e + 1
size_bring (Variable r) = omega arith
size_bring _ = omega arith

bring_expr : (e : Expr) → bring_size e ≤ expr_size e
bring_expr (Variable r) = omega arith
bring_expr _ = omega arith

pub size_scaled : (e : Expr) (n : ℕ) → expr_size (scaled e n) ≤ bring_size e + 2
size_scaled e n = cond_both (eqb n 1) e (Product e (Number n)) (λ x. expr_size x ≤ bring_size e + 2) (λ q. omega (arith, size_bring e)) (λ q. omega arith)

pub bring_scaled : (e : Expr) (n : ℕ) → bring_size (scaled e n) ≤ bring_size e + 2
bring_scaled e n = cond_both (eqb n 1) e (Product e (Number n)) (λ x. bring_size x ≤ bring_size e + 2) (λ q. omega arith) (λ q. omega arith)

pub bring_times : (a b : Expr) → bring_size (times a b) ≤ bring_size a + bring_size b + 1
bring_times (Number n) b = cond_both (eqb n 0) (Number 0) (scaled b n) (λ x. bring_size x ≤ 1 + bring_size b + 1) (λ q. omega arith) (λ q. omega (arith, bring_scaled b n))
bring_times _ b = omega arith

pub bring_plus : (a b : Expr) → bring_size (plus a b) ≤ bring_size a + bring_size b + 1
bring_plus (Number n) b = cond_both (eqb n 0) b (Offset b n) (λ x. bring_size x ≤ 1 + bring_size b + 1) (λ q. omega arith) (λ q. omega arith)
bring_plus _ b = omega arith

-- ---- runs: the sizes of their parts as operands

pub record RunSizes : Type 0 where
  pub first : ℕ
  pub step : ℕ
  pub count : ℕ
  pub source : ℕ
  pub source_step : ℕ

pub record IsSized (run : RunExpr) (s : RunSizes) : Type 0 where
  pub first_size : bring_size run.first ≤ s.first
  pub step_size : bring_size run.step ≤ s.step
  pub count_size : bring_size run.count ≤ s.count
  pub source_size : bring_size run.source ≤ s.source
  pub source_step_size : bring_size run.source_step ≤ s.source_step

-- those of one place of a run
abbrev pub single_sizes : RunSizes → RunSizes
single_sizes s = record { first = s.first + s.step + 2; step = 1; count = 1; source = s.source + s.source_step + 2; source_step = 1 }

pub single_sized : (run : RunExpr) (r : ℕ) (s : RunSizes) → IsSized run s → IsSized (single_run run (Variable r)) (single_sizes s)
single_sized run r s is = record {
  first_size = omega (arith, bring_plus run.first (times run.step (Variable r)), bring_times run.step (Variable r), is.first_size, is.step_size);
  step_size = omega arith;
  count_size = omega arith;
  source_size = omega (arith, bring_plus run.source (times run.source_step (Variable r)), bring_times run.source_step (Variable r), is.source_size, is.source_step_size);
  source_step_size = omega arith;
}

-- ---- axes: the size of the axis around so many copies of what is done with a run

pub record SizedBody (body : ℕ → RunExpr → Program) (s : RunSizes) (most : ℕ) : Type 0 where
  pub takes : (k : ℕ) (run : RunExpr) → IsSized run s → program_size (body k run) ≤ most

pub record SizedAxis (axis : Axis) (s : RunSizes) (over copies : ℕ) : Type 0 where
  pub takes : (d : ℕ) (body : ℕ → RunExpr → Program) (most : ℕ) → SizedBody body s most → program_size (axis d body) ≤ over + copies * most

sized_one : (run : RunExpr) (s : RunSizes) → IsSized run s → SizedAxis (one_run run) s 0 1
sized_one run s is = record { takes = λ d body most all. omega (arith, all.takes d run is) }

sized_some : (count : Expr) (run : Expr → RunExpr) (s : RunSizes) (n : ℕ) → expr_size count ≤ n → ((d : ℕ) → IsSized (run (Variable d)) s) → SizedAxis (some_run count run) s (n + 2) 1
sized_some count run s n low is = record { takes = λ d body most all. omega (arith, low, all.takes (d + 1) (run (Variable d)) (is d)) }

sized_named : (e : Expr) (axis : Expr → Axis) (s : RunSizes) (n over copies : ℕ) → expr_size e ≤ n → ((d : ℕ) → SizedAxis (axis (Variable d)) s over copies) → SizedAxis (named e axis) s (n + over) copies
sized_named e axis s n over copies low inner = record { takes = λ d body most all. omega (arith, low, (inner d).takes (d + 1) body most all) }

sized_both : (a b : Axis) (s : RunSizes) (m n : ℕ) → SizedAxis a s m 1 → SizedAxis b s n 1 → SizedAxis (both_axes a b) s (m + n) 2
sized_both a b s m n first second = record { takes = λ d body most all. omega (arith, first.takes d body most all, second.takes d body most all) }

sized_each : (count : Expr) (run : Expr → RunExpr) (s : RunSizes) (n : ℕ) → expr_size count ≤ n → ((d : ℕ) → IsSized (run (Variable d)) s) → SizedAxis (each_run count run) s (n + 5) 1
sized_each count run s n low is = record { takes = λ d body most all. omega (arith, low, all.takes (d + 2) (run (Variable (d + 1))) (is (d + 1))) }

sized_singles : (axis : Axis) (s : RunSizes) (over : ℕ) → SizedAxis axis s over 1 → SizedAxis (singles_of axis) (single_sizes s) (over + s.count + 6) 1
sized_singles axis s over inner = record {
  takes = λ d body most all.
      let turns = inner.takes d (λ k run. For run.count (body (k + 2) (single_run run (Variable (k + 1))))) (s.count + 6 + most) (record {
        takes = λ k run is. omega (arith, size_bring run.count, is.count_size, all.takes (k + 2) (single_run run (Variable (k + 1))) (single_sized run (k + 1) s is));
      }) in
      omega (arith, turns);
}

sized_up : (axis : Axis) (s : RunSizes) (a b copies : ℕ) → a ≤ b → SizedAxis axis s a copies → SizedAxis axis s b copies
sized_up axis s a b copies le inner = record { takes = λ d body most all. omega (arith, le, inner.takes d body most all) }

-- ---- the axes of a map, over names

abbrev pub plain_sizes : RunSizes
plain_sizes = record { first = 1; step = 1; count = 0; source = 0; source_step = 1 }

abbrev pub further_sizes : RunSizes
further_sizes = record { first = 1; step = 1; count = 0; source = 3; source_step = 1 }

abbrev pub sizes_of : Mapping → RunSizes
sizes_of Identity = plain_sizes
sizes_of (Shift dr dc fill) = further_sizes
sizes_of (Rotate dr dc) = record { first = 1; step = 1; count = 0; source = 1; source_step = 1 }
sizes_of (Section r0 nr sr c0 nc sc) = further_sizes
sizes_of (Stretch kr kc) = record { first = 12; step = 4; count = 30; source = 6; source_step = 4 }
sizes_of Transpose = plain_sizes

abbrev pub axis_size : Mapping → ℕ
axis_size (Shift dr dc fill) = 15
axis_size (Rotate dr dc) = 17
axis_size (Stretch kr kc) = 28
axis_size _ = 0

abbrev pub copies_of : Mapping → ℕ
copies_of (Rotate dr dc) = 2
copies_of _ = 1

sized_neighbours : (first count source : Expr) (s : RunSizes) (n : ℕ) → bring_size first ≤ s.first → 1 ≤ s.step → bring_size source ≤ s.source → 1 ≤ s.source_step → expr_size count ≤ n → SizedAxis (neighbours_axis first count source) s (n + 2) 1
sized_neighbours first count source s n low_first low_step low_source low_more low_count =
    sized_some count (λ c. record { first = first; step = Number 1; count = c; source = source; source_step = Number 1 }) s n low_count
    (λ d. record { first_size = low_first; step_size = low_step; count_size = omega arith; source_size = low_source; source_step_size = low_more })

sized_plain : (start n : ℕ) → SizedAxis (plain_axis (Variable start) (Variable n)) plain_sizes 0 1
sized_plain start n =
    sized_one (record { first = Number 0; step = Number 1; count = Variable n; source = Variable start; source_step = Number 1 }) plain_sizes
    (record { first_size = omega arith; step_size = omega arith; count_size = omega arith; source_size = omega arith; source_step_size = omega arith })

sized_cut : (first step start n : ℕ) → SizedAxis (cut_axis first step (Variable start) (Variable n)) further_sizes 0 1
sized_cut first step start n =
    sized_one (record { first = Number 0; step = Number 1; count = Variable n; source = Offset (scaled (Variable start) step) first; source_step = Number step }) further_sizes
    (record { first_size = omega arith; step_size = omega arith; count_size = omega arith; source_size = omega (arith, bring_scaled (Variable start) step); source_step_size = omega arith })

sized_shifted : (size : ℕ) (by : ℤ) (start n : ℕ) → SizedAxis (shifted_axis size by (Variable start) (Variable n)) further_sizes 15 1
sized_shifted size (pos k) start n =
    let from = Offset (Variable start) (min k size) in
    let count = IfLess from (Number size) (lesser (Variable n) (Difference (Number size) from)) (Number 0) in
    sized_up (neighbours_axis (Number 0) count from) further_sizes 14 15 1 (omega arith)
    (sized_neighbours (Number 0) count from further_sizes 12 (omega arith) (omega arith) (omega arith) (omega arith) (omega arith))
sized_shifted size (negsuc k) start n =
    let away = lesser (Variable n) (IfLess (Variable start) (Number (suc k)) (Difference (Number (suc k)) (Variable start)) (Number 0)) in
    sized_named away (λ outside. neighbours_axis outside (Difference (Variable n) outside) (Difference (Sum (Variable start) outside) (Number (suc k)))) further_sizes 12 3 1 (omega arith)
    (λ d. sized_neighbours (Variable d) (Difference (Variable n) (Variable d)) (Difference (Sum (Variable start) (Variable d)) (Number (suc k))) further_sizes 1 (omega arith) (omega arith) (omega arith) (omega arith) (omega arith))

abbrev round_sizes : RunSizes
round_sizes = record { first = 1; step = 1; count = 0; source = 1; source_step = 1 }

sized_round : (size : ℕ) (by : ℤ) (start n : ℕ) → SizedAxis (round_axis size by (Variable start) (Variable n)) round_sizes 17 2
sized_round size by start n =
    sized_named (Remainder (Offset (Variable start) (place_round size by)) (Number size))
    (λ first. named (lesser (Variable n) (Difference (Number size) first)) (λ before. both_axes (neighbours_axis (Number 0) before first) (neighbours_axis before (Difference (Variable n) before) (Number 0)))) round_sizes 5 12 2 (omega arith)
    (λ d. sized_named (lesser (Variable n) (Difference (Number size) (Variable d)))
    (λ before. both_axes (neighbours_axis (Number 0) before (Variable d)) (neighbours_axis before (Difference (Variable n) before) (Number 0))) round_sizes 6 6 2 (omega arith)
    (λ k. sized_both (neighbours_axis (Number 0) (Variable k) (Variable d)) (neighbours_axis (Variable k) (Difference (Variable n) (Variable k)) (Number 0)) round_sizes 3 3
    (sized_neighbours (Number 0) (Variable k) (Variable d) round_sizes 1 (omega arith) (omega arith) (omega arith) (omega arith) (omega arith))
    (sized_neighbours (Variable k) (Difference (Variable n) (Variable k)) (Number 0) round_sizes 1 (omega arith) (omega arith) (omega arith) (omega arith) (omega arith))))

abbrev pub stretch_sizes : RunSizes
stretch_sizes = record { first = 12; step = 4; count = 30; source = 6; source_step = 4 }

pub stretch_sized : (k start n flag first p : ℕ) → IsSized (pick_run (Variable flag) (phase_expr k (Variable start) (Variable n) (Variable p)) (block_expr k (Variable start) (Variable n) (Sum (Variable first) (Variable p)))) stretch_sizes
stretch_sized k start n flag first p = record { first_size = omega arith; step_size = omega arith; count_size = omega arith; source_size = omega arith; source_step_size = omega arith }

sized_repeated : (k start n : ℕ) → SizedAxis (repeated_axis k (Variable start) (Variable n)) stretch_sizes 28 1
sized_repeated k start n =
    let runs : (flag blocks first : Expr) → Axis = λ flag blocks first. either_runs flag (lesser (Number k) (Variable n)) blocks (phase_expr k (Variable start) (Variable n)) (λ t. block_expr k (Variable start) (Variable n) (Sum first t)) in
    let flag_expr : Expr → Expr = λ blocks. IfLess blocks (lesser (Number k) (Variable n)) (Number 1) (Number 0) in
    let blocks_expr : Expr → Expr = λ first. Difference (Offset (Quotient (Difference (Sum (Variable start) (Variable n)) (Number 1)) (Number k)) 1) first in
    sized_named (Quotient (Variable start) (Number k)) (λ first. named (blocks_expr first) (λ blocks. named (flag_expr blocks) (λ flag. runs flag blocks first))) stretch_sizes 2 26 1 (omega arith)
    (λ a. sized_named (blocks_expr (Variable a)) (λ blocks. named (flag_expr blocks) (λ flag. runs flag blocks (Variable a))) stretch_sizes 7 19 1 (omega arith)
    (λ c. sized_named (flag_expr (Variable c)) (λ flag. runs flag (Variable c) (Variable a)) stretch_sizes 7 12 1 (omega arith)
    (λ e. sized_each (pick (Variable e) (lesser (Number k) (Variable n)) (Variable c)) (λ t. pick_run (Variable e) (phase_expr k (Variable start) (Variable n) t) (block_expr k (Variable start) (Variable n) (Sum (Variable a) t))) stretch_sizes 7 (omega arith)
    (λ t. stretch_sized k start n e a t))))

pub sized_rows : (mapping : Mapping) (shape : Extent) (start n : ℕ) → SizedAxis (rows_axis mapping shape (Variable start) (Variable n)) (sizes_of mapping) (axis_size mapping) (copies_of mapping)
sized_rows Identity shape start n = sized_plain start n
sized_rows (Shift dr dc fill) shape start n = sized_shifted shape.rows dr start n
sized_rows (Rotate dr dc) shape start n = sized_round shape.rows dr start n
sized_rows (Section r0 nr sr c0 nc sc) shape start n = sized_cut r0 sr start n
sized_rows (Stretch kr kc) shape start n = sized_repeated kr start n
sized_rows Transpose shape start n = sized_plain start n

pub sized_columns : (mapping : Mapping) (shape : Extent) (start n : ℕ) → SizedAxis (columns_axis mapping shape (Variable start) (Variable n)) (sizes_of mapping) (axis_size mapping) (copies_of mapping)
sized_columns Identity shape start n = sized_plain start n
sized_columns (Shift dr dc fill) shape start n = sized_shifted shape.cols dc start n
sized_columns (Rotate dr dc) shape start n = sized_round shape.cols dc start n
sized_columns (Section r0 nr sr c0 nc sc) shape start n = sized_cut c0 sc start n
sized_columns (Stretch kr kc) shape start n = sized_repeated kc start n
sized_columns Transpose shape start n = sized_plain start n

-- ---- patches

pub record PatchSizes : Type 0 where
  pub rows : ℕ
  pub cols : ℕ
  pub to : ℕ
  pub to_step : ℕ
  pub from : ℕ
  pub from_step : ℕ

pub record IsPatchSized (p : PatchExpr) (z : PatchSizes) : Type 0 where
  pub rows_size : bring_size p.rows ≤ z.rows
  pub cols_size : bring_size p.cols ≤ z.cols
  pub to_size : bring_size p.to ≤ z.to
  pub to_step_size : bring_size p.to_step ≤ z.to_step
  pub from_size : bring_size p.from ≤ z.from
  pub from_step_size : bring_size p.from_step ≤ z.from_step

-- where the buffer and the tag take one instruction each at most
pub record SizedSides (s : SidesExpr) : Type 0 where
  pub buffer_size : bring_size s.buffer ≤ 1
  pub tag_size : bring_size s.tag ≤ 1

pub size_patch : (write : Bool) (s : SidesExpr) (p : PatchExpr) (z : PatchSizes) (d : ℕ) → SizedSides s → IsPatchSized p z
    → program_size (patch_program write s p d) ≤ 3 * z.rows + (6 * z.cols + (3 * z.to_step + (3 * z.from_step + (z.from + (z.to + 48)))))
size_patch write s p z d sides is =
    omega (
      arith,
      sides.buffer_size,
      sides.tag_size,
      is.rows_size,
      is.cols_size,
      is.to_size,
      is.to_step_size,
      is.from_size,
      is.from_step_size,
      size_bring p.rows,
      size_bring p.cols,
      bring_scaled p.from s.size,
      bring_scaled p.to s.size,
      bring_scaled (Variable (d + 1 + 1)) s.size,
      size_scaled p.from_step s.size,
      size_scaled p.to_step s.size,
    )

-- ---- runs of rows times runs of columns, of pieces whose width is at hand

abbrev pub line_sizes : RunSizes → RunSizes → PatchSizes
line_sizes a b = record { rows = a.count; cols = b.count; to = a.first + b.first + 2; to_step = a.step + 1; from = a.source + b.source + 5; from_step = a.source_step + 2 }

abbrev pub cross_sizes : RunSizes → RunSizes → PatchSizes
cross_sizes a b = record { rows = b.count; cols = 1; to = a.first + b.first + 2; to_step = b.step; from = a.source + b.source + 5; from_step = b.source_step + 2 }

module _ (s : SidesExpr) (a b : RunExpr) (sa sb : RunSizes) (at_hand : bring_size s.width ≤ 0) (is_a : IsSized a sa) (is_b : IsSized b sb) where
  to_sized : bring_size (plus (times a.first s.width) b.first) ≤ sa.first + sb.first + 2
  to_sized = omega (arith, bring_plus (times a.first s.width) b.first, bring_times a.first s.width, at_hand, is_a.first_size, is_b.first_size)

  from_sized : bring_size (Sum (scaled a.source s.row_pitch) (scaled b.source s.column_pitch)) ≤ sa.source + sb.source + 5
  from_sized = omega (arith, bring_scaled a.source s.row_pitch, bring_scaled b.source s.column_pitch, is_a.source_size, is_b.source_size)

  pub line_sized : IsPatchSized (line_expr s a b) (line_sizes sa sb)
  line_sized = record {
    rows_size = is_a.count_size;
    cols_size = is_b.count_size;
    to_size = to_sized;
    to_step_size = omega (arith, bring_times a.step s.width, at_hand, is_a.step_size);
    from_size = from_sized;
    from_step_size = omega (arith, bring_scaled a.source_step s.row_pitch, is_a.source_step_size);
  }

  pub cross_sized : IsPatchSized (cross_expr s a b) (cross_sizes sa sb)
  cross_sized = record {
    rows_size = is_b.count_size;
    cols_size = omega arith;
    to_size = to_sized;
    to_step_size = is_b.step_size;
    from_size = from_sized;
    from_step_size = omega (arith, bring_scaled b.source_step s.column_pitch, is_b.source_step_size);
  }

abbrev pub line_size : RunSizes → RunSizes → ℕ
line_size a b = 3 * a.count + (6 * b.count + (3 * (a.step + 1) + (3 * (a.source_step + 2) + ((a.source + b.source + 5) + ((a.first + b.first + 2) + 48)))))

abbrev pub cross_size : RunSizes → RunSizes → ℕ
cross_size a b = 3 * b.count + (6 + (3 * b.step + (3 * (b.source_step + 2) + ((a.source + b.source + 5) + ((a.first + b.first + 2) + 48)))))

module _ (s : SidesExpr) (rows columns : Axis) (sa sb : RunSizes) (m n i j : ℕ) (d : ℕ) (sides : SizedSides s) (at_hand : bring_size s.width ≤ 0) (sized_r : SizedAxis rows sa m i) (sized_c : SizedAxis columns sb n j) where
  size_lines : program_size (lines_program s rows columns d) ≤ m + i * (n + j * line_size sa sb)
  size_lines = sized_r.takes d (λ k a. columns k (λ l b. patch_program false s (line_expr s a b) l)) (n + j * line_size sa sb) (record {
    takes = λ k a is_a. sized_c.takes k (λ l b. patch_program false s (line_expr s a b) l) (line_size sa sb) (record {
      takes = λ l b is_b. size_patch false s (line_expr s a b) (line_sizes sa sb) l sides (line_sized s a b sa sb at_hand is_a is_b);
    });
  })

  size_crosses : program_size (crosses_program s rows columns d) ≤ m + i * (n + j * cross_size sa sb)
  size_crosses = sized_r.takes d (λ k a. columns k (λ l b. patch_program false s (cross_expr s a b) l)) (n + j * cross_size sa sb) (record {
    takes = λ k a is_a. sized_c.takes k (λ l b. patch_program false s (cross_expr s a b) l) (cross_size sa sb) (record {
      takes = λ l b is_b. size_patch false s (cross_expr s a b) (cross_sizes sa sb) l sides (cross_sized s a b sa sb at_hand is_a is_b);
    });
  })

-- ---- a leaf's piece

two_rooms : (t : Bool) (p q : Program) (m n : ℕ) → program_size p ≤ m → program_size q ≤ n → program_size (cond t p q) ≤ cond t m n
two_rooms true p q m n first second = first
two_rooms false p q m n first second = second

-- a piece whose numbers stand in these registers
abbrev pub named_piece : (r c h w : ℕ) → PieceExpr
named_piece r c h w = record { r0 = Variable r; c0 = Variable c; h = Variable h; w = Variable w }

module _ (shape : Extent) (s : SidesExpr) (r c h w d : ℕ) (sides : SizedSides s) (at_hand : bring_size s.width ≤ 0) where
  pub kept_size : (mapping : Mapping) → program_size (lines_program s (rows_axis mapping shape (Variable r) (Variable h)) (columns_axis mapping shape (Variable c) (Variable w)) d)
      ≤ axis_size mapping + copies_of mapping * (axis_size mapping + copies_of mapping * line_size (sizes_of mapping) (sizes_of mapping))
  kept_size mapping = size_lines s (rows_axis mapping shape (Variable r) (Variable h)) (columns_axis mapping shape (Variable c) (Variable w)) (sizes_of mapping) (sizes_of mapping) (axis_size mapping) (axis_size mapping) (copies_of mapping) (copies_of mapping) d
      sides at_hand (sized_rows mapping shape r h) (sized_columns mapping shape c w)

  -- element by element, along the rows and along the columns
  single_rows_size : (mapping : Mapping) → copies_of mapping ≡ 1 → program_size (crosses_program s (singles_of (rows_axis mapping shape (Variable r) (Variable h))) (columns_axis mapping shape (Variable c) (Variable w)) d)
      ≤ (axis_size mapping + (sizes_of mapping).count + 6) + (axis_size mapping + cross_size (single_sizes (sizes_of mapping)) (sizes_of mapping))
  single_rows_size mapping one =
      let rows = rows_axis mapping shape (Variable r) (Variable h) in
      let columns = columns_axis mapping shape (Variable c) (Variable w) in
      let over = axis_size mapping in
      let sized_r = subst (SizedAxis rows (sizes_of mapping) over) one (sized_rows mapping shape r h) in
      let sized_c = subst (SizedAxis columns (sizes_of mapping) over) one (sized_columns mapping shape c w) in
      omega (arith, size_crosses s (singles_of rows) columns (single_sizes (sizes_of mapping)) (sizes_of mapping) (over + (sizes_of mapping).count + 6) over 1 1 d sides at_hand (sized_singles rows (sizes_of mapping) over sized_r) sized_c)

  single_columns_size : (mapping : Mapping) → copies_of mapping ≡ 1 → program_size (lines_program s (rows_axis mapping shape (Variable r) (Variable h)) (singles_of (columns_axis mapping shape (Variable c) (Variable w))) d)
      ≤ axis_size mapping + ((axis_size mapping + (sizes_of mapping).count + 6) + line_size (sizes_of mapping) (single_sizes (sizes_of mapping)))
  single_columns_size mapping one =
      let rows = rows_axis mapping shape (Variable r) (Variable h) in
      let columns = columns_axis mapping shape (Variable c) (Variable w) in
      let over = axis_size mapping in
      let sized_r = subst (SizedAxis rows (sizes_of mapping) over) one (sized_rows mapping shape r h) in
      let sized_c = subst (SizedAxis columns (sizes_of mapping) over) one (sized_columns mapping shape c w) in
      omega (arith, size_lines s rows (singles_of columns) (sizes_of mapping) (single_sizes (sizes_of mapping)) over (over + (sizes_of mapping).count + 6) 1 1 d sides at_hand sized_r (sized_singles columns (sizes_of mapping) over sized_c))

  pub read_size : (mapping : Mapping) → program_size (read_program mapping shape s (named_piece r c h w) d) ≤ leaf_room mapping
  read_size Identity = omega (arith, kept_size Identity)
  read_size (Shift dr dc fill) = omega (arith, kept_size (Shift dr dc fill))
  read_size (Rotate dr dc) = omega (arith, kept_size (Rotate dr dc))
  read_size (Section r0 nr sr c0 nc sc) =
      let m = Section r0 nr sr c0 nc sc in
      two_rooms (eqb sc 1) _ _ 78 200 (omega (arith, kept_size m)) (omega (arith, single_rows_size m refl, single_columns_size m refl))
  read_size (Stretch kr kc) =
      let m = Stretch kr kc in
      two_rooms (eqb kc 1) _ _ 450 760 (omega (arith, kept_size m)) (omega (arith, single_rows_size m refl, single_columns_size m refl))
  read_size Transpose = omega (arith, single_rows_size Transpose refl, single_columns_size Transpose refl)

-- ---- the laws

variable_of : (e : Expr) → bring_size e ≤ 0 → (r : ℕ) × (e ≡ Variable r)
variable_of (Variable r) low = (r, refl)
variable_of (Number n) low = absurd (omega (arith, low))
variable_of (Offset a n) low = absurd (omega (arith, low))
variable_of (Sum a b) low = absurd (omega (arith, low))
variable_of (Difference a b) low = absurd (omega (arith, low))
variable_of (Product a b) low = absurd (omega (arith, low))
variable_of (Quotient a b) low = absurd (omega (arith, low))
variable_of (Remainder a b) low = absurd (omega (arith, low))
variable_of (IfLess a b x y) low = absurd (omega (arith, low))

-- a piece that is at hand is one of registers
pub piece_named : (piece : PieceExpr) (target : Target) → AreAtHand piece target → (r : ℕ) × (c : ℕ) × (h : ℕ) × (w : ℕ) × (piece ≡ named_piece r c h w)
piece_named piece target names =
    let (r, is_r) = variable_of piece.r0 names.r0 in
    let (c, is_c) = variable_of piece.c0 names.c0 in
    let (h, is_h) = variable_of piece.h names.h in
    let (w, is_w) = variable_of piece.w names.w in
    let made : Expr → Expr → Expr → Expr → PieceExpr = λ a b x y. record { r0 = a; c0 = b; h = x; w = y } in
    (r, c, h, w, ap (λ e. made e piece.c0 piece.h piece.w) is_r ∙ ap (λ e. made (Variable r) e piece.h piece.w) is_c ∙ ap (λ e. made (Variable r) (Variable c) e piece.w) is_h ∙ ap (λ e. made (Variable r) (Variable c) (Variable h) e) is_w)

pub leaf_sized : (leaf : Leaf) (from : ArrayPlace) (piece : PieceExpr) (target : Target) (d : ℕ) → AreAtHand piece target → program_size (leaf_program leaf from piece target d) ≤ leaf_room leaf.map
leaf_sized leaf from piece target d names =
    let (r, c, h, w, is) = piece_named piece target names in
    let sides = sides_of_leaf leaf from target.buffer (Variable w) target.tag in
    let here = read_size leaf.shape sides r c h w d (record { buffer_size = names.buffer; tag_size = names.tag }) (omega arith) leaf.map in
    subst (λ (q : PieceExpr). program_size (leaf_program leaf from q target d) ≤ leaf_room leaf.map) (sym is) here

pub write_sized : (to : ArrayPlace) (piece : PieceExpr) (target : Target) (d : ℕ) → AreShort piece target → program_size (write_program to piece target d) ≤ write_room
write_sized to piece target d names =
    size_patch true (sides_of_array to target.buffer piece.w target.tag) (whole_expr to.shape piece) (record { rows = 1; cols = 1; to = 1; to_step = 1; from = 5; from_step = 1 }) d
    (record { buffer_size = names.buffer; tag_size = names.tag }) (record {
      rows_size = names.h;
      cols_size = names.w;
      to_size = omega arith;
      to_step_size = names.w;
      from_size = omega (arith, bring_scaled piece.r0 to.shape.cols, names.r0, names.c0);
      from_step_size = omega arith;
    })

pub leaves_take_their_room : LeavesTakeTheirRoom
leaves_take_their_room leaf from piece target d names = omega (arith, block_sized (leaf_program leaf from piece target d) d, leaf_sized leaf from piece target d names)

pub writes_take_their_room : WritesTakeTheirRoom
writes_take_their_room to piece target d names = omega (arith, block_sized (write_program to piece target d) d, write_sized to piece target d names)
