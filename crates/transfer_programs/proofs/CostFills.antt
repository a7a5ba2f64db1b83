-- How large the program of a leaf's fills is, and how many steps it takes.
use Rattle.std.proofs.Common.{◌≡◌, ℕ, ◌+◌, ◌≤◌, ℤ, pos, negsuc, arith, refl, sym, subst, true}
use Rattle.ven_base.specs.Elem.{size_of}
use Rattle.ven_base.specs.Extent.{Extent}
use Rattle.ven_base.specs.declared.mapping.Mapping.{Mapping}
use Rattle.ven_base.specs.declared.mapping.Mapping.TheVariants.{Identity, Shift, Rotate, Section, Stretch, Transpose}
use Rattle.pass_plan.specs.declared.leaf.Leaf.{Leaf}
use Rattle.host_programs.specs.Expr.{Expr, Number, Variable, Difference}
use Rattle.transfer_programs.specs.Axis.{times, plus}
use Rattle.transfer_programs.specs.ReadProgram.{PieceExpr}
use Rattle.transfer_programs.specs.FillProgram.{FillSides, row_bytes, rows_fill, columns_fill, outside_expr, bytes_before, fills_in_order, shift_fills, map_fills, fill_program}
use Rattle.transfer_programs.specs.Cost.{expr_size, bring_size, program_size}
use Rattle.transfer_programs.specs.CostLaws.{fill_room, FillAtHand, FillsTakeTheirRoom, FillsTakeFewSteps}
use Rattle.transfer_programs.proofs.CostPrograms.{block_sized}
use Rattle.transfer_programs.proofs.CostSizes.{size_bring, size_scaled, bring_scaled, bring_times, bring_plus}
use Rattle.transfer_programs.proofs.CostSteps.{is_straight, straight_least}

module _ (s : FillSides) (at_hand : bring_size s.width ≤ 0) (small_buffer : bring_size s.buffer ≤ 1) where
  row_brought : bring_size (row_bytes s) ≤ 2
  row_brought = omega (arith, bring_scaled s.width (size_of s.elem), at_hand)

  row_put : expr_size (row_bytes s) ≤ 2
  row_put = omega (arith, size_scaled s.width (size_of s.elem), at_hand)

  size_rows : (first count : Expr) → bring_size first ≤ 1 → bring_size count ≤ 0 → program_size (rows_fill s first count) ≤ 24
  size_rows first count low_first low_count =
      omega (arith, low_first, low_count, at_hand, small_buffer, bring_plus (times first (row_bytes s)) s.buffer, bring_times first (row_bytes s), row_brought)

  size_columns : (first count before columns : Expr) (d : ℕ) → bring_size first ≤ 1 → bring_size count ≤ 1 → bring_size before ≤ 3 → bring_size columns ≤ 0
      → program_size (columns_fill s first count before columns d) ≤ 41
  size_columns first count before columns d low_first low_count low_before low_columns =
      omega (
        arith,
        low_first,
        low_count,
        low_before,
        low_columns,
        at_hand,
        small_buffer,
        size_bring count,
        size_bring columns,
        bring_plus (times first (row_bytes s)) (plus before s.buffer),
        bring_times first (row_bytes s),
        bring_plus before s.buffer,
        row_brought,
        row_put,
      )

outside_size : (size : ℕ) (by : ℤ) (start n : Expr) → bring_size start ≤ 0 → bring_size n ≤ 0 → expr_size (outside_expr size by start n) ≤ 15
outside_size size (pos k) start n low_start low_n = omega (arith, low_start, low_n, size_bring n)
outside_size size (negsuc k) start n low_start low_n = omega (arith, low_start, low_n, size_bring n)

before_size : (s : FillSides) (by : ℤ) (r : ℕ) → bring_size s.width ≤ 0 → bring_size (bytes_before s by (Variable r)) ≤ 3
before_size s (pos k) r at_hand = omega (arith, bring_scaled (Difference s.width (Variable r)) (size_of s.elem), at_hand)
before_size s (negsuc k) r at_hand = omega arith

size_order : (s : FillSides) (by : ℤ) (height before : Expr) (a b d : ℕ) → bring_size s.width ≤ 0 → bring_size s.buffer ≤ 1 → bring_size height ≤ 0 → bring_size before ≤ 3
    → program_size (fills_in_order s by height (Variable a) before (Variable b) d) ≤ 65
size_order s (pos k) height before a b d at_hand small_buffer low_height low_before =
    omega (
      arith,
      size_columns s at_hand small_buffer (Number 0) (Difference height (Variable a)) before (Variable b) d (omega arith) (omega (arith, low_height)) low_before (omega arith),
      size_rows s at_hand small_buffer (Difference height (Variable a)) (Variable a) (omega (arith, low_height)) (omega arith),
    )
size_order s (negsuc k) height before a b d at_hand small_buffer low_height low_before =
    omega (
      arith,
      size_columns s at_hand small_buffer (Variable a) (Difference height (Variable a)) before (Variable b) d (omega arith) (omega (arith, low_height)) low_before (omega arith),
      size_rows s at_hand small_buffer (Number 0) (Variable a) (omega arith) (omega arith),
    )

straight_order : (s : FillSides) (by : ℤ) (height outside before columns : Expr) (d : ℕ) → is_straight (fills_in_order s by height outside before columns d) ≡ true
straight_order s (pos k) height outside before columns d = refl
straight_order s (negsuc k) height outside before columns d = refl

size_shift : (s : FillSides) (shape : Extent) (dr dc : ℤ) (piece : PieceExpr) (d : ℕ) → s.width ≡ piece.w → FillAtHand piece s.buffer → program_size (shift_fills s shape dr dc piece d) ≤ 95
size_shift s shape dr dc piece d is_width hand =
    let at_hand : bring_size s.width ≤ 0 = subst (λ e. bring_size e ≤ 0) (sym is_width) hand.w in
    omega (
      arith,
      outside_size shape.rows dr piece.r0 piece.h hand.r0 hand.h,
      outside_size shape.cols dc piece.c0 piece.w hand.c0 hand.w,
      size_order s dr piece.h (bytes_before s dc (Variable (d + 1))) d (d + 1) (d + 1 + 1) at_hand hand.buffer_size hand.h (before_size s dc (d + 1) at_hand),
    )

pub fills_sized : (mapping : Mapping) (leaf : Leaf) (piece : PieceExpr) (buffer : Expr) (d : ℕ) → FillAtHand piece buffer → program_size (map_fills mapping leaf piece buffer d) ≤ fill_room mapping
fills_sized (Shift dr dc value) leaf piece buffer d hand =
    size_shift (record { elem = leaf.elem; value = value; buffer = buffer; width = piece.w }) leaf.shape dr dc piece d refl hand
fills_sized Identity leaf piece buffer d hand = omega arith
fills_sized (Rotate dr dc) leaf piece buffer d hand = omega arith
fills_sized (Section r0 nr sr c0 nc sc) leaf piece buffer d hand = omega arith
fills_sized (Stretch kr kc) leaf piece buffer d hand = omega arith
fills_sized Transpose leaf piece buffer d hand = omega arith

pub straight_fills : (mapping : Mapping) (leaf : Leaf) (piece : PieceExpr) (buffer : Expr) (d : ℕ) → is_straight (map_fills mapping leaf piece buffer d) ≡ true
straight_fills (Shift dr dc value) leaf piece buffer d =
    let s : FillSides = record { elem = leaf.elem; value = value; buffer = buffer; width = piece.w } in
    straight_order s dr piece.h (Variable d) (bytes_before s dc (Variable (d + 1))) (Variable (d + 1)) (d + 1 + 1)
straight_fills Identity leaf piece buffer d = refl
straight_fills (Rotate dr dc) leaf piece buffer d = refl
straight_fills (Section r0 nr sr c0 nc sc) leaf piece buffer d = refl
straight_fills (Stretch kr kc) leaf piece buffer d = refl
straight_fills Transpose leaf piece buffer d = refl

pub fills_take_their_room : FillsTakeTheirRoom
fills_take_their_room leaf piece buffer d hand = omega (arith, block_sized (fill_program leaf piece buffer d) d, fills_sized leaf.map leaf piece buffer d hand)

pub fills_take_few_steps : FillsTakeFewSteps
fills_take_few_steps leaf piece buffer d f hand =
    omega (arith, straight_least (fill_program leaf piece buffer d) d f (straight_fills leaf.map leaf piece buffer d), fills_sized leaf.map leaf piece buffer d hand)
