-- The programs of fills read no register that isn't in use, and take few.
use Rattle.std.proofs.Common.{◌≡◌, ℕ, suc, ◌+◌, ◌≤◌, max, min, ℤ, pos, negsuc, refl, arith, true}
use Rattle.std.proofs.lemmas.Bool.{and_from, lt-ltb}
use Rattle.ven_base.specs.declared.mapping.Mapping.{Mapping}
use Rattle.ven_base.specs.declared.mapping.Mapping.TheVariants.{Shift}
use Rattle.ven_base.specs.Elem.{size_of}
use Rattle.pass_plan.specs.declared.leaf.Leaf.{Leaf}
use Rattle.host_programs.specs.Expr.{Expr, Number, Variable, Offset, Sum, Difference, Product, IfLess, is_below}
use Rattle.host_programs.specs.ProgramCode.{is_order_closed, is_closed}
use Rattle.host_programs.specs.Room.{room, order_room, program_room}
use Rattle.transfer_programs.specs.Axis.{times, plus}
use Rattle.transfer_programs.specs.ReadProgram.{PieceExpr}
use Rattle.transfer_programs.specs.FillProgram.{FillSides, row_bytes, FillExpr, fill_order, rows_fill, columns_fill, outside_expr, bytes_before, fills_in_order, map_fills}
use Rattle.transfer_programs.specs.FillLaws.{FillsBelow, FillsAreClosed, FillNames, FillsTakeFew}
use Rattle.host_programs.proofs.Exprs.{below_more}
use Rattle.transfer_programs.proofs.Axes.{below_scaled, below_times, below_plus}
use Rattle.transfer_programs.proofs.AxisRuns.{new_below}
use Rattle.transfer_programs.proofs.Closed.{lesser_low}
use Rattle.transfer_programs.proofs.Few.{room_scaled, room_times, room_plus}

-- ---- registers in use alone

record SidesLow (s : FillSides) (d : ℕ) : Type 0 where
  buffer : is_below s.buffer d ≡ true
  width : is_below s.width d ≡ true

sides_up : (s : FillSides) (d k : ℕ) → d ≤ k → SidesLow s d → SidesLow s k
sides_up s d k le low = record { buffer = below_more s.buffer d k le low.buffer; width = below_more s.width d k le low.width }

order_low : (s : FillSides) (fill : FillExpr) (d : ℕ) → is_below fill.at d ≡ true → is_below fill.rows d ≡ true → is_below fill.cols d ≡ true → is_below fill.step d ≡ true → is_order_closed (fill_order s fill) d ≡ true
order_low s fill d at rows cols step = and_from _ _ cols (and_from _ _ rows (and_from _ _ at (and_from _ _ refl (and_from _ _ refl (and_from _ _ step refl)))))

bytes_low : (s : FillSides) (d : ℕ) → SidesLow s d → is_below (row_bytes s) d ≡ true
bytes_low s d low = below_scaled s.width (size_of s.elem) d low.width

closed_rows_fill : (s : FillSides) (first count : Expr) (d : ℕ) → SidesLow s d → is_below first d ≡ true → is_below count d ≡ true → is_closed (rows_fill s first count) d ≡ true
closed_rows_fill s first count d low low_first low_count =
    let at = below_plus (times first (row_bytes s)) s.buffer d (below_times first (row_bytes s) d low_first (bytes_low s d low)) low.buffer in
    let fill : FillExpr = record { at = plus (times first (row_bytes s)) s.buffer; rows = Number 1; cols = Product count s.width; step = Number 0 } in
    and_from _ _ low_count (and_from _ _ refl (order_low s fill d at refl (and_from _ _ low_count low.width) refl))

closed_columns_fill : (s : FillSides) (first count before columns : Expr) (d : ℕ) → SidesLow s d → is_below first d ≡ true → is_below count d ≡ true → is_below before d ≡ true → is_below columns d ≡ true
    → is_closed (columns_fill s first count before columns d) d ≡ true
closed_columns_fill s first count before columns d low low_first low_count low_before low_columns =
    let last = d + 1 + 1 in
    let up : (e : Expr) → is_below e d ≡ true → is_below e last ≡ true = λ e h. below_more e d last (omega arith) h in
    let low' = sides_up s d last (omega arith) low in
    let count1 = new_below d in
    let count2 : is_below (Variable d) last ≡ true = lt-ltb d last (omega arith) in
    let rows2 = new_below (d + 1) in
    let columns1 = below_more columns d (d + 1) (omega arith) low_columns in
    let width1 = below_more s.width d (d + 1) (omega arith) low.width in
    let columns2 = up columns low_columns in
    let at = below_plus (times first (row_bytes s)) (plus before s.buffer) last (below_times first (row_bytes s) last (up first low_first) (bytes_low s last low')) (below_plus before s.buffer last (up before low_before) low'.buffer) in
    let cols = and_from _ _ (and_from _ _ columns2 low'.width) (and_from _ _ columns2 (and_from _ _ count2 columns2)) in
    let step = and_from _ _ (and_from _ _ rows2 refl) (and_from _ _ refl (bytes_low s last low')) in
    let fill : FillExpr = record {
      at = plus (times first (row_bytes s)) (plus before s.buffer);
      rows = Variable (d + 1);
      cols = IfLess columns s.width columns (Product (Variable d) columns);
      step = IfLess (Variable (d + 1)) (Number 2) (Number 0) (row_bytes s);
    } in
    and_from _ _ low_columns (and_from _ _ refl (and_from _ _ low_count (and_from _ _ count1 (and_from _ _ refl (and_from _ _ (and_from _ _ (and_from _ _ columns1 width1) (and_from _ _ count1 refl))
    (order_low s fill last at rows2 cols step))))))

outside_low : (size : ℕ) (by : ℤ) (start n : Expr) (d : ℕ) → is_below start d ≡ true → is_below n d ≡ true → is_below (outside_expr size by start n) d ≡ true
outside_low size (pos k) start n d low_start low_n =
    let past : is_below (Offset (Sum start n) (min k size)) d ≡ true = and_from _ _ low_start low_n in
    let over : is_below (Difference (Offset (Sum start n) (min k size)) (Number size)) d ≡ true = and_from _ _ past refl in
    and_from _ _ (and_from _ _ past refl) (and_from _ _ refl (lesser_low n (Difference (Offset (Sum start n) (min k size)) (Number size)) d low_n over))
outside_low size (negsuc k) start n d low_start low_n =
    let under : is_below (Difference (Number (suc k)) start) d ≡ true = and_from _ _ refl low_start in
    and_from _ _ (and_from _ _ refl low_start) (and_from _ _ refl (lesser_low n (Difference (Number (suc k)) start) d low_n under))

before_low : (s : FillSides) (by : ℤ) (columns : Expr) (d : ℕ) → SidesLow s d → is_below columns d ≡ true → is_below (bytes_before s by columns) d ≡ true
before_low s (pos k) columns d low low_columns = below_scaled (Difference s.width columns) (size_of s.elem) d (and_from _ _ low.width low_columns)
before_low s (negsuc k) columns d low low_columns = refl

closed_in_order : (s : FillSides) (by : ℤ) (height outside before columns : Expr) (d : ℕ) → SidesLow s d → is_below height d ≡ true → is_below outside d ≡ true → is_below before d ≡ true → is_below columns d ≡ true
    → is_closed (fills_in_order s by height outside before columns d) d ≡ true
closed_in_order s (pos k) height outside before columns d low low_height low_outside low_before low_columns =
    let left = and_from _ _ low_height low_outside in
    and_from _ _ (closed_columns_fill s (Number 0) (Difference height outside) before columns d low refl left low_before low_columns) (closed_rows_fill s (Difference height outside) outside d low left low_outside)
closed_in_order s (negsuc k) height outside before columns d low low_height low_outside low_before low_columns =
    let left = and_from _ _ low_height low_outside in
    and_from _ _ (closed_rows_fill s (Number 0) outside d low refl low_outside) (closed_columns_fill s outside (Difference height outside) before columns d low low_outside left low_before low_columns)

closed_map : (mapping : Mapping) (leaf : Leaf) (piece : PieceExpr) (buffer : Expr) (d : ℕ) → FillsBelow piece buffer d → is_closed (map_fills mapping leaf piece buffer d) d ≡ true
closed_map (Shift dr dc number) leaf piece buffer d low =
    let s : FillSides = record { elem = leaf.elem; value = number; buffer = buffer; width = piece.w } in
    let last = d + 1 + 1 in
    let up : (e : Expr) (k : ℕ) → d ≤ k → is_below e d ≡ true → is_below e k ≡ true = λ e k le h. below_more e d k le h in
    let low_s : SidesLow s last = record { buffer = up buffer last (omega arith) low.buffer_below; width = up piece.w last (omega arith) low.w } in
    let rows = outside_low leaf.shape.rows dr piece.r0 piece.h d low.r0 low.h in
    let columns = outside_low leaf.shape.cols dc piece.c0 piece.w (d + 1) (up piece.c0 (d + 1) (omega arith) low.c0) (up piece.w (d + 1) (omega arith) low.w) in
    let named = new_below (d + 1) in
    and_from _ _ rows (and_from _ _ columns (closed_in_order s dr piece.h (Variable d) (bytes_before s dc (Variable (d + 1))) (Variable (d + 1)) last low_s
    (up piece.h last (omega arith) low.h) (lt-ltb d last (omega arith)) (before_low s dc (Variable (d + 1)) last low_s named) named))
closed_map _ leaf piece buffer d low = refl

pub fills_are_closed : FillsAreClosed
fills_are_closed leaf piece buffer d low = closed_map leaf.map leaf piece buffer d low

-- ---- few registers

record SidesFew (s : FillSides) : Type 0 where
  buffer : room s.buffer ≤ 1
  width : room s.width ≤ 1

room_order : (s : FillSides) (fill : FillExpr) → room fill.at ≤ 3 → room fill.rows ≤ 3 → room fill.cols ≤ 3 → room fill.step ≤ 3 → order_room (fill_order s fill) ≤ 3
room_order s fill at rows cols step =
    let last : max (room fill.step) (max 1 (max 1 1)) ≤ 3 = omega (arith, step) in
    let more : max 1 (max 1 (max (room fill.step) (max 1 (max 1 1)))) ≤ 3 = omega (arith, last) in
    omega (arith, more, at, rows, cols)

room_bytes : (s : FillSides) → SidesFew s → room (row_bytes s) ≤ 2
room_bytes s few = omega (arith, room_scaled s.width (size_of s.elem), few.width)

few_rows_fill : (s : FillSides) (first count : Expr) → SidesFew s → room first ≤ 2 → room count ≤ 2 → program_room (rows_fill s first count) ≤ 3
few_rows_fill s first count few low_first low_count =
    let bytes = room_bytes s few in
    let at : room (plus (times first (row_bytes s)) s.buffer) ≤ 3 = omega (arith, room_plus (times first (row_bytes s)) s.buffer, room_times first (row_bytes s), bytes, low_first, few.buffer) in
    let cols : room (Product count s.width) ≤ 3 = omega (arith, low_count, few.width) in
    let fill : FillExpr = record { at = plus (times first (row_bytes s)) s.buffer; rows = Number 1; cols = Product count s.width; step = Number 0 } in
    omega (arith, room_order s fill at (omega arith) cols (omega arith), low_count)

few_columns_fill : (s : FillSides) (first count before columns : Expr) (d : ℕ) → SidesFew s → room first ≤ 2 → room count ≤ 2 → room before ≤ 2 → room columns ≤ 1 → program_room (columns_fill s first count before columns d) ≤ 5
few_columns_fill s first count before columns d few low_first low_count low_before low_columns =
    let bytes = room_bytes s few in
    let place : room (plus before s.buffer) ≤ 2 = omega (arith, room_plus before s.buffer, low_before, few.buffer) in
    let row : room (times first (row_bytes s)) ≤ 3 = omega (arith, room_times first (row_bytes s), bytes, low_first) in
    let at : room (plus (times first (row_bytes s)) (plus before s.buffer)) ≤ 3 = omega (arith, room_plus (times first (row_bytes s)) (plus before s.buffer), row, place) in
    let cols : room (IfLess columns s.width columns (Product (Variable d) columns)) ≤ 3 = omega (arith, low_columns, few.width) in
    let step : room (IfLess (Variable (d + 1)) (Number 2) (Number 0) (row_bytes s)) ≤ 3 = omega (arith, bytes) in
    let rows : room (IfLess columns s.width (Variable d) (Number 1)) ≤ 3 = omega (arith, low_columns, few.width) in
    let fill : FillExpr = record {
      at = plus (times first (row_bytes s)) (plus before s.buffer);
      rows = Variable (d + 1);
      cols = IfLess columns s.width columns (Product (Variable d) columns);
      step = IfLess (Variable (d + 1)) (Number 2) (Number 0) (row_bytes s);
    } in
    omega (arith, room_order s fill at (omega arith) cols step, rows, low_count, low_columns)

few_outside : (size : ℕ) (by : ℤ) (start n : Expr) → room start ≤ 1 → room n ≤ 1 → room (outside_expr size by start n) ≤ 4
few_outside size (pos k) start n low_start low_n = omega (arith, low_start, low_n)
few_outside size (negsuc k) start n low_start low_n = omega (arith, low_start, low_n)

few_before : (s : FillSides) (by : ℤ) (columns : Expr) → SidesFew s → room columns ≤ 1 → room (bytes_before s by columns) ≤ 2
few_before s (pos k) columns few low_columns = omega (arith, room_scaled (Difference s.width columns) (size_of s.elem), few.width, low_columns)
few_before s (negsuc k) columns few low_columns = omega arith

at_most : (a b n : ℕ) → a ≤ n → b ≤ n → max a b ≤ n
at_most a b n low_a low_b = omega (arith, low_a, low_b)

up : (n : ℕ) → n ≤ 3 → n ≤ 5
up n low = omega (arith, low)

-- behind two names
named_few : (a b p : ℕ) → a ≤ 4 → b ≤ 4 → p ≤ 5 → max a (max b (p + 1) + 1) ≤ 10
named_few a b p low_a low_b low_p = omega (arith, low_a, low_b, low_p)

few_in_order : (s : FillSides) (by : ℤ) (height outside before columns : Expr) (d : ℕ) → SidesFew s → room height ≤ 1 → room outside ≤ 1 → room before ≤ 2 → room columns ≤ 1
    → program_room (fills_in_order s by height outside before columns d) ≤ 5
few_in_order s (pos k) height outside before columns d few low_height low_outside low_before low_columns =
    let left : room (Difference height outside) ≤ 2 = omega (arith, low_height, low_outside) in
    let rows = few_rows_fill s (Difference height outside) outside few left (omega (arith, low_outside)) in
    at_most (program_room (columns_fill s (Number 0) (Difference height outside) before columns d)) (program_room (rows_fill s (Difference height outside) outside)) 5
    (few_columns_fill s (Number 0) (Difference height outside) before columns d few (omega arith) left low_before low_columns) (up (program_room (rows_fill s (Difference height outside) outside)) rows)
few_in_order s (negsuc k) height outside before columns d few low_height low_outside low_before low_columns =
    let left : room (Difference height outside) ≤ 2 = omega (arith, low_height, low_outside) in
    let rows = few_rows_fill s (Number 0) outside few (omega arith) (omega (arith, low_outside)) in
    at_most (program_room (rows_fill s (Number 0) outside)) (program_room (columns_fill s outside (Difference height outside) before columns d)) 5
    (up (program_room (rows_fill s (Number 0) outside)) rows) (few_columns_fill s outside (Difference height outside) before columns d few (omega (arith, low_outside)) left low_before low_columns)

few_map : (mapping : Mapping) (leaf : Leaf) (piece : PieceExpr) (buffer : Expr) (d : ℕ) → FillNames piece buffer → program_room (map_fills mapping leaf piece buffer d) ≤ 10
few_map (Shift dr dc number) leaf piece buffer d names =
    let s : FillSides = record { elem = leaf.elem; value = number; buffer = buffer; width = piece.w } in
    let few : SidesFew s = record { buffer = names.buffer_room; width = names.w } in
    let rows = few_outside leaf.shape.rows dr piece.r0 piece.h names.r0 names.h in
    let columns = few_outside leaf.shape.cols dc piece.c0 piece.w names.c0 names.w in
    let inner = few_in_order s dr piece.h (Variable d) (bytes_before s dc (Variable (d + 1))) (Variable (d + 1)) (d + 1 + 1) few names.h (omega arith) (few_before s dc (Variable (d + 1)) few (omega arith)) (omega arith) in
    named_few (room (outside_expr leaf.shape.rows dr piece.r0 piece.h)) (room (outside_expr leaf.shape.cols dc piece.c0 piece.w))
    (program_room (fills_in_order s dr piece.h (Variable d) (bytes_before s dc (Variable (d + 1))) (Variable (d + 1)) (d + 1 + 1))) rows columns inner
few_map _ leaf piece buffer d names = omega arith

pub fills_take_few : FillsTakeFew
fills_take_few leaf piece buffer d names = few_map leaf.map leaf piece buffer d names
