-- The program of a split takes no more registers than there are.
use Rattle.std.proofs.Common.{ℕ, ◌+◌, ◌*◌, ◌≤◌, max, arith, Bool, true, false, cond, eqb, List, [], ◌∷◌, length, get_or, All}
use Rattle.std.proofs.lemmas.Bool.{cond_both}
use Rattle.std.proofs.lemmas.List.Elements.{All-cons, All-nil}
use Rattle.ven_base.specs.declared.elem.Elem.{Elem}
use Rattle.ven_base.specs.declared.ops.Fold.TheVariants as fold
use Rattle.ven_base.specs.declared.ops.Op2.TheVariants as op2
use Rattle.ven_base.specs.Elem.{size_of}
use Rattle.venice_isa.specs.declared.kind.VecKind.{VecKind}
use Rattle.vector_codegen.specs.Kind.{two_kind}
use Rattle.pass_plan.specs.declared.parts.Tile.{Tile}
use Rattle.pass_plan.specs.declared.pass.PassKind.{PassKind}
use Rattle.pass_plan.specs.declared.pass.PassKind.TheVariants.{Map, Reduce}
use Rattle.pass_plan.specs.declared.split.ArrayPlace.{ArrayPlace}
use Rattle.pass_plan.specs.Pass.{Pass}
use Rattle.pass_plan.specs.Tile.{tile_of, tiles_of}
use Rattle.pass_plan.specs.Buffers.{tiles_per_row}
use Rattle.pass_plan.specs.Sound.{no_place}
use Rattle.buffer_lifetimes.specs.declared.step.Operand.{Operand}
use Rattle.buffer_lifetimes.specs.declared.step.Operand.TheVariants as operand
use Rattle.buffer_lifetimes.specs.OrderOf.{order_of}
use Rattle.buffer_lifetimes.specs.Step.{Step}
use Rattle.dma_segments.specs.Laws.{leaf_of}
use Rattle.dma_schedule.specs.PipeList.{destination}
use Rattle.host_programs.specs.Expr.{Expr, Number, Variable, Offset, Difference, Product, Quotient, Remainder}
use Rattle.host_programs.specs.Program.{AwaitReads, AwaitWrites, Program, Emit, Both, UnlessLess, Let, For}
use Rattle.host_programs.specs.ProgramCode.{vector_settings}
use Rattle.host_programs.specs.Room.{room, settings_room, program_room}
use Rattle.transfer_programs.specs.Axis.{scaled, lesser}
use Rattle.transfer_programs.specs.ReadProgram.{Target, write_program}
use Rattle.transfer_programs.specs.ReadLaws.{AreNames, ReadsTakeFew, WritesTakeFew}
use Rattle.transfer_programs.specs.FillLaws.{FillsTakeFew}
use Rattle.host_codegen.specs.Geometry.{Layout, layout_of, slot_cell, partial_cell, first_column_expr, columns_expr, with_tile, piece_at, leaf_expr, first_or_later, output_half_expr}
use Rattle.host_codegen.specs.StepProgram.{RowsExpr, row_bytes, SourceExpr, Buffer, parameter_expr, order_with, source_expr, step_order}
use Rattle.host_codegen.specs.RootProgram.{all_elements, all_rows, one_column, emit, flat_program, row_sums_program, joined_sums_program, halvings_program, last_order, halved_program, first_best_program, best_program, root_program, steps_programs, works_program}
use Rattle.host_codegen.specs.TileProgram.{leaf_reads_program, reads_program, leaf_fills_program, result_piece_at, tile_write_program, results_program, waiting_program, rest_program}
use Rattle.host_codegen.specs.PassProgram.{turn_program, pass_program}
use Rattle.host_codegen.specs.SplitProgram.{passes_programs}
use Rattle.host_codegen.specs.CodeLaws.{ProgramsTakeFew}
use Rattle.host_codegen.specs.Sequence.{each_of}
use Rattle.host_codegen.proofs.Sequences.{each_room, all_room}
use Rattle.host_codegen.proofs.OrderCases.{op_cases}

-- what the programs of transfers take
pub record FewTransfers : Type 0 where
  pub reads : ReadsTakeFew
  pub write : WritesTakeFew
  pub fills : FillsTakeFew

-- ---- programs of programs

both_few : (p q : Program) (most : ℕ) → program_room p ≤ most → program_room q ≤ most → program_room (Both p q) ≤ most
both_few p q most is_p is_q = omega (arith, is_p, is_q)

unless_few : (a b : Expr) (p : Program) (most : ℕ) → room a ≤ most → room b + 1 ≤ most → program_room p ≤ most → program_room (UnlessLess a b p) ≤ most
unless_few a b p most is_a is_b is_p = omega (arith, is_a, is_b, is_p)

for_few : (e : Expr) (p : Program) (most : ℕ) → room e ≤ most + 2 → program_room p ≤ most → program_room (For e p) ≤ most + 2
for_few e p most is_e is_p = omega (arith, is_e, is_p)

-- ---- an instruction takes one register, where its expressions do

record SmallSource (a : SourceExpr) : Type 0 where
  parameter : room (parameter_expr a) ≤ 1

order_small : (rows : RowsExpr) (kind : VecKind) (to : Expr) (a b : SourceExpr) → room rows.rows ≤ 1 → room to ≤ 1 → SmallSource a → SmallSource b
    → settings_room (vector_settings (order_with rows kind to a b)) ≤ 1
order_small rows kind to a b low at is_a is_b =
    let step : room (order_with rows kind to a b).dst_step ≤ 1 = cond_both kind.acc (Number (size_of kind.elem)) (row_bytes rows kind.elem) (λ e. room e ≤ 1) (λ e. omega arith) (λ e. omega arith) in
    omega (arith, low, at, is_a.parameter, is_b.parameter, step)

leaf_small : (layout : Layout) (half number : ℕ) → room (leaf_expr layout half number) ≤ 1
leaf_small layout half number =
    let n = number * 2 * layout.bytes in
    cond_both (eqb n 0) (Variable half) (Offset (Variable half) n) (λ e. room e ≤ 1) (λ e. omega arith) (λ e. omega arith)

source_small : (layout : Layout) (half : ℕ) (arg : Operand) → SmallSource (source_expr layout half arg)
source_small layout half (operand.Leaf number) = record { parameter = leaf_small layout half number }
source_small layout half (operand.Literal n) = record { parameter = omega arith }
source_small layout half (operand.Slot slot) = record { parameter = omega arith }

step_small : (layout : Layout) (half : ℕ) (rows : RowsExpr) (acc : Bool) (step : Step) (to : Expr) → room rows.rows ≤ 1 → room to ≤ 1 → settings_room (vector_settings (step_order layout half rows acc step to)) ≤ 1
step_small layout half rows acc step to low at =
    op_cases (λ order. settings_room (vector_settings order) ≤ 1) SmallSource rows to (λ kind a b is_a is_b. order_small rows kind to a b low at is_a is_b)
    (λ n. record { parameter = omega arith }) (source_expr layout half) (source_small layout half) step.op step.args acc step.elem step.from

-- ---- all steps

first_or_later_few : (layout : Layout) (column most : ℕ) (p q : Program) → 2 ≤ most → program_room p ≤ most → program_room q ≤ most → program_room (first_or_later layout column p q) ≤ most
first_or_later_few layout column most p q some is_p is_q =
    cond_both (eqb layout.per_row 1) p (Both (UnlessLess (Number 0) (Variable column) p) (UnlessLess (Variable column) (Number 1) q)) (λ r. program_room r ≤ most)
    (λ e. is_p) (λ e. omega (arith, some, is_p, is_q))

room_scaled : (e : Expr) (n : ℕ) → room (scaled e n) ≤ max (room e) 2
room_scaled e n = cond_both (eqb n 1) e (Product e (Number n)) (λ x. room x ≤ max (room e) 2) (λ q. omega arith) (λ q. omega arith)

module _ (layout : Layout) where
  flat_few : (step : Step) (to : Expr) → room to ≤ 1 → program_room (flat_program layout step to) ≤ 1
  flat_few step to at = step_small layout 8 all_elements false step to (omega arith) at

  row_sums_few : (step : Step) (to : Expr) → room to ≤ 1 → program_room (row_sums_program layout step to) ≤ 1
  row_sums_few step to at = step_small layout 8 all_rows true step to (omega arith) at

  joined_few : (step : Step) → program_room (joined_sums_program layout step) ≤ 4
  joined_few step =
      let join = order_small one_column (two_kind op2.Add step.elem false false false) (Variable 10) (Buffer (Variable 10)) (Buffer (Number (partial_cell layout))) (omega arith) (omega arith)
      (record { parameter = omega arith }) (record { parameter = omega arith }) in
      omega (arith, row_sums_few step (Number (partial_cell layout)) (omega arith), join)

  halvings_few : (least : Bool) (elem : Elem) (slot left : ℕ) → program_room (halvings_program layout least elem slot left) ≤ 6
  halvings_few least elem slot left = omega (arith, room_scaled (Difference (Variable 18) (Variable 19)) (size_of elem))

  last_few : (least : Bool) (elem : Elem) (first : Bool) (slot : ℕ) → program_room (emit (last_order layout least elem first slot)) ≤ 1
  last_few least elem true slot = omega arith
  last_few least elem false slot = omega arith

  halved_few : (least first : Bool) (step : Step) → program_room (halved_program layout least first step) ≤ 6
  halved_few least first step =
      omega (arith, flat_few step (Number (slot_cell layout step.to)) (omega arith), halvings_few least step.elem step.to (cond first 2 1), last_few least step.elem first step.to)

  best_few : (least : Bool) (step : Step) → program_room (best_program layout least step) ≤ 6
  best_few least step =
      let flat = flat_program layout step (Variable 10) in
      let halved = halved_program layout least true step in
      let flat_is : program_room flat ≤ 6 = omega (arith, flat_few step (Variable 10) (omega arith)) in
      let direct : program_room (first_best_program layout least step) ≤ 6 =
      both_few (UnlessLess (Number 1) (Variable 6) flat) (UnlessLess (Variable 6) (Number 2) halved) 6
      (unless_few (Number 1) (Variable 6) flat 6 (omega arith) (omega arith) flat_is) (unless_few (Variable 6) (Number 2) halved 6 (omega arith) (omega arith) (halved_few least true step)) in
      first_or_later_few layout 4 6 (first_best_program layout least step) (halved_program layout least false step) (omega arith) direct (halved_few least false step)

  root_few : (kind : PassKind) (step : Step) → program_room (root_program kind layout step) ≤ 9
  root_few Map step = omega (arith, flat_few step (Variable 10) (omega arith))
  root_few (Reduce fold.Sum) step =
      let first : program_room (row_sums_program layout step (Variable 10)) ≤ 4 = omega (arith, row_sums_few step (Variable 10) (omega arith)) in
      omega (arith, first_or_later_few layout 4 4 (row_sums_program layout step (Variable 10)) (joined_sums_program layout step) (omega arith) first (joined_few step))
  root_few (Reduce fold.Min) step = omega (arith, best_few true step)
  root_few (Reduce fold.Max) step = omega (arith, best_few false step)

  steps_few : (kind : PassKind) (steps : List Step) → All (λ p. program_room p ≤ 9) (steps_programs kind layout steps)
  steps_few kind [] = All-nil (λ p. program_room p ≤ 9)
  steps_few kind (step ∷ []) = All-cons (λ p. program_room p ≤ 9) (root_program kind layout step) [] (root_few kind step) (All-nil (λ p. program_room p ≤ 9))
  steps_few kind (step ∷ next ∷ steps) =
      All-cons (λ p. program_room p ≤ 9) (flat_program layout step (Number (slot_cell layout step.to))) (steps_programs kind layout (next ∷ steps))
      (omega (arith, flat_few step (Number (slot_cell layout step.to)) (omega arith))) (steps_few kind (next ∷ steps))

  works_few : (kind : PassKind) (steps : List Step) → program_room (works_program kind layout steps) ≤ 12
  works_few kind steps = omega (arith, all_room (steps_programs kind layout steps) 9 (steps_few kind steps))

  -- ---- a tile's numbers

  tile_few : (number d most : ℕ) (p : Program) → 4 ≤ most → program_room p ≤ most → program_room (with_tile layout number d p) ≤ most + 6
  tile_few number d most p some is =
      let row : room (cond (eqb layout.across 1) (Variable number) (Quotient (Variable number) (Number layout.across))) ≤ 2 =
      cond_both (eqb layout.across 1) (Variable number) (Quotient (Variable number) (Number layout.across)) (λ e. room e ≤ 2) (λ e. omega arith) (λ e. omega arith) in
      let first = room_scaled (cond (eqb layout.across 1) (Variable number) (Quotient (Variable number) (Number layout.across))) layout.tile.h in
      let column : room (first_column_expr layout number) ≤ 3 =
      cond_both (eqb layout.across 1) (Number 0) (scaled (Remainder (Variable number) (Number layout.across)) layout.tile.w) (λ e. room e ≤ 3) (λ e. omega arith)
      (λ e. omega (arith, room_scaled (Remainder (Variable number) (Number layout.across)) layout.tile.w)) in
      let broad : room (columns_expr layout (d + 1)) ≤ 4 =
      cond_both (eqb layout.across 1) (Number layout.domain.cols) (lesser (Number layout.tile.w) (Difference (Number layout.domain.cols) (Variable (d + 1)))) (λ e. room e ≤ 4) (λ e. omega arith) (λ e. omega arith) in
      omega (arith, some, is, row, first, column, broad)

-- ---- a tile, a pass and a split

module _ (laws : FewTransfers) (arrays : List ArrayPlace) (pass : Pass) (tile : Tile) where
  leaf_few : (number : ℕ) → program_room (leaf_reads_program arrays pass tile number) ≤ 23
  leaf_few number =
      let leaf = leaf_of pass number in
      let brought = laws.reads leaf (get_or arrays leaf.array no_place) (piece_at 2) (record { buffer = Variable 8; tag = Variable 6 }) 9
      (record { r0 = omega arith; c0 = omega arith; h = omega arith; w = omega arith; buffer = omega arith; tag = omega arith }) in
      omega (arith, leaf_small (layout_of pass tile) 7 number, brought)

  reads_few : program_room (reads_program arrays pass tile) ≤ 29
  reads_few =
      let all = each_room (leaf_reads_program arrays pass tile) (length pass.leaves) 23 (λ number below. leaf_few number) in
      tile_few (layout_of pass tile) 1 2 23 (each_of (length pass.leaves) (leaf_reads_program arrays pass tile)) (omega arith) all

  fills_few : (number : ℕ) → program_room (leaf_fills_program arrays pass tile number) ≤ 10
  fills_few number =
      laws.fills (leaf_of pass number) (piece_at 3) (leaf_expr (layout_of pass tile) 8 number) 10
      (record { r0 = omega arith; c0 = omega arith; h = omega arith; w = omega arith; buffer_room = leaf_small (layout_of pass tile) 8 number })

  result_names : (kind : PassKind) → AreNames (result_piece_at arrays pass tile kind) (record { buffer = Variable 10; tag = Offset (Variable 9) 2 })
  result_names Map = record { r0 = omega arith; c0 = omega arith; h = omega arith; w = omega arith; buffer = omega arith; tag = omega arith }
  result_names (Reduce fold) = record { r0 = omega arith; c0 = omega arith; h = omega arith; w = omega arith; buffer = omega arith; tag = omega arith }

  write_few : program_room (tile_write_program arrays pass tile) ≤ 10
  write_few =
      let target : Target = record { buffer = Variable 10; tag = Offset (Variable 9) 2 } in
      let program = write_program (destination arrays pass tile) (result_piece_at arrays pass tile pass.kind) target 11 in
      let written : program_room program ≤ 10 = laws.write (destination arrays pass tile) (result_piece_at arrays pass tile pass.kind) target 11 (result_names pass.kind) in
      cond_both (eqb (tiles_per_row pass tile) 1) program (UnlessLess (Number 0) (Remainder (Variable 1) (Number (tiles_per_row pass tile))) program) (λ p. program_room p ≤ 10)
      (λ e. written) (λ e. unless_few (Number 0) (Remainder (Variable 1) (Number (tiles_per_row pass tile))) program 10 (omega arith) (omega arith) written)

  results_few : program_room (results_program arrays pass tile) ≤ 12
  results_few = omega (arith, works_few (layout_of pass tile) pass.kind (order_of pass.tree).steps, write_few)

  waiting_few : program_room (waiting_program arrays pass tile) ≤ 13
  waiting_few =
      let all = each_room (leaf_fills_program arrays pass tile) (length pass.leaves) 10 (λ number below. fills_few number) in
      omega (arith, all, results_few)

  rest_few : program_room (rest_program arrays pass tile) ≤ 21
  rest_few =
      let half : room (output_half_expr (layout_of pass tile) 2 7) ≤ 3 =
      cond_both (eqb (tiles_per_row pass tile) 1) (Variable 7) (Remainder (Quotient (Variable 2) (Number (tiles_per_row pass tile))) (Number 2)) (λ e. room e ≤ 3) (λ e. omega arith) (λ e. omega arith) in
      let named : program_room (Let (output_half_expr (layout_of pass tile) 2 7) (waiting_program arrays pass tile)) ≤ 14 = omega (arith, half, waiting_few) in
      omega (arith, tile_few (layout_of pass tile) 2 3 14 (Let (output_half_expr (layout_of pass tile) 2 7) (waiting_program arrays pass tile)) (omega arith) named)

  pass_few : program_room (pass_program arrays pass tile) ≤ 32
  pass_few =
      let reads = reads_program arrays pass tile in
      let rest = rest_program arrays pass tile in
      let rest_is : program_room rest ≤ 30 = omega (arith, rest_few) in
      let reads_are : program_room reads ≤ 30 = omega (arith, reads_few) in
      let turn : program_room (turn_program arrays pass tile) ≤ 30 =
      both_few (UnlessLess (Variable 0) (Number 2) reads) (UnlessLess (Variable 1) (Number 1) rest) 30
      (unless_few (Variable 0) (Number 2) reads 30 (omega arith) (omega arith) reads_are) (unless_few (Variable 1) (Number 1) rest 30 (omega arith) (omega arith) rest_is) in
      let n = Number (tiles_of pass.domain tile + 1) in
      let waits : Program = Both (Emit (AwaitReads (Number 0))) (Emit (AwaitWrites (Number 0))) in
      both_few (For n (turn_program arrays pass tile)) waits 32 (for_few n (turn_program arrays pass tile) 30 (omega arith) turn) (omega arith)

pub programs_take_few : FewTransfers → ProgramsTakeFew
programs_take_few laws split spad = all_room (passes_programs split.arrays spad split.passes) 32 (each split.passes)
  where
    each : (passes : List Pass) → All (λ p. program_room p ≤ 32) (passes_programs split.arrays spad passes)
    each [] = All-nil (λ p. program_room p ≤ 32)
    each (pass ∷ passes) =
        All-cons (λ p. program_room p ≤ 32) (pass_program split.arrays pass (tile_of pass spad)) (passes_programs split.arrays spad passes) (pass_few laws split.arrays pass (tile_of pass spad)) (each passes)
