-- The program of a split reads no register that isn't in use.
use Rattle.std.proofs.Common.{◌≡◌, ℕ, ◌+◌, ◌*◌, ◌<◌, ◌≤◌, refl, arith, Bool, true, false, cond, eqb, List, [], ◌∷◌, length, get_or, All}
use Rattle.std.proofs.lemmas.Bool.{cond_both, and_from, lt-ltb}
use Rattle.std.proofs.lemmas.List.Elements.{All-cons, All-nil}
use Rattle.ven_base.specs.declared.elem.Elem.{Elem}
use Rattle.ven_base.specs.declared.elem.Elem.TheVariants.{U8, I8, U16, I16, U32, I32}
use Rattle.ven_base.specs.declared.ops.Fold.TheVariants as fold
use Rattle.ven_base.specs.declared.ops.Op2.TheVariants as op2
use Rattle.ven_base.specs.Elem.{size_of}
use Rattle.venice_isa.specs.declared.kind.VecKind.{VecKind}
use Rattle.vector_codegen.specs.Kind.{two_kind}
use Rattle.pass_plan.specs.declared.parts.Tile.{Tile}
use Rattle.pass_plan.specs.declared.pass.PassKind.{PassKind}
use Rattle.pass_plan.specs.declared.pass.PassKind.TheVariants.{Map, Reduce}
use Rattle.pass_plan.specs.declared.split.ArrayPlace.{ArrayPlace}
use Rattle.pass_plan.specs.Pass.{Pass}
use Rattle.pass_plan.specs.Tile.{tile_of}
use Rattle.pass_plan.specs.Buffers.{buffer_bytes, tiles_per_row}
use Rattle.pass_plan.specs.Sound.{no_place}
use Rattle.buffer_lifetimes.specs.declared.step.Operand.{Operand}
use Rattle.buffer_lifetimes.specs.declared.step.Operand.TheVariants as operand
use Rattle.buffer_lifetimes.specs.OrderOf.{order_of}
use Rattle.buffer_lifetimes.specs.Step.{Step}
use Rattle.dma_segments.specs.Laws.{leaf_of}
use Rattle.dma_schedule.specs.PipeList.{destination}
use Rattle.host_programs.specs.Expr.{Expr, Number, Variable, Offset, Difference, Quotient, Remainder, is_below}
use Rattle.host_programs.specs.Program.{Program, Both, UnlessLess, Let}
use Rattle.host_programs.specs.ProgramCode.{vector_settings, are_below, is_closed}
use Rattle.host_programs.proofs.Exprs.{below_more}
use Rattle.transfer_programs.specs.Axis.{scaled, lesser}
use Rattle.transfer_programs.specs.ReadProgram.{write_program}
use Rattle.transfer_programs.specs.ReadLaws.{ReadsBelow, ReadsAreClosed, WritesAreClosed}
use Rattle.transfer_programs.specs.FillLaws.{FillsAreClosed}
use Rattle.transfer_programs.proofs.Axes.{below_scaled, below_plus}
use Rattle.host_codegen.specs.Geometry.{Layout, layout_of, slot_cell, partial_cell, with_tile, piece_at, leaf_expr, first_or_later, output_half_expr}
use Rattle.host_codegen.specs.StepProgram.{RowsExpr, row_bytes, SourceExpr, Buffer, parameter_expr, order_with, source_expr, step_order}
use Rattle.host_codegen.specs.RootProgram.{all_elements, all_rows, one_column, emit, flat_program, row_sums_program, joined_sums_program, halvings_program, last_order, halved_program, first_best_program, best_program, root_program, steps_programs, works_program}
use Rattle.host_codegen.specs.TileProgram.{leaf_reads_program, reads_program, leaf_fills_program, result_piece_at, tile_write_program, results_program, waiting_program, rest_program}
use Rattle.host_codegen.specs.PassProgram.{pass_program}
use Rattle.host_codegen.specs.SplitProgram.{passes_programs}
use Rattle.host_codegen.specs.CodeLaws.{ProgramsAreClosed}
use Rattle.host_codegen.specs.Sequence.{each_of}
use Rattle.host_codegen.proofs.Sequences.{each_closed, all_closed}
use Rattle.host_codegen.proofs.OrderCases.{op_cases}

-- what the programs of transfers read
pub record ClosedTransfers : Type 0 where
  pub reads : ReadsAreClosed
  pub write : WritesAreClosed
  pub fills : FillsAreClosed

-- ---- an instruction

record SourceBelow (a : SourceExpr) (d : ℕ) : Type 0 where
  parameter : is_below (parameter_expr a) d ≡ true

-- registers of rows of elements lie below d
record RowsBelow (rows : RowsExpr) (d : ℕ) : Type 0 where
  rows_below : is_below rows.rows d ≡ true
  once : is_below (Variable rows.cols) d ≡ true
  bytes : (elem : Elem) → is_below (row_bytes rows elem) d ≡ true

module _ (d : ℕ) where
  order_below : (rows : RowsExpr) (kind : VecKind) (to : Expr) (a b : SourceExpr) → RowsBelow rows d → is_below to d ≡ true → SourceBelow a d → SourceBelow b d
      → are_below (vector_settings (order_with rows kind to a b)) d ≡ true
  order_below rows kind to a b low at is_a is_b =
      let step : is_below (order_with rows kind to a b).dst_step d ≡ true = cond_both kind.acc (Number (size_of kind.elem)) (row_bytes rows kind.elem) (λ e. is_below e d ≡ true) (λ e. refl) (λ e. low.bytes kind.elem) in
      and_from _ _ low.once (and_from _ _ low.rows_below (and_from _ _ at (and_from _ _ is_a.parameter
      (and_from _ _ is_b.parameter (and_from _ _ step (and_from _ _ (low.bytes kind.from) (and_from _ _ (low.bytes kind.elem) refl)))))))

  -- ---- a step

  -- register `half` lies below d
  source_below : (layout : Layout) (half : ℕ) → is_below (Variable half) d ≡ true → (arg : Operand) → SourceBelow (source_expr layout half arg) d
  source_below layout half low (operand.Leaf number) = record { parameter = below_plus (Number (number * 2 * layout.bytes)) (Variable half) d refl low }
  source_below layout half low (operand.Literal n) = record { parameter = refl }
  source_below layout half low (operand.Slot slot) = record { parameter = refl }

  step_below : (layout : Layout) (half : ℕ) (rows : RowsExpr) (acc : Bool) (step : Step) (to : Expr) → is_below (Variable half) d ≡ true → RowsBelow rows d → is_below to d ≡ true
      → are_below (vector_settings (step_order layout half rows acc step to)) d ≡ true
  step_below layout half rows acc step to low rows_low at =
      op_cases (λ order. are_below (vector_settings order) d ≡ true) (λ a. SourceBelow a d) rows to (λ kind a b is_a is_b. order_below rows kind to a b rows_low at is_a is_b)
      (λ n. record { parameter = refl }) (source_expr layout half) (source_below layout half low) step.op step.args acc step.elem step.from

-- ---- the registers that have rows

all_elements_below : RowsBelow all_elements 14
all_elements_below = record { rows_below = refl; once = refl; bytes = bytes }
  where
    bytes : (elem : Elem) → is_below (row_bytes all_elements elem) 14 ≡ true
    bytes U8 = refl
    bytes I8 = refl
    bytes U16 = refl
    bytes I16 = refl
    bytes U32 = refl
    bytes I32 = refl

rows_more : (rows : RowsExpr) (d k : ℕ) → d ≤ k → RowsBelow rows d → RowsBelow rows k
rows_more rows d k le low = record {
  rows_below = below_more rows.rows d k le low.rows_below;
  once = below_more (Variable rows.cols) d k le low.once;
  bytes = λ elem. below_more (row_bytes rows elem) d k le (low.bytes elem);
}

all_rows_below : RowsBelow all_rows 17
all_rows_below = record { rows_below = refl; once = refl; bytes = bytes }
  where
    bytes : (elem : Elem) → is_below (row_bytes all_rows elem) 17 ≡ true
    bytes U8 = refl
    bytes I8 = refl
    bytes U16 = refl
    bytes I16 = refl
    bytes U32 = refl
    bytes I32 = refl

one_column_below : RowsBelow one_column 20
one_column_below = record { rows_below = refl; once = refl; bytes = bytes }
  where
    bytes : (elem : Elem) → is_below (row_bytes one_column elem) 20 ≡ true
    bytes U8 = refl
    bytes I8 = refl
    bytes U16 = refl
    bytes I16 = refl
    bytes U32 = refl
    bytes I32 = refl

-- ---- all steps

first_or_later_closed : (layout : Layout) (column d : ℕ) (p q : Program) → is_below (Variable column) d ≡ true → is_closed p d ≡ true → is_closed q d ≡ true → is_closed (first_or_later layout column p q) d ≡ true
first_or_later_closed layout column d p q low is_p is_q =
    cond_both (eqb layout.per_row 1) p (Both (UnlessLess (Number 0) (Variable column) p) (UnlessLess (Variable column) (Number 1) q)) (λ r. is_closed r d ≡ true)
    (λ e. is_p) (λ e. and_from _ _ (and_from _ _ refl (and_from _ _ low is_p)) (and_from _ _ low (and_from _ _ refl is_q)))

module _ (layout : Layout) where
  flat_closed : (d : ℕ) (step : Step) (to : Expr) → 14 ≤ d → is_below to d ≡ true → is_closed (flat_program layout step to) d ≡ true
  flat_closed d step to le at = step_below d layout 8 all_elements false step to (below_more (Variable 8) 9 d (omega (arith, le)) refl) (rows_more all_elements 14 d le all_elements_below) at

  row_sums_closed : (step : Step) (to : Expr) → is_below to 17 ≡ true → is_closed (row_sums_program layout step to) 17 ≡ true
  row_sums_closed step to at = step_below 17 layout 8 all_rows true step to refl all_rows_below at

  joined_closed : (step : Step) → is_closed (joined_sums_program layout step) 17 ≡ true
  joined_closed step =
      and_from _ _ (row_sums_closed step (Number (partial_cell layout)) refl) (order_below 20 one_column (two_kind op2.Add step.elem false false false) (Variable 10)
      (Buffer (Variable 10)) (Buffer (Number (partial_cell layout))) one_column_below refl (record { parameter = refl }) (record { parameter = refl }))

  halving_closed : (least : Bool) (elem : Elem) (slot left : ℕ) → is_closed (halvings_program layout least elem slot left) 17 ≡ true
  halving_closed least elem slot left =
      let high = Difference (Variable 18) (Variable 19) in
      let bytes = (rows_more all_rows 17 20 (omega arith) all_rows_below).bytes elem in
      and_from _ _ (below_scaled high (size_of elem) 20 refl) (and_from _ _ bytes (and_from _ _ bytes (and_from _ _ bytes refl)))

  last_closed : (least : Bool) (elem : Elem) (first : Bool) (slot : ℕ) → is_closed (emit (last_order layout least elem first slot)) 17 ≡ true
  last_closed least elem true slot = and_from _ _ (all_rows_below.bytes elem) (and_from _ _ (all_rows_below.bytes elem) refl)
  last_closed least elem false slot = and_from _ _ (all_rows_below.bytes elem) refl

  halved_closed : (least first : Bool) (step : Step) → is_closed (halved_program layout least first step) 17 ≡ true
  halved_closed least first step =
      and_from _ _ (flat_closed 17 step (Number (slot_cell layout step.to)) (omega arith) refl) (and_from _ _ (halving_closed least step.elem step.to (cond first 2 1)) (last_closed least step.elem first step.to))

  best_closed : (least : Bool) (step : Step) → is_closed (best_program layout least step) 17 ≡ true
  best_closed least step =
      let direct = flat_closed 17 step (Variable 10) (omega arith) refl in
      first_or_later_closed layout 4 17 (first_best_program layout least step) (halved_program layout least false step) refl (and_from _ _ direct (halved_closed least true step)) (halved_closed least false step)

  root_closed : (kind : PassKind) (step : Step) → is_closed (root_program kind layout step) 14 ≡ true
  root_closed Map step = flat_closed 14 step (Variable 10) (omega arith) refl
  root_closed (Reduce fold.Sum) step = first_or_later_closed layout 4 17 (row_sums_program layout step (Variable 10)) (joined_sums_program layout step) refl (row_sums_closed step (Variable 10) refl) (joined_closed step)
  root_closed (Reduce fold.Min) step = best_closed true step
  root_closed (Reduce fold.Max) step = best_closed false step

  steps_closed : (kind : PassKind) (steps : List Step) → All (λ p. is_closed p 14 ≡ true) (steps_programs kind layout steps)
  steps_closed kind [] = All-nil (λ p. is_closed p 14 ≡ true)
  steps_closed kind (step ∷ []) = All-cons (λ p. is_closed p 14 ≡ true) (root_program kind layout step) [] (root_closed kind step) (All-nil (λ p. is_closed p 14 ≡ true))
  steps_closed kind (step ∷ next ∷ steps) =
      All-cons (λ p. is_closed p 14 ≡ true) (flat_program layout step (Number (slot_cell layout step.to))) (steps_programs kind layout (next ∷ steps))
      (flat_closed 14 step (Number (slot_cell layout step.to)) (omega arith) refl) (steps_closed kind (next ∷ steps))

  works_closed : (kind : PassKind) (steps : List Step) → is_closed (works_program kind layout steps) 11 ≡ true
  works_closed kind steps = all_closed (steps_programs kind layout steps) 14 (steps_closed kind steps)

  -- ---- a tile's numbers

  below_both : (b : Bool) (x y : Expr) (d : ℕ) → is_below x d ≡ true → is_below y d ≡ true → is_below (cond b x y) d ≡ true
  below_both b x y d is_x is_y = cond_both b x y (λ e. is_below e d ≡ true) (λ e. is_x) (λ e. is_y)

  tile_closed : (number d : ℕ) (p : Program) → number < d → is_closed p (d + 1 + 1 + 1 + 1 + 1 + 1) ≡ true → is_closed (with_tile layout number d p) d ≡ true
  tile_closed number d p below is =
      let at : (k : ℕ) → d ≤ k → is_below (Variable number) k ≡ true = λ k le. lt-ltb number k (omega (arith, below, le)) in
      let named : (r k : ℕ) → r < k → is_below (Variable r) k ≡ true = λ r k lt. lt-ltb r k lt in
      let row = below_both (eqb layout.across 1) (Variable number) (Quotient (Variable number) (Number layout.across)) d (at d (omega arith)) (and_from _ _ (at d (omega arith)) refl) in
      let column = below_both (eqb layout.across 1) (Number 0) (scaled (Remainder (Variable number) (Number layout.across)) layout.tile.w) (d + 1) refl
      (below_scaled (Remainder (Variable number) (Number layout.across)) layout.tile.w (d + 1) (and_from _ _ (at (d + 1) (omega arith)) refl)) in
      let high = named d (d + 1 + 1) (omega arith) in
      let broad = named (d + 1) (d + 1 + 1 + 1) (omega arith) in
      and_from _ _ (below_scaled (cond (eqb layout.across 1) (Variable number) (Quotient (Variable number) (Number layout.across))) layout.tile.h d row)
      (and_from _ _ column (and_from _ _ (lesser_below layout.tile.h layout.domain.rows d (d + 1 + 1) high)
      (and_from _ _ (below_both (eqb layout.across 1) (Number layout.domain.cols) (lesser (Number layout.tile.w) (Difference (Number layout.domain.cols) (Variable (d + 1)))) (d + 1 + 1 + 1) refl (lesser_below layout.tile.w layout.domain.cols (d + 1) (d + 1 + 1 + 1) broad))
      (and_from _ _ (and_from _ _ (at (d + 1 + 1 + 1 + 1) (omega arith)) refl) (and_from _ _ (and_from _ _ (named (d + 4) (d + 1 + 1 + 1 + 1 + 1) (omega arith)) refl) is)))))
    where
      lesser_below : (size all r k : ℕ) → is_below (Variable r) k ≡ true → is_below (lesser (Number size) (Difference (Number all) (Variable r))) k ≡ true
      lesser_below size all r k low = and_from _ _ (and_from _ _ refl (and_from _ _ refl low)) (and_from _ _ refl (and_from _ _ refl low))

-- ---- a tile, a pass and a split

module _ (laws : ClosedTransfers) (arrays : List ArrayPlace) (pass : Pass) (tile : Tile) where
  leaf_closed : (number : ℕ) → is_closed (leaf_reads_program arrays pass tile number) 8 ≡ true
  leaf_closed number =
      let leaf = leaf_of pass number in
      and_from _ _ (below_plus (Number (number * 2 * buffer_bytes pass tile)) (Variable 7) 8 refl refl)
      (laws.reads leaf (get_or arrays leaf.array no_place) (piece_at 2) (record { buffer = Variable 8; tag = Variable 6 }) 9 (record { r0 = refl; c0 = refl; h = refl; w = refl; buffer = refl; tag = refl }))

  reads_closed : is_closed (reads_program arrays pass tile) 2 ≡ true
  reads_closed = tile_closed (layout_of pass tile) 1 2 (each_of (length pass.leaves) (leaf_reads_program arrays pass tile)) (omega arith) (each_closed (leaf_reads_program arrays pass tile) (length pass.leaves) 8 (λ number below. leaf_closed number))

  fills_closed : (number : ℕ) → is_closed (leaf_fills_program arrays pass tile number) 10 ≡ true
  fills_closed number =
      laws.fills (leaf_of pass number) (piece_at 3) (leaf_expr (layout_of pass tile) 8 number) 10
      (record { r0 = refl; c0 = refl; h = refl; w = refl; buffer_below = below_plus (Number (number * 2 * buffer_bytes pass tile)) (Variable 8) 10 refl refl })

  result_below : (kind : PassKind) → ReadsBelow (result_piece_at arrays pass tile kind) (record { buffer = Variable 10; tag = Offset (Variable 9) 2 }) 11
  result_below Map = record { r0 = refl; c0 = refl; h = refl; w = refl; buffer = refl; tag = refl }
  result_below (Reduce fold) = record { r0 = refl; c0 = refl; h = refl; w = refl; buffer = refl; tag = refl }

  write_closed : is_closed (tile_write_program arrays pass tile) 11 ≡ true
  write_closed =
      let written = laws.write (destination arrays pass tile) (result_piece_at arrays pass tile pass.kind) (record { buffer = Variable 10; tag = Offset (Variable 9) 2 }) 11 (result_below pass.kind) in
      let program = write_program (destination arrays pass tile) (result_piece_at arrays pass tile pass.kind) (record { buffer = Variable 10; tag = Offset (Variable 9) 2 }) 11 in
      cond_both (eqb (tiles_per_row pass tile) 1) program (UnlessLess (Number 0) (Remainder (Variable 1) (Number (tiles_per_row pass tile))) program) (λ p. is_closed p 11 ≡ true) (λ e. written) (λ e. written)

  results_closed : is_closed (results_program arrays pass tile) 11 ≡ true
  results_closed = and_from _ _ (works_closed (layout_of pass tile) pass.kind (order_of pass.tree).steps) write_closed

  waiting_closed : is_closed (waiting_program arrays pass tile) 10 ≡ true
  waiting_closed = and_from _ _ (each_closed (leaf_fills_program arrays pass tile) (length pass.leaves) 10 (λ number below. fills_closed number)) results_closed

  rest_closed : is_closed (rest_program arrays pass tile) 2 ≡ true
  rest_closed =
      let half = below_both (layout_of pass tile) (eqb (tiles_per_row pass tile) 1) (Variable 7) (Remainder (Quotient (Variable 2) (Number (tiles_per_row pass tile))) (Number 2)) 9 refl refl in
      tile_closed (layout_of pass tile) 2 3 (Let (output_half_expr (layout_of pass tile) 2 7) (waiting_program arrays pass tile)) (omega arith) (and_from _ _ half waiting_closed)

  pass_closed : is_closed (pass_program arrays pass tile) 0 ≡ true
  pass_closed = and_from _ _ (and_from _ _ reads_closed rest_closed) refl

pub programs_are_closed : ClosedTransfers → ProgramsAreClosed
programs_are_closed laws split spad = all_closed (passes_programs split.arrays spad split.passes) 0 (each split.passes)
  where
    each : (passes : List Pass) → All (λ p. is_closed p 0 ≡ true) (passes_programs split.arrays spad passes)
    each [] = All-nil (λ p. is_closed p 0 ≡ true)
    each (pass ∷ passes) = All-cons (λ p. is_closed p 0 ≡ true) (pass_program split.arrays pass (tile_of pass spad)) (passes_programs split.arrays spad passes) (pass_closed laws split.arrays pass (tile_of pass spad)) (each passes)
