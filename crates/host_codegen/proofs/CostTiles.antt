-- How large the programs of a tile are, and how many steps the rest of a tile takes.
use Rattle.std.proofs.Common.{ℕ, zero, suc, ◌+◌, ◌*◌, ◌≤◌, List, length, get_or, refl, arith, cond, eqb}
use Rattle.std.proofs.lemmas.Bool.{cond_both}
use Rattle.ven_base.specs.declared.mapping.Mapping.{Mapping}
use Rattle.venice_isa.specs.Host.{with_number}
use Rattle.pass_plan.specs.declared.parts.Tile.{Tile}
use Rattle.pass_plan.specs.declared.pass.PassKind.{PassKind}
use Rattle.pass_plan.specs.declared.pass.PassKind.TheVariants.{Map, Reduce}
use Rattle.pass_plan.specs.declared.split.ArrayPlace.{ArrayPlace}
use Rattle.pass_plan.specs.Pass.{Pass}
use Rattle.pass_plan.specs.Sound.{no_place}
use Rattle.buffer_lifetimes.specs.OrderOf.{order_of}
use Rattle.dma_segments.specs.Laws.{leaf_of}
use Rattle.dma_schedule.specs.PipeList.{destination}
use Rattle.host_programs.specs.Expr.{Number, Variable, Offset, Difference, Product, Quotient, Remainder, value}
use Rattle.host_programs.specs.Program.{AwaitLanes, AwaitTag, Program, Emit, UnlessLess}
use Rattle.transfer_programs.specs.Axis.{scaled, lesser}
use Rattle.transfer_programs.specs.ReadProgram.{Target, write_program}
use Rattle.transfer_programs.specs.Cost.{expr_size, bring_size, program_size, most_steps}
use Rattle.transfer_programs.specs.CostLaws.{AreShort, leaf_room, fill_room}
use Rattle.transfer_programs.proofs.CostPrograms.{most_least}
use Rattle.transfer_programs.proofs.CostSizes.{size_scaled, leaf_sized, write_sized}
use Rattle.transfer_programs.proofs.CostFills.{fills_sized, straight_fills}
use Rattle.host_codegen.specs.Sequence.{each_of}
use Rattle.host_codegen.specs.Geometry.{Layout, layout_of, first_row_expr, first_column_expr, rows_expr, columns_expr, with_tile, piece_at, leaf_expr, output_half_expr, output_expr}
use Rattle.host_codegen.specs.TileProgram.{leaf_reads_program, reads_program, leaf_fills_program, result_piece_at, tile_write_program, results_program, waiting_program, rest_program}
use Rattle.host_codegen.specs.PassProgram.{pass_program}
use Rattle.host_codegen.specs.CodeRoom.{step_share, root_share}
use Rattle.host_codegen.proofs.CostSums.{sum_of_each, each_sums}
use Rattle.host_codegen.proofs.TileLists.{tile_names}
use Rattle.host_codegen.proofs.CostParts.{Costs, straight_costs, more_costs, both_costs, let_costs, unless_costs, choice_costs, each_costs}
use Rattle.host_codegen.proofs.CostRoots.{root_steps, works_costs}

-- ---- a tile's numbers

module _ (layout : Layout) (number : ℕ) where
  row_size : expr_size (first_row_expr layout number) ≤ 4
  row_size =
      let one = Variable number in
      let several = Quotient (Variable number) (Number layout.across) in
      omega (arith, size_scaled (cond (eqb layout.across 1) one several) layout.tile.h, cond_both (eqb layout.across 1) one several (λ e. bring_size e ≤ 2) (λ q. omega arith) (λ q. omega arith))

  column_size : expr_size (first_column_expr layout number) ≤ 6
  column_size =
      let place = Remainder (Variable number) (Number layout.across) in
      cond_both (eqb layout.across 1) (Number 0) (scaled place layout.tile.w) (λ e. expr_size e ≤ 6) (λ q. omega arith) (λ q. omega (arith, size_scaled place layout.tile.w))

  columns_size : expr_size (columns_expr layout number) ≤ 7
  columns_size =
      cond_both (eqb layout.across 1) (Number layout.domain.cols) (lesser (Number layout.tile.w) (Difference (Number layout.domain.cols) (Variable number))) (λ e. expr_size e ≤ 7) (λ q. omega arith) (λ q. omega arith)

  half_size : (half : ℕ) → expr_size (output_half_expr layout number half) ≤ 6
  half_size half =
      cond_both (eqb layout.per_row 1) (Variable half) (Remainder (Quotient (Variable number) (Number layout.per_row)) (Number 2)) (λ e. expr_size e ≤ 6) (λ q. omega arith) (λ q. omega arith)

pub tile_sized : (layout : Layout) (number d : ℕ) (p : Program) → program_size (with_tile layout number d p) ≤ 30 + program_size p
tile_sized layout number d p = omega (arith, row_size layout number, column_size layout number, columns_size layout (d + 1))

-- of the tile whose number is in register 1
pub tile_spent : (layout : Layout) (p : Program) (f : ℕ → ℕ) → most_steps (with_tile layout 1 2 p) 2 f ≤ 30 + most_steps p 8 (tile_names layout 1 2 f)
tile_spent layout p f =
    let half = Remainder (Variable 1) (Number 2) in
    let cells = Product (Variable 6) (Number layout.bytes) in
    let f1 = with_number 2 (value (first_row_expr layout 1) f) f in
    let f2 = with_number 3 (value (first_column_expr layout 1) f1) f1 in
    let f3 = with_number 4 (value (rows_expr layout 2) f2) f2 in
    let f4 = with_number 5 (value (columns_expr layout 3) f3) f3 in
    let f5 = with_number 6 (value half f4) f4 in
    omega (
      arith,
      row_size layout 1,
      column_size layout 1,
      columns_size layout 3,
      most_least (first_row_expr layout 1) f,
      most_least (first_column_expr layout 1) f1,
      most_least (rows_expr layout 2) f2,
      most_least (columns_expr layout 3) f3,
      most_least half f4,
      most_least cells f5,
    )

tile_costs : (layout : Layout) (number d : ℕ) (p : Program) (a b : ℕ) → Costs p a b → Costs (with_tile layout number d p) (30 + a) (30 + b)
tile_costs layout number d p a b c =
    let half = Remainder (Variable number) (Number 2) in
    let cells = Product (Variable (d + 4)) (Number layout.bytes) in
    more_costs (with_tile layout number d p) (4 + (6 + (7 + (7 + (4 + (2 + a)))))) (4 + (6 + (7 + (7 + (4 + (2 + b)))))) (30 + a) (30 + b) (omega arith) (omega arith)
    (let_costs (first_row_expr layout number) _ 4 _ _ (row_size layout number)
    (let_costs (first_column_expr layout number) _ 6 _ _ (column_size layout number)
    (let_costs (rows_expr layout d) _ 7 _ _ (omega arith)
    (let_costs (columns_expr layout (d + 1)) _ 7 _ _ (columns_size layout (d + 1))
    (let_costs half _ 4 _ _ (omega arith)
    (let_costs cells p 2 a b (omega arith) c))))))

-- ---- the reads of a tile

pub leaf_expr_size : (layout : Layout) (half number : ℕ) → expr_size (leaf_expr layout half number) ≤ 1
leaf_expr_size layout half number =
    cond_both (eqb (number * 2 * layout.bytes) 0) (Variable half) (Offset (Variable half) (number * 2 * layout.bytes)) (λ e. expr_size e ≤ 1) (λ e. omega arith) (λ e. omega arith)

leaf_expr_brought : (layout : Layout) (half number : ℕ) → bring_size (leaf_expr layout half number) ≤ 1
leaf_expr_brought layout half number =
    cond_both (eqb (number * 2 * layout.bytes) 0) (Variable half) (Offset (Variable half) (number * 2 * layout.bytes)) (λ e. bring_size e ≤ 1) (λ e. omega arith) (λ e. omega arith)

module _ (arrays : List ArrayPlace) (pass : Pass) (tile : Tile) where
  abbrev layout : Layout
  layout = layout_of pass tile

  abbrev pub map_of : (number : ℕ) → Mapping
  map_of number = (leaf_of pass number).map

  reads_sized : program_size (reads_program arrays pass tile) ≤ 30 + sum_of_each (length pass.leaves) (λ n. 1 + leaf_room (map_of n))
  reads_sized =
      let all = each_sums program_size refl (λ p q. refl) (leaf_reads_program arrays pass tile) (length pass.leaves) in
      omega (arith, tile_sized layout 1 2 (each_of (length pass.leaves) (leaf_reads_program arrays pass tile)), all, go (length pass.leaves))
    where
      go : (count : ℕ) → sum_of_each count (λ n. program_size (leaf_reads_program arrays pass tile n)) ≤ sum_of_each count (λ n. 1 + leaf_room (map_of n))
      go zero = omega arith
      go (suc n) =
          let leaf = leaf_sized (leaf_of pass n) (get_or arrays (leaf_of pass n).array no_place) (piece_at 2) (record { buffer = Variable 8; tag = Variable 6 }) 9
          (record { r0 = omega arith; c0 = omega arith; h = omega arith; w = omega arith; buffer = omega arith; tag = omega arith }) in
          omega (arith, go n, leaf, leaf_expr_size layout 7 n)

  -- ---- the rest of a tile

  short_result : (kind : PassKind) → AreShort (result_piece_at arrays pass tile kind) (record { buffer = Variable 10; tag = Offset (Variable 9) 2 })
  short_result Map = record { r0 = omega arith; c0 = omega arith; h = omega arith; w = omega arith; buffer = omega arith; tag = omega arith }
  short_result (Reduce fold) = record { r0 = omega arith; c0 = omega arith; h = omega arith; w = omega arith; buffer = omega arith; tag = omega arith }

  write_costs : Costs (tile_write_program arrays pass tile) 75 75
  write_costs =
      let target : Target = record { buffer = Variable 10; tag = Offset (Variable 9) 2 } in
      let p = write_program (destination arrays pass tile) (result_piece_at arrays pass tile pass.kind) target 11 in
      let costs = straight_costs p 69 refl (write_sized (destination arrays pass tile) (result_piece_at arrays pass tile pass.kind) target 11 (short_result pass.kind)) in
      choice_costs (eqb layout.per_row 1) p (UnlessLess (Number 0) (Remainder (Variable 1) (Number layout.per_row)) p) 75 75 (more_costs p 69 69 75 75 (omega arith) (omega arith) costs)
      (unless_costs (Number 0) (Remainder (Variable 1) (Number layout.per_row)) p 6 69 69 (omega arith) costs)

  leaf_fills_costs : (n : ℕ) → Costs (leaf_fills_program arrays pass tile n) (fill_room (map_of n)) (fill_room (map_of n))
  leaf_fills_costs n =
      let leaf = leaf_of pass n in
      straight_costs (leaf_fills_program arrays pass tile n) (fill_room (map_of n)) (straight_fills leaf.map leaf (piece_at 3) (leaf_expr layout 8 n) 10)
      (fills_sized leaf.map leaf (piece_at 3) (leaf_expr layout 8 n) 10 (record { r0 = omega arith; c0 = omega arith; h = omega arith; w = omega arith; buffer_size = leaf_expr_brought layout 8 n }))

  abbrev pub steps_count : ℕ
  steps_count = length (order_of pass.tree).steps

  abbrev pub fills_share : ℕ
  fills_share = sum_of_each (length pass.leaves) (λ n. fill_room (map_of n))

  pub rest_costs : Costs (rest_program arrays pass tile) (123 + (fills_share + (step_share * steps_count + root_share pass.kind))) (123 + (fills_share + (step_share * steps_count + root_steps pass.kind)))
  rest_costs =
      let works = works_costs pass.kind layout (order_of pass.tree).steps in
      let a = step_share * steps_count + root_share pass.kind in
      let b = step_share * steps_count + root_steps pass.kind in
      let results = both_costs _ _ (3 + a) (3 + b) 76 76 works (both_costs (Emit AwaitLanes) (tile_write_program arrays pass tile) 1 1 75 75 (straight_costs (Emit AwaitLanes) 1 refl (omega arith)) write_costs) in
      let fills = each_costs (leaf_fills_program arrays pass tile) (length pass.leaves) (λ n. fill_room (map_of n)) (λ n. fill_room (map_of n)) (λ n below. leaf_fills_costs n) in
      let named = let_costs (output_expr layout 9) (results_program arrays pass tile) 3 (3 + a + 76) (3 + b + 76) (omega arith) results in
      let filled = both_costs _ _ fills_share fills_share (3 + (3 + a + 76)) (3 + (3 + b + 76)) fills named in
      let waits = both_costs (Emit (AwaitTag (Variable 7))) _ 1 1 _ _ (straight_costs (Emit (AwaitTag (Variable 7))) 1 refl (omega arith))
      (both_costs (Emit (AwaitTag (Offset (Variable 9) 2))) _ 2 2 _ _ (straight_costs (Emit (AwaitTag (Offset (Variable 9) 2))) 2 refl (omega arith)) filled) in
      let whole = let_costs (Difference (Variable 1) (Number 1)) _ 2 _ _ (omega arith) (tile_costs layout 2 3 _ _ _ (let_costs (output_half_expr layout 2 7) (waiting_program arrays pass tile) 6 _ _ (half_size layout 2 7) waits)) in
      more_costs (rest_program arrays pass tile) _ _ (123 + (fills_share + a)) (123 + (fills_share + b)) (omega arith) (omega arith) whole

  -- ---- a pass

  pub pass_sized : program_size (pass_program arrays pass tile) ≤ 167 + (root_share pass.kind + (step_share * steps_count + (sum_of_each (length pass.leaves) (λ n. 1 + leaf_room (map_of n)) + fills_share)))
  pass_sized = omega (arith, reads_sized, rest_costs.sized)
