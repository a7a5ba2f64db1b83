-- The programs of a tile fit in the host's 32 bits.
use Rattle.std.proofs.Common.{◌≡◌, ℕ, suc, ◌+◌, ◌-◌, ◌*◌, ◌/◌, ◌%◌, ◌<◌, ◌≤◌, refl, sym, ap, ◌∙◌, subst, arith, Bool, true, false, cond, eqb, List, length, get_or}
use Rattle.std.specs.Int.{div_ceil}
use Rattle.std.proofs.Math.Nat.{div-le_self, div-one}
use Rattle.std.proofs.lemmas.Bool.{cond_both, eqb-true}
use Rattle.std.proofs.lemmas.Nat.{mul-le, mod_below}
use Rattle.ven_base.specs.Elem.{size_of}
use Rattle.ven_base.specs.Extent.{IsExtent}
use Rattle.venice_isa.specs.Host.{with_number}
use Rattle.pass_plan.specs.declared.parts.Piece.{Piece}
use Rattle.pass_plan.specs.declared.parts.Tile.{Tile}
use Rattle.pass_plan.specs.declared.pass.PassKind.{PassKind}
use Rattle.pass_plan.specs.declared.pass.PassKind.TheVariants.{Map, Reduce}
use Rattle.pass_plan.specs.declared.split.ArrayPlace.{ArrayPlace}
use Rattle.pass_plan.specs.Label.{label_of}
use Rattle.pass_plan.specs.Need.{buffers_of, widest_in}
use Rattle.pass_plan.specs.Pass.{Pass, no_leaf}
use Rattle.pass_plan.specs.Tile.{across, tiles_of, first_row, first_column, piece_of, IsPieceOf}
use Rattle.pass_plan.specs.Buffers.{is_map, buffer_bytes, tiles_per_row, output_half, piece_rows, piece_columns}
use Rattle.pass_plan.specs.Sound.{no_place}
use Rattle.pass_plan.proofs.Tilings.{some_ceil, piece_inside, tiles_few}
use Rattle.buffer_lifetimes.specs.OrderOf.{order_of}
use Rattle.dma_segments.specs.Put.{CanRead}
use Rattle.dma_segments.specs.Laws.{leaf_of, leaf_cell, result_piece, result_cell}
use Rattle.vector_codegen.proofs.TileCode.{fitting}
use Rattle.dma_schedule.specs.Plan.{IsReady}
use Rattle.dma_schedule.specs.PipeList.{destination}
use Rattle.dma_schedule.proofs.Ready.{some_sides, some_per_row, rooms_few, cell_few, bytes_few, elements_few, two_results, can_read, number_is, somewhere, inside_made, made_few, order_is}
use Rattle.host_programs.specs.Expr.{Expr, Number, Variable, Offset, Difference, Product, Quotient, Remainder, value, Fits}
use Rattle.host_programs.specs.Program.{Program, UnlessLess, Let}
use Rattle.host_programs.specs.ProgramFits.{FitsWord, ProgramFits}
use Rattle.transfer_programs.specs.Axis.{scaled, lesser}
use Rattle.transfer_programs.specs.ReadProgram.{Target, write_program}
use Rattle.transfer_programs.specs.ReadLaws.{piece_value, ReadsBelow}
use Rattle.transfer_programs.specs.FitLaws.{ReadWords, CanWrite, CanFill}
use Rattle.transfer_programs.proofs.Axes.{below_plus}
use Rattle.transfer_programs.proofs.FitExprs.{fits_scaled, fits_plus, word_lesser}
use Rattle.transfer_programs.proofs.FitReads.{reads_fit, writes_fit}
use Rattle.transfer_programs.proofs.FitFills.{fills_fit}
use Rattle.host_codegen.specs.Geometry.{Layout, layout_of, first_row_expr, first_column_expr, rows_expr, columns_expr, with_tile, piece_at, leaf_expr, output_half_expr, output_expr}
use Rattle.host_codegen.specs.Sequence.{each_of}
use Rattle.host_codegen.specs.TileProgram.{leaf_reads_program, reads_program, leaf_fills_program, result_piece_at, tile_write_program, results_program, waiting_program, rest_program}
use Rattle.host_codegen.proofs.Sequences.{each_fits}
use Rattle.host_codegen.proofs.TileNumbers.{first_row_value, first_column_value, is_wide}
use Rattle.host_codegen.proofs.StepOrders.{leaf_value}
use Rattle.host_codegen.proofs.RootLists.{HasNames}
use Rattle.host_codegen.proofs.TileLists.{HasTile, tile_names, has_read_tile, has_tile}
use Rattle.host_codegen.proofs.FitRoots.{works_fit}
use Rattle.host_codegen.proofs.FitSteps.{steps_good}

module _ (arrays : List ArrayPlace) (pass : Pass) (tile : Tile) (ready : IsReady arrays pass tile) where
  abbrev layout : Layout
  layout = layout_of pass tile

  abbrev bytes : ℕ
  bytes = buffer_bytes pass tile

  abbrev tiles : ℕ
  tiles = tiles_of pass.domain tile

  abbrev target : Target
  target = record { buffer = Variable 10; tag = Offset (Variable 9) 2 }

  -- ---- the numbers of the pass

  shaped : IsExtent pass.domain
  shaped = ready.planned.sound.shaped

  some_h : 1 ≤ tile.h
  some_h = (some_sides arrays pass tile ready).0

  some_w : 1 ≤ tile.w
  some_w = (some_sides arrays pass tile ready).1

  tile_small : (tile.h < 4294967296) × (tile.w < 4294967296)
  tile_small =
      let few = elements_few arrays pass tile ready in
      (omega (arith, mul-le tile.h 1 tile.h tile.w (omega arith) some_w, few), omega (arith, mul-le 1 tile.w tile.h tile.w some_h (omega arith), few))

  domain_small : (pass.domain.rows ≤ 1048576) × (pass.domain.cols ≤ 1048576)
  domain_small =
      let all = shaped.within in
      (omega (arith, mul-le pass.domain.rows 1 pass.domain.rows pass.domain.cols (omega arith) shaped.some_cols, all), omega (arith, mul-le 1 pass.domain.cols pass.domain.rows pass.domain.cols shaped.some_rows (omega arith), all))

  pub tiles_small : tiles ≤ 1048576
  tiles_small = omega (arith, tiles_few pass.domain tile shaped some_h some_w, shaped.within)

  some_across : 0 < across pass.domain tile
  some_across = some_ceil pass.domain.cols tile.w some_w shaped.some_cols

  across_small : across pass.domain tile ≤ 1048576
  across_small =
      let l = mul-le (across pass.domain tile) 1 (across pass.domain tile) (div_ceil pass.domain.rows tile.h) (omega arith) (some_ceil pass.domain.rows tile.h some_h shaped.some_rows) in
      omega (arith, l, tiles_small)

  per_row_small : tiles_per_row pass tile < 4294967296
  per_row_small = cond_both (is_map pass.kind) 1 (across pass.domain tile) (λ n. n < 4294967296) (λ e. omega arith) (λ e. omega (arith, across_small))

  piece_there : (t : ℕ) → t < tiles → IsPieceOf pass.domain (piece_of pass.domain tile t)
  piece_there t within = piece_inside pass.domain tile shaped some_h some_w t within

  -- ---- a tile's names

  number_fits : (e : Expr) (f : ℕ → ℕ) → FitsWord e f → Fits (Quotient e (Number layout.across)) f × Fits (Remainder e (Number layout.across)) f
  number_fits e f word =
      ((word.0, tt, word.1, some_across, omega (arith, across_small)), (word.0, tt, word.1, some_across, omega (arith, across_small)))

  row_word : (number t : ℕ) (f : ℕ → ℕ) → f number ≡ t → t < tiles → FitsWord (first_row_expr layout number) f
  row_word number t f is within =
      let small : f number < 4294967296 = omega (arith, is, within, tiles_small) in
      let inner = cond_both (eqb layout.across 1) (Variable number) (Quotient (Variable number) (Number layout.across)) (λ e. Fits e f) (λ e. tt) (λ e. (number_fits (Variable number) f (tt, small)).0) in
      let first : value (first_row_expr layout number) f ≡ first_row pass.domain tile t = first_row_value layout number f ∙ ap (λ n. n / layout.across * tile.h) is in
      (fits_scaled (cond (eqb layout.across 1) (Variable number) (Quotient (Variable number) (Number layout.across))) tile.h f inner, omega (arith, first, (piece_there t within).rows_inside, domain_small))

  column_word : (number t : ℕ) (f : ℕ → ℕ) → f number ≡ t → t < tiles → FitsWord (first_column_expr layout number) f
  column_word number t f is within =
      let small : f number < 4294967296 = omega (arith, is, within, tiles_small) in
      let rest = Remainder (Variable number) (Number layout.across) in
      let fit = cond_both (eqb layout.across 1) (Number 0) (scaled rest tile.w) (λ e. Fits e f) (λ e. tt) (λ e. fits_scaled rest tile.w f (number_fits (Variable number) f (tt, small)).1) in
      let first : value (first_column_expr layout number) f ≡ first_column pass.domain tile t = first_column_value layout number f ∙ ap (λ n. n % layout.across * tile.w) is in
      (fit, omega (arith, first, (piece_there t within).cols_inside, domain_small))

  rows_word : (first : ℕ) (f : ℕ → ℕ) → f first ≤ pass.domain.rows → FitsWord (rows_expr layout first) f
  rows_word first f inside = word_lesser (Number tile.h) (Difference (Number pass.domain.rows) (Variable first)) f (tt, tile_small.0) ((tt, tt, inside), omega (arith, domain_small))

  columns_word : (first : ℕ) (f : ℕ → ℕ) → f first ≤ pass.domain.cols → FitsWord (columns_expr layout first) f
  columns_word first f inside =
      let rest = lesser (Number tile.w) (Difference (Number pass.domain.cols) (Variable first)) in
      cond_both (eqb layout.across 1) (Number pass.domain.cols) rest (λ e. FitsWord e f) (λ e. (tt, omega (arith, domain_small)))
      (λ e. word_lesser (Number tile.w) (Difference (Number pass.domain.cols) (Variable first)) f (tt, tile_small.1) ((tt, tt, inside), omega (arith, domain_small)))

  half_cells : (half : ℕ) → half < 2 → half * bytes < 4294967296
  half_cells half small = omega (arith, mul-le half bytes 1 bytes (omega (arith, small)) (omega arith), bytes_few arrays pass tile ready)

  -- the registers, as one number after another is named
  abbrev g1 : (number d : ℕ) → (ℕ → ℕ) → (ℕ → ℕ)
  g1 number d f = with_number d (value (first_row_expr layout number) f) f

  abbrev g2 : (number d : ℕ) → (ℕ → ℕ) → (ℕ → ℕ)
  g2 number d f = with_number (d + 1) (value (first_column_expr layout number) (g1 number d f)) (g1 number d f)

  abbrev g3 : (number d : ℕ) → (ℕ → ℕ) → (ℕ → ℕ)
  g3 number d f = with_number (d + 1 + 1) (value (rows_expr layout d) (g2 number d f)) (g2 number d f)

  abbrev g4 : (number d : ℕ) → (ℕ → ℕ) → (ℕ → ℕ)
  g4 number d f = with_number (d + 1 + 1 + 1) (value (columns_expr layout (d + 1)) (g3 number d f)) (g3 number d f)

  abbrev g5 : (number d : ℕ) → (ℕ → ℕ) → (ℕ → ℕ)
  g5 number d f = with_number (d + 1 + 1 + 1 + 1) (g4 number d f number % 2) (g4 number d f)

  abbrev g6 : (number d : ℕ) → (ℕ → ℕ) → (ℕ → ℕ)
  g6 number d f = with_number (d + 1 + 1 + 1 + 1 + 1) (g5 number d f (d + 4) * bytes) (g5 number d f)

  -- each keeps what it had
  record Keeps (number d : ℕ) (f : ℕ → ℕ) : Type 0 where
    first : g1 number d f number ≡ f number
    row : g2 number d f d ≡ value (first_row_expr layout number) f
    column : g3 number d f (d + 1) ≡ value (first_column_expr layout number) (g1 number d f)
    last : g4 number d f number ≡ f number
    half : g5 number d f (d + 4) ≡ g4 number d f number % 2

  tile_fits : (number d t : ℕ) (p : Program) (f : ℕ → ℕ) → f number ≡ t → t < tiles → Keeps number d f → ProgramFits p (d + 1 + 1 + 1 + 1 + 1 + 1) (g6 number d f) → ProgramFits (with_tile layout number d p) d f
  tile_fits number d t p f is within keeps fits =
      let piece = piece_there t within in
      let first = keeps.first ∙ is in
      let row : value (first_row_expr layout number) f ≡ first_row pass.domain tile t = first_row_value layout number f ∙ ap (λ n. n / layout.across * tile.h) is in
      let column : value (first_column_expr layout number) (g1 number d f) ≡ first_column pass.domain tile t = first_column_value layout number (g1 number d f) ∙ ap (λ n. n % layout.across * tile.w) first in
      let last : g4 number d f number < 4294967296 = omega (arith, keeps.last, is, within, tiles_small) in
      let half : g4 number d f number % 2 < 2 = mod_below (g4 number d f number) 2 (omega arith) in
      let rows = rows_word d (g2 number d f) (omega (arith, keeps.row, row, piece.rows_inside)) in
      let columns = columns_word (d + 1) (g3 number d f) (omega (arith, keeps.column, column, piece.cols_inside)) in
      let half_word : FitsWord (Remainder (Variable number) (Number 2)) (g4 number d f) = ((tt, tt, last, omega arith, omega arith), omega (arith, half)) in
      let cells_word : FitsWord (Product (Variable (d + 4)) (Number bytes)) (g5 number d f) = ((tt, tt), half_cells (g5 number d f (d + 4)) (omega (arith, keeps.half, half))) in
      (row_word number t f is within, (column_word number t (g1 number d f) first within, (rows, (columns, (half_word, (cells_word, fits))))))

  -- ---- a tile's piece

  -- its first row and column, its rows and columns, and its half
  piece_words : (t d : ℕ) (f : ℕ → ℕ) → t < tiles → HasTile pass tile t d f
      → FitsWord (Variable d) f × FitsWord (Variable (d + 1)) f × FitsWord (Variable (d + 2)) f × FitsWord (Variable (d + 3)) f × FitsWord (Variable (d + 4)) f
  piece_words t d f within has =
      let piece = piece_there t within in
      let r0 : f d ≡ (piece_of pass.domain tile t).r0 = ap (λ (p : Piece). p.r0) has.piece_is in
      let c0 : f (d + 1) ≡ (piece_of pass.domain tile t).c0 = ap (λ (p : Piece). p.c0) has.piece_is in
      let h : f (d + 2) ≡ (piece_of pass.domain tile t).h = ap (λ (p : Piece). p.h) has.piece_is in
      let w : f (d + 3) ≡ (piece_of pass.domain tile t).w = ap (λ (p : Piece). p.w) has.piece_is in
      let half = mod_below t 2 (omega arith) in (
        (tt, omega (arith, r0, piece.rows_inside, domain_small)),
        (tt, omega (arith, c0, piece.cols_inside, domain_small)),
        (tt, omega (arith, h, piece.rows_inside, domain_small)),
        (tt, omega (arith, w, piece.cols_inside, domain_small)),
        (tt, omega (arith, has.half, half)),
      )

  -- a leaf's buffer
  leaf_word : (number t half : ℕ) (f : ℕ → ℕ) → number < length pass.leaves → f half ≡ t % 2 * bytes → FitsWord (leaf_expr layout half number) f
  leaf_word number t half f below is =
      let small = mod_below t 2 (omega arith) in
      let cell = cell_few arrays pass tile ready (number * 2 + t % 2) (omega (arith, below, small)) in
      (fits_plus (Number (number * 2 * bytes)) (Variable half) f tt tt, omega (arith, leaf_value pass tile t half f is number, cell))

  -- ---- reads

  leaf_reads_fit : (number t : ℕ) (f : ℕ → ℕ) → number < length pass.leaves → t < tiles → HasTile pass tile t 2 f → ProgramFits (leaf_reads_program arrays pass tile number) 8 f
  leaf_reads_fit number t f below within has =
      let leaf = leaf_of pass number in
      let from = get_or arrays leaf.array no_place in
      let cell = leaf_word number t 7 f below has.cells in
      let g = with_number 8 (value (leaf_expr layout 7 number) f) f in
      let words = piece_words t 2 f within has in
      let can = can_read arrays pass tile ready number t below within in
      let here = subst (λ piece. CanRead leaf from piece (value (leaf_expr layout 7 number) f)) (sym has.piece_is) (subst (λ c. CanRead leaf from (piece_of pass.domain tile t) c) (sym (leaf_value pass tile t 7 f has.cells number)) can) in (
        cell,
        reads_fit leaf from (piece_at 2) (record { buffer = Variable 8; tag = Variable 6 }) 9 g (ready.planned.sound.leaves number no_leaf below).shaped here
            (record { r0 = refl; c0 = refl; h = refl; w = refl; buffer = refl; tag = refl }) (record { r0 = words.0; c0 = words.1; h = words.2; w = words.3; buffer = (tt, cell.1); tag = words.4 }),
      )

  pub reads_program_fits : (t : ℕ) (f : ℕ → ℕ) → t < tiles → f 1 ≡ t → ProgramFits (reads_program arrays pass tile) 2 f
  reads_program_fits t f within is =
      let has = subst (λ n. HasTile pass tile n 2 (tile_names layout 1 2 f)) is (has_read_tile pass tile (is_wide pass tile some_w) f) in
      tile_fits 1 2 t (each_of (length pass.leaves) (leaf_reads_program arrays pass tile)) f is within (record { first = refl; row = refl; column = refl; last = refl; half = refl })
      (each_fits (leaf_reads_program arrays pass tile) (length pass.leaves) 8 (g6 1 2 f) (λ number below. leaf_reads_fit number t (g6 1 2 f) below within has))

  -- ---- the rest of a tile

  leaf_fills_fit : (number t : ℕ) (f : ℕ → ℕ) → number < length pass.leaves → t < tiles → HasTile pass tile t 3 f → ProgramFits (leaf_fills_program arrays pass tile number) 10 f
  leaf_fills_fit number t f below within has =
      let leaf = leaf_of pass number in
      let words = piece_words t 3 f within has in
      let can = can_read arrays pass tile ready number t below within in
      let there : CanFill leaf (piece_of pass.domain tile t) (leaf_cell pass tile number t) = record { fits = can.fits; inside = can.inside; in_cells = can.in_cells } in
      let here = subst (λ piece. CanFill leaf piece (value (leaf_expr layout 8 number) f)) (sym has.piece_is) (subst (λ c. CanFill leaf (piece_of pass.domain tile t) c) (sym (leaf_value pass tile t 8 f has.cells number)) there) in
      fills_fit leaf (piece_at 3) (leaf_expr layout 8 number) 10 f (ready.planned.sound.leaves number no_leaf below).shaped here
      (record { r0 = refl; c0 = refl; h = refl; w = refl; buffer_below = below_plus (Number (number * 2 * bytes)) (Variable 8) 10 refl refl })
      (record { r0 = words.0; c0 = words.1; h = words.2; w = words.3; buffer_word = leaf_word number t 8 f below has.cells })

  -- in a reduction the piece of the results is a column
  result_is : (kind : PassKind) (t : ℕ) (f : ℕ → ℕ) → pass.kind ≡ kind → HasTile pass tile t 3 f → piece_value (result_piece_at arrays pass tile kind) f ≡ result_piece pass tile t
  result_is Map t f is has =
      let by : PassKind → Piece = λ kind. record { r0 = first_row pass.domain tile t; c0 = cond (is_map kind) (first_column pass.domain tile t) 0; h = piece_rows pass tile t; w = cond (is_map kind) (piece_columns pass tile t) 1 } in
      has.piece_is ∙ sym (ap by is)
  result_is (Reduce fold) t f is has =
      let by : PassKind → Piece = λ kind. record { r0 = first_row pass.domain tile t; c0 = cond (is_map kind) (first_column pass.domain tile t) 0; h = piece_rows pass tile t; w = cond (is_map kind) (piece_columns pass tile t) 1 } in
      ap (λ (p : Piece). record { r0 = p.r0; c0 = 0; h = p.h; w = 1 }) has.piece_is ∙ sym (ap by is)

  result_below : (kind : PassKind) → ReadsBelow (result_piece_at arrays pass tile kind) target 11
  result_below Map = record { r0 = refl; c0 = refl; h = refl; w = refl; buffer = refl; tag = refl }
  result_below (Reduce fold) = record { r0 = refl; c0 = refl; h = refl; w = refl; buffer = refl; tag = refl }

  result_words : (kind : PassKind) (t : ℕ) (f : ℕ → ℕ) → t < tiles → HasTile pass tile t 3 f → FitsWord (Variable 10) f → f 9 < 2 → ReadWords (result_piece_at arrays pass tile kind) target f
  result_words Map t f within has cell half =
      let words = piece_words t 3 f within has in
      record { r0 = words.0; c0 = words.1; h = words.2; w = words.3; buffer = cell; tag = (tt, omega (arith, half)) }
  result_words (Reduce fold) t f within has cell half =
      let words = piece_words t 3 f within has in
      record { r0 = words.0; c0 = (tt, omega arith); h = words.2; w = (tt, omega arith); buffer = cell; tag = (tt, omega (arith, half)) }

  -- the results of a tile lie in their output half
  half_small : (t : ℕ) → output_half pass tile t < 2
  half_small t = mod_below (t / tiles_per_row pass tile) 2 (omega arith)

  result_ends : (t : ℕ) → t < tiles → result_cell pass tile t + (result_piece pass tile t).h * (result_piece pass tile t).w * size_of pass.elem < 4294967296
  result_ends t within =
      let inside = inside_made arrays pass tile ready t within in
      let piece = piece_there t within in
      let half = half_small t in
      let two = two_results arrays pass tile ready in
      let buffer = length pass.leaves * 2 + label_of pass.tree + output_half pass tile t in
      let one : (buffer + 1) * bytes ≤ buffers_of pass * bytes = mul-le (buffer + 1) bytes (buffers_of pass) bytes (omega (arith, half, two)) (omega arith) in
      let wide : (result_piece pass tile t).w ≤ tile.w = cond_both (is_map pass.kind) (piece_columns pass tile t) 1 (λ n. n ≤ tile.w) (λ e. omega arith) (λ e. some_w) in
      let area = mul-le (result_piece pass tile t).h (result_piece pass tile t).w tile.h tile.w (omega arith) wide in
      let all = mul-le ((result_piece pass tile t).h * (result_piece pass tile t).w) (size_of pass.elem) (tile.h * tile.w) (widest_in pass) area (omega arith) in
      omega (arith, one, all, rooms_few arrays pass tile ready)

  write_fits : (t : ℕ) (f : ℕ → ℕ) → t < tiles → HasTile pass tile t 3 f → f 1 ≡ suc t → f 9 ≡ output_half pass tile t → f 10 ≡ result_cell pass tile t → ProgramFits (tile_write_program arrays pass tile) 11 f
  write_fits t f within has next half cell =
      let to = destination arrays pass tile in
      let ends = result_ends t within in
      let there : CanWrite to (result_piece pass tile t) (result_cell pass tile t) = record { inside = inside_made arrays pass tile ready t within; in_memory = made_few arrays pass tile ready; in_cells = ends } in
      let here = subst (λ piece. CanWrite to piece (f 10)) (sym (result_is pass.kind t f refl has)) (subst (λ c. CanWrite to (result_piece pass tile t) c) (sym cell) there) in
      let fits = writes_fit to (result_piece_at arrays pass tile pass.kind) target 11 f here (result_below pass.kind)
      (result_words pass.kind t f within has (tt, omega (arith, cell, ends)) (omega (arith, half, half_small t))) in
      let written = write_program to (result_piece_at arrays pass tile pass.kind) target 11 in
      let next_small : f 1 < 4294967296 = omega (arith, next, within, tiles_small) in
      let some = some_per_row arrays pass tile ready in
      let rest = mod_below (f 1) (tiles_per_row pass tile) some in
      cond_both (eqb (tiles_per_row pass tile) 1) written (UnlessLess (Number 0) (Remainder (Variable 1) (Number (tiles_per_row pass tile))) written) (λ p. ProgramFits p 11 f) (λ e. fits)
      (λ e. ((tt, omega arith), ((tt, tt, next_small, some, per_row_small), omega (arith, rest, per_row_small)), λ q. fits))

  -- ---- the instructions of a tile

  names_of : (t : ℕ) (f : ℕ → ℕ) → HasTile pass tile t 3 f → f 10 ≡ result_cell pass tile t → HasNames pass tile t f
  names_of t f has cell = record {
    column = ap (λ (p : Piece). p.c0) has.piece_is;
    rows = ap (λ (p : Piece). p.h) has.piece_is;
    columns = ap (λ (p : Piece). p.w) has.piece_is;
    half = has.cells;
    output = cell;
  }

  results_fit : (t : ℕ) (f : ℕ → ℕ) → t < tiles → HasTile pass tile t 3 f → f 1 ≡ suc t → f 9 ≡ output_half pass tile t → f 10 ≡ result_cell pass tile t → ProgramFits (results_program arrays pass tile) 11 f
  results_fit t f within has next half cell =
      let number = number_is arrays pass tile ready t within in
      let sound = somewhere arrays pass tile ready in
      let steps = (order_of pass.tree).steps in
      let column : first_column pass.domain tile t < 4294967296 = omega (arith, (piece_there t within).cols_inside, domain_small) in
      (works_fit pass tile t (fitting pass tile t sound number) column f steps (names_of t f has cell) (steps_good pass tile t sound number steps (order_is arrays pass tile ready)), (tt, write_fits t f within has next half cell))

  waiting_fits : (t : ℕ) (f : ℕ → ℕ) → t < tiles → HasTile pass tile t 3 f → f 1 ≡ suc t → f 9 ≡ output_half pass tile t → ProgramFits (waiting_program arrays pass tile) 10 f
  waiting_fits t f within has next half =
      let words = piece_words t 3 f within has in
      let small = half_small t in
      let product : f 9 * bytes ≡ output_half pass tile t * bytes = ap (λ n. n * bytes) half in
      let cell : value (output_expr layout 9) f ≡ result_cell pass tile t = omega (arith, product) in
      let g = with_number 10 (value (output_expr layout 9) f) f in
      let there : HasTile pass tile t 3 g = record { piece_is = has.piece_is; half = has.half; cells = has.cells } in (
        words.4,
        (
          (tt, omega (arith, half, small)),
          (
            each_fits (leaf_fills_program arrays pass tile) (length pass.leaves) 10 f (λ number below. leaf_fills_fit number t f below within has),
            (((tt, tt), omega (arith, cell, result_ends t within)), results_fit t g within there next half cell),
          ),
        ),
      )

  -- the output half
  half_word : (t : ℕ) (f : ℕ → ℕ) → t < tiles → f 2 ≡ t → f 7 ≡ t % 2 → FitsWord (output_half_expr layout 2 7) f × (value (output_half_expr layout 2 7) f ≡ output_half pass tile t)
  half_word t f within number half = go (eqb n 1) refl
    where
      n : ℕ
      n = tiles_per_row pass tile

      small : f 2 < 4294967296
      small = omega (arith, number, within, tiles_small)

      by : Expr
      by = Quotient (Variable 2) (Number n)

      go : (b : Bool) → eqb n 1 ≡ b → FitsWord (cond b (Variable 7) (Remainder by (Number 2))) f × (value (cond b (Variable 7) (Remainder by (Number 2))) f ≡ t / n % 2)
      go true one = ((tt, omega (arith, half, mod_below t 2 (omega arith))), half ∙ sym (ap (λ m. t / m % 2) (eqb-true n 1 one) ∙ ap (λ m. m % 2) (div-one t)))
      go false several =
          let few = div-le_self (f 2) n in
          ((((tt, tt, small, some_per_row arrays pass tile ready, per_row_small), tt, omega (arith, few, small), omega arith, omega arith), omega (arith, mod_below (f 2 / n) 2 (omega arith))), ap (λ m. m / n % 2) number)

  pub rest_program_fits : (t : ℕ) (f : ℕ → ℕ) → t < tiles → f 1 ≡ suc t → ProgramFits (rest_program arrays pass tile) 2 f
  rest_program_fits t f within next =
      let f2 = with_number 2 (f 1 - 1) f in
      let number : f 1 - 1 ≡ t = omega (arith, next) in
      let g = g6 2 3 f2 in
      let has : HasTile pass tile t 3 g = subst (λ n. HasTile pass tile n 3 g) number (has_tile pass tile (is_wide pass tile some_w) f2) in
      let half = half_word t g within number has.half in
      let g' = with_number 9 (value (output_half_expr layout 2 7) g) g in
      let there : HasTile pass tile t 3 g' = record { piece_is = has.piece_is; half = has.half; cells = has.cells } in (
        ((tt, tt, omega (arith, next)), omega (arith, number, within, tiles_small)),
        tile_fits 2 3 t (Let (output_half_expr layout 2 7) (waiting_program arrays pass tile)) f2 number within (record { first = refl; row = refl; column = refl; last = refl; half = refl })
            (half.0, waiting_fits t g' within there next half.1),
      )
