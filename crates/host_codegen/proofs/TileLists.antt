-- The programs of a tile issue its reads, and the rest of its list.
use Rattle.std.proofs.Common.{◌≡◌, ℕ, zero, suc, ◌+◌, ◌-◌, ◌*◌, ◌/◌, ◌%◌, ◌^◌, ◌<◌, ◌≤◌, min, refl, sym, ap, ◌∙◌, subst, arith, Bool, true, false, cond, eqb, List, [], ◌∷◌, ◌++◌, length, get_or, All}
use Rattle.std.specs.Prelude.{map}
use Rattle.std.proofs.Math.Nat.{div-one}
use Rattle.std.proofs.lemmas.Bool.{eqb-true}
use Rattle.std.proofs.lemmas.List.{map-append, append_assoc}
use Rattle.ven_base.specs.Extent.{IsExtent}
use Rattle.venice_isa.specs.declared.issue.Issue.{Issue}
use Rattle.venice_isa.specs.declared.issue.Issue.TheVariants.{Vector, Read, Write, VWait, TWait}
use Rattle.venice_isa.specs.declared.work.VecWork.{VecWork}
use Rattle.venice_isa.specs.Host.{with_number}
use Rattle.pass_plan.specs.declared.parts.Piece.{Piece}
use Rattle.pass_plan.specs.declared.parts.Tile.{Tile}
use Rattle.pass_plan.specs.declared.pass.PassKind.{PassKind}
use Rattle.pass_plan.specs.declared.pass.PassKind.TheVariants.{Map, Reduce}
use Rattle.pass_plan.specs.declared.split.ArrayPlace.{ArrayPlace}
use Rattle.pass_plan.specs.Pass.{Pass, no_leaf}
use Rattle.pass_plan.specs.Tile.{first_row, first_column, piece_of}
use Rattle.pass_plan.specs.Buffers.{is_map, buffer_bytes, tiles_per_row, output_half, begins_row, ends_row, piece_rows, piece_columns}
use Rattle.pass_plan.specs.Sound.{no_place}
use Rattle.buffer_lifetimes.specs.OrderOf.{order_of}
use Rattle.dma_segments.specs.declared.segments.Fill.{Fill}
use Rattle.dma_segments.specs.ReadList.{read_list}
use Rattle.dma_segments.specs.WriteList.{write_list}
use Rattle.dma_segments.specs.Laws.{with_tag, leaf_of, result_piece, result_cell}
use Rattle.vector_codegen.specs.Work.{flat}
use Rattle.vector_codegen.specs.Root.{root_works}
use Rattle.vector_codegen.specs.TileList.{fill_work, works_with, tile_shape, tile_buffers}
use Rattle.dma_schedule.specs.Blocks.{leaf_half, write_tag, row_half}
use Rattle.dma_schedule.specs.PipeList.{leaf_segments, leaf_reads, tile_reads, tile_fills, destination, tile_writes, blocks_of}
use Rattle.host_programs.specs.Expr.{Number, Variable, Offset, Quotient, Remainder, value, is_below}
use Rattle.host_programs.specs.Program.{list_by}
use Rattle.transfer_programs.specs.ReadProgram.{Target, write_program}
use Rattle.transfer_programs.specs.ReadLaws.{piece_value, HasElements, ReadsBelow, LeavesIssueTheirReads, PiecesIssueTheirWrite}
use Rattle.transfer_programs.specs.FillLaws.{FillsAreIssued}
use Rattle.transfer_programs.proofs.Axes.{below_plus}
use Rattle.host_codegen.specs.Geometry.{Layout, layout_of, first_row_expr, first_column_expr, rows_expr, columns_expr, piece_at, leaf_expr, output_half_expr, output_expr}
use Rattle.host_codegen.specs.Sequence.{each_of}
use Rattle.host_codegen.specs.TileProgram.{leaf_reads_program, reads_program, leaf_fills_program, result_piece_at, tile_write_program, results_program, waiting_program, rest_program}
use Rattle.host_codegen.proofs.Sequences.{lists_of, each_lists}
use Rattle.host_codegen.proofs.TileNumbers.{first_row_value, first_column_value, rows_value, columns_value, IsWide, is_wide}
use Rattle.host_codegen.proofs.StepOrders.{leaf_value}
use Rattle.host_codegen.proofs.Choices.{if_last_list}
use Rattle.host_codegen.proofs.RootLists.{HasNames, issued, works_list}

-- what the programs of transfers issue
pub record TransferLaws : Type 0 where
  pub reads : LeavesIssueTheirReads
  pub write : PiecesIssueTheirWrite
  pub fills : FillsAreIssued

-- the pass's tiles have rows and columns, and its leaves have shapes
pub record IsTiled (pass : Pass) (tile : Tile) : Type 0 where
  pub some_columns : 1 ≤ tile.w
  pub small : tile.w < 2 ^ 32
  pub shaped : All (λ leaf. IsExtent leaf.shape) pass.leaves

-- registers from d on have the numbers of tile t
pub record HasTile (pass : Pass) (tile : Tile) (t d : ℕ) (f : ℕ → ℕ) : Type 0 where
  pub piece_is : piece_value (piece_at d) f ≡ piece_of pass.domain tile t
  pub half : f (d + 4) ≡ t % 2
  pub cells : f (d + 5) ≡ t % 2 * buffer_bytes pass tile

-- those registers, where register `number` has the tile's number, as one after another is named
abbrev after_row : Layout → (number d : ℕ) → (ℕ → ℕ) → (ℕ → ℕ)
after_row layout number d f = with_number d (value (first_row_expr layout number) f) f

abbrev after_column : Layout → (number d : ℕ) → (ℕ → ℕ) → (ℕ → ℕ)
after_column layout number d f = with_number (d + 1) (value (first_column_expr layout number) f) f

abbrev after_rows : Layout → (d : ℕ) → (ℕ → ℕ) → (ℕ → ℕ)
after_rows layout d f = with_number (d + 1 + 1) (value (rows_expr layout d) f) f

abbrev after_columns : Layout → (d : ℕ) → (ℕ → ℕ) → (ℕ → ℕ)
after_columns layout d f = with_number (d + 1 + 1 + 1) (value (columns_expr layout (d + 1)) f) f

abbrev after_half : (bytes number d : ℕ) → (ℕ → ℕ) → (ℕ → ℕ)
after_half bytes number d f =
    with_number (d + 1 + 1 + 1 + 1 + 1) (f number % 2 * bytes) (with_number (d + 1 + 1 + 1 + 1) (f number % 2) f)

abbrev pub tile_names : Layout → (number d : ℕ) → (ℕ → ℕ) → (ℕ → ℕ)
tile_names layout number d f =
    after_half layout.bytes number d
    (after_columns layout d (after_rows layout d (after_column layout number d (after_row layout number d f))))

module _ (pass : Pass) (tile : Tile) (wide : IsWide (layout_of pass tile)) where
  abbrev layout : Layout
  layout = layout_of pass tile

  piece_from : (t : ℕ) (r0 c0 h w : ℕ) → r0 ≡ first_row pass.domain tile t → c0 ≡ first_column pass.domain tile t → h ≡ min tile.h (pass.domain.rows - r0) → w ≡ min tile.w (pass.domain.cols - c0)
      → record { r0 = r0; c0 = c0; h = h; w = w } ≡ piece_of pass.domain tile t
  piece_from t r0 c0 h w e0 e1 e2 e3 =
      let high = e2 ∙ ap (λ r. min tile.h (pass.domain.rows - r)) e0 in
      let broad = e3 ∙ ap (λ c. min tile.w (pass.domain.cols - c)) e1 in
      cc

  pub has_read_tile : (f : ℕ → ℕ) → HasTile pass tile (f 1) 2 (tile_names layout 1 2 f)
  has_read_tile f =
      let f1 = after_row layout 1 2 f in
      let f2 = after_column layout 1 2 f1 in
      let f3 = after_rows layout 2 f2 in
      let f4 = after_columns layout 2 f3 in
      let row = first_row_value layout 1 f in
      let column = first_column_value layout 1 f1 in
      let high = rows_value layout 2 f2 in
      let broad = columns_value layout 3 (f 1) f3 wide column in
      record { piece_is = piece_from (f 1) (f4 2) (f4 3) (f4 4) (f4 5) row column high broad; half = refl; cells = refl }

  pub has_tile : (f : ℕ → ℕ) → HasTile pass tile (f 2) 3 (tile_names layout 2 3 f)
  has_tile f =
      let f1 = after_row layout 2 3 f in
      let f2 = after_column layout 2 3 f1 in
      let f3 = after_rows layout 3 f2 in
      let f4 = after_columns layout 3 f3 in
      let row = first_row_value layout 2 f in
      let column = first_column_value layout 2 f1 in
      let high = rows_value layout 3 f2 in
      let broad = columns_value layout 4 (f 2) f3 wide column in
      record { piece_is = piece_from (f 2) (f4 3) (f4 4) (f4 5) (f4 6) row column high broad; half = refl; cells = refl }

-- a tile's piece of results, in a pass of this kind
abbrev results_by : Pass → Tile → PassKind → (t : ℕ) → Piece
results_by pass tile kind t = record {
  r0 = first_row pass.domain tile t;
  c0 = cond (is_map kind) (first_column pass.domain tile t) 0;
  h = piece_rows pass tile t;
  w = cond (is_map kind) (piece_columns pass tile t) 1;
}

-- ---- reads

module _ (arrays : List ArrayPlace) (pass : Pass) (tile : Tile) (laws : TransferLaws) (tiled : IsTiled pass tile) where
  -- a number past the last leaf is none's
  leaf_shaped : (number : ℕ) → number < length pass.leaves → IsExtent (leaf_of pass number).shape
  leaf_shaped number below = tiled.shaped number no_leaf below

  leaf_reads_list : (number t : ℕ) (f : ℕ → ℕ) → number < length pass.leaves → HasElements (piece_of pass.domain tile t) → HasTile pass tile t 2 f
      → list_by value (leaf_reads_program arrays pass tile number) 8 f ≡ leaf_reads arrays pass tile number t
  leaf_reads_list number t f below some has =
      let leaf = leaf_of pass number in
      let from = get_or arrays leaf.array no_place in
      let buffer = leaf_value pass tile t 7 f has.cells number in
      let issues : ℕ → Piece → ℕ → List Issue = λ tag piece cell. map (λ work. Read (with_tag tag work)) (read_list leaf from piece cell).commands in
      laws.reads leaf from (piece_at 2) (record { buffer = Variable 8; tag = Variable 6 }) 9 (with_number 8 (value (leaf_expr (layout_of pass tile) 7 number) f) f)
      (leaf_shaped number below) (subst HasElements (sym has.piece_is) some) (record { r0 = refl; c0 = refl; h = refl; w = refl; buffer = refl; tag = refl })
      ∙ ap (λ tag. issues tag (piece_value (piece_at 2) f) (value (leaf_expr (layout_of pass tile) 7 number) f)) has.half
      ∙ ap (λ piece. issues (t % 2) piece (value (leaf_expr (layout_of pass tile) 7 number) f)) has.piece_is
      ∙ ap (λ cell. issues (t % 2) (piece_of pass.domain tile t) cell) buffer

  leaves_list : (count t : ℕ) (f : ℕ → ℕ) → count ≤ length pass.leaves → HasElements (piece_of pass.domain tile t) → HasTile pass tile t 2 f
      → lists_of count (λ number. list_by value (leaf_reads_program arrays pass tile number) 8 f) ≡ tile_reads arrays pass tile count t
  leaves_list zero t f le some has = refl
  leaves_list (suc number) t f le some has =
      ap (λ xs. xs ++ list_by value (leaf_reads_program arrays pass tile number) 8 f) (leaves_list number t f (omega (arith, le)) some has)
      ∙ ap (λ ys. tile_reads arrays pass tile number t ++ ys) (leaf_reads_list number t f (omega (arith, le)) some has)

  pub reads_list : (f : ℕ → ℕ) → HasElements (piece_of pass.domain tile (f 1)) → list_by value (reads_program arrays pass tile) 2 f ≡ tile_reads arrays pass tile (length pass.leaves) (f 1)
  reads_list f some =
      let g = tile_names (layout_of pass tile) 1 2 f in
      each_lists value (leaf_reads_program arrays pass tile) (length pass.leaves) 8 g
      ∙ leaves_list (length pass.leaves) (f 1) g (omega arith) some (has_read_tile pass tile (is_wide pass tile tiled.some_columns) f)

  -- ---- fills

  leaf_fills_list : (number t : ℕ) (f : ℕ → ℕ) → HasTile pass tile t 3 f
      → list_by value (leaf_fills_program arrays pass tile number) 10 f ≡ map (λ fill. Vector (fill_work fill)) (leaf_segments arrays pass tile number t).fills
  leaf_fills_list number t f has =
      let leaf = leaf_of pass number in
      let from = get_or arrays leaf.array no_place in
      let issues : Piece → ℕ → List Issue = λ piece cell. map (λ fill. Vector (fill_work fill)) (read_list leaf from piece cell).fills in
      laws.fills leaf from (piece_at 3) (leaf_expr (layout_of pass tile) 8 number) 10 f
      (record { r0 = refl; c0 = refl; h = refl; w = refl; buffer_below = leaf_below number })
      ∙ ap (λ piece. issues piece (value (leaf_expr (layout_of pass tile) 8 number) f)) has.piece_is
      ∙ ap (λ cell. issues (piece_of pass.domain tile t) cell) (leaf_value pass tile t 8 f has.cells number)
    where
      leaf_below : (number : ℕ) → is_below (leaf_expr (layout_of pass tile) 8 number) 10 ≡ true
      leaf_below number = below_plus (Number (number * 2 * buffer_bytes pass tile)) (Variable 8) 10 refl refl

  fills_list : (count t : ℕ) (f : ℕ → ℕ) → HasTile pass tile t 3 f
      → lists_of count (λ number. list_by value (leaf_fills_program arrays pass tile number) 10 f) ≡ map (λ fill. Vector (fill_work fill)) (tile_fills arrays pass tile count t)
  fills_list zero t f has = refl
  fills_list (suc number) t f has =
      let vector : Fill → Issue = λ fill. Vector (fill_work fill) in
      ap (λ xs. xs ++ list_by value (leaf_fills_program arrays pass tile number) 10 f) (fills_list number t f has)
      ∙ ap (λ ys. map vector (tile_fills arrays pass tile number t) ++ ys) (leaf_fills_list number t f has)
      ∙ sym (map-append vector (tile_fills arrays pass tile number t) (leaf_segments arrays pass tile number t).fills)

  -- ---- the write

  -- a reduction's piece of results is a column
  result_piece_is : (kind : PassKind) (t : ℕ) (f : ℕ → ℕ) → pass.kind ≡ kind → HasTile pass tile t 3 f → piece_value (result_piece_at arrays pass tile kind) f ≡ result_piece pass tile t
  result_piece_is Map t f is has = has.piece_is ∙ sym (ap (λ kind. results_by pass tile kind t) is)
  result_piece_is (Reduce fold) t f is has =
      ap (λ (piece : Piece). record { r0 = piece.r0; c0 = 0; h = piece.h; w = 1 }) has.piece_is ∙ sym (ap (λ kind. results_by pass tile kind t) is)

  abbrev result_target : Target
  result_target = record { buffer = Variable 10; tag = Offset (Variable 9) 2 }

  result_below : (kind : PassKind) → ReadsBelow (result_piece_at arrays pass tile kind) result_target 11
  result_below Map = record { r0 = refl; c0 = refl; h = refl; w = refl; buffer = refl; tag = refl }
  result_below (Reduce fold) = record { r0 = refl; c0 = refl; h = refl; w = refl; buffer = refl; tag = refl }

  result_some : (kind : PassKind) (t : ℕ) → HasElements (piece_of pass.domain tile t) → HasElements (results_by pass tile kind t)
  result_some Map t some = record { some_rows = some.some_rows; some_cols = some.some_cols }
  result_some (Reduce fold) t some = record { some_rows = some.some_rows; some_cols = omega arith }

  write_list_of : (t : ℕ) (f : ℕ → ℕ) → HasElements (piece_of pass.domain tile t) → HasTile pass tile t 3 f → f 1 ≡ suc t → f 9 ≡ output_half pass tile t → f 10 ≡ result_cell pass tile t
      → list_by value (tile_write_program arrays pass tile) 11 f ≡ tile_writes arrays pass tile t
  write_list_of t f some has next half cell =
      let to = destination arrays pass tile in
      let issues : ℕ → Piece → ℕ → List Issue = λ tag piece cell. map (λ work. Write (with_tag tag work)) (write_list to piece cell) in
      let here : Piece = piece_value (result_piece_at arrays pass tile pass.kind) f in
      let is = result_piece_is pass.kind t f refl has in
      let tag : f 9 + 2 ≡ write_tag (output_half pass tile t) = omega (arith, half) in
      let written = laws.write to (result_piece_at arrays pass tile pass.kind) result_target 11 f (subst HasElements (sym is) (result_some pass.kind t some)) (result_below pass.kind)
      ∙ ap (λ tag. issues tag here (f 10)) tag ∙ ap (λ piece. issues (write_tag (output_half pass tile t)) piece (f 10)) is
      ∙ ap (λ cell. issues (write_tag (output_half pass tile t)) (result_piece pass tile t) cell) cell in
      if_last_list pass tile t 11 f 1 (write_program to (result_piece_at arrays pass tile pass.kind) result_target 11) next ∙ ap (λ xs. cond (ends_row pass tile t) xs []) written

  -- ---- the rest of a tile

  half_value : (t : ℕ) (f : ℕ → ℕ) → f 2 ≡ t → f 7 ≡ t % 2 → value (output_half_expr (layout_of pass tile) 2 7) f ≡ output_half pass tile t
  half_value t f number half = go (eqb (tiles_per_row pass tile) 1) refl
    where
      n : ℕ
      n = tiles_per_row pass tile

      go : (b : Bool) → eqb n 1 ≡ b → value (cond b (Variable 7) (Remainder (Quotient (Variable 2) (Number n)) (Number 2))) f ≡ t / n % 2
      go true one = half ∙ sym (ap (λ m. t / m % 2) (eqb-true n 1 one) ∙ ap (λ m. m % 2) (div-one t))
      go false several = ap (λ m. m / n % 2) number

  names_of : (t : ℕ) (f : ℕ → ℕ) → HasTile pass tile t 3 f → f 10 ≡ result_cell pass tile t → HasNames pass tile t f
  names_of t f has cell = record {
    column = ap (λ (piece : Piece). piece.c0) has.piece_is;
    rows = ap (λ (piece : Piece). piece.h) has.piece_is;
    columns = ap (λ (piece : Piece). piece.w) has.piece_is;
    half = has.cells;
    output = cell;
  }

  -- the instructions behind a tile's fills, and its write
  abbrev computed : (t : ℕ) → List Issue
  computed t = issued (works_with (root_works pass.kind (tile_shape pass tile t) (tile_buffers pass tile t) (begins_row pass tile t)) (flat (tile_shape pass tile t)) (tile_buffers pass tile t) (order_of pass.tree).steps)

  results_list : (t : ℕ) (f : ℕ → ℕ) → HasElements (piece_of pass.domain tile t) → HasTile pass tile t 3 f → f 1 ≡ suc t → f 9 ≡ output_half pass tile t → f 10 ≡ result_cell pass tile t
      → list_by value (results_program arrays pass tile) 11 f ≡ computed t ++ (VWait ∷ tile_writes arrays pass tile t)
  results_list t f some has next half cell =
      ap (λ xs. xs ++ (VWait ∷ list_by value (tile_write_program arrays pass tile) 11 f)) (works_list pass tile t f tiled.some_columns tiled.small (names_of t f has cell) pass.kind (order_of pass.tree).steps)
      ∙ ap (λ ys. computed t ++ (VWait ∷ ys)) (write_list_of t f some has next half cell)

  -- a tile waits, and then come its fills and the rest
  abbrev pub rest_of : (t : ℕ) → List Issue
  rest_of t =
      TWait (leaf_half t) ∷ TWait (write_tag (row_half (blocks_of arrays pass tile) t))
      ∷ ((blocks_of arrays pass tile).compute t ++ (VWait ∷ (blocks_of arrays pass tile).writes t))

  waiting_list : (t : ℕ) (f : ℕ → ℕ) → HasElements (piece_of pass.domain tile t) → HasTile pass tile t 3 f → f 1 ≡ suc t → f 9 ≡ output_half pass tile t
      → list_by value (waiting_program arrays pass tile) 10 f ≡ rest_of t
  waiting_list t f some has next half =
      let room = buffer_bytes pass tile in
      let count = length pass.leaves in
      let g = with_number 10 (value (output_expr (layout_of pass tile) 9) f) f in
      let fills = tile_fills arrays pass tile count t in
      let vector : Fill → Issue = λ fill. Vector (fill_work fill) in
      let tag : f 9 + 2 ≡ write_tag (output_half pass tile t) = omega (arith, half) in
      let product : f 9 * room ≡ output_half pass tile t * room = ap (λ n. n * room) half in
      let cell : value (output_expr (layout_of pass tile) 9) f ≡ result_cell pass tile t = omega (arith, product) in
      let there : HasTile pass tile t 3 g = record { piece_is = has.piece_is; half = has.half; cells = has.cells } in
      let begin : List Issue → List Issue = λ xs. TWait (leaf_half t) ∷ TWait (write_tag (output_half pass tile t)) ∷ xs in
      ap (λ n. TWait n ∷ TWait (f 9 + 2) ∷ (list_by value (each_of count (leaf_fills_program arrays pass tile)) 10 f ++ list_by value (results_program arrays pass tile) 11 g)) has.half
      ∙ ap (λ n. TWait (leaf_half t) ∷ TWait n ∷ (list_by value (each_of count (leaf_fills_program arrays pass tile)) 10 f ++ list_by value (results_program arrays pass tile) 11 g)) tag
      ∙ ap (λ xs. begin (xs ++ list_by value (results_program arrays pass tile) 11 g)) (each_lists value (leaf_fills_program arrays pass tile) count 10 f ∙ fills_list count t f has)
      ∙ ap (λ ys. begin (map vector fills ++ ys)) (results_list t g some there next half cell)
      ∙ ap begin (sym (append_assoc (map vector fills) (computed t) (VWait ∷ tile_writes arrays pass tile t)))
      ∙ ap (λ xs. begin (xs ++ (VWait ∷ tile_writes arrays pass tile t))) (together fills)
    where
      steps : List VecWork
      steps = works_with (root_works pass.kind (tile_shape pass tile t) (tile_buffers pass tile t) (begins_row pass tile t)) (flat (tile_shape pass tile t)) (tile_buffers pass tile t) (order_of pass.tree).steps

      together : (fills : List Fill) → map (λ fill. Vector (fill_work fill)) fills ++ issued steps ≡ issued (map fill_work fills ++ steps)
      together [] = refl
      together (fill ∷ fills) = ap (λ xs. Vector (fill_work fill) ∷ xs) (together fills)

  pub rest_list : (t : ℕ) (f : ℕ → ℕ) → HasElements (piece_of pass.domain tile t) → f 1 ≡ suc t → list_by value (rest_program arrays pass tile) 2 f ≡ rest_of t
  rest_list t f some next =
      let layout = layout_of pass tile in
      let f2 = with_number 2 (f 1 - 1) f in
      let g = tile_names layout 2 3 f2 in
      let number : f 1 - 1 ≡ t = omega (arith, next) in
      let wide = is_wide pass tile tiled.some_columns in
      let has : HasTile pass tile t 3 g = subst (λ n. HasTile pass tile n 3 g) number (has_tile pass tile wide f2) in
      let half = half_value t g number has.half in
      waiting_list t (with_number 9 (value (output_half_expr layout 2 7) g) g) some (record { piece_is = has.piece_is; half = has.half; cells = has.cells }) next half
