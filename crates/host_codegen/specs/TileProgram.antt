-- The programs of a tile: its reads, its instructions and its write. Register 0 has how many turns of the pass are
-- left, and register 1 the turn's number.
use Rattle.std.specs.Prelude.{ℕ, List, get_or, length}
use Rattle.pass_plan.specs.declared.parts.Tile.{Tile}
use Rattle.pass_plan.specs.declared.pass.PassKind.{PassKind}
use Rattle.pass_plan.specs.declared.pass.PassKind.TheVariants.{Map, Reduce}
use Rattle.pass_plan.specs.declared.split.ArrayPlace.{ArrayPlace}
use Rattle.pass_plan.specs.Pass.{Pass}
use Rattle.pass_plan.specs.Sound.{no_place}
use Rattle.buffer_lifetimes.specs.OrderOf.{order_of}
use Rattle.dma_segments.specs.Laws.{leaf_of}
use Rattle.dma_schedule.specs.PipeList.{destination}
use Rattle.host_programs.specs.Expr.{Number, Variable, Offset, Difference}
use Rattle.host_programs.specs.Program.{AwaitLanes, AwaitTag, Program, Emit, Both, Let}
use Rattle.transfer_programs.specs.ReadProgram.{PieceExpr, leaf_program, write_program}
use Rattle.transfer_programs.specs.FillProgram.{fill_program}
use Rattle.host_codegen.specs.Sequence.{each_of}
use Rattle.host_codegen.specs.Geometry.{Layout, layout_of, with_tile, piece_at, leaf_expr, if_last, output_half_expr, output_expr}
use Rattle.host_codegen.specs.RootProgram.{works_program}

module _ (arrays : List ArrayPlace) (pass : Pass) (tile : Tile) where
  abbrev pub layout : Layout
  layout = layout_of pass tile

  -- ---- the reads of the tile with the turn's number: registers 2 to 5 have its piece, 6 its half, 7 the half's place,
  -- and 8 that of a leaf's buffer

  abbrev pub leaf_reads_program : (number : ℕ) → Program
  leaf_reads_program number =
      Let (leaf_expr layout 7 number)
      (leaf_program (leaf_of pass number) (get_or arrays (leaf_of pass number).array no_place) (piece_at 2)
      (record { buffer = Variable 8; tag = Variable 6 }) 9)

  -- leaf after leaf
  abbrev pub reads_program : Program
  reads_program = with_tile layout 1 2 (each_of (length pass.leaves) leaf_reads_program)

  -- ---- the rest of the tile before: register 2 has its number, registers 3 to 6 its piece, 7 its half, 8 the half's
  -- place, 9 its output half, and 10 that one's place

  abbrev pub leaf_fills_program : (number : ℕ) → Program
  leaf_fills_program number = fill_program (leaf_of pass number) (piece_at 3) (leaf_expr layout 8 number) 10

  -- in a reduction the piece of the results is a column
  abbrev pub result_piece_at : PassKind → PieceExpr
  result_piece_at Map = piece_at 3
  result_piece_at (Reduce fold) = record { r0 = Variable 3; c0 = Number 0; h = Variable 5; w = Number 1 }

  -- the write of a tile that ends its row
  abbrev pub tile_write_program : Program
  tile_write_program = if_last layout 1
      (write_program (destination arrays pass tile) (result_piece_at pass.kind)
      (record { buffer = Variable 10; tag = Offset (Variable 9) 2 }) 11)

  -- what is issued when its output half has its place
  abbrev pub results_program : Program
  results_program =
      Both (works_program pass.kind layout (order_of pass.tree).steps) (Both (Emit AwaitLanes) tile_write_program)

  -- the fills, and what is issued when the output half has its place
  abbrev pub computed_program : Program
  computed_program =
      Both (each_of (length pass.leaves) leaf_fills_program) (Let (output_expr layout 9) results_program)

  -- a tile waits for its own reads, and for the writes from its output half
  abbrev pub waiting_program : Program
  waiting_program =
      Both (Emit (AwaitTag (Variable 7))) (Both (Emit (AwaitTag (Offset (Variable 9) 2))) computed_program)

  abbrev pub rest_program : Program
  rest_program =
      Let (Difference (Variable 1) (Number 1))
      (with_tile layout 2 3 (Let (output_half_expr layout 2 7) waiting_program))
