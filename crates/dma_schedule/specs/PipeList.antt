-- The pipelined list of a split: its blocks are the lists of transfers and instructions of each tile.
use Rattle.std.specs.Prelude.{ℕ, zero, suc, List, [], ◌++◌, map, length, get_or, if◌then◌else◌}
use Rattle.std.specs.List.{flat_map}
use Rattle.venice_isa.specs.declared.work.VecWork.{VecWork}
use Rattle.venice_isa.specs.declared.issue.Issue.{Issue}
use Rattle.venice_isa.specs.declared.issue.Issue.TheVariants.{Vector, Read, Write}
use Rattle.pass_plan.specs.declared.parts.Tile.{Tile}
use Rattle.pass_plan.specs.declared.split.ArrayPlace.{ArrayPlace}
use Rattle.pass_plan.specs.Pass.{Pass}
use Rattle.pass_plan.specs.Tile.{tile_of, tiles_of, piece_of}
use Rattle.pass_plan.specs.Buffers.{tiles_per_row, output_half, ends_row}
use Rattle.pass_plan.specs.Sound.{Split, no_place}
use Rattle.buffer_lifetimes.specs.OrderOf.{order_of}
use Rattle.dma_segments.specs.declared.segments.Fill.{Fill}
use Rattle.dma_segments.specs.ReadList.{ReadList, read_list}
use Rattle.dma_segments.specs.WriteList.{write_list}
use Rattle.dma_segments.specs.Laws.{with_tag, leaf_of, leaf_cell, result_array, result_piece, result_cell}
use Rattle.vector_codegen.specs.TileList.{tile_list}
use Rattle.dma_schedule.specs.Blocks.{Blocks, leaf_half, write_tag, pass_list}

module _ (arrays : List ArrayPlace) (pass : Pass) (tile : Tile) where
  -- the commands and fills of a leaf's piece of a tile
  abbrev pub leaf_segments : (number t : ℕ) → ReadList
  leaf_segments number t =
      read_list (leaf_of pass number) (get_or arrays (leaf_of pass number).array no_place) (piece_of pass.domain tile t)
      (leaf_cell pass tile number t)

  abbrev pub leaf_reads : (number t : ℕ) → List Issue
  leaf_reads number t = map (λ work. Read (with_tag (leaf_half t) work)) (leaf_segments number t).commands

  -- those of the first so many leaves, leaf after leaf
  abbrev pub tile_reads : (count t : ℕ) → List Issue
  tile_reads zero t = []
  tile_reads (suc number) t = tile_reads number t ++ leaf_reads number t

  abbrev pub tile_fills : (count t : ℕ) → List Fill
  tile_fills zero t = []
  tile_fills (suc number) t = tile_fills number t ++ (leaf_segments number t).fills

  -- the instructions of a tile, with all leaves' fills
  abbrev pub tile_works : (t : ℕ) → List VecWork
  tile_works t = tile_list pass tile t (tile_fills (length pass.leaves) t) (order_of pass.tree).steps

  -- what the pass makes, at its place
  abbrev pub destination : ArrayPlace
  destination = result_array pass (get_or arrays pass.dest no_place).place

  -- the write of a tile that ends its row
  abbrev pub tile_writes : (t : ℕ) → List Issue
  tile_writes t =
      if ends_row pass tile t
      then map (λ work. Write (with_tag (write_tag (output_half pass tile t)) work))
      (write_list destination (result_piece pass tile t) (result_cell pass tile t))
      else []

  abbrev pub blocks_of : Blocks
  blocks_of = record {
    tiles = tiles_of pass.domain tile;
    tiles_per_row = tiles_per_row pass tile;
    reads = tile_reads (length pass.leaves);
    compute = λ t. map (λ work. Vector work) (tile_works t);
    writes = tile_writes;
  }

-- pass after pass
abbrev pub pipe_list : Split → (spad : ℕ) → List Issue
pipe_list split spad = flat_map (λ pass. pass_list (blocks_of split.arrays pass (tile_of pass spad))) split.passes
