use Rattle.vector_codegen.proofs.PassLaws.{tiles_leave_results, tiles_keep_to_buffers, tiles_are_few}
use Rattle.dma_schedule.proofs.TileBlocks.{TileLaws}
use Rattle.dma_schedule.proofs.Splits.{lists_are_pipelined, lists_are_disciplined, lists_keep_inside, lists_are_short, lists_leave_arrays}
use Rattle.dma_schedule.proofs.laws.list_laws.Goals as goal

laws : TileLaws
laws = record { leave = tiles_leave_results; keep = tiles_keep_to_buffers; few = tiles_are_few }

pub returns : goal.returns
returns c = record {
  pipelined = lists_are_pipelined laws;
  disciplined = lists_are_disciplined laws;
  inside = lists_keep_inside laws;
  short = lists_are_short laws;
  arrays = lists_leave_arrays laws;
}
