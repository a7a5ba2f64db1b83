use Rattle.vector_codegen.proofs.PassLaws.{tiles_leave_results, tiles_keep_to_buffers, tiles_are_few}
use Rattle.dma_schedule.proofs.Splits.{lists_are_short}
use Rattle.host_codegen.proofs.CostRooms.{code_fits_its_room, room_is_bounded}
use Rattle.host_codegen.proofs.CostSplits.{steps_are_bounded}
use Rattle.host_codegen.proofs.laws.cost_laws.Goals as goal

pub returns : goal.returns
returns c = record {
  room = code_fits_its_room;
  bounded = room_is_bounded;
  steps = steps_are_bounded (lists_are_short (record { leave = tiles_leave_results; keep = tiles_keep_to_buffers; few = tiles_are_few }));
}
