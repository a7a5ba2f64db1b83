use Rattle.transfer_programs.proofs.CostPrograms.{block_sized, steps_most}
use Rattle.transfer_programs.proofs.CostSizes.{leaves_take_their_room, writes_take_their_room}
use Rattle.transfer_programs.proofs.CostLeaves.{leaves_take_few_steps, writes_take_few_steps}
use Rattle.transfer_programs.proofs.CostFills.{fills_take_their_room, fills_take_few_steps}
use Rattle.transfer_programs.proofs.laws.cost_laws.Goals as goal

pub returns : goal.returns
returns c = record { size = block_sized; steps = steps_most; room_reads = leaves_take_their_room; room_write = writes_take_their_room; room_fills = fills_take_their_room; steps_reads = leaves_take_few_steps; steps_write = writes_take_few_steps; steps_fills = fills_take_few_steps }
