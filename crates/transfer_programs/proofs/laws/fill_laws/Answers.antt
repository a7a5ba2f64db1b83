use Rattle.transfer_programs.proofs.FillLists.{fills_are_issued}
use Rattle.transfer_programs.proofs.FillRooms.{fills_are_closed, fills_take_few}
use Rattle.transfer_programs.proofs.laws.fill_laws.Goals as goal

pub returns : goal.returns
returns c = record { fills = fills_are_issued; closed = fills_are_closed; few = fills_take_few }
