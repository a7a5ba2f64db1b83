use Rattle.transfer_programs.proofs.Closed.{reads_are_closed, writes_are_closed}
use Rattle.transfer_programs.proofs.Few.{reads_take_few, writes_take_few}
use Rattle.transfer_programs.proofs.FillLists.{fills_are_issued}
use Rattle.transfer_programs.proofs.FillRooms.{fills_are_closed, fills_take_few}
use Rattle.transfer_programs.proofs.ReadLists.{leaves_issue_their_reads}
use Rattle.transfer_programs.proofs.WriteLists.{pieces_issue_their_write}
use Rattle.host_codegen.proofs.Closedness.{programs_are_closed}
use Rattle.host_codegen.proofs.FewRegisters.{programs_take_few}
use Rattle.host_codegen.proofs.PassLists.{programs_issue_their_lists}
use Rattle.host_codegen.proofs.laws.program_laws.Goals as goal

pub returns : goal.returns
returns c = record {
  lists = programs_issue_their_lists (record { reads = leaves_issue_their_reads; write = pieces_issue_their_write; fills = fills_are_issued });
  closed = programs_are_closed (record { reads = reads_are_closed; write = writes_are_closed; fills = fills_are_closed });
  few = programs_take_few (record { reads = reads_take_few; write = writes_take_few; fills = fills_take_few });
}
