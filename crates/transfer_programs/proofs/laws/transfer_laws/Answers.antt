use Rattle.transfer_programs.proofs.ReadLists.{leaves_issue_their_reads}
use Rattle.transfer_programs.proofs.WriteLists.{pieces_issue_their_write}
use Rattle.transfer_programs.proofs.Closed.{reads_are_closed, writes_are_closed}
use Rattle.transfer_programs.proofs.Few.{reads_take_few, writes_take_few}
use Rattle.transfer_programs.proofs.laws.transfer_laws.Goals as goal

pub returns : goal.returns
returns c = record { reads = leaves_issue_their_reads; write = pieces_issue_their_write; closed_reads = reads_are_closed; closed_write = writes_are_closed; few_reads = reads_take_few; few_write = writes_take_few }
