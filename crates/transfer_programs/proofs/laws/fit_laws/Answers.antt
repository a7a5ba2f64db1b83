use Rattle.transfer_programs.proofs.FitReads.{reads_fit, writes_fit}
use Rattle.transfer_programs.proofs.FitFills.{fills_fit}
use Rattle.transfer_programs.proofs.laws.fit_laws.Goals as goal

pub returns : goal.returns
returns c = record { reads = reads_fit; write = writes_fit; fills = fills_fit }
