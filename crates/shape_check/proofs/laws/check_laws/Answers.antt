use Rattle.shape_check.proofs.OneFault.{has_one_typing, has_one_first_fault}
use Rattle.shape_check.proofs.Programs.{no_fault}
use Rattle.shape_check.proofs.laws.check_laws.Goals as goal

pub returns : goal.returns
returns c = record { no_fault = no_fault; one_typing = has_one_typing; one_first_fault = has_one_first_fault }
