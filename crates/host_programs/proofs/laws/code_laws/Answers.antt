use Rattle.host_programs.proofs.Codes.{programs_are_code}
use Rattle.host_programs.proofs.laws.code_laws.Goals as goal

pub returns : goal.returns
returns c = programs_are_code
