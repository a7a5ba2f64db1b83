use Rattle.host_programs.proofs.Programs.{programs_compile}
use Rattle.host_programs.proofs.laws.program_laws.Goals as goal

pub returns : goal.returns
returns c = programs_compile
