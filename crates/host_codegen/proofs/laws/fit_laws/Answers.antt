use Rattle.host_codegen.proofs.FitPasses.{programs_fit}
use Rattle.host_codegen.proofs.laws.fit_laws.Goals as goal

pub returns : goal.returns
returns c = programs_fit
