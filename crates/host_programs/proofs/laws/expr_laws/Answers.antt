use Rattle.host_programs.proofs.Exprs.{exprs_run}
use Rattle.host_programs.proofs.laws.expr_laws.Goals as goal

pub returns : goal.returns
returns c = exprs_run
