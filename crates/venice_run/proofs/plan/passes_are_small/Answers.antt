use Rattle.shape_check.specs.Checked.{program_of}
use Rattle.venice_run.proofs.plan.passes_are_small.Goals as goal

pub returns : goal.returns
returns c = λ split is. c.size_laws.ensures.small (program_of c.args.stmts.now) split c.requires.program is
