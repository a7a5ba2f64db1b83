use Rattle.overlap_law.proofs.EveryRun.{some_unit_steps, runs_end}
use Rattle.overlap_law.proofs.laws.some_unit_steps.Goals as goal

pub returns-clause-steps : goal.returns-clause-steps
returns-clause-steps c = some_unit_steps

pub returns-clause-ends : goal.returns-clause-ends
returns-clause-ends c = runs_end
