use Rattle.overlap_law.proofs.EveryRun.{same_steps, ends_at_halt, few_cycles}
use Rattle.overlap_law.proofs.laws.same_steps.Goals as goal

pub returns-clause-same : goal.returns-clause-same
returns-clause-same c = same_steps

pub returns-clause-halt : goal.returns-clause-halt
returns-clause-halt c = ends_at_halt

pub returns-clause-cycles : goal.returns-clause-cycles
returns-clause-cycles c = few_cycles
