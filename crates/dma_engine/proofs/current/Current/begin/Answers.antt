use Rattle.std.proofs.Common.{ap}
use Rattle.dma_engine.proofs.Currents.{none_done, job_with}
use Rattle.dma_engine.proofs.current.Current.begin.Goals as goal

pub returns-clause-begins : goal.returns-clause-begins
returns-clause-begins c = ap (job_with c.args.work) (none_done c.args.work)
