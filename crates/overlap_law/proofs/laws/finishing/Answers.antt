use Rattle.overlap_law.proofs.FirstMemory.{start_has_sizes}
use Rattle.overlap_law.proofs.EveryRun.{finishing, leaves_the_same}
use Rattle.overlap_law.proofs.laws.finishing.Goals as goal

pub returns-clause-moments : goal.returns-clause-moments
returns-clause-moments c = finishing

pub returns-clause-same : goal.returns-clause-same
returns-clause-same c = leaves_the_same

pub returns-clause-sizes : goal.returns-clause-sizes
returns-clause-sizes c = start_has_sizes
