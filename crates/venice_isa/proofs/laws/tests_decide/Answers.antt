use Rattle.venice_isa.proofs.TestsRight.{decided}
use Rattle.venice_isa.proofs.laws.tests_decide.Goals as goal

pub returns : goal.returns
returns c = decided
