use Rattle.venice_isa.proofs.Wholes.{whole_determined}
use Rattle.venice_isa.proofs.laws.whole_is_determined.Goals as goal

pub returns : goal.returns
returns c = whole_determined
