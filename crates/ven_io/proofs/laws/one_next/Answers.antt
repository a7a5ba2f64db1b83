use Rattle.ven_io.proofs.Settled.{one_next_holds}
use Rattle.ven_io.proofs.laws.one_next.Goals as goal

pub returns : goal.returns
returns c = one_next_holds
