use Rattle.ven_io.proofs.Settled.{one_number_holds, tokens_number}
use Rattle.ven_io.proofs.laws.one_number.Goals as goal

pub returns : goal.returns
returns c = record { one = one_number_holds; tokens = tokens_number }
