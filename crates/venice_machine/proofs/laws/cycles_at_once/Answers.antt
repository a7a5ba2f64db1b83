use Rattle.venice_machine.proofs.Together.{many_shown}
use Rattle.venice_machine.proofs.laws.cycles_at_once.Goals as goal

pub returns : goal.returns
returns c = many_shown
