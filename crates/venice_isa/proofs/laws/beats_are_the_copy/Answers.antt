use Rattle.venice_isa.proofs.Transfers.{read_beats, write_beats}
use Rattle.venice_isa.proofs.laws.beats_are_the_copy.Goals as goal

pub returns : goal.returns
returns c = λ work lanes store. (read_beats work lanes store, write_beats work lanes store)
