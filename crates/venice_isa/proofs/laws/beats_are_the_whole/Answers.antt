use Rattle.venice_isa.proofs.Beats.{beats_do_it}
use Rattle.venice_isa.proofs.laws.beats_are_the_whole.Goals as goal

pub returns : goal.returns
returns c = beats_do_it
