use Rattle.venice_isa.proofs.Footprints.{beats_keep}
use Rattle.venice_isa.proofs.laws.next_beat_keeps_to_footprint.Goals as goal

pub returns : goal.returns
returns c = beats_keep
