use Rattle.venice_isa.proofs.Wholes.{whole_reads}
use Rattle.venice_isa.proofs.laws.whole_reads_its_footprint.Goals as goal

pub returns : goal.returns
returns c = whole_reads
