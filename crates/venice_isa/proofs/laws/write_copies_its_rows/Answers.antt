use Rattle.venice_isa.proofs.Copies.{write_copies}
use Rattle.venice_isa.proofs.laws.write_copies_its_rows.Goals as goal

pub returns : goal.returns
returns c = write_copies
