use Rattle.venice_isa.proofs.Copies.{read_copies}
use Rattle.venice_isa.proofs.laws.read_copies_its_rows.Goals as goal

pub returns : goal.returns
returns c = read_copies
