use Rattle.venice_isa.proofs.Spellings.{one_spelling}
use Rattle.venice_isa.proofs.laws.numbers_have_one_spelling.Goals as goal

pub returns : goal.returns
returns c = one_spelling
