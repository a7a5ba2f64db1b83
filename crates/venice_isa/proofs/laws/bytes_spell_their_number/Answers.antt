use Rattle.venice_isa.proofs.Spellings.{bytes_spell}
use Rattle.venice_isa.proofs.laws.bytes_spell_their_number.Goals as goal

pub returns : goal.returns
returns c = bytes_spell
