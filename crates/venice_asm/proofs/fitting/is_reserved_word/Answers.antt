use Rattle.venice_asm.proofs.Names.{reserved_is}
use Rattle.venice_asm.proofs.fitting.is_reserved_word.Goals as goal

pub returns : goal.returns
returns c = reserved_is c.is_reserved.result c.args.bytes.now c.is_reserved.ensures
