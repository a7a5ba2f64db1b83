use Rattle.venice_asm.proofs.Written.{canonical_denotes}
use Rattle.venice_asm.proofs.laws.canonical_texts.Goals as goal

pub returns : goal.returns
returns c = canonical_denotes
