use Rattle.array_syntax.proofs.Vocabulary.{name_refused}
use Rattle.array_syntax.proofs.words.name_word.Goals as goal

pub returns-in-None-from_bytes : goal.returns-in-None-from_bytes
returns-in-None-from_bytes c = name_refused c.args.bytes.now c.requires c.in-None.ensures (λ h. let e = c.in-None-from_bytes.ensures.found.1 h in cc)
