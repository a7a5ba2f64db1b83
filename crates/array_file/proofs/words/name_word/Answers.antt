use Rattle.std.proofs.Common.{◌∙◌, ap, refl}
use Rattle.array_file.specs.Words.{name_word}
use Rattle.array_file.proofs.Vocabulary.{name_is, no_name_is}
use Rattle.array_file.proofs.words.name_word.Goals as goal

pub returns-in-Some-from_bytes : goal.returns-in-Some-from_bytes
returns-in-Some-from_bytes c =
    name_is c.args.bytes.now c.in-Some-from_bytes.name c.requires (c.in-Some-from_bytes.ensures.found.0 refl) c.in-Some-from_bytes.ensures.value
    ∙ ap (λ o. name_word o c.args.bytes.now) c.in-None.ensures

pub returns-in-None-from_bytes : goal.returns-in-None-from_bytes
returns-in-None-from_bytes c =
    no_name_is c.args.bytes.now c.requires (λ h. let e = c.in-None-from_bytes.ensures.found.1 h in absurd (cc))
    ∙ ap (λ o. name_word o c.args.bytes.now) c.in-None.ensures
