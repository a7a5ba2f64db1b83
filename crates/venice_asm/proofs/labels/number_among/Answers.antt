use Rattle.std.proofs.Common.{◌∙◌, sym, ap}
use Rattle.std.specs.Option.{option_copied}
use Rattle.venice_asm.proofs.Found.{lookup_is}
use Rattle.venice_asm.proofs.labels.number_among.Goals as goal

pub returns-in-Some : goal.returns-in-Some
returns-in-Some c = sym (ap option_copied c.in-Some.is) ∙ c.get.ensures.value ∙ lookup_is c.args.labels.now.entries c.args.name.now

pub returns-in-None : goal.returns-in-None
returns-in-None c = sym (ap option_copied c.in-None.is) ∙ c.get.ensures.value ∙ lookup_is c.args.labels.now.entries c.args.name.now
