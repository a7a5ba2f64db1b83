use Rattle.std.proofs.Common.{◌∙◌}
use Rattle.indexmap.proofs.CallerLemmas.{insert_entry-new}
use Rattle.venice_asm.proofs.Found.{lookup_is}
use Rattle.venice_asm.proofs.labels.add_label.Goals as goal

pub returns-in-Ok : goal.returns-in-Ok
returns-in-Ok c = c.in-Ok.ensures.entries ∙ insert_entry-new _ c.args.labels.now c.args.name c.args.number (lookup_is c.args.labels.now.entries c.args.name ∙ c.requires)
