use Rattle.std.proofs.Common.{◌∙◌}
use Rattle.spad_store.proofs.Packing.{size_is}
use Rattle.spad_store.proofs.spad.Spad.len.Goals as goal

pub returns-clause-count : goal.returns-clause-count
returns-clause-count c = c.len.ensures ∙ (c.self.inside.bytes.ok.0 ∙ size_is c.self.inside.bytes.items c.self.inside.flags.items c.args.self.now c.self.view_is)
