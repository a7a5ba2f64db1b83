use Rattle.std.proofs.Common.{ap, ◌∙◌}
use Rattle.std.specs.FinMap as fin
use Rattle.ven_io.specs.MemFiles.{contents_of}
use Rattle.ven_io.proofs.MemLemmas.{contents_of-insert}
use Rattle.ven_io.proofs.mem_files.MemFiles.add.Goals as goal

pub returns-clause-ok : goal.returns-clause-ok
returns-clause-ok c =
    let set = contents_of-insert c.self.inside.files c.insert.new.self c.in_ok-name.name c.args.bytes c.in_ok-insert.ensures.updates
    ∙ ap (λ name. fin.insert (contents_of c.self.inside.files) name c.args.bytes.items) c.in_ok-name.ensures.ok in
    rw (← c.self.view_is) (ap (λ h. record { holds = h; numbers = record { fails = c.self.inside.fails.items; last = c.self.inside.calls }; failed_loads = c.self.inside.failed_loads; failed_saves = c.self.inside.failed_saves }) set)
