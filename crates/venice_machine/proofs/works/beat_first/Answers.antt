use Rattle.std.proofs.Common.{◌∙◌, ap, refl}
use Rattle.ven_base.specs.Store.{store_of, store_size}
use Rattle.venice_machine.proofs.Sizes.{size_kept}
use Rattle.venice_machine.proofs.works.beat_first.Goals as goal

pub returns-clause-same_size : goal.returns-clause-same_size
returns-clause-same_size g c =
    let unit = c.args.unit.now in
    let store = store_of c.args.cells.now c.args.memory.now in
    ap store_size c.beat.ensures.store
    ∙ size_kept (g.U.Unit.course (g.U.Unit.setting unit)) g.U.Unit.reads g.U.Unit.writes
    (λ job store ready. (g.met.U.Unit.keeps_to_footprint (g.U.Unit.setting unit) job store store c.unfinished.ensures.setting ready ready (λ place reads. refl)).same_size)
    0 (g.U.Unit.jobs unit) store c.unfinished.ensures.in_order.left c.requires.inside
