use Rattle.std.proofs.Common.{◌∙◌, ap, refl}
use Rattle.ven_base.specs.Store.{store_of, store_size}
use Rattle.venice_machine.proofs.Sizes.{size_kept}
use Rattle.venice_machine.proofs.works.beat_one.Goals as goal

pub returns-then-takes_second-clause-same_size : goal.returns-then-takes_second-clause-same_size
returns-then-takes_second-clause-same_size g c =
    let unit = c.args.unit.now in
    let store = store_of c.args.cells.now c.args.memory.now in
    ap store_size c.beat_second.ensures.store
    ∙ size_kept (g.U.Unit.course (g.U.Unit.setting unit)) g.U.Unit.reads g.U.Unit.writes
    (λ job store ready. (g.met.U.Unit.keeps_to_footprint (g.U.Unit.setting unit) job store store c.takes_second.ensures.setting ready ready (λ place reads. refl)).same_size)
    1 (g.U.Unit.jobs unit) store c.takes_second.ensures.in_order.left c.requires.inside
