use Rattle.std.proofs.Common.{refl}
use Rattle.ven_base.specs.Store.{store_of}
use Rattle.dma_engine.proofs.Beaten.{still_inside}
use Rattle.list_tests.proofs.tests.beat_of.Goals as goal

pub returns : goal.returns
returns g c =
    let of = g.U.Unit in
    let now = c.args.unit.now in
    let queue = c.unfinished-count.ensures in
    let store = store_of c.args.cells.now c.args.memory.now in
    record {
      inside = still_inside (of.course (of.setting now)) of.reads of.writes 0 (of.jobs now) (of.jobs c.beat.new.self) store (store_of c.beat.new.cells c.beat.new.memory) queue.in_order.left c.requires.inside
          (λ job ready. (g.met.U.Unit.keeps_to_footprint (of.setting now) job store store queue.setting ready ready (λ place read. refl)).same_size) c.beat.ensures.jobs c.beat.ensures.store;
    }
