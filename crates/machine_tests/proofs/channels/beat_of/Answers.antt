use Rattle.std.proofs.Common.{refl}
use Rattle.ven_base.specs.Store.{store_of}
use Rattle.dma_engine.proofs.Beaten.{same_size, still_inside}
use Rattle.machine_tests.proofs.channels.beat_of.Goals as goal

pub returns-then-second-clause-inside : goal.returns-then-second-clause-inside
returns-then-second-clause-inside g c =
    let of = g.U.Unit in
    let now = c.args.unit.now in
    let queue = c.unfinished-count.ensures in
    let store = store_of c.args.cells.now c.args.memory.now in
    still_inside (of.course (of.setting now)) of.reads of.writes 1 (of.jobs now) (of.jobs c.beat_second.new.self) store (store_of c.beat_second.new.cells c.beat_second.new.memory) queue.in_order.left c.requires.inside
    (λ job ready. (g.met.U.Unit.keeps_to_footprint (of.setting now) job store store queue.setting ready ready (λ place read. refl)).same_size) c.beat_second.ensures.jobs c.beat_second.ensures.store

pub returns-then-second-clause-size : goal.returns-then-second-clause-size
returns-then-second-clause-size g c =
    let of = g.U.Unit in
    let now = c.args.unit.now in
    let queue = c.unfinished-count.ensures in
    let store = store_of c.args.cells.now c.args.memory.now in
    same_size (of.course (of.setting now)) of.reads of.writes 1 (of.jobs now) (of.jobs c.beat_second.new.self) store (store_of c.beat_second.new.cells c.beat_second.new.memory) queue.in_order.left c.requires.inside
    (λ job ready. (g.met.U.Unit.keeps_to_footprint (of.setting now) job store store queue.setting ready ready (λ place read. refl)).same_size) c.beat_second.ensures.jobs c.beat_second.ensures.store

pub returns-else-second-clause-inside : goal.returns-else-second-clause-inside
returns-else-second-clause-inside g c =
    let of = g.U.Unit in
    let now = c.args.unit.now in
    let queue = c.unfinished-count.ensures in
    let store = store_of c.args.cells.now c.args.memory.now in
    still_inside (of.course (of.setting now)) of.reads of.writes 0 (of.jobs now) (of.jobs c.beat.new.self) store (store_of c.beat.new.cells c.beat.new.memory) queue.in_order.left c.requires.inside
    (λ job ready. (g.met.U.Unit.keeps_to_footprint (of.setting now) job store store queue.setting ready ready (λ place read. refl)).same_size) c.beat.ensures.jobs c.beat.ensures.store

pub returns-else-second-clause-size : goal.returns-else-second-clause-size
returns-else-second-clause-size g c =
    let of = g.U.Unit in
    let now = c.args.unit.now in
    let queue = c.unfinished-count.ensures in
    let store = store_of c.args.cells.now c.args.memory.now in
    same_size (of.course (of.setting now)) of.reads of.writes 0 (of.jobs now) (of.jobs c.beat.new.self) store (store_of c.beat.new.cells c.beat.new.memory) queue.in_order.left c.requires.inside
    (λ job ready. (g.met.U.Unit.keeps_to_footprint (of.setting now) job store store queue.setting ready ready (λ place read. refl)).same_size) c.beat.ensures.jobs c.beat.ensures.store
