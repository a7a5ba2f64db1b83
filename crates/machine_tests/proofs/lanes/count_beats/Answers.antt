use Rattle.std.proofs.Common.{◌≡◌, ap, sym, ◌∙◌, subst, refl}
use Rattle.std.specs.Prelude.{All}
use Rattle.ven_base.specs.Store.{store_of, store_size, IsInRange}
use Rattle.ven_base.specs.Job.{jobs_beaten}
use Rattle.ven_base.proofs.Jobs.{works_beaten, size_beaten}
use Rattle.machine_tests.proofs.lanes.count_beats.Goals as goal

pub loop-turn-preserved : goal.loop-turn-preserved
loop-turn-preserved g c =
    let of = g.U.Unit in
    let now = c.loop-turn.unit in
    let jobs = of.jobs now in
    let course = of.course (of.setting now) in
    let store = store_of c.loop-turn.cells c.loop-turn.memory in
    let size : store_size (store_of c.beat.new.cells c.beat.new.memory) ≡ store_size store =
    ap store_size c.beat.ensures.store
    ∙ size_beaten course of.reads of.writes 0 jobs store c.unfinished.ensures.in_order.left c.loop-turn.invariant
    (λ job ready. (g.met.U.Unit.keeps_to_footprint (of.setting now) job store store c.unfinished.ensures.setting ready ready (λ place read. refl)).same_size) in
    subst (All (λ job. IsInRange (of.reads job.work) (of.writes job.work) (store_size (store_of c.beat.new.cells c.beat.new.memory)))) (sym c.beat.ensures.jobs)
    (subst (λ size. All (λ job. IsInRange (of.reads job.work) (of.writes job.work) size) (jobs_beaten course 0 jobs store)) (sym size)
    (works_beaten course (λ work. IsInRange (of.reads work) (of.writes work) (store_size store)) 0 jobs store c.loop-turn.invariant))
