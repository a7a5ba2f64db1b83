use Rattle.std.proofs.Common.{◌∙◌, ap, sym, subst, ℕ, List}
use Rattle.ven_base.specs.Store.{store_of, store_size}
use Rattle.ven_base.specs.Job.{Job}
use Rattle.ven_base.specs.Beats.{jobs_after_beats, store_after_beats}
use Rattle.venice_isa.specs.declared.issue.Issue.TheVariants.{Vector, Read, Write}
use Rattle.venice_isa.specs.declared.work.VecWork.{VecWork}
use Rattle.venice_isa.specs.declared.work.DmaWork.{DmaWork}
use Rattle.venice_isa.specs.Beat.{Progress}
use Rattle.venice_machine.specs.Kept.{AllLieIn, unit_course}
use Rattle.venice_machine.specs.AtOnce.{all_on}
use Rattle.venice_machine.specs.Working.{UnitsInside}
use Rattle.venice_machine.proofs.Beaten.{lie_after}
use Rattle.venice_machine.proofs.works.Works.beat_all.Goals as goal

pub returns-clause-works : goal.returns-clause-works
returns-clause-works c =
    let inside = c.self.inside in
    let n = inside.lanes.lanes in
    let count = c.args.count in
    let store = store_of c.args.cells.now c.args.memory.now in
    let lanes = unit_course Vector n in
    let reads = unit_course Read n in
    let writes = unit_course Write n in
    let s1 = store_after_beats lanes count inside.lanes.jobs store in
    let s2 = store_after_beats reads count inside.reads s1 in
    let made : List (Job VecWork Progress) → List (Job DmaWork Progress) → List (Job DmaWork Progress) → ℕ → UnitsInside = λ l r w n. record {
      queues = record {
        lanes = record { jobs = l; numbers = inside.lane_numbers.items };
        reads = record { jobs = r; numbers = inside.read_numbers.items };
        writes = record { jobs = w; numbers = inside.write_numbers.items };
      };
      lane_count = n;
    } in
    let store1 = c.beat_many.ensures.store in
    let store2 = c.beat_many-2.ensures.store ∙ ap (store_after_beats reads count inside.reads) store1 in
    ap (made c.beat_many.new.unit.jobs c.beat_many-2.new.unit c.beat_many-3.new.unit) c.beat_many.ensures.same_setting
    ∙ ap (λ l. made l c.beat_many-2.new.unit c.beat_many-3.new.unit n) c.beat_many.ensures.jobs
    ∙ ap (λ r. made (jobs_after_beats lanes count inside.lanes.jobs store) r c.beat_many-3.new.unit n) (c.beat_many-2.ensures.jobs ∙ ap (jobs_after_beats reads count inside.reads) store1)
    ∙ ap (λ w. made (jobs_after_beats lanes count inside.lanes.jobs store) (jobs_after_beats reads count inside.reads s1) w n) (c.beat_many-3.ensures.jobs ∙ ap (jobs_after_beats writes count inside.writes) store2)
    ∙ ap (λ (units : UnitsInside). record units { queues = (all_on units.lane_count count (record { queues = units.queues; store = store })).queues }) c.self.view_is

pub returns-clause-inside : goal.returns-clause-inside
returns-clause-inside c =
    let inside = c.self.inside in
    let n = inside.lanes.lanes in
    let size = store_size (store_of c.args.cells.now c.args.memory.now) in
    let lie = subst (λ (units : UnitsInside). AllLieIn size units.queues) (sym c.self.view_is) c.requires.inside in
    let same = c.beat_many-3.ensures.same_size ∙ c.beat_many-2.ensures.same_size ∙ c.beat_many.ensures.same_size in
    record {
      of_lanes = lie_after (λ x. Vector x) (unit_course Vector n) c.args.count inside.lane_numbers.items inside.lanes.jobs c.beat_many.new.unit.jobs _ size _ c.beat_many.ensures.jobs same lie.of_lanes;
      of_reads = lie_after (λ x. Read x) (unit_course Read n) c.args.count inside.read_numbers.items inside.reads c.beat_many-2.new.unit _ size _ c.beat_many-2.ensures.jobs same lie.of_reads;
      of_writes = lie_after (λ x. Write x) (unit_course Write n) c.args.count inside.write_numbers.items inside.writes c.beat_many-3.new.unit _ size _ c.beat_many-3.ensures.jobs same lie.of_writes;
    }
