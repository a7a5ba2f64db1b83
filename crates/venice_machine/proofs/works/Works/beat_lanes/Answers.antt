use Rattle.std.proofs.Common.{sym, subst}
use Rattle.ven_base.specs.Store.{store_of, store_size}
use Rattle.venice_isa.specs.declared.issue.Issue.TheVariants.{Vector}
use Rattle.venice_isa.specs.Beat.{course_of}
use Rattle.venice_machine.specs.Working.{UnitsInside}
use Rattle.venice_machine.specs.Kept.{AllLieIn}
use Rattle.venice_machine.proofs.Numbered.{left_same}
use Rattle.venice_machine.proofs.works.Works.beat_lanes.Goals as goal

pub beat_first-requires-clause-inside : goal.beat_first-requires-clause-inside
beat_first-requires-clause-inside c =
    let inside = subst (λ (units : UnitsInside). AllLieIn (store_size (store_of c.args.cells.now c.args.memory.now)) units.queues) (sym c.self.view_is) c.requires.inside in
    inside.of_lanes

pub invariant_of-self : goal.invariant_of-self
invariant_of-self c = record {
  of_lanes = left_same Vector (course_of c.self.inside.lanes.lanes) 0 c.self.inside.lane_numbers.items c.beat_first.new.numbers.items c.self.inside.lanes.jobs c.beat_first.new.unit.jobs
      (store_of c.args.cells.now c.args.memory.now) c.self.invariant.of_lanes c.beat_first.ensures.jobs c.beat_first.ensures.numbers;
  of_reads = c.self.invariant.of_reads;
  of_writes = c.self.invariant.of_writes;
}
