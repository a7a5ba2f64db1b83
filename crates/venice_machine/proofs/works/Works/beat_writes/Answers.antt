use Rattle.std.proofs.Common.{sym, subst, length}
use Rattle.ven_base.specs.Store.{store_of, store_size}
use Rattle.venice_isa.specs.declared.issue.Issue.TheVariants.{Write}
use Rattle.venice_isa.specs.Beat.{course_of}
use Rattle.venice_machine.specs.Working.{UnitsInside}
use Rattle.venice_machine.specs.Kept.{AllLieIn, place_chosen}
use Rattle.venice_machine.proofs.Numbered.{left_same}
use Rattle.venice_machine.proofs.works.Works.beat_writes.Goals as goal

pub beat_one-requires-clause-inside : goal.beat_one-requires-clause-inside
beat_one-requires-clause-inside c =
    let inside = subst (λ (units : UnitsInside). AllLieIn (store_size (store_of c.args.cells.now c.args.memory.now)) units.queues) (sym c.self.view_is) c.requires.inside in
    inside.of_writes

pub invariant_of-self : goal.invariant_of-self
invariant_of-self c = record {
  of_lanes = c.self.invariant.of_lanes;
  of_reads = c.self.invariant.of_reads;
  of_writes = left_same Write (course_of 1) (place_chosen c.args.second (length c.self.inside.writes)) c.self.inside.write_numbers.items c.beat_one.new.numbers.items c.self.inside.writes c.beat_one.new.unit
      (store_of c.args.cells.now c.args.memory.now) c.self.invariant.of_writes c.beat_one.ensures.jobs c.beat_one.ensures.numbers;
}
