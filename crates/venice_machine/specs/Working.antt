-- Inner: the units of the code, with their queues.
use Rattle.std.specs.Prelude.{ℕ}
use Rattle.venice_machine.specs.declared.works.Works.TheInside.{Inside}
use Rattle.venice_machine.specs.Machine.{Queues}

-- the queues, and how many lanes there are
pub record UnitsInside : Type 0 where
  pub queues : Queues
  pub lane_count : ℕ

abbrev pub units_inside : Inside → UnitsInside
units_inside works = record {
  queues = record {
    lanes = record { jobs = works.lanes.jobs; numbers = works.lane_numbers.items };
    reads = record { jobs = works.reads; numbers = works.read_numbers.items };
    writes = record { jobs = works.writes; numbers = works.write_numbers.items };
  };
  lane_count = works.lanes.lanes;
}
