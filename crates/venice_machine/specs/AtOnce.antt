-- Inner: many cycles at once, in which the host waits and each unit goes on with its first work.
use Rattle.std.specs.Prelude.{◌≡◌, ℕ, ◌+◌, ◌*◌, ◌<◌, min, false, length, replicate, List, [], ◌∷◌, None, ⊤}
use Rattle.ven_base.specs.Store.{Store, store_of, store_size}
use Rattle.ven_base.specs.Job.{Job}
use Rattle.ven_base.specs.Beats.{jobs_after_beats, store_after_beats, HasMore}
use Rattle.venice_isa.specs.declared.issue.Issue.{Issue}
use Rattle.venice_isa.specs.declared.issue.Issue.TheVariants.{Vector, Read, Write}
use Rattle.venice_isa.specs.Beat.{Progress}
use Rattle.venice_isa.specs.Footprint.{Conflicts}
use Rattle.venice_isa.specs.Host.{deed}
use Rattle.venice_isa.specs.HostState.{host_of}
use Rattle.host_core.specs.Pass.{lets_go_on}
use Rattle.host_core.specs.Step.{wanted_by}
use Rattle.venice_machine.specs.State.{State}
use Rattle.venice_machine.specs.Run.{all_units, after_cycles}
use Rattle.venice_machine.specs.Machine.{Queues, MachineContents, Shows}
use Rattle.venice_machine.specs.Kept.{AllNumbered, AllLieIn, unit_course, waiting_in}

-- ---- what many beats leave

-- the queues, with cells and memory
pub record WorksAndStore : Type 0 where
  pub queues : Queues
  pub store : Store

-- so many beats of the lanes' first work
abbrev pub lanes_on : (lane_count count : ℕ) → WorksAndStore → WorksAndStore
lanes_on lane_count count now = record {
  queues = record now.queues {
    lanes = record now.queues.lanes {
      jobs = jobs_after_beats (unit_course Vector lane_count) count now.queues.lanes.jobs now.store;
    };
  };
  store = store_after_beats (unit_course Vector lane_count) count now.queues.lanes.jobs now.store;
}

-- of the read channel's
abbrev pub reads_on : (lane_count count : ℕ) → WorksAndStore → WorksAndStore
reads_on lane_count count now = record {
  queues = record now.queues {
    reads = record now.queues.reads {
      jobs = jobs_after_beats (unit_course Read lane_count) count now.queues.reads.jobs now.store;
    };
  };
  store = store_after_beats (unit_course Read lane_count) count now.queues.reads.jobs now.store;
}

-- of the write channel's
abbrev pub writes_on : (lane_count count : ℕ) → WorksAndStore → WorksAndStore
writes_on lane_count count now = record {
  queues = record now.queues {
    writes = record now.queues.writes {
      jobs = jobs_after_beats (unit_course Write lane_count) count now.queues.writes.jobs now.store;
    };
  };
  store = store_after_beats (unit_course Write lane_count) count now.queues.writes.jobs now.store;
}

-- all of the lanes, then all of the read channel, then all of the write channel
abbrev pub all_on : (lane_count count : ℕ) → WorksAndStore → WorksAndStore
all_on lane_count count now = writes_on lane_count count (reads_on lane_count count (lanes_on lane_count count now))

-- how many units have a work
abbrev pub busy_units : Queues → ℕ
busy_units queues =
    min 1 (length queues.lanes.jobs) + (min 1 (length queues.reads.jobs) + min 1 (length queues.writes.jobs))

-- ---- the machine after as many cycles

abbrev pub works_of : MachineContents → WorksAndStore
works_of machine = record { queues = machine.queues; store = store_of machine.cells machine.memory }

abbrev pub with_works : WorksAndStore → (steps cycles : ℕ) → MachineContents → MachineContents
with_works now steps cycles machine = record machine {
  queues = now.queues;
  cells = now.store.cells;
  memory = now.store.memory;
  steps = steps;
  cycles = cycles;
}

abbrev pub after_many : (count : ℕ) → MachineContents → MachineContents
after_many count machine =
    with_works (all_on machine.setup.lane_count count (works_of machine))
    (machine.steps + count * busy_units machine.queues) (machine.cycles + count) machine

-- ---- when it may be made

-- the first works of two queues don't conflict
abbrev pub FirstsAgree : {A B : Type 0} → (A → Issue) → (B → Issue) → List (Job A Progress) → List (Job B Progress)
    → Type 0
FirstsAgree as_issue as_other [] others = ⊤
FirstsAgree as_issue as_other (job ∷ jobs) [] = ⊤
FirstsAgree as_issue as_other (job ∷ jobs) (other ∷ others) = ¬ Conflicts (as_issue job.work) (as_other other.work)

-- no two first works conflict
pub record AllAgree (queues : Queues) : Type 0 where
  pub lanes_reads : FirstsAgree Vector Read queues.lanes.jobs queues.reads.jobs
  pub lanes_writes : FirstsAgree Vector Write queues.lanes.jobs queues.writes.jobs
  pub reads_writes : FirstsAgree Read Write queues.reads.jobs queues.writes.jobs

-- each first work has more beats left than so many
pub record HaveMore (lane_count count : ℕ) (queues : Queues) : Type 0 where
  pub lanes : HasMore (unit_course Vector lane_count) count queues.lanes.jobs
  pub reads : HasMore (unit_course Read lane_count) count queues.reads.jobs
  pub writes : HasMore (unit_course Write lane_count) count queues.writes.jobs

-- the host waits
abbrev pub HostWaits : MachineContents → Type 0
HostWaits machine =
    let what = deed machine.setup.code.instrs (host_of machine.host) in
    lets_go_on (waiting_in (wanted_by what) machine.queues) what ≡ false

-- so many cycles may be made at once: the run goes on and the host waits, no first work ends in them and no two
-- conflict, and the steps stay below the most
pub record MayMakeMany (most count : ℕ) (machine : MachineContents) : Type 0 where
  pub going : machine.end ≡ None
  pub waits : HostWaits machine
  pub more : HaveMore machine.setup.lane_count count machine.queues
  pub agree : AllAgree machine.queues
  pub room : machine.steps + count * busy_units machine.queues < most

-- ---- the law

-- as many cycles one by one leave the same
abbrev pub CyclesAtOnce : Type 0
CyclesAtOnce =
    (most count : ℕ) (machine : MachineContents) → 0 < machine.setup.lane_count → AllNumbered machine.queues
    → AllLieIn (store_size (store_of machine.cells machine.memory)) machine.queues → MayMakeMany most count machine
    → (state : State) → Shows machine state
    → Shows (after_many count machine) (after_cycles machine.setup most (replicate count all_units) state)
