-- What the machine of the code keeps, and which state it shows.
use Rattle.std.specs.Prelude.{◌≡◌, ℕ, List, map, All, IsTrue, Option}
use Rattle.std.specs.List.{zip}
use Rattle.ven_base.specs.Cell.{Cell}
use Rattle.ven_base.specs.Job.{Job}
use Rattle.ven_base.specs.Store.{store_of}
use Rattle.venice_isa.specs.declared.work.VecWork.{VecWork}
use Rattle.venice_isa.specs.declared.work.DmaWork.{DmaWork}
use Rattle.venice_isa.specs.declared.issue.Issue.{Issue}
use Rattle.venice_isa.specs.declared.issue.Issue.TheVariants.{Vector, Read, Write}
use Rattle.venice_isa.specs.declared.host.HostState.{HostState}
use Rattle.venice_isa.specs.Beat.{Progress}
use Rattle.venice_isa.specs.HostState.{host_of}
use Rattle.venice_isa.specs.Units.{Lanes, ReadChannel, WriteChannel, is_work}
use Rattle.venice_machine.specs.declared.stop.End.{End}
use Rattle.venice_machine.specs.State.{Setup, IssuedWork, Jobs, queue, State}

-- the works of a unit's queue with their progress, and their issue numbers
pub record UnitWorks (Work : Type 0) : Type 0 where
  pub jobs : List (Job Work Progress)
  pub numbers : List ℕ

pub record Queues : Type 0 where
  pub lanes : UnitWorks VecWork
  pub reads : UnitWorks DmaWork
  pub writes : UnitWorks DmaWork

-- what stays as it is; the host; the queues; cells and memory; the counts; and how the run has ended, if it has
pub record MachineContents : Type 0 where
  pub setup : Setup
  pub host : HostState
  pub queues : Queues
  pub cells : List Cell
  pub memory : List ℕ
  pub issues : ℕ
  pub steps : ℕ
  pub cycles : ℕ
  pub end : Option End

-- a queue's works as works of the whole machine
abbrev pub numbered_job : {Work : Type 0} → (Work → Issue) → (ℕ × Job Work Progress) → Job IssuedWork Progress
numbered_job as_issue pair = record {
  work = record { number = pair.0; issue = as_issue pair.1.work };
  progress = pair.1.progress;
}

abbrev pub jobs_in : {Work : Type 0} → (Work → Issue) → UnitWorks Work → Jobs
jobs_in as_issue works = map (numbered_job as_issue) (zip works.numbers works.jobs)

-- each unfinished work is in the queue of its unit, which has no other; in what order works of different units stand,
-- no queue can tell
pub record ShowsJobs (queues : Queues) (jobs : Jobs) : Type 0 where
  pub are_works : All (λ job. IsTrue (is_work job.work.issue)) jobs
  pub of_lanes : queue Lanes jobs ≡ jobs_in Vector queues.lanes
  pub of_reads : queue ReadChannel jobs ≡ jobs_in Read queues.reads
  pub of_writes : queue WriteChannel jobs ≡ jobs_in Write queues.writes

-- the machine shows the state
pub record Shows (machine : MachineContents) (state : State) : Type 0 where
  pub host : state.host ≡ host_of machine.host
  pub jobs : ShowsJobs machine.queues state.jobs
  pub store : state.store ≡ store_of machine.cells machine.memory
  pub issues : state.issues ≡ machine.issues
  pub steps : state.steps ≡ machine.steps
  pub cycles : state.cycles ≡ machine.cycles
  pub end : state.end ≡ machine.end
