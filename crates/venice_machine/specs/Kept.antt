-- Inner: what is done with the queues of the units.
use Rattle.std.specs.Prelude.{◌≡◌, ℕ, ◌+◌, ◌<◌, ◌==◌, nat_lt, nat_le, Bool, false, not, ◌&&◌, ◌||◌, if◌then◌else◌, List, [], ◌∷◌, ◌++◌, length, slice_get, All, IsTrue, Option, Some, None, ⊤}
use Rattle.std.specs.List.{list_any, remove}
use Rattle.ven_base.specs.Store.{Store, Size}
use Rattle.ven_base.specs.Job.{Course, course_as, jobs_beaten}
use Rattle.venice_isa.specs.declared.instr.Version.{Version}
use Rattle.venice_isa.specs.declared.issue.Issue.{Issue}
use Rattle.venice_isa.specs.declared.issue.Issue.TheVariants.{Vector, Read, Write}
use Rattle.venice_isa.specs.declared.work.DmaWork.{DmaWork}
use Rattle.venice_isa.specs.Footprint.{HasFootprint}
use Rattle.venice_isa.specs.Beat.{Progress, course_of, not_begun}
use Rattle.venice_isa.specs.Tests.{are_in_conflict}
use Rattle.venice_isa.specs.Units.{Unit, Lanes, ReadChannel, WriteChannel, places, overtakes, keep_their_order}
use Rattle.spad_store.specs.Tagged.{tagged_among}
use Rattle.venice_isa.specs.Host.{deed}
use Rattle.venice_isa.specs.HostState.{host_of}
use Rattle.host_core.specs.declared.waiting.Waiting.{Waiting}
use Rattle.host_core.specs.Pass.{is_idle}
use Rattle.host_core.specs.Step.{moves}
use Rattle.venice_machine.specs.declared.beat.Beat.{Beat}
use Rattle.venice_machine.specs.declared.beat.Beat.TheVariants.{Nothing, First, Second}
use Rattle.venice_machine.specs.declared.stop.Stop.{Stop}
use Rattle.venice_machine.specs.declared.stop.Stop.TheVariants.{Hazard, OutOfRange, BadCount, Budget}
use Rattle.venice_machine.specs.declared.stop.End.TheVariants.{Stopped}
use Rattle.venice_machine.specs.State.{Setup, State, unfinished_count}
use Rattle.venice_machine.specs.Step.{Mover, can_step, chosen_place, after_step}
use Rattle.venice_machine.specs.Machine.{UnitWorks, Queues, MachineContents}

-- ---- queues

-- nothing to do
abbrev pub no_works : Queues
no_works = record {
  lanes = record { jobs = []; numbers = [] };
  reads = record { jobs = []; numbers = [] };
  writes = record { jobs = []; numbers = [] };
}

-- each work of a queue has its number
abbrev pub AreNumbered : {Work : Type 0} → UnitWorks Work → Type 0
AreNumbered works = length works.numbers ≡ length works.jobs

pub record AllNumbered (queues : Queues) : Type 0 where
  pub of_lanes : AreNumbered queues.lanes
  pub of_reads : AreNumbered queues.reads
  pub of_writes : AreNumbered queues.writes

-- each work of a queue lies in cells and memory
abbrev pub LieIn : {Work : Type 0} → (Work → Issue) → Size → UnitWorks Work → Type 0
LieIn as_issue size works = All (λ job. HasFootprint size (as_issue job.work)) works.jobs

pub record AllLieIn (size : Size) (queues : Queues) : Type 0 where
  pub of_lanes : LieIn Vector size queues.lanes
  pub of_reads : LieIn Read size queues.reads
  pub of_writes : LieIn Write size queues.writes

-- ---- beats

-- numbers without the one at place k, where so many works are left, and these are fewer
abbrev pub numbers_left : (k left : ℕ) → List ℕ → List ℕ
numbers_left k left numbers = if nat_lt left (length numbers) then remove numbers k else numbers

-- how a unit's works go on so many lanes
abbrev pub unit_course : {Work : Type 0} → (Work → Issue) → (lane_count : ℕ) → Course Work Progress
unit_course as_issue lane_count = course_as as_issue (course_of lane_count)

-- the works of which the one at place k makes its next beat, in cells and memory as they are
abbrev pub works_after_beat : {Work : Type 0} → Course Work Progress → (k : ℕ) → UnitWorks Work → Store → UnitWorks Work
works_after_beat course k works store = record {
  jobs = jobs_beaten course k works.jobs store;
  numbers = numbers_left k (length (jobs_beaten course k works.jobs store)) works.numbers;
}

-- the place of the work that a channel goes on with, of so many: the second, where it is chosen and there
abbrev pub place_chosen : (second : Bool) → (count : ℕ) → ℕ
place_chosen second count = if second && nat_lt 1 count then 1 else 0

abbrev pub beat_of : (second : Bool) → (count : ℕ) → Beat
beat_of second count =
    if count == 0 then Nothing else if second && nat_lt 1 count then Second else First

-- ---- issues

abbrev pub with_issue : {Work : Type 0} → Work → (number : ℕ) → UnitWorks Work → UnitWorks Work
with_issue work number works = record {
  jobs = works.jobs ++ record { work = work; progress = not_begun } ∷ [];
  numbers = works.numbers ++ number ∷ [];
}

-- the queues with a work that is issued; a wait isn't one
abbrev pub queues_with : Issue → (number : ℕ) → Queues → Queues
queues_with (Vector work) number queues = record queues { lanes = with_issue work number queues.lanes }
queues_with (Read work) number queues = record queues { reads = with_issue work number queues.reads }
queues_with (Write work) number queues = record queues { writes = with_issue work number queues.writes }
queues_with _ number queues = queues

-- the queue of the issue's unit has a place; a wait needs none
abbrev pub HasPlaceFor : Issue → Queues → Type 0
HasPlaceFor (Vector work) queues = length queues.lanes.jobs < places Lanes
HasPlaceFor (Read work) queues = length queues.reads.jobs < places ReadChannel
HasPlaceFor (Write work) queues = length queues.writes.jobs < places WriteChannel
HasPlaceFor _ queues = ⊤

-- what the host waits for: how many works of each queue are unfinished, and how many transfers have the tag that is
-- wanted, if one is
abbrev pub tagged_in : Option ℕ → Queues → ℕ
tagged_in None queues = 0
tagged_in (Some tag) queues =
    tagged_among (λ (work : DmaWork). work.tag) tag queues.reads.jobs
    + tagged_among (λ (work : DmaWork). work.tag) tag queues.writes.jobs

abbrev pub waiting_in : Option ℕ → Queues → Waiting
waiting_in wanted queues = record {
  vector = length queues.lanes.jobs;
  read = length queues.reads.jobs;
  write = length queues.writes.jobs;
  tagged = tagged_in wanted queues;
}

-- the issue number of the work at place k of a unit's queue
abbrev pub number_in : (unit k : ℕ) → Queues → Option ℕ
number_in unit k queues =
    if unit == 1 then slice_get queues.lanes.numbers k
    else if unit == 2 then slice_get queues.reads.numbers k
    else slice_get queues.writes.numbers k

-- whether the issue conflicts with a work of a queue
abbrev pub conflicts_with : {Work : Type 0} → (Work → Issue) → Issue → UnitWorks Work → Bool
conflicts_with as_issue issue works = list_any (λ job. are_in_conflict (as_issue job.work) issue) works.jobs

-- whether the issue is a hazard among the works of a queue
abbrev pub is_against : {Work : Type 0} → (Work → Issue) → Version → Issue → UnitWorks Work → Bool
is_against as_issue version issue works =
    list_any (λ job. not (keep_their_order version (as_issue job.work) issue)
    && are_in_conflict (as_issue job.work) issue) works.jobs

abbrev pub is_hazard_among : Version → Issue → Queues → Bool
is_hazard_among version issue queues =
    is_against Vector version issue queues.lanes
    || (is_against Read version issue queues.reads || is_against Write version issue queues.writes)

-- the same by the kinds of issues: works of other units, and of the channel that overtakes
abbrev pub transfers_against_read : Version → Issue → Queues → Bool
transfers_against_read version issue queues =
    (overtakes version ReadChannel && conflicts_with Read issue queues.reads)
    || conflicts_with Write issue queues.writes

abbrev pub transfers_against_write : Version → Issue → Queues → Bool
transfers_against_write version issue queues =
    conflicts_with Read issue queues.reads
    || (overtakes version ReadChannel && conflicts_with Write issue queues.writes)

abbrev pub hazard_of : Version → Issue → Queues → Bool
hazard_of version (Vector work) queues =
    conflicts_with Read (Vector work) queues.reads || conflicts_with Write (Vector work) queues.writes
hazard_of version (Read work) queues =
    conflicts_with Vector (Read work) queues.lanes || transfers_against_read version (Read work) queues
hazard_of version (Write work) queues =
    conflicts_with Vector (Write work) queues.lanes || transfers_against_write version (Write work) queues
hazard_of version _ queues = false

-- what stops the machine before an issue, by its tests
abbrev pub stop_of : (place cycles : ℕ) → (counts range hazard : Bool) → Option Stop
stop_of place cycles counts range hazard =
    if not counts then Some (BadCount place)
    else if not range then Some (OutOfRange place)
    else if hazard then Some (Hazard place cycles)
    else None

-- ---- turns

-- a unit's bit, and its bits where it goes on with its second work
abbrev pub first_bit : Unit → ℕ
first_bit Lanes = 2
first_bit ReadChannel = 4
first_bit WriteChannel = 8

abbrev pub second_bits : Unit → ℕ
second_bits Lanes = 2
second_bits ReadChannel = 20
second_bits WriteChannel = 40

-- one step more; with the last that may be made, the run stops
abbrev pub counted : (most : ℕ) → MachineContents → MachineContents
counted most machine = record machine {
  steps = machine.steps + 1;
  end = if nat_le most (machine.steps + 1) then Some (Stopped (Budget (machine.steps + 1))) else None;
}

-- a step may still be made, while the run goes on
abbrev pub HasRoom : (most : ℕ) → MachineContents → Type 0
HasRoom most machine = machine.end ≡ None → machine.steps < most

-- nothing is unfinished, the host's instruction concerns the host alone, and a step may still be made
pub record IsHostAlone (most : ℕ) (machine : MachineContents) : Type 0 where
  pub more : machine.steps < most
  pub idle : IsTrue (is_idle (waiting_in None machine.queues))
  pub moves : IsTrue (moves (deed machine.setup.code.instrs (host_of machine.host)))

-- the mover steps where it can
abbrev pub after_chance : Setup → (most : ℕ) → (second : Bool) → Mover → State → State
after_chance setup most second mover state =
    if can_step setup mover state then after_step setup most second mover state else state

-- the bits of a channel's step, where it steps
abbrev pub unit_bits : Setup → (second : Bool) → Unit → State → ℕ
unit_bits setup second unit state =
    if unfinished_count unit state.jobs == 0 then 0
    else if chosen_place setup.code.version unit second state.jobs == 1 then second_bits unit else first_bit unit
