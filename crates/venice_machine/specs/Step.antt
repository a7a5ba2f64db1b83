-- Steps: who can make one, and the state after it.
use Rattle.std.specs.Prelude.{ℕ, ◌+◌, ◌==◌, Bool, not, ◌&&◌, [], ◌∷◌, ◌++◌, length, nat_lt, nat_le, if◌then◌else◌, Option, Some, None}
use Rattle.std.specs.List.{list_any}
use Rattle.ven_base.specs.Store.{store_size}
use Rattle.ven_base.specs.Job.{new_job, jobs_beaten, store_beaten}
use Rattle.venice_isa.specs.declared.instr.Version.{Version}
use Rattle.venice_isa.specs.declared.issue.Issue.{Issue}
use Rattle.venice_isa.specs.declared.host.Deed.{Deed}
use Rattle.venice_isa.specs.declared.host.Deed.TheVariants.{Halts, Moves, Passes}
use Rattle.venice_isa.specs.Host.{deed, next}
use Rattle.venice_isa.specs.Tests.{has_counts, is_in_range, are_in_conflict}
use Rattle.venice_isa.specs.Units.{Unit, Lanes, ReadChannel, WriteChannel, is_work, overtakes, keep_their_order}
use Rattle.host_core.specs.declared.waiting.Waiting.{Waiting}
use Rattle.host_core.specs.Pass.{may_go_on}
use Rattle.host_core.specs.Step.{wanted_by}
use Rattle.venice_machine.specs.declared.stop.Stop.{Stop}
use Rattle.venice_machine.specs.declared.stop.Stop.TheVariants.{Hazard, OutOfRange, BadCount, Budget}
use Rattle.venice_machine.specs.declared.stop.End.TheVariants.{Halted, Stopped}
use Rattle.venice_machine.specs.State.{Setup, Jobs, issued_course, unfinished_count, place_of, tagged_count, State}

-- ---- who can step

-- the host, and the units that do works
pub data Mover : Type 0 where
  TheHost : Mover
  TheUnit : Unit → Mover

-- how many works are unfinished: of each unit, and of the transfers with the tag that is waited for, if one is
abbrev pub tagged_as : Option ℕ → Jobs → ℕ
tagged_as None jobs = 0
tagged_as (Some tag) jobs = tagged_count tag jobs

abbrev pub waiting_among : (wanted : Option ℕ) → Jobs → Waiting
waiting_among wanted jobs = record {
  vector = unfinished_count Lanes jobs;
  read = unfinished_count ReadChannel jobs;
  write = unfinished_count WriteChannel jobs;
  tagged = tagged_as wanted jobs;
}

-- the host's next instruction, which is this to the rest of the machine, may be done among these works
abbrev pub may_step : Deed → Jobs → Bool
may_step deed jobs = may_go_on (length jobs == 0) (waiting_among (wanted_by deed) jobs) deed

-- the host can step where it may go on, and a unit where its queue isn't empty
abbrev pub can_step : Setup → Mover → State → Bool
can_step setup TheHost state = may_step (deed setup.code.instrs state.host) state.jobs
can_step setup (TheUnit unit) state = nat_lt 0 (unfinished_count unit state.jobs)

-- ---- what stops the machine before an issue

-- a work in flight conflicts with the issue and isn't sure to be done before it: it is another unit's, or one that the
-- issue may overtake
abbrev pub is_hazard : Version → Issue → Jobs → Bool
is_hazard version issue jobs =
    list_any (λ job. not (keep_their_order version job.work.issue issue) && are_in_conflict job.work.issue issue) jobs

-- a count of the work is 0; else a byte of its footprint is outside cells or memory; else there is a hazard
abbrev pub stop_before : Setup → Issue → State → Option Stop
stop_before setup issue state =
    if not (is_work issue) then None
    else if not (has_counts issue) then Some (BadCount state.host.place)
    else if not (is_in_range (store_size state.store) issue) then Some (OutOfRange state.host.place)
    else if is_hazard setup.code.version issue state.jobs then Some (Hazard state.host.place state.cycles)
    else None

-- ---- a step of the host

-- one step more; with the last that may be made, the run stops
abbrev pub with_step : (most : ℕ) → State → State
with_step most state = record state {
  steps = state.steps + 1;
  end = if nat_le most (state.steps + 1) then Some (Stopped (Budget (state.steps + 1))) else None;
}

-- the host goes on
abbrev pub with_host_on : Setup → State → State
with_host_on setup state = record state { host = next setup.code.instrs state.host }

-- and a work is issued: it is the last of the unfinished ones, and has the next number
abbrev pub with_work : Setup → Issue → State → State
with_work setup issue state = record state {
  host = next setup.code.instrs state.host;
  jobs = state.jobs
      ++ new_job (issued_course setup.lane_count) (record { number = state.issues + 1; issue = issue }) ∷ [];
  issues = state.issues + 1;
}

abbrev pub stopped_by : Stop → State → State
stopped_by stop state = record state { end = Some (Stopped stop) }

-- HALT is a step
abbrev pub at_halt : State → State
at_halt state = record state { steps = state.steps + 1; end = Some Halted }

-- an issue or wait is passed, unless something stops the machine before
abbrev pub after_passing : Setup → (most : ℕ) → Issue → State → State
after_passing setup most issue state =
    if is_work issue then with_step most (with_work setup issue state) else with_step most (with_host_on setup state)

abbrev pub after_attempt : Option Stop → Setup → (most : ℕ) → Issue → State → State
after_attempt (Some stop) setup most issue state = stopped_by stop state
after_attempt None setup most issue state = after_passing setup most issue state

abbrev pub after_deed : Deed → Setup → (most : ℕ) → State → State
after_deed Halts setup most state = at_halt state
after_deed Moves setup most state = with_step most (with_host_on setup state)
after_deed (Passes issue) setup most state = after_attempt (stop_before setup issue state) setup most issue state

-- ---- a step of a unit

-- which work of its queue a unit goes on with, counted from 0: the second, where the grant says so, the unit may
-- overtake, and there are two; else the first
abbrev pub chosen_place : Version → Unit → (second : Bool) → Jobs → ℕ
chosen_place version unit second jobs =
    if overtakes version unit && (second && nat_lt 1 (unfinished_count unit jobs)) then 1 else 0

-- that work makes its next beat, and is no more with its last
abbrev pub after_beat : Setup → Unit → (k : ℕ) → State → State
after_beat setup unit k state = record state {
  jobs = jobs_beaten (issued_course setup.lane_count) (place_of unit k state.jobs) state.jobs state.store;
  store = store_beaten (issued_course setup.lane_count) (place_of unit k state.jobs) state.jobs state.store;
}

-- ---- a step

-- the host does its next instruction, or a unit the next beat of the chosen work
abbrev pub after_step : Setup → (most : ℕ) → (second : Bool) → Mover → State → State
after_step setup most second TheHost state = after_deed (deed setup.code.instrs state.host) setup most state
after_step setup most second (TheUnit unit) state =
    with_step most (after_beat setup unit (chosen_place setup.code.version unit second state.jobs) state)
