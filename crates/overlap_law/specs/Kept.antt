-- What every moment of a run keeps.
use Rattle.std.specs.Prelude.{◌≡◌, ◌≢◌, ℕ, ◌<◌, false, List, [], length, All, Some}
use Rattle.std.specs.List.{AllPairs, filter}
use Rattle.ven_base.specs.Store.{Place, Store, Size, store_size}
use Rattle.ven_base.specs.Job.{Job, IsReady, all_finished}
use Rattle.venice_isa.specs.declared.instr.Version.{Version}
use Rattle.venice_isa.specs.declared.instr.Instr.{Instr}
use Rattle.venice_isa.specs.declared.issue.Issue.{Issue}
use Rattle.venice_isa.specs.declared.host.Deed.TheVariants.{Halts}
use Rattle.venice_isa.specs.Beat.{Progress, sequential}
use Rattle.venice_isa.specs.Footprint.{Reads, Writes, Conflicts}
use Rattle.venice_isa.specs.Host.{start, deed, after_steps, passed_in}
use Rattle.venice_isa.specs.Units.{is_work, keep_their_order}
use Rattle.venice_machine.specs.declared.stop.End.TheVariants.{Halted}
use Rattle.venice_machine.specs.State.{Setup, IssuedWork, issued_course, State}

-- ---- the unfinished works

-- the second of two works doesn't touch what the first has yet to do: they don't conflict, unless one unit does them,
-- and in their order
abbrev pub ArePassable : Version → (first second : Job IssuedWork Progress) → Type 0
ArePassable version first second =
    keep_their_order version first.work.issue second.work.issue ≡ false
    → ¬ Conflicts first.work.issue second.work.issue

-- the places that an issued work reads
abbrev pub ReadsOf : IssuedWork → Place → Type 0
ReadsOf work = Reads work.issue

-- the places that it writes
abbrev pub WritesOf : IssuedWork → Place → Type 0
WritesOf work = Writes work.issue

-- a work has a beat left, and cells and memory of this size have its footprint
abbrev pub IsReadyOn : (lane_count : ℕ) → Size → Job IssuedWork Progress → Type 0
IsReadyOn lane_count size job = IsReady (issued_course lane_count) ReadsOf WritesOf job size

-- they stand in the order of their issue
abbrev pub IsEarlier : (first second : Job IssuedWork Progress) → Type 0
IsEarlier first second = first.work.number < second.work.number

-- ---- the host

-- none of the host's first steps makes HALT
abbrev pub GoesOnFor : List Instr → (host_steps : ℕ) → Type 0
GoesOnFor instrs host_steps = (k : ℕ) → k < host_steps → deed instrs (after_steps instrs k start) ≢ Halts

-- how many of the issues are works
abbrev pub count_works : List Issue → ℕ
count_works issues = length (filter is_work issues)

-- ---- a moment

-- finishing the unfinished works in the order of their issue gives what the issues so far give, one after another: the
-- host has made so many steps, none of them HALT, and the issues are those that it passed in them. The unfinished works
-- stand in the order of their issue; no two of them conflict, but those of one unit that are done in their order; and
-- each has a beat left and lies in cells and memory
pub record IsKeptAfter (setup : Setup) (first : Store) (host_steps : ℕ) (state : State) : Type 0 where
  pub host_is : state.host ≡ after_steps setup.code.instrs host_steps start
  pub goes_on : GoesOnFor setup.code.instrs host_steps
  pub issues : state.issues ≡ count_works (passed_in setup.code.instrs host_steps start)
  pub finishing : all_finished (issued_course setup.lane_count) state.jobs state.store
      ≡ sequential (passed_in setup.code.instrs host_steps start) setup.lane_count first
  pub in_order : AllPairs IsEarlier state.jobs
  pub apart : AllPairs (ArePassable setup.code.version) state.jobs
  pub ready : All (IsReadyOn setup.lane_count (store_size state.store)) state.jobs

-- and where the run has come to HALT, nothing is unfinished
pub record IsKept (setup : Setup) (first : Store) (state : State) : Type 0 where
  pub host_steps : ℕ
  pub kept : IsKeptAfter setup first host_steps state
  pub at_halt : state.end ≡ Some Halted → (state.jobs ≡ []) × (deed setup.code.instrs state.host ≡ Halts)
