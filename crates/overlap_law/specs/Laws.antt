-- The laws of overlap, each the contract of a public function.
use Rattle.std.specs.Prelude.{◌≡◌, ◌≢◌, ◌↔◌, ℕ, ◌+◌, ◌<◌, ◌≤◌, IsTrue, IsFalse, List, length, All, Some, None}
use Rattle.ven_base.specs.Pairs.{ArePairs}
use Rattle.ven_base.specs.Store.{Size, store_size}
use Rattle.array_file.specs.Fitting.{Fits}
use Rattle.image_loader.specs.Image.{IsImage}
use Rattle.venice_isa.specs.declared.instr.Version.{Version}
use Rattle.venice_isa.specs.declared.issue.Issue.{Issue}
use Rattle.venice_isa.specs.Code.{Listing}
use Rattle.venice_isa.specs.Flight.{may_be_in_flight, IsDisciplined}
use Rattle.venice_isa.specs.Footprint.{HasFootprint}
use Rattle.venice_isa.specs.Host.{issue_list}
use Rattle.venice_isa.specs.Tests.{has_counts}
use Rattle.venice_isa.specs.Units.{Unit}
use Rattle.venice_isa.specs.Beat.{beats_of_all}
use Rattle.venice_machine.specs.declared.stop.Stop.TheVariants.{Hazard}
use Rattle.venice_machine.specs.declared.stop.End.{End}
use Rattle.venice_machine.specs.declared.stop.End.TheVariants.{Halted, Stopped}
use Rattle.venice_machine.specs.Step.{Mover, can_step}
use Rattle.overlap_law.specs.Runs.{Setting, Moment, with_most, setup_for, first_store, state_at, HasHalted, last_state}
use Rattle.overlap_law.specs.Kept.{IsKept}
use Rattle.overlap_law.specs.Ends.{IsAtHalt, GoesThrough}
use Rattle.overlap_law.specs.Flights.{IsEnded}

-- ---- what runs leave

-- at every moment of every run, finishing the unfinished works in the order of their issue gives what the issues so far
-- give, one after another
abbrev pub Finishing : Type 0
Finishing =
    (setting : Setting) (moment : Moment) → 0 < setting.lane_count
    → IsKept (setup_for setting) (first_store setting) (state_at setting moment)

-- two runs of one image, with the same inputs, lanes and scratchpad, that come to HALT leave the same cells and memory
abbrev pub LeavesTheSame : Type 0
LeavesTheSame =
    (setting : Setting) (other_most : ℕ) (moment other : Moment) → 0 < setting.lane_count
    → HasHalted setting moment → HasHalted (with_most other_most setting) other
    → (state_at setting moment).store ≡ (state_at (with_most other_most setting) other).store

-- fitting inputs of an image lie in its memory, so that at the start cells and memory are as many as the scratchpad has
-- bytes and the image says
abbrev pub StartHasSizes : Type 0
StartHasSizes =
    (setting : Setting) → IsImage setting.image → ArePairs setting.inputs
    → Fits setting.inputs setting.image.arrays
    → store_size (first_store setting) ≡ record { cells = setting.spad; memory = setting.image.memory }

-- ---- disciplined code

-- the host passes this list up to HALT, which it makes within so many steps, and no two works of the list race
pub record HasDisciplinedList (code : Listing) (host_steps : ℕ) (list : List Issue) : Type 0 where
  pub passes : issue_list code.instrs host_steps ≡ Some list
  pub disciplined : IsDisciplined code.version list

-- no run of such code meets a hazard
abbrev pub NoHazard : Type 0
NoHazard =
    (setting : Setting) (moment : Moment) (host_steps : ℕ) (list : List Issue) (pc cycle : ℕ)
    → HasDisciplinedList setting.image.code host_steps list
    → (state_at setting moment).end ≢ Some (Stopped (Hazard pc cycle))

-- no count of the issue is 0, and cells and memory of this size have its footprint
pub record IsInOrder (size : Size) (issue : Issue) : Type 0 where
  pub counts : IsTrue (has_counts issue)
  pub in_range : HasFootprint size issue

-- each goes through to HALT, where all issues of the list are in order, and as many steps may be made as the host's,
-- HALT's among them, and the beats of the list
abbrev pub DisciplinedRunsHalt : Type 0
DisciplinedRunsHalt =
    (setting : Setting) (grants : List ℕ) (host_steps : ℕ) (list : List Issue) → 0 < setting.lane_count
    → HasDisciplinedList setting.image.code host_steps list
    → All (IsInOrder (store_size (first_store setting))) list
    → host_steps + beats_of_all list setting.lane_count ≤ setting.most
    → GoesThrough setting grants host_steps list

-- which works may be in flight, in the words of the manual
abbrev pub InFlightUntilEnded : Type 0
InFlightUntilEnded =
    (version : Version) (unit : Unit) (work : Issue) (between : List Issue)
    → IsFalse (may_be_in_flight version unit work 0 between) ↔ IsEnded version unit work between

-- ---- steps and cycles

-- while a run goes on, one can step: the host, which may then meet a stop, or a unit
abbrev pub SomeUnitSteps : Type 0
SomeUnitSteps =
    (setting : Setting) (moment : Moment) → 0 < setting.lane_count → (state_at setting moment).end ≡ None
    → (mover : Mover) × IsTrue (can_step (setup_for setting) mover (state_at setting moment))

-- so every run ends
abbrev pub RunsEnd : Type 0
RunsEnd =
    (setting : Setting) (grants : List ℕ) → 0 < setting.lane_count
    → (end : End) × ((last_state setting grants).end ≡ Some end)

-- a run that has come to HALT leaves what the code's list leaves, one issue after another, and its steps are the host's
-- and the beats of the list
abbrev pub AtHalt : Type 0
AtHalt =
    (setting : Setting) (moment : Moment) → 0 < setting.lane_count → HasHalted setting moment
    → IsAtHalt (setup_for setting) (first_store setting) (state_at setting moment)

-- two runs of one code on as many lanes that come to HALT make as many steps
abbrev pub SameSteps : Type 0
SameSteps =
    (setting other : Setting) (moment other_moment : Moment) → 0 < setting.lane_count
    → other.lane_count ≡ setting.lane_count → other.image.code ≡ setting.image.code
    → HasHalted setting moment → HasHalted other other_moment
    → (state_at other other_moment).steps ≡ (state_at setting moment).steps

-- one that comes to HALT has no more cycles than steps and grants of its list
abbrev pub FewCycles : Type 0
FewCycles =
    (setting : Setting) (grants : List ℕ) → 0 < setting.lane_count → (last_state setting grants).end ≡ Some Halted
    → (last_state setting grants).cycles ≤ (last_state setting grants).steps + length grants
