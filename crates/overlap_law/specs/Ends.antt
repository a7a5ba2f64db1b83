-- What a run leaves that comes to HALT.
use Rattle.std.specs.Prelude.{◌≡◌, ℕ, ◌+◌, ◌<◌, ◌≤◌, List, [], length, Some, None}
use Rattle.ven_base.specs.Store.{Store}
use Rattle.venice_isa.specs.declared.instr.Instr.{Instr}
use Rattle.venice_isa.specs.declared.issue.Issue.{Issue}
use Rattle.venice_isa.specs.Beat.{sequential, beats_of_all}
use Rattle.venice_isa.specs.Host.{issue_list}
use Rattle.venice_machine.specs.State.{Setup, State}
use Rattle.venice_machine.specs.declared.stop.End.TheVariants.{Halted}
use Rattle.overlap_law.specs.Runs.{Setting, first_store, last_state}

-- the host makes HALT with this step and no earlier one, and passes this list before
pub record MakesHalt (instrs : List Instr) (host_steps : ℕ) (list : List Issue) : Type 0 where
  pub there : issue_list instrs host_steps ≡ Some list
  pub first : (fewer : ℕ) → fewer < host_steps → issue_list instrs fewer ≡ None

-- nothing is unfinished; cells and memory are those that the code's list leaves, one issue after another; and the steps
-- are the host's, HALT's among them, and the beats of the list
pub record IsAtHalt (setup : Setup) (first : Store) (state : State) : Type 0 where
  pub host_steps : ℕ
  pub list : List Issue
  pub makes_halt : MakesHalt setup.code.instrs host_steps list
  pub idle : state.jobs ≡ []
  pub leaves : state.store ≡ sequential list setup.lane_count first
  pub steps : state.steps ≡ host_steps + beats_of_all list setup.lane_count

-- a run that these grants begin goes through: it comes to HALT, and leaves what the list leaves; its steps are no more
-- than the host's, of which there are no more than these, and the beats of the list; and its cycles no more than steps
-- and grants
pub record GoesThrough (setting : Setting) (grants : List ℕ) (host_steps : ℕ) (list : List Issue) : Type 0 where
  pub halts : (last_state setting grants).end ≡ Some Halted
  pub leaves : (last_state setting grants).store ≡ sequential list setting.lane_count (first_store setting)
  pub steps : (last_state setting grants).steps ≤ host_steps + beats_of_all list setting.lane_count
  pub cycles : (last_state setting grants).cycles ≤ (last_state setting grants).steps + length grants
