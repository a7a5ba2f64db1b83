-- Runs of an image, and their moments.
use Rattle.std.specs.Prelude.{◌≡◌, ℕ, ◌+◌, List, take, Some}
use Rattle.ven_base.specs.Pairs.{Pairs}
use Rattle.ven_base.specs.Store.{Store}
use Rattle.image_loader.specs.Image.{ImageContents}
use Rattle.venice_machine.specs.declared.stop.End.TheVariants.{Halted}
use Rattle.venice_machine.specs.State.{Setup, State}
use Rattle.venice_machine.specs.Start.{setup_of, start_state}
use Rattle.venice_machine.specs.Run.{in_order, after_turns, after_cycles, run}

-- what a run is of: an image and its inputs, a number of lanes, a scratchpad of so many bytes, and the most steps
pub record Setting : Type 0 where
  pub image : ImageContents
  pub inputs : Pairs
  pub lane_count : ℕ
  pub spad : ℕ
  pub most : ℕ

-- the same run, of which other numbers of steps may be made
abbrev pub with_most : ℕ → Setting → Setting
with_most most setting = record setting { most = most }

-- what stays as it is
abbrev pub setup_for : Setting → Setup
setup_for setting = setup_of setting.image setting.lane_count

-- before its first cycle
abbrev pub first_state : Setting → State
first_state setting = start_state setting.image setting.inputs setting.spad

-- cells and memory then
abbrev pub first_store : Setting → Store
first_store setting = (first_state setting).store

-- the state behind whole cycles
abbrev pub state_after : Setting → (grants : List ℕ) → State
state_after setting grants = after_cycles (setup_for setting) setting.most grants (first_state setting)

-- a moment of a run: behind whole cycles, by these grants; or behind so many of the four turns of one more, by this
-- grant. Where a run has ended, or no step may be made, the latter are no moments of the machine; the laws hold of them
-- all the same
pub data Moment : Type 0 where
  Between : (grants : List ℕ) → Moment
  Within : (grants : List ℕ) → (grant turns : ℕ) → Moment

-- the state at a moment
abbrev pub state_at : Setting → Moment → State
state_at setting (Between grants) = state_after setting grants
state_at setting (Within grants grant turns) =
    let before = state_after setting grants in
    after_turns (setup_for setting) setting.most grant (take turns in_order)
    (record before { cycles = before.cycles + 1 })

-- the run has come to HALT
abbrev pub HasHalted : Setting → Moment → Type 0
HasHalted setting moment = (state_at setting moment).end ≡ Some Halted

-- the state in which it ends, where these grants come first
abbrev pub last_state : Setting → (grants : List ℕ) → State
last_state setting grants = run (setup_for setting) setting.most grants (first_state setting)
