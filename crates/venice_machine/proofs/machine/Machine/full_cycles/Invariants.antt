use Rattle.std.proofs.Common.{◌≡◌, ◌⊎◌, ◌+◌, ◌-◌, ◌<◌, ◌≤◌, min, replicate, None}
use Rattle.std.specs.Prelude.{ℕ}
use Rattle.venice_machine.specs.State.{State}
use Rattle.venice_machine.specs.Run.{all_units, after_cycles}
use Rattle.venice_machine.specs.Machine.{MachineContents, Shows}
use Rattle.venice_machine.proofs.machine.Machine.full_cycles.Given as goal

-- after so many cycles, no more of them than the budget; while the run goes on, each has made a step, and one more may be made
pub record CyclesDone (budget k : ℕ) (first now : MachineContents) : Type 0 where
  pub few : k ≤ budget + 1
  pub setup : now.setup ≡ first.setup
  pub cycles : now.cycles ≤ first.cycles + min k budget
  pub running : now.end ≡ None → (k ≡ 0) ⊎ ((k ≤ now.steps) × (now.steps < budget))
  pub state : (state : State) → Shows first state → Shows now (after_cycles first.setup budget (replicate k all_units) state)

abbrev pub invariant-loop-made : goal.invariant-loop-made
invariant-loop-made l = CyclesDone l.budget l.made l.fn.self l.self

abbrev pub decreases-loop-made : goal.decreases-loop-made
decreases-loop-made l = l.budget + 1 - l.made
