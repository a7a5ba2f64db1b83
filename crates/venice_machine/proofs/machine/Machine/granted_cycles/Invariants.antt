use Rattle.std.proofs.Common.{◌≡◌, ◌+◌, ◌≤◌, take}
use Rattle.venice_machine.specs.State.{State}
use Rattle.venice_machine.specs.Run.{after_cycles}
use Rattle.venice_machine.specs.Machine.{MachineContents, Shows}
use Rattle.venice_machine.proofs.machine.Machine.granted_cycles.Given as goal
use Rattle.std.specs.Prelude.{ℕ, List}

-- after so many cycles
pub record CyclesDone (budget : ℕ) (grants : List ℕ) (k : ℕ) (first now : MachineContents) : Type 0 where
  pub setup : now.setup ≡ first.setup
  pub cycles : now.cycles ≤ first.cycles + k
  pub state : (state : State) → Shows first state → Shows now (after_cycles first.setup budget (take k grants) state)

abbrev pub invariant-loop-k : goal.invariant-loop-k
invariant-loop-k l = CyclesDone l.budget l.grants l.k l.fn.self l.self
