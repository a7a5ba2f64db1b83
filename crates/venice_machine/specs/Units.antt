-- Which units stepped in a cycle, and what a cycle answers.
use Rattle.std.specs.Prelude.{ℕ, ◌+◌, ◌*◌, ◌==◌, not, List, [], ◌∷◌, nat_le, if◌then◌else◌, Option, Some, None}
use Rattle.std.specs.Option.{is_none}
use Rattle.venice_isa.specs.Units.{Lanes, ReadChannel, WriteChannel}
use Rattle.venice_machine.specs.declared.stop.Cycle.{Cycle}
use Rattle.venice_machine.specs.declared.stop.Cycle.TheVariants as answers
use Rattle.venice_machine.specs.declared.stop.End.{End}
use Rattle.venice_machine.specs.declared.stop.End.TheVariants.{Halted, Stopped}
use Rattle.venice_machine.specs.State.{Setup, State}
use Rattle.venice_machine.specs.Step.{Mover, TheHost, TheUnit, chosen_place}
use Rattle.venice_machine.specs.Run.{is_second, in_order, after_turn}

-- what is set for one that steps: its bit, and where a channel goes on with its second work another
abbrev pub step_bits : Setup → (grant : ℕ) → Mover → State → ℕ
step_bits setup grant TheHost state = 1
step_bits setup grant (TheUnit Lanes) state = 2
step_bits setup grant (TheUnit ReadChannel) state =
    4 + 16 * chosen_place setup.code.version ReadChannel (is_second grant (TheUnit ReadChannel)) state.jobs
step_bits setup grant (TheUnit WriteChannel) state =
    8 + 32 * chosen_place setup.code.version WriteChannel (is_second grant (TheUnit WriteChannel)) state.jobs

module _ (setup : Setup) (most : ℕ) where
  -- one has stepped in its turn where the turn's step is counted
  abbrev pub turn_bits : (grant : ℕ) → Mover → State → ℕ
  turn_bits grant mover state =
      if (after_turn setup most grant mover state).steps == state.steps then 0 else step_bits setup grant mover state

  abbrev pub bits_of_turns : (grant : ℕ) → List Mover → State → ℕ
  bits_of_turns grant [] state = 0
  bits_of_turns grant (mover ∷ movers) state =
      turn_bits grant mover state + bits_of_turns grant movers (after_turn setup most grant mover state)

  -- the bits of the units that step in the cycle: none where no cycle is counted
  abbrev pub units_of : (grant : ℕ) → State → ℕ
  units_of grant state =
      if not (is_none state.end) then 0
      else if nat_le most state.steps then 0
      else bits_of_turns grant in_order (record state { cycles = state.cycles + 1 })

-- the answer of a cycle, after which the run has ended so
abbrev pub cycle_answer : (end : Option End) → (units : ℕ) → Cycle
cycle_answer None units = answers.Went units
cycle_answer (Some Halted) units = answers.Halted
cycle_answer (Some (Stopped stop)) units = answers.Stopped stop units
