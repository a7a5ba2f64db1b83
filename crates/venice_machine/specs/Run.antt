-- Cycles and runs.
use Rattle.std.specs.Prelude.{ℕ, ◌+◌, ◌/◌, ◌%◌, ◌^◌, ◌==◌, Bool, false, not, ◌&&◌, List, [], ◌∷◌, ◌++◌, replicate, nat_le, if◌then◌else◌}
use Rattle.std.specs.Option.{is_none}
use Rattle.venice_isa.specs.Units.{Lanes, ReadChannel, WriteChannel}
use Rattle.venice_machine.specs.declared.stop.Stop.TheVariants.{Budget}
use Rattle.venice_machine.specs.State.{Setup, State}
use Rattle.venice_machine.specs.Step.{Mover, TheHost, TheUnit, can_step, after_step, stopped_by}

-- the most steps that a run may be allowed
abbrev pub step_limit : ℕ
step_limit = 1099511627776

-- ---- a grant

abbrev pub is_set : (grant bit : ℕ) → Bool
is_set grant bit = (grant / 2 ^ bit) % 2 == 1

-- the bit that lets one step
abbrev pub bit_of : Mover → ℕ
bit_of TheHost = 0
bit_of (TheUnit Lanes) = 1
bit_of (TheUnit ReadChannel) = 2
bit_of (TheUnit WriteChannel) = 3

-- whether the grant chooses a channel's second work
abbrev pub is_second : (grant : ℕ) → Mover → Bool
is_second grant (TheUnit ReadChannel) = is_set grant 4
is_second grant (TheUnit WriteChannel) = is_set grant 5
is_second grant mover = false

-- the grant that lets all step, each channel with its first work
abbrev pub all_units : ℕ
all_units = 15

-- ---- a cycle

-- the order in which they step
abbrev pub in_order : List Mover
in_order = TheHost ∷ TheUnit Lanes ∷ TheUnit ReadChannel ∷ TheUnit WriteChannel ∷ []

module _ (setup : Setup) (most : ℕ) where
  -- one that is granted and can step does so, while the run goes on
  abbrev pub after_turn : (grant : ℕ) → Mover → State → State
  after_turn grant mover state =
      if is_set grant (bit_of mover) && (is_none state.end && can_step setup mover state)
      then after_step setup most (is_second grant mover) mover state
      else state

  abbrev pub after_turns : (grant : ℕ) → List Mover → State → State
  after_turns grant [] state = state
  after_turns grant (mover ∷ movers) state = after_turns grant movers (after_turn grant mover state)

  -- an ended run stays as it is; where the steps that may be made are made, the run stops; else a cycle is counted, and
  -- all have their turns
  abbrev pub after_cycle : (grant : ℕ) → State → State
  after_cycle grant state =
      if not (is_none state.end) then state
      else if nat_le most state.steps then stopped_by (Budget state.steps) state
      else after_turns grant in_order (record state { cycles = state.cycles + 1 })

  -- ---- a run

  abbrev pub after_cycles : List ℕ → State → State
  after_cycles [] state = state
  after_cycles (grant ∷ grants) state = after_cycles grants (after_cycle grant state)

  -- the cycles of the grant list, and then those in which all may step, until the run has ended: each of those makes a
  -- step or ends it, and no more steps are made than may be
  abbrev pub run : List ℕ → State → State
  run grants state = after_cycles (grants ++ replicate (most + 1) all_units) state
