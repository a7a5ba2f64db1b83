-- What a step may be, and what every run keeps.
use Rattle.std.proofs.Common.{◌≡◌, ◌⊎◌, inl, inr, ℕ, ◌+◌, ◌<◌, refl, List, [], ◌∷◌, Option, Some, None, Bool, true, false, not, ◌&&◌, cond, length, nat_lt, nat_le, ◌==◌, is_none}
use Rattle.std.proofs.lemmas.Bool.{ltb-true}
use Rattle.ven_base.specs.Store.{store_size}
use Rattle.venice_isa.specs.declared.issue.Issue.{Issue}
use Rattle.venice_isa.specs.declared.host.Deed.{Deed}
use Rattle.venice_isa.specs.declared.host.Deed.TheVariants.{Halts, Moves, Passes}
use Rattle.venice_isa.specs.Host.{deed}
use Rattle.venice_isa.specs.Tests.{has_counts, is_in_range}
use Rattle.venice_isa.specs.Units.{Unit, is_work, overtakes}
use Rattle.venice_machine.specs.declared.stop.Stop.{Stop}
use Rattle.venice_machine.specs.declared.stop.Stop.TheVariants.{Hazard, OutOfRange, BadCount, Budget}
use Rattle.venice_machine.specs.State.{Setup, State, unfinished_count}
use Rattle.venice_machine.specs.Step.{Mover, TheHost, TheUnit, may_step, can_step, is_hazard, stop_before, with_step, with_host_on, with_work, stopped_by, at_halt, after_attempt, after_deed, after_beat, after_step}
use Rattle.venice_machine.specs.Run.{is_set, bit_of, is_second, in_order, after_turn, after_turns, after_cycle, after_cycles}

-- what holds of both branches
pub either : {A : Type 0} (P : A → Type 0) (test : Bool) (x y : A) → (test ≡ true → P x) → (test ≡ false → P y) → P (cond test x y)
either P true x y f g = f refl
either P false x y f g = g refl

pub is_none_true : {A : Type 0} (o : Option A) → is_none o ≡ true → o ≡ None
is_none_true None e = refl
is_none_true (Some x) e = cc

pub not_false : (a : Bool) → not a ≡ false → a ≡ true
not_false true e = refl
not_false false e = cc

pub both_true : (a b : Bool) → (a && b) ≡ true → (a ≡ true) × (b ≡ true)
both_true true b e = (refl, e)
both_true false b e = cc

module _ (setup : Setup) (most : ℕ) where
  -- an issue that nothing stops
  pub record IsGood (issue : Issue) (state : State) : Type 0 where
    pub work : is_work issue ≡ true
    pub counts : has_counts issue ≡ true
    pub in_range : is_in_range (store_size state.store) issue ≡ true
    pub no_hazard : is_hazard setup.code.version issue state.jobs ≡ false

  -- the host can pass this issue or wait
  pub record Passing (issue : Issue) (state : State) : Type 0 where
    pub next : deed setup.code.instrs state.host ≡ Passes issue
    pub may : may_step (Passes issue) state.jobs ≡ true

  -- what holds after each step that may come
  pub record Cases (P : State → Type 0) (state : State) : Type 0 where
    pub halts : deed setup.code.instrs state.host ≡ Halts → (length state.jobs == 0) ≡ true → P (at_halt state)
    pub moves : deed setup.code.instrs state.host ≡ Moves → P (with_step most (with_host_on setup state))
    pub waits : (issue : Issue) → Passing issue state → is_work issue ≡ false → P (with_step most (with_host_on setup state))
    pub bad_count : (issue : Issue) → Passing issue state → is_work issue ≡ true → has_counts issue ≡ false → P (stopped_by (BadCount state.host.place) state)
    pub out_of_range : (issue : Issue) → Passing issue state → is_work issue ≡ true → has_counts issue ≡ true → is_in_range (store_size state.store) issue ≡ false → P (stopped_by (OutOfRange state.host.place) state)
    pub meets_hazard : (issue : Issue) → Passing issue state → is_hazard setup.code.version issue state.jobs ≡ true → P (stopped_by (Hazard state.host.place state.cycles) state)
    pub issues : (issue : Issue) → Passing issue state → IsGood issue state → P (with_step most (with_work setup issue state))
    pub beats : (unit : Unit) (k : ℕ) → (k ≡ 0) ⊎ (overtakes setup.code.version unit ≡ true) → k < unfinished_count unit state.jobs → P (with_step most (after_beat setup unit k state))

  module _ (P : State → Type 0) where
    attempt_cases : (state : State) (issue : Issue) → Cases P state → Passing issue state → P (after_attempt (stop_before setup issue state) setup most issue state)
    attempt_cases state issue cases passing =
        go (is_work issue) (has_counts issue) (is_in_range (store_size state.store) issue) (is_hazard setup.code.version issue state.jobs) refl refl refl refl
      where
        tested : (work counts range hazard : Bool) → Option Stop
        tested work counts range hazard =
            cond (not work) None
            (cond (not counts) (Some (BadCount state.host.place))
            (cond (not range) (Some (OutOfRange state.host.place))
            (cond hazard (Some (Hazard state.host.place state.cycles)) None)))

        go : (work counts range hazard : Bool) → is_work issue ≡ work → has_counts issue ≡ counts → is_in_range (store_size state.store) issue ≡ range → is_hazard setup.code.version issue state.jobs ≡ hazard
            → P (after_attempt (tested work counts range hazard) setup most issue state)
        go false counts range hazard w c r h = either P (is_work issue) _ _ (λ is. cc) (λ wait. cases.waits issue passing wait)
        go true false range hazard w c r h = cases.bad_count issue passing w c
        go true true false hazard w c r h = cases.out_of_range issue passing w c r
        go true true true true w c r h = cases.meets_hazard issue passing h
        go true true true false w c r h =
            either P (is_work issue) _ _ (λ is. cases.issues issue passing (record { work = w; counts = c; in_range = r; no_hazard = h })) (λ wait. cc)

    deed_cases : (state : State) (what : Deed) → deed setup.code.instrs state.host ≡ what → may_step what state.jobs ≡ true → Cases P state → P (after_deed what setup most state)
    deed_cases state Halts is may cases = cases.halts is may
    deed_cases state Moves is may cases = cases.moves is
    deed_cases state (Passes issue) is may cases = attempt_cases state issue cases (record { next = is; may = may })

    -- a step is one of eight cases
    pub step_cases : (second : Bool) (mover : Mover) (state : State) → can_step setup mover state ≡ true → Cases P state → P (after_step setup most second mover state)
    step_cases second TheHost state can cases = deed_cases state (deed setup.code.instrs state.host) refl can cases
    step_cases second (TheUnit unit) state can cases =
        either (λ k. P (with_step most (after_beat setup unit k state))) (overtakes setup.code.version unit && (second && nat_lt 1 (unfinished_count unit state.jobs))) 1 0
        (λ both.
        let may = both_true _ _ both in
        cases.beats unit 1 (inr may.0) (ltb-true 1 (unfinished_count unit state.jobs) (both_true _ _ may.1).1))
        (λ other. cases.beats unit 0 (inl refl) (ltb-true 0 (unfinished_count unit state.jobs) can))

    module _ (steps : (state : State) → state.end ≡ None → P state → Cases P state)
        (cycle : (cycles : ℕ) (state : State) → P state → P (record state { cycles = cycles }))
        (spent : (state : State) → state.end ≡ None → nat_le most state.steps ≡ true → P state → P (stopped_by (Budget state.steps) state)) where
      turn_keeps : (grant : ℕ) (mover : Mover) (state : State) → P state → P (after_turn setup most grant mover state)
      turn_keeps grant mover state kept =
          either P (is_set grant (bit_of mover) && (is_none state.end && can_step setup mover state)) _ _
          (λ all. let both = both_true _ _ (both_true _ _ all).1 in step_cases (is_second grant mover) mover state both.1 (steps state (is_none_true state.end both.0) kept)) (λ idle. kept)

      turns_keep : (grant : ℕ) (movers : List Mover) (state : State) → P state → P (after_turns setup most grant movers state)
      turns_keep grant [] state kept = kept
      turns_keep grant (mover ∷ movers) state kept = turns_keep grant movers (after_turn setup most grant mover state) (turn_keeps grant mover state kept)

      cycle_keeps : (grant : ℕ) (state : State) → P state → P (after_cycle setup most grant state)
      cycle_keeps grant state kept =
          either P (not (is_none state.end)) _ _ (λ ended. kept)
          (λ going. either P (nat_le most state.steps) _ _ (λ gone. spent state (is_none_true state.end (not_false _ going)) gone kept)
          (λ more. turns_keep grant in_order (record state { cycles = state.cycles + 1 }) (cycle (state.cycles + 1) state kept)))

      -- a run keeps what its steps keep
      pub run_keeps : (grants : List ℕ) (state : State) → P state → P (after_cycles setup most grants state)
      run_keeps [] state kept = kept
      run_keeps (grant ∷ grants) state kept = run_keeps grants (after_cycle setup most grant state) (cycle_keeps grant state kept)
