-- Cycles: what the machine shows after one, that an ended run stays, and that a cycle in which all may step makes a step or
-- ends the run.
use Rattle.std.proofs.Common.{◌≡◌, ◌⊎◌, inl, inr, ℕ, zero, suc, ◌+◌, ◌<◌, ◌≤◌, sym, refl, ap, ◌∙◌, subst, arith, List, [], ◌∷◌, ◌++◌, length, replicate, take, slice_index, IsTrue, ◌-◌, Option, Some, None, Bool, true, false, cond, not, ◌&&◌, nat_lt, nat_le, is_none, is_some}
use Rattle.std.proofs.lemmas.Bool.{true≢false, le-leb, lt-leb}
use Rattle.std.proofs.lemmas.List.{take_more}
use Rattle.venice_isa.specs.declared.issue.Issue.TheVariants.{Vector, Read, Write, RWait, WWait, VWait, TWait}
use Rattle.venice_isa.specs.declared.host.Deed.{Deed}
use Rattle.venice_isa.specs.declared.host.Deed.TheVariants.{Halts, Moves, Passes}
use Rattle.venice_isa.specs.Host.{deed}
use Rattle.venice_isa.specs.Units.{Lanes, ReadChannel, WriteChannel}
use Rattle.venice_machine.specs.declared.stop.Stop.TheVariants.{Hazard, OutOfRange, BadCount, Budget}
use Rattle.venice_machine.specs.declared.stop.End.{End}
use Rattle.venice_machine.specs.declared.stop.End.TheVariants.{Stopped}
use Rattle.venice_machine.specs.State.{Setup, State, Jobs, unfinished_count}
use Rattle.venice_machine.specs.Step.{Mover, TheHost, TheUnit, may_step, can_step, after_step, stopped_by}
use Rattle.venice_machine.specs.Run.{is_set, bit_of, is_second, all_units, in_order, after_turn, after_turns, after_cycle, after_cycles}
use Rattle.venice_machine.specs.Units.{bits_of_turns, units_of, cycle_answer}
use Rattle.venice_machine.specs.declared.stop.Cycle.{Cycle}
use Rattle.venice_machine.specs.Machine.{MachineContents, Shows}
use Rattle.venice_machine.proofs.Divided.{AreWorks, length_of_units}
use Rattle.venice_machine.proofs.Runs.{either, step_cases, is_none_true}

module _ (setup : Setup) (most : ℕ) where
  -- ---- one cycle

  abbrev counted_cycle : State → State
  counted_cycle state = record state { cycles = state.cycles + 1 }

  abbrev spent : State → State
  spent state = stopped_by (Budget state.steps) state

  pub going_cycle : (grant : ℕ) (state : State) → state.end ≡ None → nat_le most state.steps ≡ false → after_cycle setup most grant state ≡ after_turns setup most grant in_order (counted_cycle state)
  going_cycle grant state going more =
      ap (λ (end : Option End). cond (not (is_none end)) state (cond (nat_le most state.steps) (spent state) (after_turns setup most grant in_order (counted_cycle state)))) going
      ∙ ap (λ b. cond b (spent state) (after_turns setup most grant in_order (counted_cycle state))) more

  pub going_units : (grant : ℕ) (state : State) → state.end ≡ None → nat_le most state.steps ≡ false → units_of setup most grant state ≡ bits_of_turns setup most grant in_order (counted_cycle state)
  going_units grant state going more =
      ap (λ (end : Option End). cond (not (is_none end)) 0 (cond (nat_le most state.steps) 0 (bits_of_turns setup most grant in_order (counted_cycle state)))) going
      ∙ ap (λ b. cond b 0 (bits_of_turns setup most grant in_order (counted_cycle state))) more

  -- ---- an ended run

  pub ended_cycle : (grant : ℕ) (state : State) (end : End) → state.end ≡ Some end → after_cycle setup most grant state ≡ state
  ended_cycle grant state end is = ap (λ (end : Option End). cond (not (is_none end)) state (cond (nat_le most state.steps) (spent state) (after_turns setup most grant in_order (counted_cycle state)))) is

  pub ended_stays : (grants : List ℕ) (state : State) (end : End) → state.end ≡ Some end → after_cycles setup most grants state ≡ state
  ended_stays [] state end is = refl
  ended_stays (grant ∷ grants) state end is = ap (after_cycles setup most grants) (ended_cycle grant state end is) ∙ ended_stays grants state end is

  pub cycles_more : (first then : List ℕ) (state : State) → after_cycles setup most (first ++ then) state ≡ after_cycles setup most then (after_cycles setup most first state)
  cycles_more [] then state = refl
  cycles_more (grant ∷ first) then state = cycles_more first then (after_cycle setup most grant state)

  -- ---- steps

  -- the run has ended, or more steps were made
  abbrev pub Advanced : (steps : ℕ) → State → Type 0
  Advanced steps state = (state.end ≡ None → ⊥) ⊎ (steps < state.steps)

  some_end : (end : End) → Some end ≡ None → ⊥
  some_end end e = cc

  step_advances : (second : Bool) (mover : Mover) (state : State) → can_step setup mover state ≡ true → Advanced state.steps (after_step setup most second mover state)
  step_advances second mover state can =
      step_cases setup most (Advanced state.steps) second mover state can
      (record {
        halts = λ is idle. inr (omega arith);
        moves = λ is. inr (omega arith);
        waits = λ issue passing isnt. inr (omega arith);
        bad_count = λ issue passing is none. inl (λ e. some_end (Stopped (BadCount state.host.place)) e);
        out_of_range = λ issue passing is counts outside. inl (λ e. some_end (Stopped (OutOfRange state.host.place)) e);
        meets_hazard = λ issue passing hazard. inl (λ e. some_end (Stopped (Hazard state.host.place state.cycles)) e);
        issues = λ issue passing good. inr (omega arith);
        beats = λ unit k may below. inr (omega arith);
      })

  -- a turn keeps it
  turn_keeps : (grant steps : ℕ) (mover : Mover) (state : State) → Advanced steps state → Advanced steps (after_turn setup most grant mover state)
  turn_keeps grant steps mover state advanced =
      either (Advanced steps) (is_set grant (bit_of mover) && (is_none state.end && can_step setup mover state)) _ _ (λ all. go all advanced) (λ idle. advanced)
    where
      parts : (a b c : Bool) → (a && (b && c)) ≡ true → (b ≡ true) × (c ≡ true)
      parts true true c all = (refl, all)
      parts true false c all = cc
      parts false b c all = cc

      later : steps < state.steps → Advanced state.steps (after_step setup most (is_second grant mover) mover state) → Advanced steps (after_step setup most (is_second grant mover) mover state)
      later more (inl ended) = inl ended
      later more (inr further) = inr (omega (arith, more, further))

      go : (is_set grant (bit_of mover) && (is_none state.end && can_step setup mover state)) ≡ true → Advanced steps state → Advanced steps (after_step setup most (is_second grant mover) mover state)
      go all (inl ended) = absurd (ended (is_none_true state.end (parts _ _ _ all).0))
      go all (inr more) = later more (step_advances (is_second grant mover) mover state (parts _ _ _ all).1)

  turns_keep : (grant steps : ℕ) (movers : List Mover) (state : State) → Advanced steps state → Advanced steps (after_turns setup most grant movers state)
  turns_keep grant steps [] state advanced = advanced
  turns_keep grant steps (mover ∷ movers) state advanced = turns_keep grant steps movers (after_turn setup most grant mover state) (turn_keeps grant steps mover state advanced)

  -- one that can step does so where all may
  turn_made : (mover : Mover) (state : State) → is_set all_units (bit_of mover) ≡ true → state.end ≡ None → can_step setup mover state ≡ true → Advanced state.steps (after_turn setup most all_units mover state)
  turn_made mover state granted going can =
      subst (Advanced state.steps)
      (sym (ap (λ b. cond (b && (is_none state.end && can_step setup mover state)) (after_step setup most (is_second all_units mover) mover state) state) granted
      ∙ ap (λ (end : Option End). cond (is_none end && can_step setup mover state) (after_step setup most (is_second all_units mover) mover state) state) going
      ∙ ap (λ b. cond b (after_step setup most (is_second all_units mover) mover state) state) can))
      (step_advances (is_second all_units mover) mover state can)

  pub turn_idle : (mover : Mover) (state : State) → can_step setup mover state ≡ false → after_turn setup most all_units mover state ≡ state
  turn_idle mover state cannot =
      ap (λ b. cond (is_set all_units (bit_of mover) && (is_none state.end && b)) (after_step setup most (is_second all_units mover) mover state) state) cannot
      ∙ none (is_set all_units (bit_of mover)) (is_none state.end)
    where
      none : (a b : Bool) → cond (a && (b && false)) (after_step setup most (is_second all_units mover) mover state) state ≡ state
      none true true = refl
      none true false = refl
      none false b = refl

  -- where nothing is unfinished the host can step
  host_steps : (what : Deed) → may_step what [] ≡ true
  host_steps Halts = refl
  host_steps Moves = refl
  host_steps (Passes (Vector work)) = refl
  host_steps (Passes (Read work)) = refl
  host_steps (Passes (Write work)) = refl
  host_steps (Passes (RWait count)) = le-leb 0 count (omega arith)
  host_steps (Passes (WWait count)) = le-leb 0 count (omega arith)
  host_steps (Passes VWait) = refl
  host_steps (Passes (TWait tag)) = refl

  no_jobs : (jobs : Jobs) → length jobs ≡ 0 → jobs ≡ []
  no_jobs [] none = refl
  no_jobs (job ∷ jobs) none = absurd (omega (arith, none))

  -- one after another: the first that can step
  first_turn : (mover : Mover) (movers : List Mover) (state : State) → is_set all_units (bit_of mover) ≡ true → state.end ≡ None
      → (can_step setup mover state ≡ false → Advanced state.steps (after_turns setup most all_units movers state))
      → Advanced state.steps (after_turns setup most all_units (mover ∷ movers) state)
  first_turn mover movers state granted going others = go (can_step setup mover state) refl
    where
      go : (can : Bool) → can_step setup mover state ≡ can → Advanced state.steps (after_turns setup most all_units movers (after_turn setup most all_units mover state))
      go true can = turns_keep all_units state.steps movers (after_turn setup most all_units mover state) (turn_made mover state granted going can)
      go false cannot = subst (λ next. Advanced state.steps (after_turns setup most all_units movers next)) (sym (turn_idle mover state cannot)) (others cannot)

  all_turns : (state : State) → AreWorks state.jobs → state.end ≡ None → Advanced state.steps (after_turns setup most all_units in_order state)
  all_turns state are going =
      first_turn TheHost (TheUnit Lanes ∷ TheUnit ReadChannel ∷ TheUnit WriteChannel ∷ []) state refl going (λ host.
      first_turn (TheUnit Lanes) (TheUnit ReadChannel ∷ TheUnit WriteChannel ∷ []) state refl going (λ lanes.
      first_turn (TheUnit ReadChannel) (TheUnit WriteChannel ∷ []) state refl going (λ reads.
      first_turn (TheUnit WriteChannel) [] state refl going (λ writes.
      absurd (stuck host lanes reads writes)))))
    where
      none : (n : ℕ) → nat_lt 0 n ≡ false → n ≡ 0
      none n e = grind (arith, e)

      stuck : can_step setup TheHost state ≡ false → nat_lt 0 (unfinished_count Lanes state.jobs) ≡ false → nat_lt 0 (unfinished_count ReadChannel state.jobs) ≡ false
          → nat_lt 0 (unfinished_count WriteChannel state.jobs) ≡ false → ⊥
      stuck host lanes reads writes =
          let empty : length state.jobs ≡ 0 = omega (arith, length_of_units state.jobs are, none _ lanes, none _ reads, none _ writes) in
          true≢false (sym (ap (may_step (deed setup.code.instrs state.host)) (no_jobs state.jobs empty) ∙ host_steps (deed setup.code.instrs state.host)) ∙ host)

  -- a cycle in which all may step makes a step, or ends the run
  pub full_cycle_advances : (state : State) → AreWorks state.jobs → state.end ≡ None → Advanced state.steps (after_cycle setup most all_units state)
  full_cycle_advances state are going =
      subst (Advanced state.steps) (sym (ap (λ (end : Option End). cond (not (is_none end)) state (cond (nat_le most state.steps) (spent state) (after_turns setup most all_units in_order (counted_cycle state)))) going))
      (either (Advanced state.steps) (nat_le most state.steps) (spent state) (after_turns setup most all_units in_order (counted_cycle state)) (λ gone. inl (λ e. some_end (Stopped (Budget state.steps)) e)) (λ more. all_turns (counted_cycle state) are going))

-- ---- many cycles

module _ (setup : Setup) (most : ℕ) where
  pub one_more : (grants : List ℕ) (k : ℕ) (state : State) → k < length grants
      → after_cycles setup most (take (k + 1) grants) state ≡ after_cycle setup most (slice_index grants k) (after_cycles setup most (take k grants) state)
  one_more grants k state below =
      ap (λ grants. after_cycles setup most grants state) (take_more grants k 0 below) ∙ cycles_more setup most (take k grants) (slice_index grants k ∷ []) state

  split : (k m : ℕ) → replicate (k + m) all_units ≡ replicate k all_units ++ replicate m all_units
  split zero m = ap (λ n. replicate n all_units) (omega arith)
  split (suc k) m = let next : suc k + m ≡ suc (k + m) = omega arith in ap (λ n. replicate n all_units) next ∙ ap (λ more. all_units ∷ more) (split k m)

  pub many_more : (k n : ℕ) (state : State) → after_cycles setup most (replicate (k + n) all_units) state ≡ after_cycles setup most (replicate n all_units) (after_cycles setup most (replicate k all_units) state)
  many_more k n state = ap (λ grants. after_cycles setup most grants state) (split k n) ∙ cycles_more setup most (replicate k all_units) (replicate n all_units) state

  pub ended_rest : (k n : ℕ) (state : State) (end : End) → k ≤ n → (after_cycles setup most (replicate k all_units) state).end ≡ Some end
      → after_cycles setup most (replicate n all_units) state ≡ after_cycles setup most (replicate k all_units) state
  ended_rest k n state end le is =
      let sum : n ≡ k + (n - k) = omega (arith, le) in
      ap (λ n. after_cycles setup most (replicate n all_units) state) sum ∙ ap (λ grants. after_cycles setup most grants state) (split k (n - k))
      ∙ cycles_more setup most (replicate k all_units) (replicate (n - k) all_units) state
      ∙ ended_stays setup most (replicate (n - k) all_units) (after_cycles setup most (replicate k all_units) state) end is

pub some_is : (end : Option End) → IsTrue (is_some end) → (e : End) × (end ≡ Some e)
some_is None is = cc
some_is (Some e) is = (e, refl)

-- ---- the machine's cycle

pub none_is : (end : Option End) → false ≡ is_some end → end ≡ None
none_is None e = refl
none_is (Some end) e = cc

module _ (machine : MachineContents) (most grant : ℕ) (going : machine.end ≡ None) (more : machine.steps < most) where
  abbrev counted_machine : MachineContents
  counted_machine = record machine { cycles = machine.cycles + 1 }

  module _ (state : State) (shows : Shows machine state) where
    next_shown : Shows counted_machine (counted_cycle machine.setup most state)
    next_shown = record { host = shows.host; jobs = shows.jobs; store = shows.store; issues = shows.issues; steps = shows.steps; cycles = ap (λ n. n + 1) shows.cycles; end = shows.end }

    state_going : state.end ≡ None
    state_going = shows.end ∙ going

    state_more : nat_le most state.steps ≡ false
    state_more = ap (nat_le most) shows.steps ∙ lt-leb most machine.steps more

    pub cycle_shown : (new : MachineContents) → ((state : State) → Shows counted_machine state → Shows new (after_turns machine.setup most grant in_order state)) → Shows new (after_cycle machine.setup most grant state)
    cycle_shown new turns = subst (Shows new) (sym (going_cycle machine.setup most grant state state_going state_more)) (turns (counted_cycle machine.setup most state) next_shown)

    pub cycle_answered : (new : MachineContents) (units : ℕ) (answer : Cycle) → ((state : State) → Shows counted_machine state → Shows new (after_turns machine.setup most grant in_order state))
        → ((state : State) → Shows counted_machine state → units ≡ bits_of_turns machine.setup most grant in_order state)
        → answer ≡ cycle_answer new.end units → answer ≡ cycle_answer (after_cycle machine.setup most grant state).end (units_of machine.setup most grant state)
    cycle_answered new units answer turns bits is =
        is ∙ ap (λ end. cycle_answer end units) (sym (cycle_shown new turns).end)
        ∙ ap (cycle_answer (after_cycle machine.setup most grant state).end) (bits (counted_cycle machine.setup most state) next_shown ∙ sym (going_units machine.setup most grant state state_going state_more))
