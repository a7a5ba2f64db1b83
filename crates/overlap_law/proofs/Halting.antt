-- A run always ends; one of disciplined code whose works are in order ends at HALT, whatever the grants.
use Rattle.std.proofs.Common.{◌≡◌, ◌⊎◌, inl, inr, ◌&&◌, ◌||◌, ℕ, zero, suc, ◌+◌, ◌<◌, ◌≤◌, sym, refl, subst, ap, ◌∙◌, arith, List, [], ◌∷◌, ◌++◌, replicate, Option, Some, None, Bool, true, false, not, cond, nat_le, is_none, length}
use Rattle.std.specs.List.{list_any}
use Rattle.std.proofs.lemmas.Bool.{leb-false}
use Rattle.ven_base.specs.Store.{Store}
use Rattle.venice_isa.specs.Units.{Lanes, ReadChannel, WriteChannel}
use Rattle.venice_machine.specs.declared.stop.Stop.{Stop}
use Rattle.venice_machine.specs.declared.stop.Stop.TheVariants.{Hazard, OutOfRange, BadCount, Budget}
use Rattle.venice_machine.specs.declared.stop.End.{End}
use Rattle.venice_machine.specs.declared.stop.End.TheVariants.{Stopped}
use Rattle.venice_machine.specs.State.{Setup, State}
use Rattle.venice_machine.specs.Step.{Mover, TheHost, TheUnit, can_step, with_step, with_host_on, with_work, after_beat, after_step}
use Rattle.venice_machine.specs.Run.{is_set, bit_of, is_second, all_units, in_order, after_turn, after_turns, after_cycle, after_cycles, run}
use Rattle.venice_machine.proofs.Runs.{either, both_true, is_none_true, not_false, step_cases, run_keeps}
use Rattle.overlap_law.proofs.Steps.{IsSound, step_sound, stop_sound}
use Rattle.overlap_law.proofs.Moments.{cycles_keep, cycle_sound, begin, begin_sound}
use Rattle.overlap_law.proofs.Ends.{someone_can_step}

pub or_left : (a b : Bool) → a ≡ true → (a || b) ≡ true
or_left true b e = refl
or_left false b e = cc

pub or_right : (a b : Bool) → b ≡ true → (a || b) ≡ true
or_right true b e = refl
or_right false b e = e

-- ---- each cycle in which all may step makes a step or ends the run

abbrev pub IsStopped : Option End → Type 0
IsStopped end = (stop : Stop) × (end ≡ Some (Stopped stop))

has_ended : (end : Option End) → IsStopped end → is_none end ≡ false
has_ended end is = ap is_none is.1

abbrev pub Advances : State → State → Type 0
Advances before after = IsStopped after.end ⊎ (before.steps < after.steps)

module _ (setup : Setup) (most : ℕ) where
  step_advances : (second : Bool) (mover : Mover) (state : State) → can_step setup mover state ≡ true → Advances state (after_step setup most second mover state)
  step_advances second mover state can =
      step_cases setup most (Advances state) second mover state can (record {
        halts = λ is none. inr (omega arith);
        moves = λ is. inr (omega arith);
        waits = λ issue passing wait. inr (omega arith);
        bad_count = λ issue passing work wrong. inl (BadCount state.host.place, refl);
        out_of_range = λ issue passing work counts wrong. inl (OutOfRange state.host.place, refl);
        meets_hazard = λ issue passing meets. inl (Hazard state.host.place state.cycles, refl);
        issues = λ issue passing good. inr (omega arith);
        beats = λ unit k may some. inr (omega arith);
      })

  turns_advance : (grant : ℕ) (movers : List Mover) (before state : State) → Advances before state → Advances before (after_turns setup most grant movers state)
  turns_advance grant [] before state so_far = so_far
  turns_advance grant (mover ∷ movers) before state so_far =
      turns_advance grant movers before (after_turn setup most grant mover state)
      (either (Advances before) (is_set grant (bit_of mover) && (is_none state.end && can_step setup mover state)) (after_step setup most (is_second grant mover) mover state) state
      (λ all.
      let may = both_true (is_none state.end) (can_step setup mover state) (both_true (is_set grant (bit_of mover)) (is_none state.end && can_step setup mover state) all).1 in
      let going = may.0 in
      elim so_far [
        | inl ended ↦ let over = has_ended state.end ended in cc
        | inr more ↦ elim (step_advances (is_second grant mover) mover state may.1) [ inl ends ↦ inl ends | inr one ↦ inr (omega arith) ]
      ])
      (λ idle. so_far))

  all_granted : (mover : Mover) → is_set all_units (bit_of mover) ≡ true
  all_granted TheHost = refl
  all_granted (TheUnit Lanes) = refl
  all_granted (TheUnit ReadChannel) = refl
  all_granted (TheUnit WriteChannel) = refl

  first_turn : (movers : List Mover) (state : State) → state.end ≡ None → list_any (λ mover. can_step setup mover state) movers ≡ true → Advances state (after_turns setup most all_units movers state)
  first_turn [] state going some = cc
  first_turn (mover ∷ movers) state going some =
      go (can_step setup mover state) refl (λ e. first_turn movers state going (subst (λ b. (b || list_any (λ mover. can_step setup mover state) movers) ≡ true) e some))
    where
      here : is_none state.end ≡ true
      here = ap is_none going

      go : (can : Bool) → can_step setup mover state ≡ can → (can_step setup mover state ≡ false → Advances state (after_turns setup most all_units movers state))
          → Advances state (after_turns setup most all_units movers (cond (is_set all_units (bit_of mover) && (is_none state.end && can_step setup mover state)) (after_step setup most (is_second all_units mover) mover state) state))
      go true e rest =
          let may : (is_set all_units (bit_of mover) && (is_none state.end && can_step setup mover state)) ≡ true = cc (all_granted mover) in
          turns_advance all_units movers state _ (subst (λ test. Advances state (cond test (after_step setup most (is_second all_units mover) mover state) state)) (sym may) (step_advances (is_second all_units mover) mover state e))
      go false e rest =
          let may_not : (is_set all_units (bit_of mover) && (is_none state.end && can_step setup mover state)) ≡ false = cc (all_granted mover) in
          subst (λ test. Advances state (after_turns setup most all_units movers (cond test (after_step setup most (is_second all_units mover) mover state) state))) (sym may_not) (rest e)

  among_all : (state : State) (mover : Mover) → can_step setup mover state ≡ true → list_any (λ mover. can_step setup mover state) in_order ≡ true
  among_all state mover can =
      let a = can_step setup TheHost state in
      let b = can_step setup (TheUnit Lanes) state in
      let c = can_step setup (TheUnit ReadChannel) state in
      let d = can_step setup (TheUnit WriteChannel) state in
      go mover can a b c d refl refl refl refl
    where
      go : (mover : Mover) → can_step setup mover state ≡ true → (a b c d : Bool) → can_step setup TheHost state ≡ a → can_step setup (TheUnit Lanes) state ≡ b → can_step setup (TheUnit ReadChannel) state ≡ c → can_step setup (TheUnit WriteChannel) state ≡ d
          → (a || (b || (c || (d || false)))) ≡ true
      go TheHost can a b c d ea eb ec ed = or_left a (b || (c || (d || false))) (sym ea ∙ can)
      go (TheUnit Lanes) can a b c d ea eb ec ed = or_right a (b || (c || (d || false))) (or_left b (c || (d || false)) (sym eb ∙ can))
      go (TheUnit ReadChannel) can a b c d ea eb ec ed = or_right a (b || (c || (d || false))) (or_right b (c || (d || false)) (or_left c (d || false) (sym ec ∙ can)))
      go (TheUnit WriteChannel) can a b c d ea eb ec ed = or_right a (b || (c || (d || false))) (or_right b (c || (d || false)) (or_right c (d || false) (or_left d false (sym ed ∙ can))))

  cycle_advances : (state : State) → state.end ≡ None → (mover : Mover) × (can_step setup mover state ≡ true) → Advances state (after_cycle setup most all_units state)
  cycle_advances state going someone =
      either (Advances state) (not (is_none state.end)) _ _ (λ ended. let e : not (is_none state.end) ≡ false = ap (λ o. not (is_none o)) going in cc)
      (λ goes. either (Advances state) (nat_le most state.steps) _ _ (λ spent. inl (Budget state.steps, refl))
      (λ more. first_turn in_order (record state { cycles = state.cycles + 1 }) going (among_all state someone.0 someone.1)))

  pub ended_stays : (grants : List ℕ) (state : State) → is_none state.end ≡ false → after_cycles setup most grants state ≡ state
  ended_stays [] state ended = refl
  ended_stays (grant ∷ grants) state ended =
      either (λ next. after_cycles setup most grants next ≡ state) (not (is_none state.end)) _ _ (λ over. ended_stays grants state ended)
      (λ going. let e = not_false _ going in cc)

  -- ---- the cycles are counted

  turns_cycles : (grant : ℕ) (movers : List Mover) (state : State) → (after_turns setup most grant movers state).cycles ≡ state.cycles
  turns_cycles grant [] state = refl
  turns_cycles grant (mover ∷ movers) state =
      turns_cycles grant movers (after_turn setup most grant mover state)
      ∙ either (λ (s : State). s.cycles ≡ state.cycles) (is_set grant (bit_of mover) && (is_none state.end && can_step setup mover state)) (after_step setup most (is_second grant mover) mover state) state
      (λ so. step_cases setup most (λ s. s.cycles ≡ state.cycles) (is_second grant mover) mover state (both_true (is_none state.end) (can_step setup mover state) (both_true (is_set grant (bit_of mover)) (is_none state.end && can_step setup mover state) so).1).1
      (record {
        halts = λ is none. refl;
        moves = λ is. refl;
        waits = λ issue passing wait. refl;
        bad_count = λ issue passing work wrong. refl;
        out_of_range = λ issue passing work counts wrong. refl;
        meets_hazard = λ issue passing meets. refl;
        issues = λ issue passing good. refl;
        beats = λ unit k may some. refl;
      }))
      (λ idle. refl)

  cycle_cycles : (grant : ℕ) (state : State) → (after_cycle setup most grant state).cycles ≤ state.cycles + 1
  cycle_cycles grant state =
      either (λ (s : State). s.cycles ≤ state.cycles + 1) (not (is_none state.end)) _ _ (λ ended. omega arith)
      (λ going. either (λ (s : State). s.cycles ≤ state.cycles + 1) (nat_le most state.steps) _ _ (λ spent. omega arith)
      (λ more. omega (arith, turns_cycles grant in_order (record state { cycles = state.cycles + 1 }))))

  some_cycles : (grants : List ℕ) (state : State) → (after_cycles setup most grants state).cycles ≤ state.cycles + length grants
  some_cycles [] state = omega arith
  some_cycles (grant ∷ grants) state = omega (arith, cycle_cycles grant state, some_cycles grants (after_cycle setup most grant state))

  -- ---- a run ends

  pub cycles_join : (first second : List ℕ) (state : State) → after_cycles setup most (first ++ second) state ≡ after_cycles setup most second (after_cycles setup most first state)
  cycles_join [] second state = refl
  cycles_join (grant ∷ first) second state = cycles_join first second (after_cycle setup most grant state)

  -- a run that goes on has not yet made the most steps
  abbrev IsWithin : State → Type 0
  IsWithin state = state.end ≡ None → (state.steps < most) ⊎ (state.steps ≡ 0)

  counted_within : (state : State) → IsWithin (with_step most state)
  counted_within state =
      either (λ end. end ≡ None → (state.steps + 1 < most) ⊎ (state.steps + 1 ≡ 0)) (nat_le most (state.steps + 1)) _ _
      (λ full e. cc) (λ more e. inl (leb-false most (state.steps + 1) more))

  within_from : (grants : List ℕ) (state : State) → IsWithin state → IsWithin (after_cycles setup most grants state)
  within_from grants state within =
      run_keeps setup most IsWithin
      (λ state going within. record {
        halts = λ is none e. cc;
        moves = λ is. counted_within (with_host_on setup state);
        waits = λ issue passing wait. counted_within (with_host_on setup state);
        bad_count = λ issue passing work wrong e. cc;
        out_of_range = λ issue passing work counts wrong e. cc;
        meets_hazard = λ issue passing meets e. cc;
        issues = λ issue passing good. counted_within (with_work setup issue state);
        beats = λ unit k may some. counted_within (after_beat setup unit k state);
      })
      (λ cycles state within. within) (λ state going full within e. cc) grants state within

  module _ (some_lanes : 0 < setup.lane_count) (first : Store) where
    abbrev Sound : State → Type 0
    Sound = IsSound setup most some_lanes first

    pub sound_from : (grants : List ℕ) (state : State) → Sound state → Sound (after_cycles setup most grants state)
    sound_from grants state sound =
        cycles_keep setup most Sound (step_sound setup most some_lanes first) (cycle_sound setup most some_lanes first)
        (λ state going full sound. stop_sound setup most some_lanes first (Budget state.steps) state going sound) grants state sound

    -- so many cycles in which all may step end the run, or make as many steps
    full_cycles : (n : ℕ) (state : State) → Sound state → (is_none (after_cycles setup most (replicate n all_units) state).end ≡ false) ⊎ (state.steps + n ≤ (after_cycles setup most (replicate n all_units) state).steps)
    full_cycles zero state sound = inr (omega arith)
    full_cycles (suc n) state sound =
        go (is_none state.end) refl (full_cycles n (after_cycle setup most all_units state) (sound_from (all_units ∷ []) state sound))
      where
        stays : (state : State) → is_none state.end ≡ false → is_none (after_cycles setup most (replicate n all_units) state).end ≡ false
        stays state ended = subst (λ (s : State). is_none s.end ≡ false) (sym (ended_stays (replicate n all_units) state ended)) ended

        go : (goes : Bool) → is_none state.end ≡ goes
            → (is_none (after_cycles setup most (replicate n all_units) (after_cycle setup most all_units state)).end ≡ false) ⊎ ((after_cycle setup most all_units state).steps + n ≤ (after_cycles setup most (replicate n all_units) (after_cycle setup most all_units state)).steps)
            → (is_none (after_cycles setup most (replicate n all_units) (after_cycle setup most all_units state)).end ≡ false) ⊎ (state.steps + suc n ≤ (after_cycles setup most (replicate n all_units) (after_cycle setup most all_units state)).steps)
        go false e rest = inl (subst (λ (s : State). is_none s.end ≡ false) (sym (ended_stays (all_units ∷ replicate n all_units) state e)) e)
        go true e rest =
            elim (cycle_advances state (is_none_true state.end e) (someone_can_step setup state sound.kept.ready)) [
              | inl ended ↦ inl (stays (after_cycle setup most all_units state) (has_ended (after_cycle setup most all_units state).end ended))
              | inr one ↦ elim rest [ inl ended ↦ inl ended | inr more ↦ inr (omega arith) ]
            ]

    -- a run always ends
    pub run_ends : (grants : List ℕ) → is_none (run setup most grants (begin setup most some_lanes first)).end ≡ false
    run_ends grants =
        let here = after_cycles setup most grants (begin setup most some_lanes first) in
        let last = after_cycles setup most (replicate (most + 1) all_units) here in
        let within : IsWithin last = within_from (replicate (most + 1) all_units) here (within_from grants (begin setup most some_lanes first) (λ e. inr refl)) in
        ap (λ (s : State). is_none s.end) (cycles_join grants (replicate (most + 1) all_units) (begin setup most some_lanes first))
        ∙ go last within (full_cycles (most + 1) here (sound_from grants (begin setup most some_lanes first) (begin_sound setup most some_lanes first)))
      where
        go : (last : State) → IsWithin last → (is_none last.end ≡ false) ⊎ ((after_cycles setup most grants (begin setup most some_lanes first)).steps + (most + 1) ≤ last.steps) → is_none last.end ≡ false
        go last within (inl ended) = ended
        go last within (inr many) = answer (is_none last.end) refl
          where
            answer : (goes : Bool) → is_none last.end ≡ goes → goes ≡ false
            answer false e = refl
            answer true e = elim (within (is_none_true last.end e)) [ inl few ↦ absurd (omega arith) | inr none ↦ absurd (omega arith) ]

    -- cycles in which all may step stop the run, or are no more than the steps made in them
    few_cycles : (n : ℕ) (state : State) → Sound state
        → IsStopped (after_cycles setup most (replicate n all_units) state).end ⊎ ((after_cycles setup most (replicate n all_units) state).cycles + state.steps ≤ state.cycles + (after_cycles setup most (replicate n all_units) state).steps)
    few_cycles zero state sound = inr (omega arith)
    few_cycles (suc n) state sound = go (is_none state.end) refl (few_cycles n (after_cycle setup most all_units state) (sound_from (all_units ∷ []) state sound))
      where
        next : State
        next = after_cycle setup most all_units state

        last : State
        last = after_cycles setup most (replicate n all_units) next

        stays : IsStopped next.end → IsStopped last.end
        stays stopped = subst (λ (s : State). IsStopped s.end) (sym (ended_stays (replicate n all_units) next (has_ended next.end stopped))) stopped

        go : (goes : Bool) → is_none state.end ≡ goes → IsStopped last.end ⊎ (last.cycles + next.steps ≤ next.cycles + last.steps) → IsStopped last.end ⊎ (last.cycles + state.steps ≤ state.cycles + last.steps)
        go false e rest = let same : last ≡ state = ended_stays (all_units ∷ replicate n all_units) state e in inr (subst (λ (s : State). s.cycles + state.steps ≤ state.cycles + s.steps) (sym same) (omega arith))
        go true e rest =
            elim (cycle_advances state (is_none_true state.end e) (someone_can_step setup state sound.kept.ready)) [
              | inl ended ↦ inl (stays ended)
              | inr one ↦ elim rest [ inl stopped ↦ inl stopped | inr few ↦ inr (omega (arith, one, few, cycle_cycles all_units state)) ]
            ]

    -- a run that isn't stopped has no more cycles than steps and grants
    pub run_cycles : (grants : List ℕ) → IsStopped (run setup most grants (begin setup most some_lanes first)).end
        ⊎ ((run setup most grants (begin setup most some_lanes first)).cycles ≤ (run setup most grants (begin setup most some_lanes first)).steps + length grants)
    run_cycles grants =
        let here = after_cycles setup most grants (begin setup most some_lanes first) in
        let whole = cycles_join grants (replicate (most + 1) all_units) (begin setup most some_lanes first) in
        let few : here.cycles ≤ length grants = omega (arith, some_cycles grants (begin setup most some_lanes first)) in
        subst (λ (s : State). IsStopped s.end ⊎ (s.cycles ≤ s.steps + length grants)) (sym whole)
        (elim (few_cycles (most + 1) here (sound_from grants (begin setup most some_lanes first) (begin_sound setup most some_lanes first))) [
          | inl stopped ↦ inl stopped
          | inr some ↦ inr (omega (arith, few, some))
        ])
