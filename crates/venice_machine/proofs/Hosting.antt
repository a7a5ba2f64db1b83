-- The machine shows, after the host's turn, the state after it.
use Rattle.std.proofs.Common.{◌≡◌, ℕ, ◌+◌, sym, refl, ap, ◌∙◌, subst, Option, Some, None, Bool, true, false, cond, not}
use Rattle.std.proofs.lemmas.Bool.{ltb-true}
use Rattle.venice_isa.specs.declared.issue.Issue.{Issue}
use Rattle.venice_isa.specs.declared.issue.Issue.TheVariants.{Vector, Read, Write, RWait, WWait, VWait, TWait}
use Rattle.venice_isa.specs.declared.host.Deed.{Deed}
use Rattle.venice_isa.specs.declared.host.Deed.TheVariants.{Halts, Moves, Passes}
use Rattle.venice_isa.specs.declared.host.HostState.{HostState}
use Rattle.venice_isa.specs.HostState.{host_of}
use Rattle.venice_isa.specs.Host.{deed, next}
use Rattle.venice_isa.specs.Units.{is_work}
use Rattle.host_core.specs.declared.waiting.Waiting.{Waiting}
use Rattle.host_core.specs.declared.step.Step.{Step}
use Rattle.host_core.specs.declared.step.Step.TheVariants.{Issued, Moved, Waits, Halted as StepHalted}
use Rattle.host_core.specs.Pass.{lets_go_on}
use Rattle.host_core.specs.Step.{step_of, step_made, host_after, wanted_by}
use Rattle.venice_machine.specs.declared.stop.Stop.{Stop}
use Rattle.venice_machine.specs.declared.stop.End.TheVariants.{Halted, Stopped}
use Rattle.venice_machine.specs.State.{State}
use Rattle.venice_machine.specs.Step.{TheHost, may_step, stop_before, with_step, with_host_on, with_work, at_halt, after_deed, after_attempt}
use Rattle.venice_machine.specs.Machine.{Queues, MachineContents, ShowsJobs, Shows}
use Rattle.venice_machine.specs.Kept.{AllNumbered, HasPlaceFor, queues_with, waiting_in, counted, after_chance}
use Rattle.venice_machine.proofs.Shown.{host_may, issue_shown}
use Rattle.venice_machine.proofs.Turning.{step_shown}
use Rattle.venice_machine.proofs.Runs.{either}

-- ---- what the step is told by its answer

pub data IsStep (waiting : Waiting) (what : Deed) (step : Step) : Type 0 where
  waits : lets_go_on waiting what ≡ false → step ≡ Waits → IsStep waiting what step
  halts : lets_go_on waiting what ≡ true → what ≡ Halts → step ≡ StepHalted → IsStep waiting what step
  moves : lets_go_on waiting what ≡ true → what ≡ Moves → step ≡ Moved → IsStep waiting what step
  passes_wait : lets_go_on waiting what ≡ true → (issue : Issue) → what ≡ Passes issue → is_work issue ≡ false → step ≡ Moved → IsStep waiting what step
  issues : lets_go_on waiting what ≡ true → (issue : Issue) → what ≡ Passes issue → is_work issue ≡ true → step ≡ Issued issue → IsStep waiting what step

passed : (waiting : Waiting) (issue : Issue) → lets_go_on waiting (Passes issue) ≡ true → IsStep waiting (Passes issue) (step_made (Passes issue))
passed waiting (Vector work) may = issues may (Vector work) refl refl refl
passed waiting (Read work) may = issues may (Read work) refl refl refl
passed waiting (Write work) may = issues may (Write work) refl refl refl
passed waiting (RWait most) may = passes_wait may (RWait most) refl refl refl
passed waiting (WWait most) may = passes_wait may (WWait most) refl refl refl
passed waiting VWait may = passes_wait may VWait refl refl refl
passed waiting (TWait tag) may = passes_wait may (TWait tag) refl refl refl

made : (waiting : Waiting) (what : Deed) → lets_go_on waiting what ≡ true → IsStep waiting what (step_made what)
made waiting Halts may = halts may refl refl
made waiting Moves may = moves may refl refl
made waiting (Passes issue) may = passed waiting issue may

pub told : (waiting : Waiting) (what : Deed) → IsStep waiting what (step_of waiting what)
told waiting what = go (lets_go_on waiting what) refl
  where
    go : (may : Bool) → lets_go_on waiting what ≡ may → IsStep waiting what (cond may (step_made what) Waits)
    go true may = made waiting what may
    go false may = waits may refl

-- a host that may not go on waits
pub waits_by : (waiting : Waiting) (what : Deed) → true ≡ not (lets_go_on waiting what) → step_of waiting what ≡ Waits
waits_by waiting what e = go (lets_go_on waiting what) (sym e)
  where
    go : (may : Bool) → not may ≡ true → cond may (step_made what) Waits ≡ Waits
    go true e = cc
    go false e = refl

-- answers are different
other_step : Waits ≡ StepHalted → ⊥
other_step e = cc

moved_waits : Moved ≡ Waits → ⊥
moved_waits e = cc

moved_halted : Moved ≡ StepHalted → ⊥
moved_halted e = cc

issued_waits : (issue : Issue) → Issued issue ≡ Waits → ⊥
issued_waits issue e = cc

issued_halted : (issue : Issue) → Issued issue ≡ StepHalted → ⊥
issued_halted issue e = cc

issued_moved : (issue : Issue) → Issued issue ≡ Moved → ⊥
issued_moved issue e = cc

abbrev issue_in : Issue → Step → Issue
issue_in other (Issued issue) = issue
issue_in other Moved = other
issue_in other Waits = other
issue_in other StepHalted = other

not_both : (b : Bool) → not b ≡ false → b ≡ false → ⊥
not_both true e f = cc
not_both false e f = cc

-- a work that is issued has a place
pub has_place : (wanted : Option ℕ) (queues : Queues) (what : Deed) (issue : Issue) → step_of (waiting_in wanted queues) what ≡ Issued issue → HasPlaceFor issue queues
has_place wanted queues what issue is = go (told (waiting_in wanted queues) what)
  where
    places : (issue : Issue) → lets_go_on (waiting_in wanted queues) (Passes issue) ≡ true → HasPlaceFor issue queues
    places (Vector work) may = ltb-true _ _ may
    places (Read work) may = ltb-true _ _ may
    places (Write work) may = ltb-true _ _ may
    places (RWait most) may = tt
    places (WWait most) may = tt
    places VWait may = tt
    places (TWait tag) may = tt

    go : IsStep (waiting_in wanted queues) what (step_of (waiting_in wanted queues) what) → HasPlaceFor issue queues
    go (waits may e) = absurd (issued_waits issue (sym (sym e ∙ is)))
    go (halts may d e) = absurd (issued_halted issue (sym is ∙ e))
    go (moves may d e) = absurd (issued_moved issue (sym is ∙ e))
    go (passes_wait may other d isnt e) = absurd (issued_moved issue (sym is ∙ e))
    go (issues may other d work e) =
        let same : other ≡ issue = ap (issue_in issue) (sym e ∙ is) in
        subst (λ issue. HasPlaceFor issue queues) same (places other (sym (ap (lets_go_on (waiting_in wanted queues)) d) ∙ may))

-- ---- the machine's host

module _ (machine : MachineContents) (numbered : AllNumbered machine.queues) (most : ℕ) where
  abbrev what : Deed
  what = deed machine.setup.code.instrs (host_of machine.host)

  abbrev waiting : Waiting
  waiting = waiting_in (wanted_by what) machine.queues

  abbrev After : State → State
  After state = after_chance machine.setup most false TheHost state

  module _ (state : State) (shows : Shows machine state) where
    same_deed : deed machine.setup.code.instrs state.host ≡ what
    same_deed = ap (deed machine.setup.code.instrs) shows.host

    may_same : may_step (deed machine.setup.code.instrs state.host) state.jobs ≡ lets_go_on waiting what
    may_same = ap (λ d. may_step d state.jobs) same_deed ∙ sym (host_may machine.queues state.jobs shows.jobs numbered what)

    after_is : lets_go_on waiting what ≡ true → After state ≡ after_deed what machine.setup most state
    after_is may =
        ap (λ b. cond b (after_deed (deed machine.setup.code.instrs state.host) machine.setup most state) state) (may_same ∙ may)
        ∙ ap (λ d. after_deed d machine.setup most state) same_deed

    after_wait : lets_go_on waiting what ≡ false → After state ≡ state
    after_wait may = ap (λ b. cond b (after_deed (deed machine.setup.code.instrs state.host) machine.setup most state) state) (may_same ∙ may)

    -- waits
    pub waits_shown : step_of waiting what ≡ Waits → Shows machine (After state)
    waits_shown is = go (told waiting what)
      where
        go : IsStep waiting what (step_of waiting what) → Shows machine (After state)
        go (waits may e) = subst (Shows machine) (sym (after_wait may)) shows
        go (halts may d e) = absurd (other_step (sym is ∙ e))
        go (moves may d e) = absurd (moved_waits (sym e ∙ is))
        go (passes_wait may issue d isnt e) = absurd (moved_waits (sym e ∙ is))
        go (issues may issue d work e) = absurd (issued_waits issue (sym e ∙ is))

    -- HALT
    pub halted_shown : step_of waiting what ≡ StepHalted → Shows (record machine { steps = machine.steps + 1; end = Some Halted }) (After state)
    halted_shown is = go (told waiting what)
      where
        there : Shows (record machine { steps = machine.steps + 1; end = Some Halted }) (at_halt state)
        there = record { host = shows.host; jobs = shows.jobs; store = shows.store; issues = shows.issues; steps = ap (λ n. n + 1) shows.steps; cycles = shows.cycles; end = refl }

        go : IsStep waiting what (step_of waiting what) → Shows (record machine { steps = machine.steps + 1; end = Some Halted }) (After state)
        go (halts may d e) = subst (Shows (record machine { steps = machine.steps + 1; end = Some Halted })) (sym (after_is may ∙ ap (λ d. after_deed d machine.setup most state) d)) there
        go (waits may e) = absurd (other_step (sym e ∙ is))
        go (moves may d e) = absurd (moved_halted (sym e ∙ is))
        go (passes_wait may issue d isnt e) = absurd (moved_halted (sym e ∙ is))
        go (issues may issue d work e) = absurd (issued_halted issue (sym e ∙ is))

    -- what concerns the host alone, and waits
    host_on : lets_go_on waiting what ≡ true → (host : HostState) → host_of host ≡ host_after waiting machine.setup.code.instrs (host_of machine.host) → next machine.setup.code.instrs state.host ≡ host_of host
    host_on may host on =
        ap (next machine.setup.code.instrs) shows.host
        ∙ sym (on ∙ ap (λ b. cond b (next machine.setup.code.instrs (host_of machine.host)) (host_of machine.host)) may)

    on_shown : lets_go_on waiting what ≡ true → (host : HostState) → host_of host ≡ host_after waiting machine.setup.code.instrs (host_of machine.host)
        → (new : MachineContents) → new ≡ counted most (record machine { host = host }) → Shows new (with_step most (with_host_on machine.setup state))
    on_shown may host on new new_is =
        subst (λ new. Shows new (with_step most (with_host_on machine.setup state))) (sym new_is)
        (step_shown most (record machine { host = host }) (with_host_on machine.setup state)
        (record { host = host_on may host on; jobs = shows.jobs; store = shows.store; issues = shows.issues; steps = shows.steps; cycles = shows.cycles; end = shows.end }))

    wait_passed : (issue : Issue) → is_work issue ≡ false → after_deed (Passes issue) machine.setup most state ≡ with_step most (with_host_on machine.setup state)
    wait_passed issue isnt =
        either (λ stop. after_attempt stop machine.setup most issue state ≡ after_attempt None machine.setup most issue state) (not (is_work issue)) None _ (λ _. refl) (λ work. absurd (not_both (is_work issue) work isnt))
        ∙ ap (λ b. cond b (with_step most (with_work machine.setup issue state)) (with_step most (with_host_on machine.setup state))) isnt

    pub moved_shown : step_of waiting what ≡ Moved → (host : HostState) → host_of host ≡ host_after waiting machine.setup.code.instrs (host_of machine.host)
        → (new : MachineContents) → new ≡ counted most (record machine { host = host }) → Shows new (After state)
    moved_shown is host on new new_is = go (told waiting what)
      where
        go : IsStep waiting what (step_of waiting what) → Shows new (After state)
        go (moves may d e) = subst (Shows new) (sym (after_is may ∙ ap (λ d. after_deed d machine.setup most state) d)) (on_shown may host on new new_is)
        go (passes_wait may issue d isnt e) = subst (Shows new) (sym (after_is may ∙ ap (λ d. after_deed d machine.setup most state) d ∙ wait_passed issue isnt)) (on_shown may host on new new_is)
        go (waits may e) = absurd (moved_waits (sym (sym e ∙ is)))
        go (halts may d e) = absurd (moved_halted (sym (sym e ∙ is)))
        go (issues may issue d work e) = absurd (issued_moved issue (sym e ∙ is))

    -- issues
    pub record Issues (issue : Issue) : Type 0 where
      pub may : lets_go_on waiting what ≡ true
      pub passes : what ≡ Passes issue
      pub work : is_work issue ≡ true

    pub issues_it : (issue : Issue) → step_of waiting what ≡ Issued issue → Issues issue
    issues_it issue is = go (told waiting what)
      where
        go : IsStep waiting what (step_of waiting what) → Issues issue
        go (waits may e) = absurd (issued_waits issue (sym (sym e ∙ is)))
        go (halts may d e) = absurd (issued_halted issue (sym is ∙ e))
        go (moves may d e) = absurd (issued_moved issue (sym is ∙ e))
        go (passes_wait may other d isnt e) = absurd (issued_moved issue (sym is ∙ e))
        go (issues may other d work e) =
            let same : other ≡ issue = ap (issue_in issue) (sym e ∙ is) in
            record { may = may; passes = d ∙ ap (λ i. Passes i) same; work = sym (ap is_work same) ∙ work }

    passed_is : (issue : Issue) → Issues issue → (stop : Option Stop) → stop_before machine.setup issue state ≡ stop → After state ≡ after_attempt stop machine.setup most issue state
    passed_is issue it stop stops =
        after_is it.may ∙ ap (λ d. after_deed d machine.setup most state) it.passes ∙ ap (λ stop. after_attempt stop machine.setup most issue state) stops

    pub stopped_shown : (issue : Issue) → step_of waiting what ≡ Issued issue → (stop : Stop) → stop_before machine.setup issue state ≡ Some stop
        → Shows (record machine { end = Some (Stopped stop) }) (After state)
    stopped_shown issue is stop stops =
        subst (Shows (record machine { end = Some (Stopped stop) })) (sym (passed_is issue (issues_it issue is) (Some stop) stops))
        (record { host = shows.host; jobs = shows.jobs; store = shows.store; issues = shows.issues; steps = shows.steps; cycles = shows.cycles; end = refl })

    with_issue_shown : (issue : Issue) → Issues issue → (host : HostState) → host_of host ≡ host_after waiting machine.setup.code.instrs (host_of machine.host)
        → Shows (record machine { host = host; queues = queues_with issue (machine.issues + 1) machine.queues; issues = machine.issues + 1 }) (with_work machine.setup issue state)
    with_issue_shown issue it host on = record {
      host = host_on it.may host on;
      jobs = subst (λ n. ShowsJobs (queues_with issue (n + 1) machine.queues) (with_work machine.setup issue state).jobs) shows.issues
          (issue_shown machine.queues state.jobs shows.jobs numbered machine.setup.lane_count (state.issues + 1) issue it.work);
      store = shows.store;
      issues = ap (λ n. n + 1) shows.issues;
      steps = shows.steps;
      cycles = shows.cycles;
      end = shows.end;
    }

    pub issued_shown : (issue : Issue) → step_of waiting what ≡ Issued issue → stop_before machine.setup issue state ≡ None → (host : HostState) → host_of host ≡ host_after waiting machine.setup.code.instrs (host_of machine.host)
        → (new : MachineContents) → new ≡ counted most (record machine { host = host; queues = queues_with issue (machine.issues + 1) machine.queues; issues = machine.issues + 1 }) → Shows new (After state)
    issued_shown issue is none host on new new_is =
        let it = issues_it issue is in
        subst (Shows new)
        (sym (passed_is issue it None none ∙ ap (λ b. cond b (with_step most (with_work machine.setup issue state)) (with_step most (with_host_on machine.setup state))) it.work))
        (subst (λ new. Shows new (with_step most (with_work machine.setup issue state))) (sym new_is)
        (step_shown most _ (with_work machine.setup issue state) (with_issue_shown issue it host on)))
