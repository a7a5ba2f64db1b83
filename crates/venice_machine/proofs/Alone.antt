-- Cycles in which the host alone can step.
use Rattle.std.proofs.Common.{◌≡◌, ◌∙◌, ℕ, ◌+◌, ◌<◌, ◌&&◌, ◌==◌, arith, sym, refl, ap, subst, [], ◌∷◌, Option, None, true, false, cond, nat_lt, is_none}
use Rattle.venice_isa.specs.declared.host.Deed.{Deed}
use Rattle.venice_isa.specs.declared.host.Deed.TheVariants.{Halts, Moves, Passes}
use Rattle.venice_isa.specs.declared.host.HostState.{HostState}
use Rattle.venice_isa.specs.Host.{deed, next}
use Rattle.venice_isa.specs.HostState.{host_of}
use Rattle.venice_isa.specs.Units.{Unit, Lanes, ReadChannel, WriteChannel}
use Rattle.host_core.specs.declared.waiting.Waiting.{Waiting}
use Rattle.host_core.specs.declared.step.Step.TheVariants.{Moved}
use Rattle.host_core.specs.Pass.{is_idle, lets_go_on}
use Rattle.host_core.specs.Step.{moves, step_of, host_after, wanted_by}
use Rattle.venice_machine.specs.declared.stop.End.{End}
use Rattle.venice_machine.specs.State.{Setup, State, unfinished_count}
use Rattle.venice_machine.specs.Step.{TheHost, TheUnit, can_step, after_step}
use Rattle.venice_machine.specs.Run.{all_units, in_order, after_turn, after_turns, after_cycle}
use Rattle.venice_machine.specs.Machine.{MachineContents, Shows}
use Rattle.venice_machine.specs.Kept.{AllNumbered, waiting_in, counted, after_chance}
use Rattle.venice_machine.proofs.Runs.{both_true}
use Rattle.venice_machine.proofs.Shown.{lanes_count, reads_count, writes_count}
use Rattle.venice_machine.proofs.Hosting.{moved_shown}
use Rattle.venice_machine.proofs.Cycling.{turn_idle, cycle_shown}

module _ (setup : Setup) (most : ℕ) where
  -- a unit with an empty queue makes no step
  unit_idle : (unit : Unit) (state : State) → unfinished_count unit state.jobs ≡ 0 → after_turn setup most all_units (TheUnit unit) state ≡ state
  unit_idle unit state none = turn_idle setup most (TheUnit unit) state (ap (nat_lt 0) none)

  units_idle : (state : State) → unfinished_count Lanes state.jobs ≡ 0 → unfinished_count ReadChannel state.jobs ≡ 0 → unfinished_count WriteChannel state.jobs ≡ 0
      → after_turns setup most all_units (TheUnit Lanes ∷ TheUnit ReadChannel ∷ TheUnit WriteChannel ∷ []) state ≡ state
  units_idle state lanes reads writes =
      ap (after_turns setup most all_units (TheUnit ReadChannel ∷ TheUnit WriteChannel ∷ [])) (unit_idle Lanes state lanes)
      ∙ ap (after_turns setup most all_units (TheUnit WriteChannel ∷ [])) (unit_idle ReadChannel state reads)
      ∙ unit_idle WriteChannel state writes

  host_turn : (state : State) → state.end ≡ None → after_turn setup most all_units TheHost state ≡ after_chance setup most false TheHost state
  host_turn state going =
      ap (λ (end : Option End). cond (is_none end && can_step setup TheHost state) (after_step setup most false TheHost state) state) going

zero_is : (n : ℕ) → (n == 0) ≡ true → n ≡ 0
zero_is n e = grind (arith, e)

moves_is : (what : Deed) → moves what ≡ true → what ≡ Moves
moves_is Moves e = refl
moves_is Halts e = cc
moves_is (Passes issue) e = cc

-- a host whose instruction concerns it alone waits for nothing
module _ (machine : MachineContents) (numbered : AllNumbered machine.queues) (most : ℕ) (host : HostState)
    (moving : moves (deed machine.setup.code.instrs (host_of machine.host)) ≡ true) (on : host_of host ≡ next machine.setup.code.instrs (host_of machine.host)) where
  abbrev what : Deed
  what = deed machine.setup.code.instrs (host_of machine.host)

  abbrev waiting : Waiting
  waiting = waiting_in (wanted_by what) machine.queues

  is_moved : step_of waiting what ≡ Moved
  is_moved = ap (step_of waiting) (moves_is what moving)

  moved_on : host_of host ≡ host_after waiting machine.setup.code.instrs (host_of machine.host)
  moved_on = on ∙ sym (ap (λ d. cond (lets_go_on waiting d) (next machine.setup.code.instrs (host_of machine.host)) (host_of machine.host)) (moves_is what moving))

  pub move_shown : (new : MachineContents) → new ≡ counted most (record machine { host = host }) → (state : State) → Shows machine state → Shows new (after_chance machine.setup most false TheHost state)
  move_shown new is state shows = moved_shown machine numbered most state shows is_moved host moved_on new is

module _ (machine : MachineContents) (numbered : AllNumbered machine.queues) (most : ℕ) (going : machine.end ≡ None) (more : machine.steps < most)
    (idle : is_idle (waiting_in None machine.queues) ≡ true) where
  abbrev counted_machine : MachineContents
  counted_machine = record machine { cycles = machine.cycles + 1 }

  module _ (host : HostState) (moving : moves (deed machine.setup.code.instrs (host_of machine.host)) ≡ true) (on : host_of host ≡ next machine.setup.code.instrs (host_of machine.host)) where
    abbrev moved : MachineContents
    moved = counted most (record counted_machine { host = host })

    turns_shown : (state : State) → Shows counted_machine state → Shows moved (after_turns machine.setup most all_units in_order state)
    turns_shown state shows =
        let after = after_turn machine.setup most all_units TheHost state in
        let shown : Shows moved after =
        subst (Shows moved) (sym (host_turn machine.setup most state (shows.end ∙ going)))
        (move_shown counted_machine numbered most host moving on moved refl state shows) in
        let parts = both_true _ _ idle in
        let others = both_true _ _ parts.0 in
        subst (Shows moved)
        (sym (units_idle machine.setup most after
        (lanes_count machine.queues after.jobs shown.jobs numbered ∙ zero_is _ others.0)
        (reads_count machine.queues after.jobs shown.jobs numbered ∙ zero_is _ others.1)
        (writes_count machine.queues after.jobs shown.jobs numbered ∙ zero_is _ parts.1)))
        shown

    pub host_alone : (new : MachineContents) → new ≡ moved → (state : State) → Shows machine state → Shows new (after_cycle machine.setup most all_units state)
    host_alone new is state shows =
        cycle_shown machine most all_units going more state shows new
        (λ state shows. subst (λ new. Shows new (after_turns machine.setup most all_units in_order state)) (sym is) (turns_shown state shows))
