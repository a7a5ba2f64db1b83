-- What the steps of a run keep holds at each of its moments.
use Rattle.std.proofs.Common.{◌≡◌, ℕ, ◌+◌, ◌<◌, ◌≤◌, refl, arith, List, [], ◌∷◌, take, None, true, ◌&&◌, nat_le, is_none}
use Rattle.std.proofs.lemmas.List.Elements.{All-nil}
use Rattle.ven_base.specs.Store.{Store, store_size}
use Rattle.venice_isa.specs.Host.{start}
use Rattle.venice_machine.specs.declared.stop.Stop.TheVariants.{Budget}
use Rattle.venice_machine.specs.State.{Setup, State}
use Rattle.venice_machine.specs.Step.{Mover, can_step, stopped_by}
use Rattle.venice_machine.specs.Run.{is_set, bit_of, is_second, in_order, after_turn, after_turns, after_cycles}
use Rattle.venice_machine.proofs.Runs.{either, both_true, is_none_true, Cases, step_cases, run_keeps}
use Rattle.overlap_law.specs.Runs.{Setting, Moment, Between, Within, setup_for, first_state, state_at}
use Rattle.overlap_law.specs.Kept.{IsReadyOn, ArePassable, IsEarlier, IsKept}
use Rattle.overlap_law.proofs.Jobs.{no_pairs}
use Rattle.overlap_law.proofs.Steps.{IsSound, step_sound, stop_sound, same_kept}

module _ (setup : Setup) (most : ℕ) (P : State → Type 0)
    (steps : (state : State) → state.end ≡ None → P state → Cases setup most P state)
    (cycle : (cycles : ℕ) (state : State) → P state → P (record state { cycles = cycles }))
    (spent : (state : State) → state.end ≡ None → nat_le most state.steps ≡ true → P state → P (stopped_by (Budget state.steps) state)) where
  pub turn_keeps : (grant : ℕ) (mover : Mover) (state : State) → P state → P (after_turn setup most grant mover state)
  turn_keeps grant mover state kept =
      either P (is_set grant (bit_of mover) && (is_none state.end && can_step setup mover state)) _ _
      (λ all. let both = both_true _ _ (both_true _ _ all).1 in step_cases setup most P (is_second grant mover) mover state both.1 (steps state (is_none_true state.end both.0) kept))
      (λ idle. kept)

  pub turns_keep : (grant : ℕ) (movers : List Mover) (state : State) → P state → P (after_turns setup most grant movers state)
  turns_keep grant [] state kept = kept
  turns_keep grant (mover ∷ movers) state kept = turns_keep grant movers (after_turn setup most grant mover state) (turn_keeps grant mover state kept)

  pub cycles_keep : (grants : List ℕ) (state : State) → P state → P (after_cycles setup most grants state)
  cycles_keep grants state kept = run_keeps setup most P steps cycle spent grants state kept

  -- and of the turns of one more cycle
  pub part_keeps : (grants : List ℕ) (grant : ℕ) (movers : List Mover) (state : State) → P state
      → P (after_turns setup most grant movers (record (after_cycles setup most grants state) { cycles = (after_cycles setup most grants state).cycles + 1 }))
  part_keeps grants grant movers state kept =
      let before = after_cycles setup most grants state in
      turns_keep grant movers (record before { cycles = before.cycles + 1 }) (cycle (before.cycles + 1) before (cycles_keep grants state kept))

module _ (setting : Setting) (P : State → Type 0)
    (steps : (state : State) → state.end ≡ None → P state → Cases (setup_for setting) setting.most P state)
    (cycle : (cycles : ℕ) (state : State) → P state → P (record state { cycles = cycles }))
    (spent : (state : State) → state.end ≡ None → nat_le setting.most state.steps ≡ true → P state → P (stopped_by (Budget state.steps) state))
    (first : P (first_state setting)) where
  pub moments_keep : (moment : Moment) → P (state_at setting moment)
  moments_keep (Between grants) = cycles_keep (setup_for setting) setting.most P steps cycle spent grants (first_state setting) first
  moments_keep (Within grants grant turns) = part_keeps (setup_for setting) setting.most P steps cycle spent grants grant (take turns in_order) (first_state setting) first

-- ---- soundness

module _ (setup : Setup) (most : ℕ) (some_lanes : 0 < setup.lane_count) (first : Store) where
  pub cycle_sound : (cycles : ℕ) (state : State) → IsSound setup most some_lanes first state → IsSound setup most some_lanes first (record state { cycles = cycles })
  cycle_sound cycles state sound = record {
    passed = sound.passed;
    kept = same_kept setup most some_lanes first sound.passed state (record state { cycles = cycles }) refl refl refl refl sound.kept;
    numbered = sound.numbered;
    steps = sound.steps;
    at_halt = sound.at_halt;
  }

  -- before its first step
  abbrev pub begin : State
  begin = record { host = start; jobs = []; store = first; issues = 0; steps = 0; cycles = 0; end = None }

  pub begin_sound : IsSound setup most some_lanes first begin
  begin_sound = record {
    passed = 0;
    kept = record {
      host_is = refl;
      goes_on = λ k below. absurd (omega arith);
      issues = refl;
      finishing = refl;
      in_order = no_pairs IsEarlier;
      apart = no_pairs (ArePassable setup.code.version);
      ready = All-nil (IsReadyOn setup.lane_count (store_size first));
    };
    numbered = All-nil (λ job. job.work.number ≤ 0);
    steps = omega arith;
    at_halt = λ e. absurd cc;
  }

  pub kept_of : (state : State) → IsSound setup most some_lanes first state → IsKept setup first state
  kept_of state sound = record { host_steps = sound.passed; kept = sound.kept; at_halt = sound.at_halt }

module _ (setting : Setting) (some_lanes : 0 < setting.lane_count) where
  -- each moment of a run is sound
  pub sound_at : (moment : Moment) → IsSound (setup_for setting) setting.most some_lanes (first_state setting).store (state_at setting moment)
  sound_at moment =
      moments_keep setting (IsSound (setup_for setting) setting.most some_lanes (first_state setting).store) (step_sound (setup_for setting) setting.most some_lanes (first_state setting).store)
      (cycle_sound (setup_for setting) setting.most some_lanes (first_state setting).store)
      (λ state going full sound. stop_sound (setup_for setting) setting.most some_lanes (first_state setting).store (Budget state.steps) state going sound)
      (begin_sound (setup_for setting) setting.most some_lanes (first_state setting).store) moment

  pub cycles_sound : (grants : List ℕ) (state : State) → IsSound (setup_for setting) setting.most some_lanes (first_state setting).store state
      → IsSound (setup_for setting) setting.most some_lanes (first_state setting).store (after_cycles (setup_for setting) setting.most grants state)
  cycles_sound grants state sound =
      cycles_keep (setup_for setting) setting.most (IsSound (setup_for setting) setting.most some_lanes (first_state setting).store) (step_sound (setup_for setting) setting.most some_lanes (first_state setting).store)
      (cycle_sound (setup_for setting) setting.most some_lanes (first_state setting).store)
      (λ state going full sound. stop_sound (setup_for setting) setting.most some_lanes (first_state setting).store (Budget state.steps) state going sound)
      grants state sound
