-- A run of disciplined code whose works are in order ends at HALT, whatever the grants.
use Rattle.std.proofs.Common.{◌≡◌, ◌≢◌, ◌⊎◌, inl, inr, ℕ, ◌+◌, ◌<◌, ◌≤◌, sym, refl, subst, ap, ◌∙◌, arith, List, [], ◌∷◌, ◌++◌, replicate, Option, Some, None, true, false, nat_le, is_none}
use Rattle.std.specs.Prelude.{All}
use Rattle.std.proofs.lemmas.Bool.{leb-true}
use Rattle.std.proofs.lemmas.List.Elements.{All-head, All-tail}
use Rattle.ven_base.specs.Store.{Store, store_size}
use Rattle.venice_isa.specs.declared.issue.Issue.{Issue}
use Rattle.venice_isa.specs.declared.host.Deed.TheVariants.{Passes}
use Rattle.venice_isa.specs.Flight.{IsDisciplined}
use Rattle.venice_isa.specs.Host.{start, deed, passed_in}
use Rattle.venice_isa.specs.Tests.{has_counts, is_in_range}
use Rattle.venice_isa.proofs.TestsRight.{in_range_decided}
use Rattle.venice_isa.specs.Beat.{beats_of_all}
use Rattle.venice_machine.specs.declared.stop.Stop.{Stop}
use Rattle.venice_machine.specs.declared.stop.End.{End}
use Rattle.venice_machine.specs.declared.stop.End.TheVariants.{Halted, Stopped}
use Rattle.venice_machine.specs.State.{Setup, State, place_of}
use Rattle.venice_machine.specs.Step.{with_step, with_host_on, with_work, after_beat}
use Rattle.venice_machine.specs.Run.{all_units, run}
use Rattle.venice_machine.proofs.Runs.{either, Cases}
use Rattle.overlap_law.specs.Laws.{IsInOrder}
use Rattle.overlap_law.proofs.Jobs.{size_beaten}
use Rattle.overlap_law.proofs.Steps.{IsSound, step_sound, steps_at_end, beats_appended, not_halted}
use Rattle.overlap_law.proofs.Moments.{cycles_keep, cycle_sound, begin, begin_sound}
use Rattle.overlap_law.proofs.Ends.{HaltsAfter}
use Rattle.overlap_law.proofs.NoHazard.{front_of, IsClear, step_clear, cycle_clear, whole_list, first_clear}
use Rattle.overlap_law.proofs.Halting.{run_ends}

module _ (setup : Setup) (most : ℕ) (some_lanes : 0 < setup.lane_count) (first : Store) (end : ℕ) (halts_after : HaltsAfter setup.code.instrs end)
    (disciplined : IsDisciplined setup.code.version (passed_in setup.code.instrs end start))
    (in_order : All (IsInOrder (store_size first)) (passed_in setup.code.instrs end start))
    (enough : end + beats_of_all (passed_in setup.code.instrs end start) setup.lane_count < most) where
  abbrev Sound : State → Type 0
  Sound = IsSound setup most some_lanes first

  abbrev Clear : State → Type 0
  Clear = IsClear setup most end halts_after disciplined

  -- a run makes no more steps than HALT is away and the works have beats
  few_steps : (state : State) → Sound state → state.steps ≤ end + beats_of_all (passed_in setup.code.instrs end start) setup.lane_count + steps_at_end state.end
  few_steps state sound =
      let cases : (sound.passed ≤ end) ⊎ (end < sound.passed) = grind arith in
      let within : sound.passed ≤ end = elim cases [ inl so ↦ so | inr past ↦ absurd (sound.kept.goes_on end past halts_after.at_halt) ] in
      let front = front_of setup.code.instrs sound.passed end within in
      omega (arith, sound.steps, ap (λ list. beats_of_all list setup.lane_count) front.1, beats_appended (passed_in setup.code.instrs sound.passed start) front.0 setup.lane_count)

  record IsFine (state : State) : Type 0 where
    sound : Sound state
    clear : Clear state
    size : store_size state.store ≡ store_size first
    no_stop : (stop : Stop) → state.end ≢ Some (Stopped stop)

  counted_fine : (state : State) → Sound (with_step most state) → (stop : Stop) → (with_step most state).end ≢ Some (Stopped stop)
  counted_fine state sound stop =
      let few = few_steps (with_step most state) sound in
      let none = not_halted setup most some_lanes first (nat_le most (state.steps + 1)) (state.steps + 1) in
      either (λ end. end ≢ Some (Stopped stop)) (nat_le most (state.steps + 1)) _ _
      (λ full. let reached = leb-true most (state.steps + 1) full in absurd (omega (arith, none, few)))
      (λ more e. cc)

  good_at : (P : Issue → Type 0) (before : List Issue) (issue : Issue) (after : List Issue) → All P (before ++ issue ∷ after) → P issue
  good_at P [] issue after all = All-head P issue after all
  good_at P (front ∷ before) issue after all = good_at P before issue after (All-tail P front (before ++ issue ∷ after) all)

  -- an issue that the host comes to is in order
  is_good : (state : State) → IsFine state → (issue : Issue) → deed setup.code.instrs state.host ≡ Passes issue → IsInOrder (store_size first) issue
  is_good state fine issue is =
      let whole = whole_list setup most end halts_after disciplined state fine.clear issue is in
      good_at (IsInOrder (store_size first)) (passed_in setup.code.instrs fine.clear.passed start) issue whole.0 (subst (All (IsInOrder (store_size first))) whole.1 in_order)

  step_fine : (state : State) → state.end ≡ None → IsFine state → Cases setup most IsFine state
  step_fine state going fine =
      let sounds = step_sound setup most some_lanes first state going fine.sound in
      let clears = step_clear setup most end halts_after disciplined state going fine.clear in
      record {
        halts = λ is none. record { sound = sounds.halts is none; clear = clears.halts is none; size = fine.size; no_stop = λ stop e. cc };
        moves = λ is. record { sound = sounds.moves is; clear = clears.moves is; size = fine.size; no_stop = counted_fine (with_host_on setup state) (sounds.moves is) };
        waits = λ issue passing wait. record {
          sound = sounds.waits issue passing wait;
          clear = clears.waits issue passing wait;
          size = fine.size;
          no_stop = counted_fine (with_host_on setup state) (sounds.waits issue passing wait);
        };
        bad_count = λ issue passing work wrong. let counts : has_counts issue ≡ true = (is_good state fine issue passing.next).counts in absurd cc;
        out_of_range = λ issue passing work counts wrong.
            let inside : is_in_range (store_size first) issue ≡ true = (in_range_decided (store_size first) issue).1 (is_good state fine issue passing.next).in_range in
            let here : is_in_range (store_size state.store) issue ≡ true = subst (λ size. is_in_range size issue ≡ true) (sym fine.size) inside in
            absurd cc;
        meets_hazard = λ issue passing meets. absurd ((clears.meets_hazard issue passing meets).meets_none _ _ refl);
        issues = λ issue passing good. record {
          sound = sounds.issues issue passing good;
          clear = clears.issues issue passing good;
          size = fine.size;
          no_stop = counted_fine (with_work setup issue state) (sounds.issues issue passing good);
        };
        beats = λ unit k may some. record {
          sound = sounds.beats unit k may some;
          clear = clears.beats unit k may some;
          size = size_beaten setup.lane_count some_lanes (place_of unit k state.jobs) state.jobs state.store fine.sound.kept.ready ∙ fine.size;
          no_stop = counted_fine (after_beat setup unit k state) (sounds.beats unit k may some);
        };
      }

  begin_fine : IsFine (begin setup most some_lanes first)
  begin_fine = record {
    sound = begin_sound setup most some_lanes first;
    clear = first_clear setup most end halts_after disciplined (begin setup most some_lanes first) refl refl refl;
    size = refl;
    no_stop = λ stop e. cc;
  }

  halts_of : (e : Option End) → is_none e ≡ false → ((stop : Stop) → e ≢ Some (Stopped stop)) → e ≡ Some Halted
  halts_of None some no_stop = cc
  halts_of (Some Halted) some no_stop = refl
  halts_of (Some (Stopped stop)) some no_stop = absurd (no_stop stop refl)

  -- whatever the grants, the run ends at HALT
  pub run_halts : (grants : List ℕ) → (run setup most grants (begin setup most some_lanes first)).end ≡ Some Halted
  run_halts grants =
      let fine : IsFine (run setup most grants (begin setup most some_lanes first)) =
      cycles_keep setup most IsFine step_fine
      (λ cycles state fine. record { sound = cycle_sound setup most some_lanes first cycles state fine.sound; clear = cycle_clear setup most end halts_after disciplined cycles state fine.clear; size = fine.size; no_stop = fine.no_stop })
      (λ state going full fine.
      let few = few_steps state fine.sound in
      let none : steps_at_end state.end ≡ 0 = ap steps_at_end going in
      absurd (omega (arith, leb-true most state.steps full, few, none, enough)))
      (grants ++ replicate (most + 1) all_units) (begin setup most some_lanes first) begin_fine in
      halts_of (run setup most grants (begin setup most some_lanes first)).end (run_ends setup most some_lanes first grants) fine.no_stop
