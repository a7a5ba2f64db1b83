-- The laws, for every run.
use Rattle.std.proofs.Common.{ℕ, ◌+◌, ◌<◌, ◌≤◌, List, ◌++◌, replicate, ◌≡◌, inl, inr, sym, refl, subst, ap, ◌∙◌, arith, Option, Some, None, false, is_none}
use Rattle.venice_isa.specs.declared.issue.Issue.{Issue}
use Rattle.venice_machine.specs.declared.stop.End.TheVariants.{Halted}
use Rattle.venice_machine.specs.Run.{all_units}
use Rattle.std.specs.Prelude.{All}
use Rattle.ven_base.specs.Store.{Store, store_size}
use Rattle.venice_isa.specs.Flight.{IsDisciplined}
use Rattle.venice_isa.specs.Beat.{sequential, beats_of_all}
use Rattle.venice_isa.specs.Host.{start, passed_in}
use Rattle.venice_machine.specs.declared.stop.End.{End}
use Rattle.venice_machine.specs.State.{Setup, State}
use Rattle.overlap_law.specs.Runs.{Setting, Between, first_store, with_most, setup_for, first_state, state_at, last_state}
use Rattle.overlap_law.specs.Ends.{MakesHalt, IsAtHalt}
use Rattle.overlap_law.specs.Laws.{HasDisciplinedList, IsInOrder, Finishing, LeavesTheSame, NoHazard, DisciplinedRunsHalt, SomeUnitSteps, RunsEnd, AtHalt, SameSteps, FewCycles}
use Rattle.overlap_law.proofs.Moments.{moments_keep, kept_of, sound_at}
use Rattle.overlap_law.proofs.Ends.{one_halt, one_list, list_is, same_issue_list, at_halt, someone_can_step}
use Rattle.overlap_law.proofs.NoHazard.{IsClear, step_clear, cycle_clear, spent_clear, first_clear}
use Rattle.overlap_law.proofs.Halting.{run_ends, run_cycles}
use Rattle.overlap_law.proofs.Unstopped.{run_halts}

-- ---- what runs leave

pub finishing : Finishing
finishing setting moment some = kept_of (setup_for setting) setting.most some (first_state setting).store (state_at setting moment) (sound_at setting some moment)

pub ends_at_halt : AtHalt
ends_at_halt setting moment some ended = at_halt (setup_for setting) setting.most some (first_state setting).store (state_at setting moment) (sound_at setting some moment) ended

module _ (setup other_setup : Setup) (lanes : other_setup.lane_count ≡ setup.lane_count) (code : other_setup.code ≡ setup.code)
    (first other_first : Store) (state other_state : State) (here : IsAtHalt setup first state) (there : IsAtHalt other_setup other_first other_state) where
  other_makes : MakesHalt setup.code.instrs there.host_steps there.list
  other_makes = subst (λ code. MakesHalt code.instrs there.host_steps there.list) code there.makes_halt

  same_list : there.list ≡ here.list
  same_list = one_list setup.code.instrs there.host_steps here.host_steps there.list here.list other_makes here.makes_halt

  pub as_many_steps : other_state.steps ≡ state.steps
  as_many_steps =
      let beats : beats_of_all there.list other_setup.lane_count ≡ beats_of_all here.list setup.lane_count = ap (λ list. beats_of_all list other_setup.lane_count) same_list ∙ ap (beats_of_all here.list) lanes in
      omega (arith, here.steps, there.steps, beats, one_halt setup.code.instrs there.host_steps here.host_steps there.list here.list other_makes here.makes_halt)

  pub same_leavings : other_first ≡ first → other_state.store ≡ state.store
  same_leavings same =
      there.leaves ∙ ap (λ list. sequential list other_setup.lane_count other_first) same_list ∙ ap (λ n. sequential here.list n other_first) lanes ∙ ap (sequential here.list setup.lane_count) same ∙ sym here.leaves

pub same_steps : SameSteps
same_steps setting other moment other_moment some lanes code ended other_ended =
    as_many_steps (setup_for setting) (setup_for other) lanes code (first_state setting).store (first_state other).store (state_at setting moment) (state_at other other_moment)
    (ends_at_halt setting moment some ended) (ends_at_halt other other_moment (omega arith) other_ended)

pub leaves_the_same : LeavesTheSame
leaves_the_same setting other_most moment other some ended other_ended =
    let again = with_most other_most setting in
    same_leavings (setup_for again) (setup_for setting) refl refl (first_state again).store (first_state setting).store (state_at again other) (state_at setting moment)
    (ends_at_halt again other some other_ended) (ends_at_halt setting moment some ended) refl

-- ---- disciplined code

pub no_hazard : NoHazard
no_hazard setting moment host_steps list pc cycle has =
    let found = list_is setting.image.code.instrs host_steps list has.passes in
    let end = found.0 in
    let halts = found.2 in
    let disciplined : IsDisciplined setting.image.code.version (passed_in setting.image.code.instrs end start) = subst (IsDisciplined setting.image.code.version) found.3 has.disciplined in
    let clear : IsClear (setup_for setting) setting.most end halts disciplined (state_at setting moment) =
    moments_keep setting (IsClear (setup_for setting) setting.most end halts disciplined) (step_clear (setup_for setting) setting.most end halts disciplined)
    (cycle_clear (setup_for setting) setting.most end halts disciplined)
    (λ state going full clear. spent_clear (setup_for setting) setting.most end halts disciplined state.steps state clear)
    (first_clear (setup_for setting) setting.most end halts disciplined (first_state setting) refl refl refl) moment in
    clear.meets_none pc cycle

comes_to_halt : (setting : Setting) (grants : List ℕ) (host_steps : ℕ) (list : List Issue) → 0 < setting.lane_count → HasDisciplinedList setting.image.code host_steps list → All (IsInOrder (store_size (first_store setting))) list
    → host_steps + beats_of_all list setting.lane_count ≤ setting.most → (last_state setting grants).end ≡ Some Halted
comes_to_halt setting grants host_steps list some has in_order enough =
    let found = list_is setting.image.code.instrs host_steps list has.passes in
    let same = found.3 in
    run_halts (setup_for setting) setting.most some (first_state setting).store found.0 found.2 (subst (IsDisciplined setting.image.code.version) same has.disciplined) (subst (All (IsInOrder (store_size (first_state setting).store))) same in_order)
    (omega (arith, found.1, enough, ap (λ list. beats_of_all list setting.lane_count) same)) grants

-- ---- steps and cycles

pub some_unit_steps : SomeUnitSteps
some_unit_steps setting moment some going = someone_can_step (setup_for setting) (state_at setting moment) (sound_at setting some moment).kept.ready

some_end : (end : Option End) → is_none end ≡ false → (e : End) × (end ≡ Some e)
some_end None over = cc
some_end (Some e) over = (e, refl)

pub runs_end : RunsEnd
runs_end setting grants some = some_end (last_state setting grants).end (run_ends (setup_for setting) setting.most some (first_state setting).store grants)

pub few_cycles : FewCycles
few_cycles setting grants some ended =
    elim (run_cycles (setup_for setting) setting.most some (first_state setting).store grants) [
      | inl stopped ↦ absurd (let never = sym stopped.1 ∙ ended in cc)
      | inr few ↦ few
    ]

-- ---- the whole

pub disciplined_runs_halt : DisciplinedRunsHalt
disciplined_runs_halt setting grants host_steps list some has in_order enough =
    let ended = comes_to_halt setting grants host_steps list some has in_order enough in
    let all = Between (grants ++ replicate (setting.most + 1) all_units) in
    let here : IsAtHalt (setup_for setting) (first_store setting) (last_state setting grants) = ends_at_halt setting all some ended in
    let same = same_issue_list setting.image.code.instrs host_steps here.host_steps list here.list has.passes here.makes_halt in
    record {
      halts = ended;
      leaves = here.leaves ∙ ap (λ issues. sequential issues setting.lane_count (first_store setting)) same.0;
      steps = omega (arith, here.steps, same.1, ap (λ issues. beats_of_all issues setting.lane_count) same.0);
      cycles = few_cycles setting grants some ended;
    }
