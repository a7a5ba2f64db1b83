-- The image of a split and of code for it is good, and no run of a good image is stopped.
use Rattle.std.proofs.Common.{ℕ, ◌+◌, ◌<◌, ◌≤◌, ◌^◌, ap, sym, ◌∙◌, refl, subst, arith, List, length, get_or}
use Rattle.std.specs.Prelude.{All}
use Rattle.ven_base.specs.Limits.{cell_limit}
use Rattle.ven_base.specs.Store.{Store, Size, store_size}
use Rattle.venice_isa.specs.declared.issue.Issue.{Issue}
use Rattle.venice_isa.specs.Code.{Listing}
use Rattle.venice_isa.specs.Flight.{IsDisciplined}
use Rattle.overlap_law.specs.Laws.{HasDisciplinedList, IsInOrder}
use Rattle.overlap_law.proofs.FirstMemory.{in_order_in_larger}
use Rattle.shape_check.specs.Checked.{IsCheckedProgram}
use Rattle.shape_check.specs.Statement.{Statement}
use Rattle.pass_plan.specs.Need.{need_of, bound_of}
use Rattle.pass_plan.specs.Sound.{Split, IsSound}
use Rattle.expr_split.specs.Places.{IsSplitOf}
use Rattle.dma_schedule.specs.Laws.{KeepsInside}
use Rattle.dma_schedule.specs.PipeList.{pipe_list}
use Rattle.good_images.specs.Good.{HasGoodList, Given, IsGiven, EndsWell}
use Rattle.good_images.specs.Laws.{IsCodeFor, image_with, TheyAreImages, TheyAreGood, GoodRunsHalt}
use Rattle.good_images.proofs.Lower.{LowerLaws}
use Rattle.good_images.proofs.Runs.{first_of, ends_well, as_many_steps}
use Rattle.good_images.proofs.Lists.{first_size, lists_leave_outputs}

-- what keeps inside the split's scratchpad and memory is in order in a store that is no smaller
in_order : (split : Split) (spad : ℕ) (store : Store) (list : List Issue) → spad ≤ length store.cells → split.memory ≤ length store.memory
    → All (KeepsInside split spad) list
    → All (IsInOrder (store_size store)) list
in_order split spad store list cells memory keep k d below =
    let here = keep k d below in
    in_order_in_larger (record { cells = spad; memory = split.memory }) (store_size store) (get_or list k d) cells memory
    (record { counts = here.counts; in_range = here.inside })

module _ (laws : LowerLaws) (images : TheyAreImages) where
  module _ (program : List Statement) (split : Split) (spad : ℕ) (code : Listing) (checked : IsCheckedProgram program) (is_split : IsSplitOf program split)
      (enough : need_of split.passes ≤ spad) (few : spad ≤ cell_limit) (is_code : IsCodeFor split spad code) where
    sound : IsSound split
    sound = laws.sound program split checked is_split

    small : spad < 2 ^ 32
    small = omega (arith, few)

    disciplined : HasDisciplinedList code (is_code.steps + 1) (pipe_list split spad)
    disciplined = record {
      passes = is_code.issues;
      disciplined = subst (λ version. IsDisciplined version (pipe_list split spad)) (sym is_code.version) (laws.disciplined split spad sound enough small);
    }

    good_list : HasGoodList split spad code
    good_list = record {
      steps = is_code.steps + 1;
      list = pipe_list split spad;
      few = omega (arith, is_code.within 1 (omega arith));
      passes = is_code.issues;
      pipelined = laws.pipelined split spad sound enough small;
      disciplined = laws.disciplined split spad sound enough small;
    }

    ends : (given : Given) (grants : List ℕ) → IsGiven program spad given → EndsWell program (image_with split spad code) (bound_of split.passes) given grants
    ends given grants is_given =
        let image = image_with split spad code in
        let is_image = images program split spad code checked is_split enough few is_code in
        let size = first_size laws program split spad code checked is_split is_image given is_given in
        let some : 0 < given.lanes = omega (arith, is_given.some_lanes) in
        ends_well laws.halts program image (bound_of split.passes) given grants (is_code.steps + 1) (pipe_list split spad) some disciplined
        (in_order split spad (first_of image given) (pipe_list split spad) (omega (arith, ap (λ (s : Size). s.cells) size, is_given.enough))
        (omega (arith, ap (λ (s : Size). s.memory) size)) (laws.inside split spad sound enough small))
        (is_code.within given.lanes some)
        (lists_leave_outputs laws images program split spad code checked is_split enough few is_code given is_given)

  pub they_are_good : TheyAreGood
  they_are_good program split spad code checked is_split enough few is_code =
      let ends_here = ends program split spad code checked is_split enough few is_code in
      record {
        is_image = images program split spad code checked is_split enough few is_code;
        version = is_code.version;
        spad_is = refl;
        table = laws.declared program split checked is_split;
        split = split;
        is_split = is_split;
        list = good_list program split spad code checked is_split enough few is_code;
        ends = ends_here;
        same_steps = λ one other grants other_grants is_one is_other lanes.
            as_many_steps laws.same (image_with split spad code) (bound_of split.passes) one other grants other_grants (omega (arith, is_one.some_lanes)) lanes
            (ends_here one grants is_one).halts (ends_here other other_grants is_other).halts;
      }

pub good_runs_halt : GoodRunsHalt
good_runs_halt image program spad good given grants stop is_given stopped =
    let halted = (good.ends given grants is_given).halts in
    absurd (let never = sym halted ∙ stopped in cc)
