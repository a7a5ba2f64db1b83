-- The steps of a split's code, and the beats of its list, are within the bound.
use Rattle.std.proofs.Common.{ℕ, ◌+◌, ◌*◌, ◌<◌, ◌≤◌, List, [], ◌∷◌, length, get_or, refl, arith, All}
use Rattle.std.specs.Prelude.{sum_by}
use Rattle.std.specs.List.{flat_map}
use Rattle.std.proofs.lemmas.List.Sums.{sum_by-cons}
use Rattle.std.proofs.lemmas.List.Elements.{All-head, All-tail}
use Rattle.venice_isa.specs.declared.issue.Issue.{Issue}
use Rattle.venice_isa.specs.Beat.{beats_of_all}
use Rattle.pass_plan.specs.Need.{pass_need, pass_work}
use Rattle.pass_plan.specs.Pass.{Pass}
use Rattle.pass_plan.specs.Tile.{tile_of}
use Rattle.pass_plan.specs.Sound.{Split, AreSound}
use Rattle.pass_plan.proofs.Sums.{each_below}
use Rattle.dma_schedule.specs.Blocks.{pass_list}
use Rattle.dma_schedule.specs.PipeList.{blocks_of}
use Rattle.dma_schedule.specs.Laws.{ComputesFew, ListsAreShort}
use Rattle.host_programs.specs.Program.{Idle}
use Rattle.host_programs.specs.ProgramLaws.{no_registers}
use Rattle.transfer_programs.specs.Cost.{most_steps}
use Rattle.transfer_programs.proofs.CostPrograms.{steps_most}
use Rattle.transfer_programs.proofs.CostSteps.{total}
use Rattle.host_codegen.specs.SplitProgram.{passes_programs, split_program}
use Rattle.host_codegen.specs.CostLaws.{StepsAreBounded}
use Rattle.host_codegen.proofs.CostSums.{each_sums, sums_over}
use Rattle.host_codegen.proofs.CostPasses.{beats_append, pass_is_short}

module _ (split : Split) (spad lanes : ℕ) (some_lanes : 0 < lanes) where
  -- what the passes issue, one after another
  abbrev listed : List Pass → List Issue
  listed passes = flat_map (λ pass. pass_list (blocks_of split.arrays pass (tile_of pass spad))) passes

  passes_short : (passes : List Pass) → AreSound split.arrays passes → All (λ pass. pass_need pass ≤ spad) passes → All (ComputesFew split spad) passes
      → total (λ p. most_steps p 0 no_registers) (passes_programs split.arrays spad passes) + beats_of_all (listed passes) lanes ≤ 256 * sum_by pass_work passes
  passes_short [] sound holds few = omega arith
  passes_short (pass ∷ passes) sound holds few =
      let Holds : Pass → Type 0 = λ pass. pass_need pass ≤ spad in
      let one = pass_is_short split.arrays _ spad pass sound.0 (All-head Holds pass passes holds) lanes some_lanes (All-head (ComputesFew split spad) pass passes few) no_registers in
      omega (
        arith,
        one,
        passes_short passes sound.1 (All-tail Holds pass passes holds) (All-tail (ComputesFew split spad) pass passes few),
        beats_append (pass_list (blocks_of split.arrays pass (tile_of pass spad))) (listed passes) lanes,
        sum_by-cons pass_work pass passes,
      )

pub steps_are_bounded : ListsAreShort → StepsAreBounded
steps_are_bounded short split spad sound holds small fits lanes some_lanes =
    let ps = passes_programs split.arrays spad split.passes in
    let each = each_below pass_need split.passes in
    let all = passes_short split spad lanes some_lanes split.passes sound.passes (λ k d below. omega (arith, each k d below, holds)) (short split spad sound holds small) in
    omega (arith, steps_most (split_program split spad) 0 no_registers fits, each_sums (λ p. most_steps p 0 no_registers) refl (λ p q. refl) (λ k. get_or ps k Idle) (length ps), sums_over (λ p. most_steps p 0 no_registers) Idle ps, all)
