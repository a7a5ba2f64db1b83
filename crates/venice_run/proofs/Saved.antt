-- The image of a program: its run on inputs of the program comes to HALT, and prints the program's meaning.
use Rattle.std.proofs.Common.{◌≡◌, ℕ, List, ◌++◌, arith, ap, subst}
use Rattle.ven_base.specs.Limits.{cell_limit}
use Rattle.ven_base.specs.Pairs.{Pairs, ArePairs}
use Rattle.array_file.specs.Fitting.{Fits}
use Rattle.array_file.specs.Output.{arrays_text}
use Rattle.image_loader.specs.Image.{ImageContents}
use Rattle.pass_plan.specs.Need.{bound_of}
use Rattle.pass_plan.specs.Sound.{Split}
use Rattle.expr_split.specs.DeclaredTable.{input_table}
use Rattle.expr_split.specs.Laws.{SplitsAreOne}
use Rattle.expr_split.specs.Places.{IsSplitOf}
use Rattle.host_codegen.specs.CodeOf.{code_for}
use Rattle.good_images.specs.Good.{Good, Given, IsGiven, EndsWell}
use Rattle.good_images.specs.Laws.{image_with, TablesFit}
use Rattle.venice_machine.specs.Answers.{counts_of}
use Rattle.venice_run.specs.Compiled.{resources_for, compiled_text}
use Rattle.venice_run.specs.Exec.{counts_text, end_of_run, run_text}
use Rattle.venice_run.specs.Plan.{Planned}
use Rattle.venice_run.specs.Ready.{HaltsOn}
use Rattle.venice_run.specs.Words.{most_lanes, IsUpTo}

-- the image of a planned program
abbrev pub made : Planned → ℕ → ImageContents
made planned spad = image_with planned.split spad (code_for planned.split spad)

module _ (planned : Planned) (lanes spad : ℕ) (arrays : Pairs) (splits : SplitsAreOne) (good : Good (made planned spad) planned.program spad)
    (is_split : IsSplitOf planned.program planned.split) (lanes_are : IsUpTo most_lanes lanes) (spad_is : IsUpTo cell_limit spad)
    (pairs : ArePairs arrays) (fits : Fits arrays (input_table planned.program)) where
  abbrev given : Given
  given = record { inputs = arrays; lanes = lanes; spad = spad }

  is_given : IsGiven planned.program spad given
  is_given = record {
    arrays = pairs;
    fit = fits;
    some_lanes = lanes_are.0;
    few_lanes = lanes_are.1;
    enough = omega arith;
    few_cells = spad_is.1;
  }

  ends_well : (grants : List ℕ) → EndsWell planned.program (made planned spad) (bound_of planned.split.passes) given grants
  ends_well grants =
      subst (λ (split : Split). EndsWell planned.program (made planned spad) (bound_of split.passes) given grants)
      (splits planned.program good.split planned.split good.is_split is_split) (good.ends given grants is_given)

  pub halts_on : TablesFit → HaltsOn (made planned spad) (resources_for planned lanes spad) arrays
  halts_on tables = record {
    room = omega arith;
    fits = tables planned.program planned.split.table arrays good.table fits;
    halts = λ grants. (ends_well grants).halts;
  }

  pub text_is : (grants : List ℕ)
      → run_text planned.split.table (end_of_run (made planned spad) (resources_for planned lanes spad) arrays grants)
      ≡ compiled_text planned arrays (end_of_run (made planned spad) (resources_for planned lanes spad) arrays grants)
  text_is grants =
      let end = end_of_run (made planned spad) (resources_for planned lanes spad) arrays grants in
      ap (λ (outputs : Pairs). arrays_text outputs ++ counts_text (counts_of end)) (ends_well grants).outputs
