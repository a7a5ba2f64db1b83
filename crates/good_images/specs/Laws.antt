-- What holds of the image that is made of a program's split and code for it.
use Rattle.std.specs.Prelude.{◌≡◌, ℕ, ◌+◌, ◌<◌, ◌≤◌, List, length, map, Some, Err}
use Rattle.ven_base.specs.declared.entry.Entry.{Entry}
use Rattle.ven_base.specs.Limits.{cell_limit}
use Rattle.ven_base.specs.Pairs.{Pairs, ArePairs}
use Rattle.venice_isa.specs.declared.instr.Version.TheVariants.{Two}
use Rattle.venice_isa.specs.Beat.{beats_of_all, sequential}
use Rattle.venice_isa.specs.Code.{Listing, IsCode}
use Rattle.venice_isa.specs.Host.{issue_list}
use Rattle.venice_isa.specs.Limits.{instruction_limit}
use Rattle.array_file.specs.Fitting.{Fits}
use Rattle.image_loader.specs.Image.{ImageContents, IsImage}
use Rattle.venice_machine.specs.Answers.{RunEnds}
use Rattle.venice_machine.specs.Start.{start_state, outputs_in}
use Rattle.venice_machine.specs.declared.stop.Stop.{Stop}
use Rattle.shape_check.specs.Checked.{IsCheckedProgram}
use Rattle.shape_check.specs.Meaning.{meaning_of, FitInputs}
use Rattle.shape_check.specs.Statement.{Statement}
use Rattle.pass_plan.specs.Need.{need_of, bound_of}
use Rattle.pass_plan.specs.Sound.{Split}
use Rattle.expr_split.specs.DeclaredTable.{input_table, declared_table, unplaced}
use Rattle.expr_split.specs.Places.{IsSplitOf}
use Rattle.dma_schedule.specs.PipeList.{pipe_list}
use Rattle.good_images.specs.Good.{Good, Given, IsGiven, end_of}

-- code of version 2 that an image has room for, whose issue list is the split's pipelined list; its steps, the halt's
-- and all beats of the list are within the bound, for any number of lanes
pub record IsCodeFor (split : Split) (spad : ℕ) (code : Listing) : Type 0 where
  pub is_code : IsCode code
  pub version : code.version ≡ Two
  pub few : length code.instrs ≤ instruction_limit
  pub steps : ℕ
  pub issues : issue_list code.instrs (steps + 1) ≡ Some (pipe_list split spad)
  pub within : (lanes : ℕ) → 0 < lanes
      → steps + 1 + beats_of_all (pipe_list split spad) lanes ≤ bound_of split.passes

-- the image of the split's table and memory, and this code
abbrev pub image_with : Split → (spad : ℕ) → Listing → ImageContents
image_with split spad code =
    record { spad = spad; memory = split.memory; arrays = split.table; code = code }

-- for the split of a checked program, in a scratchpad that holds its need and is no larger than any machine's, and code
-- for it
abbrev pub OfCode : (List Statement → Split → (spad : ℕ) → Listing → Type 0) → Type 0
OfCode Holds =
    (program : List Statement) (split : Split) (spad : ℕ) (code : Listing)
    → IsCheckedProgram program → IsSplitOf program split → need_of split.passes ≤ spad → spad ≤ cell_limit
    → IsCodeFor split spad code → Holds program split spad code

-- it is an image
abbrev pub TheyAreImages : Type 0
TheyAreImages = OfCode (λ program split spad code. IsImage (image_with split spad code))

-- it is good
abbrev pub TheyAreGood : Type 0
TheyAreGood = OfCode (λ program split spad code. Good (image_with split spad code) program spad)

-- done one issue after another from the first cells and memory, its list leaves the outputs
abbrev pub ListsLeaveOutputs : Type 0
ListsLeaveOutputs =
    OfCode (λ program split spad code. (given : Given) → IsGiven program spad given
    → outputs_in (sequential (pipe_list split spad) given.lanes
    (start_state (image_with split spad code) given.inputs given.spad).store).memory split.table
    ≡ meaning_of program given.inputs)

-- arrays that fit a program's inputs fit any table that has them
abbrev pub TablesFit : Type 0
TablesFit =
    (program : List Statement) (table : List Entry) (arrays : Pairs)
    → map unplaced table ≡ declared_table program → Fits arrays (input_table program) → Fits arrays table

-- and are inputs of the program
abbrev pub FittingArraysAreInputs : Type 0
FittingArraysAreInputs =
    (program : List Statement) (arrays : Pairs)
    → ArePairs arrays → Fits arrays (input_table program) → FitInputs program arrays

-- a run of a good image with the bound as its budget isn't stopped
abbrev pub GoodRunsHalt : Type 0
GoodRunsHalt =
    (image : ImageContents) (program : List Statement) (spad : ℕ) (good : Good image program spad)
    (given : Given) (grants : List ℕ) (stop : Stop) → IsGiven program spad given
    → ¬ RunEnds (end_of image (bound_of good.split.passes) given grants) (Err stop)
