-- Good images: what an image of a program has to be, whatever made it.
use Rattle.std.specs.Prelude.{◌≡◌, ℕ, ◌+◌, ◌≤◌, List, map, length, Some}
use Rattle.ven_base.specs.Limits.{cell_limit}
use Rattle.ven_base.specs.Pairs.{Pairs, ArePairs}
use Rattle.venice_isa.specs.declared.instr.Version.TheVariants.{Two}
use Rattle.venice_isa.specs.declared.issue.Issue.{Issue}
use Rattle.venice_isa.specs.Code.{Listing}
use Rattle.venice_isa.specs.Flight.{IsDisciplined}
use Rattle.venice_isa.specs.Host.{issue_list}
use Rattle.array_file.specs.Fitting.{Fits}
use Rattle.image_loader.specs.Image.{ImageContents, IsImage}
use Rattle.venice_machine.specs.declared.stop.End.TheVariants.{Halted}
use Rattle.venice_machine.specs.Run.{run}
use Rattle.venice_machine.specs.Start.{setup_of, start_state, outputs_in}
use Rattle.venice_machine.specs.State.{State}
use Rattle.shape_check.specs.Meaning.{meaning_of}
use Rattle.shape_check.specs.Statement.{Statement}
use Rattle.pass_plan.specs.Need.{bound_of}
use Rattle.pass_plan.specs.Sound.{Split}
use Rattle.expr_split.specs.DeclaredTable.{input_table, declared_table, unplaced}
use Rattle.expr_split.specs.Places.{IsSplitOf}
use Rattle.dma_schedule.specs.Pipelined.{IsPipelined}

-- ---- the list

-- within the passes' bound the host passes a list, up to HALT, that is pipelined for the split, and no two works of
-- which race, also where each channel may overtake
pub record HasGoodList (split : Split) (spad : ℕ) (code : Listing) : Type 0 where
  pub steps : ℕ
  pub list : List Issue
  pub few : steps ≤ bound_of split.passes
  pub passes : issue_list code.instrs steps ≡ Some list
  pub pipelined : IsPipelined split spad list
  pub disciplined : IsDisciplined Two list

-- ---- runs

-- what a run is given: arrays, a number of lanes, and a scratchpad of so many bytes
pub record Given : Type 0 where
  pub inputs : Pairs
  pub lanes : ℕ
  pub spad : ℕ

-- arrays that fit the program's inputs, 1 to 4 lanes, and a scratchpad of at least so many bytes, no larger than any
-- machine's
pub record IsGiven (program : List Statement) (least : ℕ) (given : Given) : Type 0 where
  pub arrays : ArePairs given.inputs
  pub fit : Fits given.inputs (input_table program)
  pub some_lanes : 1 ≤ given.lanes
  pub few_lanes : given.lanes ≤ 4
  pub enough : least ≤ given.spad
  pub few_cells : given.spad ≤ cell_limit

-- the state in which a run ends that may make so many steps, where these grants come first
abbrev pub end_of : ImageContents → (most : ℕ) → Given → (grants : List ℕ) → State
end_of image most given grants =
    run (setup_of image given.lanes) most grants (start_state image given.inputs given.spad)

-- it comes to HALT, with no more steps than it may make and no more cycles than steps and grants, and then the outputs
-- in memory are the program's meaning
pub record EndsWell (program : List Statement) (image : ImageContents) (most : ℕ) (given : Given) (grants : List ℕ)
    : Type 0 where
  pub halts : (end_of image most given grants).end ≡ Some Halted
  pub steps : (end_of image most given grants).steps ≤ most
  pub cycles : (end_of image most given grants).cycles ≤ (end_of image most given grants).steps + length grants
  pub outputs : outputs_in (end_of image most given grants).store.memory image.arrays ≡ meaning_of program given.inputs

-- ---- the image

pub record Good (image : ImageContents) (program : List Statement) (spad : ℕ) : Type 0 where
  -- an image of version 2, of this scratchpad, whose table is the program's inputs and outputs
  pub is_image : IsImage image
  pub version : image.code.version ≡ Two
  pub spad_is : image.spad ≡ spad
  pub table : map unplaced image.arrays ≡ declared_table program
  -- its list is pipelined for the program's split, and disciplined
  pub split : Split
  pub is_split : IsSplitOf program split
  pub list : HasGoodList split spad image.code
  -- whatever it is given and whatever the moments of the units' steps, a run with the bound ends well
  pub ends : (given : Given) (grants : List ℕ) → IsGiven program spad given
      → EndsWell program image (bound_of split.passes) given grants
  -- and on as many lanes all of them make as many steps
  pub same_steps : (one other : Given) (grants other_grants : List ℕ)
      → IsGiven program spad one → IsGiven program spad other → other.lanes ≡ one.lanes
      → (end_of image (bound_of split.passes) other other_grants).steps
      ≡ (end_of image (bound_of split.passes) one grants).steps
