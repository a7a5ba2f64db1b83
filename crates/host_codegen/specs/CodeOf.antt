-- The code of a split.
use Rattle.std.specs.Prelude.{◌≡◌, ℕ, ◌+◌, ◌<◌, ◌≤◌, Some, length}
use Rattle.venice_isa.specs.declared.instr.Version.TheVariants.{Two}
use Rattle.venice_isa.specs.Code.{Listing}
use Rattle.venice_isa.specs.Host.{issue_list}
use Rattle.venice_isa.specs.Beat.{beats_of_all}
use Rattle.pass_plan.specs.Need.{bound_of}
use Rattle.pass_plan.specs.Sound.{Split}
use Rattle.dma_schedule.specs.PipeList.{pipe_list}
use Rattle.host_programs.specs.Coded.{listing_of}
use Rattle.host_codegen.specs.CodeRoom.{code_room}
use Rattle.host_codegen.specs.SplitProgram.{split_program}

-- the instructions of the split's program, and a halt behind them
abbrev pub code_for : Split → (spad : ℕ) → Listing
code_for split spad = listing_of (split_program split spad)

-- it is code of version 2, of few instructions, whose issue list is the split's pipelined list. It takes so few steps
-- that with its halt's and all beats of the list they are within the bound of the passes, for any number of lanes
pub record IsCodeOf (split : Split) (spad : ℕ) (code : Listing) : Type 0 where
  pub version : code.version ≡ Two
  pub few : length code.instrs ≤ code_room split
  pub steps : ℕ
  pub issues : (n : ℕ) → steps < n → issue_list code.instrs n ≡ Some (pipe_list split spad)
  pub within : (lanes : ℕ) → 0 < lanes
      → steps + 1 + beats_of_all (pipe_list split spad) lanes ≤ bound_of split.passes
