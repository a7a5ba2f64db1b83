-- What holds of the program of a split.
use Rattle.std.specs.Prelude.{◌≡◌, ◌≤◌, ℕ, true}
use Rattle.pass_plan.specs.Sound.{Split}
use Rattle.dma_schedule.specs.Laws.{OfSplits}
use Rattle.dma_schedule.specs.PipeList.{pipe_list}
use Rattle.host_programs.specs.Expr.{value}
use Rattle.host_programs.specs.Program.{list_by}
use Rattle.host_programs.specs.ProgramCode.{is_closed}
use Rattle.host_programs.specs.ProgramLaws.{no_registers}
use Rattle.host_programs.specs.Room.{program_room}
use Rattle.host_codegen.specs.SplitProgram.{split_program}

-- its list by exact values is the split's pipelined list
abbrev pub ProgramsIssueTheirLists : Type 0
ProgramsIssueTheirLists =
    OfSplits (λ split spad. list_by value (split_program split spad) 0 no_registers ≡ pipe_list split spad)

-- it reads registers in use alone, and takes no more than there are
abbrev pub ProgramsAreClosed : Type 0
ProgramsAreClosed = (split : Split) (spad : ℕ) → is_closed (split_program split spad) 0 ≡ true

abbrev pub ProgramsTakeFew : Type 0
ProgramsTakeFew = (split : Split) (spad : ℕ) → program_room (split_program split spad) ≤ 32
