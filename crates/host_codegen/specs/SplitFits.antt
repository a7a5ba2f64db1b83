-- Where the program of a split fits in the host's 32 bits.
use Rattle.dma_schedule.specs.Laws.{OfSplits}
use Rattle.host_programs.specs.ProgramFits.{ProgramFits}
use Rattle.host_programs.specs.ProgramLaws.{no_registers}
use Rattle.host_codegen.specs.SplitProgram.{split_program}

-- for every sound split, in a scratchpad that holds its need
abbrev pub ProgramsFit : Type 0
ProgramsFit = OfSplits (λ split spad. ProgramFits (split_program split spad) 0 no_registers)
