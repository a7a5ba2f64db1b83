-- What the laws of the crates below say, as far as they are wanted here.
use Rattle.overlap_law.specs.Laws.{DisciplinedRunsHalt, SameSteps, StartHasSizes}
use Rattle.expr_split.specs.Laws.{SplitsAreSound}
use Rattle.expr_split.specs.TableLaws.{TablesAreDeclared, SourcesAreInputs, OutputsAreLeft}
use Rattle.dma_schedule.specs.Laws.{ListsArePipelined, ListsAreDisciplined, ListsKeepInside, ListsLeaveArrays}

pub record LowerLaws : Type 0 where
  -- of runs
  pub halts : DisciplinedRunsHalt
  pub same : SameSteps
  pub sizes : StartHasSizes
  -- of splits and their tables
  pub sound : SplitsAreSound
  pub declared : TablesAreDeclared
  pub sources : SourcesAreInputs
  pub outputs : OutputsAreLeft
  -- of lists
  pub pipelined : ListsArePipelined
  pub disciplined : ListsAreDisciplined
  pub inside : ListsKeepInside
  pub leave : ListsLeaveArrays
