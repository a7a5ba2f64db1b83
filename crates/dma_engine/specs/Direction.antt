-- A channel as its callers see it: the transfers of one direction, and how they go.
use Rattle.std.specs.Prelude.{◌<◌}
use Rattle.ven_base.specs.Job.{Course, course_as}
use Rattle.venice_isa.specs.declared.work.DmaWork.{DmaWork}
use Rattle.venice_isa.specs.declared.issue.Issue.{Issue}
use Rattle.venice_isa.specs.declared.issue.Issue.TheVariants.{Read, Write}
use Rattle.venice_isa.specs.Beat.{Progress, course_of}
use Rattle.dma_engine.specs.declared.direction.Direction.{Direction}
use Rattle.dma_engine.specs.declared.direction.Direction.TheVariants.{IntoCells, IntoMemory}

-- the issue that a transfer of this direction is
abbrev pub issue_of : Direction → DmaWork → Issue
issue_of IntoCells work = Read work
issue_of IntoMemory work = Write work

-- how transfers go; the number of lanes has no say in it
abbrev pub channel_course : Direction → Course DmaWork Progress
channel_course direction = course_as (issue_of direction) (course_of 1)

-- no count of the transfer is 0
pub record HasBytes (work : DmaWork) : Type 0 where
  pub rows : 0 < work.rows
  pub bytes : 0 < work.bytes
