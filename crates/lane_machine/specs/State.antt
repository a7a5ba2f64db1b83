-- The lanes as their callers see them.
use Rattle.std.specs.Prelude.{ℕ, List}
use Rattle.ven_base.specs.Job.{Job, Course, course_as}
use Rattle.venice_isa.specs.declared.work.VecWork.{VecWork}
use Rattle.venice_isa.specs.declared.issue.Issue.TheVariants.{Vector}
use Rattle.venice_isa.specs.Beat.{Progress, course_of}

-- the unfinished works with their progress, the current one first, and how many lanes there are
pub record State : Type 0 where
  pub jobs : List (Job VecWork Progress)
  pub lanes : ℕ

-- how vector instructions go on so many lanes
abbrev pub lane_course : ℕ → Course VecWork Progress
lane_course lanes = course_as Vector (course_of lanes)
