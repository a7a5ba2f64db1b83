-- The queue of a unit.
use Rattle.std.specs.Prelude.{ℕ, ◌<◌, ◌≤◌, List, length, All}
use Rattle.ven_base.specs.Job.{Job, Course, HasBeatsLeft}

-- a queue has its places, at least one, and no more jobs than that, and each of its jobs has counts and beats left
pub record IsQueue {Work Progress : Type 0} (course : Course Work Progress) (has_counts : Work → Type 0) (places : ℕ)
    (jobs : List (Job Work Progress)) : Type 0 where
  pub some : 0 < places
  pub within : length jobs ≤ places
  pub counts : All (λ job. has_counts job.work) jobs
  pub left : All (HasBeatsLeft course) jobs
