-- Works with tags.
use Rattle.std.specs.Prelude.{ℕ, ◌==◌, List}
use Rattle.std.specs.List.{count_by}
use Rattle.ven_base.specs.Job.{Job}

-- how many of the jobs have a work with this tag
abbrev pub tagged_among : {Work Progress : Type 0} → (tag_of : Work → ℕ) → ℕ → List (Job Work Progress) → ℕ
tagged_among tag_of tag jobs = count_by (λ job. tag_of job.work == tag) jobs
