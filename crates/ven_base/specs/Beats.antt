-- Several beats of a queue's first job, one after another.
use Rattle.std.specs.Prelude.{ℕ, zero, suc, ◌+◌, ◌<◌, List, [], ◌∷◌, ⊤}
use Rattle.ven_base.specs.Store.{Store}
use Rattle.ven_base.specs.Job.{Job, Course, jobs_beaten, store_beaten}

module _ {Work Progress : Type 0} (course : Course Work Progress) where
  -- the queue after so many beats of its first job
  abbrev pub jobs_after_beats : (count : ℕ) → List (Job Work Progress) → Store → List (Job Work Progress)
  jobs_after_beats zero jobs store = jobs
  jobs_after_beats (suc count) jobs store =
      jobs_after_beats count (jobs_beaten course 0 jobs store) (store_beaten course 0 jobs store)

  -- cells and memory after them
  abbrev pub store_after_beats : (count : ℕ) → List (Job Work Progress) → Store → Store
  store_after_beats zero jobs store = store
  store_after_beats (suc count) jobs store =
      store_after_beats count (jobs_beaten course 0 jobs store) (store_beaten course 0 jobs store)

  -- the first job has more beats left than so many; of an empty queue this says nothing
  abbrev pub HasMore : (count : ℕ) → List (Job Work Progress) → Type 0
  HasMore count [] = ⊤
  HasMore count (job ∷ jobs) = course.done job.progress + count < course.beats job.work
