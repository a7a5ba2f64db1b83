-- Works that go beat by beat: jobs, the beats of one of them, what is left of them, and what they leave in the end.
use Rattle.std.specs.Prelude.{◌≡◌, ℕ, zero, suc, ◌+◌, ◌-◌, ◌<◌, List, [], ◌∷◌, ◌++◌, map, nat_lt, if◌then◌else◌}
use Rattle.ven_base.specs.Store.{Place, Store, Size, store_size, IsInRange, ChangeAlike}

-- a work, and how far it has come
pub record Job (Work Progress : Type 0) : Type 0 where
  pub work : Work
  pub progress : Progress

abbrev pub works_of : {Work Progress : Type 0} → List (Job Work Progress) → List Work
works_of jobs = map (λ job. job.work) jobs

-- how works go: where each begins, how many beats it takes and how many are done, and what its next beat leaves in
-- cells and memory and of its progress
pub record Course (Work Progress : Type 0) : Type 0 where
  pub not_begun : Progress
  pub beats : Work → ℕ
  pub done : Progress → ℕ
  pub store_after : Work → Progress → Store → Store
  pub progress_after : Work → Progress → Store → Progress

module _ {Work Progress : Type 0} (course : Course Work Progress) where
  -- a work of which no beat is done
  abbrev pub new_job : Work → Job Work Progress
  new_job work = record { work = work; progress = course.not_begun }

  abbrev pub beats_left : Job Work Progress → ℕ
  beats_left job = course.beats job.work - course.done job.progress

  abbrev pub HasBeatsLeft : Job Work Progress → Type 0
  HasBeatsLeft job = course.done job.progress < course.beats job.work

  -- ---- one beat

  -- cells and memory after a job's next beat
  abbrev pub next_store : Job Work Progress → Store → Store
  next_store job store = course.store_after job.work job.progress store

  -- the job after it: it comes on
  abbrev pub next_job : Job Work Progress → Store → Job Work Progress
  next_job job store = record job { progress = course.progress_after job.work job.progress store }

  -- or is no more, with its last beat
  abbrev pub what_is_left : Job Work Progress → Store → List (Job Work Progress)
  what_is_left job store =
      if nat_lt (course.done job.progress + 1) (course.beats job.work) then next_job job store ∷ [] else []

  -- jobs, of which the one at a place makes its next beat
  abbrev pub jobs_beaten : (place : ℕ) → List (Job Work Progress) → Store → List (Job Work Progress)
  jobs_beaten place [] store = []
  jobs_beaten zero (job ∷ jobs) store = what_is_left job store ++ jobs
  jobs_beaten (suc place) (job ∷ jobs) store = job ∷ jobs_beaten place jobs store

  -- cells and memory after that beat
  abbrev pub store_beaten : (place : ℕ) → List (Job Work Progress) → Store → Store
  store_beaten place [] store = store
  store_beaten zero (job ∷ jobs) store = next_store job store
  store_beaten (suc place) (job ∷ jobs) store = store_beaten place jobs store

  -- ---- all beats

  -- cells and memory after so many beats of a job
  abbrev pub beats_on : (count : ℕ) → Job Work Progress → Store → Store
  beats_on zero job store = store
  beats_on (suc count) job store = beats_on count (next_job job store) (next_store job store)

  -- after the rest of a job
  abbrev pub finished : Job Work Progress → Store → Store
  finished job store = beats_on (beats_left job) job store

  -- after the rest of each job, one job after another
  abbrev pub all_finished : List (Job Work Progress) → Store → Store
  all_finished [] store = store
  all_finished (job ∷ jobs) store = all_finished jobs (finished job store)

  -- ---- what a beat keeps to

  -- the job has a beat left, and stores of this size have what its work reads and writes
  pub record IsReady (reads writes : Work → Place → Type 0) (job : Job Work Progress) (size : Size) : Type 0 where
    pub more : HasBeatsLeft job
    pub in_range : IsInRange (reads job.work) (writes job.work) size

  -- the job's next beat does the same in both stores: it gives the same to places that the work writes, leaves all else
  -- alone, and brings the work as far, one beat nearer to its end
  pub record KeepsToFootprint (writes : Work → Place → Type 0) (job : Job Work Progress) (first second : Store)
      : Type 0 where
    pub same_size : store_size (next_store job first) ≡ store_size first
    pub comes_nearer : course.done (next_job job first).progress ≡ course.done job.progress + 1
    pub same_progress : (next_job job second).progress ≡ (next_job job first).progress
    pub alike : ChangeAlike (writes job.work) first (next_store job first) second (next_store job second)

-- ---- works that are also works of another kind

module _ {Work Other Progress : Type 0} (as_other : Work → Other) where
  -- they go as those do
  abbrev pub course_as : Course Other Progress → Course Work Progress
  course_as course = record {
    not_begun = course.not_begun;
    beats = λ work. course.beats (as_other work);
    done = course.done;
    store_after = λ work. course.store_after (as_other work);
    progress_after = λ work. course.progress_after (as_other work);
  }

  abbrev pub job_as : Job Work Progress → Job Other Progress
  job_as job = record { work = as_other job.work; progress = job.progress }
