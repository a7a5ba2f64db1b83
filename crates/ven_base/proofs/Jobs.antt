-- What holds of jobs, whatever their works are.
use Rattle.std.proofs.Common.{◌≡◌, ℕ, zero, suc, ◌+◌, ◌<◌, ◌≤◌, refl, sym, ap, arith, List, [], ◌∷◌, ◌++◌, Bool, true, false, nat_lt, cond, map, length}
use Rattle.std.specs.Prelude.{All}
use Rattle.std.proofs.lemmas.Bool.{ltb-true, ltb-false, lt-ltb, le-ltb, cond-true, cond-false}
use Rattle.std.proofs.lemmas.List.Elements.{All-head, All-tail, All-cons}
use Rattle.ven_base.specs.Store.{Place, Store, Size, store_size, IsInRange}
use Rattle.ven_base.specs.Job.{Job, Course, HasBeatsLeft, IsReady, KeepsToFootprint, jobs_beaten, store_beaten, beats_left, what_is_left, next_job, next_store, beats_on, finished, all_finished, course_as, job_as}

-- ---- the jobs after a beat of one of them

module _ {Work Progress : Type 0} (course : Course Work Progress) where
  -- there are no more of them
  pub beaten_length : (place : ℕ) (jobs : List (Job Work Progress)) (store : Store) → length (jobs_beaten course place jobs store) ≤ length jobs
  beaten_length place [] store = omega arith
  beaten_length zero (job ∷ jobs) store = go (nat_lt (course.done job.progress + 1) (course.beats job.work))
    where
      go : (more : Bool) → length (cond more (next_job course job store ∷ []) [] ++ jobs) ≤ length (job ∷ jobs)
      go true = omega arith
      go false = omega arith
  beaten_length (suc place) (job ∷ jobs) store = omega (arith, beaten_length place jobs store)

  -- what holds of their works still does
  pub works_beaten : (P : Work → Type 0) (place : ℕ) (jobs : List (Job Work Progress)) (store : Store) → All (λ job. P job.work) jobs → All (λ job. P job.work) (jobs_beaten course place jobs store)
  works_beaten P place [] store all = all
  works_beaten P zero (job ∷ jobs) store all = go (nat_lt (course.done job.progress + 1) (course.beats job.work))
    where
      go : (more : Bool) → All (λ job. P job.work) (cond more (next_job course job store ∷ []) [] ++ jobs)
      go true = All-cons (λ job. P job.work) (next_job course job store) jobs (All-head (λ job. P job.work) job jobs all) (All-tail (λ job. P job.work) job jobs all)
      go false = All-tail (λ job. P job.work) job jobs all
  works_beaten P (suc place) (job ∷ jobs) store all =
      All-cons (λ job. P job.work) job _ (All-head (λ job. P job.work) job jobs all) (works_beaten P place jobs store (All-tail (λ job. P job.work) job jobs all))

  -- each has beats left, where a beat is counted as one
  pub left_beaten : (place : ℕ) (jobs : List (Job Work Progress)) (store : Store) → All (λ job. course.done (next_job course job store).progress ≡ course.done job.progress + 1) jobs → All (HasBeatsLeft course) jobs → All (HasBeatsLeft course) (jobs_beaten course place jobs store)
  left_beaten place [] store counted all = all
  left_beaten zero (job ∷ jobs) store counted all = go (nat_lt (course.done job.progress + 1) (course.beats job.work)) refl
    where
      go : (more : Bool) → nat_lt (course.done job.progress + 1) (course.beats job.work) ≡ more → All (HasBeatsLeft course) (cond more (next_job course job store ∷ []) [] ++ jobs)
      go true e =
          let one_more = ltb-true (course.done job.progress + 1) (course.beats job.work) e in
          All-cons (HasBeatsLeft course) (next_job course job store) jobs
          (omega (arith, one_more, All-head (λ job. course.done (next_job course job store).progress ≡ course.done job.progress + 1) job jobs counted))
          (All-tail (HasBeatsLeft course) job jobs all)
      go false e = All-tail (HasBeatsLeft course) job jobs all
  left_beaten (suc place) (job ∷ jobs) store counted all =
      All-cons (HasBeatsLeft course) job _ (All-head (HasBeatsLeft course) job jobs all)
      (left_beaten place jobs store (All-tail (λ job. course.done (next_job course job store).progress ≡ course.done job.progress + 1) job jobs counted) (All-tail (HasBeatsLeft course) job jobs all))

  -- cells and memory are as many as before, where a ready job's beat leaves as many
  pub size_beaten : (reads writes : Work → Place → Type 0) (place : ℕ) (jobs : List (Job Work Progress)) (store : Store) → All (HasBeatsLeft course) jobs → All (λ job. IsInRange (reads job.work) (writes job.work) (store_size store)) jobs
      → ((job : Job Work Progress) → IsReady course reads writes job (store_size store) → store_size (next_store course job store) ≡ store_size store) → store_size (store_beaten course place jobs store) ≡ store_size store
  size_beaten reads writes place [] store left in_range keeps = refl
  size_beaten reads writes zero (job ∷ jobs) store left in_range keeps =
      keeps job (record { more = All-head (HasBeatsLeft course) job jobs left; in_range = All-head (λ job. IsInRange (reads job.work) (writes job.work) (store_size store)) job jobs in_range })
  size_beaten reads writes (suc place) (job ∷ jobs) store left in_range keeps =
      size_beaten reads writes place jobs store (All-tail (HasBeatsLeft course) job jobs left) (All-tail (λ job. IsInRange (reads job.work) (writes job.work) (store_size store)) job jobs in_range) keeps

  -- a job comes on before its last beat, and is no more after it
  pub comes_on : (job : Job Work Progress) (store : Store) → course.done job.progress + 1 < course.beats job.work → what_is_left course job store ≡ next_job course job store ∷ []
  comes_on job store more = cond-true (nat_lt (course.done job.progress + 1) (course.beats job.work)) (next_job course job store ∷ []) [] (lt-ltb _ _ more)

  pub is_over : (job : Job Work Progress) (store : Store) → course.beats job.work ≤ course.done job.progress + 1 → what_is_left course job store ≡ []
  is_over job store all = cond-false (nat_lt (course.done job.progress + 1) (course.beats job.work)) (next_job course job store ∷ []) [] (le-ltb _ _ all)

  -- ---- what jobs leave in the end, where a beat is counted as one

  -- how many beats are left of all
  abbrev pub all_left : List (Job Work Progress) → ℕ
  all_left [] = 0
  all_left (job ∷ jobs) = beats_left course job + all_left jobs

  pub left_after : (job : Job Work Progress) (jobs : List (Job Work Progress)) (store : Store) → course.done (next_job course job store).progress ≡ course.done job.progress + 1 → HasBeatsLeft course job
      → all_left (what_is_left course job store ++ jobs) + 1 ≡ all_left (job ∷ jobs)
  left_after job jobs store counted more = go (nat_lt (course.done job.progress + 1) (course.beats job.work)) refl
    where
      go : (on : Bool) → nat_lt (course.done job.progress + 1) (course.beats job.work) ≡ on → all_left (cond on (next_job course job store ∷ []) [] ++ jobs) + 1 ≡ all_left (job ∷ jobs)
      go true e = let one_more = ltb-true (course.done job.progress + 1) (course.beats job.work) e in omega arith
      go false e = let last = ltb-false (course.done job.progress + 1) (course.beats job.work) e in omega arith

  -- the rest of a job is its next beat and the rest after it
  pub finished_on : (job : Job Work Progress) (store : Store) (left : ℕ) → suc left ≡ beats_left course job → finished course job store ≡ beats_on course left (next_job course job store) (next_store course job store)
  finished_on job store left is = ap (λ n. beats_on course n job store) (sym is)

  pub finished_beaten : (job : Job Work Progress) (jobs : List (Job Work Progress)) (store : Store) → course.done (next_job course job store).progress ≡ course.done job.progress + 1 → HasBeatsLeft course job
      → all_finished course (what_is_left course job store ++ jobs) (next_store course job store) ≡ all_finished course (job ∷ jobs) store
  finished_beaten job jobs store counted more = go (nat_lt (course.done job.progress + 1) (course.beats job.work)) refl
    where
      go : (on : Bool) → nat_lt (course.done job.progress + 1) (course.beats job.work) ≡ on → all_finished course (cond on (next_job course job store ∷ []) [] ++ jobs) (next_store course job store) ≡ all_finished course (job ∷ jobs) store
      go true e =
          let one_more = ltb-true (course.done job.progress + 1) (course.beats job.work) e in
          ap (all_finished course jobs) (sym (finished_on job store (beats_left course (next_job course job store)) (omega arith)))
      go false e =
          let last = ltb-false (course.done job.progress + 1) (course.beats job.work) e in
          ap (all_finished course jobs) (sym (finished_on job store 0 (omega arith)))

-- ---- works that are also works of another kind

module _ {Work Other Progress : Type 0} (as_other : Work → Other) (course : Course Other Progress) where
  pub ready_as : (reads writes : Other → Place → Type 0) (job : Job Work Progress) (size : Size)
      → IsReady (course_as as_other course) (λ work. reads (as_other work)) (λ work. writes (as_other work)) job size → IsReady course reads writes (job_as as_other job) size
  ready_as reads writes job size ready = record { more = ready.more; in_range = ready.in_range }

  pub keeps_as : (writes : Other → Place → Type 0) (job : Job Work Progress) (first second : Store)
      → KeepsToFootprint course writes (job_as as_other job) first second → KeepsToFootprint (course_as as_other course) (λ work. writes (as_other work)) job first second
  keeps_as writes job first second keeps = record {
    same_size = keeps.same_size;
    comes_nearer = keeps.comes_nearer;
    same_progress = keeps.same_progress;
    alike = keeps.alike;
  }

  -- a beat of one of them is the same beat there
  pub jobs_beaten_as : (place : ℕ) (jobs : List (Job Work Progress)) (store : Store)
      → map (job_as as_other) (jobs_beaten (course_as as_other course) place jobs store) ≡ jobs_beaten course place (map (job_as as_other) jobs) store
  jobs_beaten_as place [] store = refl
  jobs_beaten_as zero (job ∷ jobs) store = go (nat_lt (course.done job.progress + 1) (course.beats (as_other job.work)))
    where
      go : (more : Bool) → map (job_as as_other) (cond more (next_job (course_as as_other course) job store ∷ []) [] ++ jobs) ≡ cond more (next_job course (job_as as_other job) store ∷ []) [] ++ map (job_as as_other) jobs
      go true = refl
      go false = refl
  jobs_beaten_as (suc place) (job ∷ jobs) store = ap (λ rest. job_as as_other job ∷ rest) (jobs_beaten_as place jobs store)

  -- and so are several of them
  pub beats_on_as : (count : ℕ) (job : Job Work Progress) (store : Store) → beats_on (course_as as_other course) count job store ≡ beats_on course count (job_as as_other job) store
  beats_on_as zero job store = refl
  beats_on_as (suc count) job store = beats_on_as count (next_job (course_as as_other course) job store) (next_store (course_as as_other course) job store)

  pub store_beaten_as : (place : ℕ) (jobs : List (Job Work Progress)) (store : Store) → store_beaten (course_as as_other course) place jobs store ≡ store_beaten course place (map (job_as as_other) jobs) store
  store_beaten_as place [] store = refl
  store_beaten_as zero (job ∷ jobs) store = refl
  store_beaten_as (suc place) (job ∷ jobs) store = store_beaten_as place jobs store
