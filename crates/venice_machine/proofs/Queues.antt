-- The queues of the three units, where the jobs stand in one list.
use Rattle.std.proofs.Common.{◌≡◌, ℕ, zero, suc, ◌+◌, sym, refl, ap, ◌∙◌, [], ◌∷◌, ◌++◌, slice_get, IfSome, Bool, true, false, cond, nat_lt}
use Rattle.std.proofs.lemmas.List.Elements.{filter-append}
use Rattle.ven_base.specs.Store.{Store}
use Rattle.ven_base.specs.Job.{Job, next_job, jobs_beaten, store_beaten}
use Rattle.venice_isa.specs.Beat.{Progress, beats_of}
use Rattle.venice_isa.specs.Units.{Unit}
use Rattle.venice_machine.specs.State.{IssuedWork, issued_course, Jobs, is_job_of, queue, place_of}

-- a new job stands at the end of its unit's queue
pub queue_pushed : (unit : Unit) (jobs : Jobs) (new : Job IssuedWork Progress) → queue unit (jobs ++ new ∷ []) ≡ queue unit jobs ++ cond (is_job_of unit new) (new ∷ []) []
queue_pushed unit jobs new = filter-append (is_job_of unit) jobs (new ∷ [])

module _ (lane_count : ℕ) (unit : Unit) where
  -- a job that is the unit's stands in its queue
  stands : (job : Job IssuedWork Progress) (jobs : Jobs) (is : Bool) → is_job_of unit job ≡ is → queue unit (job ∷ jobs) ≡ cond is (job ∷ queue unit jobs) (queue unit jobs)
  stands job jobs is e = ap (λ b. cond b (job ∷ queue unit jobs) (queue unit jobs)) e

  -- the unit's own queue: job k of it makes its beat there
  pub own_beaten : (k : ℕ) (jobs : Jobs) (store : Store) → queue unit (jobs_beaten (issued_course lane_count) (place_of unit k jobs) jobs store) ≡ jobs_beaten (issued_course lane_count) k (queue unit jobs) store
  own_beaten k [] store = refl
  own_beaten zero (job ∷ jobs) store = go (is_job_of unit job) refl (own_beaten zero jobs store)
    where
      front : is_job_of unit job ≡ true → (more : Bool) → queue unit (cond more (next_job (issued_course lane_count) job store ∷ []) [] ++ jobs) ≡ cond more (next_job (issued_course lane_count) job store ∷ []) [] ++ queue unit jobs
      front e true = stands (next_job (issued_course lane_count) job store) jobs true e
      front e false = refl

      go : (is : Bool) → is_job_of unit job ≡ is → queue unit (jobs_beaten (issued_course lane_count) (place_of unit zero jobs) jobs store) ≡ jobs_beaten (issued_course lane_count) zero (queue unit jobs) store
          → queue unit (jobs_beaten (issued_course lane_count) (cond is 0 (suc (place_of unit zero jobs))) (job ∷ jobs) store) ≡ jobs_beaten (issued_course lane_count) zero (cond is (job ∷ queue unit jobs) (queue unit jobs)) store
      go true e rest = front e (nat_lt (job.progress.done + 1) (beats_of job.work.issue lane_count))
      go false e rest = stands job (jobs_beaten (issued_course lane_count) (place_of unit zero jobs) jobs store) false e ∙ rest
  own_beaten (suc k) (job ∷ jobs) store = go (is_job_of unit job) refl (own_beaten k jobs store) (own_beaten (suc k) jobs store)
    where
      go : (is : Bool) → is_job_of unit job ≡ is → queue unit (jobs_beaten (issued_course lane_count) (place_of unit k jobs) jobs store) ≡ jobs_beaten (issued_course lane_count) k (queue unit jobs) store
          → queue unit (jobs_beaten (issued_course lane_count) (place_of unit (suc k) jobs) jobs store) ≡ jobs_beaten (issued_course lane_count) (suc k) (queue unit jobs) store
          → queue unit (jobs_beaten (issued_course lane_count) (cond is (suc (place_of unit k jobs)) (suc (place_of unit (suc k) jobs))) (job ∷ jobs) store) ≡ jobs_beaten (issued_course lane_count) (suc k) (cond is (job ∷ queue unit jobs) (queue unit jobs)) store
      go true e mine other = stands job (jobs_beaten (issued_course lane_count) (place_of unit k jobs) jobs store) true e ∙ ap (λ rest. job ∷ rest) mine
      go false e mine other = stands job (jobs_beaten (issued_course lane_count) (place_of unit (suc k) jobs) jobs store) false e ∙ other

  pub own_store : (k : ℕ) (jobs : Jobs) (store : Store) → store_beaten (issued_course lane_count) (place_of unit k jobs) jobs store ≡ store_beaten (issued_course lane_count) k (queue unit jobs) store
  own_store k [] store = refl
  own_store zero (job ∷ jobs) store = go (is_job_of unit job) (own_store zero jobs store)
    where
      go : (is : Bool) → store_beaten (issued_course lane_count) (place_of unit zero jobs) jobs store ≡ store_beaten (issued_course lane_count) zero (queue unit jobs) store
          → store_beaten (issued_course lane_count) (cond is 0 (suc (place_of unit zero jobs))) (job ∷ jobs) store ≡ store_beaten (issued_course lane_count) zero (cond is (job ∷ queue unit jobs) (queue unit jobs)) store
      go true rest = refl
      go false rest = rest
  own_store (suc k) (job ∷ jobs) store = go (is_job_of unit job) (own_store k jobs store) (own_store (suc k) jobs store)
    where
      go : (is : Bool) → store_beaten (issued_course lane_count) (place_of unit k jobs) jobs store ≡ store_beaten (issued_course lane_count) k (queue unit jobs) store
          → store_beaten (issued_course lane_count) (place_of unit (suc k) jobs) jobs store ≡ store_beaten (issued_course lane_count) (suc k) (queue unit jobs) store
          → store_beaten (issued_course lane_count) (cond is (suc (place_of unit k jobs)) (suc (place_of unit (suc k) jobs))) (job ∷ jobs) store ≡ store_beaten (issued_course lane_count) (suc k) (cond is (job ∷ queue unit jobs) (queue unit jobs)) store
      go true mine other = mine
      go false mine other = other

-- and another unit's queue stays
pub other_queue_stays : (lane_count : ℕ) (other : Unit) (place : ℕ) (jobs : Jobs) (store : Store) → IfSome (slice_get jobs place) (λ job. is_job_of other job ≡ false) → queue other (jobs_beaten (issued_course lane_count) place jobs store) ≡ queue other jobs
other_queue_stays lane_count other place [] store isnt = refl
other_queue_stays lane_count other zero (job ∷ jobs) store isnt = front (nat_lt (job.progress.done + 1) (beats_of job.work.issue lane_count))
  where
    front : (more : Bool) → queue other (cond more (next_job (issued_course lane_count) job store ∷ []) [] ++ jobs) ≡ queue other (job ∷ jobs)
    front true = stands lane_count other (next_job (issued_course lane_count) job store) jobs false isnt ∙ sym (stands lane_count other job jobs false isnt)
    front false = sym (stands lane_count other job jobs false isnt)
other_queue_stays lane_count other (suc place) (job ∷ jobs) store isnt = go (is_job_of other job) (other_queue_stays lane_count other place jobs store isnt)
  where
    go : (is : Bool) → queue other (jobs_beaten (issued_course lane_count) place jobs store) ≡ queue other jobs
        → cond is (job ∷ queue other (jobs_beaten (issued_course lane_count) place jobs store)) (queue other (jobs_beaten (issued_course lane_count) place jobs store)) ≡ cond is (job ∷ queue other jobs) (queue other jobs)
    go true e = ap (λ rest. job ∷ rest) e
    go false e = e
