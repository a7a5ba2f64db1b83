-- The unfinished works, divided among the queues of the units.
use Rattle.std.proofs.Common.{◌≡◌, ℕ, zero, suc, ◌+◌, ◌<◌, sym, refl, ap, ◌∙◌, [], ◌∷◌, ◌++◌, length, All, Bool, true, false, cond, ◌||◌, nat_lt, slice_get, IfSome, IsTrue, arith}
use Rattle.std.specs.List.{list_any}
use Rattle.std.proofs.lemmas.List.Elements.{All-head, All-tail, All-cons}
use Rattle.std.proofs.lemmas.List.Sums.{sum_by-cons}
use Rattle.ven_base.specs.Store.{Store}
use Rattle.ven_base.specs.Job.{Job, next_job, jobs_beaten}
use Rattle.venice_isa.specs.declared.issue.Issue.{Issue}
use Rattle.venice_isa.specs.declared.issue.Issue.TheVariants.{Vector, Read, Write, RWait, WWait, VWait, TWait}
use Rattle.venice_isa.specs.Beat.{Progress, beats_of}
use Rattle.venice_isa.specs.Units.{Unit, Lanes, ReadChannel, WriteChannel, is_of, is_work}
use Rattle.venice_machine.specs.State.{IssuedWork, issued_course, Jobs, is_job_of, queue, unfinished_count, place_of, has_tag, tagged_count}

abbrev pub MachineJob : Type 0
MachineJob = Job IssuedWork Progress

abbrev pub IsWork : MachineJob → Type 0
IsWork job = IsTrue (is_work job.work.issue)

abbrev pub AreWorks : Jobs → Type 0
AreWorks jobs = All IsWork jobs

-- the unit of a work
pub data IsUnits (issue : Issue) : Type 0 where
  of_lanes : is_of Lanes issue ≡ true → is_of ReadChannel issue ≡ false → is_of WriteChannel issue ≡ false → IsUnits issue
  of_reads : is_of Lanes issue ≡ false → is_of ReadChannel issue ≡ true → is_of WriteChannel issue ≡ false → IsUnits issue
  of_writes : is_of Lanes issue ≡ false → is_of ReadChannel issue ≡ false → is_of WriteChannel issue ≡ true → IsUnits issue

pub whose : (issue : Issue) → IsTrue (is_work issue) → IsUnits issue
whose (Vector work) is = of_lanes refl refl refl
whose (Read work) is = of_reads refl refl refl
whose (Write work) is = of_writes refl refl refl
whose (RWait most) is = cc
whose (WWait most) is = cc
whose VWait is = cc
whose (TWait tag) is = cc

-- a work is in one queue
pub in_queue : (unit : Unit) (job : MachineJob) (jobs : Jobs) (is : Bool) → is_job_of unit job ≡ is → queue unit (job ∷ jobs) ≡ cond is (job ∷ queue unit jobs) (queue unit jobs)
in_queue unit job jobs is e = ap (λ b. cond b (job ∷ queue unit jobs) (queue unit jobs)) e

-- what the three queues are behind a work
module _ {A : Type 0} (of : Jobs → Jobs → Jobs → A) (job : MachineJob) (jobs : Jobs) where
  of_queues : (l r w : Bool) → is_job_of Lanes job ≡ l → is_job_of ReadChannel job ≡ r → is_job_of WriteChannel job ≡ w
      → of (queue Lanes (job ∷ jobs)) (queue ReadChannel (job ∷ jobs)) (queue WriteChannel (job ∷ jobs))
      ≡ of (cond l (job ∷ queue Lanes jobs) (queue Lanes jobs)) (cond r (job ∷ queue ReadChannel jobs) (queue ReadChannel jobs)) (cond w (job ∷ queue WriteChannel jobs) (queue WriteChannel jobs))
  of_queues l r w a b c =
      ap (λ q. of q (queue ReadChannel (job ∷ jobs)) (queue WriteChannel (job ∷ jobs))) (in_queue Lanes job jobs l a)
      ∙ ap (λ q. of (cond l (job ∷ queue Lanes jobs) (queue Lanes jobs)) q (queue WriteChannel (job ∷ jobs))) (in_queue ReadChannel job jobs r b)
      ∙ ap (λ q. of (cond l (job ∷ queue Lanes jobs) (queue Lanes jobs)) (cond r (job ∷ queue ReadChannel jobs) (queue ReadChannel jobs)) q) (in_queue WriteChannel job jobs w c)

-- ---- tests and counts

second_first : (a b c d : Bool) → (a || (b || (c || d))) ≡ (b || ((a || c) || d))
second_first true true c d = refl
second_first true false c d = refl
second_first false b c d = refl

third_first : (a b c d : Bool) → (a || (b || (c || d))) ≡ (b || (c || (a || d)))
third_first true true c d = refl
third_first true false true d = refl
third_first true false false d = refl
third_first false b c d = refl

first_first : (a b c d : Bool) → (a || (b || (c || d))) ≡ ((a || b) || (c || d))
first_first true b c d = refl
first_first false b c d = refl

module _ (test : MachineJob → Bool) where
  abbrev any_of_three : Jobs → Jobs → Jobs → Bool
  any_of_three l r w = list_any test l || (list_any test r || list_any test w)

  -- a test of all works is one of each queue's
  pub any_of_units : (jobs : Jobs) → AreWorks jobs → list_any test jobs ≡ any_of_three (queue Lanes jobs) (queue ReadChannel jobs) (queue WriteChannel jobs)
  any_of_units [] are = refl
  any_of_units (job ∷ jobs) are = go (whose job.work.issue (All-head IsWork job jobs are)) (any_of_units jobs (All-tail IsWork job jobs are))
    where
      l : Bool
      l = list_any test (queue Lanes jobs)

      r : Bool
      r = list_any test (queue ReadChannel jobs)

      w : Bool
      w = list_any test (queue WriteChannel jobs)

      go : IsUnits job.work.issue → list_any test jobs ≡ (l || (r || w))
          → (test job || list_any test jobs) ≡ any_of_three (queue Lanes (job ∷ jobs)) (queue ReadChannel (job ∷ jobs)) (queue WriteChannel (job ∷ jobs))
      go (of_lanes a b c) e = ap (λ more. test job || more) e ∙ first_first (test job) l r w ∙ sym (of_queues any_of_three job jobs true false false a b c)
      go (of_reads a b c) e = ap (λ more. test job || more) e ∙ second_first (test job) l r w ∙ sym (of_queues any_of_three job jobs false true false a b c)
      go (of_writes a b c) e = ap (λ more. test job || more) e ∙ third_first (test job) l r w ∙ sym (of_queues any_of_three job jobs false false true a b c)

abbrev length_of_three : Jobs → Jobs → Jobs → ℕ
length_of_three l r w = length l + length r + length w

-- the queues together have as many works
pub length_of_units : (jobs : Jobs) → AreWorks jobs → length jobs ≡ unfinished_count Lanes jobs + unfinished_count ReadChannel jobs + unfinished_count WriteChannel jobs
length_of_units [] are = refl
length_of_units (job ∷ jobs) are = go (whose job.work.issue (All-head IsWork job jobs are)) (length_of_units jobs (All-tail IsWork job jobs are))
  where
    go : IsUnits job.work.issue → length jobs ≡ length_of_three (queue Lanes jobs) (queue ReadChannel jobs) (queue WriteChannel jobs)
        → suc (length jobs) ≡ length_of_three (queue Lanes (job ∷ jobs)) (queue ReadChannel (job ∷ jobs)) (queue WriteChannel (job ∷ jobs))
    go (of_lanes a b c) e = ap (λ n. suc n) e ∙ omega arith ∙ sym (of_queues length_of_three job jobs true false false a b c)
    go (of_reads a b c) e = ap (λ n. suc n) e ∙ omega arith ∙ sym (of_queues length_of_three job jobs false true false a b c)
    go (of_writes a b c) e = ap (λ n. suc n) e ∙ omega arith ∙ sym (of_queues length_of_three job jobs false false true a b c)

abbrev job_has_tag : ℕ → MachineJob → Bool
job_has_tag tag job = has_tag tag job.work.issue

abbrev tags_of_two : ℕ → Jobs → Jobs → Jobs → ℕ
tags_of_two tag l r w = tagged_count tag r + tagged_count tag w

no_vector_tag : (tag : ℕ) (issue : Issue) → is_of Lanes issue ≡ true → has_tag tag issue ≡ false
no_vector_tag tag (Vector work) is = refl
no_vector_tag tag (Read work) is = cc
no_vector_tag tag (Write work) is = cc
no_vector_tag tag (RWait most) is = cc
no_vector_tag tag (WWait most) is = cc
no_vector_tag tag VWait is = cc
no_vector_tag tag (TWait other) is = cc

tagged_cons : (tag : ℕ) (job : MachineJob) (jobs : Jobs) → tagged_count tag (job ∷ jobs) ≡ cond (job_has_tag tag job) 1 0 + tagged_count tag jobs
tagged_cons tag job jobs = sum_by-cons (λ job. cond (job_has_tag tag job) 1 0) job jobs

-- transfers with a tag stand in the channels' queues
pub tagged_of_units : (tag : ℕ) (jobs : Jobs) → AreWorks jobs → tagged_count tag jobs ≡ tagged_count tag (queue ReadChannel jobs) + tagged_count tag (queue WriteChannel jobs)
tagged_of_units tag [] are = refl
tagged_of_units tag (job ∷ jobs) are = go (whose job.work.issue (All-head IsWork job jobs are)) (tagged_of_units tag jobs (All-tail IsWork job jobs are))
  where
    r : ℕ
    r = tagged_count tag (queue ReadChannel jobs)

    w : ℕ
    w = tagged_count tag (queue WriteChannel jobs)

    go : IsUnits job.work.issue → tagged_count tag jobs ≡ r + w
        → tagged_count tag (job ∷ jobs) ≡ tags_of_two tag (queue Lanes (job ∷ jobs)) (queue ReadChannel (job ∷ jobs)) (queue WriteChannel (job ∷ jobs))
    go (of_lanes a b c) e =
        let none : tagged_count tag (job ∷ jobs) ≡ tagged_count tag jobs = tagged_cons tag job jobs ∙ ap (λ has. cond has 1 0 + tagged_count tag jobs) (no_vector_tag tag job.work.issue a) ∙ omega arith in
        none ∙ e ∙ sym (of_queues (tags_of_two tag) job jobs true false false a b c)
    go (of_reads a b c) e =
        let own = tagged_cons tag job (queue ReadChannel jobs) in
        let all = tagged_cons tag job jobs in
        omega (arith, all, own, e) ∙ sym (of_queues (tags_of_two tag) job jobs false true false a b c)
    go (of_writes a b c) e =
        let own = tagged_cons tag job (queue WriteChannel jobs) in
        let all = tagged_cons tag job jobs in
        omega (arith, all, own, e) ∙ sym (of_queues (tags_of_two tag) job jobs false false true a b c)

-- ---- beats

-- they stay works
pub works_beaten : (lane_count place : ℕ) (jobs : Jobs) (store : Store) → AreWorks jobs → AreWorks (jobs_beaten (issued_course lane_count) place jobs store)
works_beaten lane_count place [] store are = are
works_beaten lane_count zero (job ∷ jobs) store are = go (nat_lt (job.progress.done + 1) (beats_of job.work.issue lane_count))
  where
    go : (more : Bool) → AreWorks (cond more (next_job (issued_course lane_count) job store ∷ []) [] ++ jobs)
    go true = All-cons IsWork (next_job (issued_course lane_count) job store) jobs (All-head IsWork job jobs are) (All-tail IsWork job jobs are)
    go false = All-tail IsWork job jobs are
works_beaten lane_count (suc place) (job ∷ jobs) store are =
    All-cons IsWork job (jobs_beaten (issued_course lane_count) place jobs store) (All-head IsWork job jobs are) (works_beaten lane_count place jobs store (All-tail IsWork job jobs are))

-- the work at a place of a unit's queue is none of another unit's
pub others_place : (unit other : Unit) → ((issue : Issue) → is_of unit issue ≡ true → is_of other issue ≡ false) → (k : ℕ) (jobs : Jobs)
    → k < unfinished_count unit jobs → IfSome (slice_get jobs (place_of unit k jobs)) (λ job. is_job_of other job ≡ false)
others_place unit other apart k [] below = absurd (omega (arith, below))
others_place unit other apart zero (job ∷ jobs) below = go (is_job_of unit job) refl below (others_place unit other apart zero jobs)
  where
    go : (is : Bool) → is_job_of unit job ≡ is → zero < length (cond is (job ∷ queue unit jobs) (queue unit jobs))
        → (zero < unfinished_count unit jobs → IfSome (slice_get jobs (place_of unit zero jobs)) (λ job. is_job_of other job ≡ false))
        → IfSome (slice_get (job ∷ jobs) (cond is 0 (suc (place_of unit zero jobs)))) (λ job. is_job_of other job ≡ false)
    go true e below rest = apart job.work.issue e
    go false e below rest = rest below
others_place unit other apart (suc k) (job ∷ jobs) below = go (is_job_of unit job) refl below (others_place unit other apart k jobs) (others_place unit other apart (suc k) jobs)
  where
    go : (is : Bool) → is_job_of unit job ≡ is → suc k < length (cond is (job ∷ queue unit jobs) (queue unit jobs))
        → (k < unfinished_count unit jobs → IfSome (slice_get jobs (place_of unit k jobs)) (λ job. is_job_of other job ≡ false))
        → (suc k < unfinished_count unit jobs → IfSome (slice_get jobs (place_of unit (suc k) jobs)) (λ job. is_job_of other job ≡ false))
        → IfSome (slice_get (job ∷ jobs) (cond is (suc (place_of unit k jobs)) (suc (place_of unit (suc k) jobs)))) (λ job. is_job_of other job ≡ false)
    go true e below mine other_one = mine (omega (arith, below))
    go false e below mine other_one = other_one below
