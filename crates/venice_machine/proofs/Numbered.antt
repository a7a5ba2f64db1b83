-- The works of a queue as works of the whole machine: what a beat, an issue and a count are to them.
use Rattle.std.proofs.Common.{◌≡◌, ℕ, zero, suc, ◌+◌, sym, refl, ap, ◌∙◌, List, [], ◌∷◌, ◌++◌, length, map, Bool, true, false, cond, ◌||◌, nat_lt, slice_get, arith}
use Rattle.std.specs.List.{zip, count_by, list_any, remove}
use Rattle.std.specs.Option.{option_map}
use Rattle.std.proofs.lemmas.List.Sums.{sum_by-cons}
use Rattle.ven_base.specs.Store.{Store}
use Rattle.ven_base.specs.Job.{Job, Course, course_as, next_job, jobs_beaten, store_beaten}
use Rattle.venice_isa.specs.declared.issue.Issue.{Issue}
use Rattle.venice_isa.specs.Beat.{Progress}
use Rattle.venice_machine.specs.State.{IssuedWork, Jobs, issue_of}
use Rattle.venice_machine.specs.Machine.{numbered_job}
use Rattle.venice_machine.specs.Kept.{numbers_left}

module _ {Work : Type 0} (as_issue : Work → Issue) where
  abbrev in_machine : List ℕ → List (Job Work Progress) → Jobs
  in_machine numbers jobs = map (numbered_job as_issue) (zip numbers jobs)

  pub length_in : (numbers : List ℕ) (jobs : List (Job Work Progress)) → length numbers ≡ length jobs → length (in_machine numbers jobs) ≡ length jobs
  length_in [] [] same = refl
  length_in [] (job ∷ jobs) same = absurd (omega (arith, same))
  length_in (n ∷ numbers) [] same = absurd (omega (arith, same))
  length_in (n ∷ numbers) (job ∷ jobs) same =
      let rest : length numbers ≡ length jobs = omega (arith, same) in
      ap (λ k. suc k) (length_in numbers jobs rest)

  -- whether one of them passes a test of issues, and how many do
  pub any_in : (test : Issue → Bool) (numbers : List ℕ) (jobs : List (Job Work Progress)) → length numbers ≡ length jobs
      → list_any (λ job. test job.work.issue) (in_machine numbers jobs) ≡ list_any (λ job. test (as_issue job.work)) jobs
  any_in test [] [] same = refl
  any_in test [] (job ∷ jobs) same = absurd (omega (arith, same))
  any_in test (n ∷ numbers) [] same = absurd (omega (arith, same))
  any_in test (n ∷ numbers) (job ∷ jobs) same =
      let rest : length numbers ≡ length jobs = omega (arith, same) in
      ap (λ more. test (as_issue job.work) || more) (any_in test numbers jobs rest)

  pub count_in : (test : Issue → Bool) (numbers : List ℕ) (jobs : List (Job Work Progress)) → length numbers ≡ length jobs
      → count_by (λ job. test job.work.issue) (in_machine numbers jobs) ≡ count_by (λ job. test (as_issue job.work)) jobs
  count_in test [] [] same = refl
  count_in test [] (job ∷ jobs) same = absurd (omega (arith, same))
  count_in test (n ∷ numbers) [] same = absurd (omega (arith, same))
  count_in test (n ∷ numbers) (job ∷ jobs) same =
      let rest : length numbers ≡ length jobs = omega (arith, same) in
      sum_by-cons (λ (job : Job IssuedWork Progress). cond (test job.work.issue) 1 0) (numbered_job as_issue (n, job)) (in_machine numbers jobs)
      ∙ ap (λ count. cond (test (as_issue job.work)) 1 0 + count) (count_in test numbers jobs rest)
      ∙ sym (sum_by-cons (λ (job : Job Work Progress). cond (test (as_issue job.work)) 1 0) job jobs)

  -- the issue number at a place
  pub numbers_in : (k : ℕ) (numbers : List ℕ) (jobs : List (Job Work Progress)) → length numbers ≡ length jobs
      → option_map (λ (job : Job IssuedWork Progress). job.work.number) (slice_get (in_machine numbers jobs) k) ≡ slice_get numbers k
  numbers_in zero [] [] same = refl
  numbers_in (suc k) [] [] same = refl
  numbers_in k [] (job ∷ jobs) same = absurd (omega (arith, same))
  numbers_in k (n ∷ numbers) [] same = absurd (omega (arith, same))
  numbers_in zero (n ∷ numbers) (job ∷ jobs) same = refl
  numbers_in (suc k) (n ∷ numbers) (job ∷ jobs) same = numbers_in k numbers jobs (omega (arith, same))

  -- one more
  pub pushed_in : (numbers : List ℕ) (jobs : List (Job Work Progress)) (n : ℕ) (job : Job Work Progress) → length numbers ≡ length jobs
      → in_machine (numbers ++ n ∷ []) (jobs ++ job ∷ []) ≡ in_machine numbers jobs ++ numbered_job as_issue (n, job) ∷ []
  pushed_in [] [] n job same = refl
  pushed_in [] (first ∷ jobs) n job same = absurd (omega (arith, same))
  pushed_in (m ∷ numbers) [] n job same = absurd (omega (arith, same))
  pushed_in (m ∷ numbers) (first ∷ jobs) n job same =
      let rest : length numbers ≡ length jobs = omega (arith, same) in
      ap (λ (more : Jobs). numbered_job as_issue (m, first) ∷ more) (pushed_in numbers jobs n job rest)

  -- ---- beats

  module _ (base : Course Issue Progress) where
    abbrev own : Course Work Progress
    own = course_as as_issue base

    abbrev whole : Course IssuedWork Progress
    whole = course_as issue_of base

    pub store_in : (k : ℕ) (numbers : List ℕ) (jobs : List (Job Work Progress)) (store : Store) → length numbers ≡ length jobs
        → store_beaten own k jobs store ≡ store_beaten whole k (in_machine numbers jobs) store
    store_in k [] [] store same = refl
    store_in k [] (job ∷ jobs) store same = absurd (omega (arith, same))
    store_in k (n ∷ numbers) [] store same = absurd (omega (arith, same))
    store_in zero (n ∷ numbers) (job ∷ jobs) store same = refl
    store_in (suc k) (n ∷ numbers) (job ∷ jobs) store same =
        let rest : length numbers ≡ length jobs = omega (arith, same) in
        store_in k numbers jobs store rest

    -- numbers are dropped where jobs are
    first_left : (n : ℕ) (numbers : List ℕ) (job : Job Work Progress) (jobs : List (Job Work Progress)) (more : Bool) → length numbers ≡ length jobs
        → numbers_left 0 (length (cond more (job ∷ []) [] ++ jobs)) (n ∷ numbers) ≡ cond more (n ∷ []) [] ++ numbers
    first_left n numbers job jobs true same =
        let no : nat_lt (suc (length jobs)) (suc (length numbers)) ≡ false = grind (arith, same) in
        rw no refl
    first_left n numbers job jobs false same =
        let less : nat_lt (length jobs) (suc (length numbers)) ≡ true = grind (arith, same) in
        rw less refl

    later_left : (k left n : ℕ) (numbers : List ℕ) → numbers_left (suc k) (suc left) (n ∷ numbers) ≡ n ∷ numbers_left k left numbers
    later_left k left n numbers = go (nat_lt left (length numbers)) refl
      where
        go : (less : Bool) → nat_lt left (length numbers) ≡ less → numbers_left (suc k) (suc left) (n ∷ numbers) ≡ n ∷ cond less (remove numbers k) numbers
        go true e = let less : nat_lt (suc left) (suc (length numbers)) ≡ true = grind (arith, e) in rw less refl
        go false e = let no : nat_lt (suc left) (suc (length numbers)) ≡ false = grind (arith, e) in rw no refl

    pub left_as_many : (k : ℕ) (numbers : List ℕ) (jobs : List (Job Work Progress)) (store : Store) → length numbers ≡ length jobs
        → length (numbers_left k (length (jobs_beaten own k jobs store)) numbers) ≡ length (jobs_beaten own k jobs store)
    left_as_many k [] [] store same = refl
    left_as_many k [] (job ∷ jobs) store same = absurd (omega (arith, same))
    left_as_many k (n ∷ numbers) [] store same = absurd (omega (arith, same))
    left_as_many zero (n ∷ numbers) (job ∷ jobs) store same = go (nat_lt (base.done job.progress + 1) (base.beats (as_issue job.work)))
      where
        rest : length numbers ≡ length jobs
        rest = omega (arith, same)

        go : (more : Bool) → length (numbers_left 0 (length (cond more (next_job own job store ∷ []) [] ++ jobs)) (n ∷ numbers)) ≡ length (cond more (next_job own job store ∷ []) [] ++ jobs)
        go true = ap length (first_left n numbers (next_job own job store) jobs true rest) ∙ ap (λ k. suc k) rest
        go false = ap length (first_left n numbers (next_job own job store) jobs false rest) ∙ rest
    left_as_many (suc k) (n ∷ numbers) (job ∷ jobs) store same =
        let rest : length numbers ≡ length jobs = omega (arith, same) in
        ap length (later_left k (length (jobs_beaten own k jobs store)) n numbers) ∙ ap (λ k. suc k) (left_as_many k numbers jobs store rest)

    pub beaten_in : (k : ℕ) (numbers : List ℕ) (jobs : List (Job Work Progress)) (store : Store) → length numbers ≡ length jobs
        → in_machine (numbers_left k (length (jobs_beaten own k jobs store)) numbers) (jobs_beaten own k jobs store) ≡ jobs_beaten whole k (in_machine numbers jobs) store
    beaten_in k [] [] store same = refl
    beaten_in k [] (job ∷ jobs) store same = absurd (omega (arith, same))
    beaten_in k (n ∷ numbers) [] store same = absurd (omega (arith, same))
    beaten_in zero (n ∷ numbers) (job ∷ jobs) store same = go (nat_lt (base.done job.progress + 1) (base.beats (as_issue job.work)))
      where
        rest : length numbers ≡ length jobs
        rest = omega (arith, same)

        next : Job Work Progress
        next = next_job own job store

        go : (more : Bool) → in_machine (numbers_left 0 (length (cond more (next ∷ []) [] ++ jobs)) (n ∷ numbers)) (cond more (next ∷ []) [] ++ jobs)
            ≡ cond more (next_job whole (numbered_job as_issue (n, job)) store ∷ []) [] ++ in_machine numbers jobs
        go true = ap (λ numbers. in_machine numbers (next ∷ jobs)) (first_left n numbers next jobs true rest)
        go false = ap (λ numbers. in_machine numbers jobs) (first_left n numbers next jobs false rest)
    beaten_in (suc k) (n ∷ numbers) (job ∷ jobs) store same =
        let rest : length numbers ≡ length jobs = omega (arith, same) in
        ap (λ numbers. in_machine numbers (job ∷ jobs_beaten own k jobs store)) (later_left k (length (jobs_beaten own k jobs store)) n numbers)
        ∙ ap (λ (more : Jobs). numbered_job as_issue (n, job) ∷ more) (beaten_in k numbers jobs store rest)

    -- the same of a queue and its numbers after the beat
    pub left_same : (k : ℕ) (numbers numbers_after : List ℕ) (jobs jobs_after : List (Job Work Progress)) (store : Store) → length numbers ≡ length jobs
        → jobs_after ≡ jobs_beaten own k jobs store → numbers_after ≡ numbers_left k (length jobs_after) numbers → length numbers_after ≡ length jobs_after
    left_same k numbers numbers_after jobs jobs_after store same jobs_are numbers_are =
        ap length numbers_are ∙ ap (λ (jobs : List (Job Work Progress)). length (numbers_left k (length jobs) numbers)) jobs_are ∙ left_as_many k numbers jobs store same ∙ sym (ap length jobs_are)
