-- What becomes of the unfinished works: one of them makes a beat, or one more comes.
use Rattle.std.proofs.Common.{◌≡◌, ◌⊎◌, inl, inr, ◌&&◌, ℕ, zero, suc, ◌+◌, ◌<◌, refl, subst, ap, ◌∙◌, arith, List, [], ◌∷◌, ◌++◌, length, slice_get, Option, Some, None, IfSome, Bool, true, false, not, nat_lt, cond}
use Rattle.std.specs.Prelude.{All}
use Rattle.std.specs.List.{AllPairs}
use Rattle.std.proofs.lemmas.Bool.{ltb-true}
use Rattle.std.proofs.lemmas.List.Elements.{All-head, All-tail, All-cons, All-push}
use Rattle.std.proofs.lemmas.List.Kept.{AllPairs-cons}
use Rattle.ven_base.specs.Store.{Store, store_size}
use Rattle.ven_base.specs.Job.{new_job, next_job, beats_left, jobs_beaten, store_beaten, beats_on, finished, all_finished}
use Rattle.ven_base.proofs.Jobs.{works_beaten, all_left, left_after, beats_on_as}
use Rattle.venice_isa.specs.declared.instr.Version.{Version}
use Rattle.venice_isa.specs.declared.instr.Version.TheVariants.{One, Two}
use Rattle.venice_isa.specs.declared.issue.Issue.{Issue}
use Rattle.venice_isa.specs.declared.issue.Issue.TheVariants.{Vector, Read, Write}
use Rattle.venice_isa.specs.Beat.{beats_of, course_of, after_all_beats, sequential}
use Rattle.venice_isa.specs.Footprint.{Conflicts}
use Rattle.venice_isa.specs.Units.{Unit, Lanes, ReadChannel, WriteChannel, is_of, overtakes, share_a_unit, may_be_overtaken, keep_their_order}
use Rattle.venice_machine.specs.State.{IssuedWork, Jobs, issue_of, issued_course, is_job_of, queue, unfinished_count, place_of}
use Rattle.overlap_law.specs.Kept.{IsReadyOn, ArePassable}
use Rattle.overlap_law.proofs.Exchange.{IssuedJob, size_kept, comes_nearer}
use Rattle.overlap_law.proofs.Finishing.{AreReady, IsUnhindered, first_ready, rest_ready}

-- ---- pairs of a list

module _ {X : Type 0} (R : X → X → Type 0) where
  pub pairs_head : (x : X) (xs : List X) → AllPairs R (x ∷ xs) → All (R x) xs
  pairs_head x xs pairs = λ j d within. pairs 0 (suc j) d (omega arith) (omega arith)

  pub pairs_tail : (x : X) (xs : List X) → AllPairs R (x ∷ xs) → AllPairs R xs
  pairs_tail x xs pairs = λ i j d before within. pairs (suc i) (suc j) d (omega arith) (omega arith)

  pub no_pairs : AllPairs R []
  no_pairs = λ i j d before within. absurd (omega arith)

  -- one more behind them all
  pub pairs_push : (xs : List X) (new : X) → All (λ x. R x new) xs → AllPairs R xs → AllPairs R (xs ++ new ∷ [])
  pairs_push [] new each pairs = λ i j d before within. absurd (omega arith)
  pairs_push (x ∷ xs) new each pairs =
      AllPairs-cons R x (xs ++ new ∷ []) (All-push (R x) xs new (pairs_head x xs pairs) (All-head (λ x. R x new) x xs each))
      (pairs_push xs new (All-tail (λ x. R x new) x xs each) (pairs_tail x xs pairs))

-- what holds of each holds of the one at a place
pub All-at : {X : Type 0} (P : X → Type 0) (xs : List X) (place : ℕ) → All P xs → IfSome (slice_get xs place) P
All-at P [] place all = tt
All-at P (x ∷ xs) zero all = All-head P x xs all
All-at P (x ∷ xs) (suc place) all = All-at P xs place (All-tail P x xs all)

-- ---- a beat

module _ (lane_count : ℕ) where
  -- what holds of the works of all pairs of jobs still does
  pub pairs_beaten : (R : IssuedWork → IssuedWork → Type 0) (place : ℕ) (jobs : Jobs) (store : Store) → AllPairs (λ first second. R first.work second.work) jobs
      → AllPairs (λ first second. R first.work second.work) (jobs_beaten (issued_course lane_count) place jobs store)
  pairs_beaten R place [] store pairs = pairs
  pairs_beaten R zero (job ∷ jobs) store pairs = go (nat_lt (job.progress.done + 1) (beats_of job.work.issue lane_count))
    where
      go : (more : Bool) → AllPairs (λ first second. R first.work second.work) (cond more (next_job (issued_course lane_count) job store ∷ []) [] ++ jobs)
      go true =
          AllPairs-cons (λ first second. R first.work second.work) (next_job (issued_course lane_count) job store) jobs (pairs_head (λ first second. R first.work second.work) job jobs pairs)
          (pairs_tail (λ first second. R first.work second.work) job jobs pairs)
      go false = pairs_tail (λ first second. R first.work second.work) job jobs pairs
  pairs_beaten R (suc place) (job ∷ jobs) store pairs =
      AllPairs-cons (λ first second. R first.work second.work) job _
      (works_beaten (issued_course lane_count) (R job.work) place jobs store (pairs_head (λ first second. R first.work second.work) job jobs pairs))
      (pairs_beaten R place jobs store (pairs_tail (λ first second. R first.work second.work) job jobs pairs))

  module _ (some_lanes : 0 < lane_count) where
    pub ready_beaten : (place : ℕ) (jobs : Jobs) (store : Store) → AreReady lane_count jobs (store_size store) → AreReady lane_count (jobs_beaten (issued_course lane_count) place jobs store) (store_size store)
    ready_beaten place [] store all = all
    ready_beaten zero (job ∷ jobs) store all = go (nat_lt (job.progress.done + 1) (beats_of job.work.issue lane_count)) refl
      where
        ready : IsReadyOn lane_count (store_size store) job
        ready = first_ready lane_count job jobs (store_size store) all

        go : (more : Bool) → nat_lt (job.progress.done + 1) (beats_of job.work.issue lane_count) ≡ more → AreReady lane_count (cond more (next_job (issued_course lane_count) job store ∷ []) [] ++ jobs) (store_size store)
        go true e = All-cons (IsReadyOn lane_count (store_size store)) (next_job (issued_course lane_count) job store) jobs
            (record {
              more = omega (arith, ltb-true (job.progress.done + 1) (beats_of job.work.issue lane_count) e, comes_nearer lane_count some_lanes job store ready);
              in_range = ready.in_range;
            })
            (rest_ready lane_count job jobs (store_size store) all)
        go false e = rest_ready lane_count job jobs (store_size store) all
    ready_beaten (suc place) (job ∷ jobs) store all =
        All-cons (IsReadyOn lane_count (store_size store)) job _ (first_ready lane_count job jobs (store_size store) all) (ready_beaten place jobs store (rest_ready lane_count job jobs (store_size store) all))

    pub size_beaten : (place : ℕ) (jobs : Jobs) (store : Store) → AreReady lane_count jobs (store_size store) → store_size (store_beaten (issued_course lane_count) place jobs store) ≡ store_size store
    size_beaten place [] store all = refl
    size_beaten zero (job ∷ jobs) store all = size_kept lane_count some_lanes job store (first_ready lane_count job jobs (store_size store) all)
    size_beaten (suc place) (job ∷ jobs) store all = size_beaten place jobs store (rest_ready lane_count job jobs (store_size store) all)

    -- the job that makes a beat has one less, and all others have as many
    pub fewer_left : (place : ℕ) (jobs : Jobs) (store : Store) → AreReady lane_count jobs (store_size store) → place < length jobs
        → all_left (issued_course lane_count) (jobs_beaten (issued_course lane_count) place jobs store) + 1 ≡ all_left (issued_course lane_count) jobs
    fewer_left place [] store all within = absurd (omega arith)
    fewer_left zero (job ∷ jobs) store all within =
        let ready = first_ready lane_count job jobs (store_size store) all in
        left_after (issued_course lane_count) job jobs store (comes_nearer lane_count some_lanes job store ready) ready.more
    fewer_left (suc place) (job ∷ jobs) store all within = omega (arith, fewer_left place jobs store (rest_ready lane_count job jobs (store_size store) all) (omega arith))

-- ---- the places of a queue

pub chosen_within : (unit : Unit) (k : ℕ) (jobs : Jobs) → k < unfinished_count unit jobs → place_of unit k jobs < length jobs
chosen_within unit k [] some = absurd (omega arith)
chosen_within unit zero (job ∷ jobs) some = go (is_job_of unit job) refl (chosen_within unit zero jobs)
  where
    go : (is : Bool) → is_job_of unit job ≡ is → (zero < unfinished_count unit jobs → place_of unit zero jobs < length jobs) → cond is 0 (suc (place_of unit zero jobs)) < length (job ∷ jobs)
    go true e rest = omega arith
    go false e rest = omega (arith, rest (subst (λ is. zero < length (cond is (job ∷ queue unit jobs) (queue unit jobs))) e some))
chosen_within unit (suc k) (job ∷ jobs) some = go (is_job_of unit job) refl (chosen_within unit k jobs) (chosen_within unit (suc k) jobs)
  where
    go : (is : Bool) → is_job_of unit job ≡ is → (k < unfinished_count unit jobs → place_of unit k jobs < length jobs) → (suc k < unfinished_count unit jobs → place_of unit (suc k) jobs < length jobs)
        → cond is (suc (place_of unit k jobs)) (suc (place_of unit (suc k) jobs)) < length (job ∷ jobs)
    go true e rest more = let some' = subst (λ is. suc k < length (cond is (job ∷ queue unit jobs) (queue unit jobs))) e some in omega (arith, rest (omega arith))
    go false e rest more = omega (arith, more (subst (λ is. suc k < length (cond is (job ∷ queue unit jobs) (queue unit jobs))) e some))

-- what stands at the place of a unit's job is the unit's
pub chosen_is_of : (unit : Unit) (k : ℕ) (jobs : Jobs) → IfSome (slice_get jobs (place_of unit k jobs)) (λ job. is_job_of unit job ≡ true)
chosen_is_of unit k [] = tt
chosen_is_of unit zero (job ∷ jobs) = go (is_job_of unit job) refl (chosen_is_of unit zero jobs)
  where
    go : (is : Bool) → is_job_of unit job ≡ is → IfSome (slice_get jobs (place_of unit zero jobs)) (λ job. is_job_of unit job ≡ true)
        → IfSome (slice_get (job ∷ jobs) (cond is 0 (suc (place_of unit zero jobs)))) (λ job. is_job_of unit job ≡ true)
    go true e rest = e
    go false e rest = rest
chosen_is_of unit (suc k) (job ∷ jobs) = go (is_job_of unit job) (chosen_is_of unit k jobs) (chosen_is_of unit (suc k) jobs)
  where
    go : (is : Bool) → IfSome (slice_get jobs (place_of unit k jobs)) (λ job. is_job_of unit job ≡ true) → IfSome (slice_get jobs (place_of unit (suc k) jobs)) (λ job. is_job_of unit job ≡ true)
        → IfSome (slice_get (job ∷ jobs) (cond is (suc (place_of unit k jobs)) (suc (place_of unit (suc k) jobs)))) (λ job. is_job_of unit job ≡ true)
    go true mine other = mine
    go false mine other = other

-- ---- units

pub shared_unit : (unit : Unit) (first second : Issue) → share_a_unit first second ≡ true → is_of unit first ≡ is_of unit second
shared_unit Lanes (Vector v) (Vector w) e = refl
shared_unit ReadChannel (Vector v) (Vector w) e = refl
shared_unit WriteChannel (Vector v) (Vector w) e = refl
shared_unit Lanes (Read v) (Read w) e = refl
shared_unit ReadChannel (Read v) (Read w) e = refl
shared_unit WriteChannel (Read v) (Read w) e = refl
shared_unit Lanes (Write v) (Write w) e = refl
shared_unit ReadChannel (Write v) (Write w) e = refl
shared_unit WriteChannel (Write v) (Write w) e = refl
shared_unit unit first second e = cc

pub overtaken : (version : Version) (unit : Unit) (work : Issue) → is_of unit work ≡ true → may_be_overtaken version work ≡ overtakes version unit
overtaken One Lanes (Vector w) is = refl
overtaken Two Lanes (Vector w) is = refl
overtaken One ReadChannel (Read w) is = refl
overtaken Two ReadChannel (Read w) is = refl
overtaken One WriteChannel (Write w) is = refl
overtaken Two WriteChannel (Write w) is = refl
overtaken version unit work is = cc

-- a job of another unit, or of one that overtakes, isn't kept in order with one of this unit
not_kept : (version : Version) (unit : Unit) (first second : Issue) → (is_of unit first ≡ false) ⊎ (overtakes version unit ≡ true) → is_of unit second ≡ true → keep_their_order version first second ≡ false
not_kept version unit first second free is = go (share_a_unit first second) refl
  where
    go : (shared : Bool) → share_a_unit first second ≡ shared → (shared && not (may_be_overtaken version first)) ≡ false
    go true e =
        let same = shared_unit unit first second e in
        elim free [ inl other ↦ cc | inr over ↦ ap not (overtaken version unit first (same ∙ is) ∙ over) ]
    go false e = refl

-- nothing hinders the front of a queue, nor any job of a unit that overtakes
module _ (version : Version) (unit : Unit) where
  clear : (job : IssuedJob) → (is_job_of unit job ≡ false) ⊎ (overtakes version unit ≡ true) → (slot : Option IssuedJob) → IfSome slot (ArePassable version job)
      → IfSome slot (λ later. is_job_of unit later ≡ true) → IfSome slot (λ later. ¬ Conflicts job.work.issue later.work.issue)
  clear job free None all is = tt
  clear job free (Some later) all is = all (not_kept version unit job.work.issue later.work.issue free is)

  pub chosen_unhindered : (k : ℕ) (jobs : Jobs) → (k ≡ 0) ⊎ (overtakes version unit ≡ true) → AllPairs (ArePassable version) jobs → IsUnhindered (place_of unit k jobs) jobs
  chosen_unhindered k [] may apart = tt
  chosen_unhindered zero (job ∷ jobs) may apart = go (is_job_of unit job) refl (chosen_unhindered zero jobs may (pairs_tail (ArePassable version) job jobs apart))
    where
      go : (is : Bool) → is_job_of unit job ≡ is → IsUnhindered (place_of unit zero jobs) jobs → IsUnhindered (cond is 0 (suc (place_of unit zero jobs))) (job ∷ jobs)
      go true e rest = tt
      go false e rest =
          (clear job (inl e) (slice_get jobs (place_of unit zero jobs)) (All-at (ArePassable version job) jobs (place_of unit zero jobs) (pairs_head (ArePassable version) job jobs apart)) (chosen_is_of unit zero jobs), rest)
  chosen_unhindered (suc k) (job ∷ jobs) may apart =
      go (is_job_of unit job) (chosen_unhindered k jobs (inr over) (pairs_tail (ArePassable version) job jobs apart)) (chosen_unhindered (suc k) jobs may (pairs_tail (ArePassable version) job jobs apart))
    where
      over : overtakes version unit ≡ true
      over = elim may [ inl none ↦ absurd (omega arith) | inr so ↦ so ]

      here : (place : ℕ) → IfSome (slice_get jobs place) (λ later. is_job_of unit later ≡ true) → IfSome (slice_get jobs place) (λ later. ¬ Conflicts job.work.issue later.work.issue)
      here place is = clear job (inr over) (slice_get jobs place) (All-at (ArePassable version job) jobs place (pairs_head (ArePassable version) job jobs apart)) is

      go : (is : Bool) → IsUnhindered (place_of unit k jobs) jobs → IsUnhindered (place_of unit (suc k) jobs) jobs → IsUnhindered (cond is (suc (place_of unit k jobs)) (suc (place_of unit (suc k) jobs))) (job ∷ jobs)
      go true mine other = (here (place_of unit k jobs) (chosen_is_of unit k jobs), mine)
      go false mine other = (here (place_of unit (suc k) jobs) (chosen_is_of unit (suc k) jobs), other)

-- ---- one more job

module _ (lane_count : ℕ) where
  abbrev pub begun : (number : ℕ) → Issue → IssuedJob
  begun number issue = new_job (issued_course lane_count) (record { number = number; issue = issue })

  pub finished_pushed : (number : ℕ) (issue : Issue) (jobs : Jobs) (store : Store)
      → all_finished (issued_course lane_count) (jobs ++ begun number issue ∷ []) store ≡ after_all_beats issue lane_count (all_finished (issued_course lane_count) jobs store)
  unfolding after_all_beats
  finished_pushed number issue [] store =
      let all : beats_left (issued_course lane_count) (begun number issue) ≡ beats_of issue lane_count = omega arith in
      ap (λ n. beats_on (issued_course lane_count) n (begun number issue) store) all ∙ beats_on_as issue_of (course_of lane_count) (beats_of issue lane_count) (begun number issue) store
  finished_pushed number issue (job ∷ jobs) store = finished_pushed number issue jobs (finished (issued_course lane_count) job store)

  pub sequential_pushed : (issue : Issue) (issues : List Issue) (store : Store) → sequential (issues ++ issue ∷ []) lane_count store ≡ after_all_beats issue lane_count (sequential issues lane_count store)
  sequential_pushed issue [] store = refl
  sequential_pushed issue (first ∷ issues) store = sequential_pushed issue issues (after_all_beats first lane_count store)
