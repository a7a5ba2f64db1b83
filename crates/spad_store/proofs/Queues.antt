-- What becomes of a unit's queue: a work is put last, or a job makes a beat.
use Rattle.std.proofs.Common.{◌≡◌, ℕ, ◌+◌, ◌<◌, subst, arith, List, [], ◌∷◌, ◌++◌, length, Some}
use Rattle.std.specs.Prelude.{slice_get, All}
use Rattle.std.proofs.lemmas.List.{length-append}
use Rattle.std.proofs.lemmas.List.Elements.{All-get_or, All-push}
use Rattle.std.proofs.lemmas.Option.{slice_get_within, get_or_from_slice_get}
use Rattle.ven_base.specs.Store.{Store}
use Rattle.ven_base.specs.Job.{Job, Course, HasBeatsLeft, new_job, next_job, jobs_beaten}
use Rattle.ven_base.proofs.Jobs.{beaten_length, works_beaten, left_beaten}
use Rattle.spad_store.specs.Queue.{IsQueue}

-- ---- the first item of a list

-- what holds of each item holds of the first
pub All-first : {X : Type 0} (P : X → Type 0) (xs : List X) (x : X) → All P xs → slice_get xs 0 ≡ Some x → P x
All-first P xs x all first = subst P (get_or_from_slice_get xs 0 x x first) (All-get_or P xs 0 x (slice_get_within xs 0 x first) all)

-- ---- the queue

module _ {Work Progress : Type 0} (course : Course Work Progress) (has_counts : Work → Type 0) (places : ℕ) (jobs : List (Job Work Progress)) (queue : IsQueue course has_counts places jobs) where
  -- a work is put last
  pub queue_offered : (work : Work) → has_counts work → HasBeatsLeft course (new_job course work) → length jobs < places → IsQueue course has_counts places (jobs ++ new_job course work ∷ [])
  queue_offered work counts left room = record {
    some = queue.some;
    within = omega (arith, length-append jobs (new_job course work ∷ []));
    counts = All-push (λ job. has_counts job.work) jobs (new_job course work) queue.counts counts;
    left = All-push (HasBeatsLeft course) jobs (new_job course work) queue.left left;
  }

  -- one of the jobs makes a beat, which counts as one
  pub queue_beaten : (place : ℕ) (store : Store) → All (λ job. course.done (next_job course job store).progress ≡ course.done job.progress + 1) jobs → IsQueue course has_counts places (jobs_beaten course place jobs store)
  queue_beaten place store counted = record {
    some = queue.some;
    within = omega (arith, beaten_length course place jobs store, queue.within);
    counts = works_beaten course has_counts place jobs store queue.counts;
    left = left_beaten course place jobs store counted queue.left;
  }
