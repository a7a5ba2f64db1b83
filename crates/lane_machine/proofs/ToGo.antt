-- Several beats of the queue's first work: each brings it one nearer to where all bring it.
use Rattle.std.proofs.Common.{◌≡◌, ℕ, zero, suc, ◌+◌, ◌*◌, ◌<◌, sym, refl, ap, ◌∙◌, subst, arith, List, [], ◌∷◌, ◌++◌, length, None}
use Rattle.std.specs.Prelude.{slice_get, Option}
use Rattle.std.proofs.lemmas.Option.{none-some}
use Rattle.std.proofs.lemmas.List.Elements.{All-head, All-tail, All-cons}
use Rattle.ven_base.specs.Store.{Store, store_size, cells_alone}
use Rattle.ven_base.specs.Job.{Job, HasBeatsLeft, IsReady, next_store, jobs_beaten}
use Rattle.ven_base.specs.Beats.{jobs_after_beats, store_after_beats}
use Rattle.ven_base.proofs.Jobs.{comes_on}
use Rattle.spad_store.specs.Queue.{IsQueue}
use Rattle.venice_isa.specs.declared.work.VecWork.{VecWork}
use Rattle.venice_isa.specs.declared.issue.Issue.TheVariants.{Vector}
use Rattle.venice_isa.specs.Footprint.{HasFootprint, Reads, Writes}
use Rattle.venice_isa.specs.Whole.{HasCounts}
use Rattle.venice_isa.specs.Beat.{Progress, beats_of_row, vector_beats, progress_after}
use Rattle.venice_isa.proofs.Ranges.{in_any_memory}
use Rattle.lane_machine.specs.declared.current.Current.{Current}
use Rattle.lane_machine.specs.Current.{progress_of, IsUnderWay}
use Rattle.lane_machine.specs.State.{lane_course}
use Rattle.lane_machine.specs.Lanes.{jobs_of}
use Rattle.lane_machine.specs.Laws.{next_beat_keeps}
use Rattle.lane_machine.specs.ToGo.{job_at, BeatsToGo}

module _ (lanes : ℕ) (some : 0 < lanes) (work : VecWork) (count : ℕ) (first : Current) (before : Store) (left : ℕ) (now : Current) (store : Store)
    (to_go : BeatsToGo lanes work count first before (suc left) now store) (more : now.done + 1 < vector_beats work lanes) (inside : HasFootprint (store_size store) (Vector work)) where
  ready : IsReady (lane_course lanes) (λ work. Reads (Vector work)) (λ work. Writes (Vector work)) (job_at work now) (store_size store)
  ready = record { more = omega (arith, more); in_range = inside }

  same_size : length (next_store (lane_course lanes) (job_at work now) store).cells ≡ length store.cells
  same_size = ap (λ size. size.cells) (next_beat_keeps lanes (job_at work now) store store some ready ready (λ place reads. refl)).same_size

  module _ (next : Current) (on : progress_of next ≡ progress_after work lanes (progress_of now) store.cells) where
    stays : (rest : List (Job VecWork Progress)) → jobs_beaten (lane_course lanes) 0 (job_at work now ∷ rest) store ≡ job_at work next ∷ rest
    stays rest =
        ap (λ left. left ++ rest) (comes_on (lane_course lanes) (job_at work now) store more)
        ∙ ap (λ (progress : Progress). record { work = work; progress = progress } ∷ rest) (sym on)

    pub one_less : IsUnderWay lanes work next → (after : Store) → after ≡ next_store (lane_course lanes) (job_at work now) store → BeatsToGo lanes work count first before left next after
    one_less under_way after is =
        let done : next.done ≡ now.done + 1 = ap (λ (progress : Progress). progress.done) on in
        let then = next_store (lane_course lanes) (job_at work now) store in
        record {
          under_way = under_way;
          counted = omega (arith, done, to_go.counted);
          same_length = ap (λ (s : Store). length s.cells) is ∙ same_size ∙ to_go.same_length;
          jobs_end = λ rest.
              ap (jobs_after_beats (lane_course lanes) left (job_at work next ∷ rest)) is
              ∙ ap (λ jobs. jobs_after_beats (lane_course lanes) left jobs then) (sym (stays rest)) ∙ to_go.jobs_end rest;
          store_end = λ rest.
              ap (store_after_beats (lane_course lanes) left (job_at work next ∷ rest)) is
              ∙ ap (λ jobs. store_after_beats (lane_course lanes) left jobs then) (sym (stays rest)) ∙ to_go.store_end rest;
        }

-- what lies in cells lies in a store with as many
pub inside_of : (work : VecWork) (cells : ℕ) (store : Store) → HasFootprint (cells_alone cells) (Vector work) → length store.cells ≡ cells → HasFootprint (store_size store) (Vector work)
inside_of work cells store inside same =
    subst (λ n. HasFootprint (record { cells = n; memory = length store.memory }) (Vector work)) (sym same) (in_any_memory work (cells_alone cells) inside (length store.memory))

-- ---- the queue

pub no_first : (lanes : ℕ) (works : List VecWork) (current : Option Current) → slice_get works 0 ≡ None → jobs_of lanes works current ≡ []
no_first lanes [] current none = refl
no_first lanes (work ∷ works) current none = absurd (none-some work (sym none))

-- of an empty queue nothing changes
none_on : (lanes count : ℕ) (store : Store) → (jobs_after_beats (lane_course lanes) count [] store ≡ []) × (store_after_beats (lane_course lanes) count [] store ≡ store)
none_on lanes zero store = (refl, refl)
none_on lanes (suc count) store = none_on lanes count store

pub nothing_on : (lanes count : ℕ) (jobs : List (Job VecWork Progress)) (store : Store) → jobs ≡ [] → (jobs ≡ jobs_after_beats (lane_course lanes) count jobs store) × (store ≡ store_after_beats (lane_course lanes) count jobs store)
nothing_on lanes count jobs store none = (
  none ∙ sym (ap (λ jobs. jobs_after_beats (lane_course lanes) count jobs store) none ∙ (none_on lanes count store).0),
  sym (ap (λ jobs. store_after_beats (lane_course lanes) count jobs store) none ∙ (none_on lanes count store).1),
)

-- the first work comes on, and the queue is still one
pub queue_on : (lanes : ℕ) (work : VecWork) (current next : Current) (rest : List (Job VecWork Progress)) → IsUnderWay lanes work next
    → IsQueue (lane_course lanes) HasCounts 4 (job_at work current ∷ rest) → IsQueue (lane_course lanes) HasCounts 4 (job_at work next ∷ rest)
queue_on lanes work current next rest under_way queue =
    let more : HasBeatsLeft (lane_course lanes) (job_at work next) = subst (λ group. next.done < work.rows * beats_of_row work.vl group) under_way.group_items_is under_way.at.come.more in
    record {
      some = queue.some;
      within = omega (arith, queue.within);
      counts = All-cons (λ job. HasCounts job.work) (job_at work next) rest (All-head (λ job. HasCounts job.work) (job_at work current) rest queue.counts) (All-tail (λ job. HasCounts job.work) (job_at work current) rest queue.counts);
      left = All-cons (HasBeatsLeft (lane_course lanes)) (job_at work next) rest more (All-tail (HasBeatsLeft (lane_course lanes)) (job_at work current) rest queue.left);
    }
