-- The beats that are left of a work, one after another, are its rest.
use Rattle.std.proofs.Common.{◌≡◌, ℕ, ◌+◌, ◌-◌, ◌<◌, ap, sym, ◌∙◌, refl, subst, arith, List, [], ◌∷◌, ◌++◌, length, drop}
use Rattle.std.specs.Prelude.{All}
use Rattle.std.proofs.lemmas.List.{append_assoc}
use Rattle.std.proofs.lemmas.List.Elements.{All-head, All-tail, All-cons, All-nil, All-append}
use Rattle.ven_base.specs.Store.{Store, store_size, IsInRange}
use Rattle.ven_base.specs.Job.{Job, HasBeatsLeft, IsReady, beats_left, next_store, what_is_left, jobs_beaten, store_beaten, beats_on, finished, all_finished}
use Rattle.ven_base.proofs.Jobs.{all_left, left_after, finished_beaten, works_beaten, left_beaten, beats_on_as}
use Rattle.venice_isa.specs.declared.work.VecWork.{VecWork}
use Rattle.venice_isa.specs.declared.issue.Issue.TheVariants.{Vector}
use Rattle.venice_isa.specs.Footprint.{HasFootprint, Reads, Writes}
use Rattle.venice_isa.specs.Whole.{IsSimple, IsWhole}
use Rattle.venice_isa.specs.Beat.{Progress, not_begun, vector_beats, course_of, after_all_beats}
use Rattle.venice_isa.proofs.Beats.{beats_do_it, memory_stays}
use Rattle.lane_machine.specs.State.{State, lane_course}
use Rattle.lane_machine.specs.Laws.{next_beat_keeps}
use Rattle.lane_machine.proofs.Kept.{all_counted}

-- after so many beats something is left of the first job, whose rest is that of the job, or nothing is
pub record IsFinishing (before : State) (first : Store) (job : Job VecWork Progress) (rest : List (Job VecWork Progress)) (count : ℕ) (now : State) (store : Store) : Type 0 where
  pub lanes_are : now.lanes ≡ before.lanes
  pub same_size : store_size store ≡ store_size first
  pub left : List (Job VecWork Progress)
  pub jobs_are : now.jobs ≡ left ++ rest
  pub works : All (λ left. left.work ≡ job.work) left
  pub more : All (HasBeatsLeft (lane_course before.lanes)) left
  pub counted : all_left (lane_course before.lanes) left + count ≡ beats_left (lane_course before.lanes) job
  pub in_the_end : all_finished (lane_course before.lanes) left store ≡ finished (lane_course before.lanes) job first

-- a list that isn't empty is its first item and the rest
pub first_and_rest : {X : Type 0} (xs : List X) → 0 < length xs → (x : X) × (xs ≡ x ∷ drop 1 xs)
first_and_rest [] some = absurd (omega arith)
first_and_rest (x ∷ xs) some = (x, refl)

pub begins_finishing : (before : State) (first : Store) (job : Job VecWork Progress) (rest : List (Job VecWork Progress)) → before.jobs ≡ job ∷ rest → HasBeatsLeft (lane_course before.lanes) job → IsFinishing before first job rest 0 before first
begins_finishing before first job rest is more = record {
  lanes_are = refl;
  same_size = refl;
  left = job ∷ [];
  jobs_are = is;
  works = All-cons (λ left. left.work ≡ job.work) job [] refl (All-nil (λ left. left.work ≡ job.work));
  more = All-cons (HasBeatsLeft (lane_course before.lanes)) job [] more (All-nil (HasBeatsLeft (lane_course before.lanes)));
  counted = omega arith;
  in_the_end = refl;
}

-- what lies in the first store lies in the later ones
lies_later : (first store : Store) (job other : Job VecWork Progress) → HasFootprint (store_size first) (Vector job.work) → store_size store ≡ store_size first → other.work ≡ job.work → HasFootprint (store_size store) (Vector other.work)
lies_later first store job other inside size work =
    subst (λ w. IsInRange (Reads (Vector w)) (Writes (Vector w)) (store_size store)) (sym work) (subst (IsInRange (Reads (Vector job.work)) (Writes (Vector job.work))) (sym size) inside)

all_lie_later : (first store : Store) (jobs : List (Job VecWork Progress)) → store_size store ≡ store_size first → All (λ (each : Job VecWork Progress). HasFootprint (store_size first) (Vector each.work)) jobs → All (λ (each : Job VecWork Progress). HasFootprint (store_size store) (Vector each.work)) jobs
all_lie_later first store [] size inside = All-nil (λ (each : Job VecWork Progress). HasFootprint (store_size store) (Vector each.work))
all_lie_later first store (job ∷ jobs) size inside = All-cons (λ (each : Job VecWork Progress). HasFootprint (store_size store) (Vector each.work)) job jobs (lies_later first store job job (All-head (λ (each : Job VecWork Progress). HasFootprint (store_size first) (Vector each.work)) job jobs inside) size refl) (all_lie_later first store jobs size (All-tail (λ (each : Job VecWork Progress). HasFootprint (store_size first) (Vector each.work)) job jobs inside))

left_lie : (first store : Store) (job : Job VecWork Progress) (left : List (Job VecWork Progress)) → HasFootprint (store_size first) (Vector job.work) → store_size store ≡ store_size first → All (λ left. left.work ≡ job.work) left → All (λ (each : Job VecWork Progress). HasFootprint (store_size store) (Vector each.work)) left
left_lie first store job [] inside size works = All-nil (λ (each : Job VecWork Progress). HasFootprint (store_size store) (Vector each.work))
left_lie first store job (x ∷ left) inside size works =
    All-cons (λ (each : Job VecWork Progress). HasFootprint (store_size store) (Vector each.work)) x left (lies_later first store job x inside size (All-head (λ left. left.work ≡ job.work) x left works)) (left_lie first store job left inside size (All-tail (λ left. left.work ≡ job.work) x left works))

-- where beats are left of each job and of all together none, there is no job
none_left : (lanes : ℕ) (left : List (Job VecWork Progress)) → All (HasBeatsLeft (lane_course lanes)) left → all_left (lane_course lanes) left ≡ 0 → left ≡ []
none_left lanes [] more none = refl
none_left lanes (job ∷ left) more none = absurd (omega (arith, All-head (HasBeatsLeft (lane_course lanes)) job left more))

module _ (before : State) (first : Store) (job : Job VecWork Progress) (rest : List (Job VecWork Progress)) (count : ℕ) (now : State) (store : Store) (so_far : IsFinishing before first job rest count now store) where
  -- all jobs lie in the store
  pub finishing_inside : HasFootprint (store_size first) (Vector job.work) → All (λ (each : Job VecWork Progress). HasFootprint (store_size first) (Vector each.work)) rest → All (λ (each : Job VecWork Progress). HasFootprint (store_size store) (Vector each.work)) now.jobs
  finishing_inside inside inside_rest =
      subst (All (λ (each : Job VecWork Progress). HasFootprint (store_size store) (Vector each.work))) (sym so_far.jobs_are)
      (All-append (λ (each : Job VecWork Progress). HasFootprint (store_size store) (Vector each.work)) so_far.left rest (left_lie first store job so_far.left inside so_far.same_size so_far.works) (all_lie_later first store rest so_far.same_size inside_rest))

  -- a beat more
  module _ (some_lanes : 0 < before.lanes) (inside : HasFootprint (store_size first) (Vector job.work)) (more_beats : count < beats_left (lane_course before.lanes) job) (next : State) (after : Store)
      (same_lanes : next.lanes ≡ now.lanes) (jobs_are : next.jobs ≡ jobs_beaten (lane_course now.lanes) 0 now.jobs store) (store_is : after ≡ store_beaten (lane_course now.lanes) 0 now.jobs store) where
    step : (left : List (Job VecWork Progress)) → now.jobs ≡ left ++ rest → All (λ left. left.work ≡ job.work) left → All (HasBeatsLeft (lane_course before.lanes)) left → all_left (lane_course before.lanes) left + count ≡ beats_left (lane_course before.lanes) job
        → all_finished (lane_course before.lanes) left store ≡ finished (lane_course before.lanes) job first → IsFinishing before first job rest (count + 1) next after
    step [] is works more counted in_the_end = absurd (omega arith)
    step (x ∷ left) is works more counted in_the_end =
        let course = lane_course before.lanes in
        let lanes = so_far.lanes_are in
        let mine : HasBeatsLeft course x = All-head (HasBeatsLeft course) x left more in
        let beaten : next.jobs ≡ what_is_left course x store ++ (left ++ rest) = jobs_are ∙ ap (λ n. jobs_beaten (lane_course n) 0 now.jobs store) lanes ∙ ap (λ jobs. jobs_beaten course 0 jobs store) is in
        let left_by : after ≡ next_store course x store = store_is ∙ ap (λ n. store_beaten (lane_course n) 0 now.jobs store) lanes ∙ ap (λ jobs. store_beaten course 0 jobs store) is in
        let ready : IsReady course (λ work. Reads (Vector work)) (λ work. Writes (Vector work)) x (store_size store) =
        record { more = mine; in_range = lies_later first store job x inside so_far.same_size (All-head (λ left. left.work ≡ job.work) x left works) } in
        let keeps = next_beat_keeps before.lanes x store store some_lanes ready ready (λ place reads. refl) in
        record {
          lanes_are = same_lanes ∙ lanes;
          same_size = ap store_size left_by ∙ keeps.same_size ∙ so_far.same_size;
          left = what_is_left course x store ++ left;
          jobs_are = beaten ∙ sym (append_assoc (what_is_left course x store) left rest);
          works = works_beaten course (λ work. work ≡ job.work) 0 (x ∷ left) store works;
          more = left_beaten course 0 (x ∷ left) store (all_counted before.lanes (x ∷ left) store) more;
          counted = omega (arith, counted, left_after course x left store refl mine);
          in_the_end = ap (all_finished course (what_is_left course x store ++ left)) left_by ∙ finished_beaten course x left store refl mine ∙ in_the_end;
        }

    pub goes_on_finishing : IsFinishing before first job rest (count + 1) next after
    goes_on_finishing = step so_far.left so_far.jobs_are so_far.works so_far.more so_far.counted so_far.in_the_end

  -- with the last beat the job is gone
  module _ (all : count ≡ beats_left (lane_course before.lanes) job) where
    gone : so_far.left ≡ []
    gone = none_left before.lanes so_far.left so_far.more (omega (arith, so_far.counted))

    pub jobs_in_the_end : now.jobs ≡ rest
    jobs_in_the_end = so_far.jobs_are ∙ ap (λ left. left ++ rest) gone

    pub store_in_the_end : store ≡ finished (lane_course before.lanes) job first
    store_in_the_end = ap (λ left. all_finished (lane_course before.lanes) left store) (sym gone) ∙ so_far.in_the_end

-- ---- what the rest of a work leaves

-- the lanes leave memory alone
pub finished_memory : (lanes : ℕ) (job : Job VecWork Progress) (first : Store) → (finished (lane_course lanes) job first).memory ≡ first.memory
finished_memory lanes job first =
    ap (λ (store : Store). store.memory) (beats_on_as Vector (course_of lanes) (beats_left (lane_course lanes) job) job first)
    ∙ memory_stays job.work lanes (beats_left (lane_course lanes) job) job.progress first

-- and the beats of a simple instruction are its whole effect
pub finished_whole : (lanes : ℕ) (job : Job VecWork Progress) (first : Store) → 0 < lanes → HasFootprint (store_size first) (Vector job.work) → job.progress ≡ not_begun → IsSimple job.work → IsWhole job.work first.cells (finished (lane_course lanes) job first).cells
unfolding after_all_beats
finished_whole lanes job first some inside begins simple =
    let all : vector_beats job.work lanes - 0 ≡ vector_beats job.work lanes = omega arith in
    let whole = (beats_do_it job.work lanes first simple some inside).0 in
    let same : finished (lane_course lanes) job first ≡ after_all_beats (Vector job.work) lanes first =
    ap (λ progress. finished (lane_course lanes) (record { work = job.work; progress = progress }) first) begins
    ∙ beats_on_as Vector (course_of lanes) (vector_beats job.work lanes - 0) (record { work = job.work; progress = not_begun }) first
    ∙ ap (λ n. beats_on (course_of lanes) n (record { work = Vector job.work; progress = not_begun }) first) all in
    subst (λ (store : Store). IsWhole job.work first.cells store.cells) (sym same) whole
