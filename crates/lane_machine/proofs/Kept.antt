-- What the lanes keep: the works of the queue as jobs, and what becomes of them.
use Rattle.std.proofs.Common.{◌≡◌, ℕ, ◌+◌, ◌^◌, ◌<◌, ap, sym, ◌∙◌, refl, subst, arith, List, [], ◌∷◌, ◌++◌, length, map, drop, Some, None}
use Rattle.std.specs.Prelude.{slice_get, Option, All, IfSome}
use Rattle.std.proofs.lemmas.List.{length-map, map-append}
use Rattle.std.proofs.lemmas.List.Elements.{All-cons, All-nil, All-map}
use Rattle.circular_buffer.specs.Buffer.{Buffer}
use Rattle.ven_base.specs.Store.{cells_alone, Place, in_cells, in_memory, Store, Size, HasPlace, IsInRange}
use Rattle.ven_base.specs.Job.{Job, new_job, next_job, works_of, jobs_beaten}
use Rattle.ven_base.proofs.Jobs.{comes_on, is_over}
use Rattle.spad_store.specs.Queue.{IsQueue}
use Rattle.spad_store.proofs.Queues.{All-first, queue_offered, queue_beaten}
use Rattle.venice_isa.specs.declared.work.VecWork.{VecWork}
use Rattle.venice_isa.specs.declared.issue.Issue.TheVariants.{Vector}
use Rattle.venice_isa.specs.Footprint.{HasFootprint, Reads, Writes}
use Rattle.venice_isa.specs.Whole.{HasCounts}
use Rattle.venice_isa.specs.Beat.{Progress, not_begun, vector_beats, progress_after}
use Rattle.venice_isa.proofs.OneBeat.{some_vector_beat}
use Rattle.venice_isa.proofs.Ranges.{in_any_memory}
use Rattle.lane_machine.specs.declared.current.Current.{Current}
use Rattle.lane_machine.specs.Current.{progress_of, IsUnderWay}
use Rattle.lane_machine.specs.State.{lane_course}
use Rattle.lane_machine.specs.Lanes.{progress_in, jobs_of, IsFront, IsLanes}

-- what lies in a store lies in its cells
pub inside_of_cells : (work : VecWork) (size : Size) → IsInRange (Reads (Vector work)) (Writes (Vector work)) size → HasFootprint (cells_alone size.cells) (Vector work)
inside_of_cells work size in_range = in_any_memory work size in_range 0

-- what lies in few cells lies in those of 32 bits
most_cells : Size
most_cells = record { cells = 2 ^ 32; memory = 0 }

reads_below_most : (work : VecWork) (cells : ℕ) → HasFootprint (cells_alone cells) (Vector work) → cells < 2 ^ 32 → (place : Place) → Reads (Vector work) place → HasPlace most_cells place
unfolding most_cells
reads_below_most work cells inside small (in_cells p) read = omega (arith, inside.has_reads (in_cells p) read)
reads_below_most work cells inside small (in_memory p) read = absurd read

writes_below_most : (work : VecWork) (cells : ℕ) → HasFootprint (cells_alone cells) (Vector work) → cells < 2 ^ 32 → (place : Place) → Writes (Vector work) place → HasPlace most_cells place
unfolding most_cells
writes_below_most work cells inside small (in_cells p) written = omega (arith, inside.has_writes (in_cells p) written)
writes_below_most work cells inside small (in_memory p) written = absurd written

pub inside_of_32_bits : (work : VecWork) (cells : ℕ) → HasFootprint (cells_alone cells) (Vector work) → cells < 2 ^ 32 → HasFootprint (cells_alone (2 ^ 32)) (Vector work)
unfolding most_cells
inside_of_32_bits work cells inside small = record { has_reads = reads_below_most work cells inside small; has_writes = writes_below_most work cells inside small }

module _ (lanes : ℕ) where
  -- ---- the works as jobs

  pub jobs_length : (works : List VecWork) (current : Option Current) → length (jobs_of lanes works current) ≡ length works
  jobs_length [] current = refl
  jobs_length (work ∷ works) current = omega (arith, length-map works (new_job (lane_course lanes)))

  new_works : (works : List VecWork) → works_of (map (new_job (lane_course lanes)) works) ≡ works
  new_works [] = refl
  new_works (work ∷ works) = ap (λ rest. work ∷ rest) (new_works works)

  pub jobs_works : (works : List VecWork) (current : Option Current) → works_of (jobs_of lanes works current) ≡ works
  jobs_works [] current = refl
  jobs_works (work ∷ works) current = ap (λ rest. work ∷ rest) (new_works works)

  -- the first of them is under way
  pub jobs_first : (works : List VecWork) (work : VecWork) (current : Option Current) → slice_get works 0 ≡ Some work
      → jobs_of lanes works current ≡ record { work = work; progress = progress_in current } ∷ map (new_job (lane_course lanes)) (drop 1 works)
  jobs_first [] work current first = cc
  jobs_first (x ∷ works) work current first =
      let same : x ≡ work = cc in
      ap (λ work. record { work = work; progress = progress_in current } ∷ map (new_job (lane_course lanes)) works) same

  -- or none of them is, where nothing is done of the first
  pub jobs_new : (works : List VecWork) (current : Option Current) → progress_in current ≡ not_begun → jobs_of lanes works current ≡ map (new_job (lane_course lanes)) works
  jobs_new [] current begins = refl
  jobs_new (work ∷ works) current begins = ap (λ progress. record { work = work; progress = progress } ∷ map (new_job (lane_course lanes)) works) begins

  -- a work is put last
  pub jobs_offered : (works : List VecWork) (work : VecWork) (current : Option Current) → (works ≡ [] → progress_in current ≡ not_begun)
      → jobs_of lanes (works ++ work ∷ []) current ≡ jobs_of lanes works current ++ new_job (lane_course lanes) work ∷ []
  jobs_offered [] work current begins = jobs_new (work ∷ []) current (begins refl)
  jobs_offered (x ∷ works) work current begins = ap (λ rest. record { work = x; progress = progress_in current } ∷ rest) (map-append (new_job (lane_course lanes)) works (work ∷ []))

  -- what is kept is of the first work
  pub front_at : (works : List VecWork) (work : VecWork) (current : Current) → slice_get works 0 ≡ Some work → IsFront lanes works (Some current) → IsUnderWay lanes work current
  front_at [] work current first at = absurd at
  front_at (x ∷ works) work current first at = subst (λ slot. IfSome slot (λ w. IsUnderWay lanes w current)) first at

  pub at_front : (works : List VecWork) (work : VecWork) (current : Current) → slice_get works 0 ≡ Some work → IsUnderWay lanes work current → IsFront lanes works (Some current)
  at_front [] work current first at = cc
  at_front (x ∷ works) work current first at = subst (λ slot. IfSome slot (λ w. IsUnderWay lanes w current)) (sym first) at

  -- what holds of the jobs' works holds of the works, and of the first
  pub of_works : (P : VecWork → Type 0) (works : List VecWork) (current : Option Current) → All (λ job. P job.work) (jobs_of lanes works current) → All P works
  of_works P works current all = subst (All P) (jobs_works works current) (All-map P (λ (job : Job VecWork Progress). job.work) (jobs_of lanes works current) all)

  pub of_first : (P : VecWork → Type 0) (works : List VecWork) (work : VecWork) (current : Option Current) → slice_get works 0 ≡ Some work → All (λ job. P job.work) (jobs_of lanes works current) → P work
  of_first P works work current first all = All-first P works work (of_works P works current all) first

  -- ---- the jobs after a beat

  module _ (works : List VecWork) (work : VecWork) (current : Current) (first : slice_get works 0 ≡ Some work) (store : Store) where
    -- the first comes on
    pub jobs_on : (next : Current) → current.done + 1 < vector_beats work lanes → progress_of next ≡ progress_after work lanes (progress_of current) store.cells
        → jobs_of lanes works (Some next) ≡ jobs_beaten (lane_course lanes) 0 (jobs_of lanes works (Some current)) store
    jobs_on next more on =
        let rest = map (new_job (lane_course lanes)) (drop 1 works) in
        jobs_first works work (Some next) first
        ∙ ap (λ progress. record { work = work; progress = progress } ∷ rest) on
        ∙ ap (λ left. left ++ rest) (sym (comes_on (lane_course lanes) (record { work = work; progress = progress_of current }) store more))
        ∙ ap (λ jobs. jobs_beaten (lane_course lanes) 0 jobs store) (sym (jobs_first works work (Some current) first))

    -- or leaves
    pub jobs_left : (next : Option Current) → current.done + 1 ≡ vector_beats work lanes → progress_in next ≡ not_begun
        → jobs_of lanes (drop 1 works) next ≡ jobs_beaten (lane_course lanes) 0 (jobs_of lanes works (Some current)) store
    jobs_left next last begins =
        let rest = map (new_job (lane_course lanes)) (drop 1 works) in
        jobs_new (drop 1 works) next begins
        ∙ ap (λ left. left ++ rest) (sym (is_over (lane_course lanes) (record { work = work; progress = progress_of current }) store (omega arith)))
        ∙ ap (λ jobs. jobs_beaten (lane_course lanes) 0 jobs store) (sym (jobs_first works work (Some current) first))

  -- a beat of the lanes counts as one
  pub all_counted : (jobs : List (Job VecWork Progress)) (store : Store) → All (λ job. (next_job (lane_course lanes) job store).progress.done ≡ job.progress.done + 1) jobs
  all_counted [] store = All-nil (λ job. (next_job (lane_course lanes) job store).progress.done ≡ job.progress.done + 1)
  all_counted (job ∷ jobs) store = All-cons (λ job. (next_job (lane_course lanes) job store).progress.done ≡ job.progress.done + 1) job jobs refl (all_counted jobs store)

-- ---- the whole

-- the queue's first work is what is under way
pub first_under_way : (lanes : ℕ) (queue : Buffer VecWork) (kept : Option Current) (current : Current) (work : VecWork) → IsLanes (record { lanes = lanes; queue = queue; current = kept }) → kept ≡ Some current → slice_get queue.items 0 ≡ Some work → IsUnderWay lanes work current
first_under_way lanes queue kept current work keeps is first =
    front_at lanes queue.items work current first (subst (IsFront lanes queue.items) is keeps.front)

-- after a beat, whatever becomes of the first work
pub lanes_beaten : (lanes : ℕ) (queue left : Buffer VecWork) (kept next : Option Current) (store : Store) → IsLanes (record { lanes = lanes; queue = queue; current = kept }) → left.capacity ≡ queue.capacity
    → jobs_of lanes left.items next ≡ jobs_beaten (lane_course lanes) 0 (jobs_of lanes queue.items kept) store → IsFront lanes left.items next → IsLanes (record { lanes = lanes; queue = left; current = next })
lanes_beaten lanes queue left kept next store keeps capacity beaten front = record {
  some = keeps.some;
  few = keeps.few;
  capacity = capacity ∙ keeps.capacity;
  queue = subst (IsQueue (lane_course lanes) HasCounts 4) (sym beaten)
      (queue_beaten (lane_course lanes) HasCounts 4 (jobs_of lanes queue.items kept) keeps.queue 0 store (all_counted lanes (jobs_of lanes queue.items kept) store));
  front = front;
}

-- after a work is put last
pub lanes_offered : (lanes : ℕ) (queue longer : Buffer VecWork) (kept next : Option Current) (work : VecWork) → IsLanes (record { lanes = lanes; queue = queue; current = kept }) → HasCounts work → length queue.items < 4 → longer.capacity ≡ queue.capacity
    → jobs_of lanes longer.items next ≡ jobs_of lanes queue.items kept ++ new_job (lane_course lanes) work ∷ [] → IsFront lanes longer.items next → IsLanes (record { lanes = lanes; queue = longer; current = next })
lanes_offered lanes queue longer kept next work keeps counts room capacity offered front = record {
  some = keeps.some;
  few = keeps.few;
  capacity = capacity ∙ keeps.capacity;
  queue = subst (IsQueue (lane_course lanes) HasCounts 4) (sym offered)
      (queue_offered (lane_course lanes) HasCounts 4 (jobs_of lanes queue.items kept) keeps.queue work counts (some_vector_beat work lanes keeps.some counts) (omega (arith, jobs_length lanes queue.items kept)));
  front = front;
}

-- the first work stays in front, and of a first work that is put the lanes keep that it has not begun
pub front_stays : (lanes : ℕ) (works : List VecWork) (work : VecWork) (current : Option Current) → IsFront lanes works current → ¬ (current ≡ None) → IsFront lanes (works ++ work ∷ []) current
front_stays lanes [] work None front some = absurd (some refl)
front_stays lanes [] work (Some current) front some = absurd front
front_stays lanes (x ∷ works) work None front some = absurd front
front_stays lanes (x ∷ works) work (Some current) front some = front

pub front_new : (lanes : ℕ) (works : List VecWork) (work : VecWork) (next : Current) → IsFront lanes works None → IsUnderWay lanes work next → IsFront lanes (works ++ work ∷ []) (Some next)
front_new lanes [] work next front begins = begins
front_new lanes (x ∷ works) work next front begins = absurd front

-- where nothing is queued, nothing has begun
pub none_begun : (lanes : ℕ) (works : List VecWork) (current : Option Current) → IsFront lanes works current → works ≡ [] → progress_in current ≡ not_begun
none_begun lanes works None front empty = refl
none_begun lanes [] (Some current) front empty = absurd front
none_begun lanes (x ∷ works) (Some current) front empty = cc

-- of two fronts of an empty queue neither has jobs
pub no_jobs : (lanes : ℕ) (works : List VecWork) (current other : Option Current) → IsFront lanes works None → jobs_of lanes works current ≡ jobs_of lanes works other
no_jobs lanes [] current other front = refl
no_jobs lanes (x ∷ works) current other front = absurd front
