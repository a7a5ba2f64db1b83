-- What a channel keeps: the transfers of the queue as jobs, and what becomes of them.
use Rattle.std.proofs.Common.{◌≡◌, ℕ, suc, zero, ◌+◌, ◌-◌, ◌<◌, ◌≤◌, ap, sym, ◌∙◌, refl, subst, arith, List, [], ◌∷◌, ◌++◌, length, map, drop, Some, None, true}
use Rattle.std.specs.Prelude.{slice_get, slice_set, Option, All}
use Rattle.std.specs.Option.{option_map, is_some}
use Rattle.std.proofs.lemmas.Bool.{true≢false}
use Rattle.std.proofs.lemmas.List.{length-map, length-append, length-set}
use Rattle.std.proofs.lemmas.List.Elements.{All-cons, All-nil, All-head, All-tail, All-push}
use Rattle.std.proofs.lemmas.Option.{none-some, same_Some, slice_get-map}
use Rattle.circular_buffer.specs.Buffer.{Buffer, buffer}
use Rattle.ven_base.specs.Store.{Store}
use Rattle.ven_base.specs.Job.{Job, HasBeatsLeft, works_of, jobs_beaten, store_beaten, next_store, what_is_left}
use Rattle.spad_store.specs.Queue.{IsQueue}
use Rattle.venice_isa.specs.declared.work.DmaWork.{DmaWork}
use Rattle.venice_isa.specs.Beat.{Progress}
use Rattle.dma_engine.specs.declared.direction.Direction.{Direction}
use Rattle.dma_engine.specs.declared.current.Current.{Current}
use Rattle.dma_engine.specs.Direction.{HasBytes, channel_course}
use Rattle.dma_engine.specs.Current.{job_of, IsUnderWay}
use Rattle.dma_engine.specs.Channel.{queue_of, jobs_of, IsFront, IsChannel}
use Rattle.dma_engine.proofs.Currents.{has_beats, same_beats}

-- ---- the queue

bytes_of_all : (currents : List Current) → All IsUnderWay currents → All (λ job. HasBytes job.work) (map job_of currents)
bytes_of_all [] all = All-nil (λ job. HasBytes job.work)
bytes_of_all (current ∷ currents) all =
    let mine = All-head IsUnderWay current currents all in
    All-cons (λ job. HasBytes job.work) (job_of current) (map job_of currents) (record { rows = omega (arith, mine.in_rows); bytes = omega (arith, mine.in_row) }) (bytes_of_all currents (All-tail IsUnderWay current currents all))

beats_of_all : (direction : Direction) (currents : List Current) → All IsUnderWay currents → All (HasBeatsLeft (channel_course direction)) (map job_of currents)
beats_of_all direction [] all = All-nil (HasBeatsLeft (channel_course direction))
beats_of_all direction (current ∷ currents) all =
    let more = has_beats current (All-head IsUnderWay current currents all) in
    All-cons (HasBeatsLeft (channel_course direction)) (job_of current) (map job_of currents) (omega (arith, more, same_beats direction current.work)) (beats_of_all direction currents (All-tail IsUnderWay current currents all))

queue_length : (first : Option Current) (others : List Current) → length (queue_of first others) ≤ length others + 1
queue_length None others = omega arith
queue_length (Some first) others = omega arith

pub queue_is : (direction : Direction) (first : Option Current) (others : Buffer Current) → IsChannel first others → IsQueue (channel_course direction) HasBytes 8 (jobs_of first others.items)
queue_is direction first others keeps =
    let queue = queue_of first others.items in
    record {
      some = omega arith;
      within = omega (arith, length-map queue job_of, queue_length first others.items, keeps.within);
      counts = bytes_of_all queue keeps.under_way;
      left = beats_of_all direction queue keeps.under_way;
    }

-- how many jobs there are, where there is a first
pub jobs_length : (first : Option Current) (others : List Current) → ¬ (first ≡ None) → length (jobs_of first others) ≡ length others + 1
jobs_length None others some = absurd (some refl)
jobs_length (Some first) others some = omega (arith, length-map others job_of)

-- the works of the queue behind the first
works_at : (currents : List Current) (k : ℕ) (current : Current) → slice_get currents k ≡ Some current → slice_get (works_of (map job_of currents)) k ≡ Some current.work
works_at currents k current is =
    slice_get-map (λ (job : Job DmaWork Progress). job.work) (map job_of currents) k
    ∙ ap (option_map (λ (job : Job DmaWork Progress). job.work)) (slice_get-map job_of currents k)
    ∙ ap (λ slot. option_map (λ (job : Job DmaWork Progress). job.work) (option_map job_of slot)) is

pub work_behind : (first : Option Current) (others : List Current) (k : ℕ) (current : Current) → IsFront first others → ¬ (k ≡ 0) → slice_get others (k - 1) ≡ Some current → slice_get (works_of (jobs_of first others)) k ≡ Some current.work
work_behind None others k current front behind is = absurd (none-some current (subst (λ others. slice_get others (k - 1) ≡ Some current) front is))
work_behind (Some first) others zero current front behind is = absurd (behind refl)
work_behind (Some first) others (suc k) current front behind is =
    let same : suc k - 1 ≡ k = omega arith in
    works_at others k current (subst (λ k. slice_get others k ≡ Some current) same is)

pub none_behind : (first : Option Current) (others : List Current) (k : ℕ) (current : Current) → first ≡ None → IsFront first others → slice_get others k ≡ Some current → ⊥
none_behind None others k current none front is = none-some current (subst (λ others. slice_get others k ≡ Some current) front is)
none_behind (Some first) others k current none front is = none-some first (sym none)

-- ---- a transfer is offered

pub is_something : (first : Option Current) → is_some first ≡ true → ¬ (first ≡ None)
is_something first is none = true≢false (sym is ∙ ap is_some none)

pub first_offered : (others : Buffer Current) (current : Current) → IsChannel None others → IsUnderWay current → IsChannel (Some current) others
first_offered others current keeps mine = record {
  capacity = keeps.capacity;
  within = keeps.within;
  front = tt;
  under_way = All-cons IsUnderWay current others.items mine keeps.under_way;
}

pub other_offered : (first : Option Current) (others : Buffer Current) (current : Current) → ¬ (first ≡ None) → IsChannel first others → IsUnderWay current → length others.items < 7 → IsChannel first (buffer (others.items ++ current ∷ []) others.capacity)
other_offered None others current some keeps mine room = absurd (some refl)
other_offered (Some first) others current some keeps mine room = record {
  capacity = keeps.capacity;
  within = omega (arith, length-append others.items (current ∷ []));
  front = tt;
  under_way = All-push IsUnderWay (first ∷ others.items) current keeps.under_way mine;
}

-- ---- a beat of the first transfer

-- the transfer behind it comes to the front
queue_popped : (others : List Current) → queue_of (slice_get others 0) (drop 1 others) ≡ others
queue_popped [] = refl
queue_popped (second ∷ others) = refl

front_popped : (others : List Current) → IsFront (slice_get others 0) (drop 1 others)
front_popped [] = refl
front_popped (second ∷ others) = tt

less_popped : (others : List Current) → length (drop 1 others) ≤ length others
less_popped [] = omega arith
less_popped (second ∷ others) = omega arith

module _ (first : Current) (others : Buffer Current) (keeps : IsChannel (Some first) others) where
  pub first_on : (next : Current) → IsUnderWay next → IsChannel (Some next) others
  first_on next on = record {
    capacity = keeps.capacity;
    within = keeps.within;
    front = tt;
    under_way = All-cons IsUnderWay next others.items on (All-tail IsUnderWay first others.items keeps.under_way);
  }

  pub first_left : IsChannel (slice_get others.items 0) (buffer (drop 1 others.items) others.capacity)
  first_left = record {
    capacity = keeps.capacity;
    within = omega (arith, less_popped others.items, keeps.within);
    front = front_popped others.items;
    under_way = subst (All IsUnderWay) (sym (queue_popped others.items)) (All-tail IsUnderWay first others.items keeps.under_way);
  }

module _ (direction : Direction) (store : Store) (first : Current) (others : List Current) where
  pub jobs_on : (next : Current) → job_of next ∷ [] ≡ what_is_left (channel_course direction) (job_of first) store → jobs_of (Some next) others ≡ jobs_beaten (channel_course direction) 0 (jobs_of (Some first) others) store
  jobs_on next left = ap (λ left. left ++ map job_of others) left

  pub jobs_left : [] ≡ what_is_left (channel_course direction) (job_of first) store → jobs_of (slice_get others 0) (drop 1 others) ≡ jobs_beaten (channel_course direction) 0 (jobs_of (Some first) others) store
  jobs_left left = ap (map job_of) (queue_popped others) ∙ ap (λ left. left ++ map job_of others) left

-- ---- a beat of the second transfer

module _ (second : Current) where
  -- it is the second job
  pub of_second : (P : Job DmaWork Progress → Type 0) (first : Option Current) (others : List Current) → IsFront first others → slice_get others 0 ≡ Some second → All P (jobs_of first others) → P (job_of second)
  of_second P None others front is all = absurd (none-some second (subst (λ others. slice_get others 0 ≡ Some second) front is))
  of_second P (Some first) [] front is all = absurd (none-some second is)
  of_second P (Some first) (x ∷ others) front is all =
      subst (λ current. P (job_of current)) (same_Some x second is) (All-head P (job_of x) (map job_of others) (All-tail P (job_of first) (map job_of (x ∷ others)) all))

  pub second_under_way : (first : Option Current) (others : List Current) → IsFront first others → slice_get others 0 ≡ Some second → All IsUnderWay (queue_of first others) → IsUnderWay second
  second_under_way None others front is all = absurd (none-some second (subst (λ others. slice_get others 0 ≡ Some second) front is))
  second_under_way (Some first) [] front is all = absurd (none-some second is)
  second_under_way (Some first) (x ∷ others) front is all =
      subst IsUnderWay (same_Some x second is) (All-head IsUnderWay x others (All-tail IsUnderWay first (x ∷ others) all))

  -- the first one stays
  all_on : (first : Option Current) (others : List Current) (next : Current) → IsFront first others → slice_get others 0 ≡ Some second → IsUnderWay next → All IsUnderWay (queue_of first others) → All IsUnderWay (queue_of first (slice_set others 0 next))
  all_on None others next front is on all = absurd (none-some second (subst (λ others. slice_get others 0 ≡ Some second) front is))
  all_on (Some first) [] next front is on all = absurd (none-some second is)
  all_on (Some first) (x ∷ others) next front is on all =
      All-cons IsUnderWay first (next ∷ others) (All-head IsUnderWay first (x ∷ others) all) (All-cons IsUnderWay next others on (All-tail IsUnderWay x others (All-tail IsUnderWay first (x ∷ others) all)))

  all_left : (first : Option Current) (others : List Current) (next : Current) → IsFront first others → slice_get others 0 ≡ Some second → All IsUnderWay (queue_of first others) → All IsUnderWay (queue_of first (drop 1 (slice_set others 0 next)))
  all_left None others next front is all = absurd (none-some second (subst (λ others. slice_get others 0 ≡ Some second) front is))
  all_left (Some first) [] next front is all = absurd (none-some second is)
  all_left (Some first) (x ∷ others) next front is all =
      All-cons IsUnderWay first others (All-head IsUnderWay first (x ∷ others) all) (All-tail IsUnderWay x others (All-tail IsUnderWay first (x ∷ others) all))

  front_with : (first : Option Current) (others others' : List Current) → IsFront first others → slice_get others 0 ≡ Some second → IsFront first others'
  front_with None others others' front is = absurd (none-some second (subst (λ others. slice_get others 0 ≡ Some second) front is))
  front_with (Some first) others others' front is = tt

  pub second_on : (first : Option Current) (others : Buffer Current) (next : Current) → IsChannel first others → slice_get others.items 0 ≡ Some second → IsUnderWay next → IsChannel first (buffer (slice_set others.items 0 next) others.capacity)
  second_on first others next keeps is on = record {
    capacity = keeps.capacity;
    within = omega (arith, length-set others.items 0 next, keeps.within);
    front = front_with first others.items (slice_set others.items 0 next) keeps.front is;
    under_way = all_on first others.items next keeps.front is on keeps.under_way;
  }

  pub second_left : (first : Option Current) (others : Buffer Current) (next : Current) → IsChannel first others → slice_get others.items 0 ≡ Some second → IsChannel first (buffer (drop 1 (slice_set others.items 0 next)) others.capacity)
  second_left first others next keeps is = record {
    capacity = keeps.capacity;
    within = omega (arith, less_popped (slice_set others.items 0 next), length-set others.items 0 next, keeps.within);
    front = front_with first others.items (drop 1 (slice_set others.items 0 next)) keeps.front is;
    under_way = all_left first others.items next keeps.front is keeps.under_way;
  }

  module _ (direction : Direction) (store : Store) where
    pub jobs_second_on : (first : Option Current) (others : List Current) (next : Current) → IsFront first others → slice_get others 0 ≡ Some second → job_of next ∷ [] ≡ what_is_left (channel_course direction) (job_of second) store
        → jobs_of first (slice_set others 0 next) ≡ jobs_beaten (channel_course direction) 1 (jobs_of first others) store
    jobs_second_on None others next front is left = absurd (none-some second (subst (λ others. slice_get others 0 ≡ Some second) front is))
    jobs_second_on (Some first) [] next front is left = absurd (none-some second is)
    jobs_second_on (Some first) (x ∷ others) next front is left =
        ap (λ left. job_of first ∷ (left ++ map job_of others)) (left ∙ ap (λ current. what_is_left (channel_course direction) (job_of current) store) (sym (same_Some x second is)))

    pub jobs_second_left : (first : Option Current) (others : List Current) (next : Current) → IsFront first others → slice_get others 0 ≡ Some second → [] ≡ what_is_left (channel_course direction) (job_of second) store
        → jobs_of first (drop 1 (slice_set others 0 next)) ≡ jobs_beaten (channel_course direction) 1 (jobs_of first others) store
    jobs_second_left None others next front is left = absurd (none-some second (subst (λ others. slice_get others 0 ≡ Some second) front is))
    jobs_second_left (Some first) [] next front is left = absurd (none-some second is)
    jobs_second_left (Some first) (x ∷ others) next front is left =
        ap (λ left. job_of first ∷ (left ++ map job_of others)) (left ∙ ap (λ current. what_is_left (channel_course direction) (job_of current) store) (sym (same_Some x second is)))

    pub store_second : (first : Option Current) (others : List Current) → IsFront first others → slice_get others 0 ≡ Some second → next_store (channel_course direction) (job_of second) store ≡ store_beaten (channel_course direction) 1 (jobs_of first others) store
    store_second None others front is = absurd (none-some second (subst (λ others. slice_get others 0 ≡ Some second) front is))
    store_second (Some first) [] front is = absurd (none-some second is)
    store_second (Some first) (x ∷ others) front is = ap (λ current. next_store (channel_course direction) (job_of current) store) (sym (same_Some x second is))

-- where there is no second, nothing is done
module _ (direction : Direction) (store : Store) where
  pub no_second_store : (first : Option Current) (others : List Current) → slice_get others 0 ≡ None → store ≡ store_beaten (channel_course direction) 1 (jobs_of first others) store
  no_second_store None [] is = refl
  no_second_store (Some first) [] is = refl
  no_second_store first (x ∷ others) is = absurd (none-some x (sym is))

  pub no_second_jobs : (first : Option Current) (others : List Current) → slice_get others 0 ≡ None → jobs_of first others ≡ jobs_beaten (channel_course direction) 1 (jobs_of first others) store
  no_second_jobs None [] is = refl
  no_second_jobs (Some first) [] is = refl
  no_second_jobs first (x ∷ others) is = absurd (none-some x (sym is))
