-- A beat that nothing hinders changes nothing of what the jobs leave in the end.
use Rattle.std.proofs.Common.{◌≡◌, ℕ, zero, suc, ◌+◌, ◌<◌, ◌≤◌, sym, refl, subst, ap, ◌∙◌, arith, [], ◌∷◌, ◌++◌, slice_get, IfSome, nat_lt, cond}
use Rattle.std.specs.Prelude.{All, ⊤}
use Rattle.std.proofs.lemmas.List.Elements.{All-head, All-tail}
use Rattle.ven_base.specs.Store.{Store, Size, store_size, IsInRange}
use Rattle.ven_base.specs.Job.{beats_left, next_job, next_store, jobs_beaten, store_beaten, beats_on, finished, all_finished}
use Rattle.ven_base.proofs.Jobs.{finished_beaten}
use Rattle.venice_isa.specs.Beat.{beats_of}
use Rattle.venice_isa.specs.Footprint.{Conflicts}
use Rattle.venice_machine.specs.State.{Jobs, issued_course}
use Rattle.overlap_law.specs.Kept.{ReadsOf, WritesOf, IsReadyOn}
use Rattle.overlap_law.proofs.Exchange.{IssuedJob, size_kept, comes_nearer, beats_exchange}

-- each of the jobs has beats left and lies in range
abbrev pub AreReady : ℕ → Jobs → Size → Type 0
AreReady lane_count jobs size = All (IsReadyOn lane_count size) jobs

-- no job before the one at this place conflicts with it
abbrev pub IsUnhindered : (place : ℕ) → Jobs → Type 0
IsUnhindered place [] = ⊤
IsUnhindered zero (job ∷ jobs) = ⊤
IsUnhindered (suc place) (job ∷ jobs) = IfSome (slice_get jobs place) (λ later. ¬ Conflicts job.work.issue later.work.issue) × IsUnhindered place jobs

pub first_ready : (lane_count : ℕ) (job : IssuedJob) (jobs : Jobs) (size : Size) → AreReady lane_count (job ∷ jobs) size → IsReadyOn lane_count size job
first_ready lane_count job jobs size = All-head (IsReadyOn lane_count size) job jobs

pub rest_ready : (lane_count : ℕ) (job : IssuedJob) (jobs : Jobs) (size : Size) → AreReady lane_count (job ∷ jobs) size → AreReady lane_count jobs size
rest_ready lane_count job jobs size = All-tail (IsReadyOn lane_count size) job jobs

module _ (lane_count : ℕ) (some_lanes : 0 < lane_count) where
  abbrev next : IssuedJob → Store → IssuedJob
  next = next_job (issued_course lane_count)

  abbrev after : IssuedJob → Store → Store
  after = next_store (issued_course lane_count)

  abbrev beats : ℕ → IssuedJob → Store → Store
  beats = beats_on (issued_course lane_count)

  -- ---- the rest of a job and a beat of another

  ready_with : (n : ℕ) (a : IssuedJob) (store : Store) → a.progress.done + suc n ≤ beats_of a.work.issue lane_count → IsInRange (ReadsOf a.work) (WritesOf a.work) (store_size store) → IsReadyOn lane_count (store_size store) a
  ready_with n a store more in_range = record { more = omega arith; in_range = in_range }

  pub size_after : (n : ℕ) (a : IssuedJob) (store : Store) → a.progress.done + n ≤ beats_of a.work.issue lane_count → IsInRange (ReadsOf a.work) (WritesOf a.work) (store_size store) → store_size (beats n a store) ≡ store_size store
  size_after zero a store more in_range = refl
  size_after (suc n) a store more in_range =
      let mine = ready_with n a store more in_range in
      let size : store_size (after a store) ≡ store_size store = size_kept lane_count some_lanes a store mine in
      size_after n (next a store) (after a store) (omega (arith, comes_nearer lane_count some_lanes a store mine)) (subst (IsInRange (ReadsOf a.work) (WritesOf a.work)) (sym size) in_range) ∙ size

  -- what so many beats of one work and a beat of another give in either order
  record Exchanged (a b : IssuedJob) (n : ℕ) (store : Store) : Type 0 where
    stores : after b (beats n a store) ≡ beats n a (after b store)
    jobs : next b (beats n a store) ≡ next b store

  exchanged : (n : ℕ) (a b : IssuedJob) (store : Store) → ¬ Conflicts a.work.issue b.work.issue → a.progress.done + n ≤ beats_of a.work.issue lane_count → IsInRange (ReadsOf a.work) (WritesOf a.work) (store_size store) → IsReadyOn lane_count (store_size store) b → Exchanged a b n store
  exchanged zero a b store apart more in_range ready = record { stores = refl; jobs = refl }
  exchanged (suc n) a b store apart more in_range ready =
      let mine = ready_with n a store more in_range in
      let size : store_size (after a store) ≡ store_size store = size_kept lane_count some_lanes a store mine in
      let rest : Exchanged (next a store) b n (after a store) =
      exchanged n (next a store) b (after a store) apart (omega (arith, comes_nearer lane_count some_lanes a store mine)) (subst (IsInRange (ReadsOf a.work) (WritesOf a.work)) (sym size) in_range) (subst (λ (s : Size). IsReadyOn lane_count s b) (sym size) ready) in
      let once = beats_exchange lane_count some_lanes a b store apart mine ready in
      record {
        stores = rest.stores ∙ ap (beats n (next a store)) (sym once.stores) ∙ ap (λ job. beats n job (after a (after b store))) (sym once.same);
        jobs = rest.jobs ∙ once.same_other;
      }

  -- the rest of one job and the next beat of a later one
  front_exchanged : (first : IssuedJob) (place : ℕ) (jobs : Jobs) (store : Store) → IsReadyOn lane_count (store_size store) first → AreReady lane_count jobs (store_size store)
      → IfSome (slice_get jobs place) (λ later. ¬ Conflicts first.work.issue later.work.issue)
      → (store_beaten (issued_course lane_count) place jobs (finished (issued_course lane_count) first store) ≡ finished (issued_course lane_count) first (store_beaten (issued_course lane_count) place jobs store))
      × (jobs_beaten (issued_course lane_count) place jobs (finished (issued_course lane_count) first store) ≡ jobs_beaten (issued_course lane_count) place jobs store)
  front_exchanged first place [] store ready all apart = (refl, refl)
  front_exchanged first zero (job ∷ jobs) store ready all apart =
      let more = ready.more in
      let e : Exchanged first job (beats_left (issued_course lane_count) first) store =
      exchanged (beats_left (issued_course lane_count) first) first job store apart (omega arith) ready.in_range (first_ready lane_count job jobs (store_size store) all) in
      (e.stores, ap (λ coming. cond (nat_lt (job.progress.done + 1) (beats_of job.work.issue lane_count)) (coming ∷ []) [] ++ jobs) e.jobs)
  front_exchanged first (suc place) (job ∷ jobs) store ready all apart =
      let e = front_exchanged first place jobs store ready (rest_ready lane_count job jobs (store_size store) all) apart in
      (e.0, ap (λ js. job ∷ js) e.1)

  -- ---- the law

  pub size_of_finished : (job : IssuedJob) (store : Store) → IsReadyOn lane_count (store_size store) job → store_size (finished (issued_course lane_count) job store) ≡ store_size store
  size_of_finished job store ready = let more = ready.more in size_after (beats_left (issued_course lane_count) job) job store (omega arith) ready.in_range

  pub finishes_alike : (place : ℕ) (jobs : Jobs) (store : Store) → AreReady lane_count jobs (store_size store) → IsUnhindered place jobs
      → all_finished (issued_course lane_count) (jobs_beaten (issued_course lane_count) place jobs store) (store_beaten (issued_course lane_count) place jobs store) ≡ all_finished (issued_course lane_count) jobs store
  finishes_alike place [] store all clear = refl
  finishes_alike zero (job ∷ jobs) store all clear =
      let ready = first_ready lane_count job jobs (store_size store) all in
      finished_beaten (issued_course lane_count) job jobs store (comes_nearer lane_count some_lanes job store ready) ready.more
  finishes_alike (suc place) (job ∷ jobs) store all clear =
      let ready = first_ready lane_count job jobs (store_size store) all in
      let rest = rest_ready lane_count job jobs (store_size store) all in
      let e = front_exchanged job place jobs store ready rest clear.0 in
      ap (λ js. all_finished (issued_course lane_count) js (finished (issued_course lane_count) job (store_beaten (issued_course lane_count) place jobs store))) (sym e.1)
      ∙ ap (all_finished (issued_course lane_count) (jobs_beaten (issued_course lane_count) place jobs (finished (issued_course lane_count) job store))) (sym e.0)
      ∙ finishes_alike place jobs (finished (issued_course lane_count) job store) (subst (AreReady lane_count jobs) (sym (size_of_finished job store ready)) rest) clear.1
