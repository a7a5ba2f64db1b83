-- One unit in a cycle in which no work ends: what stays as it is, and what its turn shows.
use Rattle.std.proofs.Common.{◌≡◌, ◌⊎◌, inl, inr, ◌∙◌, ℕ, zero, suc, ◌+◌, ◌<◌, ◌≤◌, ◌&&◌, min, arith, sym, refl, ap, subst, List, [], ◌∷◌, length, Option, Some, None, Bool, true, false, cond, nat_lt, nat_le}
use Rattle.std.specs.Prelude.{All}
use Rattle.std.proofs.lemmas.Bool.{le-ltb}
use Rattle.std.proofs.lemmas.List.Elements.{All-head}
use Rattle.ven_base.specs.Store.{Store, Size, store_of, store_size}
use Rattle.ven_base.specs.Job.{Job, Course, job_as, jobs_beaten, store_beaten}
use Rattle.ven_base.specs.Beats.{jobs_after_beats, HasMore}
use Rattle.ven_base.specs.Exchange.{WorkKind, KeepToFootprints, HasMoreIn}
use Rattle.ven_base.proofs.Jobs.{ready_as, keeps_as, works_beaten}
use Rattle.ven_base.proofs.Exchange.{stays_first, still_more}
use Rattle.venice_isa.specs.declared.issue.Issue.{Issue}
use Rattle.venice_isa.specs.declared.issue.Issue.TheVariants.{Vector, Read, Write}
use Rattle.venice_isa.specs.declared.work.DmaWork.{DmaWork}
use Rattle.venice_isa.specs.Beat.{Progress, course_of}
use Rattle.venice_isa.specs.Footprint.{Reads, Writes, HasFootprint}
use Rattle.venice_isa.specs.Units.{Lanes, ReadChannel, WriteChannel, overtakes}
use Rattle.venice_isa.proofs.Footprints.{beats_keep}
use Rattle.spad_store.specs.Tagged.{tagged_among}
use Rattle.venice_machine.specs.declared.stop.End.{End}
use Rattle.venice_machine.specs.declared.stop.Stop.TheVariants.{Budget}
use Rattle.venice_machine.specs.declared.stop.End.TheVariants.{Stopped}
use Rattle.venice_machine.specs.State.{State}
use Rattle.venice_machine.specs.Step.{TheUnit}
use Rattle.venice_machine.specs.Machine.{UnitWorks, MachineContents, Shows}
use Rattle.venice_machine.specs.Kept.{AllNumbered, LieIn, unit_course, works_after_beat, numbers_left, counted, after_chance}
use Rattle.venice_machine.specs.AtOnce.{WorksAndStore, lanes_on, reads_on, writes_on, works_of, with_works}
use Rattle.venice_machine.proofs.Shown.{lanes_count, reads_count, writes_count}
use Rattle.venice_machine.proofs.Turning.{lane_turned, read_turned_by, write_turned_by, idle_turn, none_left}

-- ---- many beats of any unit

module _ {Work Progress : Type 0} (kind : WorkKind Work Progress) (keep : KeepToFootprints kind) where
  one_length : (count : ℕ) (jobs : List (Job Work Progress)) (size : Size) (store : Store) → HasMoreIn kind size (suc count) jobs → length (jobs_beaten kind.course 0 jobs store) ≡ length jobs
  one_length count [] size store more = refl
  one_length count (job ∷ jobs) size store more = ap length (stays_first kind keep job jobs store (omega (arith, more.0)))

  -- no work leaves the queue
  pub length_after : (count : ℕ) (jobs : List (Job Work Progress)) (store : Store) → HasMoreIn kind (store_size store) count jobs → length (jobs_after_beats kind.course count jobs store) ≡ length jobs
  length_after zero jobs store more = refl
  length_after (suc count) jobs store more =
      length_after count (jobs_beaten kind.course 0 jobs store) (store_beaten kind.course 0 jobs store) (still_more kind keep count jobs store more) ∙ one_length count jobs (store_size store) store more

-- what holds of the works still does
module _ {Work Progress : Type 0} (course : Course Work Progress) (P : Work → Type 0) where
  pub works_after : (count : ℕ) (jobs : List (Job Work Progress)) (store : Store) → All (λ job. P job.work) jobs → All (λ job. P job.work) (jobs_after_beats course count jobs store)
  works_after zero jobs store all = all
  works_after (suc count) jobs store all = works_after count (jobs_beaten course 0 jobs store) (store_beaten course 0 jobs store) (works_beaten course P 0 jobs store all)

-- the works lie where they lay
pub lie_after : {Work : Type 0} (as_issue : Work → Issue) (course : Course Work Progress) (count : ℕ) (numbers : List ℕ) (jobs after : List (Job Work Progress)) (store : Store) (size now : Size) → after ≡ jobs_after_beats course count jobs store → now ≡ size
    → All (λ job. HasFootprint size (as_issue job.work)) jobs → LieIn as_issue now (record { jobs = after; numbers = numbers })
lie_after as_issue course count numbers jobs after store size now is same all =
    subst (λ size. All (λ job. HasFootprint size (as_issue job.work)) after) (sym same)
    (subst (All (λ job. HasFootprint size (as_issue job.work))) (sym is) (works_after course (λ work. HasFootprint size (as_issue work)) count jobs store all))

-- ---- a unit of the machine

module _ {Work : Type 0} (as_issue : Work → Issue) (lane_count : ℕ) where
  abbrev pub unit_kind : WorkKind Work Progress
  unit_kind = record { course = unit_course as_issue lane_count; reads = λ work. Reads (as_issue work); writes = λ work. Writes (as_issue work) }

  pub more_of : (count : ℕ) (works : UnitWorks Work) (size : Size) → HasMore (unit_course as_issue lane_count) count works.jobs → LieIn as_issue size works → HasMoreIn unit_kind size count works.jobs
  more_of count works size more lie = go works.jobs more lie
    where
      go : (jobs : List (Job Work Progress)) → HasMore (unit_course as_issue lane_count) count jobs → All (λ job. HasFootprint size (as_issue job.work)) jobs → HasMoreIn unit_kind size count jobs
      go [] more lie = tt
      go (job ∷ jobs) more lie = (more, All-head (λ job. HasFootprint size (as_issue job.work)) job jobs lie)

  module _ (some_lanes : 0 < lane_count) where
    pub unit_keeps : KeepToFootprints unit_kind
    unit_keeps job first second ready ready' agree =
        keeps_as as_issue (course_of lane_count) Writes job first second
        (beats_keep lane_count (job_as as_issue job) first second some_lanes
        (ready_as as_issue (course_of lane_count) Reads Writes job (store_size first) ready)
        (ready_as as_issue (course_of lane_count) Reads Writes job (store_size second) ready') agree)

    -- a beat that isn't the last leaves as many jobs
    pub same_length : (jobs : List (Job Work Progress)) (size : Size) (store : Store) → HasMoreIn unit_kind size 1 jobs → length (jobs_beaten (unit_course as_issue lane_count) 0 jobs store) ≡ length jobs
    same_length jobs size store more = one_length unit_kind unit_keeps 0 jobs size store more

    -- and no number leaves
    pub numbers_stay : (works : UnitWorks Work) (size : Size) (store : Store) → length works.numbers ≡ length works.jobs → HasMoreIn unit_kind size 1 works.jobs
        → works_after_beat (unit_course as_issue lane_count) 0 works store ≡ record works { jobs = jobs_beaten (unit_course as_issue lane_count) 0 works.jobs store }
    numbers_stay works size store numbered more =
        let beaten = jobs_beaten (unit_course as_issue lane_count) 0 works.jobs store in
        let all : length works.numbers ≤ length beaten = omega (arith, same_length works.jobs size store more, numbered) in
        let stay : numbers_left 0 (length beaten) works.numbers ≡ works.numbers = rw (le-ltb (length beaten) (length works.numbers) all) refl in
        ap (λ (numbers : List ℕ). record { jobs = beaten; numbers = numbers }) stay

-- transfers keep their tags
pub tagged_stay : (as_issue : DmaWork → Issue) (lane_count : ℕ) (some_lanes : 0 < lane_count) (tag : ℕ) (jobs : List (Job DmaWork Progress)) (size : Size) (store : Store) → HasMoreIn (unit_kind as_issue lane_count) size 1 jobs
    → tagged_among (λ (work : DmaWork). work.tag) tag (jobs_beaten (unit_course as_issue lane_count) 0 jobs store) ≡ tagged_among (λ (work : DmaWork). work.tag) tag jobs
tagged_stay as_issue lane_count some_lanes tag [] size store more = refl
tagged_stay as_issue lane_count some_lanes tag (job ∷ jobs) size store more =
    ap (tagged_among (λ (work : DmaWork). work.tag) tag)
    (stays_first (unit_kind as_issue lane_count) (unit_keeps as_issue lane_count some_lanes) job jobs store (omega (arith, more.0)))

-- ---- numbers

and_false : (b : Bool) → false ≡ (b && false)
and_false true = refl
and_false false = refl

none_below : (n : ℕ) → n ≡ 0 → nat_lt 0 n ≡ false
none_below n none = rw none refl

min_none : (n : ℕ) → n ≡ 0 → min 1 n ≡ 0
min_none n none = omega (arith, none)

min_some : (n : ℕ) → 0 < n → min 1 n ≡ 1
min_some n some = omega (arith, some)

pub plus_none : (n : ℕ) → n + 0 ≡ n
plus_none n = omega arith

some_or_none : (n : ℕ) → (0 < n) ⊎ (n ≡ 0)
some_or_none zero = inr refl
some_or_none (suc n) = inl (omega arith)

-- ---- a unit's turn, in which no work ends and no step is the last

module _ (most : ℕ) (machine : MachineContents) (numbered : AllNumbered machine.queues) (going : machine.end ≡ None) (some_lanes : 0 < machine.setup.lane_count) where
  abbrev n : ℕ
  n = machine.setup.lane_count

  abbrev here : Store
  here = store_of machine.cells machine.memory

  -- the machine with such works, and so many steps more
  abbrev on : WorksAndStore → ℕ → MachineContents
  on works more = with_works works (machine.steps + more) machine.cycles machine

  counted_is : (works : WorksAndStore) (more : ℕ) → more ≡ 1 → machine.steps + more < most → on works more ≡ counted most (on works 0)
  counted_is works more one room =
      let steps : machine.steps + more ≡ machine.steps + 0 + 1 = omega (arith, one) in
      let goes : nat_le most (machine.steps + 0 + 1) ≡ false = grind (arith, steps, room) in
      let end : cond (nat_le most (machine.steps + 0 + 1)) (Some (Stopped (Budget (machine.steps + 0 + 1)))) None ≡ None = rw goes refl in
      ap (λ steps. with_works works steps machine.cycles machine) steps
      ∙ ap (λ (end : Option End). record (with_works works (machine.steps + 0 + 1) machine.cycles machine) { end = end }) (going ∙ sym end)

  pub lanes_turn_shown : HasMoreIn (unit_kind Vector n) (store_size here) 1 machine.queues.lanes.jobs → machine.steps + min 1 (length machine.queues.lanes.jobs) < most
      → (state : State) → Shows machine state → Shows (on (lanes_on n 1 (works_of machine)) (min 1 (length machine.queues.lanes.jobs))) (after_chance machine.setup most false (TheUnit Lanes) state)
  lanes_turn_shown more room state shows =
      let after = store_beaten (unit_course Vector n) 0 machine.queues.lanes.jobs here in
      elim (some_or_none (length machine.queues.lanes.jobs)) [
        | inl some ↦
            lane_turned machine numbered false most after.cells after.memory _ refl some
            (counted_is (lanes_on n 1 (works_of machine)) (min 1 (length machine.queues.lanes.jobs)) (min_some _ some) room
            ∙ ap (λ (works : UnitWorks _). counted most (on (record { queues = record machine.queues { lanes = works }; store = after }) 0)) (sym (numbers_stay Vector n some_lanes machine.queues.lanes (store_size here) here numbered.of_lanes more))
            ∙ ap (λ steps. counted most (with_works (record { queues = record machine.queues { lanes = works_after_beat (unit_course Vector n) 0 machine.queues.lanes here }; store = after }) steps machine.cycles machine)) (plus_none machine.steps))
            state shows
        | inr none ↦
            let idle = none_left (unit_course Vector n) 0 machine.queues.lanes.numbers machine.queues.lanes.jobs here none numbered.of_lanes in
            let same : on (lanes_on n 1 (works_of machine)) (min 1 (length machine.queues.lanes.jobs)) ≡ machine =
            ap (λ jobs. on (record { queues = record machine.queues { lanes = record machine.queues.lanes { jobs = jobs } }; store = after }) (min 1 (length machine.queues.lanes.jobs))) (ap (λ (works : UnitWorks _). works.jobs) idle.0)
            ∙ ap (λ store. on (record { queues = machine.queues; store = store }) (min 1 (length machine.queues.lanes.jobs))) idle.1
            ∙ ap (λ more. on (works_of machine) more) (min_none _ none)
            ∙ ap (λ steps. with_works (works_of machine) steps machine.cycles machine) (plus_none machine.steps) in
            subst (λ m. Shows m (after_chance machine.setup most false (TheUnit Lanes) state)) (sym same)
            (subst (Shows machine) (sym (idle_turn Lanes machine.setup most false state (none_below _ (lanes_count machine.queues state.jobs shows.jobs numbered ∙ none)))) shows)
      ]

  pub reads_turn_shown : HasMoreIn (unit_kind Read n) (store_size here) 1 machine.queues.reads.jobs → machine.steps + min 1 (length machine.queues.reads.jobs) < most
      → (state : State) → Shows machine state → Shows (on (reads_on n 1 (works_of machine)) (min 1 (length machine.queues.reads.jobs))) (after_chance machine.setup most false (TheUnit ReadChannel) state)
  reads_turn_shown more room state shows =
      let after = store_beaten (unit_course Read n) 0 machine.queues.reads.jobs here in
      let beaten : MachineContents = with_works (record { queues = record machine.queues { reads = works_after_beat (unit_course Read n) 0 machine.queues.reads here }; store = after }) machine.steps machine.cycles machine in
      elim (some_or_none (length machine.queues.reads.jobs)) [
        | inl some ↦
            read_turned_by machine numbered false most false (and_false (overtakes machine.setup.code.version ReadChannel)) beaten refl refl some _
            (counted_is (reads_on n 1 (works_of machine)) (min 1 (length machine.queues.reads.jobs)) (min_some _ some) room
            ∙ ap (λ (works : UnitWorks _). counted most (on (record { queues = record machine.queues { reads = works }; store = after }) 0)) (sym (numbers_stay Read n some_lanes machine.queues.reads (store_size here) here numbered.of_reads more))
            ∙ ap (λ steps. counted most (with_works (record { queues = record machine.queues { reads = works_after_beat (unit_course Read n) 0 machine.queues.reads here }; store = after }) steps machine.cycles machine)) (plus_none machine.steps))
            state shows
        | inr none ↦
            let idle = none_left (unit_course Read n) 0 machine.queues.reads.numbers machine.queues.reads.jobs here none numbered.of_reads in
            let same : on (reads_on n 1 (works_of machine)) (min 1 (length machine.queues.reads.jobs)) ≡ machine =
            ap (λ jobs. on (record { queues = record machine.queues { reads = record machine.queues.reads { jobs = jobs } }; store = after }) (min 1 (length machine.queues.reads.jobs))) (ap (λ (works : UnitWorks _). works.jobs) idle.0)
            ∙ ap (λ store. on (record { queues = machine.queues; store = store }) (min 1 (length machine.queues.reads.jobs))) idle.1
            ∙ ap (λ more. on (works_of machine) more) (min_none _ none)
            ∙ ap (λ steps. with_works (works_of machine) steps machine.cycles machine) (plus_none machine.steps) in
            subst (λ m. Shows m (after_chance machine.setup most false (TheUnit ReadChannel) state)) (sym same)
            (subst (Shows machine) (sym (idle_turn ReadChannel machine.setup most false state (none_below _ (reads_count machine.queues state.jobs shows.jobs numbered ∙ none)))) shows)
      ]

  pub writes_turn_shown : HasMoreIn (unit_kind Write n) (store_size here) 1 machine.queues.writes.jobs → machine.steps + min 1 (length machine.queues.writes.jobs) < most
      → (state : State) → Shows machine state → Shows (on (writes_on n 1 (works_of machine)) (min 1 (length machine.queues.writes.jobs))) (after_chance machine.setup most false (TheUnit WriteChannel) state)
  writes_turn_shown more room state shows =
      let after = store_beaten (unit_course Write n) 0 machine.queues.writes.jobs here in
      let beaten : MachineContents = with_works (record { queues = record machine.queues { writes = works_after_beat (unit_course Write n) 0 machine.queues.writes here }; store = after }) machine.steps machine.cycles machine in
      elim (some_or_none (length machine.queues.writes.jobs)) [
        | inl some ↦
            write_turned_by machine numbered false most false (and_false (overtakes machine.setup.code.version ReadChannel)) beaten refl refl some _
            (counted_is (writes_on n 1 (works_of machine)) (min 1 (length machine.queues.writes.jobs)) (min_some _ some) room
            ∙ ap (λ (works : UnitWorks _). counted most (on (record { queues = record machine.queues { writes = works }; store = after }) 0)) (sym (numbers_stay Write n some_lanes machine.queues.writes (store_size here) here numbered.of_writes more))
            ∙ ap (λ steps. counted most (with_works (record { queues = record machine.queues { writes = works_after_beat (unit_course Write n) 0 machine.queues.writes here }; store = after }) steps machine.cycles machine)) (plus_none machine.steps))
            state shows
        | inr none ↦
            let idle = none_left (unit_course Write n) 0 machine.queues.writes.numbers machine.queues.writes.jobs here none numbered.of_writes in
            let same : on (writes_on n 1 (works_of machine)) (min 1 (length machine.queues.writes.jobs)) ≡ machine =
            ap (λ jobs. on (record { queues = record machine.queues { writes = record machine.queues.writes { jobs = jobs } }; store = after }) (min 1 (length machine.queues.writes.jobs))) (ap (λ (works : UnitWorks _). works.jobs) idle.0)
            ∙ ap (λ store. on (record { queues = machine.queues; store = store }) (min 1 (length machine.queues.writes.jobs))) idle.1
            ∙ ap (λ more. on (works_of machine) more) (min_none _ none)
            ∙ ap (λ steps. with_works (works_of machine) steps machine.cycles machine) (plus_none machine.steps) in
            subst (λ m. Shows m (after_chance machine.setup most false (TheUnit WriteChannel) state)) (sym same)
            (subst (Shows machine) (sym (idle_turn WriteChannel machine.setup most false state (none_below _ (writes_count machine.queues state.jobs shows.jobs numbered ∙ none)))) shows)
      ]
