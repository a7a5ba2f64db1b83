-- Code with a disciplined list of issues meets no hazard.
use Rattle.std.proofs.Common.{◌≡◌, ◌⊎◌, inl, inr, ◌&&◌, ◌||◌, ℕ, zero, suc, ◌+◌, ◌<◌, ◌≤◌, sym, refl, subst, ap, ◌∙◌, arith, List, [], ◌∷◌, ◌++◌, append_assoc, append-nil, length, get_or, slice_get, Option, Some, None, IfSome, Bool, true, false, not, cond, nat_lt, nat_le}
use Rattle.std.specs.Prelude.{All, ⊤}
use Rattle.std.specs.List.{filter}
use Rattle.std.proofs.lemmas.Bool.{ltb-true, leb-true, eqb-true, lt-leb}
use Rattle.std.proofs.lemmas.List.{length-append}
use Rattle.std.proofs.lemmas.List.Elements.{All-head, All-tail, All-cons, All-nil, filter-append}
use Rattle.std.proofs.lemmas.List.Sums.{length-filter}
use Rattle.ven_base.specs.Store.{Store}
use Rattle.ven_base.specs.Job.{next_job, jobs_beaten}
use Rattle.venice_isa.specs.declared.instr.Version.{Version}
use Rattle.venice_isa.specs.declared.issue.Issue.{Issue}
use Rattle.venice_isa.specs.declared.issue.Issue.TheVariants.{Vector, Read, Write, RWait, WWait, VWait, TWait}
use Rattle.venice_isa.specs.declared.host.Deed.TheVariants.{Passes}
use Rattle.venice_isa.specs.Beat.{beats_of}
use Rattle.venice_isa.specs.Flight.{waits_for, waits_for_tag_of, ends, may_be_in_flight}
use Rattle.venice_isa.specs.Units.{Unit, Lanes, ReadChannel, WriteChannel, places, is_of, is_work, overtakes, share_a_unit}
use Rattle.venice_machine.specs.State.{Jobs, issued_course, is_job_of, queue, unfinished_count, place_of, has_tag, tagged_count}
use Rattle.venice_machine.specs.Step.{may_step}
use Rattle.venice_machine.proofs.Queues.{other_queue_stays}
use Rattle.venice_machine.proofs.Runs.{both_true}
use Rattle.overlap_law.specs.Flights.{count_of}
use Rattle.overlap_law.proofs.Exchange.{IssuedJob}
use Rattle.overlap_law.proofs.Jobs.{chosen_is_of, shared_unit, overtaken, begun}

-- ---- where a job stands in the list of issues

-- a job is one of the issues that were passed, nothing behind it ends it, and of the works of its unit behind it, where
-- those come to their ends in order, all are still unfinished
pub record IsFlying (version : Version) (issues : List Issue) (work : Issue) (later : Jobs) : Type 0 where
  pub before : List Issue
  pub between : List Issue
  pub unit : Unit
  pub list_is : issues ≡ before ++ work ∷ between
  pub unit_is : is_of unit work ≡ true
  pub flies : may_be_in_flight version unit work 0 between ≡ true
  pub unfinished_after : overtakes version unit ≡ false → count_of unit between ≤ unfinished_count unit later

abbrev pub AreFlying : Version → List Issue → Jobs → Type 0
AreFlying version issues [] = ⊤
AreFlying version issues (job ∷ jobs) = IsFlying version issues job.work.issue jobs × AreFlying version issues jobs

-- ---- one more is passed

and_true : (a b : Bool) → a ≡ true → b ≡ true → (a && b) ≡ true
and_true a b e f = cc

shifted : (more : Bool) (n : ℕ) (issue : Issue) (works : List Issue) → n + length (cond more (issue ∷ works) works) ≡ cond more (n + 1) n + length works
shifted true n issue works = omega arith
shifted false n issue works = refl

pub flies_on : (version : Version) (unit : Unit) (work : Issue) (n : ℕ) (issues : List Issue) (next : Issue) → may_be_in_flight version unit work n issues ≡ true → ends version unit work (n + count_of unit issues) next ≡ false
    → may_be_in_flight version unit work n (issues ++ next ∷ []) ≡ true
flies_on version unit work n [] next flies goes =
    let none : n + 0 ≡ n = omega arith in
    let e = subst (λ m. ends version unit work m next ≡ false) none goes in
    subst (λ b. (not b && true) ≡ true) (sym e) refl
flies_on version unit work n (issue ∷ issues) next flies goes =
    let both = both_true (not (ends version unit work n issue)) _ flies in
    and_true _ _ both.0
    (flies_on version unit work (cond (is_of unit issue) (n + 1) n) issues next both.1
    (subst (λ m. ends version unit work m next ≡ false) (shifted (is_of unit issue) n issue (filter (is_of unit) issues)) goes))

waits_for_none : (unit : Unit) (next : Issue) (jobs : Jobs) (n : ℕ) → n < unfinished_count unit jobs → may_step (Passes next) jobs ≡ true → waits_for unit next n ≡ false
waits_for_none Lanes VWait jobs n some may = absurd (omega (arith, eqb-true (unfinished_count Lanes jobs) 0 may))
waits_for_none ReadChannel (RWait count) jobs n some may = lt-leb count n (omega (arith, leb-true (unfinished_count ReadChannel jobs) count may))
waits_for_none WriteChannel (WWait count) jobs n some may = lt-leb count n (omega (arith, leb-true (unfinished_count WriteChannel jobs) count may))
waits_for_none unit next jobs n some may = refl

has_place : (unit : Unit) (next : Issue) (jobs : Jobs) (n : ℕ) → n < unfinished_count unit jobs → may_step (Passes next) jobs ≡ true → (is_of unit next && nat_le (places unit) (n + 1)) ≡ false
has_place Lanes (Vector w) jobs n some may = lt-leb 4 (n + 1) (omega (arith, ltb-true (unfinished_count Lanes jobs) 4 may))
has_place ReadChannel (Read w) jobs n some may = lt-leb 8 (n + 1) (omega (arith, ltb-true (unfinished_count ReadChannel jobs) 8 may))
has_place WriteChannel (Write w) jobs n some may = lt-leb 8 (n + 1) (omega (arith, ltb-true (unfinished_count WriteChannel jobs) 8 may))
has_place unit next jobs n some may = refl

-- what passes while these are unfinished waits for the tag of none of them
abbrev pub WaitsForNone : Issue → Jobs → Type 0
WaitsForNone next jobs = All (λ job. waits_for_tag_of job.work.issue next ≡ false) jobs

none_of : (tag : ℕ) (jobs : Jobs) → length (filter (λ job. has_tag tag job.work.issue) jobs) ≡ 0 → All (λ job. has_tag tag job.work.issue ≡ false) jobs
none_of tag [] none = All-nil (λ job. has_tag tag job.work.issue ≡ false)
none_of tag (job ∷ jobs) none = go (has_tag tag job.work.issue) refl (none_of tag jobs)
  where
    go : (has : Bool) → has_tag tag job.work.issue ≡ has → (length (filter (λ job. has_tag tag job.work.issue) jobs) ≡ 0 → All (λ job. has_tag tag job.work.issue ≡ false) jobs) → All (λ job. has_tag tag job.work.issue ≡ false) (job ∷ jobs)
    go true e rest =
        let some = subst (λ b. length (cond b (job ∷ filter (λ job. has_tag tag job.work.issue) jobs) (filter (λ job. has_tag tag job.work.issue) jobs)) ≡ 0) e none in
        absurd (omega (arith, some))
    go false e rest =
        All-cons (λ job. has_tag tag job.work.issue ≡ false) job jobs e
        (rest (subst (λ b. length (cond b (job ∷ filter (λ job. has_tag tag job.work.issue) jobs) (filter (λ job. has_tag tag job.work.issue) jobs)) ≡ 0) e none))

-- only a wait for a tag waits for one
tag_waited_for : (work next : Issue) → (waits_for_tag_of work next ≡ false) ⊎ ((tag : ℕ) × (next ≡ TWait tag) × (waits_for_tag_of work next ≡ has_tag tag work))
tag_waited_for (Read work) (TWait tag) = inr (tag, refl, refl)
tag_waited_for (Write work) (TWait tag) = inr (tag, refl, refl)
tag_waited_for work next = inl refl

pub waits_for_no_tag : (next : Issue) (jobs : Jobs) → may_step (Passes next) jobs ≡ true → WaitsForNone next jobs
waits_for_no_tag next jobs may = λ k d within.
    elim (tag_waited_for (get_or jobs k d).work.issue next) [
      | inl none ↦ none
      | inr waited ↦
          let tag = waited.0 in
          let passes = subst (λ issue. may_step (Passes issue) jobs ≡ true) waited.1 may in
          let none : length (filter (λ job. has_tag tag job.work.issue) jobs) ≡ 0 = length-filter (λ job. has_tag tag job.work.issue) jobs ∙ eqb-true (tagged_count tag jobs) 0 passes in
          waited.2 ∙ none_of tag jobs none k d within
    ]

neither_holds : {a b : Bool} → a ≡ false → b ≡ false → (a || b) ≡ false
neither_holds e f = cc

-- what passes while a job of the unit is unfinished doesn't end it
passing_ends_none : (version : Version) (unit : Unit) (work : Issue) (n : ℕ) (next : Issue) (jobs : Jobs) → 0 < unfinished_count unit jobs → (overtakes version unit ≡ false → n < unfinished_count unit jobs)
    → waits_for_tag_of work next ≡ false → may_step (Passes next) jobs ≡ true → ends version unit work n next ≡ false
passing_ends_none version unit work n next jobs some fewer tag may = go (overtakes version unit) refl
  where
    go : (over : Bool) → overtakes version unit ≡ over → cond over (waits_for unit next 0 || waits_for_tag_of work next) (waits_for unit next n || (is_of unit next && nat_le (places unit) (n + 1))) ≡ false
    go true e = neither_holds (waits_for_none unit next jobs 0 some may) tag
    go false e = neither_holds (waits_for_none unit next jobs n (fewer e) may) (has_place unit next jobs n (fewer e) may)

-- ---- counts of works

-- the jobs among which a job is the first have one more of its unit than those behind it
one_more : (unit : Unit) (job : IssuedJob) (jobs : Jobs) → is_job_of unit job ≡ true → unfinished_count unit (job ∷ jobs) ≡ suc (unfinished_count unit jobs)
one_more unit job jobs is = ap (λ more. length (cond more (job ∷ queue unit jobs) (queue unit jobs))) is

unfinished_pushed : (unit : Unit) (jobs : Jobs) (new : IssuedJob) → unfinished_count unit (jobs ++ new ∷ []) ≡ unfinished_count unit jobs + count_of unit (new.work.issue ∷ [])
unfinished_pushed unit jobs new =
    ap length (filter-append (is_job_of unit) jobs (new ∷ [])) ∙ length-append (queue unit jobs) (queue unit (new ∷ [])) ∙ ap (λ n. unfinished_count unit jobs + n) (go (is_job_of unit new))
  where
    go : (more : Bool) → length (cond more (new ∷ []) []) ≡ length (cond more (new.work.issue ∷ []) [])
    go true = refl
    go false = refl

pub count_appended : (unit : Unit) (first second : List Issue) → count_of unit (first ++ second) ≡ count_of unit first + count_of unit second
count_appended unit first second = ap length (filter-append (is_of unit) first second) ∙ length-append (filter (is_of unit) first) (filter (is_of unit) second)

as_many : (unit : Unit) (job : IssuedJob) (jobs : Jobs) → unfinished_count unit jobs ≤ unfinished_count unit (job ∷ jobs)
as_many unit job jobs = go (is_job_of unit job)
  where
    go : (more : Bool) → length (queue unit jobs) ≤ length (cond more (job ∷ queue unit jobs) (queue unit jobs))
    go true = omega arith
    go false = omega arith

-- the jobs still fly when one more issue or wait passes, and brings new jobs or none; `all` are the jobs at that
-- moment, of which these are the last
module _ (version : Version) (issues : List Issue) (next : Issue) (all new : Jobs) (may : may_step (Passes next) all ≡ true)
    (added : (unit : Unit) (some : Jobs) → unfinished_count unit some + count_of unit (next ∷ []) ≤ unfinished_count unit (some ++ new)) where
  flying_on : (job : IssuedJob) (jobs : Jobs) → IsFlying version issues job.work.issue jobs → ((unit : Unit) → unfinished_count unit (job ∷ jobs) ≤ unfinished_count unit all) → waits_for_tag_of job.work.issue next ≡ false
      → IsFlying version (issues ++ next ∷ []) job.work.issue (jobs ++ new)
  flying_on job jobs flying among tag =
      let unit = flying.unit in
      let one : unfinished_count unit (job ∷ jobs) ≡ suc (unfinished_count unit jobs) = one_more unit job jobs flying.unit_is in
      let here : unfinished_count unit (job ∷ jobs) ≤ unfinished_count unit all = among unit in
      record {
        before = flying.before;
        between = flying.between ++ next ∷ [];
        unit = unit;
        list_is = ap (λ list. list ++ next ∷ []) flying.list_is ∙ append_assoc flying.before (job.work.issue ∷ flying.between) (next ∷ []);
        unit_is = flying.unit_is;
        flies =
            flies_on version unit job.work.issue 0 flying.between next flying.flies
            (passing_ends_none version unit job.work.issue (0 + count_of unit flying.between) next all (omega arith)
            (λ in_order. let fewer : count_of unit flying.between ≤ unfinished_count unit jobs = flying.unfinished_after in_order in omega arith) tag may);
        unfinished_after = λ in_order. omega (arith, flying.unfinished_after in_order, count_appended unit flying.between (next ∷ []), added unit jobs);
      }

  still_flying : (jobs : Jobs) → AreFlying version issues jobs → ((unit : Unit) → unfinished_count unit jobs ≤ unfinished_count unit all) → WaitsForNone next jobs → AreFlying version (issues ++ next ∷ []) new → AreFlying version (issues ++ next ∷ []) (jobs ++ new)
  still_flying [] flying among tags base = base
  still_flying (job ∷ jobs) flying among tags base =
      let tag = All-head (λ job. waits_for_tag_of job.work.issue next ≡ false) job jobs tags in
      let rest = All-tail (λ job. waits_for_tag_of job.work.issue next ≡ false) job jobs tags in
      (flying_on job jobs flying.0 among tag, still_flying jobs flying.1 (λ unit. omega (arith, as_many unit job jobs, among unit)) rest base)

  pub all_fly_on : AreFlying version issues all → AreFlying version (issues ++ next ∷ []) new → AreFlying version (issues ++ next ∷ []) (all ++ new)
  all_fly_on flying base = still_flying all flying (λ unit. omega arith) (waits_for_no_tag next all may) base

-- ---- a job makes a beat

-- what a beat of one unit leaves of another's queue
unfinished_beaten : (lane_count : ℕ) (unit : Unit) (place : ℕ) (jobs : Jobs) (store : Store) → IfSome (slice_get jobs place) (λ job. is_job_of unit job ≡ false) → unfinished_count unit (jobs_beaten (issued_course lane_count) place jobs store) ≡ unfinished_count unit jobs
unfinished_beaten lane_count unit place jobs store other = ap length (other_queue_stays lane_count unit place jobs store other)

both_share : (unit : Unit) (first second : Issue) → is_of unit first ≡ true → is_of unit second ≡ true → share_a_unit first second ≡ true
both_share Lanes (Vector v) (Vector w) mine other = refl
both_share ReadChannel (Read v) (Read w) mine other = refl
both_share WriteChannel (Write v) (Write w) mine other = refl
both_share unit first second mine other = cc

-- what is of one unit is of no other
one_unit : (a b : Unit) (first second : Issue) → is_of a first ≡ true → is_of b first ≡ false → is_of b second ≡ true → is_of a second ≡ false
one_unit a b first second mine other theirs = go (is_of a second) refl
  where
    go : (so : Bool) → is_of a second ≡ so → so ≡ false
    go true e = let same = shared_unit b first second (both_share a first second mine e) in cc
    go false e = refl

module _ (version : Version) (lane_count : ℕ) (issues : List Issue) (unit : Unit) where
  -- a job before the one that makes a beat
  kept_flying : (job : IssuedJob) (place : ℕ) (jobs : Jobs) (store : Store) → ((own : Unit) → is_job_of own job ≡ true → overtakes version own ≡ false → IfSome (slice_get jobs place) (λ later. is_job_of own later ≡ false))
      → IsFlying version issues job.work.issue jobs → IsFlying version issues job.work.issue (jobs_beaten (issued_course lane_count) place jobs store)
  kept_flying job place jobs store other flying = record {
    before = flying.before;
    between = flying.between;
    unit = flying.unit;
    list_is = flying.list_is;
    unit_is = flying.unit_is;
    flies = flying.flies;
    unfinished_after = λ in_order. omega (arith, flying.unfinished_after in_order, unfinished_beaten lane_count flying.unit place jobs store (other flying.unit flying.unit_is in_order));
  }

  of_another : (job : IssuedJob) → is_job_of unit job ≡ false → (slot : Option IssuedJob) → IfSome slot (λ later. is_job_of unit later ≡ true) → (own : Unit) → is_job_of own job ≡ true → overtakes version own ≡ false → IfSome slot (λ later. is_job_of own later ≡ false)
  of_another job isnt None is own mine in_order = tt
  of_another job isnt (Some later) is own mine in_order = one_unit own unit job.work.issue later.work.issue mine isnt is

  no_other : (job : IssuedJob) → is_job_of unit job ≡ true → overtakes version unit ≡ true → (own : Unit) → is_job_of own job ≡ true → overtakes version own ≡ true
  no_other job is over own mine = sym (overtaken version own job.work.issue mine) ∙ overtaken version unit job.work.issue is ∙ over

  pub flying_beaten : (k : ℕ) (jobs : Jobs) (store : Store) → (k ≡ 0) ⊎ (overtakes version unit ≡ true) → AreFlying version issues jobs → AreFlying version issues (jobs_beaten (issued_course lane_count) (place_of unit k jobs) jobs store)
  flying_beaten k [] store may flying = tt
  flying_beaten zero (job ∷ jobs) store may flying = go (is_job_of unit job) refl (flying_beaten zero jobs store may flying.1)
    where
      left : (more : Bool) → AreFlying version issues (cond more (next_job (issued_course lane_count) job store ∷ []) [] ++ jobs)
      left true = flying
      left false = flying.1

      go : (is : Bool) → is_job_of unit job ≡ is → AreFlying version issues (jobs_beaten (issued_course lane_count) (place_of unit zero jobs) jobs store)
          → AreFlying version issues (jobs_beaten (issued_course lane_count) (cond is 0 (suc (place_of unit zero jobs))) (job ∷ jobs) store)
      go true e rest = left (nat_lt (job.progress.done + 1) (beats_of job.work.issue lane_count))
      go false e rest =
          (kept_flying job (place_of unit zero jobs) jobs store (of_another job e (slice_get jobs (place_of unit zero jobs)) (chosen_is_of unit zero jobs)) flying.0, rest)
  flying_beaten (suc k) (job ∷ jobs) store may flying = go (is_job_of unit job) refl (flying_beaten k jobs store (inr over) flying.1) (flying_beaten (suc k) jobs store may flying.1)
    where
      over : overtakes version unit ≡ true
      over = elim may [ inl none ↦ absurd (omega arith) | inr so ↦ so ]

      go : (is : Bool) → is_job_of unit job ≡ is → AreFlying version issues (jobs_beaten (issued_course lane_count) (place_of unit k jobs) jobs store) → AreFlying version issues (jobs_beaten (issued_course lane_count) (place_of unit (suc k) jobs) jobs store)
          → AreFlying version issues (jobs_beaten (issued_course lane_count) (cond is (suc (place_of unit k jobs)) (suc (place_of unit (suc k) jobs))) (job ∷ jobs) store)
      go true e mine other =
          (kept_flying job (place_of unit k jobs) jobs store (λ own is in_order. let over' = no_other job e over own is in absurd cc) flying.0, mine)
      go false e mine other =
          (kept_flying job (place_of unit (suc k) jobs) jobs store (of_another job e (slice_get jobs (place_of unit (suc k) jobs)) (chosen_is_of unit (suc k) jobs)) flying.0, other)

-- ---- new jobs

wait_is_of_none : (unit : Unit) (issue : Issue) → is_work issue ≡ false → is_of unit issue ≡ false
wait_is_of_none unit (Vector work) e = absurd cc
wait_is_of_none unit (Read work) e = absurd cc
wait_is_of_none unit (Write work) e = absurd cc
wait_is_of_none Lanes issue e = refl
wait_is_of_none ReadChannel issue e = refl
wait_is_of_none WriteChannel issue e = refl

unit_for : (issue : Issue) → is_work issue ≡ true → (unit : Unit) × (is_of unit issue ≡ true)
unit_for (Vector work) e = (Lanes, refl)
unit_for (Read work) e = (ReadChannel, refl)
unit_for (Write work) e = (WriteChannel, refl)
unit_for issue e = cc

-- a work that was just issued flies
begins : (version : Version) (issues : List Issue) (issue : Issue) → is_work issue ≡ true → IsFlying version (issues ++ issue ∷ []) issue []
begins version issues issue work =
    let unit = unit_for issue work in
    record { before = issues; between = []; unit = unit.0; list_is = refl; unit_is = unit.1; flies = refl; unfinished_after = λ in_order. omega arith }

none_added : (issue : Issue) → is_work issue ≡ false → (unit : Unit) (some : Jobs) → unfinished_count unit some + count_of unit (issue ∷ []) ≤ unfinished_count unit (some ++ [])
none_added issue wait unit some =
    let none : count_of unit (issue ∷ []) ≡ 0 = ap (λ more. length (cond more (issue ∷ []) [])) (wait_is_of_none unit issue wait) in
    let same : unfinished_count unit (some ++ []) ≡ unfinished_count unit some = ap (unfinished_count unit) (append-nil some) in
    omega arith

one_added : (lane_count number : ℕ) (issue : Issue) (unit : Unit) (some : Jobs) → unfinished_count unit some + count_of unit (issue ∷ []) ≤ unfinished_count unit (some ++ begun lane_count number issue ∷ [])
one_added lane_count number issue unit some = omega (arith, unfinished_pushed unit some (begun lane_count number issue))

-- the jobs that fly when a wait has passed, and when a work is issued
pub fly_past_wait : (version : Version) (issues : List Issue) (wait : Issue) (jobs : Jobs) → is_work wait ≡ false → may_step (Passes wait) jobs ≡ true → AreFlying version issues jobs → AreFlying version (issues ++ wait ∷ []) jobs
fly_past_wait version issues wait jobs is may flying =
    subst (AreFlying version (issues ++ wait ∷ [])) (append-nil jobs) (all_fly_on version issues wait jobs [] may (none_added wait is) flying tt)

pub fly_with_one : (version : Version) (lane_count number : ℕ) (issues : List Issue) (issue : Issue) (jobs : Jobs) → is_work issue ≡ true → may_step (Passes issue) jobs ≡ true → AreFlying version issues jobs
    → AreFlying version (issues ++ issue ∷ []) (jobs ++ begun lane_count number issue ∷ [])
fly_with_one version lane_count number issues issue jobs is may flying =
    all_fly_on version issues issue jobs (begun lane_count number issue ∷ []) may (one_added lane_count number issue) flying (begins version issues issue is, tt)
