-- Each step of the machine keeps what finishing its jobs gives.
use Rattle.std.proofs.Common.{◌≡◌, ◌≢◌, ◌⊎◌, inl, inr, ℕ, suc, ◌+◌, ◌<◌, ◌≤◌, sym, refl, subst, ap, ◌∙◌, arith, List, [], ◌∷◌, ◌++◌, append-nil, Some, None, Option, Bool, true, false, not, ◌&&◌, ◌||◌, ◌==◌, cond, length, nat_lt, nat_le}
use Rattle.std.specs.Prelude.{All}
use Rattle.std.specs.List.{AllPairs, filter}
use Rattle.std.proofs.lemmas.Bool.{eqb-true, ltb-true}
use Rattle.std.proofs.Math.Nat.{mul-pos}
use Rattle.std.proofs.lemmas.List.{length-append}
use Rattle.std.proofs.lemmas.List.Elements.{All-nil, All-cons, All-push, filter-append}
use Rattle.ven_base.specs.Store.{Store, store_size}
use Rattle.ven_base.specs.Job.{beats_left, jobs_beaten, all_finished}
use Rattle.ven_base.proofs.Jobs.{works_beaten, all_left}
use Rattle.venice_isa.specs.declared.instr.Instr.{Instr}
use Rattle.venice_isa.specs.declared.issue.Issue.{Issue}
use Rattle.venice_isa.specs.declared.issue.Issue.TheVariants.{Vector, Read, Write, RWait, WWait, VWait, TWait}
use Rattle.venice_isa.specs.declared.host.Deed.{Deed}
use Rattle.venice_isa.specs.declared.host.Deed.TheVariants.{Halts, Moves, Passes}
use Rattle.venice_isa.specs.Beat.{not_begun, lane_group_items, beats_of, after_beats, after_all_beats, sequential, beats_of_all}
use Rattle.venice_isa.specs.Footprint.{Conflicts}
use Rattle.venice_isa.specs.Host.{start, deed, next, after_steps, passed_by, passed_in}
use Rattle.venice_isa.specs.Tests.{has_counts, are_in_conflict}
use Rattle.venice_isa.specs.Units.{Unit, is_work, overtakes, keep_their_order}
use Rattle.venice_isa.proofs.Beats.{some_group}
use Rattle.venice_isa.proofs.Counts.{some_beats}
use Rattle.venice_isa.proofs.TestsRight.{in_range_decided, conflict_decided}
use Rattle.venice_machine.specs.declared.stop.Stop.{Stop}
use Rattle.venice_machine.specs.declared.stop.Stop.TheVariants.{Hazard, OutOfRange, BadCount, Budget}
use Rattle.venice_machine.specs.declared.stop.End.{End}
use Rattle.venice_machine.specs.declared.stop.End.TheVariants.{Halted, Stopped}
use Rattle.venice_machine.specs.State.{Setup, State, IssuedWork, Jobs, issued_course, unfinished_count, place_of}
use Rattle.venice_machine.specs.Step.{is_hazard, with_step, with_host_on, with_work, stopped_by, at_halt, after_beat}
use Rattle.venice_machine.proofs.Runs.{Cases, IsGood, both_true}
use Rattle.overlap_law.specs.Kept.{IsReadyOn, ArePassable, IsEarlier, GoesOnFor, count_works, IsKeptAfter}
use Rattle.overlap_law.proofs.Exchange.{IssuedJob}
use Rattle.overlap_law.proofs.Finishing.{AreReady, finishes_alike}
use Rattle.overlap_law.proofs.Jobs.{pairs_beaten, pairs_push, ready_beaten, size_beaten, chosen_unhindered, fewer_left, chosen_within, finished_pushed, sequential_pushed, begun}

-- ---- issues

both_below : (a b : ℕ) → (nat_lt 0 a && nat_lt 0 b) ≡ true → (0 < a) × (0 < b)
both_below a b e = let both = both_true _ _ e in (ltb-true 0 a both.0, ltb-true 0 b both.1)

-- a work without a count of 0 has a beat
some_work_beats : (lane_count : ℕ) → 0 < lane_count → (issue : Issue) → is_work issue ≡ true → has_counts issue ≡ true → 0 < beats_of issue lane_count
some_work_beats lane_count some (Vector work) is counts =
    let both = both_below work.vl work.rows counts in
    let group = some_group work lane_count some in
    mul-pos both.1 (some_beats work.vl (lane_group_items work.kind lane_count) both.0 group)
some_work_beats lane_count some (Read work) is counts = let both = both_below work.rows work.bytes counts in mul-pos both.0 (some_beats work.bytes 16 both.1 (omega arith))
some_work_beats lane_count some (Write work) is counts = let both = both_below work.rows work.bytes counts in mul-pos both.0 (some_beats work.bytes 16 both.1 (omega arith))
some_work_beats lane_count some issue is counts = absurd cc

-- a wait has none
pub wait_has_no_beats : (issue : Issue) (lane_count : ℕ) → is_work issue ≡ false → beats_of issue lane_count ≡ 0
wait_has_no_beats (Vector work) lane_count e = absurd cc
wait_has_no_beats (Read work) lane_count e = absurd cc
wait_has_no_beats (Write work) lane_count e = absurd cc
wait_has_no_beats (RWait count) lane_count e = refl
wait_has_no_beats (WWait count) lane_count e = refl
wait_has_no_beats VWait lane_count e = refl
wait_has_no_beats (TWait tag) lane_count e = refl

wait_does_nothing : (issue : Issue) (lane_count : ℕ) (store : Store) → is_work issue ≡ false → after_all_beats issue lane_count store ≡ store
unfolding after_all_beats
wait_does_nothing issue lane_count store e = ap (λ n. after_beats n issue lane_count not_begun store) (wait_has_no_beats issue lane_count e)

count_pushed : (issues : List Issue) (issue : Issue) → count_works (issues ++ issue ∷ []) ≡ count_works issues + count_works (issue ∷ [])
count_pushed issues issue = ap length (filter-append is_work issues (issue ∷ [])) ∙ length-append (filter is_work issues) (filter is_work (issue ∷ []))

count_one : (issue : Issue) (is : Bool) → is_work issue ≡ is → count_works (issue ∷ []) ≡ cond is 1 0
count_one issue true e = ap (λ b. length (cond b (issue ∷ []) [])) e
count_one issue false e = ap (λ b. length (cond b (issue ∷ []) [])) e

-- ---- the host

module _ (instrs : List Instr) where
  -- HALT comes with one step alone
  pub goes_on_more : (passed : ℕ) → GoesOnFor instrs passed → deed instrs (after_steps instrs passed start) ≢ Halts → GoesOnFor instrs (suc passed)
  goes_on_more passed goes_on going k below =
      let last : (k < passed) ⊎ (k ≡ passed) = grind arith in
      elim last [ inl before ↦ goes_on k before | inr now ↦ λ e. going (ap (λ n. deed instrs (after_steps instrs n start)) (sym now) ∙ e) ]

module _ (setup : Setup) (first : Store) (passed : ℕ) (state : State) (kept : IsKeptAfter setup first passed state) where
  instrs : List Instr
  instrs = setup.code.instrs

  -- the deed is that of the host's next step
  pub deed_is : (what : Deed) → deed setup.code.instrs state.host ≡ what → deed setup.code.instrs (after_steps setup.code.instrs passed start) ≡ what
  deed_is what e = ap (deed setup.code.instrs) (sym kept.host_is) ∙ e

  pub passed_more : (what : Deed) → deed setup.code.instrs state.host ≡ what → passed_in setup.code.instrs (suc passed) start ≡ passed_in setup.code.instrs passed start ++ passed_by what
  passed_more what e = ap (λ d. passed_in setup.code.instrs passed start ++ passed_by d) (deed_is what e)

  next_goes_on : (what : Deed) → deed setup.code.instrs state.host ≡ what → what ≢ Halts → GoesOnFor setup.code.instrs (suc passed)
  next_goes_on what e going = goes_on_more setup.code.instrs passed kept.goes_on (λ halts. going (sym (deed_is what e) ∙ halts))

-- ---- counts of steps

-- HALT's own step
abbrev pub steps_at_end : Option End → ℕ
steps_at_end None = 0
steps_at_end (Some Halted) = 1
steps_at_end (Some (Stopped stop)) = 0

pub beats_appended : (first second : List Issue) (lane_count : ℕ) → beats_of_all (first ++ second) lane_count ≡ beats_of_all first lane_count + beats_of_all second lane_count
beats_appended [] second lane_count = omega arith
beats_appended (issue ∷ first) second lane_count = omega (arith, beats_appended first second lane_count)

-- ---- each step

module _ (setup : Setup) (most : ℕ) (some_lanes : 0 < setup.lane_count) (first : Store) where
  abbrev Kept : ℕ → State → Type 0
  Kept = IsKeptAfter setup first

  moved_kept : (passed : ℕ) (state : State) → deed setup.code.instrs state.host ≡ Moves → Kept passed state → Kept (suc passed) (with_host_on setup state)
  moved_kept passed state is kept =
      let same : passed_in setup.code.instrs (suc passed) start ≡ passed_in setup.code.instrs passed start = passed_more setup first passed state kept Moves is ∙ append-nil (passed_in setup.code.instrs passed start) in
      record {
        host_is = ap (next setup.code.instrs) kept.host_is;
        goes_on = next_goes_on setup first passed state kept Moves is (λ e. cc);
        issues = kept.issues ∙ ap count_works (sym same);
        finishing = kept.finishing ∙ ap (λ issues. sequential issues setup.lane_count first) (sym same);
        in_order = kept.in_order;
        apart = kept.apart;
        ready = kept.ready;
      }

  waited_kept : (passed : ℕ) (state : State) (issue : Issue) → deed setup.code.instrs state.host ≡ Passes issue → is_work issue ≡ false → Kept passed state → Kept (suc passed) (with_host_on setup state)
  waited_kept passed state issue is wait kept =
      let issues = passed_in setup.code.instrs passed start in
      let more = passed_more setup first passed state kept (Passes issue) is in
      record {
        host_is = ap (next setup.code.instrs) kept.host_is;
        goes_on = next_goes_on setup first passed state kept (Passes issue) is (λ e. cc);
        issues = omega (arith, kept.issues, ap count_works more, count_pushed issues issue, count_one issue false wait);
        finishing =
            kept.finishing
            ∙ sym (wait_does_nothing issue setup.lane_count _ wait)
            ∙ sym (sequential_pushed setup.lane_count issue issues first)
            ∙ ap (λ list. sequential list setup.lane_count first) (sym more);
        in_order = kept.in_order;
        apart = kept.apart;
        ready = kept.ready;
      }

  neither : (a b : Bool) → (a || b) ≡ false → (a ≡ false) × (b ≡ false)
  neither true b e = cc
  neither false b e = (refl, e)

  apart_from : (first second : Issue) → are_in_conflict first second ≡ false → ¬ Conflicts first second
  apart_from first second e conflict = let so : are_in_conflict first second ≡ true = (conflict_decided first second).1 conflict in absurd cc

  no_hazard : (issue : Issue) (number : ℕ) (jobs : Jobs) → is_hazard setup.code.version issue jobs ≡ false → All (λ job. ArePassable setup.code.version job (begun setup.lane_count number issue)) jobs
  no_hazard issue number [] none = All-nil (λ job. ArePassable setup.code.version job (begun setup.lane_count number issue))
  no_hazard issue number (job ∷ jobs) none =
      let both = neither (not (keep_their_order setup.code.version job.work.issue issue) && are_in_conflict job.work.issue issue) _ none in
      All-cons (λ job. ArePassable setup.code.version job (begun setup.lane_count number issue)) job jobs
      (λ other. apart_from job.work.issue issue (subst (λ b. (not b && are_in_conflict job.work.issue issue) ≡ false) other both.0))
      (no_hazard issue number jobs both.1)

  issued_kept : (passed : ℕ) (state : State) (issue : Issue) → deed setup.code.instrs state.host ≡ Passes issue → IsGood setup most issue state → All (λ job. job.work.number ≤ state.issues) state.jobs → Kept passed state → Kept (suc passed) (with_work setup issue state)
  issued_kept passed state issue is good numbered kept =
      let issues = passed_in setup.code.instrs passed start in
      let more = passed_more setup first passed state kept (Passes issue) is in
      let new = begun setup.lane_count (state.issues + 1) issue in
      record {
        host_is = ap (next setup.code.instrs) kept.host_is;
        goes_on = next_goes_on setup first passed state kept (Passes issue) is (λ e. cc);
        issues = omega (arith, kept.issues, ap count_works more, count_pushed issues issue, count_one issue true good.work);
        finishing =
            finished_pushed setup.lane_count (state.issues + 1) issue state.jobs state.store
            ∙ ap (after_all_beats issue setup.lane_count) kept.finishing
            ∙ sym (sequential_pushed setup.lane_count issue issues first)
            ∙ ap (λ list. sequential list setup.lane_count first) (sym more);
        in_order = pairs_push IsEarlier state.jobs new (All-weaken state.jobs numbered) kept.in_order;
        apart = pairs_push (ArePassable setup.code.version) state.jobs new (no_hazard issue (state.issues + 1) state.jobs good.no_hazard) kept.apart;
        ready =
            All-push (IsReadyOn setup.lane_count (store_size state.store)) state.jobs new kept.ready
            (record { more = some_work_beats setup.lane_count some_lanes issue good.work good.counts; in_range = (in_range_decided (store_size state.store) issue).0 good.in_range });
      }
    where
      All-weaken : (jobs : Jobs) → All (λ job. job.work.number ≤ state.issues) jobs → All (λ job. IsEarlier job (begun setup.lane_count (state.issues + 1) issue)) jobs
      All-weaken jobs all k d within = omega (arith, all k d within)

  beaten_kept : (unit : Unit) (k : ℕ) → (k ≡ 0) ⊎ (overtakes setup.code.version unit ≡ true) → (passed : ℕ) (state : State) → Kept passed state → Kept passed (after_beat setup unit k state)
  beaten_kept unit k may passed state kept =
      let place = place_of unit k state.jobs in
      record {
        host_is = kept.host_is;
        goes_on = kept.goes_on;
        issues = kept.issues;
        finishing = finishes_alike setup.lane_count some_lanes place state.jobs state.store kept.ready (chosen_unhindered setup.code.version unit k state.jobs may kept.apart) ∙ kept.finishing;
        in_order = pairs_beaten setup.lane_count (λ (first second : IssuedWork). first.number < second.number) place state.jobs state.store kept.in_order;
        apart = pairs_beaten setup.lane_count (λ (first second : IssuedWork). keep_their_order setup.code.version first.issue second.issue ≡ false → ¬ Conflicts first.issue second.issue) place state.jobs state.store kept.apart;
        ready =
            subst (AreReady setup.lane_count (jobs_beaten (issued_course setup.lane_count) place state.jobs state.store))
            (sym (size_beaten setup.lane_count some_lanes place state.jobs state.store kept.ready))
            (ready_beaten setup.lane_count some_lanes place state.jobs state.store kept.ready);
      }

  -- ---- a state of a run

  -- what holds beside it: the works' numbers are those of issues made, and the steps are the host's and the beats done
  pub record IsSound (state : State) : Type 0 where
    pub passed : ℕ
    pub kept : Kept passed state
    pub numbered : All (λ job. job.work.number ≤ state.issues) state.jobs
    pub steps : state.steps + all_left (issued_course setup.lane_count) state.jobs ≡ passed + beats_of_all (passed_in setup.code.instrs passed start) setup.lane_count + steps_at_end state.end
    pub at_halt : state.end ≡ Some Halted → (state.jobs ≡ []) × (deed setup.code.instrs state.host ≡ Halts)

  -- a step that is counted doesn't halt
  pub not_halted : (test : Bool) (steps : ℕ) → steps_at_end (cond test (Some (Stopped (Budget steps))) None) ≡ 0
  not_halted true steps = refl
  not_halted false steps = refl

  isnt_halted : (test : Bool) (steps : ℕ) → cond test (Some (Stopped (Budget steps))) None ≢ Some Halted
  isnt_halted true steps e = cc
  isnt_halted false steps e = cc

  beats_more : (passed : ℕ) (state : State) → Kept passed state → (what : Deed) → deed setup.code.instrs state.host ≡ what
      → beats_of_all (passed_in setup.code.instrs (suc passed) start) setup.lane_count ≡ beats_of_all (passed_in setup.code.instrs passed start) setup.lane_count + beats_of_all (passed_by what) setup.lane_count
  beats_more passed state kept what e =
      ap (λ list. beats_of_all list setup.lane_count) (passed_more setup first passed state kept what e) ∙ beats_appended (passed_in setup.code.instrs passed start) (passed_by what) setup.lane_count

  left_pushed : (new : IssuedJob) (jobs : Jobs) → all_left (issued_course setup.lane_count) (jobs ++ new ∷ []) ≡ all_left (issued_course setup.lane_count) jobs + beats_left (issued_course setup.lane_count) new
  left_pushed new [] = omega arith
  left_pushed new (job ∷ jobs) = omega (arith, left_pushed new jobs)

  left_beaten : (unit : Unit) (k : ℕ) (jobs : Jobs) (store : Store) → AreReady setup.lane_count jobs (store_size store) → k < unfinished_count unit jobs
      → all_left (issued_course setup.lane_count) (jobs_beaten (issued_course setup.lane_count) (place_of unit k jobs) jobs store) + 1 ≡ all_left (issued_course setup.lane_count) jobs
  left_beaten unit k jobs store ready some = fewer_left setup.lane_count some_lanes (place_of unit k jobs) jobs store ready (chosen_within unit k jobs some)

  no_end : (state : State) → state.end ≡ None → steps_at_end state.end ≡ 0
  no_end state none = ap steps_at_end none

  no_jobs : (jobs : Jobs) → (length jobs == 0) ≡ true → jobs ≡ []
  no_jobs [] e = refl
  no_jobs (job ∷ jobs) e = absurd (omega (arith, eqb-true (suc (length jobs)) 0 e))

  still_numbered : (issues : ℕ) (jobs : Jobs) → All (λ job. job.work.number ≤ issues) jobs → All (λ job. job.work.number ≤ issues + 1) jobs
  still_numbered issues jobs all k d within = omega (arith, all k d within)

  -- the parts of the state that no fact speaks of may change
  pub same_kept : (passed : ℕ) (state after : State) → after.host ≡ state.host → after.jobs ≡ state.jobs → after.store ≡ state.store → after.issues ≡ state.issues → Kept passed state → Kept passed after
  same_kept passed state after host jobs store issues kept = record {
    host_is = host ∙ kept.host_is;
    goes_on = kept.goes_on;
    issues = issues ∙ kept.issues;
    finishing = ap (λ js. all_finished (issued_course setup.lane_count) js after.store) jobs ∙ ap (all_finished (issued_course setup.lane_count) state.jobs) store ∙ kept.finishing;
    in_order = subst (AllPairs IsEarlier) (sym jobs) kept.in_order;
    apart = subst (AllPairs (ArePassable setup.code.version)) (sym jobs) kept.apart;
    ready = subst (λ s. All (IsReadyOn setup.lane_count (store_size s)) after.jobs) (sym store) (subst (All (IsReadyOn setup.lane_count (store_size state.store))) (sym jobs) kept.ready);
  }

  pub stop_sound : (stop : Stop) (state : State) → state.end ≡ None → IsSound state → IsSound (stopped_by stop state)
  stop_sound stop state going sound = record {
    passed = sound.passed;
    kept = same_kept sound.passed state (stopped_by stop state) refl refl refl refl sound.kept;
    numbered = sound.numbered;
    steps = omega (arith, sound.steps, no_end state going);
    at_halt = λ e. absurd cc;
  }

  pub step_sound : (state : State) → state.end ≡ None → IsSound state → Cases setup most IsSound state
  step_sound state going sound =
      let kept = sound.kept in
      let passed = sound.passed in
      record {
        halts = λ is none. record {
          passed = passed;
          kept = same_kept passed state (at_halt state) refl refl refl refl kept;
          numbered = sound.numbered;
          steps = omega (arith, sound.steps, no_end state going);
          at_halt = λ e. (no_jobs state.jobs none, is);
        };
        moves = λ is. record {
          passed = suc passed;
          kept = same_kept (suc passed) (with_host_on setup state) (with_step most (with_host_on setup state)) refl refl refl refl (moved_kept passed state is kept);
          numbered = sound.numbered;
          steps = omega (arith, sound.steps, no_end state going, beats_more passed state kept Moves is, not_halted (nat_le most (state.steps + 1)) (state.steps + 1));
          at_halt = λ e. absurd (isnt_halted _ _ e);
        };
        waits = λ issue passing wait. record {
          passed = suc passed;
          kept = same_kept (suc passed) (with_host_on setup state) (with_step most (with_host_on setup state)) refl refl refl refl (waited_kept passed state issue passing.next wait kept);
          numbered = sound.numbered;
          steps = omega (arith, sound.steps, no_end state going, beats_more passed state kept (Passes issue) passing.next, wait_has_no_beats issue setup.lane_count wait, not_halted (nat_le most (state.steps + 1)) (state.steps + 1));
          at_halt = λ e. absurd (isnt_halted _ _ e);
        };
        bad_count = λ issue passing work wrong. stop_sound (BadCount state.host.place) state going sound;
        out_of_range = λ issue passing work counts wrong. stop_sound (OutOfRange state.host.place) state going sound;
        meets_hazard = λ issue passing meets. stop_sound (Hazard state.host.place state.cycles) state going sound;
        issues = λ issue passing good. record {
          passed = suc passed;
          kept = same_kept (suc passed) (with_work setup issue state) (with_step most (with_work setup issue state)) refl refl refl refl (issued_kept passed state issue passing.next good sound.numbered kept);
          numbered = All-push (λ job. job.work.number ≤ state.issues + 1) state.jobs (begun setup.lane_count (state.issues + 1) issue) (still_numbered state.issues state.jobs sound.numbered) (omega arith);
          steps = omega (arith, sound.steps, no_end state going, beats_more passed state kept (Passes issue) passing.next, left_pushed (begun setup.lane_count (state.issues + 1) issue) state.jobs, not_halted (nat_le most (state.steps + 1)) (state.steps + 1));
          at_halt = λ e. absurd (isnt_halted _ _ e);
        };
        beats = λ unit k may some. record {
          passed = passed;
          kept = same_kept passed (after_beat setup unit k state) (with_step most (after_beat setup unit k state)) refl refl refl refl (beaten_kept unit k may passed state kept);
          numbered = works_beaten (issued_course setup.lane_count) (λ (work : IssuedWork). work.number ≤ state.issues) (place_of unit k state.jobs) state.jobs state.store sound.numbered;
          steps = omega (arith, sound.steps, no_end state going, left_beaten unit k state.jobs state.store kept.ready some, not_halted (nat_le most (state.steps + 1)) (state.steps + 1));
          at_halt = λ e. absurd (isnt_halted _ _ e);
        };
      }
