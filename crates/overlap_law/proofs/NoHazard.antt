-- Code with a disciplined list of issues meets no hazard.
use Rattle.std.proofs.Common.{◌≡◌, ◌≢◌, ◌⊎◌, inl, inr, ◌&&◌, ◌||◌, ℕ, zero, suc, ◌+◌, ◌<◌, ◌≤◌, sym, refl, subst, ap, ◌∙◌, arith, List, [], ◌∷◌, ◌++◌, append_assoc, append-nil, length, Some, None, Bool, true, false, not, cond}
use Rattle.venice_isa.specs.declared.instr.Instr.{Instr}
use Rattle.venice_isa.specs.declared.issue.Issue.{Issue}
use Rattle.venice_isa.specs.declared.host.Deed.{Deed}
use Rattle.venice_isa.specs.declared.host.Deed.TheVariants.{Halts, Moves, Passes}
use Rattle.venice_isa.specs.Flight.{IsDisciplined}
use Rattle.venice_isa.specs.Host.{start, deed, next, after_steps, passed_by, passed_in}
use Rattle.venice_isa.specs.Tests.{are_in_conflict}
use Rattle.venice_isa.specs.Units.{keep_their_order}
use Rattle.venice_isa.proofs.TestsRight.{conflict_decided}
use Rattle.venice_machine.specs.declared.stop.Stop.TheVariants.{Hazard, Budget}
use Rattle.venice_machine.specs.declared.stop.End.TheVariants.{Stopped}
use Rattle.venice_machine.specs.State.{Setup, State, Jobs}
use Rattle.venice_machine.specs.Step.{is_hazard, with_work, stopped_by}
use Rattle.venice_machine.proofs.Runs.{both_true, Cases}
use Rattle.overlap_law.specs.Kept.{GoesOnFor}
use Rattle.overlap_law.proofs.Steps.{goes_on_more}
use Rattle.overlap_law.proofs.Ends.{HaltsAfter}
use Rattle.overlap_law.proofs.Discipline.{AreFlying, fly_past_wait, fly_with_one, flying_beaten}

one_of : (a b : Bool) → (a || b) ≡ true → (a ≡ true) ⊎ (b ≡ true)
one_of true b e = inl refl
one_of false b e = inr e

not_true : (a : Bool) → not a ≡ true → a ≡ false
not_true true e = cc
not_true false e = refl

-- ---- the host's list

-- what the host passes first is the front of what it passes
pub front_of : (instrs : List Instr) (n m : ℕ) → n ≤ m → (rest : List Issue) × (passed_in instrs m start ≡ passed_in instrs n start ++ rest)
front_of instrs n zero within =
    let none : n ≡ zero = omega arith in
    ([], sym (append-nil (passed_in instrs n start) ∙ ap (λ k. passed_in instrs k start) none))
front_of instrs n (suc m) within =
    let last : (n ≤ m) ⊎ (n ≡ suc m) = grind arith in
    elim last [
      | inl before ↦
          let front = front_of instrs n m before in
          let passes = passed_by (deed instrs (after_steps instrs m start)) in
          (front.0 ++ passes, ap (λ list. list ++ passes) front.1 ∙ append_assoc (passed_in instrs n start) front.0 passes)
      | inr same ↦ ([], sym (append-nil (passed_in instrs n start) ∙ ap (λ k. passed_in instrs k start) same))
    ]

module _ (setup : Setup) (most : ℕ) where
  -- a hazard is a race of the list
  no_race : (issues after : List Issue) (issue : Issue) (jobs : Jobs) → IsDisciplined setup.code.version (issues ++ issue ∷ after) → AreFlying setup.code.version issues jobs → is_hazard setup.code.version issue jobs ≢ true
  no_race issues after issue [] disciplined flying meets = cc
  no_race issues after issue (job ∷ jobs) disciplined flying meets =
      elim (one_of (not (keep_their_order setup.code.version job.work.issue issue) && are_in_conflict job.work.issue issue) _ meets) [
        | inl here ↦
            let both = both_true _ _ here in
            let f = flying.0 in
            disciplined (record { first = length f.before; second = length f.before + 1 + length f.between }) (record {
              before = f.before;
              between = f.between;
              after = after;
              first = job.work.issue;
              second = issue;
              unit = f.unit;
              list_is = ap (λ list. list ++ issue ∷ after) f.list_is ∙ append_assoc f.before (job.work.issue ∷ f.between) (issue ∷ after);
              first_place = refl;
              second_place = refl;
              is_unit = f.unit_is;
              in_flight = f.flies;
              unordered = not_true _ both.0;
              conflict = (conflict_decided job.work.issue issue).0 both.1;
            })
        | inr later ↦ no_race issues after issue jobs disciplined flying.1 later
      ]

  module _ (end : ℕ) (halts_after : HaltsAfter setup.code.instrs end) (disciplined : IsDisciplined setup.code.version (passed_in setup.code.instrs end start)) where
    -- what every step keeps
    pub record IsClear (state : State) : Type 0 where
      pub passed : ℕ
      pub host_is : state.host ≡ after_steps setup.code.instrs passed start
      pub goes_on : GoesOnFor setup.code.instrs passed
      pub flying : AreFlying setup.code.version (passed_in setup.code.instrs passed start) state.jobs
      pub meets_none : (pc cycle : ℕ) → state.end ≢ Some (Stopped (Hazard pc cycle))

    deed_is : (state : State) (clear : IsClear state) (what : Deed) → deed setup.code.instrs state.host ≡ what → deed setup.code.instrs (after_steps setup.code.instrs clear.passed start) ≡ what
    deed_is state clear what e = ap (deed setup.code.instrs) (sym clear.host_is) ∙ e

    pub passes_more : (state : State) (clear : IsClear state) (what : Deed) → deed setup.code.instrs state.host ≡ what
        → passed_in setup.code.instrs (suc clear.passed) start ≡ passed_in setup.code.instrs clear.passed start ++ passed_by what
    passes_more state clear what e = ap (λ d. passed_in setup.code.instrs clear.passed start ++ passed_by d) (deed_is state clear what e)

    still_on : (state : State) (clear : IsClear state) (what : Deed) → deed setup.code.instrs state.host ≡ what → what ≢ Halts → GoesOnFor setup.code.instrs (suc clear.passed)
    still_on state clear what e going = goes_on_more setup.code.instrs clear.passed clear.goes_on (λ halts. going (sym (deed_is state clear what e) ∙ halts))

    budget_is_none : (test : Bool) (steps pc cycle : ℕ) → cond test (Some (Stopped (Budget steps))) None ≢ Some (Stopped (Hazard pc cycle))
    budget_is_none true steps pc cycle e = cc
    budget_is_none false steps pc cycle e = cc

    -- an issue that the host comes to is in the list
    pub comes : (state : State) (clear : IsClear state) (issue : Issue) → deed setup.code.instrs state.host ≡ Passes issue → suc clear.passed ≤ end
    comes state clear issue is =
        let cases : (suc clear.passed ≤ end) ⊎ ((end < clear.passed) ⊎ (end ≡ clear.passed)) = grind arith in
        elim cases [
          | inl within ↦ within
          | inr others ↦ elim others [
            | inl past ↦ absurd (clear.goes_on end past halts_after.at_halt)
            | inr now ↦
                let at : deed setup.code.instrs state.host ≡ Halts = ap (deed setup.code.instrs) clear.host_is ∙ ap (λ n. deed setup.code.instrs (after_steps setup.code.instrs n start)) (sym now) ∙ halts_after.at_halt in
                absurd cc
          ]
        ]

    -- the whole list, where the host comes to an issue
    pub whole_list : (state : State) (clear : IsClear state) (issue : Issue) → deed setup.code.instrs state.host ≡ Passes issue
        → (rest : List Issue) × (passed_in setup.code.instrs end start ≡ passed_in setup.code.instrs clear.passed start ++ issue ∷ rest)
    whole_list state clear issue is =
        let front = front_of setup.code.instrs (suc clear.passed) end (comes state clear issue is) in
        (front.0, front.1 ∙ ap (λ list. list ++ front.0) (passes_more state clear (Passes issue) is) ∙ append_assoc (passed_in setup.code.instrs clear.passed start) (issue ∷ []) front.0)

    pub step_clear : (state : State) → state.end ≡ None → IsClear state → Cases setup most IsClear state
    step_clear state going clear =
        let issues = passed_in setup.code.instrs clear.passed start in
        record {
          halts = λ is none. record { passed = clear.passed; host_is = clear.host_is; goes_on = clear.goes_on; flying = clear.flying; meets_none = λ pc cycle e. cc };
          moves = λ is. record {
            passed = suc clear.passed;
            host_is = ap (next setup.code.instrs) clear.host_is;
            goes_on = still_on state clear Moves is (λ e. cc);
            flying = subst (λ list. AreFlying setup.code.version list state.jobs) (sym (append-nil issues) ∙ sym (passes_more state clear Moves is)) clear.flying;
            meets_none = budget_is_none _ _;
          };
          waits = λ issue passing wait. record {
            passed = suc clear.passed;
            host_is = ap (next setup.code.instrs) clear.host_is;
            goes_on = still_on state clear (Passes issue) passing.next (λ e. cc);
            flying = subst (λ list. AreFlying setup.code.version list state.jobs) (sym (passes_more state clear (Passes issue) passing.next)) (fly_past_wait setup.code.version issues issue state.jobs wait passing.may clear.flying);
            meets_none = budget_is_none _ _;
          };
          bad_count = λ issue passing work wrong. record { passed = clear.passed; host_is = clear.host_is; goes_on = clear.goes_on; flying = clear.flying; meets_none = λ pc cycle e. cc };
          out_of_range = λ issue passing work counts wrong. record { passed = clear.passed; host_is = clear.host_is; goes_on = clear.goes_on; flying = clear.flying; meets_none = λ pc cycle e. cc };
          meets_hazard = λ issue passing meets.
              let whole = whole_list state clear issue passing.next in
              absurd (no_race issues whole.0 issue state.jobs (subst (IsDisciplined setup.code.version) whole.1 disciplined) clear.flying meets);
          issues = λ issue passing good. record {
            passed = suc clear.passed;
            host_is = ap (next setup.code.instrs) clear.host_is;
            goes_on = still_on state clear (Passes issue) passing.next (λ e. cc);
            flying = subst (λ list. AreFlying setup.code.version list (with_work setup issue state).jobs) (sym (passes_more state clear (Passes issue) passing.next))
                (fly_with_one setup.code.version setup.lane_count (state.issues + 1) issues issue state.jobs good.work passing.may clear.flying);
            meets_none = budget_is_none _ _;
          };
          beats = λ unit k may some. record {
            passed = clear.passed;
            host_is = clear.host_is;
            goes_on = clear.goes_on;
            flying = flying_beaten setup.code.version setup.lane_count issues unit k state.jobs state.store may clear.flying;
            meets_none = budget_is_none _ _;
          };
        }

    pub cycle_clear : (cycles : ℕ) (state : State) → IsClear state → IsClear (record state { cycles = cycles })
    cycle_clear cycles state clear = record { passed = clear.passed; host_is = clear.host_is; goes_on = clear.goes_on; flying = clear.flying; meets_none = clear.meets_none }

    pub spent_clear : (steps : ℕ) (state : State) → IsClear state → IsClear (stopped_by (Budget steps) state)
    spent_clear steps state clear = record { passed = clear.passed; host_is = clear.host_is; goes_on = clear.goes_on; flying = clear.flying; meets_none = λ pc cycle e. cc }

    pub first_clear : (state : State) → state.host ≡ start → state.jobs ≡ [] → state.end ≡ None → IsClear state
    first_clear state host jobs end =
        record { passed = 0; host_is = host; goes_on = λ k below. absurd (omega arith); flying = subst (AreFlying setup.code.version []) (sym jobs) tt; meets_none = λ pc cycle e. let never = sym end ∙ e in cc }
