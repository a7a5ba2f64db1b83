-- What runs that reach HALT leave, and that some unit can always step.
use Rattle.std.proofs.Common.{◌≤◌, ◌≡◌, ◌≢◌, ◌⊎◌, inl, inr, ℕ, zero, suc, ◌<◌, sym, refl, subst, ap, ◌∙◌, arith, List, [], ◌∷◌, Some, true, false, cond, length, nat_lt}
use Rattle.std.proofs.lemmas.Bool.{le-leb, lt-ltb}
use Rattle.std.proofs.lemmas.Option.{same_Some, none-some}
use Rattle.std.proofs.lemmas.List.Elements.{All-head}
use Rattle.ven_base.specs.Store.{Store, Size, store_size}
use Rattle.ven_base.specs.Job.{all_finished}
use Rattle.ven_base.proofs.Jobs.{all_left}
use Rattle.venice_isa.specs.declared.instr.Instr.{Instr}
use Rattle.venice_isa.specs.declared.issue.Issue.{Issue}
use Rattle.venice_isa.specs.declared.issue.Issue.TheVariants.{Vector, Read, Write, RWait, WWait, VWait, TWait}
use Rattle.venice_isa.specs.declared.host.Deed.{Deed}
use Rattle.venice_isa.specs.declared.host.Deed.TheVariants.{Halts, Moves, Passes}
use Rattle.venice_isa.specs.Beat.{beats_of}
use Rattle.venice_isa.specs.Host.{start, deed, after_steps, passed_in, is_halt, issue_list}
use Rattle.venice_isa.specs.Units.{Unit, Lanes, ReadChannel, WriteChannel, is_of}
use Rattle.venice_isa.proofs.HostSteps.{issue_list_found, no_issue_list}
use Rattle.venice_machine.specs.declared.stop.End.TheVariants.{Halted}
use Rattle.venice_machine.specs.State.{Setup, State, Jobs, issued_course, queue, unfinished_count}
use Rattle.venice_machine.specs.Step.{Mover, TheHost, TheUnit, may_step, can_step}
use Rattle.overlap_law.specs.Kept.{IsReadyOn, GoesOnFor}
use Rattle.overlap_law.specs.Ends.{MakesHalt, IsAtHalt}
use Rattle.overlap_law.proofs.Finishing.{AreReady}
use Rattle.overlap_law.proofs.Steps.{IsSound, steps_at_end}

-- ---- HALT's place among the host's steps

halts_is : (what : Deed) → is_halt what ≡ true → what ≡ Halts
halts_is Halts e = refl
halts_is Moves e = cc
halts_is (Passes issue) e = cc

halts_not : (what : Deed) → what ≢ Halts → is_halt what ≡ false
halts_not Halts isnt = absurd (isnt refl)
halts_not Moves isnt = refl
halts_not (Passes issue) isnt = refl

module _ (instrs : List Instr) where
  -- the host goes on for so many steps, and the next is HALT
  pub record HaltsAfter (passed : ℕ) : Type 0 where
    pub goes_on : GoesOnFor instrs passed
    pub at_halt : deed instrs (after_steps instrs passed start) ≡ Halts

  pub makes_halt : (passed : ℕ) → HaltsAfter passed → MakesHalt instrs (suc passed) (passed_in instrs passed start)
  makes_halt passed halts = record {
    there = issue_list_found instrs passed (suc passed) (omega arith) (ap is_halt halts.at_halt);
    first = λ fewer below. no_issue_list instrs fewer (λ k less. halts_not _ (halts.goes_on k (omega arith)));
  }

  -- HALT comes with one step, behind one list
  pub one_halt : (n m : ℕ) (list other : List Issue) → MakesHalt instrs n list → MakesHalt instrs m other → n ≡ m
  one_halt n m list other first second =
      let cases : (n < m) ⊎ ((m < n) ⊎ (n ≡ m)) = grind arith in
      elim cases [
        | inl before ↦ absurd (none-some list (sym (second.first n before) ∙ first.there))
        | inr others ↦ elim others [ inl after ↦ absurd (none-some other (sym (first.first m after) ∙ second.there)) | inr same ↦ same ]
      ]

  pub one_list : (n m : ℕ) (list other : List Issue) → MakesHalt instrs n list → MakesHalt instrs m other → list ≡ other
  one_list n m list other first second =
      same_Some list other (sym first.there ∙ ap (issue_list instrs) (one_halt n m list other first second) ∙ second.there)

  -- the first of so many steps that makes HALT
  first_halt : (n : ℕ) → GoesOnFor instrs n ⊎ ((passed : ℕ) × (passed < n) × HaltsAfter passed)
  first_halt zero = inl (λ k below. absurd (omega arith))
  first_halt (suc n) = elim (first_halt n) [
    | inr found ↦ inr (found.0, omega (arith, found.1), found.2)
    | inl goes_on ↦ go goes_on (deed instrs (after_steps instrs n start)) refl
  ]
    where
      go : GoesOnFor instrs n → (what : Deed) → deed instrs (after_steps instrs n start) ≡ what → GoesOnFor instrs (suc n) ⊎ ((passed : ℕ) × (passed < suc n) × HaltsAfter passed)
      go goes_on Halts e = inr (n, omega arith, record { goes_on = goes_on; at_halt = e })
      go goes_on what e = inl (λ k below halts.
          let last : (k < n) ⊎ (k ≡ n) = grind arith in
          elim last [ inl before ↦ goes_on k before halts | inr now ↦ absurd (let here : deed instrs (after_steps instrs n start) ≡ Halts = ap (λ m. deed instrs (after_steps instrs m start)) (sym now) ∙ halts in cc) ])

  -- an issue list is what the host passes up to HALT
  pub list_is : (n : ℕ) (list : List Issue) → issue_list instrs n ≡ Some list → (passed : ℕ) × (passed < n) × HaltsAfter passed × (list ≡ passed_in instrs passed start)
  list_is n list there = elim (first_halt n) [
    | inl goes_on ↦ absurd (none-some list (sym (no_issue_list instrs n (λ k below. halts_not _ (goes_on k below))) ∙ there))
    | inr found ↦ (found.0, found.1, found.2, same_Some list (passed_in instrs found.0 start) (sym there ∙ issue_list_found instrs found.0 n found.1 (ap is_halt found.2.at_halt)))
  ]

  -- so one that is known is that behind which HALT comes, which is made with no more steps
  pub same_issue_list : (n m : ℕ) (list other : List Issue) → issue_list instrs n ≡ Some list → MakesHalt instrs m other → (other ≡ list) × (m ≤ n)
  same_issue_list n m list other there makes =
      let found = list_is n list there in
      let makes_there = makes_halt found.0 found.2 in
      (one_list m (suc found.0) other (passed_in instrs found.0 start) makes makes_there ∙ sym found.3, omega (arith, found.1, one_halt m (suc found.0) other (passed_in instrs found.0 start) makes makes_there))

-- ---- a run that has come to HALT

module _ (setup : Setup) (most : ℕ) (some_lanes : 0 < setup.lane_count) (first : Store) (state : State) (sound : IsSound setup most some_lanes first state) (ended : state.end ≡ Some Halted) where
  pub halts_after : HaltsAfter setup.code.instrs sound.passed
  halts_after = record { goes_on = sound.kept.goes_on; at_halt = ap (deed setup.code.instrs) (sym sound.kept.host_is) ∙ (sound.at_halt ended).1 }

  pub at_halt : IsAtHalt setup first state
  at_halt =
      let idle = (sound.at_halt ended).0 in
      let one : steps_at_end state.end ≡ 1 = ap steps_at_end ended in
      let none : all_left (issued_course setup.lane_count) state.jobs ≡ 0 = ap (all_left (issued_course setup.lane_count)) idle in
      record {
        host_steps = suc sound.passed;
        list = passed_in setup.code.instrs sound.passed start;
        makes_halt = makes_halt setup.code.instrs sound.passed halts_after;
        idle = idle;
        leaves = ap (λ jobs. all_finished (issued_course setup.lane_count) jobs state.store) (sym idle) ∙ sound.kept.finishing;
        steps = omega (arith, sound.steps, one, none);
      }

-- ---- some unit can step

nothing_waits : (issue : Issue) → may_step (Passes issue) [] ≡ true
nothing_waits (Vector work) = refl
nothing_waits (Read work) = refl
nothing_waits (Write work) = refl
nothing_waits (RWait count) = le-leb 0 count (omega arith)
nothing_waits (WWait count) = le-leb 0 count (omega arith)
nothing_waits VWait = refl
nothing_waits (TWait tag) = refl

host_goes_on : (what : Deed) → may_step what [] ≡ true
host_goes_on Halts = refl
host_goes_on Moves = refl
host_goes_on (Passes issue) = nothing_waits issue

unit_of : (lane_count : ℕ) (issue : Issue) → 0 < beats_of issue lane_count → (unit : Unit) × (is_of unit issue ≡ true)
unit_of lane_count (Vector work) some = (Lanes, refl)
unit_of lane_count (Read work) some = (ReadChannel, refl)
unit_of lane_count (Write work) some = (WriteChannel, refl)
unit_of lane_count issue some = absurd (omega arith)

module _ (setup : Setup) where
  goes_on : (size : Size) (what : Deed) (jobs : Jobs) → AreReady setup.lane_count jobs size → (may_step what jobs ≡ true) ⊎ ((unit : Unit) × (nat_lt 0 (unfinished_count unit jobs) ≡ true))
  goes_on size what [] ready = inl (host_goes_on what)
  goes_on size what (job ∷ jobs) ready =
      let first : IsReadyOn setup.lane_count size job = All-head (IsReadyOn setup.lane_count size) job jobs ready in
      let more = first.more in
      let unit = unit_of setup.lane_count job.work.issue (omega arith) in
      inr (unit.0, subst (λ is. nat_lt 0 (length (cond is (job ∷ queue unit.0 jobs) (queue unit.0 jobs))) ≡ true) (sym unit.1) (lt-ltb 0 (suc (length (queue unit.0 jobs))) (omega arith)))

  pub someone_can_step : (state : State) → AreReady setup.lane_count state.jobs (store_size state.store) → (mover : Mover) × (can_step setup mover state ≡ true)
  someone_can_step state ready =
      elim (goes_on (store_size state.store) (deed setup.code.instrs state.host) state.jobs ready) [
        | inl can ↦ (TheHost, can)
        | inr can ↦ (TheUnit can.0, can.1)
      ]
