-- Which works may be in flight, in the words of the manual.
use Rattle.std.proofs.Common.{◌≡◌, ◌⊎◌, inl, inr, ◌&&◌, ◌||◌, ℕ, zero, suc, ◌+◌, ◌-◌, ◌<◌, ◌≤◌, sym, refl, subst, ap, ◌∙◌, arith, List, [], ◌∷◌, ◌++◌, length, Bool, true, false, not, cond, nat_le}
use Rattle.std.specs.List.{filter}
use Rattle.std.proofs.lemmas.Bool.{leb-true, le-leb}
use Rattle.venice_isa.specs.declared.instr.Version.{Version}
use Rattle.venice_isa.specs.declared.issue.Issue.{Issue}
use Rattle.venice_isa.specs.Flight.{waits_for, waits_for_tag_of, ends, may_be_in_flight}
use Rattle.venice_isa.specs.Units.{Unit, Lanes, ReadChannel, WriteChannel, places, is_of, overtakes}
use Rattle.overlap_law.specs.Flights.{count_of, IsEnded, by_wait, by_places, by_last_wait, by_tag}
use Rattle.overlap_law.specs.Laws.{InFlightUntilEnded}
use Rattle.overlap_law.proofs.Discipline.{count_appended}
use Rattle.overlap_law.proofs.Halting.{or_left, or_right}
use Rattle.venice_machine.proofs.Runs.{both_true}

and_true : (a b : Bool) → a ≡ true → b ≡ true → (a && b) ≡ true
and_true a b e f = cc

one_of : (a b : Bool) → (a || b) ≡ true → (a ≡ true) ⊎ (b ≡ true)
one_of true b e = inl refl
one_of false b e = inr e

-- the work is done where one of the issues ends it
record IsEndedAt (version : Version) (unit : Unit) (work : Issue) (n : ℕ) (between : List Issue) : Type 0 where
  before : List Issue
  issue : Issue
  after : List Issue
  list_is : between ≡ before ++ issue ∷ after
  ends_it : ends version unit work (n + count_of unit before) issue ≡ true

step_on : (is : Bool) (n : ℕ) (issue : Issue) (works : List Issue) → cond is (n + 1) n + length works ≡ n + length (cond is (issue ∷ works) works)
step_on true n issue works = omega arith
step_on false n issue works = refl

ended_at : (version : Version) (unit : Unit) (work : Issue) (n : ℕ) (between : List Issue) → may_be_in_flight version unit work n between ≡ false → IsEndedAt version unit work n between
ended_at version unit work n [] e = absurd cc
ended_at version unit work n (issue ∷ issues) e = go (ends version unit work n issue) refl (ended_at version unit work (cond (is_of unit issue) (n + 1) n) issues)
  where
    go : (over : Bool) → ends version unit work n issue ≡ over
        → (may_be_in_flight version unit work (cond (is_of unit issue) (n + 1) n) issues ≡ false → IsEndedAt version unit work (cond (is_of unit issue) (n + 1) n) issues) → IsEndedAt version unit work n (issue ∷ issues)
    go true here later =
        let none : n + 0 ≡ n = omega arith in
        record { before = []; issue = issue; after = issues; list_is = refl; ends_it = ap (λ m. ends version unit work m issue) none ∙ here }
    go false here later =
        let at = later (subst (λ over. (not over && may_be_in_flight version unit work (cond (is_of unit issue) (n + 1) n) issues) ≡ false) here e) in
        record {
          before = issue ∷ at.before;
          issue = at.issue;
          after = at.after;
          list_is = ap (λ list. issue ∷ list) at.list_is;
          ends_it = ap (λ m. ends version unit work m at.issue) (sym (step_on (is_of unit issue) n issue (filter (is_of unit) at.before))) ∙ at.ends_it;
        }

pub at_ended : (version : Version) (unit : Unit) (work : Issue) (n : ℕ) (before : List Issue) (issue : Issue) (after : List Issue) → ends version unit work (n + count_of unit before) issue ≡ true
    → may_be_in_flight version unit work n (before ++ issue ∷ after) ≡ false
at_ended version unit work n [] issue after e =
    let none : n + 0 ≡ n = omega arith in
    let here : ends version unit work n issue ≡ true = subst (λ m. ends version unit work m issue ≡ true) none e in
    subst (λ over. (not over && may_be_in_flight version unit work (cond (is_of unit issue) (n + 1) n) after) ≡ false) (sym here) refl
at_ended version unit work n (front ∷ before) issue after e =
    go (ends version unit work n front)
    (at_ended version unit work (cond (is_of unit front) (n + 1) n) before issue after (ap (λ m. ends version unit work m issue) (step_on (is_of unit front) n front (filter (is_of unit) before)) ∙ e))
  where
    go : (over : Bool) → may_be_in_flight version unit work (cond (is_of unit front) (n + 1) n) (before ++ issue ∷ after) ≡ false → (not over && may_be_in_flight version unit work (cond (is_of unit front) (n + 1) n) (before ++ issue ∷ after)) ≡ false
    go true rest = refl
    go false rest = rest

-- ---- the works of a list, one by one

record IsNthWork (unit : Unit) (n : ℕ) (issues : List Issue) : Type 0 where
  before : List Issue
  issue : Issue
  after : List Issue
  list_is : issues ≡ before ++ issue ∷ after
  count_is : count_of unit before ≡ n
  is : is_of unit issue ≡ true

nth_work : (unit : Unit) (n : ℕ) (issues : List Issue) → n < count_of unit issues → IsNthWork unit n issues
nth_work unit n [] some = absurd (omega arith)
nth_work unit n (issue ∷ issues) some = go (is_of unit issue) refl n (λ m. nth_work unit m issues) some
  where
    go : (is : Bool) → is_of unit issue ≡ is → (n : ℕ) → ((m : ℕ) → m < count_of unit issues → IsNthWork unit m issues) → n < count_of unit (issue ∷ issues) → IsNthWork unit n (issue ∷ issues)
    go true e zero later some = record { before = []; issue = issue; after = issues; list_is = refl; count_is = refl; is = e }
    go true e (suc n) later some =
        let some' = subst (λ is. suc n < length (cond is (issue ∷ filter (is_of unit) issues) (filter (is_of unit) issues))) e some in
        let at = later n (omega (arith, some')) in
        record {
          before = issue ∷ at.before;
          issue = at.issue;
          after = at.after;
          list_is = ap (λ list. issue ∷ list) at.list_is;
          count_is = ap (λ is. length (cond is (issue ∷ filter (is_of unit) at.before) (filter (is_of unit) at.before))) e ∙ ap suc at.count_is;
          is = at.is;
        }
    go false e n later some =
        let at = later n (subst (λ is. n < length (cond is (issue ∷ filter (is_of unit) issues) (filter (is_of unit) issues))) e some) in
        record {
          before = issue ∷ at.before;
          issue = at.issue;
          after = at.after;
          list_is = ap (λ list. issue ∷ list) at.list_is;
          count_is = ap (λ is. length (cond is (issue ∷ filter (is_of unit) at.before) (filter (is_of unit) at.before))) e ∙ at.count_is;
          is = at.is;
        }

some_places : (unit : Unit) → 0 < places unit
some_places Lanes = omega arith
some_places ReadChannel = omega arith
some_places WriteChannel = omega arith

-- ---- the law

module _ (version : Version) (unit : Unit) (work : Issue) (between : List Issue) where
  more_works : (before : List Issue) (issue : Issue) (after : List Issue) → is_of unit issue ≡ true → count_of unit before + 1 ≤ count_of unit (before ++ issue ∷ after)
  more_works before issue after is =
      let one : count_of unit (issue ∷ after) ≡ suc (count_of unit after) = ap (λ b. length (cond b (issue ∷ filter (is_of unit) after) (filter (is_of unit) after))) is in
      omega (arith, count_appended unit before (issue ∷ after), one)

  to_ended : may_be_in_flight version unit work 0 between ≡ false → IsEnded version unit work between
  to_ended e =
      let at = ended_at version unit work 0 between e in
      go at (overtakes version unit) refl (count_of unit at.before) (omega arith) at.ends_it
    where
      go : (at : IsEndedAt version unit work 0 between) (over : Bool) → overtakes version unit ≡ over → (n : ℕ) → n ≡ count_of unit at.before
          → cond over (waits_for unit at.issue 0 || waits_for_tag_of work at.issue) (waits_for unit at.issue (0 + count_of unit at.before) || (is_of unit at.issue && nat_le (places unit) (0 + count_of unit at.before + 1))) ≡ true
          → IsEnded version unit work between
      go at true over n count e = elim (one_of _ _ e) [
        | inl wait ↦ by_last_wait at.before at.issue at.after at.list_is over wait
        | inr tag ↦ by_tag at.before at.issue at.after at.list_is over tag
      ]
      go at false over n count e = elim (one_of (waits_for unit at.issue (0 + count_of unit at.before)) _ e) [
        | inl wait ↦
            let none : 0 + count_of unit at.before ≡ count_of unit at.before = omega arith in
            by_wait at.before at.issue at.after at.list_is over (subst (λ m. waits_for unit at.issue m ≡ true) none wait)
        | inr full ↦
            let both : (is_of unit at.issue ≡ true) × (nat_le (places unit) (0 + count_of unit at.before + 1) ≡ true) = both_true _ _ full in
            by_places over (omega (arith, leb-true (places unit) (0 + count_of unit at.before + 1) both.1, more_works at.before at.issue at.after both.0, ap (count_of unit) at.list_is))
      ]

  ends_in_order : (before : List Issue) (issue : Issue) → overtakes version unit ≡ false → (waits_for unit issue (0 + count_of unit before) || (is_of unit issue && nat_le (places unit) (0 + count_of unit before + 1))) ≡ true → ends version unit work (0 + count_of unit before) issue ≡ true
  ends_in_order before issue over e = subst (λ b. cond b (waits_for unit issue 0 || waits_for_tag_of work issue) (waits_for unit issue (0 + count_of unit before) || (is_of unit issue && nat_le (places unit) (0 + count_of unit before + 1))) ≡ true) (sym over) e

  ends_at_once : (before : List Issue) (issue : Issue) → overtakes version unit ≡ true → (waits_for unit issue 0 || waits_for_tag_of work issue) ≡ true → ends version unit work (0 + count_of unit before) issue ≡ true
  ends_at_once before issue over e = subst (λ b. cond b (waits_for unit issue 0 || waits_for_tag_of work issue) (waits_for unit issue (0 + count_of unit before) || (is_of unit issue && nat_le (places unit) (0 + count_of unit before + 1))) ≡ true) (sym over) e

  ended_by : (before : List Issue) (issue : Issue) (after : List Issue) → between ≡ before ++ issue ∷ after → ends version unit work (0 + count_of unit before) issue ≡ true → may_be_in_flight version unit work 0 between ≡ false
  ended_by before issue after is e = ap (may_be_in_flight version unit work 0) is ∙ at_ended version unit work 0 before issue after e

  from_ended : IsEnded version unit work between → may_be_in_flight version unit work 0 between ≡ false
  from_ended (by_wait before wait after is over e) =
      let none : 0 + count_of unit before ≡ count_of unit before = omega arith in
      ended_by before wait after is (ends_in_order before wait over (or_left _ _ (subst (λ m. waits_for unit wait m ≡ true) (sym none) e)))
  from_ended (by_places over full) =
      let some = some_places unit in
      let at = nth_work unit (places unit - 1) between (omega arith) in
      ended_by at.before at.issue at.after at.list_is
      (ends_in_order at.before at.issue over (or_right (waits_for unit at.issue (0 + count_of unit at.before)) _ (and_true _ _ at.is (le-leb (places unit) (0 + count_of unit at.before + 1) (omega (arith, at.count_is))))))
  from_ended (by_last_wait before wait after is over e) = ended_by before wait after is (ends_at_once before wait over (or_left _ _ e))
  from_ended (by_tag before wait after is over e) = ended_by before wait after is (ends_at_once before wait over (or_right (waits_for unit wait 0) _ e))

pub in_flight_until_ended : InFlightUntilEnded
in_flight_until_ended version unit work between = (to_ended version unit work between, from_ended version unit work between)
