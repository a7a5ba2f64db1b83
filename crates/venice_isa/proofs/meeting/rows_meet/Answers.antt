use Rattle.std.proofs.Common.{◌<◌, IsTrue, sym, ◌∙◌, arith}
use Rattle.std.proofs.lemmas.Bool.{false≢true}
use Rattle.venice_isa.specs.Meeting.{RowsMeet, SomeMeet}
use Rattle.venice_isa.proofs.Meetings.{first_goes_on, first_ended, second_goes_on, second_ended}
use Rattle.venice_isa.proofs.meeting.rows_meet.Goals as goal
use Rattle.venice_isa.proofs.meeting.rows_meet.Goals.{then-first-second, else-first-second}

pub returns-then-not-goes_on : goal.returns-then-not-goes_on
returns-then-not-goes_on c =
    let first = c.loop-first.first in
    let second = c.loop-first.second in
    let Whole = SomeMeet c.args.first c.args.second in
    let kept = c.loop-first.invariant in
    let apart : ¬ RowsMeet first.row second.row = λ meet. false≢true (sym c.if-meets.false ∙ c.meets.ensures.1 meet) in
    let none : ¬ Whole =
    elim c.if-first-second.branch [
      | then-first-second w ↦
          let last : ¬ (1 < first.left) = λ more. false≢true (sym c.if-not-goes_on.true ∙ (w.goes_on-is ∙ w.go_on-goes_on.ensures.more.1 more)) in
          first_ended Whole first second first second kept apart (omega (arith, w.if-first-second.true)) last
      | else-first-second w ↦
          let last : ¬ (1 < second.left) = λ more. false≢true (sym c.if-not-goes_on.true ∙ (w.goes_on-is ∙ w.go_on-goes_on-else-first-second.ensures.more.1 more)) in
          second_ended Whole first second first second kept apart (omega (arith, w.if-first-second.false)) last
    ]
    in
    (λ test. absurd (false≢true test), λ whole. absurd (none whole))

pub loop-first-preserved : goal.loop-first-preserved
loop-first-preserved c =
    let first = c.loop-first.first in
    let second = c.loop-first.second in
    let now = c.if-first-second in
    let Whole = SomeMeet c.args.first c.args.second in
    let kept = c.loop-first.invariant in
    let apart : ¬ RowsMeet first.row second.row = λ meet. false≢true (sym c.if-meets.false ∙ c.meets.ensures.1 meet) in
    elim now.branch [
      | then-first-second w ↦
          let went : IsTrue w.go_on-goes_on.result = sym w.goes_on-is ∙ c.if-not-goes_on.false in
          let more = w.go_on-goes_on.ensures.more.0 went in
          let gone = w.go_on-goes_on.ensures.gone went in
          first_goes_on Whole first second now.first now.second kept apart (omega (arith, w.if-first-second.true)) more (w.first-is ∙ gone) w.second-is
      | else-first-second w ↦
          let went : IsTrue w.go_on-goes_on-else-first-second.result = sym w.goes_on-is ∙ c.if-not-goes_on.false in
          let more = w.go_on-goes_on-else-first-second.ensures.more.0 went in
          let gone = w.go_on-goes_on-else-first-second.ensures.gone went in
          second_goes_on Whole first second now.first now.second kept apart (omega (arith, w.if-first-second.false)) more w.first-is (w.second-is ∙ gone)
    ]
