use Rattle.std.proofs.Common.{sym, ◌∙◌, arith}
use Rattle.std.proofs.lemmas.Bool.{false≢true}
use Rattle.venice_isa.proofs.Meetings.{IsWritten, meet_of_rows, rows_of_meet, spans_meet}
use Rattle.venice_isa.proofs.meeting.meet.Goals as goal

pub returns-then-meets : goal.returns-then-meets
returns-then-meets c =
    let one = c.in-Some in
    let other = c.in-Some-of in
    let first : IsWritten c.args.first = record { place = omega arith; step = omega arith; rows = omega arith } in
    let second : IsWritten c.args.second = record { place = omega arith; step = omega arith; rows = omega arith } in (
      λ test. meet_of_rows c.args.first c.args.second first second one.first other.second one.ensures.rows other.ensures.rows one.ensures.stand other.ensures.stand (c.rows_meet.ensures.0 test),
      λ meet. c.rows_meet.ensures.1 (rows_of_meet c.args.first c.args.second first second one.first other.second one.ensures.rows other.ensures.rows one.ensures.stand other.ensures.stand meet),
    )

pub returns-else-meets : goal.returns-else-meets
returns-else-meets c =
    let one = c.in-Some in
    let other = c.in-Some-of in
    let first : IsWritten c.args.first = record { place = omega arith; step = omega arith; rows = omega arith } in
    let second : IsWritten c.args.second = record { place = omega arith; step = omega arith; rows = omega arith } in (
      λ test. absurd (false≢true (sym c.if-meets.false ∙ test)),
      λ meet. c.meets.ensures.1
          (spans_meet one.first other.second c.span.result c.span-2.result one.ensures.rows other.ensures.rows c.span.ensures.spans c.span-2.ensures.spans
          (rows_of_meet c.args.first c.args.second first second one.first other.second one.ensures.rows other.ensures.rows one.ensures.stand other.ensures.stand meet)),
    )

pub returns-in_default : goal.returns-in_default
returns-in_default c = (λ test. absurd (false≢true test), λ meet. absurd (c.of.ensures.none c.in_default.is meet.place meet.in_first))

pub returns-in_default-of : goal.returns-in_default-of
returns-in_default-of c = (λ test. absurd (false≢true test), λ meet. absurd (c.of-2.ensures.none c.in_default-of.is meet.place meet.in_second))
