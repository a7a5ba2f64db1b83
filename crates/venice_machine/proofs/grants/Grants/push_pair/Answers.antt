use Rattle.std.proofs.Common.{◌∙◌, ap, sym, subst, arith, drop, length, ◌<◌, ◌+◌, ◌*◌, ◌∷◌, [], ◌++◌, OnOk}
use Rattle.ven_io.specs.Number.{digit_value}
use Rattle.venice_machine.specs.Grants.{grant_limit}
use Rattle.venice_machine.specs.Reading.{HasRead}
use Rattle.venice_machine.proofs.Pieces.{digit_there, no_digit_there, no_digit_refused, alone_refused, too_many_refused, pair_read}
use Rattle.venice_machine.proofs.grants.Grants.push_pair.Goals as goal
use Rattle.venice_machine.proofs.grants.Grants.push_pair.Goals.{in-Ok, in-Err}

pub returns-in_default-clause-fault : goal.returns-in_default-clause-fault
returns-in_default-clause-fault c = no_digit_refused c.args.text.now c.args.at c.args.self.now c.requires.read c.requires.more c.requires.no_space c.in_default.ensures

pub returns-then-len-eq-GRANT_LIMIT-clause-fault : goal.returns-then-len-eq-GRANT_LIMIT-clause-fault
returns-then-len-eq-GRANT_LIMIT-clause-fault c =
    let high = digit_there c.args.text.now c.args.at c.in-Some.high c.in-Some.ensures in
    too_many_refused c.args.text.now c.args.at c.args.self.now c.requires.read high.byte (drop (c.args.at + 1) c.args.text.now) high.left high.digit (sym c.len.ensures.value ∙ c.if-len-eq-GRANT_LIMIT.true)

pub returns-in_default-digit_at-clause-fault : goal.returns-in_default-digit_at-clause-fault
returns-in_default-digit_at-clause-fault c =
    let high = digit_there c.args.text.now c.args.at c.in-Some.high c.in-Some.ensures in
    alone_refused c.args.text.now c.args.at c.args.self.now c.requires.read high.byte (drop (c.args.at + 1) c.args.text.now) high.left high.digit
    (no_digit_there c.args.text.now (c.args.at + 1) c.in_default-digit_at.ensures) (omega (arith, c.len.ensures.value, c.requires.read.few, c.if-len-eq-GRANT_LIMIT.false))

pub returns-clause-read : goal.returns-clause-read
returns-clause-read c =
    let high = digit_there c.args.text.now c.args.at c.in-Some.high c.in-Some.ensures in
    let low = digit_there c.args.text.now (c.args.at + 1) c.in-Some-digit_at.low c.in-Some-digit_at.ensures in
    elim c.match-push.branch [
      | in-Ok w ↦
          let rest = drop (c.args.at + 1 + 1) c.args.text.now in
          let left = high.left ∙ ap (λ bytes. high.byte ∷ bytes) low.left in
          let room : length c.args.self.now < grant_limit = omega (arith, c.len.ensures.value, c.requires.read.few, c.if-len-eq-GRANT_LIMIT.false) in
          let new = w.in-Ok.ensures.items ∙ ap (λ g. g ++ (16 * c.in-Some.high + c.in-Some-digit_at.low) ∷ []) c.self.view_is
          ∙ ap (λ h. c.args.self.now ++ (16 * h + c.in-Some-digit_at.low) ∷ []) high.value_is
          ∙ ap (λ l. c.args.self.now ++ (16 * digit_value high.byte + l) ∷ []) low.value_is in
          let read = pair_read c.args.text.now c.args.at c.args.self.now c.requires.read high.byte low.byte rest high.digit low.digit left room in
          subst (λ r. OnOk r (HasRead c.args.text.now (c.args.at + 2) c.push.new.self.items)) (sym w.result-is)
          (subst (HasRead c.args.text.now (c.args.at + 2)) (sym new) read)
      | in-Err w ↦ subst (λ r. OnOk r (HasRead c.args.text.now (c.args.at + 2) c.push.new.self.items)) (sym w.result-is) tt
    ]
