use Rattle.std.proofs.Common.{ℕ, ◌+◌, ◌*◌, ◌^◌, min, take, sym, ap, ◌∙◌}
use Rattle.ven_io.specs.Number.{digits_value}
use Rattle.ven_io.proofs.Digits.{digits_value_more, capped_more}
use Rattle.ven_io.proofs.numbers.capped_value.Goals as goal

pub loop-digit-preserved : goal.loop-digit-preserved
loop-digit-preserved c =
    let base = c.args.base in
    let digits = c.args.digits.now in
    let before = digits_value base (take c.loop-digit.digit-index digits) in
    c.min-value.ensures ∙ ap (λ (x : ℕ). min (x * base + c.digit_value.result) (2 ^ 32)) c.loop-digit.invariant
    ∙ capped_more before base c.digit_value.result (2 ^ 32) c.requires.least
    ∙ ap (λ (d : ℕ). min (before * base + d) (2 ^ 32)) c.digit_value.ensures.value
    ∙ ap (λ (x : ℕ). min x (2 ^ 32)) (sym (digits_value_more base digits c.loop-digit.digit-index c.loop-digit-test.true))
