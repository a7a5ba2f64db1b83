use Rattle.std.proofs.Common.{◌≡◌, ◌^◌, ◌<◌, length, ap, ◌∙◌, arith, pos, w64}
use Rattle.std.proofs.lemmas.Int.{to_z_pos}
use Rattle.ven_io.specs.Number.{digits_start, value_of}
use Rattle.ven_io.proofs.Digits.{digits_run_from, hex_digits_from, value_from, numeral}
use Rattle.ven_io.proofs.numbers.number_from.Goals as goal

pub capped_value-value-requires-clause-digits : goal.capped_value-value-requires-clause-digits
capped_value-value-requires-clause-digits c =
    let text = c.args.text.now in
    let digits = digits_run_from text c.args.start c.run_end-end.result c.args.run c.requires.start c.requires.run c.requires.in_text c.run_end-end.ensures in
    hex_digits_from text c.args.start c.run_end-end.result c.requires.start digits (omega arith)

pub returns-then-value-eq-TOO_LARGE : goal.returns-then-value-eq-TOO_LARGE
returns-then-value-eq-TOO_LARGE c =
    let text = c.args.text.now in
    let digits = digits_run_from text c.args.start c.run_end-end.result c.args.run c.requires.start c.requires.run c.requires.in_text c.run_end-end.ensures in
    let value = value_from text c.args.start c.args.base c.capped_value-value.result c.requires.start c.requires.base c.capped_value-value.ensures in
    let some : digits_start text ≡ length text → ⊥ = λ at_end. c.if-start-text.false (c.requires.start ∙ at_end) in
    (numeral text c.run_end-end.result digits (omega arith) some, omega (arith, value, c.if-value-eq-TOO_LARGE.true))

pub returns : goal.returns
returns c =
    let text = c.args.text.now in
    let digits = digits_run_from text c.args.start c.run_end-end.result c.args.run c.requires.start c.requires.run c.requires.in_text c.run_end-end.ensures in
    let value = value_from text c.args.start c.args.base c.capped_value-value.result c.requires.start c.requires.base c.capped_value-value.ensures in
    let some : digits_start text ≡ length text → ⊥ = λ at_end. c.if-start-text.false (c.requires.start ∙ at_end) in
    let small : value_of text < 2 ^ 32 = omega (arith, value, c.if-value-eq-TOO_LARGE.false) in
    let same : c.capped_value-value.result ≡ value_of text = omega (arith, value, small) in
    (numeral text c.run_end-end.result digits (omega arith) some, to_z_pos w64 c.capped_value-value.result (omega (arith, same, small)) ∙ ap pos same, omega (arith, small))
