use Rattle.std.proofs.Common.{◌≡◌}
use Rattle.std.specs.Prelude.{ℤ, pos, neg_ℤ}
use Rattle.std.specs.Int.{w64, cast_signed, cast_unsigned}
use Rattle.array_file.proofs.Functions.{result_maps, kept_plain, kept_negative, pushed_plain, pushed_negative, wrong_plain, wrong_negative}
use Rattle.array_file.proofs.reading.Reading.take_number.Goals as goal

pub returns-in-Values : goal.returns-in-Values
returns-in-Values c =
    let old = c.args.self.now in
    let heading = c.in-Values.heading in
    let value : ℤ = cast_signed w64 (cast_unsigned w64 c.plain.result) in
    let is : value ≡ pos c.args.n = kept_plain c.plain.result c.args.n c.plain.ensures c.requires.small in
    result_maps _ _ _ _ c.push_value.result c.push_value.ensures
    (λ done p. pushed_plain old c.push_value.new.self heading value c.args.n c.args.at is c.in-Values.is c.requires.ready p)
    (λ fault w. wrong_plain old heading value c.args.n c.args.at fault is c.in-Values.is w)

pub returns-in-AfterMinus : goal.returns-in-AfterMinus
returns-in-AfterMinus c =
    let old = c.args.self.now in
    let heading = c.in-AfterMinus.heading in
    let value : ℤ = cast_signed w64 (cast_unsigned w64 c.negative.result) in
    let is : value ≡ neg_ℤ (pos c.args.n) = kept_negative c.negative.result c.args.n c.negative.ensures c.requires.small in
    result_maps _ _ _ _ c.push_value-in-AfterMinus.result c.push_value-in-AfterMinus.ensures
    (λ done p. pushed_negative old c.push_value-in-AfterMinus.new.self heading value c.args.n c.args.at c.in-AfterMinus.minus_at is c.in-AfterMinus.is c.requires.ready p)
    (λ fault w. wrong_negative old heading value c.args.n c.args.at c.in-AfterMinus.minus_at fault is c.in-AfterMinus.is w)
