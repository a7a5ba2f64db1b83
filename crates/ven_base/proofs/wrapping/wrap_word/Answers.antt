use Rattle.std.proofs.Common.{◌∙◌, ◌^◌, ◌%◌, ap, arith, rules, refl, w64, pos, of_z}
use Rattle.std.specs.Prelude.{FitsSigned}
use Rattle.std.proofs.lemmas.Int.{to_z-of_z}
use Rattle.ven_base.specs.Wrap.{wrapped}
use Rattle.ven_base.proofs.MachineWords.{wrapped-low}
use Rattle.ven_base.proofs.wrapping.wrap_word.Goals as goal

pub returns : goal.returns
returns c =
    let fits : FitsSigned w64 c.number_of.result = search rules in
    to_z-of_z w64 c.number_of.result fits ∙ c.number_of.ensures
    ∙ ap (λ b. wrapped c.args.elem (pos b)) (c.low_bits.ensures ∙ ap (λ z. of_z w64 z % 2 ^ 32) (to_z-of_z w64 c.args.n c.ranges.n))
    ∙ wrapped-low w64 (2 ^ 32) c.args.elem c.args.n refl (omega arith) c.ranges.n
