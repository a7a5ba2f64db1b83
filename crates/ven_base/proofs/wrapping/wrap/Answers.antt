use Rattle.std.proofs.Common.{◌∙◌, ◌^◌, ◌%◌, ap, sym, subst, arith, rules, refl, w64, pos, of_z}
use Rattle.std.specs.Prelude.{ℤ, FitsSigned}
use Rattle.std.specs.Int.{w128}
use Rattle.std.proofs.lemmas.Int.{to_z-of_z}
use Rattle.ven_base.specs.Wrap.{IsWrapped, wrapped}
use Rattle.ven_base.proofs.MachineWords.{wrapped-low}
use Rattle.ven_base.proofs.Wrapped.{IsWrapped-wrapped}
use Rattle.ven_base.proofs.wrapping.wrap.Goals as goal

pub returns-clause-value : goal.returns-clause-value
returns-clause-value c =
    let fits : FitsSigned w64 c.number_of.result = search rules in
    to_z-of_z w64 c.number_of.result fits ∙ c.number_of.ensures
    ∙ ap (λ b. wrapped c.args.elem (pos (b % 2 ^ 32))) (c.cast_unsigned.ensures ∙ ap (of_z w128) (to_z-of_z w128 c.args.n c.ranges.n))
    ∙ wrapped-low w128 (2 ^ 96) c.args.elem c.args.n refl (omega arith) c.ranges.n

pub returns-clause-is_wrapped : goal.returns-clause-is_wrapped
returns-clause-is_wrapped c =
    let P : ℤ → Type 0 = λ w. IsWrapped c.args.elem c.args.n w in
    subst P (sym (returns-clause-value c)) (IsWrapped-wrapped c.args.elem c.args.n)
