use Rattle.std.proofs.Common.{subst, sym, ap, refl, ◌∙◌, w64, ℤ}
use Rattle.std.specs.Int.{cast_signed, cast_unsigned}
use Rattle.std.proofs.lemmas.Int.{to_z-of_z}
use Rattle.ven_base.specs.Elem.{IsElement}
use Rattle.venice_isa.specs.Answer.{answer_of}
use Rattle.venice_isa.proofs.Results.{result_is, result_in_type}
use Rattle.venice_isa.proofs.answer.result_of.Goals as goal

pub returns-clause-value : goal.returns-clause-value
returns-clause-value c =
    let kind = c.args.kind in
    let passed : ℤ = cast_signed w64 (cast_unsigned w64 c.args.b) in
    to_z-of_z w64 c.answer_of.result (record { sfits = c.answer_of.type_inv })
    ∙ c.answer_of.ensures
    ∙ ap (λ a. answer_of kind.op kind.elem a passed) (to_z-of_z w64 c.args.a c.ranges.a)
    ∙ ap (λ b. answer_of kind.op kind.elem c.args.a b) (to_z-of_z w64 c.args.b c.ranges.b)
    ∙ sym (result_is kind c.args.a c.args.b kind.op refl)

pub returns-clause-in_type : goal.returns-clause-in_type
returns-clause-in_type c =
    subst (λ n. IsElement c.args.kind.elem n) (sym (returns-clause-value c)) (result_in_type c.args.kind c.args.a c.args.b c.requires.a_in_type)
