use Rattle.std.proofs.Common.{sym, ◌∙◌}
use Rattle.std.proofs.lemmas.Bool.{both_ways}
use Rattle.ven_io.proofs.Standing.{single_stands, double_stands, no_sign}
use Rattle.ven_io.proofs.lexing.sign_end.Goals as goal

pub returns-then-is_double_sign_at : goal.returns-then-is_double_sign_at
returns-then-is_double_sign_at c = double_stands c.args.text.now c.args.start (c.is_double_sign_at.ensures.0 c.if-is_double_sign_at.true)

pub returns-then-is_single_sign : goal.returns-then-is_single_sign
returns-then-is_single_sign c =
    single_stands c.args.text.now c.args.start c.requires (sym c.is_single_sign.ensures ∙ c.if-is_single_sign.true)
    (λ double. both_ways _ c.if-is_double_sign_at.false (c.is_double_sign_at.ensures.1 double))

pub returns : goal.returns
returns c =
    no_sign c.args.text.now c.args.start (λ single. both_ways _ (sym c.is_single_sign.ensures ∙ c.if-is_single_sign.false) single)
    (λ double. both_ways _ c.if-is_double_sign_at.false (c.is_double_sign_at.ensures.1 double))
