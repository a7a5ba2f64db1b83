use Rattle.std.proofs.Common.{sym, ◌∙◌, ap, subst}
use Rattle.std.proofs.lemmas.Bool.{both_ways}
use Rattle.ven_io.specs.declared.token.Token.{Token}
use Rattle.ven_io.specs.Token.{StandsAt}
use Rattle.ven_io.proofs.Standing.{line_stands, none_stands}
use Rattle.ven_io.proofs.lexing.token_at.Goals as goal

pub returns-then-first-eq10 : goal.returns-then-first-eq10
returns-then-first-eq10 c =
    let made = c.token_of-then-first-eq10.ensures in (
      ap (λ (t : Token). t.start) made,
      subst (λ (t : Token). StandsAt c.args.text.now t) (sym made) (line_stands c.args.text.now c.args.start c.requires.in_text c.if-first-eq10.true),
    )

pub returns-in-None : goal.returns-in-None
returns-in-None c =
    none_stands c.args.text.now c.args.start (both_ways _ (sym c.is_name_start.ensures ∙ c.if-is_name_start.false))
    (both_ways _ (sym c.is_digit.ensures ∙ c.if-is_digit.false)) c.if-first-eq10.false c.in-None.ensures
