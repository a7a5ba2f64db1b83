use Rattle.std.proofs.Common.{◌≡◌, false, true, sym, subst, refl}
use Rattle.array_syntax.specs.Printed.{IsLiteral}
use Rattle.array_syntax.proofs.Forms.{at_literal, literal_only}
use Rattle.array_syntax.proofs.printing.is_literal.Goals as goal

pub returns-in-Literal : goal.returns-in-Literal
returns-in-Literal c = (λ t. subst IsLiteral (sym (at_literal c.args.e.now c.in-Literal.field-0 c.in-Literal.is)) tt, λ l. refl)

pub returns-in_default : goal.returns-in_default
returns-in_default c = (λ t. let f : false ≡ true = t in absurd (cc), λ l. absurd (literal_only c.args.e.now (λ n is. c.in_default.not-Literal n is) l))
