use Rattle.std.proofs.Common.{arith, refl}
use Rattle.expr_split.specs.Terms.{term_of}
use Rattle.expr_split.proofs.Seen.{height_some}
use Rattle.expr_split.proofs.term.+is_higher.Goals as goal

pub returns-then-limit-eq0 : goal.returns-then-limit-eq0
returns-then-limit-eq0 t c = let some = height_some (term_of c.args.term.now) in (λ h. omega arith, λ h. refl)
