use Rattle.expr_split.proofs.Statements.{keeps_meaning}
use Rattle.expr_split.proofs.laws.meaning_law.Goals as goal

pub returns : goal.returns
returns c = keeps_meaning
