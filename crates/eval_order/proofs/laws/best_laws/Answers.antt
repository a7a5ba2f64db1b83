use Rattle.eval_order.proofs.Most.{best_is_order, best_most}
use Rattle.eval_order.proofs.laws.best_laws.Goals as goal

pub returns : goal.returns
returns c = record { order = best_is_order; most = best_most }
