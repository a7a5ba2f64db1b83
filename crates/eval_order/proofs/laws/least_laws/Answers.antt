use Rattle.eval_order.proofs.Orders.{label_held}
use Rattle.eval_order.proofs.laws.least_laws.Goals as goal

pub returns : goal.returns
returns c = label_held
