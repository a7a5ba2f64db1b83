use Rattle.std.proofs.Common.{rules, ◌≡◌}
use Rattle.pass_plan.specs.Shown.{tree_of}
use Rattle.eval_order.specs.Order.{IsOrder}
use Rattle.eval_order.specs.Held.{held_of}
use Rattle.eval_order.proofs.Most.{some_at_least}
use Rattle.eval_order.proofs.walk.held.Goals as goal

pub returns-in-Ok-Ok-clause-least : goal.returns-in-Ok-Ok-clause-least
returns-in-Ok-Ok-clause-least c =
    let tree = tree_of c.args.tree.now in
    let is : IsOrder tree c.args.order.now = search rules in
    let same : c.in-Ok-Ok.all.items ≡ held_of tree c.args.order.now = search rules in
    some_at_least tree c.args.order.now c.in-Ok-Ok.all.items c.requires.normal.root is same
