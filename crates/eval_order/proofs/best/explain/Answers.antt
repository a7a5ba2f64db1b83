use Rattle.std.proofs.Common.{rules, ◌≡◌, ℕ, List, ◌∙◌, sym, subst}
use Rattle.std.specs.Prelude.{IfErr}
use Rattle.std.specs.declared.result.Result.{Result}
use Rattle.pass_plan.specs.Shown.{tree_of}
use Rattle.eval_order.specs.Order.{IsOrder, IsFault}
use Rattle.eval_order.specs.Held.{held_of}
use Rattle.eval_order.specs.BestOrder.{best_order}
use Rattle.eval_order.proofs.Most.{best_is_order, best_greatest, no_fault}
use Rattle.eval_order.proofs.best.explain.Goals as goal

pub unreachable-requires : goal.unreachable-requires
unreachable-requires c =
    let tree = tree_of c.args.tree.now in
    let order = c.as_slice-2.result.now in
    let best : c.in_ok-order.order.items ≡ best_order tree = search rules in
    let same : order ≡ best_order tree = c.as_slice-2.ensures.value ∙ best in
    let is : IsOrder tree order = subst (λ (ks : List ℕ). IsOrder tree ks) (sym same) (best_is_order tree) in
    let fault = subst (λ (r : Result _ ℕ). IfErr r (λ at. IsFault tree order at)) c.in-Err.is c.in_ok-held.ensures.fault in
    no_fault tree order c.in-Err.field-0 is fault

pub returns-clause-greatest : goal.returns-clause-greatest
returns-clause-greatest c =
    let tree = tree_of c.args.tree.now in
    let same : c.in-Ok.held.items ≡ held_of tree (best_order tree) = search rules in
    best_greatest tree c.label-most.result c.in-Ok.held.items c.requires.normal.root same c.label-most.ensures
