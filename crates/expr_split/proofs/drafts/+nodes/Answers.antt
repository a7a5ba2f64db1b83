use Rattle.std.proofs.Common.{◌≡◌, map, sym, ap, subst, ◌∙◌, not}
use Rattle.shape_check.specs.declared.typed.Typed.{Typed}
use Rattle.shape_check.specs.Node as node
use Rattle.shape_check.specs.Typed.{node_of, node_with}
use Rattle.expr_split.specs.declared.drafts.Own.{Own}
use Rattle.expr_split.specs.Cuts.{Inside, UnderMap, own_of}
use Rattle.expr_split.specs.Terms.{term_of, IsOwn}
use Rattle.expr_split.proofs.Seen.{cut_seen, rows_own, column_own, elem_of-node, shape_of-node, ok_same}
use Rattle.expr_split.proofs.drafts.+nodes.Goals as goal

pub seen-returns-then-is_reduction : goal.seen-returns-then-is_reduction
seen-returns-then-is_reduction t c =
    let n = c.args.node.now in
    ok_same c.cut.result _ _ (λ x h. cut_seen Inside (node_of n) (map term_of c.args.names.now) c.args.plan.now c.root_of.new.plan c.cut.new.plan c.in_ok-own.own x n.elem n.shape
    (elem_of-node n) (shape_of-node n) (sym c.is_reduction.ensures ∙ c.if-is_reduction.true) c.in_ok-own.ensures h) c.cut.ensures

pub seen_under_map-returns-else-is_name : goal.seen_under_map-returns-else-is_name
seen_under_map-returns-else-is_name t c =
    let n = c.args.node.now in
    ok_same c.cut.result _ _ (λ x h. cut_seen UnderMap (node_of n) (map term_of c.args.names.now) c.args.plan.now c.root_of.new.plan c.cut.new.plan c.in_ok-own.own x n.elem n.shape
    (elem_of-node n) (shape_of-node n) (ap not (sym c.is_name.ensures ∙ c.if-is_name.false)) c.in_ok-own.ensures h) c.cut.ensures

pub root_of-returns-in_ok-term-in-RowFold : goal.root_of-returns-in_ok-term-in-RowFold
root_of-returns-in_ok-term-in-RowFold t c =
    let n = c.args.node.now in
    let same : c.deref-in-RowFold.result.now ≡ c.deref-in-RowFold-2.result.now = c.deref-in-RowFold.ensures ∙ sym c.deref-in-RowFold-2.ensures in
    let whole = ap (λ k. node_with k n.elem n.shape) c.in-RowFold.is in
    subst (λ (o : Own). IsOwn o c.args.plan.now c.seen-in-RowFold.new.plan (node_of n) (own_of (map term_of c.args.names.now) c.args.plan.now.next (node_of n))) (sym c.reduction_of.ensures)
    (rows_own (node_of n) c.deref-in-RowFold-2.result.now n.elem n.shape c.deref-in-RowFold.result.now.shape c.in-RowFold.fold (map term_of c.args.names.now) c.args.plan.now c.seen-in-RowFold.new.plan c.in_ok-term-in-RowFold.term
    (whole ∙ ap (λ (v : Typed). node.RowFold n.elem n.shape c.in-RowFold.fold (node_of v)) (sym c.deref-in-RowFold-2.ensures)) (ap (λ (v : Typed). v.shape) same) c.in_ok-term-in-RowFold.ensures)

pub root_of-returns-in_ok-term-in-Fold : goal.root_of-returns-in_ok-term-in-Fold
root_of-returns-in_ok-term-in-Fold t c =
    let n = c.args.node.now in
    let same : c.deref-in-Fold.result.now ≡ c.deref-in-Fold-2.result.now = c.deref-in-Fold.ensures ∙ sym c.deref-in-Fold-2.ensures in
    let whole = ap (λ k. node_with k n.elem n.shape) c.in-Fold.is in
    ok_same c.column.result _ _ (λ o made.
    column_own (node_of n) c.deref-in-Fold-2.result.now n.elem n.shape c.deref-in-Fold.result.now.shape c.in-Fold.fold (map term_of c.args.names.now) c.args.plan.now c.seen-in-Fold.new.plan c.column.new.plan c.in_ok-term-in-Fold.term c.reduction_of-in-Fold.result o
    (whole ∙ ap (λ (v : Typed). node.Fold n.elem n.shape c.in-Fold.fold (node_of v)) (sym c.deref-in-Fold-2.ensures)) (ap (λ (v : Typed). v.shape) same) c.in_ok-term-in-Fold.ensures c.reduction_of-in-Fold.ensures made) c.column.ensures
