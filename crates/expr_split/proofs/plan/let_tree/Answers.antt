use Rattle.std.proofs.Common.{map, length, sym, ◌∙◌}
use Rattle.shape_check.specs.Typed.{node_of}
use Rattle.expr_split.specs.Terms.{term_of}
use Rattle.expr_split.proofs.Seen.{elem_of-node, shape_of-node, ok_same}
use Rattle.expr_split.proofs.Planning.{let_seen}
use Rattle.expr_split.proofs.plan.let_tree.Goals as goal

pub returns-then-is_one_of : goal.returns-then-is_one_of
returns-then-is_one_of c =
    let n = c.args.value.now in
    ok_same c.cut.result _ _ (λ x h. let_seen c.args.asks.now (length c.args.names.now) c.asked-is_asked.result c.is_reduction-is_fold.result (node_of n) (map term_of c.args.names.now) c.args.plan.now c.root_of.new.plan c.cut.new.plan c.in_ok-own.own x n.elem n.shape
    (elem_of-node n) (shape_of-node n) c.asked-is_asked.ensures c.is_reduction-is_fold.ensures (sym c.is_one_of.ensures ∙ c.if-is_one_of.true) c.in_ok-own.ensures h) c.cut.ensures
