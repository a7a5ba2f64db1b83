use Rattle.std.proofs.Common.{map, refl}
use Rattle.shape_check.specs.Typed.{node_of}
use Rattle.expr_split.specs.Cuts.{AtOutput}
use Rattle.expr_split.specs.Terms.{term_of}
use Rattle.expr_split.proofs.Seen.{cut_seen, elem_of-node, shape_of-node, ok_same}
use Rattle.expr_split.proofs.plan.output_tree.Goals as goal

pub returns : goal.returns
returns c =
    let n = c.args.value.now in
    ok_same c.cut.result _ _ (λ x h. cut_seen AtOutput (node_of n) (map term_of c.args.names.now) c.args.plan.now c.root_of.new.plan c.cut.new.plan c.in_ok-own.own x n.elem n.shape
    (elem_of-node n) (shape_of-node n) refl c.in_ok-own.ensures h) c.cut.ensures
