use Rattle.std.proofs.Common.{◌≡◌, ◌+◌, ◌<◌, length, get_or, take, drop, ◌++◌, map, ap, ◌∙◌, sym, arith}
use Rattle.pass_plan.specs.Tree.{operands_of}
use Rattle.pass_plan.specs.Shown.{tree_of}
use Rattle.pass_plan.specs.Numbers.{inner_of, nodes_from, operand_number}
use Rattle.pass_plan.specs.NumberShown.{node_of, no_tree}
use Rattle.pass_plan.proofs.Nodes.{nodes_all, next_operand, first_nodes, later_nodes, operand_number-next}
use Rattle.pass_plan.proofs.subtree.Subtree.operand.Goals as goal

pub loop-k-preserved : goal.loop-k-preserved
loop-k-preserved c = λ n is.
    let ts = operands_of (tree_of c.args.self.now.tree.now) in
    let k = c.loop-k.k in
    let below : k < length ts = omega arith in
    let m = operand_number ts k (n + 1) in
    let t = get_or ts k no_tree in
    let begins = next_operand c.loop-k.nodes.now ts k m no_tree below (c.loop-k.invariant n is) in
    let later = later_nodes c.loop-k.nodes.now t m (nodes_all (drop (k + 1) ts) (m + inner_of t)) begins in
    ap (map node_of) (c.after-nodes.ensures ∙ ap (λ u. drop (inner_of u) c.loop-k.nodes.now) c.operand.ensures) ∙ later
    ∙ ap (nodes_all (drop (k + 1) ts)) (sym (operand_number-next ts k (n + 1) no_tree below))

pub first-requires : goal.first-requires
first-requires c =
    let ts = operands_of (tree_of c.args.self.now.tree.now) in
    let place = c.args.place in
    let whole = c.requires.nodes in
    let n = whole.0 in
    let m = operand_number ts place (n + 1) in
    let same : c.loop-k.k ≡ place = omega arith in
    let at : map node_of c.loop-k.nodes.now ≡ nodes_all (drop place ts) m = c.loop-k.invariant n whole.1 ∙ ap (λ k. nodes_all (drop k ts) (operand_number ts k (n + 1))) same in
    let begins = next_operand c.loop-k.nodes.now ts place m no_tree c.requires.place at in
    record {
      number = m;
      rest = nodes_all (drop (place + 1) ts) (m + inner_of (get_or ts place no_tree));
      is = begins ∙ ap (λ u. nodes_from u m ++ nodes_all (drop (place + 1) ts) (m + inner_of (get_or ts place no_tree))) (sym c.operand-2.ensures);
    }

pub returns-clause-nodes : goal.returns-clause-nodes
returns-clause-nodes c = λ n is.
    let ts = operands_of (tree_of c.args.self.now.tree.now) in
    let place = c.args.place in
    let m = operand_number ts place (n + 1) in
    let t = get_or ts place no_tree in
    let same : c.loop-k.k ≡ place = omega arith in
    let at : map node_of c.loop-k.nodes.now ≡ nodes_all (drop place ts) m = c.loop-k.invariant n is ∙ ap (λ k. nodes_all (drop k ts) (operand_number ts k (n + 1))) same in
    let begins = next_operand c.loop-k.nodes.now ts place m no_tree c.requires.place at in
    record {
      nodes = ap (map node_of) (c.first.ensures.nodes ∙ ap (λ u. take (inner_of u) c.loop-k.nodes.now) c.operand-2.ensures)
          ∙ first_nodes c.loop-k.nodes.now t m (nodes_all (drop (place + 1) ts) (m + inner_of t)) begins
          ∙ ap (λ u. nodes_from u m) (sym (c.first.ensures.tree ∙ c.operand-2.ensures));
    }
