use Rattle.std.proofs.Common.{◌≡◌, ◌+◌, ◌<◌, ◌∷◌, ◌++◌, length, take, map, ap, ◌∙◌, sym, arith, vec_len, refl}
use Rattle.std.proofs.lemmas.List.{length-map}
use Rattle.std.proofs.lemmas.Result.{IfOk-weaker}
use Rattle.std.proofs.Math.Seq.{take-length}
use Rattle.pass_plan.specs.Tree.{operands_of}
use Rattle.pass_plan.specs.Shown.{tree_of}
use Rattle.pass_plan.specs.Numbers.{nodes_from, inner_of}
use Rattle.pass_plan.specs.NumberShown.{node_of, no_tree}
use Rattle.pass_plan.specs.NumberSize.{size_of, no_node, node_by, size_by, held_by}
use Rattle.pass_plan.proofs.Nodes.{nodes_all, one_more, whole, operand_number-next}
use Rattle.pass_plan.proofs.TurnLabels.{held_at_most, node_same, size_same, sizes_more}
use Rattle.pass_plan.proofs.Operands.{computed_arity}
use Rattle.pass_plan.proofs.number.+number.Goals as goal

pub loop-place-preserved : goal.loop-place-preserved
loop-place-preserved t c =
    let ts = operands_of (tree_of c.args.tree.now) in
    let k = c.loop-place.place in
    let below : k < length ts = omega arith in
    let n = vec_len c.args.nodes.now + 1 + 1 in
    let next = operand_number-next ts k n no_tree below in
    let is = c.operand.ensures in
    let many = c.in_ok-size.ensures.count in
    let more = ap inner_of is in
    let before = c.loop-place.invariant.count in
    record {
      place = c.loop-place.invariant.place;
      nodes = one_more (map node_of c.args.nodes.now.items) (map node_of c.loop-place.nodes.items) _ no_node ts k n (vec_len c.loop-place.nodes + 1) (tree_of c.operand.result.now) no_tree below is before c.loop-place.invariant.nodes c.in_ok-size.ensures.nodes;
      sizes = sizes_more ts k (tree_of c.operand.result.now) no_tree _ c.loop-place.sizes.items c.in_ok-size.size below is c.loop-place.invariant.sizes c.in_ok-size.ensures.size c.in_ok-push.ensures.ok;
      count = omega arith;
      many = let l = c.loop-place.invariant.many in let m = c.in_ok-push.ensures.len in omega arith;
    }

pub put-requires-clause-labels : goal.put-requires-clause-labels
put-requires-clause-labels t c =
    let tree = tree_of c.args.tree.now in
    let ts = operands_of tree in
    let some : 0 < length ts = omega arith in
    let all : c.loop-place.place ≡ length ts = omega arith in
    let is = c.as_slice-2.ensures ∙ c.loop-place.invariant.sizes ∙ ap (λ k. map size_of (take k ts)) all ∙ ap (map size_of) (take-length ts) in
    let most = held_at_most tree (c.in_ok-at.at + 2) (computed_arity tree some) in
    let same = ap (λ ss. held_by ss (c.in_ok-at.at + 2)) is in
    omega arith

pub returns-clause-nodes : goal.returns-clause-nodes
returns-clause-nodes t c =
    let tree = tree_of c.args.tree.now in
    let ts = operands_of tree in
    let some : 0 < length ts = omega arith in
    let computed = computed_arity tree some in
    let all : c.loop-place.place ≡ length ts = omega arith in
    let at = c.in_ok-at.at in
    let place = c.in_ok-at.ensures.place in
    let sizes : c.loop-place.sizes.items ≡ map size_of ts = c.loop-place.invariant.sizes ∙ ap (λ k. map size_of (take k ts)) all ∙ ap (map size_of) (take-length ts) in
    let node = ap (λ ss. node_by ss (at + 1) c.least_of-least.result) (c.as_slice-2.ensures ∙ sizes) ∙ ap (node_by (map size_of ts) (at + 1)) c.least_of-least.ensures ∙ node_same tree (at + 1) computed in
    let mid = c.loop-place.invariant.nodes ∙ ap (λ k. map node_of c.args.nodes.now.items ++ no_node ∷ nodes_all (take k ts) (vec_len c.args.nodes.now + 1 + 1)) all
    ∙ ap (λ us. map node_of c.args.nodes.now.items ++ no_node ∷ nodes_all us (vec_len c.args.nodes.now + 1 + 1)) (take-length ts)
    ∙ ap (λ p. map node_of c.args.nodes.now.items ++ no_node ∷ nodes_all ts (p + 1 + 1)) (sym place) in
    let long : at ≡ length (map node_of c.args.nodes.now.items) = omega (arith, length-map c.args.nodes.now.items node_of) in
    IfOk-weaker c.put.result _ _ (λ size h. whole (map node_of c.args.nodes.now.items) (map node_of c.loop-place.nodes.items) _ no_node _ tree ts at computed long refl mid node h ∙ ap (λ p. map node_of c.args.nodes.now.items ++ nodes_from tree (p + 1)) place) c.put.ensures.nodes

pub returns-clause-size : goal.returns-clause-size
returns-clause-size t c =
    let tree = tree_of c.args.tree.now in
    let ts = operands_of tree in
    let some : 0 < length ts = omega arith in
    let computed = computed_arity tree some in
    let all : c.loop-place.place ≡ length ts = omega arith in
    let at = c.in_ok-at.at in
    let sizes : c.loop-place.sizes.items ≡ map size_of ts = c.loop-place.invariant.sizes ∙ ap (λ k. map size_of (take k ts)) all ∙ ap (map size_of) (take-length ts) in
    let is = ap (λ ss. size_by ss (at + 1) c.least_of-least.result) (c.as_slice-2.ensures ∙ sizes) ∙ ap (size_by (map size_of ts) (at + 1)) c.least_of-least.ensures ∙ size_same tree (at + 1) computed in
    IfOk-weaker c.put.result _ _ (λ size h. h ∙ is) c.put.ensures.size
