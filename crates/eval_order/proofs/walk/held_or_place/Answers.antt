use Rattle.std.proofs.Common.{rules, ◌≡◌, ℕ, ◌+◌, ◌-◌, List, length, get_or, ap, ◌∙◌, sym, subst, arith, refl, Bool, true, false}
use Rattle.std.specs.Prelude.{replicate, slice_set}
use Rattle.pass_plan.specs.Shown.{tree_of}
use Rattle.pass_plan.specs.declared.node.NumberedNode.{NumberedNode}
use Rattle.pass_plan.specs.NumberShown.{node_of}
use Rattle.pass_plan.proofs.Operands.{inner_fits}
use Rattle.eval_order.specs.Order.{IsFault, numbered_node}
use Rattle.eval_order.specs.Walk.{IsReady}
use Rattle.eval_order.proofs.Places.{walked_first, many_of, few_places, walked_fault, walked_missing, walked_order, walked_next, turns_rest, node_is, least_is}
use Rattle.eval_order.proofs.walk.held_or_place.Goals as goal

pub loop-at-init : goal.loop-at-init
loop-at-init c =
    let tree = tree_of c.args.tree.now in
    let filled : c.in_ok-came.came.items ≡ replicate (c.len.result + 1) false = search rules in
    let many = many_of tree c.in_ok-nodes.nodes.items c.in_ok-nodes.ensures in
    walked_first tree c.args.order.now c.new-all.result.items c.in_ok-came.came.items (c.len.result + 1) filled (omega arith) c.new-all.ensures.items

pub overflow_cast-result : goal.overflow_cast-result
overflow_cast-result c =
    let tree = tree_of c.args.tree.now in
    let few = few_places tree c.args.order.now c.in_ok-nodes.nodes.items c.in_ok-nodes.ensures c.loop-at.at c.loop-at.came.items c.loop-at.resting c.loop-at.all.items c.loop-at.invariant in
    omega (arith, inner_fits tree)

pub returns-then-not-may_come-clause-fault : goal.returns-then-not-may_come-clause-fault
returns-then-not-may_come-clause-fault c =
    let tree = tree_of c.args.tree.now in
    let k = get_or c.args.order.now c.loop-at.at 0 in
    let no' : c.may_come.result ≡ false = search rules in
    walked_fault tree c.args.order.now c.in_ok-nodes.nodes.items c.in_ok-nodes.ensures c.loop-at.at c.loop-at.came.items c.loop-at.resting c.loop-at.all.items c.loop-at.invariant c.loop-at-test.true
    (λ ready. c.may_come.ensures.no no' (subst (λ (bs : List Bool). IsReady c.as_slice.result.now bs k) (sym c.as_slice-in-loop-at.ensures.value) (subst (λ (ns : List NumberedNode). IsReady ns c.loop-at.came.items k) (sym c.as_slice.ensures.value) ready)))

pub overflow_add-resting : goal.overflow_add-resting
overflow_add-resting c =
    let tree = tree_of c.args.tree.now in
    let few = few_places tree c.args.order.now c.in_ok-nodes.nodes.items c.in_ok-nodes.ensures c.loop-at.at c.loop-at.came.items c.loop-at.resting c.loop-at.all.items c.loop-at.invariant in
    let low = c.loop-at.invariant.few in
    omega (arith, inner_fits tree)

pub overflow_cast-resting : goal.overflow_cast-resting
overflow_cast-resting c =
    let tree = tree_of c.args.tree.now in
    let order = c.args.order.now in
    let nodes = c.in_ok-nodes.nodes.items in
    let at = c.loop-at.at in
    let k = get_or order at 0 in
    let came = c.loop-at.came.items in
    let inv = c.loop-at.invariant in
    let is = c.in_ok-nodes.ensures in
    let may : c.may_come.result ≡ true = search rules in
    let ready : IsReady nodes came k = subst (λ (bs : List Bool). IsReady nodes bs k) c.as_slice-in-loop-at.ensures.value (subst (λ (ns : List NumberedNode). IsReady ns c.as_slice-in-loop-at.result.now k) c.as_slice.ensures.value (c.may_come.ensures.yes may)) in
    let node : NumberedNode = c.index-node.result.now in
    let there : node ≡ get_or nodes (k - 1) node = search rules in
    let same = ap node_of there ∙ node_is tree order nodes is at came c.loop-at.resting c.loop-at.all.items inv c.loop-at-test.true ready node in
    let many : c.len-in-loop-at.result ≡ length (numbered_node tree k).turns = c.len-in-loop-at.ensures.value ∙ ap (λ x. length x.turns) same in
    let rest = turns_rest tree order nodes is at came c.loop-at.resting c.loop-at.all.items inv c.loop-at-test.true ready in
    let few = few_places tree order nodes is at came c.loop-at.resting c.loop-at.all.items inv in
    let fits = inner_fits tree in
    let low = inv.few in
    omega arith

pub overflow_sub-resting : goal.overflow_sub-resting
overflow_sub-resting c =
    let tree = tree_of c.args.tree.now in
    let order = c.args.order.now in
    let nodes = c.in_ok-nodes.nodes.items in
    let at = c.loop-at.at in
    let k = get_or order at 0 in
    let came = c.loop-at.came.items in
    let inv = c.loop-at.invariant in
    let is = c.in_ok-nodes.ensures in
    let may : c.may_come.result ≡ true = search rules in
    let ready : IsReady nodes came k = subst (λ (bs : List Bool). IsReady nodes bs k) c.as_slice-in-loop-at.ensures.value (subst (λ (ns : List NumberedNode). IsReady ns c.as_slice-in-loop-at.result.now k) c.as_slice.ensures.value (c.may_come.ensures.yes may)) in
    let node : NumberedNode = c.index-node.result.now in
    let there : node ≡ get_or nodes (k - 1) node = search rules in
    let same = ap node_of there ∙ node_is tree order nodes is at came c.loop-at.resting c.loop-at.all.items inv c.loop-at-test.true ready node in
    let many : c.len-in-loop-at.result ≡ length (numbered_node tree k).turns = c.len-in-loop-at.ensures.value ∙ ap (λ x. length x.turns) same in
    let rest = turns_rest tree order nodes is at came c.loop-at.resting c.loop-at.all.items inv c.loop-at-test.true ready in
    let few = few_places tree order nodes is at came c.loop-at.resting c.loop-at.all.items inv in
    let fits = inner_fits tree in
    omega arith

pub overflow_add-resting-in-loop-at : goal.overflow_add-resting-in-loop-at
overflow_add-resting-in-loop-at c =
    let tree = tree_of c.args.tree.now in
    let order = c.args.order.now in
    let nodes = c.in_ok-nodes.nodes.items in
    let at = c.loop-at.at in
    let k = get_or order at 0 in
    let came = c.loop-at.came.items in
    let inv = c.loop-at.invariant in
    let is = c.in_ok-nodes.ensures in
    let may : c.may_come.result ≡ true = search rules in
    let ready : IsReady nodes came k = subst (λ (bs : List Bool). IsReady nodes bs k) c.as_slice-in-loop-at.ensures.value (subst (λ (ns : List NumberedNode). IsReady ns c.as_slice-in-loop-at.result.now k) c.as_slice.ensures.value (c.may_come.ensures.yes may)) in
    let node : NumberedNode = c.index-node.result.now in
    let there : node ≡ get_or nodes (k - 1) node = search rules in
    let same = ap node_of there ∙ node_is tree order nodes is at came c.loop-at.resting c.loop-at.all.items inv c.loop-at-test.true ready node in
    let many : c.len-in-loop-at.result ≡ length (numbered_node tree k).turns = c.len-in-loop-at.ensures.value ∙ ap (λ x. length x.turns) same in
    let rest = turns_rest tree order nodes is at came c.loop-at.resting c.loop-at.all.items inv c.loop-at-test.true ready in
    let few = few_places tree order nodes is at came c.loop-at.resting c.loop-at.all.items inv in
    let fits = inner_fits tree in
    let least = ap (λ x. x.least) same in
    let small = least_is tree order nodes is at came c.loop-at.resting c.loop-at.all.items inv c.loop-at-test.true ready in
    let low = inv.few in
    omega (arith, small.1)

pub overflow_sub-resting-in-loop-at : goal.overflow_sub-resting-in-loop-at
overflow_sub-resting-in-loop-at c =
    let tree = tree_of c.args.tree.now in
    let order = c.args.order.now in
    let nodes = c.in_ok-nodes.nodes.items in
    let at = c.loop-at.at in
    let k = get_or order at 0 in
    let came = c.loop-at.came.items in
    let inv = c.loop-at.invariant in
    let is = c.in_ok-nodes.ensures in
    let may : c.may_come.result ≡ true = search rules in
    let ready : IsReady nodes came k = subst (λ (bs : List Bool). IsReady nodes bs k) c.as_slice-in-loop-at.ensures.value (subst (λ (ns : List NumberedNode). IsReady ns c.as_slice-in-loop-at.result.now k) c.as_slice.ensures.value (c.may_come.ensures.yes may)) in
    let node : NumberedNode = c.index-node.result.now in
    let there : node ≡ get_or nodes (k - 1) node = search rules in
    let same = ap node_of there ∙ node_is tree order nodes is at came c.loop-at.resting c.loop-at.all.items inv c.loop-at-test.true ready node in
    let many : c.len-in-loop-at.result ≡ length (numbered_node tree k).turns = c.len-in-loop-at.ensures.value ∙ ap (λ x. length x.turns) same in
    let rest = turns_rest tree order nodes is at came c.loop-at.resting c.loop-at.all.items inv c.loop-at-test.true ready in
    let few = few_places tree order nodes is at came c.loop-at.resting c.loop-at.all.items inv in
    let fits = inner_fits tree in
    let least = ap (λ x. x.least) same in
    let small = least_is tree order nodes is at came c.loop-at.resting c.loop-at.all.items inv c.loop-at-test.true ready in
    omega (arith, small.0)

pub loop-at-preserved : goal.loop-at-preserved
loop-at-preserved c =
    let tree = tree_of c.args.tree.now in
    let order = c.args.order.now in
    let nodes = c.in_ok-nodes.nodes.items in
    let at = c.loop-at.at in
    let k = get_or order at 0 in
    let came = c.loop-at.came.items in
    let inv = c.loop-at.invariant in
    let is = c.in_ok-nodes.ensures in
    let may : c.may_come.result ≡ true = search rules in
    let ready : IsReady nodes came k = subst (λ (bs : List Bool). IsReady nodes bs k) c.as_slice-in-loop-at.ensures.value (subst (λ (ns : List NumberedNode). IsReady ns c.as_slice-in-loop-at.result.now k) c.as_slice.ensures.value (c.may_come.ensures.yes may)) in
    let node : NumberedNode = c.index-node.result.now in
    let there : node ≡ get_or nodes (k - 1) node = search rules in
    let same = ap node_of there ∙ node_is tree order nodes is at came c.loop-at.resting c.loop-at.all.items inv c.loop-at-test.true ready node in
    let many : c.len-in-loop-at.result ≡ length (numbered_node tree k).turns = c.len-in-loop-at.ensures.value ∙ ap (λ x. length x.turns) same in
    let rest = turns_rest tree order nodes is at came c.loop-at.resting c.loop-at.all.items inv c.loop-at-test.true ready in
    let few = few_places tree order nodes is at came c.loop-at.resting c.loop-at.all.items inv in
    let fits = inner_fits tree in
    let least = ap (λ x. x.least) same in
    let small = least_is tree order nodes is at came c.loop-at.resting c.loop-at.all.items inv c.loop-at-test.true ready in
    let rests : c.loop-at.resting + 1 - c.len-in-loop-at.result ≡ c.loop-at.resting + 1 - length (numbered_node tree k).turns = ap (λ n. c.loop-at.resting + 1 - n) many in
    let held : c.loop-at.resting + 1 - c.len-in-loop-at.result + c.index-node.result.now.least - 1 ≡ c.loop-at.resting + 1 - c.len-in-loop-at.result + (numbered_node tree k).least - 1 = ap (λ n. c.loop-at.resting + 1 - c.len-in-loop-at.result + n - 1) least in
    walked_next tree order nodes is at came c.loop-at.resting c.loop-at.all.items inv c.loop-at-test.true ready (slice_set came k true) (c.loop-at.resting + 1 - c.len-in-loop-at.result)
    (c.loop-at.resting + 1 - c.len-in-loop-at.result + c.index-node.result.now.least - 1) c.push.new.self.items refl rests held c.in_ok-push.ensures.items

pub overflow_cast-result-then-order-len : goal.overflow_cast-result-then-order-len
overflow_cast-result-then-order-len c =
    let tree = tree_of c.args.tree.now in
    let few = few_places tree c.args.order.now c.in_ok-nodes.nodes.items c.in_ok-nodes.ensures c.loop-at.at c.loop-at.came.items c.loop-at.resting c.loop-at.all.items c.loop-at.invariant in
    omega (arith, inner_fits tree)

pub returns-then-order-len-clause-fault : goal.returns-then-order-len-clause-fault
returns-then-order-len-clause-fault c =
    let tree = tree_of c.args.tree.now in
    let nodes = c.in_ok-nodes.nodes.items in
    let end : c.loop-at.at ≡ length c.args.order.now = omega arith in
    let many = many_of tree nodes c.in_ok-nodes.ensures in
    subst (λ (n : ℕ). IsFault tree c.args.order.now n) end
    (walked_missing tree c.args.order.now nodes c.in_ok-nodes.ensures c.loop-at.at c.loop-at.came.items c.loop-at.resting c.loop-at.all.items c.loop-at.invariant end (omega arith))

pub returns-clause-order : goal.returns-clause-order
returns-clause-order c =
    let tree = tree_of c.args.tree.now in
    let nodes = c.in_ok-nodes.nodes.items in
    let end : c.loop-at.at ≡ length c.args.order.now = omega arith in
    let many = many_of tree nodes c.in_ok-nodes.ensures in
    walked_order tree c.args.order.now nodes c.in_ok-nodes.ensures c.loop-at.at c.loop-at.came.items c.loop-at.resting c.loop-at.all.items c.loop-at.invariant end (omega arith)
