use Rattle.std.proofs.Common.{rules, ◌≡◌, ℕ, ◌+◌, ◌-◌, ◌++◌, [], ◌∷◌, List, length, get_or, map, ap, ◌∙◌, sym, subst, arith}
use Rattle.pass_plan.specs.Shown.{tree_of}
use Rattle.pass_plan.specs.Numbers.{Node}
use Rattle.pass_plan.specs.NumberShown.{node_of}
use Rattle.pass_plan.specs.declared.node.NumberedNode.{NumberedNode}
use Rattle.pass_plan.specs.declared.turn.Turn.{Turn}
use Rattle.eval_order.specs.Order.{numbered_node}
use Rattle.eval_order.proofs.Waiting.{IsFromEnd, end_first, end_next, end_number, end_last, node_there}
use Rattle.eval_order.proofs.best.best_numbers.Goals as goal

pub loop-number-init : goal.loop-number-init
loop-number-init c =
    let tree = tree_of c.args.whole.now.tree.now in
    let one : 1 ∷ [] ≡ c.push.new.self.items = search rules in
    let none : [] ≡ c.new-order.result.items = search rules in
    subst (λ (xs : List ℕ). IsFromEnd tree xs c.new-order.result.items) one (subst (λ (xs : List ℕ). IsFromEnd tree (1 ∷ []) xs) none (end_first tree c.requires.root))

pub overflow_sub-number : goal.overflow_sub-number
overflow_sub-number c =
    let tree = tree_of c.args.whole.now.tree.now in
    let put = c.loop-number.order.items in
    let is = subst (λ (xs : List ℕ). IsFromEnd tree xs put) c.in-Some.ensures.items c.loop-number.invariant in
    (end_number tree c.pop.new.self.items c.in-Some.number put is).0

pub bounds-whole-number : goal.bounds-whole-number
bounds-whole-number c =
    let tree = tree_of c.args.whole.now.tree.now in
    let put = c.loop-number.order.items in
    let is = subst (λ (xs : List ℕ). IsFromEnd tree xs put) c.in-Some.ensures.items c.loop-number.invariant in
    let in_tree = end_number tree c.pop.new.self.items c.in-Some.number put is in
    (node_there tree c.args.whole.now.nodes.now c.in-Some.number c.requires.nodes.nodes in_tree.0 in_tree.1).0

pub loop-number-smaller : goal.loop-number-smaller
loop-number-smaller c =
    let tree = tree_of c.args.whole.now.tree.now in
    let put = c.loop-number.order.items in
    let is = subst (λ (xs : List ℕ). IsFromEnd tree xs put) c.in-Some.ensures.items c.loop-number.invariant in
    let in_tree = end_number tree c.pop.new.self.items c.in-Some.number put is in
    let more : length c.push-in-Some.new.self.items ≡ length put + 1 = search rules in
    let few = in_tree.2 in
    omega arith

pub loop-number-preserved : goal.loop-number-preserved
loop-number-preserved c =
    let tree = tree_of c.args.whole.now.tree.now in
    let put = c.loop-number.order.items in
    let ks = c.pop.new.self.items in
    let k = c.in-Some.number in
    let nodes = c.args.whole.now.nodes.now in
    let is = subst (λ (xs : List ℕ). IsFromEnd tree xs put) c.in-Some.ensures.items c.loop-number.invariant in
    let in_tree = end_number tree ks k put is in
    let node : NumberedNode = c.index-whole-number.result in
    let there : node ≡ get_or nodes (k - 1) node = search rules in
    let same : node_of node ≡ numbered_node tree k = ap node_of there ∙ (node_there tree nodes k c.requires.nodes.nodes in_tree.0 in_tree.1).1 node in
    let more : c.push-in-Some.new.self.items ≡ put ++ k ∷ [] = search rules in
    let later : c.put_operands.new.waiting.items ≡ ks ++ map (λ (turn : Turn). turn.number) node.turns.items = search rules in
    subst (λ (xs : List ℕ). IsFromEnd tree c.put_operands.new.waiting.items xs) (sym more)
    (subst (λ (xs : List ℕ). IsFromEnd tree xs (put ++ k ∷ [])) (sym (later ∙ ap (λ (x : Node). ks ++ map (λ (turn : Turn). turn.number) x.turns) same)) (end_next tree ks k put is))

pub returns : goal.returns
returns c =
    let tree = tree_of c.args.whole.now.tree.now in
    let put = c.loop-number.order.items in
    let none : c.loop-number.waiting.items ≡ [] = search rules in
    let turned : c.reverse.new.self.items ≡ _ = c.reverse.ensures.items in
    turned ∙ end_last tree put (subst (λ (xs : List ℕ). IsFromEnd tree xs put) none c.loop-number.invariant)
