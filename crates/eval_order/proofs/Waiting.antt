-- The best order made from its end: the trees that wait, each with its own best order, and what was put behind them.
use Rattle.std.proofs.Common.{◌≡◌, ℕ, ◌+◌, ◌-◌, ◌<◌, ◌≤◌, List, [], ◌∷◌, ◌++◌, length, get_or, map, append_assoc, append-nil, length-append, refl, sym, ap, ◌∙◌, subst, arith, true}
use Rattle.std.specs.Prelude.{reverse}
use Rattle.std.proofs.lemmas.Bool.{cases_lt}
use Rattle.std.proofs.lemmas.List.{length-reverse, reverse-append, length-map, get_or-map, get_or_past}
use mathlib.Core.Logic.{⊎_elim}
use Rattle.pass_plan.specs.Tree.{AtLeaf, Literal, One, Two, Cast, Move, Select, is_computed, operands_of}
use Rattle.pass_plan.specs.Label.{label_of}
use Rattle.pass_plan.specs.declared.turn.Turn.{Turn}
use Rattle.pass_plan.specs.declared.node.NumberedNode.{NumberedNode}
use Rattle.pass_plan.specs.NumberShown.{node_of}
use Rattle.pass_plan.specs.Numbers.{Node, inner_of, insert_turn, turns_of, places_of, node_at, nodes_from}
use Rattle.pass_plan.proofs.Nodes.{nodes_all, nodes_whole, length-nodes}
use Rattle.pass_plan.proofs.Turns.{places_alike}
use Rattle.pass_plan.proofs.TurnLabels.{inner_positive}
use Rattle.pass_plan.proofs.Each.{Each, Each-insert, insert-cases, with-cases}
use Rattle.eval_order.specs.Order.{Tree, no_node, numbered_node}
use Rattle.eval_order.specs.BestOrder.{in_turn, best_from, best_order}
use Rattle.eval_order.proofs.Nodes.{Each-left, Each-right, inner_in, inner_below, no_inner, number_at, lookup}
use Rattle.eval_order.proofs.Ranges.{orders_from, best_whole}

abbrev AreThose : (ℕ → Node) → List Node → Type 0
AreThose node nodes = Each (λ x. node x.number ≡ x) nodes

-- the best order of a tree whose root has number k
pub record IsBestAt (node : ℕ → Node) (k : ℕ) (order : List ℕ) : Type 0 where
  pub tree : Tree
  pub inner : is_computed tree ≡ true
  pub those : AreThose node (nodes_from tree k)
  pub is : order ≡ best_from tree k

-- the best orders of trees with these numbers, one after another
abbrev pub AreBest : (ℕ → Node) → List ℕ → List ℕ → Type 0
AreBest node [] order = order ≡ []
AreBest node (k ∷ ks) order = (first : List ℕ) × (rest : List ℕ) × IsBestAt node k first × AreBest node ks rest × (order ≡ first ++ rest)

AreBest-append : (node : ℕ → Node) (ks js xs ys : List ℕ) → AreBest node ks xs → AreBest node js ys → AreBest node (ks ++ js) (xs ++ ys)
AreBest-append node [] js xs ys h g = subst (λ (zs : List ℕ). AreBest node js (zs ++ ys)) (sym h) g
AreBest-append node (k ∷ ks) js xs ys h g = (h.0, h.1 ++ ys, h.2, AreBest-append node ks js h.1 ys h.3 g, ap (λ zs. zs ++ ys) h.4 ∙ append_assoc h.0 h.1 ys)

AreBest-last : (node : ℕ → Node) (ks : List ℕ) (k : ℕ) (order : List ℕ) → AreBest node (ks ++ k ∷ []) order
    → (before : List ℕ) × (last : List ℕ) × AreBest node ks before × IsBestAt node k last × (order ≡ before ++ last)
AreBest-last node [] k order h = ([], h.0, refl, h.2, h.4 ∙ ap (λ xs. h.0 ++ xs) h.3 ∙ append-nil h.0)
AreBest-last node (j ∷ ks) k order h =
    let r = AreBest-last node ks k h.1 h.3 in
    (h.0 ++ r.0, r.1, (h.0, r.0, h.2, r.2, refl), r.3, h.4 ∙ ap (λ xs. h.0 ++ xs) r.4 ∙ sym (append_assoc h.0 r.0 r.1))

-- ---- a node's operands

-- of each operand, by its place and its number; the first has place k and number m
abbrev EachOperand : (ℕ → ℕ → Tree → Type 0) → List Tree → (k m : ℕ) → Type 0
EachOperand P [] k m = Unit {0}
EachOperand P (u ∷ us) k m = P k m u × EachOperand P us (k + 1) (m + inner_of u)

each_turn : (P : Turn → Type 0) (us : List Tree) (k m : ℕ) → EachOperand (λ j i u. is_computed u ≡ true → P (record { place = j; number = i; label = label_of u })) us k m → Each P (turns_of us k m)
each_turn P [] k m h = tt
each_turn P (u ∷ us) k m h =
    let turn : Turn = record { place = k; number = m; label = label_of u } in
    let later = each_turn P us (k + 1) (m + inner_of u) h.1 in
    with-cases (λ r. Each P r) u turn (turns_of us (k + 1) (m + inner_of u)) (λ e. Each-insert P turn (turns_of us (k + 1) (m + inner_of u)) (h.0 e) later) (λ e. later)

operands_best : (node : ℕ → Node) (t : Tree) (n : ℕ) → AreThose node (nodes_all (operands_of t) (n + 1))
    → EachOperand (λ j i u. is_computed u ≡ true → IsBestAt node i (get_or (orders_from (operands_of t) (n + 1)) j [])) (operands_of t) 0 (n + 1)
operands_best node (AtLeaf l) n h = tt
operands_best node (Literal v) n h = tt
operands_best node (One op elem a) n h = ((λ c. record { tree = a; inner = c; those = Each-left (λ x. node x.number ≡ x) (nodes_from a (n + 1)) [] h; is = refl }), tt)
operands_best node (Cast elem from a) n h = ((λ c. record { tree = a; inner = c; those = Each-left (λ x. node x.number ≡ x) (nodes_from a (n + 1)) [] h; is = refl }), tt)
operands_best node (Move elem a) n h = ((λ c. record { tree = a; inner = c; those = Each-left (λ x. node x.number ≡ x) (nodes_from a (n + 1)) [] h; is = refl }), tt)
operands_best node (Two op elem a b) n h =
    let j = n + 1 + inner_of a in
    let later = Each-right (λ x. node x.number ≡ x) (nodes_from a (n + 1)) (nodes_from b j ++ []) h in (
      (λ c. record { tree = a; inner = c; those = Each-left (λ x. node x.number ≡ x) (nodes_from a (n + 1)) (nodes_from b j ++ []) h; is = refl }),
      ((λ c. record { tree = b; inner = c; those = Each-left (λ x. node x.number ≡ x) (nodes_from b j) [] later; is = refl }), tt),
    )
operands_best node (Select elem q a b) n h =
    let i = n + 1 + inner_of q in
    let j = i + inner_of a in
    let later = Each-right (λ x. node x.number ≡ x) (nodes_from q (n + 1)) (nodes_from a i ++ (nodes_from b j ++ [])) h in
    let last = Each-right (λ x. node x.number ≡ x) (nodes_from a i) (nodes_from b j ++ []) later in (
      (λ c. record { tree = q; inner = c; those = Each-left (λ x. node x.number ≡ x) (nodes_from q (n + 1)) (nodes_from a i ++ (nodes_from b j ++ [])) h; is = refl }),
      (
        (λ c. record { tree = a; inner = c; those = Each-left (λ x. node x.number ≡ x) (nodes_from a i) (nodes_from b j ++ []) later; is = refl }),
        ((λ c. record { tree = b; inner = c; those = Each-left (λ x. node x.number ≡ x) (nodes_from b j) [] last; is = refl }), tt),
      ),
    )

turns_best : (node : ℕ → Node) (orders : List (List ℕ)) (turns : List Turn) → Each (λ turn. IsBestAt node turn.number (get_or orders turn.place [])) turns
    → AreBest node (map (λ turn. turn.number) turns) (in_turn (map (λ turn. turn.place) turns) orders)
turns_best node orders [] h = refl
turns_best node orders (turn ∷ turns) h = (get_or orders turn.place [], in_turn (map (λ turn. turn.place) turns) orders, h.0, turns_best node orders turns h.1, refl)

-- a tree's best order is that of its operands, and then its root
below_root : (node : ℕ → Node) (k : ℕ) (order : List ℕ) → IsBestAt node k order
    → (before : List ℕ) × AreBest node (map (λ turn. turn.number) (node k).turns) before × (order ≡ before ++ k ∷ [])
below_root node k order b =
    let us = operands_of b.tree in
    let orders = orders_from us (k + 1) in
    let turns = turns_of us 0 (k + 1) in
    let nodes = subst (λ (xs : List Node). AreThose node xs) (nodes_whole b.tree k b.inner) b.those in
    let each = each_turn (λ turn. IsBestAt node turn.number (get_or orders turn.place [])) us 0 (k + 1) (operands_best node b.tree k nodes.1) in
    let best = subst (λ (ps : List ℕ). AreBest node (map (λ turn. turn.number) turns) (in_turn ps orders)) (places_alike us 0 (k + 1) 1) (turns_best node orders turns each) in (
      in_turn (places_of b.tree) orders,
      subst (λ (x : Node). AreBest node (map (λ turn. turn.number) x.turns) (in_turn (places_of b.tree) orders)) (sym nodes.0) best,
      b.is ∙ best_whole b.tree k b.inner,
    )

-- it is one of the tree's nodes
in_tree : (tree : Tree) (k : ℕ) (order : List ℕ) → IsBestAt (numbered_node tree) k order → (1 ≤ k) × (k ≤ inner_of tree)
in_tree tree k order b =
    let nodes = subst (λ (xs : List Node). AreThose (numbered_node tree) xs) (nodes_whole b.tree k b.inner) b.those in
    let here : numbered_node tree k ≡ node_at b.tree k = nodes.0 in
    let number : (numbered_node tree k).number ≡ k = ap (λ x. x.number) here in
    let inner : (numbered_node tree k).inner ≡ inner_of b.tree = ap (λ x. x.inner) here in
    let some = inner_positive b.tree b.inner in
    ⊎_elim
    (λ l. let at = number_at tree (k - 1) l in let e : k ≡ k - 1 + 1 = sym number ∙ at in (omega arith, omega arith))
    (λ g. let none : (numbered_node tree k).inner ≡ 0 = ap (λ x. x.inner) (get_or_past (nodes_from tree 1) (k - 1) no_node (omega (arith, length-nodes tree 1))) in absurd (omega arith))
    (cases_lt (k - 1) (inner_of tree))

-- ---- each node stands once in the best order

abbrev total : (Turn → ℕ) → List Turn → ℕ
total f [] = 0
total f (turn ∷ turns) = f turn + total f turns

total-insert : (f : Turn → ℕ) (turn : Turn) (turns : List Turn) → total f (insert_turn turn turns) ≡ f turn + total f turns
total-insert f turn [] = refl
total-insert f turn (next ∷ turns) =
    let later = total-insert f turn turns in
    insert-cases (λ r. total f r ≡ f turn + total f (next ∷ turns)) turn next turns (omega arith) refl

total_turns : (f : Turn → ℕ) (us : List Tree) (k m : ℕ) → EachOperand (λ j i u. is_computed u ≡ true → f (record { place = j; number = i; label = label_of u }) ≡ inner_of u) us k m → total f (turns_of us k m) ≡ inner_in us
total_turns f [] k m h = refl
total_turns f (u ∷ us) k m h =
    let turn : Turn = record { place = k; number = m; label = label_of u } in
    let later = total_turns f us (k + 1) (m + inner_of u) h.1 in
    with-cases (λ r. total f r ≡ inner_in (u ∷ us)) u turn (turns_of us (k + 1) (m + inner_of u))
    (λ e. let one = h.0 e in let all = total-insert f turn (turns_of us (k + 1) (m + inner_of u)) in omega arith)
    (λ e. let none = no_inner u e in omega arith)

length-turns : (orders : List (List ℕ)) (turns : List Turn) → length (in_turn (map (λ turn. turn.place) turns) orders) ≡ total (λ turn. length (get_or orders turn.place [])) turns
length-turns orders [] = refl
length-turns orders (turn ∷ turns) =
    let later = length-turns orders turns in
    let all = length-append (get_or orders turn.place []) (in_turn (map (λ turn. turn.place) turns) orders) in
    omega arith

length-node : (t : Tree) (n : ℕ) → is_computed t ≡ true → EachOperand (λ j i u. is_computed u ≡ true → length (get_or (orders_from (operands_of t) (n + 1)) j []) ≡ inner_of u) (operands_of t) 0 1
    → length (in_turn (places_of t) (orders_from (operands_of t) (n + 1)) ++ n ∷ []) ≡ inner_of t
length-node t n inner h =
    let orders = orders_from (operands_of t) (n + 1) in
    let all = total_turns (λ turn. length (get_or orders turn.place [])) (operands_of t) 0 1 h in
    let same = length-turns orders (turns_of (operands_of t) 0 1) in
    let two = length-append (in_turn (places_of t) orders) (n ∷ []) in
    let whole = inner_below t inner in
    omega arith

length-best : (t : Tree) (n : ℕ) → length (best_from t n) ≡ inner_of t
length-best (AtLeaf l) n = refl
length-best (Literal v) n = refl
length-best (One op elem a) n = length-node (One op elem a) n refl ((λ c. length-best a (n + 1)), tt)
length-best (Cast elem from a) n = length-node (Cast elem from a) n refl ((λ c. length-best a (n + 1)), tt)
length-best (Move elem a) n = length-node (Move elem a) n refl ((λ c. length-best a (n + 1)), tt)
length-best (Two op elem a b) n = length-node (Two op elem a b) n refl ((λ c. length-best a (n + 1)), ((λ c. length-best b (n + 1 + inner_of a)), tt))
length-best (Select elem q a b) n =
    length-node (Select elem q a b) n refl ((λ c. length-best q (n + 1)), ((λ c. length-best a (n + 1 + inner_of q)), ((λ c. length-best b (n + 1 + inner_of q + inner_of a)), tt)))

-- ---- from the end

-- the best orders of the trees that wait, and then what was put, make the best order
pub record IsFromEnd (tree : Tree) (waiting put : List ℕ) : Type 0 where
  pub before : List ℕ
  pub best : AreBest (numbered_node tree) waiting before
  pub whole : best_order tree ≡ before ++ reverse put

pub end_first : (tree : Tree) → is_computed tree ≡ true → IsFromEnd tree (1 ∷ []) []
end_first tree inner =
    let order = best_order tree in
    record { before = order; best = (order, [], record { tree = tree; inner = inner; those = lookup tree; is = refl }, refl, sym (append-nil order)); whole = sym (append-nil order) }

pub end_next : (tree : Tree) (ks : List ℕ) (k : ℕ) (put : List ℕ) → IsFromEnd tree (ks ++ k ∷ []) put → IsFromEnd tree (ks ++ map (λ turn. turn.number) (numbered_node tree k).turns) (put ++ k ∷ [])
end_next tree ks k put is =
    let node : ℕ → Node = numbered_node tree in
    let l = AreBest-last node ks k is.before is.best in
    let n = below_root node k l.1 l.3 in
    let before = l.0 ++ n.0 in
    let last : is.before ≡ before ++ k ∷ [] = l.4 ∙ ap (λ xs. l.0 ++ xs) n.2 ∙ sym (append_assoc l.0 n.0 (k ∷ [])) in
    record {
      before = before;
      best = AreBest-append node ks (map (λ turn. turn.number) (node k).turns) l.0 n.0 l.2 n.1;
      whole = is.whole ∙ ap (λ xs. xs ++ reverse put) last ∙ append_assoc before (k ∷ []) (reverse put) ∙ ap (λ xs. before ++ xs) (sym (reverse-append put (k ∷ [])));
    }

pub end_number : (tree : Tree) (ks : List ℕ) (k : ℕ) (put : List ℕ) → IsFromEnd tree (ks ++ k ∷ []) put → (1 ≤ k) × (k ≤ inner_of tree) × (length put < inner_of tree)
end_number tree ks k put is =
    let node : ℕ → Node = numbered_node tree in
    let l = AreBest-last node ks k is.before is.best in
    let n = below_root node k l.1 l.3 in
    let at = in_tree tree k l.1 l.3 in
    let whole = ap length is.whole in
    let a = length-append is.before (reverse put) in
    let b = length-append l.0 l.1 in
    let c = length-append n.0 (k ∷ []) in
    let d = length-reverse put in
    let e = ap length l.4 in
    let f = ap length n.2 in
    let g = length-best tree 1 in
    (at.0, at.1, omega arith)

pub end_last : (tree : Tree) (put : List ℕ) → IsFromEnd tree [] put → reverse put ≡ best_order tree
end_last tree put is = sym (is.whole ∙ ap (λ xs. xs ++ reverse put) is.best)

-- the table's node
pub node_there : (tree : Tree) (nodes : List NumberedNode) (k : ℕ) → map node_of nodes ≡ nodes_from tree 1 → 1 ≤ k → k ≤ inner_of tree
    → (k - 1 < length nodes) × ((d : NumberedNode) → node_of (get_or nodes (k - 1) d) ≡ numbered_node tree k)
node_there tree nodes k is low high =
    let below : k - 1 < length nodes = omega (arith, ap length is, length-map nodes node_of, length-nodes tree 1) in
    (below, λ d. sym (get_or-map node_of nodes (k - 1) d no_node below) ∙ ap (λ xs. get_or xs (k - 1) no_node) is)
