-- The best order of a tree.
use Rattle.std.specs.Prelude.{ℕ, ◌+◌, List, [], ◌∷◌, ◌++◌, get_or}
use Rattle.pass_plan.specs.Tree.{AtLeaf, Literal, One, Two, Cast, Move, Select}
use Rattle.pass_plan.specs.Numbers.{inner_of, places_of}
use Rattle.eval_order.specs.Order.{Tree}

-- the operands' orders, in turn
abbrev pub in_turn : List ℕ → List (List ℕ) → List ℕ
in_turn [] orders = []
in_turn (place ∷ places) orders = get_or orders place [] ++ in_turn places orders

-- the computed operands in turn, each whole, and then the node
abbrev pub node_order : Tree → List (List ℕ) → ℕ → List ℕ
node_order t orders n = in_turn (places_of t) orders ++ n ∷ []

-- the best order of a tree whose root has number n
abbrev pub best_from : Tree → ℕ → List ℕ
best_from (AtLeaf l) n = []
best_from (Literal v) n = []
best_from (One op elem a) n = node_order (One op elem a) (best_from a (n + 1) ∷ []) n
best_from (Two op elem a b) n =
    node_order (Two op elem a b) (best_from a (n + 1) ∷ best_from b (n + 1 + inner_of a) ∷ []) n
best_from (Cast elem from a) n = node_order (Cast elem from a) (best_from a (n + 1) ∷ []) n
best_from (Move elem a) n = node_order (Move elem a) (best_from a (n + 1) ∷ []) n
best_from (Select elem c x y) n =
    let second = n + 1 + inner_of c in
    node_order (Select elem c x y) (best_from c (n + 1) ∷ best_from x second ∷ best_from y (second + inner_of x) ∷ []) n

abbrev pub best_order : Tree → List ℕ
best_order tree = best_from tree 1
