-- What holds of orders.
use Rattle.std.specs.Prelude.{◌≡◌, ℕ, ◌<◌, ◌≤◌, List, length, true}
use Rattle.pass_plan.specs.Tree.{is_computed}
use Rattle.pass_plan.specs.Label.{label_of}
use Rattle.eval_order.specs.Order.{Tree, IsOrder}
use Rattle.eval_order.specs.Held.{held_at}
use Rattle.eval_order.specs.BestOrder.{best_order}

-- every order holds at some place at least the label
abbrev pub HoldsLabel : Type 0
HoldsLabel = (tree : Tree) (order : List ℕ) → is_computed tree ≡ true → IsOrder tree order → (at : ℕ)
    × (at < length order) × (label_of tree ≤ held_at tree order at)

-- the best order is an order
abbrev pub BestIsOrder : Type 0
BestIsOrder = (tree : Tree) → IsOrder tree (best_order tree)

-- and nowhere holds more than the label
abbrev pub BestHoldsLabel : Type 0
BestHoldsLabel = (tree : Tree) → is_computed tree ≡ true → (at : ℕ) → at < length (best_order tree)
    → held_at tree (best_order tree) at ≤ label_of tree
