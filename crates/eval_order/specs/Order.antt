-- Orders of evaluation: lists of node numbers.
use Rattle.std.specs.Prelude.{◌≡◌, ℕ, ◌-◌, ◌<◌, ◌≤◌, List, [], ◌∷◌, length, get_or, take, Bool, true, false, ◌==◌, ◌||◌}
use Rattle.pass_plan.specs.Tree.{TreeOver}
use Rattle.pass_plan.specs.declared.turn.Turn.{Turn}
use Rattle.pass_plan.specs.Numbers.{Node, inner_of, nodes_from}

-- a tree over the numbers of its leaves
abbrev pub Tree : Type 0
Tree = TreeOver ℕ

-- ---- sets of nodes

abbrev pub Done : Type 0
Done = ℕ → Bool

-- the nodes of a list
abbrev pub done_by : List ℕ → Done
done_by [] k = false
done_by (j ∷ js) k = (j == k) || done_by js k

-- all operands of a node are done
abbrev pub AreDone : Done → List Turn → Type 0
AreDone done [] = Unit {0}
AreDone done (turn ∷ turns) = (done turn.number ≡ true) × AreDone done turns

-- ---- orders

-- past the last node
abbrev pub no_node : Node
no_node = record { number = 0; label = 0; inner = 0; least = 0; turns = [] }

-- the inner node with this number, from 1
abbrev pub numbered_node : Tree → ℕ → Node
numbered_node tree k = get_or (nodes_from tree 1) (k - 1) no_node

-- node k may come next, after these: it is a node of the tree, is new, and its computed operands came
pub record MayCome (tree : Tree) (before : List ℕ) (k : ℕ) : Type 0 where
  pub low : 1 ≤ k
  pub high : k ≤ inner_of tree
  pub new : done_by before k ≡ false
  pub operands : AreDone (done_by before) (numbered_node tree k).turns

-- an order: each node may come at its place, and none is missing
pub record IsOrder (tree : Tree) (order : List ℕ) : Type 0 where
  pub each : (at : ℕ) → at < length order → MayCome tree (take at order) (get_or order at 0)
  pub all : (k : ℕ) → 1 ≤ k → k ≤ inner_of tree → done_by order k ≡ true

-- the first place at which a list is no order: that of the first number that may not come, or the list's length where
-- a node is missing
pub record IsFault (tree : Tree) (order : List ℕ) (at : ℕ) : Type 0 where
  pub earlier : (t : ℕ) → t < at → MayCome tree (take t order) (get_or order t 0)
  pub within : at ≤ length order
  pub here : at < length order → MayCome tree (take at order) (get_or order at 0) → ⊥
  pub missing : at ≡ length order → (k : ℕ) × (1 ≤ k) × (k ≤ inner_of tree) × (done_by order k ≡ false)
