-- Inner: a list of numbers gone through place by place.
use Rattle.std.specs.Prelude.{◌≡◌, ℕ, ◌+◌, ◌-◌, ◌<◌, ◌≤◌, List, [], ◌∷◌, map, get_or, length, take, Bool, false, if◌then◌else◌}
use Rattle.std.specs.List.{range_with_len}
use Rattle.pass_plan.specs.declared.node.NumberedNode.{NumberedNode}
use Rattle.pass_plan.specs.Numbers.{inner_of}
use Rattle.pass_plan.specs.NumberShown.{node_of}
use Rattle.eval_order.specs.Order.{Tree, Done, done_by, AreDone, MayCome, no_node}
use Rattle.eval_order.specs.Held.{held_in, held_at}

-- the nodes that came, by their numbers
abbrev pub in_list : List Bool → Done
in_list came k = get_or came k false

-- the node with this number may come
pub record IsReady (nodes : List NumberedNode) (came : List Bool) (k : ℕ) : Type 0 where
  pub low : 1 ≤ k
  pub high : k ≤ length nodes
  pub new : in_list came k ≡ false
  pub operands : AreDone (in_list came) (get_or (map node_of nodes) (k - 1) no_node).turns

abbrev pub trues : List Bool → ℕ
trues [] = 0
trues (b ∷ bs) = (if b then 1 else 0) + trues bs

-- the first numbers of the list came
pub record HasWalked (tree : Tree) (order : List ℕ) (at : ℕ) (came : List Bool) (resting : ℕ) (all : List ℕ)
    : Type 0 where
  pub each : (t : ℕ) → t < at → MayCome tree (take t order) (get_or order t 0)
  pub came_are : (k : ℕ) → in_list came k ≡ done_by (take at order) k
  pub long : length came ≡ inner_of tree + 1
  pub none_zero : in_list came 0 ≡ false
  pub count : trues came ≡ at
  pub results : resting ≡ held_in tree (done_by (take at order)) (done_by (take at order)) 1 false
  pub few : resting ≤ at
  pub held : all ≡ map (held_at tree order) (range_with_len 0 at)
