-- Inner: the code's nodes and subtrees as plain values.
use Rattle.std.specs.Prelude.{◌≡◌, ℕ, pos, List, ◌++◌, map}
use Rattle.pass_plan.specs.Tree as plain
use Rattle.pass_plan.specs.Tree.{TreeOver}
use Rattle.pass_plan.specs.Shown.{tree_of}
use Rattle.pass_plan.specs.declared.node.NumberedNode.{NumberedNode}
use Rattle.pass_plan.specs.declared.subtree.Subtree.{Subtree}
use Rattle.pass_plan.specs.Numbers.{Node, nodes_from}

abbrev pub node_of : NumberedNode → Node
node_of node = record {
  number = node.number;
  label = node.label;
  inner = node.inner;
  least = node.least;
  turns = node.turns.items;
}

-- past the last operand
abbrev pub no_tree : TreeOver ℕ
no_tree = plain.Literal (pos 0)

-- the nodes are the tree's, whose root has number n
pub record IsSubtree (subtree : Subtree) (n : ℕ) : Type 0 where
  pub nodes : map node_of subtree.nodes.now ≡ nodes_from (tree_of subtree.tree.now) n

-- the first of these nodes are the tree's
pub record BeginsWith (nodes : List NumberedNode) (tree : TreeOver ℕ) : Type 0 where
  pub number : ℕ
  pub rest : List Node
  pub is : map node_of nodes ≡ nodes_from tree number ++ rest
