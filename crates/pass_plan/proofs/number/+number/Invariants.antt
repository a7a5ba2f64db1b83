use Rattle.std.proofs.Common.{◌≡◌, ◌+◌, ◌∷◌, ◌++◌, map, take, vec_len, length}
use Rattle.pass_plan.specs.Tree.{operands_of, nodes_of}
use Rattle.pass_plan.specs.Shown.{tree_of}
use Rattle.pass_plan.specs.Numbers.{operand_number}
use Rattle.pass_plan.specs.NumberShown.{node_of}
use Rattle.pass_plan.specs.NumberSize.{size_of, no_node}
use Rattle.pass_plan.proofs.Nodes.{nodes_all}
use Rattle.pass_plan.proofs.number.+number.Given as goal

abbrev pub decreases-number : goal.decreases-number
decreases-number l = nodes_of (tree_of l.tree.now)

abbrev pub invariant-loop-place : goal.invariant-loop-place
invariant-loop-place l = record {
  place : l.at ≡ vec_len l.fn.nodes;
  nodes : map node_of l.nodes.items ≡ map node_of l.fn.nodes.items ++ no_node ∷ nodes_all (take l.place (operands_of (tree_of l.tree))) (vec_len l.fn.nodes + 1 + 1);
  sizes : l.sizes.items ≡ map size_of (take l.place (operands_of (tree_of l.tree)));
  count : vec_len l.nodes + 1 ≡ operand_number (operands_of (tree_of l.tree)) l.place (vec_len l.fn.nodes + 1 + 1);
  many : length l.sizes.items ≡ l.place;
}
