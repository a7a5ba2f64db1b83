use Rattle.std.proofs.Common.{◌≡◌, ℕ, ◌+◌, map, drop}
use Rattle.pass_plan.specs.Tree.{operands_of}
use Rattle.pass_plan.specs.Shown.{tree_of}
use Rattle.pass_plan.specs.Numbers.{operand_number}
use Rattle.pass_plan.specs.NumberShown.{node_of, IsSubtree}
use Rattle.pass_plan.proofs.Nodes.{nodes_all}
use Rattle.pass_plan.proofs.subtree.Subtree.operand.Given as goal

abbrev pub invariant-loop-k : goal.invariant-loop-k
invariant-loop-k l =
    (n : ℕ) → IsSubtree l.self n → map node_of l.nodes ≡ nodes_all (drop l.k (operands_of (tree_of l.self.tree.now))) (operand_number (operands_of (tree_of l.self.tree.now)) l.k (n + 1))
