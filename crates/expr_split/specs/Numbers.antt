-- Inner: numbering a tree's leaves onto those that are there.
use Rattle.std.specs.Prelude.{◌≡◌, ◌≢◌, ℕ, ◌+◌, ◌<◌, ◌≤◌, List, ◌++◌, length, get_or, All, AllPairs}
use Rattle.pass_plan.specs.declared.leaf.Leaf.{Leaf}
use Rattle.pass_plan.specs.Tree.{TreeOver, leaves_of, with_leaves, nodes_of}
use Rattle.pass_plan.specs.Pass.{no_leaf}
use Rattle.pass_plan.specs.Sound.{CountUp}

-- the tree's leaves have these numbers, and new ones went last, each once
pub record NumbersOnto (t : TreeOver Leaf) (before after : List Leaf) (numbered : TreeOver ℕ) : Type 0 where
  pub new : List Leaf
  pub after_is : after ≡ before ++ new
  pub is : with_leaves numbered (λ k. get_or after k no_leaf) ≡ t
  pub counted : CountUp (leaves_of numbered) (length before) (length after)
  pub within : All (λ k. k < length after) (leaves_of numbered)
  pub once : AllPairs (λ a b. a ≢ b) before → AllPairs (λ a b. a ≢ b) after
  pub few : length after ≤ length before + nodes_of t
