-- What scratchpad passes need, and how many steps they take at most.
use Rattle.std.specs.Prelude.{ℕ, ◌+◌, ◌*◌, ◌≤◌, max, List, map, fold, length, sum_by, All}
use Rattle.ven_base.specs.Elem.{size_of}
use Rattle.ven_base.specs.Extent.{elements_of}
use Rattle.pass_plan.specs.declared.leaf.Leaf.{Leaf}
use Rattle.pass_plan.specs.declared.pass.PassKind.{PassKind}
use Rattle.pass_plan.specs.declared.pass.PassKind.TheVariants.{Map, Reduce}
use Rattle.pass_plan.specs.Tree.{nodes_of, widest_of}
use Rattle.pass_plan.specs.Label.{label_of}
use Rattle.pass_plan.specs.Pass.{Pass, pass_limit, node_limit}

-- the greatest of some numbers, and 0 where there are none
abbrev pub greatest : List ℕ → ℕ
greatest ns = fold max 0 ns

-- two output halves, and in a reduction its partial result
abbrev pub result_buffers : PassKind → ℕ
result_buffers Map = 2
result_buffers (Reduce fold) = 3

-- how many buffers a pass has: two for each leaf, one for each result that is held at once, and those of its results
abbrev pub buffers_of : Pass → ℕ
buffers_of pass = 2 * length pass.leaves + label_of pass.tree + result_buffers pass.kind

-- the greatest size in bytes of an element among its results, its leaves and its nodes
abbrev pub widest_leaf : List Leaf → ℕ
widest_leaf leaves = greatest (map (λ (leaf : Leaf). size_of leaf.elem) leaves)

abbrev pub widest_in : Pass → ℕ
widest_in pass = max (size_of pass.elem) (max (widest_leaf pass.leaves) (widest_of pass.tree))

-- the scratchpad that a pass needs: for tiles of one element
abbrev pub pass_need : Pass → ℕ
pass_need pass = buffers_of pass * widest_in pass

abbrev pub need_of : List Pass → ℕ
need_of passes = greatest (map pass_need passes)

-- a pass's share of the bound
abbrev pub pass_work : Pass → ℕ
pass_work pass = elements_of pass.domain * (nodes_of pass.tree + 8)

-- how many steps the passes take at most
abbrev pub bound_of : List Pass → ℕ
bound_of passes = 256 * (1 + sum_by pass_work passes)

-- so few leaves and nodes that the numbers are small
pub record IsSmall (pass : Pass) : Type 0 where
  pub few_leaves : length pass.leaves ≤ node_limit
  pub few_nodes : nodes_of pass.tree ≤ node_limit

-- and so few passes
pub record AreSmall (passes : List Pass) : Type 0 where
  pub few : length passes ≤ pass_limit
  pub each : All IsSmall passes
