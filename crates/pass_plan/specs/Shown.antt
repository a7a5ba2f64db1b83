-- The trees, passes and splits of the code as plain values.
use Rattle.std.specs.Prelude.{ℕ, List, map}
use Rattle.pass_plan.specs.declared.tree.Tree.{Tree, Leaf, Literal, One', Two', Cast', Move', Select'}
use Rattle.pass_plan.specs.declared.pass.Pass.{Pass}
use Rattle.pass_plan.specs.declared.split.Split.{Split}
use Rattle.pass_plan.specs.Tree as plain
use Rattle.pass_plan.specs.Tree.{TreeOver}
use Rattle.pass_plan.specs.Pass as plain_pass
use Rattle.pass_plan.specs.Sound as sound

-- the tree, by the numbers of its leaves
abbrev pub tree_of : Tree → TreeOver ℕ
tree_of (Leaf k) = plain.AtLeaf k
tree_of (Literal n) = plain.Literal n
tree_of (One' op elem p a) = plain.One op elem (tree_of a)
tree_of (Two' op elem p a q b) = plain.Two op elem (tree_of a) (tree_of b)
tree_of (Cast' elem from p a) = plain.Cast elem from (tree_of a)
tree_of (Move' elem p a) = plain.Move elem (tree_of a)
tree_of (Select' elem p c q x r y) = plain.Select elem (tree_of c) (tree_of x) (tree_of y)

abbrev pub pass_of : Pass → plain_pass.Pass
pass_of pass = record {
  kind = pass.kind;
  domain = pass.domain;
  leaves = pass.leaves.items;
  tree = tree_of pass.tree;
  dest = pass.dest;
  elem = pass.elem;
}

abbrev pub passes_of : List Pass → List plain_pass.Pass
passes_of passes = map pass_of passes

abbrev pub split_of : Split → sound.Split
split_of split = record {
  passes = passes_of split.passes.items;
  arrays = split.arrays.items;
  table = split.table.items;
  memory = split.memory;
}
