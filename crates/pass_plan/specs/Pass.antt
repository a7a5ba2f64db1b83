-- Passes, and what they make of whole arrays.
use Rattle.std.specs.Prelude.{ℕ, ℤ, List, [], ◌∷◌, get_or, ◌==◌, if◌then◌else◌}
use Rattle.ven_base.specs.declared.elem.Elem.{Elem}
use Rattle.ven_base.specs.declared.elem.Elem.TheVariants.{U8}
use Rattle.ven_base.specs.declared.mapping.Mapping.TheVariants.{Identity}
use Rattle.ven_base.specs.Extent.{Extent}
use Rattle.ven_base.specs.Grid.{Grid, mapped_at}
pub use Rattle.ven_base.specs.Grid.{row_values, values_with, grid_with}
use Rattle.ven_base.specs.Folding.{folded}
use Rattle.pass_plan.specs.declared.leaf.Leaf.{Leaf}
use Rattle.pass_plan.specs.declared.pass.PassKind.{PassKind}
use Rattle.pass_plan.specs.declared.pass.PassKind.TheVariants.{Map, Reduce}
use Rattle.pass_plan.specs.Tree.{TreeOver, value_of}

pub record Pass : Type 0 where
  pub kind : PassKind
  pub domain : Extent
  pub leaves : List Leaf
  pub tree : TreeOver ℕ
  pub dest : ℕ
  pub elem : Elem

-- the most passes of a program, and the most nodes of a tree and leaves of a pass
abbrev pub pass_limit : ℕ
pass_limit = 8192

abbrev pub node_limit : ℕ
node_limit = 8192

-- past the end of a list of leaves
abbrev pub no_leaf : Leaf
no_leaf = record { array = 0; elem = U8; shape = record { rows = 1; cols = 1 }; map = Identity }

-- arrays by their numbers
abbrev pub Arrays : Type 0
Arrays = ℕ → Grid

-- the same with another array at a number
abbrev pub with_array : Arrays → ℕ → Grid → Arrays
with_array arrays dest array k = if k == dest then array else arrays k

-- ---- values

-- the array of a leaf, in the shape as which the leaf reads it
abbrev pub read_as : Leaf → Grid → Grid
read_as leaf array = record { elem = leaf.elem; shape = leaf.shape; values = array.values }

-- a leaf's value in row i and column j of the domain
abbrev pub leaf_at : Arrays → Leaf → (i j : ℕ) → ℤ
leaf_at arrays leaf i j = mapped_at leaf.map (read_as leaf (arrays leaf.array)) i j

-- the tree's value in row i and column j of the domain
abbrev pub tree_at : Arrays → Pass → (i j : ℕ) → ℤ
tree_at arrays pass i j = value_of pass.tree (λ k. leaf_at arrays (get_or pass.leaves k no_leaf) i j)

-- the shape of what a pass makes
abbrev pub result_of : PassKind → Extent → Extent
result_of Map domain = domain
result_of (Reduce fold) domain = record { rows = domain.rows; cols = 1 }

-- the values of what a pass makes, in row i and column j: the tree's, or the row's reduction
abbrev pub made_at : Arrays → Pass → PassKind → (i j : ℕ) → ℤ
made_at arrays pass Map i j = tree_at arrays pass i j
made_at arrays pass (Reduce fold) i j = folded fold pass.elem (row_values pass.domain.cols (tree_at arrays pass i))

-- the array that a pass makes
abbrev pub pass_array : Arrays → Pass → Grid
pass_array arrays pass = grid_with pass.elem (result_of pass.kind pass.domain) (made_at arrays pass pass.kind)

-- the arrays after the passes, done in order on whole arrays
abbrev pub arrays_after : List Pass → Arrays → Arrays
arrays_after [] arrays = arrays
arrays_after (pass ∷ passes) arrays = arrays_after passes (with_array arrays pass.dest (pass_array arrays pass))
