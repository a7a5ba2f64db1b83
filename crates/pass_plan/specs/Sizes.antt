-- How large a split is: the nodes of its trees, and the leaves that are read under a map.
use Rattle.std.specs.Prelude.{ℕ, sum_by}
use Rattle.ven_base.specs.declared.mapping.Mapping.{Mapping}
use Rattle.ven_base.specs.declared.mapping.Mapping.TheVariants.{Identity}
use Rattle.pass_plan.specs.declared.leaf.Leaf.{Leaf}
use Rattle.pass_plan.specs.Tree.{nodes_of}
use Rattle.pass_plan.specs.Pass.{Pass}
use Rattle.pass_plan.specs.Sound.{Split}

-- the nodes of all passes
abbrev pub nodes_in : Split → ℕ
nodes_in split = sum_by (λ (pass : Pass). nodes_of pass.tree) split.passes

-- how many leaves of all passes are read under a map other than the identity: in the code of the passes each of them
-- takes more than an array that is read as it stands
abbrev pub map_count : Mapping → ℕ
map_count Identity = 0
map_count _ = 1

abbrev pub mapped_in : Split → ℕ
mapped_in split = sum_by (λ (pass : Pass). sum_by (λ (leaf : Leaf). map_count leaf.map) pass.leaves) split.passes
