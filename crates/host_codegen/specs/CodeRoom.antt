-- How many instructions the code of a split has at most: from its passes' kinds, leaves and trees alone, whatever its
-- tiles and its scratchpad.
use Rattle.std.specs.Prelude.{ℕ, ◌+◌, ◌*◌, length, sum_by}
use Rattle.ven_base.specs.declared.mapping.Mapping.{Mapping}
use Rattle.ven_base.specs.declared.mapping.Mapping.TheVariants.{Identity, Shift, Rotate, Section, Stretch, Transpose}
use Rattle.ven_base.specs.declared.ops.Fold.TheVariants as fold
use Rattle.pass_plan.specs.declared.leaf.Leaf.{Leaf}
use Rattle.pass_plan.specs.declared.pass.PassKind.{PassKind}
use Rattle.pass_plan.specs.declared.pass.PassKind.TheVariants.{Map, Reduce}
use Rattle.pass_plan.specs.Numbers.{inner_of}
use Rattle.pass_plan.specs.Pass.{Pass}
use Rattle.pass_plan.specs.Sound.{Split}
use Rattle.transfer_programs.specs.CostLaws.{leaf_room, fill_room}

-- a leaf's reads, its buffer's name and its fills
abbrev pub leaf_share : Leaf → ℕ
leaf_share leaf = leaf_room leaf.map + (fill_room leaf.map + 1)

-- the vector instruction of an inner node
abbrev pub step_share : ℕ
step_share = 14

-- what the kind of a pass takes at its root
abbrev pub root_share : PassKind → ℕ
root_share Map = 14
root_share (Reduce fold.Sum) = 54
root_share (Reduce fold.Min) = 140
root_share (Reduce fold.Max) = 140

-- the loop over tiles, a tile's numbers, its waits and its write
abbrev pub pass_share : ℕ
pass_share = 170

abbrev pub pass_room : Pass → ℕ
pass_room pass =
    pass_share + (root_share pass.kind + (step_share * inner_of pass.tree + sum_by leaf_share pass.leaves))

-- with the halt behind all passes
abbrev pub code_room : Split → ℕ
code_room split = 1 + sum_by pass_room split.passes

-- ---- by numbers of passes, nodes and leaves

-- what a map takes at most beyond an array that is read as it is
abbrev pub map_share : Mapping → ℕ
map_share Identity = 0
map_share (Shift dr dc fill) = 131
map_share (Rotate dr dc) = 275
map_share (Section r0 nr sr c0 nc sc) = 128
map_share (Stretch kr kc) = 688
map_share Transpose = 116

-- the leaves of all passes, and what their maps take
abbrev pub leaves_in : Split → ℕ
leaves_in split = sum_by (λ (pass : Pass). length pass.leaves) split.passes

abbrev pub maps_in : Split → ℕ
maps_in split = sum_by (λ (pass : Pass). sum_by (λ (leaf : Leaf). map_share leaf.map) pass.leaves) split.passes

-- the most nodes of a split that has code
abbrev pub split_nodes_limit : ℕ
split_nodes_limit = 1000000
