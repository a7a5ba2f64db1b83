-- The room of a sound split by its nodes and its leaves under maps.
use Rattle.std.proofs.Common.{ℕ, ◌*◌, ◌≤◌, List, [], ◌∷◌, length, arith}
use Rattle.std.specs.Prelude.{sum_by}
use Rattle.std.proofs.lemmas.List.Sums.{sum_by-cons}
use Rattle.ven_base.specs.declared.mapping.Mapping.{Mapping}
use Rattle.ven_base.specs.declared.mapping.Mapping.TheVariants.{Identity, Shift, Rotate, Section, Stretch, Transpose}
use Rattle.pass_plan.specs.declared.leaf.Leaf.{Leaf}
use Rattle.pass_plan.specs.declared.split.ArrayPlace.{ArrayPlace}
use Rattle.pass_plan.specs.Tree.{nodes_of, leaves_of}
use Rattle.pass_plan.specs.Pass.{Pass}
use Rattle.pass_plan.specs.Sizes.{map_count}
use Rattle.pass_plan.specs.Sound.{IsSoundPass, AreSound}
use Rattle.vector_codegen.proofs.PassLaws.{leaves_occur, nodes_at_least}
use Rattle.host_codegen.specs.CodeRoom.{map_share}
use Rattle.host_codegen.specs.CostLaws.{LeavesAreFew, RoomIsEnough, RoomsAreSmall}
use Rattle.host_codegen.proofs.CostRooms.{room_is_bounded}

map_few : (mapping : Mapping) → map_share mapping ≤ 688 * map_count mapping
map_few Identity = omega arith
map_few (Shift dr dc fill) = omega arith
map_few (Rotate dr dc) = omega arith
map_few (Section r0 nr sr c0 nc sc) = omega arith
map_few (Stretch kr kc) = omega arith
map_few Transpose = omega arith

map_once : (mapping : Mapping) → map_count mapping ≤ 1
map_once Identity = omega arith
map_once (Shift dr dc fill) = omega arith
map_once (Rotate dr dc) = omega arith
map_once (Section r0 nr sr c0 nc sc) = omega arith
map_once (Stretch kr kc) = omega arith
map_once Transpose = omega arith

abbrev shares : List Leaf → ℕ
shares leaves = sum_by (λ (leaf : Leaf). map_share leaf.map) leaves

abbrev mapped : List Leaf → ℕ
mapped leaves = sum_by (λ (leaf : Leaf). map_count leaf.map) leaves

leaf_maps_few : (leaves : List Leaf) → shares leaves ≤ 688 * mapped leaves
leaf_maps_few [] = omega arith
leaf_maps_few (leaf ∷ leaves) =
    omega (arith, sum_by-cons (λ (leaf : Leaf). map_share leaf.map) leaf leaves, sum_by-cons (λ (leaf : Leaf). map_count leaf.map) leaf leaves, map_few leaf.map, leaf_maps_few leaves)

mapped_few : (leaves : List Leaf) → mapped leaves ≤ length leaves
mapped_few [] = omega arith
mapped_few (leaf ∷ leaves) = omega (arith, sum_by-cons (λ (leaf : Leaf). map_count leaf.map) leaf leaves, map_once leaf.map, mapped_few leaves)

leaves_few : (arrays : List ArrayPlace) (later : List ℕ) (pass : Pass) → IsSoundPass arrays later pass → length pass.leaves ≤ nodes_of pass.tree
leaves_few arrays later pass sound = omega (arith, leaves_occur (leaves_of pass.tree) 0 (length pass.leaves) sound.numbered, nodes_at_least pass.tree)

all_leaves_few : (arrays : List ArrayPlace) (passes : List Pass) → AreSound arrays passes → sum_by (λ (pass : Pass). length pass.leaves) passes ≤ sum_by (λ (pass : Pass). nodes_of pass.tree) passes
all_leaves_few arrays [] sound = omega arith
all_leaves_few arrays (pass ∷ passes) sound =
    omega (arith, sum_by-cons (λ (pass : Pass). length pass.leaves) pass passes, sum_by-cons (λ (pass : Pass). nodes_of pass.tree) pass passes, leaves_few arrays _ pass sound.0, all_leaves_few arrays passes sound.1)

all_maps_few : (passes : List Pass) → sum_by (λ (pass : Pass). shares pass.leaves) passes ≤ 688 * sum_by (λ (pass : Pass). mapped pass.leaves) passes
all_maps_few [] = omega arith
all_maps_few (pass ∷ passes) =
    omega (arith, sum_by-cons (λ (pass : Pass). shares pass.leaves) pass passes, sum_by-cons (λ (pass : Pass). mapped pass.leaves) pass passes, leaf_maps_few pass.leaves, all_maps_few passes)

all_mapped_few : (passes : List Pass) → sum_by (λ (pass : Pass). mapped pass.leaves) passes ≤ sum_by (λ (pass : Pass). length pass.leaves) passes
all_mapped_few [] = omega arith
all_mapped_few (pass ∷ passes) =
    omega (arith, sum_by-cons (λ (pass : Pass). mapped pass.leaves) pass passes, sum_by-cons (λ (pass : Pass). length pass.leaves) pass passes, mapped_few pass.leaves, all_mapped_few passes)

pub leaves_are_few : LeavesAreFew
leaves_are_few split sound = all_leaves_few split.arrays split.passes sound.passes

pub room_is_enough : RoomIsEnough
room_is_enough split sound nodes maps =
    omega (arith, room_is_bounded split, leaves_are_few split sound, all_maps_few split.passes, nodes, maps, sound.few_passes)

pub rooms_are_small : RoomsAreSmall
rooms_are_small split sound nodes =
    omega (arith, room_is_bounded split, leaves_are_few split sound, all_maps_few split.passes, all_mapped_few split.passes, nodes, sound.few_passes)
