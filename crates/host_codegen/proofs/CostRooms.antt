-- The code of a split fits its room.
use Rattle.std.proofs.Common.{◌≡◌, ℕ, ◌+◌, ◌*◌, ◌≤◌, List, [], ◌∷◌, length, get_or, refl, arith, eqb}
use Rattle.std.specs.Prelude.{sum_by}
use Rattle.std.proofs.lemmas.List.Sums.{sum_by-cons}
use Rattle.std.proofs.lemmas.Bool.{cond_both}
use Rattle.ven_base.specs.declared.mapping.Mapping.{Mapping}
use Rattle.ven_base.specs.declared.mapping.Mapping.TheVariants.{Identity, Shift, Rotate, Section, Stretch, Transpose}
use Rattle.ven_base.specs.declared.ops.Fold.TheVariants as fold
use Rattle.pass_plan.specs.declared.leaf.Leaf.{Leaf}
use Rattle.pass_plan.specs.declared.parts.Tile.{Tile}
use Rattle.pass_plan.specs.declared.pass.PassKind.{PassKind}
use Rattle.pass_plan.specs.declared.pass.PassKind.TheVariants.{Map, Reduce}
use Rattle.pass_plan.specs.declared.split.ArrayPlace.{ArrayPlace}
use Rattle.pass_plan.specs.Label.{label_of}
use Rattle.pass_plan.specs.Numbers.{inner_of}
use Rattle.pass_plan.specs.Tree.{nodes_of}
use Rattle.pass_plan.specs.Pass.{Pass, no_leaf}
use Rattle.pass_plan.specs.Tile.{tile_of}
use Rattle.pass_plan.specs.Sound.{IsSoundPass, AreSound}
use Rattle.buffer_lifetimes.specs.OrderOf.{order_of}
use Rattle.buffer_lifetimes.proofs.Counts.{counts_steps}
use Rattle.buffer_lifetimes.proofs.Lawful.{has_order}
use Rattle.vector_codegen.proofs.PassLaws.{nodes_at_least}
use Rattle.host_programs.specs.Program.{Idle}
use Rattle.transfer_programs.specs.Cost.{program_size}
use Rattle.transfer_programs.specs.CostLaws.{leaf_room, fill_room}
use Rattle.transfer_programs.proofs.CostPrograms.{block_sized}
use Rattle.transfer_programs.proofs.CostSteps.{total}
use Rattle.host_codegen.specs.PassProgram.{pass_program}
use Rattle.host_codegen.specs.SplitProgram.{passes_programs, split_program}
use Rattle.host_codegen.specs.CodeRoom.{leaf_share, root_share, pass_room, map_share}
use Rattle.host_codegen.specs.CostLaws.{CodeFitsItsRoom, RoomIsBounded}
use Rattle.host_codegen.proofs.CostSums.{each_sums, sums_over, sums_added, sums_most, total_is}
use Rattle.host_codegen.proofs.CostTiles.{pass_sized}

-- a step for each inner node
pub steps_are : (arrays : List ArrayPlace) (later : List ℕ) (pass : Pass) → IsSoundPass arrays later pass → length (order_of pass.tree).steps ≡ inner_of pass.tree
steps_are arrays later pass sound =
    counts_steps pass.tree (label_of pass.tree) (order_of pass.tree).steps (order_of pass.tree).to (has_order pass.tree sound.normal.root sound.normal.selects)

pass_fits : (arrays : List ArrayPlace) (later : List ℕ) (pass : Pass) (tile : Tile) → IsSoundPass arrays later pass → program_size (pass_program arrays pass tile) ≤ pass_room pass
pass_fits arrays later pass tile sound =
    let count = length pass.leaves in
    let leaf : ℕ → Leaf = λ n. get_or pass.leaves n no_leaf in
    let reads : ℕ → ℕ = λ n. 1 + leaf_room (leaf n).map in
    let fills : ℕ → ℕ = λ n. fill_room (leaf n).map in
    let most = sums_most count (λ n. reads n + fills n) (λ n. leaf_share (leaf n)) (λ n below. omega arith) in
    omega (arith, pass_sized arrays pass tile, steps_are arrays later pass sound, sums_added count reads fills, most, sums_over leaf_share no_leaf pass.leaves, total_is leaf_share pass.leaves)

passes_fit : (arrays : List ArrayPlace) (spad : ℕ) (passes : List Pass) → AreSound arrays passes → total program_size (passes_programs arrays spad passes) ≤ total pass_room passes
passes_fit arrays spad [] sound = omega arith
passes_fit arrays spad (pass ∷ passes) sound = omega (arith, pass_fits arrays _ pass (tile_of pass spad) sound.0, passes_fit arrays spad passes sound.1)

pub code_fits_its_room : CodeFitsItsRoom
code_fits_its_room split spad sound holds small =
    let ps = passes_programs split.arrays spad split.passes in
    omega (
      arith,
      block_sized (split_program split spad) 0,
      each_sums program_size refl (λ p q. refl) (λ k. get_or ps k Idle) (length ps),
      sums_over program_size Idle ps,
      passes_fit split.arrays spad split.passes sound.passes,
      total_is pass_room split.passes,
    )

-- ---- by numbers

leaf_bounded : (leaf : Leaf) → leaf_share leaf ≤ 73 + map_share leaf.map
leaf_bounded leaf = by leaf.map
  where
    by : (mapping : Mapping) → leaf_room mapping + (fill_room mapping + 1) ≤ 73 + map_share mapping
    by Identity = omega arith
    by (Shift dr dc value) = omega arith
    by (Rotate dr dc) = omega arith
    by (Section r0 nr sr c0 nc sc) = cond_both (eqb sc 1) 78 200 (λ m. m + 1 ≤ 201) (λ e. omega arith) (λ e. omega arith)
    by (Stretch kr kc) = cond_both (eqb kc 1) 450 760 (λ m. m + 1 ≤ 761) (λ e. omega arith) (λ e. omega arith)
    by Transpose = omega arith

leaves_bounded : (leaves : List Leaf) → sum_by leaf_share leaves ≤ 73 * length leaves + sum_by (λ (leaf : Leaf). map_share leaf.map) leaves
leaves_bounded [] = omega arith
leaves_bounded (leaf ∷ leaves) =
    omega (arith, sum_by-cons leaf_share leaf leaves, sum_by-cons (λ (leaf : Leaf). map_share leaf.map) leaf leaves, leaf_bounded leaf, leaves_bounded leaves)

root_bounded : (kind : PassKind) → root_share kind ≤ 140
root_bounded Map = omega arith
root_bounded (Reduce fold.Sum) = omega arith
root_bounded (Reduce fold.Min) = omega arith
root_bounded (Reduce fold.Max) = omega arith

passes_bounded : (passes : List Pass) → sum_by pass_room passes ≤ 310 * length passes + (14 * sum_by (λ (pass : Pass). nodes_of pass.tree) passes
    + (73 * sum_by (λ (pass : Pass). length pass.leaves) passes + sum_by (λ (pass : Pass). sum_by (λ (leaf : Leaf). map_share leaf.map) pass.leaves) passes))
passes_bounded [] = omega arith
passes_bounded (pass ∷ passes) =
    omega (
      arith,
      sum_by-cons pass_room pass passes,
      sum_by-cons (λ (pass : Pass). nodes_of pass.tree) pass passes,
      sum_by-cons (λ (pass : Pass). length pass.leaves) pass passes,
      sum_by-cons (λ (pass : Pass). sum_by (λ (leaf : Leaf). map_share leaf.map) pass.leaves) pass passes,
      leaves_bounded pass.leaves,
      root_bounded pass.kind,
      nodes_at_least pass.tree,
      passes_bounded passes,
    )

pub room_is_bounded : RoomIsBounded
room_is_bounded split = omega (arith, passes_bounded split.passes)
