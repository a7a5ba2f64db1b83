-- The limits on passes that follow from soundness: few leaves and nodes.
use Rattle.std.proofs.Common.{ℕ, ◌+◌, ◌≤◌, max, List, [], ◌∷◌, ◌++◌, length, arith, length-append, All}
use Rattle.std.proofs.lemmas.List.Elements.{All-nil, All-cons}
use Rattle.shape_check.specs.Statement.{Statement}
use Rattle.shape_check.specs.Checked.{IsCheckedProgram}
use Rattle.pass_plan.specs.declared.split.ArrayPlace.{ArrayPlace}
use Rattle.pass_plan.specs.Tree as tree
use Rattle.pass_plan.specs.Tree.{TreeOver, AtLeaf, leaves_of}
use Rattle.pass_plan.specs.Pass.{Pass}
use Rattle.pass_plan.specs.Need.{IsSmall, AreSmall}
use Rattle.pass_plan.specs.Sound.{Split, CountUp, AreSound}
use Rattle.expr_split.specs.Places.{IsSplitOf}
use Rattle.expr_split.proofs.Soundness.{split_sound}

-- numbers that count up have no gap, so there are no more of them than places
count-most : (ks : List ℕ) (count all : ℕ) → CountUp ks count all → all ≤ count + length ks
count-most [] count all h = omega arith
count-most (k ∷ ks) count all h = omega (arith, count-most ks (max count (k + 1)) all h.1, h.0)

leaves-nodes : {L : Type 0} (t : TreeOver L) → length (leaves_of t) ≤ tree.nodes_of t
leaves-nodes (AtLeaf l) = omega arith
leaves-nodes (tree.Literal n) = omega arith
leaves-nodes (tree.One op elem a) = omega (arith, leaves-nodes a)
leaves-nodes (tree.Two op elem a b) = omega (arith, leaves-nodes a, leaves-nodes b, length-append (leaves_of a) (leaves_of b))
leaves-nodes (tree.Cast elem from a) = omega (arith, leaves-nodes a)
leaves-nodes (tree.Move elem a) = omega (arith, leaves-nodes a)
leaves-nodes (tree.Select elem c x y) =
    omega (arith, leaves-nodes c, leaves-nodes x, leaves-nodes y, length-append (leaves_of c) (leaves_of x ++ leaves_of y), length-append (leaves_of x) (leaves_of y))

sound-small : (arrays : List ArrayPlace) (passes : List Pass) → AreSound arrays passes → All IsSmall passes
sound-small arrays [] h = All-nil IsSmall
sound-small arrays (pass ∷ passes) h =
    All-cons IsSmall pass passes
    (record { few_leaves = omega (arith, count-most (leaves_of pass.tree) 0 (length pass.leaves) h.0.numbered, leaves-nodes pass.tree, h.0.few_nodes); few_nodes = h.0.few_nodes })
    (sound-small arrays passes h.1)

pub splits_small : (program : List Statement) (split : Split) → IsCheckedProgram program → IsSplitOf program split → AreSmall split.passes
splits_small program split checked is =
    let sound = split_sound program split checked is in
    record { few = sound.few_passes; each = sound-small split.arrays split.passes sound.passes }
