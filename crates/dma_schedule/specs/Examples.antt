-- Inner: a small split for tests.
use Rattle.std.specs.Prelude.{ℕ, pos, [], ◌∷◌}
use Rattle.ven_base.specs.declared.elem.Elem.TheVariants.{U16}
use Rattle.ven_base.specs.declared.mapping.Mapping.{Mapping}
use Rattle.ven_base.specs.declared.mapping.Mapping.TheVariants.{Identity, Shift}
use Rattle.ven_base.specs.declared.ops.Fold.TheVariants as fold
use Rattle.ven_base.specs.Extent.{Extent}
use Rattle.pass_plan.specs.declared.leaf.Leaf.{Leaf}
use Rattle.pass_plan.specs.declared.pass.PassKind.{PassKind}
use Rattle.pass_plan.specs.declared.pass.PassKind.TheVariants.{Map, Reduce}
use Rattle.pass_plan.specs.declared.split.ArrayPlace.{ArrayPlace}
use Rattle.pass_plan.specs.Tree.{AtLeaf, Move}
use Rattle.pass_plan.specs.Pass.{Pass}
use Rattle.pass_plan.specs.Sound.{Split}

abbrev pub extent : (rows cols : ℕ) → Extent
extent rows cols = record { rows = rows; cols = cols }

-- two rows of nine elements of an array under a map
abbrev pub leaf_of_nines : (array : ℕ) → Mapping → Leaf
leaf_of_nines array map = record { array = array; elem = U16; shape = extent 2 9; map = map }

-- a pass that moves them
abbrev pub moving : PassKind → Leaf → (dest : ℕ) → Pass
moving kind leaf dest =
    record { kind = kind; domain = extent 2 9; leaves = leaf ∷ []; tree = Move U16 (AtLeaf 0); dest = dest; elem = U16 }

abbrev pub array_at : Extent → (place : ℕ) → ArrayPlace
array_at shape place = record { elem = U16; shape = shape; place = place }

-- an array shifted by a column, and the sums of the result's rows
abbrev pub shifted_sums : Split
shifted_sums = record {
  passes = moving Map (leaf_of_nines 0 (Shift (pos 0) (pos 1) (pos 1))) 1
      ∷ moving (Reduce fold.Sum) (leaf_of_nines 1 Identity) 2 ∷ [];
  arrays = array_at (extent 2 9) 0 ∷ array_at (extent 2 9) 36 ∷ array_at (extent 2 1) 72 ∷ [];
  table = [];
  memory = 76;
}
