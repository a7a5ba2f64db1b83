-- What the definitions of array files settle.
use Rattle.std.specs.Prelude.{◌≡◌, ℕ, ◌<◌, ◌≤◌, List, ℤ, pos, neg_ℤ}
use Rattle.ven_base.specs.declared.elem.Elem.{Elem}
use Rattle.ven_base.specs.Elem.{IsElement}
use Rattle.ven_base.specs.Extent.{Extent, IsExtent}
use Rattle.ven_base.specs.Pairs.{Pairs}
use Rattle.array_file.specs.declared.fault.ArrayFault.{ArrayFault}
use Rattle.array_file.specs.Faults.{DenotesArrays, TextFault, IsFault, IsRefused}
use Rattle.array_file.specs.Words.{too_large}

-- a text denotes one list of arrays at most
abbrev pub HasOneReading : Type 0
HasOneReading = (text : List ℕ) (one other : Pairs) → DenotesArrays text one → DenotesArrays text other → one ≡ other

-- and none where it has a fault
abbrev pub DenotesNothingAtFaults : Type 0
DenotesNothingAtFaults =
    (text : List ℕ) (arrays : Pairs) (fault : TextFault) → DenotesArrays text arrays → ¬ IsFault text fault

-- a text has one answer at most
abbrev pub HasOneAnswer : Type 0
HasOneAnswer = (text : List ℕ) (one other : ArrayFault) → IsRefused text one → IsRefused text other → one ≡ other

-- no type has the number that stands for all that are too large, nor a greater one, of either sign
abbrev pub HasNoLargeValue : Type 0
HasNoLargeValue =
    (elem : Elem) (n : ℕ) → too_large ≤ n → (¬ IsElement elem (pos n)) × (¬ IsElement elem (neg_ℤ (pos n)))

-- nor has a shape
abbrev pub HasNoLargeShape : Type 0
HasNoLargeShape = (shape : Extent) → IsExtent shape → (shape.rows < too_large) × (shape.cols < too_large)
