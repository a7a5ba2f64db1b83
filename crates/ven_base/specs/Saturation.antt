-- Saturation: the number of an element type's range that is nearest to a whole number.
use Rattle.std.specs.Prelude.{ℤ, pos, ◌≤◌, ◌+ℤ◌, ◌-ℤ◌, unsigned_abs}
use Rattle.std.specs.Int.{int_min, int_max}
use Rattle.ven_base.specs.declared.elem.Elem.{Elem}
use Rattle.ven_base.specs.Elem.{modulus_of, least_of, IsElement}

-- the greatest number of the type
abbrev pub greatest_of : Elem → ℤ
greatest_of elem = (least_of elem +ℤ pos (modulus_of elem)) -ℤ pos 1

-- w is a number of the type's range, and none is nearer to n
pub record IsNearest (elem : Elem) (n w : ℤ) : Type 0 where
  pub in_range : IsElement elem w
  pub none_nearer : (v : ℤ) → IsElement elem v → unsigned_abs (n -ℤ w) ≤ unsigned_abs (n -ℤ v)

-- that number: n itself, but at least the type's least number and at most its greatest
unfoldable pub nearest : Elem → ℤ → ℤ
nearest elem n = int_min (int_max n (least_of elem)) (greatest_of elem)
