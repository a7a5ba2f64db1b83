-- Wrapping a whole number into the range of an element type.
use Rattle.std.specs.Prelude.{◌≡◌, ℕ, ℤ, pos, ◌+ℤ◌, ◌-ℤ◌, ◌*ℤ◌}
use Rattle.std.specs.Int.{int_rem_euclid}
use Rattle.ven_base.specs.declared.elem.Elem.{Elem}
use Rattle.ven_base.specs.Elem.{modulus_of, least_of, IsElement}

-- two numbers differ by a whole multiple of m
abbrev pub AreCongruent : ℕ → ℤ → ℤ → Type 0
AreCongruent m x y = (k : ℤ) × (x ≡ y +ℤ k *ℤ pos m)

-- w is a number of the type's range that is congruent to n modulo 2 to the width
pub record IsWrapped (elem : Elem) (n w : ℤ) : Type 0 where
  pub in_range : IsElement elem w
  pub congruent : AreCongruent (modulus_of elem) n w

-- that number: as far above the least number as n is, modulo 2 to the width
unfoldable pub wrapped : Elem → ℤ → ℤ
wrapped elem n = least_of elem +ℤ int_rem_euclid (n -ℤ least_of elem) (pos (modulus_of elem))
