-- The element types: how wide each is, and which numbers it has.
use Rattle.std.specs.Prelude.{ℕ, ℤ, pos, ◌*◌, ◌^◌, ◌≤ℤ◌, ◌<ℤ◌, ◌+ℤ◌, neg_ℤ}
use Rattle.ven_base.specs.declared.elem.Elem.{Elem}
use Rattle.ven_base.specs.declared.elem.Elem.TheVariants.{U8, I8, U16, I16, U32, I32}

-- the size of an element in bytes
abbrev pub size_of : Elem → ℕ
size_of U8 = 1
size_of I8 = 1
size_of U16 = 2
size_of I16 = 2
size_of U32 = 4
size_of I32 = 4

-- the width of an element in bits
abbrev pub width_of : Elem → ℕ
width_of elem = 8 * size_of elem

-- how many numbers the type has
abbrev pub modulus_of : Elem → ℕ
modulus_of elem = 2 ^ width_of elem

-- the least number of the type
abbrev pub least_of : Elem → ℤ
least_of U8 = pos 0
least_of I8 = neg_ℤ (pos (2 ^ 7))
least_of U16 = pos 0
least_of I16 = neg_ℤ (pos (2 ^ 15))
least_of U32 = pos 0
least_of I32 = neg_ℤ (pos (2 ^ 31))

-- the number is one of the type's
pub record IsElement (elem : Elem) (n : ℤ) : Type 0 where
  pub from_least : least_of elem ≤ℤ n
  pub below_end : n <ℤ (least_of elem +ℤ pos (modulus_of elem))
