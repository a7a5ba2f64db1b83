-- What the operations give: the result on whole numbers, which is then wrapped into the type; a saturating operation
-- gives the nearest number of the type instead.
use Rattle.std.specs.Prelude.{ℕ, zero, suc, ℤ, pos, negsuc, ◌^◌, ◌+ℤ◌, ◌-ℤ◌, ◌*ℤ◌, neg_ℤ, unsigned_abs, Bool, if◌then◌else◌, bit_and, bit_or, bit_xor, int_lt, not}
use Rattle.std.specs.Int.{int_rem_euclid, int_div_euclid, int_min, int_max}
use Rattle.std.specs.Ordering.{int_eq}
use Rattle.ven_base.specs.declared.elem.Elem.{Elem}
use Rattle.ven_base.specs.declared.ops.Op1.{Op1}
use Rattle.ven_base.specs.declared.ops.Op1.TheVariants.{Neg, Not, Abs}
use Rattle.ven_base.specs.declared.ops.Op2.{Op2}
use Rattle.ven_base.specs.declared.ops.Op2.TheVariants.{Add, Sub, Mul, And, Or, Xor, Shl, Shr, Min, Max, Eq, Ne, Lt, Le, Gt, Ge, SatAdd, SatSub}
use Rattle.ven_base.specs.Elem.{width_of, modulus_of}
use Rattle.ven_base.specs.Wrap.{wrapped}
use Rattle.ven_base.specs.Saturation.{nearest}

-- the bits of a number, as its two's complement of the type's width: the number from 0 on that equals it modulo 2 to
-- the width
abbrev pub bits_of : Elem → ℤ → ℕ
bits_of elem x = unsigned_abs (int_rem_euclid x (pos (modulus_of elem)))

-- the amount of a shift modulo the width, from 0 on for a negative amount too
abbrev pub amount_of : Elem → ℤ → ℕ
amount_of elem y = unsigned_abs (int_rem_euclid y (pos (width_of elem)))

-- the answer of a comparison
abbrev pub one_or_zero : Bool → ℤ
one_or_zero answer = if answer then pos 1 else pos 0

-- an operation on one whole number
abbrev pub exact1 : Op1 → ℤ → ℤ
exact1 Neg x = neg_ℤ x
exact1 Not x = negsuc 0 -ℤ x
exact1 Abs x = pos (unsigned_abs x)

-- an operation on two whole numbers. A shift to the right is a division by a power of two that rounds down, so it keeps
-- the sign
abbrev pub exact2 : Op2 → Elem → ℤ → ℤ → ℤ
exact2 Add elem x y = x +ℤ y
exact2 Sub elem x y = x -ℤ y
exact2 Mul elem x y = x *ℤ y
exact2 And elem x y = pos (bit_and (bits_of elem x) (bits_of elem y))
exact2 Or elem x y = pos (bit_or (bits_of elem x) (bits_of elem y))
exact2 Xor elem x y = pos (bit_xor (bits_of elem x) (bits_of elem y))
exact2 Shl elem x y = x *ℤ pos (2 ^ amount_of elem y)
exact2 Shr elem x y = int_div_euclid x (pos (2 ^ amount_of elem y))
exact2 Min elem x y = int_min x y
exact2 Max elem x y = int_max x y
exact2 Eq elem x y = one_or_zero (int_eq x y)
exact2 Ne elem x y = one_or_zero (not (int_eq x y))
exact2 Lt elem x y = one_or_zero (int_lt x y)
exact2 Le elem x y = one_or_zero (not (int_lt y x))
exact2 Gt elem x y = one_or_zero (int_lt y x)
exact2 Ge elem x y = one_or_zero (not (int_lt x y))
exact2 SatAdd elem x y = x +ℤ y
exact2 SatSub elem x y = x -ℤ y

-- what the operation gives in the type
abbrev pub applied1 : Op1 → Elem → ℤ → ℤ
applied1 op elem x = wrapped elem (exact1 op x)

abbrev pub applied2 : Op2 → Elem → ℤ → ℤ → ℤ
applied2 SatAdd elem x y = nearest elem (exact2 SatAdd elem x y)
applied2 SatSub elem x y = nearest elem (exact2 SatSub elem x y)
applied2 op elem x y = wrapped elem (exact2 op elem x y)

-- a choice: x where c isn't 0, else y
abbrev pub chosen : ℤ → ℤ → ℤ → ℤ
chosen (pos zero) x y = y
chosen (pos (suc n)) x y = x
chosen (negsuc n) x y = x
