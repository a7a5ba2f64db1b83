-- Results of operations that are numbers of the type already, and so need no wrapping.
use Rattle.std.proofs.Common.{◌≡◌, ℕ, zero, suc, ◌^◌, refl, sym, ◌∙◌, arith}
use Rattle.std.specs.Prelude.{ℤ, pos, negsuc, ◌≤ℤ◌, ◌<ℤ◌, neg_ℤ, Bool, true, false}
use Rattle.std.specs.Int.{int_div_euclid, int_min, int_max}
use Rattle.std.proofs.lemmas.Int.{ints, clamps}
use Rattle.std.proofs.lemmas.Nat.{shr_le}
use lib.Signed.{shr_z}
use Rattle.ven_base.specs.declared.elem.Elem.{Elem}
use Rattle.ven_base.specs.declared.elem.Elem.TheVariants.{U8, I8, U16, I16, U32, I32}
use Rattle.ven_base.specs.Elem.{IsElement}
use Rattle.ven_base.specs.declared.ops.Op2.{Op2}
use Rattle.ven_base.specs.declared.ops.Op2.TheVariants.{SatAdd, SatSub}
use Rattle.ven_base.specs.Operation.{one_or_zero, exact2, applied2, chosen}
use Rattle.ven_base.specs.Wrap.{wrapped}
use Rattle.ven_base.specs.Saturation.{IsNearest, nearest}
use Rattle.ven_base.proofs.Wrapped.{wrapped_in, zero_in, IsElement-wrapped}

-- a result that is a number of the type
pub is_wrapped : (elem : Elem) (r z : ℤ) → r ≡ z → IsElement elem z → r ≡ wrapped elem z
is_wrapped elem r z e h = e ∙ sym (wrapped_in elem z h)

-- numbers of the types are small
pub element_small : (elem : Elem) (x : ℤ) → IsElement elem x → (neg_ℤ (pos 2147483648) ≤ℤ x) × (x <ℤ pos 4294967296)
element_small U8 x h = (omega (arith, ints), omega (arith, ints))
element_small I8 x h = (omega (arith, ints), omega (arith, ints))
element_small U16 x h = (omega (arith, ints), omega (arith, ints))
element_small I16 x h = (omega (arith, ints), omega (arith, ints))
element_small U32 x h = (omega (arith, ints), omega (arith, ints))
element_small I32 x h = (omega (arith, ints), omega (arith, ints))

one_in : (elem : Elem) → IsElement elem (pos 1)
one_in U8 = record { from_least = omega (arith, ints); below_end = omega (arith, ints) }
one_in I8 = record { from_least = omega (arith, ints); below_end = omega (arith, ints) }
one_in U16 = record { from_least = omega (arith, ints); below_end = omega (arith, ints) }
one_in I16 = record { from_least = omega (arith, ints); below_end = omega (arith, ints) }
one_in U32 = record { from_least = omega (arith, ints); below_end = omega (arith, ints) }
one_in I32 = record { from_least = omega (arith, ints); below_end = omega (arith, ints) }

-- the answer of a comparison, the lesser and the greater of two numbers, and a number that is shifted to the right
pub IsElement-one_or_zero : (elem : Elem) (answer : Bool) → IsElement elem (one_or_zero answer)
IsElement-one_or_zero elem true = one_in elem
IsElement-one_or_zero elem false = zero_in elem

pub IsElement-min : (elem : Elem) (x y : ℤ) → IsElement elem x → IsElement elem y → IsElement elem (int_min x y)
IsElement-min elem x y h l = record { from_least = omega (arith, ints, clamps); below_end = omega (arith, ints, clamps) }

pub IsElement-max : (elem : Elem) (x y : ℤ) → IsElement elem x → IsElement elem y → IsElement elem (int_max x y)
IsElement-max elem x y h l = record { from_least = omega (arith, ints, clamps); below_end = omega (arith, ints, clamps) }

pub IsElement-shifted : (elem : Elem) (x : ℤ) (k : ℕ) → IsElement elem x → IsElement elem (int_div_euclid x (pos (2 ^ k)))
IsElement-shifted elem (pos a) k h = let some = zero_in elem in record { from_least = omega (arith, ints, shr_le a k); below_end = omega (arith, ints, shr_le a k) }
IsElement-shifted elem (negsuc a) k h = let some = zero_in elem in record { from_least = omega (arith, ints, shr_le a k); below_end = omega (arith, ints, shr_le a k) }

-- a shift of the machine to the right is a division that rounds down
pub shr-is : (x : ℤ) (m : ℕ) → shr_z x m ≡ int_div_euclid x (pos m)
shr-is (pos a) m = refl
shr-is (negsuc a) m = refl

-- the nearest number of a type is a number of the type, and none is nearer
pub IsNearest-nearest : (elem : Elem) (n : ℤ) → IsNearest elem n (nearest elem n)
unfolding nearest
IsNearest-nearest elem n =
    let some = zero_in elem in
    record {
      in_range = record { from_least = omega (arith, ints, clamps); below_end = omega (arith, ints, clamps) };
      none_nearer = λ v h. omega (arith, ints, clamps);
    }

pub IsElement-nearest : (elem : Elem) (n : ℤ) → IsElement elem (nearest elem n)
IsElement-nearest elem n = (IsNearest-nearest elem n).in_range

-- what an operation gives, and what a choice takes, is a number of the type
pub IsElement-applied2 : (op : Op2) (elem : Elem) (x y : ℤ) → IsElement elem (applied2 op elem x y)
IsElement-applied2 SatAdd elem x y = IsElement-nearest elem (exact2 SatAdd elem x y)
IsElement-applied2 SatSub elem x y = IsElement-nearest elem (exact2 SatSub elem x y)
IsElement-applied2 op elem x y = IsElement-wrapped elem (exact2 op elem x y)

pub IsElement-chosen : (elem : Elem) (c x y : ℤ) → IsElement elem x → IsElement elem y → IsElement elem (chosen c x y)
IsElement-chosen elem (pos zero) x y h l = l
IsElement-chosen elem (pos (suc n)) x y h l = h
IsElement-chosen elem (negsuc n) x y h l = h
