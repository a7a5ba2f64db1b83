-- Laws of wrapping: which number it gives, and that sums, differences and products may be wrapped on the way.
use Rattle.std.proofs.Common.{sym, ◌≡◌, ◌<◌, arith, lit<}
use Rattle.std.specs.Prelude.{ℤ, pos, ◌+ℤ◌, ◌-ℤ◌, ◌*ℤ◌, ◌≤ℤ◌, ◌<ℤ◌}
use Rattle.std.specs.Int.{int_rem_euclid}
use Rattle.std.proofs.lemmas.Int.{ints}
use borrow.Author.Differences.{same_in, same_out, sum_is_lem, neg_is, product_is}
use lib.IntN.{*ℤ_comm}
use Rattle.ven_base.specs.declared.elem.Elem.{Elem}
use Rattle.ven_base.specs.declared.elem.Elem.TheVariants.{U8, I8, U16, I16, U32, I32}
use Rattle.ven_base.specs.Elem.{width_of, modulus_of, least_of, IsElement}
use Rattle.ven_base.specs.Wrap.{AreCongruent, IsWrapped, wrapped}
use Rattle.ven_base.proofs.Congruence.{AreCongruent-refl, AreCongruent-sym, AreCongruent-trans, AreCongruent-add, AreCongruent-sub, AreCongruent-mul_left, euclid, rem_range, near_same}

pub modulus_pos : (elem : Elem) → 0 < modulus_of elem
modulus_pos U8 = lit< tt
modulus_pos I8 = lit< tt
modulus_pos U16 = lit< tt
modulus_pos I16 = lit< tt
modulus_pos U32 = lit< tt
modulus_pos I32 = lit< tt

pub width_pos : (elem : Elem) → 0 < width_of elem
width_pos U8 = lit< tt
width_pos I8 = lit< tt
width_pos U16 = lit< tt
width_pos I16 = lit< tt
width_pos U32 = lit< tt
width_pos I32 = lit< tt

-- 0 is a number of each type
pub zero_in : (elem : Elem) → IsElement elem (pos 0)
zero_in U8 = record { from_least = omega (arith, ints); below_end = omega (arith, ints) }
zero_in I8 = record { from_least = omega (arith, ints); below_end = omega (arith, ints) }
zero_in U16 = record { from_least = omega (arith, ints); below_end = omega (arith, ints) }
zero_in I16 = record { from_least = omega (arith, ints); below_end = omega (arith, ints) }
zero_in U32 = record { from_least = omega (arith, ints); below_end = omega (arith, ints) }
zero_in I32 = record { from_least = omega (arith, ints); below_end = omega (arith, ints) }

-- a remainder below the type's end is what the number wraps to
pub wrap_below : (elem : Elem) (n r : ℤ) → r ≡ int_rem_euclid n (pos (modulus_of elem)) → r <ℤ (least_of elem +ℤ pos (modulus_of elem)) → IsWrapped elem n r
wrap_below elem n r e h =
    let range = rem_range (modulus_of elem) n (modulus_pos elem) in
    let some = zero_in elem in
    record { in_range = record { from_least = omega (arith, ints); below_end = h }; congruent = rw e (euclid (modulus_of elem) n (modulus_pos elem)) }

-- and one that isn't, less the modulus
pub wrap_above : (elem : Elem) (n r : ℤ) → r ≡ int_rem_euclid n (pos (modulus_of elem)) → (least_of elem +ℤ pos (modulus_of elem)) ≤ℤ r → IsWrapped elem n (r -ℤ pos (modulus_of elem))
wrap_above elem n r e h =
    let m = modulus_of elem in
    let range = rem_range m n (modulus_pos elem) in
    let some = zero_in elem in
    let rest : AreCongruent m n r = rw e (euclid m n (modulus_pos elem)) in
    let one : AreCongruent m r (r -ℤ pos m) = (pos 1, omega (arith, same_in, same_out, sum_is_lem, neg_is, product_is (pos 1) (pos m))) in
    record { in_range = record { from_least = omega (arith, ints); below_end = omega (arith, ints) }; congruent = AreCongruent-trans m n r (r -ℤ pos m) rest one }

-- `IsWrapped` holds of one number only
pub IsWrapped-unique : (elem : Elem) (n v w : ℤ) → IsWrapped elem n v → IsWrapped elem n w → v ≡ w
IsWrapped-unique elem n v w a b =
    let m = modulus_of elem in
    near_same m (least_of elem) v w (AreCongruent-trans m v n w (AreCongruent-sym m n v a.congruent) b.congruent) a.in_range.from_least a.in_range.below_end b.in_range.from_least b.in_range.below_end

-- and it holds of `wrapped`
pub IsWrapped-wrapped : (elem : Elem) (n : ℤ) → IsWrapped elem n (wrapped elem n)
unfolding wrapped
IsWrapped-wrapped elem n =
    let m = modulus_of elem in
    let least = least_of elem in
    let range = rem_range m (n -ℤ least) (modulus_pos elem) in
    let moved = AreCongruent-add m least least (n -ℤ least) (int_rem_euclid (n -ℤ least) (pos m)) (AreCongruent-refl m least) (euclid m (n -ℤ least) (modulus_pos elem)) in
    let there : least +ℤ (n -ℤ least) ≡ n = omega (arith, ints) in
    record { in_range = record { from_least = omega (arith, ints); below_end = omega (arith, ints) }; congruent = rw there at moved }

-- so it is the number that the definition names
pub IsWrapped-is : (elem : Elem) (n w : ℤ) → IsWrapped elem n w → w ≡ wrapped elem n
IsWrapped-is elem n w h = IsWrapped-unique elem n w (wrapped elem n) h (IsWrapped-wrapped elem n)

-- a number of the type wraps to itself
pub wrapped_in : (elem : Elem) (n : ℤ) → IsElement elem n → wrapped elem n ≡ n
wrapped_in elem n h = sym (IsWrapped-is elem n n (record { in_range = h; congruent = AreCongruent-refl (modulus_of elem) n }))

-- congruent numbers wrap to the same one
pub wrapped-AreCongruent : (elem : Elem) (a b : ℤ) → AreCongruent (modulus_of elem) a b → wrapped elem a ≡ wrapped elem b
wrapped-AreCongruent elem a b c =
    let m = modulus_of elem in
    let w = IsWrapped-wrapped elem a in
    IsWrapped-is elem b (wrapped elem a) (record { in_range = w.in_range; congruent = AreCongruent-trans m b a (wrapped elem a) (AreCongruent-sym m a b c) w.congruent })

-- a number is congruent to what it wraps to
pub AreCongruent-wrapped : (elem : Elem) (a : ℤ) → AreCongruent (modulus_of elem) (wrapped elem a) a
AreCongruent-wrapped elem a = AreCongruent-sym (modulus_of elem) a (wrapped elem a) (IsWrapped-wrapped elem a).congruent

-- what it wraps to is a number of the type
pub IsElement-wrapped : (elem : Elem) (a : ℤ) → IsElement elem (wrapped elem a)
IsElement-wrapped elem a = (IsWrapped-wrapped elem a).in_range

-- to wrap twice is to wrap once
pub wrapped-wrapped : (elem : Elem) (n : ℤ) → wrapped elem (wrapped elem n) ≡ wrapped elem n
wrapped-wrapped elem n = wrapped_in elem (wrapped elem n) (IsElement-wrapped elem n)

-- sums, differences and products may be wrapped on the way, or once at the end
pub wrapped-add : (elem : Elem) (a b : ℤ) → wrapped elem (wrapped elem a +ℤ wrapped elem b) ≡ wrapped elem (a +ℤ b)
wrapped-add elem a b = wrapped-AreCongruent elem _ _ (AreCongruent-add (modulus_of elem) (wrapped elem a) a (wrapped elem b) b (AreCongruent-wrapped elem a) (AreCongruent-wrapped elem b))

pub wrapped-add_left : (elem : Elem) (a b : ℤ) → wrapped elem (wrapped elem a +ℤ b) ≡ wrapped elem (a +ℤ b)
wrapped-add_left elem a b = wrapped-AreCongruent elem _ _ (AreCongruent-add (modulus_of elem) (wrapped elem a) a b b (AreCongruent-wrapped elem a) (AreCongruent-refl (modulus_of elem) b))

pub wrapped-add_right : (elem : Elem) (a b : ℤ) → wrapped elem (a +ℤ wrapped elem b) ≡ wrapped elem (a +ℤ b)
wrapped-add_right elem a b = wrapped-AreCongruent elem _ _ (AreCongruent-add (modulus_of elem) a a (wrapped elem b) b (AreCongruent-refl (modulus_of elem) a) (AreCongruent-wrapped elem b))

pub wrapped-sub : (elem : Elem) (a b : ℤ) → wrapped elem (wrapped elem a -ℤ wrapped elem b) ≡ wrapped elem (a -ℤ b)
wrapped-sub elem a b = wrapped-AreCongruent elem _ _ (AreCongruent-sub (modulus_of elem) (wrapped elem a) a (wrapped elem b) b (AreCongruent-wrapped elem a) (AreCongruent-wrapped elem b))

pub wrapped-mul : (elem : Elem) (a b : ℤ) → wrapped elem (wrapped elem a *ℤ wrapped elem b) ≡ wrapped elem (a *ℤ b)
wrapped-mul elem a b =
    let m = modulus_of elem in
    let left = AreCongruent-mul_left m (wrapped elem a) a (wrapped elem b) (AreCongruent-wrapped elem a) in
    let right : AreCongruent m (a *ℤ wrapped elem b) (a *ℤ b) = rw (*ℤ_comm a (wrapped elem b), *ℤ_comm a b) (AreCongruent-mul_left m (wrapped elem b) b a (AreCongruent-wrapped elem b)) in
    wrapped-AreCongruent elem _ _ (AreCongruent-trans m (wrapped elem a *ℤ wrapped elem b) (a *ℤ wrapped elem b) (a *ℤ b) left right)
