-- Numbers of 64 and of 128 bits: their bits are congruent to them, so they wrap to the same number of a type.
use Rattle.std.proofs.Common.{◌≡◌, ℕ, suc, ◌+◌, ◌-◌, ◌*◌, ◌^◌, ◌%◌, ◌<◌, ◌≤◌, refl, sym, ap, ◌∙◌, arith, w64, of_z, to_z}
use Rattle.std.specs.Prelude.{ℤ, pos, negsuc, ◌+ℤ◌, ◌-ℤ◌, ◌*ℤ◌, neg_ℤ, unsigned_abs}
use Rattle.std.specs.Int.{int_rem_euclid, int_wrap, int_wrapping_mul}
use Rattle.std.proofs.lemmas.Int.{ints, of_z-to_z, int_rem_euclid_is, wrapping_mul_is}
use Rattle.std.proofs.Math.Nat.{mul_assoc}
use borrow.Author.Differences.{same_in, same_out, sum_is_lem, product_is}
use mir.Syntax.{Width}
use mir.Val.{bits, hbits, SFits}
use mir.ValLaws.{to_z-Fits}
use Rattle.ven_base.specs.declared.elem.Elem.{Elem}
use Rattle.ven_base.specs.declared.elem.Elem.TheVariants.{U8, I8, U16, I16, U32, I32}
use Rattle.ven_base.specs.Elem.{width_of, modulus_of, least_of}
use Rattle.ven_base.specs.Operation.{bits_of}
use Rattle.ven_base.specs.Wrap.{AreCongruent, wrapped}
use Rattle.ven_base.proofs.Congruence.{AreCongruent-refl, AreCongruent-trans, euclid, rem_below, rem_congruent}
use Rattle.ven_base.proofs.Wrapped.{wrapped-AreCongruent, modulus_pos}

-- numbers that are congruent modulo a multiple of a number are congruent modulo it
pub AreCongruent-factor : (m d : ℕ) (x y : ℤ) → AreCongruent (d * m) x y → AreCongruent m x y
AreCongruent-factor m d x y c =
    let k = c.0 in
    let times = product_is k (pos d) in
    let above = ap (λ a. a * m) times.0 in
    let below = ap (λ a. a * m) times.1 in
    (k *ℤ pos d, omega (arith, same_in, same_out, sum_is_lem, product_is k (pos (d * m)), product_is (k *ℤ pos d) (pos m), c.1))

below_zero : (whole a : ℕ) → a < whole → negsuc a ≡ pos (whole - suc a) +ℤ negsuc 0 *ℤ pos whole
below_zero whole a h = omega (arith, same_in, same_out, sum_is_lem, product_is (negsuc 0) (pos whole))

-- a number of a machine's width is congruent to its bits
pub of_z-AreCongruent : (w : Width) (n : ℤ) → 2 ^ hbits w ≤ 2 ^ bits w → SFits w n → AreCongruent (2 ^ bits w) n (pos (of_z w n))
of_z-AreCongruent w (pos a) l f = AreCongruent-refl (2 ^ bits w) (pos a)
of_z-AreCongruent w (negsuc a) l f = (negsuc 0, below_zero (2 ^ bits w) a (omega (arith, f.sfits)))

-- how often 2 to a type's width goes into 2 to the 32
words_of : (elem : Elem) → (d : ℕ) × (d * modulus_of elem ≡ 2 ^ 32)
words_of U8 = (2 ^ 24, refl)
words_of I8 = (2 ^ 24, refl)
words_of U16 = (2 ^ 16, refl)
words_of I16 = (2 ^ 16, refl)
words_of U32 = (1, refl)
words_of I32 = (1, refl)

-- numbers that are congruent modulo 2 to the 32 wrap to one
pub wrapped-word : (elem : Elem) (x y : ℤ) → AreCongruent (2 ^ 32) x y → wrapped elem x ≡ wrapped elem y
wrapped-word elem x y c =
    let d = words_of elem in
    wrapped-AreCongruent elem x y (AreCongruent-factor (modulus_of elem) d.0 x y (rw d.1 c))

-- so the lowest 32 bits of a number wrap to the same number as it does
pub wrapped-low : (w : Width) (d : ℕ) (elem : Elem) (n : ℤ) → d * 2 ^ 32 ≡ 2 ^ bits w → 2 ^ hbits w ≤ 2 ^ bits w → SFits w n → wrapped elem (pos (of_z w n % 2 ^ 32)) ≡ wrapped elem n
wrapped-low w d elem n e l f =
    let whole : AreCongruent (d * 2 ^ 32) n (pos (of_z w n)) = rw e (of_z-AreCongruent w n l f) in
    let low : AreCongruent (2 ^ 32) n (pos (of_z w n)) = AreCongruent-factor (2 ^ 32) d n (pos (of_z w n)) whole in
    let rest : AreCongruent (2 ^ 32) (pos (of_z w n)) (pos (of_z w n % 2 ^ 32)) = euclid (2 ^ 32) (pos (of_z w n)) (omega arith) in
    sym (wrapped-word elem n (pos (of_z w n % 2 ^ 32)) (AreCongruent-trans (2 ^ 32) n (pos (of_z w n)) (pos (of_z w n % 2 ^ 32)) low rest))

-- the number of a type that bits stand for, counted from the type's least number
pub wrapped-bits : (elem : Elem) (half b : ℕ) → least_of elem ≡ neg_ℤ (pos half) → wrapped elem (pos b) ≡ pos ((b + half) % modulus_of elem) -ℤ pos half
unfolding wrapped
wrapped-bits elem half b e =
    let moved : pos b -ℤ least_of elem ≡ pos (b + half) = omega (arith, ints, e) in
    let rest : int_rem_euclid (pos b -ℤ least_of elem) (pos (modulus_of elem)) ≡ pos ((b + half) % modulus_of elem) = ap (λ z. int_rem_euclid z (pos (modulus_of elem))) moved in
    omega (arith, ints, e, rest)

-- ---- results that are computed in 64 bits

-- the number that 64 bits stand for wraps to the same number as the bits
pub wrapped-of_bits : (elem : Elem) (b : ℕ) → b < 2 ^ 64 → wrapped elem (to_z w64 b) ≡ wrapped elem (pos b)
wrapped-of_bits elem b h =
    let fits : SFits w64 (to_z w64 b) = to_z-Fits w64 b (record { fits = h }) in
    let low : wrapped elem (pos (b % 2 ^ 32)) ≡ wrapped elem (to_z w64 b) = rw (of_z-to_z w64 b h) at (wrapped-low w64 (2 ^ 32) elem (to_z w64 b) refl (omega arith) fits) in
    sym low ∙ sym (wrapped-word elem (pos b) (pos (b % 2 ^ 32)) (euclid (2 ^ 32) (pos b) (omega arith)))

-- a number that was wrapped into 64 bits wraps to the same number
pub wrapped-int_wrap : (elem : Elem) (z : ℤ) → wrapped elem (int_wrap w64 z) ≡ wrapped elem z
unfolding int_wrap
wrapped-int_wrap elem z =
    let b = unsigned_abs (int_rem_euclid z (pos (2 ^ 64))) in
    let below : b < 2 ^ 64 = rem_below (2 ^ 64) z (omega arith) in
    let same : AreCongruent (2 ^ 32 * 2 ^ 32) z (pos b) = rem_congruent (2 ^ 64) z (omega arith) in
    wrapped-of_bits elem b below ∙ sym (wrapped-word elem z (pos b) (AreCongruent-factor (2 ^ 32) (2 ^ 32) z (pos b) same))

-- so does a product of 64 bits that lost its higher bits
pub wrapped-product : (elem : Elem) (x y : ℤ) → SFits w64 x → SFits w64 y → wrapped elem (int_wrapping_mul w64 x y) ≡ wrapped elem (x *ℤ y)
wrapped-product elem x y f g = ap (wrapped elem) (wrapping_mul_is w64 x y f g) ∙ wrapped-int_wrap elem (x *ℤ y)

-- the bits of a number in a type are the lowest of its 64 bits
pub bits_of-is : (elem : Elem) (x : ℤ) → SFits w64 x → bits_of elem x ≡ of_z w64 x % modulus_of elem
bits_of-is elem (pos a) f = refl
bits_of-is elem (negsuc a) f =
    let d = words_of elem in
    let m = modulus_of elem in
    let below : a < 2 ^ 64 = omega (arith, f.sfits) in
    let whole : (2 ^ 32 * d.0) * m ≡ 2 ^ 64 = mul_assoc (2 ^ 32) d.0 m ∙ ap (λ k. 2 ^ 32 * k) d.1 in
    let moved : negsuc a +ℤ pos ((2 ^ 32 * d.0) * m) ≡ pos (2 ^ 64 - suc a) = omega (arith, ints, whole) in
    ap unsigned_abs (int_rem_euclid_is (negsuc a) (pos m) m (2 ^ 32 * d.0) (2 ^ 64 - suc a) (modulus_pos elem) refl moved)

-- an operation on each bit alone, as `&`, may be done on 64 bits
pub wrapped-bitwise : (f : ℕ → ℕ → ℕ) (elem : Elem) (x y : ℤ) → ((a b k : ℕ) → f a b % 2 ^ k ≡ f (a % 2 ^ k) (b % 2 ^ k)) → f (of_z w64 x) (of_z w64 y) < 2 ^ 64 → SFits w64 x → SFits w64 y
    → wrapped elem (to_z w64 (f (of_z w64 x) (of_z w64 y))) ≡ wrapped elem (pos (f (bits_of elem x) (bits_of elem y)))
wrapped-bitwise f elem x y each h p q =
    let b = f (of_z w64 x) (of_z w64 y) in
    let m = modulus_of elem in
    let parts : b % m ≡ f (bits_of elem x) (bits_of elem y) = each (of_z w64 x) (of_z w64 y) (width_of elem) ∙ ap (λ k. f k (of_z w64 y % m)) (sym (bits_of-is elem x p)) ∙ ap (λ k. f (bits_of elem x) k) (sym (bits_of-is elem y q)) in
    wrapped-of_bits elem b h ∙ wrapped-AreCongruent elem (pos b) (pos (b % m)) (euclid m (pos b) (modulus_pos elem)) ∙ ap (λ k. wrapped elem (pos k)) parts
