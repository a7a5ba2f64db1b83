-- Numbers that differ by whole multiples of one number: the relation is kept by sums, differences and products.
use Rattle.std.proofs.Common.{◌≡◌, ℕ, ◌+◌, ◌*◌, ◌/◌, ◌<◌, ◌≤◌, ap, sym, arith}
use Rattle.std.specs.Prelude.{ℤ, pos, ◌+ℤ◌, ◌-ℤ◌, ◌*ℤ◌, ◌≤ℤ◌, ◌<ℤ◌, neg_ℤ, unsigned_abs}
use Rattle.std.specs.Int.{int_rem_euclid, int_div_euclid}
use Rattle.std.proofs.lemmas.Int.{ints}
use borrow.Author.Differences.{up, down, same_in, same_out, sum_is_lem, neg_is, product_is}
use native.Mathlib.Nat.{div-add-mod', mod-lt, mul-le-mul_right}
use Rattle.std.proofs.lemmas.Bool.{cases_lt}
use mathlib.Core.Logic.{⊎_elim}
use lib.IntN.{negsuc}
use Rattle.ven_base.specs.Wrap.{AreCongruent}

pub AreCongruent-refl : (m : ℕ) (x : ℤ) → AreCongruent m x x
AreCongruent-refl m x = (pos 0, omega (arith, same_in, same_out, sum_is_lem, product_is (pos 0) (pos m)))

pub AreCongruent-sym : (m : ℕ) (x y : ℤ) → AreCongruent m x y → AreCongruent m y x
AreCongruent-sym m x y c =
    let k = c.0 in
    let n = neg_is k in
    let above = ap (λ a. a * m) n.0 in
    let below = ap (λ a. a * m) n.1 in
    (neg_ℤ k, omega (arith, same_in, same_out, sum_is_lem, product_is k (pos m), product_is (neg_ℤ k) (pos m), c.1))

pub AreCongruent-trans : (m : ℕ) (x y z : ℤ) → AreCongruent m x y → AreCongruent m y z → AreCongruent m x z
AreCongruent-trans m x y z c d =
    let sum = sum_is_lem c.0 d.0 in
    let e = ap (λ a. a * m) sum in
    (c.0 +ℤ d.0, omega (arith, same_in, same_out, sum_is_lem, product_is c.0 (pos m), product_is d.0 (pos m), product_is (c.0 +ℤ d.0) (pos m), c.1, d.1))

pub AreCongruent-add : (m : ℕ) (x x' y y' : ℤ) → AreCongruent m x x' → AreCongruent m y y' → AreCongruent m (x +ℤ y) (x' +ℤ y')
AreCongruent-add m x x' y y' c d =
    let sum = sum_is_lem c.0 d.0 in
    let e = ap (λ a. a * m) sum in
    (c.0 +ℤ d.0, omega (arith, same_in, same_out, sum_is_lem, product_is c.0 (pos m), product_is d.0 (pos m), product_is (c.0 +ℤ d.0) (pos m), c.1, d.1))

pub AreCongruent-neg : (m : ℕ) (x x' : ℤ) → AreCongruent m x x' → AreCongruent m (neg_ℤ x) (neg_ℤ x')
AreCongruent-neg m x x' c =
    let k = c.0 in
    let n = neg_is k in
    let above = ap (λ a. a * m) n.0 in
    let below = ap (λ a. a * m) n.1 in
    (neg_ℤ k, omega (arith, same_in, same_out, sum_is_lem, neg_is x, neg_is x', product_is k (pos m), product_is (neg_ℤ k) (pos m), c.1))

pub AreCongruent-sub : (m : ℕ) (x x' y y' : ℤ) → AreCongruent m x x' → AreCongruent m y y' → AreCongruent m (x -ℤ y) (x' -ℤ y')
AreCongruent-sub m x x' y y' c d = AreCongruent-add m x x' (neg_ℤ y) (neg_ℤ y') c (AreCongruent-neg m y y' d)

pub AreCongruent-mul_left : (m : ℕ) (x x' y : ℤ) → AreCongruent m x x' → AreCongruent m (x *ℤ y) (x' *ℤ y)
AreCongruent-mul_left m x x' y c =
    let k = c.0 in
    let sum : up x + down x' + down k * m ≡ up x' + down x + up k * m = omega (arith, same_out, sum_is_lem, product_is k (pos m), c.1) in
    let above = ap (λ a. a * up y) sum in
    let below = ap (λ a. a * down y) sum in
    let many = product_is k y in
    let more = ap (λ a. a * m) many.0 in
    let less = ap (λ a. a * m) many.1 in
    (k *ℤ y, omega (arith, same_in, sum_is_lem, product_is (k *ℤ y) (pos m), product_is x y, product_is x' y))

-- ---- the remainder

-- a number is its quotient times the divisor above its remainder
quotient : (n : ℕ) (x : ℤ) → 0 < n → x ≡ int_rem_euclid x (pos n) +ℤ int_div_euclid x (pos n) *ℤ pos n
quotient n (pos a) h = omega (arith, same_in, same_out, sum_is_lem, product_is (pos (a / n)) (pos n), div-add-mod' a n)
quotient n (negsuc a) h = omega (arith, same_in, same_out, sum_is_lem, product_is (negsuc (a / n)) (pos n), div-add-mod' a n, mod-lt a h)

-- so it is congruent to its remainder
pub euclid : (n : ℕ) (x : ℤ) → 0 < n → AreCongruent n x (int_rem_euclid x (pos n))
euclid n x h = (int_div_euclid x (pos n), quotient n x h)

-- a remainder isn't negative, and below the divisor
pub rem_range : (n : ℕ) (x : ℤ) → 0 < n → (pos 0 ≤ℤ int_rem_euclid x (pos n)) × (int_rem_euclid x (pos n) <ℤ pos n)
rem_range n (pos a) h = (omega (arith, ints), omega (arith, ints, mod-lt a h))
rem_range n (negsuc a) h = (omega (arith, ints), omega (arith, ints, mod-lt a h))

-- so as a natural number it is below the divisor, and congruent
pub rem_below : (n : ℕ) (x : ℤ) → 0 < n → unsigned_abs (int_rem_euclid x (pos n)) < n
rem_below n (pos a) h = mod-lt a h
rem_below n (negsuc a) h = omega (arith, mod-lt a h)

pub rem_congruent : (n : ℕ) (x : ℤ) → 0 < n → AreCongruent n x (pos (unsigned_abs (int_rem_euclid x (pos n))))
rem_congruent n (pos a) h = euclid n (pos a) h
rem_congruent n (negsuc a) h = euclid n (negsuc a) h

-- the quotient rounds down: times the divisor it is at most the number, and one more of it is above
pub div_floor : (n : ℕ) (x : ℤ) → 0 < n → ((int_div_euclid x (pos n) *ℤ pos n) ≤ℤ x) × (x <ℤ ((int_div_euclid x (pos n) +ℤ pos 1) *ℤ pos n))
div_floor n x h =
    let q = int_div_euclid x (pos n) in
    let r = int_rem_euclid x (pos n) in
    let whole : x ≡ r +ℤ q *ℤ pos n = quotient n x h in
    let range = rem_range n x h in
    let one = ap (λ a. a * n) (sum_is_lem q (pos 1)) in
    (omega (arith, ints, same_out, sum_is_lem, product_is q (pos n), whole), omega (arith, ints, same_out, sum_is_lem, product_is q (pos n), product_is (q +ℤ pos 1) (pos n), whole))

-- i lies not below j, where i times m is more than j times m and not by m
not_below : (m s t i j : ℕ) → s + j * m ≡ t + i * m → t < s + m → j ≤ i
not_below m s t i j h f = ⊎_elim (λ l. let l' : i + 1 ≤ j = omega arith in absurd (omega (arith, mul-le-mul_right m l'))) (λ l. l) (cases_lt i j)

-- two congruent numbers less than the modulus apart are one
pub near_same : (m : ℕ) (least v w : ℤ) → AreCongruent m v w → least ≤ℤ v → v <ℤ (least +ℤ pos m) → least ≤ℤ w → w <ℤ (least +ℤ pos m) → v ≡ w
near_same m least v w c a b d e =
    let k = c.0 in
    let p = product_is k (pos m) in
    let apart : (up v + down w) + down k * m ≡ (up w + down v) + up k * m = omega (arith, same_out, sum_is_lem, p, c.1) in
    let v_near : up v + down w < up w + down v + m = omega (arith, ints) in
    let w_near : up w + down v < up v + down w + m = omega (arith, ints) in
    let one = not_below m (up v + down w) (up w + down v) (up k) (down k) apart w_near in
    let two = not_below m (up w + down v) (up v + down w) (down k) (up k) (sym apart) v_near in
    let same : up k ≡ down k = omega arith in
    let times = ap (λ x. x * m) same in
    omega (arith, same_in)
