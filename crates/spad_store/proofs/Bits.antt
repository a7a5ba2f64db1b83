-- Single bits of numbers.
use Rattle.std.proofs.Common.{◌≡◌, ℕ, zero, suc, ◌+◌, ◌-◌, ◌*◌, ◌/◌, ◌%◌, ◌^◌, ◌<◌, ◌≤◌, ap, sym, subst, refl, ◌∙◌, arith, min, max, get_or, length, w64, true, false}
use Rattle.std.specs.Prelude.{◌==◌, Bool}
use mir.Val.{bool_byte}
use Rattle.std.specs.Prelude.{bit_and, bit_or}
use Rattle.std.specs.Int.{bit_at, bit_not}
use Rattle.std.proofs.Math.Nat.{div-div-eq-div-mul, mul-le-mul_left}
use Rattle.std.proofs.lemmas.Nat.{pow-add, pow_pos, and_mask, shl_whole, shl_below, or_lt, mod_below}
use Rattle.std.proofs.lemmas.Nat.Bits.{bit_at_lowest, bit_at-suc, bit_at-zero, bit_at_and, bit_at_or, bit_at_not, bit_at_ones, bit_at_ones_above, bit_at_above, bit_at_cat_low, bit_at_cat_high, bit_at-lt}
use Rattle.spad_store.specs.Cells.{flags_of}
use Rattle.spad_store.specs.Packed.{has_bit}

-- ---- shifts and remainders

pub bit_shifted_low : (a s i : ℕ) → i < s → bit_at (a * 2 ^ s) i ≡ 0
bit_shifted_low a s i low =
    let plus : a * 2 ^ s ≡ a * 2 ^ s + 0 = omega arith in
    ap (λ n. bit_at n i) plus ∙ bit_at_cat_low a s 0 i low ∙ bit_at-zero i

pub bit_shifted_high : (a s i : ℕ) → s ≤ i → bit_at (a * 2 ^ s) i ≡ bit_at a (i - s)
bit_shifted_high a s i high =
    let plus : a * 2 ^ s ≡ a * 2 ^ s + 0 = omega arith in
    ap (λ n. bit_at n i) plus ∙ bit_at_cat_high a s 0 i (pow_pos s) high

pub bit_of_rest : (n w i : ℕ) → i < w → bit_at (n % 2 ^ w) i ≡ bit_at n i
bit_of_rest n w i below =
    ap (λ n. bit_at n i) (sym (and_mask n w))
    ∙ bit_at_and n (2 ^ w - 1) i
    ∙ omega (arith, bit_at_ones w i below, bit_at-lt n i)

pub bit_behind : (n s i : ℕ) → bit_at (n / 2 ^ s) i ≡ bit_at n (s + i)
bit_behind n s i = ap (λ q. q % 2) (div-div-eq-div-mul n (2 ^ s) (2 ^ i) ∙ ap (λ m. n / m) (sym (pow-add 2 s i)))

-- ---- some places of a word

-- the mask of so many places from one on
pub mask_is : (count s : ℕ) → count + s ≤ 64 → (2 ^ count - 1) * 2 ^ s % 2 ^ 64 ≡ (2 ^ count - 1) * 2 ^ s
mask_is count s fits = shl_whole (2 ^ count - 1) count s 64 (omega (arith, pow_pos count)) fits

pub mask_small : (count s : ℕ) → count + s ≤ 64 → (2 ^ count - 1) * 2 ^ s < 2 ^ 64
mask_small count s fits = subst (λ n. n < 2 ^ 64) (mask_is count s fits) (mod_below ((2 ^ count - 1) * 2 ^ s) (2 ^ 64) (omega arith))

pub mask_below : (count s i : ℕ) → i < s → bit_at ((2 ^ count - 1) * 2 ^ s) i ≡ 0
mask_below count s i low = bit_shifted_low (2 ^ count - 1) s i low

pub mask_inside : (count s i : ℕ) → s ≤ i → i < s + count → bit_at ((2 ^ count - 1) * 2 ^ s) i ≡ 1
mask_inside count s i high below = bit_shifted_high (2 ^ count - 1) s i high ∙ bit_at_ones count (i - s) (omega arith)

pub mask_behind : (count s i : ℕ) → s + count ≤ i → bit_at ((2 ^ count - 1) * 2 ^ s) i ≡ 0
mask_behind count s i above = bit_shifted_high (2 ^ count - 1) s i (omega arith) ∙ bit_at_ones_above count (i - s) (omega arith)

-- a word whose bits are those of another one under a mask
module _ (word bits mask i : ℕ) (small : mask < 2 ^ 64) (place : i < 64) where
  put_bit : bit_at (bit_or (bit_and word (bit_not w64 mask)) (bit_and bits mask)) i ≡ max (min (bit_at word i) (1 - bit_at mask i)) (min (bit_at bits i) (bit_at mask i))
  put_bit =
      bit_at_or (bit_and word (bit_not w64 mask)) (bit_and bits mask) i
      ∙ ap (λ b. max b (bit_at (bit_and bits mask) i)) (bit_at_and word (bit_not w64 mask) i ∙ ap (min (bit_at word i)) (bit_at_not w64 mask i small place))
      ∙ ap (max (min (bit_at word i) (1 - bit_at mask i))) (bit_at_and bits mask i)

  pub put_under : bit_at mask i ≡ 1 → bit_at (bit_or (bit_and word (bit_not w64 mask)) (bit_and bits mask)) i ≡ bit_at bits i
  put_under one = omega (arith, put_bit, bit_at-lt word i, bit_at-lt bits i)

  pub put_apart : bit_at mask i ≡ 0 → bit_at (bit_or (bit_and word (bit_not w64 mask)) (bit_and bits mask)) i ≡ bit_at word i
  put_apart none = omega (arith, put_bit, bit_at-lt word i, bit_at-lt bits i)

-- two numbers one behind the other
module _ (low high first count : ℕ) (low_fits : low < 2 ^ first) (high_fits : high < 2 ^ (count - first)) (within : first ≤ count) (few : count ≤ 64) where
  pub high_is : high * 2 ^ first % 2 ^ 64 ≡ high * 2 ^ first
  high_is = shl_whole high (count - first) first 64 high_fits (omega arith)

  pub joined_below : bit_or low (high * 2 ^ first) < 2 ^ count
  joined_below =
      let rest : (count - first) + first ≡ count = omega arith in
      let ends : first + (count - first) ≡ count = omega arith in
      let high_below : high * 2 ^ first < 2 ^ count = subst (λ n. high * 2 ^ first < 2 ^ n) rest (shl_below high (count - first) first high_fits) in
      let low_below : low < 2 ^ count = subst (λ n. low < 2 ^ n) ends (omega (arith, pow-add 2 first (count - first), mul-le-mul_left (2 ^ first) (pow_pos (count - first)))) in
      or_lt count low (high * 2 ^ first) low_below high_below

  pub joined_low : (k : ℕ) → k < first → bit_at (bit_or low (high * 2 ^ first)) k ≡ bit_at low k
  joined_low k below = bit_at_or low (high * 2 ^ first) k ∙ omega (arith, bit_shifted_low high first k below)

  pub joined_high : (k : ℕ) → first ≤ k → bit_at (bit_or low (high * 2 ^ first)) k ≡ bit_at high (k - first)
  joined_high k above =
      bit_at_or low (high * 2 ^ first) k
      ∙ omega (arith, bit_at_above low first k low_fits above, bit_shifted_high high first k above)

-- ---- bits as flags

pub same_bit : (a b i j : ℕ) → bit_at a i ≡ bit_at b j → has_bit a i ≡ has_bit b j
unfolding has_bit
same_bit a b i j same = ap (λ n. n == 1) same

pub all_ones : (k : ℕ) → k < 64 → has_bit (2 ^ 64 - 1) k ≡ true
unfolding has_bit
all_ones k below = ap (λ n. n == 1) (bit_at_ones 64 k below)

pub no_ones : (k : ℕ) → has_bit 0 k ≡ false
unfolding has_bit
no_ones k = ap (λ n. n == 1) (bit_at-zero k)

pub one_flag : (flag : Bool) (n : ℕ) → n ≡ bool_byte flag → has_bit n 0 ≡ flag
unfolding has_bit
one_flag true n is = ap (λ n. bit_at n 0 == 1) is
one_flag false n is = ap (λ n. bit_at n 0 == 1) is

pub length_flags_of : (count bits : ℕ) → length (flags_of count bits) ≡ count
length_flags_of zero bits = refl
length_flags_of (suc count) bits = ap suc (length_flags_of count (bits / 2))

pub flag_of_bit : (count bits k : ℕ) (d : Bool) → k < count → get_or (flags_of count bits) k d ≡ has_bit bits k
unfolding has_bit
flag_of_bit zero bits k d below = absurd (omega arith)
flag_of_bit (suc count) bits zero d below = ap (λ n. n == 1) (sym (bit_at_lowest bits))
flag_of_bit (suc count) bits (suc k) d below = flag_of_bit count (bits / 2) k d (omega arith) ∙ ap (λ n. n == 1) (sym (bit_at-suc bits k))
