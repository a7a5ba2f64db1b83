-- Bits that stand at the first of so many places each, and are spread over all of them.
use Rattle.std.proofs.Common.{◌≡◌, ℕ, zero, suc, ◌+◌, ◌-◌, ◌*◌, ◌/◌, ◌%◌, ◌^◌, ◌<◌, ◌≤◌, inl, inr, ap, sym, ◌∙◌, refl, subst, arith, min, Bool, true, false, eqb}
use Rattle.std.specs.Prelude.{bit_and, bit_or, ◌&&◌}
use Rattle.std.specs.Int.{bit_at}
use Rattle.std.proofs.lemmas.Bool.{cases_lt, cases_eq, eqb-true, false≢true}
use Rattle.std.proofs.lemmas.Nat.{and_le_r, shl_whole, or_lt}
use Rattle.std.proofs.lemmas.Nat.Bits.{bit_at_or, bit_at_and, bit_at-lt, bit_at-zero, bit_at_above}
use Rattle.ven_base.specs.declared.elem.Elem.{Elem}
use Rattle.ven_base.specs.Elem.{size_of}
use Rattle.spad_store.specs.Packed.{has_bit}
use Rattle.spad_store.proofs.Bits.{bit_shifted_low, bit_shifted_high, same_bit, no_ones}
use Rattle.lane_machine.specs.Flags.{HasFlags}

-- of each run of `step` places, up to the run `last`, the first `width` places have the run's bit, and the others none
pub record IsSpread (step last width : ℕ) (bit : ℕ → ℕ) (bits : ℕ) : Type 0 where
  pub each : (k p : ℕ) → k ≤ last → p < width → bit_at bits (k * step + p) ≡ bit k
  pub rest : (k p : ℕ) → k ≤ last → width ≤ p → p < step → bit_at bits (k * step + p) ≡ 0
  pub behind : (j : ℕ) → last * step + step ≤ j → bit_at bits j ≡ 0

-- ---- over twice as many places

module _ (step last width : ℕ) (bit : ℕ → ℕ) (bits : ℕ) (is : IsSpread step last width bit bits) (fits : width + width ≤ step) where
  shifted : (k p : ℕ) → width ≤ p → bit_at (bits * 2 ^ width) (k * step + p) ≡ bit_at bits (k * step + (p - width))
  shifted k p high =
      let back : k * step + p - width ≡ k * step + (p - width) = omega arith in
      bit_shifted_high bits width (k * step + p) (omega arith) ∙ ap (bit_at bits) back

  shifted_first : (k p : ℕ) → k ≤ last → p < width → bit_at (bits * 2 ^ width) (k * step + p) ≡ 0
  shifted_first zero p below low = bit_shifted_low bits width (0 * step + p) (omega arith)
  shifted_first (suc k) p below low =
      let back : suc k * step + p - width ≡ k * step + (step + p - width) = omega arith in
      bit_shifted_high bits width (suc k * step + p) (omega arith) ∙ ap (bit_at bits) back
      ∙ is.rest k (step + p - width) (omega arith) (omega arith) (omega arith)

  pub doubled : IsSpread step last (width + width) bit (bit_or bits (bits * 2 ^ width))
  doubled = record {
    each = λ k p below low.
        elim (cases_lt p width) [
          | inl first ↦ omega (arith, bit_at_or bits (bits * 2 ^ width) (k * step + p), is.each k p below first, shifted_first k p below first)
          | inr second ↦
              omega (arith, bit_at_or bits (bits * 2 ^ width) (k * step + p), is.rest k p below second (omega arith), shifted k p second, is.each k (p - width) below (omega arith))
        ];
    rest = λ k p below high low.
        omega (arith, bit_at_or bits (bits * 2 ^ width) (k * step + p), is.rest k p below (omega arith) low, shifted k p (omega arith), is.rest k (p - width) below (omega arith) (omega arith));
    behind = λ j from.
        elim (cases_lt (j - width) (last * step + step)) [
          | inl within ↦
              let there : j - width ≡ last * step + (j - width - last * step) = omega arith in
              let none : bit_at bits (j - width) ≡ 0 = ap (bit_at bits) there ∙ is.rest last (j - width - last * step) (omega arith) (omega arith) (omega arith) in
              omega (arith, bit_at_or bits (bits * 2 ^ width) j, is.behind j from, bit_shifted_high bits width j (omega arith), none)
          | inr outside ↦
              omega (arith, bit_at_or bits (bits * 2 ^ width) j, is.behind j from, bit_shifted_high bits width j (omega arith), is.behind (j - width) outside)
        ];
  }

-- ---- the first places alone

-- what holds of each number below an end
abbrev all_below : ℕ → (ℕ → Bool) → Bool
all_below zero p = true
all_below (suc n) p = p n && all_below n p

and_first : (a b : Bool) → (a && b) ≡ true → a ≡ true
and_first true b h = refl
and_first false b h = h

and_second : (a b : Bool) → (a && b) ≡ true → b ≡ true
and_second true b h = h
and_second false b h = absurd (false≢true h)

all_at : (n : ℕ) (p : ℕ → Bool) → all_below n p ≡ true → (k : ℕ) → k < n → p k ≡ true
all_at zero p h k below = absurd (omega arith)
all_at (suc n) p h k below = elim (cases_eq k n) [
  | inl same ↦ ap p same ∙ and_first (p n) (all_below n p) h
  | inr other ↦ all_at n p (and_second (p n) (all_below n p) h) k (omega arith)
]

-- masks of the first of one, two and four places
mask_one : (j : ℕ) → j < 16 → bit_at 65535 j ≡ 1
mask_one j below = eqb-true (bit_at 65535 j) 1 (all_at 16 (λ j. eqb (bit_at 65535 j) 1) refl j below)

mask_two : (j : ℕ) → j < 16 → bit_at 21845 j ≡ 1 - min 1 (j % 2)
mask_two j below = eqb-true (bit_at 21845 j) (1 - min 1 (j % 2)) (all_at 16 (λ j. eqb (bit_at 21845 j) (1 - min 1 (j % 2))) refl j below)

mask_four : (j : ℕ) → j < 16 → bit_at 4369 j ≡ 1 - min 1 (j % 4)
mask_four j below = eqb-true (bit_at 4369 j) (1 - min 1 (j % 4)) (all_at 16 (λ j. eqb (bit_at 4369 j) (1 - min 1 (j % 4))) refl j below)

first_of_one : (first : ℕ) → IsSpread 1 15 1 (λ k. bit_at first (k * 1)) (bit_and first 65535)
first_of_one first = record {
  each = λ k p below low.
      let there : k * 1 + p ≡ k * 1 = omega arith in
      ap (bit_at (bit_and first 65535)) there ∙ omega (arith, bit_at_and first 65535 (k * 1), mask_one (k * 1) (omega arith), bit_at-lt first (k * 1));
  rest = λ k p below high low. absurd (omega arith);
  behind = λ j from. omega (arith, bit_at_and first 65535 j, bit_at_above 65535 16 j (omega arith) (omega arith));
}

first_of_two : (first : ℕ) → IsSpread 2 7 1 (λ k. bit_at first (k * 2)) (bit_and first 21845)
first_of_two first = record {
  each = λ k p below low.
      let there : k * 2 + p ≡ k * 2 = omega arith in
      ap (bit_at (bit_and first 21845)) there ∙ omega (arith, bit_at_and first 21845 (k * 2), mask_two (k * 2) (omega arith), bit_at-lt first (k * 2));
  rest = λ k p below high low. omega (arith, bit_at_and first 21845 (k * 2 + p), mask_two (k * 2 + p) (omega arith));
  behind = λ j from. omega (arith, bit_at_and first 21845 j, bit_at_above 21845 16 j (omega arith) (omega arith));
}

first_of_four : (first : ℕ) → IsSpread 4 3 1 (λ k. bit_at first (k * 4)) (bit_and first 4369)
first_of_four first = record {
  each = λ k p below low.
      let there : k * 4 + p ≡ k * 4 = omega arith in
      ap (bit_at (bit_and first 4369)) there ∙ omega (arith, bit_at_and first 4369 (k * 4), mask_four (k * 4) (omega arith), bit_at-lt first (k * 4));
  rest = λ k p below high low. omega (arith, bit_at_and first 4369 (k * 4 + p), mask_four (k * 4 + p) (omega arith));
  behind = λ j from. omega (arith, bit_at_and first 4369 j, bit_at_above 4369 16 j (omega arith) (omega arith));
}

-- ---- as flags

flags_spread : (elem : Elem) (count last first bits : ℕ) → count ≡ last + 1 → IsSpread (size_of elem) last (size_of elem) (λ k. bit_at first (k * size_of elem)) bits
    → HasFlags elem count (λ k. has_bit first (k * size_of elem)) bits
flags_spread elem count last first bits runs is =
    let size = size_of elem in
    let whole : count * size ≡ last * size + size = ap (λ n. n * size) runs ∙ omega arith in
    record {
      each = λ k p below low. same_bit bits first (k * size + p) (k * size) (is.each k p (omega arith) low);
      behind = λ j from. same_bit bits 0 j j (is.behind j (omega arith) ∙ sym (bit_at-zero j)) ∙ no_ones j;
    }

pub whole_ones : (elem : Elem) (first : ℕ) → size_of elem ≡ 1 → HasFlags elem (16 / size_of elem) (λ k. has_bit first (k * size_of elem)) (bit_and first 65535)
whole_ones elem first one =
    flags_spread elem (16 / size_of elem) 15 first (bit_and first 65535) (ap (λ n. 16 / n) one)
    (subst (λ size. IsSpread size 15 size (λ k. bit_at first (k * size)) (bit_and first 65535)) (sym one) (first_of_one first))

-- a shift of 17 bits at the most loses none
shift_whole : (bits s : ℕ) → bits < 2 ^ 17 → s ≤ 2 → bits * 2 ^ s % 2 ^ 64 ≡ bits * 2 ^ s
shift_whole bits s small few = shl_whole bits 17 s 64 small (omega arith)

pub whole_twos : (elem : Elem) (first : ℕ) → size_of elem ≡ 2
    → HasFlags elem (16 / size_of elem) (λ k. has_bit first (k * size_of elem)) (bit_or (bit_and first 21845) (bit_and first 21845 * 2 ^ 1 % 2 ^ 64))
whole_twos elem first two =
    let firsts = bit_and first 21845 in
    let is : IsSpread 2 7 2 (λ k. bit_at first (k * 2)) (bit_or firsts (firsts * 2 ^ 1 % 2 ^ 64)) =
    subst (λ n. IsSpread 2 7 2 (λ k. bit_at first (k * 2)) (bit_or firsts n)) (sym (shift_whole firsts 1 (omega (arith, and_le_r first 21845)) (omega arith)))
    (doubled 2 7 1 (λ k. bit_at first (k * 2)) firsts (first_of_two first) (omega arith)) in
    flags_spread elem (16 / size_of elem) 7 first (bit_or firsts (firsts * 2 ^ 1 % 2 ^ 64)) (ap (λ n. 16 / n) two)
    (subst (λ size. IsSpread size 7 size (λ k. bit_at first (k * size)) (bit_or firsts (firsts * 2 ^ 1 % 2 ^ 64))) (sym two) is)

pub whole_fours : (elem : Elem) (first pairs : ℕ) → size_of elem ≡ 4 → pairs ≡ bit_or (bit_and first 4369) (bit_and first 4369 * 2 ^ 1 % 2 ^ 64)
    → HasFlags elem (16 / size_of elem) (λ k. has_bit first (k * size_of elem)) (bit_or pairs (pairs * 2 ^ 2 % 2 ^ 64))
whole_fours elem first pairs four pairs_are =
    let firsts = bit_and first 4369 in
    let few : firsts ≤ 4369 = and_le_r first 4369 in
    let whole : firsts * 2 ^ 1 % 2 ^ 64 ≡ firsts * 2 ^ 1 = shift_whole firsts 1 (omega arith) (omega arith) in
    let is_pairs : pairs ≡ bit_or firsts (firsts * 2 ^ 1) = pairs_are ∙ ap (bit_or firsts) whole in
    let small : bit_or firsts (firsts * 2 ^ 1) < 2 ^ 17 = or_lt 17 firsts (firsts * 2 ^ 1) (omega arith) (omega arith) in
    let pairs_small : pairs < 2 ^ 17 = subst (λ n. n < 2 ^ 17) (sym is_pairs) small in
    let spread : IsSpread 4 3 2 (λ k. bit_at first (k * 4)) pairs = subst (IsSpread 4 3 2 (λ k. bit_at first (k * 4))) (sym is_pairs) (doubled 4 3 1 (λ k. bit_at first (k * 4)) firsts (first_of_four first) (omega arith)) in
    let is : IsSpread 4 3 4 (λ k. bit_at first (k * 4)) (bit_or pairs (pairs * 2 ^ 2 % 2 ^ 64)) =
    subst (λ n. IsSpread 4 3 4 (λ k. bit_at first (k * 4)) (bit_or pairs n)) (sym (shift_whole pairs 2 pairs_small (omega arith)))
    (doubled 4 3 2 (λ k. bit_at first (k * 4)) pairs spread (omega arith)) in
    flags_spread elem (16 / size_of elem) 3 first (bit_or pairs (pairs * 2 ^ 2 % 2 ^ 64)) (ap (λ n. 16 / n) four)
    (subst (λ size. IsSpread size 3 size (λ k. bit_at first (k * size)) (bit_or pairs (pairs * 2 ^ 2 % 2 ^ 64))) (sym four) is)
