-- Flags as bits: one element more has its flag.
use Rattle.std.proofs.Common.{◌≡◌, ℕ, ◌+◌, ◌-◌, ◌*◌, ◌^◌, ◌<◌, ◌≤◌, inl, inr, ap, sym, ◌∙◌, refl, arith, min, max, true, false, w64}
use Rattle.std.specs.Prelude.{Bool, bit_and, bit_or, ◌==◌}
use Rattle.std.specs.Int.{bit_at, bit_not}
use Rattle.std.proofs.lemmas.Bool.{cases_eq, false≢true}
use Rattle.std.proofs.lemmas.Nat.Bits.{bit_at_or, bit_at_and, bit_at_not, bit_at-lt}
use Rattle.ven_base.specs.declared.elem.Elem.{Elem}
use Rattle.ven_base.specs.Elem.{size_of}
use Rattle.spad_store.specs.Packed.{has_bit}
use Rattle.spad_store.proofs.Bits.{same_bit, no_ones, mask_below, mask_inside, mask_behind}
use Rattle.lane_machine.specs.Flags.{HasFlags}
use Rattle.lane_machine.proofs.Elements.{element_in_row}

pub no_flags : (elem : Elem) (flags : ℕ → Bool) → HasFlags elem 0 flags 0
no_flags elem flags = record { each = λ k p below in_size. absurd (omega arith); behind = λ j from. no_ones j }

pub bit_is_one : (bits j : ℕ) → bit_at bits j ≡ 1 → has_bit bits j ≡ true
unfolding has_bit
bit_is_one bits j one = ap (λ n. n == 1) one

pub bit_is_none : (bits j : ℕ) → (bit_at bits j ≡ 1 → ⊥) → has_bit bits j ≡ false
unfolding has_bit
bit_is_none bits j not_one =
    let none : bit_at bits j ≡ 0 = omega (arith, bit_at-lt bits j, not_one) in
    ap (λ n. n == 1) none

module _ (elem : Elem) (k bits : ℕ) (flags : ℕ → Bool) (so_far : HasFlags elem k flags bits) where
  -- it is set
  module _ (ones : ℕ) (is : ones ≡ (2 ^ size_of elem - 1) * 2 ^ (k * size_of elem)) where
    apart : (j : ℕ) → bit_at ones j ≡ 0 → has_bit (bit_or bits ones) j ≡ has_bit bits j
    apart j none = same_bit (bit_or bits ones) bits j j (bit_at_or bits ones j ∙ omega (arith, none, bit_at-lt bits j))

    pub flag_set : flags k ≡ true → HasFlags elem (k + 1) flags (bit_or bits ones)
    flag_set set =
        let size = size_of elem in
        let place = k * size in
        record {
          each = λ i p below in_size.
              elim (cases_eq i k) [
                | inl same ↦
                    let there : i * size + p ≡ place + p = ap (λ n. n * size + p) same in
                    let one : bit_at ones (place + p) ≡ 1 = ap (λ n. bit_at n (place + p)) is ∙ mask_inside size place (place + p) (omega arith) (omega arith) in
                    ap (has_bit (bit_or bits ones)) there
                    ∙ bit_is_one (bit_or bits ones) (place + p) (bit_at_or bits ones (place + p) ∙ omega (arith, one, bit_at-lt bits (place + p)))
                    ∙ sym (ap flags same ∙ set)
                | inr other ↦
                    let before : i * size + size ≤ place = element_in_row i k size (omega arith) in
                    apart (i * size + p) (ap (λ n. bit_at n (i * size + p)) is ∙ mask_below size place (i * size + p) (omega arith))
                    ∙ so_far.each i p (omega arith) in_size
              ];
          behind = λ j from.
              apart j (ap (λ n. bit_at n j) is ∙ mask_behind size place j (omega arith)) ∙ so_far.behind j (omega arith);
        }

  -- it is not
  pub flag_clear : flags k ≡ false → HasFlags elem (k + 1) flags bits
  flag_clear clear =
      let size = size_of elem in
      let place = k * size in
      record {
        each = λ i p below in_size.
            elim (cases_eq i k) [
              | inl same ↦
                  let there : i * size + p ≡ place + p = ap (λ n. n * size + p) same in
                  so_far.behind (i * size + p) (omega arith) ∙ sym (ap flags same ∙ clear)
              | inr other ↦ so_far.each i p (omega arith) in_size
            ];
        behind = λ j from. so_far.behind j (omega arith);
      }

-- ---- flags without some of them

flag_is_one : (bits j : ℕ) → has_bit bits j ≡ true → bit_at bits j ≡ 1
flag_is_one bits j set =
    elim (cases_eq (bit_at bits j) 1) [ inl one ↦ one | inr not_one ↦ absurd (false≢true (sym (bit_is_none bits j not_one) ∙ set)) ]

flag_is_none : (bits j : ℕ) → has_bit bits j ≡ false → bit_at bits j ≡ 0
flag_is_none bits j clear =
    elim (cases_eq (bit_at bits j) 1) [ inl one ↦ absurd (false≢true (sym clear ∙ bit_is_one bits j one)) | inr not_one ↦ omega (arith, bit_at-lt bits j) ]

module _ (old moved j : ℕ) (small : moved < 2 ^ 64) (place : j < 64) where
  without : bit_at (bit_and old (bit_not w64 moved)) j ≡ min (bit_at old j) (1 - bit_at moved j)
  without = bit_at_and old (bit_not w64 moved) j ∙ ap (min (bit_at old j)) (bit_at_not w64 moved j small place)

  pub moved_clear : has_bit moved j ≡ true → has_bit (bit_and old (bit_not w64 moved)) j ≡ false
  moved_clear set = bit_is_none (bit_and old (bit_not w64 moved)) j (λ one. absurd (omega (arith, without, flag_is_one moved j set)))

  pub others_stay : has_bit moved j ≡ false → has_bit (bit_and old (bit_not w64 moved)) j ≡ has_bit old j
  others_stay clear = same_bit (bit_and old (bit_not w64 moved)) old j j (omega (arith, without, flag_is_none moved j clear, bit_at-lt old j))
