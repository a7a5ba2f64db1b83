-- Beats of a row, counted: how far a row is after so many beats.
use Rattle.std.proofs.Common.{◌≡◌, ℕ, suc, ◌+◌, ◌*◌, ◌/◌, ◌%◌, ◌<◌, ◌≤◌, ◌⊎◌, inl, inr, ap, ◌∙◌, arith}
use Rattle.std.proofs.lemmas.Bool.{cases_lt, cases_eq}
use Rattle.std.proofs.lemmas.Nat.{div_below, mod_below, div-mul-add, mod-mul-add, div-add-mod'}
use Rattle.std.proofs.Math.Nat.{mul-le-mul_right}
use Rattle.venice_isa.specs.Beat.{beats_of_row, group_at}
use Rattle.venice_isa.proofs.Regions.{item_fits}

module _ (items group : ℕ) (some : 0 < items) (some_group : 0 < group) where
  -- a row's beats reach its end
  pub reach_end : items ≤ beats_of_row items group * group
  reach_end =
      let whole : items / group * group + items % group ≡ items = div-add-mod' items group in
      let rest : items % group < group = mod_below items group some_group in
      elim (cases_eq (items % group) 0) [
        | inl none ↦ let beats : beats_of_row items group ≡ items / group = omega arith in omega (arith, ap (λ n. n * group) beats)
        | inr more ↦ let beats : beats_of_row items group ≡ suc (items / group) = omega arith in omega (arith, ap (λ n. n * group) beats)
      ]

  -- each of them begins before the end
  pub begin_before_end : (q : ℕ) → q < beats_of_row items group → q * group < items
  begin_before_end q below =
      let whole : items / group * group + items % group ≡ items = div-add-mod' items group in
      elim (cases_eq (items % group) 0) [
        | inl none ↦ let next : q * group + group ≤ items / group * group = item_fits q (items / group) group (omega arith) in omega arith
        | inr more ↦ let before : q * group ≤ items / group * group = mul-le-mul_right group (omega arith) in omega arith
      ]

  pub some_beats : 0 < beats_of_row items group
  some_beats =
      elim (cases_lt 0 (beats_of_row items group)) [
        | inl some_there ↦ some_there
        | inr none ↦ let zero_beats : beats_of_row items group ≡ 0 = omega arith in absurd (omega (arith, reach_end, ap (λ n. n * group) zero_beats))
      ]

  pub first_below : (n : ℕ) → (group_at items group n).first < items
  first_below n = begin_before_end (n % beats_of_row items group) (mod_below n (beats_of_row items group) some_beats)

  pub row_below : (rows n : ℕ) → n < rows * beats_of_row items group → (group_at items group n).row < rows
  row_below rows n below = div_below n (beats_of_row items group) rows some_beats below

  -- the next beat goes on in the row, or begins the next where the row is done
  pub next_beat : (n : ℕ) → (((group_at items group (n + 1)).row ≡ (group_at items group n).row) × ((group_at items group (n + 1)).first ≡ (group_at items group n).first + (group_at items group n).count) × ((group_at items group n).first + (group_at items group n).count < items)) ⊎ (((group_at items group (n + 1)).row ≡ (group_at items group n).row + 1) × ((group_at items group (n + 1)).first ≡ 0) × ((group_at items group n).first + (group_at items group n).count ≡ items))
  next_beat n =
      let beats = beats_of_row items group in
      let r = n / beats in
      let q = n % beats in
      let split : r * beats + q ≡ n = div-add-mod' n beats in
      let in_row : q < beats = mod_below n beats some_beats in
      elim (cases_lt (q + 1) beats) [
        | inl goes_on ↦
            let turned : n + 1 ≡ r * beats + (q + 1) = omega arith in
            let row : (n + 1) / beats ≡ r = ap (λ m. m / beats) turned ∙ div-mul-add r beats (q + 1) goes_on in
            let place : (n + 1) % beats ≡ q + 1 = ap (λ m. m % beats) turned ∙ mod-mul-add r beats (q + 1) goes_on in
            let begin : (q + 1) * group < items = begin_before_end (q + 1) goes_on in
            let first : (n + 1) % beats * group ≡ (q + 1) * group = ap (λ m. m * group) place in
            inl (row, omega arith, omega arith)
        | inr ends ↦
            let last : q + 1 ≡ beats = omega arith in
            let all : (q + 1) * group ≡ beats * group = ap (λ m. m * group) last in
            let turned : n + 1 ≡ (r + 1) * beats + 0 = omega arith in
            let row : (n + 1) / beats ≡ r + 1 = ap (λ m. m / beats) turned ∙ div-mul-add (r + 1) beats 0 some_beats in
            let place : (n + 1) % beats ≡ 0 = ap (λ m. m % beats) turned ∙ mod-mul-add (r + 1) beats 0 some_beats in
            let first : (n + 1) % beats * group ≡ 0 * group = ap (λ m. m * group) place in
            inr (row, omega arith, omega (arith, reach_end, begin_before_end q in_row))
      ]
