-- Programs by number as the code puts them together.
use Rattle.std.proofs.Common.{◌≡◌, ℕ, zero, suc, ◌+◌, ◌-◌, ◌/◌, ◌<◌, ◌≤◌, ap, sym, ◌∙◌, refl, arith, true, false, cond}
use Rattle.std.specs.Prelude.{◌==◌, nat_le}
use Rattle.std.proofs.lemmas.Bool.Decides.{nat_tests}
use Rattle.host_programs.specs.Program.{Program, Idle, Both}
use Rattle.host_codegen.specs.Sequence.{at_most_one, between}

module _ (first count : ℕ) (each : ℕ → Program) where
  pub between_few : (levels : ℕ) → count ≤ 1 → between levels first count each ≡ at_most_one first count each
  unfolding between
  between_few zero few = refl
  between_few (suc levels) few =
      let is : nat_le count 1 ≡ true = grind (arith, nat_tests) in
      ap (λ b. cond b (at_most_one first count each) (Both (between levels first (count / 2) each) (between levels (first + count / 2) (count - count / 2) each))) is

  pub between_none : (levels : ℕ) → count ≡ 0 → between levels first count each ≡ Idle
  between_none levels is =
      let test : (count == 0) ≡ true = grind (arith, nat_tests) in
      between_few levels (omega arith) ∙ ap (λ b. cond b Idle (each first)) test

  pub between_one : (levels : ℕ) → count ≡ 1 → between levels first count each ≡ each first
  between_one levels is =
      let test : (count == 0) ≡ false = grind (arith, nat_tests) in
      between_few levels (omega arith) ∙ ap (λ b. cond b Idle (each first)) test

  pub between_flat : (levels : ℕ) → levels ≡ 0 → 0 < count → between levels first count each ≡ each first
  unfolding between
  between_flat levels is some =
      let test : (count == 0) ≡ false = grind (arith, nat_tests) in
      ap (λ n. between n first count each) is ∙ ap (λ b. cond b Idle (each first)) test

  more_levels : (levels : ℕ) → 1 < count → between (suc levels) first count each ≡ Both (between levels first (count / 2) each) (between levels (first + count / 2) (count - count / 2) each)
  unfolding between
  more_levels levels many =
      let is : nat_le count 1 ≡ false = grind (arith, nat_tests) in
      ap (λ b. cond b (at_most_one first count each) (Both (between levels first (count / 2) each) (between levels (first + count / 2) (count - count / 2) each))) is

  pub between_both : (levels : ℕ) (front back : Program) → 0 < levels → 1 < count
      → front ≡ between (levels - 1) first (count / 2) each → back ≡ between (levels - 1) (first + count / 2) (count - count / 2) each
      → Both front back ≡ between levels first count each
  between_both zero front back some many is_front is_back = absurd (omega arith)
  between_both (suc n) front back some many is_front is_back =
      let less : suc n - 1 ≡ n = omega arith in
      let f : front ≡ between n first (count / 2) each = is_front ∙ ap (λ k. between k first (count / 2) each) less in
      let b : back ≡ between n (first + count / 2) (count - count / 2) each = is_back ∙ ap (λ k. between k (first + count / 2) (count - count / 2) each) less in
      ap (λ p. Both p back) f ∙ ap (λ q. Both (between n first (count / 2) each) q) b ∙ sym (more_levels n many)
