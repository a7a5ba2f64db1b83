-- The reduction of an array is that of its rows' reductions.
use Rattle.std.proofs.Common.{◌≡◌, ℕ, ◌≤◌, List, [], ◌∷◌, length, refl, sym, ap, ◌∙◌, subst, arith, length-append}
use Rattle.std.specs.Prelude.{ℤ, pos, ◌+ℤ◌, ◌≤ℤ◌, map}
use Rattle.std.specs.List.{flat_map}
use Rattle.std.proofs.lemmas.Int.{ints}
use Rattle.std.proofs.lemmas.List.{append-nil}
use Rattle.std.proofs.lemmas.List.Elements.{All-cons, All-nil}
use Rattle.ven_base.specs.declared.elem.Elem.{Elem}
use Rattle.ven_base.specs.declared.ops.Fold.{Fold}
use Rattle.ven_base.specs.declared.ops.Fold.TheVariants.{Sum, Min, Max}
use Rattle.ven_base.specs.Wrap.{wrapped}
use Rattle.ven_base.specs.Folding.{total_of, folded, IsFolded, joined}
use Rattle.ven_base.proofs.Wrapped.{wrapped-wrapped}
use Rattle.ven_base.proofs.Reductions.{IsFolded-folded, IsFolded-unique, IsFolded-append}

is_folded : (fold : Fold) (elem : Elem) (xs : List ℤ) → 1 ≤ length xs → IsFolded fold elem xs (folded fold elem xs)
is_folded fold elem [] h = absurd (omega arith)
is_folded fold elem (x ∷ xs) h = IsFolded-folded fold elem x xs

-- a reduction alone is its own
alone : (fold : Fold) (elem : Elem) (xs : List ℤ) → IsFolded fold elem (folded fold elem xs ∷ []) (folded fold elem xs)
alone Sum elem xs =
    let none : wrapped elem (total_of xs) +ℤ pos 0 ≡ wrapped elem (total_of xs) = omega (arith, ints) in
    sym (wrapped-wrapped elem (total_of xs)) ∙ ap (wrapped elem) (sym none)
alone Min elem xs = let r = folded Min elem xs in ((0, omega arith, refl), All-cons (λ x. r ≤ℤ x) r [] (omega (arith, ints)) (All-nil (λ x. r ≤ℤ x)))
alone Max elem xs = let r = folded Max elem xs in ((0, omega arith, refl), All-cons (λ x. x ≤ℤ r) r [] (omega (arith, ints)) (All-nil (λ x. x ≤ℤ r)))

module _ (fold : Fold) (elem : Elem) (row : ℕ → List ℤ) (some : (i : ℕ) → 1 ≤ length (row i)) where
  abbrev each : ℕ → ℤ
  each i = folded fold elem (row i)

  whole : (i : ℕ) (is : List ℕ) → IsFolded fold elem (flat_map row (i ∷ is)) (folded fold elem (map each (i ∷ is)))
  whole i [] =
      let lone = is_folded fold elem (each i ∷ []) (omega arith) in
      let same : each i ≡ folded fold elem (each i ∷ []) = IsFolded-unique fold elem (each i ∷ []) (each i) (folded fold elem (each i ∷ [])) (alone fold elem (row i)) lone in
      subst (λ (xs : List ℤ). IsFolded fold elem xs (folded fold elem (each i ∷ []))) (sym (append-nil (row i))) (subst (λ (r : ℤ). IsFolded fold elem (row i) r) same (is_folded fold elem (row i) (some i)))
  whole i (k ∷ is) =
      let rest = folded fold elem (map each (k ∷ is)) in
      let both = IsFolded-append fold elem (row i) (flat_map row (k ∷ is)) (each i) rest (is_folded fold elem (row i) (some i)) (whole k is) in
      let list = IsFolded-append fold elem (each i ∷ []) (map each (k ∷ is)) (each i) rest (alone fold elem (row i)) (is_folded fold elem (map each (k ∷ is)) (omega arith)) in
      let same : joined fold elem (each i) rest ≡ folded fold elem (map each (i ∷ k ∷ is)) =
      IsFolded-unique fold elem (map each (i ∷ k ∷ is)) (joined fold elem (each i) rest) (folded fold elem (map each (i ∷ k ∷ is))) list (is_folded fold elem (map each (i ∷ k ∷ is)) (omega arith)) in
      subst (λ (r : ℤ). IsFolded fold elem (flat_map row (i ∷ k ∷ is)) r) same both

  -- in any list of at least one row
  pub folded_rows : (is : List ℕ) → 1 ≤ length is → folded fold elem (map each is) ≡ folded fold elem (flat_map row is)
  folded_rows [] h = absurd (omega arith)
  folded_rows (i ∷ is) h = IsFolded-unique fold elem (flat_map row (i ∷ is)) (folded fold elem (map each (i ∷ is))) (folded fold elem (flat_map row (i ∷ is))) (whole i is) (is_folded fold elem (flat_map row (i ∷ is)) (some_flat i is))
    where
      some_flat : (i : ℕ) (is : List ℕ) → 1 ≤ length (flat_map row (i ∷ is))
      some_flat i is = let here = some i in simp length-append (omega arith)
