-- Rows of values in two parts, and their reductions.
use Rattle.std.proofs.Common.{◌≡◌, ℕ, zero, suc, ◌+◌, ◌<◌, ap, sym, ◌∙◌, subst, refl, arith, List, [], ◌∷◌, ◌++◌, length, map, true, false, ℤ, ◌+ℤ◌, All, Bool}
use Rattle.std.specs.Prelude.{Contains, ◌≤ℤ◌}
use Rattle.std.specs.List.{range_with_len}
use Rattle.std.proofs.lemmas.List.FromFn.{length-map-range_with_len, get_or-map-range_with_len}
use Rattle.ven_base.specs.declared.elem.Elem.{Elem}
use Rattle.ven_base.specs.declared.ops.Fold.{Fold}
use Rattle.ven_base.specs.declared.ops.Fold.TheVariants as fold
use Rattle.ven_base.specs.Folding.{total_of, folded, IsFolded}
use Rattle.ven_base.specs.Grid.{row_values}
use Rattle.ven_base.proofs.Reductions.{IsFolded-folded}
use Rattle.vector_codegen.proofs.Totals.{row_sum}
use Rattle.vector_codegen.proofs.Halving.{IsBest}

-- so many values from a column on
abbrev pub columns_from : (ℕ → ℤ) → (first count : ℕ) → List ℤ
columns_from f first count = map f (range_with_len first count)

pub columns_both : (f : ℕ → ℤ) (m n a : ℕ) → columns_from f a (m + n) ≡ columns_from f a m ++ columns_from f (a + m) n
columns_both f zero n a = let same : a ≡ a + 0 = omega arith in let less : 0 + n ≡ n = omega arith in ap (λ n. columns_from f a n) less ∙ ap (λ a. columns_from f a n) same
columns_both f (suc m) n a =
    let more : suc m + n ≡ suc (m + n) = omega arith in
    let next : a + 1 + m ≡ a + suc m = omega arith in
    ap (λ n. columns_from f a n) more ∙ ap (λ xs. f a ∷ xs) (columns_both f m n (a + 1) ∙ ap (λ a'. columns_from f (a + 1) m ++ columns_from f a' n) next)

-- a row's first columns and those after them
pub row_both : (f : ℕ → ℤ) (m n : ℕ) → row_values (m + n) f ≡ row_values m f ++ columns_from f m n
row_both f m n = let first : 0 + m ≡ m = omega arith in columns_both f m n 0 ∙ ap (λ a. row_values m f ++ columns_from f a n) first

pub total_is : (value f : ℕ → ℤ) (count i c : ℕ) → ((j : ℕ) → j < count → value (i + j) ≡ f (c + j)) → row_sum value i count ≡ total_of (columns_from f c count)
total_is value f zero i c same = refl
total_is value f (suc count) i c same =
    let here : i + 0 ≡ i = omega arith in
    let there : c + 0 ≡ c = omega arith in
    let first : value i ≡ f c = ap value (sym here) ∙ same 0 (omega arith) ∙ ap f there in
    ap (λ x. x +ℤ row_sum value (i + 1) count) first
    ∙ ap (λ x. f c +ℤ x) (total_is value f count (i + 1) (c + 1)
    (λ j below. let left : i + 1 + j ≡ i + suc j = omega arith in let right : c + suc j ≡ c + 1 + j = omega arith in ap value left ∙ same (suc j) (omega arith) ∙ ap f right))

-- ---- least and greatest

abbrev pub fold_of : (least : Bool) → Fold
fold_of true = fold.Min
fold_of false = fold.Max

module _ (elem : Elem) (row f : ℕ → ℤ) (count c : ℕ) (x : ℤ) (same : (j : ℕ) → j < count → row j ≡ f (c + j)) where
  contains_it : (j : ℕ) → j < count → row j ≡ x → Contains (columns_from f c count) x
  contains_it j below is = (j, rw (length-map-range_with_len f c count) below, get_or-map-range_with_len f c count j (c + j) x below refl ∙ sym (same j below) ∙ is)

  all_of : (P : ℤ → Type 0) → ((j : ℕ) → j < count → P (row j)) → All P (columns_from f c count)
  all_of P each k d below =
      let within : k < count = omega (arith, below, length-map-range_with_len f c count) in
      subst P (same k within ∙ sym (get_or-map-range_with_len f c count k (c + k) d within refl)) (each k within)

  pub best_is_folded : (least : Bool) → IsBest least count row x → IsFolded (fold_of least) elem (columns_from f c count) x
  best_is_folded true is = (contains_it is.one.0 is.one.1 is.one.2, all_of (λ v. x ≤ℤ v) is.best)
  best_is_folded false is = (contains_it is.one.0 is.one.1 is.one.2, all_of (λ v. v ≤ℤ x) is.best)

-- a reduction of at least one value
pub folded_is : (kind : Fold) (elem : Elem) (xs : List ℤ) → 0 < length xs → IsFolded kind elem xs (folded kind elem xs)
folded_is kind elem [] some = absurd (omega arith)
folded_is kind elem (x ∷ xs) some = IsFolded-folded kind elem x xs
