-- Laws of reductions: how the parts of a list that is cut make the whole.
use Rattle.std.proofs.Common.{◌≡◌, List, [], ◌∷◌, ◌++◌, refl, sym, ap, subst, ◌∙◌, arith, All, Contains}
use Rattle.std.specs.Prelude.{ℤ, pos, ◌+ℤ◌, ◌≤ℤ◌, ◌<ℤ◌, map, fold}
use Rattle.std.specs.List.{flat_map}
use Rattle.std.specs.Int.{int_min, int_max}
use Rattle.std.proofs.lemmas.Int.{ints, clamps, by_lt_z}
use lib.IntN.{+ℤ_assoc, +ℤ_idl}
use mathlib.Core.Logic.{⊎_elim}
use Rattle.std.proofs.lemmas.Int.{fold-int_min_bounds, fold-int_min_reached, fold-int_max_bounds, fold-int_max_reached}
use Rattle.std.proofs.lemmas.List.Elements.{All-cons, All-append, All-contains, Contains-append_left, Contains-append_right}
use Rattle.ven_base.specs.declared.elem.Elem.{Elem}
use Rattle.ven_base.specs.declared.ops.Fold.{Fold}
use Rattle.ven_base.specs.declared.ops.Fold.TheVariants.{Sum, Min, Max}
use Rattle.ven_base.specs.Elem.{IsElement}
use Rattle.ven_base.specs.Wrap.{wrapped}
use Rattle.ven_base.specs.Folding.{total_of, folded, IsFolded, joined}
use Rattle.ven_base.proofs.Wrapped.{wrapped-add, wrapped-add_left, wrapped-add_right, wrapped_in, IsElement-wrapped}

pub total_of-append : (xs ys : List ℤ) → total_of (xs ++ ys) ≡ total_of xs +ℤ total_of ys
total_of-append [] ys = sym (+ℤ_idl (total_of ys))
total_of-append (x ∷ xs) ys = ap (λ s. x +ℤ s) (total_of-append xs ys) ∙ sym (+ℤ_assoc x (total_of xs) (total_of ys))

-- the wrapped sum of a list doesn't depend on how the list is cut
pub wrapped_total-append : (elem : Elem) (xs ys : List ℤ) → wrapped elem (wrapped elem (total_of xs) +ℤ wrapped elem (total_of ys)) ≡ wrapped elem (total_of (xs ++ ys))
wrapped_total-append elem xs ys = wrapped-add elem (total_of xs) (total_of ys) ∙ ap (wrapped elem) (sym (total_of-append xs ys))

-- nor on the number of parts
pub wrapped_total-parts : (elem : Elem) (parts : List (List ℤ)) → wrapped elem (total_of (map (λ part. wrapped elem (total_of part)) parts)) ≡ wrapped elem (total_of (flat_map (λ part. part) parts))
wrapped_total-parts elem [] = refl
wrapped_total-parts elem (part ∷ parts) =
    let sums = total_of (map (λ part. wrapped elem (total_of part)) parts) in
    let whole = total_of (flat_map (λ (part : List ℤ). part) parts) in
    wrapped-add_left elem (total_of part) sums ∙ sym (wrapped-add_right elem (total_of part) sums) ∙ ap (λ s. wrapped elem (total_of part +ℤ s)) (wrapped_total-parts elem parts)
    ∙ wrapped-add_right elem (total_of part) whole ∙ ap (wrapped elem) (sym (total_of-append part (flat_map (λ (part : List ℤ). part) parts)))

-- a sum that is wrapped at each step is the sum that is wrapped once
pub wrapped_steps : (elem : Elem) (start : ℤ) (xs : List ℤ) → IsElement elem start → fold (λ sum x. wrapped elem (sum +ℤ x)) start xs ≡ wrapped elem (start +ℤ total_of xs)
wrapped_steps elem start [] h = let same : start ≡ start +ℤ pos 0 = omega (arith, ints) in sym (wrapped_in elem start h) ∙ ap (wrapped elem) same
wrapped_steps elem start (x ∷ xs) h =
    wrapped_steps elem (wrapped elem (start +ℤ x)) xs (IsElement-wrapped elem (start +ℤ x)) ∙ wrapped-add_left elem (start +ℤ x) (total_of xs) ∙ ap (wrapped elem) (+ℤ_assoc start x (total_of xs))

-- a first value is one of the list, and a value of the rest too
here : (x : ℤ) (xs : List ℤ) → Contains (x ∷ xs) x
here x xs = (0, omega arith, refl)

later : (x r : ℤ) (xs : List ℤ) → Contains xs r → Contains (x ∷ xs) r
later x r xs c = Contains-append_right (x ∷ []) xs r c

-- a reduction of at least one value gives the wrapped sum, or a value of the list that none is below, or none above
pub IsFolded-folded : (fold : Fold) (elem : Elem) (x : ℤ) (xs : List ℤ) → IsFolded fold elem (x ∷ xs) (folded fold elem (x ∷ xs))
IsFolded-folded Sum elem x xs = refl
IsFolded-folded Min elem x xs =
    let r = folded Min elem (x ∷ xs) in
    let bounds = fold-int_min_bounds x xs r refl in (
      ⊎_elim (λ e. subst (λ (v : ℤ). Contains (x ∷ xs) v) (sym e) (here x xs)) (λ c. later x r xs c) (fold-int_min_reached x xs r refl),
      All-cons (λ v. r ≤ℤ v) x xs bounds.0 bounds.1,
    )
IsFolded-folded Max elem x xs =
    let r = folded Max elem (x ∷ xs) in
    let bounds = fold-int_max_bounds x xs r refl in (
      ⊎_elim (λ e. subst (λ (v : ℤ). Contains (x ∷ xs) v) (sym e) (here x xs)) (λ c. later x r xs c) (fold-int_max_reached x xs r refl),
      All-cons (λ v. v ≤ℤ r) x xs bounds.0 bounds.1,
    )

-- a reduction of a list of numbers of the type is one of them
pub IsElement-IsFolded : (fold : Fold) (elem : Elem) (xs : List ℤ) (r : ℤ) → All (IsElement elem) xs → IsFolded fold elem xs r → IsElement elem r
IsElement-IsFolded Sum elem xs r all h = rw h (IsElement-wrapped elem (total_of xs))
IsElement-IsFolded Min elem xs r all h = All-contains (IsElement elem) xs r all h.0
IsElement-IsFolded Max elem xs r all h = All-contains (IsElement elem) xs r all h.0

-- a list has one reduction
pub IsFolded-unique : (fold : Fold) (elem : Elem) (xs : List ℤ) (r s : ℤ) → IsFolded fold elem xs r → IsFolded fold elem xs s → r ≡ s
IsFolded-unique Sum elem xs r s h l = h ∙ sym l
IsFolded-unique Min elem xs r s h l =
    let above = All-contains (λ v. r ≤ℤ v) xs s h.1 l.0 in
    let below = All-contains (λ v. s ≤ℤ v) xs r l.1 h.0 in
    omega (arith, ints)
IsFolded-unique Max elem xs r s h l =
    let above = All-contains (λ v. v ≤ℤ s) xs r l.1 h.0 in
    let below = All-contains (λ v. v ≤ℤ r) xs s h.1 l.0 in
    omega (arith, ints)

-- the reductions of the two parts of a list make that of the whole
pub IsFolded-append : (fold : Fold) (elem : Elem) (xs ys : List ℤ) (r s : ℤ) → IsFolded fold elem xs r → IsFolded fold elem ys s → IsFolded fold elem (xs ++ ys) (joined fold elem r s)
IsFolded-append Sum elem xs ys r s h l = ap (λ (v : ℤ). wrapped elem (v +ℤ s)) h ∙ ap (λ (v : ℤ). wrapped elem (wrapped elem (total_of xs) +ℤ v)) l ∙ wrapped_total-append elem xs ys
IsFolded-append Min elem xs ys r s h l =
    let P : ℤ → Type 0 = λ w. IsFolded Min elem (xs ++ ys) w in
    let right : s <ℤ r → P (int_min r s) = λ a.
    let e : s ≡ int_min r s = omega (arith, ints, clamps) in
    let lower : All (λ v. s ≤ℤ v) xs = λ k d b. let low = h.1 k d b in omega (arith, ints) in
    subst P e (Contains-append_right xs ys s l.0, All-append (λ v. s ≤ℤ v) xs ys lower l.1) in
    let left : r ≤ℤ s → P (int_min r s) = λ a.
    let e : r ≡ int_min r s = omega (arith, ints, clamps) in
    let lower : All (λ v. r ≤ℤ v) ys = λ k d b. let low = l.1 k d b in omega (arith, ints) in
    subst P e (Contains-append_left xs ys r h.0, All-append (λ v. r ≤ℤ v) xs ys h.1 lower) in
    by_lt_z s r right left
IsFolded-append Max elem xs ys r s h l =
    let P : ℤ → Type 0 = λ w. IsFolded Max elem (xs ++ ys) w in
    let right : r <ℤ s → P (int_max r s) = λ a.
    let e : s ≡ int_max r s = omega (arith, ints, clamps) in
    let upper : All (λ v. v ≤ℤ s) xs = λ k d b. let high = h.1 k d b in omega (arith, ints) in
    subst P e (Contains-append_right xs ys s l.0, All-append (λ v. v ≤ℤ s) xs ys upper l.1) in
    let left : s ≤ℤ r → P (int_max r s) = λ a.
    let e : r ≡ int_max r s = omega (arith, ints, clamps) in
    let upper : All (λ v. v ≤ℤ r) ys = λ k d b. let high = l.1 k d b in omega (arith, ints) in
    subst P e (Contains-append_left xs ys r h.0, All-append (λ v. v ≤ℤ r) xs ys h.1 upper) in
    by_lt_z r s right left
