-- Sums, least and greatest values of a list.
use Rattle.std.specs.Prelude.{◌≡◌, ℤ, pos, ◌+ℤ◌, ◌≤ℤ◌, List, [], ◌∷◌, All, Contains, fold}
use Rattle.std.specs.Int.{int_min, int_max}
use Rattle.ven_base.specs.declared.elem.Elem.{Elem}
use Rattle.ven_base.specs.declared.ops.Fold.{Fold}
use Rattle.ven_base.specs.declared.ops.Fold.TheVariants.{Sum, Min, Max}
use Rattle.ven_base.specs.Wrap.{wrapped}

-- the sum of whole numbers
abbrev pub total_of : List ℤ → ℤ
total_of [] = pos 0
total_of (x ∷ xs) = x +ℤ total_of xs

-- the least of x and the numbers of a list, and the greatest
abbrev pub least_from : ℤ → List ℤ → ℤ
least_from x xs = fold int_min x xs

abbrev pub greatest_from : ℤ → List ℤ → ℤ
greatest_from x xs = fold int_max x xs

-- what a reduction makes of a list of at least one value
abbrev pub folded : Fold → Elem → List ℤ → ℤ
folded Sum elem xs = wrapped elem (total_of xs)
folded Min elem [] = pos 0
folded Min elem (x ∷ xs) = least_from x xs
folded Max elem [] = pos 0
folded Max elem (x ∷ xs) = greatest_from x xs

-- what a reduction has to give: the wrapped sum, or a value of the list that none is below, or that none is above
abbrev pub IsFolded : Fold → Elem → List ℤ → ℤ → Type 0
IsFolded Sum elem xs r = r ≡ wrapped elem (total_of xs)
IsFolded Min elem xs r = Contains xs r × All (λ x. r ≤ℤ x) xs
IsFolded Max elem xs r = Contains xs r × All (λ x. x ≤ℤ r) xs

-- what the parts of a list that is cut in two make together
abbrev pub joined : Fold → Elem → ℤ → ℤ → ℤ
joined Sum elem r s = wrapped elem (r +ℤ s)
joined Min elem r s = int_min r s
joined Max elem r s = int_max r s
