-- Numbers that are too large.
use Rattle.std.proofs.Common.{◌≡◌, ℕ, zero, suc, ◌+◌, ◌*◌, ◌<◌, ◌≤◌, refl, sym, ap, subst, ◌∙◌, arith}
use Rattle.std.specs.Prelude.{ℤ, pos, neg_ℤ}
use Rattle.std.proofs.lemmas.Int.{ints}
use Rattle.ven_base.specs.declared.elem.Elem.{Elem}
use Rattle.ven_base.specs.declared.elem.Elem.TheVariants.{U8, I8, U16, I16, U32, I32}
use Rattle.ven_base.specs.Elem.{IsElement}
use Rattle.ven_base.specs.Extent.{Extent, IsExtent}
use Rattle.array_file.specs.Laws.{HasNoLargeValue, HasNoLargeShape}
use Rattle.array_file.specs.Words.{too_large}

pub no_large_value : HasNoLargeValue
no_large_value U8 n large = (λ h. absurd (omega (arith, ints, h.below_end)), λ h. absurd (omega (arith, ints, h.from_least)))
no_large_value I8 n large = (λ h. absurd (omega (arith, ints, h.below_end)), λ h. absurd (omega (arith, ints, h.from_least)))
no_large_value U16 n large = (λ h. absurd (omega (arith, ints, h.below_end)), λ h. absurd (omega (arith, ints, h.from_least)))
no_large_value I16 n large = (λ h. absurd (omega (arith, ints, h.below_end)), λ h. absurd (omega (arith, ints, h.from_least)))
no_large_value U32 n large = (λ h. absurd (omega (arith, ints, h.below_end)), λ h. absurd (omega (arith, ints, h.from_least)))
no_large_value I32 n large = (λ h. absurd (omega (arith, ints, h.below_end)), λ h. absurd (omega (arith, ints, h.from_least)))

-- a factor is at most the product
at_most : (m n : ℕ) → 1 ≤ n → m ≤ m * n
at_most m zero some = absurd (omega arith)
at_most m (suc n) some = omega arith

at_most_right : (m n : ℕ) → 1 ≤ m → n ≤ m * n
at_most_right zero n some = absurd (omega arith)
at_most_right (suc m) n some = omega arith

pub no_large_shape : HasNoLargeShape
no_large_shape shape h =
    let rows = at_most shape.rows shape.cols h.some_cols in
    let cols = at_most_right shape.rows shape.cols h.some_rows in
    (omega (arith, h.within), omega (arith, h.within))
