-- Which numbers are places.
use Rattle.std.proofs.Common.{◌≡◌, ℕ, ◌<◌, arith, None, Some, refl, ap}
use Rattle.std.specs.Prelude.{◌↔◌, ℤ, pos, negsuc, Bool, true, false, nat_lt, if◌then◌else◌}
use Rattle.std.proofs.lemmas.Bool.{ltb-true, ltb-false}
use Rattle.ven_base.specs.Place.{place_within}

-- a number is one of the n places exactly where it is a number from 0 on, below n
pub place_within-is : (n : ℕ) (k : ℤ) (q : ℕ) → (place_within n k ≡ Some q) ↔ ((k ≡ pos q) × (q < n))
place_within-is n (negsuc k) q = (λ e. absurd (cc), λ h. absurd (let e = h.0 in cc))
place_within-is n (pos k) q = by (nat_lt k n) refl
  where
    by : (t : Bool) → nat_lt k n ≡ t → ((if t then Some k else None) ≡ Some q) ↔ ((pos k ≡ pos q) × (q < n))
    by true e = (λ s. let same : k ≡ q = cc in (ap pos same, let below = ltb-true k n e in omega arith), λ h. let same : pos k ≡ pos q = h.0 in cc)
    by false e = (λ s. absurd (cc), λ h. let same : pos k ≡ pos q = h.0 in let place : k ≡ q = cc in let above = ltb-false k n e in absurd (omega arith))
