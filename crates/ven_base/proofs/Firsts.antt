-- Of all faults that hold, at most one place and rank comes first.
use Rattle.std.proofs.Common.{◌≡◌, ⊎_elim, ℕ, arith}
use Rattle.ven_base.specs.First.{IsFirst}

pub one_place : {F : Type 0} (holds : F → Type 0) (place rank : F → ℕ) (one other : F) → IsFirst holds place rank one → IsFirst holds place rank other → place one ≡ place other
one_place holds place rank one other f g =
    ⊎_elim (λ lt. ⊎_elim (λ gt. absurd (omega arith)) (λ same. absurd (omega (arith, same.0))) (g.first one f.here)) (λ same. same.0) (f.first other g.here)

pub one_rank : {F : Type 0} (holds : F → Type 0) (place rank : F → ℕ) (one other : F) → IsFirst holds place rank one → IsFirst holds place rank other → rank one ≡ rank other
one_rank holds place rank one other f g =
    let same : place one ≡ place other = one_place holds place rank one other f g in
    ⊎_elim (λ lt. absurd (omega (arith, same)))
    (λ up. ⊎_elim (λ gt. absurd (omega (arith, same))) (λ down. omega (arith, up.1, down.1)) (g.first one f.here))
    (f.first other g.here)

-- where a place and a rank have one fault at most, one fault at most is the first
pub one_first : {F : Type 0} (holds : F → Type 0) (place rank : F → ℕ) → ((one other : F) → holds one → holds other → place one ≡ place other → rank one ≡ rank other → one ≡ other) → (one other : F) → IsFirst holds place rank one → IsFirst holds place rank other → one ≡ other
one_first holds place rank apart one other f g =
    apart one other f.here g.here (one_place holds place rank one other f g) (one_rank holds place rank one other f g)
