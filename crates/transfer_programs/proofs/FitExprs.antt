-- Where expressions fit in the host's 32 bits.
use Rattle.std.proofs.Common.{◌≡◌, ℕ, ◌<◌, ◌≤◌, ◌∙◌, arith, true, eqb, ltb}
use Rattle.std.specs.Prelude.{◌&&◌}
use Rattle.std.proofs.Math.Nat.{div-le_self}
use Rattle.std.proofs.lemmas.Bool.{cond_both, and_parts, ltb-true, ltb-false}
use Rattle.host_programs.specs.Expr.{Expr, Number, Variable, Offset, Sum, Difference, Product, Quotient, Remainder, IfLess, value, Fits, is_below}
use Rattle.host_programs.specs.ExprLaws.{Agree}
use Rattle.host_programs.specs.ProgramFits.{FitsWord}
use Rattle.transfer_programs.specs.Axis.{scaled, times, plus, lesser}
use Rattle.transfer_programs.proofs.Axes.{value_agree, value_lesser}

-- ---- where registers agree

pub fits_agree : (e : Expr) (d : ℕ) (f g : ℕ → ℕ) → Agree d f g → is_below e d ≡ true → Fits e f → Fits e g
fits_agree (Number n) d f g same h fit = tt
fits_agree (Variable r) d f g same h fit = tt
fits_agree (Offset a n) d f g same h fit = fits_agree a d f g same h fit
fits_agree (Sum a b) d f g same h fit = let p = and_parts (is_below a d) (is_below b d) h in (fits_agree a d f g same p.0 fit.0, fits_agree b d f g same p.1 fit.1)
fits_agree (Difference a b) d f g same h fit =
    let p = and_parts (is_below a d) (is_below b d) h in
    let u = value_agree a d f g same p.0 in
    let v = value_agree b d f g same p.1 in
    (fits_agree a d f g same p.0 fit.0, fits_agree b d f g same p.1 fit.1, omega (arith, u, v, fit.2))
fits_agree (Product a b) d f g same h fit = let p = and_parts (is_below a d) (is_below b d) h in (fits_agree a d f g same p.0 fit.0, fits_agree b d f g same p.1 fit.1)
fits_agree (Quotient a b) d f g same h fit =
    let p = and_parts (is_below a d) (is_below b d) h in
    let u = value_agree a d f g same p.0 in
    let v = value_agree b d f g same p.1 in
    (fits_agree a d f g same p.0 fit.0, fits_agree b d f g same p.1 fit.1, omega (arith, u, fit.2), omega (arith, v, fit.3), omega (arith, v, fit.4))
fits_agree (Remainder a b) d f g same h fit =
    let p = and_parts (is_below a d) (is_below b d) h in
    let u = value_agree a d f g same p.0 in
    let v = value_agree b d f g same p.1 in
    (fits_agree a d f g same p.0 fit.0, fits_agree b d f g same p.1 fit.1, omega (arith, u, fit.2), omega (arith, v, fit.3), omega (arith, v, fit.4))
fits_agree (IfLess a b x y) d f g same h fit =
    let p = and_parts (is_below a d && is_below b d) (is_below x d && is_below y d) h in
    let q = and_parts (is_below a d) (is_below b d) p.0 in
    let s = and_parts (is_below x d) (is_below y d) p.1 in
    let u = value_agree a d f g same q.0 in
    let v = value_agree b d f g same q.1 in
    let t : ltb (value a f) (value b f) ≡ ltb (value a g) (value b g) = cc in (
      fits_agree a d f g same q.0 fit.0,
      fits_agree b d f g same q.1 fit.1,
      omega (arith, u, fit.2),
      omega (arith, v, fit.3),
      λ e. fits_agree x d f g same s.0 (fit.4 (t ∙ e)),
      λ e. fits_agree y d f g same s.1 (fit.5 (t ∙ e)),
    )

pub word_agree : (e : Expr) (d : ℕ) (f g : ℕ → ℕ) → Agree d f g → is_below e d ≡ true → FitsWord e f → FitsWord e g
word_agree e d f g same h fit = (fits_agree e d f g same h fit.0, omega (arith, value_agree e d f g same h, fit.1))

-- ---- products and sums

pub fits_scaled : (e : Expr) (n : ℕ) (f : ℕ → ℕ) → Fits e f → Fits (scaled e n) f
fits_scaled e n f fit = cond_both (eqb n 1) e (Product e (Number n)) (λ x. Fits x f) (λ q. fit) (λ q. (fit, tt))

pub fits_times : (a b : Expr) (f : ℕ → ℕ) → Fits a f → Fits b f → Fits (times a b) f
fits_times (Number n) b f fit_a fit_b = cond_both (eqb n 0) (Number 0) (scaled b n) (λ x. Fits x f) (λ q. tt) (λ q. fits_scaled b n f fit_b)
fits_times _ b f fit_a fit_b = (fit_a, fit_b)

pub fits_plus : (a b : Expr) (f : ℕ → ℕ) → Fits a f → Fits b f → Fits (plus a b) f
fits_plus (Number n) b f fit_a fit_b = cond_both (eqb n 0) b (Offset b n) (λ x. Fits x f) (λ q. fit_b) (λ q. fit_b)
fits_plus _ b f fit_a fit_b = (fit_a, fit_b)

-- ---- choices

pub fits_choice : (a b x y : Expr) (f : ℕ → ℕ) → FitsWord a f → FitsWord b f → (value a f < value b f → Fits x f) → (value b f ≤ value a f → Fits y f) → Fits (IfLess a b x y) f
fits_choice a b x y f fit_a fit_b one other = (fit_a.0, fit_b.0, fit_a.1, fit_b.1, λ e. one (ltb-true (value a f) (value b f) e), λ e. other (ltb-false (value a f) (value b f) e))

-- what holds of both branches where they are taken holds of the choice
pub choice_value : (a b x y : Expr) (f : ℕ → ℕ) (P : ℕ → Type 0) → (value a f < value b f → P (value x f)) → (value b f ≤ value a f → P (value y f)) → P (value (IfLess a b x y) f)
choice_value a b x y f P one other = cond_both (ltb (value a f) (value b f)) (value x f) (value y f) P (λ e. one (ltb-true (value a f) (value b f) e)) (λ e. other (ltb-false (value a f) (value b f) e))

pub word_lesser : (a b : Expr) (f : ℕ → ℕ) → FitsWord a f → FitsWord b f → FitsWord (lesser a b) f
word_lesser a b f fit_a fit_b = (fits_choice a b a b f fit_a fit_b (λ l. fit_a.0) (λ l. fit_b.0), omega (arith, value_lesser a b f, fit_a.1))

-- ---- quotients

pub word_quotient : (a : Expr) (k : ℕ) (f : ℕ → ℕ) → FitsWord a f → 0 < k → k < 4294967296 → FitsWord (Quotient a (Number k)) f
word_quotient a k f fit some small = ((fit.0, tt, fit.1, some, small), omega (arith, div-le_self (value a f) k, fit.1))
