-- The numbers of a tile have the values that their names say.
use Rattle.std.proofs.Common.{◌≡◌, ℕ, ◌-◌, ◌*◌, ◌/◌, ◌%◌, ◌≤◌, min, refl, sym, ap, ◌∙◌, arith, Bool, true, false, cond, eqb}
use Rattle.std.proofs.Math.Nat.{div-one, mod-one}
use Rattle.std.proofs.lemmas.Bool.{eqb-true}
use Rattle.std.proofs.lemmas.Grind.{div_ceil_times}
use Rattle.pass_plan.specs.declared.parts.Tile.{Tile}
use Rattle.pass_plan.specs.Pass.{Pass}
use Rattle.pass_plan.specs.Tile.{across}
use Rattle.host_programs.specs.Expr.{Number, Variable, Difference, Quotient, Remainder, value}
use Rattle.transfer_programs.specs.Axis.{scaled, lesser}
use Rattle.transfer_programs.proofs.Axes.{value_scaled, value_lesser}
use Rattle.host_codegen.specs.Geometry.{Layout, layout_of, first_row_expr, first_column_expr, rows_expr, columns_expr}

-- ---- a tile's piece

pub first_row_value : (layout : Layout) (number : ℕ) (f : ℕ → ℕ) → value (first_row_expr layout number) f ≡ f number / layout.across * layout.tile.h
first_row_value layout number f =
    value_scaled (cond (eqb layout.across 1) (Variable number) (Quotient (Variable number) (Number layout.across))) layout.tile.h f
    ∙ ap (λ q. q * layout.tile.h) (go (eqb layout.across 1) refl)
  where
    go : (t : Bool) → eqb layout.across 1 ≡ t → value (cond t (Variable number) (Quotient (Variable number) (Number layout.across))) f ≡ f number / layout.across
    go true is = sym (ap (λ n. f number / n) (eqb-true layout.across 1 is) ∙ div-one (f number))
    go false is = refl

pub first_column_value : (layout : Layout) (number : ℕ) (f : ℕ → ℕ) → value (first_column_expr layout number) f ≡ f number % layout.across * layout.tile.w
first_column_value layout number f = go (eqb layout.across 1) refl
  where
    go : (t : Bool) → eqb layout.across 1 ≡ t
        → value (cond t (Number 0) (scaled (Remainder (Variable number) (Number layout.across)) layout.tile.w)) f ≡ f number % layout.across * layout.tile.w
    go true is =
        let none : 0 ≡ 0 * layout.tile.w = omega arith in
        none ∙ sym (ap (λ n. f number % n * layout.tile.w) (eqb-true layout.across 1 is) ∙ ap (λ n. n * layout.tile.w) (mod-one (f number)))
    go false is = value_scaled (Remainder (Variable number) (Number layout.across)) layout.tile.w f

pub rows_value : (layout : Layout) (first : ℕ) (f : ℕ → ℕ) → value (rows_expr layout first) f ≡ min layout.tile.h (layout.domain.rows - f first)
rows_value layout first f = value_lesser (Number layout.tile.h) (Difference (Number layout.domain.rows) (Variable first)) f

-- a tile that is alone in its row has all of it
pub record IsWide (layout : Layout) : Type 0 where
  pub alone : layout.across ≡ 1 → layout.domain.cols ≤ layout.tile.w

pub columns_value : (layout : Layout) (first t : ℕ) (f : ℕ → ℕ) → IsWide layout → f first ≡ t % layout.across * layout.tile.w
    → value (columns_expr layout first) f ≡ min layout.tile.w (layout.domain.cols - f first)
columns_value layout first t f wide is = go (eqb layout.across 1) refl
  where
    go : (b : Bool) → eqb layout.across 1 ≡ b
        → value (cond b (Number layout.domain.cols) (lesser (Number layout.tile.w) (Difference (Number layout.domain.cols) (Variable first)))) f ≡ min layout.tile.w (layout.domain.cols - f first)
    go true one =
        let e = eqb-true layout.across 1 one in
        let none : 0 * layout.tile.w ≡ 0 = omega arith in
        let zero : f first ≡ 0 = is ∙ ap (λ n. t % n * layout.tile.w) e ∙ ap (λ n. n * layout.tile.w) (mod-one t) ∙ none in
        omega (arith, zero, wide.alone e)
    go false one = value_lesser (Number layout.tile.w) (Difference (Number layout.domain.cols) (Variable first)) f

pub is_wide : (pass : Pass) (tile : Tile) → 1 ≤ tile.w → IsWide (layout_of pass tile)
is_wide pass tile some = record {
  alone = λ one.
      let times = div_ceil_times pass.domain.cols tile.w some in
      let product : across pass.domain tile * tile.w ≡ 1 * tile.w = ap (λ n. n * tile.w) one in
      omega (arith, times.0, product);
}
