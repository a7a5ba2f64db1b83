-- One of two programs, by a test and its opposite.
use Rattle.std.proofs.Common.{◌≡◌, ℕ, zero, suc, ◌+◌, ◌*◌, ◌%◌, ◌<◌, ◌≤◌, ◌⊎◌, inl, inr, refl, sym, ap, ◌∙◌, arith, Bool, true, false, cond, eqb, ltb, leb, List, [], ◌++◌}
use Rattle.std.proofs.Math.Nat.{mod-one}
use Rattle.std.proofs.lemmas.Bool.{eqb-true, ne_eqb, lt-ltb, le-ltb, lt-leb, le-leb, cases_lt, true≢false}
use Rattle.std.proofs.lemmas.List.{append-nil}
use Rattle.venice_isa.specs.declared.issue.Issue.{Issue}
use Rattle.pass_plan.specs.declared.parts.Tile.{Tile}
use Rattle.pass_plan.specs.Pass.{Pass}
use Rattle.pass_plan.specs.Tile.{across, first_column}
use Rattle.pass_plan.specs.Buffers.{is_map, tiles_per_row, begins_row, ends_row}
use Rattle.host_programs.specs.Expr.{Number, Variable, Remainder, value}
use Rattle.host_programs.specs.Program.{Program, Both, UnlessLess, list_by}
use Rattle.host_codegen.specs.Geometry.{layout_of, first_or_later, if_last}

-- unless v is below u, and unless u is above v
pub one_of_two : (u v : ℕ) (xs ys : List Issue) → cond (ltb v u) [] xs ++ cond (ltb u (v + 1)) [] ys ≡ cond (leb u v) xs ys
one_of_two u v xs ys = go (cases_lt v u)
  where
    go : ((v < u) ⊎ (u ≤ v)) → cond (ltb v u) [] xs ++ cond (ltb u (v + 1)) [] ys ≡ cond (leb u v) xs ys
    go (inl lt) =
        ap (λ t. cond t [] xs ++ cond (ltb u (v + 1)) [] ys) (lt-ltb v u lt) ∙ ap (λ t. cond t [] ys) (le-ltb u (v + 1) (omega (arith, lt)))
        ∙ ap (λ t. cond t xs ys) (sym (lt-leb u v lt))
    go (inr le) =
        ap (λ t. cond t [] xs ++ cond (ltb u (v + 1)) [] ys) (le-ltb v u le) ∙ ap (λ t. xs ++ cond t [] ys) (lt-ltb u (v + 1) (omega (arith, le)))
        ∙ append-nil xs ∙ ap (λ t. cond t xs ys) (sym (le-leb u v le))

-- the first column is 0 where the number in the row is
first_column_none : (r w : ℕ) → 1 ≤ w → leb (r * w) 0 ≡ eqb r 0
first_column_none zero w some = let none : 0 * w ≡ 0 = omega arith in ap (λ n. leb n 0) none
first_column_none (suc r) w some = lt-leb (suc r * w) 0 (omega (arith, some)) ∙ sym (ne_eqb (suc r) 0 (λ e. omega (arith, e)))

per_row_is : (pass : Pass) (tile : Tile) → eqb (tiles_per_row pass tile) 1 ≡ false → tiles_per_row pass tile ≡ across pass.domain tile
per_row_is pass tile several = go (is_map pass.kind) refl
  where
    go : (m : Bool) → is_map pass.kind ≡ m → cond m 1 (across pass.domain tile) ≡ across pass.domain tile
    go true is = absurd (true≢false (sym (ap (λ m. eqb (cond m 1 (across pass.domain tile)) 1) is) ∙ several))
    go false is = refl

module _ (pass : Pass) (tile : Tile) (t d : ℕ) (f : ℕ → ℕ) where
  pub first_or_later_list : (column : ℕ) (p q : Program) → 1 ≤ tile.w → f column ≡ first_column pass.domain tile t
      → list_by value (first_or_later (layout_of pass tile) column p q) d f ≡ cond (begins_row pass tile t) (list_by value p d f) (list_by value q d f)
  first_or_later_list column p q some is = go (eqb (tiles_per_row pass tile) 1) refl
    where
      xs : List Issue
      xs = list_by value p d f

      ys : List Issue
      ys = list_by value q d f

      go : (b : Bool) → eqb (tiles_per_row pass tile) 1 ≡ b
          → list_by value (cond b p (Both (UnlessLess (Number 0) (Variable column) p) (UnlessLess (Variable column) (Number 1) q))) d f ≡ cond (begins_row pass tile t) xs ys
      go true one = sym (ap (λ n. cond (eqb (t % n) 0) xs ys) (eqb-true (tiles_per_row pass tile) 1 one) ∙ ap (λ n. cond (eqb n 0) xs ys) (mod-one t))
      go false several =
          one_of_two (f column) 0 xs ys ∙ ap (λ n. cond (leb n 0) xs ys) is
          ∙ ap (λ b. cond b xs ys) (first_column_none (t % across pass.domain tile) tile.w some)
          ∙ ap (λ n. cond (eqb (t % n) 0) xs ys) (sym (per_row_is pass tile several))

  pub if_last_list : (next : ℕ) (p : Program) → f next ≡ suc t → list_by value (if_last (layout_of pass tile) next p) d f ≡ cond (ends_row pass tile t) (list_by value p d f) []
  if_last_list next p is = go (eqb (tiles_per_row pass tile) 1) refl
    where
      n : ℕ
      n = tiles_per_row pass tile

      xs : List Issue
      xs = list_by value p d f

      unless : (r : ℕ) → cond (ltb 0 r) [] xs ≡ cond (eqb r 0) xs []
      unless zero = refl
      unless (suc r) = ap (λ t. cond t [] xs) (lt-ltb 0 (suc r) (omega arith)) ∙ sym (ap (λ t. cond t xs []) (ne_eqb (suc r) 0 (λ e. omega (arith, e))))

      go : (b : Bool) → eqb (tiles_per_row pass tile) 1 ≡ b → list_by value (cond b p (UnlessLess (Number 0) (Remainder (Variable next) (Number n)) p)) d f ≡ cond (ends_row pass tile t) xs []
      go true one = sym (ap (λ m. cond (eqb (suc t % m) 0) xs []) (eqb-true n 1 one) ∙ ap (λ m. cond (eqb m 0) xs []) (mod-one (suc t)))
      go false several = unless (f next % n) ∙ ap (λ m. cond (eqb (m % n) 0) xs []) is
