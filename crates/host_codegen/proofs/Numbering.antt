-- Which program of a list has which number.
use Rattle.std.proofs.Common.{◌≡◌, ℕ, zero, suc, ◌+◌, ◌<◌, ap, sym, ◌∙◌, refl, arith, List, [], ◌∷◌, length, get_or, map}
use Rattle.pass_plan.specs.declared.pass.PassKind.{PassKind}
use Rattle.pass_plan.specs.declared.split.ArrayPlace.{ArrayPlace}
use Rattle.pass_plan.specs.Pass.{Pass}
use Rattle.pass_plan.specs.Tile.{tile_of}
use Rattle.buffer_lifetimes.specs.Step.{Step}
use Rattle.host_programs.specs.Expr.{Number}
use Rattle.host_programs.specs.Program.{Idle}
use Rattle.host_codegen.specs.Geometry.{Layout, slot_cell}
use Rattle.host_codegen.specs.RootProgram.{flat_program, root_program, steps_programs}
use Rattle.host_codegen.specs.PassProgram.{pass_program}
use Rattle.host_codegen.specs.SplitProgram.{passes_programs}

-- ---- mapped lists

pub mapped_length : {A B : Type 0} (f : A → B) (xs : List A) → length (map f xs) ≡ length xs
mapped_length f [] = refl
mapped_length f (x ∷ xs) = let rest = mapped_length f xs in omega (arith, rest)

map_at : {A B : Type 0} (f : A → B) (x : A) (xs : List A) (k : ℕ) → get_or (map f xs) k (f x) ≡ f (get_or xs k x)
map_at f x [] k = refl
map_at f x (y ∷ xs) zero = refl
map_at f x (y ∷ xs) (suc k) = map_at f x xs k

pub mapped_at : {A B : Type 0} (f : A → B) (xs : List A) (k : ℕ) (x : A) → x ≡ get_or xs k x → get_or (map f xs) k (f x) ≡ f x
mapped_at f xs k x is = map_at f x xs k ∙ ap f (sym is)

-- ---- steps

module _ (kind : PassKind) (layout : Layout) where
  pub last_program : (steps : List Step) (n : ℕ) (step : Step) → n + 1 ≡ length steps → get_or steps n step ≡ step → get_or (steps_programs kind layout steps) n Idle ≡ root_program kind layout step
  last_program [] n step end is = absurd (omega arith)
  last_program (s ∷ []) zero step end is = ap (λ t. root_program kind layout t) is
  last_program (s ∷ []) (suc n) step end is = absurd (omega arith)
  last_program (s ∷ next ∷ steps) zero step end is = absurd (omega arith)
  last_program (s ∷ next ∷ steps) (suc n) step end is = last_program (next ∷ steps) n step (omega arith) is

  pub earlier_program : (steps : List Step) (n : ℕ) (step : Step) → n + 1 < length steps → get_or steps n step ≡ step
      → get_or (steps_programs kind layout steps) n Idle ≡ flat_program layout step (Number (slot_cell layout step.to))
  earlier_program [] n step before is = absurd (omega arith)
  earlier_program (s ∷ []) n step before is = absurd (omega arith)
  earlier_program (s ∷ next ∷ steps) zero step before is = ap (λ (t : Step). flat_program layout t (Number (slot_cell layout t.to))) is
  earlier_program (s ∷ next ∷ steps) (suc n) step before is = earlier_program (next ∷ steps) n step (omega arith) is

pub programs_length : (kind : PassKind) (layout : Layout) (steps : List Step) → length (steps_programs kind layout steps) ≡ length steps
programs_length kind layout [] = refl
programs_length kind layout (s ∷ []) = refl
programs_length kind layout (s ∷ next ∷ steps) = let rest = programs_length kind layout (next ∷ steps) in omega (arith, rest)

-- ---- passes

pub pass_at : (arrays : List ArrayPlace) (spad : ℕ) (passes : List Pass) (n : ℕ) (pass : Pass) → n < length passes → get_or passes n pass ≡ pass
    → get_or (passes_programs arrays spad passes) n Idle ≡ pass_program arrays pass (tile_of pass spad)
pass_at arrays spad [] n pass below is = absurd (omega arith)
pass_at arrays spad (p ∷ passes) zero pass below is = ap (λ p. pass_program arrays p (tile_of p spad)) is
pass_at arrays spad (p ∷ passes) (suc n) pass below is = pass_at arrays spad passes n pass (omega arith) is
