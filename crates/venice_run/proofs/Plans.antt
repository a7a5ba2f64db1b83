-- What is known of each pass of a program.
use Rattle.std.proofs.Common.{◌≡◌, ℕ, ◌<◌, ◌≤◌, List, [], ◌∷◌, length, get_or, sym, ap, subst, ◌∙◌, arith}
use Rattle.std.specs.Prelude.{All}
use Rattle.std.proofs.lemmas.List.{get_or-map, length-map}
use Rattle.std.proofs.lemmas.List.Elements.{All-nil, All-cons}
use Rattle.pass_plan.specs.declared.pass.Pass as code
use Rattle.pass_plan.specs.declared.split.ArrayPlace.{ArrayPlace}
use Rattle.pass_plan.specs.Laws.{NeedHoldsEach}
use Rattle.pass_plan.specs.Need.{need_of, pass_need, IsSmall, AreSmall}
use Rattle.pass_plan.specs.Pass.{Pass}
use Rattle.pass_plan.specs.Shown.{pass_of, passes_of}
use Rattle.pass_plan.specs.Sound.{AreSound}
use Rattle.venice_run.specs.Plan.{IsOrdered}

-- what holds of all passes holds of the one at a place
of_pass : (P : Pass → Type 0) (passes : List code.Pass) (j : ℕ) (pass : code.Pass) → pass ≡ get_or passes j pass → j < length passes → All P (passes_of passes) → P (pass_of pass)
of_pass P passes j pass is lt all =
    subst P (get_or-map pass_of passes j pass (pass_of pass) lt ∙ ap pass_of (sym is)) (all j (pass_of pass) (omega (arith, length-map passes pass_of)))

pub small_pass : (passes : List code.Pass) (j : ℕ) (pass : code.Pass) → pass ≡ get_or passes j pass → j < length passes → AreSmall (passes_of passes) → IsSmall (pass_of pass)
small_pass passes j pass is lt small = of_pass IsSmall passes j pass is lt small.each

pub pass_room : (passes : List code.Pass) (spad j : ℕ) (pass : code.Pass) → pass ≡ get_or passes j pass → j < length passes → NeedHoldsEach → need_of (passes_of passes) ≤ spad → pass_need (pass_of pass) ≤ spad
pass_room passes spad j pass is lt each room =
    omega (arith, of_pass (λ p. pass_need p ≤ need_of (passes_of passes)) passes j pass is lt (each (passes_of passes)), room)

pub ordered_pass : (passes : List code.Pass) (j : ℕ) (pass : code.Pass) → pass ≡ get_or passes j pass → j < length passes → All IsOrdered (passes_of passes) → IsOrdered (pass_of pass)
ordered_pass passes j pass is lt all = of_pass IsOrdered passes j pass is lt all

-- the passes of a sound split have orders
pub sound_ordered : (arrays : List ArrayPlace) (passes : List Pass) → AreSound arrays passes → All IsOrdered passes
sound_ordered arrays [] sound = All-nil IsOrdered
sound_ordered arrays (pass ∷ passes) sound =
    All-cons IsOrdered pass passes (record { normal = sound.0.normal; few_nodes = sound.0.few_nodes }) (sound_ordered arrays passes sound.1)
