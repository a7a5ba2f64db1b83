-- The steps of a pass's tree read and write buffers of its tiles, with elements that fit them.
use Rattle.std.proofs.Common.{◌≡◌, ℕ, ◌*◌, ◌≤◌, refl, sym, ap, subst, List, [], ◌∷◌, All}
use Rattle.std.specs.Prelude.{map}
use Rattle.std.proofs.lemmas.List.Elements.{All-head, All-tail}
use Rattle.ven_base.specs.Elem.{size_of}
use Rattle.pass_plan.specs.declared.parts.Tile.{Tile}
use Rattle.pass_plan.specs.Label.{label_of}
use Rattle.pass_plan.specs.Pass.{Pass}
use Rattle.buffer_lifetimes.specs.declared.step.EvalStep.{EvalStep}
use Rattle.buffer_lifetimes.specs.Step.{Step, step_of, steps_of}
use Rattle.dma_segments.proofs.Lists.{Each}
use Rattle.vector_codegen.specs.Effect.{IsSoundSomewhere, IsTileNumber, IsOrderOf}
use Rattle.vector_codegen.specs.Fit.{IsStepOf}
use Rattle.vector_codegen.specs.TileList.{tile_shape, tile_buffers}
use Rattle.vector_codegen.proofs.TileCode.{steps_fit, steps_wide}
use Rattle.host_codegen.proofs.FitRoots.{IsGoodStep}

-- steps as the code has them
eval_of : Step → EvalStep
eval_of step = record { op = step.op; elem = step.elem; from = step.from; args = record { items = step.args; capacity = 3 }; to = step.to }

all_evals : (steps : List Step) → steps_of (map eval_of steps) ≡ steps
unfolding eval_of
all_evals [] = refl
all_evals (step ∷ steps) = ap (λ rest. step ∷ rest) (all_evals steps)

module _ (pass : Pass) (tile : Tile) (t : ℕ) (somewhere : IsSoundSomewhere pass) (number : IsTileNumber pass tile t) where
  abbrev IsFit : EvalStep → Type 0
  IsFit step = IsStepOf (tile_buffers pass tile t) (step_of step)

  abbrev IsWide : EvalStep → Type 0
  IsWide step = (tile_shape pass tile t).rows * (tile_shape pass tile t).cols * size_of step.elem ≤ (tile_shape pass tile t).room

  each_good : (steps : List Step) → All IsFit (map eval_of steps) → All IsWide (map eval_of steps) → Each (IsGoodStep pass tile t) steps
  unfolding eval_of
  each_good [] fit wide = tt
  each_good (step ∷ steps) fit wide =
      let here = All-head IsFit (eval_of step) (map eval_of steps) fit in (
        record { args = here.args; to = here.to; wide = All-head IsWide (eval_of step) (map eval_of steps) wide },
        each_good steps (All-tail IsFit (eval_of step) (map eval_of steps) fit) (All-tail IsWide (eval_of step) (map eval_of steps) wide),
      )

  pub steps_good : (steps : List Step) → IsOrderOf pass.tree (label_of pass.tree) steps → Each (IsGoodStep pass tile t) steps
  steps_good steps order =
      let evals = map eval_of steps in
      let ordered = subst (λ xs. IsOrderOf pass.tree (label_of pass.tree) xs) (sym (all_evals steps)) order in
      each_good steps (steps_fit pass tile t somewhere number evals (label_of pass.tree) ordered) (steps_wide pass tile t somewhere number evals (label_of pass.tree) ordered)
