-- How a body goes on from stage to stage.
use Rattle.std.proofs.Common.{◌≡◌, Result, Err, refl, sym, ap, subst, ◌∙◌}
use Rattle.std.specs.Result.{IsErrAnd}
use Rattle.std.proofs.lemmas.Result.{err_from_is_err_and}
use Rattle.venice_run.specs.declared.ending.Ending.{Ending}
use Rattle.venice_run.specs.declared.ending.Ending.TheVariants.{Failed}
use Rattle.venice_run.specs.declared.ending.Fault.TheVariants.{File}
use Rattle.venice_run.specs.Stage.{Then, Ends, as_stage, step}

-- a stage ends the command, at the exit of its `?`
pub ends : {A B C : Type 0} {first : Result A Ending → Type 0} {next : A → Result B Ending → Type 0} (view : C → B) (ending : Ending) (r : Result C Ending)
    → IsErrAnd r (λ e. e ≡ ending) → first (Err ending) → Then first next (as_stage view r)
ends view ending r exit is = let p = err_from_is_err_and r exit in Ends ending is (ap (as_stage view) p.1 ∙ ap Err p.2)

-- a call of a layer below does
pub step_ends : {A B C E : Type 0} (ending_of : E → Ending) (is : Result A E → Type 0) {next : A → Result B Ending → Type 0} (view : C → B) (fault : E) (r : Result C Ending)
    → IsErrAnd r (λ e. e ≡ ending_of fault) → is (Err fault) → Then (step ending_of is) next (as_stage view r)
step_ends ending_of is view fault r exit holds = ends view (ending_of fault) r exit (fault, holds, refl)

-- where it is the last stage
pub last_ends : {A C E : Type 0} (ending_of : E → Ending) (is : Result A E → Type 0) (view : C → A) (fault : E) (r : Result C Ending)
    → IsErrAnd r (λ e. e ≡ ending_of fault) → is (Err fault) → step ending_of is (as_stage view r)
last_ends {A} {C} ending_of is view fault r exit holds =
    let p = err_from_is_err_and r exit in
    subst (λ (x : Result C Ending). step ending_of is (as_stage view x)) (sym p.1) (fault, holds, p.2)

-- a stage that loads nothing doesn't end in a failed load, at the exit of its `?`
pub not_failed : {A C : Type 0} (stage : Result A Ending → Type 0) (ending : Ending) (r : Result C Ending) → IsErrAnd r (λ e. e ≡ ending) → stage (Err ending) → (stage (Err (Failed File)) → ⊥)
    → r ≡ Err (Failed File) → ⊥
not_failed {A} {C} stage ending r exit is none same =
    let p = err_from_is_err_and r exit in
    none (subst (λ (e : Ending). stage (Err e)) (err_is (sym p.1 ∙ same) p.2) is)
  where
    err_is : {x : Ending} → ◌≡◌ {A = Result C Ending} (Err x) (Err (Failed File)) → x ≡ ending → ending ≡ Failed File
    err_is {x} e is = let one : x ≡ Failed File = cc in sym is ∙ one
