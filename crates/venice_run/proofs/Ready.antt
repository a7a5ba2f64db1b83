-- How a machine is made ready for a run.
use Rattle.std.proofs.Common.{◌≡◌, ℕ, List, Result, Ok, Err, refl, sym, ap, subst, ◌∙◌}
use Rattle.std.specs.Prelude.{IfOk}
use Rattle.std.specs.Result.{IsErrAnd}
use Rattle.std.proofs.lemmas.Result.{err_from_is_err_and}
use Rattle.ven_base.specs.Pairs.{Pairs}
use Rattle.ven_io.specs.Files.{Behaviour}
use Rattle.image_loader.specs.Image.{ImageContents}
use Rattle.venice_machine.specs.Machine.{MachineContents, Shows}
use Rattle.venice_machine.specs.Start.{setup_of, start_state}
use Rattle.venice_run.specs.declared.ending.Ending.{Ending}
use Rattle.venice_run.specs.declared.request.Resources.{Resources}
use Rattle.venice_run.specs.Exec.{fed_image}
use Rattle.venice_run.specs.Images.{image_under}
use Rattle.venice_run.specs.Inputs.{fitting, arrays_under, inputs_under}
use Rattle.venice_run.specs.Plan.{has_room}
use Rattle.venice_run.specs.Ready.{readies}
use Rattle.venice_run.specs.Stage.{Ends, Goes, as_stage}

module _ (files : Behaviour) (image inputs : List ℕ) (resources : Resources) where
  -- there is none, at the exit of a `?`
  pub none : (ending : Ending) (r : Result MachineContents Ending) → IsErrAnd r (λ e. e ≡ ending) → fed_image files image inputs resources.spad (Err ending)
      → readies files image inputs resources (as_stage (λ machine. machine) r)
  none ending r exit is =
      let p = err_from_is_err_and r exit in
      subst (λ (x : Result MachineContents Ending). readies files image inputs resources (as_stage (λ machine. machine) x)) (sym (p.1 ∙ ap Err p.2)) is

  -- the machine of an image that is there and has room, on arrays that are there
  pub made : (loaded : ImageContents) (arrays : Pairs) → image_under files image (Ok loaded) → has_room loaded.spad resources.spad (Ok tt)
      → arrays_under files inputs (Ok arrays)
      → (r : Result MachineContents Ending) → fitting loaded.arrays arrays (as_stage (λ _. arrays) r)
      → IfOk r (λ machine. machine.setup ≡ setup_of loaded resources.lanes) → IfOk r (λ machine. Shows machine (start_state loaded arrays resources.spad))
      → readies files image inputs resources (as_stage (λ machine. machine) r)
  unfolding fed_image inputs_under
  made loaded arrays is room read (Ok machine) fits setup shows = (
    record { image = loaded; arrays = arrays },
    Goes loaded is (Goes tt room (Goes arrays (Goes arrays read fits) refl)),
    record { setup = setup; shows = shows },
  )
  made loaded arrays is room read (Err ending) fits setup shows = Goes loaded is (Goes tt room (Ends ending (Goes arrays read fits) refl))
