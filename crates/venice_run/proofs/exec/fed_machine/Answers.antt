use Rattle.std.proofs.Common.{refl, ap, subst}
use Rattle.image_loader.specs.Image.{ImageContents}
use Rattle.venice_run.specs.Exec.{fed_image}
use Rattle.venice_run.specs.Inputs.{fitting, inputs_under}
use Rattle.venice_run.specs.Stage.{Goes, Ends, as_stage}
use Rattle.venice_run.proofs.NoFile.{loads_more, counts_none, misfit_no_file, went_well}
use Rattle.venice_run.proofs.Ready.{none, made}
use Rattle.venice_run.proofs.exec.fed_machine.Goals as goal

pub returns-in_err-loaded-clause-answer : goal.returns-in_err-loaded-clause-answer
unfolding fed_image
returns-in_err-loaded-clause-answer g c = none _ _ _ _ _ _ c.from_residual.ensures.1 (Ends _ c.in_err-loaded.ensures.read refl)

pub returns-in_err-need_room-clause-answer : goal.returns-in_err-need_room-clause-answer
unfolding fed_image
returns-in_err-need_room-clause-answer g c =
    none _ _ _ _ _ _ c.from_residual-in_err-need_room.ensures.1
    (Goes c.in_ok-loaded.loaded c.in_ok-loaded.ensures.read
    (Ends _ (rw (c.from.ensures, ap (λ (i : ImageContents). i.spad) c.loaded.view_is) at c.in_err-need_room.ensures) refl))

pub returns-in_err-arrays-clause-answer : goal.returns-in_err-arrays-clause-answer
unfolding fed_image inputs_under
returns-in_err-arrays-clause-answer g c =
    none _ _ _ _ _ _ c.from_residual-in_err-arrays.ensures.1
    (Goes c.in_ok-loaded.loaded c.in_ok-loaded.ensures.read
    (Goes tt (rw (c.from.ensures, ap (λ (i : ImageContents). i.spad) c.loaded.view_is) at c.in_ok-need_room.ensures)
    (Ends _ (Ends _ (rw c.in_ok-loaded.ensures.only.content at c.in_err-arrays.ensures.read) refl) refl)))

pub returns-clause-answer : goal.returns-clause-answer
returns-clause-answer g c =
    made _ _ _ _ c.in_ok-loaded.loaded c.in_ok-arrays.arrays c.in_ok-loaded.ensures.read
    (rw (c.from.ensures, ap (λ (i : ImageContents). i.spad) c.loaded.view_is) at c.in_ok-need_room.ensures)
    (rw c.in_ok-loaded.ensures.only.content at c.in_ok-arrays.ensures.read)
    c.make_machine.result c.make_machine.ensures.fits c.make_machine.ensures.setup c.make_machine.ensures.start

pub returns-clause-only : goal.returns-clause-only
returns-clause-only g c =
    let table = c.in_ok-loaded.loaded.arrays in
    let arrays = c.in_ok-arrays.arrays in
    let last = c.in_ok-arrays.ensures.only in
    loads_more (went_well _) c.in_ok-loaded.ensures.only
    (record {
      content = last.content;
      loads = counts_none _ _ (went_well _)
          (λ e. misfit_no_file table arrays (subst (λ r. fitting table arrays (as_stage (λ _. arrays) r)) e c.make_machine.ensures.fits)) last.loads;
      saves = last.saves;
    })
