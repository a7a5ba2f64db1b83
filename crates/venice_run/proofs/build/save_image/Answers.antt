use Rattle.std.proofs.Common.{refl}
use Rattle.image_loader.specs.Image.{ImageContents}
use Rattle.pass_plan.specs.Shown.{split_of}
use Rattle.shape_check.specs.Checked.{program_of}
use Rattle.host_codegen.specs.CodeOf.{code_for}
use Rattle.good_images.specs.Laws.{image_with}
use Rattle.venice_run.specs.Answer.{answer_of}
use Rattle.venice_run.specs.Compiled.{compiled}
use Rattle.venice_run.specs.Stage.{Goes}
use Rattle.venice_run.proofs.Stages.{ends}
use Rattle.venice_run.proofs.build.save_image.Goals as goal

pub image_bytes-requires-clause-of_program : goal.image_bytes-requires-clause-of_program
image_bytes-requires-clause-of_program c = record {
  program = program_of c.args.plan.program;
  is_checked = c.requires.plan.checked;
  is_split = c.requires.plan.is_split;
}

pub returns-in_err-bytes : goal.returns-in_err-bytes
unfolding compiled
returns-in_err-bytes c = ends answer_of _ _ c.from_residual.ensures.1 refl

pub returns : goal.returns
unfolding compiled
returns c =
    let plan = c.requires.plan in
    let split = split_of c.args.plan.split in
    let image : ImageContents = image_with split c.args.spad (code_for split c.args.spad) in
    Goes image (record { good = c.in_ok-bytes.ensures.good (program_of c.args.plan.program) plan.checked plan.is_split; is = refl })
    (rw (c.in_ok-bytes.ensures.spelled, c.new.ensures.items) at c.saving.ensures)
