use Rattle.std.proofs.Common.{arith, subst}
use Rattle.image_loader.specs.Image.{ImageContents}
use Rattle.venice_run.specs.Images.{image_in, image_under}
use Rattle.venice_run.specs.Stage.{Goes, as_stage}
use Rattle.venice_run.proofs.NoFile.{counts_none, image_bytes_no_file}
use Rattle.venice_run.proofs.Stages.{ends}
use Rattle.venice_run.proofs.images.load_image.Goals as goal

pub image_of_bytes-requires : goal.image_of_bytes-requires
image_of_bytes-requires g c = rw c.deref.ensures.value (omega (arith, c.in_ok-bytes.ensures.short))

pub returns-in_err-bytes-clause-read : goal.returns-in_err-bytes-clause-read
unfolding image_under
returns-in_err-bytes-clause-read g c = ends (λ (image : ImageContents). image) _ _ c.from_residual.ensures.1 c.in_err-bytes.ensures.read

pub returns-clause-read : goal.returns-clause-read
unfolding image_under
returns-clause-read g c = Goes _ c.in_ok-bytes.ensures.read (rw c.deref.ensures.value at c.image_of_bytes.ensures)

pub returns-clause-only : goal.returns-clause-only
returns-clause-only g c = record {
  content = c.in_ok-bytes.ensures.only.content;
  loads = counts_none _ _ (λ e. absurd cc)
      (λ e. image_bytes_no_file c.deref.result.now (subst (λ r. image_in c.deref.result.now (as_stage (λ (image : ImageContents). image) r)) e c.image_of_bytes.ensures))
      c.in_ok-bytes.ensures.only.loads;
  saves = c.in_ok-bytes.ensures.only.saves;
}
