use Rattle.image_loader.specs.Image.{ImageContents}
use Rattle.image_loader.specs.Loading.{IsLoading}
use Rattle.venice_run.specs.Endings.{image_ending}
use Rattle.venice_run.specs.Images.{image_in}
use Rattle.venice_run.proofs.Stages.{last_ends}
use Rattle.venice_run.proofs.images.image_of_bytes.Goals as goal

pub returns-in_err-read_image : goal.returns-in_err-read_image
unfolding image_in
returns-in_err-read_image c = last_ends image_ending (IsLoading c.args.bytes.now) (λ (image : ImageContents). image) _ _ c.from_residual.ensures.1 c.in_err-read_image.ensures

pub returns : goal.returns
unfolding image_in
returns c = c.in_ok-read_image.ensures
