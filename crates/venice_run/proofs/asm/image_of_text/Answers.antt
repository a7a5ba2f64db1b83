use Rattle.image_loader.specs.Image.{ImageContents}
use Rattle.venice_run.specs.Asm.{Assembles, assembled}
use Rattle.venice_run.specs.Endings.{assembler_ending}
use Rattle.venice_run.proofs.Stages.{last_ends}
use Rattle.venice_run.proofs.asm.image_of_text.Goals as goal

pub returns-in_err-assemble : goal.returns-in_err-assemble
unfolding assembled
returns-in_err-assemble c = last_ends assembler_ending (Assembles c.args.text.now) (λ (image : ImageContents). image) _ _ c.from_residual.ensures.1 c.in_err-assemble.ensures

pub returns : goal.returns
unfolding assembled
returns c = c.in_ok-assemble.ensures
