use Rattle.venice_run.specs.Answer.{answer_of}
use Rattle.venice_run.specs.Disasm.{disasm}
use Rattle.venice_run.specs.Stage.{Goes}
use Rattle.venice_run.proofs.Stages.{ends}
use Rattle.venice_run.proofs.disasm.disasm.Goals as goal

pub returns-in_err-loaded-clause-answer : goal.returns-in_err-loaded-clause-answer
unfolding disasm
returns-in_err-loaded-clause-answer g c = ends answer_of _ _ c.from_residual.ensures.1 c.in_err-loaded.ensures.read

pub returns-clause-answer : goal.returns-clause-answer
unfolding disasm
returns-clause-answer g c = Goes c.in_ok-loaded.loaded c.in_ok-loaded.ensures.read c.print_image.ensures
