use Rattle.shape_check.specs.Checked.{program_of}
use Rattle.venice_run.specs.Answer.{answer_of}
use Rattle.venice_run.specs.Eval.{eval}
use Rattle.venice_run.specs.Stage.{Goes}
use Rattle.venice_run.proofs.Stages.{ends}
use Rattle.venice_run.proofs.eval.eval.Goals as goal

pub returns-in_err-checked-clause-answer : goal.returns-in_err-checked-clause-answer
unfolding eval
returns-in_err-checked-clause-answer g c = ends answer_of _ _ c.from_residual.ensures.1 c.in_err-checked.ensures.read

pub returns-in_err-arrays-clause-answer : goal.returns-in_err-arrays-clause-answer
unfolding eval
returns-in_err-arrays-clause-answer g c =
    Goes (program_of c.in_ok-checked.checked) c.in_ok-checked.ensures.read
    (ends answer_of _ _ c.from_residual-in_err-arrays.ensures.1 (rw c.in_ok-checked.ensures.only.content at c.in_err-arrays.ensures.read))

pub returns-clause-answer : goal.returns-clause-answer
unfolding eval
returns-clause-answer g c =
    Goes (program_of c.in_ok-checked.checked) c.in_ok-checked.ensures.read
    (Goes c.in_ok-arrays.arrays (rw c.in_ok-checked.ensures.only.content at c.in_ok-arrays.ensures.read) c.print_meaning.ensures)
