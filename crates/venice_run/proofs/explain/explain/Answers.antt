use Rattle.pass_plan.specs.Shown.{split_of}
use Rattle.shape_check.specs.Checked.{program_of}
use Rattle.venice_run.specs.Answer.{answer_of}
use Rattle.venice_run.specs.Explain.{explain}
use Rattle.venice_run.specs.Stage.{Goes}
use Rattle.venice_run.proofs.Stages.{ends}
use Rattle.venice_run.proofs.explain.explain.Goals as goal

pub returns-in_err-checked-clause-answer : goal.returns-in_err-checked-clause-answer
unfolding explain
returns-in_err-checked-clause-answer g c = ends answer_of _ _ c.from_residual.ensures.1 c.in_err-checked.ensures.read

pub returns-in_err-split-clause-answer : goal.returns-in_err-split-clause-answer
unfolding explain
returns-in_err-split-clause-answer g c =
    Goes (program_of c.in_ok-checked.checked) c.in_ok-checked.ensures.read
    (ends answer_of _ _ c.from_residual-in_err-split.ensures.1 c.in_err-split.ensures.splits)

pub returns-clause-answer : goal.returns-clause-answer
unfolding explain
returns-clause-answer g c =
    Goes (program_of c.in_ok-checked.checked) c.in_ok-checked.ensures.read
    (Goes (split_of c.in_ok-split.split) c.in_ok-split.ensures.splits (rw c.deref.ensures.value at c.print_orders.ensures))
