use Rattle.std.proofs.Common.{refl}
use Rattle.venice_run.specs.Stage.{Goes, Ends}
use Rattle.venice_run.proofs.top.answer_to.Goals as goal

pub returns-in-Some-clause-answer : goal.returns-in-Some-clause-answer
returns-in-Some-clause-answer g c = Goes c.in-Some.request c.in-Some.ensures c.comes_to.ensures.answer

pub returns-in-None-clause-answer : goal.returns-in-None-clause-answer
returns-in-None-clause-answer g c = Ends _ (c.in-None.ensures, refl) refl
