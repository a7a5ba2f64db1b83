use Rattle.std.proofs.Common.{refl, sym, ap}
use Rattle.venice_run.specs.Answer.{answer_of}
use Rattle.venice_run.specs.Promise.{Does, FailsToSave, LacksMemory, Stops}
use Rattle.venice_run.specs.Stage.{as_stage}
use Rattle.venice_run.proofs.top.save_answer.Goals as goal

pub returns-in-Ok-make_save-clause-comes : goal.returns-in-Ok-make_save-clause-comes
returns-in-Ok-make_save-clause-comes g c =
    Does (answer_of c.in-Ok.answer) (ap (as_stage answer_of) (sym c.in-Ok.is)) c.in-Ok-make_save.ensures.saved refl

pub returns-in-Err-Failed-clause-comes : goal.returns-in-Err-Failed-clause-comes
returns-in-Err-Failed-clause-comes g c =
    FailsToSave (answer_of c.in-Ok.answer) (ap (as_stage answer_of) (sym c.in-Ok.is)) (rw c.in-Err-Failed.field-0-is at c.in-Err-Failed.ensures.saved) refl

pub returns-clause-comes : goal.returns-clause-comes
returns-clause-comes g c = Stops c.in-Err.ending (ap (as_stage answer_of) (sym c.in-Err.is)) refl refl

pub returns-in-Ok-clause-comes : goal.returns-in-Ok-clause-comes
returns-in-Ok-clause-comes g c =
    LacksMemory (answer_of c.in-Ok.answer) (ap (as_stage answer_of) (sym c.in-Ok.is)) (rw c.in-Err-Memory.field-0-is at c.in-Err-Memory.ensures.saved) refl
