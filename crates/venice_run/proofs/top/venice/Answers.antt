use Rattle.venice_run.specs.Outcomes.{outcome_of}
use Rattle.venice_run.proofs.Promised.{counts_same, comes}
use Rattle.venice_run.proofs.top.venice.Goals as goal

pub returns : goal.returns
returns g c =
    let only = c.answer_to-answer.ensures.only in
    let saved = c.save_answer-outcome.ensures in
    record {
      promise = record {
        outcome = outcome_of c.save_answer-outcome.result;
        comes = comes g.F.Files.behaviour _ _ _ only.content _ _ c.answer_to-answer.ensures.answer _ saved.comes;
        loads = rw saved.only.loads (counts_same _ _ saved.file.0 saved.file.1 only.loads);
        saves = rw only.saves at saved.only.saves;
        says = c.say.ensures;
      };
    }
