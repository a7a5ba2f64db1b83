use Rattle.venice_run.proofs.Lawful.{answer_lawful}
use Rattle.venice_run.proofs.laws.one_answer.Goals as goal

pub returns : goal.returns
returns g c = λ content shows words first second comes comes_too plain plain_too.
    (answer_lawful (g.F.Files.behaviour content) words).once
    (record {
      shows = shows;
      programs = c.one_reading.ensures.tokens;
      typings = c.check_laws.ensures.one_typing;
      first_faults = c.check_laws.ensures.one_first_fault;
      no_fault = c.check_laws.ensures.no_fault;
      arrays = c.one_reading-2.ensures.one;
      at_faults = c.one_reading-2.ensures.at_faults;
      array_answers = c.one_reading-2.ensures.answer;
      splits = c.split_laws.ensures.one;
      texts = c.one_image.ensures.one;
      at_text_faults = c.one_image.ensures.at_faults;
      text_answers = c.one_answer.ensures;
    })
    first second comes comes_too plain plain_too
