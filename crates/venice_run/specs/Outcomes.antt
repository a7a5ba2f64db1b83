-- Inner: outcomes as the code holds them, and the end of a save that may be asked for.
use Rattle.std.specs.Prelude.{◌≡◌, Option, Result, Ok, Err}
use Rattle.std.specs.Option.{option_map}
use Rattle.ven_io.specs.Files.{Behaviour}
use Rattle.ven_io.specs.declared.sink.OutFault.{OutFault}
use Rattle.ven_io.specs.declared.sink.OutFault.TheVariants as out
use Rattle.venice_run.specs.declared.answer.Save as asked
use Rattle.venice_run.specs.declared.top.Outcome as code
use Rattle.venice_run.specs.declared.top.Outcome.TheVariants as outcome
use Rattle.venice_run.specs.Answer.{save_of, answer_of}
use Rattle.venice_run.specs.Promise.{Outcome, Done, Stopped, NotSaved, SaveMade, SaveFailed}

abbrev pub outcome_of : code.Outcome → Outcome
outcome_of (outcome.Done answer) = Done (answer_of answer)
outcome_of (outcome.Stopped ending) = Stopped ending
outcome_of outcome.NotSaved = NotSaved

abbrev pub SaveEnds : {Content : Type 0} → (Content → Behaviour) → Content → Content → Option asked.Save
    → Result (Unit {0}) OutFault → Type 0
SaveEnds behaviour before after save (Ok _) = SaveMade behaviour before after (option_map save_of save)
SaveEnds behaviour before after save (Err out.Failed) = SaveFailed behaviour before after (option_map save_of save)
SaveEnds behaviour before after save (Err out.Memory) = after ≡ before
