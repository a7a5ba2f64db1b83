-- What a call of the program promises: one record, which the top call and the program's own function cite.
use Rattle.std.specs.Prelude.{◌≡◌, ◌⊎◌, ℕ, List, [], ◌∷◌, ◌++◌, Option, Some, None, Result, Ok, Err}
use Rattle.ven_io.specs.declared.sink.OutFault.TheVariants as out
use Rattle.ven_io.specs.Faults.{CountsFaults, one_more}
use Rattle.ven_io.specs.Files.{Behaviour, FilesState, Saves}
use Rattle.ven_io.specs.Sink.{SinkState, Takes, TakesPart}
use Rattle.venice_run.specs.declared.ending.Ending.{Ending}
use Rattle.venice_run.specs.declared.ending.Ending.TheVariants.{Failed}
use Rattle.venice_run.specs.declared.ending.Fault.TheVariants.{File, Memory}
use Rattle.venice_run.specs.Answer.{Answer, Save, answer_status}
use Rattle.venice_run.specs.Commands.{answer_to}
use Rattle.venice_run.specs.Line.{line_of, status_of, save_line, save_status, put_status, memory_status}
use Rattle.venice_run.specs.Lines.{text_lines}

-- files and sink at a moment
pub record Moment (Content : Type 0) : Type 1 where
  pub files : FilesState Content
  pub sink : SinkState

abbrev pub moment : {Content : Type 0} → FilesState Content → SinkState → Moment Content
moment files sink = record { files = files; sink = sink }

-- what a call means to say: an answer, why there is none, or that its save failed
pub data Outcome : Type 0 where
  Done : Answer → Outcome
  Stopped : Ending → Outcome
  NotSaved : Outcome

-- the save that is asked for was made; where none is asked for, the files are as they were
abbrev pub SaveMade : {Content : Type 0} → (Content → Behaviour) → Content → Content → Option Save → Type 0
SaveMade behaviour before after None = after ≡ before
SaveMade behaviour before after (Some save) = Saves (behaviour before) (behaviour after) save.name save.bytes (Ok tt)

-- the save that is asked for failed
abbrev pub SaveFailed : {Content : Type 0} → (Content → Behaviour) → Content → Content → Option Save → Type 0
SaveFailed behaviour before after None = ⊥
SaveFailed behaviour before after (Some save) =
    Saves (behaviour before) (behaviour after) save.name save.bytes (Err out.Failed)

-- What the stages come to, and what the files hold then. The save comes after all stages, and before anything is put.
pub data Comes {Content : Type 0} (behaviour : Content → Behaviour) (before after : Content)
    (stages : Result Answer Ending → Type 0) (outcome : Outcome) : Type 0 where
  Does : (answer : Answer) → stages (Ok answer) → SaveMade behaviour before after answer.save → outcome ≡ Done answer
      → Comes behaviour before after stages outcome
  FailsToSave : (answer : Answer) → stages (Ok answer) → SaveFailed behaviour before after answer.save
      → outcome ≡ NotSaved → Comes behaviour before after stages outcome
  LacksMemory : (answer : Answer) → stages (Ok answer) → after ≡ before → outcome ≡ Stopped (Failed Memory)
      → Comes behaviour before after stages outcome
  Stops : (ending : Ending) → stages (Err ending) → after ≡ before → outcome ≡ Stopped ending
      → Comes behaviour before after stages outcome

-- How much of the lines the sink takes, and the status then. Each line is one piece, and behind a put that wasn't done
-- there is none.
pub data Says (before after : SinkState) (status : ℕ) (lines : List (List ℕ)) (result : ℕ) : Type 0 where
  Whole : Takes before after lines → after.failed_puts ≡ before.failed_puts → result ≡ status
      → Says before after status lines result
  FailsAt : (front : List (List ℕ)) (line : List ℕ) (rest : List (List ℕ)) → lines ≡ front ++ line ∷ rest
      → TakesPart before after front line → before.may_fail → after.failed_puts ≡ one_more before.failed_puts
      → result ≡ put_status → Says before after status lines result
  LacksMemoryAt : (front : List (List ℕ)) (line : List ℕ) (rest : List (List ℕ)) → lines ≡ front ++ line ∷ rest
      → Takes before after front → after.failed_puts ≡ before.failed_puts → result ≡ memory_status
      → Says before after status lines result

-- an end's line is put, or in its place the line of memory that ran out
pub record SaysEnding (before after : SinkState) (ending : Ending) (result : ℕ) : Type 0 where
  pub message : Ending
  pub is : (message ≡ ending) ⊎ (message ≡ Failed Memory)
  pub says : Says before after (status_of message) (line_of message ∷ []) result

-- the lines that are put for each outcome
abbrev pub SaysOutcome : SinkState → SinkState → Outcome → ℕ → Type 0
SaysOutcome before after (Done answer) result = Says before after (answer_status answer) (text_lines answer.text) result
SaysOutcome before after (Stopped ending) result = SaysEnding before after ending result
SaysOutcome before after NotSaved result = Says before after save_status (save_line ∷ []) result

-- What a call of the program promises.
pub record Promise {Content : Type 0} (behaviour : Content → Behaviour) (before after : Moment Content)
    (words : List (List ℕ)) (result : ℕ) : Type 0 where
  pub outcome : Outcome
  -- it is what the words come to by the files' content, with the save made
  pub comes : Comes behaviour before.files.content after.files.content
      (answer_to (behaviour before.files.content) words) outcome
  -- one load failed exactly where `error: file` is meant, and one save where `error: save` is
  pub loads : CountsFaults before.files.failed_loads after.files.failed_loads (outcome ≡ Stopped (Failed File))
  pub saves : CountsFaults before.files.failed_saves after.files.failed_saves (outcome ≡ NotSaved)
  -- it is put, line by line
  pub says : SaysOutcome before.sink after.sink outcome result
