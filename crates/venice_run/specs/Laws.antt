-- Laws of the top call's definitions.
use Rattle.std.specs.Prelude.{◌≡◌, ◌≢◌, ◌⊎◌, ℕ, List, [], ◌∷◌, Option, Result, Ok, Err}
use Rattle.std.specs.List.{concat}
use Rattle.ven_io.specs.Files.{Behaviour}
use Rattle.ven_io.specs.Sink.{Takes}
use Rattle.venice_run.specs.declared.ending.Ending.{Ending}
use Rattle.venice_run.specs.declared.ending.Ending.TheVariants.{Refused, Failed}
use Rattle.venice_run.specs.declared.refusal.Refusal.{Refusal}
use Rattle.venice_run.specs.Answer.{Answer, answer_status}
use Rattle.venice_run.specs.Commands.{answer_to}
use Rattle.venice_run.specs.Line.{line_of, refusal_status, memory_status}
use Rattle.venice_run.specs.Lines.{text_lines}
use Rattle.venice_run.specs.Promise.{Moment, SaveMade, Promise}

-- the files show at most one thing under each name
abbrev pub ShowsOne : Behaviour → Type 0
ShowsOne files =
    (name : List ℕ) (first second : Option (List ℕ)) → files.shows name first → files.shows name second → first ≡ second

-- no load failed, and memory didn't run out
abbrev pub IsPlain : {A : Type 0} → Result A Ending → Type 0
IsPlain (Err (Failed fault)) = ⊥
IsPlain result = Unit {0}

-- Where the files show one thing a name, words have at most one answer or refusal, loads that fail and memory that runs
-- out apart.
abbrev pub HasOneAnswer : {Content : Type 0} → (Content → Behaviour) → Type 0
HasOneAnswer {Content} behaviour =
    (content : Content) → ShowsOne (behaviour content) → (words : List (List ℕ)) (first second : Result Answer Ending)
    → answer_to (behaviour content) words first → answer_to (behaviour content) words second
    → IsPlain first → IsPlain second → first ≡ second

-- the lines of a text are the text, one after another
abbrev pub LinesAreTheText : Type 0
LinesAreTheText = (text : List ℕ) → concat (text_lines text) ≡ text

module _ {Content : Type 0} (behaviour : Content → Behaviour) (before after : Moment Content) where
  -- no load, no save and no put may fail
  pub record NothingFails : Type 0 where
    pub load : (name : List ℕ) → ¬ (behaviour before.files.content).load_may_fail name
    pub save : (name : List ℕ) → ¬ (behaviour before.files.content).save_may_fail name
    pub put : ¬ before.sink.may_fail

  -- no fault was counted
  pub record NoneCounted : Type 0 where
    pub loads : after.files.failed_loads ≡ before.files.failed_loads
    pub saves : after.files.failed_saves ≡ before.files.failed_saves
    pub puts : after.sink.failed_puts ≡ before.sink.failed_puts

  module _ (words : List (List ℕ)) (status : ℕ) where
    -- the words' answer was given whole: its save was made, and its text was taken line by line
    pub record IsAnswered : Type 0 where
      pub answer : Answer
      pub comes : answer_to (behaviour before.files.content) words (Ok answer)
      pub saved : SaveMade behaviour before.files.content after.files.content answer.save
      pub taken : Takes before.sink after.sink (text_lines answer.text)
      pub status_is : status ≡ answer_status answer

    -- the words were refused: no file has changed, and the refusal's line was taken
    pub record IsRefused : Type 0 where
      pub refusal : Refusal
      pub comes : answer_to (behaviour before.files.content) words (Err (Refused refusal))
      pub kept : after.files.content ≡ before.files.content
      pub taken : Takes before.sink after.sink (line_of (Refused refusal) ∷ [])
      pub status_is : status ≡ refusal_status refusal

    -- the words are answered or refused in full, or memory ran out
    abbrev pub IsComplete : Type 0
    IsComplete = IsAnswered ⊎ (IsRefused ⊎ (status ≡ memory_status))

    -- where a call keeps its promise and nothing may fail, it is complete, and no fault is counted
    abbrev pub CompletesQuietly : Type 0
    CompletesQuietly = Promise behaviour before after words status → NothingFails → IsComplete × NoneCounted

    -- status 15 is never the top call's
    abbrev pub NeverEndsWith15 : Type 0
    NeverEndsWith15 = Promise behaviour before after words status → status ≢ 15
