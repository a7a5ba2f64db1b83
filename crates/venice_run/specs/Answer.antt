-- What a command answers: the file that it saves, and what it prints then.
use Rattle.std.specs.Prelude.{◌≡◌, ℕ, List, ◌++◌, Option, Some, None}
use Rattle.std.specs.Option.{option_map}
use Rattle.venice_run.specs.declared.answer.Answer as code
use Rattle.venice_run.specs.declared.answer.Save as saved
use Rattle.venice_run.specs.declared.ending.Ending.TheVariants.{Refused}
use Rattle.venice_run.specs.declared.refusal.Refusal.{Refusal}
use Rattle.venice_run.specs.Line.{line_of, refusal_status}
use Rattle.venice_run.specs.Stage.{Stage, gives}

-- bytes that are to stand under a name
pub record Save : Type 0 where
  pub name : List ℕ
  pub bytes : List ℕ

-- the save, where there is one, the whole text, and the refusal in which the text ends, where it ends in one
pub record Answer : Type 0 where
  pub save : Option Save
  pub text : List ℕ
  pub stop : Option Refusal

-- the status of an answer that was printed
abbrev pub status_with : Option Refusal → ℕ
status_with None = 0
status_with (Some refusal) = refusal_status refusal

abbrev pub answer_status : Answer → ℕ
answer_status answer = status_with answer.stop

-- the command prints this text
abbrev pub prints : List ℕ → Stage Answer
prints text = gives (λ answer. answer ≡ record { save = None; text = text; stop = None })

-- the command saves these bytes under the name, and prints this text
abbrev pub saves_and_prints : List ℕ → List ℕ → List ℕ → Stage Answer
saves_and_prints name bytes text =
    gives (λ answer. answer ≡ record { save = Some (record { name = name; bytes = bytes }); text = text; stop = None })

-- the command prints this text and then the refusal's line, and has its status
abbrev pub prints_and_stops : List ℕ → Refusal → Stage Answer
prints_and_stops text refusal =
    gives (λ answer. answer ≡ record { save = None; text = text ++ line_of (Refused refusal); stop = Some refusal })

-- the code's answer as plain data
abbrev pub save_of : saved.Save → Save
save_of save = record { name = save.name.now; bytes = save.bytes.items }

abbrev pub answer_of : code.Answer → Answer
answer_of answer = record { save = option_map save_of answer.save; text = answer.text.items; stop = answer.stop }
