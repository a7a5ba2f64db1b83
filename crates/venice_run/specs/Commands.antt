-- What the words of the command line come to.
use Rattle.std.specs.Prelude.{◌≡◌, ℕ, List, Ok, Err}
use Rattle.std.specs.Option.{option_map}
use Rattle.ven_io.specs.Files.{Behaviour}
use Rattle.venice_run.specs.declared.ending.Ending.TheVariants.{Refused}
use Rattle.venice_run.specs.declared.refusal.Refusal.TheVariants.{Usage}
use Rattle.venice_run.specs.declared.request.Request.{Request}
use Rattle.venice_run.specs.declared.request.Request.TheVariants.{Run, Build, Eval, Check, Explain, Exec, Asm, Disasm}
use Rattle.venice_run.specs.Answer.{Answer}
use Rattle.venice_run.specs.Asm.{asm}
use Rattle.venice_run.specs.Build.{build}
use Rattle.venice_run.specs.Check.{check}
use Rattle.venice_run.specs.Disasm.{disasm}
use Rattle.venice_run.specs.Eval.{eval}
use Rattle.venice_run.specs.Exec.{exec}
use Rattle.venice_run.specs.Explain.{explain}
use Rattle.venice_run.specs.Run.{run}
use Rattle.venice_run.specs.Stage.{Stage, ◌>>=◌}
use Rattle.venice_run.specs.Words.{Spells}

-- the stages of each request
abbrev pub stages_of : Behaviour → Request → Stage Answer
stages_of files (Run program inputs image lanes spad grants) =
    run files program.now inputs.now image.now lanes spad (option_map (λ name. name.now) grants)
stages_of files (Build program image spad) = build files program.now image.now spad
stages_of files (Eval program inputs) = eval files program.now inputs.now
stages_of files (Check program spad) = check files program.now spad
stages_of files (Explain program) = explain files program.now
stages_of files (Exec image inputs resources grants) =
    exec files image.now inputs.now resources (option_map (λ name. name.now) grants)
stages_of files (Asm text image) = asm files text.now image.now
stages_of files (Disasm image) = disasm files image.now

-- the request that the words spell, or that they spell none
abbrev pub request_in : List (List ℕ) → Stage Request
request_in words (Ok request) = Spells words request
request_in words (Err ending) = ((request : Request) → ¬ Spells words request) × (ending ≡ Refused Usage)

-- the answer to the words, or their first refusal
abbrev pub answer_to : Behaviour → List (List ℕ) → Stage Answer
answer_to files words = do
  request ← request_in words
  stages_of files request
