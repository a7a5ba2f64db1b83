-- The words of the command line, and the request that they spell.
use Rattle.std.specs.Prelude.{◌≡◌, ℕ, ◌≤◌, List, [], ◌∷◌, map, codes, decimal, String}
use Rattle.std.specs.Option.{option_map, option_to_list, is_some}
use Rattle.std.specs.String.{string_bytes}
use Rattle.std.specs.declared.alloc.Global.{Global}
use Rattle.ven_base.specs.Limits.{cell_limit}
use Rattle.venice_run.specs.declared.command.Command.{Command}
use Rattle.venice_run.specs.declared.command.Command.TheVariants as command
use Rattle.venice_run.specs.declared.request.Request.{Request}
use Rattle.venice_run.specs.declared.request.Request.TheVariants.{Run, Build, Eval, Check, Explain, Exec, Asm, Disasm}
use Rattle.venice_run.specs.declared.request.Resources.{Resources}
use Rattle.venice_machine.specs.Run.{step_limit}

-- the bytes of each word
abbrev pub texts_of : List (String Global) → List (List ℕ)
texts_of words = map string_bytes words

-- the greatest number of lanes of a machine
abbrev pub most_lanes : ℕ
most_lanes = 4

-- from 1 to the greatest
abbrev pub IsUpTo : ℕ → ℕ → Type 0
IsUpTo most n = (1 ≤ n) × (n ≤ most)

-- the numbers of what a run may use, in range
pub record AreInRange (resources : Resources) : Type 0 where
  pub lanes : IsUpTo most_lanes resources.lanes
  pub spad : IsUpTo cell_limit resources.spad
  pub budget : IsUpTo step_limit resources.budget

-- the words of each request: names of files as they are, numbers as they are printed
abbrev pub words_of : Request → List (List ℕ)
words_of (Run program inputs image lanes spad grants) =
    codes "run" ∷ program.now ∷ inputs.now ∷ image.now ∷ decimal lanes ∷ decimal spad
    ∷ option_to_list (option_map (λ name. name.now) grants)
words_of (Build program image spad) = codes "build" ∷ program.now ∷ image.now ∷ decimal spad ∷ []
words_of (Eval program inputs) = codes "eval" ∷ program.now ∷ inputs.now ∷ []
words_of (Check program spad) = codes "check" ∷ program.now ∷ decimal spad ∷ []
words_of (Explain program) = codes "explain" ∷ program.now ∷ []
words_of (Exec image inputs resources grants) =
    codes "exec" ∷ image.now ∷ inputs.now ∷ decimal resources.lanes ∷ decimal resources.spad ∷ decimal resources.budget
    ∷ option_to_list (option_map (λ name. name.now) grants)
words_of (Asm text image) = codes "asm" ∷ text.now ∷ image.now ∷ []
words_of (Disasm image) = codes "disasm" ∷ image.now ∷ []

-- the numbers of each request that are in range
abbrev pub IsInRange : Request → Type 0
IsInRange (Run program inputs image lanes spad grants) = IsUpTo most_lanes lanes × IsUpTo cell_limit spad
IsInRange (Build program image spad) = IsUpTo cell_limit spad
IsInRange (Check program spad) = IsUpTo cell_limit spad
IsInRange (Exec image inputs resources grants) = AreInRange resources
IsInRange _ = Unit {0}

-- the words spell the request
pub record Spells (words : List (List ℕ)) (request : Request) : Type 0 where
  pub words_are : words ≡ words_of request
  pub in_range : IsInRange request

-- the command of each request
abbrev pub command_of : Request → Command
command_of (Run program inputs image lanes spad grants) = command.Run lanes spad (is_some grants)
command_of (Build program image spad) = command.Build spad
command_of (Eval program inputs) = command.Eval
command_of (Check program spad) = command.Check spad
command_of (Explain program) = command.Explain
command_of (Exec image inputs resources grants) =
    command.Exec resources.lanes resources.spad resources.budget (is_some grants)
command_of (Asm text image) = command.Asm
command_of (Disasm image) = command.Disasm

-- the words spell a request of this command
pub record SpellsCommand (words : List (List ℕ)) (command : Command) : Type 0 where
  pub request : Request
  pub spells : Spells words request
  pub is : command ≡ command_of request
