-- The program under a name: its text, parsed and checked.
use Rattle.std.specs.Prelude.{ℕ, List, Result, Ok, Err}
use Rattle.ven_io.specs.Files.{Behaviour}
use Rattle.array_syntax.specs.declared.program.Program.{Program}
use Rattle.array_syntax.specs.declared.program.Stmt.{Stmt}
use Rattle.array_syntax.specs.declared.fault.ParseFault.{ParseFault}
use Rattle.array_syntax.specs.Faults as syntax
use Rattle.shape_check.specs.declared.fault.CheckFault.{CheckFault}
use Rattle.shape_check.specs.Statement.{Statement}
use Rattle.shape_check.specs.Typing.{IsProgramTyping}
use Rattle.shape_check.specs.Faults as rules
use Rattle.venice_run.specs.declared.refusal.Kind.TheVariants as kind
use Rattle.venice_run.specs.Endings.{parse_ending, check_ending}
use Rattle.venice_run.specs.Reading.{loads}
use Rattle.venice_run.specs.Stage.{Stage, ◌>>=◌, step}

-- the program that the text denotes, or the text's first fault
abbrev pub Parses : List ℕ → Result Program ParseFault → Type 0
Parses text (Ok program) = syntax.IsAccepted text program
Parses text (Err fault) = syntax.IsAnswered text fault

-- the checked program of these statements, or the first rule that they break
abbrev pub Checks : List Stmt → Result (List Statement) CheckFault → Type 0
Checks stmts (Ok program) = IsProgramTyping stmts program
Checks stmts (Err fault) = rules.IsAnswered stmts fault

-- the checked program that the text is
unfoldable pub program_in : List ℕ → Stage (List Statement)
program_in text = do
  program ← step parse_ending (Parses text)
  step check_ending (Checks program.stmts)

-- the checked program under the name
unfoldable pub program_under : Behaviour → List ℕ → Stage (List Statement)
program_under files name = do
  text ← loads files name kind.Program
  program_in text
