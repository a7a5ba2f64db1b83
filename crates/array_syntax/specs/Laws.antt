-- What the definitions of the grammar settle.
use Rattle.std.specs.Prelude.{◌≡◌, ℕ, List}
use Rattle.array_syntax.specs.declared.program.Program.{Program}
use Rattle.array_syntax.specs.declared.program.Stmt.{Stmt}
use Rattle.array_syntax.specs.declared.word.Token.{Token}
use Rattle.array_syntax.specs.Faults.{Denotes}
use Rattle.array_syntax.specs.Grammar.{AreStatements}

-- tokens are one list of statements at most
abbrev pub HasOneReading : Type 0
HasOneReading =
    (tokens : List Token) (one other : List Stmt) → AreStatements tokens one → AreStatements tokens other → one ≡ other

-- a text denotes one program at most
abbrev pub HasOneProgram : Type 0
HasOneProgram = (text : List ℕ) (one other : Program) → Denotes text one → Denotes text other → one ≡ other
