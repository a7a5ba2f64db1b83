-- The faults of a text: each cause, with its place and its rank.
use Rattle.std.specs.Prelude.{◌≡◌, ◌⊎◌, ℕ, ◌+◌, ◌<◌, ◌≤◌, List, [], ◌∷◌, ◌++◌, length, Option, Some, None, Result, Ok, Err}
use Rattle.ven_io.specs.declared.token.TokenFault.{TokenFault}
use Rattle.ven_io.specs.declared.token.TokenFault.TheVariants as token_faults
use Rattle.ven_io.specs.declared.token.TokenKind.TheVariants as token_kinds
use Rattle.ven_io.specs.declared.token.Token.{Token as TextToken}
use Rattle.ven_io.specs.Token.{bytes_of}
use Rattle.ven_io.specs.Number.{value_of, number_limit}
use Rattle.ven_io.specs.Reader.{Begins}
use Rattle.ven_io.specs.Tokens.{Language, IsBehind, place_of}
use Rattle.ven_base.specs.First.{IsFirst}
use Rattle.ven_base.specs.Name.{name_limit}
use Rattle.array_syntax.specs.declared.call.Earlier.{Earlier}
use Rattle.array_syntax.specs.declared.call.Earlier.TheVariants as earlier
use Rattle.array_syntax.specs.declared.fault.ParseFault.{ParseFault}
use Rattle.array_syntax.specs.declared.fault.ParseFault.TheVariants as answers
use Rattle.array_syntax.specs.declared.program.Expr.{Expr}
use Rattle.array_syntax.specs.declared.program.Program.{Program}
use Rattle.array_syntax.specs.declared.program.Stmt.{Stmt}
use Rattle.array_syntax.specs.declared.word.Binding.{Binding}
use Rattle.array_syntax.specs.declared.word.Callee.{Callee}
use Rattle.array_syntax.specs.declared.word.Operator.{Operator}
use Rattle.array_syntax.specs.declared.word.Operator.TheVariants as operators
use Rattle.array_syntax.specs.declared.word.Token.{Token}
use Rattle.array_syntax.specs.declared.word.Word.{Word}
use Rattle.array_syntax.specs.declared.word.Word.TheVariants as words
use Rattle.array_syntax.specs.Grammar.{token, minus, IsNumber, IsExpr, IsBegun, AreStatements}
use Rattle.array_syntax.specs.Limits.{most_statements, most_nodes, most_height, nodes, program_nodes, height}
use Rattle.array_syntax.specs.Table.{loosest, level, left_level, right_level}
use Rattle.array_syntax.specs.Tree.{tree_of}
use Rattle.array_syntax.specs.Words.{language}

-- some sentence of the grammar, whatever its depth, nodes and statements, begins with these tokens
abbrev pub BeginsSentence : List Token → Type 0
BeginsSentence tokens = Begins AreStatements tokens

-- the nodes of the operands before
abbrev pub nodes_before : Earlier → ℕ
nodes_before earlier.Nothing = 0
nodes_before (earlier.One a) = nodes (tree_of a)
nodes_before (earlier.Two a b) = nodes (tree_of a) + nodes (tree_of b)

-- behind these tokens an expression of the level or a tighter one may begin, with this word; it is inside so many open
-- brackets and prefix signs, and so many nodes of the program have their token before it
pub data MayBegin : ℕ → ℕ → ℕ → List Token → Word → Type 0 where
  AtValue : (word_at at sign : ℕ) (binding : Binding) (name : List ℕ) (before : List Token) (p : List Stmt)
      (word : Word) → AreStatements before p
      → MayBegin loosest 0 (program_nodes p) (before ++ token word_at (words.Bind binding) ∷ token at (words.Name name)
      ∷ token sign words.Assign ∷ []) word
  InBrackets : (l depth count at : ℕ) (before : List Token) (word : Word) → MayBegin l depth count before words.Open
      → MayBegin loosest (depth + 1) count (before ++ token at words.Open ∷ []) word
  BehindFlip : (l depth count at : ℕ) (before : List Token) (word : Word) → MayBegin l depth count before words.Tilde
      → MayBegin 0 (depth + 1) (count + 1) (before ++ token at words.Tilde ∷ []) word
  BehindNegate : (l depth count at : ℕ) (before : List Token) (word : Word) → ¬ IsNumber word
      → MayBegin l depth count before minus → MayBegin 0 (depth + 1) (count + 1) (before ++ token at minus ∷ []) word
  BehindSign : (l depth count at : ℕ) (op : Operator) (before rest : List Token) (first : Token) (a : Expr)
      (word : Word) → MayBegin l depth count before first.word → level op ≤ l
      → IsExpr (left_level op) (first ∷ rest) a
      → MayBegin (right_level op) depth (count + nodes (tree_of a) + 1) (before ++ (first ∷ rest
      ++ token at (words.Operator op) ∷ [])) word
  InCall : (l depth count at : ℕ) (callee : Callee) (operands : Earlier) (before begun : List Token) (word : Word)
      → MayBegin l depth count before (words.Call callee) → IsBegun at callee operands begun
      → MayBegin loosest (depth + 1) (count + nodes_before operands + 1) (before ++ begun) word

-- the tokens end with this expression, and no binary sign up to the level takes its last operand away
pub record EndsWith (tokens : List Token) (last : ℕ) (e : Expr) : Type 0 where
  pub outer : List Token
  pub first : Token
  pub rest : List Token
  pub room : ℕ
  pub depth : ℕ
  pub count : ℕ
  pub own_level : ℕ
  pub all : tokens ≡ outer ++ first ∷ rest
  pub begins : MayBegin room depth count outer first.word
  pub expr : IsExpr own_level (first ∷ rest) e
  pub fits : own_level ≤ room
  pub up_to : own_level ≤ last

-- a node that is too high ends there
abbrev pub EndsTooHigh : List Token → ℕ → Type 0
EndsTooHigh tokens last = (e : Expr) × EndsWith tokens last e × (most_height < height (tree_of e))

-- the level at which what stands next binds: a binary sign at its own, all else at the loosest
abbrev pub last_of : Word → ℕ
last_of (words.Operator op) = level op
last_of _ = loosest

abbrev pub last_at : Option Token → ℕ
last_at (Some t) = last_of t.word
last_at None = loosest

-- what stands next is a number
abbrev pub IsNumberNext : Result TextToken TokenFault → Type 0
IsNumberNext (Ok next) = next.kind ≡ token_kinds.Number
IsNumberNext (Err fault) = ⊥

-- the token behind these opens a bracket or is a prefix sign, where so many are open
pub data Opens (text : List ℕ) : ℕ → List Token → Token → Type 0 where
  Bracket : (l depth count at : ℕ) (before : List Token) → MayBegin l depth count before words.Open
      → Opens text depth before (token at words.Open)
  Flip : (l depth count at : ℕ) (before : List Token) → MayBegin l depth count before words.Tilde
      → Opens text depth before (token at words.Tilde)
  Negate : (l depth count at : ℕ) (before : List Token) (next : Result TextToken TokenFault)
      → MayBegin l depth count before minus → IsBehind language text (before ++ token at minus ∷ []) next
      → ¬ IsNumberNext next → Opens text depth before (token at minus)
  Call : (l depth count place at : ℕ) (callee : Callee) (before : List Token)
      → MayBegin l depth count before (words.Call callee)
      → Opens text depth (before ++ token place (words.Call callee) ∷ []) (token at words.Open)

-- the word begins an operand, and is its node's token
abbrev pub IsOperand : Word → Type 0
IsOperand (words.Name name) = Unit {0}
IsOperand (words.Number n) = Unit {0}
IsOperand (words.Operator operators.Minus) = Unit {0}
IsOperand words.Tilde = Unit {0}
IsOperand (words.Call callee) = Unit {0}
IsOperand _ = ⊥

-- the token behind these is a node's, and so many nodes have theirs before
pub data IsNode : ℕ → List Token → Token → Type 0 where
  Operand : (l depth count : ℕ) (before : List Token) (t : Token) → MayBegin l depth count before t.word
      → IsOperand t.word → IsNode count before t
  Sign : (l depth count at : ℕ) (op : Operator) (before rest : List Token) (first : Token) (a : Expr)
      → MayBegin l depth count before first.word → level op ≤ l → IsExpr (left_level op) (first ∷ rest) a
      → IsNode (count + nodes (tree_of a)) (before ++ first ∷ rest) (token at (words.Operator op))

-- the word begins a statement
abbrev pub BeginsStatement : Word → Type 0
BeginsStatement words.Input = Unit {0}
BeginsStatement (words.Bind binding) = Unit {0}
BeginsStatement _ = ⊥

-- the program can't go on with what stands there: a byte that begins no token, the text's end, or a token
pub data IsUnexpected (text : List ℕ) (tokens : List Token) : Result TextToken TokenFault → Type 0 where
  NoToken : (at : ℕ) → IsUnexpected text tokens (Err (token_faults.Unexpected at))
  NoEnd : (next : TextToken) → next.kind ≡ token_kinds.End → ((p : List Stmt) → ¬ AreStatements tokens p)
      → IsUnexpected text tokens (Ok next)
  NoSentence : (next : TextToken) (t : Token) → language.token_of next (bytes_of text next) ≡ Some t
      → ¬ BeginsSentence (tokens ++ t ∷ []) → IsUnexpected text tokens (Ok next)

-- a byte above 127 stands there
abbrev pub IsNotAscii : Result TextToken TokenFault → Type 0
IsNotAscii (Err (token_faults.NotAscii at)) = Unit {0}
IsNotAscii _ = ⊥

abbrev pub IsLongName : List ℕ → Result TextToken TokenFault → Type 0
IsLongName text (Ok next) = (next.kind ≡ token_kinds.Name) × (name_limit < length (bytes_of text next))
IsLongName text (Err fault) = ⊥

abbrev pub IsLargeNumber : List ℕ → Result TextToken TokenFault → Type 0
IsLargeNumber text (Ok next) = (next.kind ≡ token_kinds.Number) × (number_limit < value_of (bytes_of text next))
IsLargeNumber text (Err fault) = ⊥

-- what stands next, as a token of the language
abbrev pub seen : List ℕ → Result TextToken TokenFault → Option Token
seen text (Ok next) = language.token_of next (bytes_of text next)
seen text (Err fault) = None

-- why a text has a fault
pub data Cause : Type 0 where
  NotAscii : Cause
  NameTooLong : Cause
  NumberTooLarge : Cause
  TooHigh : Cause
  Unexpected : Cause
  TooManyOpen : Cause
  TooManyStatements : Cause
  TooManyNodes : Cause

-- the order of causes at one place
abbrev pub rank_of : Cause → ℕ
rank_of NotAscii = 1
rank_of NameTooLong = 2
rank_of NumberTooLarge = 3
rank_of TooHigh = 4
rank_of Unexpected = 5
rank_of TooManyOpen = 6
rank_of TooManyStatements = 7
rank_of TooManyNodes = 8

-- the cause holds of what stands behind the tokens
abbrev pub Holds : List ℕ → List Token → Result TextToken TokenFault → Cause → Type 0
Holds text tokens next NotAscii = IsNotAscii next
Holds text tokens next NameTooLong = IsLongName text next
Holds text tokens next NumberTooLarge = IsLargeNumber text next
Holds text tokens next TooHigh = EndsTooHigh tokens (last_at (seen text next))
Holds text tokens next Unexpected = IsUnexpected text tokens next
Holds text tokens next TooManyOpen =
    (t : Token) × (seen text next ≡ Some t) × (depth : ℕ) × Opens text depth tokens t × (most_height ≤ depth)
Holds text tokens next TooManyStatements =
    (t : Token) × (seen text next ≡ Some t) × BeginsStatement t.word × (p : List Stmt) × AreStatements tokens p
    × (most_statements ≤ length p)
Holds text tokens next TooManyNodes =
    (t : Token) × (seen text next ≡ Some t) × (count : ℕ) × IsNode count tokens t × (most_nodes ≤ count)

-- a fault: why, and the place of the token or byte
pub record SyntaxFault : Type 0 where
  pub cause : Cause
  pub at : ℕ

abbrev pub rank : SyntaxFault → ℕ
rank fault = rank_of fault.cause

-- the text has the fault
pub record IsFault (text : List ℕ) (fault : SyntaxFault) : Type 0 where
  pub tokens : List Token
  pub next : Result TextToken TokenFault
  pub behind : IsBehind language text tokens next
  pub place : fault.at ≡ place_of next
  pub cause : Holds text tokens next fault.cause

-- what is answered at a fault
abbrev pub answer_of : Cause → ℕ → ParseFault
answer_of NotAscii at = answers.NotAscii at
answer_of NameTooLong at = answers.NameTooLong at
answer_of NumberTooLarge at = answers.NumberTooLarge at
answer_of TooHigh at = answers.TooDeep at
answer_of Unexpected at = answers.Unexpected at
answer_of TooManyOpen at = answers.TooDeep at
answer_of TooManyStatements at = answers.TooManyStatements at
answer_of TooManyNodes at = answers.TooManyNodes at

-- the text's tokens are the program's statements
pub record Denotes (text : List ℕ) (program : Program) : Type 0 where
  pub tokens : List Token
  pub end : TextToken
  pub is_end : end.kind ≡ token_kinds.End
  pub behind : IsBehind language text tokens (Ok end)
  pub statements : AreStatements tokens program.stmts

-- the text has no fault, and denotes the program
pub record IsAccepted (text : List ℕ) (program : Program) : Type 0 where
  pub denotes : Denotes text program
  pub faultless : (fault : SyntaxFault) → ¬ IsFault text fault

-- the answer is that of the text's first fault; out of memory is no fault of the text
pub record IsRefused (text : List ℕ) (answer : ParseFault) : Type 0 where
  pub fault : SyntaxFault
  pub first : IsFirst (IsFault text) (λ f. f.at) rank fault
  pub is : answer ≡ answer_of fault.cause fault.at

abbrev pub IsAnswered : List ℕ → ParseFault → Type 0
IsAnswered text answers.Memory = Unit {0}
IsAnswered text answer = IsRefused text answer
