-- Inner: what the parser has read of a text, and what it knows of it.
use Rattle.std.specs.Prelude.{◌≡◌, ◌≢◌, ◌⊎◌, ℕ, ◌+◌, ◌<◌, ◌≤◌, List, [], ◌∷◌, ◌++◌, length, Option, Some, None, Result, Ok, Err}
use Rattle.ven_io.specs.declared.token.TokenFault.{TokenFault}
use Rattle.ven_io.specs.declared.token.TokenFault.TheVariants as token_faults
use Rattle.ven_io.specs.declared.token.TokenKind.{TokenKind}
use Rattle.ven_io.specs.declared.token.TokenKind.TheVariants as token_kinds
use Rattle.ven_io.specs.declared.token.Token.{Token as TextToken}
use Rattle.ven_io.specs.Token.{NextIs}
use Rattle.ven_io.specs.Tokens.{TokensTo, IsKept, IsBehind}
use Rattle.array_syntax.specs.declared.machine.Refusal.{Refusal}
use Rattle.array_syntax.specs.declared.machine.Refusal.TheVariants as refusals
use Rattle.array_syntax.specs.declared.fault.ParseFault.{ParseFault}
use Rattle.array_syntax.specs.declared.fault.ParseFault.TheVariants as answers
use Rattle.array_syntax.specs.declared.parsing.Parsing.{Parsing}
use Rattle.array_syntax.specs.declared.parsing.Turn.{Turn}
use Rattle.array_syntax.specs.declared.parsing.Turn.TheVariants as turns
use Rattle.array_syntax.specs.declared.program.Program.{Program}
use Rattle.array_syntax.specs.declared.word.Token.{Token}
use Rattle.array_syntax.specs.declared.word.Word.{Word}
use Rattle.array_syntax.specs.Faults.{Cause, TooManyOpen, TooManyNodes, Holds, seen, IsAccepted, IsAnswered}
use Rattle.array_syntax.specs.Grammar.{token}
use Rattle.array_syntax.specs.Limits.{most_height, most_nodes, KeepsLimits}
use Rattle.array_syntax.specs.Reading.{State, Begin, Minus, Stuck, run, state_of, nodes_read, ending}
use Rattle.array_syntax.specs.Table.{loosest}
use Rattle.array_syntax.specs.Steps.{depth_in, and_one, begins_node, Advanced, IsFull, IsTooHigh, Settled, sign_place}
use Rattle.array_syntax.specs.Words.{language}

-- what stands at a place or behind it, past line ends
pub record StandsFrom (text : List ℕ) (from : ℕ) (next : Result TextToken TokenFault) : Type 0 where
  pub place : ℕ
  pub passed : TokensTo language text from [] place
  pub next_is : NextIs text place next
  pub kept : IsKept language next

-- the last token is a `-` whose open item or node is judged when the next token is known
abbrev pub IsPending : State → List Token → Cause → Type 0
IsPending (Minus at stack) [] TooManyOpen = Unit {0}
IsPending (Minus at stack) [] TooManyNodes = Unit {0}
IsPending _ _ _ = ⊥

-- no token has a fault
abbrev pub IsClean : List ℕ → List Token → State → Type 0
IsClean text tokens s =
    (us rest : List Token) (own : Token) (next : Result TextToken TokenFault) (cause : Cause)
    → tokens ≡ us ++ own ∷ rest → IsBehind language text us next → seen text next ≡ Some own
    → Holds text us next cause → IsPending s rest cause

-- the text is read up to a place, to a state with so many nodes
pub record HasRead (text : List ℕ) (from : ℕ) (s : State) (count : ℕ) : Type 0 where
  pub tokens : List Token
  pub read : TokensTo language text 0 tokens from
  pub within : from ≤ length text
  pub state : s ≡ run (Begin []) tokens
  pub goes : s ≢ Stuck
  pub counted : count ≡ nodes_read s
  pub most : count ≤ most_nodes + 1
  pub few : ¬ IsFull s
  pub low : depth_in s ≤ most_height
  pub clean : IsClean text tokens s

-- the same, where what stands next is known, and a `-` at the end is judged
pub record IsReady (text : List ℕ) (from : ℕ) (s : State) (count : ℕ)
    (next : Result TextToken TokenFault) : Type 0 where
  pub has : HasRead text from s count
  pub stands : StandsFrom text from next
  pub settled : Settled s next None

abbrev pub IsParsing : List ℕ → Parsing → Type 0
IsParsing text p = HasRead text p.from (state_of p.phase p.stack) p.nodes

-- what a turn gives: more is read, or the program
abbrev pub Turned : List ℕ → ℕ → Turn → Type 0
Turned text from (turns.More next) = IsParsing text next × (from < next.from)
Turned text from (turns.Done program) = IsAccepted text program × KeepsLimits program

-- what is answered at a token that isn't taken
abbrev pub fault_at : Refusal → ℕ → ParseFault
fault_at refusals.TooHigh at = answers.TooDeep at
fault_at refusals.Unexpected at = answers.Unexpected at
fault_at refusals.TooManyOpen at = answers.TooDeep at
fault_at refusals.TooManyStatements at = answers.TooManyStatements at
fault_at refusals.TooManyNodes at = answers.TooManyNodes at
fault_at refusals.Memory at = answers.Memory

-- what taking a word gives: what has been read then, or the answer to why it isn't taken
abbrev pub Takes : Parsing → TextToken → Word → Result Parsing ParseFault → Type 0
Takes p raw word (Ok next) =
    Advanced (state_of p.phase p.stack) (token raw.start word) (λ phase. state_of phase next.stack) (Ok next.phase)
    × (next.nodes ≡ and_one (begins_node p.phase word) p.nodes) × (next.from ≡ raw.end)
Takes p raw word (Err fault) =
    (refusal : Refusal)
    × Advanced (state_of p.phase p.stack) (token raw.start word) (λ phase. Stuck) (Err refusal)
    × (fault ≡ fault_at refusal raw.start)

-- what judging a `-` at the end of what has been read gives: nothing, or the answer to why it is refused
abbrev pub Signed : State → Result TextToken TokenFault → Option ParseFault → Type 0
Signed s next None = Settled s next None
Signed s next (Some fault) =
    (refusal : Refusal) × Settled s next (Some refusal) × (fault ≡ fault_at refusal (sign_place s))

-- and at one that is too long or too large
abbrev pub unread_at : TokenKind → ℕ → ParseFault
unread_at token_kinds.Name at = answers.NameTooLong at
unread_at _ at = answers.NumberTooLarge at

-- what is answered at a byte that begins no token
abbrev pub Stopped : State → ℕ → ParseFault → Type 0
Stopped s at (answers.TooDeep place) = (place ≡ at) × IsTooHigh loosest s
Stopped s at (answers.Unexpected place) = (place ≡ at) × (¬ IsTooHigh loosest s)
Stopped s at answers.Memory = Unit {0}
Stopped s at _ = ⊥

-- what is answered where no token stands
abbrev pub Blocked : State → TokenFault → ParseFault → Type 0
Blocked s (token_faults.NotAscii at) answer = answer ≡ answers.NotAscii at
Blocked s (token_faults.Unexpected at) answer = Stopped s at answer

-- what is answered at the text's end
abbrev pub Ended : State → ℕ → Result Turn ParseFault → Type 0
Ended s at (Ok (turns.Done program)) = s ≡ Begin program.stmts
Ended s at (Ok (turns.More next)) = ⊥
Ended s at (Err (answers.TooDeep place)) = (place ≡ at) × IsTooHigh loosest s
Ended s at (Err (answers.Unexpected place)) = (place ≡ at) × (¬ IsTooHigh loosest s) × (ending s ≡ None)
Ended s at (Err answers.Memory) = Unit {0}
Ended s at (Err _) = ⊥
