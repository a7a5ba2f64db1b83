-- Inner: what each step of the code gives.
use Rattle.std.specs.Prelude.{◌≡◌, ◌≢◌, ◌⊎◌, ℕ, ◌+◌, ◌<◌, ◌≤◌, Bool, true, false, nat_le, List, [], ◌∷◌, length, Option, Some, None, Result, Ok, Err}
use Rattle.ven_io.specs.declared.token.TokenFault.{TokenFault}
use Rattle.ven_io.specs.declared.token.Token.{Token as TextToken}
use Rattle.array_syntax.specs.declared.frames.Frame.{Frame}
use Rattle.array_syntax.specs.declared.frames.Frame.TheVariants as frames
use Rattle.array_syntax.specs.declared.machine.Part.TheVariants as parts
use Rattle.array_syntax.specs.declared.machine.Phase.{Phase}
use Rattle.array_syntax.specs.declared.machine.Phase.TheVariants as phases
use Rattle.array_syntax.specs.declared.machine.Refusal.{Refusal}
use Rattle.array_syntax.specs.declared.machine.Refusal.TheVariants as refusals
use Rattle.array_syntax.specs.declared.program.Expr.{Expr}
use Rattle.array_syntax.specs.declared.program.Stmt.{Stmt}
use Rattle.array_syntax.specs.declared.word.Operator.{Operator}
use Rattle.array_syntax.specs.declared.word.Operator.TheVariants as operators
use Rattle.array_syntax.specs.declared.word.Token.{Token}
use Rattle.array_syntax.specs.declared.word.Word.{Word}
use Rattle.array_syntax.specs.declared.word.Word.TheVariants as words
use Rattle.array_syntax.specs.Faults.{last_of, IsNumberNext}
use Rattle.array_syntax.specs.Limits.{most_statements, most_nodes, most_height, height}
use Rattle.array_syntax.specs.Reading.{State, Begin, Input, AfterWord, AfterName, Want, Minus, Called, Have, WantNumber, SignedNumber, HaveNumber, Stuck, room, choose, one, two, reduce, tight, step, ending, depth_of, nodes_read}
use Rattle.array_syntax.specs.Table.{loosest, level}
use Rattle.array_syntax.specs.Tree.{tree_of}

-- the item is a bracket or a prefix sign
abbrev pub opens : Frame → Bool
opens (frames.Body done binding name at) = false
opens (frames.Binary at op a) = false
opens _ = true

-- the innermost open item ends before a sign of the level
abbrev pub Ends : ℕ → List Frame → Type 0
Ends l (frames.Prefix at sign ∷ stack) = Unit {0}
Ends l (frames.Binary at op a ∷ stack) = level op ≤ l
Ends l _ = ⊥

-- the node of an item that ends
abbrev pub ended : Frame → Expr → Expr
ended (frames.Prefix at sign) e = one at sign e
ended (frames.Binary at op a) e = two at op a e
ended _ e = e

-- the state has an expression of more than the height
abbrev pub IsHigher : ℕ → State → Type 0
IsHigher h (Have e stack) = h < height (tree_of e)
IsHigher h _ = ⊥

-- a node that ends before a token that binds at the level is too high
abbrev pub IsTooHigh : ℕ → State → Type 0
IsTooHigh last s = IsHigher most_height (tight last s)

-- what a step of the code gives: none where a node that ends is too high
abbrev pub Stepped : State → Token → Option Phase → (Phase → State) → Type 0
Stepped s t None after = IsTooHigh (last_of t.word) s
Stepped s t (Some next) after = (¬ IsTooHigh (last_of t.word) s) × (after next ≡ step s t)

-- the same of a binary sign behind an expression that isn't too high
abbrev pub SignBehind : Expr → List Frame → ℕ → Operator → Option Phase → (Phase → State) → Type 0
SignBehind e stack at op None after = IsTooHigh (level op) (Have e stack)
SignBehind e stack at op (Some next) after =
    (¬ (most_height < height (tree_of e)) → ¬ IsTooHigh (level op) (Have e stack))
    × (after next ≡ choose (nat_le (level op) (room stack)) (Want (frames.Binary at op e ∷ stack)) Stuck)

-- the word is a node's token, where the phase has been read
abbrev pub is_operand : Word → Bool
is_operand (words.Name name) = true
is_operand (words.Number n) = true
is_operand (words.Operator operators.Minus) = true
is_operand words.Tilde = true
is_operand (words.Call callee) = true
is_operand _ = false

abbrev pub is_sign : Word → Bool
is_sign (words.Operator op) = true
is_sign _ = false

abbrev pub is_prefixed : Word → Bool
is_prefixed (words.Number n) = false
is_prefixed word = is_operand word

abbrev pub begins_node : Phase → Word → Bool
begins_node phases.Want word = is_operand word
begins_node (phases.Minus at) word = is_prefixed word
begins_node (phases.Have e) word = is_sign word
begins_node _ word = false

abbrev pub and_one : Bool → ℕ → ℕ
and_one true n = n + 1
and_one false n = n

-- how many brackets and prefix signs are open in a state
abbrev pub depth_in : State → ℕ
depth_in (Want stack) = depth_of stack
depth_in (Minus at stack) = depth_of stack
depth_in (Called at callee stack) = depth_of stack
depth_in (Have e stack) = depth_of stack
depth_in (WantNumber call stack) = depth_of stack
depth_in (SignedNumber at call stack) = depth_of stack
depth_in (HaveNumber call stack) = depth_of stack
depth_in _ = 0

-- one item more is open than may be
abbrev pub IsDeep : State → Type 0
IsDeep (Want stack) = most_height < depth_of stack
IsDeep _ = ⊥

-- the statement that begins is one more than may be
abbrev pub IsCrowded : State → Type 0
IsCrowded (Input done parts.AfterWord) = most_statements ≤ length done
IsCrowded (AfterWord done binding) = most_statements ≤ length done
IsCrowded _ = ⊥

-- there is one node more than may be; at a `-` the next token is waited for
abbrev pub IsFull : State → Type 0
IsFull (Minus at stack) = ⊥
IsFull s = most_nodes < nodes_read s

-- the number of nodes in the state that the token leads to, where it leads to one
abbrev pub IsCounted : State → Token → ℕ → Type 0
IsCounted s t nodes = step s t ≢ Stuck → nodes ≡ nodes_read (step s t)

-- the state is stuck
abbrev pub IsStuck : State → Type 0
IsStuck Stuck = Unit {0}
IsStuck _ = ⊥

-- whether a state that a token led to may be, or why not
abbrev pub Judged : State → Option Refusal → Type 0
Judged s None = (¬ IsStuck s) × (¬ IsDeep s) × (¬ IsCrowded s) × (¬ IsFull s)
Judged s (Some refusals.Unexpected) = IsStuck s
Judged s (Some refusals.TooManyOpen) = (¬ IsStuck s) × IsDeep s
Judged s (Some refusals.TooManyStatements) = (¬ IsStuck s) × (¬ IsDeep s) × IsCrowded s
Judged s (Some refusals.TooManyNodes) = (¬ IsStuck s) × (¬ IsDeep s) × (¬ IsCrowded s) × IsFull s
Judged s (Some _) = ⊥

-- the state where it may be, or why not
abbrev pub Admitted : State → (Phase → State) → Result Phase Refusal → Type 0
Admitted s after (Ok next) = (after next ≡ s) × Judged s None
Admitted s after (Err refusal) = Judged s (Some refusal)

-- what a token leads to where it is taken, or why it isn't
abbrev pub Advanced : State → Token → (Phase → State) → Result Phase Refusal → Type 0
Advanced s t after (Ok next) =
    (¬ IsTooHigh (last_of t.word) s) × (after next ≡ step s t) × (step s t ≢ Stuck) × (¬ IsDeep (step s t))
    × (¬ IsCrowded (step s t)) × (¬ IsFull (step s t))
Advanced s t after (Err refusals.TooHigh) = IsTooHigh (last_of t.word) s
Advanced s t after (Err refusals.Unexpected) = (¬ IsTooHigh (last_of t.word) s) × (step s t ≡ Stuck)
Advanced s t after (Err refusals.TooManyOpen) =
    (¬ IsTooHigh (last_of t.word) s) × (step s t ≢ Stuck) × IsDeep (step s t)
Advanced s t after (Err refusals.TooManyStatements) =
    (¬ IsTooHigh (last_of t.word) s) × (step s t ≢ Stuck) × (¬ IsDeep (step s t)) × IsCrowded (step s t)
Advanced s t after (Err refusals.TooManyNodes) =
    (¬ IsTooHigh (last_of t.word) s) × (step s t ≢ Stuck) × (¬ IsDeep (step s t)) × (¬ IsCrowded (step s t))
    × IsFull (step s t)
Advanced s t after (Err refusals.Memory) = Unit {0}

-- what there is where no token stands: the program, or why there is none
abbrev pub Finished : State → Result (List Stmt) Refusal → Type 0
Finished s (Ok p) = s ≡ Begin p
Finished s (Err refusals.TooHigh) = IsTooHigh loosest s
Finished s (Err refusals.Unexpected) = (¬ IsTooHigh loosest s) × (ending s ≡ None)
Finished s (Err refusals.Memory) = Unit {0}
Finished s (Err _) = ⊥

-- the prefix sign at the state's end is one open item more than may be
abbrev pub IsSignDeep : State → Type 0
IsSignDeep (Minus at stack) = most_height < depth_of stack + 1
IsSignDeep _ = ⊥

-- the `-` at the state's end is one node more than may be
abbrev pub IsSignFull : State → Type 0
IsSignFull (Minus at stack) = most_nodes < nodes_read (Minus at stack)
IsSignFull _ = ⊥

-- where the `-` at the state's end stands
abbrev pub sign_place : State → ℕ
sign_place (Minus at stack) = at
sign_place _ = 0

-- whether a `-` at the state's end is refused, when what stands next is known
abbrev pub Settled : State → Result TextToken TokenFault → Option Refusal → Type 0
Settled s next None = (IsNumberNext next ⊎ (¬ IsSignDeep s)) × (¬ IsSignFull s)
Settled s next (Some refusals.TooManyOpen) = (¬ IsNumberNext next) × IsSignDeep s
Settled s next (Some refusals.TooManyNodes) = (IsNumberNext next ⊎ (¬ IsSignDeep s)) × IsSignFull s
Settled s next (Some _) = ⊥
