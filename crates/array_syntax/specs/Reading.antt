-- Inner: how the parser goes from token to token, with a stack of open items.
use Rattle.std.specs.Prelude.{◌≡◌, ℕ, ◌+◌, ◌<◌, ◌≤◌, ℤ, pos, neg_ℤ, Bool, true, false, nat_le, nat_lt, List, [], ◌∷◌, ◌++◌, length, Option, Some, None}
use Rattle.ven_io.specs.Reader.{Reader, run_from}
use Rattle.ven_base.specs.declared.ops.Op1.{Op1}
use Rattle.ven_base.specs.declared.ops.Op1.TheVariants as unary
use Rattle.array_syntax.specs.declared.call.Earlier.{Earlier}
use Rattle.array_syntax.specs.declared.call.Earlier.TheVariants as earlier
use Rattle.array_syntax.specs.declared.call.MapCall.{MapCall}
use Rattle.array_syntax.specs.declared.call.Number.{Number}
use Rattle.array_syntax.specs.declared.frames.Frame.{Frame}
use Rattle.array_syntax.specs.declared.frames.Frame.TheVariants as frames
use Rattle.array_syntax.specs.declared.frames.Sign.{Sign}
use Rattle.array_syntax.specs.declared.frames.Sign.TheVariants as prefixes
use Rattle.array_syntax.specs.declared.machine.Phase.{Phase}
use Rattle.array_syntax.specs.declared.machine.Phase.TheVariants as phases
use Rattle.array_syntax.specs.declared.machine.Part.{Part}
use Rattle.array_syntax.specs.declared.machine.Part.TheVariants as parts
use Rattle.array_syntax.specs.declared.program.Expr.{Expr}
use Rattle.array_syntax.specs.declared.program.ExprKind.{ExprKind}
use Rattle.array_syntax.specs.declared.program.ExprKind.TheVariants as kinds
use Rattle.array_syntax.specs.declared.program.Stmt.{Stmt}
use Rattle.array_syntax.specs.declared.program.Stmt.TheVariants as stmts
use Rattle.array_syntax.specs.declared.word.Binding.{Binding}
use Rattle.array_syntax.specs.declared.word.Callee.{Callee}
use Rattle.array_syntax.specs.declared.word.Callee.TheVariants as callees
use Rattle.array_syntax.specs.declared.word.Operator.{Operator}
use Rattle.array_syntax.specs.declared.word.Operator.TheVariants as operators
use Rattle.array_syntax.specs.declared.word.Token.{Token}
use Rattle.array_syntax.specs.declared.word.Word.{Word}
use Rattle.array_syntax.specs.declared.word.Word.TheVariants as words
use Rattle.array_syntax.specs.Faults.{nodes_before}
use Rattle.array_syntax.specs.Grammar.{expr, count, followed, bound}
use Rattle.array_syntax.specs.Limits.{nodes, program_nodes}
use Rattle.array_syntax.specs.Table.{loosest, level, left_level, right_level, operation, operands, numbers, takes_sign, call_of, map_of}
use Rattle.array_syntax.specs.Tree.{tree_of}

-- what has just been read, with the statements before
pub data State : Type 0 where
  Begin : (done : List Stmt) → State
  Input : (done : List Stmt) (part : Part) → State
  AfterWord : (done : List Stmt) (binding : Binding) → State
  AfterName : (done : List Stmt) (binding : Binding) (name : List ℕ) (at : ℕ) → State
  Want : (stack : List Frame) → State
  Minus : (at : ℕ) (stack : List Frame) → State
  Called : (at : ℕ) (callee : Callee) (stack : List Frame) → State
  Have : (e : Expr) (stack : List Frame) → State
  WantNumber : (call : MapCall) (stack : List Frame) → State
  SignedNumber : (at : ℕ) (call : MapCall) (stack : List Frame) → State
  HaveNumber : (call : MapCall) (stack : List Frame) → State
  Stuck : State

-- the binary sign that a word is
abbrev pub op_of : Word → Option Operator
op_of (words.Operator op) = Some op
op_of _ = None

-- the loosest level of an expression that may stand there
abbrev pub room : List Frame → ℕ
room (frames.Prefix at sign ∷ stack) = 0
room (frames.Binary at op a ∷ stack) = right_level op
room _ = loosest

abbrev pub choose : {A : Type 0} → Bool → A → A → A
choose true a b = a
choose false a b = b

-- the operation of a prefix sign
abbrev pub prefix_operation : Sign → Op1
prefix_operation prefixes.Negate = unary.Neg
prefix_operation prefixes.Flip = unary.Not

abbrev pub one : ℕ → Sign → Expr → Expr
one at sign e = expr at (kinds.One (prefix_operation sign) e)

abbrev pub two : ℕ → Operator → Expr → Expr → Expr
two at op a b = expr at (kinds.Two (operation op) a b)

-- the nodes up to a level that have ended are made
abbrev pub reduce : ℕ → Expr → List Frame → State
reduce l e [] = Have e []
reduce l e (frames.Prefix at sign ∷ stack) = reduce l (one at sign e) stack
reduce l e (frames.Binary at op a ∷ stack) =
    choose (nat_le (level op) l) (reduce l (two at op a e) stack) (Have e (frames.Binary at op a ∷ stack))
reduce l e (frame ∷ stack) = Have e (frame ∷ stack)

abbrev pub tight : ℕ → State → State
tight l (Have e stack) = reduce l e stack
tight l s = s

-- the level up to which nodes end before a word, and the word can take them as operand
abbrev pub reach_of : Option Operator → ℕ
reach_of (Some op) = left_level op
reach_of None = loosest

-- the expression of this form there, if there is one
abbrev pub placed : ℕ → Option ExprKind → Option Expr
placed at (Some kind) = Some (expr at kind)
placed at None = None

abbrev pub made : Option Expr → List Frame → State
made (Some e) stack = Have e stack
made None stack = Stuck

-- a comma behind the last operand of a call that takes numbers
abbrev pub mapped : ℕ → Callee → Earlier → Expr → List Frame → State
mapped at callee earlier.Nothing e stack =
    choose (nat_lt 0 (numbers callee))
    (WantNumber (record { at = at; callee = callee; of = e; values = [] }) stack) Stuck
mapped at callee _ e stack = Stuck

-- a comma behind an operand of a call
abbrev pub argued : ℕ → Callee → Earlier → Expr → List Frame → State
argued at callee before e stack =
    choose (nat_lt (count before + 1) (operands callee))
    (Want (frames.Call at callee (followed before e) ∷ stack)) (mapped at callee before e stack)

-- a word that isn't a binary sign, behind an expression
abbrev pub close : Word → Expr → List Frame → State
close words.Close e (frames.Bracket ∷ stack) = Have e stack
close words.Close e (frames.Call at callee before ∷ stack) = made (placed at (call_of callee before e)) stack
close words.Comma e (frames.Call at callee before ∷ stack) = argued at callee before e stack
close words.Semicolon e (frames.Body done binding name at ∷ stack) = Begin (done ++ bound binding name at e ∷ [])
close _ _ _ = Stuck

abbrev pub act_of : Option Operator → Token → Expr → List Frame → State
act_of (Some op) t e stack = choose (nat_le (level op) (room stack)) (Want (frames.Binary t.at op e ∷ stack)) Stuck
act_of None t e stack = close t.word e stack

abbrev pub act : Token → State → State
act t (Have e stack) = act_of (op_of t.word) t e stack
act t _ = Stuck

-- where an operand is wanted
abbrev pub want : Word → ℕ → List Frame → State
want (words.Name name) at stack = Have (expr at (kinds.Name name)) stack
want (words.Number n) at stack = Have (expr at (kinds.Literal (pos n))) stack
want (words.Operator operators.Minus) at stack = Minus at stack
want words.Tilde at stack = Want (frames.Prefix at prefixes.Flip ∷ stack)
want words.Open at stack = Want (frames.Bracket ∷ stack)
want (words.Call callee) at stack = Called at callee stack
want _ at stack = Stuck

-- behind a `-` where an operand is wanted
abbrev pub after_minus : Word → ℕ → ℕ → List Frame → State
after_minus (words.Number n) at minus_at stack = Have (expr minus_at (kinds.Literal (neg_ℤ (pos n)))) stack
after_minus word at minus_at stack = want word at (frames.Prefix minus_at prefixes.Negate ∷ stack)

abbrev pub called : Word → ℕ → Callee → List Frame → State
called words.Open at callee stack = Want (frames.Call at callee earlier.Nothing ∷ stack)
called _ at callee stack = Stuck

abbrev pub with_value : MapCall → Number → MapCall
with_value call value = record { at = call.at; callee = call.callee; of = call.of; values = call.values ++ value ∷ [] }

-- where a call's number is wanted
abbrev pub want_number : Word → ℕ → MapCall → List Frame → State
want_number (words.Number n) at call stack = HaveNumber (with_value call (record { at = at; value = pos n })) stack
want_number (words.Operator operators.Minus) at call stack =
    choose (takes_sign call.callee) (SignedNumber at call stack) Stuck
want_number _ at call stack = Stuck

abbrev pub signed_number : Word → ℕ → MapCall → List Frame → State
signed_number (words.Number n) at call stack =
    HaveNumber (with_value call (record { at = at; value = neg_ℤ (pos n) })) stack
signed_number _ at call stack = Stuck

-- behind a call's number
abbrev pub have_number : Word → MapCall → List Frame → State
have_number words.Comma call stack =
    choose (nat_lt (length call.values) (numbers call.callee)) (WantNumber call stack) Stuck
have_number words.Close call stack = made (placed call.at (map_of call.callee call.of call.values)) stack
have_number _ call stack = Stuck

abbrev pub begin : Word → List Stmt → State
begin words.Input done = Input done parts.AfterWord
begin (words.Bind binding) done = AfterWord done binding
begin _ done = Stuck

-- the parts of an input, one after another
abbrev pub input : Part → Word → ℕ → List Stmt → State
input parts.AfterWord (words.Name name) at done = Input done (parts.AfterName name at)
input (parts.AfterName name place) (words.Call (callees.Cast elem)) at done =
    Input done (parts.AfterType (record { name = name; at = place; elem = elem }))
input (parts.AfterType heading) words.OpenSquare at done = Input done (parts.AfterOpen heading at)
input (parts.AfterOpen heading shape_at) (words.Number rows) at done =
    Input done (parts.AfterRows heading shape_at rows)
input (parts.AfterRows heading shape_at rows) words.Comma at done = Input done (parts.AfterComma heading shape_at rows)
input (parts.AfterComma heading shape_at rows) (words.Number cols) at done =
    Input done (parts.AfterCols heading shape_at rows cols)
input (parts.AfterCols heading shape_at rows cols) words.CloseSquare at done =
    Input done (parts.AfterClose heading shape_at rows cols)
input (parts.AfterClose heading shape_at rows cols) words.Semicolon at done =
    Begin (done ++ stmts.Input heading.name heading.at heading.elem (pos rows) (pos cols) shape_at ∷ [])
input _ _ at done = Stuck

abbrev pub after_word : Word → ℕ → List Stmt → Binding → State
after_word (words.Name name) at done binding = AfterName done binding name at
after_word _ at done binding = Stuck

abbrev pub after_name : Word → List Stmt → Binding → List ℕ → ℕ → State
after_name words.Assign done binding name at = Want (frames.Body done binding name at ∷ [])
after_name _ done binding name at = Stuck

abbrev pub step : State → Token → State
step (Begin done) t = begin t.word done
step (Input done part) t = input part t.word t.at done
step (AfterWord done binding) t = after_word t.word t.at done binding
step (AfterName done binding name at) t = after_name t.word done binding name at
step (Want stack) t = want t.word t.at stack
step (Minus at stack) t = after_minus t.word t.at at stack
step (Called at callee stack) t = called t.word at callee stack
step (Have e stack) t = act t (reduce (reach_of (op_of t.word)) e stack)
step (WantNumber call stack) t = want_number t.word t.at call stack
step (SignedNumber at call stack) t = signed_number t.word at call stack
step (HaveNumber call stack) t = have_number t.word call stack
step Stuck t = Stuck

-- the statements that have been read where a program may end
abbrev pub ending : State → Option (List Stmt)
ending (Begin done) = Some done
ending _ = None

abbrev pub reader : Reader Token State (List Stmt)
reader = record { start = Begin []; stuck = Stuck; step = step; value = ending }

abbrev pub run : State → List Token → State
run = run_from step

-- how many brackets and prefix signs are open
abbrev pub depth_of : List Frame → ℕ
depth_of [] = 0
depth_of (frames.Body done binding name at ∷ stack) = depth_of stack
depth_of (frames.Binary at op a ∷ stack) = depth_of stack
depth_of (frame ∷ stack) = depth_of stack + 1

-- how many nodes have their token before: those of open items
abbrev pub count_of : List Frame → ℕ
count_of [] = 0
count_of (frames.Body done binding name at ∷ stack) = program_nodes done
count_of (frames.Prefix at sign ∷ stack) = count_of stack + 1
count_of (frames.Binary at op a ∷ stack) = count_of stack + nodes (tree_of a) + 1
count_of (frames.Bracket ∷ stack) = count_of stack
count_of (frames.Call at callee before ∷ stack) = count_of stack + nodes_before before + 1

-- and those of a state
abbrev pub nodes_read : State → ℕ
nodes_read (Begin done) = program_nodes done
nodes_read (Input done part) = program_nodes done
nodes_read (AfterWord done binding) = program_nodes done
nodes_read (AfterName done binding name at) = program_nodes done
nodes_read (Want stack) = count_of stack
nodes_read (Minus at stack) = count_of stack + 1
nodes_read (Called at callee stack) = count_of stack + 1
nodes_read (Have e stack) = count_of stack + nodes (tree_of e)
nodes_read (WantNumber call stack) = count_of stack + nodes (tree_of call.of) + 1
nodes_read (SignedNumber at call stack) = count_of stack + nodes (tree_of call.of) + 1
nodes_read (HaveNumber call stack) = count_of stack + nodes (tree_of call.of) + 1
nodes_read Stuck = 0

abbrev pub unless_number : {A : Type 0} → Word → A → Option A
unless_number (words.Number n) a = None
unless_number _ a = Some a

-- the open items behind which an expression that begins with the word is wanted
abbrev pub wanted : State → Word → Option (List Frame)
wanted (Want stack) word = Some stack
wanted (Minus at stack) word = unless_number word (frames.Prefix at prefixes.Negate ∷ stack)
wanted _ word = None

-- the state that the code's phase and stack stand for
abbrev pub state_of : Phase → List Frame → State
state_of (phases.Begin done) stack = Begin done
state_of (phases.Input done part) stack = Input done part
state_of (phases.AfterWord done binding) stack = AfterWord done binding
state_of (phases.AfterName done binding name at) stack = AfterName done binding name at
state_of phases.Want stack = Want stack
state_of (phases.Minus at) stack = Minus at stack
state_of (phases.Called at callee) stack = Called at callee stack
state_of (phases.Have e) stack = Have e stack
state_of (phases.WantNumber call) stack = WantNumber call stack
state_of (phases.SignedNumber at call) stack = SignedNumber at call stack
state_of (phases.HaveNumber call) stack = HaveNumber call stack
state_of phases.Stuck stack = Stuck
