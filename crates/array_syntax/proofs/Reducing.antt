-- What is reduced, and how far.
use Rattle.std.proofs.Common.{◌≡◌, ℕ, ◌+◌, ◌≤◌, ◌<◌, Bool, true, false, List, [], ◌∷◌, ◌++◌, Option, Some, None, refl, sym, ap, subst, ◌∙◌, arith}
use Rattle.std.specs.Prelude.{nat_le, nat_lt}
use Rattle.ven_io.specs.Reader.{run_from}
use Rattle.ven_io.proofs.Readers.{run_on}
use Rattle.array_syntax.specs.declared.call.Earlier.{Earlier}
use Rattle.array_syntax.specs.declared.call.Earlier.TheVariants as earlier
use Rattle.array_syntax.specs.declared.call.MapCall.{MapCall}
use Rattle.array_syntax.specs.declared.call.Number.{Number}
use Rattle.array_syntax.specs.declared.frames.Frame.{Frame}
use Rattle.array_syntax.specs.declared.frames.Frame.TheVariants as frames
use Rattle.array_syntax.specs.declared.frames.Sign.{Sign}
use Rattle.array_syntax.specs.declared.frames.Sign.TheVariants as prefixes
use Rattle.array_syntax.specs.declared.machine.Part.{Part}
use Rattle.array_syntax.specs.declared.machine.Part.TheVariants as parts
use Rattle.array_syntax.specs.declared.program.Expr.{Expr}
use Rattle.array_syntax.specs.declared.program.ExprKind.{ExprKind}
use Rattle.array_syntax.specs.declared.program.ExprKind.TheVariants as kinds
use Rattle.array_syntax.specs.declared.program.Stmt.{Stmt}
use Rattle.array_syntax.specs.declared.program.Stmt.TheVariants as stmts
use Rattle.array_syntax.specs.declared.word.Binding.{Binding}
use Rattle.array_syntax.specs.declared.word.Binding.TheVariants as bindings
use Rattle.array_syntax.specs.declared.word.Callee.{Callee}
use Rattle.array_syntax.specs.declared.word.Callee.TheVariants as callees
use Rattle.array_syntax.specs.declared.word.Operator.{Operator}
use Rattle.array_syntax.specs.declared.word.Operator.TheVariants as operators
use Rattle.array_syntax.specs.declared.word.Token.{Token}
use Rattle.array_syntax.specs.declared.word.Word.{Word}
use Rattle.array_syntax.specs.declared.word.Word.TheVariants as words
use Rattle.array_syntax.specs.Reading.{State, Begin, Input, AfterWord, AfterName, Want, Minus, Called, Have, WantNumber, SignedNumber, HaveNumber, Stuck, room, choose, one, two, reduce, tight, reach_of, op_of, act, step, run}
use Rattle.array_syntax.specs.Steps.{Ends, ended}
use Rattle.array_syntax.specs.Table.{loosest, level, left_level, right_level}

pub right_below : (op : Operator) → right_level op < level op
right_below operators.Times = omega arith
right_below operators.Plus = omega arith
right_below operators.Minus = omega arith
right_below operators.ShiftLeft = omega arith
right_below operators.ShiftRight = omega arith
right_below operators.And = omega arith
right_below operators.Xor = omega arith
right_below operators.Or = omega arith
right_below operators.Equal = omega arith
right_below operators.NotEqual = omega arith
right_below operators.Less = omega arith
right_below operators.LessOrEqual = omega arith
right_below operators.Greater = omega arith
right_below operators.GreaterOrEqual = omega arith

pub left_up_to : (op : Operator) → left_level op ≤ level op
left_up_to operators.Times = omega arith
left_up_to operators.Plus = omega arith
left_up_to operators.Minus = omega arith
left_up_to operators.ShiftLeft = omega arith
left_up_to operators.ShiftRight = omega arith
left_up_to operators.And = omega arith
left_up_to operators.Xor = omega arith
left_up_to operators.Or = omega arith
left_up_to operators.Equal = omega arith
left_up_to operators.NotEqual = omega arith
left_up_to operators.Less = omega arith
left_up_to operators.LessOrEqual = omega arith
left_up_to operators.Greater = omega arith
left_up_to operators.GreaterOrEqual = omega arith

pub left_from_one : (op : Operator) → 1 ≤ left_level op
left_from_one operators.Times = omega arith
left_from_one operators.Plus = omega arith
left_from_one operators.Minus = omega arith
left_from_one operators.ShiftLeft = omega arith
left_from_one operators.ShiftRight = omega arith
left_from_one operators.And = omega arith
left_from_one operators.Xor = omega arith
left_from_one operators.Or = omega arith
left_from_one operators.Equal = omega arith
left_from_one operators.NotEqual = omega arith
left_from_one operators.Less = omega arith
left_from_one operators.LessOrEqual = omega arith
left_from_one operators.Greater = omega arith
left_from_one operators.GreaterOrEqual = omega arith

pub level_up_to : (op : Operator) → level op ≤ loosest
level_up_to operators.Times = omega arith
level_up_to operators.Plus = omega arith
level_up_to operators.Minus = omega arith
level_up_to operators.ShiftLeft = omega arith
level_up_to operators.ShiftRight = omega arith
level_up_to operators.And = omega arith
level_up_to operators.Xor = omega arith
level_up_to operators.Or = omega arith
level_up_to operators.Equal = omega arith
level_up_to operators.NotEqual = omega arith
level_up_to operators.Less = omega arith
level_up_to operators.LessOrEqual = omega arith
level_up_to operators.Greater = omega arith
level_up_to operators.GreaterOrEqual = omega arith

pub is_le : (a b : ℕ) → a ≤ b → nat_le a b ≡ true
is_le a b h = grind arith

pub not_le : (a b : ℕ) → b < a → nat_le a b ≡ false
not_le a b h = grind arith

pub is_lt : (a b : ℕ) → a < b → nat_lt a b ≡ true
is_lt a b h = grind arith

pub not_lt : (a b : ℕ) → b ≤ a → nat_lt a b ≡ false
not_lt a b h = grind arith

-- the node of a binary sign that ends
pub reduce_binary : (l at : ℕ) (op : Operator) (a e : Expr) (stack : List Frame) → level op ≤ l → reduce l e (frames.Binary at op a ∷ stack) ≡ reduce l (two at op a e) stack
reduce_binary l at op a e stack h = ap (λ b. choose b (reduce l (two at op a e) stack) (Have e (frames.Binary at op a ∷ stack))) (is_le (level op) l h)

-- where there is room for the level nothing ends
pub reduce_stays : (l : ℕ) (e : Expr) (stack : List Frame) → 1 ≤ l → l ≤ room stack → reduce l e stack ≡ Have e stack
reduce_stays l e [] from_one fits = refl
reduce_stays l e (frames.Body done binding name at ∷ stack) from_one fits = refl
reduce_stays l e (frames.Prefix at sign ∷ stack) from_one fits = absurd (omega arith)
reduce_stays l e (frames.Binary at op a ∷ stack) from_one fits =
    let below = right_below op in
    let lt : l < level op = omega arith in
    ap (λ b. choose b (reduce l (two at op a e) stack) (Have e (frames.Binary at op a ∷ stack))) (not_le (level op) l lt)
reduce_stays l e (frames.Bracket ∷ stack) from_one fits = refl
reduce_stays l e (frames.Call at callee before ∷ stack) from_one fits = refl

-- reducing to a level and then to a looser one
binary_wider : (r l at : ℕ) (op : Operator) (a e : Expr) (stack : List Frame) → r ≤ l → tight l (reduce r (two at op a e) stack) ≡ reduce l (two at op a e) stack → (b : Bool) → nat_le (level op) r ≡ b → tight l (choose b (reduce r (two at op a e) stack) (Have e (frames.Binary at op a ∷ stack))) ≡ reduce l e (frames.Binary at op a ∷ stack)
binary_wider r l at op a e stack le ih true is =
    let h : level op ≤ l = grind arith in ih ∙ sym (reduce_binary l at op a e stack h)
binary_wider r l at op a e stack le ih false is = refl

pub reduce_wider : (r l : ℕ) (e : Expr) (stack : List Frame) → r ≤ l → tight l (reduce r e stack) ≡ reduce l e stack
reduce_wider r l e [] le = refl
reduce_wider r l e (frames.Body done binding name at ∷ stack) le = refl
reduce_wider r l e (frames.Prefix at sign ∷ stack) le = reduce_wider r l (one at sign e) stack le
reduce_wider r l e (frames.Binary at op a ∷ stack) le =
    binary_wider r l at op a e stack le (reduce_wider r l (two at op a e) stack le) (nat_le (level op) r) refl
reduce_wider r l e (frames.Bracket ∷ stack) le = refl
reduce_wider r l e (frames.Call at callee before ∷ stack) le = refl

tight_wider : (r l : ℕ) (s : State) → r ≤ l → tight l (tight r s) ≡ tight l s
tight_wider r l (Have e stack) le = reduce_wider r l e stack le
tight_wider r l _ le = refl

-- what was read to a tighter level was read to a looser one
pub read_wider : (r l : ℕ) (s : State) (e : Expr) (stack : List Frame) → r ≤ l → tight r s ≡ reduce r e stack → tight l s ≡ reduce l e stack
read_wider r l s e stack le h = sym (tight_wider r l s le) ∙ ap (tight l) h ∙ reduce_wider r l e stack le

-- a token behind an expression
pub step_acts : (s : State) (t : Token) (e : Expr) (stack : List Frame) → tight (reach_of (op_of t.word)) s ≡ Have e stack → step s t ≡ act t (Have e stack)
step_acts (Have x over) t e stack h = ap (act t) h
step_acts _ t e stack h = absurd (cc)

-- tokens that end an expression, the token behind, and what follows
pub run_ends : (s : State) (inner : List Token) (t : Token) (rest : List Token) (e : Expr) (stack : List Frame) → tight (reach_of (op_of t.word)) (run s inner) ≡ Have e stack → run s (inner ++ t ∷ rest) ≡ run (act t (Have e stack)) rest
run_ends s inner t rest e stack h = run_on step s inner (t ∷ rest) ∙ ap (λ x. run x rest) (step_acts (run s inner) t e stack h)

reduce_one : (l : ℕ) (e : Expr) (frame : Frame) (rest : List Frame) → Ends l (frame ∷ rest) → reduce l e (frame ∷ rest) ≡ reduce l (ended frame e) rest
reduce_one l e (frames.Prefix at sign) rest ends = refl
reduce_one l e (frames.Binary at op a) rest ends = reduce_binary l at op a e rest ends
reduce_one l e (frames.Body done binding name at) rest ends = absurd ends
reduce_one l e frames.Bracket rest ends = absurd ends
reduce_one l e (frames.Call at callee before) rest ends = absurd ends

pub some_is : {A : Type 0} (a b : A) → Some a ≡ Some b → a ≡ b
some_is a b e = cc

pub none_some : {A : Type 0} (a : A) → None ≡ Some a → ⊥
none_some a e = cc
