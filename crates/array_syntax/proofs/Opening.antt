-- Open items and nodes by the state, as the definitions have them.
use Rattle.std.proofs.Common.{◌≡◌, ◌≢◌, ◌↔◌, ◌⊎◌, inl, inr, ⊎_elim, ℕ, ◌+◌, ◌≤◌, ◌<◌, Bool, true, false, List, [], ◌∷◌, ◌++◌, length, Option, Some, None, refl, sym, ap, subst, ◌∙◌, arith, append_assoc, append-nil, length-append}
use Rattle.std.specs.Prelude.{nat_le, nat_lt, pos, neg_ℤ, ℤ}
use Rattle.ven_base.specs.declared.elem.Elem.TheVariants as elems
use Rattle.ven_base.specs.declared.ops.Op1.TheVariants as unary
use Rattle.ven_io.specs.Reader.{Reader, Begins, Follows as FollowsGrammar, run_from}
use Rattle.ven_io.proofs.Readers.{run_on, begins_iff}
use Rattle.array_syntax.specs.declared.call.Earlier.{Earlier}
use Rattle.array_syntax.specs.declared.call.Earlier.TheVariants as earlier
use Rattle.array_syntax.specs.declared.call.MapCall.{MapCall}
use Rattle.array_syntax.specs.declared.call.Number.{Number}
use Rattle.array_syntax.specs.declared.frames.Frame.{Frame}
use Rattle.array_syntax.specs.declared.frames.Frame.TheVariants as frames
use Rattle.array_syntax.specs.declared.frames.Sign.{Sign}
use Rattle.array_syntax.specs.declared.frames.Sign.TheVariants as prefixes
use Rattle.array_syntax.specs.declared.machine.Part.{Part}
use Rattle.array_syntax.specs.declared.machine.Part.TheVariants as parts
use Rattle.array_syntax.specs.declared.program.Expr.{Expr}
use Rattle.array_syntax.specs.declared.program.ExprKind.{ExprKind}
use Rattle.array_syntax.specs.declared.program.ExprKind.TheVariants as kinds
use Rattle.array_syntax.specs.declared.program.Stmt.{Stmt}
use Rattle.array_syntax.specs.declared.program.Stmt.TheVariants as stmts
use Rattle.array_syntax.specs.declared.word.Binding.{Binding}
use Rattle.array_syntax.specs.declared.word.Binding.TheVariants as bindings
use Rattle.array_syntax.specs.declared.word.Callee.{Callee}
use Rattle.array_syntax.specs.declared.word.Callee.TheVariants as callees
use Rattle.array_syntax.specs.declared.word.Operator.{Operator}
use Rattle.array_syntax.specs.declared.word.Operator.TheVariants as operators
use Rattle.array_syntax.specs.declared.word.Token.{Token}
use Rattle.array_syntax.specs.declared.word.Word.{Word}
use Rattle.array_syntax.specs.declared.word.Word.TheVariants as words
use Rattle.array_syntax.specs.Grammar as grammar
use Rattle.array_syntax.specs.Grammar.{token, expr, minus, IsNumber, count, followed, bound, IsNumberArgument, Plain, Signed, AreNumbers, Nothing, More, IsExpr, Name, Literal, Negative, Brackets, Flip, Negate, Two, Call, Map, IsBegun, Opened, Argued, AreStatements, Empty, Bound}
use Rattle.array_syntax.specs.Reading as reading
use Rattle.array_syntax.specs.Reading.{State, Begin, AfterWord, AfterName, Want, Minus, Called, Have, WantNumber, SignedNumber, HaveNumber, Stuck, room, choose, one, two, reduce, tight, reach_of, op_of, placed, made, mapped, argued, close, act_of, act, want, after_minus, called, with_value, want_number, signed_number, have_number, begin, input, after_word, after_name, step, ending, reader, run, depth_of, count_of, nodes_read, unless_number, wanted}
use Rattle.array_syntax.specs.Table.{loosest, level, left_level, right_level, operands, numbers, takes_sign, call_of, map_of}
use Rattle.array_syntax.specs.Faults as faults
use Rattle.array_syntax.specs.Faults.{nodes_before, MayBegin, AtValue, InBrackets, BehindFlip, BehindNegate, BehindSign, InCall, EndsWith, EndsTooHigh, last_of, IsOperand, IsNode, Opens, IsNumberNext}
use Rattle.array_syntax.specs.Limits.{nodes, program_nodes, nodes_of, height, most_height, most_nodes, most_statements}
use Rattle.array_syntax.specs.Tree.{tree_of}
use Rattle.std.specs.Prelude.{max}
use Rattle.array_syntax.specs.declared.machine.Phase.{Phase}
use Rattle.array_syntax.specs.declared.machine.Phase.TheVariants as phases
use Rattle.array_syntax.specs.Steps.{opens, IsHigher, IsTooHigh, is_operand, is_sign, is_prefixed, begins_node, and_one, IsDeep, IsCrowded, IsFull, IsSignDeep, IsSignFull, depth_in}
use Rattle.ven_io.specs.Tokens.{IsBehind}
use Rattle.ven_io.specs.declared.token.TokenFault.{TokenFault}
use Rattle.ven_io.specs.declared.token.Token.{Token as TextToken}
use Rattle.std.specs.Prelude.{Result}
use Rattle.array_syntax.specs.Words.{language}
use Rattle.array_syntax.proofs.Complete.{reads, behind_sign}
use Rattle.array_syntax.proofs.Counting.{reduce_counts, want_counts}
use Rattle.array_syntax.proofs.Leading.{some_tokens, stands_may, may_lead, led, wanted_step}
use Rattle.array_syntax.proofs.Reducing.{left_up_to}
use Rattle.array_syntax.proofs.Sound.{wider, no_number, reduced}
use Rattle.array_syntax.proofs.Stands.{Stands, Follows, Starts, IsPlaced, IsRead, IsReduced}
use Rattle.array_syntax.proofs.Stepping.{at_level}
use Rattle.array_syntax.proofs.TooHigh.{starts_follow}

chosen_low : (l at m : ℕ) (op : Operator) (a e : Expr) (stack : List Frame) → depth_of stack ≤ m → depth_in (reduce l (two at op a e) stack) ≤ m → (b : Bool) → depth_in (choose b (reduce l (two at op a e) stack) (Have e (frames.Binary at op a ∷ stack))) ≤ m
chosen_low l at m op a e stack low ih true = ih
chosen_low l at m op a e stack low ih false = low

pub reduce_low : (l m : ℕ) (e : Expr) (stack : List Frame) → depth_of stack ≤ m → depth_in (reduce l e stack) ≤ m
reduce_low l m e [] low = low
reduce_low l m e (frames.Body done binding name at ∷ stack) low = low
reduce_low l m e (frames.Prefix at sign ∷ stack) low = reduce_low l m (one at sign e) stack (omega arith)
reduce_low l m e (frames.Binary at op a ∷ stack) low = chosen_low l at m op a e stack low (reduce_low l m (two at op a e) stack low) (nat_le (level op) l)
reduce_low l m e (frames.Bracket ∷ stack) low = low
reduce_low l m e (frames.Call at callee before ∷ stack) low = low

-- what is left of the stack when nodes are made is no deeper
pub reduced_depth : (l : ℕ) (e node : Expr) (stack rest : List Frame) → Have node rest ≡ reduce l e stack → depth_of rest ≤ depth_of stack
reduced_depth l e node stack rest is = subst (λ s. depth_in s ≤ depth_of stack) (sym is) (reduce_low l (depth_of stack) e stack (omega arith))

-- what a token behind an expression opens: nothing
abbrev IsLow : State → Type 0
IsLow s = depth_in s ≤ most_height

made_low : (o : Option Expr) (stack : List Frame) → depth_of stack ≤ most_height → IsLow (made o stack) × (¬ IsDeep (made o stack))
made_low None stack low = (omega arith, λ h. h)
made_low (Some e) stack low = (low, λ h. h)

mapped_low : (at : ℕ) (callee : Callee) (e : Expr) (stack : List Frame) → depth_of stack ≤ most_height → (b : Bool) → IsLow (choose b (WantNumber (record { at = at; callee = callee; of = e; values = [] }) stack) Stuck) × (¬ IsDeep (choose b (WantNumber (record { at = at; callee = callee; of = e; values = [] }) stack) Stuck))
mapped_low at callee e stack low true = (low, λ h. h)
mapped_low at callee e stack low false = (omega arith, λ h. h)

mapping_low : (at : ℕ) (callee : Callee) (before : Earlier) (e : Expr) (stack : List Frame) → depth_of stack ≤ most_height → IsLow (mapped at callee before e stack) × (¬ IsDeep (mapped at callee before e stack))
mapping_low at callee earlier.Nothing e stack low = mapped_low at callee e stack low (nat_lt 0 (numbers callee))
mapping_low at callee _ e stack low = (omega arith, λ h. h)

argued_low : (at : ℕ) (callee : Callee) (before : Earlier) (e : Expr) (stack : List Frame) → depth_of stack + 1 ≤ most_height → (b : Bool) → IsLow (choose b (Want (frames.Call at callee (followed before e) ∷ stack)) (mapped at callee before e stack)) × (¬ IsDeep (choose b (Want (frames.Call at callee (followed before e) ∷ stack)) (mapped at callee before e stack)))
argued_low at callee before e stack low true = (low, λ h. omega arith)
argued_low at callee before e stack low false = mapping_low at callee before e stack (omega arith)

closed_low : (word : Word) (e : Expr) (stack : List Frame) → depth_of stack ≤ most_height → IsLow (close word e stack) × (¬ IsDeep (close word e stack))
closed_low words.Close e (frames.Bracket ∷ stack) low = (omega arith, λ h. h)
closed_low words.Close e (frames.Call at callee before ∷ stack) low = made_low (placed at (call_of callee before e)) stack (omega arith)
closed_low words.Comma e (frames.Call at callee before ∷ stack) low = argued_low at callee before e stack low (nat_lt (count before + 1) (operands callee))
closed_low words.Semicolon e (frames.Body done binding name at ∷ stack) low = (omega arith, λ h. h)
closed_low _ e _ low = (omega arith, λ h. h)

sign_low : (at : ℕ) (op : Operator) (e : Expr) (stack : List Frame) → depth_of stack ≤ most_height → (b : Bool) → IsLow (choose b (Want (frames.Binary at op e ∷ stack)) Stuck) × (¬ IsDeep (choose b (Want (frames.Binary at op e ∷ stack)) Stuck))
sign_low at op e stack low true = (low, λ h. omega arith)
sign_low at op e stack low false = (omega arith, λ h. h)

acted_word : (at : ℕ) (word : Word) (e : Expr) (stack : List Frame) → depth_of stack ≤ most_height → IsLow (act (token at word) (Have e stack)) × (¬ IsDeep (act (token at word) (Have e stack)))
acted_word at (words.Operator op) e stack low = sign_low at op e stack low (nat_le (level op) (room stack))
acted_word at words.Close e stack low = closed_low words.Close e stack low
acted_word at words.Comma e stack low = closed_low words.Comma e stack low
acted_word at words.Semicolon e stack low = closed_low words.Semicolon e stack low
acted_word at _ e stack low = (omega arith, λ h. h)

acted_low : (t : Token) (s : State) → IsLow s → IsLow (act t s) × (¬ IsDeep (act t s))
acted_low t (Have e stack) low = acted_word t.at t.word e stack low
acted_low t _ low = (omega arith, λ h. h)

want_low : (word : Word) (at : ℕ) (stack : List Frame) → depth_of stack ≤ most_height → ¬ IsDeep (want word at stack) → IsLow (want word at stack)
want_low (words.Name name) at stack low shallow = low
want_low (words.Number n) at stack low shallow = low
want_low (words.Operator operators.Minus) at stack low shallow = low
want_low words.Tilde at stack low shallow = omega (arith, shallow)
want_low words.Open at stack low shallow = omega (arith, shallow)
want_low (words.Call callee) at stack low shallow = low
want_low _ at stack low shallow = omega arith

minus_low : (word : Word) (at place : ℕ) (stack : List Frame) → depth_of stack ≤ most_height → (¬ IsNumber word → ¬ (most_height < depth_of stack + 1)) → ¬ IsDeep (after_minus word at place stack) → IsLow (after_minus word at place stack)
minus_low (words.Number n) at place stack low sign shallow = low
minus_low word at place stack low sign shallow = want_low word at (frames.Prefix place prefixes.Negate ∷ stack) (let up = sign (λ h. h) in omega (arith, up)) shallow

called_low : (word : Word) (at : ℕ) (callee : Callee) (stack : List Frame) → ¬ IsDeep (called word at callee stack) → IsLow (called word at callee stack)
called_low words.Open at callee stack shallow = omega (arith, shallow)
called_low _ at callee stack shallow = omega arith

number_sign_low : (at : ℕ) (call : MapCall) (stack : List Frame) → depth_of stack ≤ most_height → (b : Bool) → IsLow (choose b (SignedNumber at call stack) Stuck)
number_sign_low at call stack low true = low
number_sign_low at call stack low false = omega arith

number_low : (word : Word) (at : ℕ) (call : MapCall) (stack : List Frame) → depth_of stack ≤ most_height → IsLow (want_number word at call stack)
number_low (words.Number n) at call stack low = low
number_low (words.Operator operators.Minus) at call stack low = number_sign_low at call stack low (takes_sign call.callee)
number_low _ at call stack low = omega arith

signed_low : (word : Word) (at : ℕ) (call : MapCall) (stack : List Frame) → depth_of stack ≤ most_height → IsLow (signed_number word at call stack)
signed_low (words.Number n) at call stack low = low
signed_low _ at call stack low = omega arith

comma_low : (call : MapCall) (stack : List Frame) → depth_of stack ≤ most_height → (b : Bool) → IsLow (choose b (WantNumber call stack) Stuck)
comma_low call stack low true = low
comma_low call stack low false = omega arith

have_low : (word : Word) (call : MapCall) (stack : List Frame) → depth_of stack ≤ most_height → IsLow (have_number word call stack)
have_low words.Comma call stack low = comma_low call stack low (nat_lt (length call.values) (numbers call.callee))
have_low words.Close call stack low = (made_low (placed call.at (map_of call.callee call.of call.values)) stack low).0
have_low _ call stack low = omega arith

input_low : (part : Part) (word : Word) (at : ℕ) (done : List Stmt) → IsLow (input part word at done)
input_low parts.AfterWord (words.Name name) at done = omega arith
input_low (parts.AfterName name place) (words.Call (callees.Cast elem)) at done = omega arith
input_low (parts.AfterType h) words.OpenSquare at done = omega arith
input_low (parts.AfterOpen h shape_at) (words.Number rows) at done = omega arith
input_low (parts.AfterRows h shape_at rows) words.Comma at done = omega arith
input_low (parts.AfterComma h shape_at rows) (words.Number cols) at done = omega arith
input_low (parts.AfterCols h shape_at rows cols) words.CloseSquare at done = omega arith
input_low (parts.AfterClose h shape_at rows cols) words.Semicolon at done = omega arith
input_low _ _ at done = omega arith

begin_low : (word : Word) (done : List Stmt) → IsLow (begin word done)
begin_low words.Input done = omega arith
begin_low (words.Bind binding) done = omega arith
begin_low _ done = omega arith

word_low : (word : Word) (at : ℕ) (done : List Stmt) (binding : Binding) → IsLow (after_word word at done binding)
word_low (words.Name name) at done binding = omega arith
word_low _ at done binding = omega arith

name_low : (word : Word) (done : List Stmt) (binding : Binding) (name : List ℕ) (at : ℕ) → IsLow (after_name word done binding name at)
name_low words.Assign done binding name at = omega arith
name_low _ done binding name at = omega arith

-- the law: no more items are open than may be, if none was refused
pub low_step : (s : State) (t : Token) → depth_in s ≤ most_height → (¬ IsNumber t.word → ¬ IsSignDeep s) → ¬ IsDeep (step s t) → depth_in (step s t) ≤ most_height
low_step (Begin done) t low sign shallow = begin_low t.word done
low_step (reading.Input done part) t low sign shallow = input_low part t.word t.at done
low_step (AfterWord done binding) t low sign shallow = word_low t.word t.at done binding
low_step (AfterName done binding name at) t low sign shallow = name_low t.word done binding name at
low_step (Want stack) t low sign shallow = want_low t.word t.at stack low shallow
low_step (Minus at stack) t low sign shallow = minus_low t.word t.at at stack low sign shallow
low_step (Called at callee stack) t low sign shallow = called_low t.word at callee stack shallow
low_step (Have e stack) t low sign shallow = (acted_low t (reduce (reach_of (op_of t.word)) e stack) (reduce_low (reach_of (op_of t.word)) most_height e stack low)).0
low_step (WantNumber call stack) t low sign shallow = number_low t.word t.at call stack low
low_step (SignedNumber at call stack) t low sign shallow = signed_low t.word at call stack low
low_step (HaveNumber call stack) t low sign shallow = have_low t.word call stack low
low_step Stuck t low sign shallow = omega arith

abbrev pub OpensMany : List ℕ → List Token → Token → Type 0
OpensMany text ts t = (depth : ℕ) × Opens text depth ts t × (most_height ≤ depth)

want_opens : (text : List ℕ) (ts : List Token) (word : Word) (at : ℕ) (stack : List Frame) → Stands stack ts → Follows stack word → depth_of stack ≤ most_height → IsDeep (want word at stack) → OpensMany text ts (token at word)
want_opens text ts words.Tilde at stack st f low is = (depth_of stack, faults.Flip (room stack) (depth_of stack) (count_of stack) at ts (stands_may stack ts words.Tilde st f), omega arith)
want_opens text ts words.Open at stack st f low is = (depth_of stack, faults.Bracket (room stack) (depth_of stack) (count_of stack) at ts (stands_may stack ts words.Open st f), omega arith)
want_opens text ts (words.Name name) at stack st f low is = absurd is
want_opens text ts (words.Number n) at stack st f low is = absurd is
want_opens text ts (words.Operator operators.Minus) at stack st f low is = absurd is
want_opens text ts (words.Call callee) at stack st f low is = absurd is
want_opens text ts _ at stack st f low is = absurd is

minus_opens : (text : List ℕ) (ts : List Token) (word : Word) (at place : ℕ) (stack : List Frame) → Stands (frames.Prefix place prefixes.Negate ∷ stack) ts → (¬ IsNumber word → ¬ (most_height < depth_of stack + 1)) → IsDeep (after_minus word at place stack) → OpensMany text ts (token at word)
minus_opens text ts (words.Number n) at place stack st low is = absurd is
minus_opens text ts word at place stack st low is = want_opens text ts word at (frames.Prefix place prefixes.Negate ∷ stack) st (λ h. h) (let up = low (λ h. h) in omega (arith, up)) is

called_opens : (text : List ℕ) (ts : List Token) (word : Word) (at place : ℕ) (callee : Callee) (stack : List Frame) → IsRead ts (Called place callee stack) → depth_of stack ≤ most_height → IsDeep (called word place callee stack) → OpensMany text ts (token at word)
called_opens text ts words.Open at place callee stack (before, st, all, f) low is =
    (depth_of stack, subst (λ x. Opens text (depth_of stack) x (token at words.Open)) (sym all) (faults.Call (room stack) (depth_of stack) (count_of stack) place at callee before (stands_may stack before (words.Call callee) st f)), omega arith)
called_opens text ts _ at place callee stack p low is = absurd is

no_deep_number : (at : ℕ) (call : MapCall) (stack : List Frame) (b : Bool) → ¬ IsDeep (choose b (SignedNumber at call stack) Stuck)
no_deep_number at call stack true h = h
no_deep_number at call stack false h = h

number_shallow : (word : Word) (at : ℕ) (call : MapCall) (stack : List Frame) → ¬ IsDeep (want_number word at call stack)
number_shallow (words.Number n) at call stack h = h
number_shallow (words.Operator operators.Minus) at call stack h = no_deep_number at call stack (takes_sign call.callee) h
number_shallow _ at call stack h = h

signed_shallow : (word : Word) (at : ℕ) (call : MapCall) (stack : List Frame) → ¬ IsDeep (signed_number word at call stack)
signed_shallow (words.Number n) at call stack h = h
signed_shallow _ at call stack h = h

comma_shallow : (call : MapCall) (stack : List Frame) (b : Bool) → ¬ IsDeep (choose b (WantNumber call stack) Stuck)
comma_shallow call stack true h = h
comma_shallow call stack false h = h

made_shallow : (o : Option Expr) (stack : List Frame) → ¬ IsDeep (made o stack)
made_shallow None stack h = h
made_shallow (Some e) stack h = h

have_shallow : (word : Word) (call : MapCall) (stack : List Frame) → ¬ IsDeep (have_number word call stack)
have_shallow words.Comma call stack h = comma_shallow call stack (nat_lt (length call.values) (numbers call.callee)) h
have_shallow words.Close call stack h = made_shallow (placed call.at (map_of call.callee call.of call.values)) stack h
have_shallow _ call stack h = h

input_shallow : (part : Part) (word : Word) (at : ℕ) (done : List Stmt) → ¬ IsDeep (input part word at done)
input_shallow parts.AfterWord (words.Name name) at done h = h
input_shallow (parts.AfterName name place) (words.Call (callees.Cast elem)) at done h = h
input_shallow (parts.AfterType heading) words.OpenSquare at done h = h
input_shallow (parts.AfterOpen heading shape_at) (words.Number rows) at done h = h
input_shallow (parts.AfterRows heading shape_at rows) words.Comma at done h = h
input_shallow (parts.AfterComma heading shape_at rows) (words.Number cols) at done h = h
input_shallow (parts.AfterCols heading shape_at rows cols) words.CloseSquare at done h = h
input_shallow (parts.AfterClose heading shape_at rows cols) words.Semicolon at done h = h
input_shallow _ _ at done h = h

begin_shallow : (word : Word) (done : List Stmt) → ¬ IsDeep (begin word done)
begin_shallow words.Input done h = h
begin_shallow (words.Bind binding) done h = h
begin_shallow _ done h = h

word_shallow : (word : Word) (at : ℕ) (done : List Stmt) (binding : Binding) → ¬ IsDeep (after_word word at done binding)
word_shallow (words.Name name) at done binding h = h
word_shallow _ at done binding h = h

name_shallow : (word : Word) (done : List Stmt) (binding : Binding) (name : List ℕ) (at : ℕ) → ¬ IsDeep (after_name word done binding name at)
name_shallow words.Assign done binding name at h = omega arith
name_shallow _ done binding name at h = h

-- the law: a step that is too deep opens one item too many
pub deep_opens : (text : List ℕ) (ts : List Token) (s : State) (t : Token) → IsRead ts s → depth_in s ≤ most_height → (¬ IsNumber t.word → ¬ IsSignDeep s) → IsDeep (step s t) → OpensMany text ts t
deep_opens text ts (Want stack) t p low sign is = want_opens text ts t.word t.at stack p.0 (p.1 t.word) low is
deep_opens text ts (Minus at stack) t (before, st, all, f) low sign is = minus_opens text ts t.word t.at at stack (before, st, all) sign is
deep_opens text ts (Called at callee stack) t p low sign is = called_opens text ts t.word t.at at callee stack p low is
deep_opens text ts (Have e stack) t p low sign is = absurd ((acted_low t (reduce (reach_of (op_of t.word)) e stack) (reduce_low (reach_of (op_of t.word)) most_height e stack low)).1 is)
deep_opens text ts (Begin done) t p low sign is = absurd (begin_shallow t.word done is)
deep_opens text ts (reading.Input done part) t p low sign is = absurd (input_shallow part t.word t.at done is)
deep_opens text ts (AfterWord done binding) t p low sign is = absurd (word_shallow t.word t.at done binding is)
deep_opens text ts (AfterName done binding name at) t p low sign is = absurd (name_shallow t.word done binding name at is)
deep_opens text ts (WantNumber call stack) t p low sign is = absurd (number_shallow t.word t.at call stack is)
deep_opens text ts (SignedNumber at call stack) t p low sign is = absurd (signed_shallow t.word at call stack is)
deep_opens text ts (HaveNumber call stack) t p low sign is = absurd (have_shallow t.word call stack is)
deep_opens text ts Stuck t p low sign is = absurd is

-- what an open sign waits for: that the next token is no number
pub record WaitsDeep (text : List ℕ) (ts : List Token) (t : Token) : Type 0 where
  pub deep : IsSignDeep (step (run (Begin []) ts) t)
  pub next : Result TextToken TokenFault
  pub behind : IsBehind language text (ts ++ t ∷ []) next
  pub no_number : ¬ IsNumberNext next

-- the law: where one item too many is opened the step is too deep, at once or when the next token is known
pub opens_deep : (text : List ℕ) (depth : ℕ) (ts : List Token) (t : Token) → Opens text depth ts t → most_height ≤ depth → IsDeep (step (run (Begin []) ts) t) ⊎ WaitsDeep text ts t
opens_deep text depth ts t (faults.Bracket l _ count at _ b) many =
    let q = may_lead l depth count ts words.Open b in
    let has = q.has_depth in
    inl (subst IsDeep (sym (wanted_step (run (Begin []) ts) words.Open at q.stack q.is)) (omega arith))
opens_deep text depth ts t (faults.Flip l _ count at _ b) many =
    let q = may_lead l depth count ts words.Tilde b in
    let has = q.has_depth in
    inl (subst IsDeep (sym (wanted_step (run (Begin []) ts) words.Tilde at q.stack q.is)) (omega arith))
opens_deep text depth ts t (faults.Negate l _ count at _ next b behind non) many =
    let q = may_lead l depth count ts minus b in
    let has = q.has_depth in
    inr (record { deep = subst IsSignDeep (sym (wanted_step (run (Begin []) ts) minus at q.stack q.is)) (omega arith); next = next; behind = behind; no_number = non })
opens_deep text depth _ t (faults.Call l _ count place at callee before b) many =
    let q = may_lead l depth count before (words.Call callee) b in
    let has = q.has_depth in
    inl (subst (λ s. IsDeep (step s (token at words.Open))) (sym (led before (token place (words.Call callee)) [] q.stack q.is)) (omega arith))

operand_counts : (word : Word) (at : ℕ) (stack : List Frame) → IsOperand word → nodes_read (want word at stack) ≡ count_of stack + 1
operand_counts (words.Name name) at stack is = want_counts (words.Name name) at stack (λ e. have_stuck e)
  where
    have_stuck : {e : Expr} {stack : List Frame} → Have e stack ≡ Stuck → ⊥
    have_stuck is = cc
operand_counts (words.Number n) at stack is = want_counts (words.Number n) at stack (λ e. have_stuck e)
  where
    have_stuck : {e : Expr} {stack : List Frame} → Have e stack ≡ Stuck → ⊥
    have_stuck is = cc
operand_counts (words.Operator operators.Minus) at stack is = refl
operand_counts words.Tilde at stack is = refl
operand_counts (words.Call callee) at stack is = refl
operand_counts _ at stack is = absurd is

-- the law: a node's token counts one
pub node_counts : (count : ℕ) (ts : List Token) (t : Token) → IsNode count ts t → nodes_read (step (run (Begin []) ts) t) ≡ count + 1
node_counts count ts t (faults.Operand l depth _ _ _ b is) =
    let q = may_lead l depth count ts t.word b in
    let has = q.has_count in
    ap nodes_read (wanted_step (run (Begin []) ts) t.word t.at q.stack q.is) ∙ operand_counts t.word t.at q.stack is ∙ ap (λ n. n + 1) has
node_counts _ _ t (faults.Sign l depth count at op before rest first a b le d) =
    let q = may_lead l depth count before first.word b in
    let up = left_up_to op in
    let has = q.has_room in
    let counts = q.has_count in
    let left_fits : left_level op ≤ room q.stack = omega arith in
    ap nodes_read
    (sym (run_on step (Begin []) (before ++ first ∷ rest) (token at (words.Operator op) ∷ []))
    ∙ ap (run (Begin [])) (append_assoc before (first ∷ rest) (token at (words.Operator op) ∷ []))
    ∙ led before first (rest ++ token at (words.Operator op) ∷ []) q.stack q.is
    ∙ behind_sign at op (first ∷ rest) [] a q.stack (omega arith) (reads (left_level op) (first ∷ rest) a d q.stack left_fits))
    ∙ ap (λ n. n + nodes (tree_of a) + 1) counts

operand_is : (word : Word) → is_operand word ≡ true → IsOperand word
operand_is (words.Name name) is = tt
operand_is (words.Number n) is = tt
operand_is (words.Operator operators.Minus) is = tt
operand_is words.Tilde is = tt
operand_is (words.Call callee) is = tt
operand_is _ is = absurd (cc)

prefixed_is : (word : Word) → is_prefixed word ≡ true → IsOperand word × (¬ IsNumber word)
prefixed_is (words.Number n) is = absurd (cc)
prefixed_is word is = (operand_is word is, λ h. h)

sign_fits : (a b : ℕ) (s : State) (c : Bool) → nat_le a b ≡ c → choose c s Stuck ≢ Stuck → a ≤ b
sign_fits a b s true is goes = grind arith
sign_fits a b s false is goes = absurd (goes refl)

sign_node : (ts : List Token) (at : ℕ) (op : Operator) (s : State) → IsReduced (left_level op) ts s → act (token at (words.Operator op)) s ≢ Stuck → IsNode (nodes_read s) ts (token at (words.Operator op))
sign_node ts at op (Have e stack) p goes =
    let (first, rest, is) = some_tokens p.own_level p.own e p.expr in
    let fits = sign_fits (level op) (room stack) (Want (frames.Binary at op e ∷ stack)) (nat_le (level op) (room stack)) refl goes in
    let d : IsExpr (left_level op) p.own e = wider p.own_level (left_level op) p.own e p.expr p.up_to in
    subst (λ x. IsNode (count_of stack + nodes (tree_of e)) x (token at (words.Operator op))) (sym (p.all ∙ ap (λ x. p.before ++ x) is))
    (faults.Sign (room stack) (depth_of stack) (count_of stack) at op p.before rest first e (stands_may stack p.before first.word p.behind (starts_follow stack first rest p.own is p.starts)) fits (subst (λ x. IsExpr (left_level op) x e) is d))
sign_node ts at op _ p goes = absurd p

have_node : (ts : List Token) (e : Expr) (stack : List Frame) (at : ℕ) (word : Word) → IsPlaced 0 ts e stack → is_sign word ≡ true → act (token at word) (reduce (reach_of (op_of word)) e stack) ≢ Stuck → IsNode (nodes_read (Have e stack)) ts (token at word)
have_node ts e stack at (words.Operator op) p is goes =
    subst (λ n. IsNode n ts (token at (words.Operator op))) (reduce_counts (left_level op) e stack) (sign_node ts at op (reduce (left_level op) e stack) (reduced (left_level op) ts e stack (at_level (left_level op) ts e stack p)) goes)
have_node ts e stack at _ p is goes = absurd (cc)

-- the law: a step that counts one is at a node's token
pub counted_node : (ts : List Token) (phase : Phase) (stack : List Frame) (t : Token) → IsRead ts (reading.state_of phase stack) → begins_node phase t.word ≡ true → step (reading.state_of phase stack) t ≢ Stuck → IsNode (nodes_read (reading.state_of phase stack)) ts t
counted_node ts phases.Want stack t p is goes = faults.Operand (room stack) (depth_of stack) (count_of stack) ts t (stands_may stack ts t.word p.0 (p.1 t.word)) (operand_is t.word is)
counted_node ts (phases.Minus at) stack t (before, st, all, f) is goes =
    let q = prefixed_is t.word is in
    faults.Operand 0 (depth_of stack + 1) (count_of stack + 1) ts t (stands_may (frames.Prefix at prefixes.Negate ∷ stack) ts t.word (before, st, all) q.1) q.0
counted_node ts (phases.Have e) stack t p is goes = have_node ts e stack t.at t.word p is goes
counted_node ts _ stack t p is goes = absurd (cc)
