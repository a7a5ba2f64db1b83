-- How many nodes have their token before, from step to step.
use Rattle.std.proofs.Common.{◌≡◌, ◌≢◌, ◌↔◌, ◌⊎◌, inl, inr, ⊎_elim, ℕ, ◌+◌, ◌≤◌, ◌<◌, Bool, true, false, List, [], ◌∷◌, ◌++◌, length, Option, Some, None, refl, sym, ap, subst, ◌∙◌, arith, append_assoc, append-nil, length-append}
use Rattle.std.specs.Prelude.{nat_le, nat_lt, pos, neg_ℤ, ℤ}
use Rattle.ven_base.specs.declared.elem.Elem.TheVariants as elems
use Rattle.ven_base.specs.declared.ops.Op1.TheVariants as unary
use Rattle.ven_io.specs.Reader.{Reader, Begins, Follows as FollowsGrammar, run_from}
use Rattle.ven_io.proofs.Readers.{run_on, begins_iff}
use Rattle.array_syntax.specs.declared.call.Earlier.{Earlier}
use Rattle.array_syntax.specs.declared.call.Earlier.TheVariants as earlier
use Rattle.array_syntax.specs.declared.call.MapCall.{MapCall}
use Rattle.array_syntax.specs.declared.call.Number.{Number}
use Rattle.array_syntax.specs.declared.frames.Frame.{Frame}
use Rattle.array_syntax.specs.declared.frames.Frame.TheVariants as frames
use Rattle.array_syntax.specs.declared.frames.Sign.{Sign}
use Rattle.array_syntax.specs.declared.frames.Sign.TheVariants as prefixes
use Rattle.array_syntax.specs.declared.machine.Part.{Part}
use Rattle.array_syntax.specs.declared.machine.Part.TheVariants as parts
use Rattle.array_syntax.specs.declared.program.Expr.{Expr}
use Rattle.array_syntax.specs.declared.program.ExprKind.{ExprKind}
use Rattle.array_syntax.specs.declared.program.ExprKind.TheVariants as kinds
use Rattle.array_syntax.specs.declared.program.Stmt.{Stmt}
use Rattle.array_syntax.specs.declared.program.Stmt.TheVariants as stmts
use Rattle.array_syntax.specs.declared.word.Binding.{Binding}
use Rattle.array_syntax.specs.declared.word.Binding.TheVariants as bindings
use Rattle.array_syntax.specs.declared.word.Callee.{Callee}
use Rattle.array_syntax.specs.declared.word.Callee.TheVariants as callees
use Rattle.array_syntax.specs.declared.word.Operator.{Operator}
use Rattle.array_syntax.specs.declared.word.Operator.TheVariants as operators
use Rattle.array_syntax.specs.declared.word.Token.{Token}
use Rattle.array_syntax.specs.declared.word.Word.{Word}
use Rattle.array_syntax.specs.declared.word.Word.TheVariants as words
use Rattle.array_syntax.specs.Grammar as grammar
use Rattle.array_syntax.specs.Grammar.{token, expr, minus, IsNumber, count, followed, bound, IsNumberArgument, Plain, Signed, AreNumbers, Nothing, More, IsExpr, Name, Literal, Negative, Brackets, Flip, Negate, Two, Call, Map, IsBegun, Opened, Argued, AreStatements, Empty, Bound}
use Rattle.array_syntax.specs.Reading as reading
use Rattle.array_syntax.specs.Reading.{State, Begin, AfterWord, AfterName, Want, Minus, Called, Have, WantNumber, SignedNumber, HaveNumber, Stuck, room, choose, one, two, reduce, tight, reach_of, op_of, placed, made, mapped, argued, close, act_of, act, want, after_minus, called, with_value, want_number, signed_number, have_number, begin, input, after_word, after_name, step, ending, reader, run, depth_of, count_of, nodes_read, unless_number, wanted}
use Rattle.array_syntax.specs.Table as table
use Rattle.array_syntax.specs.Table.{loosest, level, left_level, right_level, operands, numbers, takes_sign, call_of, map_of}
use Rattle.array_syntax.specs.Faults as faults
use Rattle.array_syntax.specs.Faults.{nodes_before, MayBegin, AtValue, InBrackets, BehindFlip, BehindNegate, BehindSign, InCall, EndsWith, EndsTooHigh, last_of, IsOperand, IsNode, Opens, IsNumberNext}
use Rattle.array_syntax.specs.Limits.{nodes, program_nodes, nodes_of, height, most_height, most_nodes, most_statements}
use Rattle.array_syntax.specs.Tree.{tree_of}
use Rattle.std.specs.Prelude.{max}
use Rattle.array_syntax.specs.declared.machine.Phase.{Phase}
use Rattle.array_syntax.specs.declared.machine.Phase.TheVariants as phases
use Rattle.array_syntax.specs.Steps.{opens, IsHigher, IsTooHigh, is_operand, is_sign, is_prefixed, begins_node, and_one, IsDeep, IsCrowded, IsFull, IsSignDeep, IsSignFull, depth_in}
use Rattle.array_syntax.proofs.Functions.{up_to_three, nodes_followed, call_nodes, map_nodes}
use Rattle.array_syntax.proofs.Trees.{tree_one, tree_two, tree_name, tree_literal}

one_node : (at : ℕ) (sign : Sign) (e : Expr) → nodes (tree_of (one at sign e)) ≡ nodes (tree_of e) + 1
one_node at sign e = ap nodes (tree_one at (reading.prefix_operation sign) e)

two_node : (at : ℕ) (op : Operator) (a e : Expr) → nodes (tree_of (two at op a e)) ≡ nodes (tree_of a) + nodes (tree_of e) + 1
two_node at op a e = ap nodes (tree_two at (table.operation op) a e)

literal_node : (at : ℕ) (n : ℤ) → nodes (tree_of (expr at (kinds.Literal n))) ≡ 1
literal_node at n = ap nodes (tree_literal at n)

name_node : (at : ℕ) (name : List ℕ) → nodes (tree_of (expr at (kinds.Name name))) ≡ 1
name_node at name = ap nodes (tree_name at name)

chosen_counts : (l at : ℕ) (op : Operator) (a e : Expr) (stack : List Frame) → nodes_read (reduce l (two at op a e) stack) ≡ count_of stack + nodes (tree_of (two at op a e)) → (b : Bool) → nodes_read (choose b (reduce l (two at op a e) stack) (Have e (frames.Binary at op a ∷ stack))) ≡ count_of stack + nodes (tree_of a) + 1 + nodes (tree_of e)
chosen_counts l at op a e stack ih true = let is = two_node at op a e in omega (arith, ih)
chosen_counts l at op a e stack ih false = refl

-- reducing moves nodes and makes none
pub reduce_counts : (l : ℕ) (e : Expr) (stack : List Frame) → nodes_read (reduce l e stack) ≡ count_of stack + nodes (tree_of e)
reduce_counts l e [] = refl
reduce_counts l e (frames.Body done binding name at ∷ stack) = refl
reduce_counts l e (frames.Prefix at sign ∷ stack) = let is = one_node at sign e in omega (arith, reduce_counts l (one at sign e) stack)
reduce_counts l e (frames.Binary at op a ∷ stack) = chosen_counts l at op a e stack (reduce_counts l (two at op a e) stack) (nat_le (level op) l)
reduce_counts l e (frames.Bracket ∷ stack) = refl
reduce_counts l e (frames.Call at callee before ∷ stack) = refl

nodes_in_more : (done : List Stmt) (stmt : Stmt) → program_nodes (done ++ stmt ∷ []) ≡ program_nodes done + nodes_of stmt
nodes_in_more [] stmt = omega arith
nodes_in_more (first ∷ done) stmt = omega (arith, nodes_in_more done stmt)

nodes_bound : (binding : Binding) (name : List ℕ) (at : ℕ) (e : Expr) → nodes_of (bound binding name at e) ≡ nodes (tree_of e)
nodes_bound bindings.Let name at e = refl
nodes_bound bindings.Output name at e = refl

-- a word where an operand is wanted
pub want_counts : (word : Word) (at : ℕ) (stack : List Frame) → want word at stack ≢ Stuck → nodes_read (want word at stack) ≡ and_one (is_operand word) (count_of stack)
want_counts (words.Name name) at stack goes = let is = name_node at name in omega arith
want_counts (words.Number n) at stack goes = let is = literal_node at (pos n) in omega arith
want_counts (words.Operator operators.Minus) at stack goes = refl
want_counts words.Tilde at stack goes = refl
want_counts words.Open at stack goes = refl
want_counts (words.Call callee) at stack goes = refl
want_counts _ at stack goes = absurd (goes refl)

minus_counts : (word : Word) (at place : ℕ) (stack : List Frame) → after_minus word at place stack ≢ Stuck → nodes_read (after_minus word at place stack) ≡ and_one (is_prefixed word) (count_of stack + 1)
minus_counts (words.Number n) at place stack goes = let is = literal_node place (neg_ℤ (pos n)) in omega arith
minus_counts word at place stack goes = want_counts word at (frames.Prefix place prefixes.Negate ∷ stack) goes

made_counts : (at : ℕ) (callee : Callee) (before : Earlier) (e : Expr) (stack : List Frame) (o : Option ExprKind) → call_of callee before e ≡ o → made (placed at o) stack ≢ Stuck → nodes_read (made (placed at o) stack) ≡ count_of stack + nodes_before before + 1 + nodes (tree_of e)
made_counts at callee before e stack None is goes = absurd (goes refl)
made_counts at callee before e stack (Some kind) is goes = let n = call_nodes at callee before e kind is in omega arith

mapped_counts : (at : ℕ) (callee : Callee) (e : Expr) (stack : List Frame) (b : Bool) → choose b (WantNumber (record { at = at; callee = callee; of = e; values = [] }) stack) Stuck ≢ Stuck → nodes_read (choose b (WantNumber (record { at = at; callee = callee; of = e; values = [] }) stack) Stuck) ≡ count_of stack + 0 + 1 + nodes (tree_of e)
mapped_counts at callee e stack true goes = omega arith
mapped_counts at callee e stack false goes = absurd (goes refl)

mapping_counts : (at : ℕ) (callee : Callee) (before : Earlier) (e : Expr) (stack : List Frame) → mapped at callee before e stack ≢ Stuck → nodes_read (mapped at callee before e stack) ≡ count_of stack + nodes_before before + 1 + nodes (tree_of e)
mapping_counts at callee earlier.Nothing e stack goes = mapped_counts at callee e stack (nat_lt 0 (numbers callee)) goes
mapping_counts at callee _ e stack goes = absurd (goes refl)

argued_counts : (at : ℕ) (callee : Callee) (before : Earlier) (e : Expr) (stack : List Frame) (b : Bool) → nat_lt (count before + 1) (operands callee) ≡ b → choose b (Want (frames.Call at callee (followed before e) ∷ stack)) (mapped at callee before e stack) ≢ Stuck → nodes_read (choose b (Want (frames.Call at callee (followed before e) ∷ stack)) (mapped at callee before e stack)) ≡ count_of stack + nodes_before before + 1 + nodes (tree_of e)
argued_counts at callee before e stack true is goes =
    let most = up_to_three callee in
    let lt : count before + 1 < operands callee = grind arith in
    let n = nodes_followed before e (omega arith) in
    omega arith
argued_counts at callee before e stack false is goes = mapping_counts at callee before e stack goes

closed_counts : (word : Word) (e : Expr) (stack : List Frame) → close word e stack ≢ Stuck → nodes_read (close word e stack) ≡ count_of stack + nodes (tree_of e)
closed_counts words.Close e (frames.Bracket ∷ stack) goes = refl
closed_counts words.Close e (frames.Call at callee before ∷ stack) goes = made_counts at callee before e stack (call_of callee before e) refl goes
closed_counts words.Comma e (frames.Call at callee before ∷ stack) goes = argued_counts at callee before e stack (nat_lt (count before + 1) (operands callee)) refl goes
closed_counts words.Semicolon e (frames.Body done binding name at ∷ stack) goes =
    let all = nodes_in_more done (bound binding name at e) in
    let own = nodes_bound binding name at e in
    omega arith
closed_counts _ e _ goes = absurd (goes refl)

chosen_sign : (at : ℕ) (op : Operator) (e : Expr) (stack : List Frame) (b : Bool) → choose b (Want (frames.Binary at op e ∷ stack)) Stuck ≢ Stuck → nodes_read (choose b (Want (frames.Binary at op e ∷ stack)) Stuck) ≡ count_of stack + nodes (tree_of e) + 1
chosen_sign at op e stack true goes = refl
chosen_sign at op e stack false goes = absurd (goes refl)

acted_word : (at : ℕ) (word : Word) (e : Expr) (stack : List Frame) → act (token at word) (Have e stack) ≢ Stuck → nodes_read (act (token at word) (Have e stack)) ≡ and_one (is_sign word) (count_of stack + nodes (tree_of e))
acted_word at (words.Operator op) e stack goes = chosen_sign at op e stack (nat_le (level op) (room stack)) goes
acted_word at words.Close e stack goes = closed_counts words.Close e stack goes
acted_word at words.Comma e stack goes = closed_counts words.Comma e stack goes
acted_word at words.Semicolon e stack goes = closed_counts words.Semicolon e stack goes
acted_word at _ e stack goes = absurd (goes refl)

acted_counts : (t : Token) (s : State) (n : ℕ) → nodes_read s ≡ n → act t s ≢ Stuck → nodes_read (act t s) ≡ and_one (is_sign t.word) n
acted_counts t (Have e stack) n is goes = acted_word t.at t.word e stack goes ∙ ap (and_one (is_sign t.word)) is
acted_counts t _ n is goes = absurd (goes refl)

input_counts : (part : Part) (word : Word) (at : ℕ) (done : List Stmt) → input part word at done ≢ Stuck → nodes_read (input part word at done) ≡ program_nodes done
input_counts parts.AfterWord (words.Name name) at done goes = refl
input_counts (parts.AfterName name place) (words.Call (callees.Cast elem)) at done goes = refl
input_counts (parts.AfterType h) words.OpenSquare at done goes = refl
input_counts (parts.AfterOpen h shape_at) (words.Number rows) at done goes = refl
input_counts (parts.AfterRows h shape_at rows) words.Comma at done goes = refl
input_counts (parts.AfterComma h shape_at rows) (words.Number cols) at done goes = refl
input_counts (parts.AfterCols h shape_at rows cols) words.CloseSquare at done goes = refl
input_counts (parts.AfterClose h shape_at rows cols) words.Semicolon at done goes = nodes_in_more done (stmts.Input h.name h.at h.elem (pos rows) (pos cols) shape_at) ∙ omega arith
input_counts _ _ at done goes = absurd (goes refl)

begin_counts : (word : Word) (done : List Stmt) → begin word done ≢ Stuck → nodes_read (begin word done) ≡ program_nodes done
begin_counts words.Input done goes = refl
begin_counts (words.Bind binding) done goes = refl
begin_counts _ done goes = absurd (goes refl)

word_counts : (word : Word) (at : ℕ) (done : List Stmt) (binding : Binding) → after_word word at done binding ≢ Stuck → nodes_read (after_word word at done binding) ≡ program_nodes done
word_counts (words.Name name) at done binding goes = refl
word_counts _ at done binding goes = absurd (goes refl)

name_counts : (word : Word) (done : List Stmt) (binding : Binding) (name : List ℕ) (at : ℕ) → after_name word done binding name at ≢ Stuck → nodes_read (after_name word done binding name at) ≡ program_nodes done
name_counts words.Assign done binding name at goes = refl
name_counts _ done binding name at goes = absurd (goes refl)

called_counts : (word : Word) (at : ℕ) (callee : Callee) (stack : List Frame) → called word at callee stack ≢ Stuck → nodes_read (called word at callee stack) ≡ count_of stack + 1
called_counts words.Open at callee stack goes = omega arith
called_counts _ at callee stack goes = absurd (goes refl)

abbrev call_nodes_read : MapCall → List Frame → ℕ
call_nodes_read call stack = count_of stack + nodes (tree_of call.of) + 1

sign_counts : (at : ℕ) (call : MapCall) (stack : List Frame) (b : Bool) → choose b (SignedNumber at call stack) Stuck ≢ Stuck → nodes_read (choose b (SignedNumber at call stack) Stuck) ≡ call_nodes_read call stack
sign_counts at call stack true goes = refl
sign_counts at call stack false goes = absurd (goes refl)

number_counts : (word : Word) (at : ℕ) (call : MapCall) (stack : List Frame) → want_number word at call stack ≢ Stuck → nodes_read (want_number word at call stack) ≡ call_nodes_read call stack
number_counts (words.Number n) at call stack goes = refl
number_counts (words.Operator operators.Minus) at call stack goes = sign_counts at call stack (takes_sign call.callee) goes
number_counts _ at call stack goes = absurd (goes refl)

signed_counts : (word : Word) (at : ℕ) (call : MapCall) (stack : List Frame) → signed_number word at call stack ≢ Stuck → nodes_read (signed_number word at call stack) ≡ call_nodes_read call stack
signed_counts (words.Number n) at call stack goes = refl
signed_counts _ at call stack goes = absurd (goes refl)

comma_counts : (call : MapCall) (stack : List Frame) (b : Bool) → choose b (WantNumber call stack) Stuck ≢ Stuck → nodes_read (choose b (WantNumber call stack) Stuck) ≡ call_nodes_read call stack
comma_counts call stack true goes = refl
comma_counts call stack false goes = absurd (goes refl)

map_counts : (call : MapCall) (stack : List Frame) (o : Option ExprKind) → map_of call.callee call.of call.values ≡ o → made (placed call.at o) stack ≢ Stuck → nodes_read (made (placed call.at o) stack) ≡ call_nodes_read call stack
map_counts call stack None is goes = absurd (goes refl)
map_counts call stack (Some kind) is goes = let n = map_nodes call.at call.callee call.of call.values kind is in omega arith

have_counts : (word : Word) (call : MapCall) (stack : List Frame) → have_number word call stack ≢ Stuck → nodes_read (have_number word call stack) ≡ call_nodes_read call stack
have_counts words.Comma call stack goes = comma_counts call stack (nat_lt (length call.values) (numbers call.callee)) goes
have_counts words.Close call stack goes = map_counts call stack (map_of call.callee call.of call.values) refl goes
have_counts _ call stack goes = absurd (goes refl)

-- the law: a step counts one node where it begins one
pub count_step : (phase : Phase) (stack : List Frame) (t : Token) → step (reading.state_of phase stack) t ≢ Stuck → nodes_read (step (reading.state_of phase stack) t) ≡ and_one (begins_node phase t.word) (nodes_read (reading.state_of phase stack))
count_step (phases.Begin done) stack t goes = begin_counts t.word done goes
count_step (phases.Input done part) stack t goes = input_counts part t.word t.at done goes
count_step (phases.AfterWord done binding) stack t goes = word_counts t.word t.at done binding goes
count_step (phases.AfterName done binding name at) stack t goes = name_counts t.word done binding name at goes
count_step phases.Want stack t goes = want_counts t.word t.at stack goes
count_step (phases.Minus at) stack t goes = minus_counts t.word t.at at stack goes
count_step (phases.Called at callee) stack t goes = called_counts t.word at callee stack goes
count_step (phases.Have e) stack t goes = acted_counts t (reduce (reach_of (op_of t.word)) e stack) _ (reduce_counts (reach_of (op_of t.word)) e stack) goes
count_step (phases.WantNumber call) stack t goes = number_counts t.word t.at call stack goes
count_step (phases.SignedNumber at call) stack t goes = signed_counts t.word at call stack goes
count_step (phases.HaveNumber call) stack t goes = have_counts t.word call stack goes
count_step phases.Stuck stack t goes = absurd (goes refl)
