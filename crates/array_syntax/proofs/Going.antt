-- The parser follows the grammar: from each state that isn't stuck some tokens end a program.
use Rattle.std.proofs.Common.{◌≡◌, ◌≢◌, ◌↔◌, ◌⊎◌, inl, inr, ⊎_elim, ℕ, ◌+◌, ◌≤◌, ◌<◌, Bool, true, false, List, [], ◌∷◌, ◌++◌, length, Option, Some, None, refl, sym, ap, subst, ◌∙◌, ◌-◌, zero, suc, arith, append_assoc, append-nil, length-append}
use Rattle.std.specs.Prelude.{nat_le, nat_lt, pos, neg_ℤ, ℤ}
use Rattle.ven_base.specs.declared.elem.Elem.TheVariants as elems
use Rattle.ven_base.specs.declared.ops.Op1.TheVariants as unary
use Rattle.ven_io.specs.Reader.{Reader, Begins, Follows as FollowsGrammar, run_from}
use Rattle.ven_io.proofs.Readers.{run_on, begins_iff}
use Rattle.array_syntax.specs.declared.call.Earlier.{Earlier}
use Rattle.array_syntax.specs.declared.call.Earlier.TheVariants as earlier
use Rattle.array_syntax.specs.declared.call.MapCall.{MapCall}
use Rattle.array_syntax.specs.declared.call.Number.{Number}
use Rattle.array_syntax.specs.declared.frames.Frame.{Frame}
use Rattle.array_syntax.specs.declared.frames.Frame.TheVariants as frames
use Rattle.array_syntax.specs.declared.frames.Sign.{Sign}
use Rattle.array_syntax.specs.declared.frames.Sign.TheVariants as prefixes
use Rattle.array_syntax.specs.declared.machine.Part.{Part}
use Rattle.array_syntax.specs.declared.machine.Part.TheVariants as parts
use Rattle.array_syntax.specs.declared.program.Expr.{Expr}
use Rattle.array_syntax.specs.declared.program.ExprKind.{ExprKind}
use Rattle.array_syntax.specs.declared.program.ExprKind.TheVariants as kinds
use Rattle.array_syntax.specs.declared.program.Stmt.{Stmt}
use Rattle.array_syntax.specs.declared.program.Stmt.TheVariants as stmts
use Rattle.array_syntax.specs.declared.word.Binding.{Binding}
use Rattle.array_syntax.specs.declared.word.Binding.TheVariants as bindings
use Rattle.array_syntax.specs.declared.word.Callee.{Callee}
use Rattle.array_syntax.specs.declared.word.Callee.TheVariants as callees
use Rattle.array_syntax.specs.declared.word.Operator.{Operator}
use Rattle.array_syntax.specs.declared.word.Operator.TheVariants as operators
use Rattle.array_syntax.specs.declared.word.Token.{Token}
use Rattle.array_syntax.specs.declared.word.Word.{Word}
use Rattle.array_syntax.specs.declared.word.Word.TheVariants as words
use Rattle.array_syntax.specs.Grammar as grammar
use Rattle.array_syntax.specs.Grammar.{token, expr, minus, IsNumber, count, followed, bound, IsNumberArgument, Plain, Signed, AreNumbers, Nothing, More, IsExpr, Name, Literal, Negative, Brackets, Flip, Negate, Two, Call, Map, IsBegun, Opened, Argued, AreStatements, Empty, Bound}
use Rattle.array_syntax.specs.Reading as reading
use Rattle.array_syntax.specs.Reading.{State, Begin, AfterWord, AfterName, Want, Minus, Called, Have, WantNumber, SignedNumber, HaveNumber, Stuck, room, choose, one, two, reduce, tight, reach_of, op_of, placed, made, mapped, argued, close, act_of, act, want, after_minus, called, with_value, want_number, signed_number, have_number, begin, input, after_word, after_name, step, ending, reader, run, depth_of, count_of, nodes_read, unless_number, wanted}
use Rattle.array_syntax.specs.Table.{loosest, level, left_level, right_level, operands, numbers, takes_sign, call_of, map_of}
use Rattle.array_syntax.proofs.Functions.{from_one, up_to_three, last_operand, IsLast, map_made, count_followed, count_follows}
use Rattle.array_syntax.proofs.Complete.{reads_program, argued_maps, map_call}
use Rattle.array_syntax.proofs.Reducing.{level_up_to, reduce_binary, is_lt, some_is, none_some}
use Rattle.array_syntax.proofs.Stands.{Stands, HasNumbers, IsRead}
use Rattle.array_syntax.proofs.Stepping.{is_read}

-- some tokens lead from the state to a whole program
abbrev pub CanEnd : State → Type 0
CanEnd s = (rest : List Token) × (p : List Stmt) × (run s rest ≡ Begin p)

-- some tokens do, of which the first is no binary sign
abbrev pub CanClose : Expr → List Frame → Type 0
CanClose e stack = (word : Word) × (rest : List Token) × (p : List Stmt) × (op_of word ≡ None) × (run (step (Have e stack) (token 0 word)) rest ≡ Begin p)

abbrev zero_expr : Expr
zero_expr = expr 0 (kinds.Literal (pos 0))

abbrev zero_token : Token
zero_token = token 0 (words.Number 0)

-- behind a number of a call
numbers_close : (k : ℕ) (call : MapCall) (stack : List Frame) → length call.values + k ≡ numbers call.callee → 0 < numbers call.callee → ((e : Expr) → CanClose e stack) → CanEnd (HaveNumber call stack)
numbers_close zero call stack all some closes =
    let (kind, is) = map_made call.callee call.of call.values (omega arith) some in
    let (word, rest, p, plain, ends) = closes (expr call.at kind) in
    (token 0 words.Close ∷ token 0 word ∷ rest, p, ap (λ o. run (step (made (placed call.at o) stack) (token 0 word)) rest) is ∙ ends)
numbers_close (suc k) call stack all some closes =
    let len = length-append call.values (record { at = 0; value = pos 0 } ∷ []) in
    let (rest, p, ends) = numbers_close k (with_value call (record { at = 0; value = pos 0 })) stack (omega arith) some closes in
    (token 0 words.Comma ∷ zero_token ∷ rest, p, ap (λ b. run (step (choose b (WantNumber call stack) Stuck) zero_token) rest) (is_lt (length call.values) (numbers call.callee) (omega arith)) ∙ ends)

-- behind the last operand of a call
close_last : (at : ℕ) (callee : Callee) (before : Earlier) (e : Expr) (stack : List Frame) → ((x : Expr) → CanClose x stack) → IsLast callee before e → CanClose e (frames.Call at callee before ∷ stack)
close_last at callee before e stack closes (inl (kind, is)) =
    let (word, rest, p, plain, ends) = closes (expr at kind) in
    (words.Close, token 0 word ∷ rest, p, refl, ap (λ o. run (step (made (placed at o) stack) (token 0 word)) rest) is ∙ ends)
close_last at callee before e stack closes (inr (none, single, some)) =
    let call = map_call at callee e (record { at = 0; value = pos 0 } ∷ []) in
    let (k, fill) = rest_of 1 (numbers callee) some in
    let (rest, p, ends) = numbers_close k call stack fill some closes in (
      words.Comma,
      zero_token ∷ rest,
      p,
      refl,
      ap (λ b. run (step (argued at callee b e stack) zero_token) rest) none
          ∙ ap (λ s. run (step s zero_token) rest) (argued_maps at callee e stack single some) ∙ ends,
    )
  where
    rest_of : (a b : ℕ) → a ≤ b → (k : ℕ) × (a + k ≡ b)
    rest_of a b le = (b - a, omega arith)

-- behind an operand of a call, of which some more are wanted
close_call : (k at : ℕ) (callee : Callee) (before : Earlier) (e : Expr) (stack : List Frame) → ((x : Expr) → CanClose x stack) → count before + 1 + k ≡ operands callee → CanClose e (frames.Call at callee before ∷ stack)
close_call zero at callee before e stack closes all = close_last at callee before e stack closes (last_operand callee before e (omega arith))
close_call (suc k) at callee before e stack closes all =
    let most = up_to_three callee in
    let counts = count_follows before e (omega arith) in
    let (word, rest, p, plain, ends) = close_call k at callee (followed before e) zero_expr stack closes (omega arith) in (
      words.Comma,
      zero_token ∷ token 0 word ∷ rest,
      p,
      refl,
      ap (λ b. run (step (step (choose b (Want (frames.Call at callee (followed before e) ∷ stack)) (mapped at callee before e stack)) zero_token) (token 0 word)) rest) (is_lt (count before + 1) (operands callee) (omega arith)) ∙ ends,
    )

-- a call has fewer operands before than it takes
begun_less : (at : ℕ) (callee : Callee) (before : Earlier) (begun : List Token) → IsBegun at callee before begun → count before < operands callee
begun_less at callee before begun (Opened _ opening _) = from_one callee
begun_less at callee _ begun (Argued _ comma _ before front own e b lt d) = let most = count_followed before e in omega arith

room_left : (a b : ℕ) → a < b → (k : ℕ) × (a + 1 + k ≡ b)
room_left a b lt = (b - (a + 1), omega arith)

closes : (stack : List Frame) (ts : List Token) → Stands stack ts → (e : Expr) → CanClose e stack
closes [] ts st e = absurd st
closes (frames.Body done binding name at ∷ stack) ts st e = (words.Semicolon, [], done ++ bound binding name at e ∷ [], refl, refl)
closes (frames.Prefix at sign ∷ stack) ts (before, st, all) e = closes stack before st (one at sign e)
closes (frames.Binary at op a ∷ stack) ts (before, left, st, fits, d, all) e =
    let (word, rest, p, is, ends) = closes stack before st (two at op a e) in
    let reaches : reach_of (op_of word) ≡ loosest = ap reach_of is in
    let up = level_up_to op in
    let le : level op ≤ reach_of (op_of word) = omega arith in
    (word, rest, p, is, ap (λ s. run (act (token 0 word) s) rest) (reduce_binary (reach_of (op_of word)) at op a e stack le) ∙ ends)
closes (frames.Bracket ∷ stack) ts (before, at, st, all) e =
    let (word, rest, p, is, ends) = closes stack before st e in
    (words.Close, token 0 word ∷ rest, p, refl, ends)
closes (frames.Call at callee before ∷ stack) ts (outer, begun, st, b, all) e =
    let (k, fill) = room_left (count before) (operands callee) (begun_less at callee before begun b) in
    close_call k at callee before e stack (λ x. closes stack outer st x) fill

-- behind a whole expression
ends_behind : (e : Expr) (stack : List Frame) → CanClose e stack → CanEnd (Have e stack)
ends_behind e stack (word, rest, q, is, ends) = (token 0 word ∷ rest, q, ends)

-- where a number of a call is wanted
wants_number : (call : MapCall) (stack : List Frame) → length call.values < numbers call.callee → ((e : Expr) → CanClose e stack) → CanEnd (WantNumber call stack)
wants_number call stack less closes =
    let len = length-append call.values (record { at = 0; value = pos 0 } ∷ []) in
    let (k, fill) = room_left (length call.values) (numbers call.callee) less in
    let (rest, p, ends) = numbers_close k (with_value call (record { at = 0; value = pos 0 })) stack (omega arith) (omega arith) closes in
    (zero_token ∷ rest, p, ends)

signed_ends : (at : ℕ) (call : MapCall) (stack : List Frame) → length call.values < numbers call.callee → ((e : Expr) → CanClose e stack) → CanEnd (SignedNumber at call stack)
signed_ends at call stack less closes =
    let len = length-append call.values (record { at = at; value = neg_ℤ (pos 0) } ∷ []) in
    let (k, fill) = room_left (length call.values) (numbers call.callee) less in
    let (rest, p, ends) = numbers_close k (with_value call (record { at = at; value = neg_ℤ (pos 0) })) stack (omega arith) (omega arith) closes in
    (zero_token ∷ rest, p, ends)

after_number : (call : MapCall) (stack : List Frame) → length call.values ≤ numbers call.callee → 0 < numbers call.callee → ((e : Expr) → CanClose e stack) → CanEnd (HaveNumber call stack)
after_number call stack le some closes = let (k, fill) = rest_of (length call.values) (numbers call.callee) le in numbers_close k call stack fill some closes
  where
    rest_of : (a b : ℕ) → a ≤ b → (k : ℕ) × (a + k ≡ b)
    rest_of a b le = (b - a, omega arith)

abbrev cast_word : Word
cast_word = words.Call (callees.Cast elems.U8)

abbrev input_end : List Token
input_end = token 0 words.CloseSquare ∷ token 0 words.Semicolon ∷ []

abbrev cols_end : List Token
cols_end = zero_token ∷ input_end

abbrev shape_end : List Token
shape_end = token 0 words.OpenSquare ∷ zero_token ∷ token 0 words.Comma ∷ cols_end

part_ends : (part : Part) (done : List Stmt) → CanEnd (reading.Input done part)
part_ends parts.AfterWord done = (token 0 (words.Name []) ∷ token 0 cast_word ∷ shape_end, done ++ stmts.Input [] 0 elems.U8 (pos 0) (pos 0) 0 ∷ [], refl)
part_ends (parts.AfterName name at) done = (token 0 cast_word ∷ shape_end, done ++ stmts.Input name at elems.U8 (pos 0) (pos 0) 0 ∷ [], refl)
part_ends (parts.AfterType h) done = (shape_end, done ++ stmts.Input h.name h.at h.elem (pos 0) (pos 0) 0 ∷ [], refl)
part_ends (parts.AfterOpen h shape_at) done = (zero_token ∷ token 0 words.Comma ∷ cols_end, done ++ stmts.Input h.name h.at h.elem (pos 0) (pos 0) shape_at ∷ [], refl)
part_ends (parts.AfterRows h shape_at rows) done = (token 0 words.Comma ∷ cols_end, done ++ stmts.Input h.name h.at h.elem (pos rows) (pos 0) shape_at ∷ [], refl)
part_ends (parts.AfterComma h shape_at rows) done = (cols_end, done ++ stmts.Input h.name h.at h.elem (pos rows) (pos 0) shape_at ∷ [], refl)
part_ends (parts.AfterCols h shape_at rows cols) done = (input_end, done ++ stmts.Input h.name h.at h.elem (pos rows) (pos cols) shape_at ∷ [], refl)
part_ends (parts.AfterClose h shape_at rows cols) done = (token 0 words.Semicolon ∷ [], done ++ stmts.Input h.name h.at h.elem (pos rows) (pos cols) shape_at ∷ [], refl)

pub can_end : (s : State) (ts : List Token) → IsRead ts s → s ≢ Stuck → CanEnd s
can_end (Begin done) ts p goes = ([], done, refl)
can_end (reading.Input done part) ts p goes = part_ends part done
can_end (AfterWord done binding) ts p goes =
    (token 0 (words.Name []) ∷ token 0 words.Assign ∷ zero_token ∷ token 0 words.Semicolon ∷ [], done ++ bound binding [] 0 zero_expr ∷ [], refl)
can_end (AfterName done binding name at) ts p goes =
    (token 0 words.Assign ∷ zero_token ∷ token 0 words.Semicolon ∷ [], done ++ bound binding name at zero_expr ∷ [], refl)
can_end (Want stack) ts p goes =
    let (word, rest, q, is, ends) = closes stack ts p.0 zero_expr in
    (zero_token ∷ token 0 word ∷ rest, q, ends)
can_end (Minus at stack) ts (before, st, all, f) goes =
    let (word, rest, q, is, ends) = closes stack before st (expr at (kinds.Literal (neg_ℤ (pos 0)))) in
    (zero_token ∷ token 0 word ∷ rest, q, ends)
can_end (Called at callee stack) ts (before, st, all, f) goes =
    let (k, fill) = room_left 0 (operands callee) (from_one callee) in
    let (word, rest, q, is, ends) = close_call k at callee earlier.Nothing zero_expr stack (λ x. closes stack before st x) fill in
    (token 0 words.Open ∷ zero_token ∷ token 0 word ∷ rest, q, ends)
can_end (Have e stack) ts p goes = ends_behind e stack (closes stack p.before p.behind e)
can_end (WantNumber call stack) ts p goes = wants_number call stack p.less (λ x. closes stack p.before p.behind x)
can_end (SignedNumber at call stack) ts (p, takes) goes = signed_ends at call stack p.less (λ x. closes stack p.before p.behind x)
can_end (HaveNumber call stack) ts (values, value, own, all_values, n, p) goes =
    let len : length call.values ≡ length values + 1 = ap length all_values ∙ length-append values (value ∷ []) in
    let less = p.less in
    after_number call stack (omega arith) (omega arith) (λ x. closes stack p.before p.behind x)
can_end Stuck ts p goes = absurd (goes refl)

ending_is : (s : State) (p : List Stmt) → ending s ≡ Some p → s ≡ Begin p
ending_is (Begin done) p is = ap Begin (some_is done p is)
ending_is _ p is = absurd (none_some p is)

-- the tokens that are read to a program denote it
pub denotes_read : (ts : List Token) (p : List Stmt) → ending (run (Begin []) ts) ≡ Some p → AreStatements ts p
denotes_read ts p ends = subst (IsRead ts) (ending_is (run (Begin []) ts) p ends) (is_read ts)

ends_value : (s : State) → CanEnd s → (rest : List Token) × (p : List Stmt) × (ending (run s rest) ≡ Some p)
ends_value s (rest, p, ends) = (rest, p, ap ending ends)

pub follows : FollowsGrammar AreStatements reader
follows = record {
  complete = λ ts p d. ap ending (reads_program ts p d);
  sound = denotes_read;
  can_end = λ ts goes. ends_value (run (Begin []) ts) (can_end (run (Begin []) ts) ts (is_read ts) goes);
  stays = λ t. refl;
  none = refl;
}

-- some sentence begins with the tokens exactly where they are read
pub begins_read : (ts : List Token) → (Begins AreStatements ts ↔ (run (Begin []) ts ≢ Stuck))
begins_read ts = begins_iff AreStatements reader follows ts
