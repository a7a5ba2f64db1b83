-- A program that is read keeps the limits.
use Rattle.std.proofs.Common.{◌≡◌, ◌≢◌, ◌↔◌, ◌⊎◌, inl, inr, ⊎_elim, ℕ, ◌+◌, ◌≤◌, ◌<◌, Bool, true, false, List, [], ◌∷◌, ◌++◌, length, Option, Some, None, refl, sym, ap, subst, ◌∙◌, zero, suc, arith, append_assoc, append-nil, length-append}
use Rattle.std.specs.Prelude.{nat_le, nat_lt, pos, neg_ℤ, ℤ}
use Rattle.ven_base.specs.declared.elem.Elem.TheVariants as elems
use Rattle.ven_base.specs.declared.ops.Op1.TheVariants as unary
use Rattle.ven_io.specs.Reader.{Reader, Begins, Follows as FollowsGrammar, run_from}
use Rattle.ven_io.proofs.Readers.{run_on, begins_iff}
use Rattle.array_syntax.specs.declared.call.Earlier.{Earlier}
use Rattle.array_syntax.specs.declared.call.Earlier.TheVariants as earlier
use Rattle.array_syntax.specs.declared.call.MapCall.{MapCall}
use Rattle.array_syntax.specs.declared.call.Number.{Number}
use Rattle.array_syntax.specs.declared.frames.Frame.{Frame}
use Rattle.array_syntax.specs.declared.frames.Frame.TheVariants as frames
use Rattle.array_syntax.specs.declared.frames.Sign.{Sign}
use Rattle.array_syntax.specs.declared.frames.Sign.TheVariants as prefixes
use Rattle.array_syntax.specs.declared.machine.Part.{Part}
use Rattle.array_syntax.specs.declared.machine.Part.TheVariants as parts
use Rattle.array_syntax.specs.declared.program.Expr.{Expr}
use Rattle.array_syntax.specs.declared.program.ExprKind.{ExprKind}
use Rattle.array_syntax.specs.declared.program.ExprKind.TheVariants as kinds
use Rattle.array_syntax.specs.declared.program.Stmt.{Stmt}
use Rattle.array_syntax.specs.declared.program.Stmt.TheVariants as stmts
use Rattle.array_syntax.specs.declared.word.Binding.{Binding}
use Rattle.array_syntax.specs.declared.word.Binding.TheVariants as bindings
use Rattle.array_syntax.specs.declared.word.Callee.{Callee}
use Rattle.array_syntax.specs.declared.word.Callee.TheVariants as callees
use Rattle.array_syntax.specs.declared.word.Operator.{Operator}
use Rattle.array_syntax.specs.declared.word.Operator.TheVariants as operators
use Rattle.array_syntax.specs.declared.word.Token.{Token}
use Rattle.array_syntax.specs.declared.word.Word.{Word}
use Rattle.array_syntax.specs.declared.word.Word.TheVariants as words
use Rattle.array_syntax.specs.Grammar as grammar
use Rattle.array_syntax.specs.Grammar.{token, expr, minus, IsNumber, count, followed, bound, IsNumberArgument, Plain, Signed, AreNumbers, Nothing, More, IsExpr, Name, Literal, Negative, Brackets, Flip, Negate, Two, Call, Map, IsBegun, Opened, Argued, AreStatements, Empty, Bound}
use Rattle.array_syntax.specs.Reading as reading
use Rattle.array_syntax.specs.Reading.{State, Begin, AfterWord, AfterName, Want, Minus, Called, Have, WantNumber, SignedNumber, HaveNumber, Stuck, room, choose, one, two, reduce, tight, reach_of, op_of, placed, made, mapped, argued, close, act_of, act, want, after_minus, called, with_value, want_number, signed_number, have_number, begin, input, after_word, after_name, step, ending, reader, run, depth_of, count_of, nodes_read, unless_number, wanted}
use Rattle.array_syntax.specs.Table as table
use Rattle.array_syntax.specs.Table.{loosest, level, left_level, right_level, operands, numbers, takes_sign, call_of, map_of}
use Rattle.array_syntax.specs.Faults as faults
use Rattle.array_syntax.specs.Faults.{nodes_before, MayBegin, AtValue, InBrackets, BehindFlip, BehindNegate, BehindSign, InCall, EndsWith, EndsTooHigh, last_of, IsOperand, IsNode, seen, last_at, BeginsStatement, Holds, TooHigh, TooManyStatements}
use Rattle.array_syntax.specs.Limits.{nodes, program_nodes, nodes_of, height, most_height, most_nodes, most_statements, IsFreeName, IsNumber as IsWritten, IsSigned, IsWritable, KeepsHeight, KeepsStatement, KeepsLimits}
use Rattle.array_syntax.specs.Tree.{tree_of}
use Rattle.std.specs.Prelude.{max}
use Rattle.array_syntax.specs.declared.machine.Phase.{Phase}
use Rattle.array_syntax.specs.declared.machine.Phase.TheVariants as phases
use Rattle.array_syntax.specs.Words.{keywords, sign_words, look_up, name_word, word_of, language}
use Rattle.ven_io.specs.declared.token.TokenFault.{TokenFault}
use Rattle.ven_io.specs.declared.token.TokenFault.TheVariants as token_faults
use Rattle.ven_io.specs.declared.token.TokenKind.{TokenKind}
use Rattle.ven_io.specs.declared.token.TokenKind.TheVariants as token_kinds
use Rattle.ven_io.specs.declared.token.Token.{Token as TextToken}
use Rattle.ven_io.specs.Number.{value_of, number_limit}
use Rattle.ven_io.specs.Tokens.{Language, IsTaken, TokensTo, Here, Passed, Taken, IsKept, IsBehind, place_of}
use Rattle.ven_io.specs.Token.{NextIs, IsSpelling, StandsAt, signs, bytes_of}
use Rattle.ven_io.proofs.Reached.{tokens_on, meets, one_text, Meets, GoesOn, Same, Before, After}
use Rattle.array_syntax.proofs.Splitting.{Splits, split_at, split_behind}
use Rattle.std.specs.Prelude.{Result, Ok, Err, ◌≤ℤ◌, option_map, slice_index_or}
use Rattle.std.specs.List.{All}
use Rattle.std.proofs.lemmas.Int.{ints}
use Rattle.array_syntax.specs.declared.program.Program.{Program}
use Rattle.array_syntax.specs.Tree as trees
use Rattle.array_syntax.proofs.Reducing.{some_is, none_some}
use Rattle.array_syntax.proofs.Leading.{some_tokens}
use Rattle.array_syntax.proofs.Texts.{IsFaultless}
use Rattle.array_syntax.proofs.Trees.{tree_name, tree_literal, tree_one, tree_two, tree_cast, tree_select, tree_shift, tree_rotate, tree_section, tree_stretch, tree_transpose, tree_row_fold, tree_fold}
use Rattle.array_syntax.proofs.Vocabulary.{Fits, word_fits}
use Rattle.ven_base.specs.declared.ops.Op2.TheVariants as binary

-- each token's word is a free name or a number in range, or neither
abbrev pub AllFit : List Token → Type 0
AllFit [] = Unit {0}
AllFit (t ∷ ts) = Fits t.word × AllFit ts

fit_front : (a b : List Token) → AllFit (a ++ b) → AllFit a
fit_front [] b f = tt
fit_front (t ∷ a) b f = (f.0, fit_front a b f.1)

fit_back : (a b : List Token) → AllFit (a ++ b) → AllFit b
fit_back [] b f = f
fit_back (t ∷ a) b f = fit_back a b f.1

taken_fits : (text : List ℕ) (from : ℕ) (raw : TextToken) (t : Token) → IsTaken language text from raw t → Fits t.word
taken_fits text from raw t taken = by (word_of raw.kind (bytes_of text raw)) refl taken.is
  where
    spelled : IsSpelling raw.kind (bytes_of text raw)
    spelled = ⊎_elim (λ at_end. absurd (taken.some at_end.kind)) (λ stands. stands.spelled) taken.next.1

    by : (o : Option Word) → word_of raw.kind (bytes_of text raw) ≡ o → option_map (λ word. token raw.start word) o ≡ Some t → Fits t.word
    by None is same = absurd (none_some t same)
    by (Some word) is same = subst (λ (x : Token). Fits x.word) (some_is (token raw.start word) t same) (word_fits raw.kind (bytes_of text raw) word spelled is)

pub tokens_fit : (text : List ℕ) (from to : ℕ) (ts : List Token) → TokensTo language text from ts to → AllFit ts
tokens_fit text from _ _ (Here place) = tt
tokens_fit text from to ts (Passed place last raw rest next passes h) = tokens_fit text raw.end to ts h
tokens_fit text from to _ (Taken place last raw own rest taken h) = (taken_fits text from raw own taken, tokens_fit text raw.end to rest h)

not_negative : (n : ℕ) → pos 0 ≤ℤ pos n
not_negative n = omega (arith, ints)

not_above : (n : ℕ) → n ≤ number_limit → pos n ≤ℤ pos number_limit
not_above n le = omega (arith, ints, le)

above_least : (n : ℕ) → neg_ℤ (pos number_limit) ≤ℤ pos n
above_least n = omega (arith, ints)

minus_least : (n : ℕ) → n ≤ number_limit → neg_ℤ (pos number_limit) ≤ℤ neg_ℤ (pos n)
minus_least n le = omega (arith, ints, le)

minus_above : (n : ℕ) → neg_ℤ (pos n) ≤ℤ pos number_limit
minus_above n = omega (arith, ints)

plain : (n : ℕ) → n ≤ number_limit → IsWritten (pos n)
plain n le = record { least = not_negative n; greatest = not_above n le }

signed_plain : (n : ℕ) → n ≤ number_limit → IsSigned (pos n)
signed_plain n le = record { least = above_least n; greatest = not_above n le }

signed_minus : (n : ℕ) → n ≤ number_limit → IsSigned (neg_ℤ (pos n))
signed_minus n le = record { least = minus_least n le; greatest = minus_above n }

abbrev IsFitting : Bool → Number → Type 0
IsFitting true value = IsSigned value.value
IsFitting false value = IsWritten value.value

abbrev AllFitting : Bool → List Number → Type 0
AllFitting sign [] = Unit {0}
AllFitting sign (value ∷ values) = IsFitting sign value × AllFitting sign values

fitting_plain : (sign : Bool) (at n : ℕ) → n ≤ number_limit → IsFitting sign (record { at = at; value = pos n })
fitting_plain true at n le = signed_plain n le
fitting_plain false at n le = plain n le

number_fitting : (sign : Bool) (own : List Token) (value : Number) → IsNumberArgument sign own value → AllFit own → IsFitting sign value
number_fitting sign own value (Plain _ at n) f = fitting_plain sign at n f.0
number_fitting sign own value (Signed at place n) f = signed_minus n f.1.0

fitting_more : (sign : Bool) (values : List Number) (value : Number) → AllFitting sign values → IsFitting sign value → AllFitting sign (values ++ value ∷ [])
fitting_more sign [] value f g = (g, tt)
fitting_more sign (first ∷ values) value f g = (f.0, fitting_more sign values value f.1 g)

numbers_fitting : (sign : Bool) (begun : List Token) (values : List Number) → AreNumbers sign begun values → AllFit begun → AllFitting sign values
numbers_fitting sign begun values (Nothing _) f = tt
numbers_fitting sign begun values (More _ comma before own front value ns n) f =
    fitting_more sign front value (numbers_fitting sign before front ns (fit_front before (own ++ token comma words.Comma ∷ []) f)) (number_fitting sign own value n (fit_front own (token comma words.Comma ∷ []) (fit_back before (own ++ token comma words.Comma ∷ []) f)))

abbrev WritableBefore : Earlier → Type 0
WritableBefore earlier.Nothing = Unit {0}
WritableBefore (earlier.One a) = IsWritable (tree_of a)
WritableBefore (earlier.Two a b) = IsWritable (tree_of a) × IsWritable (tree_of b)

writable_followed : (before : Earlier) (e : Expr) → WritableBefore before → IsWritable (tree_of e) → WritableBefore (followed before e)
writable_followed earlier.Nothing e w v = v
writable_followed (earlier.One a) e w v = (w, v)
writable_followed (earlier.Two a b) e w v = w

as_made : (at : ℕ) (kind made_kind : ExprKind) (tree : trees.Tree) → tree_of (expr at made_kind) ≡ tree → Some made_kind ≡ Some kind → IsWritable tree → IsWritable (tree_of (expr at kind))
as_made at kind made_kind tree is same w = subst (λ k. IsWritable (tree_of (expr at k))) (some_is made_kind kind same) (subst IsWritable (sym is) w)

call_writable : (at : ℕ) (callee : Callee) (before : Earlier) (e : Expr) (kind : ExprKind) → call_of callee before e ≡ Some kind → WritableBefore before → IsWritable (tree_of e) → IsWritable (tree_of (expr at kind))
call_writable at (callees.Cast elem) earlier.Nothing e kind is w v = as_made at kind (kinds.Cast elem e) _ (tree_cast at elem e) is v
call_writable at callees.Abs earlier.Nothing e kind is w v = as_made at kind (kinds.One unary.Abs e) _ (tree_one at unary.Abs e) is v
call_writable at (callees.RowFold op) earlier.Nothing e kind is w v = as_made at kind (kinds.RowFold op e) _ (tree_row_fold at op e) is v
call_writable at (callees.Fold op) earlier.Nothing e kind is w v = as_made at kind (kinds.Fold op e) _ (tree_fold at op e) is v
call_writable at callees.Transpose earlier.Nothing e kind is w v = as_made at kind (kinds.Transpose e) _ (tree_transpose at e) is v
call_writable at callees.Min (earlier.One a) e kind is w v = as_made at kind (kinds.Two binary.Min a e) _ (tree_two at binary.Min a e) is (w, v)
call_writable at callees.Max (earlier.One a) e kind is w v = as_made at kind (kinds.Two binary.Max a e) _ (tree_two at binary.Max a e) is (w, v)
call_writable at callees.SatAdd (earlier.One a) e kind is w v = as_made at kind (kinds.Two binary.SatAdd a e) _ (tree_two at binary.SatAdd a e) is (w, v)
call_writable at callees.SatSub (earlier.One a) e kind is w v = as_made at kind (kinds.Two binary.SatSub a e) _ (tree_two at binary.SatSub a e) is (w, v)
call_writable at callees.Select (earlier.Two c a) e kind is w v = as_made at kind (kinds.Select c a e) _ (tree_select at c a e) is (w.0, w.1, v)
call_writable at _ _ e kind is w v = absurd (none_some kind is)

map_writable : (at : ℕ) (callee : Callee) (e : Expr) (values : List Number) (kind : ExprKind) → map_of callee e values ≡ Some kind → IsWritable (tree_of e) → AllFitting (takes_sign callee) values → IsWritable (tree_of (expr at kind))
map_writable at callees.Shift e (p ∷ q ∷ r ∷ []) kind is v f = as_made at kind (kinds.Shift e p.value q.value r.value r.at) _ (tree_shift at e p.value q.value r.value r.at) is (v, f.0, f.1.0, f.1.1.0)
map_writable at callees.Rotate e (p ∷ q ∷ []) kind is v f = as_made at kind (kinds.Rotate e p.value q.value) _ (tree_rotate at e p.value q.value) is (v, f.0, f.1.0)
map_writable at callees.Section e (p ∷ q ∷ r ∷ s ∷ t ∷ u ∷ []) kind is v f =
    as_made at kind (kinds.Section e p.value q.value r.value s.value t.value u.value) _ (tree_section at e p.value q.value r.value s.value t.value u.value) is (v, f.0, f.1.0, f.1.1.0, f.1.1.1.0, f.1.1.1.1.0, f.1.1.1.1.1.0)
map_writable at callees.Stretch e (p ∷ q ∷ []) kind is v f = as_made at kind (kinds.Stretch e p.value q.value) _ (tree_stretch at e p.value q.value) is (v, f.0, f.1.0)
map_writable at _ e _ kind is v f = absurd (none_some kind is)

mutual
  pub written : (l : ℕ) (ts : List Token) (e : Expr) → IsExpr l ts e → AllFit ts → IsWritable (tree_of e)
  written l ts e (Name _ at name) f = subst IsWritable (sym (tree_name at name)) f.0
  written l ts e (Literal _ at n) f = subst IsWritable (sym (tree_literal at (pos n))) (signed_plain n f.0)
  written l ts e (Negative _ at place n) f = subst IsWritable (sym (tree_literal at (neg_ℤ (pos n)))) (signed_minus n f.1.0)
  written l ts e (Brackets _ opening closing inner _ d) f = written loosest inner e d (fit_front inner (token closing words.Close ∷ []) f.1)
  written l ts _ (Flip _ at operand e d) f = subst IsWritable (sym (tree_one at unary.Not e)) (written 0 operand e d f.1)
  written l ts _ (Negate _ at first rest e non d) f = subst IsWritable (sym (tree_one at unary.Neg e)) (written 0 (first ∷ rest) e d f.1)
  written l ts _ (Two _ at op left right a b le da db) f =
      subst IsWritable (sym (tree_two at (table.operation op) a b)) (written (left_level op) left a da (fit_front left (token at (words.Operator op) ∷ right) f), written (right_level op) right b db (fit_back left (token at (words.Operator op) ∷ right) f).1)
  written l ts _ (Call _ at closing callee before begun last e kind b d is) f =
      let tail : List Token = last ++ token closing words.Close ∷ [] in
      call_writable at callee before e kind is (written_begun at callee before begun b (fit_front begun tail f)) (written loosest last e d (fit_front last (token closing words.Close ∷ []) (fit_back begun tail f)))
  written l ts _ (Map _ at opening comma closing callee inner begun last e values value kind d ns n is) f =
      let tail : List Token = last ++ token closing words.Close ∷ [] in
      let inside = f.1.1 in
      let behind = (fit_back inner (token comma words.Comma ∷ (begun ++ tail)) inside).1 in
      map_writable at callee e (values ++ value ∷ []) kind is (written loosest inner e d (fit_front inner (token comma words.Comma ∷ (begun ++ tail)) inside))
      (fitting_more (takes_sign callee) values value (numbers_fitting (takes_sign callee) begun values ns (fit_front begun tail behind)) (number_fitting (takes_sign callee) last value n (fit_front last (token closing words.Close ∷ []) (fit_back begun tail behind))))

  pub written_begun : (at : ℕ) (callee : Callee) (before : Earlier) (ts : List Token) → IsBegun at callee before ts → AllFit ts → WritableBefore before
  written_begun at callee before ts (Opened _ opening _) f = tt
  written_begun at callee _ ts (Argued _ comma _ before begun own e b lt d) f =
      let tail : List Token = own ++ token comma words.Comma ∷ [] in
      writable_followed before e (written_begun at callee before begun b (fit_front begun tail f)) (written loosest own e d (fit_front own (token comma words.Comma ∷ []) (fit_back begun tail f)))

-- no token ends too high a node, and none begins a statement too many
pub record IsJudged (tokens : List Token) : Type 0 where
  pub low : (us rest : List Token) (own : Token) → tokens ≡ us ++ own ∷ rest → ¬ EndsTooHigh us (last_of own.word)
  pub few : (us rest : List Token) (own : Token) → tokens ≡ us ++ own ∷ rest → BeginsStatement own.word → (p : List Stmt) → AreStatements us p → length p < most_statements

pub judged : (text : List ℕ) (to : ℕ) (tokens : List Token) → TokensTo language text 0 tokens to → IsFaultless text tokens → IsJudged tokens
judged text to tokens read clean = record {
  low = λ us rest own all high.
      let s = split_at language text 0 to tokens us own rest all read in
      clean.none us rest own (Ok s.token) TooHigh all (split_behind language text us rest own to s) s.taken.is (subst (λ o. EndsTooHigh us (last_at o)) (sym s.taken.is) high);
  few = λ us rest own all begins p d.
      let s = split_at language text 0 to tokens us own rest all read in
      less (length p) (λ many. clean.none us rest own (Ok s.token) TooManyStatements all (split_behind language text us rest own to s) s.taken.is (own, s.taken.is, begins, p, d, many));
}
  where
    less : (n : ℕ) → ¬ (most_statements ≤ n) → n < most_statements
    less n f = omega (arith, f)

judged_front : (a b : List Token) → IsJudged (a ++ b) → IsJudged a
judged_front a b j = record {
  low = λ us rest own all. j.low us (rest ++ b) own (ap (λ x. x ++ b) all ∙ append_assoc us (own ∷ rest) b);
  few = λ us rest own all. j.few us (rest ++ b) own (ap (λ x. x ++ b) all ∙ append_assoc us (own ∷ rest) b);
}

low_value : (front body : List Token) (e : Expr) (l depth count : ℕ) → ((word : Word) → MayBegin loosest depth count front word) → IsExpr loosest body e → ¬ EndsTooHigh (front ++ body) loosest → height (tree_of e) ≤ most_height
low_value front body e l depth count begins d low =
    let (first, rest, is) = some_tokens loosest body e d in
    not_above (height (tree_of e)) (λ high. low (
      e,
      record {
        outer = front;
        first = first;
        rest = rest;
        room = loosest;
        depth = depth;
        count = count;
        own_level = loosest;
        all = ap (λ x. front ++ x) is;
        begins = begins first.word;
        expr = subst (λ x. IsExpr loosest x e) is d;
        fits = omega arith;
        up_to = omega arith;
      },
      high,
    ))
  where
    not_above : (n : ℕ) → ¬ (most_height < n) → n ≤ most_height
    not_above n f = omega (arith, f)

abbrev pub AllKept : List Stmt → Type 0
AllKept [] = Unit {0}
AllKept (stmt ∷ stmts) = KeepsStatement stmt × AllKept stmts

kept_more : (p : List Stmt) (stmt : Stmt) → AllKept p → KeepsStatement stmt → AllKept (p ++ stmt ∷ [])
kept_more [] stmt k s = (s, tt)
kept_more (first ∷ p) stmt k s = (k.0, kept_more p stmt k.1 s)

bound_kept : (binding : Binding) (name : List ℕ) (at : ℕ) (e : Expr) → IsFreeName name → KeepsHeight (tree_of e) → KeepsStatement (bound binding name at e)
bound_kept bindings.Let name at e n k = (n, k)
bound_kept bindings.Output name at e n k = (n, k)

pub all_kept : (ts : List Token) (p : List Stmt) → AreStatements ts p → AllFit ts → IsJudged ts → AllKept p
all_kept ts p Empty f j = tt
all_kept ts _ (grammar.Input word_at at type_at shape_at rows_at comma cols_at closing end rows cols name elem before q d) f j =
    let own : List Token = token word_at words.Input ∷ token at (words.Name name) ∷ token type_at (words.Call (callees.Cast elem)) ∷ token shape_at words.OpenSquare ∷ token rows_at (words.Number rows) ∷ token comma words.Comma ∷ token cols_at (words.Number cols) ∷ token closing words.CloseSquare ∷ token end words.Semicolon ∷ [] in
    let g = fit_back before own f in
    kept_more q (stmts.Input name at elem (pos rows) (pos cols) shape_at) (all_kept before q d (fit_front before own f) (judged_front before own j)) (g.1.0, plain rows g.1.1.1.1.0, plain cols g.1.1.1.1.1.1.0)
all_kept ts _ (Bound word_at at sign end binding name body before e q d de) f j =
    let tail : List Token = body ++ (token end words.Semicolon ∷ []) in
    let head_tokens : List Token = token word_at (words.Bind binding) ∷ (token at (words.Name name) ∷ (token sign words.Assign ∷ [])) in
    let own : List Token = token word_at (words.Bind binding) ∷ (token at (words.Name name) ∷ (token sign words.Assign ∷ tail)) in
    let g = fit_back before own f in
    let seam : before ++ own ≡ ((before ++ head_tokens) ++ body) ++ token end words.Semicolon ∷ [] = sym (append_assoc (before ++ head_tokens) body (token end words.Semicolon ∷ []) ∙ append_assoc before head_tokens tail) in
    let low = low_value (before ++ head_tokens) body e loosest 0 (program_nodes q) (λ word. AtValue word_at at sign binding name before q word d) de (j.low ((before ++ head_tokens) ++ body) [] (token end words.Semicolon) seam) in
    kept_more q (bound binding name at e) (all_kept before q d (fit_front before own f) (judged_front before own j))
    (bound_kept binding name at e g.1.0 (record { writable = written loosest body e de (fit_front body (token end words.Semicolon ∷ []) g.1.1.1); low = low }))

pub few_statements : (ts : List Token) (p : List Stmt) → AreStatements ts p → IsJudged ts → length p ≤ most_statements
few_statements ts p Empty j = omega arith
few_statements ts _ (grammar.Input word_at at type_at shape_at rows_at comma cols_at closing end rows cols name elem before q d) j =
    let len = length-append q (stmts.Input name at elem (pos rows) (pos cols) shape_at ∷ []) in
    let less = j.few before _ (token word_at words.Input) refl tt q d in
    omega arith
few_statements ts _ (Bound word_at at sign end binding name body before e q d de) j =
    let len = length-append q (bound binding name at e ∷ []) in
    let less = j.few before _ (token word_at (words.Bind binding)) refl tt q d in
    omega arith

all_of : (p : List Stmt) → AllKept p → All KeepsStatement p
all_of [] k i d lt = absurd (omega arith)
all_of (stmt ∷ p) k zero d lt = k.0
all_of (stmt ∷ p) k (suc i) d lt = all_of p k.1 i d (omega arith)

pub keeps : (text : List ℕ) (to : ℕ) (tokens : List Token) (program : Program) → TokensTo language text 0 tokens to → IsFaultless text tokens → AreStatements tokens program.stmts → program_nodes program.stmts ≤ most_nodes → KeepsLimits program
keeps text to tokens program read clean d few =
    let j = judged text to tokens read clean in
    record { statements = few_statements tokens program.stmts d j; nodes = few; each = all_of program.stmts (all_kept tokens program.stmts d (tokens_fit text 0 to tokens read) j) }
