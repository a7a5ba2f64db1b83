-- The first fault is where no step is, or where a limit is passed.
use Rattle.std.proofs.Common.{◌≡◌, ◌≢◌, ◌↔◌, ◌⊎◌, inl, inr, ⊎_elim, ℕ, ◌+◌, ◌≤◌, ◌<◌, Bool, true, false, List, [], ◌∷◌, ◌++◌, length, Option, Some, None, refl, sym, ap, subst, ◌∙◌, arith, append_assoc, append-nil, length-append}
use Rattle.std.specs.Prelude.{nat_le, nat_lt, pos, neg_ℤ, ℤ}
use Rattle.ven_base.specs.declared.elem.Elem.TheVariants as elems
use Rattle.ven_base.specs.declared.ops.Op1.TheVariants as unary
use Rattle.ven_io.specs.Reader.{Reader, Begins, Follows as FollowsGrammar, run_from}
use Rattle.ven_io.proofs.Readers.{run_on, begins_iff, one_value}
use Rattle.array_syntax.specs.declared.call.Earlier.{Earlier}
use Rattle.array_syntax.specs.declared.call.Earlier.TheVariants as earlier
use Rattle.array_syntax.specs.declared.call.MapCall.{MapCall}
use Rattle.array_syntax.specs.declared.call.Number.{Number}
use Rattle.array_syntax.specs.declared.frames.Frame.{Frame}
use Rattle.array_syntax.specs.declared.frames.Frame.TheVariants as frames
use Rattle.array_syntax.specs.declared.frames.Sign.{Sign}
use Rattle.array_syntax.specs.declared.frames.Sign.TheVariants as prefixes
use Rattle.array_syntax.specs.declared.machine.Part.{Part}
use Rattle.array_syntax.specs.declared.machine.Part.TheVariants as parts
use Rattle.array_syntax.specs.declared.program.Expr.{Expr}
use Rattle.array_syntax.specs.declared.program.ExprKind.{ExprKind}
use Rattle.array_syntax.specs.declared.program.ExprKind.TheVariants as kinds
use Rattle.array_syntax.specs.declared.program.Stmt.{Stmt}
use Rattle.array_syntax.specs.declared.program.Stmt.TheVariants as stmts
use Rattle.array_syntax.specs.declared.word.Binding.{Binding}
use Rattle.array_syntax.specs.declared.word.Binding.TheVariants as bindings
use Rattle.array_syntax.specs.declared.word.Callee.{Callee}
use Rattle.array_syntax.specs.declared.word.Callee.TheVariants as callees
use Rattle.array_syntax.specs.declared.word.Operator.{Operator}
use Rattle.array_syntax.specs.declared.word.Operator.TheVariants as operators
use Rattle.array_syntax.specs.declared.word.Token.{Token}
use Rattle.array_syntax.specs.declared.word.Word.{Word}
use Rattle.array_syntax.specs.declared.word.Word.TheVariants as words
use Rattle.array_syntax.specs.Grammar as grammar
use Rattle.array_syntax.specs.Grammar.{token, expr, minus, IsNumber, count, followed, bound, IsNumberArgument, Plain, Signed, AreNumbers, Nothing, More, IsExpr, Name, Literal, Negative, Brackets, Flip, Negate, Two, Call, Map, IsBegun, Opened, Argued, AreStatements, Empty, Bound}
use Rattle.array_syntax.specs.Reading as reading
use Rattle.array_syntax.specs.Reading.{State, Begin, AfterWord, AfterName, Want, Minus, Called, Have, WantNumber, SignedNumber, HaveNumber, Stuck, room, choose, one, two, reduce, tight, reach_of, op_of, placed, made, mapped, argued, close, act_of, act, want, after_minus, called, with_value, want_number, signed_number, have_number, begin, input, after_word, after_name, step, ending, reader, run, depth_of, count_of, nodes_read, unless_number, wanted}
use Rattle.array_syntax.specs.Table.{loosest, level, left_level, right_level, operands, numbers, takes_sign, call_of, map_of}
use Rattle.array_syntax.specs.Faults as faults
use Rattle.array_syntax.specs.Faults.{nodes_before, MayBegin, AtValue, InBrackets, BehindFlip, BehindNegate, BehindSign, InCall, EndsWith, EndsTooHigh, last_of, IsOperand, IsNode, Opens, IsNumberNext, BeginsStatement, IsUnexpected, NoToken, NoEnd, NoSentence, IsNotAscii, IsLongName, IsLargeNumber, seen, last_at, Cause, NotAscii, NameTooLong, NumberTooLarge, TooHigh, Unexpected, TooManyOpen, TooManyStatements, TooManyNodes, rank_of, rank, Holds, SyntaxFault, IsFault, answer_of, Denotes, IsAccepted, IsRefused, IsAnswered}
use Rattle.array_syntax.specs.Limits.{nodes, program_nodes, nodes_of, height, most_height, most_nodes, most_statements}
use Rattle.array_syntax.specs.Tree.{tree_of}
use Rattle.std.specs.Prelude.{max}
use Rattle.array_syntax.specs.declared.machine.Phase.{Phase}
use Rattle.array_syntax.specs.declared.machine.Phase.TheVariants as phases
use Rattle.array_syntax.specs.Steps.{opens, IsHigher, IsTooHigh, is_operand, is_sign, is_prefixed, begins_node, and_one, IsDeep, IsCrowded, IsFull, IsSignDeep, IsSignFull, depth_in}
use Rattle.array_syntax.specs.Words.{keywords, sign_words, look_up, name_word, word_of, language}
use Rattle.ven_io.specs.declared.token.TokenFault.{TokenFault}
use Rattle.ven_io.specs.declared.token.TokenFault.TheVariants as token_faults
use Rattle.ven_io.specs.declared.token.TokenKind.{TokenKind}
use Rattle.ven_io.specs.declared.token.TokenKind.TheVariants as token_kinds
use Rattle.ven_io.specs.declared.token.Token.{Token as TextToken}
use Rattle.ven_io.specs.Number.{value_of, number_limit}
use Rattle.ven_io.specs.Tokens.{Language, IsTaken, TokensTo, Here, Passed, Taken, IsKept, IsBehind, place_of}
use Rattle.ven_io.specs.Token.{NextIs, IsSpelling, StandsAt, signs, bytes_of}
use Rattle.ven_io.proofs.Reached.{tokens_on, meets, one_text, Meets, GoesOn, Same, Before, After}
use Rattle.array_syntax.proofs.Splitting.{Splits, split_at, split_behind}
use Rattle.std.specs.Prelude.{Result, Ok, Err, IsTrue, IsFalse, option_map}
use Rattle.ven_base.specs.First.{IsFirst}
use Rattle.array_syntax.specs.declared.fault.ParseFault.{ParseFault}
use Rattle.array_syntax.specs.declared.fault.ParseFault.TheVariants as answers
use Rattle.array_syntax.specs.declared.machine.Refusal.{Refusal}
use Rattle.array_syntax.specs.declared.machine.Refusal.TheVariants as refusals
use Rattle.array_syntax.specs.declared.program.Program.{Program}
use Rattle.array_syntax.specs.Parsing.{StandsFrom, IsPending, IsClean, HasRead, fault_at}
use Rattle.array_syntax.specs.Steps.{Advanced, Finished, Settled, sign_place}
use Rattle.array_syntax.proofs.Complete.{reads_program}
use Rattle.array_syntax.proofs.Going.{begins_read, denotes_read, follows}
use Rattle.array_syntax.proofs.Opening.{OpensMany, WaitsDeep, deep_opens, opens_deep, low_step, node_counts, counted_node}
use Rattle.array_syntax.proofs.Reducing.{some_is, none_some}
use Rattle.array_syntax.proofs.Stepping.{is_read}
use Rattle.array_syntax.proofs.TooHigh.{ends_high}
use Rattle.array_syntax.proofs.Vocabulary.{HasNone, no_word, none_is}

-- no token has a fault, the last too
pub record IsFaultless (text : List ℕ) (tokens : List Token) : Type 0 where
  pub none : (us rest : List Token) (own : Token) (next : Result TextToken TokenFault) (cause : Cause) → tokens ≡ us ++ own ∷ rest → IsBehind language text us next → seen text next ≡ Some own → ¬ Holds text us next cause

-- the fault that holds of what stands next and has no lesser rank beside it comes first
pub first_here : (text : List ℕ) (tokens : List Token) (next : Result TextToken TokenFault) (cause : Cause) → IsBehind language text tokens next → IsFaultless text tokens → Holds text tokens next cause → ((other : Cause) → Holds text tokens next other → rank_of cause ≤ rank_of other) → IsFirst (IsFault text) (λ f. f.at) rank (record { cause = cause; at = place_of next })
first_here text tokens next cause behind clean holds least = record {
  here = record { tokens = tokens; next = next; behind = behind; place = refl; cause = holds };
  first = λ other f. later other f (one_text language text tokens f.tokens next f.next behind f.behind);
}
  where
    later : (other : SyntaxFault) (f : IsFault text other) → Meets language text tokens next f.tokens f.next → (place_of next < other.at) ⊎ ((place_of next ≡ other.at) × (rank_of cause ≤ rank_of other.cause))
    later other f (Same all is) =
        inr (ap place_of is ∙ sym f.place, least other.cause (subst (λ n. Holds text tokens n other.cause) (sym is) (subst (λ ts. Holds text ts f.next other.cause) (sym all) f.cause)))
    later other f (Before g) = let e = f.place in let at = ap place_of g.is in inl (omega (arith, g.before))
    later other f (After g) = absurd (clean.none f.tokens g.rest g.own f.next other.cause g.all f.behind (ap (seen text) g.is ∙ g.takes) f.cause)

-- the same as the answer
pub refused : (text : List ℕ) (cause : Cause) (at : ℕ) (answer : ParseFault) → IsFirst (IsFault text) (λ f. f.at) rank (record { cause = cause; at = at }) → answer ≡ answer_of cause at → IsRefused text answer
refused text cause at answer first is = record { fault = record { cause = cause; at = at }; first = first; is = is }

-- ranks below which nothing holds
ranks : (text : List ℕ) (tokens : List Token) (next : Result TextToken TokenFault) (r : ℕ) → (r ≤ 1 ⊎ (¬ Holds text tokens next NotAscii)) → (r ≤ 2 ⊎ (¬ Holds text tokens next NameTooLong)) → (r ≤ 3 ⊎ (¬ Holds text tokens next NumberTooLarge)) → (r ≤ 4 ⊎ (¬ Holds text tokens next TooHigh)) → (r ≤ 5 ⊎ (¬ Holds text tokens next Unexpected)) → (r ≤ 6 ⊎ (¬ Holds text tokens next TooManyOpen)) → (r ≤ 7 ⊎ (¬ Holds text tokens next TooManyStatements)) → r ≤ 8 → (other : Cause) → Holds text tokens next other → r ≤ rank_of other
ranks text tokens next r a b c d e f g h NotAscii holds = ⊎_elim (λ le. le) (λ not_so. absurd (not_so holds)) a
ranks text tokens next r a b c d e f g h NameTooLong holds = ⊎_elim (λ le. le) (λ not_so. absurd (not_so holds)) b
ranks text tokens next r a b c d e f g h NumberTooLarge holds = ⊎_elim (λ le. le) (λ not_so. absurd (not_so holds)) c
ranks text tokens next r a b c d e f g h TooHigh holds = ⊎_elim (λ le. le) (λ not_so. absurd (not_so holds)) d
ranks text tokens next r a b c d e f g h Unexpected holds = ⊎_elim (λ le. le) (λ not_so. absurd (not_so holds)) e
ranks text tokens next r a b c d e f g h TooManyOpen holds = ⊎_elim (λ le. le) (λ not_so. absurd (not_so holds)) f
ranks text tokens next r a b c d e f g h TooManyStatements holds = ⊎_elim (λ le. le) (λ not_so. absurd (not_so holds)) g
ranks text tokens next r a b c d e f g h TooManyNodes holds = h

-- at a byte above 127
pub not_ascii : (text : List ℕ) (tokens : List Token) (at : ℕ) → IsBehind language text tokens (Err (token_faults.NotAscii at)) → IsFaultless text tokens → IsRefused text (answers.NotAscii at)
not_ascii text tokens at behind clean =
    let next : Result TextToken TokenFault = Err (token_faults.NotAscii at) in
    refused text NotAscii at (answers.NotAscii at)
    (first_here text tokens next NotAscii behind clean tt
    (ranks text tokens next 1 (inl (omega arith)) (inl (omega arith)) (inl (omega arith)) (inl (omega arith)) (inl (omega arith)) (inl (omega arith)) (inl (omega arith)) (omega arith)))
    refl

high_here : (tokens : List Token) (s : State) (last : ℕ) → s ≡ run (Begin []) tokens → IsTooHigh last s → EndsTooHigh tokens last
high_here tokens s last is high = (ends_high tokens last).1 (subst (IsTooHigh last) is high)

low_here : (tokens : List Token) (s : State) (last : ℕ) → s ≡ run (Begin []) tokens → ¬ IsTooHigh last s → ¬ EndsTooHigh tokens last
low_here tokens s last is low high = low (subst (IsTooHigh last) (sym is) ((ends_high tokens last).0 high))

-- at a byte that begins no token
pub bad_byte_high : (text : List ℕ) (tokens : List Token) (s : State) (at : ℕ) → IsBehind language text tokens (Err (token_faults.Unexpected at)) → IsFaultless text tokens → s ≡ run (Begin []) tokens → IsTooHigh loosest s → IsRefused text (answers.TooDeep at)
bad_byte_high text tokens s at behind clean is high =
    let next : Result TextToken TokenFault = Err (token_faults.Unexpected at) in
    refused text TooHigh at (answers.TooDeep at)
    (first_here text tokens next TooHigh behind clean (high_here tokens s loosest is high)
    (ranks text tokens next 4 (inr (λ h. h)) (inr (λ h. h)) (inr (λ h. h)) (inl (omega arith)) (inl (omega arith)) (inl (omega arith)) (inl (omega arith)) (omega arith)))
    refl

pub bad_byte : (text : List ℕ) (tokens : List Token) (s : State) (at : ℕ) → IsBehind language text tokens (Err (token_faults.Unexpected at)) → IsFaultless text tokens → s ≡ run (Begin []) tokens → ¬ IsTooHigh loosest s → IsRefused text (answers.Unexpected at)
bad_byte text tokens s at behind clean is low =
    let next : Result TextToken TokenFault = Err (token_faults.Unexpected at) in
    refused text Unexpected at (answers.Unexpected at)
    (first_here text tokens next Unexpected behind clean (NoToken at)
    (ranks text tokens next 5 (inr (λ h. h)) (inr (λ h. h)) (inr (λ h. h)) (inr (low_here tokens s loosest is low)) (inl (omega arith)) (inl (omega arith)) (inl (omega arith)) (omega arith)))
    refl

-- the words of a token of the text
abbrev token_word : List ℕ → TextToken → Option Word
token_word text raw = word_of raw.kind (bytes_of text raw)

seen_none : (text : List ℕ) (raw : TextToken) → token_word text raw ≡ None → seen text (Ok raw) ≡ None
seen_none text raw is = ap (option_map (λ word. token raw.start word)) is

has_none : (text : List ℕ) (raw : TextToken) (t : Token) → seen text (Ok raw) ≡ Some t → ¬ HasNone raw.kind (bytes_of text raw)
has_none text raw t is none = none_some t (sym (seen_none text raw (no_word raw.kind (bytes_of text raw) none)) ∙ is)

not_long : (text : List ℕ) (raw : TextToken) (t : Token) → seen text (Ok raw) ≡ Some t → ¬ IsLongName text (Ok raw)
not_long text raw t is (kind, long) = has_none text raw t is (subst (λ k. HasNone k (bytes_of text raw)) (sym kind) long)

not_large : (text : List ℕ) (raw : TextToken) (t : Token) → seen text (Ok raw) ≡ Some t → ¬ IsLargeNumber text (Ok raw)
not_large text raw t is (kind, large) = has_none text raw t is (subst (λ k. HasNone k (bytes_of text raw)) (sym kind) large)

not_end : (text : List ℕ) (raw : TextToken) (t : Token) → seen text (Ok raw) ≡ Some t → raw.kind ≢ token_kinds.End
not_end text raw t is kind = has_none text raw t is (subst (λ k. HasNone k (bytes_of text raw)) (sym kind) tt)

-- at the text's end
end_seen : (text : List ℕ) (raw : TextToken) → raw.kind ≡ token_kinds.End → seen text (Ok raw) ≡ None
end_seen text raw kind = seen_none text raw (ap (λ k. word_of k (bytes_of text raw)) kind)

kinds_differ : (k : TokenKind) → k ≡ token_kinds.End → k ≡ token_kinds.Name → ⊥
kinds_differ k e n = let d : token_kinds.End ≡ token_kinds.Name = sym e ∙ n in cc

numbers_differ : (k : TokenKind) → k ≡ token_kinds.End → k ≡ token_kinds.Number → ⊥
numbers_differ k e n = let d : token_kinds.End ≡ token_kinds.Number = sym e ∙ n in cc

names_differ : (k : TokenKind) → k ≡ token_kinds.Number → k ≡ token_kinds.Name → ⊥
names_differ k e n = let d : token_kinds.Number ≡ token_kinds.Name = sym e ∙ n in cc

pub end_high : (text : List ℕ) (tokens : List Token) (s : State) (raw : TextToken) → raw.kind ≡ token_kinds.End → IsBehind language text tokens (Ok raw) → IsFaultless text tokens → s ≡ run (Begin []) tokens → IsTooHigh loosest s → IsRefused text (answers.TooDeep raw.start)
end_high text tokens s raw kind behind clean is high =
    refused text TooHigh raw.start (answers.TooDeep raw.start)
    (first_here text tokens (Ok raw) TooHigh behind clean (subst (λ o. EndsTooHigh tokens (last_at o)) (sym (end_seen text raw kind)) (high_here tokens s loosest is high))
    (ranks text tokens (Ok raw) 4 (inr (λ h. h)) (inr (λ h. kinds_differ raw.kind kind h.0)) (inr (λ h. numbers_differ raw.kind kind h.0)) (inl (omega arith)) (inl (omega arith)) (inl (omega arith)) (inl (omega arith)) (omega arith)))
    refl

pub end_unexpected : (text : List ℕ) (tokens : List Token) (s : State) (raw : TextToken) → raw.kind ≡ token_kinds.End → IsBehind language text tokens (Ok raw) → IsFaultless text tokens → s ≡ run (Begin []) tokens → ¬ IsTooHigh loosest s → ending s ≡ None → IsRefused text (answers.Unexpected raw.start)
end_unexpected text tokens s raw kind behind clean is low none =
    refused text Unexpected raw.start (answers.Unexpected raw.start)
    (first_here text tokens (Ok raw) Unexpected behind clean
    (NoEnd raw kind (λ p d. none_some p (sym none ∙ ap ending (is ∙ reads_program tokens p d))))
    (ranks text tokens (Ok raw) 5 (inr (λ h. h)) (inr (λ h. kinds_differ raw.kind kind h.0)) (inr (λ h. numbers_differ raw.kind kind h.0))
    (inr (λ h. low_here tokens s loosest is low (subst (λ o. EndsTooHigh tokens (last_at o)) (end_seen text raw kind) h))) (inl (omega arith)) (inl (omega arith)) (inl (omega arith)) (omega arith)))
    refl

no_fault_at_end : (text : List ℕ) (tokens : List Token) (p : List Stmt) (raw : TextToken) → raw.kind ≡ token_kinds.End → AreStatements tokens p → (cause : Cause) → ¬ Holds text tokens (Ok raw) cause
no_fault_at_end text tokens p raw kind d NotAscii h = h
no_fault_at_end text tokens p raw kind d NameTooLong h = kinds_differ raw.kind kind h.0
no_fault_at_end text tokens p raw kind d NumberTooLarge h = numbers_differ raw.kind kind h.0
no_fault_at_end text tokens p raw kind d TooHigh h = low_here tokens (Begin p) loosest (sym (reads_program tokens p d)) (λ x. x) (subst (λ o. EndsTooHigh tokens (last_at o)) (end_seen text raw kind) h)
no_fault_at_end text tokens p raw kind d Unexpected (NoEnd _ is none) = none p d
no_fault_at_end text tokens p raw kind d Unexpected (NoSentence _ t is fails) = none_some t (sym (end_seen text raw kind) ∙ is)
no_fault_at_end text tokens p raw kind d TooManyOpen h = none_some h.0 (sym (end_seen text raw kind) ∙ h.1)
no_fault_at_end text tokens p raw kind d TooManyStatements h = none_some h.0 (sym (end_seen text raw kind) ∙ h.1)
no_fault_at_end text tokens p raw kind d TooManyNodes h = none_some h.0 (sym (end_seen text raw kind) ∙ h.1)

pub accepted : (text : List ℕ) (tokens : List Token) (program : Program) (raw : TextToken) → raw.kind ≡ token_kinds.End → IsBehind language text tokens (Ok raw) → IsFaultless text tokens → AreStatements tokens program.stmts → IsAccepted text program
accepted text tokens program raw kind behind clean d = record {
  denotes = record { tokens = tokens; end = raw; is_end = kind; behind = behind; statements = d };
  faultless = λ fault f. none fault f (one_text language text tokens f.tokens (Ok raw) f.next behind f.behind);
}
  where
    none : (fault : SyntaxFault) (f : IsFault text fault) → Meets language text tokens (Ok raw) f.tokens f.next → ⊥
    none fault f (Same all is) = no_fault_at_end text tokens program.stmts raw kind d fault.cause (subst (λ n. Holds text tokens n fault.cause) (sym is) (subst (λ ts. Holds text ts f.next fault.cause) (sym all) f.cause))
    none fault f (Before g) = none_some g.own (sym (end_seen text raw kind) ∙ ap (seen text) g.is ∙ g.takes)
    none fault f (After g) = clean.none f.tokens g.rest g.own f.next fault.cause g.all f.behind (ap (seen text) g.is ∙ g.takes) f.cause

-- at a name that is too long, or a number that is too large
pub long_name : (text : List ℕ) (tokens : List Token) (raw : TextToken) → IsBehind language text tokens (Ok raw) → IsFaultless text tokens → IsLongName text (Ok raw) → IsRefused text (answers.NameTooLong raw.start)
long_name text tokens raw behind clean long =
    refused text NameTooLong raw.start (answers.NameTooLong raw.start)
    (first_here text tokens (Ok raw) NameTooLong behind clean long
    (ranks text tokens (Ok raw) 2 (inr (λ h. h)) (inl (omega arith)) (inl (omega arith)) (inl (omega arith)) (inl (omega arith)) (inl (omega arith)) (inl (omega arith)) (omega arith)))
    refl

pub large_number : (text : List ℕ) (tokens : List Token) (raw : TextToken) → IsBehind language text tokens (Ok raw) → IsFaultless text tokens → IsLargeNumber text (Ok raw) → IsRefused text (answers.NumberTooLarge raw.start)
large_number text tokens raw behind clean large =
    refused text NumberTooLarge raw.start (answers.NumberTooLarge raw.start)
    (first_here text tokens (Ok raw) NumberTooLarge behind clean large
    (ranks text tokens (Ok raw) 3 (inr (λ h. h)) (inr (λ h. names_differ raw.kind large.0 h.0)) (inl (omega arith)) (inl (omega arith)) (inl (omega arith)) (inl (omega arith)) (inl (omega arith)) (omega arith)))
    refl

-- a token of the language, behind tokens that lead to a state
pub record AtToken (text : List ℕ) (tokens : List Token) (s : State) (raw : TextToken) (t : Token) : Type 0 where
  pub behind : IsBehind language text tokens (Ok raw)
  pub state : s ≡ run (Begin []) tokens
  pub is : seen text (Ok raw) ≡ Some t

pub high_at : (text : List ℕ) (tokens : List Token) (s : State) (raw : TextToken) (t : Token) → AtToken text tokens s raw t → IsTooHigh (last_of t.word) s → Holds text tokens (Ok raw) TooHigh
high_at text tokens s raw t a high = subst (λ o. EndsTooHigh tokens (last_at o)) (sym a.is) (high_here tokens s (last_of t.word) a.state high)

pub low_at : (text : List ℕ) (tokens : List Token) (s : State) (raw : TextToken) (t : Token) → AtToken text tokens s raw t → ¬ IsTooHigh (last_of t.word) s → ¬ Holds text tokens (Ok raw) TooHigh
low_at text tokens s raw t a low h = low_here tokens s (last_of t.word) a.state low (subst (λ o. EndsTooHigh tokens (last_at o)) a.is h)

next_state : (tokens : List Token) (s : State) (t : Token) → s ≡ run (Begin []) tokens → run (Begin []) (tokens ++ t ∷ []) ≡ step s t
next_state tokens s t is = run_on step (Begin []) tokens (t ∷ []) ∙ ap (λ x. step x t) (sym is)

pub stuck_at : (text : List ℕ) (tokens : List Token) (s : State) (raw : TextToken) (t : Token) → AtToken text tokens s raw t → step s t ≡ Stuck → Holds text tokens (Ok raw) Unexpected
stuck_at text tokens s raw t a stuck = NoSentence raw t a.is (λ b. (begins_read (tokens ++ t ∷ [])).0 b (next_state tokens s t a.state ∙ stuck))

expected : (text : List ℕ) (tokens : List Token) (s : State) (raw : TextToken) (t : Token) → AtToken text tokens s raw t → step s t ≢ Stuck → ¬ IsUnexpected text tokens (Ok raw)
expected text tokens s raw t a goes (NoEnd _ kind none) = not_end text raw t a.is kind
expected text tokens s raw t a goes (NoSentence _ other is fails) =
    fails (subst (λ x. Begins AreStatements (tokens ++ x ∷ [])) (some_is t other (sym a.is ∙ is)) ((begins_read (tokens ++ t ∷ [])).1 (λ stuck. goes (sym (next_state tokens s t a.state) ∙ stuck))))

pub opens_many : (text : List ℕ) (tokens : List Token) (s : State) (raw : TextToken) (t : Token) → AtToken text tokens s raw t → Holds text tokens (Ok raw) TooManyOpen → IsDeep (step s t) ⊎ WaitsDeep text tokens t
opens_many text tokens s raw t a (other, is, depth, o, many) =
    let same : other ≡ t = some_is other t (sym is ∙ a.is) in
    ⊎_elim (λ deep. inl (subst (λ x. IsDeep (step x t)) (sym a.state) deep)) (λ w. inr w) (opens_deep text depth tokens t (subst (Opens text depth tokens) same o) many)

-- what is deep when the next token is known is a `-`
sign_pending : (s : State) → IsSignDeep s → IsPending s [] TooManyOpen
sign_pending (Minus at stack) h = tt
sign_pending _ h = absurd h

full_pending : (s : State) → most_nodes < nodes_read s → ¬ IsFull s → IsPending s [] TooManyNodes
full_pending (Minus at stack) many few = tt
full_pending (Begin done) many few = absurd (few many)
full_pending (reading.Input done part) many few = absurd (few many)
full_pending (AfterWord done binding) many few = absurd (few many)
full_pending (AfterName done binding name at) many few = absurd (few many)
full_pending (Want stack) many few = absurd (few many)
full_pending (Called at callee stack) many few = absurd (few many)
full_pending (Have e stack) many few = absurd (few many)
full_pending (WantNumber call stack) many few = absurd (few many)
full_pending (SignedNumber at call stack) many few = absurd (few many)
full_pending (HaveNumber call stack) many few = absurd (few many)
full_pending Stuck many few = absurd (few many)

begin_crowded : (word : Word) (p : List Stmt) → BeginsStatement word → most_statements ≤ length p → IsCrowded (begin word p)
begin_crowded words.Input p b many = many
begin_crowded (words.Bind binding) p b many = many
begin_crowded _ p b many = absurd b

crowded_at : (text : List ℕ) (tokens : List Token) (s : State) (raw : TextToken) (t : Token) → AtToken text tokens s raw t → Holds text tokens (Ok raw) TooManyStatements → IsCrowded (step s t)
crowded_at text tokens s raw t a (other, is, b, p, d, many) =
    let same : other ≡ t = some_is other t (sym is ∙ a.is) in
    subst (λ x. IsCrowded (step x t)) (sym (a.state ∙ reads_program tokens p d)) (begin_crowded t.word p (subst (λ (x : Token). BeginsStatement x.word) same b) many)

pub full_at : (text : List ℕ) (tokens : List Token) (s : State) (raw : TextToken) (t : Token) → AtToken text tokens s raw t → Holds text tokens (Ok raw) TooManyNodes → most_nodes < nodes_read (step s t)
full_at text tokens s raw t a (other, is, count, node, many) =
    let same : other ≡ t = some_is other t (sym is ∙ a.is) in
    let n : nodes_read (step s t) ≡ count + 1 = ap (λ x. nodes_read (step x t)) a.state ∙ node_counts count tokens t (subst (IsNode count tokens) same node) in
    omega arith

-- a deep or crowded or full state is no waiting `-`
pub waits_not : (text : List ℕ) (tokens : List Token) (s : State) (t : Token) → s ≡ run (Begin []) tokens → WaitsDeep text tokens t → IsSignDeep (step s t)
waits_not text tokens s t is w = subst (λ x. IsSignDeep (step x t)) (sym is) w.deep

pub crowded_sign : (s : State) → IsCrowded s → IsSignDeep s → ⊥
crowded_sign (Minus at stack) c d = c
crowded_sign (Begin done) c d = d
crowded_sign (reading.Input done part) c d = d
crowded_sign (AfterWord done binding) c d = d
crowded_sign (AfterName done binding name at) c d = d
crowded_sign (Want stack) c d = d
crowded_sign (Called at callee stack) c d = d
crowded_sign (Have e stack) c d = d
crowded_sign (WantNumber call stack) c d = d
crowded_sign (SignedNumber at call stack) c d = d
crowded_sign (HaveNumber call stack) c d = d
crowded_sign Stuck c d = d

pub full_sign : (s : State) → IsFull s → IsSignDeep s → ⊥
full_sign (Minus at stack) c d = c
full_sign (Begin done) c d = d
full_sign (reading.Input done part) c d = d
full_sign (AfterWord done binding) c d = d
full_sign (AfterName done binding name at) c d = d
full_sign (Want stack) c d = d
full_sign (Called at callee stack) c d = d
full_sign (Have e stack) c d = d
full_sign (WantNumber call stack) c d = d
full_sign (SignedNumber at call stack) c d = d
full_sign (HaveNumber call stack) c d = d
full_sign Stuck c d = d

abbrev pub Below : List ℕ → List Token → TextToken → ℕ → Type 0
Below text tokens raw r = (other : Cause) → Holds text tokens (Ok raw) other → r ≤ rank_of other

pub below_high : (text : List ℕ) (tokens : List Token) (s : State) (raw : TextToken) (t : Token) → AtToken text tokens s raw t → Below text tokens raw 4
below_high text tokens s raw t a = ranks text tokens (Ok raw) 4 (inr (λ h. h)) (inr (not_long text raw t a.is)) (inr (not_large text raw t a.is)) (inl (omega arith)) (inl (omega arith)) (inl (omega arith)) (inl (omega arith)) (omega arith)

pub below_unexpected : (text : List ℕ) (tokens : List Token) (s : State) (raw : TextToken) (t : Token) → AtToken text tokens s raw t → ¬ IsTooHigh (last_of t.word) s → Below text tokens raw 5
below_unexpected text tokens s raw t a low = ranks text tokens (Ok raw) 5 (inr (λ h. h)) (inr (not_long text raw t a.is)) (inr (not_large text raw t a.is)) (inr (low_at text tokens s raw t a low)) (inl (omega arith)) (inl (omega arith)) (inl (omega arith)) (omega arith)

pub below_open : (text : List ℕ) (tokens : List Token) (s : State) (raw : TextToken) (t : Token) → AtToken text tokens s raw t → ¬ IsTooHigh (last_of t.word) s → step s t ≢ Stuck → Below text tokens raw 6
below_open text tokens s raw t a low goes = ranks text tokens (Ok raw) 6 (inr (λ h. h)) (inr (not_long text raw t a.is)) (inr (not_large text raw t a.is)) (inr (low_at text tokens s raw t a low)) (inr (expected text tokens s raw t a goes)) (inl (omega arith)) (inl (omega arith)) (omega arith)

pub below_statements : (text : List ℕ) (tokens : List Token) (s : State) (raw : TextToken) (t : Token) → AtToken text tokens s raw t → ¬ IsTooHigh (last_of t.word) s → step s t ≢ Stuck → ¬ IsDeep (step s t) → (¬ IsSignDeep (step s t)) → Below text tokens raw 7
below_statements text tokens s raw t a low goes shallow plain = ranks text tokens (Ok raw) 7 (inr (λ h. h)) (inr (not_long text raw t a.is)) (inr (not_large text raw t a.is)) (inr (low_at text tokens s raw t a low)) (inr (expected text tokens s raw t a goes))
    (inr (λ h. ⊎_elim shallow (λ w. plain (waits_not text tokens s t a.state w)) (opens_many text tokens s raw t a h))) (inl (omega arith)) (omega arith)

pub below_nodes : (text : List ℕ) (tokens : List Token) (s : State) (raw : TextToken) (t : Token) → AtToken text tokens s raw t → ¬ IsTooHigh (last_of t.word) s → step s t ≢ Stuck → ¬ IsDeep (step s t) → (¬ IsSignDeep (step s t)) → ¬ IsCrowded (step s t) → Below text tokens raw 8
below_nodes text tokens s raw t a low goes shallow plain thin = ranks text tokens (Ok raw) 8 (inr (λ h. h)) (inr (not_long text raw t a.is)) (inr (not_large text raw t a.is)) (inr (low_at text tokens s raw t a low)) (inr (expected text tokens s raw t a goes))
    (inr (λ h. ⊎_elim shallow (λ w. plain (waits_not text tokens s t a.state w)) (opens_many text tokens s raw t a h))) (inr (λ h. thin (crowded_at text tokens s raw t a h))) (omega arith)

pub first_at : (text : List ℕ) (tokens : List Token) (s : State) (raw : TextToken) (t : Token) (cause : Cause) → AtToken text tokens s raw t → IsFaultless text tokens → Holds text tokens (Ok raw) cause → Below text tokens raw (rank_of cause) → IsFirst (IsFault text) (λ f. f.at) rank (record { cause = cause; at = raw.start })
first_at text tokens s raw t cause a clean holds below = first_here text tokens (Ok raw) cause a.behind clean holds below

-- the last token, or an earlier one
pub data SplitsLast (tokens : List Token) (t : Token) (us : List Token) (own : Token) (rest : List Token) : Type 0 where
  Last : rest ≡ [] → us ≡ tokens → own ≡ t → SplitsLast tokens t us own rest
  Earlier_one : (more : List Token) → rest ≡ more ++ t ∷ [] → tokens ≡ us ++ own ∷ more → SplitsLast tokens t us own rest

head_is : (a b : Token) (xs ys : List Token) → a ∷ xs ≡ b ∷ ys → a ≡ b
head_is a b xs ys e = cc

tail_is : (a b : Token) (xs ys : List Token) → a ∷ xs ≡ b ∷ ys → xs ≡ ys
tail_is a b xs ys e = cc

nil_split : (us rest : List Token) (own : Token) → [] ≡ us ++ own ∷ rest → ⊥
nil_split [] rest own e = cc
nil_split (u ∷ us) rest own e = cc

pub splits_last : (tokens : List Token) (t : Token) (us : List Token) (own : Token) (rest : List Token) → tokens ++ t ∷ [] ≡ us ++ own ∷ rest → SplitsLast tokens t us own rest
splits_last [] t [] own rest e = Last (sym (tail_is t own [] rest e)) refl (sym (head_is t own [] rest e))
splits_last [] t (u ∷ us) own rest e = absurd (nil_split us rest own (tail_is t u [] (us ++ own ∷ rest) e))
splits_last (x ∷ tokens) t [] own rest e = Earlier_one tokens (sym (tail_is x own (tokens ++ t ∷ []) rest e)) (ap (λ y. y ∷ tokens) (head_is x own (tokens ++ t ∷ []) rest e))
splits_last (x ∷ tokens) t (u ∷ us) own rest e = longer (head_is x u (tokens ++ t ∷ []) (us ++ own ∷ rest) e) (splits_last tokens t us own rest (tail_is x u (tokens ++ t ∷ []) (us ++ own ∷ rest) e))
  where
    longer : x ≡ u → SplitsLast tokens t us own rest → SplitsLast (x ∷ tokens) t (u ∷ us) own rest
    longer same (Last none all is) = Last none (ap (λ y. y ∷ us) (sym same) ∙ ap (λ ts. x ∷ ts) all) is
    longer same (Earlier_one more all is) = Earlier_one more all (ap (λ y. y ∷ tokens) same ∙ ap (λ ts. u ∷ ts) is)

-- what may be pending at a token that is taken
taken_pending : (text : List ℕ) (tokens : List Token) (s : State) (raw : TextToken) (t : Token) → AtToken text tokens s raw t → ¬ IsTooHigh (last_of t.word) s → step s t ≢ Stuck → ¬ IsDeep (step s t) → ¬ IsCrowded (step s t) → ¬ IsFull (step s t) → (cause : Cause) → Holds text tokens (Ok raw) cause → IsPending (step s t) [] cause
taken_pending text tokens s raw t a low goes shallow thin few NotAscii h = absurd h
taken_pending text tokens s raw t a low goes shallow thin few NameTooLong h = absurd (not_long text raw t a.is h)
taken_pending text tokens s raw t a low goes shallow thin few NumberTooLarge h = absurd (not_large text raw t a.is h)
taken_pending text tokens s raw t a low goes shallow thin few TooHigh h = absurd (low_at text tokens s raw t a low h)
taken_pending text tokens s raw t a low goes shallow thin few Unexpected h = absurd (expected text tokens s raw t a goes h)
taken_pending text tokens s raw t a low goes shallow thin few TooManyOpen h = ⊎_elim (λ deep. absurd (shallow deep)) (λ w. sign_pending (step s t) (waits_not text tokens s t a.state w)) (opens_many text tokens s raw t a h)
taken_pending text tokens s raw t a low goes shallow thin few TooManyStatements h = absurd (thin (crowded_at text tokens s raw t a h))
taken_pending text tokens s raw t a low goes shallow thin few TooManyNodes h = full_pending (step s t) (full_at text tokens s raw t a h) few

-- one answer stands next
pub same_seen : (text : List ℕ) (tokens : List Token) (raw : TextToken) (next : Result TextToken TokenFault) (t : Token) → IsBehind language text tokens (Ok raw) → IsBehind language text tokens next → seen text next ≡ Some t → next ≡ Ok raw
same_seen text tokens raw next t behind other is = same (one_text language text tokens tokens (Ok raw) next behind other)
  where
    longer_not : (xs rest : List Token) (x : Token) → xs ≡ xs ++ x ∷ rest → ⊥
    longer_not xs rest x e = let l = ap length e in let m = length-append xs (x ∷ rest) in omega arith

    same : Meets language text tokens (Ok raw) tokens next → next ≡ Ok raw
    same (Same all is) = sym is
    same (Before g) = absurd (longer_not tokens g.rest g.own g.all)
    same (After g) = absurd (longer_not tokens g.rest g.own g.all)

-- a token more keeps that none has a fault
pub clean_more : (text : List ℕ) (tokens : List Token) (s : State) (raw : TextToken) (t : Token) → AtToken text tokens s raw t → IsFaultless text tokens → ¬ IsTooHigh (last_of t.word) s → step s t ≢ Stuck → ¬ IsDeep (step s t) → ¬ IsCrowded (step s t) → ¬ IsFull (step s t) → IsClean text (tokens ++ t ∷ []) (step s t)
clean_more text tokens s raw t a clean low goes shallow thin few us rest own next cause all behind is holds = by (splits_last tokens t us own rest all)
  where
    by : SplitsLast tokens t us own rest → IsPending (step s t) rest cause
    by (Earlier_one more ends whole) = absurd (clean.none us more own next cause whole behind is holds)
    by (Last none same last) =
        let at_tokens : IsBehind language text tokens next = subst (λ ts. IsBehind language text ts next) same behind in
        let next_is : next ≡ Ok raw = same_seen text tokens raw next own a.behind at_tokens is in
        subst (λ r. IsPending (step s t) r cause) (sym none)
        (taken_pending text tokens s raw t a low goes shallow thin few cause (subst (λ n. Holds text tokens n cause) next_is (subst (λ ts. Holds text ts next cause) same holds)))

-- two programs that a text denotes are one
pub one_program : (text : List ℕ) (one other : Program) → Denotes text one → Denotes text other → one ≡ other
one_program text one other h g = by (one_text language text h.tokens g.tokens (Ok h.end) (Ok g.end) h.behind g.behind)
  where
    by : Meets language text h.tokens (Ok h.end) g.tokens (Ok g.end) → one ≡ other
    by (Same all is) =
        let same : one.stmts ≡ other.stmts = one_value AreStatements reader follows h.tokens one.stmts other.stmts h.statements (subst (λ ts. AreStatements ts other.stmts) (sym all) g.statements) in
        λ i. record { stmts = same i }
    by (Before b) = absurd (none_some b.own (sym (end_seen text h.end h.is_end) ∙ ap (seen text) b.is ∙ b.takes))
    by (After b) = absurd (none_some b.own (sym (end_seen text g.end g.is_end) ∙ ap (seen text) b.is ∙ b.takes))
