-- What a turn of the parser gives.
use Rattle.std.proofs.Common.{◌≡◌, ◌≢◌, ◌↔◌, ◌⊎◌, inl, inr, ⊎_elim, ℕ, ◌+◌, ◌≤◌, ◌<◌, Bool, true, false, List, [], ◌∷◌, ◌++◌, length, Option, Some, None, refl, sym, ap, subst, ◌∙◌, arith, append_assoc, append-nil, length-append}
use Rattle.std.specs.Prelude.{nat_le, nat_lt, pos, neg_ℤ, ℤ}
use Rattle.ven_base.specs.declared.elem.Elem.TheVariants as elems
use Rattle.ven_base.specs.declared.ops.Op1.TheVariants as unary
use Rattle.ven_io.specs.Reader.{Reader, Begins, Follows as FollowsGrammar, run_from}
use Rattle.ven_io.proofs.Readers.{run_on, begins_iff}
use Rattle.array_syntax.specs.declared.call.Earlier.{Earlier}
use Rattle.array_syntax.specs.declared.call.Earlier.TheVariants as earlier
use Rattle.array_syntax.specs.declared.call.MapCall.{MapCall}
use Rattle.array_syntax.specs.declared.call.Number.{Number}
use Rattle.array_syntax.specs.declared.frames.Frame.{Frame}
use Rattle.array_syntax.specs.declared.frames.Frame.TheVariants as frames
use Rattle.array_syntax.specs.declared.frames.Sign.{Sign}
use Rattle.array_syntax.specs.declared.frames.Sign.TheVariants as prefixes
use Rattle.array_syntax.specs.declared.machine.Part.{Part}
use Rattle.array_syntax.specs.declared.machine.Part.TheVariants as parts
use Rattle.array_syntax.specs.declared.program.Expr.{Expr}
use Rattle.array_syntax.specs.declared.program.ExprKind.{ExprKind}
use Rattle.array_syntax.specs.declared.program.ExprKind.TheVariants as kinds
use Rattle.array_syntax.specs.declared.program.Stmt.{Stmt}
use Rattle.array_syntax.specs.declared.program.Stmt.TheVariants as stmts
use Rattle.array_syntax.specs.declared.word.Binding.{Binding}
use Rattle.array_syntax.specs.declared.word.Binding.TheVariants as bindings
use Rattle.array_syntax.specs.declared.word.Callee.{Callee}
use Rattle.array_syntax.specs.declared.word.Callee.TheVariants as callees
use Rattle.array_syntax.specs.declared.word.Operator.{Operator}
use Rattle.array_syntax.specs.declared.word.Operator.TheVariants as operators
use Rattle.array_syntax.specs.declared.word.Token.{Token}
use Rattle.array_syntax.specs.declared.word.Word.{Word}
use Rattle.array_syntax.specs.declared.word.Word.TheVariants as words
use Rattle.array_syntax.specs.Grammar as grammar
use Rattle.array_syntax.specs.Grammar.{token, expr, minus, IsNumber, count, followed, bound, IsNumberArgument, Plain, Signed, AreNumbers, Nothing, More, IsExpr, Name, Literal, Negative, Brackets, Flip, Negate, Two, Call, Map, IsBegun, Opened, Argued, AreStatements, Empty, Bound}
use Rattle.array_syntax.specs.Reading as reading
use Rattle.array_syntax.specs.Reading.{State, Begin, AfterWord, AfterName, Want, Minus, Called, Have, WantNumber, SignedNumber, HaveNumber, Stuck, room, choose, one, two, reduce, tight, reach_of, op_of, placed, made, mapped, argued, close, act_of, act, want, after_minus, called, with_value, want_number, signed_number, have_number, begin, input, after_word, after_name, step, ending, reader, run, depth_of, count_of, nodes_read, unless_number, wanted}
use Rattle.array_syntax.specs.Table.{loosest, level, left_level, right_level, operands, numbers, takes_sign, call_of, map_of}
use Rattle.array_syntax.specs.Faults as faults
use Rattle.array_syntax.specs.Faults.{nodes_before, MayBegin, AtValue, InBrackets, BehindFlip, BehindNegate, BehindSign, InCall, EndsWith, EndsTooHigh, last_of, IsOperand, IsNode, Opens, IsNumberNext, seen, Cause, NotAscii, NameTooLong, NumberTooLarge, TooHigh, Unexpected, TooManyOpen, TooManyStatements, TooManyNodes, rank_of, Holds, answer_of, IsAccepted, IsRefused, IsAnswered}
use Rattle.array_syntax.specs.Limits.{nodes, program_nodes, nodes_of, height, most_height, most_nodes, most_statements}
use Rattle.array_syntax.specs.Tree.{tree_of}
use Rattle.std.specs.Prelude.{max}
use Rattle.array_syntax.specs.declared.machine.Phase.{Phase}
use Rattle.array_syntax.specs.declared.machine.Phase.TheVariants as phases
use Rattle.array_syntax.specs.Steps.{opens, IsHigher, IsTooHigh, is_operand, is_sign, is_prefixed, begins_node, and_one, IsDeep, IsCrowded, IsFull, IsSignDeep, IsSignFull, depth_in}
use Rattle.array_syntax.specs.Words.{keywords, sign_words, look_up, name_word, word_of, language}
use Rattle.ven_io.specs.declared.token.TokenFault.{TokenFault}
use Rattle.ven_io.specs.declared.token.TokenFault.TheVariants as token_faults
use Rattle.ven_io.specs.declared.token.TokenKind.{TokenKind}
use Rattle.ven_io.specs.declared.token.TokenKind.TheVariants as token_kinds
use Rattle.ven_io.specs.declared.token.Token.{Token as TextToken}
use Rattle.ven_io.specs.Number.{value_of, number_limit}
use Rattle.ven_io.specs.Tokens.{Language, IsTaken, TokensTo, Here, Passed, Taken, IsKept, IsBehind, place_of}
use Rattle.ven_io.specs.Token.{NextIs, IsSpelling, StandsAt, signs, bytes_of}
use Rattle.ven_io.proofs.Reached.{tokens_on, meets, one_text, Meets, GoesOn, Same, Before, After}
use Rattle.array_syntax.proofs.Splitting.{Splits, split_at, split_behind}
use Rattle.std.specs.Prelude.{if◌then◌else◌, Result, Ok, Err, IsTrue, IsFalse, option_map}
use Rattle.array_syntax.specs.declared.fault.ParseFault.{ParseFault}
use Rattle.array_syntax.specs.declared.fault.ParseFault.TheVariants as answers
use Rattle.array_syntax.specs.declared.machine.Refusal.{Refusal}
use Rattle.array_syntax.specs.declared.machine.Refusal.TheVariants as refusals
use Rattle.array_syntax.specs.declared.program.Program.{Program}
use Rattle.array_syntax.specs.Parsing.{StandsFrom, IsPending, IsClean, HasRead, IsReady, fault_at, unread_at}
use Rattle.array_syntax.specs.Steps.{Advanced, Settled, sign_place}
use Rattle.array_syntax.proofs.Counting.{count_step}
use Rattle.array_syntax.proofs.Leading.{stands_may}
use Rattle.array_syntax.proofs.Opening.{OpensMany, WaitsDeep, deep_opens, low_step, node_counts, counted_node}
use Rattle.array_syntax.proofs.Reducing.{some_is, none_some}
use Rattle.array_syntax.proofs.Stands.{IsRead}
use Rattle.array_syntax.proofs.Stepping.{is_read}
use Rattle.array_syntax.proofs.Texts.{IsFaultless, first_here, refused, AtToken, high_at, stuck_at, below_high, below_unexpected, below_open, below_statements, below_nodes, first_at, opens_many, full_at, crowded_sign, full_sign, clean_more, same_seen, long_name, large_number, waits_not}
use Rattle.array_syntax.proofs.Vocabulary.{HasNone, no_word, none_is}

-- the token that stands next is behind the tokens that were read
pub stands_behind : (text : List ℕ) (from : ℕ) (tokens : List Token) (next : Result TextToken TokenFault) → TokensTo language text 0 tokens from → StandsFrom text from next → IsBehind language text tokens next
stands_behind text from tokens next read stands = record {
  from = stands.place;
  next_is = stands.next_is;
  kept = stands.kept;
  read = subst (λ ts. TokensTo language text 0 ts stands.place) (append-nil tokens) (tokens_on language text 0 from stands.place tokens [] read stands.passed);
}

same_next : (text : List ℕ) (tokens : List Token) (one other : Result TextToken TokenFault) → IsBehind language text tokens one → IsBehind language text tokens other → one ≡ other
same_next text tokens one other behind also = same (one_text language text tokens tokens one other behind also)
  where
    longer_not : (xs rest : List Token) (x : Token) → xs ≡ xs ++ x ∷ rest → ⊥
    longer_not xs rest x e = let l = ap length e in let m = length-append xs (x ∷ rest) in omega arith

    same : Meets language text tokens one tokens other → one ≡ other
    same (Same all is) = is
    same (Before g) = absurd (longer_not tokens g.rest g.own g.all)
    same (After g) = absurd (longer_not tokens g.rest g.own g.all)

-- what is pending is judged when the next token is known
settled_open : (text : List ℕ) (tokens us : List Token) (own : Token) (at : ℕ) (stack : List Frame) (next found : Result TextToken TokenFault) → tokens ≡ us ++ own ∷ [] → Minus at stack ≡ run (Begin []) tokens → IsBehind language text tokens next → IsBehind language text us found → seen text found ≡ Some own → (IsNumberNext next ⊎ (¬ IsSignDeep (Minus at stack))) → ¬ Holds text us found TooManyOpen
settled_open text tokens us own at stack next (Err fault) all state behind before is settled h = absurd (none_some own is)
settled_open text tokens us own at stack next (Ok raw) all state behind before is settled h =
    let here : step (run (Begin []) us) own ≡ Minus at stack = sym (run_on step (Begin []) us (own ∷ [])) ∙ ap (run (Begin [])) (sym all) ∙ sym state in
    let a : AtToken text us (run (Begin []) us) raw own = record { behind = before; state = refl; is = is } in
    ⊎_elim
    (λ deep. subst IsDeep here deep)
    (λ w.
    let next_is : next ≡ w.next = same_next text tokens next w.next behind (subst (λ ts. IsBehind language text ts w.next) (sym all) w.behind) in
    ⊎_elim (λ number. w.no_number (subst IsNumberNext next_is number)) (λ not_deep. not_deep (subst IsSignDeep here (waits_not text us (run (Begin []) us) own refl w))) settled)
    (opens_many text us (run (Begin []) us) raw own a h)

settled_nodes : (text : List ℕ) (tokens us : List Token) (own : Token) (at : ℕ) (stack : List Frame) (found : Result TextToken TokenFault) → tokens ≡ us ++ own ∷ [] → Minus at stack ≡ run (Begin []) tokens → IsBehind language text us found → seen text found ≡ Some own → ¬ IsSignFull (Minus at stack) → ¬ Holds text us found TooManyNodes
settled_nodes text tokens us own at stack (Err fault) all state before is few h = absurd (none_some own is)
settled_nodes text tokens us own at stack (Ok raw) all state before is few h =
    let here : step (run (Begin []) us) own ≡ Minus at stack = sym (run_on step (Begin []) us (own ∷ [])) ∙ ap (run (Begin [])) (sym all) ∙ sym state in
    let a : AtToken text us (run (Begin []) us) raw own = record { behind = before; state = refl; is = is } in
    few (subst (λ n. most_nodes < n) (ap nodes_read here) (full_at text us (run (Begin []) us) raw own a h))

settled_cause : (text : List ℕ) (tokens us rest : List Token) (own : Token) (s : State) (next found : Result TextToken TokenFault) (cause : Cause) → IsPending s rest cause → tokens ≡ us ++ own ∷ rest → s ≡ run (Begin []) tokens → IsBehind language text tokens next → IsBehind language text us found → seen text found ≡ Some own → (IsNumberNext next ⊎ (¬ IsSignDeep s)) → ¬ IsSignFull s → ¬ Holds text us found cause
settled_cause text tokens us [] own (Minus at stack) next found TooManyOpen p all state behind before is opened few = settled_open text tokens us own at stack next found all state behind before is opened
settled_cause text tokens us [] own (Minus at stack) next found TooManyNodes p all state behind before is opened few = settled_nodes text tokens us own at stack found all state before is few
settled_cause text tokens us [] own (Minus at stack) next found _ p all state behind before is opened few = absurd p
settled_cause text tokens us (r ∷ rest) own (Minus at stack) next found _ p all state behind before is opened few = absurd p
settled_cause text tokens us _ own _ next found _ p all state behind before is opened few = absurd p

pub settled_clean : (text : List ℕ) (tokens : List Token) (s : State) (next : Result TextToken TokenFault) → IsClean text tokens s → s ≡ run (Begin []) tokens → IsBehind language text tokens next → Settled s next None → IsFaultless text tokens
settled_clean text tokens s next clean state behind settled = record {
  none = λ us rest own found cause all before is holds. settled_cause text tokens us rest own s next found cause (clean us rest own found cause all before is holds) all state behind before is settled.0 settled.1 holds;
}

pending_rank : (s : State) (cause : Cause) → IsPending s [] cause → 6 ≤ rank_of cause
pending_rank (Minus at stack) TooManyOpen p = omega arith
pending_rank (Minus at stack) TooManyNodes p = omega arith
pending_rank _ _ p = absurd p

pending_nodes : (s : State) (cause : Cause) → IsPending s [] cause → (cause ≡ TooManyOpen) ⊎ (8 ≤ rank_of cause)
pending_nodes (Minus at stack) TooManyOpen p = inl refl
pending_nodes (Minus at stack) TooManyNodes p = inr (omega arith)
pending_nodes _ _ p = absurd p

pending_last : (s : State) (rest : List Token) (t : Token) (cause : Cause) → IsPending s (rest ++ t ∷ []) cause → ⊥
pending_last (Minus at stack) [] t cause p = p
pending_last (Minus at stack) (r ∷ rest) t cause p = p
pending_last _ [] t cause p = p
pending_last _ (r ∷ rest) t cause p = p

-- the tokens before a `-` at the end
pub record BeforeSign (text : List ℕ) (tokens : List Token) (at : ℕ) (stack : List Frame) : Type 0 where
  pub before : List Token
  pub raw : TextToken
  pub all : tokens ≡ before ++ token at minus ∷ []
  pub behind : IsBehind language text before (Ok raw)
  pub is : seen text (Ok raw) ≡ Some (token at minus)
  pub place : raw.start ≡ at
  pub begins : MayBegin (room stack) (depth_of stack) (count_of stack) before minus

token_place : (raw : TextToken) (bytes : List ℕ) (t : Token) (o : Option Word) → option_map (λ word. token raw.start word) o ≡ Some t → raw.start ≡ t.at
token_place raw bytes t None is = absurd (none_some t is)
token_place raw bytes t (Some word) is = ap (λ (x : Token). x.at) (some_is (token raw.start word) t is)

pub before_sign : (text : List ℕ) (from : ℕ) (tokens : List Token) (at : ℕ) (stack : List Frame) → Minus at stack ≡ run (Begin []) tokens → TokensTo language text 0 tokens from → BeforeSign text tokens at stack
before_sign text from tokens at stack state read =
    let (before, st, all, f) = subst (IsRead tokens) (sym state) (is_read tokens) in
    let s = split_at language text 0 from tokens before (token at minus) [] all read in
    record {
      before = before;
      raw = s.token;
      all = all;
      behind = split_behind language text before [] (token at minus) from s;
      is = s.taken.is;
      place = token_place s.token (bytes_of text s.token) (token at minus) (word_of s.token.kind (bytes_of text s.token)) s.taken.is;
      begins = stands_may stack before minus st f;
    }

before_clean : (text : List ℕ) (tokens before : List Token) (s : State) (t : Token) → tokens ≡ before ++ t ∷ [] → IsClean text tokens s → IsFaultless text before
before_clean text tokens before s t all clean = record {
  none = λ us rest own found cause split behind is holds. pending_last s rest t cause (clean us (rest ++ t ∷ []) own found cause (all ∙ ap (λ ts. ts ++ t ∷ []) split ∙ append_assoc us (own ∷ rest) (t ∷ [])) behind is holds);
}

pub sign_open : (text : List ℕ) (from count : ℕ) (tokens : List Token) (at : ℕ) (stack : List Frame) (next : Result TextToken TokenFault) → TokensTo language text 0 tokens from → Minus at stack ≡ run (Begin []) tokens → IsClean text tokens (Minus at stack) → IsBehind language text tokens next → ¬ IsNumberNext next → IsSignDeep (Minus at stack) → IsRefused text (answers.TooDeep at)
sign_open text from count tokens at stack next read state clean behind non deep =
    let b = before_sign text from tokens at stack state read in
    refused text TooManyOpen b.raw.start (answers.TooDeep at)
    (first_here text b.before (Ok b.raw) TooManyOpen b.behind (before_clean text tokens b.before (Minus at stack) (token at minus) b.all clean)
    (token at minus, b.is, depth_of stack, faults.Negate (room stack) (depth_of stack) (count_of stack) at b.before next b.begins (subst (λ ts. IsBehind language text ts next) b.all behind) non, omega arith)
    (λ other holds. pending_rank (Minus at stack) other (clean b.before [] (token at minus) (Ok b.raw) other b.all b.behind b.is holds)))
    (ap answers.TooDeep (sym b.place))

pub sign_full : (text : List ℕ) (from : ℕ) (tokens : List Token) (at : ℕ) (stack : List Frame) (next : Result TextToken TokenFault) → TokensTo language text 0 tokens from → Minus at stack ≡ run (Begin []) tokens → IsClean text tokens (Minus at stack) → IsBehind language text tokens next → (IsNumberNext next ⊎ (¬ IsSignDeep (Minus at stack))) → IsSignFull (Minus at stack) → IsRefused text (answers.TooManyNodes at)
sign_full text from tokens at stack next read state clean behind opened full =
    let b = before_sign text from tokens at stack state read in
    refused text TooManyNodes b.raw.start (answers.TooManyNodes at)
    (first_here text b.before (Ok b.raw) TooManyNodes b.behind (before_clean text tokens b.before (Minus at stack) (token at minus) b.all clean)
    (token at minus, b.is, count_of stack, faults.Operand (room stack) (depth_of stack) (count_of stack) b.before (token at minus) b.begins tt, omega arith)
    (λ other holds. ⊎_elim
    (λ same. absurd (settled_open text tokens b.before (token at minus) at stack next (Ok b.raw) b.all state behind b.behind b.is opened (subst (Holds text b.before (Ok b.raw)) same holds)))
    (λ le. le)
    (pending_nodes (Minus at stack) other (clean b.before [] (token at minus) (Ok b.raw) other b.all b.behind b.is holds))))
    (ap answers.TooManyNodes (sym b.place))

-- what is answered where a `-` is refused
pub sign_refused : (text : List ℕ) (from count : ℕ) (s : State) (next : Result TextToken TokenFault) (refusal : Refusal) → HasRead text from s count → StandsFrom text from next → Settled s next (Some refusal) → IsAnswered text (fault_at refusal (sign_place s))
sign_refused text from count (Minus at stack) next refusals.TooManyOpen h stands settled = sign_open text from count h.tokens at stack next h.read h.state h.clean (stands_behind text from h.tokens next h.read stands) settled.0 settled.1
sign_refused text from count (Minus at stack) next refusals.TooManyNodes h stands settled = sign_full text from h.tokens at stack next h.read h.state h.clean (stands_behind text from h.tokens next h.read stands) settled.0 settled.1
sign_refused text from count s next refusals.TooHigh h stands settled = absurd settled
sign_refused text from count s next refusals.Unexpected h stands settled = absurd settled
sign_refused text from count s next refusals.TooManyStatements h stands settled = absurd settled
sign_refused text from count s next refusals.Memory h stands settled = tt
sign_refused text from count _ next refusals.TooManyOpen h stands settled = absurd settled.1
sign_refused text from count _ next refusals.TooManyNodes h stands settled = absurd settled.1

-- what stands next, and that no token has a fault
pub ready_behind : (text : List ℕ) (from count : ℕ) (s : State) (next : Result TextToken TokenFault) (r : IsReady text from s count next) → IsBehind language text r.has.tokens next
ready_behind text from count s next r = stands_behind text from r.has.tokens next r.has.read r.stands

pub ready_clean : (text : List ℕ) (from count : ℕ) (s : State) (next : Result TextToken TokenFault) (r : IsReady text from s count next) → IsFaultless text r.has.tokens
ready_clean text from count s next r = settled_clean text r.has.tokens s next r.has.clean r.has.state (ready_behind text from count s next r) r.settled

seen_is : (text : List ℕ) (raw : TextToken) (word : Word) → Some word ≡ word_of raw.kind (bytes_of text raw) → seen text (Ok raw) ≡ Some (token raw.start word)
seen_is text raw word is = ap (option_map (λ w. token raw.start w)) (sym is)

ready_at : (text : List ℕ) (from count : ℕ) (s : State) (raw : TextToken) (word : Word) (r : IsReady text from s count (Ok raw)) → Some word ≡ word_of raw.kind (bytes_of text raw) → AtToken text r.has.tokens s raw (token raw.start word)
ready_at text from count s raw word r is = record { behind = ready_behind text from count s (Ok raw) r; state = r.has.state; is = seen_is text raw word is }

number_word : (bytes : List ℕ) (word : Word) (b : Bool) → (if b then Some (words.Number (value_of bytes)) else None) ≡ Some word → IsNumber word
number_word bytes word true is = subst IsNumber (some_is (words.Number (value_of bytes)) word is) tt
number_word bytes word false is = absurd (none_some word is)

is_number : (kind : TokenKind) (bytes : List ℕ) (word : Word) → kind ≡ token_kinds.Number → Some word ≡ word_of kind bytes → IsNumber word
is_number kind bytes word number is = number_word bytes word (nat_le (value_of bytes) number_limit) (sym (is ∙ ap (λ k. word_of k bytes) number))

pub number_settled : (text : List ℕ) (raw : TextToken) (word : Word) (s : State) → (IsNumberNext (Ok raw) ⊎ (¬ IsSignDeep s)) → Some word ≡ word_of raw.kind (bytes_of text raw) → ¬ IsNumber word → ¬ IsSignDeep s
number_settled text raw word s settled is non = ⊎_elim (λ number. absurd (non (is_number raw.kind (bytes_of text raw) word number is))) (λ low. low) settled

-- a statement too many begins behind as many as there may be
begin_statement : (word : Word) (done : List Stmt) → IsCrowded (begin word done) → faults.BeginsStatement word × (most_statements ≤ length done)
begin_statement words.Input done c = (tt, c)
begin_statement (words.Bind binding) done c = (tt, c)
begin_statement _ done c = absurd c

begun_crowded : (tokens : List Token) (done : List Stmt) (t : Token) → IsRead tokens (Begin done) → IsCrowded (begin t.word done) → faults.BeginsStatement t.word × (p : List Stmt) × AreStatements tokens p × (most_statements ≤ length p)
begun_crowded tokens done t d c = let (b, many) = begin_statement t.word done c in (b, done, d, many)

thin_input : (part : Part) (word : Word) (at : ℕ) (done : List Stmt) → ¬ IsCrowded (input part word at done)
thin_input parts.AfterWord (words.Name name) at done h = h
thin_input (parts.AfterName name place) (words.Call (callees.Cast elem)) at done h = h
thin_input (parts.AfterType heading) words.OpenSquare at done h = h
thin_input (parts.AfterOpen heading shape_at) (words.Number rows) at done h = h
thin_input (parts.AfterRows heading shape_at rows) words.Comma at done h = h
thin_input (parts.AfterComma heading shape_at rows) (words.Number cols) at done h = h
thin_input (parts.AfterCols heading shape_at rows cols) words.CloseSquare at done h = h
thin_input (parts.AfterClose heading shape_at rows cols) words.Semicolon at done h = h
thin_input _ _ at done h = h

thin_word : (word : Word) (at : ℕ) (done : List Stmt) (binding : Binding) → ¬ IsCrowded (after_word word at done binding)
thin_word (words.Name name) at done binding h = h
thin_word _ at done binding h = h

thin_name : (word : Word) (at : ℕ) (done : List Stmt) (binding : Binding) (name : List ℕ) → ¬ IsCrowded (after_name word done binding name at)
thin_name words.Assign at done binding name h = h
thin_name _ at done binding name h = h

thin_want : (word : Word) (at : ℕ) (stack : List Frame) → ¬ IsCrowded (want word at stack)
thin_want (words.Name name) at stack h = h
thin_want (words.Number n) at stack h = h
thin_want (words.Operator operators.Minus) at stack h = h
thin_want words.Tilde at stack h = h
thin_want words.Open at stack h = h
thin_want (words.Call callee) at stack h = h
thin_want _ at stack h = h

thin_minus : (word : Word) (at place : ℕ) (stack : List Frame) → ¬ IsCrowded (after_minus word at place stack)
thin_minus (words.Number n) at place stack h = h
thin_minus word at place stack h = thin_want word at (frames.Prefix place prefixes.Negate ∷ stack) h

thin_called : (word : Word) (at : ℕ) (callee : Callee) (stack : List Frame) → ¬ IsCrowded (called word at callee stack)
thin_called words.Open at callee stack h = h
thin_called _ at callee stack h = h

thin_choice : (b : Bool) (s : State) → ¬ IsCrowded s → ¬ IsCrowded (choose b s Stuck)
thin_choice true s thin h = thin h
thin_choice false s thin h = h

thin_made : (o : Option Expr) (stack : List Frame) → ¬ IsCrowded (made o stack)
thin_made None stack h = h
thin_made (Some e) stack h = h

thin_mapped : (at : ℕ) (callee : Callee) (before : Earlier) (e : Expr) (stack : List Frame) → ¬ IsCrowded (mapped at callee before e stack)
thin_mapped at callee earlier.Nothing e stack h = thin_choice (nat_lt 0 (numbers callee)) (WantNumber (record { at = at; callee = callee; of = e; values = [] }) stack) (λ x. x) h
thin_mapped at callee _ e stack h = h

thin_argued : (at : ℕ) (callee : Callee) (before : Earlier) (e : Expr) (stack : List Frame) (b : Bool) → ¬ IsCrowded (choose b (Want (frames.Call at callee (followed before e) ∷ stack)) (mapped at callee before e stack))
thin_argued at callee before e stack true h = h
thin_argued at callee before e stack false h = thin_mapped at callee before e stack h

thin_close : (word : Word) (e : Expr) (stack : List Frame) → ¬ IsCrowded (close word e stack)
thin_close words.Close e (frames.Bracket ∷ stack) h = h
thin_close words.Close e (frames.Call at callee before ∷ stack) h = thin_made (placed at (call_of callee before e)) stack h
thin_close words.Comma e (frames.Call at callee before ∷ stack) h = thin_argued at callee before e stack (nat_lt (count before + 1) (operands callee)) h
thin_close words.Semicolon e (frames.Body done binding name at ∷ stack) h = h
thin_close _ e _ h = h

thin_act : (at : ℕ) (word : Word) (e : Expr) (stack : List Frame) → ¬ IsCrowded (act (token at word) (Have e stack))
thin_act at (words.Operator op) e stack h = thin_choice (nat_le (level op) (room stack)) (Want (frames.Binary at op e ∷ stack)) (λ x. x) h
thin_act at words.Close e stack h = thin_close words.Close e stack h
thin_act at words.Comma e stack h = thin_close words.Comma e stack h
thin_act at words.Semicolon e stack h = thin_close words.Semicolon e stack h
thin_act at _ e stack h = h

thin_acted : (t : Token) (s : State) → ¬ IsCrowded (act t s)
thin_acted t (Have e stack) h = thin_act t.at t.word e stack h
thin_acted t _ h = h

thin_number : (word : Word) (at : ℕ) (call : MapCall) (stack : List Frame) → ¬ IsCrowded (want_number word at call stack)
thin_number (words.Number n) at call stack h = h
thin_number (words.Operator operators.Minus) at call stack h = thin_choice (takes_sign call.callee) (SignedNumber at call stack) (λ x. x) h
thin_number _ at call stack h = h

thin_signed : (word : Word) (at : ℕ) (call : MapCall) (stack : List Frame) → ¬ IsCrowded (signed_number word at call stack)
thin_signed (words.Number n) at call stack h = h
thin_signed _ at call stack h = h

thin_have : (word : Word) (call : MapCall) (stack : List Frame) → ¬ IsCrowded (have_number word call stack)
thin_have words.Comma call stack h = thin_choice (nat_lt (length call.values) (numbers call.callee)) (WantNumber call stack) (λ x. x) h
thin_have words.Close call stack h = thin_made (placed call.at (map_of call.callee call.of call.values)) stack h
thin_have _ call stack h = h

crowded_read : (tokens : List Token) (s : State) (t : Token) → IsRead tokens s → IsCrowded (step s t) → faults.BeginsStatement t.word × (p : List Stmt) × AreStatements tokens p × (most_statements ≤ length p)
crowded_read tokens (Begin done) t d c = begun_crowded tokens done t d c
crowded_read tokens (reading.Input done part) t d c = absurd (thin_input part t.word t.at done c)
crowded_read tokens (AfterWord done binding) t d c = absurd (thin_word t.word t.at done binding c)
crowded_read tokens (AfterName done binding name at) t d c = absurd (thin_name t.word at done binding name c)
crowded_read tokens (Want stack) t d c = absurd (thin_want t.word t.at stack c)
crowded_read tokens (Minus at stack) t d c = absurd (thin_minus t.word t.at at stack c)
crowded_read tokens (Called at callee stack) t d c = absurd (thin_called t.word at callee stack c)
crowded_read tokens (Have e stack) t d c = absurd (thin_acted t (reduce (reach_of (op_of t.word)) e stack) c)
crowded_read tokens (WantNumber call stack) t d c = absurd (thin_number t.word t.at call stack c)
crowded_read tokens (SignedNumber at call stack) t d c = absurd (thin_signed t.word at call stack c)
crowded_read tokens (HaveNumber call stack) t d c = absurd (thin_have t.word call stack c)
crowded_read tokens Stuck t d c = absurd c

crowded_begins : (text : List ℕ) (tokens : List Token) (s : State) (t : Token) → s ≡ run (Begin []) tokens → IsCrowded (step s t) → faults.BeginsStatement t.word × (p : List Stmt) × AreStatements tokens p × (most_statements ≤ length p)
crowded_begins text tokens s t is c = crowded_read tokens s t (subst (IsRead tokens) (sym is) (is_read tokens)) c

full_many : (s : State) → IsFull s → most_nodes < nodes_read s
full_many (Minus at stack) f = absurd f
full_many (Begin done) f = f
full_many (reading.Input done part) f = f
full_many (AfterWord done binding) f = f
full_many (AfterName done binding name at) f = f
full_many (Want stack) f = f
full_many (Called at callee stack) f = f
full_many (Have e stack) f = f
full_many (WantNumber call stack) f = f
full_many (SignedNumber at call stack) f = f
full_many (HaveNumber call stack) f = f
full_many Stuck f = f

pub few_nodes : (s : State) → ¬ IsFull s → ¬ IsSignFull s → nodes_read s ≤ most_nodes
few_nodes (Minus at stack) f g = omega (arith, g)
few_nodes (Begin done) f g = omega (arith, f)
few_nodes (reading.Input done part) f g = omega (arith, f)
few_nodes (AfterWord done binding) f g = omega (arith, f)
few_nodes (AfterName done binding name at) f g = omega (arith, f)
few_nodes (Want stack) f g = omega (arith, f)
few_nodes (Called at callee stack) f g = omega (arith, f)
few_nodes (Have e stack) f g = omega (arith, f)
few_nodes (WantNumber call stack) f g = omega (arith, f)
few_nodes (SignedNumber at call stack) f g = omega (arith, f)
few_nodes (HaveNumber call stack) f g = omega (arith, f)
few_nodes Stuck f g = omega arith

-- a phase that stands for the state, with its stack
pub phase_of : (s : State) → (phase : Phase) × (stack : List Frame) × (reading.state_of phase stack ≡ s)
phase_of (Begin done) = (phases.Begin done, [], refl)
phase_of (reading.Input done part) = (phases.Input done part, [], refl)
phase_of (AfterWord done binding) = (phases.AfterWord done binding, [], refl)
phase_of (AfterName done binding name at) = (phases.AfterName done binding name at, [], refl)
phase_of (Want stack) = (phases.Want, stack, refl)
phase_of (Minus at stack) = (phases.Minus at, stack, refl)
phase_of (Called at callee stack) = (phases.Called at callee, stack, refl)
phase_of (Have e stack) = (phases.Have e, stack, refl)
phase_of (WantNumber call stack) = (phases.WantNumber call, stack, refl)
phase_of (SignedNumber at call stack) = (phases.SignedNumber at call, stack, refl)
phase_of (HaveNumber call stack) = (phases.HaveNumber call, stack, refl)
phase_of Stuck = (phases.Stuck, [], refl)

node_by : (b : Bool) (m n : ℕ) → n ≡ and_one b m → m ≤ most_nodes → most_nodes < n → b ≡ true
node_by true m n is le lt = refl
node_by false m n is le lt = absurd (omega arith)

node_many : (b : Bool) (m n : ℕ) → b ≡ true → n ≡ and_one b m → most_nodes < n → most_nodes ≤ m
node_many true m n t is lt = omega arith
node_many false m n t is lt = absurd (cc)

-- the node too many
full_node_at : (tokens : List Token) (phase : Phase) (stack : List Frame) (t : Token) → IsRead tokens (reading.state_of phase stack) → nodes_read (reading.state_of phase stack) ≤ most_nodes → step (reading.state_of phase stack) t ≢ Stuck → most_nodes < nodes_read (step (reading.state_of phase stack) t) → (count : ℕ) × IsNode count tokens t × (most_nodes ≤ count)
full_node_at tokens phase stack t p few goes many =
    let counts = count_step phase stack t goes in
    let b = node_by (begins_node phase t.word) (nodes_read (reading.state_of phase stack)) (nodes_read (step (reading.state_of phase stack) t)) counts few many in
    (nodes_read (reading.state_of phase stack), counted_node tokens phase stack t p b goes, node_many (begins_node phase t.word) (nodes_read (reading.state_of phase stack)) (nodes_read (step (reading.state_of phase stack) t)) b counts many)

full_node : (text : List ℕ) (tokens : List Token) (s : State) (t : Token) → s ≡ run (Begin []) tokens → nodes_read s ≤ most_nodes → step s t ≢ Stuck → IsFull (step s t) → (count : ℕ) × IsNode count tokens t × (most_nodes ≤ count)
full_node text tokens s t is few goes full =
    let (phase, stack, same) = phase_of s in
    full_node_at tokens phase stack t (subst (IsRead tokens) (sym (same ∙ is)) (is_read tokens)) (subst (λ x. nodes_read x ≤ most_nodes) (sym same) few) (λ stuck. goes (ap (λ x. step x t) (sym same) ∙ stuck)) (subst (λ x. most_nodes < nodes_read (step x t)) (sym same) (full_many (step s t) full))

-- what is answered where a token isn't taken
pub token_refused : (text : List ℕ) (from count : ℕ) (s : State) (raw : TextToken) (word : Word) (after : Phase → State) (refusal : Refusal) → IsReady text from s count (Ok raw) → Some word ≡ word_of raw.kind (bytes_of text raw) → Advanced s (token raw.start word) after (Err refusal) → IsAnswered text (fault_at refusal raw.start)
token_refused text from count s raw word after refusals.TooHigh r is h =
    let a = ready_at text from count s raw word r is in
    refused text TooHigh raw.start _ (first_at text r.has.tokens s raw (token raw.start word) TooHigh a (ready_clean text from count s (Ok raw) r) (high_at text r.has.tokens s raw (token raw.start word) a h) (below_high text r.has.tokens s raw (token raw.start word) a)) refl
token_refused text from count s raw word after refusals.Unexpected r is h =
    let a = ready_at text from count s raw word r is in
    refused text Unexpected raw.start _ (first_at text r.has.tokens s raw (token raw.start word) Unexpected a (ready_clean text from count s (Ok raw) r) (stuck_at text r.has.tokens s raw (token raw.start word) a h.1) (below_unexpected text r.has.tokens s raw (token raw.start word) a h.0)) refl
token_refused text from count s raw word after refusals.TooManyOpen r is h =
    let a = ready_at text from count s raw word r is in
    let t = token raw.start word in
    let o : OpensMany text r.has.tokens t = deep_opens text r.has.tokens s t (subst (IsRead r.has.tokens) (sym r.has.state) (is_read r.has.tokens)) r.has.low (number_settled text raw word s r.settled.0 is) h.2 in
    refused text TooManyOpen raw.start _ (first_at text r.has.tokens s raw t TooManyOpen a (ready_clean text from count s (Ok raw) r) (t, a.is, o.0, o.1, o.2) (below_open text r.has.tokens s raw t a h.0 h.1)) refl
token_refused text from count s raw word after refusals.TooManyStatements r is h =
    let a = ready_at text from count s raw word r is in
    let t = token raw.start word in
    let c = crowded_begins text r.has.tokens s t r.has.state h.3 in
    refused text TooManyStatements raw.start _ (first_at text r.has.tokens s raw t TooManyStatements a (ready_clean text from count s (Ok raw) r) (t, a.is, c.0, c.1, c.2, c.3) (below_statements text r.has.tokens s raw t a h.0 h.1 h.2 (λ d. crowded_sign (step s t) h.3 d))) refl
token_refused text from count s raw word after refusals.TooManyNodes r is h =
    let a = ready_at text from count s raw word r is in
    let t = token raw.start word in
    let n = full_node text r.has.tokens s t r.has.state (few_nodes s r.has.few r.settled.1) h.1 h.4 in
    refused text TooManyNodes raw.start _ (first_at text r.has.tokens s raw t TooManyNodes a (ready_clean text from count s (Ok raw) r) (t, a.is, n.0, n.1, n.2) (below_nodes text r.has.tokens s raw t a h.0 h.1 h.2 (λ d. full_sign (step s t) h.4 d) h.3)) refl
token_refused text from count s raw word after refusals.Memory r is h = tt

-- what is answered at a token without a word
pub unread : (text : List ℕ) (from count : ℕ) (s : State) (raw : TextToken) → IsReady text from s count (Ok raw) → raw.kind ≢ token_kinds.End → IsSpelling raw.kind (bytes_of text raw) → None ≡ word_of raw.kind (bytes_of text raw) → IsAnswered text (unread_at raw.kind raw.start)
unread text from count s raw r some spelled is = by raw.kind refl (none_is raw.kind (bytes_of text raw) spelled (sym is))
  where
    line_kept : IsFalse (language.passes raw.kind) → raw.kind ≡ token_kinds.Line → ⊥
    line_kept kept e = let x : true ≡ false = ap language.passes (sym e) ∙ kept in cc

    by : (kind : TokenKind) → raw.kind ≡ kind → HasNone raw.kind (bytes_of text raw) → IsAnswered text (unread_at kind raw.start)
    by token_kinds.Name e none = long_name text r.has.tokens raw (ready_behind text from count s (Ok raw) r) (ready_clean text from count s (Ok raw) r) (e, subst (λ k. HasNone k (bytes_of text raw)) e none)
    by token_kinds.Number e none = large_number text r.has.tokens raw (ready_behind text from count s (Ok raw) r) (ready_clean text from count s (Ok raw) r) (e, subst (λ k. HasNone k (bytes_of text raw)) e none)
    by token_kinds.Sign e none = absurd (subst (λ k. HasNone k (bytes_of text raw)) e none)
    by token_kinds.Line e none = absurd (line_kept r.stands.kept e)
    by token_kinds.End e none = absurd (some e)

-- a token that is taken
pub taken_more : (text : List ℕ) (from count : ℕ) (s : State) (raw : TextToken) (word : Word) (after : State) (nodes_after : ℕ) → IsReady text from s count (Ok raw) → raw.kind ≢ token_kinds.End → raw.end ≤ length text → Some word ≡ word_of raw.kind (bytes_of text raw) → ¬ IsTooHigh (last_of word) s → after ≡ step s (token raw.start word) → step s (token raw.start word) ≢ Stuck → ¬ IsDeep (step s (token raw.start word)) → ¬ IsCrowded (step s (token raw.start word)) → ¬ IsFull (step s (token raw.start word)) → nodes_after ≡ nodes_read (step s (token raw.start word)) → nodes_after ≤ count + 1 → HasRead text raw.end after nodes_after
taken_more text from count s raw word after nodes_after r some within is low leads goes shallow thin few counted most =
    let t = token raw.start word in
    let a = ready_at text from count s raw word r is in
    let own : IsTaken language text r.stands.place raw t = record { next = r.stands.next_is; some = some; kept = r.stands.kept; is = a.is } in
    let reached : TokensTo language text 0 (r.has.tokens ++ t ∷ []) raw.end = tokens_on language text 0 from raw.end r.has.tokens (t ∷ []) r.has.read (tokens_on language text from r.stands.place raw.end [] (t ∷ []) r.stands.passed (Taken r.stands.place raw.end raw t [] own (Here raw.end))) in
    let least = few_nodes s r.has.few r.settled.1 in
    let all = r.has.counted in
    record {
      tokens = r.has.tokens ++ t ∷ [];
      read = reached;
      within = within;
      state = leads ∙ ap (λ x. step x t) r.has.state ∙ sym (run_on step (Begin []) r.has.tokens (t ∷ []));
      goes = λ stuck. goes (sym leads ∙ stuck);
      counted = counted ∙ ap nodes_read (sym leads);
      most = omega arith;
      few = subst (λ x. ¬ IsFull x) (sym leads) few;
      low = subst (λ x. depth_in x ≤ most_height) (sym leads) (low_step s t r.has.low (number_settled text raw word s r.settled.0 is) shallow);
      clean = subst (IsClean text (r.has.tokens ++ t ∷ [])) (sym leads) (clean_more text r.has.tokens s raw t a (ready_clean text from count s (Ok raw) r) low goes shallow thin few);
    }
