-- What the parser gives for a whole text, turn by turn.
use Rattle.std.proofs.Common.{◌≡◌, ◌≢◌, ◌⊎◌, ⊎_elim, ℕ, ◌+◌, ◌≤◌, ◌<◌, Bool, true, false, List, [], ◌∷◌, ◌++◌, length, Option, Some, None, refl, sym, ap, subst, ◌∙◌, arith}
use Rattle.std.specs.Prelude.{Result, Ok, Err, MatchResult}
use Rattle.ven_io.specs.declared.token.TokenFault.{TokenFault}
use Rattle.ven_io.specs.declared.token.TokenFault.TheVariants as token_faults
use Rattle.ven_io.specs.declared.token.TokenKind.TheVariants as token_kinds
use Rattle.ven_io.specs.declared.token.Token.{Token as TextToken}
use Rattle.ven_io.specs.Tokens.{Here}
use Rattle.ven_io.specs.Token.{IsSpelling, bytes_of}
use Rattle.ven_io.proofs.Reached.{tokens_after}
use Rattle.array_syntax.specs.declared.fault.ParseFault.{ParseFault}
use Rattle.array_syntax.specs.declared.fault.ParseFault.TheVariants as answers
use Rattle.array_syntax.specs.declared.frames.Frame.{Frame}
use Rattle.array_syntax.specs.declared.machine.Phase.{Phase}
use Rattle.array_syntax.specs.declared.machine.Refusal.{Refusal}
use Rattle.array_syntax.specs.declared.machine.Refusal.TheVariants as refusals
use Rattle.array_syntax.specs.declared.parsing.Parsing.{Parsing}
use Rattle.array_syntax.specs.declared.parsing.Turn.{Turn}
use Rattle.array_syntax.specs.declared.parsing.Turn.TheVariants as turns
use Rattle.array_syntax.specs.declared.program.Program.{Program}
use Rattle.array_syntax.specs.declared.program.Stmt.{Stmt}
use Rattle.array_syntax.specs.declared.word.Token.{Token}
use Rattle.array_syntax.specs.declared.word.Word.{Word}
use Rattle.array_syntax.specs.Faults.{last_of, IsAccepted, IsRefused, IsAnswered}
use Rattle.array_syntax.specs.Grammar.{token}
use Rattle.array_syntax.specs.Limits.{most_nodes, KeepsLimits, program_nodes}
use Rattle.array_syntax.specs.Parsing.{StandsFrom, IsClean, HasRead, IsReady, IsParsing, Takes, Signed, Turned, Stopped, Blocked, Ended}
use Rattle.array_syntax.specs.Reading.{State, Begin, Stuck, run, step, state_of, nodes_read, ending}
use Rattle.array_syntax.specs.Steps.{Admitted, Advanced, begins_node, and_one, depth_in, IsTooHigh, IsStuck, IsDeep, IsCrowded, IsFull}
use Rattle.array_syntax.specs.Words.{word_of, language}
use Rattle.array_syntax.proofs.Counting.{count_step}
use Rattle.array_syntax.proofs.Going.{denotes_read}
use Rattle.array_syntax.proofs.Kept.{keeps}
use Rattle.array_syntax.proofs.Splitting.{none_split}
use Rattle.array_syntax.proofs.Texts.{not_ascii, bad_byte, bad_byte_high, end_high, end_unexpected, accepted}
use Rattle.array_syntax.proofs.Turns.{ready_behind, ready_clean, taken_more, token_refused, sign_refused}

-- a token that stands next has bytes, which spell it, behind what was read
pub record HasBytes (text : List ℕ) (from : ℕ) (raw : TextToken) : Type 0 where
  pub after : from ≤ raw.start
  pub some : raw.start < raw.end
  pub in_text : raw.end ≤ length text
  pub spelled : IsSpelling raw.kind (bytes_of text raw)

pub has_bytes : (text : List ℕ) (from count : ℕ) (s : State) (raw : TextToken) → IsReady text from s count (Ok raw) → raw.kind ≢ token_kinds.End → HasBytes text from raw
has_bytes text from count s raw r some =
    let place = r.stands.place in
    let passed = tokens_after language text from place [] r.stands.passed in
    ⊎_elim
    (λ at_end. absurd (some at_end.kind))
    (λ stands. record { after = omega (arith, passed, r.stands.next_is.0.after); some = stands.some; in_text = stands.in_text; spelled = stands.spelled })
    r.stands.next_is.1

-- how many nodes there are behind a token that is taken
pub nodes_on : (count nodes : ℕ) (phase : Phase) (stack : List Frame) (t : Token) → count ≡ nodes_read (state_of phase stack) → nodes ≡ and_one (begins_node phase t.word) count → step (state_of phase stack) t ≢ Stuck → nodes ≡ nodes_read (step (state_of phase stack) t)
nodes_on count nodes phase stack t counted is goes = is ∙ ap (and_one (begins_node phase t.word)) counted ∙ sym (count_step phase stack t goes)

nodes_after : (text : List ℕ) (from count nodes : ℕ) (phase : Phase) (stack : List Frame) (t : Token) → HasRead text from (state_of phase stack) count → nodes ≡ and_one (begins_node phase t.word) count → step (state_of phase stack) t ≢ Stuck → nodes ≡ nodes_read (step (state_of phase stack) t)
nodes_after text from count nodes phase stack t h is goes = nodes_on count nodes phase stack t h.counted is goes

one_more : (b : Bool) (n : ℕ) → and_one b n ≤ n + 1
one_more true n = omega arith
one_more false n = omega arith

pub token_taken : (text : List ℕ) (from count nodes : ℕ) (phase next : Phase) (stack after : List Frame) (raw : TextToken) (word : Word) → IsReady text from (state_of phase stack) count (Ok raw) → raw.kind ≢ token_kinds.End → Some word ≡ word_of raw.kind (bytes_of text raw) → nodes ≡ and_one (begins_node phase word) count → Advanced (state_of phase stack) (token raw.start word) (λ p. state_of p after) (Ok next) → HasRead text raw.end (state_of next after) nodes
token_taken text from count nodes phase next stack after raw word r some is counts h =
    let b = has_bytes text from count (state_of phase stack) raw r some in
    let most = one_more (begins_node phase word) count in
    taken_more text from count (state_of phase stack) raw word (state_of next after) nodes r some b.in_text is h.0 h.1 h.2 h.3 h.4 h.5
    (nodes_after text from count nodes phase stack (token raw.start word) r.has counts h.2) (omega arith)

ready_not_ascii : (text : List ℕ) (from count : ℕ) (s : State) (at : ℕ) → IsReady text from s count (Err (token_faults.NotAscii at)) → IsRefused text (answers.NotAscii at)
ready_not_ascii text from count s at r =
    let next : Result TextToken TokenFault = Err (token_faults.NotAscii at) in
    not_ascii text r.has.tokens at (ready_behind text from count s next r) (ready_clean text from count s next r)

-- what is answered at a byte that begins no token
stops : (text : List ℕ) (from count : ℕ) (s : State) (at : ℕ) (answer : ParseFault) → IsReady text from s count (Err (token_faults.Unexpected at)) → Stopped s at answer → IsAnswered text answer
stops text from count s at (answers.TooDeep place) r h =
    let next : Result TextToken TokenFault = Err (token_faults.Unexpected at) in
    subst (λ p. IsRefused text (answers.TooDeep p)) (sym h.0) (bad_byte_high text r.has.tokens s at (ready_behind text from count s next r) (ready_clean text from count s next r) r.has.state h.1)
stops text from count s at (answers.Unexpected place) r h =
    let next : Result TextToken TokenFault = Err (token_faults.Unexpected at) in
    subst (λ p. IsRefused text (answers.Unexpected p)) (sym h.0) (bad_byte text r.has.tokens s at (ready_behind text from count s next r) (ready_clean text from count s next r) r.has.state h.1)
stops text from count s at answers.Memory r h = tt
stops text from count s at _ r h = absurd h

pub blocks : (text : List ℕ) (from count : ℕ) (s : State) (fault : TokenFault) (answer : ParseFault) → IsReady text from s count (Err fault) → Blocked s fault answer → IsAnswered text answer
blocks text from count s (token_faults.NotAscii at) answer r h = subst (IsAnswered text) (sym h) (ready_not_ascii text from count s at r)
blocks text from count s (token_faults.Unexpected at) answer r h = stops text from count s at answer r h

few_in : (s : State) (p : List Stmt) → s ≡ Begin p → ¬ IsFull s → program_nodes p ≤ most_nodes
few_in s p is few = let low : ¬ IsFull (Begin p) = subst (λ x. ¬ IsFull x) is few in omega (arith, low)

-- what is answered at the text's end
pub ends : (text : List ℕ) (from count : ℕ) (s : State) (raw : TextToken) (result : Result Turn ParseFault) → IsReady text from s count (Ok raw) → raw.kind ≡ token_kinds.End → Ended s raw.start result → MatchResult result (λ turn. Turned text from turn) (λ fault. IsAnswered text fault)
ends text from count s raw (Ok (turns.More next)) r end h = absurd h
ends text from count s raw (Ok (turns.Done program)) r end h =
    let d = denotes_read r.has.tokens program.stmts (ap ending (sym r.has.state ∙ h)) in
    let clean = ready_clean text from count s (Ok raw) r in
    (accepted text r.has.tokens program raw end (ready_behind text from count s (Ok raw) r) clean d, keeps text from r.has.tokens program r.has.read clean d (few_in s program.stmts h r.has.few))
ends text from count s raw (Err (answers.TooDeep place)) r end h =
    subst (λ p. IsRefused text (answers.TooDeep p)) (sym h.0) (end_high text r.has.tokens s raw end (ready_behind text from count s (Ok raw) r) (ready_clean text from count s (Ok raw) r) r.has.state h.1)
ends text from count s raw (Err (answers.Unexpected place)) r end h =
    subst (λ p. IsRefused text (answers.Unexpected p)) (sym h.0) (end_unexpected text r.has.tokens s raw end (ready_behind text from count s (Ok raw) r) (ready_clean text from count s (Ok raw) r) r.has.state h.1 h.2)
ends text from count s raw (Err answers.Memory) r end h = tt
ends text from count s raw (Err _) r end h = absurd h

-- where nothing has been read
pub starts : (text : List ℕ) → HasRead text 0 (Begin []) 0
starts text = record {
  tokens = [];
  read = Here 0;
  within = omega arith;
  state = refl;
  goes = λ stuck. cc;
  counted = refl;
  most = omega arith;
  few = λ full. omega (arith, full);
  low = omega arith;
  clean = λ us rest own next cause is behind seen holds. absurd (none_split us rest own is);
}

-- what isn't stuck has its number of nodes
stuck_is : (s : State) → IsStuck s → s ≡ Stuck
stuck_is Stuck h = refl
stuck_is _ h = absurd h

free_goes : (s to : State) (t : Token) → to ≡ step s t → ¬ IsStuck to → step s t ≢ Stuck
free_goes s to t is free e = free (subst IsStuck (sym (is ∙ e)) tt)

pub counted_on : (s to : State) (t : Token) (nodes : ℕ) → to ≡ step s t → (step s t ≢ Stuck → nodes ≡ nodes_read (step s t)) → ¬ IsStuck to → nodes ≡ nodes_read to
counted_on s to t nodes is counted free = counted (free_goes s to t is free) ∙ ap nodes_read (sym is)

-- where a token leads, by what that state is judged to be
pub advanced : (s to : State) (t : Token) (after : Phase → State) (result : Result Phase Refusal) → ¬ IsTooHigh (last_of t.word) s → to ≡ step s t → Admitted to after result → Advanced s t after result
advanced s to t after (Ok next) low is h = (low, h.0 ∙ is, free_goes s to t is h.1.0, subst (λ x. ¬ IsDeep x) is h.1.1, subst (λ x. ¬ IsCrowded x) is h.1.2, subst (λ x. ¬ IsFull x) is h.1.3)
advanced s to t after (Err refusals.TooManyOpen) low is h = (low, free_goes s to t is h.0, subst IsDeep is h.1)
advanced s to t after (Err refusals.TooManyStatements) low is h = (low, free_goes s to t is h.0, subst (λ x. ¬ IsDeep x) is h.1, subst IsCrowded is h.2)
advanced s to t after (Err refusals.TooManyNodes) low is h = (low, free_goes s to t is h.0, subst (λ x. ¬ IsDeep x) is h.1, subst (λ x. ¬ IsCrowded x) is h.2, subst IsFull is h.3)
advanced s to t after (Err refusals.Unexpected) low is h = (low, sym is ∙ stuck_is to h)
advanced s to t after (Err refusals.TooHigh) low is h = absurd h
advanced s to t after (Err refusals.Memory) low is h = absurd h

-- one node more where the word begins one
pub one_by : (r b : Bool) (n m : ℕ) → r ≡ b → r ≡ true → m ≡ n + 1 → m ≡ and_one b n
one_by r b n m e t is = is ∙ ap (λ x. and_one x n) (sym t ∙ e)

pub none_by : (r b : Bool) (n m : ℕ) → r ≡ b → r ≡ false → m ≡ n → m ≡ and_one b n
none_by r b n m e f is = is ∙ ap (λ x. and_one x n) (sym f ∙ e)

-- what taking a word comes to
pub word_taken : (text : List ℕ) (p : Parsing) (raw : TextToken) (word : Word) (result : Result Parsing ParseFault) → IsReady text p.from (state_of p.phase p.stack) p.nodes (Ok raw) → raw.kind ≢ token_kinds.End → Some word ≡ word_of raw.kind (bytes_of text raw) → Takes p raw word result → MatchResult result (λ next. IsParsing text next × (p.from < next.from)) (λ fault. IsAnswered text fault)
word_taken text p raw word (Ok next) r some is h =
    let b = has_bytes text p.from p.nodes (state_of p.phase p.stack) raw r some in
    let to = h.2 in
    let less : p.from < next.from = omega (arith, b.after, b.some) in
    (subst (λ from. HasRead text from (state_of next.phase next.stack) next.nodes) (sym to) (token_taken text p.from p.nodes next.nodes p.phase next.phase p.stack next.stack raw word r some is h.1 h.0), less)
word_taken text p raw word (Err fault) r some is (refusal, h, same) =
    subst (IsAnswered text) (sym same) (token_refused text p.from p.nodes (state_of p.phase p.stack) raw word (λ phase. Stuck) refusal r is h)

-- the answer where a `-` is refused
pub sign_answered : (text : List ℕ) (from count : ℕ) (s : State) (next : Result TextToken TokenFault) (fault : ParseFault) → HasRead text from s count → StandsFrom text from next → Signed s next (Some fault) → IsAnswered text fault
sign_answered text from count s next fault has stands (refusal, settled, same) = subst (IsAnswered text) (sym same) (sign_refused text from count s next refusal has stands settled)
