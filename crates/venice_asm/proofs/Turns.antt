-- A turn of the reader: what stands next is taken, or it is the first fault of the text.
use Rattle.std.proofs.Common.{◌≡◌, ◌≢◌, ℕ, ◌≤◌, Bool, true, false, List, [], ◌∷◌, ◌++◌, length, Option, Some, None, refl, sym, ap, subst, ◌∙◌, arith}
use Rattle.std.specs.Prelude.{if◌then◌else◌, MatchOption}
use Rattle.std.specs.List.{list_all}
use Rattle.std.specs.Option.{option_map_or}
use Rattle.venice_asm.specs.declared.head.Head.{Head}
use Rattle.venice_asm.specs.declared.operand.Operand.{Operand}
use Rattle.venice_asm.specs.declared.phase.Opening.{Opening}
use Rattle.venice_asm.specs.declared.phase.Phase.TheVariants as phases
use Rattle.venice_asm.specs.declared.reading.Reading.{Reading}
use Rattle.venice_asm.specs.declared.word.Word.{Word}
use Rattle.venice_asm.specs.declared.word.Word.TheVariants as words
use Rattle.venice_asm.specs.Lines.{TextLine, head_kinds, is_optional, section_of, has_sizes, version_of}
use Rattle.venice_asm.specs.Reading.{instr_named, kinds_left, State, Start, AfterName, AfterLabel, Behind, Stuck, with_line, step}
use Rattle.venice_asm.specs.Steps.{Keeps, IsPlaceBehind, IsAt, AtStart, AtName, AtLabel, AtOperand}
use Rattle.venice_asm.proofs.Following.{no_label, IsRight, words_of}
use Rattle.venice_asm.proofs.Registers.{none_some, some_is}
use Rattle.std.specs.Prelude.{Result, Ok, Err}
use Rattle.ven_io.specs.declared.token.Token.{Token}
use Rattle.ven_io.specs.declared.token.TokenFault.{TokenFault}
use Rattle.ven_io.specs.Tokens.{IsBehind, TokensTo, place_of}
use Rattle.venice_asm.specs.declared.fault.AsmFault.{AsmFault}
use Rattle.venice_asm.specs.declared.fault.AsmFault.TheVariants as answers
use Rattle.venice_asm.specs.Faults.{seen, IsUnexpected, IsRefused, IsAnswered}
use Rattle.venice_asm.specs.Lines.{text_words}
use Rattle.venice_asm.specs.Moves.{IsReady, TakesBehindName, TakesIn, RefusesIn, RefusesAll}
use Rattle.venice_asm.specs.Reading.{at_word, run}
use Rattle.venice_asm.specs.Words.{language}
use Rattle.venice_asm.proofs.Cleanness.{IsClean}
use Rattle.venice_asm.specs.Faults.{NoWord, NoToken}
use Rattle.venice_asm.proofs.Opening.{run_push, IsPending}
use Rattle.venice_asm.proofs.Sentences.{Arrives, run_right}
use Rattle.venice_asm.proofs.Refusing.{no_pending, IsAfterName, settled_name, full_name}
use Rattle.venice_asm.proofs.Turning.{clean_at}
use Rattle.ven_io.specs.declared.token.TokenKind.TheVariants as kinds
use Rattle.ven_io.specs.Token.{NextIs, bytes_of}
use Rattle.ven_io.specs.Tokens.{IsTaken, Taken, Here, IsKept as IsKeptToken}
use Rattle.ven_io.proofs.Reached.{tokens_on}
use Rattle.venice_asm.specs.Words.{word_of}
use Rattle.venice_asm.specs.Faults.{Reads, NoToken, NoWord, NoEnd}
use Rattle.venice_asm.specs.Moves.{TakesToken, RefusesToken, TakesEnd, RefusesEnd, NoLine, NoText}
use Rattle.venice_asm.specs.Steps.{IsReading}
use Rattle.venice_asm.proofs.Refused.{IsNext, refuses}
use Rattle.venice_asm.proofs.Sentences.{lines_said, lines_at}
use Rattle.venice_asm.proofs.Turning.{arrives, ready_at}
use Rattle.venice_asm.proofs.Texts.{unexpected}
use Rattle.venice_asm.specs.Reading.{ending}

behind_of : (text : List ℕ) (r : Reading) (next : Result Token TokenFault) (h : IsReading text r) → NextIs text r.from next → IsBehind language text h.tokens next
behind_of text r next h is = record { from = r.from; read = h.read; next_is = is; kept = kept_any next }
  where
    kept_any : (other : Result Token TokenFault) → IsKeptToken language other
    kept_any (Ok token) = refl
    kept_any (Err fault) = tt

goes_at : (text : List ℕ) (r : Reading) (s : State) → IsAt text r s → s ≢ Stuck
goes_at text r _ (AtStart lines phase h) e = cc
goes_at text r _ (AtName lines name at phase place h) e = cc
goes_at text r _ (AtLabel lines name phase h) e = cc
goes_at text r _ (AtOperand lines label head at phase os room h) e = cc

right_of : (text : List ℕ) (r : Reading) (h : IsReading text r) → Arrives h.tokens (run h.tokens)
right_of text r h = run_right h.tokens (goes_at text r (run h.tokens) h.at)

pub reading_ready : (text : List ℕ) (r : Reading) → IsReading text r → IsReady r
reading_ready text r h = ready_at text r (run h.tokens) (right_of text r h).right h.at

read_to : (text : List ℕ) (r : Reading) (token : Token) (word : Word) (h : IsReading text r) → NextIs text r.from (Ok token) → token.kind ≢ kinds.End → word_of token.kind (bytes_of text token) ≡ Some word → TokensTo language text 0 (h.tokens ++ word ∷ []) token.end
read_to text r token word h next some says =
    let taken : IsTaken language text r.from token word = record { next = next; some = some; kept = refl; is = says } in
    tokens_on language text 0 r.from token.end h.tokens (word ∷ []) h.read (Taken r.from token.end token word [] taken (Here token.end))

keeps_from : (text : List ℕ) (lines : List TextLine) (label : Option (List ℕ)) (r : Reading) (to : ℕ) → Keeps text lines label r → Keeps text lines label (record r { from = to })
keeps_from text lines label r to h = record {
  ranges = h.ranges;
  version = h.version;
  section = h.section;
  spad = h.spad;
  memory = h.memory;
  arrays = h.arrays;
  array_count = h.array_count;
  labels = h.labels;
  apart = h.apart;
  instrs = h.instrs;
  few = h.few;
  references = h.references;
}

at_from : (text : List ℕ) (r : Reading) (to : ℕ) (s : State) → IsAt text r s → IsAt text (record r { from = to }) s
at_from text r to _ (AtStart lines phase h) = AtStart lines phase (keeps_from text lines None r to h)
at_from text r to _ (AtName lines name at phase place h) = AtName lines name at phase place (keeps_from text lines None r to h)
at_from text r to _ (AtLabel lines name phase h) = AtLabel lines name phase (keeps_from text lines (Some name) r to h)
at_from text r to _ (AtOperand lines label head at phase os room h) = AtOperand lines label head at phase os room (keeps_from text lines label r to h)

-- the state behind the word
steps_on : (text : List ℕ) (old new : Reading) (token : Token) (word : Word) (h : IsReading text old) → NextIs text old.from (Ok token) → TakesIn old.phase word token.start old new → IsAt text new (step (run h.tokens) word)
steps_on text old new token word h next t =
    let a = right_of text old h in
    arrives text (run h.tokens) old new word token.start a.right h.at
    (subst (λ ts. IsPlaceBehind text ts token.start) (sym a.spelled) (Ok token, behind_of text old (Ok token) h next, refl)) t

pub taken_on : (text : List ℕ) (old new : Reading) (token : Token) → IsReading text old → NextIs text old.from (Ok token) → token.kind ≢ kinds.End → token.end ≤ length text → TakesToken text token old new → IsReading text new
taken_on text old new token h next some within t =
    subst (IsReading text) (sym t.is) (record {
      tokens = h.tokens ++ t.word ∷ [];
      read = read_to text old token t.word h next some t.says;
      within = within;
      at = subst (IsAt text (record t.mid { from = token.end })) (sym (run_push h.tokens t.word)) (at_from text t.mid token.end (step (run h.tokens) t.word) (steps_on text old t.mid token t.word h next t.takes));
    })

-- ---- nothing stands there that is a word

plain_start : (at : ℕ) (r : Reading) (fault : AsmFault) → RefusesAll phases.Start at r fault → fault ≡ answers.Unexpected at
plain_start at r (answers.Unexpected place) m = ap answers.Unexpected m
plain_start at r (answers.FieldRange place) m = absurd m
plain_start at r (answers.LabelTwice place) m = absurd m
plain_start at r (answers.UnknownLabel place) m = absurd m
plain_start at r (answers.Table place) m = absurd m
plain_start at r answers.NoHalt m = absurd m
plain_start at r answers.Memory m = absurd m

plain_label : (at : ℕ) (r : Reading) (fault : AsmFault) → RefusesAll phases.AfterLabel at r fault → fault ≡ answers.Unexpected at
plain_label at r (answers.Unexpected place) m = ap answers.Unexpected m
plain_label at r (answers.FieldRange place) m = absurd m
plain_label at r (answers.LabelTwice place) m = absurd m
plain_label at r (answers.UnknownLabel place) m = absurd m
plain_label at r (answers.Table place) m = absurd m
plain_label at r answers.NoHalt m = absurd m
plain_label at r answers.Memory m = absurd m

plain_operand : (head : Head) (last : ℕ) (at : ℕ) (r : Reading) (fault : AsmFault) → RefusesAll (phases.Behind head last) at r fault → fault ≡ answers.Unexpected at
plain_operand head last at r (answers.Unexpected place) m = ap answers.Unexpected m
plain_operand head last at r (answers.FieldRange place) m = absurd m
plain_operand head last at r (answers.LabelTwice place) m = absurd m
plain_operand head last at r (answers.UnknownLabel place) m = absurd m
plain_operand head last at r (answers.Table place) m = absurd m
plain_operand head last at r answers.NoHalt m = absurd m
plain_operand head last at r answers.Memory m = absurd m

refused_name : (text : List ℕ) (tokens : List Word) (next : Result Token TokenFault) (lines : List TextLine) (opening : Opening) (r : Reading) (fault : AsmFault) → IsAfterName text tokens next lines opening r → seen text next ≡ None → IsUnexpected text tokens next → RefusesAll (phases.AfterName opening) (place_of next) r fault → IsAnswered text fault
refused_name text tokens next lines opening r (answers.Unexpected place) n none holds (at, room) =
    subst (λ p. IsRefused text (answers.Unexpected p)) (sym at)
    (unexpected text tokens next n.behind (subst IsClean (sym n.at) n.clean)
    (settled_name text tokens next lines opening r n (λ e. none_some words.Colon (sym none ∙ e))
    (λ head named full. let count = n.keeps.instrs.count in let few = room head (ap (λ v. instr_named v opening.name) n.keeps.version ∙ named) in omega arith)) holds)
refused_name text tokens next lines opening r (answers.FieldRange place) n none holds (at, full) =
    subst (λ p. IsRefused text (answers.FieldRange p)) (sym at) (full_name text tokens next lines opening r n (λ e. none_some words.Colon (sym none ∙ e)) full)
refused_name text tokens next lines opening r (answers.LabelTwice place) n none holds m = absurd m
refused_name text tokens next lines opening r (answers.UnknownLabel place) n none holds m = absurd m
refused_name text tokens next lines opening r (answers.Table place) n none holds m = absurd m
refused_name text tokens next lines opening r answers.NoHalt n none holds m = absurd m
refused_name text tokens next lines opening r answers.Memory n none holds m = absurd m

after_name : (text : List ℕ) (r : Reading) (next : Result Token TokenFault) (h : IsReading text r) → NextIs text r.from next → (lines : List TextLine) (name : List ℕ) (at : ℕ) → run h.tokens ≡ AfterName lines name → IsPlaceBehind text (text_words lines) at → Keeps text lines None r → IsAfterName text h.tokens next lines (record { name = name; at = at }) r
after_name text r next h is lines name at there place keeps =
    let a = right_of text r h in
    record {
      behind = behind_of text r next h is;
      at = there;
      spelled = sym a.spelled ∙ ap words_of there;
      right = subst IsRight there a.right;
      place = place;
      keeps = keeps;
      clean = subst IsClean there (clean_at text r (run h.tokens) h.at);
    }

pub refuses_all : (text : List ℕ) (r : Reading) (next : Result Token TokenFault) (fault : AsmFault) (h : IsReading text r) → NextIs text r.from next → seen text next ≡ None → IsUnexpected text h.tokens next → RefusesAll r.phase (place_of next) r fault → IsAnswered text fault
refuses_all text r next fault h is none holds m = by (run h.tokens) refl h.at
  where
    behind : IsBehind language text h.tokens next
    behind = behind_of text r next h is

    plain : (s : State) → run h.tokens ≡ s → ((lines : List TextLine) (name : List ℕ) → s ≢ AfterName lines name) → fault ≡ answers.Unexpected (place_of next) → IsAnswered text fault
    plain s there other e = subst (IsAnswered text) (sym e) (unexpected text h.tokens next behind (clean_at text r (run h.tokens) h.at) (no_pending text h.tokens s there other) holds)

    by : (s : State) → run h.tokens ≡ s → IsAt text r s → IsAnswered text fault
    by _ there (AtStart lines phase k) = plain (Start lines) there (λ ls name e. absurd (cc)) (plain_start (place_of next) r fault (subst (λ p. RefusesAll p (place_of next) r fault) phase m))
    by _ there (AtName lines name at phase place k) =
        refused_name text h.tokens next lines (record { name = name; at = at }) r fault (after_name text r next h is lines name at there place k) none holds (subst (λ p. RefusesAll p (place_of next) r fault) phase m)
    by _ there (AtLabel lines name phase k) = plain (AfterLabel lines name) there (λ ls nm e. absurd (cc)) (plain_label (place_of next) r fault (subst (λ p. RefusesAll p (place_of next) r fault) phase m))
    by _ there (AtOperand lines label head at phase os room k) = plain (Behind lines label head r.operands.items) there (λ ls nm e. absurd (cc)) (plain_operand head at (place_of next) r fault (subst (λ p. RefusesAll p (place_of next) r fault) phase m))

pub no_token : (text : List ℕ) (r : Reading) (fault : TokenFault) (answer : AsmFault) (h : IsReading text r) → NextIs text r.from (Err fault) → RefusesAll r.phase (place_of (Err fault)) r answer → IsAnswered text answer
no_token text r fault answer h is m = refuses_all text r (Err fault) answer h is refl (NoToken fault refl) m

next_word_is : (text : List ℕ) (r : Reading) (token : Token) (word : Word) (h : IsReading text r) → NextIs text r.from (Ok token) → word_of token.kind (bytes_of text token) ≡ Some word → (word ≡ words.Colon → token.kind ≢ kinds.End) → IsNext text h.tokens (Ok token) word (run h.tokens) r
next_word_is text r token word h is says some =
    let a = right_of text r h in
    record {
      behind = behind_of text r (Ok token) h is;
      is = refl;
      right = a.right;
      spelled = a.spelled;
      at = h.at;
      sees = says;
      read = λ colon. (token.end, subst (λ w. TokensTo language text 0 (h.tokens ++ w ∷ []) token.end) colon (read_to text r token word h is (some colon) says));
    }

pub token_refused : (text : List ℕ) (r : Reading) (token : Token) (fault : AsmFault) (h : IsReading text r) → NextIs text r.from (Ok token) → token.kind ≢ kinds.End → RefusesToken text token r fault → IsAnswered text fault
token_refused text r token fault h is some m = by (word_of token.kind (bytes_of text token)) refl m
  where
    by : (found : Option Word) → word_of token.kind (bytes_of text token) ≡ found → MatchOption found (RefusesAll r.phase token.start r fault) (λ (word : Word). RefusesIn r.phase word token.start r fault) → IsAnswered text fault
    by None none n = refuses_all text r (Ok token) fault h is none (NoWord token refl none) n
    by (Some word) says n = refuses text h.tokens (Ok token) word (run h.tokens) r fault (next_word_is text r token word h is says (λ colon. some)) n

-- ---- the text's end

-- a line's end leads to a line's start
data LineEnded : State → Type 0 where
  ToStart : (lines : List TextLine) → LineEnded (Start lines)
  Not : LineEnded Stuck

behind_ended : (lines : List TextLine) (label : Option (List ℕ)) (head : Head) (os : List Operand) → LineEnded (step (Behind lines label head os) words.Line)
behind_ended lines label head os = by (list_all is_optional (kinds_left (head_kinds head) os))
  where
    by : (b : Bool) → LineEnded (if b then with_line lines label (Some (record { head = head; operands = os })) else Stuck)
    by true = ToStart (lines ++ (record { label = label; statement = Some (record { head = head; operands = os }) }) ∷ [])
    by false = Not

line_ended : (s : State) → LineEnded (step s words.Line)
line_ended (Start lines) = ToStart (lines ++ (record { label = None; statement = None }) ∷ [])
line_ended (AfterName lines name) = by (instr_named (version_of lines) name)
  where
    by : (found : Option Head) → LineEnded (at_word (option_map_or (λ (head : Head). Behind lines None head []) found Stuck) words.Line)
    by None = Not
    by (Some head) = behind_ended lines None head []
line_ended (AfterLabel lines name) = ToStart (lines ++ (record { label = Some name; statement = None }) ∷ [])
line_ended (Behind lines label head os) = behind_ended lines label head os
line_ended Stuck = Not

-- the lines at the end, and what is kept of them
record EndsAt (text : List ℕ) (s t : State) (r : Reading) : Type 0 where
  lines : List TextLine
  is : t ≡ Start lines
  keeps : Keeps text lines None r
  phase : r.phase ≡ phases.Start

ends_at : (text : List ℕ) (s t : State) (r : Reading) → LineEnded t → IsAt text r t → EndsAt text s t r
ends_at text s _ r (ToStart lines) (AtStart _ phase h) = record { lines = lines; is = refl; keeps = h; phase = phase }
ends_at text s _ r Not a = absurd (goes_at text r Stuck a refl)

end_says : (text : List ℕ) (token : Token) → token.kind ≡ kinds.End → word_of token.kind (bytes_of text token) ≡ Some words.Line
end_says text token end = ap (λ k. word_of k (bytes_of text token)) end

end_lines : (text : List ℕ) (old new : Reading) (token : Token) (h : IsReading text old) → NextIs text old.from (Ok token) → TakesIn old.phase words.Line token.start old new → EndsAt text (run h.tokens) (step (run h.tokens) words.Line) new
end_lines text old new token h is t = ends_at text (run h.tokens) (step (run h.tokens) words.Line) new (line_ended (run h.tokens)) (steps_on text old new token words.Line h is t)

sizes_of : (text : List ℕ) (lines : List TextLine) (r : Reading) (b : Bool) → Keeps text lines None r → has_sizes (Some r.section) ≡ b → has_sizes (section_of lines) ≡ b
sizes_of text lines r b h is = ap has_sizes (sym (no_label (section_of lines)) ∙ h.section) ∙ is

pub end_taken : (text : List ℕ) (old new : Reading) (token : Token) → IsReading text old → NextIs text old.from (Ok token) → token.kind ≡ kinds.End → TakesEnd token.start old new true → (lines : List TextLine) × Reads text lines × Keeps text lines None new
end_taken text old new token h is end t =
    let e = end_lines text old new token h is t.takes in
    let k = e.keeps in
    let clean = clean_at text new (Start e.lines) (AtStart e.lines e.phase k) in (
      e.lines,
      record {
        has = record {
          words = h.tokens;
          end = token;
          is_end = end;
          behind = behind_of text old (Ok token) h is;
          are = record {
            words = lines_said (h.tokens ++ words.Line ∷ []) e.lines (ap ending (run_push h.tokens words.Line ∙ e.is) ∙ ap (λ b. if b then Some e.lines else None) (sizes_of text e.lines new true k t.sizes));
            ranges = k.ranges;
          };
        };
        few = clean.few;
        apart = clean.apart;
      },
      k,
    )

-- a name that has waited for its line's end is no pending fault
end_settled : (text : List ℕ) (old new : Reading) (token : Token) (h : IsReading text old) → NextIs text old.from (Ok token) → token.kind ≡ kinds.End → TakesIn old.phase words.Line token.start old new → IsPending text h.tokens → ⊥
end_settled text old new token h is end t pending = by (run h.tokens) refl h.at
  where
    by : (s : State) → run h.tokens ≡ s → IsAt text old s → ⊥
    by _ there (AtStart lines phase k) = no_pending text h.tokens (Start lines) there (λ ls nm e. absurd (cc)) pending
    by _ there (AtName lines name at phase place k) =
        let takes : TakesBehindName (record { name = name; at = at }) words.Line token.start old new = subst (λ p. TakesIn p words.Line token.start old new) phase t in
        settled_name text h.tokens (Ok token) lines (record { name = name; at = at }) old (after_name text old (Ok token) h is lines name at there place k)
        (λ e. let wrong : words.Line ≡ words.Colon = some_is words.Line words.Colon (sym (end_says text token end) ∙ e) in absurd (cc))
        (λ head named full. let count = k.instrs.count in let room = takes.is.room in omega arith) pending
    by _ there (AtLabel lines name phase k) = no_pending text h.tokens (AfterLabel lines name) there (λ ls nm e. absurd (cc)) pending
    by _ there (AtOperand lines label head at phase os room k) = no_pending text h.tokens (Behind lines label head old.operands.items) there (λ ls nm e. absurd (cc)) pending

pub end_refused : (text : List ℕ) (old new : Reading) (token : Token) (fault : AsmFault) → IsReading text old → NextIs text old.from (Ok token) → token.kind ≡ kinds.End → RefusesEnd token.start old new fault → IsAnswered text fault
end_refused text old new token fault h is end (NoLine m) =
    refuses text h.tokens (Ok token) words.Line (run h.tokens) old fault (next_word_is text old token words.Line h is (end_says text token end) (λ colon. absurd (cc))) m
end_refused text old new token fault h is end (NoText at t) =
    let e = end_lines text old new token h is t.takes in
    subst (IsAnswered text) (sym at)
    (unexpected text h.tokens (Ok token) (behind_of text old (Ok token) h is) (clean_at text old (run h.tokens) h.at) (end_settled text old new token h is end t.takes)
    (NoEnd token refl end (λ lines are.
    let same : Start lines ≡ Start e.lines = sym (lines_at (h.tokens ++ words.Line ∷ []) lines are) ∙ run_push h.tokens words.Line ∙ e.is in
    let none = sizes_of text e.lines new false e.keeps t.sizes in
    let order : has_sizes (section_of lines) ≡ true = are.lines_are.order in
    wrong lines e.lines same order none)))
  where
    wrong : (lines other : List TextLine) → Start lines ≡ Start other → has_sizes (section_of lines) ≡ true → has_sizes (section_of other) ≡ false → ⊥
    wrong lines other same order none = let eq : lines ≡ other = cc in let bad : true ≡ false = sym order ∙ ap (λ ls. has_sizes (section_of ls)) eq ∙ none in absurd (cc)
