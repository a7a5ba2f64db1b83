-- Behind words without a fault, what is refused is the first fault of the text.
use Rattle.std.proofs.Common.{◌≡◌, ◌≢◌, ◌⊎◌, inl, inr, ℕ, ◌<◌, ◌≤◌, true, List, [], ◌∷◌, ◌++◌, length, map, Option, Some, None, Result, Ok, Err, refl, sym, ap, subst, ◌∙◌, arith, append_assoc, length-append, Contains}
use Rattle.std.specs.Prelude.{if◌then◌else◌, slice_range}
use Rattle.std.specs.Option.{option_map_or}
use Rattle.std.proofs.lemmas.List.{append-nil, append_cancel_left}
use Rattle.ven_io.specs.declared.token.Token.{Token}
use Rattle.ven_io.specs.declared.token.TokenFault.{TokenFault}
use Rattle.ven_io.specs.declared.token.TokenFault.TheVariants.{NotAscii, Unexpected as NoToken_there}
use Rattle.ven_io.specs.declared.token.TokenKind.TheVariants.{End}
use Rattle.ven_io.specs.Reader.{run_from}
use Rattle.ven_io.specs.Token.{NextIs, IsEnd, StandsAt, IsSpelling, bytes_of}
use Rattle.ven_io.specs.Tokens.{IsBehind, TokensTo, place_of}
use Rattle.ven_io.proofs.Readers.{run_on}
use Rattle.ven_io.proofs.Reached.{one_text, Meets, Same, Before, After}
use Rattle.venice_isa.specs.Limits.{instruction_limit}
use Rattle.venice_asm.specs.declared.head.Head.{Head}
use Rattle.venice_asm.specs.declared.phase.Section.{Section}
use Rattle.venice_asm.specs.declared.phase.Section.TheVariants as sections
use Rattle.venice_asm.specs.declared.word.Word.{Word}
use Rattle.venice_asm.specs.declared.word.Word.TheVariants as words
use Rattle.venice_asm.specs.Faults.{BeginsLines, BeginsInRange, BeginsWith, seen, IsUnexpected, NoToken, NoWord, NoLines, NoEnd, IsLabelAt, Cause, Unexpected, FieldRange, TooMany, Twice, rank_of, Holds, TextFault, rank, IsFault, answer_of, IsRefused, InText}
use Rattle.venice_asm.specs.Lines.{TextLine, label_words, text_words, is_instr, section_of, has_sizes, version_of, has_head, AreLines, AreWordsOf}
use Rattle.venice_asm.specs.Meaning.{instrs_of, label_names}
use Rattle.venice_asm.specs.Reading.{instr_named, heads_at, State, Start, AfterName, AfterLabel, Behind, Stuck, at_start, step, run}
use Rattle.venice_asm.specs.Spelling.{head_word, keyword_among}
use Rattle.venice_asm.specs.declared.fault.AsmFault.TheVariants as answers
use Rattle.venice_asm.specs.Words.{language, word_of}
use Rattle.venice_asm.proofs.Ahead.{Ahead, Within, Beyond, ahead}
use Rattle.venice_asm.proofs.Cleanness.{IsClean, IsFew, HasApart, clean_from, step_to, apart_last}
use Rattle.venice_asm.proofs.Following.{instr_word, sized, IsSized, AtArrays, AtCode}
use Rattle.venice_asm.proofs.Registers.{none_some}
use Rattle.venice_asm.proofs.Sentences.{goes_begins, IsRanged, ranged_begins, begins_ranged, ranged_goes, lines_at}
use Rattle.venice_asm.proofs.Opening.{seen_one, name_is, run_push, run_split, prefix_to, label_or_stuck, instr_starts, named_room, labelled_room, no_labels_before, no_name_in_nothing, IsPending, TooManyName, TwiceName}
use Rattle.venice_asm.proofs.Sentences.{instr_read}

-- ---- before what stands next

pub at_most_length : (text : List ℕ) (from : ℕ) (next : Result Token TokenFault) → NextIs text from next → place_of next ≤ length text
at_most_length text from (Ok token) h = h.0.in_text
at_most_length text from (Err (NotAscii at)) h = h.0.in_text
at_most_length text from (Err (NoToken_there at)) h = h.0.in_text

pub end_place : (text : List ℕ) (from : ℕ) (next : Result Token TokenFault) (token : Token) → next ≡ Ok token → token.kind ≡ End → NextIs text from next → place_of next ≡ length text
end_place text from next token is end h = ap place_of is ∙ by (subst (NextIs text from) is h).1
  where
    by : IsEnd text token ⊎ StandsAt text token → token.start ≡ length text
    by (inl at_end) = at_end.start
    by (inr stands) = absurd (subst (λ k. IsSpelling k (slice_range text token.start token.end)) end stands.spelled)

colon_case : (word : Word) → (word ≡ words.Colon) ⊎ (word ≢ words.Colon)
colon_case words.Colon = inl refl
colon_case (words.Name bytes) = inr (λ e. absurd (cc))
colon_case (words.Number n) = inr (λ e. absurd (cc))
colon_case words.Open = inr (λ e. absurd (cc))
colon_case words.Comma = inr (λ e. absurd (cc))
colon_case words.Close = inr (λ e. absurd (cc))
colon_case words.Line = inr (λ e. absurd (cc))

clean_goes : (s : State) → IsClean s → s ≢ Stuck
clean_goes s h = ranged_goes s h.ranged

pub start_at : (tokens : List Word) (lines : List TextLine) → AreLines lines → tokens ≡ text_words lines → run tokens ≡ Start lines
start_at tokens lines are is = lines_at tokens lines (record { spelled = is; lines_are = are })

-- two words more
two_more : (tokens front rest : List Word) (one two : Word) → tokens ≡ front ++ one ∷ two ∷ rest → tokens ≡ (front ++ one ∷ two ∷ []) ++ rest
two_more tokens front rest one two all = all ∙ sym (append_assoc front (one ∷ two ∷ []) rest)

-- an instruction too many, with no label before it
many_alone : (text : List ℕ) (tokens front : List Word) (own : Word) (rest : List Word) (to : ℕ) (lines : List TextLine) (head : Head) → TokensTo language text 0 tokens to → IsClean (run tokens) → tokens ≡ front ++ own ∷ rest → front ≡ text_words lines → own ≡ words.Name (head_word head)
    → AreLines lines → length (instrs_of lines) ≡ instruction_limit → is_instr head ≡ true → has_head (version_of lines) head ≡ true → ¬ IsLabelAt text front (head_word head) → IsPending text tokens
many_alone text tokens front own rest to lines head read clean all front_is own_is are full instr has no_label = by rest all
  where
    start : run front ≡ Start lines
    start = start_at front lines are front_is

    one : step (run front) own ≡ AfterName lines (head_word head)
    one = ap (λ s. step s own) start ∙ ap (step (Start lines)) own_is ∙ instr_starts lines head are.order instr

    by : (rs : List Word) → tokens ≡ front ++ own ∷ rs → IsPending text tokens
    by [] e =
        TooManyName lines (head_word head) head (ap run e ∙ run_push front own ∙ one) (instr_read (version_of lines) head instr has) full
        (λ begins. no_label (subst (BeginsWith text) (ap (λ ts. ts ++ words.Colon ∷ []) e ∙ append_assoc front (own ∷ []) (words.Colon ∷ []) ∙ ap (λ w. front ++ w ∷ words.Colon ∷ []) own_is) begins))
    by (word ∷ more) e = which (colon_case word)
      where
        which : (word ≡ words.Colon) ⊎ (word ≢ words.Colon) → IsPending text tokens
        which (inl is) =
            let begins = prefix_to text 0 to (front ++ own ∷ word ∷ []) more (subst (λ ts. TokensTo language text 0 ts to) (two_more tokens front more own word e) read) in
            absurd (no_label (subst (BeginsWith text) (ap (λ w. front ++ w ∷ word ∷ []) own_is ∙ ap (λ w. front ++ words.Name (head_word head) ∷ w ∷ []) is) begins))
        which (inr other) =
            let there : IsClean (step (step (run front) own) word) = clean_from (step (step (run front) own) word) more (subst IsClean (run_split tokens front (word ∷ more) own e) clean) in
            let room = named_room lines (head_word head) word other (subst (λ s. IsFew (step s word)) one there.few) in
            absurd (omega arith)

-- and behind a label
many_labelled : (text : List ℕ) (tokens front : List Word) (own : Word) (rest : List Word) (lines : List TextLine) (label : List ℕ) (head : Head) → IsClean (run tokens) → tokens ≡ front ++ own ∷ rest → front ≡ text_words lines ++ label_words (Some label) → own ≡ words.Name (head_word head)
    → AreLines lines → length (instrs_of lines) ≡ instruction_limit → IsPending text tokens
many_labelled text tokens front own rest lines label head clean all front_is own_is are full = by (label_or_stuck lines label (at_start lines label) (step_to (Start lines) (words.Name label)))
  where
    front_run : run front ≡ step (at_start lines label) words.Colon
    front_run = ap run front_is ∙ run_on step (Start []) (text_words lines) (label_words (Some label)) ∙ ap (λ s. run_from step s (label_words (Some label))) (start_at (text_words lines) lines are refl)

    there : IsClean (step (run front) own)
    there = clean_from (step (run front) own) rest (subst IsClean (run_split tokens front rest own all) clean)

    by : (step (at_start lines label) words.Colon ≡ AfterLabel lines label) ⊎ (step (at_start lines label) words.Colon ≡ Stuck) → IsPending text tokens
    by (inl is) =
        let room = labelled_room lines label (head_word head) (subst (λ w. IsFew (step (AfterLabel lines label) w)) own_is (subst (λ s. IsFew (step s own)) (front_run ∙ is) there.few)) in
        absurd (omega arith)
    by (inr stuck) =
        absurd (clean_goes (step (run front) own) there (ap (λ s. step s own) (front_run ∙ stuck) ∙ ap (step Stuck) own_is))

-- a name that is a label of the lines before begins no head's line
named_again : (lines : List TextLine) (name : List ℕ) → AreLines lines → Contains (label_names lines) name → at_start lines name ≢ Stuck → at_start lines name ≡ AfterName lines name
named_again lines name are again goes = by (section_of lines) refl (sized (section_of lines) are.order)
  where
    none : (o : Option Section) → section_of lines ≡ o → keyword_among head_word (heads_at o) name ≡ None → at_start lines name ≡ AfterName lines name
    none o is no_head =
        ap (λ found. option_map_or (λ (h : Head). Behind lines None h []) found (if has_sizes (section_of lines) then AfterName lines name else Stuck)) (ap (λ x. keyword_among head_word (heads_at x) name) is ∙ no_head)
        ∙ ap (λ b. if b then AfterName lines name else Stuck) are.order

    by : (o : Option Section) → section_of lines ≡ o → IsSized o → at_start lines name ≡ AfterName lines name
    by _ is AtArrays =
        absurd (no_name_in_nothing name (label_names lines) (ap (map (λ (l : List ℕ × ℕ). l.0)) (no_labels_before lines sections.Version sections.Arrays 0 (λ e. absurd (cc)) is)) again)
    by _ is AtCode = none (Some sections.Code) is refl

-- a label that comes again
label_again : (text : List ℕ) (tokens front : List Word) (own : Word) (rest : List Word) (next : Result Token TokenFault) (lines : List TextLine) (name : List ℕ) → IsBehind language text tokens next → IsClean (run tokens) → tokens ≡ front ++ own ∷ rest → AreWordsOf front lines → own ≡ words.Name name
    → IsLabelAt text front name → Contains (label_names lines) name → IsPending text tokens
label_again text tokens front own rest next lines name behind clean all are own_is is_label again = by rest all
  where
    start : run front ≡ Start lines
    start = lines_at front lines are

    one : step (run front) own ≡ at_start lines name
    one = ap (λ s. step s own) start ∙ ap (step (Start lines)) own_is

    goes : at_start lines name ≢ Stuck
    goes e = clean_goes (step (run front) own) (clean_from (step (run front) own) rest (subst IsClean (run_split tokens front rest own all) clean)) (one ∙ e)

    named : at_start lines name ≡ AfterName lines name
    named = named_again lines name are.lines_are again goes

    second : (word : Word) (more : List Word) → tokens ≡ front ++ own ∷ word ∷ more → Ahead text tokens next (front ++ words.Name name ∷ words.Colon ∷ []) → word ≡ words.Colon
    second word more e (Within rest2 same) =
        let tail = append_cancel_left front (own ∷ word ∷ more) ((words.Name name ∷ words.Colon ∷ []) ++ rest2) (sym e ∙ same ∙ append_assoc front (words.Name name ∷ words.Colon ∷ []) rest2) in
        cc
    second word more e (Beyond w2 rest2 is same) =
        let one_length = ap length same in
        let two_length = ap length e in
        let a = length-append front (words.Name name ∷ words.Colon ∷ []) in
        let b = length-append tokens (w2 ∷ rest2) in
        let c = length-append front (own ∷ word ∷ more) in
        absurd (omega arith)

    by : (rs : List Word) → tokens ≡ front ++ own ∷ rs → IsPending text tokens
    by [] e =
        TwiceName lines name (ap run e ∙ run_push front own ∙ one ∙ named) again
        (subst (BeginsWith text) (ap (λ w. front ++ w ∷ words.Colon ∷ []) (sym own_is) ∙ sym (append_assoc front (own ∷ []) (words.Colon ∷ [])) ∙ ap (λ ts. ts ++ words.Colon ∷ []) (sym e)) is_label)
    by (word ∷ more) e =
        let colon = second word more e (ahead text 0 behind.from is_label.0 tokens (front ++ words.Name name ∷ words.Colon ∷ []) next behind.read behind.next_is behind.kept is_label.1) in
        let there : IsClean (step (step (run front) own) word) = clean_from (step (step (run front) own) word) more (subst IsClean (run_split tokens front (word ∷ more) own e) clean) in
        let at_label : step (step (run front) own) word ≡ AfterLabel lines name = ap (λ s. step s word) (one ∙ named) ∙ ap (step (AfterName lines name)) colon in
        absurd (apart_last (label_names lines) name (subst HasApart at_label there.apart) again)

pub before : (text : List ℕ) (tokens front : List Word) (own : Word) (rest : List Word) (next later : Result Token TokenFault) → IsBehind language text tokens next → IsClean (run tokens) → IsBehind language text front later → tokens ≡ front ++ own ∷ rest → seen text later ≡ Some own → place_of later < place_of next
    → (cause : Cause) → Holds text front later cause → IsPending text tokens
before text tokens front own rest next later behind clean front_behind all sees earlier cause holds = by cause holds
  where
    one : IsClean (run (front ++ own ∷ []))
    one = subst IsClean (sym (run_push front own)) (clean_from (step (run front) own) rest (subst IsClean (run_split tokens front rest own all) clean))

    by : (c : Cause) → Holds text front later c → IsPending text tokens
    by Unexpected (NoToken fault is) = absurd (none_some own (sym (ap (seen text) is) ∙ sees))
    by Unexpected (NoWord token is none) = absurd (none_some own (sym none ∙ sees))
    by Unexpected (NoLines word is bad) = absurd (bad (subst (λ w. BeginsLines (front ++ w ∷ [])) (seen_one text later own word sees is) (goes_begins (front ++ own ∷ []) (clean_goes (run (front ++ own ∷ [])) one))))
    by Unexpected (NoEnd token is end none) =
        let here = end_place text front_behind.from later token is end front_behind.next_is in
        let most = at_most_length text behind.from next behind.next_is in
        absurd (omega arith)
    by FieldRange h = absurd (h.outside (subst (λ w. BeginsInRange (front ++ w ∷ [])) (seen_one text later own h.word sees h.sees) (ranged_begins (front ++ own ∷ []) one.ranged)))
    by TooMany h = many h.label h.before h.no_label
      where
        many : (label : Option (List ℕ)) → front ≡ text_words h.lines ++ label_words label → (label ≡ None → ¬ IsLabelAt text front (head_word h.head)) → IsPending text tokens
        many None is no_label =
            many_alone text tokens front own rest behind.from h.lines h.head behind.read clean all (is ∙ append-nil (text_words h.lines)) (seen_one text later own (words.Name (head_word h.head)) sees h.sees) h.lines_are h.full h.instr h.in_version (no_label refl)
        many (Some label) is no_label =
            many_labelled text tokens front own rest h.lines label h.head clean all is (seen_one text later own (words.Name (head_word h.head)) sees h.sees) h.lines_are h.full
    by Twice h = label_again text tokens front own rest next h.lines h.name behind clean all h.before (seen_one text later own (words.Name h.name) sees h.sees) h.is_label h.again

-- ---- the first fault

pub refused : (text : List ℕ) (tokens : List Word) (next : Result Token TokenFault) (cause : Cause) → IsBehind language text tokens next → IsClean (run tokens) → (IsPending text tokens → ⊥) → Holds text tokens next cause → ((other : Cause) → Holds text tokens next other → rank_of cause ≤ rank_of other)
    → IsRefused text (answer_of cause (place_of next))
refused text tokens next cause behind clean settled holds least =
    let fault : TextFault = record { cause = cause; at = place_of next } in
    InText fault (record { here = record { words = tokens; next = next; behind = behind; place = refl; cause = holds }; first = λ other h. by other h (one_text language text tokens h.words next h.next behind h.behind) })
  where
    by : (other : TextFault) (h : IsFault text other) → Meets language text tokens next h.words h.next → (place_of next < other.at) ⊎ ((place_of next ≡ other.at) × (rank_of cause ≤ rank other))
    by other h (Same all is) =
        let there : Holds text tokens next other.cause = subst (λ n. Holds text tokens n other.cause) (sym is) (subst (λ ts. Holds text ts h.next other.cause) (sym all) h.cause) in
        inr (ap place_of is ∙ sym h.place, least other.cause there)
    by other h (Before b) = let here = ap place_of b.is in let at = h.place in let lt = b.before in inl (omega arith)
    by other h (After b) =
        let at = ap place_of b.is in
        let lt = b.before in
        absurd (settled (before text tokens h.words b.own b.rest next h.next behind clean h.behind b.all (ap (seen text) b.is ∙ b.takes) (omega arith) other.cause h.cause))

-- with a word that goes on, and ends no line, nothing is unexpected
expected : (text : List ℕ) (tokens : List Word) (next : Result Token TokenFault) (word : Word) → seen text next ≡ Some word → word ≢ words.Line → step (run tokens) word ≢ Stuck → ¬ IsUnexpected text tokens next
expected text tokens next word sees other goes (NoToken fault is) = none_some word (sym (ap (seen text) is) ∙ sees)
expected text tokens next word sees other goes (NoWord token is none) = none_some word (sym none ∙ sees)
expected text tokens next word sees other goes (NoLines w is bad) = bad (subst (λ x. BeginsLines (tokens ++ x ∷ [])) (seen_one text next word w sees is) (goes_begins (tokens ++ word ∷ []) (λ e. goes (sym (run_push tokens word) ∙ e))))
expected text tokens next word sees other goes (NoEnd token is end none) =
    other (seen_one text next word words.Line sees (ap (seen text) is ∙ ap (λ k. word_of k (bytes_of text token)) end))

pub unexpected : (text : List ℕ) (tokens : List Word) (next : Result Token TokenFault) → IsBehind language text tokens next → IsClean (run tokens) → (IsPending text tokens → ⊥) → IsUnexpected text tokens next → IsRefused text (answers.Unexpected (place_of next))
unexpected text tokens next behind clean settled holds = refused text tokens next Unexpected behind clean settled holds least
  where
    least : (other : Cause) → Holds text tokens next other → 1 ≤ rank_of other
    least Unexpected h = omega arith
    least FieldRange h = omega arith
    least TooMany h = omega arith
    least Twice h = omega arith

-- a word with which lines go on, but none in range
pub out_of_range : (text : List ℕ) (tokens : List Word) (next : Result Token TokenFault) (word : Word) → IsBehind language text tokens next → IsClean (run tokens) → (IsPending text tokens → ⊥) → seen text next ≡ Some word → word ≢ words.Line → step (run tokens) word ≢ Stuck → ¬ IsRanged (step (run tokens) word) → IsRefused text (answers.FieldRange (place_of next))
out_of_range text tokens next word behind clean settled sees other goes outside =
    refused text tokens next FieldRange behind clean settled
    (record {
      word = word;
      sees = sees;
      so_far = ranged_begins tokens clean.ranged;
      goes_on = goes_begins (tokens ++ word ∷ []) (λ e. goes (sym (run_push tokens word) ∙ e));
      outside = λ begins. outside (subst IsRanged (run_push tokens word) (begins_ranged (tokens ++ word ∷ []) begins));
    })
    least
  where
    least : (cause : Cause) → Holds text tokens next cause → 2 ≤ rank_of cause
    least Unexpected h = absurd (expected text tokens next word sees other goes h)
    least FieldRange h = omega arith
    least TooMany h = omega arith
    least Twice h = omega arith

-- an instruction too many
pub too_many : (text : List ℕ) (tokens : List Word) (next : Result Token TokenFault) (lines : List TextLine) (label : Option (List ℕ)) (name : List ℕ) (head : Head) → IsBehind language text tokens next → IsClean (run tokens) → (IsPending text tokens → ⊥) → tokens ≡ text_words lines ++ label_words label → AreLines lines
    → seen text next ≡ Some (words.Name name) → instr_named (version_of lines) name ≡ Some head → length (instrs_of lines) ≡ instruction_limit → step (run tokens) (words.Name name) ≢ Stuck → (label ≡ None → ¬ IsLabelAt text tokens name) → IsRefused text (answers.FieldRange (place_of next))
too_many text tokens next lines label name head behind clean settled is are sees named full goes no_label =
    let w = instr_word (version_of lines) name head named in
    refused text tokens next TooMany behind clean settled
    (record {
      lines = lines;
      label = label;
      head = head;
      before = is;
      lines_are = are;
      full = full;
      sees = sees ∙ ap (λ n. Some (words.Name n)) (sym w.spelled);
      instr = w.instr;
      in_version = w.has;
      no_label = λ none. subst (λ n. ¬ IsLabelAt text tokens n) (sym w.spelled) (no_label none);
    })
    least
  where
    least : (cause : Cause) → Holds text tokens next cause → 2 ≤ rank_of cause
    least Unexpected h = absurd (expected text tokens next (words.Name name) sees (λ e. absurd (cc)) goes h)
    least FieldRange h = omega arith
    least TooMany h = omega arith
    least Twice h = omega arith

-- a label that comes again
pub twice : (text : List ℕ) (tokens : List Word) (next : Result Token TokenFault) (lines : List TextLine) (name : List ℕ) → IsBehind language text tokens next → IsClean (run tokens) → (IsPending text tokens → ⊥) → AreWordsOf tokens lines → seen text next ≡ Some (words.Name name) → IsLabelAt text tokens name → Contains (label_names lines) name
    → IsRanged (step (run tokens) (words.Name name)) → IsRefused text (answers.LabelTwice (place_of next))
twice text tokens next lines name behind clean settled are sees is_label again ranged =
    refused text tokens next Twice behind clean settled (record { lines = lines; name = name; before = are; sees = sees; is_label = is_label; again = again }) least
  where
    goes : step (run tokens) (words.Name name) ≢ Stuck
    goes = ranged_goes (step (run tokens) (words.Name name)) ranged

    no_line_label : (label : Option (List ℕ)) (ls : List TextLine) → AreLines ls → tokens ≡ text_words ls ++ label_words label → label ≡ None
    no_line_label None ls l_are is = refl
    no_line_label (Some label) ls l_are is = absurd (by (label_or_stuck ls label (at_start ls label) (step_to (Start ls) (words.Name label))))
      where
        front_run : run tokens ≡ step (at_start ls label) words.Colon
        front_run = ap run is ∙ run_on step (Start []) (text_words ls) (label_words (Some label)) ∙ ap (λ s. run_from step s (label_words (Some label))) (start_at (text_words ls) ls l_are refl)

        start : Start lines ≡ step (at_start ls label) words.Colon
        start = sym (lines_at tokens lines are) ∙ front_run

        by : (step (at_start ls label) words.Colon ≡ AfterLabel ls label) ⊎ (step (at_start ls label) words.Colon ≡ Stuck) → ⊥
        by (inl e) = let f : Start lines ≡ AfterLabel ls label = start ∙ e in absurd (cc)
        by (inr e) = let f : Start lines ≡ Stuck = start ∙ e in absurd (cc)

    least : (cause : Cause) → Holds text tokens next cause → 3 ≤ rank_of cause
    least Unexpected h = absurd (expected text tokens next (words.Name name) sees (λ e. absurd (cc)) goes h)
    least FieldRange h = absurd (h.outside (subst (λ w. BeginsInRange (tokens ++ w ∷ [])) (seen_one text next (words.Name name) h.word sees h.sees) (ranged_begins (tokens ++ words.Name name ∷ []) (subst IsRanged (sym (run_push tokens (words.Name name))) ranged))))
    least TooMany h =
        let same = name_is name (head_word h.head) (seen_one text next (words.Name name) (words.Name (head_word h.head)) sees h.sees) in
        absurd (h.no_label (no_line_label h.label h.lines h.lines_are h.before) (subst (IsLabelAt text tokens) same is_label))
    least Twice h = omega arith
