-- What is read are the sentences of the grammar, and where a sentence may go on.
use Rattle.std.proofs.Common.{◌≡◌, ◌≢◌, ℕ, Bool, true, false, ◌||◌, List, [], ◌∷◌, ◌++◌, length, map, Option, Some, None, refl, sym, ap, subst, ◌∙◌, arith, append_assoc, All, Contains}
use Rattle.std.specs.Prelude.{if◌then◌else◌}
use Rattle.std.specs.List.{list_any, cons_option}
use Rattle.std.specs.Option.{option_map_or, option_and_then}
use Rattle.std.specs.Str.{bytes_eq}
use Rattle.std.proofs.lemmas.Bool.{and_parts}
use Rattle.std.proofs.lemmas.List.{append-nil, take_at}
use Rattle.std.proofs.lemmas.List.Folds.{list_any-append}
use Rattle.std.proofs.lemmas.List.Elements.{All-nil, All-push, All-take, All-contains, Contains-append_right, Contains-push, filter_map-append}
use Rattle.ven_io.specs.Reader.{run_from, Follows}
use Rattle.ven_io.proofs.Readers.{run_on, begins_iff}
use Rattle.ven_base.proofs.Words.{same_bytes}
use Rattle.venice_isa.specs.declared.instr.Version.{Version}
use Rattle.venice_isa.specs.declared.instr.Version.TheVariants.{One, Two}
use Rattle.venice_asm.specs.declared.head.Head.{Head}
use Rattle.venice_asm.specs.declared.head.Head.TheVariants as heads
use Rattle.venice_asm.specs.declared.head.Kind.{Kind}
use Rattle.venice_asm.specs.declared.operand.Operand.{Operand}
use Rattle.venice_asm.specs.declared.operand.Operand.TheVariants as operands
use Rattle.venice_asm.specs.declared.phase.Section.{Section}
use Rattle.venice_asm.specs.declared.phase.Section.TheVariants as sections
use Rattle.venice_asm.specs.declared.word.Word.{Word}
use Rattle.venice_asm.specs.declared.word.Word.TheVariants as words
use Rattle.venice_asm.specs.Faults.{BeginsLines, BeginsInRange}
use Rattle.venice_asm.specs.Lines.{Statement, TextLine, label_words, statement_words, line_words, text_words, is_instr, head_kinds, kinds_behind, suits, all_suit, are_in_range, behind_label, behind_head, behind_statement, section_from, section_of, has_sizes, statements_of, is_version, version_of, has_head, IsStatement, AreLines, IsInRange, AreWordsOf}
use Rattle.venice_asm.specs.Reading.{instr_named, heads_at, State, Start, AfterName, AfterLabel, Behind, Stuck, with_line, kinds_left, at_start, with_instr, at_word, at_colon, step, ending, reader, run}
use Rattle.venice_asm.specs.Spelling.{head_word, operand_word, keyword_among}
use Rattle.venice_asm.proofs.Following.{no_colon, behind_step, outcome, Outcome, Ended, Grown, Unfit, ColonOutcome, ArrayLabel, NoLabel, colon_outcome, IsSized, AtArrays, AtCode, sized, operand_step, IsBegun, IsRight, words_of, moves}
use Rattle.venice_asm.proofs.Lining.{statements_push, section_on, no_section, section_behind, section_push, follows_head, Follows_head, none_later, version_statement, Fine, fine_push, StatementFits, gives}
use Rattle.venice_asm.proofs.Operands.{operand_read}
use Rattle.venice_asm.proofs.Registers.{none_some, some_is}
use Rattle.venice_asm.proofs.Suiting.{left_behind, left_push, suit_append, range_append, range_front, head_ends, ending as line_ending}

pub all_front : {X : Type 0} (P : X → Type 0) (xs ys : List X) → All P (xs ++ ys) → All P xs
all_front P xs ys h = subst (λ zs. All P zs) (take_at xs ys (length xs) refl) (All-take P (length xs) (xs ++ ys) h)

pub all_last : {X : Type 0} (P : X → Type 0) (xs : List X) (x : X) → All P (xs ++ x ∷ []) → P x
all_last P xs x h = All-contains P (xs ++ x ∷ []) x h (Contains-push xs x)

-- ---- runs

stuck_stays : (word : Word) → step Stuck word ≡ Stuck
stuck_stays (words.Name bytes) = refl
stuck_stays (words.Number n) = refl
stuck_stays words.Colon = refl
stuck_stays words.Open = refl
stuck_stays words.Comma = refl
stuck_stays words.Close = refl
stuck_stays words.Line = refl

pub stuck_on : (tokens : List Word) → run_from step Stuck tokens ≡ Stuck
stuck_on [] = refl
stuck_on (word ∷ tokens) = ap (λ s. run_from step s tokens) (stuck_stays word) ∙ stuck_on tokens

pub first_goes : (s : State) (word : Word) (tokens : List Word) → run_from step s (word ∷ tokens) ≢ Stuck → step s word ≢ Stuck
first_goes s word tokens goes e = goes (ap (λ t. run_from step t tokens) e ∙ stuck_on tokens)

pub record Arrives (tokens : List Word) (t : State) : Type 0 where
  pub right : IsRight t
  pub spelled : words_of t ≡ tokens

run_moves : (s : State) (before tokens : List Word) → IsRight s → words_of s ≡ before → run_from step s tokens ≢ Stuck → Arrives (before ++ tokens) (run_from step s tokens)
run_moves s before [] h is goes = record { right = h; spelled = is ∙ sym (append-nil before) }
run_moves s before (word ∷ tokens) h is goes =
    let m = moves s word h (first_goes s word tokens goes) in
    let rest = run_moves (step s word) (before ++ word ∷ []) tokens m.right (m.spelled ∙ ap (λ ts. ts ++ word ∷ []) is) goes in
    record { right = rest.right; spelled = rest.spelled ∙ append_assoc before (word ∷ []) tokens }

fine_start : Fine []
fine_start = record { section = sections.Version; order = refl; each = All-nil (IsStatement One) }

pub run_right : (tokens : List Word) → run tokens ≢ Stuck → Arrives tokens (run tokens)
run_right tokens goes = run_moves (Start []) [] tokens fine_start refl goes

-- ---- what is read are lines

ends_in : (s : State) (tokens : List Word) (lines : List TextLine) → IsRight s → words_of s ≡ tokens → ending s ≡ Some lines → AreWordsOf tokens lines
ends_in (Start ls) tokens lines h is e = by (has_sizes (section_of ls)) refl e
  where
    by : (b : Bool) → has_sizes (section_of ls) ≡ b → (if b then Some ls else None) ≡ Some lines → AreWordsOf tokens lines
    by true sizes f = subst (AreWordsOf tokens) (some_is ls lines f) (record { spelled = sym is; lines_are = record { order = sizes; each = h.each } })
    by false sizes f = absurd (none_some lines f)
ends_in s tokens lines h is e = absurd (none_some lines e)

ending_goes : (s : State) (lines : List TextLine) → ending s ≡ Some lines → s ≢ Stuck
ending_goes s lines e stuck = none_some lines (sym (ap ending stuck) ∙ e)

pub lines_said : (tokens : List Word) (lines : List TextLine) → ending (run tokens) ≡ Some lines → AreWordsOf tokens lines
lines_said tokens lines e = let a = run_right tokens (ending_goes (run tokens) lines e) in ends_in (run tokens) tokens lines a.right a.spelled e

-- ---- lines are read

abbrev statement_of_parts : Head → List Operand → Statement
statement_of_parts head os = record { head = head; operands = os }

pub ops_run : (lines : List TextLine) (label : Option (List ℕ)) (head : Head) (os more : List Operand) → all_suit (version_of lines) (kinds_left (head_kinds head) os) more ≡ true
    → run_from step (Behind lines label head os) (map operand_word more ++ words.Line ∷ []) ≡ with_line lines label (Some (statement_of_parts head (os ++ more)))
ops_run lines label head os [] h =
    ap (λ b. if b then with_line lines label (Some (statement_of_parts head os)) else Stuck) h ∙ ap (λ xs. with_line lines label (Some (statement_of_parts head xs))) (sym (append-nil os))
ops_run lines label head os (o ∷ more) h = by (λ g. ops_run lines label head (os ++ o ∷ []) more g) (kinds_left (head_kinds head) os) refl h
  where
    by : (all_suit (version_of lines) (kinds_left (head_kinds head) (os ++ o ∷ [])) more ≡ true
        → run_from step (Behind lines label head (os ++ o ∷ [])) (map operand_word more ++ words.Line ∷ []) ≡ with_line lines label (Some (statement_of_parts head ((os ++ o ∷ []) ++ more))))
        → (rest : List Kind) → kinds_left (head_kinds head) os ≡ rest → all_suit (version_of lines) rest (o ∷ more) ≡ true
        → run_from step (Behind lines label head os) (operand_word o ∷ (map operand_word more ++ words.Line ∷ [])) ≡ with_line lines label (Some (statement_of_parts head (os ++ o ∷ more)))
    by next [] left g = let e : false ≡ true = g in absurd (cc)
    by next (kind ∷ rest) left g =
        let both = and_parts (suits (version_of lines) kind o) (all_suit (version_of lines) (kinds_behind o rest) more) g in
        let here = operand_step lines label head os kind rest (operand_word o) o left (operand_read (version_of lines) kind o both.0) in
        let after : kinds_left (head_kinds head) (os ++ o ∷ []) ≡ kinds_behind o rest = left_push (head_kinds head) os o ∙ ap (λ r. left_behind r o) left in
        ap (λ t. run_from step t (map operand_word more ++ words.Line ∷ [])) here
        ∙ next (ap (λ r. all_suit (version_of lines) r more) after ∙ both.1)
        ∙ ap (λ xs. with_line lines label (Some (statement_of_parts head xs))) (append_assoc os (o ∷ []) more)

pub record StartsLabel (section : Option Section) (next : Section) : Type 0 where
  pub sizes : has_sizes section ≡ true
  pub code : next ≡ sections.Code

pub starts_label : (section : Option Section) (name : List ℕ) (next : Section) → option_and_then (behind_label (Some name)) section ≡ Some next → StartsLabel section next
starts_label None name next e = absurd (none_some next e)
starts_label (Some sections.Version) name next e = absurd (none_some next e)
starts_label (Some sections.Spad) name next e = absurd (none_some next e)
starts_label (Some sections.Memory) name next e = absurd (none_some next e)
starts_label (Some sections.Arrays) name next e = record { sizes = refl; code = sym (some_is sections.Code next e) }
starts_label (Some sections.Code) name next e = record { sizes = refl; code = sym (some_is sections.Code next e) }

label_run : (lines : List TextLine) (name : List ℕ) (next : Section) → option_and_then (behind_label (Some name)) (section_of lines) ≡ Some next → run_from step (Start lines) (label_words (Some name)) ≡ AfterLabel lines name
label_run lines name next e = by (section_of lines) refl (sized (section_of lines) (starts_label (section_of lines) name next e).sizes)
  where
    begun : (o : Option Section) → section_of lines ≡ o → at_start lines name ≡ option_map_or (λ (head : Head). Behind lines None head []) (keyword_among head_word (heads_at o) name) (if has_sizes o then AfterName lines name else Stuck)
    begun o is = ap (λ (x : Option Section). option_map_or (λ (head : Head). Behind lines None head []) (keyword_among head_word (heads_at x) name) (if has_sizes x then AfterName lines name else Stuck)) is

    arrays : (t : Bool) → bytes_eq name (head_word heads.Array) ≡ t → section_of lines ≡ Some sections.Arrays → step (at_start lines name) words.Colon ≡ AfterLabel lines name
    arrays true same is =
        ap (λ s. step s words.Colon) (begun (Some sections.Arrays) is ∙ ap (λ b. option_map_or (λ (head : Head). Behind lines None head []) (if b then Some heads.Array else None) (AfterName lines name)) same)
        ∙ ap (λ n. AfterLabel lines n) (sym (same_bytes name (head_word heads.Array) same))
    arrays false other is =
        ap (λ s. step s words.Colon) (begun (Some sections.Arrays) is ∙ ap (λ b. option_map_or (λ (head : Head). Behind lines None head []) (if b then Some heads.Array else None) (AfterName lines name)) other)

    by : (o : Option Section) → section_of lines ≡ o → IsSized o → step (at_start lines name) words.Colon ≡ AfterLabel lines name
    by _ is AtArrays = arrays (bytes_eq name (head_word heads.Array)) refl is
    by _ is AtCode = ap (λ s. step s words.Colon) (begun (Some sections.Code) is)

-- the word of an instruction of the version is one
pub instr_read : (version : Version) (head : Head) → is_instr head ≡ true → has_head version head ≡ true → instr_named version (head_word head) ≡ Some head
instr_read version heads.Version instr has = let e : false ≡ true = instr in absurd (cc)
instr_read version heads.Spad instr has = let e : false ≡ true = instr in absurd (cc)
instr_read version heads.Memory instr has = let e : false ≡ true = instr in absurd (cc)
instr_read version heads.Array instr has = let e : false ≡ true = instr in absurd (cc)
instr_read version heads.Halt instr has = ap (λ b. if b then Some heads.Halt else None) has
instr_read version heads.Li instr has = ap (λ b. if b then Some heads.Li else None) has
instr_read version heads.Addi instr has = ap (λ b. if b then Some heads.Addi else None) has
instr_read version heads.Add instr has = ap (λ b. if b then Some heads.Add else None) has
instr_read version heads.Sub instr has = ap (λ b. if b then Some heads.Sub else None) has
instr_read version heads.Mul instr has = ap (λ b. if b then Some heads.Mul else None) has
instr_read version heads.Div instr has = ap (λ b. if b then Some heads.Div else None) has
instr_read version heads.Bnz instr has = ap (λ b. if b then Some heads.Bnz else None) has
instr_read version heads.Blt instr has = ap (λ b. if b then Some heads.Blt else None) has
instr_read version heads.Jmp instr has = ap (λ b. if b then Some heads.Jmp else None) has
instr_read version heads.Set instr has = ap (λ b. if b then Some heads.Set else None) has
instr_read version heads.Vec instr has = ap (λ b. if b then Some heads.Vec else None) has
instr_read version heads.Dma instr has = ap (λ b. if b then Some heads.Dma else None) has
instr_read version heads.Rwait instr has = ap (λ b. if b then Some heads.Rwait else None) has
instr_read version heads.Wwait instr has = ap (λ b. if b then Some heads.Wwait else None) has
instr_read version heads.Vwait instr has = ap (λ b. if b then Some heads.Vwait else None) has
instr_read version heads.Tag instr has = ap (λ b. if b then Some heads.Tag else None) has
instr_read version heads.Twait instr has = ap (λ b. if b then Some heads.Twait else None) has

code_instr : (head : Head) (next : Section) → behind_head head sections.Code ≡ Some next → is_instr head ≡ true
code_instr heads.Version next e = absurd (none_some next e)
code_instr heads.Spad next e = absurd (none_some next e)
code_instr heads.Memory next e = absurd (none_some next e)
code_instr heads.Array next e = absurd (none_some next e)
code_instr head next e = refl

-- a line without a label begins with a word of its section or with an instruction's
data StartsLine (section : Section) (head : Head) : Type 0 where
  AsHead : keyword_among head_word (heads_at (Some section)) (head_word head) ≡ Some head → StartsLine section head
  AsInstr : keyword_among head_word (heads_at (Some section)) (head_word head) ≡ None → has_sizes (Some section) ≡ true → is_instr head ≡ true → StartsLine section head

starts_line : (head : Head) (section next : Section) → behind_head head section ≡ Some next → StartsLine section head
starts_line heads.Version sections.Version next e = AsHead refl
starts_line heads.Spad sections.Version next e = AsHead refl
starts_line heads.Spad sections.Spad next e = AsHead refl
starts_line heads.Memory sections.Memory next e = AsHead refl
starts_line heads.Array sections.Arrays next e = AsHead refl
starts_line heads.Halt sections.Arrays next e = AsInstr refl refl refl
starts_line heads.Halt sections.Code next e = AsInstr refl refl refl
starts_line heads.Li sections.Arrays next e = AsInstr refl refl refl
starts_line heads.Li sections.Code next e = AsInstr refl refl refl
starts_line heads.Addi sections.Arrays next e = AsInstr refl refl refl
starts_line heads.Addi sections.Code next e = AsInstr refl refl refl
starts_line heads.Add sections.Arrays next e = AsInstr refl refl refl
starts_line heads.Add sections.Code next e = AsInstr refl refl refl
starts_line heads.Sub sections.Arrays next e = AsInstr refl refl refl
starts_line heads.Sub sections.Code next e = AsInstr refl refl refl
starts_line heads.Mul sections.Arrays next e = AsInstr refl refl refl
starts_line heads.Mul sections.Code next e = AsInstr refl refl refl
starts_line heads.Div sections.Arrays next e = AsInstr refl refl refl
starts_line heads.Div sections.Code next e = AsInstr refl refl refl
starts_line heads.Bnz sections.Arrays next e = AsInstr refl refl refl
starts_line heads.Bnz sections.Code next e = AsInstr refl refl refl
starts_line heads.Blt sections.Arrays next e = AsInstr refl refl refl
starts_line heads.Blt sections.Code next e = AsInstr refl refl refl
starts_line heads.Jmp sections.Arrays next e = AsInstr refl refl refl
starts_line heads.Jmp sections.Code next e = AsInstr refl refl refl
starts_line heads.Set sections.Arrays next e = AsInstr refl refl refl
starts_line heads.Set sections.Code next e = AsInstr refl refl refl
starts_line heads.Vec sections.Arrays next e = AsInstr refl refl refl
starts_line heads.Vec sections.Code next e = AsInstr refl refl refl
starts_line heads.Dma sections.Arrays next e = AsInstr refl refl refl
starts_line heads.Dma sections.Code next e = AsInstr refl refl refl
starts_line heads.Rwait sections.Arrays next e = AsInstr refl refl refl
starts_line heads.Rwait sections.Code next e = AsInstr refl refl refl
starts_line heads.Wwait sections.Arrays next e = AsInstr refl refl refl
starts_line heads.Wwait sections.Code next e = AsInstr refl refl refl
starts_line heads.Vwait sections.Arrays next e = AsInstr refl refl refl
starts_line heads.Vwait sections.Code next e = AsInstr refl refl refl
starts_line heads.Tag sections.Arrays next e = AsInstr refl refl refl
starts_line heads.Tag sections.Code next e = AsInstr refl refl refl
starts_line heads.Twait sections.Arrays next e = AsInstr refl refl refl
starts_line heads.Twait sections.Code next e = AsInstr refl refl refl
starts_line head section next e = absurd (none_some next e)

named_first : (lines : List TextLine) (name : List ℕ) (o : Operand) → step (AfterName lines name) (operand_word o) ≡ at_word (with_instr lines None name) (operand_word o)
named_first lines name (operands.Name bytes) = refl
named_first lines name (operands.Number n) = refl
named_first lines name (operands.Output b) = refl
named_first lines name operands.Open = refl
named_first lines name (operands.Rows n) = refl
named_first lines name operands.Comma = refl
named_first lines name (operands.Columns n) = refl
named_first lines name operands.Close = refl
named_first lines name (operands.Register n) = refl
named_first lines name (operands.Parameter n) = refl
named_first lines name (operands.Write b) = refl
named_first lines name (operands.Operation op) = refl
named_first lines name (operands.Elem elem) = refl
named_first lines name (operands.ModeA a) = refl
named_first lines name (operands.ModeAB a b) = refl
named_first lines name operands.Sum = refl

named_run : (lines : List TextLine) (head : Head) (os : List Operand) → with_instr lines None (head_word head) ≡ Behind lines None head []
    → run_from step (AfterName lines (head_word head)) (map operand_word os ++ words.Line ∷ []) ≡ run_from step (Behind lines None head []) (map operand_word os ++ words.Line ∷ [])
named_run lines head [] is = ap (λ t. at_word t words.Line) is
named_run lines head (o ∷ os) is =
    ap (λ t. run_from step t (map operand_word os ++ words.Line ∷ [])) (named_first lines (head_word head) o ∙ ap (λ t. at_word t (operand_word o)) is ∙ sym (behind_step lines None head [] (operand_word o) (no_colon o)))

with_instr_is : (lines : List TextLine) (label : Option (List ℕ)) (head : Head) → is_instr head ≡ true → has_head (version_of lines) head ≡ true → with_instr lines label (head_word head) ≡ Behind lines label head []
with_instr_is lines label head instr has = ap (λ found. option_map_or (λ (h : Head). Behind lines label h []) found Stuck) (instr_read (version_of lines) head instr has)

plain_run : (lines : List TextLine) (s : Statement) (section next : Section) → section_of lines ≡ Some section → behind_head s.head section ≡ Some next → IsStatement (version_of lines) s
    → run_from step (Start lines) (statement_words s ++ words.Line ∷ []) ≡ with_line lines None (Some s)
plain_run lines s section next order opens fits = by (starts_line s.head section next opens)
  where
    rest : List Word
    rest = map operand_word s.operands ++ words.Line ∷ []

    here : {found : Option Head} → keyword_among head_word (heads_at (Some section)) (head_word s.head) ≡ found → at_start lines (head_word s.head) ≡ option_map_or (λ (head : Head). Behind lines None head []) found (if has_sizes (section_of lines) then AfterName lines (head_word s.head) else Stuck)
    here is = ap (λ found. option_map_or (λ (head : Head). Behind lines None head []) found (if has_sizes (section_of lines) then AfterName lines (head_word s.head) else Stuck)) (ap (λ o. keyword_among head_word (heads_at o) (head_word s.head)) order ∙ is)

    by : StartsLine section s.head → run_from step (at_start lines (head_word s.head)) (map operand_word s.operands ++ words.Line ∷ []) ≡ with_line lines None (Some s)
    by (AsHead is) =
        ap (λ t. run_from step t (map operand_word s.operands ++ words.Line ∷ [])) (here is) ∙ ops_run lines None s.head [] s.operands fits.operands
    by (AsInstr is sizes instr) =
        ap (λ t. run_from step t (map operand_word s.operands ++ words.Line ∷ []))
        (here is ∙ ap (λ b. if b then AfterName lines (head_word s.head) else Stuck) (ap has_sizes order ∙ sizes))
        ∙ named_run lines s.head s.operands (with_instr_is lines None s.head instr fits.head)
        ∙ ops_run lines None s.head [] s.operands fits.operands

labelled_run : (lines : List TextLine) (name : List ℕ) (s : Statement) (next : Section) → behind_head s.head sections.Code ≡ Some next → IsStatement (version_of lines) s
    → run_from step (AfterLabel lines name) (statement_words s ++ words.Line ∷ []) ≡ with_line lines (Some name) (Some s)
labelled_run lines name s next opens fits =
    ap (λ t. run_from step t (map operand_word s.operands ++ words.Line ∷ [])) (with_instr_is lines (Some name) s.head (code_instr s.head next opens) fits.head)
    ∙ ops_run lines (Some name) s.head [] s.operands fits.operands

line_parts : (lines : List TextLine) (label : Option (List ℕ)) (statement : Option Statement) (next : Section) → Fine lines → section_behind (section_of lines) (record { label = label; statement = statement }) ≡ Some next → StatementFits (version_of lines) statement
    → run_from step (Start lines) (line_words (record { label = label; statement = statement })) ≡ with_line lines label statement
line_parts lines None None next fine order fits = refl
line_parts lines None (Some s) next fine order fits =
    plain_run lines s fine.section next fine.order (ap (λ o. section_behind o (record { label = None; statement = Some s })) (sym fine.order) ∙ order) fits
line_parts lines (Some name) None next fine order fits =
    let g = gives (behind_statement None) (option_and_then (behind_label (Some name)) (section_of lines)) next order in
    ap (λ t. step t words.Line) (label_run lines name g.item g.found_is)
line_parts lines (Some name) (Some s) next fine order fits =
    let g = gives (behind_statement (Some s)) (option_and_then (behind_label (Some name)) (section_of lines)) next order in
    let code = (starts_label (section_of lines) name g.item g.found_is).code in
    ap (λ t. run_from step t (statement_words s ++ words.Line ∷ [])) (label_run lines name g.item g.found_is)
    ∙ labelled_run lines name s next (ap (λ x. behind_head s.head x) (sym code) ∙ g.is) fits

pub line_run : (lines : List TextLine) (line : TextLine) (next : Section) → Fine lines → section_behind (section_of lines) line ≡ Some next → StatementFits (version_of lines) line.statement → run_from step (Start lines) (line_words line) ≡ Start (lines ++ line ∷ [])
line_run lines line next fine order fits = line_parts lines line.label line.statement next fine order fits

-- ---- all lines

sections_kept : (front rest : List TextLine) (line : TextLine) → section_of (front ++ line ∷ rest) ≡ section_from (section_behind (section_of front) line) rest
sections_kept front rest line = section_on (Some sections.Version) front (line ∷ rest)

-- a statement of the whole text is one of the version of the lines before it
fits_before : (front rest : List TextLine) (line : TextLine) (next : Section) → Fine front → section_behind (section_of front) line ≡ Some next → AreLines (front ++ line ∷ rest) → StatementFits (version_of front) line.statement
fits_before front rest line next fine order are = by line.statement refl
  where
    whole : List TextLine
    whole = front ++ line ∷ rest

    all : (statement : Option Statement) → line.statement ≡ statement → statements_of (front ++ line ∷ rest) ≡ statements_of front ++ cons_option statement (statements_of rest)
    all statement is = filter_map-append (λ (l : TextLine). l.statement) front (line ∷ rest) ∙ ap (λ x. statements_of front ++ cons_option x (statements_of rest)) is

    last : Option Section
    last = section_from (Some next) rest

    by : (statement : Option Statement) → line.statement ≡ statement → StatementFits (version_of front) statement
    by None is = tt
    by (Some s) is = which (is_version s.head) refl
      where
        in_whole : IsStatement (version_of (front ++ line ∷ rest)) s
        in_whole = All-contains (IsStatement (version_of (front ++ line ∷ rest))) (statements_of (front ++ line ∷ rest)) s are.each
            (subst (λ ss. Contains ss s) (sym (all (Some s) is)) (Contains-append_right (statements_of front) (s ∷ statements_of rest) s (0, omega arith, refl)))

        f : Follows_head s.head (gives (behind_statement line.statement) (option_and_then (behind_label line.label) (section_of front)) next order).item next
        f = let g = gives (behind_statement line.statement) (option_and_then (behind_label line.label) (section_of front)) next order in
            follows_head s.head g.item next (ap (λ x. behind_statement x g.item) (sym is) ∙ g.is)

        sizes : has_sizes (section_from (Some next) rest) ≡ true
        sizes = ap (λ o. has_sizes (section_from o rest)) (sym order) ∙ ap has_sizes (sym (sections_kept front rest line)) ∙ are.order

        rest_none : (o : Option Section) → section_from (Some next) rest ≡ o → has_sizes o ≡ true → list_any (λ (t : Statement). is_version t.head) (statements_of rest) ≡ false
        rest_none None e h = let wrong : false ≡ true = h in absurd (cc)
        rest_none (Some o) e h = (none_later rest next o f.later e).none

        or_false : (a b c : Bool) → b ≡ false → c ≡ false → (a || (b || c)) ≡ a
        or_false true b c e g = refl
        or_false false true c e g = let wrong : true ≡ false = e in absurd (cc)
        or_false false false c e g = g

        which : (b : Bool) → is_version s.head ≡ b → IsStatement (version_of front) s
        which true a_version = version_statement (version_of (front ++ line ∷ rest)) s a_version in_whole (version_of front)
        which false no_version =
            let same : version_of (front ++ line ∷ rest) ≡ version_of front =
            ap (λ b. if b then Two else One)
            (ap (list_any (λ (t : Statement). is_version t.head)) (all (Some s) is)
            ∙ list_any-append (λ (t : Statement). is_version t.head) (statements_of front) (s ∷ statements_of rest)
            ∙ or_false (list_any (λ (t : Statement). is_version t.head) (statements_of front)) (is_version s.head) (list_any (λ (t : Statement). is_version t.head) (statements_of rest)) no_version (rest_none (section_from (Some next) rest) refl sizes)) in
            subst (λ v. IsStatement v s) same in_whole

lines_run : (front rest : List TextLine) → AreLines (front ++ rest) → Fine front → run_from step (Start front) (text_words rest) ≡ Start (front ++ rest)
lines_run front [] are fine = ap Start (sym (append-nil front))
lines_run front (line ∷ rest) are fine = by (λ a f. lines_run (front ++ line ∷ []) rest a f) (section_behind (section_of front) line) refl
  where
    by : (AreLines ((front ++ line ∷ []) ++ rest) → Fine (front ++ line ∷ []) → run_from step (Start (front ++ line ∷ [])) (text_words rest) ≡ Start ((front ++ line ∷ []) ++ rest)) → (next : Option Section) → section_behind (section_of front) line ≡ next → run_from step (Start front) (line_words line ++ text_words rest) ≡ Start (front ++ line ∷ rest)
    by more None order =
        let wrong : has_sizes None ≡ true = ap has_sizes (sym (no_section rest)) ∙ ap (λ o. has_sizes (section_from o rest)) (sym order) ∙ ap has_sizes (sym (sections_kept front rest line)) ∙ are.order in
        let e : false ≡ true = wrong in
        absurd (cc)
    by more (Some next) order =
        let fits = fits_before front rest line next fine order are in
        run_on step (Start front) (line_words line) (text_words rest)
        ∙ ap (λ t. run_from step t (text_words rest)) (line_run front line next fine order fits)
        ∙ more (subst AreLines (sym (append_assoc front (line ∷ []) rest)) are) (fine_push front line next fine order fits)
        ∙ ap Start (append_assoc front (line ∷ []) rest)

pub lines_at : (tokens : List Word) (lines : List TextLine) → AreWordsOf tokens lines → run tokens ≡ Start lines
lines_at tokens lines h = ap run h.spelled ∙ lines_run [] lines h.lines_are fine_start

pub lines_read : (tokens : List Word) (lines : List TextLine) → AreWordsOf tokens lines → ending (run tokens) ≡ Some lines
lines_read tokens lines h = ap ending (lines_at tokens lines h) ∙ ap (λ b. if b then Some lines else None) h.lines_are.order

-- ---- each state can be ended, in range where it is so far

abbrev pub IsRanged : State → Type 0
IsRanged (Start lines) = All IsInRange (statements_of lines)
IsRanged (AfterName lines name) = All IsInRange (statements_of lines)
IsRanged (AfterLabel lines name) = All IsInRange (statements_of lines)
IsRanged (Behind lines label head os) = All IsInRange (statements_of lines) × (are_in_range (head_kinds head) os ≡ true)
IsRanged Stuck = ⊥

pub record Ends (s : State) : Type 0 where
  pub rest : List Word
  pub lines : List TextLine
  pub ends : ending (run_from step s rest) ≡ Some lines
  pub ranged : IsRanged s → All IsInRange (statements_of lines)

prepend : (s t : State) (ws : List Word) → run_from step s ws ≡ t → (IsRanged s → IsRanged t) → Ends t → Ends s
prepend s t ws is keeps e = record {
  rest = ws ++ e.rest;
  lines = e.lines;
  ends = ap ending (run_on step s ws e.rest ∙ ap (λ x. run_from step x e.rest) is) ∙ e.ends;
  ranged = λ r. e.ranged (keeps r);
}

end_code : (lines : List TextLine) → has_sizes (section_of lines) ≡ true → Ends (Start lines)
end_code lines sizes = record { rest = []; lines = lines; ends = ap (λ b. if b then Some lines else None) sizes; ranged = λ r. r }

pub ranged_push : (lines : List TextLine) (label : Option (List ℕ)) (statement : Option Statement) → All IsInRange (statements_of lines) → ((s : Statement) → statement ≡ Some s → IsInRange s) → All IsInRange (statements_of (lines ++ (record { label = label; statement = statement }) ∷ []))
ranged_push lines label None h each = subst (All IsInRange) (sym (statements_push lines (record { label = label; statement = None }) ∙ append-nil (statements_of lines))) h
ranged_push lines label (Some s) h each = subst (All IsInRange) (sym (statements_push lines (record { label = label; statement = Some s }))) (All-push IsInRange (statements_of lines) s h (each s refl))

abbrev zero_statement : Head → Statement
zero_statement head = statement_of_parts head (operands.Number 0 ∷ [])

abbrev zero_line : Head → TextLine
zero_line head = record { label = None; statement = Some (zero_statement head) }

zero_ends : (lines : List TextLine) (head : Head) (next : Section) → Fine lines → section_behind (section_of lines) (zero_line head) ≡ Some next → IsStatement (version_of lines) (zero_statement head) → IsInRange (zero_statement head) → (Fine (lines ++ zero_line head ∷ []) → section_of (lines ++ zero_line head ∷ []) ≡ Some next → Ends (Start (lines ++ zero_line head ∷ []))) → Ends (Start lines)
zero_ends lines head next fine order fits ranged more =
    prepend (Start lines) (Start (lines ++ zero_line head ∷ [])) (line_words (zero_line head)) (line_run lines (zero_line head) next fine order fits)
    (λ r. ranged_push lines None (Some (zero_statement head)) r (λ s e. subst IsInRange (some_is (zero_statement head) s e) ranged))
    (more (fine_push lines (zero_line head) next fine order fits) (section_push lines (zero_line head) ∙ order))

end_memory : (lines : List TextLine) → Fine lines → section_of lines ≡ Some sections.Memory → Ends (Start lines)
end_memory lines fine is =
    zero_ends lines heads.Memory sections.Arrays fine (ap (λ o. section_behind o (zero_line heads.Memory)) is) (record { head = refl; operands = refl }) refl
    (λ f order. end_code (lines ++ zero_line heads.Memory ∷ []) (ap has_sizes order))

end_spad : (lines : List TextLine) → Fine lines → section_behind (section_of lines) (zero_line heads.Spad) ≡ Some sections.Memory → Ends (Start lines)
end_spad lines fine order =
    zero_ends lines heads.Spad sections.Memory fine order (record { head = refl; operands = refl }) refl (λ f o. end_memory (lines ++ zero_line heads.Spad ∷ []) f o)

end_start : (lines : List TextLine) → Fine lines → Ends (Start lines)
end_start lines fine = by fine.section fine.order
  where
    by : (section : Section) → section_of lines ≡ Some section → Ends (Start lines)
    by sections.Version is = end_spad lines fine (ap (λ o. section_behind o (zero_line heads.Spad)) is)
    by sections.Spad is = end_spad lines fine (ap (λ o. section_behind o (zero_line heads.Spad)) is)
    by sections.Memory is = end_memory lines fine is
    by sections.Arrays is = end_code lines (ap has_sizes is)
    by sections.Code is = end_code lines (ap has_sizes is)

end_behind : (lines : List TextLine) (label : Option (List ℕ)) (head : Head) (os : List Operand) → IsBegun lines label head os → Ends (Behind lines label head os)
end_behind lines label head os h =
    let e = line_ending (version_of lines) (kinds_left (head_kinds head) os) (head_ends head os) in
    let s = statement_of_parts head (os ++ e.operands) in
    let line : TextLine = record { label = label; statement = Some s } in
    let suit = suit_append (version_of lines) (head_kinds head) os e.operands h.suit e.suit in
    prepend (Behind lines label head os) (Start (lines ++ line ∷ [])) (map operand_word e.operands ++ words.Line ∷ []) (ops_run lines label head os e.operands e.suit)
    (λ r. ranged_push lines label (Some s) r.0 (λ t is. subst IsInRange (some_is s t is) (range_append (head_kinds head) os e.operands r.1 e.ranges)))
    (end_start (lines ++ line ∷ []) (fine_push lines line h.opens.section h.opens.fine h.opens.order (record { head = h.opens.has; operands = suit })))

no_statement : (s : Statement) → None ≡ Some s → IsInRange s
no_statement s e = absurd (none_some s e)

end_label : (lines : List TextLine) (name : List ℕ) → Fine lines → option_and_then (behind_label (Some name)) (section_of lines) ≡ Some sections.Code → Ends (AfterLabel lines name)
end_label lines name fine order =
    let line : TextLine = record { label = Some name; statement = None } in
    prepend (AfterLabel lines name) (Start (lines ++ line ∷ [])) (words.Line ∷ []) refl (λ r. ranged_push lines (Some name) None r no_statement)
    (end_start (lines ++ line ∷ []) (fine_push lines line sections.Code fine (ap (option_and_then (behind_statement None)) order) tt))

pub end_of : (s : State) → IsRight s → Ends s
end_of (Start lines) h = end_start lines h
end_of (AfterName lines name) h =
    let m = moves (AfterName lines name) words.Colon h (λ e. absurd (cc)) in
    prepend (AfterName lines name) (AfterLabel lines name) (words.Colon ∷ []) refl (λ r. r) (end_label lines name h.fine m.right.order)
end_of (AfterLabel lines name) h = end_label lines name h.fine h.order
end_of (Behind lines label head os) h = end_behind lines label head os h
end_of Stuck h = absurd h

pub follows : Follows AreWordsOf reader
follows = record {
  complete = lines_read;
  sound = lines_said;
  can_end = λ tokens goes. let e = end_of (run tokens) (run_right tokens goes).right in (e.rest, e.lines, e.ends);
  stays = stuck_stays;
  none = refl;
}

pub begins_goes : (tokens : List Word) → BeginsLines tokens → run tokens ≢ Stuck
begins_goes tokens h = (begins_iff AreWordsOf reader follows tokens).0 h

pub goes_begins : (tokens : List Word) → run tokens ≢ Stuck → BeginsLines tokens
goes_begins tokens h = (begins_iff AreWordsOf reader follows tokens).1 h

-- ---- ranges

behind_ranged : (lines : List TextLine) (label : Option (List ℕ)) (head : Head) (os : List Operand) (word : Word) (t : State) → Outcome lines label head os word t → IsRanged t → IsRanged (Behind lines label head os)
behind_ranged lines label head os word _ (Ended is ends) r =
    let s = statement_of_parts head os in
    let pushed = subst (All IsInRange) (statements_push lines (record { label = label; statement = Some s })) r in
    (all_front IsInRange (statements_of lines) (s ∷ []) pushed, all_last IsInRange (statements_of lines) s pushed)
behind_ranged lines label head os word _ (Grown kind more o left is) r = (r.0, range_front (head_kinds head) os (o ∷ []) r.1)
behind_ranged lines label head os word _ Unfit r = absurd r

no_statement_ranged : (lines : List TextLine) (label : Option (List ℕ)) → All IsInRange (statements_of (lines ++ (record { label = label; statement = None }) ∷ [])) → All IsInRange (statements_of lines)
no_statement_ranged lines label r = subst (All IsInRange) (statements_push lines (record { label = label; statement = None }) ∙ append-nil (statements_of lines)) r

with_instr_ranged : (lines : List TextLine) (label : Option (List ℕ)) (found : Option Head) → IsRanged (option_map_or (λ (head : Head). Behind lines label head []) found Stuck) → All IsInRange (statements_of lines)
with_instr_ranged lines label None r = absurd r
with_instr_ranged lines label (Some head) r = r.0

named_ranged : (lines : List TextLine) (name : List ℕ) (word : Word) (found : Option Head) → IsRanged (at_word (option_map_or (λ (head : Head). Behind lines None head []) found Stuck) word) → All IsInRange (statements_of lines)
named_ranged lines name word None r = absurd r
named_ranged lines name word (Some head) r = (behind_ranged lines None head [] word (at_word (Behind lines None head []) word) (outcome lines None head [] word) r).0

colon_ranged : (lines : List TextLine) (label : Option (List ℕ)) (head : Head) (os : List Operand) (t : State) → ColonOutcome lines label head os t → IsRanged t → IsRanged (Behind lines label head os)
colon_ranged lines _ _ _ _ ArrayLabel r = (r, refl)
colon_ranged lines _ _ _ _ (NoLabel label head os) r = absurd r

start_ranged : (lines : List TextLine) (name : List ℕ) (found : Option Head) (b : Bool) → IsRanged (option_map_or (λ (head : Head). Behind lines None head []) found (if b then AfterName lines name else Stuck)) → All IsInRange (statements_of lines)
start_ranged lines name None true r = r
start_ranged lines name None false r = absurd r
start_ranged lines name (Some head) b r = r.0

pub ranged_back : (s : State) (word : Word) → IsRanged (step s word) → IsRanged s
ranged_back (Start lines) words.Line r = no_statement_ranged lines None r
ranged_back (Start lines) (words.Name name) r = start_ranged lines name (keyword_among head_word (heads_at (section_of lines)) name) (has_sizes (section_of lines)) r
ranged_back (AfterName lines name) words.Colon r = r
ranged_back (AfterName lines name) (words.Name bytes) r = named_ranged lines name (words.Name bytes) (instr_named (version_of lines) name) r
ranged_back (AfterName lines name) (words.Number n) r = named_ranged lines name (words.Number n) (instr_named (version_of lines) name) r
ranged_back (AfterName lines name) words.Open r = named_ranged lines name words.Open (instr_named (version_of lines) name) r
ranged_back (AfterName lines name) words.Comma r = named_ranged lines name words.Comma (instr_named (version_of lines) name) r
ranged_back (AfterName lines name) words.Close r = named_ranged lines name words.Close (instr_named (version_of lines) name) r
ranged_back (AfterName lines name) words.Line r = named_ranged lines name words.Line (instr_named (version_of lines) name) r
ranged_back (AfterLabel lines name) words.Line r = no_statement_ranged lines (Some name) r
ranged_back (AfterLabel lines name) (words.Name word) r = with_instr_ranged lines (Some name) (instr_named (version_of lines) word) r
ranged_back (Behind lines label head os) words.Colon r = colon_ranged lines label head os (at_colon lines label head os) (colon_outcome lines label head os) r
ranged_back (Behind lines label head os) (words.Name bytes) r = behind_ranged lines label head os (words.Name bytes) (at_word (Behind lines label head os) (words.Name bytes)) (outcome lines label head os (words.Name bytes)) r
ranged_back (Behind lines label head os) (words.Number n) r = behind_ranged lines label head os (words.Number n) (at_word (Behind lines label head os) (words.Number n)) (outcome lines label head os (words.Number n)) r
ranged_back (Behind lines label head os) words.Open r = behind_ranged lines label head os words.Open (at_word (Behind lines label head os) words.Open) (outcome lines label head os words.Open) r
ranged_back (Behind lines label head os) words.Comma r = behind_ranged lines label head os words.Comma (at_word (Behind lines label head os) words.Comma) (outcome lines label head os words.Comma) r
ranged_back (Behind lines label head os) words.Close r = behind_ranged lines label head os words.Close (at_word (Behind lines label head os) words.Close) (outcome lines label head os words.Close) r
ranged_back (Behind lines label head os) words.Line r = behind_ranged lines label head os words.Line (at_word (Behind lines label head os) words.Line) (outcome lines label head os words.Line) r
ranged_back s word r = absurd r

pub ranged_from : (s : State) (tokens : List Word) → IsRanged (run_from step s tokens) → IsRanged s
ranged_from s [] r = r
ranged_from s (word ∷ tokens) r = ranged_back s word (ranged_from (step s word) tokens r)

pub ranged_goes : (s : State) → IsRanged s → s ≢ Stuck
ranged_goes s r e = subst IsRanged e r

pub ranged_begins : (tokens : List Word) → IsRanged (run tokens) → BeginsInRange tokens
ranged_begins tokens r =
    let e = end_of (run tokens) (run_right tokens (ranged_goes (run tokens) r)).right in
    (e.rest, e.lines, record { words = lines_said (tokens ++ e.rest) e.lines (ap ending (run_on step (Start []) tokens e.rest) ∙ e.ends); ranges = e.ranged r })

pub begins_ranged : (tokens : List Word) → BeginsInRange tokens → IsRanged (run tokens)
begins_ranged tokens (rest, lines, are) =
    ranged_from (run tokens) rest (subst IsRanged (sym (lines_at (tokens ++ rest) lines are.words) ∙ run_on step (Start []) tokens rest) are.ranges)
