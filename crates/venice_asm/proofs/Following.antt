-- The reader follows the grammar.
use Rattle.std.proofs.Common.{◌≡◌, ◌≢◌, ℕ, Bool, true, false, List, [], ◌∷◌, ◌++◌, Option, Some, None, refl, sym, ap, subst, ◌∙◌, append_assoc}
use Rattle.std.specs.Prelude.{if◌then◌else◌}
use Rattle.std.specs.List.{list_all}
use Rattle.std.specs.Option.{option_map_or, option_and_then}
use Rattle.std.specs.Str.{bytes_eq}
use Rattle.std.proofs.lemmas.List.{append-nil, map_push}
use Rattle.venice_isa.specs.declared.instr.Version.{Version}
use Rattle.venice_asm.specs.declared.head.Head.{Head}
use Rattle.venice_asm.specs.declared.head.Head.TheVariants as heads
use Rattle.venice_asm.specs.declared.head.Kind.{Kind}
use Rattle.venice_asm.specs.declared.operand.Operand.{Operand}
use Rattle.venice_asm.specs.declared.operand.Operand.TheVariants as operands
use Rattle.venice_asm.specs.declared.phase.Section.{Section}
use Rattle.venice_asm.specs.declared.phase.Section.TheVariants as sections
use Rattle.venice_asm.specs.declared.word.Word.{Word}
use Rattle.venice_asm.specs.declared.word.Word.TheVariants as words
use Rattle.venice_asm.specs.Fitting.{operand_as}
use Rattle.venice_asm.specs.Lines.{Statement, TextLine, label_words, statement_words, optional_words, text_words, is_instr, head_kinds, is_optional, behind_label, behind_head, behind_statement, section_of, has_sizes, version_of, has_head}
use Rattle.venice_asm.specs.Reading.{instructions, in_version, instr_named, heads_at, State, Start, AfterName, AfterLabel, Behind, Stuck, with_line, kinds_left, at_start, with_instr, at_kinds, at_word, at_colon, step, suit_so_far}
use Rattle.venice_asm.specs.Spelling.{head_word, operand_word, keyword_among}
use Rattle.venice_asm.proofs.Lining.{words_push, section_behind, Fine, fine_push, StatementFits, gives}
use Rattle.venice_asm.proofs.Operands.{operand_said, keyword_said}
use Rattle.venice_asm.proofs.Registers.{none_some, some_is}
use Rattle.venice_asm.proofs.Suiting.{suit_push, suit_end}
use Rattle.venice_asm.proofs.Written.{next_instr}

-- ---- a word behind a line's first word

-- a `:` is no operand's word
pub no_colon : (o : Operand) → operand_word o ≢ words.Colon
no_colon (operands.Name bytes) e = absurd (cc)
no_colon (operands.Number n) e = absurd (cc)
no_colon (operands.Output b) e = absurd (cc)
no_colon operands.Open e = absurd (cc)
no_colon (operands.Rows n) e = absurd (cc)
no_colon operands.Comma e = absurd (cc)
no_colon (operands.Columns n) e = absurd (cc)
no_colon operands.Close e = absurd (cc)
no_colon (operands.Register n) e = absurd (cc)
no_colon (operands.Parameter n) e = absurd (cc)
no_colon (operands.Write b) e = absurd (cc)
no_colon (operands.Operation op) e = absurd (cc)
no_colon (operands.Elem elem) e = absurd (cc)
no_colon (operands.ModeA a) e = absurd (cc)
no_colon (operands.ModeAB a b) e = absurd (cc)
no_colon operands.Sum e = absurd (cc)

-- another word than `:`
pub behind_step : (lines : List TextLine) (label : Option (List ℕ)) (head : Head) (os : List Operand) (word : Word) → word ≢ words.Colon → step (Behind lines label head os) word ≡ at_word (Behind lines label head os) word
behind_step lines label head os words.Colon other = absurd (other refl)
behind_step lines label head os (words.Name bytes) other = refl
behind_step lines label head os (words.Number n) other = refl
behind_step lines label head os words.Open other = refl
behind_step lines label head os words.Comma other = refl
behind_step lines label head os words.Close other = refl
behind_step lines label head os words.Line other = refl

-- a `:` makes the word of arrays a label, or can't go on
pub data ColonOutcome (lines : List TextLine) : Option (List ℕ) → Head → List Operand → State → Type 0 where
  ArrayLabel : ColonOutcome lines None heads.Array [] (AfterLabel lines (head_word heads.Array))
  NoLabel : (label : Option (List ℕ)) (head : Head) (os : List Operand) → ColonOutcome lines label head os Stuck

pub colon_outcome : (lines : List TextLine) (label : Option (List ℕ)) (head : Head) (os : List Operand) → ColonOutcome lines label head os (at_colon lines label head os)
colon_outcome lines None heads.Array [] = ArrayLabel
colon_outcome lines label head os = NoLabel label head os

-- what a word leads to, where these kinds may follow
abbrev taken : List Kind → List TextLine → Option (List ℕ) → Head → List Operand → Word → State
taken [] lines label head os word = Stuck
taken (kind ∷ rest) lines label head os word = option_map_or (λ (o : Operand). Behind lines label head (os ++ o ∷ [])) (operand_as (version_of lines) kind word) Stuck

taken_is : (rest : List Kind) (lines : List TextLine) (label : Option (List ℕ)) (head : Head) (os : List Operand) (word : Word) → word ≢ words.Line → at_kinds rest lines label head os word ≡ taken rest lines label head os word
taken_is [] lines label head os (words.Name bytes) other = refl
taken_is (kind ∷ rest) lines label head os (words.Name bytes) other = refl
taken_is [] lines label head os (words.Number n) other = refl
taken_is (kind ∷ rest) lines label head os (words.Number n) other = refl
taken_is [] lines label head os words.Colon other = refl
taken_is (kind ∷ rest) lines label head os words.Colon other = refl
taken_is [] lines label head os words.Open other = refl
taken_is (kind ∷ rest) lines label head os words.Open other = refl
taken_is [] lines label head os words.Comma other = refl
taken_is (kind ∷ rest) lines label head os words.Comma other = refl
taken_is [] lines label head os words.Close other = refl
taken_is (kind ∷ rest) lines label head os words.Close other = refl
taken_is rest lines label head os words.Line other = absurd (other refl)

-- the line ends, has one operand more, or can't go on
pub data Outcome (lines : List TextLine) (label : Option (List ℕ)) (head : Head) (os : List Operand) (word : Word) : State → Type 0 where
  Ended : word ≡ words.Line → list_all is_optional (kinds_left (head_kinds head) os) ≡ true
      → Outcome lines label head os word (with_line lines label (Some (record { head = head; operands = os })))
  Grown : (kind : Kind) (more : List Kind) (o : Operand) → kinds_left (head_kinds head) os ≡ kind ∷ more
      → operand_as (version_of lines) kind word ≡ Some o → Outcome lines label head os word (Behind lines label head (os ++ o ∷ []))
  Unfit : Outcome lines label head os word Stuck

line_outcome : (lines : List TextLine) (label : Option (List ℕ)) (head : Head) (os : List Operand) → Outcome lines label head os words.Line (step (Behind lines label head os) words.Line)
line_outcome lines label head os = by (list_all is_optional (kinds_left (head_kinds head) os)) refl
  where
    by : (b : Bool) → list_all is_optional (kinds_left (head_kinds head) os) ≡ b → Outcome lines label head os words.Line (if b then with_line lines label (Some (record { head = head; operands = os })) else Stuck)
    by true is = Ended refl is
    by false is = Unfit

word_outcome : (lines : List TextLine) (label : Option (List ℕ)) (head : Head) (os : List Operand) (word : Word) → word ≢ words.Line → Outcome lines label head os word (at_kinds (kinds_left (head_kinds head) os) lines label head os word)
word_outcome lines label head os word other =
    subst (Outcome lines label head os word) (sym (taken_is (kinds_left (head_kinds head) os) lines label head os word other)) (by (kinds_left (head_kinds head) os) refl)
  where
    found : (kind : Kind) (more : List Kind) (o : Option Operand) → kinds_left (head_kinds head) os ≡ kind ∷ more → operand_as (version_of lines) kind word ≡ o → Outcome lines label head os word (option_map_or (λ (x : Operand). Behind lines label head (os ++ x ∷ [])) o Stuck)
    found kind more None left is = Unfit
    found kind more (Some x) left is = Grown kind more x left is

    by : (rest : List Kind) → kinds_left (head_kinds head) os ≡ rest → Outcome lines label head os word (taken rest lines label head os word)
    by [] left = Unfit
    by (kind ∷ more) left = found kind more (operand_as (version_of lines) kind word) left refl

pub outcome : (lines : List TextLine) (label : Option (List ℕ)) (head : Head) (os : List Operand) (word : Word) → Outcome lines label head os word (at_word (Behind lines label head os) word)
outcome lines label head os words.Line = line_outcome lines label head os
outcome lines label head os (words.Name bytes) = word_outcome lines label head os (words.Name bytes) (λ e. absurd (cc))
outcome lines label head os (words.Number n) = word_outcome lines label head os (words.Number n) (λ e. absurd (cc))
outcome lines label head os words.Colon = word_outcome lines label head os words.Colon (λ e. absurd (cc))
outcome lines label head os words.Open = word_outcome lines label head os words.Open (λ e. absurd (cc))
outcome lines label head os words.Comma = word_outcome lines label head os words.Comma (λ e. absurd (cc))
outcome lines label head os words.Close = word_outcome lines label head os words.Close (λ e. absurd (cc))

pub operand_at : (lines : List TextLine) (label : Option (List ℕ)) (head : Head) (os : List Operand) (kind : Kind) (more : List Kind) (word : Word) (o : Operand) → kinds_left (head_kinds head) os ≡ kind ∷ more → operand_as (version_of lines) kind word ≡ Some o → at_word (Behind lines label head os) word ≡ Behind lines label head (os ++ o ∷ [])
operand_at lines label head os kind more words.Line o left is = absurd (none_some o is)
operand_at lines label head os kind more (words.Name bytes) o left is = ap (λ rest. at_kinds rest lines label head os (words.Name bytes)) left ∙ ap (λ (x : Option Operand). option_map_or (λ (y : Operand). Behind lines label head (os ++ y ∷ [])) x Stuck) is
operand_at lines label head os kind more (words.Number n) o left is = ap (λ rest. at_kinds rest lines label head os (words.Number n)) left ∙ ap (λ (x : Option Operand). option_map_or (λ (y : Operand). Behind lines label head (os ++ y ∷ [])) x Stuck) is
operand_at lines label head os kind more words.Colon o left is = ap (λ rest. at_kinds rest lines label head os words.Colon) left ∙ ap (λ (x : Option Operand). option_map_or (λ (y : Operand). Behind lines label head (os ++ y ∷ [])) x Stuck) is
operand_at lines label head os kind more words.Open o left is = ap (λ rest. at_kinds rest lines label head os words.Open) left ∙ ap (λ (x : Option Operand). option_map_or (λ (y : Operand). Behind lines label head (os ++ y ∷ [])) x Stuck) is
operand_at lines label head os kind more words.Comma o left is = ap (λ rest. at_kinds rest lines label head os words.Comma) left ∙ ap (λ (x : Option Operand). option_map_or (λ (y : Operand). Behind lines label head (os ++ y ∷ [])) x Stuck) is
operand_at lines label head os kind more words.Close o left is = ap (λ rest. at_kinds rest lines label head os words.Close) left ∙ ap (λ (x : Option Operand). option_map_or (λ (y : Operand). Behind lines label head (os ++ y ∷ [])) x Stuck) is

pub operand_step : (lines : List TextLine) (label : Option (List ℕ)) (head : Head) (os : List Operand) (kind : Kind) (more : List Kind) (word : Word) (o : Operand) → kinds_left (head_kinds head) os ≡ kind ∷ more → operand_as (version_of lines) kind word ≡ Some o → step (Behind lines label head os) word ≡ Behind lines label head (os ++ o ∷ [])
operand_step lines label head os kind more word o left is =
    behind_step lines label head os word (λ e. no_colon o ((operand_said (version_of lines) kind word o is).word_is ∙ e)) ∙ operand_at lines label head os kind more word o left is

-- ---- what holds in each state

-- a line may begin with this label and this word
pub record Opens (lines : List TextLine) (label : Option (List ℕ)) (head : Head) : Type 0 where
  pub fine : Fine lines
  pub section : Section
  pub order : option_and_then (behind_head head) (option_and_then (behind_label label) (section_of lines)) ≡ Some section
  pub has : has_head (version_of lines) head ≡ true

pub record IsNamed (lines : List TextLine) (name : List ℕ) : Type 0 where
  pub fine : Fine lines
  pub sizes : has_sizes (section_of lines) ≡ true
  pub no_head : keyword_among head_word (heads_at (section_of lines)) name ≡ None

pub record IsLabelled (lines : List TextLine) (name : List ℕ) : Type 0 where
  pub fine : Fine lines
  pub order : option_and_then (behind_label (Some name)) (section_of lines) ≡ Some sections.Code

pub record IsBegun (lines : List TextLine) (label : Option (List ℕ)) (head : Head) (os : List Operand) : Type 0 where
  pub opens : Opens lines label head
  pub suit : suit_so_far (version_of lines) (head_kinds head) os ≡ true

abbrev pub IsRight : State → Type 0
IsRight (Start lines) = Fine lines
IsRight (AfterName lines name) = IsNamed lines name
IsRight (AfterLabel lines name) = IsLabelled lines name
IsRight (Behind lines label head os) = IsBegun lines label head os
IsRight Stuck = ⊥

-- the words that lead to a state
abbrev pub words_of : State → List Word
words_of (Start lines) = text_words lines
words_of (AfterName lines name) = text_words lines ++ words.Name name ∷ []
words_of (AfterLabel lines name) = text_words lines ++ label_words (Some name)
words_of (Behind lines label head os) = text_words lines ++ (label_words label ++ statement_words (record { head = head; operands = os }))
words_of Stuck = []

pub record Moves (before : List Word) (word : Word) (t : State) : Type 0 where
  pub right : IsRight t
  pub spelled : words_of t ≡ before ++ word ∷ []

moves_line : (before : List Word) (lines : List TextLine) (label : Option (List ℕ)) (statement : Option Statement) (next : Section) → Fine lines → section_behind (section_of lines) (record { label = label; statement = statement }) ≡ Some next → StatementFits (version_of lines) statement → before ≡ text_words lines ++ (label_words label ++ optional_words statement) → Moves before words.Line (with_line lines label statement)
moves_line before lines label statement next fine order fits is =
    let line : TextLine = record { label = label; statement = statement } in
    record {
      right = fine_push lines line next fine order fits;
      spelled =
          words_push lines line
          ∙ ap (λ rest. text_words lines ++ rest) (sym (append_assoc (label_words label) (optional_words statement) (words.Line ∷ [])))
          ∙ sym (append_assoc (text_words lines) (label_words label ++ optional_words statement) (words.Line ∷ []))
          ∙ ap (λ ts. ts ++ words.Line ∷ []) (sym is);
    }

grown_words : (lines : List TextLine) (label : Option (List ℕ)) (head : Head) (os : List Operand) (o : Operand) → words_of (Behind lines label head (os ++ o ∷ [])) ≡ words_of (Behind lines label head os) ++ operand_word o ∷ []
grown_words lines label head os o =
    ap (λ ts. text_words lines ++ (label_words label ++ words.Name (head_word head) ∷ ts)) (map_push operand_word os o)
    ∙ ap (λ ts. text_words lines ++ ts) (sym (append_assoc (label_words label) (statement_words (record { head = head; operands = os })) (operand_word o ∷ [])))
    ∙ sym (append_assoc (text_words lines) (label_words label ++ statement_words (record { head = head; operands = os })) (operand_word o ∷ []))

behind_moves : (lines : List TextLine) (label : Option (List ℕ)) (head : Head) (os : List Operand) (word : Word) (t : State) → IsBegun lines label head os → Outcome lines label head os word t → t ≢ Stuck → Moves (words_of (Behind lines label head os)) word t
behind_moves lines label head os word _ h (Ended is ends) goes =
    subst (λ w. Moves (words_of (Behind lines label head os)) w (with_line lines label (Some (record { head = head; operands = os })))) (sym is)
    (moves_line (words_of (Behind lines label head os)) lines label (Some (record { head = head; operands = os })) h.opens.section h.opens.fine h.opens.order
    (record { head = h.opens.has; operands = suit_end (version_of lines) (head_kinds head) os h.suit ends }) refl)
behind_moves lines label head os word _ h (Grown kind more o left is) goes =
    let said = operand_said (version_of lines) kind word o is in
    record {
      right = record { opens = h.opens; suit = suit_push (version_of lines) (head_kinds head) os kind more o h.suit left said.suits_it };
      spelled = grown_words lines label head os o ∙ ap (λ w. words_of (Behind lines label head os) ++ w ∷ []) said.word_is;
    }
behind_moves lines label head os word _ h Unfit goes = absurd (goes refl)

-- ---- the words that begin lines

abbrev pub Each : {A : Type 0} → (A → Type 0) → List A → Type 0
Each P [] = Unit {0}
Each P (x ∷ xs) = P x × Each P xs

pub keyword_each : {A : Type 0} (P : A → Type 0) (spelling : A → List ℕ) (items : List A) (bytes : List ℕ) (item : A) → Each P items → keyword_among spelling items bytes ≡ Some item → P item
keyword_each P spelling [] bytes item h e = absurd (none_some item e)
keyword_each {A} P spelling (x ∷ xs) bytes item h e = by (λ f. keyword_each P spelling xs bytes item h.1 f) (bytes_eq bytes (spelling x)) e
  where
    by : (keyword_among spelling xs bytes ≡ Some item → P item) → (t : Bool) → (if t then Some x else keyword_among spelling xs bytes) ≡ Some item → P item
    by more true f = subst P (some_is x item f) h.0
    by more false f = more f

pub record HeadOpens (section : Section) (head : Head) : Type 0 where
  next : Section
  is : behind_head head section ≡ Some next
  has : (version : Version) → has_head version head ≡ true

pub head_opens : (section : Section) (name : List ℕ) (head : Head) → keyword_among head_word (heads_at (Some section)) name ≡ Some head → HeadOpens section head
head_opens sections.Version name head e = keyword_each (HeadOpens sections.Version) head_word (heads_at (Some sections.Version)) name head (record { next = sections.Spad; is = refl; has = λ v. refl }, (record { next = sections.Memory; is = refl; has = λ v. refl }, tt)) e
head_opens sections.Spad name head e = keyword_each (HeadOpens sections.Spad) head_word (heads_at (Some sections.Spad)) name head (record { next = sections.Memory; is = refl; has = λ v. refl }, tt) e
head_opens sections.Memory name head e = keyword_each (HeadOpens sections.Memory) head_word (heads_at (Some sections.Memory)) name head (record { next = sections.Arrays; is = refl; has = λ v. refl }, tt) e
head_opens sections.Arrays name head e = keyword_each (HeadOpens sections.Arrays) head_word (heads_at (Some sections.Arrays)) name head (record { next = sections.Arrays; is = refl; has = λ v. refl }, tt) e
head_opens sections.Code name head e = absurd (none_some head e)

-- the word of an instruction of the version
pub record IsInstrWord (version : Version) (name : List ℕ) (head : Head) : Type 0 where
  pub instr : is_instr head ≡ true
  pub has : has_head version head ≡ true
  pub spelled : head_word head ≡ name

are_instrs : Each (λ (head : Head). is_instr head ≡ true) instructions
are_instrs = (refl, (refl, (refl, (refl, (refl, (refl, (refl, (refl, (refl, (refl, (refl, (refl, (refl, (refl, (refl, (refl, (refl, (refl, tt))))))))))))))))))

pub instr_word : (version : Version) (name : List ℕ) (head : Head) → instr_named version name ≡ Some head → IsInstrWord version name head
instr_word version name head e =
    let g = gives (in_version version) (keyword_among head_word instructions name) head e in
    by g.item g.found_is (has_head version g.item) refl g.is
  where
    by : (item : Head) → keyword_among head_word instructions name ≡ Some item → (t : Bool) → has_head version item ≡ t → (if t then Some item else None) ≡ Some head → IsInstrWord version name head
    by item found true has f =
        let same = some_is item head f in
        record {
          instr = ap is_instr (sym same) ∙ keyword_each (λ (h : Head). is_instr h ≡ true) head_word instructions name item are_instrs found;
          has = ap (has_head version) (sym same) ∙ has;
          spelled = ap head_word (sym same) ∙ keyword_said head_word instructions name item found;
        }
    by item found false has f = absurd (none_some head f)

-- code may begin
pub data IsSized : Option Section → Type 0 where
  AtArrays : IsSized (Some sections.Arrays)
  AtCode : IsSized (Some sections.Code)

pub sized : (section : Option Section) → has_sizes section ≡ true → IsSized section
sized None h = let e : false ≡ true = h in absurd (cc)
sized (Some sections.Version) h = let e : false ≡ true = h in absurd (cc)
sized (Some sections.Spad) h = let e : false ≡ true = h in absurd (cc)
sized (Some sections.Memory) h = let e : false ≡ true = h in absurd (cc)
sized (Some sections.Arrays) h = AtArrays
sized (Some sections.Code) h = AtCode

pub instr_next : (section : Option Section) (head : Head) → IsSized section → is_instr head ≡ true → option_and_then (behind_head head) section ≡ Some sections.Code
instr_next _ head AtArrays is = (next_instr head is).0
instr_next _ head AtCode is = (next_instr head is).1

pub label_next : (section : Option Section) (name : List ℕ) → IsSized section → keyword_among head_word (heads_at section) name ≡ None → option_and_then (behind_label (Some name)) section ≡ Some sections.Code
label_next _ name AtArrays none = refl
label_next _ name AtCode none = refl

pub no_label : (section : Option Section) → option_and_then (behind_label None) section ≡ section
no_label None = refl
no_label (Some section) = refl

arrays_opened : (section : Option Section) (next : Section) → option_and_then (behind_head heads.Array) section ≡ Some next → section ≡ Some sections.Arrays
arrays_opened None next e = absurd (none_some next e)
arrays_opened (Some sections.Version) next e = absurd (none_some next e)
arrays_opened (Some sections.Spad) next e = absurd (none_some next e)
arrays_opened (Some sections.Memory) next e = absurd (none_some next e)
arrays_opened (Some sections.Arrays) next e = refl
arrays_opened (Some sections.Code) next e = absurd (none_some next e)

-- the word of arrays has begun a line: it may be a label too
pub array_section : (lines : List TextLine) (os : List Operand) → IsBegun lines None heads.Array os → section_of lines ≡ Some sections.Arrays
array_section lines os h = sym (no_label (section_of lines)) ∙ arrays_opened (option_and_then (behind_label None) (section_of lines)) h.opens.section h.opens.order

pub array_labelled : (lines : List TextLine) (os : List Operand) → IsBegun lines None heads.Array os → IsLabelled lines (head_word heads.Array)
array_labelled lines os h = record { fine = h.opens.fine; order = ap (option_and_then (behind_label (Some (head_word heads.Array)))) (array_section lines os h) }

labels_code : (section : Option Section) (name : List ℕ) → option_and_then (behind_label (Some name)) section ≡ Some sections.Arrays → ⊥
labels_code None name e = absurd (none_some sections.Arrays e)
labels_code (Some sections.Version) name e = absurd (none_some sections.Arrays e)
labels_code (Some sections.Spad) name e = absurd (none_some sections.Arrays e)
labels_code (Some sections.Memory) name e = absurd (none_some sections.Arrays e)
labels_code (Some sections.Arrays) name e = let same : sections.Code ≡ sections.Arrays = some_is sections.Code sections.Arrays e in cc
labels_code (Some sections.Code) name e = let same : sections.Code ≡ sections.Arrays = some_is sections.Code sections.Arrays e in cc

-- but behind a label it begins nothing
pub no_labelled_array : (lines : List TextLine) (name : List ℕ) (os : List Operand) → IsBegun lines (Some name) heads.Array os → ⊥
no_labelled_array lines name os h = labels_code (section_of lines) name (arrays_opened (option_and_then (behind_label (Some name)) (section_of lines)) h.opens.section h.opens.order)

pub instr_opens : (lines : List TextLine) (name : List ℕ) (head : Head) → IsNamed lines name → IsInstrWord (version_of lines) name head → Opens lines None head
instr_opens lines name head h w = record {
  fine = h.fine;
  section = sections.Code;
  order = ap (option_and_then (behind_head head)) (no_label (section_of lines)) ∙ instr_next (section_of lines) head (sized (section_of lines) h.sizes) w.instr;
  has = w.has;
}

labelled_opens : (lines : List TextLine) (label name : List ℕ) (head : Head) → IsLabelled lines label → IsInstrWord (version_of lines) name head → Opens lines (Some label) head
labelled_opens lines label name head h w = record {
  fine = h.fine;
  section = sections.Code;
  order = ap (option_and_then (behind_head head)) h.order ∙ (next_instr head w.instr).1;
  has = w.has;
}

-- ---- each step

start_name : (lines : List TextLine) (name : List ℕ) → Fine lines → at_start lines name ≢ Stuck → Moves (text_words lines) (words.Name name) (at_start lines name)
start_name lines name fine goes = by (keyword_among head_word (heads_at (section_of lines)) name) refl goes
  where
    after : (b : Bool) → has_sizes (section_of lines) ≡ b → keyword_among head_word (heads_at (section_of lines)) name ≡ None → (if b then AfterName lines name else Stuck) ≢ Stuck → Moves (text_words lines) (words.Name name) (if b then AfterName lines name else Stuck)
    after true is none g = record { right = record { fine = fine; sizes = is; no_head = none }; spelled = refl }
    after false is none g = absurd (g refl)

    by : (found : Option Head) → keyword_among head_word (heads_at (section_of lines)) name ≡ found → option_map_or (λ (head : Head). Behind lines None head []) found (if has_sizes (section_of lines) then AfterName lines name else Stuck) ≢ Stuck → Moves (text_words lines) (words.Name name) (option_map_or (λ (head : Head). Behind lines None head []) found (if has_sizes (section_of lines) then AfterName lines name else Stuck))
    by None is g = after (has_sizes (section_of lines)) refl is g
    by (Some head) is g =
        let opens = head_opens fine.section name head (ap (λ o. keyword_among head_word (heads_at o) name) (sym fine.order) ∙ is) in
        record {
          right = record {
            opens = record {
              fine = fine;
              section = opens.next;
              order = ap (λ o. option_and_then (behind_head head) (option_and_then (behind_label None) o)) fine.order ∙ opens.is;
              has = opens.has (version_of lines);
            };
            suit = refl;
          };
          spelled = ap (λ w. text_words lines ++ words.Name w ∷ []) (keyword_said head_word (heads_at (section_of lines)) name head is);
        }

start_moves : (lines : List TextLine) (word : Word) → Fine lines → step (Start lines) word ≢ Stuck → Moves (text_words lines) word (step (Start lines) word)
start_moves lines words.Line fine goes =
    moves_line (text_words lines) lines None None fine.section fine (ap (λ o. section_behind o (record { label = None; statement = None })) fine.order) tt (sym (append-nil (text_words lines)))
start_moves lines (words.Name name) fine goes = start_name lines name fine goes
start_moves lines word fine goes = absurd (goes refl)

-- behind a name that is an instruction's word
named_word : (lines : List TextLine) (name : List ℕ) (word : Word) → IsNamed lines name → at_word (with_instr lines None name) word ≢ Stuck → Moves (text_words lines ++ words.Name name ∷ []) word (at_word (with_instr lines None name) word)
named_word lines name word h goes = by (instr_named (version_of lines) name) refl goes
  where
    by : (found : Option Head) → instr_named (version_of lines) name ≡ found → at_word (option_map_or (λ (head : Head). Behind lines None head []) found Stuck) word ≢ Stuck → Moves (text_words lines ++ words.Name name ∷ []) word (at_word (option_map_or (λ (head : Head). Behind lines None head []) found Stuck) word)
    by None is g = absurd (g refl)
    by (Some head) is g =
        let w = instr_word (version_of lines) name head is in
        subst (λ n. Moves (text_words lines ++ words.Name n ∷ []) word (at_word (Behind lines None head []) word)) w.spelled
        (behind_moves lines None head [] word (at_word (Behind lines None head []) word) (record { opens = instr_opens lines name head h w; suit = refl }) (outcome lines None head [] word) g)

named_moves : (lines : List TextLine) (name : List ℕ) (word : Word) → IsNamed lines name → step (AfterName lines name) word ≢ Stuck → Moves (text_words lines ++ words.Name name ∷ []) word (step (AfterName lines name) word)
named_moves lines name words.Colon h goes = record {
  right = record { fine = h.fine; order = label_next (section_of lines) name (sized (section_of lines) h.sizes) h.no_head };
  spelled = sym (append_assoc (text_words lines) (words.Name name ∷ []) (words.Colon ∷ []));
}
named_moves lines name (words.Name bytes) h goes = named_word lines name (words.Name bytes) h goes
named_moves lines name (words.Number n) h goes = named_word lines name (words.Number n) h goes
named_moves lines name words.Open h goes = named_word lines name words.Open h goes
named_moves lines name words.Comma h goes = named_word lines name words.Comma h goes
named_moves lines name words.Close h goes = named_word lines name words.Close h goes
named_moves lines name words.Line h goes = named_word lines name words.Line h goes

labelled_word : (lines : List TextLine) (label name : List ℕ) → IsLabelled lines label → with_instr lines (Some label) name ≢ Stuck → Moves (text_words lines ++ label_words (Some label)) (words.Name name) (with_instr lines (Some label) name)
labelled_word lines label name h goes = by (instr_named (version_of lines) name) refl goes
  where
    by : (found : Option Head) → instr_named (version_of lines) name ≡ found → option_map_or (λ (head : Head). Behind lines (Some label) head []) found Stuck ≢ Stuck → Moves (text_words lines ++ label_words (Some label)) (words.Name name) (option_map_or (λ (head : Head). Behind lines (Some label) head []) found Stuck)
    by None is g = absurd (g refl)
    by (Some head) is g =
        let w = instr_word (version_of lines) name head is in
        record {
          right = record { opens = labelled_opens lines label name head h w; suit = refl };
          spelled = ap (λ n. text_words lines ++ (label_words (Some label) ++ words.Name n ∷ [])) w.spelled ∙ sym (append_assoc (text_words lines) (label_words (Some label)) (words.Name name ∷ []));
        }

labelled_moves : (lines : List TextLine) (label : List ℕ) (word : Word) → IsLabelled lines label → step (AfterLabel lines label) word ≢ Stuck → Moves (text_words lines ++ label_words (Some label)) word (step (AfterLabel lines label) word)
labelled_moves lines label words.Line h goes =
    moves_line (text_words lines ++ label_words (Some label)) lines (Some label) None sections.Code h.fine (ap (option_and_then (behind_statement None)) h.order) tt
    (ap (λ ts. text_words lines ++ ts) (sym (append-nil (label_words (Some label)))))
labelled_moves lines label (words.Name name) h goes = labelled_word lines label name h goes
labelled_moves lines label word h goes = absurd (goes refl)

colon_moves : (lines : List TextLine) (label : Option (List ℕ)) (head : Head) (os : List Operand) (t : State) → IsBegun lines label head os → ColonOutcome lines label head os t → t ≢ Stuck → Moves (words_of (Behind lines label head os)) words.Colon t
colon_moves lines _ _ _ _ h ArrayLabel goes = record {
  right = array_labelled lines [] h;
  spelled = sym (append_assoc (text_words lines) (words.Name (head_word heads.Array) ∷ []) (words.Colon ∷ []));
}
colon_moves lines _ _ _ _ h (NoLabel label head os) goes = absurd (goes refl)

pub moves : (s : State) (word : Word) → IsRight s → step s word ≢ Stuck → Moves (words_of s) word (step s word)
moves (Start lines) word h goes = start_moves lines word h goes
moves (AfterName lines name) word h goes = named_moves lines name word h goes
moves (AfterLabel lines label) word h goes = labelled_moves lines label word h goes
moves (Behind lines label head os) words.Colon h goes = colon_moves lines label head os (at_colon lines label head os) h (colon_outcome lines label head os) goes
moves (Behind lines label head os) (words.Name bytes) h goes = behind_moves lines label head os (words.Name bytes) (at_word (Behind lines label head os) (words.Name bytes)) h (outcome lines label head os (words.Name bytes)) goes
moves (Behind lines label head os) (words.Number n) h goes = behind_moves lines label head os (words.Number n) (at_word (Behind lines label head os) (words.Number n)) h (outcome lines label head os (words.Number n)) goes
moves (Behind lines label head os) words.Open h goes = behind_moves lines label head os words.Open (at_word (Behind lines label head os) words.Open) h (outcome lines label head os words.Open) goes
moves (Behind lines label head os) words.Comma h goes = behind_moves lines label head os words.Comma (at_word (Behind lines label head os) words.Comma) h (outcome lines label head os words.Comma) goes
moves (Behind lines label head os) words.Close h goes = behind_moves lines label head os words.Close (at_word (Behind lines label head os) words.Close) h (outcome lines label head os words.Close) goes
moves (Behind lines label head os) words.Line h goes = behind_moves lines label head os words.Line (at_word (Behind lines label head os) words.Line) h (outcome lines label head os words.Line) goes
moves Stuck word h goes = absurd h
