-- Names at the starts of lines, and what stands behind them.
use Rattle.std.proofs.Common.{◌≡◌, ◌≢◌, ◌⊎◌, inl, inr, ℕ, ◌+◌, ◌<◌, Bool, true, false, List, [], ◌∷◌, ◌++◌, length, Option, Some, None, Result, refl, sym, ap, subst, ◌∙◌, arith, Contains}
use Rattle.std.specs.Prelude.{if◌then◌else◌}
use Rattle.std.specs.Option.{option_map_or, option_and_then}
use Rattle.ven_io.specs.declared.token.Token.{Token}
use Rattle.ven_io.specs.declared.token.TokenFault.{TokenFault}
use Rattle.ven_io.specs.Reader.{run_from}
use Rattle.ven_io.specs.Tokens.{IsBehind, TokensTo, Here, Passed, Taken}
use Rattle.ven_io.proofs.Readers.{run_on}
use Rattle.venice_isa.specs.Limits.{instruction_limit}
use Rattle.venice_asm.specs.declared.head.Head.{Head}
use Rattle.venice_asm.specs.declared.head.Head.TheVariants as heads
use Rattle.venice_asm.specs.declared.operand.Operand.{Operand}
use Rattle.venice_asm.specs.declared.operand.Operand.TheVariants as operands
use Rattle.venice_asm.specs.declared.phase.Section.{Section}
use Rattle.venice_asm.specs.declared.phase.Section.TheVariants as sections
use Rattle.venice_asm.specs.declared.word.Word.{Word}
use Rattle.venice_asm.specs.declared.word.Word.TheVariants as words
use Rattle.venice_asm.specs.Faults.{BeginsWith, seen}
use Rattle.venice_asm.specs.Lines.{Statement, TextLine, is_instr, behind_label, behind_head, behind_statement, section_from, section_of, has_sizes, version_of}
use Rattle.venice_asm.specs.Meaning.{instrs_of, labels_from, label_names}
use Rattle.venice_asm.specs.Reading.{instr_named, heads_at, State, Start, AfterName, AfterLabel, Behind, Stuck, at_start, at_colon, step, run}
use Rattle.venice_asm.specs.Spelling.{head_word, operand_word, keyword_among}
use Rattle.venice_asm.specs.Words.{language}
use Rattle.venice_asm.proofs.Ahead.{next_word}
use Rattle.venice_asm.proofs.Cleanness.{IsFew, StepTo, EmptyLine, HeadBegins, NameBegins, Labels, InstrBegins, LabelLine, LabelInstr, Goes, ArrayLabels, Sticks, step_to, outcome_few}
use Rattle.venice_asm.proofs.Following.{ColonOutcome, ArrayLabel, NoLabel, colon_outcome, instr_word, sized, IsSized, AtArrays, AtCode}
use Rattle.venice_asm.proofs.Lining.{no_section, section_behind, gives}
use Rattle.venice_asm.proofs.Operands.{keyword_said}
use Rattle.venice_asm.proofs.Registers.{none_some, some_is}
use Rattle.venice_asm.proofs.Sentences.{starts_label}

-- ---- what stands next

pub seen_one : (text : List ℕ) (next : Result Token TokenFault) (one other : Word) → seen text next ≡ Some one → seen text next ≡ Some other → one ≡ other
seen_one text next one other h g = some_is one other (sym h ∙ g)

pub seen_none : (text : List ℕ) (next : Result Token TokenFault) (word : Word) → seen text next ≡ None → seen text next ≡ Some word → ⊥
seen_none text next word h g = none_some word (sym h ∙ g)

pub name_is : (one other : List ℕ) → words.Name one ≡ words.Name other → one ≡ other
name_is one other e = cc

pub run_push : (tokens : List Word) (word : Word) → run (tokens ++ word ∷ []) ≡ step (run tokens) word
run_push tokens word = run_on step (Start []) tokens (word ∷ [])

pub run_split : (tokens front rest : List Word) (own : Word) → tokens ≡ front ++ own ∷ rest → run tokens ≡ run_from step (step (run front) own) rest
run_split tokens front rest own all = ap run all ∙ run_on step (Start []) front (own ∷ rest)

-- the first words of a text begin it
head_of : (a b : Word) (us vs : List Word) → a ∷ us ≡ b ∷ vs → a ≡ b
head_of a b us vs e = cc

tail_of : (a b : Word) (us vs : List Word) → a ∷ us ≡ b ∷ vs → us ≡ vs
tail_of a b us vs e = cc

nil_cons : (a : Word) (us : List Word) → [] ≡ a ∷ us → ⊥
nil_cons a us e = cc

prefix_in : (text : List ℕ) (from to : ℕ) (tokens xs ys : List Word) → tokens ≡ xs ++ ys → TokensTo language text from tokens to → (mid : ℕ) × TokensTo language text from xs mid
prefix_in text from to tokens [] ys is h = (from, Here from)
prefix_in text from _ _ (x ∷ xs) ys is (Here place) = absurd (nil_cons x (xs ++ ys) is)
prefix_in text from to tokens (x ∷ xs) ys is (Passed place last token more next passes h) = let wrong : false ≡ true = passes in absurd (cc)
prefix_in text from to _ (x ∷ xs) ys is (Taken place last token own more taken h) =
    let rest = prefix_in text token.end to more xs ys (tail_of own x more (xs ++ ys) is) h in
    (rest.0, subst (λ w. TokensTo language text from (w ∷ xs) rest.0) (head_of own x more (xs ++ ys) is) (Taken from rest.0 token own xs taken rest.1))

pub prefix_to : (text : List ℕ) (from to : ℕ) (xs ys : List Word) → TokensTo language text from (xs ++ ys) to → (mid : ℕ) × TokensTo language text from xs mid
prefix_to text from to xs ys h = prefix_in text from to (xs ++ ys) xs ys refl h

-- what stands behind the first words is no `:` where another word does
pub begins_same : (text : List ℕ) (tokens : List Word) (next : Result Token TokenFault) (word : Word) (rest : List Word) → IsBehind language text tokens next → BeginsWith text (tokens ++ word ∷ rest) → seen text next ≡ Some word
begins_same text tokens next word rest h b = next_word text tokens next word rest h b

-- ---- the first words of lines

head_colon : (lines : List TextLine) (name : List ℕ) (head : Head) (t : State) → keyword_among head_word (heads_at (section_of lines)) name ≡ Some head → ColonOutcome lines None head [] t → (t ≡ AfterLabel lines name) ⊎ (t ≡ Stuck)
head_colon lines name _ _ is ArrayLabel = inl (ap (λ n. AfterLabel lines n) (keyword_said head_word (heads_at (section_of lines)) name heads.Array is))
head_colon lines name _ _ is (NoLabel label head os) = inr refl

-- a name with a `:` behind it leads to a label, or can't go on
pub label_or_stuck : (lines : List TextLine) (name : List ℕ) (t : State) → StepTo (Start lines) (words.Name name) t → (step t words.Colon ≡ AfterLabel lines name) ⊎ (step t words.Colon ≡ Stuck)
label_or_stuck lines name t h = by (Start lines) (words.Name name) t h refl refl
  where
    same_lines : (a b : List TextLine) → Start a ≡ Start b → a ≡ b
    same_lines a b e = cc

    by : (s : State) (w : Word) (u : State) → StepTo s w u → s ≡ Start lines → w ≡ words.Name name → (step u words.Colon ≡ AfterLabel lines name) ⊎ (step u words.Colon ≡ Stuck)
    by _ _ _ (EmptyLine ls) e f = absurd (cc)
    by _ _ _ (HeadBegins ls n head is) e f = which (head_colon ls n head (at_colon ls None head []) is (colon_outcome ls None head []))
      where
        which : (at_colon ls None head [] ≡ AfterLabel ls n) ⊎ (at_colon ls None head [] ≡ Stuck) → (step (Behind ls None head []) words.Colon ≡ AfterLabel lines name) ⊎ (step (Behind ls None head []) words.Colon ≡ Stuck)
        which (inl there) = inl (there ∙ ap (λ l. AfterLabel l n) (same_lines ls lines e) ∙ ap (λ m. AfterLabel lines m) (name_is n name f))
        which (inr stuck) = inr stuck
    by _ _ _ (NameBegins ls n is sizes) e f = inl (ap (λ l. AfterLabel l n) (same_lines ls lines e) ∙ ap (λ m. AfterLabel lines m) (name_is n name f))
    by _ _ _ (Labels ls n) e f = absurd (cc)
    by _ _ _ (InstrBegins ls n head w2 u2 other is g) e f = absurd (cc)
    by _ _ _ (LabelLine ls n) e f = absurd (cc)
    by _ _ _ (LabelInstr ls n w2 head is) e f = absurd (cc)
    by _ _ _ (Goes ls label head os w2 u2 g) e f = absurd (cc)
    by _ _ _ (ArrayLabels ls) e f = absurd (cc)
    by _ _ _ (Sticks s2 w2) e f = inr refl

pub instr_no_head : (section : Option Section) (head : Head) → IsSized section → is_instr head ≡ true → keyword_among head_word (heads_at section) (head_word head) ≡ None
instr_no_head section heads.Version h instr = let e : false ≡ true = instr in absurd (cc)
instr_no_head section heads.Spad h instr = let e : false ≡ true = instr in absurd (cc)
instr_no_head section heads.Memory h instr = let e : false ≡ true = instr in absurd (cc)
instr_no_head section heads.Array h instr = let e : false ≡ true = instr in absurd (cc)
instr_no_head _ heads.Halt AtArrays instr = refl
instr_no_head _ heads.Halt AtCode instr = refl
instr_no_head _ heads.Li AtArrays instr = refl
instr_no_head _ heads.Li AtCode instr = refl
instr_no_head _ heads.Addi AtArrays instr = refl
instr_no_head _ heads.Addi AtCode instr = refl
instr_no_head _ heads.Add AtArrays instr = refl
instr_no_head _ heads.Add AtCode instr = refl
instr_no_head _ heads.Sub AtArrays instr = refl
instr_no_head _ heads.Sub AtCode instr = refl
instr_no_head _ heads.Mul AtArrays instr = refl
instr_no_head _ heads.Mul AtCode instr = refl
instr_no_head _ heads.Div AtArrays instr = refl
instr_no_head _ heads.Div AtCode instr = refl
instr_no_head _ heads.Bnz AtArrays instr = refl
instr_no_head _ heads.Bnz AtCode instr = refl
instr_no_head _ heads.Blt AtArrays instr = refl
instr_no_head _ heads.Blt AtCode instr = refl
instr_no_head _ heads.Jmp AtArrays instr = refl
instr_no_head _ heads.Jmp AtCode instr = refl
instr_no_head _ heads.Set AtArrays instr = refl
instr_no_head _ heads.Set AtCode instr = refl
instr_no_head _ heads.Vec AtArrays instr = refl
instr_no_head _ heads.Vec AtCode instr = refl
instr_no_head _ heads.Dma AtArrays instr = refl
instr_no_head _ heads.Dma AtCode instr = refl
instr_no_head _ heads.Rwait AtArrays instr = refl
instr_no_head _ heads.Rwait AtCode instr = refl
instr_no_head _ heads.Wwait AtArrays instr = refl
instr_no_head _ heads.Wwait AtCode instr = refl
instr_no_head _ heads.Vwait AtArrays instr = refl
instr_no_head _ heads.Vwait AtCode instr = refl
instr_no_head _ heads.Tag AtArrays instr = refl
instr_no_head _ heads.Tag AtCode instr = refl
instr_no_head _ heads.Twait AtArrays instr = refl
instr_no_head _ heads.Twait AtCode instr = refl

pub instr_starts : (lines : List TextLine) (head : Head) → has_sizes (section_of lines) ≡ true → is_instr head ≡ true → at_start lines (head_word head) ≡ AfterName lines (head_word head)
instr_starts lines head sizes instr =
    ap (λ found. option_map_or (λ (h : Head). Behind lines None h []) found (if has_sizes (section_of lines) then AfterName lines (head_word head) else Stuck)) (instr_no_head (section_of lines) head (sized (section_of lines) sizes) instr)
    ∙ ap (λ b. if b then AfterName lines (head_word head) else Stuck) sizes

-- an instruction that has begun has room
instr_room : (lines : List TextLine) (label : Option (List ℕ)) (name : List ℕ) (head : Head) (os : List Operand) → instr_named (version_of lines) name ≡ Some head → IsFew (Behind lines label head os) → length (instrs_of lines) < instruction_limit
instr_room lines label name head os is few = few.1 (instr_word (version_of lines) name head is).instr

pub named_room : (lines : List TextLine) (name : List ℕ) (word : Word) → word ≢ words.Colon → IsFew (step (AfterName lines name) word) → length (instrs_of lines) < instruction_limit
named_room lines name word other few = by (AfterName lines name) word (step (AfterName lines name) word) (step_to (AfterName lines name) word) refl other few
  where
    same_lines : (a b : List TextLine) (n m : List ℕ) → AfterName a n ≡ AfterName b m → a ≡ b
    same_lines a b n m e = cc

    by : (s : State) (w : Word) (u : State) → StepTo s w u → s ≡ AfterName lines name → w ≢ words.Colon → IsFew u → length (instrs_of lines) < instruction_limit
    by _ _ _ (EmptyLine ls) e f g = absurd (cc)
    by _ _ _ (HeadBegins ls n head is) e f g = absurd (cc)
    by _ _ _ (NameBegins ls n is sizes) e f g = absurd (cc)
    by _ _ _ (Labels ls n) e f g = absurd (f refl)
    by _ _ _ (InstrBegins ls n head w2 u2 other2 is o) e f g =
        subst (λ l. length (instrs_of l) < instruction_limit) (same_lines ls lines n name e) (instr_room ls None n head [] is (outcome_few ls None head [] w2 u2 o g))
    by _ _ _ (LabelLine ls n) e f g = absurd (cc)
    by _ _ _ (LabelInstr ls n w2 head is) e f g = absurd (cc)
    by _ _ _ (Goes ls label head os w2 u2 o) e f g = absurd (cc)
    by _ _ _ (ArrayLabels ls) e f g = absurd (cc)
    by _ _ _ (Sticks s2 w2) e f g = absurd g

pub labelled_room : (lines : List TextLine) (label name : List ℕ) → IsFew (step (AfterLabel lines label) (words.Name name)) → length (instrs_of lines) < instruction_limit
labelled_room lines label name few = by (instr_named (version_of lines) name) refl few
  where
    by : (found : Option Head) → instr_named (version_of lines) name ≡ found → IsFew (option_map_or (λ (head : Head). Behind lines (Some label) head []) found Stuck) → length (instrs_of lines) < instruction_limit
    by None is g = absurd g
    by (Some head) is g = instr_room lines (Some label) name head [] is g

-- ---- no label stands before code

code_stays : (lines : List TextLine) (next : Section) → section_from (Some sections.Code) lines ≡ Some next → next ≡ sections.Code
code_stays [] next e = sym (some_is sections.Code next e)
code_stays (line ∷ lines) next e = by (λ f. code_stays lines next f) (section_behind (Some sections.Code) line) refl e
  where
    label_code : (label : Option (List ℕ)) → behind_label label sections.Code ≡ Some sections.Code
    label_code None = refl
    label_code (Some name) = refl

    head_code : (b : Bool) (mid : Section) → (if b then Some sections.Code else None) ≡ Some mid → sections.Code ≡ mid
    head_code true mid f = some_is sections.Code mid f
    head_code false mid f = absurd (none_some mid f)

    behind_code : (head : Head) (mid : Section) → behind_head head sections.Code ≡ Some mid → sections.Code ≡ mid
    behind_code heads.Version mid f = absurd (none_some mid f)
    behind_code heads.Spad mid f = absurd (none_some mid f)
    behind_code heads.Memory mid f = absurd (none_some mid f)
    behind_code heads.Array mid f = absurd (none_some mid f)
    behind_code heads.Halt mid f = some_is sections.Code mid f
    behind_code heads.Li mid f = some_is sections.Code mid f
    behind_code heads.Addi mid f = some_is sections.Code mid f
    behind_code heads.Add mid f = some_is sections.Code mid f
    behind_code heads.Sub mid f = some_is sections.Code mid f
    behind_code heads.Mul mid f = some_is sections.Code mid f
    behind_code heads.Div mid f = some_is sections.Code mid f
    behind_code heads.Bnz mid f = some_is sections.Code mid f
    behind_code heads.Blt mid f = some_is sections.Code mid f
    behind_code heads.Jmp mid f = some_is sections.Code mid f
    behind_code heads.Set mid f = some_is sections.Code mid f
    behind_code heads.Vec mid f = some_is sections.Code mid f
    behind_code heads.Dma mid f = some_is sections.Code mid f
    behind_code heads.Rwait mid f = some_is sections.Code mid f
    behind_code heads.Wwait mid f = some_is sections.Code mid f
    behind_code heads.Vwait mid f = some_is sections.Code mid f
    behind_code heads.Tag mid f = some_is sections.Code mid f
    behind_code heads.Twait mid f = some_is sections.Code mid f

    code : (statement : Option Statement) (mid : Section) → option_and_then (behind_statement statement) (behind_label line.label sections.Code) ≡ Some mid → sections.Code ≡ mid
    code None mid f = some_is sections.Code mid (sym (ap (option_and_then (behind_statement None)) (label_code line.label)) ∙ f)
    code (Some s) mid f = behind_code s.head mid (sym (ap (option_and_then (behind_statement (Some s))) (label_code line.label)) ∙ f)

    by : (section_from (Some sections.Code) lines ≡ Some next → next ≡ sections.Code) → (mid : Option Section) → section_behind (Some sections.Code) line ≡ mid → section_from mid lines ≡ Some next → next ≡ sections.Code
    by more None is f = absurd (none_some next (sym (no_section lines) ∙ f))
    by more (Some mid) is f = more (ap (λ m. section_from (Some m) lines) (code line.statement mid is) ∙ f)

-- a label before what may still begin with a head's word
pub no_labels_before : (lines : List TextLine) (section next : Section) (count : ℕ) → next ≢ sections.Code → section_from (Some section) lines ≡ Some next → labels_from count lines ≡ []
no_labels_before [] section next count other e = refl
no_labels_before (line ∷ lines) section next count other e = by (λ mid f. no_labels_before lines mid next (count + length (instrs_of (line ∷ []))) other f) (section_behind (Some section) line) refl e
  where
    to_code : (statement : Option Statement) (mid : Section) → option_and_then (behind_statement statement) (Some sections.Code) ≡ Some mid → section_from (Some mid) lines ≡ Some next → ⊥
    to_code None mid f g = other (code_stays lines next (ap (λ m. section_from (Some m) lines) (some_is sections.Code mid f) ∙ g))
    to_code (Some s) mid f g = other (code_stays ((record { label = None; statement = Some s }) ∷ lines) next (ap (λ m. section_from m lines) f ∙ g))

    labelled : (label : Option (List ℕ)) (statement : Option Statement) (mid : Section) → option_and_then (behind_statement statement) (behind_label label section) ≡ Some mid → section_from (Some mid) lines ≡ Some next → labels_from (count + length (instrs_of (line ∷ []))) lines ≡ [] → option_map_or (λ (name : List ℕ). (name, count) ∷ []) label [] ++ labels_from (count + length (instrs_of (line ∷ []))) lines ≡ []
    labelled None statement mid f g rest = rest
    labelled (Some name) statement mid f g rest =
        let h = gives (behind_statement statement) (behind_label (Some name) section) mid f in
        let code = (starts_label (Some section) name h.item h.found_is).code in
        absurd (to_code statement mid (ap (behind_statement statement) (sym code) ∙ h.is) g)

    by : ((mid : Section) → section_from (Some mid) lines ≡ Some next → labels_from (count + length (instrs_of (line ∷ []))) lines ≡ []) → (mid : Option Section) → section_behind (Some section) line ≡ mid → section_from mid lines ≡ Some next → labels_from count (line ∷ lines) ≡ []
    by more None is f = absurd (none_some next (sym (no_section lines) ∙ f))
    by more (Some mid) is f = labelled line.label line.statement mid is f (more mid f)

pub no_name_in_nothing : (name : List ℕ) (names : List (List ℕ)) → names ≡ [] → Contains names name → ⊥
no_name_in_nothing name names e (k, lt, is) = let none : length names ≡ 0 = ap length e in absurd (omega arith)

-- ---- the fault of a name that stands alone

-- the fault of a name at the start of a line, which what stands behind it decides
pub data IsPending (text : List ℕ) (tokens : List Word) : Type 0 where
  TooManyName : (lines : List TextLine) (name : List ℕ) (head : Head) → run tokens ≡ AfterName lines name → instr_named (version_of lines) name ≡ Some head
      → length (instrs_of lines) ≡ instruction_limit → ¬ BeginsWith text (tokens ++ words.Colon ∷ []) → IsPending text tokens
  TwiceName : (lines : List TextLine) (name : List ℕ) → run tokens ≡ AfterName lines name → Contains (label_names lines) name
      → BeginsWith text (tokens ++ words.Colon ∷ []) → IsPending text tokens
