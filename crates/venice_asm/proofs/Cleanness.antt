-- What has been read without a fault stays so in each part of it.
use Rattle.std.proofs.Common.{◌≡◌, ◌≢◌, ℕ, zero, suc, ◌+◌, ◌<◌, ◌≤◌, Bool, true, false, List, [], ◌∷◌, ◌++◌, length, map, Option, Some, None, refl, sym, ap, subst, ◌∙◌, arith, append_assoc, length-append, Contains}
use Rattle.std.specs.Prelude.{slice_get, if◌then◌else◌}
use Rattle.std.specs.List.{filter, cons_option}
use Rattle.std.specs.Option.{option_map_or}
use Rattle.std.proofs.lemmas.List.{append-nil, take_at, map-append, take-append-le}
use Rattle.std.proofs.lemmas.List.Elements.{filter-append}
use Rattle.std.proofs.lemmas.Option.{slice_get_within}
use Rattle.ven_io.specs.Reader.{run_from}
use Rattle.venice_isa.specs.Limits.{instruction_limit}
use Rattle.venice_asm.specs.declared.head.Head.{Head}
use Rattle.venice_asm.specs.declared.head.Head.TheVariants as heads
use Rattle.venice_asm.specs.declared.operand.Operand.{Operand}
use Rattle.venice_asm.specs.declared.word.Word.{Word}
use Rattle.venice_asm.specs.declared.word.Word.TheVariants as words
use Rattle.venice_asm.specs.Faults.{AreApart}
use Rattle.venice_asm.specs.Lines.{Statement, TextLine, is_instr, section_of, has_sizes, statements_of, version_of}
use Rattle.venice_asm.specs.Meaning.{instrs_of, labels_from, labels_of, label_names}
use Rattle.venice_asm.specs.Reading.{instr_named, heads_at, State, Start, AfterName, AfterLabel, Behind, Stuck, with_line, at_start, with_instr, at_word, at_colon, step}
use Rattle.venice_asm.specs.Spelling.{head_word, keyword_among}
use Rattle.venice_asm.proofs.Following.{Outcome, Ended, Grown, Unfit, outcome, ColonOutcome, ArrayLabel, NoLabel, colon_outcome}
use Rattle.venice_asm.proofs.Lining.{statements_push}
use Rattle.venice_asm.proofs.Registers.{none_some}
use Rattle.venice_asm.proofs.Sentences.{IsRanged, ranged_back}

-- ---- one line more

pub instrs_push : (lines : List TextLine) (line : TextLine) → instrs_of (lines ++ line ∷ []) ≡ instrs_of lines ++ filter (λ (s : Statement). is_instr s.head) (cons_option line.statement [])
instrs_push lines line =
    ap (filter (λ (s : Statement). is_instr s.head)) (statements_push lines line)
    ∙ filter-append (λ (s : Statement). is_instr s.head) (statements_of lines) (cons_option line.statement [])

abbrev pub label_list : Option (List ℕ) → List (List ℕ)
label_list None = []
label_list (Some name) = name ∷ []

abbrev pub numbered : ℕ → Option (List ℕ) → List (List ℕ × ℕ)
numbered count label = option_map_or (λ (name : List ℕ). (name, count) ∷ []) label []

instrs_cons : (line : TextLine) (lines : List TextLine) → length (instrs_of (line ∷ lines)) ≡ length (instrs_of (line ∷ [])) + length (instrs_of lines)
instrs_cons line lines = by line.statement
  where
    by : (statement : Option Statement) → length (filter (λ (s : Statement). is_instr s.head) (cons_option statement (statements_of lines))) ≡ length (filter (λ (s : Statement). is_instr s.head) (cons_option statement [])) + length (instrs_of lines)
    by None = omega arith
    by (Some s) = which (is_instr s.head)
      where
        which : (b : Bool) → length (if b then s ∷ instrs_of lines else instrs_of lines) ≡ length (if b then s ∷ [] else []) + length (instrs_of lines)
        which true = omega arith
        which false = omega arith

pub labels_push : (count : ℕ) (lines : List TextLine) (line : TextLine) → labels_from count (lines ++ line ∷ []) ≡ labels_from count lines ++ numbered (count + length (instrs_of lines)) line.label
labels_push count [] line =
    append-nil (numbered count line.label) ∙ (let here : count ≡ count + length (instrs_of []) = omega arith in ap (λ n. numbered n line.label) here)
labels_push count (first ∷ lines) line =
    let next : ℕ = count + length (instrs_of (first ∷ [])) in
    let all : next + length (instrs_of lines) ≡ count + length (instrs_of (first ∷ lines)) = let sum = instrs_cons first lines in omega arith in
    ap (λ rest. numbered count first.label ++ rest) (labels_push next lines line ∙ ap (λ n. labels_from next lines ++ numbered n line.label) all)
    ∙ sym (append_assoc (numbered count first.label) (labels_from next lines) (numbered (count + length (instrs_of (first ∷ lines))) line.label))

pub names_push : (lines : List TextLine) (line : TextLine) → label_names (lines ++ line ∷ []) ≡ label_names lines ++ label_list line.label
names_push lines line =
    ap (map (λ (l : List ℕ × ℕ). l.0)) (labels_push 0 lines line)
    ∙ map-append (λ (l : List ℕ × ℕ). l.0) (labels_of lines) (numbered (0 + length (instrs_of lines)) line.label)
    ∙ ap (λ rest. label_names lines ++ rest) (by line.label)
  where
    by : (label : Option (List ℕ)) → map (λ (l : List ℕ × ℕ). l.0) (numbered (0 + length (instrs_of lines)) label) ≡ label_list label
    by None = refl
    by (Some name) = refl

-- ---- names that don't come again

pub slice_get_left : {X : Type 0} (xs ys : List X) (k : ℕ) (x : X) → slice_get xs k ≡ Some x → slice_get (xs ++ ys) k ≡ Some x
slice_get_left [] ys k x e = absurd (none_some x e)
slice_get_left (y ∷ xs) ys zero x e = e
slice_get_left (y ∷ xs) ys (suc k) x e = slice_get_left xs ys k x e

pub apart_front : (xs ys : List (List ℕ)) → AreApart (xs ++ ys) → AreApart xs
apart_front xs ys h = record {
  each = λ k name is there.
      let lt = slice_get_within xs k name is in
      h.each k name (slice_get_left xs ys k name is) (subst (λ zs. Contains zs name) (sym (take-append-le k xs ys (omega arith))) there);
}

slice_get_here : (xs : List (List ℕ)) (x : List ℕ) → slice_get (xs ++ x ∷ []) (length xs) ≡ Some x
slice_get_here [] x = refl
slice_get_here (y ∷ xs) x = slice_get_here xs x

pub apart_last : (xs : List (List ℕ)) (x : List ℕ) → AreApart (xs ++ x ∷ []) → ¬ Contains xs x
apart_last xs x h there = h.each (length xs) x (slice_get_here xs x) (subst (λ zs. Contains zs x) (sym (take_at xs (x ∷ []) (length xs) refl)) there)

-- ---- what a step is

pub data StepTo : State → Word → State → Type 0 where
  EmptyLine : (lines : List TextLine) → StepTo (Start lines) words.Line (with_line lines None None)
  HeadBegins : (lines : List TextLine) (name : List ℕ) (head : Head) → keyword_among head_word (heads_at (section_of lines)) name ≡ Some head
      → StepTo (Start lines) (words.Name name) (Behind lines None head [])
  NameBegins : (lines : List TextLine) (name : List ℕ) → keyword_among head_word (heads_at (section_of lines)) name ≡ None
      → has_sizes (section_of lines) ≡ true → StepTo (Start lines) (words.Name name) (AfterName lines name)
  Labels : (lines : List TextLine) (name : List ℕ) → StepTo (AfterName lines name) words.Colon (AfterLabel lines name)
  InstrBegins : (lines : List TextLine) (name : List ℕ) (head : Head) (word : Word) (t : State) → word ≢ words.Colon
      → instr_named (version_of lines) name ≡ Some head → Outcome lines None head [] word t → StepTo (AfterName lines name) word t
  LabelLine : (lines : List TextLine) (name : List ℕ) → StepTo (AfterLabel lines name) words.Line (with_line lines (Some name) None)
  LabelInstr : (lines : List TextLine) (name word : List ℕ) (head : Head) → instr_named (version_of lines) word ≡ Some head
      → StepTo (AfterLabel lines name) (words.Name word) (Behind lines (Some name) head [])
  Goes : (lines : List TextLine) (label : Option (List ℕ)) (head : Head) (os : List Operand) (word : Word) (t : State)
      → Outcome lines label head os word t → StepTo (Behind lines label head os) word t
  ArrayLabels : (lines : List TextLine) → StepTo (Behind lines None heads.Array []) words.Colon (AfterLabel lines (head_word heads.Array))
  Sticks : (s : State) (word : Word) → StepTo s word Stuck

start_to : (lines : List TextLine) (name : List ℕ) → StepTo (Start lines) (words.Name name) (at_start lines name)
start_to lines name = by (keyword_among head_word (heads_at (section_of lines)) name) refl
  where
    none : (b : Bool) → has_sizes (section_of lines) ≡ b → keyword_among head_word (heads_at (section_of lines)) name ≡ None → StepTo (Start lines) (words.Name name) (if b then AfterName lines name else Stuck)
    none true sizes is = NameBegins lines name is sizes
    none false sizes is = Sticks (Start lines) (words.Name name)

    by : (found : Option Head) → keyword_among head_word (heads_at (section_of lines)) name ≡ found → StepTo (Start lines) (words.Name name) (option_map_or (λ (head : Head). Behind lines None head []) found (if has_sizes (section_of lines) then AfterName lines name else Stuck))
    by None is = none (has_sizes (section_of lines)) refl is
    by (Some head) is = HeadBegins lines name head is

named_to : (lines : List TextLine) (name : List ℕ) (word : Word) → word ≢ words.Colon → StepTo (AfterName lines name) word (at_word (with_instr lines None name) word)
named_to lines name word other = by (instr_named (version_of lines) name) refl
  where
    by : (found : Option Head) → instr_named (version_of lines) name ≡ found → StepTo (AfterName lines name) word (at_word (option_map_or (λ (head : Head). Behind lines None head []) found Stuck) word)
    by None is = Sticks (AfterName lines name) word
    by (Some head) is = InstrBegins lines name head word (at_word (Behind lines None head []) word) other is (outcome lines None head [] word)

labelled_to : (lines : List TextLine) (name word : List ℕ) → StepTo (AfterLabel lines name) (words.Name word) (with_instr lines (Some name) word)
labelled_to lines name word = by (instr_named (version_of lines) word) refl
  where
    by : (found : Option Head) → instr_named (version_of lines) word ≡ found → StepTo (AfterLabel lines name) (words.Name word) (option_map_or (λ (head : Head). Behind lines (Some name) head []) found Stuck)
    by None is = Sticks (AfterLabel lines name) (words.Name word)
    by (Some head) is = LabelInstr lines name word head is

colon_to : (lines : List TextLine) (label : Option (List ℕ)) (head : Head) (os : List Operand) (t : State) → ColonOutcome lines label head os t → StepTo (Behind lines label head os) words.Colon t
colon_to lines _ _ _ _ ArrayLabel = ArrayLabels lines
colon_to lines _ _ _ _ (NoLabel label head os) = Sticks (Behind lines label head os) words.Colon

pub step_to : (s : State) (word : Word) → StepTo s word (step s word)
step_to (Start lines) words.Line = EmptyLine lines
step_to (Start lines) (words.Name name) = start_to lines name
step_to (AfterName lines name) words.Colon = Labels lines name
step_to (AfterName lines name) (words.Name bytes) = named_to lines name (words.Name bytes) (λ e. absurd (cc))
step_to (AfterName lines name) (words.Number n) = named_to lines name (words.Number n) (λ e. absurd (cc))
step_to (AfterName lines name) words.Open = named_to lines name words.Open (λ e. absurd (cc))
step_to (AfterName lines name) words.Comma = named_to lines name words.Comma (λ e. absurd (cc))
step_to (AfterName lines name) words.Close = named_to lines name words.Close (λ e. absurd (cc))
step_to (AfterName lines name) words.Line = named_to lines name words.Line (λ e. absurd (cc))
step_to (AfterLabel lines name) words.Line = LabelLine lines name
step_to (AfterLabel lines name) (words.Name word) = labelled_to lines name word
step_to (Behind lines label head os) words.Colon = colon_to lines label head os (at_colon lines label head os) (colon_outcome lines label head os)
step_to (Behind lines label head os) (words.Name bytes) = Goes lines label head os (words.Name bytes) (at_word (Behind lines label head os) (words.Name bytes)) (outcome lines label head os (words.Name bytes))
step_to (Behind lines label head os) (words.Number n) = Goes lines label head os (words.Number n) (at_word (Behind lines label head os) (words.Number n)) (outcome lines label head os (words.Number n))
step_to (Behind lines label head os) words.Open = Goes lines label head os words.Open (at_word (Behind lines label head os) words.Open) (outcome lines label head os words.Open)
step_to (Behind lines label head os) words.Comma = Goes lines label head os words.Comma (at_word (Behind lines label head os) words.Comma) (outcome lines label head os words.Comma)
step_to (Behind lines label head os) words.Close = Goes lines label head os words.Close (at_word (Behind lines label head os) words.Close) (outcome lines label head os words.Close)
step_to (Behind lines label head os) words.Line = Goes lines label head os words.Line (at_word (Behind lines label head os) words.Line) (outcome lines label head os words.Line)
step_to s word = Sticks s word

-- ---- few instructions

abbrev pub IsFew : State → Type 0
IsFew (Start lines) = length (instrs_of lines) ≤ instruction_limit
IsFew (AfterName lines name) = length (instrs_of lines) ≤ instruction_limit
IsFew (AfterLabel lines name) = length (instrs_of lines) ≤ instruction_limit
IsFew (Behind lines label head os) = (length (instrs_of lines) ≤ instruction_limit) × (is_instr head ≡ true → length (instrs_of lines) < instruction_limit)
IsFew Stuck = ⊥

line_few : (lines : List TextLine) (line : TextLine) → length (instrs_of (lines ++ line ∷ [])) ≤ instruction_limit → length (instrs_of lines) ≤ instruction_limit
line_few lines line h =
    let all = ap length (instrs_push lines line) in
    let sum = length-append (instrs_of lines) (filter (λ (s : Statement). is_instr s.head) (cons_option line.statement [])) in
    omega arith

pub outcome_few : (lines : List TextLine) (label : Option (List ℕ)) (head : Head) (os : List Operand) (word : Word) (t : State) → Outcome lines label head os word t → IsFew t → IsFew (Behind lines label head os)
outcome_few lines label head os word _ (Ended is ends) h =
    let s : Statement = record { head = head; operands = os } in
    let line : TextLine = record { label = label; statement = Some s } in (
      line_few lines line h,
      λ instr.
          let all : length (instrs_of (lines ++ line ∷ [])) ≡ length (instrs_of lines ++ s ∷ []) =
          ap length (instrs_push lines line ∙ ap (λ b. instrs_of lines ++ (if b then s ∷ [] else [])) instr) in
          let sum = length-append (instrs_of lines) (s ∷ []) in
          omega arith,
    )
outcome_few lines label head os word _ (Grown kind more o left is) h = h
outcome_few lines label head os word _ Unfit h = absurd h

few_back : (s : State) (word : Word) (t : State) → StepTo s word t → IsFew t → IsFew s
few_back _ _ _ (EmptyLine lines) h = line_few lines (record { label = None; statement = None }) h
few_back _ _ _ (HeadBegins lines name head is) h = h.0
few_back _ _ _ (NameBegins lines name is sizes) h = h
few_back _ _ _ (Labels lines name) h = h
few_back _ _ _ (InstrBegins lines name head word t other is o) h = (outcome_few lines None head [] word t o h).0
few_back _ _ _ (LabelLine lines name) h = line_few lines (record { label = Some name; statement = None }) h
few_back _ _ _ (LabelInstr lines name word head is) h = h.0
few_back _ _ _ (Goes lines label head os word t o) h = outcome_few lines label head os word t o h
few_back _ _ _ (ArrayLabels lines) h = (h, λ instr. let e : false ≡ true = instr in absurd (cc))
few_back _ _ _ (Sticks s word) h = absurd h

-- ---- labels apart

abbrev pub HasApart : State → Type 0
HasApart (Start lines) = AreApart (label_names lines)
HasApart (AfterName lines name) = AreApart (label_names lines)
HasApart (AfterLabel lines name) = AreApart (label_names lines ++ name ∷ [])
HasApart (Behind lines label head os) = AreApart (label_names lines ++ label_list label)
HasApart Stuck = ⊥

outcome_apart : (lines : List TextLine) (label : Option (List ℕ)) (head : Head) (os : List Operand) (word : Word) (t : State) → Outcome lines label head os word t → HasApart t → HasApart (Behind lines label head os)
outcome_apart lines label head os word _ (Ended is ends) h = subst AreApart (names_push lines (record { label = label; statement = Some (record { head = head; operands = os }) })) h
outcome_apart lines label head os word _ (Grown kind more o left is) h = h
outcome_apart lines label head os word _ Unfit h = absurd h

apart_back : (s : State) (word : Word) (t : State) → StepTo s word t → HasApart t → HasApart s
apart_back _ _ _ (EmptyLine lines) h = apart_front (label_names lines) [] (subst AreApart (names_push lines (record { label = None; statement = None })) h)
apart_back _ _ _ (HeadBegins lines name head is) h = apart_front (label_names lines) [] h
apart_back _ _ _ (NameBegins lines name is sizes) h = h
apart_back _ _ _ (Labels lines name) h = apart_front (label_names lines) (name ∷ []) h
apart_back _ _ _ (InstrBegins lines name head word t other is o) h = apart_front (label_names lines) [] (outcome_apart lines None head [] word t o h)
apart_back _ _ _ (LabelLine lines name) h = subst AreApart (names_push lines (record { label = Some name; statement = None })) h
apart_back _ _ _ (LabelInstr lines name word head is) h = h
apart_back _ _ _ (Goes lines label head os word t o) h = outcome_apart lines label head os word t o h
apart_back _ _ _ (ArrayLabels lines) h = subst AreApart (sym (append-nil (label_names lines))) (apart_front (label_names lines) (head_word heads.Array ∷ []) h)
apart_back _ _ _ (Sticks s word) h = absurd h

-- ---- no fault so far

pub record IsClean (s : State) : Type 0 where
  pub ranged : IsRanged s
  pub few : IsFew s
  pub apart : HasApart s

pub clean_back : (s : State) (word : Word) → IsClean (step s word) → IsClean s
clean_back s word h = record {
  ranged = ranged_back s word h.ranged;
  few = few_back s word (step s word) (step_to s word) h.few;
  apart = apart_back s word (step s word) (step_to s word) h.apart;
}

pub clean_from : (s : State) (tokens : List Word) → IsClean (run_from step s tokens) → IsClean s
clean_from s [] h = h
clean_from s (word ∷ tokens) h = clean_back s word (clean_from (step s word) tokens h)
