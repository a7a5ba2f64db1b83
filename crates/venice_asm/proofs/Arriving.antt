-- A step of the code is a step of the reader.
use Rattle.std.proofs.Common.{◌≡◌, ◌⊎◌, inl, inr, ℕ, zero, suc, ◌+◌, ◌<◌, ◌≤◌, min, true, false, List, [], ◌∷◌, ◌++◌, length, map, take, Option, Some, None, refl, sym, ap, subst, ◌∙◌, arith, Contains}
use Rattle.std.specs.Prelude.{slice_get, if◌then◌else◌, MatchOption}
use Rattle.std.specs.Option.{option_map_or, option_and_then}
use Rattle.std.proofs.lemmas.Bool.{cases_lt}
use Rattle.std.proofs.lemmas.List.{append-nil, map-append, same_from_push, take-append-le}
use Rattle.venice_isa.specs.Limits.{instruction_limit}
use Rattle.image_loader.specs.Table.{array_limit}
use Rattle.venice_asm.specs.declared.head.Head.{Head}
use Rattle.venice_asm.specs.declared.head.Head.TheVariants as heads
use Rattle.venice_asm.specs.declared.operand.Operand.{Operand}
use Rattle.venice_asm.specs.declared.phase.Phase.TheVariants as phases
use Rattle.venice_asm.specs.declared.phase.Section.{Section}
use Rattle.venice_asm.specs.declared.phase.Section.TheVariants as sections
use Rattle.venice_asm.specs.declared.reading.Reading.{Reading}
use Rattle.venice_asm.specs.declared.word.Word.{Word}
use Rattle.venice_asm.specs.declared.word.Word.TheVariants as words
use Rattle.venice_asm.specs.Faults.{AreApart}
use Rattle.venice_asm.specs.Lines.{TextLine, is_instr, head_kinds, behind_label, section_of, has_sizes, version_of}
use Rattle.venice_asm.specs.Meaning.{instrs_of, labels_of, number_among}
use Rattle.venice_asm.specs.Moves.{IsEntered, IsNamed, TakesFirst, TakesLabel, TakesBehindLabel, IsGrown}
use Rattle.venice_asm.specs.Reading.{instr_named, heads_at, Start, AfterName, AfterLabel, Behind, Stuck, at_start, step}
use Rattle.venice_asm.specs.Spelling.{head_word, keyword_among}
use Rattle.venice_asm.specs.Fitting.{operand_as}
use Rattle.venice_asm.specs.Parts.{raw_array}
use Rattle.venice_asm.specs.Steps.{Keeps, AreInstrs, AreReferences, with_label, IsPlaceBehind, words_to, AreOperands, IsAt, AtStart, AtName, AtOperand}
use Rattle.venice_asm.proofs.Cleanness.{label_list}
use Rattle.venice_asm.proofs.Following.{keyword_each, no_label, operand_step, words_of}
use Rattle.venice_asm.proofs.Found.{there_found}
use Rattle.venice_asm.proofs.Keeping.{keeps_kept, keeps_push, number_kept, instrs_kept, entries_empty, references_kept}
use Rattle.venice_asm.proofs.Lining.{section_push, same_version}
use Rattle.venice_asm.proofs.Registers.{none_some, some_is}
use Rattle.venice_asm.proofs.Suiting.{range_push}

-- ---- lines without a statement

-- an empty line, or one of a label alone
pub keeps_empty : (text : List ℕ) (lines : List TextLine) (label : Option (List ℕ)) (old : Reading) → Keeps text lines label old → Keeps text (lines ++ (record { label = label; statement = None }) ∷ []) None old
keeps_empty text lines label old h =
    let line : TextLine = record { label = label; statement = None } in
    keeps_push text lines label None old old h (λ s e. absurd (none_some s e))
    (h.version ∙ sym (same_version lines line refl))
    (section_push lines line ∙ ap (option_and_then (λ (s : Section). Some s)) h.section)
    (number_kept lines label None heads.Spad old.spad (λ s e. absurd (none_some s e)) h.spad)
    (number_kept lines label None heads.Memory old.memory (λ s e. absurd (none_some s e)) h.memory)
    (h.arrays ∙ ap (take array_limit) (sym (entries_empty lines label)))
    (h.array_count ∙ ap (λ es. min (length es) (array_limit + 1)) (sym (entries_empty lines label)))
    refl
    (record {
      count = h.instrs.count ∙ ap length (sym (instrs_kept lines label None (λ s e. absurd (none_some s e))));
      each = λ k s instr there here. h.instrs.each k s instr (ap (λ is. slice_get is k) (sym (instrs_kept lines label None (λ t e. absurd (none_some t e)))) ∙ there) here;
    })
    h.few
    (references_kept text lines label None old.references.items (λ s e. absurd (none_some s e)) h.references)

-- ---- labels

names_pushed : (lines : List TextLine) (name : List ℕ) → map (λ (pair : List ℕ × ℕ). pair.0) (with_label lines (Some name)) ≡ map (λ (pair : List ℕ × ℕ). pair.0) (labels_of lines) ++ name ∷ []
names_pushed lines name = map-append (λ (pair : List ℕ × ℕ). pair.0) (labels_of lines) ((name, length (instrs_of lines)) ∷ [])

pub apart_push : (xs : List (List ℕ)) (x : List ℕ) → AreApart xs → ¬ Contains xs x → AreApart (xs ++ x ∷ [])
apart_push xs x h fresh = record { each = λ k name is there. by k name is there (cases_lt k (length xs)) }
  where
    back : (ys : List (List ℕ)) (k : ℕ) → k < length ys → slice_get (ys ++ x ∷ []) k ≡ slice_get ys k
    back [] k lt = absurd (omega arith)
    back (y ∷ ys) zero lt = refl
    back (y ∷ ys) (suc k) lt = back ys k (omega arith)

    last : (ys : List (List ℕ)) (k : ℕ) (name : List ℕ) → length ys ≤ k → slice_get (ys ++ x ∷ []) k ≡ Some name → (k ≡ length ys) × (x ≡ name)
    last [] zero name le e = (refl, some_is x name e)
    last [] (suc k) name le e = absurd (none_some name e)
    last (y ∷ ys) zero name le e = absurd (omega arith)
    last (y ∷ ys) (suc k) name le e = let more = last ys k name (omega arith) e in let count = more.0 in (omega arith, more.1)

    by : (k : ℕ) (name : List ℕ) → slice_get (xs ++ x ∷ []) k ≡ Some name → Contains (take k (xs ++ x ∷ [])) name → (k < length xs) ⊎ (length xs ≤ k) → ⊥
    by k name is there (inl lt) = h.each k name (sym (back xs k lt) ∙ is) (subst (λ ys. Contains ys name) (take-append-le k xs (x ∷ []) (omega arith)) there)
    by k name is there (inr le) =
        let end = last xs k name le is in
        let count = end.0 in
        fresh (subst (Contains xs) (sym end.1) (subst (λ ys. Contains ys name) (take-append-le k xs (x ∷ []) (omega arith) ∙ whole k count) there))
      where
        whole : (k : ℕ) → k ≡ length xs → take k xs ≡ xs
        whole k e = ap (λ n. take n xs) e ∙ all xs
          where
            all : (ys : List (List ℕ)) → take (length ys) ys ≡ ys
            all [] = refl
            all (y ∷ ys) = ap (λ rest. y ∷ rest) (all ys)

pub keeps_label : (text : List ℕ) (lines : List TextLine) (name : List ℕ) (old new : Reading) → option_and_then (behind_label (Some name)) (section_of lines) ≡ Some sections.Code → Keeps text lines None old → TakesLabel name old new → Keeps text lines (Some name) new
keeps_label text lines name old new section h t =
    let same : old.labels.entries ≡ labels_of lines = h.labels ∙ append-nil (labels_of lines) in
    let names : map (λ (pair : List ℕ × ℕ). pair.0) (with_label lines None) ≡ map (λ (pair : List ℕ × ℕ). pair.0) (labels_of lines) = ap (map (λ (pair : List ℕ × ℕ). pair.0)) (append-nil (labels_of lines)) in
    let count = h.instrs.count in
    record {
      ranges = h.ranges;
      version = t.version ∙ h.version;
      section = section ∙ ap (λ s. Some s) (sym t.section);
      spad = λ n there. t.table.spad ∙ h.spad n there;
      memory = λ n there. t.table.memory ∙ h.memory n there;
      arrays = ap (map raw_array) t.table.arrays ∙ h.arrays;
      array_count = t.table.array_count ∙ h.array_count;
      labels = t.labels ∙ ap (λ ls. ls ++ (name, length old.instrs.items) ∷ []) same ∙ ap (λ n. labels_of lines ++ (name, n) ∷ []) count;
      apart = subst AreApart (sym (names_pushed lines name)) (apart_push (map (λ (pair : List ℕ × ℕ). pair.0) (labels_of lines)) name (subst AreApart names h.apart)
          (there_found (labels_of lines) name (ap (λ ls. number_among ls name) (sym same) ∙ t.fresh)));
      instrs = subst (AreInstrs lines) (sym t.instrs) h.instrs;
      few = subst (λ is. length is ≤ instruction_limit) (sym t.instrs) h.few;
      references = subst (AreReferences text lines) (sym t.references) h.references;
    }

-- ---- the start of a line

-- a word of a head begins no instruction
head_no_instr : (section : Section) (name : List ℕ) (head : Head) → keyword_among head_word (heads_at (Some section)) name ≡ Some head → is_instr head ≡ false
head_no_instr sections.Version name head e = keyword_each (λ (h : Head). is_instr h ≡ false) head_word (heads_at (Some sections.Version)) name head (refl, (refl, tt)) e
head_no_instr sections.Spad name head e = keyword_each (λ (h : Head). is_instr h ≡ false) head_word (heads_at (Some sections.Spad)) name head (refl, tt) e
head_no_instr sections.Memory name head e = keyword_each (λ (h : Head). is_instr h ≡ false) head_word (heads_at (Some sections.Memory)) name head (refl, tt) e
head_no_instr sections.Arrays name head e = keyword_each (λ (h : Head). is_instr h ≡ false) head_word (heads_at (Some sections.Arrays)) name head (refl, tt) e
head_no_instr sections.Code name head e = absurd (none_some head e)

pub push_some : (front : List Operand) (target : Operand) → [] ≡ front ++ target ∷ [] → ⊥
push_some [] target e = cc
push_some (x ∷ front) target e = cc

-- a line's first word has been read
pub entered : (text : List ℕ) (lines : List TextLine) (label : Option (List ℕ)) (head : Head) (at : ℕ) (old new : Reading) → Keeps text lines label old → (is_instr head ≡ true → length old.instrs.items < instruction_limit) → IsEntered head at old new → IsAt text new (Behind lines label head [])
entered text lines label head at old new h room e =
    subst (λ os. IsAt text new (Behind lines label head os)) e.operands
    (AtOperand lines label head at e.phase
    (subst (λ os. AreOperands text lines label head os at) (sym e.operands) (record { ranges = refl; last = λ front target is. absurd (push_some front target is) }))
    (λ instr. subst (λ is. length is < instruction_limit) (sym e.kept.code.instrs) (room instr))
    (keeps_kept text lines label old new e.kept h))

section_is : (text : List ℕ) (lines : List TextLine) (old : Reading) → Keeps text lines None old → section_of lines ≡ Some old.section
section_is text lines old h = sym (no_label (section_of lines)) ∙ h.section

pub start_arrives : (text : List ℕ) (lines : List TextLine) (old new : Reading) (word : Word) (at : ℕ) → old.phase ≡ phases.Start → Keeps text lines None old → IsPlaceBehind text (words_of (Start lines)) at → TakesFirst old word at new → IsAt text new (step (Start lines) word)
start_arrives text lines old new words.Line at phase h place t =
    subst (λ r. IsAt text r (step (Start lines) words.Line)) (sym t) (AtStart (lines ++ (record { label = None; statement = None }) ∷ []) phase (keeps_empty text lines None old h))
start_arrives text lines old new (words.Name name) at phase h place t =
    subst (IsAt text new) (sym here) (by (keyword_among head_word (heads_at (Some old.section)) name) refl t)
  where
    here : at_start lines name ≡ option_map_or (λ (head : Head). Behind lines None head []) (keyword_among head_word (heads_at (Some old.section)) name) (if has_sizes (Some old.section) then AfterName lines name else Stuck)
    here = ap (λ (o : Option Section). option_map_or (λ (head : Head). Behind lines None head []) (keyword_among head_word (heads_at o) name) (if has_sizes o then AfterName lines name else Stuck)) (section_is text lines old h)

    by : (found : Option Head) → keyword_among head_word (heads_at (Some old.section)) name ≡ found → MatchOption found (IsNamed name at old new) (λ (head : Head). IsEntered head at old new) → IsAt text new (option_map_or (λ (head : Head). Behind lines None head []) found (if has_sizes (Some old.section) then AfterName lines name else Stuck))
    by None is n = subst (λ b. IsAt text new (if b then AfterName lines name else Stuck)) (sym n.sizes) (AtName lines name at n.phase place (keeps_kept text lines None old new n.kept h))
    by (Some head) is e = entered text lines None head at old new h (λ instr. no_room head is instr) e
      where
        no_room : (hd : Head) → keyword_among head_word (heads_at (Some old.section)) name ≡ Some hd → is_instr hd ≡ true → length old.instrs.items < instruction_limit
        no_room hd found instr = let wrong : false ≡ true = sym (head_no_instr old.section name hd found) ∙ instr in absurd (cc)
start_arrives text lines old new word at phase h place t = absurd t

-- ---- behind a label

pub label_arrives : (text : List ℕ) (lines : List TextLine) (name : List ℕ) (old new : Reading) (word : Word) (at : ℕ) → Keeps text lines (Some name) old → TakesBehindLabel old word at new → IsAt text new (step (AfterLabel lines name) word)
label_arrives text lines name old new words.Line at h t = AtStart (lines ++ (record { label = Some name; statement = None }) ∷ []) t.1 (keeps_empty text lines (Some name) new (keeps_kept text lines (Some name) old new t.0 h))
label_arrives text lines name old new (words.Name word) at h (head, is, e) =
    let named : instr_named (version_of lines) word ≡ Some head = ap (λ v. instr_named v word) (sym h.version) ∙ is.named in
    subst (λ found. IsAt text new (option_map_or (λ (hd : Head). Behind lines (Some name) hd []) found Stuck)) (sym named) (entered text lines (Some name) head at old new h (λ instr. is.room) e)
label_arrives text lines name old new word at h t = absurd t

-- ---- an operand more

pub operand_arrives : (text : List ℕ) (lines : List TextLine) (label : Option (List ℕ)) (head : Head) (old new : Reading) (word : Word) (at last_at : ℕ) → AreOperands text lines label head old.operands.items last_at → (is_instr head ≡ true → length old.instrs.items < instruction_limit) → Keeps text lines label old → IsPlaceBehind text (words_of (Behind lines label head old.operands.items)) at → IsGrown head word at old new → IsAt text new (step (Behind lines label head old.operands.items) word)
operand_arrives text lines label head old new word at last_at os room h place g =
    let stepped = operand_step lines label head old.operands.items g.kind g.more word g.operand g.left (ap (λ v. operand_as v g.kind word) (sym h.version) ∙ g.is.is) in
    subst (IsAt text new) (ap (λ list. Behind lines label head list) g.operands ∙ sym stepped)
    (AtOperand lines label head at g.phase
    (subst (λ list. AreOperands text lines label head list at) (sym g.operands)
    (record {
      ranges = range_push (head_kinds head) old.operands.items g.kind g.more g.operand os.ranges g.left g.is.ranges;
      last = λ front target is. subst (λ list. IsPlaceBehind text (words_to lines label head list) at) (same_from_push old.operands.items front g.operand target is).0 place;
    }))
    (λ instr. subst (λ is. length is < instruction_limit) (sym g.kept.code.instrs) (room instr))
    (keeps_kept text lines label old new g.kept h))

pub names_with : (lines : List TextLine) (label : Option (List ℕ)) → map (λ (pair : List ℕ × ℕ). pair.0) (with_label lines label) ≡ map (λ (pair : List ℕ × ℕ). pair.0) (labels_of lines) ++ label_list label
names_with lines None = ap (map (λ (pair : List ℕ × ℕ). pair.0)) (append-nil (labels_of lines)) ∙ sym (append-nil (map (λ (pair : List ℕ × ℕ). pair.0) (labels_of lines)))
names_with lines (Some name) = names_pushed lines name
