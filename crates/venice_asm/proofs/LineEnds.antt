-- The end of a line with a first word.
use Rattle.std.proofs.Common.{◌≡◌, ◌≢◌, ◌⊎◌, inl, inr, ℕ, ◌+◌, ◌<◌, ◌≤◌, min, Bool, true, false, ◌||◌, List, [], ◌∷◌, ◌++◌, length, map, take, Option, Some, None, refl, sym, ap, subst, ◌∙◌, arith, length-append}
use Rattle.std.specs.Prelude.{slice_get, if◌then◌else◌, MatchOption}
use Rattle.std.specs.List.{list_any, cons_option}
use Rattle.std.specs.Option.{option_and_then}
use Rattle.std.proofs.lemmas.Bool.{cases_lt}
use Rattle.std.proofs.lemmas.List.{append-nil, take-append-le}
use Rattle.venice_isa.specs.Limits.{instruction_limit}
use Rattle.image_loader.specs.Table.{RawEntry, array_limit}
use Rattle.venice_isa.specs.declared.instr.Version.{Version}
use Rattle.venice_isa.specs.declared.instr.Version.TheVariants.{One, Two}
use Rattle.venice_asm.specs.declared.head.Head.{Head}
use Rattle.venice_asm.specs.declared.head.Head.TheVariants as heads
use Rattle.venice_asm.specs.declared.operand.Operand.{Operand}
use Rattle.venice_asm.specs.declared.operand.Operand.TheVariants as operands
use Rattle.venice_asm.specs.declared.phase.Section.{Section}
use Rattle.venice_asm.specs.declared.phase.Section.TheVariants as sections
use Rattle.venice_asm.specs.declared.reading.Reading.{Reading}
use Rattle.venice_asm.specs.Lines.{Statement, TextLine, is_instr, head_kinds, behind_label, section_of, statements_of, version_of, are_in_range, IsInRange}
use Rattle.venice_asm.specs.Parts.{raw_array}
use Rattle.venice_asm.specs.Steps.{Keeps, AreInstrs, AreReferences, IsNumberOf, IsPlaceBehind, words_to, AreOperands}
use Rattle.venice_asm.proofs.Following.{no_label}
use Rattle.venice_asm.proofs.Keeping.{keeps_push, number_kept, instrs_kept, references_kept}
use Rattle.venice_asm.proofs.Lining.{statements_push, section_push, same_version}
use Rattle.venice_asm.proofs.Registers.{none_some, some_is}
use Rattle.std.proofs.lemmas.List.{take_all, map_push}
use Rattle.std.proofs.lemmas.List.Folds.{list_any-append}
use Rattle.venice_asm.specs.declared.head.Kind.TheVariants as kinds
use Rattle.venice_asm.specs.declared.phase.ArrayLine.{ArrayLine}
use Rattle.venice_asm.specs.declared.phase.Reference.{Reference}
use Rattle.venice_asm.specs.Lines.{all_suit, is_version, behind_head, suits}
use Rattle.venice_asm.specs.Meaning.{array_of, entries_of}
use Rattle.venice_asm.specs.Moves.{HasSameCode, AddsInstr, AddsOne, EndsHead}
use Rattle.venice_asm.specs.Parts.{IsInstrOf, as_target, jump_target, number_in, target_operand}
use Rattle.venice_asm.proofs.Following.{Opens}
use Rattle.venice_asm.proofs.Instrs.{one, numbers, two, three}
use Rattle.venice_asm.proofs.Keeping.{entries_kept, entries_push, number_new, rank, head_rank, is_array, is_jump}
use Rattle.venice_asm.proofs.References.{instrs_grow, references_grow}
use Rattle.venice_asm.proofs.Sentences.{starts_label}

-- ---- what a line has

-- the section behind a first word
abbrev next_of : Head → Section
next_of heads.Version = sections.Spad
next_of heads.Spad = sections.Memory
next_of heads.Memory = sections.Arrays
next_of heads.Array = sections.Arrays
next_of head = sections.Code

instr_next_of : (head : Head) → is_instr head ≡ true → next_of head ≡ sections.Code
instr_next_of heads.Version e = let w : false ≡ true = e in absurd (cc)
instr_next_of heads.Spad e = let w : false ≡ true = e in absurd (cc)
instr_next_of heads.Memory e = let w : false ≡ true = e in absurd (cc)
instr_next_of heads.Array e = let w : false ≡ true = e in absurd (cc)
instr_next_of heads.Halt e = refl
instr_next_of heads.Li e = refl
instr_next_of heads.Addi e = refl
instr_next_of heads.Add e = refl
instr_next_of heads.Sub e = refl
instr_next_of heads.Mul e = refl
instr_next_of heads.Div e = refl
instr_next_of heads.Bnz e = refl
instr_next_of heads.Blt e = refl
instr_next_of heads.Jmp e = refl
instr_next_of heads.Set e = refl
instr_next_of heads.Vec e = refl
instr_next_of heads.Dma e = refl
instr_next_of heads.Rwait e = refl
instr_next_of heads.Wwait e = refl
instr_next_of heads.Vwait e = refl
instr_next_of heads.Tag e = refl
instr_next_of heads.Twait e = refl

by_instr : (head : Head) (next : Section) (b : Bool) → is_instr head ≡ b → (if b then Some sections.Code else None) ≡ Some next → next ≡ next_of head
by_instr head next true is e = sym (some_is sections.Code next e) ∙ sym (instr_next_of head is)
by_instr head next false is e = absurd (none_some next e)

next_is : (head : Head) (section next : Section) → behind_head head section ≡ Some next → next ≡ next_of head
next_is heads.Version sections.Version next e = sym (some_is sections.Spad next e)
next_is heads.Spad sections.Version next e = sym (some_is sections.Memory next e)
next_is heads.Spad sections.Spad next e = sym (some_is sections.Memory next e)
next_is heads.Memory sections.Memory next e = sym (some_is sections.Arrays next e)
next_is heads.Array sections.Arrays next e = sym (some_is sections.Arrays next e)
next_is head sections.Arrays next e = by_instr head next (is_instr head) refl e
next_is head sections.Code next e = by_instr head next (is_instr head) refl e
next_is head section next e = absurd (none_some next e)

-- all that is known at a line's end
pub record IsWholeLine (text : List ℕ) (lines : List TextLine) (label : Option (List ℕ)) (head : Head) (list : List Operand) (last_at : ℕ) (old : Reading) : Type 0 where
  pub opens : Opens lines label head
  pub suit : all_suit (version_of lines) (head_kinds head) list ≡ true
  pub operands : AreOperands text lines label head list last_at
  pub keeps : Keeps text lines label old
  pub room : is_instr head ≡ true → length old.instrs.items < instruction_limit

abbrev pub line_with : Option (List ℕ) → Head → List Operand → TextLine
line_with label head list = record { label = label; statement = Some (record { head = head; operands = list }) }

section_now : (text : List ℕ) (lines : List TextLine) (label : Option (List ℕ)) (head : Head) (list : List Operand) (last_at : ℕ) (old : Reading) → IsWholeLine text lines label head list last_at old → section_of (lines ++ line_with label head list ∷ []) ≡ Some (next_of head)
section_now text lines label head list last_at old w =
    section_push lines (line_with label head list) ∙ w.opens.order
    ∙ ap (λ s. Some s) (next_is head old.section w.opens.section (ap (option_and_then (behind_head head)) (sym w.keeps.section) ∙ w.opens.order))

-- a size stands behind no label
no_label_here : (lines : List TextLine) (label : Option (List ℕ)) (head : Head) (section next : Section) → behind_head head sections.Code ≡ None → option_and_then (behind_label label) (section_of lines) ≡ Some section → behind_head head section ≡ Some next → section_of lines ≡ Some section
no_label_here lines None head section next none here opens = sym (no_label (section_of lines)) ∙ here
no_label_here lines (Some name) head section next none here opens =
    let code = (starts_label (section_of lines) name section here).code in
    absurd (none_some next (sym none ∙ ap (behind_head head) (sym code) ∙ opens))

ranges_of : (head : Head) (list : List Operand) → are_in_range (head_kinds head) list ≡ true → (s : Statement) → Some (record { head = head; operands = list }) ≡ Some s → IsInRange s
ranges_of head list h s e = subst IsInRange (some_is (record { head = head; operands = list }) s e) h

plain_version : (text : List ℕ) (lines : List TextLine) (label : Option (List ℕ)) (head : Head) (list : List Operand) (old new : Reading) → is_version head ≡ false → Keeps text lines label old → new.version ≡ old.version → new.version ≡ version_of (lines ++ line_with label head list ∷ [])
plain_version text lines label head list old new other h same = same ∙ h.version ∙ sym (same_version lines (line_with label head list) (ap (λ b. b || false) other))

instrs_stay : (lines : List TextLine) (label : Option (List ℕ)) (head : Head) (list : List Operand) (old new : Reading) → is_instr head ≡ false → AreInstrs lines old.instrs.items → new.instrs.items ≡ old.instrs.items → AreInstrs (lines ++ line_with label head list ∷ []) new.instrs.items
instrs_stay lines label head list old new other h same =
    let kept = instrs_kept lines label (Some (record { head = head; operands = list })) (λ s e. ap (λ (x : Statement). is_instr x.head) (sym (some_is (record { head = head; operands = list }) s e)) ∙ other) in
    subst (AreInstrs (lines ++ line_with label head list ∷ [])) (sym same) (record {
      count = h.count ∙ ap length (sym kept);
      each = λ k s instr there here. h.each k s instr (ap (λ is. slice_get is k) (sym kept) ∙ there) here;
    })

references_stay : (text : List ℕ) (lines : List TextLine) (label : Option (List ℕ)) (head : Head) (list : List Operand) (old new : Reading) → is_jump head ≡ false → AreReferences text lines old.references.items → new.references.items ≡ old.references.items → AreReferences text (lines ++ line_with label head list ∷ []) new.references.items
references_stay text lines label head list old new other h same =
    subst (AreReferences text (lines ++ line_with label head list ∷ [])) (sym same)
    (references_kept text lines label (Some (record { head = head; operands = list })) old.references.items (λ s e. ap (λ (x : Statement). is_jump x.head) (sym (some_is (record { head = head; operands = list }) s e)) ∙ other) h)

number_stays : (lines : List TextLine) (label : Option (List ℕ)) (own head : Head) (list : List Operand) (before now : ℕ) → own ≢ head → IsNumberOf lines head before → now ≡ before → IsNumberOf (lines ++ line_with label own list ∷ []) head now
number_stays lines label own head list before now other h same n there =
    same ∙ number_kept lines label (Some (record { head = own; operands = list })) head before (λ s e f. other (ap (λ (x : Statement). x.head) (some_is (record { head = own; operands = list }) s e) ∙ f)) h n there

arrays_stay : (text : List ℕ) (lines : List TextLine) (label : Option (List ℕ)) (head : Head) (list : List Operand) (old : Reading) (items : List ArrayLine) → is_array head ≡ false → Keeps text lines label old → items ≡ old.arrays.items → map raw_array items ≡ take array_limit (entries_of (lines ++ line_with label head list ∷ []))
arrays_stay text lines label head list old items other h same = ap (map raw_array) same ∙ h.arrays ∙ ap (take array_limit) (sym (entries_kept lines label (record { head = head; operands = list }) other))

count_stays : (text : List ℕ) (lines : List TextLine) (label : Option (List ℕ)) (head : Head) (list : List Operand) (old : Reading) (count : ℕ) → is_array head ≡ false → Keeps text lines label old → count ≡ old.array_count → count ≡ min (length (entries_of (lines ++ line_with label head list ∷ []))) (array_limit + 1)
count_stays text lines label head list old count other h same = same ∙ h.array_count ∙ ap (λ es. min (length es) (array_limit + 1)) (sym (entries_kept lines label (record { head = head; operands = list }) other))

-- ---- the head's lines

version_ends : (text : List ℕ) (lines : List TextLine) (label : Option (List ℕ)) (list : List Operand) (last_at : ℕ) (old new : Reading) → IsWholeLine text lines label heads.Version list last_at old → EndsHead heads.Version last_at old new → Keeps text (lines ++ line_with label heads.Version list ∷ []) None new
version_ends text lines label list last_at old new w (version, labels, instrs, references, from, table, section) =
    let h = w.keeps in
    let two : version_of (lines ++ line_with label heads.Version list ∷ []) ≡ Two =
    ap (λ b. if b then Two else One) (ap (list_any (λ (s : Statement). is_version s.head)) (statements_push lines (line_with label heads.Version list)) ∙ list_any-append (λ (s : Statement). is_version s.head) (statements_of lines) (record { head = heads.Version; operands = list } ∷ []) ∙ or_true (list_any (λ (s : Statement). is_version s.head) (statements_of lines))) in
    keeps_push text lines label (Some (record { head = heads.Version; operands = list })) old new h (ranges_of heads.Version list w.operands.ranges)
    (version ∙ sym two)
    (section_now text lines label heads.Version list last_at old w ∙ ap (λ s. Some s) (sym section))
    (number_stays lines label heads.Version heads.Spad list old.spad new.spad (λ e. absurd (cc)) h.spad table.spad)
    (number_stays lines label heads.Version heads.Memory list old.memory new.memory (λ e. absurd (cc)) h.memory table.memory)
    (arrays_stay text lines label heads.Version list old new.arrays.items refl h table.arrays)
    (count_stays text lines label heads.Version list old new.array_count refl h table.array_count)
    labels
    (instrs_stay lines label heads.Version list old new refl h.instrs instrs)
    (subst (λ is. length is ≤ instruction_limit) (sym instrs) h.few)
    (references_stay text lines label heads.Version list old new refl h.references references)
  where
    or_true : (b : Bool) → (b || true) ≡ true
    or_true true = refl
    or_true false = refl

only_number : (version : Version) (list : List Operand) → all_suit version (kinds.Number ∷ []) list ≡ true → list ≡ operands.Number (number_in list 0) ∷ []
only_number version list h =
    let s = one version kinds.Number list refl (λ e. absurd (cc)) h in
    let here = numbers version s.x s.suit in
    s.is ∙ ap (λ x. x ∷ []) here ∙ ap (λ l. operands.Number (number_in l 0) ∷ []) (sym s.is)

new_size : (lines : List TextLine) (label : Option (List ℕ)) (head : Head) (list : List Operand) (section : Section) (now : ℕ) → list ≡ operands.Number (number_in list 0) ∷ [] → section_of lines ≡ Some section → rank section < head_rank head → now ≡ number_in list 0 → IsNumberOf (lines ++ line_with label head list ∷ []) head now
new_size lines label head list section now only here low same =
    subst (λ l. IsNumberOf (lines ++ line_with label head l ∷ []) head now) (sym only) (subst (IsNumberOf (lines ++ line_with label head (operands.Number (number_in list 0) ∷ []) ∷ []) head) (sym same) (number_new lines label head (number_in list 0) section here low))

spad_low : (section next : Section) → behind_head heads.Spad section ≡ Some next → rank section < 2
spad_low sections.Version next e = omega arith
spad_low sections.Spad next e = omega arith
spad_low section next e = absurd (none_some next e)

memory_low : (section next : Section) → behind_head heads.Memory section ≡ Some next → rank section < 3
memory_low sections.Memory next e = omega arith
memory_low section next e = absurd (none_some next e)

opens_here : (text : List ℕ) (lines : List TextLine) (label : Option (List ℕ)) (head : Head) (list : List Operand) (last_at : ℕ) (old : Reading) (w : IsWholeLine text lines label head list last_at old) → behind_head head old.section ≡ Some w.opens.section
opens_here text lines label head list last_at old w = ap (option_and_then (behind_head head)) (sym w.keeps.section) ∙ w.opens.order

spad_ends : (text : List ℕ) (lines : List TextLine) (label : Option (List ℕ)) (list : List Operand) (last_at : ℕ) (old new : Reading) → IsWholeLine text lines label heads.Spad list last_at old → old.operands.items ≡ list → EndsHead heads.Spad last_at old new → Keeps text (lines ++ line_with label heads.Spad list ∷ []) None new
spad_ends text lines label list last_at old new w os (code, section, spad, memory, arrays, count) =
    let h = w.keeps in
    let opens = opens_here text lines label heads.Spad list last_at old w in
    keeps_push text lines label (Some (record { head = heads.Spad; operands = list })) old new h (ranges_of heads.Spad list w.operands.ranges)
    (plain_version text lines label heads.Spad list old new refl h code.version)
    (section_now text lines label heads.Spad list last_at old w ∙ ap (λ s. Some s) (sym section))
    (new_size lines label heads.Spad list old.section new.spad (only_number (version_of lines) list w.suit) (no_label_here lines label heads.Spad old.section w.opens.section refl h.section opens) (spad_low old.section w.opens.section opens) (spad ∙ ap (λ l. number_in l 0) os))
    (number_stays lines label heads.Spad heads.Memory list old.memory new.memory (λ e. absurd (cc)) h.memory memory)
    (arrays_stay text lines label heads.Spad list old new.arrays.items refl h arrays)
    (count_stays text lines label heads.Spad list old new.array_count refl h count)
    code.labels
    (instrs_stay lines label heads.Spad list old new refl h.instrs code.instrs)
    (subst (λ is. length is ≤ instruction_limit) (sym code.instrs) h.few)
    (references_stay text lines label heads.Spad list old new refl h.references code.references)

memory_ends : (text : List ℕ) (lines : List TextLine) (label : Option (List ℕ)) (list : List Operand) (last_at : ℕ) (old new : Reading) → IsWholeLine text lines label heads.Memory list last_at old → old.operands.items ≡ list → EndsHead heads.Memory last_at old new → Keeps text (lines ++ line_with label heads.Memory list ∷ []) None new
memory_ends text lines label list last_at old new w os (code, section, memory, spad, arrays, count) =
    let h = w.keeps in
    let opens = opens_here text lines label heads.Memory list last_at old w in
    keeps_push text lines label (Some (record { head = heads.Memory; operands = list })) old new h (ranges_of heads.Memory list w.operands.ranges)
    (plain_version text lines label heads.Memory list old new refl h code.version)
    (section_now text lines label heads.Memory list last_at old w ∙ ap (λ s. Some s) (sym section))
    (number_stays lines label heads.Memory heads.Spad list old.spad new.spad (λ e. absurd (cc)) h.spad spad)
    (new_size lines label heads.Memory list old.section new.memory (only_number (version_of lines) list w.suit) (no_label_here lines label heads.Memory old.section w.opens.section refl h.section opens) (memory_low old.section w.opens.section opens) (memory ∙ ap (λ l. number_in l 0) os))
    (arrays_stay text lines label heads.Memory list old new.arrays.items refl h arrays)
    (count_stays text lines label heads.Memory list old new.array_count refl h count)
    code.labels
    (instrs_stay lines label heads.Memory list old new refl h.instrs code.instrs)
    (subst (λ is. length is ≤ instruction_limit) (sym code.instrs) h.few)
    (references_stay text lines label heads.Memory list old new refl h.references code.references)

-- ---- arrays

take_more : {X : Type 0} (n : ℕ) (xs : List X) (x : X) → length xs < n → take n (xs ++ x ∷ []) ≡ take n xs ++ x ∷ []
take_more n xs x lt =
    let count = length-append xs (x ∷ []) in
    take_all n (xs ++ x ∷ []) (omega arith) ∙ ap (λ ys. ys ++ x ∷ []) (sym (take_all n xs (omega arith)))

small_min : (n : ℕ) → min n 257 < 256 → n < 256
small_min n lt = by (cases_lt n 256)
  where
    by : (n < 256) ⊎ (256 ≤ n) → n < 256
    by (inl less) = less
    by (inr more) = omega arith

large_min : (n : ℕ) → 256 ≤ min n 257 → 256 ≤ n
large_min n le = omega arith

next_min : (n : ℕ) → min (min n 257 + 1) 257 ≡ min (n + 1) 257
next_min n = omega arith

array_ends : (text : List ℕ) (lines : List TextLine) (label : Option (List ℕ)) (list : List Operand) (last_at : ℕ) (old new : Reading) → IsWholeLine text lines label heads.Array list last_at old → old.operands.items ≡ list → EndsHead heads.Array last_at old new → Keeps text (lines ++ line_with label heads.Array list ∷ []) None new
array_ends text lines label list last_at old new w os adds = by (array_of heads.Array list) refl (subst (λ l. MatchOption (array_of heads.Array l) (new ≡ old) (λ (raw : RawEntry). (array : ArrayLine) × (raw_array array ≡ raw) × AddsOne array old new)) os adds)
  where
    own : Statement
    own = record { head = heads.Array; operands = list }

    push : HasSameCode old new → new.section ≡ old.section → new.spad ≡ old.spad → new.memory ≡ old.memory → map raw_array new.arrays.items ≡ take array_limit (entries_of (lines ++ line_with label heads.Array list ∷ [])) → new.array_count ≡ min (length (entries_of (lines ++ line_with label heads.Array list ∷ []))) (array_limit + 1) → Keeps text (lines ++ line_with label heads.Array list ∷ []) None new
    push code section spad memory arrays count =
        let h = w.keeps in
        keeps_push text lines label (Some (record { head = heads.Array; operands = list })) old new h (ranges_of heads.Array list w.operands.ranges)
        (plain_version text lines label heads.Array list old new refl h code.version)
        (section_now text lines label heads.Array list last_at old w ∙ ap (λ s. Some s) (sym (section ∙ at_arrays old.section w.opens.section (opens_here text lines label heads.Array list last_at old w))))
        (number_stays lines label heads.Array heads.Spad list old.spad new.spad (λ e. absurd (cc)) h.spad spad)
        (number_stays lines label heads.Array heads.Memory list old.memory new.memory (λ e. absurd (cc)) h.memory memory)
        arrays
        count
        code.labels
        (instrs_stay lines label heads.Array list old new refl h.instrs code.instrs)
        (subst (λ is. length is ≤ instruction_limit) (sym code.instrs) h.few)
        (references_stay text lines label heads.Array list old new refl h.references code.references)
      where
        at_arrays : (section next : Section) → behind_head heads.Array section ≡ Some next → section ≡ sections.Arrays
        at_arrays sections.Arrays next e = refl
        at_arrays section next e = absurd (none_some next e)

    entries_are : (found : Option RawEntry) → array_of heads.Array list ≡ found → entries_of (lines ++ line_with label heads.Array list ∷ []) ≡ entries_of lines ++ cons_option found []
    entries_are found is = entries_push lines label (record { head = heads.Array; operands = list }) ∙ ap (λ o. entries_of lines ++ cons_option o []) is

    by : (found : Option RawEntry) → array_of heads.Array list ≡ found → MatchOption found (new ≡ old) (λ (raw : RawEntry). (array : ArrayLine) × (raw_array array ≡ raw) × AddsOne array old new) → Keeps text (lines ++ line_with label heads.Array list ∷ []) None new
    by None is same =
        let none = entries_are None is ∙ append-nil (entries_of lines) in
        push
        (record { version = ap (λ (r : Reading). r.version) same; labels = ap (λ (r : Reading). r.labels.entries) same; instrs = ap (λ (r : Reading). r.instrs.items) same; references = ap (λ (r : Reading). r.references.items) same; from = ap (λ (r : Reading). r.from) same })
        (ap (λ (r : Reading). r.section) same) (ap (λ (r : Reading). r.spad) same) (ap (λ (r : Reading). r.memory) same)
        (ap (λ (r : Reading). map raw_array r.arrays.items) same ∙ w.keeps.arrays ∙ ap (take array_limit) (sym none))
        (ap (λ (r : Reading). r.array_count) same ∙ w.keeps.array_count ∙ ap (λ es. min (length es) (array_limit + 1)) (sym none))
    by (Some raw) is (array, says, a) =
        let more = entries_are (Some raw) is in
        let count = w.keeps.array_count in
        push a.code a.section a.spad a.memory
        (arrays_now (cases_lt old.array_count array_limit) ∙ ap (take array_limit) (sym more))
        (a.count ∙ ap (λ n. min (n + 1) (array_limit + 1)) count ∙ next_min (length (entries_of lines)) ∙ (let all = length-append (entries_of lines) (raw ∷ []) in ap (λ n. min n (array_limit + 1)) (sym all)) ∙ ap (λ es. min (length es) (array_limit + 1)) (sym more))
      where
        arrays_now : (old.array_count < array_limit) ⊎ (array_limit ≤ old.array_count) → map raw_array new.arrays.items ≡ take array_limit (entries_of lines ++ raw ∷ [])
        arrays_now (inl lt) =
            let few = small_min (length (entries_of lines)) (subst (λ n. n < array_limit) w.keeps.array_count lt) in
            ap (map raw_array) (a.added lt) ∙ map_push raw_array old.arrays.items array ∙ ap (λ es. es ++ raw_array array ∷ []) w.keeps.arrays ∙ ap (λ e. take array_limit (entries_of lines) ++ e ∷ []) says
            ∙ sym (take_more array_limit (entries_of lines) raw few)
        arrays_now (inr le) =
            let many = large_min (length (entries_of lines)) (subst (λ n. array_limit ≤ n) w.keeps.array_count le) in
            ap (map raw_array) (a.kept le) ∙ w.keeps.arrays ∙ sym (take-append-le array_limit (entries_of lines) (raw ∷ []) many)

-- ---- instructions

-- the target of a jump's line
record HasTarget (head : Head) (list : List Operand) : Type 0 where
  front : List Operand
  target : Operand
  is : list ≡ front ++ target ∷ []
  jumps : jump_target head (front ++ target ∷ []) ≡ Some target
  kind : slice_get (head_kinds head) (length front) ≡ Some kinds.Target

target_is : (version : Version) (o : Operand) → suits version kinds.Target o ≡ true → as_target o ≡ Some o
target_is version (operands.Name name) h = refl
target_is version (operands.Number n) h = refl
target_is version o h = let e : false ≡ true = h in absurd (cc)

has_target : (version : Version) (head : Head) (list : List Operand) → is_jump head ≡ true → all_suit version (head_kinds head) list ≡ true → HasTarget head list
has_target version heads.Bnz list jump h =
    let s = two version kinds.Register kinds.Target list refl (λ e. absurd (cc)) refl (λ e. absurd (cc)) h in
    record { front = s.x ∷ []; target = s.y; is = s.is; jumps = target_is version s.y s.second; kind = refl }
has_target version heads.Blt list jump h =
    let s = three version kinds.Register kinds.Register kinds.Target list refl (λ e. absurd (cc)) refl (λ e. absurd (cc)) refl (λ e. absurd (cc)) h in
    record { front = s.x ∷ s.y ∷ []; target = s.z; is = s.is; jumps = target_is version s.z s.third; kind = refl }
has_target version heads.Jmp list jump h =
    let s = one version kinds.Target list refl (λ e. absurd (cc)) h in
    record { front = []; target = s.x; is = s.is; jumps = target_is version s.x s.suit; kind = refl }
has_target version head list jump h = let e : false ≡ true = jump in absurd (cc)

no_jump_target : (head : Head) (list : List Operand) → is_jump head ≡ false → jump_target head list ≡ None
no_jump_target heads.Version list other = refl
no_jump_target heads.Spad list other = refl
no_jump_target heads.Memory list other = refl
no_jump_target heads.Array list other = refl
no_jump_target heads.Halt list other = refl
no_jump_target heads.Li list other = refl
no_jump_target heads.Addi list other = refl
no_jump_target heads.Add list other = refl
no_jump_target heads.Sub list other = refl
no_jump_target heads.Mul list other = refl
no_jump_target heads.Div list other = refl
no_jump_target heads.Bnz list other = let w : true ≡ false = other in absurd (cc)
no_jump_target heads.Blt list other = let w : true ≡ false = other in absurd (cc)
no_jump_target heads.Jmp list other = let w : true ≡ false = other in absurd (cc)
no_jump_target heads.Set list other = refl
no_jump_target heads.Vec list other = refl
no_jump_target heads.Dma list other = refl
no_jump_target heads.Rwait list other = refl
no_jump_target heads.Wwait list other = refl
no_jump_target heads.Vwait list other = refl
no_jump_target heads.Tag list other = refl
no_jump_target heads.Twait list other = refl

instr_no_version : (head : Head) → is_instr head ≡ true → is_version head ≡ false
instr_no_version heads.Version i = let w : false ≡ true = i in absurd (cc)
instr_no_version heads.Spad i = let w : false ≡ true = i in absurd (cc)
instr_no_version heads.Memory i = let w : false ≡ true = i in absurd (cc)
instr_no_version heads.Array i = let w : false ≡ true = i in absurd (cc)
instr_no_version heads.Halt i = refl
instr_no_version heads.Li i = refl
instr_no_version heads.Addi i = refl
instr_no_version heads.Add i = refl
instr_no_version heads.Sub i = refl
instr_no_version heads.Mul i = refl
instr_no_version heads.Div i = refl
instr_no_version heads.Bnz i = refl
instr_no_version heads.Blt i = refl
instr_no_version heads.Jmp i = refl
instr_no_version heads.Set i = refl
instr_no_version heads.Vec i = refl
instr_no_version heads.Dma i = refl
instr_no_version heads.Rwait i = refl
instr_no_version heads.Wwait i = refl
instr_no_version heads.Vwait i = refl
instr_no_version heads.Tag i = refl
instr_no_version heads.Twait i = refl

instr_no_array : (head : Head) → is_instr head ≡ true → is_array head ≡ false
instr_no_array heads.Version i = let w : false ≡ true = i in absurd (cc)
instr_no_array heads.Spad i = let w : false ≡ true = i in absurd (cc)
instr_no_array heads.Memory i = let w : false ≡ true = i in absurd (cc)
instr_no_array heads.Array i = let w : false ≡ true = i in absurd (cc)
instr_no_array heads.Halt i = refl
instr_no_array heads.Li i = refl
instr_no_array heads.Addi i = refl
instr_no_array heads.Add i = refl
instr_no_array heads.Sub i = refl
instr_no_array heads.Mul i = refl
instr_no_array heads.Div i = refl
instr_no_array heads.Bnz i = refl
instr_no_array heads.Blt i = refl
instr_no_array heads.Jmp i = refl
instr_no_array heads.Set i = refl
instr_no_array heads.Vec i = refl
instr_no_array heads.Dma i = refl
instr_no_array heads.Rwait i = refl
instr_no_array heads.Wwait i = refl
instr_no_array heads.Vwait i = refl
instr_no_array heads.Tag i = refl
instr_no_array heads.Twait i = refl

instr_no_spad : (head : Head) → is_instr head ≡ true → head ≢ heads.Spad
instr_no_spad heads.Version i = let w : false ≡ true = i in absurd (cc)
instr_no_spad heads.Spad i = let w : false ≡ true = i in absurd (cc)
instr_no_spad heads.Memory i = let w : false ≡ true = i in absurd (cc)
instr_no_spad heads.Array i = let w : false ≡ true = i in absurd (cc)
instr_no_spad heads.Halt i = λ e. absurd (cc)
instr_no_spad heads.Li i = λ e. absurd (cc)
instr_no_spad heads.Addi i = λ e. absurd (cc)
instr_no_spad heads.Add i = λ e. absurd (cc)
instr_no_spad heads.Sub i = λ e. absurd (cc)
instr_no_spad heads.Mul i = λ e. absurd (cc)
instr_no_spad heads.Div i = λ e. absurd (cc)
instr_no_spad heads.Bnz i = λ e. absurd (cc)
instr_no_spad heads.Blt i = λ e. absurd (cc)
instr_no_spad heads.Jmp i = λ e. absurd (cc)
instr_no_spad heads.Set i = λ e. absurd (cc)
instr_no_spad heads.Vec i = λ e. absurd (cc)
instr_no_spad heads.Dma i = λ e. absurd (cc)
instr_no_spad heads.Rwait i = λ e. absurd (cc)
instr_no_spad heads.Wwait i = λ e. absurd (cc)
instr_no_spad heads.Vwait i = λ e. absurd (cc)
instr_no_spad heads.Tag i = λ e. absurd (cc)
instr_no_spad heads.Twait i = λ e. absurd (cc)

instr_no_memory : (head : Head) → is_instr head ≡ true → head ≢ heads.Memory
instr_no_memory heads.Version i = let w : false ≡ true = i in absurd (cc)
instr_no_memory heads.Spad i = let w : false ≡ true = i in absurd (cc)
instr_no_memory heads.Memory i = let w : false ≡ true = i in absurd (cc)
instr_no_memory heads.Array i = let w : false ≡ true = i in absurd (cc)
instr_no_memory heads.Halt i = λ e. absurd (cc)
instr_no_memory heads.Li i = λ e. absurd (cc)
instr_no_memory heads.Addi i = λ e. absurd (cc)
instr_no_memory heads.Add i = λ e. absurd (cc)
instr_no_memory heads.Sub i = λ e. absurd (cc)
instr_no_memory heads.Mul i = λ e. absurd (cc)
instr_no_memory heads.Div i = λ e. absurd (cc)
instr_no_memory heads.Bnz i = λ e. absurd (cc)
instr_no_memory heads.Blt i = λ e. absurd (cc)
instr_no_memory heads.Jmp i = λ e. absurd (cc)
instr_no_memory heads.Set i = λ e. absurd (cc)
instr_no_memory heads.Vec i = λ e. absurd (cc)
instr_no_memory heads.Dma i = λ e. absurd (cc)
instr_no_memory heads.Rwait i = λ e. absurd (cc)
instr_no_memory heads.Wwait i = λ e. absurd (cc)
instr_no_memory heads.Vwait i = λ e. absurd (cc)
instr_no_memory heads.Tag i = λ e. absurd (cc)
instr_no_memory heads.Twait i = λ e. absurd (cc)

instr_ends : (text : List ℕ) (lines : List TextLine) (label : Option (List ℕ)) (head : Head) (list : List Operand) (last_at : ℕ) (old new : Reading) → is_instr head ≡ true → IsWholeLine text lines label head list last_at old → old.operands.items ≡ list → AddsInstr head last_at old new → Keeps text (lines ++ line_with label head list ∷ []) None new
instr_ends text lines label head list last_at old new instr w os a =
    let h = w.keeps in
    let own : Statement = record { head = head; operands = list } in
    let room = w.room instr in
    let grown : AreInstrs (lines ++ line_with label head list ∷ []) (old.instrs.items ++ a.instr ∷ []) = instrs_grow lines label own old.instrs.items a.instr instr (subst (λ l. IsInstrOf head l a.instr) os a.is) h.instrs in
    keeps_push text lines label (Some own) old new h (ranges_of head list w.operands.ranges)
    (plain_version text lines label head list old new (instr_no_version head instr) h a.version)
    (section_now text lines label head list last_at old w ∙ ap (λ s. Some s) (instr_next_of head instr ∙ sym a.section))
    (number_stays lines label head heads.Spad list old.spad new.spad (instr_no_spad head instr) h.spad a.table.spad)
    (number_stays lines label head heads.Memory list old.memory new.memory (instr_no_memory head instr) h.memory a.table.memory)
    (arrays_stay text lines label head list old new.arrays.items (instr_no_array head instr) h a.table.arrays)
    (count_stays text lines label head list old new.array_count (instr_no_array head instr) h a.table.array_count)
    a.labels
    (subst (AreInstrs (lines ++ line_with label head list ∷ [])) (sym a.instrs) grown)
    (subst (λ is. length is ≤ instruction_limit) (sym a.instrs) (let count = length-append old.instrs.items (a.instr ∷ []) in omega arith))
    (references_now (is_jump head) refl)
  where
    references_now : (b : Bool) → is_jump head ≡ b → AreReferences text (lines ++ line_with label head list ∷ []) new.references.items
    references_now false other =
        references_stay text lines label head list old new other w.keeps.references
        (subst (λ o. MatchOption o (new.references.items ≡ old.references.items) (λ (target : Operand). (reference : Reference) × (reference.at ≡ last_at) × (reference.instr ≡ length old.instrs.items) × (target_operand reference.target ≡ target) × (new.references.items ≡ old.references.items ++ reference ∷ []))) (no_jump_target head old.operands.items other) a.references)
    references_now true jump =
        let t = has_target (version_of lines) head list jump w.suit in
        let found : jump_target head old.operands.items ≡ Some t.target = ap (jump_target head) (os ∙ t.is) ∙ t.jumps in
        let (reference, at, number, says, all) = subst (λ o. MatchOption o (new.references.items ≡ old.references.items) (λ (target : Operand). (reference : Reference) × (reference.at ≡ last_at) × (reference.instr ≡ length old.instrs.items) × (target_operand reference.target ≡ target) × (new.references.items ≡ old.references.items ++ reference ∷ []))) found a.references in
        let place : IsPlaceBehind text (words_to lines label head t.front) reference.at = subst (IsPlaceBehind text (words_to lines label head t.front)) (sym at) (w.operands.last t.front t.target t.is) in
        subst (AreReferences text (lines ++ line_with label head list ∷ [])) (sym all)
        (subst (λ l. AreReferences text (lines ++ line_with label head l ∷ []) (old.references.items ++ reference ∷ [])) (sym t.is)
        (references_grow text lines label head t.front t.target old.references.items reference (jump_instr head jump) t.jumps t.kind place (number ∙ w.keeps.instrs.count) says w.keeps.references))
      where
        jump_instr : (hd : Head) → is_jump hd ≡ true → is_instr hd ≡ true
        jump_instr heads.Bnz e = refl
        jump_instr heads.Blt e = refl
        jump_instr heads.Jmp e = refl
        jump_instr hd e = let wrong : false ≡ true = e in absurd (cc)

pub line_ends : (text : List ℕ) (lines : List TextLine) (label : Option (List ℕ)) (head : Head) (list : List Operand) (last_at : ℕ) (old new : Reading) → IsWholeLine text lines label head list last_at old → old.operands.items ≡ list → EndsHead head last_at old new → Keeps text (lines ++ line_with label head list ∷ []) None new
line_ends text lines label heads.Version list last_at old new w os e = version_ends text lines label list last_at old new w e
line_ends text lines label heads.Spad list last_at old new w os e = spad_ends text lines label list last_at old new w os e
line_ends text lines label heads.Memory list last_at old new w os e = memory_ends text lines label list last_at old new w os e
line_ends text lines label heads.Array list last_at old new w os e = array_ends text lines label list last_at old new w os e
line_ends text lines label heads.Halt list last_at old new w os e = instr_ends text lines label heads.Halt list last_at old new refl w os e
line_ends text lines label heads.Li list last_at old new w os e = instr_ends text lines label heads.Li list last_at old new refl w os e
line_ends text lines label heads.Addi list last_at old new w os e = instr_ends text lines label heads.Addi list last_at old new refl w os e
line_ends text lines label heads.Add list last_at old new w os e = instr_ends text lines label heads.Add list last_at old new refl w os e
line_ends text lines label heads.Sub list last_at old new w os e = instr_ends text lines label heads.Sub list last_at old new refl w os e
line_ends text lines label heads.Mul list last_at old new w os e = instr_ends text lines label heads.Mul list last_at old new refl w os e
line_ends text lines label heads.Div list last_at old new w os e = instr_ends text lines label heads.Div list last_at old new refl w os e
line_ends text lines label heads.Bnz list last_at old new w os e = instr_ends text lines label heads.Bnz list last_at old new refl w os e
line_ends text lines label heads.Blt list last_at old new w os e = instr_ends text lines label heads.Blt list last_at old new refl w os e
line_ends text lines label heads.Jmp list last_at old new w os e = instr_ends text lines label heads.Jmp list last_at old new refl w os e
line_ends text lines label heads.Set list last_at old new w os e = instr_ends text lines label heads.Set list last_at old new refl w os e
line_ends text lines label heads.Vec list last_at old new w os e = instr_ends text lines label heads.Vec list last_at old new refl w os e
line_ends text lines label heads.Dma list last_at old new w os e = instr_ends text lines label heads.Dma list last_at old new refl w os e
line_ends text lines label heads.Rwait list last_at old new w os e = instr_ends text lines label heads.Rwait list last_at old new refl w os e
line_ends text lines label heads.Wwait list last_at old new w os e = instr_ends text lines label heads.Wwait list last_at old new refl w os e
line_ends text lines label heads.Vwait list last_at old new w os e = instr_ends text lines label heads.Vwait list last_at old new refl w os e
line_ends text lines label heads.Tag list last_at old new w os e = instr_ends text lines label heads.Tag list last_at old new refl w os e
line_ends text lines label heads.Twait list last_at old new w os e = instr_ends text lines label heads.Twait list last_at old new refl w os e
