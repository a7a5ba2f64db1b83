-- What the code keeps, one line further.
use Rattle.std.proofs.Common.{◌≡◌, ◌≢◌, ◌⊎◌, inl, inr, ℕ, zero, suc, ◌+◌, ◌<◌, ◌≤◌, min, Bool, true, false, List, [], ◌∷◌, ◌++◌, length, map, take, Option, Some, None, refl, sym, ap, subst, ◌∙◌, arith, length-append, Contains}
use Rattle.std.specs.Prelude.{slice_get, if◌then◌else◌, not}
use Rattle.std.specs.List.{list_all, filter, filter_map, cons_option}
use Rattle.std.specs.Option.{option_map_or, option_and_then}
use Rattle.std.proofs.lemmas.Bool.{and_parts, cases_lt}
use Rattle.std.proofs.lemmas.List.{append-nil, take-append-le, take_at}
use Rattle.std.proofs.lemmas.List.Elements.{All-weaker, filter_map-append, Contains-push_cases}
use Rattle.std.proofs.lemmas.Option.{slice_get_within}
use Rattle.ven_io.specs.Tokens.{IsBehind}
use Rattle.venice_isa.specs.Limits.{instruction_limit}
use Rattle.image_loader.specs.Table.{array_limit}
use Rattle.venice_asm.specs.declared.head.Head.{Head}
use Rattle.venice_asm.specs.declared.head.Head.TheVariants as heads
use Rattle.venice_asm.specs.declared.head.Kind.{Kind}
use Rattle.venice_asm.specs.declared.head.Kind.TheVariants as kinds
use Rattle.venice_asm.specs.declared.operand.Operand.{Operand}
use Rattle.venice_asm.specs.declared.operand.Operand.TheVariants as operands
use Rattle.venice_asm.specs.declared.phase.Reference.{Reference}
use Rattle.std.specs.Str.{bytes_eq}
use Rattle.venice_asm.specs.declared.phase.Section.{Section}
use Rattle.venice_asm.specs.declared.phase.Section.TheVariants as sections
use Rattle.venice_asm.specs.Spelling.{head_word}
use Rattle.venice_asm.specs.declared.reading.Reading.{Reading}
use Rattle.venice_asm.specs.Faults.{AreApart, IsTargetAt}
use Rattle.venice_asm.specs.Lines.{Statement, TextLine, label_words, statement_words, text_words, is_instr, head_kinds, behind_label, behind_head, behind_statement, section_from, section_of, statements_of, version_of, IsInRange}
use Rattle.venice_asm.specs.Meaning.{array_of, entries_of, instrs_of, labels_of}
use Rattle.venice_asm.specs.Moves.{IsKept}
use Rattle.venice_asm.specs.Parts.{jump_target, raw_array, target_operand}
use Rattle.venice_asm.specs.Steps.{IsNumberOf, AreInstrs, IsReferenceOf, AreReferences, with_label, Keeps, IsPlaceBehind}
use Rattle.venice_asm.specs.Words.{language}
use Rattle.venice_asm.proofs.Cleanness.{instrs_push, labels_push, slice_get_left}
use Rattle.venice_asm.proofs.Lining.{statements_push, no_section, section_behind, Gives, gives}
use Rattle.venice_asm.proofs.Registers.{none_some, some_is}
use Rattle.venice_asm.proofs.Sentences.{ranged_push}

-- ---- what stays

pub keeps_kept : (text : List ℕ) (lines : List TextLine) (label : Option (List ℕ)) (old new : Reading) → IsKept old new → Keeps text lines label old → Keeps text lines label new
keeps_kept text lines label old new k h = record {
  ranges = h.ranges;
  version = k.code.version ∙ h.version;
  section = h.section ∙ ap (λ s. Some s) (sym k.section);
  spad = λ n there. k.table.spad ∙ h.spad n there;
  memory = λ n there. k.table.memory ∙ h.memory n there;
  arrays = ap (map raw_array) k.table.arrays ∙ h.arrays;
  array_count = k.table.array_count ∙ h.array_count;
  labels = k.code.labels ∙ h.labels;
  apart = h.apart;
  instrs = subst (AreInstrs lines) (sym k.code.instrs) h.instrs;
  few = subst (λ is. length is ≤ instruction_limit) (sym k.code.instrs) h.few;
  references = subst (AreReferences text lines) (sym k.code.references) h.references;
}

-- ---- a line more

with_line_labels : (lines : List TextLine) (line : TextLine) → labels_of (lines ++ line ∷ []) ≡ with_label lines line.label
with_line_labels lines line = labels_push 0 lines line ∙ (let here : 0 + length (instrs_of lines) ≡ length (instrs_of lines) = omega arith in ap (λ n. labels_of lines ++ option_map_or (λ (name : List ℕ). (name, n) ∷ []) line.label []) here)

no_label_more : (lines : List TextLine) → with_label lines None ≡ labels_of lines
no_label_more lines = append-nil (labels_of lines)

pub keeps_push : (text : List ℕ) (lines : List TextLine) (label : Option (List ℕ)) (statement : Option Statement) (old new : Reading) → Keeps text lines label old → ((s : Statement) → statement ≡ Some s → IsInRange s)
    → new.version ≡ version_of (lines ++ (record { label = label; statement = statement }) ∷ [])
    → section_of (lines ++ (record { label = label; statement = statement }) ∷ []) ≡ Some new.section
    → IsNumberOf (lines ++ (record { label = label; statement = statement }) ∷ []) heads.Spad new.spad
    → IsNumberOf (lines ++ (record { label = label; statement = statement }) ∷ []) heads.Memory new.memory
    → map raw_array new.arrays.items ≡ take array_limit (entries_of (lines ++ (record { label = label; statement = statement }) ∷ []))
    → new.array_count ≡ min (length (entries_of (lines ++ (record { label = label; statement = statement }) ∷ []))) (array_limit + 1)
    → new.labels.entries ≡ old.labels.entries
    → AreInstrs (lines ++ (record { label = label; statement = statement }) ∷ []) new.instrs.items
    → length new.instrs.items ≤ instruction_limit
    → AreReferences text (lines ++ (record { label = label; statement = statement }) ∷ []) new.references.items
    → Keeps text (lines ++ (record { label = label; statement = statement }) ∷ []) None new
keeps_push text lines label statement old new h ranges version section spad memory arrays count labels instrs few references =
    let line : TextLine = record { label = label; statement = statement } in
    let all : with_label (lines ++ line ∷ []) None ≡ with_label lines label = no_label_more (lines ++ line ∷ []) ∙ with_line_labels lines line in
    record {
      ranges = ranged_push lines label statement h.ranges ranges;
      version = version;
      section = ap (option_and_then (behind_label None)) section;
      spad = spad;
      memory = memory;
      arrays = arrays;
      array_count = count;
      labels = labels ∙ h.labels ∙ sym all;
      apart = subst (λ ls. AreApart (map (λ (pair : List ℕ × ℕ). pair.0) ls)) (sym all) h.apart;
      instrs = instrs;
      few = few;
      references = references;
    }

-- ---- numbers

-- a statement of another word says nothing of the number
pub number_kept : (lines : List TextLine) (label : Option (List ℕ)) (statement : Option Statement) (head : Head) (number : ℕ) → ((s : Statement) → statement ≡ Some s → s.head ≢ head) → IsNumberOf lines head number → IsNumberOf (lines ++ (record { label = label; statement = statement }) ∷ []) head number
number_kept lines label None head number other h n there =
    h n (subst (λ ss. Contains ss (record { head = head; operands = operands.Number n ∷ [] })) (statements_push lines (record { label = label; statement = None }) ∙ append-nil (statements_of lines)) there)
number_kept lines label (Some s) head number other h n there =
    by (Contains-push_cases (statements_of lines) s (record { head = head; operands = operands.Number n ∷ [] }) (subst (λ ss. Contains ss (record { head = head; operands = operands.Number n ∷ [] })) (statements_push lines (record { label = label; statement = Some s })) there))
  where
    by : Contains (statements_of lines) (record { head = head; operands = operands.Number n ∷ [] }) ⊎ (s ≡ record { head = head; operands = operands.Number n ∷ [] }) → number ≡ n
    by (inl before) = h n before
    by (inr same) = absurd (other s refl (ap (λ (x : Statement). x.head) same))

-- ---- instructions

-- a statement that is no instruction adds none
pub instrs_kept : (lines : List TextLine) (label : Option (List ℕ)) (statement : Option Statement) → ((s : Statement) → statement ≡ Some s → is_instr s.head ≡ false) → instrs_of (lines ++ (record { label = label; statement = statement }) ∷ []) ≡ instrs_of lines
instrs_kept lines label None other = instrs_push lines (record { label = label; statement = None }) ∙ append-nil (instrs_of lines)
instrs_kept lines label (Some s) other =
    instrs_push lines (record { label = label; statement = Some s }) ∙ ap (λ b. instrs_of lines ++ (if b then s ∷ [] else [])) (other s refl) ∙ append-nil (instrs_of lines)

pub instrs_added : (lines : List TextLine) (label : Option (List ℕ)) (s : Statement) → is_instr s.head ≡ true → instrs_of (lines ++ (record { label = label; statement = Some s }) ∷ []) ≡ instrs_of lines ++ s ∷ []
instrs_added lines label s instr = instrs_push lines (record { label = label; statement = Some s }) ∙ ap (λ b. instrs_of lines ++ (if b then s ∷ [] else [])) instr

-- ---- targets

-- targets stay where they are
pub target_kept : (text : List ℕ) (lines : List TextLine) (line : TextLine) (target : Operand) (at : ℕ) → IsTargetAt text lines target at → IsTargetAt text (lines ++ line ∷ []) target at
target_kept text lines line target at h =
    let within = slice_get_within lines h.k (record { label = h.label; statement = Some (record { head = h.head; operands = h.operands ++ target ∷ [] }) }) h.line in
    record {
      k = h.k;
      label = h.label;
      head = h.head;
      operands = h.operands;
      next = h.next;
      line = slice_get_left lines (line ∷ []) h.k _ h.line;
      kind = h.kind;
      behind = subst (λ ls. IsBehind language text (text_words ls ++ (label_words h.label ++ statement_words (record { head = h.head; operands = h.operands }))) h.next) (sym (take-append-le h.k lines (line ∷ []) (omega arith))) h.behind;
      place = h.place;
    }

pub slice_get_back : {X : Type 0} (xs ys : List X) (k : ℕ) → k < length xs → slice_get (xs ++ ys) k ≡ slice_get xs k
slice_get_back [] ys k lt = absurd (omega arith)
slice_get_back (x ∷ xs) ys zero lt = refl
slice_get_back (x ∷ xs) ys (suc k) lt = slice_get_back xs ys k (omega arith)

pub slice_get_last : {X : Type 0} (xs : List X) (x : X) → slice_get (xs ++ x ∷ []) (length xs) ≡ Some x
slice_get_last [] x = refl
slice_get_last (y ∷ xs) x = slice_get_last xs x

-- the target of the last line, where it has one
pub record IsLastTarget (text : List ℕ) (lines : List TextLine) (line : TextLine) (target : Operand) (at : ℕ) : Type 0 where
  pub label : Option (List ℕ)
  pub head : Head
  pub operands : List Operand
  pub is : line ≡ record { label = label; statement = Some (record { head = head; operands = operands ++ target ∷ [] }) }
  pub kind : slice_get (head_kinds head) (length operands) ≡ Some kinds.Target
  pub behind : IsPlaceBehind text (text_words lines ++ (label_words label ++ statement_words (record { head = head; operands = operands }))) at

pub target_back : (text : List ℕ) (lines : List TextLine) (line : TextLine) (target : Operand) (at : ℕ) → IsTargetAt text (lines ++ line ∷ []) target at → IsTargetAt text lines target at ⊎ IsLastTarget text lines line target at
target_back text lines line target at h = by (cases_lt h.k (length lines))
  where
    by : (h.k < length lines) ⊎ (length lines ≤ h.k) → IsTargetAt text lines target at ⊎ IsLastTarget text lines line target at
    by (inl lt) = inl (record {
      k = h.k;
      label = h.label;
      head = h.head;
      operands = h.operands;
      next = h.next;
      line = sym (slice_get_back lines (line ∷ []) h.k lt) ∙ h.line;
      kind = h.kind;
      behind = subst (λ ls. IsBehind language text (text_words ls ++ (label_words h.label ++ statement_words (record { head = h.head; operands = h.operands }))) h.next) (take-append-le h.k lines (line ∷ []) (omega arith)) h.behind;
      place = h.place;
    })
    by (inr le) =
        let within = slice_get_within (lines ++ line ∷ []) h.k _ h.line in
        let count = length-append lines (line ∷ []) in
        let same : length lines ≡ h.k = omega arith in
        inr (record {
          label = h.label;
          head = h.head;
          operands = h.operands;
          is = some_is line _ (sym (slice_get_last lines line) ∙ ap (slice_get (lines ++ line ∷ [])) same ∙ h.line);
          kind = h.kind;
          behind = (h.next, subst (λ ls. IsBehind language text (text_words ls ++ (label_words h.label ++ statement_words (record { head = h.head; operands = h.operands }))) h.next) (ap (λ n. take n (lines ++ line ∷ [])) (sym same) ∙ take_at lines (line ∷ []) (length lines) refl) h.behind, h.place);
        })

-- the words of jumps
abbrev pub is_jump : Head → Bool
is_jump heads.Bnz = true
is_jump heads.Blt = true
is_jump heads.Jmp = true
is_jump head = false

abbrev is_target : Kind → Bool
is_target kinds.Target = true
is_target kind = false

all_at : {X : Type 0} (test : X → Bool) (xs : List X) (k : ℕ) (x : X) → list_all test xs ≡ true → slice_get xs k ≡ Some x → test x ≡ true
all_at test [] k x h e = absurd (none_some x e)
all_at test (y ∷ xs) zero x h e = ap test (sym (some_is y x e)) ∙ (and_parts (test y) (list_all test xs) h).0
all_at test (y ∷ xs) (suc k) x h e = all_at test xs k x (and_parts (test y) (list_all test xs) h).1 e

no_targets : (head : Head) → is_jump head ≡ false → list_all (λ (kind : Kind). not (is_target kind)) (head_kinds head) ≡ true
no_targets heads.Version other = refl
no_targets heads.Spad other = refl
no_targets heads.Memory other = refl
no_targets heads.Array other = refl
no_targets heads.Halt other = refl
no_targets heads.Li other = refl
no_targets heads.Addi other = refl
no_targets heads.Add other = refl
no_targets heads.Sub other = refl
no_targets heads.Mul other = refl
no_targets heads.Div other = refl
no_targets heads.Bnz other = let e : true ≡ false = other in absurd (cc)
no_targets heads.Blt other = let e : true ≡ false = other in absurd (cc)
no_targets heads.Jmp other = let e : true ≡ false = other in absurd (cc)
no_targets heads.Set other = refl
no_targets heads.Vec other = refl
no_targets heads.Dma other = refl
no_targets heads.Rwait other = refl
no_targets heads.Wwait other = refl
no_targets heads.Vwait other = refl
no_targets heads.Tag other = refl
no_targets heads.Twait other = refl

pub no_target : (head : Head) (k : ℕ) → is_jump head ≡ false → slice_get (head_kinds head) k ≡ Some kinds.Target → ⊥
no_target head k other e = let wrong : false ≡ true = all_at (λ (kind : Kind). not (is_target kind)) (head_kinds head) k kinds.Target (no_targets head other) e in absurd (cc)

pub no_jump : (head : Head) (list : List Operand) (target : Operand) → is_jump head ≡ false → jump_target head list ≡ Some target → ⊥
no_jump heads.Version list target other e = none_some target e
no_jump heads.Spad list target other e = none_some target e
no_jump heads.Memory list target other e = none_some target e
no_jump heads.Array list target other e = none_some target e
no_jump heads.Halt list target other e = none_some target e
no_jump heads.Li list target other e = none_some target e
no_jump heads.Addi list target other e = none_some target e
no_jump heads.Add list target other e = none_some target e
no_jump heads.Sub list target other e = none_some target e
no_jump heads.Mul list target other e = none_some target e
no_jump heads.Div list target other e = none_some target e
no_jump heads.Bnz list target other e = let w : true ≡ false = other in absurd (cc)
no_jump heads.Blt list target other e = let w : true ≡ false = other in absurd (cc)
no_jump heads.Jmp list target other e = let w : true ≡ false = other in absurd (cc)
no_jump heads.Set list target other e = none_some target e
no_jump heads.Vec list target other e = none_some target e
no_jump heads.Dma list target other e = none_some target e
no_jump heads.Rwait list target other e = none_some target e
no_jump heads.Wwait list target other e = none_some target e
no_jump heads.Vwait list target other e = none_some target e
no_jump heads.Tag list target other e = none_some target e
no_jump heads.Twait list target other e = none_some target e

-- ---- references

pub reference_kept : (text : List ℕ) (lines : List TextLine) (line : TextLine) (reference : Reference) → IsReferenceOf text lines reference → IsReferenceOf text (lines ++ line ∷ []) reference
reference_kept text lines line reference h = record {
  target = target_kept text lines line (target_operand reference.target) reference.at h.target;
  statement = h.statement;
  instr = ap (λ is. slice_get is reference.instr) (instrs_push lines line) ∙ slice_get_left (instrs_of lines) _ reference.instr h.statement h.instr;
  jump = h.jump;
}

-- a line that is no jump has no reference
pub references_kept : (text : List ℕ) (lines : List TextLine) (label : Option (List ℕ)) (statement : Option Statement) (references : List Reference) → ((s : Statement) → statement ≡ Some s → is_jump s.head ≡ false) → AreReferences text lines references → AreReferences text (lines ++ (record { label = label; statement = statement }) ∷ []) references
references_kept text lines label statement references other h = record {
  each = All-weaker (IsReferenceOf text lines) (IsReferenceOf text (lines ++ line ∷ [])) (λ reference is. reference_kept text lines line reference is) references h.each;
  all = λ target at is. of_target target at (target_back text lines line target at is);
  jumps = λ k s target there jump. of_instr k s target there jump (cases_lt k (length (instrs_of lines)));
  rising = h.rising;
}
  where
    line : TextLine
    line = record { label = label; statement = statement }

    added : List Statement
    added = filter (λ (s : Statement). is_instr s.head) (cons_option statement [])

    of_target : (target : Operand) (at : ℕ) → IsTargetAt text lines target at ⊎ IsLastTarget text lines (record { label = label; statement = statement }) target at → (reference : Reference) × Contains references reference × (reference.at ≡ at) × (target_operand reference.target ≡ target)
    of_target target at (inl before) = h.all target at before
    of_target target at (inr last) =
        absurd (no_target last.head (length last.operands) (other (record { head = last.head; operands = last.operands ++ target ∷ [] }) (ap (λ (l : TextLine). l.statement) last.is)) last.kind)

    only : (s : Statement) (k : ℕ) (st : Option Statement) → slice_get (filter (λ (x : Statement). is_instr x.head) (cons_option st [])) k ≡ Some s → st ≡ Some s
    only s k None e = absurd (none_some s e)
    only s k (Some x) e = which (is_instr x.head) e
      where
        which : (b : Bool) → slice_get (if b then x ∷ [] else []) k ≡ Some s → Some x ≡ Some s
        which true f = first k f
          where
            first : (j : ℕ) → slice_get (x ∷ []) j ≡ Some s → Some x ≡ Some s
            first zero g = g
            first (suc j) g = absurd (none_some s g)
        which false f = absurd (none_some s f)

    behind_all : (xs ys : List Statement) (k : ℕ) (s : Statement) → length xs ≤ k → slice_get (xs ++ ys) k ≡ Some s → (j : ℕ) × (slice_get ys j ≡ Some s)
    behind_all [] ys k s le e = (k, e)
    behind_all (x ∷ xs) ys zero s le e = absurd (omega arith)
    behind_all (x ∷ xs) ys (suc k) s le e = behind_all xs ys k s (omega arith) e

    of_instr : (k : ℕ) (s : Statement) (target : Operand) → slice_get (instrs_of (lines ++ (record { label = label; statement = statement }) ∷ [])) k ≡ Some s → jump_target s.head s.operands ≡ Some target → (k < length (instrs_of lines)) ⊎ (length (instrs_of lines) ≤ k) → (reference : Reference) × Contains references reference × (reference.instr ≡ k)
    of_instr k s target there jump (inl lt) =
        h.jumps k s target (sym (slice_get_back (instrs_of lines) _ k lt) ∙ ap (λ is. slice_get is k) (sym (instrs_push lines (record { label = label; statement = statement }))) ∙ there) jump
    of_instr k s target there jump (inr le) =
        let last = behind_all (instrs_of lines) _ k s le (ap (λ is. slice_get is k) (sym (instrs_push lines (record { label = label; statement = statement }))) ∙ there) in
        absurd (no_jump s.head s.operands target (other s (only s last.0 statement last.1)) jump)

-- ---- the order of sizes

abbrev pub rank : Section → ℕ
rank sections.Version = 0
rank sections.Spad = 1
rank sections.Memory = 2
rank sections.Arrays = 3
rank sections.Code = 4

-- a word of a head comes before its next section
abbrev pub head_rank : Head → ℕ
head_rank heads.Version = 1
head_rank heads.Spad = 2
head_rank heads.Memory = 3
head_rank heads.Array = 3
head_rank head = 4

record Ranks (head : Head) (section next : Section) : Type 0 where
  up : rank section ≤ rank next
  reached : head_rank head ≤ rank next

instr_ranks : (head : Head) (section next : Section) (b : Bool) → rank section ≤ 4 → (head_rank head ≤ 4) → (if b then Some sections.Code else None) ≡ Some next → Ranks head section next
instr_ranks head section next true low most e = let same = ap rank (some_is sections.Code next e) in record { up = omega arith; reached = omega arith }
instr_ranks head section next false low most e = absurd (none_some next e)

head_ranked : (head : Head) → head_rank head ≤ 4
head_ranked heads.Version = omega arith
head_ranked heads.Spad = omega arith
head_ranked heads.Memory = omega arith
head_ranked heads.Array = omega arith
head_ranked heads.Halt = omega arith
head_ranked heads.Li = omega arith
head_ranked heads.Addi = omega arith
head_ranked heads.Add = omega arith
head_ranked heads.Sub = omega arith
head_ranked heads.Mul = omega arith
head_ranked heads.Div = omega arith
head_ranked heads.Bnz = omega arith
head_ranked heads.Blt = omega arith
head_ranked heads.Jmp = omega arith
head_ranked heads.Set = omega arith
head_ranked heads.Vec = omega arith
head_ranked heads.Dma = omega arith
head_ranked heads.Rwait = omega arith
head_ranked heads.Wwait = omega arith
head_ranked heads.Vwait = omega arith
head_ranked heads.Tag = omega arith
head_ranked heads.Twait = omega arith

ranks_of : (head : Head) (section next : Section) → behind_head head section ≡ Some next → Ranks head section next
ranks_of heads.Version sections.Version next e = let same = ap rank (some_is sections.Spad next e) in record { up = omega arith; reached = omega arith }
ranks_of heads.Spad sections.Version next e = let same = ap rank (some_is sections.Memory next e) in record { up = omega arith; reached = omega arith }
ranks_of heads.Spad sections.Spad next e = let same = ap rank (some_is sections.Memory next e) in record { up = omega arith; reached = omega arith }
ranks_of heads.Memory sections.Memory next e = let same = ap rank (some_is sections.Arrays next e) in record { up = omega arith; reached = omega arith }
ranks_of heads.Array sections.Arrays next e = let same = ap rank (some_is sections.Arrays next e) in record { up = omega arith; reached = omega arith }
ranks_of head sections.Arrays next e = instr_ranks head sections.Arrays next (is_instr head) (omega arith) (head_ranked head) e
ranks_of head sections.Code next e = instr_ranks head sections.Code next (is_instr head) (omega arith) (head_ranked head) e
ranks_of head section next e = absurd (none_some next e)

pub label_up : (label : Option (List ℕ)) (section next : Section) → behind_label label section ≡ Some next → rank section ≤ rank next
label_up None section next e = let same = ap rank (some_is section next e) in omega arith
label_up (Some name) sections.Arrays next e = let same = ap rank (some_is sections.Code next e) in omega arith
label_up (Some name) sections.Code next e = let same = ap rank (some_is sections.Code next e) in omega arith
label_up (Some name) section next e = absurd (none_some next e)

-- behind lines, each statement's word has been passed
record Passed_to (lines : List TextLine) (section next : Section) : Type 0 where
  up : rank section ≤ rank next
  each : (s : Statement) → Contains (statements_of lines) s → head_rank s.head ≤ rank next

pub line_ranks : (line : TextLine) (section next : Section) → section_behind (Some section) line ≡ Some next → (rank section ≤ rank next) × ((s : Statement) → line.statement ≡ Some s → head_rank s.head ≤ rank next)
line_ranks line section next e = by line.statement (gives (behind_statement line.statement) (behind_label line.label section) next e)
  where
    by : (statement : Option Statement) → Gives (behind_statement statement) (behind_label line.label section) next → (rank section ≤ rank next) × ((s : Statement) → statement ≡ Some s → head_rank s.head ≤ rank next)
    by None g =
        let low = label_up line.label section g.item g.found_is in
        let same = ap rank (some_is g.item next g.is) in
        (omega arith, λ s none. absurd (none_some s none))
    by (Some t) g =
        let low = label_up line.label section g.item g.found_is in
        let r = ranks_of t.head g.item next g.is in
        let up = r.up in
        (omega arith, λ s is. subst (λ (x : Statement). head_rank x.head ≤ rank next) (some_is t s is) r.reached)

passed_to : (lines : List TextLine) (section next : Section) → section_from (Some section) lines ≡ Some next → Passed_to lines section next
passed_to [] section next e = let same = ap rank (some_is section next e) in record { up = omega arith; each = λ s there. absurd (none_there s there) }
  where
    none_there : (s : Statement) → Contains {X = Statement} [] s → ⊥
    none_there s (k, lt, is) = absurd (omega arith)
passed_to (line ∷ lines) section next e = by (λ mid f. passed_to lines mid next f) (section_behind (Some section) line) refl e
  where
    cons_cases : (statement : Option Statement) (rest : List Statement) (s : Statement) → Contains (cons_option statement rest) s → (statement ≡ Some s) ⊎ Contains rest s
    cons_cases None rest s there = inr there
    cons_cases (Some t) rest s (zero, lt, is) = inl (ap (λ x. Some x) is)
    cons_cases (Some t) rest s (suc k, lt, is) = inr (k, omega arith, is)

    by : ((mid : Section) → section_from (Some mid) lines ≡ Some next → Passed_to lines mid next) → (mid : Option Section) → section_behind (Some section) line ≡ mid → section_from mid lines ≡ Some next → Passed_to (line ∷ lines) section next
    by more None is f = absurd (none_some next (sym (no_section lines) ∙ f))
    by more (Some mid) is f =
        let here = line_ranks line section mid is in
        let rest = more mid f in
        let one = here.0 in
        let two = rest.up in
        record {
          up = omega arith;
          each = λ s there. which s (cons_cases line.statement (statements_of lines) s there) here.1 rest;
        }
      where
        which : (s : Statement) → (line.statement ≡ Some s) ⊎ Contains (statements_of lines) s → ((t : Statement) → line.statement ≡ Some t → head_rank t.head ≤ rank mid) → Passed_to lines mid next → head_rank s.head ≤ rank next
        which s (inl is2) own rest2 = let low = own s is2 in let up = rest2.up in omega arith
        which s (inr there2) own rest2 = rest2.each s there2

-- a size that comes now is the first
pub number_new : (lines : List TextLine) (label : Option (List ℕ)) (head : Head) (number : ℕ) (section : Section) → section_of lines ≡ Some section → rank section < head_rank head → IsNumberOf (lines ++ (record { label = label; statement = Some (record { head = head; operands = operands.Number number ∷ [] }) }) ∷ []) head number
number_new lines label head number section order first n there =
    by (Contains-push_cases (statements_of lines) own other (subst (λ ss. Contains ss other) (statements_push lines (record { label = label; statement = Some own })) there))
  where
    own : Statement
    own = record { head = head; operands = operands.Number number ∷ [] }

    other : Statement
    other = record { head = head; operands = operands.Number n ∷ [] }

    numbers_same : (a b : ℕ) → operands.Number a ∷ [] ≡ operands.Number b ∷ [] → a ≡ b
    numbers_same a b e = cc

    by : Contains (statements_of lines) (record { head = head; operands = operands.Number n ∷ [] }) ⊎ (◌≡◌ {A = Statement} (record { head = head; operands = operands.Number number ∷ [] }) (record { head = head; operands = operands.Number n ∷ [] })) → number ≡ n
    by (inl before) =
        let passed = (passed_to lines sections.Version section order).each (record { head = head; operands = operands.Number n ∷ [] }) before in
        absurd (omega arith)
    by (inr same) = numbers_same number n (ap (λ (x : Statement). x.operands) same)

-- ---- arrays

pub entries_push : (lines : List TextLine) (label : Option (List ℕ)) (s : Statement) → entries_of (lines ++ (record { label = label; statement = Some s }) ∷ []) ≡ entries_of lines ++ cons_option (array_of s.head s.operands) []
entries_push lines label s =
    ap (filter_map (λ (x : Statement). array_of x.head x.operands)) (statements_push lines (record { label = label; statement = Some s }))
    ∙ filter_map-append (λ (x : Statement). array_of x.head x.operands) (statements_of lines) (s ∷ [])

pub entries_empty : (lines : List TextLine) (label : Option (List ℕ)) → entries_of (lines ++ (record { label = label; statement = None }) ∷ []) ≡ entries_of lines
entries_empty lines label = ap (filter_map (λ (x : Statement). array_of x.head x.operands)) (statements_push lines (record { label = label; statement = None }) ∙ append-nil (statements_of lines))

abbrev pub is_array : Head → Bool
is_array heads.Array = true
is_array head = false

no_entry : (head : Head) (list : List Operand) → is_array head ≡ false → array_of head list ≡ None
no_entry heads.Version list other = refl
no_entry heads.Spad list other = refl
no_entry heads.Memory list other = refl
no_entry heads.Array list other = let e : true ≡ false = other in absurd (cc)
no_entry heads.Halt list other = refl
no_entry heads.Li list other = refl
no_entry heads.Addi list other = refl
no_entry heads.Add list other = refl
no_entry heads.Sub list other = refl
no_entry heads.Mul list other = refl
no_entry heads.Div list other = refl
no_entry heads.Bnz list other = refl
no_entry heads.Blt list other = refl
no_entry heads.Jmp list other = refl
no_entry heads.Set list other = refl
no_entry heads.Vec list other = refl
no_entry heads.Dma list other = refl
no_entry heads.Rwait list other = refl
no_entry heads.Wwait list other = refl
no_entry heads.Vwait list other = refl
no_entry heads.Tag list other = refl
no_entry heads.Twait list other = refl

pub entries_kept : (lines : List TextLine) (label : Option (List ℕ)) (s : Statement) → is_array s.head ≡ false → entries_of (lines ++ (record { label = label; statement = Some s }) ∷ []) ≡ entries_of lines
entries_kept lines label s other = entries_push lines label s ∙ ap (λ o. entries_of lines ++ cons_option o []) (no_entry s.head s.operands other) ∙ append-nil (entries_of lines)
