-- An instruction more, and the target of a jump.
use Rattle.std.proofs.Common.{◌≡◌, ◌⊎◌, inl, inr, ℕ, zero, suc, ◌+◌, ◌<◌, ◌≤◌, true, List, [], ◌∷◌, ◌++◌, length, take, Option, Some, refl, sym, ap, subst, ◌∙◌, arith, length-append, Contains}
use Rattle.std.specs.Prelude.{slice_get}
use Rattle.std.proofs.lemmas.Bool.{cases_lt}
use Rattle.std.proofs.lemmas.List.{same_from_push}
use Rattle.std.proofs.lemmas.List.Elements.{All-push, All-weaker, All-contains, Contains-append_left, Contains-push}
use Rattle.std.proofs.lemmas.Option.{slice_get_within}
use Rattle.ven_io.specs.Tokens.{IsBehind, place_of}
use Rattle.ven_io.proofs.Reached.{one_text, Meets, Same, Before, After}
use Rattle.venice_isa.specs.declared.instr.Instr.{Instr}
use Rattle.venice_asm.specs.declared.head.Head.{Head}
use Rattle.venice_asm.specs.declared.head.Kind.TheVariants as kinds
use Rattle.venice_asm.specs.declared.operand.Operand.{Operand}
use Rattle.venice_asm.specs.declared.phase.Reference.{Reference}
use Rattle.venice_asm.specs.declared.word.Word.{Word}
use Rattle.venice_asm.specs.declared.word.Word.TheVariants as words
use Rattle.venice_asm.specs.Faults.{IsTargetAt}
use Rattle.venice_asm.specs.Lines.{Statement, TextLine, label_words, statement_words, line_words, text_words, is_instr, head_kinds}
use Rattle.venice_asm.specs.Meaning.{instrs_of}
use Rattle.venice_asm.specs.Parts.{IsInstrOf, jump_target, target_operand}
use Rattle.venice_asm.specs.Steps.{AreInstrs, IsReferenceOf, AreReferences, IsPlaceBehind}
use Rattle.venice_asm.specs.Words.{language}
use Rattle.venice_asm.proofs.Keeping.{instrs_added, slice_get_back, slice_get_last, target_back, IsLastTarget, reference_kept}
use Rattle.venice_asm.proofs.Registers.{none_some, some_is}

-- what stands at a place of a list with one more
record IsFrontOrLast {X : Type 0} (xs : List X) (x : X) (k : ℕ) (y : X) : Type 0 where
  by : ((k < length xs) × (slice_get xs k ≡ Some y)) ⊎ ((length xs ≡ k) × (x ≡ y))

front_or_last : {X : Type 0} (xs : List X) (x : X) (k : ℕ) (y : X) → slice_get (xs ++ x ∷ []) k ≡ Some y → IsFrontOrLast xs x k y
front_or_last xs x k y e = record { by = which (cases_lt k (length xs)) }
  where
    which : (k < length xs) ⊎ (length xs ≤ k) → ((k < length xs) × (slice_get xs k ≡ Some y)) ⊎ ((length xs ≡ k) × (x ≡ y))
    which (inl lt) = inl (lt, sym (slice_get_back xs (x ∷ []) k lt) ∙ e)
    which (inr le) =
        let within = slice_get_within (xs ++ x ∷ []) k y e in
        let count = length-append xs (x ∷ []) in
        let same : length xs ≡ k = omega arith in
        inr (same, some_is x y (sym (slice_get_last xs x) ∙ ap (slice_get (xs ++ x ∷ [])) same ∙ e))

-- ---- instructions

pub instrs_grow : (lines : List TextLine) (label : Option (List ℕ)) (s : Statement) (instrs : List Instr) (instr : Instr) → is_instr s.head ≡ true → IsInstrOf s.head s.operands instr → AreInstrs lines instrs → AreInstrs (lines ++ (record { label = label; statement = Some s }) ∷ []) (instrs ++ instr ∷ [])
instrs_grow lines label s instrs instr is_one is h = record {
  count =
      let more = ap length (instrs_added lines label s is_one) in
      let one = length-append instrs (instr ∷ []) in
      let two = length-append (instrs_of lines) (s ∷ []) in
      let count = h.count in
      omega arith;
  each = λ k t i there here. by k t i (front_or_last (instrs_of lines) s k t (ap (λ is. slice_get is k) (sym (instrs_added lines label s is_one)) ∙ there)).by (front_or_last instrs instr k i here).by;
}
  where
    by : (k : ℕ) (t : Statement) (i : Instr) → ((k < length (instrs_of lines)) × (slice_get (instrs_of lines) k ≡ Some t)) ⊎ ((length (instrs_of lines) ≡ k) × (s ≡ t)) → ((k < length instrs) × (slice_get instrs k ≡ Some i)) ⊎ ((length instrs ≡ k) × (instr ≡ i)) → IsInstrOf t.head t.operands i
    by k t i (inl (lt, there)) (inl (below, here)) = h.each k t i there here
    by k t i (inl (lt, there)) (inr (end, same)) = let count = h.count in absurd (omega arith)
    by k t i (inr (end, same)) (inl (below, here)) = let count = h.count in absurd (omega arith)
    by k t i (inr (end, same)) (inr (last, alike)) = subst (λ (x : Statement). IsInstrOf x.head x.operands i) same (subst (IsInstrOf s.head s.operands) alike is)

-- ---- places

no_longer : (tokens rest : List Word) (word : Word) → tokens ≡ tokens ++ word ∷ rest → ⊥
no_longer tokens rest word e = let count = ap length e in let sum = length-append tokens (word ∷ rest) in absurd (omega arith)

place_one : (text : List ℕ) (tokens others : List Word) (one other : ℕ) → tokens ≡ others → IsPlaceBehind text tokens one → IsPlaceBehind text others other → one ≡ other
place_one text tokens others one other same (next, behind, at) (later, there, place) = by (one_text language text tokens others next later behind there)
  where
    by : Meets language text tokens next others later → one ≡ other
    by (Same all is) = at ∙ ap place_of is ∙ sym place
    by (Before b) = absurd (no_longer tokens b.rest b.own (same ∙ b.all))
    by (After b) = absurd (no_longer others b.rest b.own (sym same ∙ b.all))

place_less : (text : List ℕ) (tokens others : List Word) (one other : ℕ) → length tokens < length others → IsPlaceBehind text tokens one → IsPlaceBehind text others other → one < other
place_less text tokens others one other less (next, behind, at) (later, there, place) = by (one_text language text tokens others next later behind there)
  where
    by : Meets language text tokens next others later → one < other
    by (Same all is) = let count = ap length all in absurd (omega arith)
    by (Before b) = let here = ap place_of b.is in let lt = b.before in omega arith
    by (After b) = let count = ap length b.all in let sum = length-append others (b.own ∷ b.rest) in absurd (omega arith)

-- the words up to a target in a line are fewer than those of all lines
fewer : (lines : List TextLine) (k : ℕ) (line : TextLine) (some : ℕ) → slice_get lines k ≡ Some line → some < length (line_words line) → length (text_words (take k lines)) + some < length (text_words lines)
fewer [] k line some e lt = absurd (none_some line e)
fewer (x ∷ lines) zero line some e lt =
    let same = ap (λ (l : TextLine). length (line_words l)) (some_is x line e) in
    let sum = length-append (line_words x) (text_words lines) in
    omega arith
fewer (x ∷ lines) (suc k) line some e lt =
    let more = fewer lines k line some e lt in
    let one = length-append (line_words x) (text_words (take k lines)) in
    let two = length-append (line_words x) (text_words lines) in
    omega arith

statement_shorter : (label : Option (List ℕ)) (head : Head) (os : List Operand) (target : Operand) → length (label_words label ++ statement_words (record { head = head; operands = os })) < length (line_words (record { label = label; statement = Some (record { head = head; operands = os ++ target ∷ [] }) }))
statement_shorter label head os target =
    let s : Statement = record { head = head; operands = os ++ target ∷ [] } in
    let a = length-append (label_words label) (statement_words (record { head = head; operands = os })) in
    let b = length-append (label_words label) (statement_words s ++ words.Line ∷ []) in
    let c = length-append (statement_words s) (words.Line ∷ []) in
    let d = counted os in
    let e = counted (os ++ target ∷ []) in
    let f = length-append os (target ∷ []) in
    omega arith
  where
    counted : (list : List Operand) → length (statement_words (record { head = head; operands = list })) ≡ length list + 1
    counted [] = omega arith
    counted (x ∷ list) = let more = counted list in omega arith

target_before : (text : List ℕ) (lines : List TextLine) (more : List Word) (target : Operand) (at later : ℕ) → IsTargetAt text lines target at → IsPlaceBehind text (text_words lines ++ more) later → at < later
target_before text lines more target at later h place =
    let a = fewer lines h.k _ _ h.line (statement_shorter h.label h.head h.operands target) in
    let b = length-append (text_words (take h.k lines)) (label_words h.label ++ statement_words (record { head = h.head; operands = h.operands })) in
    let c = length-append (text_words lines) more in
    place_less text _ _ at later (omega arith) (h.next, h.behind, h.place) place

-- ---- a reference more

pub references_grow : (text : List ℕ) (lines : List TextLine) (label : Option (List ℕ)) (head : Head) (front : List Operand) (target : Operand) (references : List Reference) (reference : Reference) → is_instr head ≡ true → jump_target head (front ++ target ∷ []) ≡ Some target
    → slice_get (head_kinds head) (length front) ≡ Some kinds.Target → IsPlaceBehind text (text_words lines ++ (label_words label ++ statement_words (record { head = head; operands = front }))) reference.at → reference.instr ≡ length (instrs_of lines) → target_operand reference.target ≡ target → AreReferences text lines references
    → AreReferences text (lines ++ (record { label = label; statement = Some (record { head = head; operands = front ++ target ∷ [] }) }) ∷ []) (references ++ reference ∷ [])
references_grow text lines label head front target references reference is_one jumps kind place number says h = record {
  each = All-push (IsReferenceOf text (lines ++ line ∷ [])) references reference (All-weaker (IsReferenceOf text lines) (IsReferenceOf text (lines ++ line ∷ [])) (λ r is. reference_kept text lines line r is) references h.each) own;
  all = λ t at is. of_target t at (target_back text lines line t at is);
  jumps = λ k t tt there jump. of_instr k t tt jump (front_or_last (instrs_of lines) s k t (ap (λ is. slice_get is k) (sym (instrs_added lines label s is_one)) ∙ there)).by;
  rising = λ j k one other lt first second. rises j k one other lt (front_or_last references reference j one first).by (front_or_last references reference k other second).by;
}
  where
    s : Statement
    s = record { head = head; operands = front ++ target ∷ [] }

    line : TextLine
    line = record { label = label; statement = Some (record { head = head; operands = front ++ target ∷ [] }) }

    own : IsReferenceOf text (lines ++ (record { label = label; statement = Some (record { head = head; operands = front ++ target ∷ [] }) }) ∷ []) reference
    own = record {
      target = subst (λ t. IsTargetAt text (lines ++ line ∷ []) t reference.at) (sym says) (record {
        k = length lines;
        label = label;
        head = head;
        operands = front;
        next = place.0;
        line = slice_get_last lines line;
        kind = kind;
        behind = subst (λ ls. IsBehind language text (text_words ls ++ (label_words label ++ statement_words (record { head = head; operands = front }))) place.0) (sym (take_front lines line)) place.1;
        place = place.2;
      });
      statement = s;
      instr = ap (λ is. slice_get is reference.instr) (instrs_added lines label s is_one) ∙ ap (slice_get (instrs_of lines ++ s ∷ [])) number ∙ slice_get_last (instrs_of lines) s;
      jump = jumps ∙ ap (λ t. Some t) (sym says);
    }
      where
        take_front : (ls : List TextLine) (l : TextLine) → take (length ls) (ls ++ l ∷ []) ≡ ls
        take_front [] l = refl
        take_front (x ∷ ls) l = ap (λ rest. x ∷ rest) (take_front ls l)

    there : Contains (references ++ reference ∷ []) reference
    there = Contains-push references reference

    of_target : (t : Operand) (at : ℕ) → IsTargetAt text lines t at ⊎ IsLastTarget text lines (record { label = label; statement = Some (record { head = head; operands = front ++ target ∷ [] }) }) t at → (r : Reference) × Contains (references ++ reference ∷ []) r × (r.at ≡ at) × (target_operand r.target ≡ t)
    of_target t at (inl before) = let (r, contained, here, is) = h.all t at before in (r, Contains-append_left references (reference ∷ []) r contained, here, is)
    of_target t at (inr last) =
        let statement_is : Some s ≡ Some (record { head = last.head; operands = last.operands ++ t ∷ [] }) = ap (λ (l : TextLine). l.statement) last.is in
        let same = some_is s (record { head = last.head; operands = last.operands ++ t ∷ [] }) statement_is in
        let heads_same : head ≡ last.head = ap (λ (x : Statement). x.head) same in
        let list = same_from_push front last.operands target t (ap (λ (x : Statement). x.operands) same) in
        let labels_same : label ≡ last.label = ap (λ (l : TextLine). l.label) last.is in
        let words_same : text_words lines ++ (label_words label ++ statement_words (record { head = head; operands = front })) ≡ text_words lines ++ (label_words last.label ++ statement_words (record { head = last.head; operands = last.operands })) =
        ap (λ l. text_words lines ++ (label_words l ++ statement_words (record { head = head; operands = front }))) labels_same
        ∙ ap (λ hd. text_words lines ++ (label_words last.label ++ statement_words (record { head = hd; operands = front }))) heads_same
        ∙ ap (λ os. text_words lines ++ (label_words last.label ++ statement_words (record { head = last.head; operands = os }))) list.0 in
        (reference, there, place_one text _ _ reference.at at words_same place last.behind, says ∙ list.1)

    of_instr : (k : ℕ) (t : Statement) (u : Operand) → jump_target t.head t.operands ≡ Some u → ((k < length (instrs_of lines)) × (slice_get (instrs_of lines) k ≡ Some t)) ⊎ ((length (instrs_of lines) ≡ k) × (s ≡ t)) → (r : Reference) × Contains (references ++ reference ∷ []) r × (r.instr ≡ k)
    of_instr k t u jump (inl (lt, before)) = let (r, contained, is) = h.jumps k t u before jump in (r, Contains-append_left references (reference ∷ []) r contained, is)
    of_instr k t u jump (inr (end, same)) = (reference, there, number ∙ end)

    rises : (j k : ℕ) (one other : Reference) → j < k → ((j < length references) × (slice_get references j ≡ Some one)) ⊎ ((length references ≡ j) × (reference ≡ one)) → ((k < length references) × (slice_get references k ≡ Some other)) ⊎ ((length references ≡ k) × (reference ≡ other)) → one.at < other.at
    rises j k one other lt (inl (below, first)) (inl (within, second)) = h.rising j k one other lt first second
    rises j k one other lt (inl (below, first)) (inr (end, same)) =
        let r = All-contains (IsReferenceOf text lines) references one h.each (contained references j one first) in
        subst (λ (x : Reference). one.at < x.at) same (target_before text lines (label_words label ++ statement_words (record { head = head; operands = front })) (target_operand one.target) one.at reference.at r.target place)
      where
        contained : (xs : List Reference) (i : ℕ) (x : Reference) → slice_get xs i ≡ Some x → Contains xs x
        contained [] i x e = absurd (none_some x e)
        contained (y ∷ xs) zero x e = (0, omega arith, some_is y x e)
        contained (y ∷ xs) (suc i) x e = let (m, below2, is) = contained xs i x e in (suc m, omega arith, is)
    rises j k one other lt (inr (end, same)) (inl (within, second)) = absurd (omega arith)
    rises j k one other lt (inr (end, same)) (inr (last, alike)) = absurd (omega arith)
