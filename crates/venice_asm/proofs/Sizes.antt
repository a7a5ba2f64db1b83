-- Lines that read have the sizes of scratchpad and memory.
use Rattle.std.proofs.Common.{◌≡◌, ◌⊎◌, inl, inr, ℕ, suc, ◌<◌, ◌≤◌, true, false, List, [], ◌∷◌, Option, Some, None, refl, sym, ap, subst, ◌∙◌, arith, Contains}
use Rattle.std.specs.List.{cons_option}
use Rattle.std.proofs.lemmas.Bool.{cases_lt}
use Rattle.std.proofs.lemmas.List.Elements.{All-contains}
use Rattle.venice_asm.specs.declared.head.Head.{Head}
use Rattle.venice_asm.specs.declared.head.Head.TheVariants as heads
use Rattle.venice_asm.specs.declared.head.Kind.TheVariants as kinds
use Rattle.venice_asm.specs.declared.operand.Operand.{Operand}
use Rattle.venice_asm.specs.declared.operand.Operand.TheVariants as operands
use Rattle.venice_asm.specs.declared.phase.Section.{Section}
use Rattle.venice_asm.specs.declared.phase.Section.TheVariants as sections
use Rattle.venice_asm.specs.Lines.{Statement, TextLine, head_kinds, all_suit, behind_label, behind_head, behind_statement, section_from, section_of, has_sizes, statements_of, version_of, IsStatement, AreLines}
use Rattle.venice_asm.specs.Meaning.{HasNumber}
use Rattle.venice_asm.specs.Parts.{number_of}
use Rattle.venice_asm.proofs.Instrs.{one, numbers}
use Rattle.venice_asm.proofs.Keeping.{rank}
use Rattle.venice_asm.proofs.Lining.{no_section, section_behind, Gives, gives}
use Rattle.venice_asm.proofs.Registers.{none_some, some_is}

-- a label changes no section before code
label_stays : (label : Option (List ℕ)) (section next : Section) → rank section < 3 → behind_label label section ≡ Some next → section ≡ next
label_stays None section next low e = some_is section next e
label_stays (Some name) sections.Version next low e = absurd (none_some next e)
label_stays (Some name) sections.Spad next low e = absurd (none_some next e)
label_stays (Some name) sections.Memory next low e = absurd (none_some next e)
label_stays (Some name) sections.Arrays next low e = absurd (omega arith)
label_stays (Some name) sections.Code next low e = absurd (omega arith)

-- the word alone leads from before the bound to behind it
abbrev Leads : Head → ℕ → Type 0
Leads head bound = (hd : Head) (section next : Section) → rank section < bound → bound ≤ rank next → behind_head hd section ≡ Some next → hd ≡ head

spad_leads : Leads heads.Spad 2
spad_leads heads.Spad section next low high e = refl
spad_leads heads.Version sections.Version next low high e = let same = ap rank (some_is sections.Spad next e) in absurd (omega arith)
spad_leads hd sections.Memory next low high e = absurd (omega arith)
spad_leads hd sections.Arrays next low high e = absurd (omega arith)
spad_leads hd sections.Code next low high e = absurd (omega arith)
spad_leads hd section next low high e = absurd (none_some next e)

memory_leads : Leads heads.Memory 3
memory_leads heads.Memory section next low high e = refl
memory_leads heads.Version sections.Version next low high e = let same = ap rank (some_is sections.Spad next e) in absurd (omega arith)
memory_leads heads.Spad sections.Version next low high e = let same = ap rank (some_is sections.Memory next e) in absurd (omega arith)
memory_leads heads.Spad sections.Spad next low high e = let same = ap rank (some_is sections.Memory next e) in absurd (omega arith)
memory_leads hd sections.Arrays next low high e = absurd (omega arith)
memory_leads hd sections.Code next low high e = absurd (omega arith)
memory_leads hd section next low high e = absurd (none_some next e)

abbrev Comes : Head → List Statement → Type 0
Comes head statements = (s : Statement) × Contains statements s × (s.head ≡ head)

comes_more : (head : Head) (statement : Option Statement) (rest : List Statement) → Comes head rest → Comes head (cons_option statement rest)
comes_more head None rest c = c
comes_more head (Some t) rest (s, (k, less, is), same) = (s, (suc k, omega arith, is), same)

-- the line that leads behind the bound has the word
line_comes : (head : Head) (bound : ℕ) (line : TextLine) (section next : Section) (rest : List Statement) → bound ≤ 3 → Leads head bound → rank section < bound → bound ≤ rank next → section_behind (Some section) line ≡ Some next → Comes head (cons_option line.statement rest)
line_comes head bound line section next rest small leads low high e = by line.statement (gives (behind_statement line.statement) (behind_label line.label section) next e)
  where
    by : (statement : Option Statement) → Gives (behind_statement statement) (behind_label line.label section) next → Comes head (cons_option statement rest)
    by None g =
        let here = ap rank (label_stays line.label section g.item (omega arith) g.found_is) in
        let same = ap rank (some_is g.item next g.is) in
        absurd (omega arith)
    by (Some s) g =
        let here = ap rank (label_stays line.label section g.item (omega arith) g.found_is) in
        (s, (0, omega arith, refl), leads s.head g.item next (omega arith) high g.is)

comes : (head : Head) (bound : ℕ) (lines : List TextLine) (section next : Section) → bound ≤ 3 → Leads head bound → rank section < bound → bound ≤ rank next → section_from (Some section) lines ≡ Some next → Comes head (statements_of lines)
comes head bound [] section next small leads low high e = let same = ap rank (some_is section next e) in absurd (omega arith)
comes head bound (line ∷ lines) section next small leads low high e = by (λ mid low2 f. comes head bound lines mid next small leads low2 high f) (section_behind (Some section) line) refl e
  where
    which : ((mid : Section) → rank mid < bound → section_from (Some mid) lines ≡ Some next → Comes head (statements_of lines)) → (mid : Section) → section_behind (Some section) line ≡ Some mid → section_from (Some mid) lines ≡ Some next → (rank mid < bound) ⊎ (bound ≤ rank mid) → Comes head (statements_of (line ∷ lines))
    which more mid is f (inl below) = comes_more head line.statement (statements_of lines) (more mid below f)
    which more mid is f (inr above) = line_comes head bound line section mid (statements_of lines) small leads low above is

    by : ((mid : Section) → rank mid < bound → section_from (Some mid) lines ≡ Some next → Comes head (statements_of lines)) → (mid : Option Section) → section_behind (Some section) line ≡ mid → section_from mid lines ≡ Some next → Comes head (statements_of (line ∷ lines))
    by more None is f = absurd (none_some next (sym (no_section lines) ∙ f))
    by more (Some mid) is f = which more mid is f (cases_lt (rank mid) bound)

-- ---- the numbers

number_there : (lines : List TextLine) (head : Head) → head_kinds head ≡ kinds.Number ∷ [] → AreLines lines → Comes head (statements_of lines) → (n : ℕ) × HasNumber lines head n
number_there lines head only h (s, there, same) =
    let st = All-contains (IsStatement (version_of lines)) (statements_of lines) s h.each there in
    let suit = ap (λ ks. all_suit (version_of lines) ks s.operands) (sym (ap head_kinds same ∙ only)) ∙ st.operands in
    let o = one (version_of lines) kinds.Number s.operands refl (λ e. absurd (cc)) suit in
    let list : s.operands ≡ operands.Number (number_of o.x) ∷ [] = o.is ∙ ap (λ x. x ∷ []) (numbers (version_of lines) o.x o.suit) in
    (number_of o.x, subst (Contains (statements_of lines)) (statement_is s head (operands.Number (number_of o.x) ∷ []) same list) there)
  where
    statement_is : (s2 : Statement) (hd : Head) (list : List Operand) → s2.head ≡ hd → s2.operands ≡ list → s2 ≡ record { head = hd; operands = list }
    statement_is s2 hd list p q = ap (λ x. record { head = x; operands = s2.operands }) p ∙ ap (λ x. record { head = hd; operands = x }) q

-- the sizes of lines in their order
record IsFar (lines : List TextLine) : Type 0 where
  next : Section
  is : section_of lines ≡ Some next
  far : 3 ≤ rank next

far_of : (lines : List TextLine) → AreLines lines → IsFar lines
far_of lines h = by (section_of lines) refl h.order
  where
    by : (section : Option Section) → section_of lines ≡ section → has_sizes section ≡ true → IsFar lines
    by (Some sections.Arrays) is e = record { next = sections.Arrays; is = is; far = omega arith }
    by (Some sections.Code) is e = record { next = sections.Code; is = is; far = omega arith }
    by section is e = let f : false ≡ true = e in absurd (cc)

pub spad_there : (lines : List TextLine) → AreLines lines → (n : ℕ) × HasNumber lines heads.Spad n
spad_there lines h = let f = far_of lines h in let far = f.far in number_there lines heads.Spad refl h (comes heads.Spad 2 lines sections.Version f.next (omega arith) spad_leads (omega arith) (omega arith) f.is)

pub memory_there : (lines : List TextLine) → AreLines lines → (n : ℕ) × HasNumber lines heads.Memory n
memory_there lines h = let f = far_of lines h in let far = f.far in number_there lines heads.Memory refl h (comes heads.Memory 3 lines sections.Version f.next (omega arith) memory_leads (omega arith) (omega arith) f.is)
