-- Lines and one more: their sections and their version.
use Rattle.std.proofs.Common.{◌≡◌, ◌⊎◌, inl, inr, ℕ, Bool, true, false, ◌||◌, List, [], ◌∷◌, ◌++◌, Option, Some, None, refl, sym, ap, subst, ◌∙◌, All}
use Rattle.std.specs.Prelude.{if◌then◌else◌}
use Rattle.std.specs.List.{list_any, cons_option}
use Rattle.std.specs.Option.{option_and_then}
use Rattle.std.specs.Str.{bytes_eq}
use Rattle.std.proofs.lemmas.Grind.{flat_map-append}
use Rattle.std.proofs.lemmas.List.{append-nil}
use Rattle.std.proofs.lemmas.List.Folds.{list_any-append}
use Rattle.std.proofs.lemmas.List.Elements.{All-nil, All-cons, All-append, filter_map-append}
use Rattle.venice_isa.specs.declared.instr.Version.{Version}
use Rattle.venice_isa.specs.declared.instr.Version.TheVariants.{One, Two}
use Rattle.venice_asm.specs.declared.head.Head.{Head}
use Rattle.venice_asm.specs.declared.head.Head.TheVariants as heads
use Rattle.venice_asm.specs.declared.head.Kind.TheVariants as kinds
use Rattle.venice_asm.specs.declared.operand.Operand.{Operand}
use Rattle.venice_asm.specs.declared.operand.Operand.TheVariants as operands
use Rattle.venice_asm.specs.declared.phase.Section.{Section}
use Rattle.venice_asm.specs.declared.phase.Section.TheVariants as sections
use Rattle.venice_asm.specs.Lines.{Statement, TextLine, line_words, text_words, is_instr, head_kinds, all_suit, behind_label, behind_head, behind_statement, section_from, section_of, statements_of, is_version, version_of, has_head, IsStatement}
use Rattle.venice_asm.specs.Spelling.{head_word}
use Rattle.venice_asm.proofs.Registers.{none_some, some_is}

-- ---- lines and one more

pub statements_push : (lines : List TextLine) (line : TextLine) → statements_of (lines ++ line ∷ []) ≡ statements_of lines ++ cons_option line.statement []
statements_push lines line = filter_map-append (λ (l : TextLine). l.statement) lines (line ∷ [])

pub words_push : (lines : List TextLine) (line : TextLine) → text_words (lines ++ line ∷ []) ≡ text_words lines ++ line_words line
words_push lines line = flat_map-append line_words lines (line ∷ []) ∙ ap (λ rest. text_words lines ++ rest) (append-nil (line_words line))

abbrev pub section_behind : Option Section → TextLine → Option Section
section_behind section line = option_and_then (behind_statement line.statement) (option_and_then (behind_label line.label) section)

pub section_on : (section : Option Section) (lines more : List TextLine) → section_from section (lines ++ more) ≡ section_from (section_from section lines) more
section_on section [] more = refl
section_on section (line ∷ lines) more = section_on (section_behind section line) lines more

pub section_push : (lines : List TextLine) (line : TextLine) → section_of (lines ++ line ∷ []) ≡ section_behind (section_of lines) line
section_push lines line = section_on (Some sections.Version) lines (line ∷ [])

pub no_section : (lines : List TextLine) → section_from None lines ≡ None
no_section [] = refl
no_section (line ∷ lines) = no_section lines

-- ---- the version stands first

abbrev pub is_later : Section → Bool
is_later sections.Version = false
is_later section = true

later_is : (one other : Section) → Some one ≡ Some other → is_later one ≡ true → is_later other ≡ true
later_is one other e h = ap is_later (sym (some_is one other e)) ∙ h

-- the version stands in the first section alone, and another follows it
pub record Follows_head (head : Head) (section next : Section) : Type 0 where
  pub later : is_later next ≡ true
  pub first : is_version head ≡ true → section ≡ sections.Version

if_instr : (head : Head) (section next : Section) → (b : Bool) → is_instr head ≡ b → (if b then Some sections.Code else None) ≡ Some next → Follows_head head section next
if_instr head section next true is e = record { later = later_is sections.Code next e refl; first = λ v. absurd (no_instr head v is) }
  where
    no_instr : (h : Head) → is_version h ≡ true → is_instr h ≡ true → ⊥
    no_instr heads.Version v i = let f : false ≡ true = i in absurd (cc)
    no_instr h v i = let f : false ≡ true = v in absurd (cc)
if_instr head section next false is e = absurd (none_some next e)

pub follows_head : (head : Head) (section next : Section) → behind_head head section ≡ Some next → Follows_head head section next
follows_head heads.Version sections.Version next e = record { later = later_is sections.Spad next e refl; first = λ v. refl }
follows_head heads.Spad sections.Version next e = record { later = later_is sections.Memory next e refl; first = λ v. let f : false ≡ true = v in absurd (cc) }
follows_head heads.Spad sections.Spad next e = record { later = later_is sections.Memory next e refl; first = λ v. let f : false ≡ true = v in absurd (cc) }
follows_head heads.Memory sections.Memory next e = record { later = later_is sections.Arrays next e refl; first = λ v. let f : false ≡ true = v in absurd (cc) }
follows_head heads.Array sections.Arrays next e = record { later = later_is sections.Arrays next e refl; first = λ v. let f : false ≡ true = v in absurd (cc) }
follows_head head sections.Arrays next e = if_instr head sections.Arrays next (is_instr head) refl e
follows_head head sections.Code next e = if_instr head sections.Code next (is_instr head) refl e
follows_head head section next e = absurd (none_some next e)

label_later : (label : Option (List ℕ)) (section next : Section) → behind_label label section ≡ Some next → (next ≡ section) ⊎ ((is_later section ≡ true) × (is_later next ≡ true))
label_later None section next e = inl (sym (some_is section next e))
label_later (Some name) sections.Arrays next e = inr (refl, later_is sections.Code next e refl)
label_later (Some name) sections.Code next e = inr (refl, later_is sections.Code next e refl)
label_later (Some name) section next e = absurd (none_some next e)

-- an option that gives something
pub record Gives {A B : Type 0} (f : A → Option B) (found : Option A) (b : B) : Type 0 where
  pub item : A
  pub found_is : found ≡ Some item
  pub is : f item ≡ Some b

pub gives : {A B : Type 0} (f : A → Option B) (found : Option A) (b : B) → option_and_then f found ≡ Some b → Gives f found b
gives f None b e = absurd (none_some b e)
gives f (Some item) b e = record { item = item; found_is = refl; is = e }

-- a line behind a later section: the next is later, and the line isn't the version's
line_later : (section next : Section) (line : TextLine) → is_later section ≡ true → section_behind (Some section) line ≡ Some next → (is_later next ≡ true) × (list_any (λ (s : Statement). is_version s.head) (cons_option line.statement []) ≡ false)
line_later section next line h e = by line.statement (gives (behind_statement line.statement) (behind_label line.label section) next e)
  where
    later_mid : (mid : Section) → behind_label line.label section ≡ Some mid → is_later mid ≡ true
    later_mid mid e = from (label_later line.label section mid e)
      where
        from : (mid ≡ section) ⊎ ((is_later section ≡ true) × (is_later mid ≡ true)) → is_later mid ≡ true
        from (inl same) = ap is_later same ∙ h
        from (inr both) = both.1

    by : (statement : Option Statement) → Gives (behind_statement statement) (behind_label line.label section) next → (is_later next ≡ true) × (list_any (λ (s : Statement). is_version s.head) (cons_option statement []) ≡ false)
    by None g = (later_is g.item next g.is (later_mid g.item g.found_is), refl)
    by (Some s) g =
        let f = follows_head s.head g.item next g.is in
        (f.later, other (is_version s.head) refl)
      where
        other : (b : Bool) → is_version s.head ≡ b → (b || false) ≡ false
        other false is = refl
        other true is =
            let f = follows_head s.head g.item next g.is in
            let mid = later_mid g.item g.found_is in
            let wrong : false ≡ true = sym (ap is_later (f.first is)) ∙ mid in
            absurd (cc)

-- behind a later section no line is the version's, and another follows
pub record IsBehindLater (lines : List TextLine) (next : Section) : Type 0 where
  pub later : is_later next ≡ true
  pub none : list_any (λ (s : Statement). is_version s.head) (statements_of lines) ≡ false

with_statement : (statement : Option Statement) (rest : List Statement) → list_any (λ (s : Statement). is_version s.head) (cons_option statement []) ≡ false → list_any (λ (s : Statement). is_version s.head) rest ≡ false → list_any (λ (s : Statement). is_version s.head) (cons_option statement rest) ≡ false
with_statement None rest here none = none
with_statement (Some s) rest here none = two (is_version s.head) here
  where
    two : (b : Bool) → (b || false) ≡ false → (b || list_any (λ (t : Statement). is_version t.head) rest) ≡ false
    two true f = let wrong : true ≡ false = f in absurd (cc)
    two false f = none

pub none_later : (lines : List TextLine) (section next : Section) → is_later section ≡ true → section_from (Some section) lines ≡ Some next → IsBehindLater lines next
none_later [] section next h e = record { later = later_is section next e h; none = refl }
none_later (line ∷ lines) section next h e = by (λ mid l f. none_later lines mid next l f) (section_behind (Some section) line) refl e
  where
    by : ((mid : Section) → is_later mid ≡ true → section_from (Some mid) lines ≡ Some next → IsBehindLater lines next) → (mid : Option Section) → section_behind (Some section) line ≡ mid → section_from mid lines ≡ Some next → IsBehindLater (line ∷ lines) next
    by more None is f = absurd (none_some next (sym (no_section lines) ∙ f))
    by more (Some mid) is f =
        let here = line_later section mid line h is in
        let rest = more mid here.0 f in
        record { later = rest.later; none = with_statement line.statement (statements_of lines) here.1 rest.none }

-- before the first section ends no statement stands
no_statements : (lines : List TextLine) (section : Section) → section_from (Some section) lines ≡ Some sections.Version → statements_of lines ≡ []
no_statements [] section e = refl
no_statements (line ∷ lines) section e = by (λ mid f. no_statements lines mid f) (section_behind (Some section) line) refl e
  where
    split : (mid : Section) (statement : Option Statement) → Gives (behind_statement statement) (behind_label line.label section) mid → section_from (Some mid) lines ≡ Some sections.Version → statements_of lines ≡ [] → cons_option statement (statements_of lines) ≡ []
    split mid None g f rest = rest
    split mid (Some s) g f rest =
        let later = (none_later lines mid sections.Version (follows_head s.head g.item mid g.is).later f).later in
        let wrong : false ≡ true = later in
        absurd (cc)

    by : ((mid : Section) → section_from (Some mid) lines ≡ Some sections.Version → statements_of lines ≡ []) → (mid : Option Section) → section_behind (Some section) line ≡ mid → section_from mid lines ≡ Some sections.Version → statements_of (line ∷ lines) ≡ []
    by more None is f = absurd (none_some sections.Version (sym (no_section lines) ∙ f))
    by more (Some mid) is f = split mid line.statement (gives (behind_statement line.statement) (behind_label line.label section) mid is) f (more mid f)

-- ---- lines so far

pub record Fine (lines : List TextLine) : Type 0 where
  pub section : Section
  pub order : section_of lines ≡ Some section
  pub each : All (IsStatement (version_of lines)) (statements_of lines)

any_version : List Statement → Bool
any_version statements = list_any (λ (s : Statement). is_version s.head) statements

pub same_version : (lines : List TextLine) (line : TextLine) → list_any (λ (s : Statement). is_version s.head) (cons_option line.statement []) ≡ false → version_of (lines ++ line ∷ []) ≡ version_of lines
same_version lines line none =
    ap (λ b. if b then Two else One)
    (ap (list_any (λ (s : Statement). is_version s.head)) (statements_push lines line)
    ∙ list_any-append (λ (s : Statement). is_version s.head) (statements_of lines) (cons_option line.statement [])
    ∙ ap (λ b. list_any (λ (s : Statement). is_version s.head) (statements_of lines) || b) none
    ∙ or_false (list_any (λ (s : Statement). is_version s.head) (statements_of lines)))
  where
    or_false : (b : Bool) → (b || false) ≡ b
    or_false true = refl
    or_false false = refl

-- the words of the version's line are those of both versions
pub version_statement : (version : Version) (s : Statement) → is_version s.head ≡ true → IsStatement version s → (other : Version) → IsStatement other s
version_statement version s is h other = record { head = has s.head is; operands = by s.head is s.operands h.operands }
  where
    has : (head : Head) → is_version head ≡ true → has_head other head ≡ true
    has heads.Tag v = let e : false ≡ true = v in absurd (cc)
    has heads.Twait v = let e : false ≡ true = v in absurd (cc)
    has head v = refl

    number : (operand : Operand) (rest : List Operand) → all_suit version (kinds.Version ∷ []) (operand ∷ rest) ≡ true → all_suit other (kinds.Version ∷ []) (operand ∷ rest) ≡ true
    number (operands.Number n) [] g = refl
    number (operands.Number n) (o ∷ os) g = let e : false ≡ true = g in absurd (cc)
    number operand rest g = let e : false ≡ true = g in absurd (cc)

    only : (os : List Operand) → all_suit version (kinds.Version ∷ []) os ≡ true → all_suit other (kinds.Version ∷ []) os ≡ true
    only [] g = let e : false ≡ true = g in absurd (cc)
    only (operand ∷ rest) g = number operand rest g

    by : (head : Head) → is_version head ≡ true → (os : List Operand) → all_suit version (head_kinds head) os ≡ true → all_suit other (head_kinds head) os ≡ true
    by heads.Version v os g = only os g
    by head v os g = let e : false ≡ true = v in absurd (cc)

-- the statement of a line, if it has one, is of the version of the lines before
abbrev pub StatementFits : Version → Option Statement → Type 0
StatementFits version None = Unit {0}
StatementFits version (Some s) = IsStatement version s

pub fine_push : (lines : List TextLine) (line : TextLine) (next : Section) → Fine lines → section_behind (section_of lines) line ≡ Some next → StatementFits (version_of lines) line.statement → Fine (lines ++ line ∷ [])
fine_push lines line next fine order fits = record {
  section = next;
  order = section_push lines line ∙ order;
  each = subst (All (IsStatement (version_of (lines ++ line ∷ [])))) (sym (statements_push lines line)) (by line.statement refl fits);
}
  where
    order_here : section_behind (Some fine.section) line ≡ Some next
    order_here = ap (λ o. section_behind o line) (sym fine.order) ∙ order

    kept : version_of (lines ++ line ∷ []) ≡ version_of lines → All (IsStatement (version_of (lines ++ line ∷ []))) (statements_of lines)
    kept same = subst (λ v. All (IsStatement v) (statements_of lines)) (sym same) fine.each

    by : (statement : Option Statement) → line.statement ≡ statement → StatementFits (version_of lines) statement → All (IsStatement (version_of (lines ++ line ∷ []))) (statements_of lines ++ cons_option statement [])
    by None is f =
        let same = same_version lines line (ap (λ s. list_any (λ (t : Statement). is_version t.head) (cons_option s [])) is) in
        subst (All (IsStatement (version_of (lines ++ line ∷ [])))) (sym (append-nil (statements_of lines))) (kept same)
    by (Some s) is f = which (is_version s.head) refl
      where
        V : Version
        V = version_of (lines ++ line ∷ [])

        which : (b : Bool) → is_version s.head ≡ b → All (IsStatement (version_of (lines ++ line ∷ []))) (statements_of lines ++ s ∷ [])
        which false no_version =
            let none : list_any (λ (t : Statement). is_version t.head) (cons_option line.statement []) ≡ false =
            ap (λ x. list_any (λ (t : Statement). is_version t.head) (cons_option x [])) is ∙ ap (λ b. b || false) no_version in
            let same = same_version lines line none in
            All-append (IsStatement (version_of (lines ++ line ∷ []))) (statements_of lines) (s ∷ []) (kept same)
            (All-cons (IsStatement (version_of (lines ++ line ∷ []))) s [] (subst (λ v. IsStatement v s) (sym same) f) (All-nil (IsStatement (version_of (lines ++ line ∷ [])))))
        which true a_version =
            let g = gives (behind_statement line.statement) (behind_label line.label fine.section) next order_here in
            let at : behind_head s.head g.item ≡ Some next = ap (λ x. behind_statement x g.item) (sym is) ∙ g.is in
            let first : g.item ≡ sections.Version = (follows_head s.head g.item next at).first a_version in
            let here : fine.section ≡ sections.Version = back (label_later line.label fine.section g.item g.found_is) first in
            let none : statements_of lines ≡ [] = no_statements lines sections.Version (fine.order ∙ ap (λ x. Some x) here) in
            subst (λ ss. All (IsStatement (version_of (lines ++ line ∷ []))) (ss ++ s ∷ [])) (sym none)
            (All-cons (IsStatement (version_of (lines ++ line ∷ []))) s [] (version_statement (version_of lines) s a_version f (version_of (lines ++ line ∷ []))) (All-nil (IsStatement (version_of (lines ++ line ∷ [])))))
          where
            back : {mid : Section} → (mid ≡ fine.section) ⊎ ((is_later fine.section ≡ true) × (is_later mid ≡ true)) → mid ≡ sections.Version → fine.section ≡ sections.Version
            back (inl same) e = sym same ∙ e
            back (inr both) e = let wrong : false ≡ true = sym (ap is_later e) ∙ both.1 in absurd (cc)
