-- Each refusal of the code is the text's first fault.
use Rattle.std.proofs.Common.{◌≡◌, ◌≢◌, ℕ, true, false, List, [], ◌∷◌, ◌++◌, length, Option, Some, None, refl, sym, ap, subst, ◌∙◌, arith, append_assoc}
use Rattle.std.specs.Prelude.{if◌then◌else◌}
use Rattle.std.specs.Option.{option_map_or, option_and_then}
use Rattle.std.proofs.lemmas.List.{append-nil}
use Rattle.venice_isa.specs.Limits.{instruction_limit}
use Rattle.venice_isa.specs.declared.instr.Version.{Version}
use Rattle.venice_asm.specs.declared.head.Head.{Head}
use Rattle.venice_asm.specs.declared.operand.Operand.{Operand}
use Rattle.venice_asm.specs.declared.phase.Opening.{Opening}
use Rattle.venice_asm.specs.declared.phase.Section.{Section}
use Rattle.venice_asm.specs.declared.reading.Reading.{Reading}
use Rattle.venice_asm.specs.declared.word.Word.{Word}
use Rattle.venice_asm.specs.declared.word.Word.TheVariants as words
use Rattle.venice_asm.specs.Lines.{TextLine, head_kinds, behind_label, section_of, has_sizes, version_of}
use Rattle.venice_asm.specs.Meaning.{instrs_of, labels_of, number_among}
use Rattle.venice_asm.specs.Reading.{instr_named, heads_at, kinds_left, State, Start, AfterName, AfterLabel, Behind, Stuck, with_line, step}
use Rattle.venice_asm.specs.Spelling.{head_word, keyword_among}
use Rattle.venice_asm.specs.Fitting.{operand_as}
use Rattle.venice_asm.specs.Steps.{Keeps, IsPlaceBehind}
use Rattle.venice_asm.proofs.Following.{no_label, operand_at, IsNamed as IsNamedRight}
use Rattle.venice_asm.proofs.Registers.{none_some}
use Rattle.std.specs.Prelude.{Result}
use Rattle.ven_io.specs.declared.token.Token.{Token}
use Rattle.ven_io.specs.declared.token.TokenFault.{TokenFault}
use Rattle.ven_io.specs.Tokens.{IsBehind, TokensTo, place_of}
use Rattle.venice_asm.specs.declared.fault.AsmFault.{AsmFault}
use Rattle.venice_asm.specs.declared.fault.AsmFault.TheVariants as answers
use Rattle.venice_asm.specs.declared.head.Kind.{Kind}
use Rattle.venice_asm.specs.Faults.{BeginsWith, seen, NoLines, IsRefused, IsAnswered}
use Rattle.venice_asm.specs.Fitting.{IsOutside}
use Rattle.venice_asm.specs.Lines.{label_words, text_words}
use Rattle.venice_asm.specs.Moves.{BeginsNothing, IsFull, RefusesBehindLabel, IsMisplaced, FitsNone, RefusesBehind}
use Rattle.venice_asm.specs.Reading.{with_instr, at_kinds, at_word, run}
use Rattle.venice_asm.specs.Words.{language}
use Rattle.venice_asm.proofs.Cleanness.{IsClean}
use Rattle.venice_asm.specs.Lines.{AreLines}
use Rattle.venice_asm.proofs.Ahead.{next_word}
use Rattle.venice_asm.proofs.Found.{found_there}
use Rattle.venice_asm.proofs.Opening.{run_push, IsPending, TooManyName, TwiceName}
use Rattle.venice_asm.proofs.Sentences.{begins_goes, IsRanged}
use Rattle.venice_asm.proofs.Suiting.{range_last}
use Rattle.venice_asm.proofs.Texts.{unexpected, out_of_range, too_many, twice, start_at}
use Rattle.venice_asm.proofs.Turning.{named_is}

-- ---- words that don't go on

pub no_pending : (text : List ℕ) (tokens : List Word) (s : State) → run tokens ≡ s → ((lines : List TextLine) (name : List ℕ) → s ≢ AfterName lines name) → IsPending text tokens → ⊥
no_pending text tokens s is other (TooManyName lines name head at named full none) = other lines name (sym is ∙ at)
no_pending text tokens s is other (TwiceName lines name at again begins) = other lines name (sym is ∙ at)

pub stuck_word : (text : List ℕ) (tokens : List Word) (next : Result Token TokenFault) (word : Word) → IsBehind language text tokens next → IsClean (run tokens) → (IsPending text tokens → ⊥) → seen text next ≡ Some word → step (run tokens) word ≡ Stuck → IsRefused text (answers.Unexpected (place_of next))
stuck_word text tokens next word behind clean settled sees stuck =
    unexpected text tokens next behind clean settled (NoLines word sees (λ b. begins_goes (tokens ++ word ∷ []) b (run_push tokens word ∙ stuck)))

-- ---- the start of a line

pub begins_nothing : (lines : List TextLine) (section : Section) (word : Word) → section_of lines ≡ Some section → BeginsNothing section word → step (Start lines) word ≡ Stuck
begins_nothing lines section words.Line is n = absurd n
begins_nothing lines section (words.Name name) is n =
    ap (λ (o : Option Section). option_map_or (λ (head : Head). Behind lines None head []) (keyword_among head_word (heads_at o) name) (if has_sizes o then AfterName lines name else Stuck)) is
    ∙ ap (λ found. option_map_or (λ (head : Head). Behind lines None head []) found (if has_sizes (Some section) then AfterName lines name else Stuck)) n.0
    ∙ ap (λ b. if b then AfterName lines name else Stuck) n.1
begins_nothing lines section (words.Number m) is n = refl
begins_nothing lines section words.Colon is n = refl
begins_nothing lines section words.Open is n = refl
begins_nothing lines section words.Comma is n = refl
begins_nothing lines section words.Close is n = refl

-- ---- operands

pub misplaced_step : (lines : List TextLine) (label : Option (List ℕ)) (head : Head) (r : Reading) (word : Word) → r.version ≡ version_of lines → IsMisplaced head word r → at_word (Behind lines label head r.operands.items) word ≡ Stuck
misplaced_step lines label head r words.Line same m = ap (λ b. if b then with_line lines label (Some (record { head = head; operands = r.operands.items })) else Stuck) (m.ends refl)
misplaced_step lines label head r word same m = by (kinds_left (head_kinds head) r.operands.items) refl m.none
  where
    by : (rest : List Kind) → kinds_left (head_kinds head) r.operands.items ≡ rest → FitsNone r.version rest word → at_kinds (kinds_left (head_kinds head) r.operands.items) lines label head r.operands.items word ≡ Stuck
    by [] left none = ap (λ ks. at_kinds ks lines label head r.operands.items word) left ∙ refl
    by (kind ∷ rest) left none =
        ap (λ ks. at_kinds ks lines label head r.operands.items word) left
        ∙ ap (λ (o : Option Operand). option_map_or (λ (x : Operand). Behind lines label head (r.operands.items ++ x ∷ [])) o Stuck) (ap (λ v. operand_as v kind word) (sym same) ∙ none)

-- the operand there is out of its range
outside_step : (lines : List TextLine) (label : Option (List ℕ)) (head : Head) (r : Reading) (word : Word) (kind : Kind) (more : List Kind) → r.version ≡ version_of lines → kinds_left (head_kinds head) r.operands.items ≡ kind ∷ more → (o : IsOutside r.version kind word) → at_word (Behind lines label head r.operands.items) word ≡ Behind lines label head (r.operands.items ++ o.operand ∷ [])
outside_step lines label head r word kind more same left o = operand_at lines label head r.operands.items kind more word o.operand left (ap (λ v. operand_as v kind word) (sym same) ∙ o.is)

outside_ranged : (lines : List TextLine) (label : Option (List ℕ)) (head : Head) (r : Reading) (word : Word) (kind : Kind) (more : List Kind) → kinds_left (head_kinds head) r.operands.items ≡ kind ∷ more → (o : IsOutside r.version kind word) → IsRanged (Behind lines label head (r.operands.items ++ o.operand ∷ [])) → ⊥
outside_ranged lines label head r word kind more left o ranged =
    let inside = range_last (head_kinds head) r.operands.items kind more o.operand ranged.1 left in
    let wrong : false ≡ true = sym o.outside ∙ inside in
    absurd (cc)

pub no_line : (version : Version) (kind : Kind) (word : Word) (operand : Operand) → operand_as version kind word ≡ Some operand → word ≢ words.Line
no_line version kind words.Line operand is e = absurd (none_some operand is)
no_line version kind (words.Name bytes) operand is e = absurd (cc)
no_line version kind (words.Number n) operand is e = absurd (cc)
no_line version kind words.Colon operand is e = absurd (cc)
no_line version kind words.Open operand is e = absurd (cc)
no_line version kind words.Comma operand is e = absurd (cc)
no_line version kind words.Close operand is e = absurd (cc)

-- behind a line's first word, in a state that is the reader's
pub refused_behind : (text : List ℕ) (tokens : List Word) (next : Result Token TokenFault) (word : Word) (lines : List TextLine) (label : Option (List ℕ)) (head : Head) (r : Reading) (fault : AsmFault) → IsBehind language text tokens next → IsClean (run tokens) → (IsPending text tokens → ⊥) → seen text next ≡ Some word → r.version ≡ version_of lines
    → step (run tokens) word ≡ at_word (Behind lines label head r.operands.items) word → RefusesBehind head word (place_of next) r fault → IsAnswered text fault
refused_behind text tokens next word lines label head r (answers.Unexpected place) behind clean settled sees same is (at, m) =
    subst (λ p. IsRefused text (answers.Unexpected p)) (sym at) (stuck_word text tokens next word behind clean settled sees (is ∙ misplaced_step lines label head r word same m))
refused_behind text tokens next word lines label head r (answers.FieldRange place) behind clean settled sees same is (at, (kind, more, left, o)) =
    let stepped = is ∙ outside_step lines label head r word kind more same left o in
    subst (λ p. IsRefused text (answers.FieldRange p)) (sym at)
    (out_of_range text tokens next word behind clean settled sees (no_line r.version kind word o.operand o.is) (λ stuck. let wrong : Behind lines label head (r.operands.items ++ o.operand ∷ []) ≡ Stuck = sym stepped ∙ stuck in absurd (cc))
    (λ ranged. outside_ranged lines label head r word kind more left o (subst IsRanged stepped ranged)))
refused_behind text tokens next word lines label head r answers.Memory behind clean settled sees same is m = tt
refused_behind text tokens next word lines label head r (answers.LabelTwice place) behind clean settled sees same is m = absurd m
refused_behind text tokens next word lines label head r (answers.UnknownLabel place) behind clean settled sees same is m = absurd m
refused_behind text tokens next word lines label head r (answers.Table place) behind clean settled sees same is m = absurd m
refused_behind text tokens next word lines label head r answers.NoHalt behind clean settled sees same is m = absurd m

-- ---- behind a label

pub full_of : (text : List ℕ) (lines : List TextLine) (label : Option (List ℕ)) (r : Reading) (name : List ℕ) → Keeps text lines label r → IsFull r name → length (instrs_of lines) ≡ instruction_limit
full_of text lines label r name h f = let count = h.instrs.count in let few = h.few in let full = f.full in omega arith

pub named_now : (text : List ℕ) (lines : List TextLine) (label : Option (List ℕ)) (r : Reading) (name : List ℕ) → Keeps text lines label r → (f : IsFull r name) → instr_named (version_of lines) name ≡ Some f.head
named_now text lines label r name h f = ap (λ v. instr_named v name) (sym h.version) ∙ f.named

unnamed_step : (lines : List TextLine) (label : Option (List ℕ)) (name : List ℕ) (version : Version) → version ≡ version_of lines → instr_named version name ≡ None → with_instr lines label name ≡ Stuck
unnamed_step lines label name version same is = ap (λ (found : Option Head). option_map_or (λ (hd : Head). Behind lines label hd []) found Stuck) (ap (λ v. instr_named v name) (sym same) ∙ is)

sizes_are : (section : Option Section) → option_and_then (behind_label None) section ≡ section
sizes_are section = no_label section

pub refused_label : (text : List ℕ) (tokens : List Word) (next : Result Token TokenFault) (word : Word) (lines : List TextLine) (label : List ℕ) (r : Reading) (fault : AsmFault) → IsBehind language text tokens next → IsClean (run tokens) → run tokens ≡ AfterLabel lines label → tokens ≡ text_words lines ++ label_words (Some label) → AreLines lines → Keeps text lines (Some label) r → seen text next ≡ Some word → RefusesBehindLabel r word (place_of next) fault → IsAnswered text fault
refused_label text tokens next words.Line lines label r fault behind clean at spelled are h sees m = absurd m
refused_label text tokens next (words.Name name) lines label r (answers.Unexpected place) behind clean at spelled are h sees (here, none) =
    subst (λ p. IsRefused text (answers.Unexpected p)) (sym here)
    (stuck_word text tokens next (words.Name name) behind clean (no_pending text tokens (AfterLabel lines label) at (λ ls n e. absurd (cc))) sees
    (ap (λ s. step s (words.Name name)) at ∙ unnamed_step lines (Some label) name r.version h.version none))
refused_label text tokens next (words.Name name) lines label r (answers.FieldRange place) behind clean at spelled are h sees (here, f) =
    subst (λ p. IsRefused text (answers.FieldRange p)) (sym here)
    (too_many text tokens next lines (Some label) name f.head behind clean (no_pending text tokens (AfterLabel lines label) at (λ ls n e. absurd (cc))) spelled are sees (named_now text lines (Some label) r name h f) (full_of text lines (Some label) r name h f)
    (λ stuck. let e : Behind lines (Some label) f.head [] ≡ Stuck = sym (ap (λ s. step s (words.Name name)) at ∙ named_is lines (Some label) name f.head r.version h.version f.named) ∙ stuck in absurd (cc))
    (λ e. absurd (cc)))
refused_label text tokens next (words.Name name) lines label r (answers.LabelTwice place) behind clean at spelled are h sees m = absurd m
refused_label text tokens next (words.Name name) lines label r (answers.UnknownLabel place) behind clean at spelled are h sees m = absurd m
refused_label text tokens next (words.Name name) lines label r (answers.Table place) behind clean at spelled are h sees m = absurd m
refused_label text tokens next (words.Name name) lines label r answers.NoHalt behind clean at spelled are h sees m = absurd m
refused_label text tokens next (words.Name name) lines label r answers.Memory behind clean at spelled are h sees m = tt
refused_label text tokens next word lines label r (answers.Unexpected place) behind clean at spelled are h sees here =
    subst (λ p. IsRefused text (answers.Unexpected p)) (sym here)
    (stuck_word text tokens next word behind clean (no_pending text tokens (AfterLabel lines label) at (λ ls n e. absurd (cc))) sees (ap (λ s. step s word) at ∙ refl))
refused_label text tokens next word lines label r (answers.FieldRange place) behind clean at spelled are h sees m = absurd m
refused_label text tokens next word lines label r (answers.LabelTwice place) behind clean at spelled are h sees m = absurd m
refused_label text tokens next word lines label r (answers.UnknownLabel place) behind clean at spelled are h sees m = absurd m
refused_label text tokens next word lines label r (answers.Table place) behind clean at spelled are h sees m = absurd m
refused_label text tokens next word lines label r answers.NoHalt behind clean at spelled are h sees m = absurd m
refused_label text tokens next word lines label r answers.Memory behind clean at spelled are h sees m = tt

-- ---- behind a name

-- the name that begins the line, and what has been read up to it
pub record IsAfterName (text : List ℕ) (tokens : List Word) (next : Result Token TokenFault) (lines : List TextLine) (opening : Opening) (r : Reading) : Type 0 where
  pub behind : IsBehind language text tokens next
  pub at : run tokens ≡ AfterName lines opening.name
  pub spelled : tokens ≡ text_words lines ++ words.Name opening.name ∷ []
  pub right : IsNamedRight lines opening.name
  pub place : IsPlaceBehind text (text_words lines) opening.at
  pub keeps : Keeps text lines None r
  pub clean : IsClean (AfterName lines opening.name)

pub lines_are : (lines : List TextLine) (name : List ℕ) → IsNamedRight lines name → AreLines lines
lines_are lines name h = record { order = h.sizes; each = h.fine.each }

-- what begins there
begins_name : (text : List ℕ) (tokens : List Word) (next : Result Token TokenFault) (lines : List TextLine) (opening : Opening) (r : Reading) → IsAfterName text tokens next lines opening r → BeginsWith text (text_words lines ++ words.Name opening.name ∷ [])
begins_name text tokens next lines opening r n = (n.behind.from, subst (λ ts. TokensTo language text 0 ts n.behind.from) n.spelled n.behind.read)

clean_start : (lines : List TextLine) (name : List ℕ) → IsClean (AfterName lines name) → IsClean (Start lines)
clean_start lines name h = record { ranged = h.ranged; few = h.few; apart = h.apart }

name_goes : (lines : List TextLine) (name : List ℕ) → IsNamedRight lines name → step (Start lines) (words.Name name) ≡ AfterName lines name
name_goes lines name h =
    ap (λ found. option_map_or (λ (head : Head). Behind lines None head []) found (if has_sizes (section_of lines) then AfterName lines name else Stuck)) h.no_head
    ∙ ap (λ b. if b then AfterName lines name else Stuck) h.sizes

-- no fault of the name waits for what stands behind it
pub settled_name : (text : List ℕ) (tokens : List Word) (next : Result Token TokenFault) (lines : List TextLine) (opening : Opening) (r : Reading) → IsAfterName text tokens next lines opening r → seen text next ≢ Some words.Colon → ((head : Head) → instr_named (version_of lines) opening.name ≡ Some head → length (instrs_of lines) ≡ instruction_limit → ⊥) → IsPending text tokens → ⊥
settled_name text tokens next lines opening r n other room (TooManyName ls name head at named full none) =
    room head (subst (λ l. instr_named (version_of l) opening.name ≡ Some head) (sym (same_lines (sym n.at ∙ at))) (subst (λ m. instr_named (version_of ls) m ≡ Some head) (sym (same_names (sym n.at ∙ at))) named)) (subst (λ l. length (instrs_of l) ≡ instruction_limit) (sym (same_lines (sym n.at ∙ at))) full)
  where
    same_lines : {m : List ℕ} {l : List TextLine} → AfterName lines opening.name ≡ AfterName l m → lines ≡ l
    same_lines e = cc

    same_names : {m : List ℕ} {l : List TextLine} → AfterName lines opening.name ≡ AfterName l m → opening.name ≡ m
    same_names e = cc
settled_name text tokens next lines opening r n other room (TwiceName ls name at again begins) = other (next_word text tokens next words.Colon [] n.behind begins)

-- an instruction too many: at the name
pub full_name : (text : List ℕ) (tokens : List Word) (next : Result Token TokenFault) (lines : List TextLine) (opening : Opening) (r : Reading) → IsAfterName text tokens next lines opening r → seen text next ≢ Some words.Colon → IsFull r opening.name → IsRefused text (answers.FieldRange opening.at)
full_name text tokens next lines opening r n other f =
    let start = start_at (text_words lines) lines (lines_are lines opening.name n.right) refl in
    let sees = next_word text (text_words lines) n.place.0 (words.Name opening.name) [] n.place.1 (begins_name text tokens next lines opening r n) in
    subst (λ p. IsRefused text (answers.FieldRange p)) (sym n.place.2)
    (too_many text (text_words lines) n.place.0 lines None opening.name f.head n.place.1 (subst IsClean (sym start) (clean_start lines opening.name n.clean))
    (no_pending text (text_words lines) (Start lines) start (λ ls m e. absurd (cc)))
    (sym (append-nil (text_words lines))) (lines_are lines opening.name n.right) sees (named_now text lines None r opening.name n.keeps f) (full_of text lines None r opening.name n.keeps f)
    (λ stuck. let e : AfterName lines opening.name ≡ Stuck = sym (ap (λ s. step s (words.Name opening.name)) start ∙ name_goes lines opening.name n.right) ∙ stuck in absurd (cc))
    (λ none is_label. other (next_word text tokens next words.Colon [] n.behind
    (subst (BeginsWith text) (sym (ap (λ ts. ts ++ words.Colon ∷ []) n.spelled ∙ append_assoc (text_words lines) (words.Name opening.name ∷ []) (words.Colon ∷ []))) is_label))))

-- a label that comes again: at the name
pub twice_name : (text : List ℕ) (tokens : List Word) (next : Result Token TokenFault) (to : ℕ) (lines : List TextLine) (opening : Opening) (r : Reading) → IsAfterName text tokens next lines opening r → TokensTo language text 0 (tokens ++ words.Colon ∷ []) to → (number : ℕ) → number_among r.labels.entries opening.name ≡ Some number → IsRefused text (answers.LabelTwice opening.at)
twice_name text tokens next to lines opening r n read number found =
    let are = lines_are lines opening.name n.right in
    let start = start_at (text_words lines) lines are refl in
    let sees = next_word text (text_words lines) n.place.0 (words.Name opening.name) [] n.place.1 (begins_name text tokens next lines opening r n) in
    let labels : r.labels.entries ≡ labels_of lines = n.keeps.labels ∙ append-nil (labels_of lines) in
    let goes = ap (λ s. step s (words.Name opening.name)) start ∙ name_goes lines opening.name n.right in
    subst (λ p. IsRefused text (answers.LabelTwice p)) (sym n.place.2)
    (twice text (text_words lines) n.place.0 lines opening.name n.place.1 (subst IsClean (sym start) (clean_start lines opening.name n.clean))
    (no_pending text (text_words lines) (Start lines) start (λ ls m e. absurd (cc)))
    (record { spelled = refl; lines_are = are }) sees
    (to, subst (λ ts. TokensTo language text 0 ts to) (ap (λ ts. ts ++ words.Colon ∷ []) n.spelled ∙ append_assoc (text_words lines) (words.Name opening.name ∷ []) (words.Colon ∷ [])) read)
    (found_there (labels_of lines) opening.name number (ap (λ ls. number_among ls opening.name) (sym labels) ∙ found))
    (subst IsRanged (sym goes) n.clean.ranged))
