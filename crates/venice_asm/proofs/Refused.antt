-- A word that the code refuses is the first fault of the text.
use Rattle.std.proofs.Common.{◌≡◌, ◌≢◌, ℕ, true, List, [], ◌∷◌, ◌++◌, Option, Some, None, refl, sym, ap, subst, ◌∙◌, arith}
use Rattle.std.specs.Option.{option_map_or, option_and_then}
use Rattle.venice_asm.specs.declared.head.Head.{Head}
use Rattle.venice_asm.specs.declared.head.Head.TheVariants as heads
use Rattle.venice_asm.specs.declared.operand.Operand.{Operand}
use Rattle.std.proofs.lemmas.List.{append-nil}
use Rattle.venice_asm.specs.declared.phase.Opening.{Opening}
use Rattle.venice_asm.specs.declared.phase.Section.{Section}
use Rattle.venice_asm.specs.declared.phase.Section.TheVariants as sections
use Rattle.venice_asm.specs.declared.reading.Reading.{Reading}
use Rattle.venice_asm.specs.declared.word.Word.{Word}
use Rattle.venice_asm.specs.declared.word.Word.TheVariants as words
use Rattle.venice_asm.specs.Lines.{TextLine, behind_label, section_of, has_sizes, version_of}
use Rattle.venice_asm.specs.Reading.{instr_named, State, Start, AfterName, AfterLabel, Behind, Stuck, step}
use Rattle.venice_asm.specs.Steps.{Keeps, IsAt, AtStart, AtName, AtLabel, AtOperand}
use Rattle.venice_asm.proofs.Following.{behind_step, ColonOutcome, ArrayLabel, NoLabel, colon_outcome, array_section, no_labelled_array, no_label, IsBegun, IsRight, words_of}
use Rattle.venice_asm.proofs.Opening.{no_labels_before}
use Rattle.venice_asm.proofs.Registers.{none_some, some_is}
use Rattle.std.specs.Prelude.{Result}
use Rattle.ven_io.specs.declared.token.Token.{Token}
use Rattle.ven_io.specs.declared.token.TokenFault.{TokenFault}
use Rattle.ven_io.specs.Tokens.{IsBehind, TokensTo, place_of}
use Rattle.venice_asm.specs.declared.fault.AsmFault.{AsmFault}
use Rattle.venice_asm.specs.declared.fault.AsmFault.TheVariants as answers
use Rattle.venice_asm.specs.Faults.{seen, IsRefused, IsAnswered}
use Rattle.venice_asm.specs.Moves.{RefusesFirst, RefusesLabel, IsNoInstr, RefusesInstr, NoInstr, NoOperand, RefusesBehindName, RefusesBehind, IsArrayLabel, RefusesColon, NoArray, NotNew, RefusesNext, RefusesIn}
use Rattle.venice_asm.specs.Reading.{at_word, at_colon, run}
use Rattle.venice_asm.specs.Spelling.{head_word}
use Rattle.venice_asm.specs.Meaning.{labels_of, number_among}
use Rattle.venice_asm.specs.Words.{language}
use Rattle.venice_asm.proofs.Cleanness.{IsClean}
use Rattle.venice_asm.proofs.Refusing.{no_pending, stuck_word, begins_nothing, refused_behind, refused_label, IsAfterName, settled_name, full_name, twice_name}
use Rattle.venice_asm.proofs.Turning.{clean_at, named_is, named_step}

-- a word that stands next, in a state of the reader
pub record IsNext (text : List ℕ) (tokens : List Word) (next : Result Token TokenFault) (word : Word) (s : State) (r : Reading) : Type 0 where
  pub behind : IsBehind language text tokens next
  pub is : run tokens ≡ s
  pub right : IsRight s
  pub spelled : words_of s ≡ tokens
  pub at : IsAt text r s
  pub sees : seen text next ≡ Some word
  pub read : word ≡ words.Colon → (to : ℕ) × TokensTo language text 0 (tokens ++ words.Colon ∷ []) to

clean_next : (text : List ℕ) (tokens : List Word) (next : Result Token TokenFault) (word : Word) (s : State) (r : Reading) → IsNext text tokens next word s r → IsClean (run tokens)
clean_next text tokens next word s r n = subst IsClean (sym n.is) (clean_at text r s n.at)

-- ---- at a line's start

refused_first : (text : List ℕ) (tokens : List Word) (next : Result Token TokenFault) (word : Word) (lines : List TextLine) (r : Reading) (fault : AsmFault) → IsNext text tokens next word (Start lines) r → Keeps text lines None r → RefusesFirst r word (place_of next) fault → IsAnswered text fault
refused_first text tokens next word lines r (answers.Unexpected place) n h (at, m) =
    subst (λ p. IsRefused text (answers.Unexpected p)) (sym at)
    (stuck_word text tokens next word n.behind (clean_next text tokens next word (Start lines) r n) (no_pending text tokens (Start lines) n.is (λ ls name e. absurd (cc))) n.sees
    (ap (λ s. step s word) n.is ∙ begins_nothing lines r.section word (sym (no_label (section_of lines)) ∙ h.section) m))
refused_first text tokens next word lines r (answers.FieldRange place) n h m = absurd m
refused_first text tokens next word lines r (answers.LabelTwice place) n h m = absurd m
refused_first text tokens next word lines r (answers.UnknownLabel place) n h m = absurd m
refused_first text tokens next word lines r (answers.Table place) n h m = absurd m
refused_first text tokens next word lines r answers.NoHalt n h m = absurd m
refused_first text tokens next word lines r answers.Memory n h m = absurd m

-- ---- behind a name

refused_twice : (text : List ℕ) (tokens : List Word) (next : Result Token TokenFault) (to : ℕ) (lines : List TextLine) (opening : Opening) (r : Reading) (fault : AsmFault) → IsAfterName text tokens next lines opening r → TokensTo language text 0 (tokens ++ words.Colon ∷ []) to → RefusesLabel r opening fault → IsAnswered text fault
refused_twice text tokens next to lines opening r (answers.LabelTwice place) n read (at, (number, found)) =
    subst (λ p. IsRefused text (answers.LabelTwice p)) (sym at) (twice_name text tokens next to lines opening r n read number found)
refused_twice text tokens next to lines opening r answers.Memory n read m = tt
refused_twice text tokens next to lines opening r (answers.Unexpected place) n read m = absurd m
refused_twice text tokens next to lines opening r (answers.FieldRange place) n read m = absurd m
refused_twice text tokens next to lines opening r (answers.UnknownLabel place) n read m = absurd m
refused_twice text tokens next to lines opening r (answers.Table place) n read m = absurd m
refused_twice text tokens next to lines opening r answers.NoHalt n read m = absurd m

no_colon : (text : List ℕ) (next : Result Token TokenFault) (word : Word) → seen text next ≡ Some word → word ≢ words.Colon → seen text next ≢ Some words.Colon
no_colon text next word sees other e = other (some_is word words.Colon (sym sees ∙ e))

refused_no_instr : (text : List ℕ) (tokens : List Word) (next : Result Token TokenFault) (word : Word) (lines : List TextLine) (opening : Opening) (r : Reading) (fault : AsmFault) → word ≢ words.Colon → seen text next ≡ Some word → IsAfterName text tokens next lines opening r → IsNoInstr r opening.name opening.at (place_of next) fault → IsAnswered text fault
refused_no_instr text tokens next word lines opening r (answers.Unexpected place) other sees n (at, none) =
    let unnamed : instr_named (version_of lines) opening.name ≡ None = ap (λ v. instr_named v opening.name) (sym n.keeps.version) ∙ none in
    subst (λ p. IsRefused text (answers.Unexpected p)) (sym at)
    (stuck_word text tokens next word n.behind (subst IsClean (sym n.at) n.clean)
    (settled_name text tokens next lines opening r n (no_colon text next word sees other) (λ head named full. absurd (none_some head (sym unnamed ∙ named)))) sees
    (ap (λ s. step s word) n.at ∙ named_step lines opening.name word other
    ∙ ap (λ (found : Option Head). at_word (option_map_or (λ (hd : Head). Behind lines None hd []) found Stuck) word) unnamed ∙ refl))
refused_no_instr text tokens next word lines opening r (answers.FieldRange place) other sees n (at, full) =
    subst (λ p. IsRefused text (answers.FieldRange p)) (sym at) (full_name text tokens next lines opening r n (no_colon text next word sees other) full)
refused_no_instr text tokens next word lines opening r (answers.LabelTwice place) other sees n m = absurd m
refused_no_instr text tokens next word lines opening r (answers.UnknownLabel place) other sees n m = absurd m
refused_no_instr text tokens next word lines opening r (answers.Table place) other sees n m = absurd m
refused_no_instr text tokens next word lines opening r answers.NoHalt other sees n m = absurd m
refused_no_instr text tokens next word lines opening r answers.Memory other sees n m = absurd m

refused_instr : (text : List ℕ) (tokens : List Word) (next : Result Token TokenFault) (word : Word) (lines : List TextLine) (opening : Opening) (r : Reading) (fault : AsmFault) → word ≢ words.Colon → seen text next ≡ Some word → IsAfterName text tokens next lines opening r → RefusesInstr opening word (place_of next) r fault → IsAnswered text fault
refused_instr text tokens next word lines opening r fault other sees n (NoInstr m) = refused_no_instr text tokens next word lines opening r fault other sees n m
refused_instr text tokens next word lines opening r fault other sees n (NoOperand head mid is begun m) =
    let named : instr_named (version_of lines) opening.name ≡ Some head = ap (λ v. instr_named v opening.name) (sym n.keeps.version) ∙ is.named in
    refused_behind text tokens next word lines None head mid fault n.behind (subst IsClean (sym n.at) n.clean)
    (settled_name text tokens next lines opening r n (no_colon text next word sees other) (λ hd nm full. let count = n.keeps.instrs.count in let room = is.room in omega arith)) sees
    (begun.kept.code.version ∙ n.keeps.version)
    (ap (λ s. step s word) n.at ∙ named_step lines opening.name word other ∙ ap (λ s. at_word s word) (named_is lines None opening.name head (version_of lines) refl named) ∙ ap (λ os. at_word (Behind lines None head os) word) (sym begun.operands))
    m

refused_after : (text : List ℕ) (tokens : List Word) (next : Result Token TokenFault) (word : Word) (lines : List TextLine) (opening : Opening) (r : Reading) (fault : AsmFault) → (word ≡ words.Colon → (to : ℕ) × TokensTo language text 0 (tokens ++ words.Colon ∷ []) to) → seen text next ≡ Some word → IsAfterName text tokens next lines opening r → RefusesBehindName opening word (place_of next) r fault → IsAnswered text fault
refused_after text tokens next words.Colon lines opening r fault read sees n m = let there = read refl in refused_twice text tokens next there.0 lines opening r fault n there.1 m
refused_after text tokens next (words.Name bytes) lines opening r fault read sees n m = refused_instr text tokens next (words.Name bytes) lines opening r fault (λ e. absurd (cc)) sees n m
refused_after text tokens next (words.Number k) lines opening r fault read sees n m = refused_instr text tokens next (words.Number k) lines opening r fault (λ e. absurd (cc)) sees n m
refused_after text tokens next words.Open lines opening r fault read sees n m = refused_instr text tokens next words.Open lines opening r fault (λ e. absurd (cc)) sees n m
refused_after text tokens next words.Comma lines opening r fault read sees n m = refused_instr text tokens next words.Comma lines opening r fault (λ e. absurd (cc)) sees n m
refused_after text tokens next words.Close lines opening r fault read sees n m = refused_instr text tokens next words.Close lines opening r fault (λ e. absurd (cc)) sees n m
refused_after text tokens next words.Line lines opening r fault read sees n m = refused_instr text tokens next words.Line lines opening r fault (λ e. absurd (cc)) sees n m

-- ---- behind a line's first word

refused_other : (text : List ℕ) (tokens : List Word) (next : Result Token TokenFault) (word : Word) (lines : List TextLine) (label : Option (List ℕ)) (head : Head) (r : Reading) (fault : AsmFault) → word ≢ words.Colon → IsNext text tokens next word (Behind lines label head r.operands.items) r → Keeps text lines label r → RefusesBehind head word (place_of next) r fault → IsAnswered text fault
refused_other text tokens next word lines label head r fault other n h m =
    refused_behind text tokens next word lines label head r fault n.behind (clean_next text tokens next word (Behind lines label head r.operands.items) r n)
    (no_pending text tokens (Behind lines label head r.operands.items) n.is (λ ls name e. absurd (cc))) n.sees h.version
    (ap (λ s. step s word) n.is ∙ behind_step lines label head r.operands.items word other) m

colon_sticks : (lines : List TextLine) (label : Option (List ℕ)) (head : Head) (r : Reading) → (IsArrayLabel head r → ⊥) → at_colon lines label head r.operands.items ≡ Stuck
colon_sticks lines label head r other = by label head r.operands.items (at_colon lines label head r.operands.items) (colon_outcome lines label head r.operands.items) (λ is alone. other (record { head_is = is; alone = alone }))
  where
    by : (lb : Option (List ℕ)) (hd : Head) (os : List Operand) (t : State) → ColonOutcome lines lb hd os t → (hd ≡ heads.Array → os ≡ [] → ⊥) → t ≡ Stuck
    by _ _ _ _ ArrayLabel none = absurd (none refl refl)
    by _ _ _ _ (NoLabel lb hd os) none = refl

-- before code no label has come
no_twice : (text : List ℕ) (lines : List TextLine) (label : Option (List ℕ)) (r : Reading) (number : ℕ) → IsBegun lines label heads.Array [] → Keeps text lines label r → number_among r.labels.entries (head_word heads.Array) ≡ Some number → ⊥
no_twice text lines (Some name) r number b h found = no_labelled_array lines name [] b
no_twice text lines None r number b h found =
    let none : labels_of lines ≡ [] = no_labels_before lines sections.Version sections.Arrays 0 (λ e. absurd (cc)) (array_section lines [] b) in
    let empty : r.labels.entries ≡ [] = h.labels ∙ append-nil (labels_of lines) ∙ none in
    none_some number (sym (ap (λ ls. number_among ls (head_word heads.Array)) empty) ∙ found)

refused_new : (text : List ℕ) (lines : List TextLine) (label : Option (List ℕ)) (at : ℕ) (r : Reading) (fault : AsmFault) → IsBegun lines label heads.Array [] → Keeps text lines label r → RefusesLabel r (record { name = head_word heads.Array; at = at }) fault → IsAnswered text fault
refused_new text lines label at r (answers.LabelTwice place) b h (here, (number, found)) = absurd (no_twice text lines label r number b h found)
refused_new text lines label at r answers.Memory b h m = tt
refused_new text lines label at r (answers.Unexpected place) b h m = absurd m
refused_new text lines label at r (answers.FieldRange place) b h m = absurd m
refused_new text lines label at r (answers.UnknownLabel place) b h m = absurd m
refused_new text lines label at r (answers.Table place) b h m = absurd m
refused_new text lines label at r answers.NoHalt b h m = absurd m

refused_colon : (text : List ℕ) (tokens : List Word) (next : Result Token TokenFault) (lines : List TextLine) (label : Option (List ℕ)) (head : Head) (last : ℕ) (r : Reading) (fault : AsmFault) → IsNext text tokens next words.Colon (Behind lines label head r.operands.items) r → IsBegun lines label head r.operands.items → Keeps text lines label r → RefusesColon head last (place_of next) r fault → IsAnswered text fault
refused_colon text tokens next lines label head last r fault n b h (NoArray is other) =
    subst (IsAnswered text) (sym is)
    (stuck_word text tokens next words.Colon n.behind (clean_next text tokens next words.Colon (Behind lines label head r.operands.items) r n)
    (no_pending text tokens (Behind lines label head r.operands.items) n.is (λ ls name e. absurd (cc))) n.sees (ap (λ s. step s words.Colon) n.is ∙ colon_sticks lines label head r other))
refused_colon text tokens next lines label head last r fault n b h (NotNew is m) =
    refused_new text lines label last r fault (subst (λ os. IsBegun lines label heads.Array os) is.alone (subst (λ hd. IsBegun lines label hd r.operands.items) is.head_is b)) h m

refused_next : (text : List ℕ) (tokens : List Word) (next : Result Token TokenFault) (word : Word) (lines : List TextLine) (label : Option (List ℕ)) (head : Head) (last : ℕ) (r : Reading) (fault : AsmFault) → IsNext text tokens next word (Behind lines label head r.operands.items) r → IsBegun lines label head r.operands.items → Keeps text lines label r → RefusesNext head last word (place_of next) r fault → IsAnswered text fault
refused_next text tokens next words.Colon lines label head last r fault n b h m = refused_colon text tokens next lines label head last r fault n b h m
refused_next text tokens next (words.Name bytes) lines label head last r fault n b h m = refused_other text tokens next (words.Name bytes) lines label head r fault (λ e. absurd (cc)) n h m
refused_next text tokens next (words.Number k) lines label head last r fault n b h m = refused_other text tokens next (words.Number k) lines label head r fault (λ e. absurd (cc)) n h m
refused_next text tokens next words.Open lines label head last r fault n b h m = refused_other text tokens next words.Open lines label head r fault (λ e. absurd (cc)) n h m
refused_next text tokens next words.Comma lines label head last r fault n b h m = refused_other text tokens next words.Comma lines label head r fault (λ e. absurd (cc)) n h m
refused_next text tokens next words.Close lines label head last r fault n b h m = refused_other text tokens next words.Close lines label head r fault (λ e. absurd (cc)) n h m
refused_next text tokens next words.Line lines label head last r fault n b h m = refused_other text tokens next words.Line lines label head r fault (λ e. absurd (cc)) n h m

-- ---- a word

refused_at_state : (text : List ℕ) (tokens : List Word) (next : Result Token TokenFault) (word : Word) (s : State) (r : Reading) (fault : AsmFault) → IsNext text tokens next word s r → IsAt text r s → RefusesIn r.phase word (place_of next) r fault → IsAnswered text fault
refused_at_state text tokens next word _ r fault n (AtStart lines phase h) m =
    refused_first text tokens next word lines r fault n h (subst (λ p. RefusesIn p word (place_of next) r fault) phase m)
refused_at_state text tokens next word _ r fault n (AtName lines name at phase place h) m =
    refused_after text tokens next word lines (record { name = name; at = at }) r fault n.read n.sees
    (record { behind = n.behind; at = n.is; spelled = sym n.spelled; right = n.right; place = place; keeps = h; clean = clean_at text r (AfterName lines name) n.at })
    (subst (λ p. RefusesIn p word (place_of next) r fault) phase m)
refused_at_state text tokens next word _ r fault n (AtLabel lines name phase h) m =
    refused_label text tokens next word lines name r fault n.behind (clean_next text tokens next word (AfterLabel lines name) r n) n.is (sym n.spelled)
    (record { order = has_code (section_of lines) name n.right.order; each = n.right.fine.each }) h n.sees (subst (λ p. RefusesIn p word (place_of next) r fault) phase m)
  where
    has_code : (section : Option Section) (name : List ℕ) → option_and_then (behind_label (Some name)) section ≡ Some sections.Code → has_sizes section ≡ true
    has_code None name e = absurd (none_some sections.Code e)
    has_code (Some sections.Version) name e = absurd (none_some sections.Code e)
    has_code (Some sections.Spad) name e = absurd (none_some sections.Code e)
    has_code (Some sections.Memory) name e = absurd (none_some sections.Code e)
    has_code (Some sections.Arrays) name e = refl
    has_code (Some sections.Code) name e = refl
refused_at_state text tokens next word _ r fault n (AtOperand lines label head last phase os room h) m =
    refused_next text tokens next word lines label head last r fault n n.right h (subst (λ p. RefusesIn p word (place_of next) r fault) phase m)

pub refuses : (text : List ℕ) (tokens : List Word) (next : Result Token TokenFault) (word : Word) (s : State) (r : Reading) (fault : AsmFault) → IsNext text tokens next word s r → RefusesIn r.phase word (place_of next) r fault → IsAnswered text fault
refuses text tokens next word s r fault n m = refused_at_state text tokens next word s r fault n n.at m
