-- Each step of the code, and each refusal, is what the text says.
use Rattle.std.proofs.Common.{◌≡◌, ◌≢◌, ℕ, ◌<◌, ◌≤◌, true, List, [], ◌∷◌, ◌++◌, length, map, Option, Some, None, refl, sym, ap, subst, ◌∙◌, arith}
use Rattle.std.specs.Prelude.{if◌then◌else◌, IsTrue}
use Rattle.std.specs.List.{list_all}
use Rattle.std.specs.Option.{option_map_or}
use Rattle.std.proofs.lemmas.List.{append-nil}
use Rattle.venice_isa.specs.Limits.{instruction_limit}
use Rattle.venice_isa.specs.declared.instr.Version.{Version}
use Rattle.venice_asm.specs.declared.head.Head.{Head}
use Rattle.venice_asm.specs.declared.head.Head.TheVariants as heads
use Rattle.venice_asm.specs.declared.operand.Operand.{Operand}
use Rattle.venice_asm.specs.declared.phase.Opening.{Opening}
use Rattle.venice_asm.specs.declared.phase.Phase.TheVariants as phases
use Rattle.venice_asm.specs.declared.reading.Reading.{Reading}
use Rattle.venice_asm.specs.declared.word.Word.{Word}
use Rattle.venice_asm.specs.declared.word.Word.TheVariants as words
use Rattle.venice_asm.specs.Faults.{AreApart}
use Rattle.venice_asm.specs.Lines.{TextLine, is_instr, head_kinds, is_optional, section_of, version_of}
use Rattle.venice_asm.specs.Meaning.{labels_of}
use Rattle.venice_asm.specs.Reading.{instr_named, kinds_left, State, AfterName, Behind, Stuck, with_line, step}
use Rattle.venice_asm.specs.Parts.{IsWholeInstr}
use Rattle.venice_asm.specs.Steps.{Keeps, IsPlaceBehind, AreOperands, IsAt, AtStart, AtName, AtLabel, AtOperand}
use Rattle.venice_asm.proofs.Following.{behind_step, array_labelled, no_labelled_array, label_next, sized, instr_word, instr_opens, IsRight, IsNamed as IsNamedRight, IsBegun, words_of}
use Rattle.venice_asm.proofs.Keeping.{keeps_kept}
use Rattle.venice_asm.specs.Lines.{text_words}
use Rattle.venice_asm.specs.Moves.{IsReady, may_end, TakesBehind, Ends, Grows, TakesInstr, TakesBehindName, TakesColon, TakesNext, TakesIn}
use Rattle.venice_asm.specs.Reading.{with_instr, at_word, at_colon, HasBegun}
use Rattle.venice_asm.specs.Spelling.{head_word}
use Rattle.venice_asm.proofs.Arriving.{push_some, names_with, start_arrives, label_arrives, operand_arrives, entered, keeps_label}
use Rattle.venice_asm.proofs.Cleanness.{IsClean}
use Rattle.venice_asm.proofs.LineEnds.{line_ends}
use Rattle.venice_asm.proofs.Suiting.{suit_end}

-- ---- a step of the code is one of the reader's

at_line : (lines : List TextLine) (label : Option (List ℕ)) (head : Head) (list : List Operand) → list_all is_optional (kinds_left (head_kinds head) list) ≡ true → step (Behind lines label head list) words.Line ≡ with_line lines label (Some (record { head = head; operands = list }))
at_line lines label head list ends = ap (λ b. if b then with_line lines label (Some (record { head = head; operands = list })) else Stuck) ends

behind_arrives : (text : List ℕ) (lines : List TextLine) (label : Option (List ℕ)) (head : Head) (old new : Reading) (word : Word) (at last_at : ℕ) → IsBegun lines label head old.operands.items → AreOperands text lines label head old.operands.items last_at → (is_instr head ≡ true → length old.instrs.items < instruction_limit) → Keeps text lines label old
    → IsPlaceBehind text (words_of (Behind lines label head old.operands.items)) at → TakesBehind head last_at word at old new → IsAt text new (step (Behind lines label head old.operands.items) word)
behind_arrives text lines label head old new word at last_at b os room h place (Grows g) = operand_arrives text lines label head old new word at last_at os room h place g
behind_arrives text lines label head old new word at last_at b os room h place (Ends is ends e) =
    let list = old.operands.items in
    subst (IsAt text new) (sym (ap (step (Behind lines label head list)) is ∙ at_line lines label head list ends))
    (AtStart (lines ++ (record { label = label; statement = Some (record { head = head; operands = list }) }) ∷ []) e.phase
    (line_ends text lines label head list last_at (record old { phase = phases.Start }) new
    (record { opens = b.opens; suit = suit_end (version_of lines) (head_kinds head) list b.suit ends; operands = os; keeps = rephased; room = room }) refl e.adds))
  where
    rephased : Keeps text lines label (record old { phase = phases.Start })
    rephased = record {
      ranges = h.ranges;
      version = h.version;
      section = h.section;
      spad = h.spad;
      memory = h.memory;
      arrays = h.arrays;
      array_count = h.array_count;
      labels = h.labels;
      apart = h.apart;
      instrs = h.instrs;
      few = h.few;
      references = h.references;
    }

-- the word of arrays is a label
colon_arrives : (text : List ℕ) (lines : List TextLine) (label : Option (List ℕ)) (head : Head) (old new : Reading) → IsBegun lines label head old.operands.items → Keeps text lines label old → TakesColon head old new → IsAt text new (at_colon lines label head old.operands.items)
colon_arrives text lines label head old new b h t =
    let begun = subst (λ os. IsBegun lines label heads.Array os) t.is.alone (subst (λ hd. IsBegun lines label hd old.operands.items) t.is.head_is b) in
    subst (λ hd. IsAt text new (at_colon lines label hd old.operands.items)) (sym t.is.head_is)
    (subst (λ os. IsAt text new (at_colon lines label heads.Array os)) (sym t.is.alone) (by label begun h))
  where
    by : (lb : Option (List ℕ)) → IsBegun lines lb heads.Array [] → Keeps text lines lb old → IsAt text new (at_colon lines lb heads.Array [])
    by None bg k = AtLabel lines (head_word heads.Array) t.takes.phase (keeps_label text lines (head_word heads.Array) old new (array_labelled lines [] bg).order k t.takes)
    by (Some name) bg k = absurd (no_labelled_array lines name [] bg)

next_arrives : (text : List ℕ) (lines : List TextLine) (label : Option (List ℕ)) (head : Head) (old new : Reading) (word : Word) (at last_at : ℕ) → IsBegun lines label head old.operands.items → AreOperands text lines label head old.operands.items last_at → (is_instr head ≡ true → length old.instrs.items < instruction_limit) → Keeps text lines label old
    → IsPlaceBehind text (words_of (Behind lines label head old.operands.items)) at → TakesNext head last_at word at old new → IsAt text new (step (Behind lines label head old.operands.items) word)
next_arrives text lines label head old new words.Colon at last_at b os room h place t = colon_arrives text lines label head old new b h t
next_arrives text lines label head old new (words.Name bytes) at last_at b os room h place t = behind_arrives text lines label head old new (words.Name bytes) at last_at b os room h place t
next_arrives text lines label head old new (words.Number n) at last_at b os room h place t = behind_arrives text lines label head old new (words.Number n) at last_at b os room h place t
next_arrives text lines label head old new words.Open at last_at b os room h place t = behind_arrives text lines label head old new words.Open at last_at b os room h place t
next_arrives text lines label head old new words.Comma at last_at b os room h place t = behind_arrives text lines label head old new words.Comma at last_at b os room h place t
next_arrives text lines label head old new words.Close at last_at b os room h place t = behind_arrives text lines label head old new words.Close at last_at b os room h place t
next_arrives text lines label head old new words.Line at last_at b os room h place t = behind_arrives text lines label head old new words.Line at last_at b os room h place t

-- the state behind an instruction's word
pub named_is : (lines : List TextLine) (label : Option (List ℕ)) (name : List ℕ) (head : Head) (version : Version) → version ≡ version_of lines → instr_named version name ≡ Some head → with_instr lines label name ≡ Behind lines label head []
named_is lines label name head version same is = ap (λ (found : Option Head). option_map_or (λ (hd : Head). Behind lines label hd []) found Stuck) (ap (λ v. instr_named v name) (sym same) ∙ is)

-- another word than `:` behind a name is one behind its instruction's word
pub named_step : (lines : List TextLine) (name : List ℕ) (word : Word) → word ≢ words.Colon → step (AfterName lines name) word ≡ at_word (with_instr lines None name) word
named_step lines name words.Colon other = absurd (other refl)
named_step lines name (words.Name bytes) other = refl
named_step lines name (words.Number n) other = refl
named_step lines name words.Open other = refl
named_step lines name words.Comma other = refl
named_step lines name words.Close other = refl
named_step lines name words.Line other = refl

-- what is known of the name at a line's start
pub record IsAtName (text : List ℕ) (lines : List TextLine) (name : List ℕ) (at : ℕ) (old : Reading) : Type 0 where
  pub right : IsNamedRight lines name
  pub place : IsPlaceBehind text (text_words lines) at
  pub keeps : Keeps text lines None old

instr_begun : (lines : List TextLine) (name : List ℕ) (head : Head) → IsNamedRight lines name → instr_named (version_of lines) name ≡ Some head → IsBegun lines None head []
instr_begun lines name head h is = record { opens = instr_opens lines name head h (instr_word (version_of lines) name head is); suit = refl }

instr_arrives : (text : List ℕ) (lines : List TextLine) (opening : Opening) (old new : Reading) (word : Word) (at : ℕ) → word ≢ words.Colon → IsAtName text lines opening.name opening.at old → IsPlaceBehind text (words_of (AfterName lines opening.name)) at → TakesInstr opening word at old new → IsAt text new (step (AfterName lines opening.name) word)
instr_arrives text lines opening old new word at other n place t =
    let named : instr_named (version_of lines) opening.name ≡ Some t.head = ap (λ v. instr_named v opening.name) (sym n.keeps.version) ∙ t.is.named in
    let here = entered text lines None t.head opening.at old t.mid n.keeps (λ instr. t.is.room) t.entered in
    let begun = instr_begun lines opening.name t.head n.right named in
    let spelled = (instr_word (version_of lines) opening.name t.head named).spelled in
    let empty = t.entered.operands in
    let arrived = behind_arrives text lines None t.head t.mid new word at opening.at (subst (λ os. IsBegun lines None t.head os) (sym empty) begun)
    (subst (λ os. AreOperands text lines None t.head os opening.at) (sym empty) (record { ranges = refl; last = λ front target is. absurd (push_some front target is) }))
    (λ instr. subst (λ is. length is < instruction_limit) (sym t.entered.kept.code.instrs) t.is.room)
    (keeps_kept text lines None old t.mid t.entered.kept n.keeps)
    (subst (λ os. IsPlaceBehind text (words_of (Behind lines None t.head os)) at) (sym empty) (subst (λ w. IsPlaceBehind text (text_words lines ++ words.Name w ∷ []) at) (sym spelled) place))
    t.takes in
    subst (IsAt text new)
    (ap (λ os. step (Behind lines None t.head os) word) empty ∙ behind_step lines None t.head [] word other ∙ ap (λ s. at_word s word) (sym (named_is lines None opening.name t.head (version_of lines) refl named)) ∙ sym (named_step lines opening.name word other))
    arrived

name_arrives : (text : List ℕ) (lines : List TextLine) (opening : Opening) (old new : Reading) (word : Word) (at : ℕ) → IsAtName text lines opening.name opening.at old → IsPlaceBehind text (words_of (AfterName lines opening.name)) at → TakesBehindName opening word at old new → IsAt text new (step (AfterName lines opening.name) word)
name_arrives text lines opening old new words.Colon at n place t =
    AtLabel lines opening.name t.phase (keeps_label text lines opening.name old new (label_next (section_of lines) opening.name (sized (section_of lines) n.right.sizes) n.right.no_head) n.keeps t)
name_arrives text lines opening old new (words.Name bytes) at n place t = instr_arrives text lines opening old new (words.Name bytes) at (λ e. absurd (cc)) n place t
name_arrives text lines opening old new (words.Number m) at n place t = instr_arrives text lines opening old new (words.Number m) at (λ e. absurd (cc)) n place t
name_arrives text lines opening old new words.Open at n place t = instr_arrives text lines opening old new words.Open at (λ e. absurd (cc)) n place t
name_arrives text lines opening old new words.Comma at n place t = instr_arrives text lines opening old new words.Comma at (λ e. absurd (cc)) n place t
name_arrives text lines opening old new words.Close at n place t = instr_arrives text lines opening old new words.Close at (λ e. absurd (cc)) n place t
name_arrives text lines opening old new words.Line at n place t = instr_arrives text lines opening old new words.Line at (λ e. absurd (cc)) n place t

pub arrives : (text : List ℕ) (s : State) (old new : Reading) (word : Word) (at : ℕ) → IsRight s → IsAt text old s → IsPlaceBehind text (words_of s) at → TakesIn old.phase word at old new → IsAt text new (step s word)
arrives text _ old new word at right (AtStart lines phase h) place t = start_arrives text lines old new word at phase h place (subst (λ p. TakesIn p word at old new) phase t)
arrives text _ old new word at right (AtName lines name begun phase there h) place t =
    name_arrives text lines (record { name = name; at = begun }) old new word at (record { right = right; place = there; keeps = h }) place (subst (λ p. TakesIn p word at old new) phase t)
arrives text _ old new word at right (AtLabel lines name phase h) place t = label_arrives text lines name old new word at h (subst (λ p. TakesIn p word at old new) phase t)
arrives text _ old new word at right (AtOperand lines label head last phase os room h) place t =
    next_arrives text lines label head old new word at last right os room h place (subst (λ p. TakesIn p word at old new) phase t)

-- ---- the reading is clean, and ready

pub clean_at : (text : List ℕ) (r : Reading) (s : State) → IsAt text r s → IsClean s
clean_at text r _ (AtStart lines phase h) = record { ranged = h.ranges; few = subst (λ n. n ≤ instruction_limit) h.instrs.count h.few; apart = subst AreApart (ap (map (λ (pair : List ℕ × ℕ). pair.0)) (append-nil (labels_of lines))) h.apart }
clean_at text r _ (AtName lines name at phase place h) = record { ranged = h.ranges; few = subst (λ n. n ≤ instruction_limit) h.instrs.count h.few; apart = subst AreApart (ap (map (λ (pair : List ℕ × ℕ). pair.0)) (append-nil (labels_of lines))) h.apart }
clean_at text r _ (AtLabel lines name phase h) = record { ranged = h.ranges; few = subst (λ n. n ≤ instruction_limit) h.instrs.count h.few; apart = subst AreApart (names_with lines (Some name)) h.apart }
clean_at text r _ (AtOperand lines label head at phase os room h) = record {
  ranged = (h.ranges, os.ranges);
  few = (subst (λ n. n ≤ instruction_limit) h.instrs.count h.few, λ instr. subst (λ n. n < instruction_limit) h.instrs.count (room instr));
  apart = subst AreApart (names_with lines label) h.apart;
}

pub ready_at : (text : List ℕ) (r : Reading) (s : State) → IsRight s → IsAt text r s → IsReady r
ready_at text r _ right (AtStart lines phase h) = record {
  room = record { few = h.few; arrays = let count = h.array_count in omega arith };
  begun = λ head at is. absurd (start_behind head at (sym phase ∙ is));
  whole = λ head at is. absurd (start_behind head at (sym phase ∙ is));
}
  where
    start_behind : (head : Head) (at : ℕ) → phases.Start ≡ phases.Behind head at → ⊥
    start_behind head at e = cc
ready_at text r _ right (AtName lines name begun phase place h) = record {
  room = record { few = h.few; arrays = let count = h.array_count in omega arith };
  begun = λ head at is. absurd (name_behind head at (sym phase ∙ is));
  whole = λ head at is. absurd (name_behind head at (sym phase ∙ is));
}
  where
    name_behind : (head : Head) (at : ℕ) → phases.AfterName (record { name = name; at = begun }) ≡ phases.Behind head at → ⊥
    name_behind head at e = cc
ready_at text r _ right (AtLabel lines name phase h) = record {
  room = record { few = h.few; arrays = let count = h.array_count in omega arith };
  begun = λ head at is. absurd (label_behind head at (sym phase ∙ is));
  whole = λ head at is. absurd (label_behind head at (sym phase ∙ is));
}
  where
    label_behind : (head : Head) (at : ℕ) → phases.AfterLabel ≡ phases.Behind head at → ⊥
    label_behind head at e = cc
ready_at text r _ right (AtOperand lines label head at phase os room h) = record {
  room = record { few = h.few; arrays = let count = h.array_count in omega arith };
  begun = λ hd place is. subst (λ x. HasBegun x r.operands.items) (same_head hd place (sym phase ∙ is)) (record { version = version_of lines; suit = right.suit });
  whole = λ hd place is. subst (λ x. IsTrue (is_instr x) → may_end x r ≡ true → IsWholeInstr x r.operands.items) (same_head hd place (sym phase ∙ is))
      (λ instr ends. record { version = version_of lines; instr = instr; suit = suit_end (version_of lines) (head_kinds head) r.operands.items right.suit ends; ranges = os.ranges });
}
  where
    same_head : (hd : Head) (place : ℕ) → phases.Behind head at ≡ phases.Behind hd place → head ≡ hd
    same_head hd place e = cc
