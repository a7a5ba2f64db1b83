-- Inner: what has been read of a text, and what a step gives or refuses.
use Rattle.std.specs.Prelude.{◌≡◌, ◌⊎◌, ℕ, ◌+◌, ◌<◌, ◌≤◌, min, Bool, true, false, IsTrue, List, [], ◌∷◌, ◌++◌, map, take, length, slice_get, All, Contains, Option, Some, None, Result}
use Rattle.std.specs.Option.{option_map_or, option_and_then}
use Rattle.ven_io.specs.declared.token.Token.{Token}
use Rattle.ven_io.specs.declared.token.TokenFault.{TokenFault}
use Rattle.ven_io.specs.Tokens.{TokensTo, IsBehind, place_of}
use Rattle.venice_isa.specs.declared.instr.Instr.{Instr}
use Rattle.ven_base.specs.declared.entry.Entry.{Entry}
use Rattle.image_loader.specs.declared.table.EntryPart.{EntryPart}
use Rattle.image_loader.specs.Image.{raw_entry, raw_entries}
use Rattle.ven_base.specs.Limits.{cell_limit, memory_limit}
use Rattle.venice_isa.specs.Limits.{instruction_limit}
use Rattle.image_loader.specs.Table.{RawEntry, LiesIn, array_limit, offset_of, entry_place, IsRight, BreaksFirst}
use Rattle.venice_asm.specs.declared.fault.AsmFault.{AsmFault}
use Rattle.venice_asm.specs.declared.fault.AsmFault.TheVariants as answers
use Rattle.venice_asm.specs.declared.head.Head.{Head}
use Rattle.venice_asm.specs.declared.head.Head.TheVariants as heads
use Rattle.venice_asm.specs.declared.operand.Operand.{Operand}
use Rattle.venice_asm.specs.declared.phase.ArrayLine.{ArrayLine}
use Rattle.venice_asm.specs.declared.phase.Phase.TheVariants as phases
use Rattle.venice_asm.specs.declared.phase.Reference.{Reference}
use Rattle.venice_asm.specs.declared.reading.Reading.{Reading}
use Rattle.venice_asm.specs.declared.word.Word.{Word}
use Rattle.venice_asm.specs.Faults.{AreApart, IsTargetAt, Reads}
use Rattle.venice_asm.specs.Lines.{Statement, TextLine, label_words, statement_words, text_words, behind_label, is_instr, head_kinds, are_in_range, section_of, statements_of, version_of, IsInRange}
use Rattle.venice_asm.specs.Parts.{jump_target, raw_array, target_operand, IsInstrOf}
use Rattle.venice_asm.specs.Meaning.{HasNumber, entries_of, instrs_of, labels_of}
use Rattle.venice_asm.specs.Reading.{State, Start, AfterName, AfterLabel, Behind, run}
use Rattle.venice_asm.specs.Words.{language}

-- the entry is that of an array, and keeps its rules behind others in so much memory
pub record IsEntryOf (memory : ℕ) (earlier : List RawEntry) (array : ArrayLine) (entry : Entry) : Type 0 where
  pub same : raw_entry entry ≡ raw_array array
  pub right : IsRight memory earlier (raw_array array)

-- the first part that breaks a rule, and its place behind the entry's beginning
pub record IsWrongEntry (memory : ℕ) (earlier : List RawEntry) (array : ArrayLine) (start : ℕ)
    (fault : AsmFault) : Type 0 where
  pub part : EntryPart
  pub breaks : BreaksFirst memory earlier (raw_array array) part
  pub answer : fault ≡ answers.Table (start + offset_of part (length array.name))

-- the numbers of the header lie in their ranges
pub record IsGoodHeader (spad memory array_count : ℕ) : Type 0 where
  pub spad_lies : LiesIn 1 cell_limit spad
  pub memory_lies : LiesIn 0 memory_limit memory
  pub arrays_lie : LiesIn 0 array_limit array_count

-- else the place of the first that doesn't
abbrev pub IsBadHeader : (spad memory array_count : ℕ) → AsmFault → Type 0
IsBadHeader spad memory array_count (answers.Table at) =
    ((at ≡ 4) × (¬ LiesIn 1 cell_limit spad))
    ⊎ ((at ≡ 8) × LiesIn 1 cell_limit spad × (¬ LiesIn 0 memory_limit memory))
    ⊎ ((at ≡ 12) × LiesIn 1 cell_limit spad × LiesIn 0 memory_limit memory × (¬ LiesIn 0 array_limit array_count))
IsBadHeader spad memory array_count fault = ⊥

-- the first entries keep their rules
abbrev pub AreRightBefore : ℕ → List RawEntry → ℕ → Type 0
AreRightBefore memory entries end =
    (k : ℕ) (entry : RawEntry) → k < end → slice_get entries k ≡ Some entry → IsRight memory (take k entries) entry

-- the table is that of the arrays, and keeps its rules
pub record IsTableOf (memory : ℕ) (arrays : List RawEntry) (entries : List Entry) : Type 0 where
  pub same : raw_entries entries ≡ arrays
  pub right : AreRightBefore memory arrays (length arrays)

-- the first entry with a part that breaks a rule, and the place of that part
pub record IsWrongTable (memory : ℕ) (arrays : List RawEntry) (at : ℕ) : Type 0 where
  pub k : ℕ
  pub entry : RawEntry
  pub is : slice_get arrays k ≡ Some entry
  pub earlier : AreRightBefore memory arrays k
  pub part : EntryPart
  pub breaks : BreaksFirst memory (take k arrays) entry part
  pub place : at ≡ entry_place arrays k + offset_of part (length entry.name)

abbrev pub IsBadTable : ℕ → List RawEntry → AsmFault → Type 0
IsBadTable memory arrays (answers.Table at) = IsWrongTable memory arrays at
IsBadTable memory arrays answers.Memory = Unit {0}
IsBadTable memory arrays fault = ⊥

-- ---- what the code keeps of lines

-- a number that the lines have is this one
abbrev pub IsNumberOf : List TextLine → Head → ℕ → Type 0
IsNumberOf lines head number = (n : ℕ) → HasNumber lines head n → number ≡ n

-- each instruction is that of its statement
pub record AreInstrs (lines : List TextLine) (instrs : List Instr) : Type 0 where
  pub count : length instrs ≡ length (instrs_of lines)
  pub each : (k : ℕ) (s : Statement) (instr : Instr) → slice_get (instrs_of lines) k ≡ Some s
      → slice_get instrs k ≡ Some instr → IsInstrOf s.head s.operands instr

-- where a reference's target stands, and which instruction's it is
pub record IsReferenceOf (text : List ℕ) (lines : List TextLine) (reference : Reference) : Type 0 where
  pub target : IsTargetAt text lines (target_operand reference.target) reference.at
  pub statement : Statement
  pub instr : slice_get (instrs_of lines) reference.instr ≡ Some statement
  pub jump : jump_target statement.head statement.operands ≡ Some (target_operand reference.target)

-- the references are all the targets, in order
pub record AreReferences (text : List ℕ) (lines : List TextLine) (references : List Reference) : Type 0 where
  pub each : All (IsReferenceOf text lines) references
  pub all : (target : Operand) (at : ℕ) → IsTargetAt text lines target at
      → (reference : Reference) × Contains references reference × (reference.at ≡ at)
      × (target_operand reference.target ≡ target)
  pub jumps : (k : ℕ) (s : Statement) (target : Operand) → slice_get (instrs_of lines) k ≡ Some s
      → jump_target s.head s.operands ≡ Some target
      → (reference : Reference) × Contains references reference × (reference.instr ≡ k)
  pub rising : (j k : ℕ) (one other : Reference) → j < k → slice_get references j ≡ Some one
      → slice_get references k ≡ Some other → one.at < other.at

-- a line's label stands for the instruction that comes next
abbrev pub with_label : List TextLine → Option (List ℕ) → List (List ℕ × ℕ)
with_label lines label =
    labels_of lines ++ option_map_or (λ (name : List ℕ). (name, length (instrs_of lines)) ∷ []) label []

-- the code keeps what the lines say, and the label of the next
pub record Keeps (text : List ℕ) (lines : List TextLine) (label : Option (List ℕ)) (r : Reading) : Type 0 where
  pub ranges : All IsInRange (statements_of lines)
  pub version : r.version ≡ version_of lines
  pub section : option_and_then (behind_label label) (section_of lines) ≡ Some r.section
  pub spad : IsNumberOf lines heads.Spad r.spad
  pub memory : IsNumberOf lines heads.Memory r.memory
  pub arrays : map raw_array r.arrays.items ≡ take array_limit (entries_of lines)
  pub array_count : r.array_count ≡ min (length (entries_of lines)) (array_limit + 1)
  pub labels : r.labels.entries ≡ with_label lines label
  pub apart : AreApart (map (λ (pair : List ℕ × ℕ). pair.0) (with_label lines label))
  pub instrs : AreInstrs lines r.instrs.items
  pub few : length r.instrs.items ≤ instruction_limit
  pub references : AreReferences text lines r.references.items

-- behind these words stands something at this place
abbrev pub IsPlaceBehind : List ℕ → List Word → ℕ → Type 0
IsPlaceBehind text tokens at =
    (next : Result Token TokenFault) × IsBehind language text tokens next × (at ≡ place_of next)

-- the words of lines and of a part of the next
abbrev pub words_to : List TextLine → Option (List ℕ) → Head → List Operand → List Word
words_to lines label head operands =
    text_words lines ++ (label_words label ++ statement_words (record { head = head; operands = operands }))

-- the operands of a line that isn't whole: in their ranges, and the last of them stands at the place
pub record AreOperands (text : List ℕ) (lines : List TextLine) (label : Option (List ℕ)) (head : Head)
    (operands : List Operand) (at : ℕ) : Type 0 where
  pub ranges : IsTrue (are_in_range (head_kinds head) operands)
  pub last : (front : List Operand) (target : Operand) → operands ≡ front ++ target ∷ []
      → IsPlaceBehind text (words_to lines label head front) at

-- the code is in a state of the reader; a name has begun its line at a place, and the last operand stands at one
pub data IsAt (text : List ℕ) (r : Reading) : State → Type 0 where
  AtStart : (lines : List TextLine) → r.phase ≡ phases.Start → Keeps text lines None r → IsAt text r (Start lines)
  AtName : (lines : List TextLine) (name : List ℕ) (at : ℕ)
      → r.phase ≡ phases.AfterName (record { name = name; at = at }) → IsPlaceBehind text (text_words lines) at
      → Keeps text lines None r → IsAt text r (AfterName lines name)
  AtLabel : (lines : List TextLine) (name : List ℕ) → r.phase ≡ phases.AfterLabel → Keeps text lines (Some name) r
      → IsAt text r (AfterLabel lines name)
  AtOperand : (lines : List TextLine) (label : Option (List ℕ)) (head : Head) (at : ℕ)
      → r.phase ≡ phases.Behind head at → AreOperands text lines label head r.operands.items at
      → (IsTrue (is_instr head) → length r.instrs.items < instruction_limit) → Keeps text lines label r
      → IsAt text r (Behind lines label head r.operands.items)

-- the text is read up to a place without a fault
pub record IsReading (text : List ℕ) (r : Reading) : Type 0 where
  pub tokens : List Word
  pub read : TokensTo language text 0 tokens r.from
  pub within : r.from ≤ length text
  pub at : IsAt text r (run tokens)

-- what a turn gives: more is read, or all is
abbrev pub Turned : List ℕ → Reading → Reading → Bool → Type 0
Turned text old new true = IsReading text new × (old.from < new.from)
Turned text old new false = (lines : List TextLine) × Reads text lines × Keeps text lines None new
