-- Inner: what each step of the reader does to what it keeps, or why it refuses a word.
use Rattle.std.specs.Prelude.{◌≡◌, ℕ, ◌+◌, ◌<◌, ◌≤◌, min, Bool, true, false, IsTrue, List, [], ◌∷◌, ◌++◌, length, Some, None, MatchOption}
use Rattle.std.specs.List.{list_all}
use Rattle.venice_isa.specs.declared.instr.Instr.{Instr}
use Rattle.venice_isa.specs.declared.instr.Version.{Version}
use Rattle.venice_isa.specs.declared.instr.Version.TheVariants.{Two}
use Rattle.venice_isa.specs.Limits.{instruction_limit}
use Rattle.image_loader.specs.Table.{RawEntry, array_limit}
use Rattle.venice_asm.specs.declared.fault.AsmFault.{AsmFault}
use Rattle.venice_asm.specs.declared.fault.AsmFault.TheVariants as answers
use Rattle.venice_asm.specs.declared.head.Head.{Head}
use Rattle.venice_asm.specs.declared.head.Head.TheVariants as heads
use Rattle.venice_asm.specs.declared.head.Kind.{Kind}
use Rattle.venice_asm.specs.declared.operand.Operand.{Operand}
use Rattle.venice_asm.specs.declared.phase.ArrayLine.{ArrayLine}
use Rattle.venice_asm.specs.declared.phase.Opening.{Opening}
use Rattle.venice_asm.specs.declared.phase.Phase.{Phase}
use Rattle.venice_asm.specs.declared.phase.Phase.TheVariants as phases
use Rattle.venice_asm.specs.declared.phase.Reference.{Reference}
use Rattle.venice_asm.specs.declared.phase.Section.{Section}
use Rattle.venice_asm.specs.declared.phase.Section.TheVariants as sections
use Rattle.venice_asm.specs.declared.reading.Reading.{Reading}
use Rattle.venice_asm.specs.declared.word.Word.{Word}
use Rattle.venice_asm.specs.declared.word.Word.TheVariants as words
use Rattle.venice_asm.specs.Fitting.{operand_as, IsOperandOf, IsOutside}
use Rattle.venice_asm.specs.Lines.{is_instr, head_kinds, is_optional, has_sizes}
use Rattle.venice_asm.specs.Parts.{number_in, IsInstrOf, IsWholeInstr, jump_target, raw_array, target_operand}
use Rattle.venice_asm.specs.Meaning.{array_of, number_among}
use Rattle.venice_asm.specs.Reading.{instr_named, heads_at, kinds_left, HasBegun}
use Rattle.venice_asm.specs.Spelling.{head_word, keyword_among}
use Rattle.venice_asm.specs.Words.{word_of}
use Rattle.ven_io.specs.declared.token.Token.{Token}
use Rattle.ven_io.specs.Token.{bytes_of}

-- ---- what stays

-- instructions and references stay
pub record HasSameCode (old new : Reading) : Type 0 where
  pub version : new.version ≡ old.version
  pub labels : new.labels.entries ≡ old.labels.entries
  pub instrs : new.instrs.items ≡ old.instrs.items
  pub references : new.references.items ≡ old.references.items
  pub from : new.from ≡ old.from

-- the sizes and the arrays stay
pub record HasSameTable (old new : Reading) : Type 0 where
  pub spad : new.spad ≡ old.spad
  pub memory : new.memory ≡ old.memory
  pub arrays : new.arrays.items ≡ old.arrays.items
  pub array_count : new.array_count ≡ old.array_count

-- all stays but what is read of the line
pub record IsKept (old new : Reading) : Type 0 where
  pub code : HasSameCode old new
  pub table : HasSameTable old new
  pub section : new.section ≡ old.section

-- a line's first word has been read
pub record IsEntered (head : Head) (at : ℕ) (old new : Reading) : Type 0 where
  pub kept : IsKept old new
  pub phase : new.phase ≡ phases.Behind head at
  pub operands : new.operands.items ≡ []

-- ---- the words that begin instructions

pub record IsHeadOf (r : Reading) (name : List ℕ) (head : Head) : Type 0 where
  pub named : instr_named r.version name ≡ Some head
  pub room : length r.instrs.items < instruction_limit

-- an instruction too many
pub record IsFull (r : Reading) (name : List ℕ) : Type 0 where
  pub head : Head
  pub named : instr_named r.version name ≡ Some head
  pub full : instruction_limit ≤ length r.instrs.items

abbrev pub IsNoInstr : Reading → List ℕ → (at next_at : ℕ) → AsmFault → Type 0
IsNoInstr r name at next_at (answers.Unexpected place) = (place ≡ next_at) × (instr_named r.version name ≡ None)
IsNoInstr r name at next_at (answers.FieldRange place) = (place ≡ at) × IsFull r name
IsNoInstr r name at next_at fault = ⊥

-- ---- the start of a line

pub record IsNamed (name : List ℕ) (at : ℕ) (old new : Reading) : Type 0 where
  pub kept : IsKept old new
  pub sizes : IsTrue (has_sizes (Some old.section))
  pub phase : new.phase ≡ phases.AfterName (record { name = name; at = at })

abbrev pub RefusesName : Reading → ℕ → AsmFault → Type 0
RefusesName old at (answers.Unexpected place) = (place ≡ at) × (has_sizes (Some old.section) ≡ false)
RefusesName old at fault = ⊥

abbrev pub TakesFirst : Reading → Word → ℕ → Reading → Type 0
TakesFirst old words.Line at new = new ≡ old
TakesFirst old (words.Name name) at new =
    MatchOption (keyword_among head_word (heads_at (Some old.section)) name) (IsNamed name at old new)
    (λ (head : Head). IsEntered head at old new)
TakesFirst old word at new = ⊥

abbrev pub BeginsNothing : Section → Word → Type 0
BeginsNothing section words.Line = ⊥
BeginsNothing section (words.Name name) =
    (keyword_among head_word (heads_at (Some section)) name ≡ None) × (has_sizes (Some section) ≡ false)
BeginsNothing section word = Unit {0}

abbrev pub RefusesFirst : Reading → Word → ℕ → AsmFault → Type 0
RefusesFirst old word at (answers.Unexpected place) = (place ≡ at) × BeginsNothing old.section word
RefusesFirst old word at fault = ⊥

-- ---- labels

pub record TakesLabel (name : List ℕ) (old new : Reading) : Type 0 where
  pub version : new.version ≡ old.version
  pub labels : new.labels.entries ≡ old.labels.entries ++ (name, length old.instrs.items) ∷ []
  pub fresh : number_among old.labels.entries name ≡ None
  pub instrs : new.instrs.items ≡ old.instrs.items
  pub references : new.references.items ≡ old.references.items
  pub from : new.from ≡ old.from
  pub table : HasSameTable old new
  pub section : new.section ≡ sections.Code
  pub phase : new.phase ≡ phases.AfterLabel

abbrev pub RefusesLabel : Reading → Opening → AsmFault → Type 0
RefusesLabel old opening (answers.LabelTwice place) =
    (place ≡ opening.at) × ((n : ℕ) × (number_among old.labels.entries opening.name ≡ Some n))
RefusesLabel old opening answers.Memory = Unit {0}
RefusesLabel old opening fault = ⊥

-- ---- behind a label

abbrev pub TakesBehindLabel : Reading → Word → ℕ → Reading → Type 0
TakesBehindLabel old words.Line at new = IsKept old new × (new.phase ≡ phases.Start)
TakesBehindLabel old (words.Name name) at new = (head : Head) × IsHeadOf old name head × IsEntered head at old new
TakesBehindLabel old word at new = ⊥

abbrev pub RefusesBehindLabel : Reading → Word → ℕ → AsmFault → Type 0
RefusesBehindLabel old words.Line at fault = ⊥
RefusesBehindLabel old (words.Name name) at fault = IsNoInstr old name at at fault
RefusesBehindLabel old word at (answers.Unexpected place) = place ≡ at
RefusesBehindLabel old word at fault = ⊥

-- ---- operands and the end of a line

-- there is room for one more of each
pub record HasRoom (r : Reading) : Type 0 where
  pub few : length r.instrs.items ≤ instruction_limit
  pub arrays : r.array_count ≤ array_limit + 1

abbrev pub kinds_in : Head → Reading → List Kind
kinds_in head r = kinds_left (head_kinds head) r.operands.items

abbrev pub may_end : Head → Reading → Bool
may_end head r = list_all is_optional (kinds_in head r)

-- one operand more
pub record IsGrown (head : Head) (word : Word) (at : ℕ) (old new : Reading) : Type 0 where
  pub kind : Kind
  pub more : List Kind
  pub operand : Operand
  pub left : kinds_in head old ≡ kind ∷ more
  pub is : IsOperandOf old.version kind word operand
  pub kept : IsKept old new
  pub phase : new.phase ≡ phases.Behind head at
  pub operands : new.operands.items ≡ old.operands.items ++ operand ∷ []

-- an operand of the kind is taken
pub record TakesOperand (head : Head) (kind : Kind) (word : Word) (at : ℕ) (old new : Reading) : Type 0 where
  pub operand : Operand
  pub is : IsOperandOf old.version kind word operand
  pub kept : IsKept old new
  pub phase : new.phase ≡ phases.Behind head at
  pub operands : new.operands.items ≡ old.operands.items ++ operand ∷ []

abbrev pub RefusesOperand : Kind → Word → ℕ → Reading → AsmFault → Type 0
RefusesOperand kind word at old (answers.Unexpected place) = (place ≡ at) × (operand_as old.version kind word ≡ None)
RefusesOperand kind word at old (answers.FieldRange place) = (place ≡ at) × IsOutside old.version kind word
RefusesOperand kind word at old answers.Memory = Unit {0}
RefusesOperand kind word at old fault = ⊥

-- what an instruction adds
pub record AddsInstr (head : Head) (last_at : ℕ) (old new : Reading) : Type 0 where
  pub instr : Instr
  pub is : IsInstrOf head old.operands.items instr
  pub instrs : new.instrs.items ≡ old.instrs.items ++ instr ∷ []
  pub references : MatchOption (jump_target head old.operands.items) (new.references.items ≡ old.references.items)
      (λ (target : Operand). (reference : Reference) × (reference.at ≡ last_at)
      × (reference.instr ≡ length old.instrs.items) × (target_operand reference.target ≡ target)
      × (new.references.items ≡ old.references.items ++ reference ∷ []))
  pub table : HasSameTable old new
  pub section : new.section ≡ sections.Code
  pub version : new.version ≡ old.version
  pub labels : new.labels.entries ≡ old.labels.entries
  pub from : new.from ≡ old.from
  pub phase : new.phase ≡ old.phase

-- one array more: of the arrays the first 256 are kept, and one more than these is counted
pub record AddsOne (array : ArrayLine) (old new : Reading) : Type 0 where
  pub code : HasSameCode old new
  pub phase : new.phase ≡ old.phase
  pub section : new.section ≡ old.section
  pub spad : new.spad ≡ old.spad
  pub memory : new.memory ≡ old.memory
  pub count : new.array_count ≡ min (old.array_count + 1) (array_limit + 1)
  pub kept : array_limit ≤ old.array_count → new.arrays.items ≡ old.arrays.items
  pub added : old.array_count < array_limit → new.arrays.items ≡ old.arrays.items ++ array ∷ []

-- what an array's line adds
abbrev pub AddsArray : Reading → Reading → Type 0
AddsArray old new =
    MatchOption (array_of heads.Array old.operands.items) (new ≡ old)
    (λ (raw : RawEntry). (array : ArrayLine) × (raw_array array ≡ raw) × AddsOne array old new)

-- what a line of the head adds
abbrev pub EndsHead : Head → ℕ → Reading → Reading → Type 0
EndsHead heads.Version last_at old new =
    (new.version ≡ Two) × (new.labels.entries ≡ old.labels.entries) × (new.instrs.items ≡ old.instrs.items)
    × (new.references.items ≡ old.references.items) × (new.from ≡ old.from) × HasSameTable old new
    × (new.section ≡ sections.Spad)
EndsHead heads.Spad last_at old new =
    HasSameCode old new × (new.section ≡ sections.Memory) × (new.spad ≡ number_in old.operands.items 0)
    × (new.memory ≡ old.memory) × (new.arrays.items ≡ old.arrays.items) × (new.array_count ≡ old.array_count)
EndsHead heads.Memory last_at old new =
    HasSameCode old new × (new.section ≡ sections.Arrays) × (new.memory ≡ number_in old.operands.items 0)
    × (new.spad ≡ old.spad) × (new.arrays.items ≡ old.arrays.items) × (new.array_count ≡ old.array_count)
EndsHead heads.Array last_at old new = AddsArray old new
EndsHead head last_at old new = AddsInstr head last_at old new

pub record IsEnded (head : Head) (last_at : ℕ) (old new : Reading) : Type 0 where
  pub adds : EndsHead head last_at (record old { phase = phases.Start }) new
  pub phase : new.phase ≡ phases.Start

pub data TakesBehind (head : Head) (last_at : ℕ) (word : Word) (at : ℕ) (old new : Reading) : Type 0 where
  Ends : word ≡ words.Line → may_end head old ≡ true → IsEnded head last_at old new
      → TakesBehind head last_at word at old new
  Grows : IsGrown head word at old new → TakesBehind head last_at word at old new

-- no operand may stand there
abbrev pub FitsNone : Version → List Kind → Word → Type 0
FitsNone version [] word = Unit {0}
FitsNone version (kind ∷ rest) word = operand_as version kind word ≡ None

pub record IsMisplaced (head : Head) (word : Word) (old : Reading) : Type 0 where
  pub ends : word ≡ words.Line → may_end head old ≡ false
  pub none : FitsNone old.version (kinds_in head old) word

abbrev pub RefusesBehind : Head → Word → ℕ → Reading → AsmFault → Type 0
RefusesBehind head word at old (answers.Unexpected place) = (place ≡ at) × IsMisplaced head word old
RefusesBehind head word at old (answers.FieldRange place) =
    (place ≡ at)
    × ((kind : Kind) × (more : List Kind) × (kinds_in head old ≡ kind ∷ more) × IsOutside old.version kind word)
RefusesBehind head word at old answers.Memory = Unit {0}
RefusesBehind head word at old fault = ⊥

-- ---- behind a name

-- the name is an instruction's word, and what stands behind it goes on with its line
pub record TakesInstr (opening : Opening) (word : Word) (at : ℕ) (old new : Reading) : Type 0 where
  pub head : Head
  pub is : IsHeadOf old opening.name head
  pub mid : Reading
  pub entered : IsEntered head opening.at old mid
  pub takes : TakesBehind head opening.at word at mid new

abbrev pub TakesBehindName : Opening → Word → ℕ → Reading → Reading → Type 0
TakesBehindName opening words.Colon at old new = TakesLabel opening.name old new
TakesBehindName opening word at old new = TakesInstr opening word at old new

-- the name is no instruction's word, or there are enough; or what stands behind it may not
pub data RefusesInstr (opening : Opening) (word : Word) (at : ℕ) (old : Reading) (fault : AsmFault) : Type 0 where
  NoInstr : IsNoInstr old opening.name opening.at at fault → RefusesInstr opening word at old fault
  NoOperand : (head : Head) (mid : Reading) → IsHeadOf old opening.name head → IsEntered head opening.at old mid
      → RefusesBehind head word at mid fault → RefusesInstr opening word at old fault

abbrev pub RefusesBehindName : Opening → Word → ℕ → Reading → AsmFault → Type 0
RefusesBehindName opening words.Colon at old fault = RefusesLabel old opening fault
RefusesBehindName opening word at old fault = RefusesInstr opening word at old fault

-- ---- a word behind a line's first word

-- the word of arrays is a label
pub record IsArrayLabel (head : Head) (old : Reading) : Type 0 where
  pub head_is : head ≡ heads.Array
  pub alone : old.operands.items ≡ []

pub record TakesColon (head : Head) (old new : Reading) : Type 0 where
  pub is : IsArrayLabel head old
  pub takes : TakesLabel (head_word heads.Array) old new

pub data RefusesColon (head : Head) (last_at at : ℕ) (old : Reading) (fault : AsmFault) : Type 0 where
  NoArray : fault ≡ answers.Unexpected at → (IsArrayLabel head old → ⊥) → RefusesColon head last_at at old fault
  NotNew : IsArrayLabel head old → RefusesLabel old (record { name = head_word heads.Array; at = last_at }) fault
      → RefusesColon head last_at at old fault

abbrev pub TakesNext : Head → (last_at : ℕ) → Word → (at : ℕ) → (old new : Reading) → Type 0
TakesNext head last_at words.Colon at old new = TakesColon head old new
TakesNext head last_at word at old new = TakesBehind head last_at word at old new

abbrev pub RefusesNext : Head → (last_at : ℕ) → Word → (at : ℕ) → Reading → AsmFault → Type 0
RefusesNext head last_at words.Colon at old fault = RefusesColon head last_at at old fault
RefusesNext head last_at word at old fault = RefusesBehind head word at old fault

-- ---- a word

-- the line that is being read may end where the code ends it
pub record IsReady (r : Reading) : Type 0 where
  pub room : HasRoom r
  pub begun : (head : Head) (at : ℕ) → r.phase ≡ phases.Behind head at → HasBegun head r.operands.items
  pub whole : (head : Head) (at : ℕ) → r.phase ≡ phases.Behind head at → IsTrue (is_instr head)
      → may_end head r ≡ true → IsWholeInstr head r.operands.items

abbrev pub TakesIn : Phase → Word → ℕ → Reading → Reading → Type 0
TakesIn phases.Start word at old new = TakesFirst old word at new
TakesIn (phases.AfterName opening) word at old new = TakesBehindName opening word at old new
TakesIn phases.AfterLabel word at old new = TakesBehindLabel old word at new
TakesIn (phases.Behind head last_at) word at old new = TakesNext head last_at word at old new

abbrev pub RefusesIn : Phase → Word → ℕ → Reading → AsmFault → Type 0
RefusesIn phases.Start word at old fault = RefusesFirst old word at fault
RefusesIn (phases.AfterName opening) word at old fault = RefusesBehindName opening word at old fault
RefusesIn phases.AfterLabel word at old fault = RefusesBehindLabel old word at fault
RefusesIn (phases.Behind head last_at) word at old fault = RefusesNext head last_at word at old fault

-- what is refused where nothing stands that is a word
abbrev pub RefusesAll : Phase → ℕ → Reading → AsmFault → Type 0
RefusesAll (phases.AfterName opening) at r (answers.Unexpected place) =
    (place ≡ at)
    × ((head : Head) → instr_named r.version opening.name ≡ Some head → length r.instrs.items < instruction_limit)
RefusesAll (phases.AfterName opening) at r (answers.FieldRange place) = (place ≡ opening.at) × IsFull r opening.name
RefusesAll phase at r (answers.Unexpected place) = place ≡ at
RefusesAll phase at r fault = ⊥

-- ---- a token, and the text's end

pub record TakesToken (text : List ℕ) (token : Token) (old new : Reading) : Type 0 where
  pub word : Word
  pub mid : Reading
  pub says : word_of token.kind (bytes_of text token) ≡ Some word
  pub takes : TakesIn old.phase word token.start old mid
  pub is : new ≡ record mid { from = token.end }

abbrev pub RefusesToken : List ℕ → Token → Reading → AsmFault → Type 0
RefusesToken text token old fault =
    MatchOption (word_of token.kind (bytes_of text token)) (RefusesAll old.phase token.start old fault)
    (λ (word : Word). RefusesIn old.phase word token.start old fault)

-- the line's end is taken, and what has been read isn't a whole text or is one
pub record TakesEnd (at : ℕ) (old new : Reading) (whole : Bool) : Type 0 where
  pub takes : TakesIn old.phase words.Line at old new
  pub sizes : has_sizes (Some new.section) ≡ whole

pub data RefusesEnd (at : ℕ) (old new : Reading) (fault : AsmFault) : Type 0 where
  NoLine : RefusesIn old.phase words.Line at old fault → RefusesEnd at old new fault
  NoText : fault ≡ answers.Unexpected at → TakesEnd at old new false → RefusesEnd at old new fault
