-- The grammar: lines, what may stand in each, and their words.
use Rattle.std.specs.Prelude.{◌≡◌, ℕ, ◌^◌, nat_lt, nat_le, ◌==◌, Bool, true, false, not, ◌&&◌, if◌then◌else◌, List, [], ◌∷◌, ◌++◌, map, All, IsTrue, Option, Some, None}
use Rattle.std.specs.List.{list_all, list_any, flat_map, filter_map}
use Rattle.std.specs.Option.{option_and_then}
use Rattle.std.specs.Str.{bytes_eq}
use Rattle.ven_base.specs.Name.{reserved_words}
use Rattle.ven_io.specs.Number.{number_limit}
use Rattle.venice_isa.specs.declared.instr.Version.{Version}
use Rattle.venice_isa.specs.declared.instr.Version.TheVariants.{One, Two}
use Rattle.venice_isa.specs.declared.op.VecOp.{VecOp}
use Rattle.venice_isa.specs.declared.op.VecOp.TheVariants as ops
use Rattle.venice_isa.specs.Instr.{is_second, has_operation}
use Rattle.venice_asm.specs.declared.head.Head.{Head}
use Rattle.venice_asm.specs.declared.head.Head.TheVariants as heads
use Rattle.venice_asm.specs.declared.head.Kind.{Kind}
use Rattle.venice_asm.specs.declared.head.Kind.TheVariants as kinds
use Rattle.venice_asm.specs.declared.operand.Operand.{Operand}
use Rattle.venice_asm.specs.declared.operand.Operand.TheVariants as operands
use Rattle.venice_asm.specs.declared.phase.Section.{Section}
use Rattle.venice_asm.specs.declared.phase.Section.TheVariants as sections
use Rattle.venice_asm.specs.declared.word.Word.{Word}
use Rattle.venice_asm.specs.declared.word.Word.TheVariants as words
use Rattle.venice_asm.specs.Spelling.{head_word, operand_word}

-- ---- lines

-- a first word, and what stands behind it
pub record Statement : Type 0 where
  pub head : Head
  pub operands : List Operand

-- a line has a label or none, and a statement or none
pub record TextLine : Type 0 where
  pub label : Option (List ℕ)
  pub statement : Option Statement

abbrev pub label_words : Option (List ℕ) → List Word
label_words None = []
label_words (Some name) = words.Name name ∷ words.Colon ∷ []

abbrev pub statement_words : Statement → List Word
statement_words s = words.Name (head_word s.head) ∷ map operand_word s.operands

abbrev pub optional_words : Option Statement → List Word
optional_words None = []
optional_words (Some s) = statement_words s

-- each line ends with a line end
abbrev pub line_words : TextLine → List Word
line_words line = label_words line.label ++ (optional_words line.statement ++ words.Line ∷ [])

abbrev pub text_words : List TextLine → List Word
text_words lines = flat_map line_words lines

-- ---- what stands behind a first word

abbrev pub is_instr : Head → Bool
is_instr heads.Version = false
is_instr heads.Spad = false
is_instr heads.Memory = false
is_instr heads.Array = false
is_instr head = true

-- the table of lines: what stands behind each first word, in order
abbrev pub head_kinds : Head → List Kind
head_kinds heads.Version = kinds.Version ∷ []
head_kinds heads.Spad = kinds.Number ∷ []
head_kinds heads.Memory = kinds.Number ∷ []
head_kinds heads.Array =
    kinds.Array ∷ kinds.Direction ∷ kinds.Elem ∷ kinds.Open ∷ kinds.Rows ∷ kinds.Comma ∷ kinds.Columns ∷ kinds.Close
    ∷ kinds.Number ∷ []
head_kinds heads.Halt = []
head_kinds heads.Li = kinds.Register ∷ kinds.Number ∷ []
head_kinds heads.Addi = kinds.Register ∷ kinds.Register ∷ kinds.Number ∷ []
head_kinds heads.Add = kinds.Register ∷ kinds.Register ∷ kinds.Register ∷ []
head_kinds heads.Sub = kinds.Register ∷ kinds.Register ∷ kinds.Register ∷ []
head_kinds heads.Mul = kinds.Register ∷ kinds.Register ∷ kinds.Register ∷ []
head_kinds heads.Div = kinds.Register ∷ kinds.Register ∷ kinds.Register ∷ []
head_kinds heads.Bnz = kinds.Register ∷ kinds.Target ∷ []
head_kinds heads.Blt = kinds.Register ∷ kinds.Register ∷ kinds.Target ∷ []
head_kinds heads.Jmp = kinds.Target ∷ []
head_kinds heads.Set = kinds.Parameter ∷ kinds.Register ∷ []
head_kinds heads.Vec = kinds.Operation ∷ []
head_kinds heads.Dma = kinds.Transfer ∷ []
head_kinds heads.Rwait = kinds.Register ∷ []
head_kinds heads.Wwait = kinds.Register ∷ []
head_kinds heads.Vwait = []
head_kinds heads.Tag = kinds.Register ∷ []
head_kinds heads.Twait = kinds.Register ∷ []

-- and behind an operation: its types, a letter for each operand that it uses, and `acc` or nothing
abbrev pub operation_kinds : VecOp → List Kind
operation_kinds ops.Mov = kinds.Elem ∷ kinds.ModeA ∷ kinds.Sum ∷ []
operation_kinds ops.Cast = kinds.Elem ∷ kinds.Elem ∷ kinds.ModeA ∷ kinds.Sum ∷ []
operation_kinds ops.Abs = kinds.Elem ∷ kinds.ModeA ∷ kinds.Sum ∷ []
operation_kinds ops.Cmov = kinds.Elem ∷ kinds.ModeFlags ∷ kinds.NoSum ∷ []
operation_kinds op = kinds.Elem ∷ kinds.ModeAB ∷ kinds.Sum ∷ []

-- what stands behind an operand, before these
abbrev pub kinds_behind : Operand → List Kind → List Kind
kinds_behind (operands.Operation op) rest = operation_kinds op
kinds_behind operand rest = rest

-- a line may end before these
abbrev pub is_optional : Kind → Bool
is_optional kinds.Sum = true
is_optional kinds.NoSum = true
is_optional kind = false

-- a word that the array language keeps for itself, which is no array's name
unfoldable pub is_reserved : List ℕ → Bool
is_reserved bytes = list_any (bytes_eq bytes) reserved_words

-- a register's name has room for 30 digits
abbrev pub register_bound : ℕ
register_bound = 10 ^ 30

-- an operand may stand in a place of the kind, whatever its number is, and `acc` and both modes in a conditional move
abbrev pub suits : Version → Kind → Operand → Bool
suits version kinds.Version (operands.Number n) = true
suits version kinds.Number (operands.Number n) = true
suits version kinds.Array (operands.Name bytes) = not (is_reserved bytes)
suits version kinds.Direction (operands.Output output) = true
suits version kinds.Open operands.Open = true
suits version kinds.Rows (operands.Rows n) = true
suits version kinds.Comma operands.Comma = true
suits version kinds.Columns (operands.Columns n) = true
suits version kinds.Close operands.Close = true
suits version kinds.Register (operands.Register number) = nat_lt number register_bound
suits version kinds.Parameter (operands.Parameter number) = nat_lt number 14
suits version kinds.Target (operands.Name bytes) = true
suits version kinds.Target (operands.Number n) = true
suits version kinds.Transfer (operands.Write write) = true
suits version kinds.Operation (operands.Operation op) = has_operation version op
suits version kinds.Elem (operands.Elem elem) = true
suits version kinds.ModeA (operands.ModeA a) = true
suits version kinds.ModeAB (operands.ModeAB a b) = true
suits version kinds.ModeFlags (operands.ModeAB a b) = true
suits version kinds.Sum operands.Sum = true
suits version kinds.NoSum operands.Sum = true
suits version kind operand = false

-- such an operand is in its range
abbrev pub in_range : Kind → Operand → Bool
in_range kinds.Version (operands.Number n) = n == 2
in_range kinds.ModeFlags (operands.ModeAB a b) = not b
in_range kinds.NoSum operand = false
in_range kind (operands.Number n) = nat_le n number_limit
in_range kind (operands.Rows n) = nat_le n number_limit
in_range kind (operands.Columns n) = nat_le n number_limit
in_range kind (operands.Register number) = nat_lt number 32
in_range kind operand = true

-- operands may stand in places of these kinds, one after another
abbrev pub all_suit : Version → List Kind → List Operand → Bool
all_suit version rest [] = list_all is_optional rest
all_suit version [] (operand ∷ operands) = false
all_suit version (kind ∷ rest) (operand ∷ operands) =
    suits version kind operand && all_suit version (kinds_behind operand rest) operands

-- and each is in its range
abbrev pub are_in_range : List Kind → List Operand → Bool
are_in_range rest [] = true
are_in_range [] (operand ∷ operands) = true
are_in_range (kind ∷ rest) (operand ∷ operands) =
    in_range kind operand && are_in_range (kinds_behind operand rest) operands

-- ---- the order of lines

-- what may begin the next line, behind a label: labels stand in code alone
abbrev pub behind_label : Option (List ℕ) → Section → Option Section
behind_label None section = Some section
behind_label (Some name) sections.Arrays = Some sections.Code
behind_label (Some name) sections.Code = Some sections.Code
behind_label (Some name) section = None

-- and behind a first word: the version or nothing, the sizes of scratchpad and memory, arrays, and instructions
abbrev pub behind_head : Head → Section → Option Section
behind_head heads.Version sections.Version = Some sections.Spad
behind_head heads.Spad sections.Version = Some sections.Memory
behind_head heads.Spad sections.Spad = Some sections.Memory
behind_head heads.Memory sections.Memory = Some sections.Arrays
behind_head heads.Array sections.Arrays = Some sections.Arrays
behind_head head sections.Arrays = if is_instr head then Some sections.Code else None
behind_head head sections.Code = if is_instr head then Some sections.Code else None
behind_head head section = None

abbrev pub behind_statement : Option Statement → Section → Option Section
behind_statement None section = Some section
behind_statement (Some s) section = behind_head s.head section

-- what may begin the next line, behind lines
abbrev pub section_from : Option Section → List TextLine → Option Section
section_from section [] = section
section_from section (line ∷ lines) =
    section_from
    (option_and_then (behind_statement line.statement) (option_and_then (behind_label line.label) section)) lines

abbrev pub section_of : List TextLine → Option Section
section_of lines = section_from (Some sections.Version) lines

-- the sizes have come
abbrev pub has_sizes : Option Section → Bool
has_sizes (Some sections.Arrays) = true
has_sizes (Some sections.Code) = true
has_sizes section = false

-- ---- texts

-- the statements of lines, in order
abbrev pub statements_of : List TextLine → List Statement
statements_of lines = filter_map (λ (line : TextLine). line.statement) lines

abbrev pub is_version : Head → Bool
is_version heads.Version = true
is_version head = false

-- a line of the version makes a text of version two
abbrev pub version_of : List TextLine → Version
version_of lines = if list_any (λ (s : Statement). is_version s.head) (statements_of lines) then Two else One

-- the instructions on tags came with version two
abbrev pub has_head : Version → Head → Bool
has_head version heads.Tag = is_second version
has_head version heads.Twait = is_second version
has_head version head = true

-- the statement is one of the version's
pub record IsStatement (version : Version) (s : Statement) : Type 0 where
  pub head : IsTrue (has_head version s.head)
  pub operands : IsTrue (all_suit version (head_kinds s.head) s.operands)

-- lines of a text, whatever its numbers are: in their order, each with statements of the text's version
pub record AreLines (lines : List TextLine) : Type 0 where
  pub order : IsTrue (has_sizes (section_of lines))
  pub each : All (IsStatement (version_of lines)) (statements_of lines)

-- the words of a text, and its lines
pub record AreWordsOf (tokens : List Word) (lines : List TextLine) : Type 0 where
  pub spelled : tokens ≡ text_words lines
  pub lines_are : AreLines lines

-- the operands of a statement are in their ranges
abbrev pub IsInRange : Statement → Type 0
IsInRange s = IsTrue (are_in_range (head_kinds s.head) s.operands)

-- and the lines of a text have only such
pub record AreWordsInRange (tokens : List Word) (lines : List TextLine) : Type 0 where
  pub words : AreWordsOf tokens lines
  pub ranges : All IsInRange (statements_of lines)
