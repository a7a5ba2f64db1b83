-- The canonical text of an image.
use Rattle.std.specs.Prelude.{ℕ, Bool, true, false, if◌then◌else◌, List, [], ◌∷◌, ◌++◌, map, codes, decimal}
use Rattle.std.specs.List.{flat_map}
use Rattle.ven_base.specs.declared.entry.Entry.{Entry}
use Rattle.ven_io.specs.Token.{line_end}
use Rattle.venice_isa.specs.declared.instr.Version.{Version}
use Rattle.venice_isa.specs.declared.instr.Version.TheVariants.{One, Two}
use Rattle.venice_isa.specs.declared.instr.Instr.{Instr}
use Rattle.venice_isa.specs.declared.instr.Instr.TheVariants.{Halt, Li, Addi, Add, Sub, Mul, Div, Bnz, Blt, Jmp, Set, Vec, Dma, Rwait, Wwait, Vwait, Tag, Twait}
use Rattle.venice_isa.specs.declared.kind.VecKind.{VecKind}
use Rattle.venice_isa.specs.Mode.{uses_b}
use Rattle.venice_isa.specs.Encoding.{is_cast}
use Rattle.image_loader.specs.Image.{ImageContents}
use Rattle.venice_asm.specs.declared.head.Head.{Head}
use Rattle.venice_asm.specs.declared.head.Head.TheVariants as heads
use Rattle.venice_asm.specs.declared.operand.Operand.{Operand}
use Rattle.venice_asm.specs.declared.operand.Operand.TheVariants.{Name, Number, Output, Open, Rows, Comma, Columns, Close, Register, Parameter, Write, Operation, Elem, ModeA, ModeAB, Sum}
use Rattle.venice_asm.specs.declared.word.Word.{Word}
use Rattle.venice_asm.specs.declared.word.Word.TheVariants as words
use Rattle.venice_asm.specs.Lines.{Statement}
use Rattle.venice_asm.specs.Spelling.{head_word, operand_word}

-- ---- the statements of an image

abbrev pub line_of : Head → List Operand → Statement
line_of head operands = record { head = head; operands = operands }

-- a vector instruction: its operation and types, a letter for each operand that it uses, and `acc` where results are
-- added
abbrev pub mode_of : VecKind → Operand
mode_of kind = if uses_b kind.op then ModeAB kind.a_scalar kind.b_scalar else ModeA kind.a_scalar

abbrev pub vector_operands : VecKind → List Operand
vector_operands kind =
    Operation kind.op ∷ Elem kind.elem ∷ ((if is_cast kind.op then Elem kind.from ∷ [] else [])
    ++ (mode_of kind ∷ (if kind.acc then Sum ∷ [] else [])))

-- an instruction, as its line says it
abbrev pub statement_of : Instr → Statement
statement_of Halt = line_of heads.Halt []
statement_of (Li d n) = line_of heads.Li (Register d ∷ Number n ∷ [])
statement_of (Addi d a n) = line_of heads.Addi (Register d ∷ Register a ∷ Number n ∷ [])
statement_of (Add d a b) = line_of heads.Add (Register d ∷ Register a ∷ Register b ∷ [])
statement_of (Sub d a b) = line_of heads.Sub (Register d ∷ Register a ∷ Register b ∷ [])
statement_of (Mul d a b) = line_of heads.Mul (Register d ∷ Register a ∷ Register b ∷ [])
statement_of (Div d a b) = line_of heads.Div (Register d ∷ Register a ∷ Register b ∷ [])
statement_of (Bnz a to) = line_of heads.Bnz (Register a ∷ Number to ∷ [])
statement_of (Blt a b to) = line_of heads.Blt (Register a ∷ Register b ∷ Number to ∷ [])
statement_of (Jmp to) = line_of heads.Jmp (Number to ∷ [])
statement_of (Set field a) = line_of heads.Set (Parameter field ∷ Register a ∷ [])
statement_of (Vec kind) = line_of heads.Vec (vector_operands kind)
statement_of (Dma write) = line_of heads.Dma (Write write ∷ [])
statement_of (Rwait a) = line_of heads.Rwait (Register a ∷ [])
statement_of (Wwait a) = line_of heads.Wwait (Register a ∷ [])
statement_of Vwait = line_of heads.Vwait []
statement_of (Tag a) = line_of heads.Tag (Register a ∷ [])
statement_of (Twait a) = line_of heads.Twait (Register a ∷ [])

abbrev pub array_statement : Entry → Statement
array_statement entry =
    line_of heads.Array
    (Name entry.name ∷ Output entry.output ∷ Elem entry.elem ∷ Open ∷ Rows entry.shape.rows ∷ Comma
    ∷ Columns entry.shape.cols ∷ Close ∷ Number entry.place ∷ [])

abbrev pub version_statements : Version → List Statement
version_statements One = []
version_statements Two = line_of heads.Version (Number 2 ∷ []) ∷ []

-- the version where it is two, and the sizes of scratchpad and memory
abbrev pub head_statements : Version → (spad memory : ℕ) → List Statement
head_statements version spad memory =
    version_statements version
    ++ (line_of heads.Spad (Number spad ∷ []) ∷ line_of heads.Memory (Number memory ∷ []) ∷ [])

-- these, the arrays and the instructions
abbrev pub image_statements : ImageContents → List Statement
image_statements image =
    head_statements image.code.version image.spad image.memory
    ++ (map array_statement image.arrays ++ map statement_of image.code.instrs)

-- ---- their text

abbrev pub word_text : Word → List ℕ
word_text (words.Name bytes) = bytes
word_text (words.Number n) = decimal n
word_text words.Colon = codes ":"
word_text words.Open = codes "["
word_text words.Comma = codes ","
word_text words.Close = codes "]"
word_text words.Line = line_end ∷ []

-- a shape stands behind its type, without blanks
abbrev pub is_attached : Operand → Bool
is_attached Open = true
is_attached (Rows n) = true
is_attached Comma = true
is_attached (Columns n) = true
is_attached Close = true
is_attached operand = false

-- one space stands before every other operand; numbers are decimal
abbrev pub operand_text : Operand → List ℕ
operand_text operand = (if is_attached operand then [] else codes " ") ++ word_text (operand_word operand)

abbrev pub operands_text : List Operand → List ℕ
operands_text operands = flat_map operand_text operands

-- a line for each statement
abbrev pub statement_text : Statement → List ℕ
statement_text s = head_word s.head ++ (operands_text s.operands ++ line_end ∷ [])

abbrev pub statements_text : List Statement → List ℕ
statements_text statements = flat_map statement_text statements

abbrev pub head_text : Version → (spad memory : ℕ) → List ℕ
head_text version spad memory = statements_text (head_statements version spad memory)

unfoldable pub canonical : ImageContents → List ℕ
canonical image = statements_text (image_statements image)
