-- How the words of lines are spelled: one table each, for reading and for writing.
use Rattle.std.specs.Prelude.{ℕ, Bool, true, false, if◌then◌else◌, List, [], ◌∷◌, ◌++◌, slice_index_or, codes, decimal, Option, Some, None}
use Rattle.std.specs.Str.{bytes_eq}
use Rattle.ven_base.specs.declared.elem.Elem.{Elem}
use Rattle.ven_base.specs.declared.elem.Elem.TheVariants.{U8, I8, U16, I16, U32, I32}
use Rattle.venice_isa.specs.declared.op.VecOp.{VecOp}
use Rattle.venice_isa.specs.declared.op.VecOp.TheVariants as ops
use Rattle.venice_asm.specs.declared.head.Head.{Head}
use Rattle.venice_asm.specs.declared.head.Head.TheVariants as heads
use Rattle.venice_asm.specs.declared.operand.Operand.{Operand}
use Rattle.venice_asm.specs.declared.operand.Operand.TheVariants as operands
use Rattle.venice_asm.specs.declared.word.Word.{Word}
use Rattle.venice_asm.specs.declared.word.Word.TheVariants as words

-- the words that begin a line
abbrev pub head_word : Head → List ℕ
head_word heads.Version = codes "version"
head_word heads.Spad = codes "spad"
head_word heads.Memory = codes "memory"
head_word heads.Array = codes "array"
head_word heads.Halt = codes "halt"
head_word heads.Li = codes "li"
head_word heads.Addi = codes "addi"
head_word heads.Add = codes "add"
head_word heads.Sub = codes "sub"
head_word heads.Mul = codes "mul"
head_word heads.Div = codes "div"
head_word heads.Bnz = codes "bnz"
head_word heads.Blt = codes "blt"
head_word heads.Jmp = codes "jmp"
head_word heads.Set = codes "set"
head_word heads.Vec = codes "vec"
head_word heads.Dma = codes "dma"
head_word heads.Rwait = codes "rwait"
head_word heads.Wwait = codes "wwait"
head_word heads.Vwait = codes "vwait"
head_word heads.Tag = codes "tag"
head_word heads.Twait = codes "twait"

-- the element types
abbrev pub type_word : Elem → List ℕ
type_word U8 = codes "u8"
type_word I8 = codes "i8"
type_word U16 = codes "u16"
type_word I16 = codes "i16"
type_word U32 = codes "u32"
type_word I32 = codes "i32"

-- the operations
abbrev pub operation_word : VecOp → List ℕ
operation_word ops.Mov = codes "mov"
operation_word ops.Cast = codes "cast"
operation_word ops.Add = codes "add"
operation_word ops.Sub = codes "sub"
operation_word ops.Mul = codes "mul"
operation_word ops.And = codes "and"
operation_word ops.Or = codes "or"
operation_word ops.Xor = codes "xor"
operation_word ops.Shl = codes "shl"
operation_word ops.Shr = codes "shr"
operation_word ops.Min = codes "min"
operation_word ops.Max = codes "max"
operation_word ops.Abs = codes "abs"
operation_word ops.Eq = codes "eq"
operation_word ops.Ne = codes "ne"
operation_word ops.Lt = codes "lt"
operation_word ops.Le = codes "le"
operation_word ops.Cmov = codes "cmov"
operation_word ops.Sadd = codes "sadd"
operation_word ops.Ssub = codes "ssub"

-- the parameters in the order of their numbers
abbrev pub parameter_words : List (List ℕ)
parameter_words =
    codes "vl" ∷ codes "rows" ∷ codes "dst" ∷ codes "a" ∷ codes "b" ∷ codes "dstep" ∷ codes "astep" ∷ codes "bstep"
    ∷ codes "mem" ∷ codes "spad" ∷ codes "mrows" ∷ codes "mbytes" ∷ codes "mstep" ∷ codes "sstep" ∷ []

abbrev pub parameter_word : ℕ → List ℕ
parameter_word number = slice_index_or parameter_words number []

-- an array is an input or an output, a transfer a read or a write
abbrev pub direction_word : Bool → List ℕ
direction_word false = codes "in"
direction_word true = codes "out"

abbrev pub transfer_word : Bool → List ℕ
transfer_word false = codes "read"
transfer_word true = codes "write"

-- a register, by its number
abbrev pub register_word : ℕ → List ℕ
register_word number = codes "r" ++ decimal number

-- the letter of a mode: `v` for a vector, `s` for a scalar
abbrev pub letter : Bool → ℕ
letter false = 118
letter true = 115

-- the word behind a mode whose results are added
abbrev pub sum_word : List ℕ
sum_word = codes "acc"

-- what stands behind the first word of a line
abbrev pub operand_word : Operand → Word
operand_word (operands.Name bytes) = words.Name bytes
operand_word (operands.Number n) = words.Number n
operand_word (operands.Output output) = words.Name (direction_word output)
operand_word operands.Open = words.Open
operand_word (operands.Rows n) = words.Number n
operand_word operands.Comma = words.Comma
operand_word (operands.Columns n) = words.Number n
operand_word operands.Close = words.Close
operand_word (operands.Register number) = words.Name (register_word number)
operand_word (operands.Parameter number) = words.Name (parameter_word number)
operand_word (operands.Write write) = words.Name (transfer_word write)
operand_word (operands.Operation op) = words.Name (operation_word op)
operand_word (operands.Elem elem) = words.Name (type_word elem)
operand_word (operands.ModeA a) = words.Name (letter a ∷ [])
operand_word (operands.ModeAB a b) = words.Name (letter a ∷ letter b ∷ [])
operand_word operands.Sum = words.Name sum_word

-- the first of these things whose word the bytes are
abbrev pub keyword_among : {A : Type 0} → (A → List ℕ) → List A → List ℕ → Option A
keyword_among spelling [] bytes = None
keyword_among spelling (item ∷ items) bytes =
    if bytes_eq bytes (spelling item) then Some item else keyword_among spelling items bytes
