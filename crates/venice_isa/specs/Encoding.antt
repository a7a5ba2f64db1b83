-- The bytes of instructions: one clause an instruction.
use Rattle.std.specs.Prelude.{◌≡◌, ℕ, ◌+◌, ◌*◌, Bool, true, false, List, ◌∷◌, if◌then◌else◌}
use Rattle.std.specs.Int.{w32, to_le_bytes}
use Rattle.ven_base.specs.declared.elem.Elem.{Elem}
use Rattle.ven_base.specs.declared.elem.Elem.TheVariants.{U8, I8, U16, I16, U32, I32}
use Rattle.venice_isa.specs.declared.op.VecOp.{VecOp}
use Rattle.venice_isa.specs.declared.op.VecOp.TheVariants as ops
use Rattle.venice_isa.specs.declared.kind.VecKind.{VecKind}
use Rattle.venice_isa.specs.declared.instr.Instr.{Instr}
use Rattle.venice_isa.specs.declared.instr.Instr.TheVariants.{Halt, Li, Addi, Add, Sub, Mul, Div, Bnz, Blt, Jmp, Set, Vec, Dma, Rwait, Wwait, Vwait, Tag, Twait}
use Rattle.venice_isa.specs.declared.encoding.Fields.{Fields}

-- ---- numbers of operations and types

abbrev pub operation_number : VecOp → ℕ
operation_number ops.Mov = 0
operation_number ops.Cast = 1
operation_number ops.Add = 2
operation_number ops.Sub = 3
operation_number ops.Mul = 4
operation_number ops.And = 5
operation_number ops.Or = 6
operation_number ops.Xor = 7
operation_number ops.Shl = 8
operation_number ops.Shr = 9
operation_number ops.Min = 10
operation_number ops.Max = 11
operation_number ops.Abs = 12
operation_number ops.Eq = 13
operation_number ops.Ne = 14
operation_number ops.Lt = 15
operation_number ops.Le = 16
operation_number ops.Cmov = 17
operation_number ops.Sadd = 18
operation_number ops.Ssub = 19

abbrev pub type_number : Elem → ℕ
type_number U8 = 0
type_number I8 = 1
type_number U16 = 2
type_number I16 = 3
type_number U32 = 4
type_number I32 = 5

-- ---- the bytes

-- the mode: A is a scalar, B is a scalar, the results of a row are accumulated
abbrev pub bit : Bool → ℕ
bit true = 1
bit false = 0

abbrev pub mode_byte : VecKind → ℕ
mode_byte kind = bit kind.a_scalar + 2 * bit kind.b_scalar + 4 * bit kind.acc

-- the type of the results in the low four bits, that of a cast's operand in the high ones
abbrev pub is_cast : VecOp → Bool
is_cast ops.Cast = true
is_cast op = false

abbrev pub high_type : VecOp → Elem → ℕ
high_type op from = if is_cast op then type_number from else 0

abbrev pub types_byte : VecKind → ℕ
types_byte kind = type_number kind.elem + 16 * high_type kind.op kind.from

-- bytes 1 to 3 of a vector instruction
pub record HasBytes (operation mode types : ℕ) (kind : VecKind) : Type 0 where
  pub operation_is : operation_number kind.op ≡ operation
  pub mode_is : mode_byte kind ≡ mode
  pub types_is : types_byte kind ≡ types

-- a code, bytes 1 to 3, and a number
abbrev pub fields : (code byte1 byte2 byte3 number : ℕ) → Fields
fields code byte1 byte2 byte3 number = record {
  code = code;
  byte1 = byte1;
  byte2 = byte2;
  byte3 = byte3;
  number = number;
}

abbrev pub fields_of : Instr → Fields
fields_of Halt = fields 0 0 0 0 0
fields_of (Li d n) = fields 1 d 0 0 n
fields_of (Addi d a n) = fields 2 d a 0 n
fields_of (Add d a b) = fields 3 d a b 0
fields_of (Sub d a b) = fields 4 d a b 0
fields_of (Mul d a b) = fields 5 d a b 0
fields_of (Div d a b) = fields 6 d a b 0
fields_of (Bnz a to) = fields 7 0 a 0 to
fields_of (Blt a b to) = fields 8 0 a b to
fields_of (Jmp to) = fields 9 0 0 0 to
fields_of (Set field a) = fields 10 field a 0 0
fields_of (Vec kind) = fields 11 (operation_number kind.op) (mode_byte kind) (types_byte kind) 0
fields_of (Dma write) = fields 12 (bit write) 0 0 0
fields_of (Rwait a) = fields 13 0 a 0 0
fields_of (Wwait a) = fields 14 0 a 0 0
fields_of Vwait = fields 15 0 0 0 0
fields_of (Tag a) = fields 16 0 a 0 0
fields_of (Twait a) = fields 17 0 a 0 0

-- eight bytes, the number's lowest byte first
abbrev pub bytes_of_fields : Fields → List ℕ
bytes_of_fields f = f.code ∷ f.byte1 ∷ f.byte2 ∷ f.byte3 ∷ to_le_bytes w32 f.number

unfoldable pub encoded : Instr → List ℕ
encoded instr = bytes_of_fields (fields_of instr)
