-- The host's instructions: which each version has, and what may stand in them.
use Rattle.std.specs.Prelude.{ℕ, ◌<◌, ◌^◌, Bool, true, false, IsTrue, Option, Some, None}
use Rattle.venice_isa.specs.declared.op.VecOp.{VecOp}
use Rattle.venice_isa.specs.declared.op.VecOp.TheVariants.{Sadd, Ssub}
use Rattle.venice_isa.specs.declared.instr.Version.{Version}
use Rattle.venice_isa.specs.declared.instr.Version.TheVariants.{One, Two}
use Rattle.venice_isa.specs.declared.instr.Instr.{Instr}
use Rattle.venice_isa.specs.declared.instr.Instr.TheVariants.{Halt, Li, Addi, Add, Sub, Mul, Div, Bnz, Blt, Jmp, Set, Vec, Dma, Rwait, Wwait, Vwait, Tag, Twait}

-- ---- versions

abbrev pub is_second : Version → Bool
is_second One = false
is_second Two = true

-- the operations that saturate came with version two
abbrev pub has_operation : Version → VecOp → Bool
has_operation version Sadd = is_second version
has_operation version Ssub = is_second version
has_operation version op = true

-- and so did the instructions on tags
abbrev pub has_instr : Version → Instr → Bool
has_instr version (Vec kind) = has_operation version kind.op
has_instr version (Tag a) = is_second version
has_instr version (Twait a) = is_second version
has_instr version instr = true

-- ---- ranges

-- the number of a register, and of a parameter
abbrev pub IsRegister : ℕ → Type 0
IsRegister r = r < 32

abbrev pub IsParameter : ℕ → Type 0
IsParameter field = field < 14

-- a number of 32 bits
abbrev pub IsWord : ℕ → Type 0
IsWord n = n < 2 ^ 32

-- the registers, parameters and numbers of an instruction are such
abbrev pub HasRanges : Instr → Type 0
HasRanges Halt = Unit {0}
HasRanges (Li d n) = IsRegister d × IsWord n
HasRanges (Addi d a n) = IsRegister d × IsRegister a × IsWord n
HasRanges (Add d a b) = IsRegister d × IsRegister a × IsRegister b
HasRanges (Sub d a b) = IsRegister d × IsRegister a × IsRegister b
HasRanges (Mul d a b) = IsRegister d × IsRegister a × IsRegister b
HasRanges (Div d a b) = IsRegister d × IsRegister a × IsRegister b
HasRanges (Bnz a to) = IsRegister a × IsWord to
HasRanges (Blt a b to) = IsRegister a × IsRegister b × IsWord to
HasRanges (Jmp to) = IsWord to
HasRanges (Set field a) = IsParameter field × IsRegister a
HasRanges (Vec kind) = Unit {0}
HasRanges (Dma write) = Unit {0}
HasRanges (Rwait a) = IsRegister a
HasRanges (Wwait a) = IsRegister a
HasRanges Vwait = Unit {0}
HasRanges (Tag a) = IsRegister a
HasRanges (Twait a) = IsRegister a

-- an instruction of the version
pub record IsInstr (version : Version) (instr : Instr) : Type 0 where
  pub in_version : IsTrue (has_instr version instr)
  pub ranges : HasRanges instr

-- ---- targets

-- the place that an instruction may go to, other than the next one
abbrev pub target_of : Instr → Option ℕ
target_of (Bnz a to) = Some to
target_of (Blt a b to) = Some to
target_of (Jmp to) = Some to
target_of instr = None
