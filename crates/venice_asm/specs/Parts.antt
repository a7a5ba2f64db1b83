-- Inner: what the code keeps of a line.
use Rattle.std.specs.Prelude.{◌≡◌, ℕ, Bool, false, if◌then◌else◌, IsTrue, List, [], ◌∷◌, length, slice_get, Option, Some, None}
use Rattle.std.specs.Option.{option_and_then, option_map_or}
use Rattle.ven_base.specs.declared.elem.Elem.{Elem}
use Rattle.ven_base.specs.declared.elem.Elem.TheVariants.{U8}
use Rattle.venice_isa.specs.declared.instr.Instr.{Instr}
use Rattle.venice_isa.specs.declared.instr.Instr.TheVariants.{Halt, Li, Addi, Add, Sub, Mul, Div, Bnz, Blt, Jmp, Set, Dma, Rwait, Wwait, Vwait, Tag, Twait}
use Rattle.venice_isa.specs.declared.instr.Version.{Version}
use Rattle.venice_isa.specs.declared.op.VecOp.{VecOp}
use Rattle.venice_isa.specs.declared.op.VecOp.TheVariants.{Mov}
use Rattle.venice_isa.specs.Encoding.{bit, type_number, is_cast}
use Rattle.image_loader.specs.Table.{RawEntry}
use Rattle.venice_asm.specs.declared.head.Head.{Head}
use Rattle.venice_asm.specs.declared.head.Head.TheVariants as heads
use Rattle.venice_asm.specs.declared.operand.Operand.{Operand}
use Rattle.venice_asm.specs.declared.operand.Operand.TheVariants as operands
use Rattle.venice_asm.specs.declared.phase.ArrayLine.{ArrayLine}
use Rattle.venice_asm.specs.declared.phase.Target.{Target}
use Rattle.venice_asm.specs.declared.phase.Target.TheVariants as targets
use Rattle.venice_asm.specs.Canonical.{line_of, statement_of}
use Rattle.venice_asm.specs.Lines.{is_instr, head_kinds, all_suit, are_in_range}

-- ---- single operands, by their numbers in the line

abbrev pub register_of : Operand → ℕ
register_of (operands.Register number) = number
register_of operand = 0

abbrev pub register_in : List Operand → ℕ → ℕ
register_in list k = option_map_or register_of (slice_get list k) 0

abbrev pub parameter_of : Operand → ℕ
parameter_of (operands.Parameter number) = number
parameter_of operand = 0

abbrev pub parameter_in : List Operand → ℕ → ℕ
parameter_in list k = option_map_or parameter_of (slice_get list k) 0

abbrev pub number_of : Operand → ℕ
number_of (operands.Number n) = n
number_of operand = 0

abbrev pub number_in : List Operand → ℕ → ℕ
number_in list k = option_map_or number_of (slice_get list k) 0

abbrev pub is_write_of : Operand → Bool
is_write_of (operands.Write write) = write
is_write_of operand = false

abbrev pub is_write_in : List Operand → ℕ → Bool
is_write_in list k = option_map_or is_write_of (slice_get list k) false

abbrev pub operation_of : Operand → VecOp
operation_of (operands.Operation op) = op
operation_of operand = Mov

abbrev pub operation_in : List Operand → ℕ → VecOp
operation_in list k = option_map_or operation_of (slice_get list k) Mov

abbrev pub elem_of : Operand → Elem
elem_of (operands.Elem elem) = elem
elem_of operand = U8

abbrev pub elem_in : List Operand → ℕ → Elem
elem_in list k = option_map_or elem_of (slice_get list k) U8

abbrev pub is_a_scalar_of : Operand → Bool
is_a_scalar_of (operands.ModeA a) = a
is_a_scalar_of (operands.ModeAB a b) = a
is_a_scalar_of operand = false

abbrev pub is_a_scalar_in : List Operand → ℕ → Bool
is_a_scalar_in list k = option_map_or is_a_scalar_of (slice_get list k) false

abbrev pub is_b_scalar_of : Operand → Bool
is_b_scalar_of (operands.ModeAB a b) = b
is_b_scalar_of operand = false

abbrev pub is_b_scalar_in : List Operand → ℕ → Bool
is_b_scalar_in list k = option_map_or is_b_scalar_of (slice_get list k) false

-- a label or a number, as a jump's target
abbrev pub as_target : Operand → Option Operand
as_target (operands.Name name) = Some (operands.Name name)
as_target (operands.Number n) = Some (operands.Number n)
as_target operand = None

abbrev pub target_in : List Operand → ℕ → Option Operand
target_in list k = option_and_then as_target (slice_get list k)

-- ---- jumps

-- a jump with another target
abbrev pub with_target : Instr → ℕ → Instr
with_target (Bnz a to) n = Bnz a n
with_target (Blt a b to) n = Blt a b n
with_target (Jmp to) n = Jmp n
with_target instr n = instr

-- the operands of a jump with another target
abbrev pub retargeted : Head → List Operand → ℕ → List Operand
retargeted heads.Bnz (a ∷ target ∷ []) n = a ∷ operands.Number n ∷ []
retargeted heads.Blt (a ∷ b ∷ target ∷ []) n = a ∷ b ∷ operands.Number n ∷ []
retargeted heads.Jmp (target ∷ []) n = operands.Number n ∷ []
retargeted head list n = list

-- the target of a jump
abbrev pub jump_target : Head → List Operand → Option Operand
jump_target heads.Bnz list = target_in list 1
jump_target heads.Blt list = target_in list 2
jump_target heads.Jmp list = target_in list 0
jump_target head list = None

-- ---- instructions

-- the instruction on the host of these operands, its target aside
abbrev pub host_instr : Head → List Operand → Instr
host_instr heads.Li list = Li (register_in list 0) (number_in list 1)
host_instr heads.Addi list = Addi (register_in list 0) (register_in list 1) (number_in list 2)
host_instr heads.Add list = Add (register_in list 0) (register_in list 1) (register_in list 2)
host_instr heads.Sub list = Sub (register_in list 0) (register_in list 1) (register_in list 2)
host_instr heads.Mul list = Mul (register_in list 0) (register_in list 1) (register_in list 2)
host_instr heads.Div list = Div (register_in list 0) (register_in list 1) (register_in list 2)
host_instr heads.Bnz list = Bnz (register_in list 0) 0
host_instr heads.Blt list = Blt (register_in list 0) (register_in list 1) 0
host_instr heads.Jmp list = Jmp 0
host_instr heads.Set list = Set (parameter_in list 0) (register_in list 1)
host_instr heads.Dma list = Dma (is_write_in list 0)
host_instr heads.Rwait list = Rwait (register_in list 0)
host_instr heads.Wwait list = Wwait (register_in list 0)
host_instr heads.Vwait list = Vwait
host_instr heads.Tag list = Tag (register_in list 0)
host_instr heads.Twait list = Twait (register_in list 0)
host_instr head list = Halt

-- the instruction is that of a statement, its target aside
abbrev pub IsInstrOf : Head → List Operand → Instr → Type 0
IsInstrOf head list instr =
    (n : ℕ) → statement_of (with_target instr n) ≡ line_of head (retargeted head list n)

-- the operands are all that an instruction's line has, and in their ranges
pub record IsWholeInstr (head : Head) (list : List Operand) : Type 0 where
  pub version : Version
  pub instr : IsTrue (is_instr head)
  pub suit : IsTrue (all_suit version (head_kinds head) list)
  pub ranges : IsTrue (are_in_range (head_kinds head) list)

abbrev pub IsWholeVector : List Operand → Type 0
IsWholeVector list = IsWholeInstr heads.Vec list

-- ---- arrays and targets

abbrev pub raw_array : ArrayLine → RawEntry
raw_array array = record {
  name_length = length array.name;
  name = array.name;
  kind = bit array.output;
  elem = type_number array.elem;
  rows = array.rows;
  columns = array.columns;
  place = array.place;
}

abbrev pub target_operand : Target → Operand
target_operand (targets.Label name) = operands.Name name
target_operand (targets.Number n) = operands.Number n

-- which operand is the type of A: that of a cast stands behind the type of its results
abbrev pub from_place : VecOp → ℕ
from_place op = if is_cast op then 2 else 1
