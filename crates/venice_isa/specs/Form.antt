-- The forms of instructions: what each of their eight bytes holds, and the first byte that may not stand where it does.
use Rattle.std.specs.Prelude.{ℕ, ◌/◌, ◌%◌, ◌<◌, ◌≤◌, ◌==◌, nat_lt, Bool, true, false, not, ◌&&◌, ◌||◌, IsTrue, IsFalse, List, [], ◌∷◌, Option, Some, None, slice_get, slice_index, slice_index_or, ◌-◌, length, if◌then◌else◌}
use Rattle.std.specs.Option.{option_map_or, is_some}
use Rattle.ven_base.specs.declared.elem.Elem.{Elem}
use Rattle.ven_base.specs.declared.elem.Elem.TheVariants.{U8, I8, U16, I16, U32, I32}
use Rattle.venice_isa.specs.declared.op.VecOp.{VecOp}
use Rattle.venice_isa.specs.declared.op.VecOp.TheVariants as ops
use Rattle.venice_isa.specs.Mode.{allows_mode}
use Rattle.venice_isa.specs.Encoding.{is_cast}
use Rattle.venice_isa.specs.declared.instr.Version.{Version}
use Rattle.venice_isa.specs.declared.instr.Version.TheVariants.{One, Two}
use Rattle.venice_isa.specs.Instr.{is_second, has_operation}
use Rattle.venice_isa.specs.declared.form.Part.{Part}
use Rattle.venice_isa.specs.declared.form.Part.TheVariants.{Unused, Register, Parameter, Operation, Mode, Types, Direction, Number}
use Rattle.venice_isa.specs.declared.form.Form.{Form}
use Rattle.venice_isa.specs.declared.encoding.InstrFault.{InstrFault}
use Rattle.venice_isa.specs.declared.encoding.InstrFault.TheVariants.{BadOpcode, BadField}

-- ---- the table

abbrev pub row : Version → (byte1 byte2 byte3 number : Part) → Form
row since byte1 byte2 byte3 number = record {
  since = since;
  byte1 = byte1;
  byte2 = byte2;
  byte3 = byte3;
  number = number;
}

-- the instructions in the order of their codes, from 0 on: the version that each came with, bytes 1 to 3, and bytes 4
-- to 7
abbrev pub instruction_set : List Form
instruction_set =
    row One Unused Unused Unused Unused  -- halt
    ∷ row One Register Unused Unused Number  -- li d n
    ∷ row One Register Register Unused Number  -- addi d a n
    ∷ row One Register Register Register Unused  -- add d a b
    ∷ row One Register Register Register Unused  -- sub d a b
    ∷ row One Register Register Register Unused  -- mul d a b
    ∷ row One Register Register Register Unused  -- div d a b
    ∷ row One Unused Register Unused Number  -- bnz a to
    ∷ row One Unused Register Register Number  -- blt a b to
    ∷ row One Unused Unused Unused Number  -- jmp to
    ∷ row One Parameter Register Unused Unused  -- set field a
    ∷ row One Operation Mode Types Unused  -- vec
    ∷ row One Direction Unused Unused Unused  -- dma
    ∷ row One Unused Register Unused Unused  -- rwait a
    ∷ row One Unused Register Unused Unused  -- wwait a
    ∷ row One Unused Unused Unused Unused  -- vwait
    ∷ row Two Unused Register Unused Unused  -- tag a
    ∷ row Two Unused Register Unused Unused  -- twait a
    ∷ []

-- the operations of the lanes in the order of their numbers, from 0 on
abbrev pub operations : List VecOp
operations =
    ops.Mov ∷ ops.Cast ∷ ops.Add ∷ ops.Sub ∷ ops.Mul ∷ ops.And ∷ ops.Or ∷ ops.Xor ∷ ops.Shl ∷ ops.Shr
    ∷ ops.Min ∷ ops.Max ∷ ops.Abs ∷ ops.Eq ∷ ops.Ne ∷ ops.Lt ∷ ops.Le ∷ ops.Cmov ∷ ops.Sadd ∷ ops.Ssub ∷ []

-- and the element types
abbrev pub element_types : List Elem
element_types = U8 ∷ I8 ∷ U16 ∷ I16 ∷ U32 ∷ I32 ∷ []

-- ---- what may stand in a byte

-- bits 1 and 2 of a mode: B is a scalar, the results of a row are accumulated; bit 0, that A is a scalar, is always
-- allowed
abbrev pub allows_mode_byte : Option VecOp → ℕ → Bool
allows_mode_byte None byte = false
allows_mode_byte (Some op) byte = nat_lt byte 8 && allows_mode op (byte / 2 % 2 == 1) (byte / 4 == 1)

-- the low four bits are the type of the results, the high four bits that of a cast's operand, and else 0
abbrev pub allows_types_byte : Option VecOp → ℕ → Bool
allows_types_byte None byte = false
allows_types_byte (Some op) byte =
    is_some (slice_get element_types (byte % 16))
    && (if is_cast op then is_some (slice_get element_types (byte / 16)) else byte / 16 == 0)

-- whether this byte may stand there, in an instruction whose byte 1 is `operation`
abbrev pub allows : Version → Part → (operation byte : ℕ) → Bool
allows version Unused operation byte = byte == 0
allows version Register operation byte = nat_lt byte 32
allows version Parameter operation byte = nat_lt byte 14
allows version Direction operation byte = nat_lt byte 2
allows version Operation operation byte = option_map_or (has_operation version) (slice_get operations byte) false
allows version Mode operation byte = allows_mode_byte (slice_get operations operation) byte
allows version Types operation byte = allows_types_byte (slice_get operations operation) byte
allows version Number operation byte = true

-- ---- the first byte that may not stand where it does

-- the version has the row
abbrev pub has_row : Version → Form → Bool
has_row version form = is_second version || not (is_second form.since)

-- the row of a code
abbrev pub row_at : ℕ → Form
row_at code = slice_index_or instruction_set code (row Two Unused Unused Unused Unused)

-- the version has an instruction with this code
abbrev pub has_code : Version → ℕ → Bool
has_code version code = nat_lt code (length instruction_set) && has_row version (row_at code)

-- what byte k holds, from 1 to 7
abbrev pub part_of : Form → ℕ → Part
part_of form k = slice_index_or (form.byte1 ∷ form.byte2 ∷ form.byte3 ∷ []) (k - 1) form.number

-- whether byte k of eight may stand there
abbrev pub allows_at : Version → List ℕ → ℕ → Bool
allows_at version bytes k =
    allows version (part_of (row_at (slice_index bytes 0)) k) (slice_index bytes 1) (slice_index bytes k)

-- no byte breaks the table
pub record IsAllowed (version : Version) (bytes : List ℕ) : Type 0 where
  pub code : IsTrue (has_code version (slice_index bytes 0))
  pub each : (k : ℕ) → 1 ≤ k → k < 8 → IsTrue (allows_at version bytes k)

-- byte k is the first, from 1 on, that does
pub record BreaksFirst (version : Version) (bytes : List ℕ) (k : ℕ) : Type 0 where
  pub code : IsTrue (has_code version (slice_index bytes 0))
  pub from : 1 ≤ k
  pub below : k < 8
  pub breaks : IsFalse (allows_at version bytes k)
  pub earlier : (j : ℕ) → 1 ≤ j → j < k → IsTrue (allows_at version bytes j)

-- what is wrong with eight bytes: no instruction of the version has this code, or this byte is the first that breaks
-- the table
abbrev pub IsInstrFault : Version → List ℕ → InstrFault → Type 0
IsInstrFault version bytes BadOpcode = IsFalse (has_code version (slice_index bytes 0))
IsInstrFault version bytes (BadField k) = BreaksFirst version bytes k
