-- What is wrong with bytes that spell no image: each defect with its place, and the first.
use Rattle.std.specs.Prelude.{◌≡◌, ◌⊎◌, ℕ, ◌+◌, ◌-◌, ◌<◌, ◌≤◌, List, length, slice_index}
use Rattle.ven_base.specs.First.{IsFirst}
use Rattle.venice_isa.specs.declared.instr.Instr.{Instr}
use Rattle.venice_isa.specs.declared.instr.Instr.TheVariants.{Halt}
use Rattle.venice_isa.specs.Instr.{IsInstr}
use Rattle.venice_isa.specs.Encoding.{encoded}
use Rattle.venice_isa.specs.Code.{HasTargetBelow}
use Rattle.image_loader.specs.declared.fault.ImageFault.{ImageFault}
use Rattle.image_loader.specs.declared.fault.ImageFault.TheVariants.{Truncated, BadMagic, BadTable, BadInstr, BadTarget, NoHalt, Trailing, Memory}
use Rattle.image_loader.specs.Table.{TableField, HeaderField, EntryField, field_place, field_size, BreaksTable}
use Rattle.venice_isa.specs.declared.instr.Version.TheVariants.{One, Two}
use Rattle.image_loader.specs.Image.{magic}
use Rattle.image_loader.specs.Reading.{header_in, version_in, entries_in, instr_place, instr_bytes, image_end}

-- ---- what an image's bytes are made of

-- a byte of the magic, a field of the table, an instruction
pub data Slot : Type 0 where
  MagicByte : ℕ → Slot
  Field : TableField → Slot
  Instruction : ℕ → Slot

abbrev pub slot_place : List ℕ → Slot → ℕ
slot_place bytes (MagicByte i) = i
slot_place bytes (Field field) = field_place (entries_in bytes) field
slot_place bytes (Instruction k) = instr_place bytes k

abbrev pub slot_size : List ℕ → Slot → ℕ
slot_size bytes (MagicByte i) = 1
slot_size bytes (Field field) = field_size (entries_in bytes) field
slot_size bytes (Instruction k) = 8

abbrev pub IsThere : List ℕ → Slot → Type 0
IsThere bytes (MagicByte i) = i < 4
IsThere bytes (Field (HeaderField part)) = Unit {0}
IsThere bytes (Field (EntryField k part)) = k < (header_in bytes).array_count
IsThere bytes (Instruction k) = k < (header_in bytes).instr_count

-- ---- what may be wrong with one

-- byte i of the magic is one of the two versions'
abbrev pub FitsMagic : ℕ → ℕ → Type 0
FitsMagic i byte = (byte ≡ slice_index (magic One) i) ⊎ (byte ≡ slice_index (magic Two) i)

-- the bytes spell an instruction of the version
abbrev pub Spells : List ℕ → ℕ → Instr → Type 0
Spells bytes k instr = IsInstr (version_in bytes) instr × (encoded instr ≡ instr_bytes bytes k)

-- a slot that is whole is wrong, and this is its fault
abbrev pub IsWrong : List ℕ → Slot → ImageFault → Type 0
IsWrong bytes (MagicByte i) BadMagic = ¬ FitsMagic i (slice_index bytes i)
IsWrong bytes (Field field) (BadTable at) =
    BreaksTable (header_in bytes) (entries_in bytes) field × (at ≡ field_place (entries_in bytes) field)
IsWrong bytes (Instruction k) (BadInstr at) = ((instr : Instr) → ¬ Spells bytes k instr) × (at ≡ instr_place bytes k)
IsWrong bytes (Instruction k) (BadTarget at) =
    ((instr : Instr) × Spells bytes k instr × (¬ HasTargetBelow (header_in bytes).instr_count instr))
    × (at ≡ instr_place bytes k)
IsWrong bytes slot fault = ⊥

-- ---- all defects

-- the bytes end too early; a slot is wrong; the last instruction doesn't halt; there are more bytes
pub data Defect : Type 0 where
  CutOff : Defect
  Wrong : Slot → ImageFault → Defect
  Endless : Defect
  Longer : Defect

pub record IsWrongSlot (bytes : List ℕ) (slot : Slot) (fault : ImageFault) : Type 0 where
  pub there : IsThere bytes slot
  pub whole : slot_place bytes slot + slot_size bytes slot ≤ length bytes
  pub wrong : IsWrong bytes slot fault

-- the last instruction is `Halt`
pub record EndsInHalt (bytes : List ℕ) : Type 0 where
  pub some : 0 < (header_in bytes).instr_count
  pub halt : instr_bytes bytes ((header_in bytes).instr_count - 1) ≡ encoded Halt

abbrev pub IsDefect : List ℕ → Defect → Type 0
IsDefect bytes CutOff = length bytes < image_end bytes
IsDefect bytes (Wrong slot fault) = IsWrongSlot bytes slot fault
IsDefect bytes Endless = (image_end bytes ≤ length bytes) × (¬ EndsInHalt bytes)
IsDefect bytes Longer = image_end bytes < length bytes

-- ---- the first

abbrev pub defect_place : List ℕ → Defect → ℕ
defect_place bytes CutOff = length bytes
defect_place bytes (Wrong slot fault) = slot_place bytes slot
defect_place bytes Endless = image_end bytes
defect_place bytes Longer = image_end bytes

-- at one place a missing halt comes before more bytes
abbrev pub defect_rank : Defect → ℕ
defect_rank Longer = 1
defect_rank defect = 0

abbrev pub fault_of : List ℕ → Defect → ImageFault
fault_of bytes CutOff = Truncated (length bytes)
fault_of bytes (Wrong slot fault) = fault
fault_of bytes Endless = NoHalt
fault_of bytes Longer = Trailing (image_end bytes)

-- the fault of the first defect
pub record IsFirstFault (bytes : List ℕ) (fault : ImageFault) : Type 0 where
  pub defect : Defect
  pub first : IsFirst (IsDefect bytes) (defect_place bytes) defect_rank defect
  pub same : fault ≡ fault_of bytes defect

-- an answer other than an image: memory ran out, or it is the first fault
abbrev pub IsAnswer : List ℕ → ImageFault → Type 0
IsAnswer bytes fault = (fault ≡ Memory) ⊎ IsFirstFault bytes fault
