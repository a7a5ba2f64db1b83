-- Inner: how far bytes have been read, and what each step of reading answers.
use Rattle.std.specs.Prelude.{◌≡◌, ◌⊎◌, ℕ, ◌+◌, ◌*◌, ◌<◌, ◌≤◌, List, [], ◌∷◌, length, take, slice_index, slice_index_or}
use Rattle.ven_base.specs.declared.entry.Entry.{Entry}
use Rattle.venice_isa.specs.declared.instr.Version.{Version}
use Rattle.venice_isa.specs.declared.instr.Instr.{Instr}
use Rattle.venice_isa.specs.declared.instr.Instr.TheVariants.{Halt}
use Rattle.venice_isa.specs.Instr.{IsInstr}
use Rattle.venice_isa.specs.Encoding.{encoded}
use Rattle.venice_isa.specs.Code.{HasTargetBelow}
use Rattle.image_loader.specs.declared.fault.ImageFault.{ImageFault}
use Rattle.image_loader.specs.declared.fault.ImageFault.TheVariants.{Truncated, BadTable, BadInstr, BadTarget}
use Rattle.image_loader.specs.declared.header.HeaderFields.{HeaderFields}
use Rattle.image_loader.specs.Table.{Header, HeaderPart, RawEntry, no_entry, LiesIn, least_of, most_of, header_number, entry_size, entry_place, IsRight}
use Rattle.image_loader.specs.Image.{magic, raw_entries}
use Rattle.image_loader.specs.Reading.{number_at, eight_at, version_in, header_in, entry_at, entries_in, code_place}
use Rattle.image_loader.specs.Faults.{Defect, IsDefect, defect_place, Spells}

-- the bytes are whole up to a place, and no defect stands before it
pub record IsReadTo (bytes : List ℕ) (place : ℕ) : Type 0 where
  pub within : place ≤ length bytes
  pub none : (defect : Defect) → IsDefect bytes defect → place ≤ defect_place bytes defect

-- ---- the magic and the header

pub record IsMagicRead (bytes : List ℕ) (version : Version) : Type 0 where
  pub version_is : version ≡ version_in bytes
  pub spelled : magic version
      ≡ slice_index bytes 0 ∷ slice_index bytes 1 ∷ slice_index bytes 2 ∷ slice_index bytes 3 ∷ []
  pub read : IsReadTo bytes 4

-- a number that is whole and lies in its range
pub record IsGoodNumber (bytes : List ℕ) (place least most n : ℕ) : Type 0 where
  pub whole : place + 4 ≤ length bytes
  pub number_is : n ≡ number_at bytes place
  pub lies : LiesIn least most n

abbrev pub IsBadNumber : List ℕ → (place least most : ℕ) → ImageFault → Type 0
IsBadNumber bytes place least most (Truncated at) = (at ≡ length bytes) × (length bytes < place + 4)
IsBadNumber bytes place least most (BadTable at) =
    (at ≡ place) × (place + 4 ≤ length bytes) × (¬ LiesIn least most (number_at bytes place))
IsBadNumber bytes place least most fault = ⊥

abbrev pub numbers_of : HeaderFields → Header
numbers_of fields = record {
  spad = fields.spad;
  memory = fields.memory;
  array_count = fields.array_count;
  instr_count = fields.instr_count;
}

pub record IsHeaderRead (bytes : List ℕ) (header : Header) : Type 0 where
  pub numbers : header ≡ header_in bytes
  pub lies : (part : HeaderPart) → LiesIn (least_of part) (most_of part) (header_number header part)
  pub read : IsReadTo bytes 20

-- ---- the entries

-- the next entry stands here, behind these
pub record IsAtEntry (bytes : List ℕ) (place memory : ℕ) (earlier : List RawEntry) : Type 0 where
  pub read : IsReadTo bytes place
  pub place_is : place ≡ entry_place (entries_in bytes) (length earlier)
  pub memory_is : memory ≡ (header_in bytes).memory
  pub earlier_are : earlier ≡ take (length earlier) (entries_in bytes)
  pub more : length earlier < (header_in bytes).array_count

pub record IsEntryRead (bytes : List ℕ) (place memory : ℕ) (earlier : List RawEntry) (entry : RawEntry) : Type 0 where
  pub same : entry ≡ entry_at bytes place
  pub right : IsRight memory earlier entry
  pub read : IsReadTo bytes (place + entry_size entry)

-- a part that has to stop the reading, whole or not
abbrev pub IsStop : List ℕ → (place size : ℕ) → ImageFault → Type 0
IsStop bytes place size fault =
    ((place + size ≤ length bytes) × (fault ≡ BadTable place))
    ⊎ ((length bytes < place + size) × (fault ≡ Truncated (length bytes)))

-- each of these entries keeps its rules behind those before it
abbrev pub AreRight : ℕ → List RawEntry → Type 0
AreRight memory entries =
    (k : ℕ) → k < length entries → IsRight memory (take k entries) (slice_index_or entries k no_entry)

-- so many entries are read, up to a place
pub record AreEntriesRead (bytes : List ℕ) (arrays : List Entry) (end k : ℕ) : Type 0 where
  pub count : length (raw_entries arrays) ≡ k
  pub small : end ≤ 20 + 46 * k
  pub place_is : end ≡ entry_place (entries_in bytes) (length (raw_entries arrays))
  pub are : raw_entries arrays ≡ take (length (raw_entries arrays)) (entries_in bytes)
  pub right : AreRight (header_in bytes).memory (raw_entries arrays)
  pub read : IsReadTo bytes end

pub record IsTableRead (bytes : List ℕ) (arrays : List Entry) (end : ℕ) : Type 0 where
  pub entries_are : raw_entries arrays ≡ entries_in bytes
  pub right : AreRight (header_in bytes).memory (raw_entries arrays)
  pub end_is : end ≡ code_place bytes
  pub read : IsReadTo bytes (code_place bytes)

-- ---- the instructions

pub record IsInstrRead (bytes : List ℕ) (place : ℕ) (version : Version) (count : ℕ) (instr : Instr) : Type 0 where
  pub whole : place + 8 ≤ length bytes
  pub is_instr : IsInstr version instr
  pub spelled : encoded instr ≡ eight_at bytes place
  pub target : HasTargetBelow count instr

abbrev pub IsInstrStop : List ℕ → ℕ → Version → ℕ → ImageFault → Type 0
IsInstrStop bytes place version count (Truncated at) = (at ≡ length bytes) × (length bytes < place + 8)
IsInstrStop bytes place version count (BadInstr at) =
    (at ≡ place) × (place + 8 ≤ length bytes)
    × ((instr : Instr) → IsInstr version instr → ¬ (encoded instr ≡ eight_at bytes place))
IsInstrStop bytes place version count (BadTarget at) =
    (at ≡ place) × (place + 8 ≤ length bytes)
    × ((instr : Instr) × IsInstr version instr × (encoded instr ≡ eight_at bytes place)
    × (¬ HasTargetBelow count instr))
IsInstrStop bytes place version count fault = ⊥

-- these are the first instructions
pub record AreRead (bytes : List ℕ) (instrs : List Instr) : Type 0 where
  pub spelled : (k : ℕ) → k < length instrs → Spells bytes k (slice_index_or instrs k Halt)
  pub targets : (k : ℕ) → k < length instrs
      → HasTargetBelow (header_in bytes).instr_count (slice_index_or instrs k Halt)

-- all of them
pub record IsCodeRead (bytes : List ℕ) (instrs : List Instr) (end : ℕ) : Type 0 where
  pub count : length instrs ≡ (header_in bytes).instr_count
  pub are : AreRead bytes instrs
  pub read : IsReadTo bytes end
