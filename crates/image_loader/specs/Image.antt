-- Images, and the bytes that spell them.
use Rattle.std.specs.Prelude.{ℕ, List, [], ◌∷◌, ◌++◌, length, map}
use Rattle.std.specs.List.{flat_map}
use Rattle.std.specs.Int.{w32, to_le_bytes}
use Rattle.ven_base.specs.declared.entry.Entry.{Entry}
use Rattle.venice_isa.specs.declared.instr.Version.{Version}
use Rattle.venice_isa.specs.declared.instr.Version.TheVariants.{One, Two}
use Rattle.venice_isa.specs.Encoding.{bit, type_number, encoded}
use Rattle.venice_isa.specs.Code.{Listing, IsCode}
use Rattle.image_loader.specs.Table.{Header, RawEntry, TableField, BreaksTable}

-- the bytes of scratchpad and memory, the arrays in memory, and the code
pub record ImageContents : Type 0 where
  pub spad : ℕ
  pub memory : ℕ
  pub arrays : List Entry
  pub code : Listing

-- ---- what stands in its bytes

abbrev pub raw_entry : Entry → RawEntry
raw_entry entry = record {
  name_length = length entry.name;
  name = entry.name;
  kind = bit entry.output;
  elem = type_number entry.elem;
  rows = entry.shape.rows;
  columns = entry.shape.cols;
  place = entry.place;
}

abbrev pub raw_entries : List Entry → List RawEntry
raw_entries entries = map raw_entry entries

abbrev pub header_of : ImageContents → Header
header_of image = record {
  spad = image.spad;
  memory = image.memory;
  array_count = length image.arrays;
  instr_count = length image.code.instrs;
}

-- no field of the table breaks a rule
abbrev pub IsTable : Header → List RawEntry → Type 0
IsTable header entries = (field : TableField) → ¬ BreaksTable header entries field

-- an image: its table and its code keep their rules
pub record IsImage (image : ImageContents) : Type 0 where
  pub table : IsTable (header_of image) (raw_entries image.arrays)
  pub code : IsCode image.code

-- ---- the spelling

abbrev pub word : ℕ → List ℕ
word n = to_le_bytes w32 n

-- `VNC1` or `VNC2`
abbrev pub version_byte : Version → ℕ
version_byte One = 49
version_byte Two = 50

abbrev pub magic : Version → List ℕ
magic version = 86 ∷ 78 ∷ 67 ∷ version_byte version ∷ []

abbrev pub header_bytes : Header → List ℕ
header_bytes header = word header.spad ++ (word header.memory ++ (word header.array_count ++ word header.instr_count))

abbrev pub entry_bytes : RawEntry → List ℕ
entry_bytes entry =
    entry.name_length ∷ (entry.name ++ (entry.kind ∷ entry.elem
    ∷ (word entry.rows ++ (word entry.columns ++ word entry.place))))

abbrev pub table_bytes : List RawEntry → List ℕ
table_bytes entries = flat_map entry_bytes entries

abbrev pub code_bytes : Listing → List ℕ
code_bytes code = flat_map encoded code.instrs

unfoldable pub spelling : ImageContents → List ℕ
spelling image =
    magic image.code.version
    ++ (header_bytes (header_of image) ++ (table_bytes (raw_entries image.arrays) ++ code_bytes image.code))
