-- The table of an image: its fields with their places, and the rules that they keep. It is said of numbers as they
-- stand in bytes, whatever they are, so that a text that would give a wrong table has the same first fault as its
-- bytes.
use Rattle.std.specs.Prelude.{◌≡◌, ◌⊎◌, ℕ, zero, suc, Bool, ◌&&◌, nat_lt, IsTrue, ◌+◌, ◌*◌, ◌<◌, ◌≤◌, List, [], ◌∷◌, map, take, Contains, slice_get, slice_index_or}
use Rattle.std.specs.List.{list_any}
use Rattle.std.specs.Option.{IsSomeAnd}
use Rattle.ven_base.specs.declared.elem.Elem.{Elem}
use Rattle.ven_base.specs.declared.elem.Elem.TheVariants.{U8}
use Rattle.ven_base.specs.Elem.{size_of}
use Rattle.ven_base.specs.Extent.{element_limit}
use Rattle.ven_base.specs.Limits.{cell_limit, memory_limit}
use Rattle.ven_base.specs.Name.{IsName}
use Rattle.venice_isa.specs.Limits.{instruction_limit}
use Rattle.venice_isa.specs.Form.{element_types}
use Rattle.image_loader.specs.declared.table.EntryPart.{EntryPart}
use Rattle.image_loader.specs.declared.table.EntryPart.TheVariants.{NameLength, NameBytes, Kind, ElementType, Rows, Columns, Place}

-- ---- limits

-- the most arrays of an image
abbrev pub array_limit : ℕ
array_limit = 256

-- the most bytes of a file that is read; no image has more
abbrev pub file_limit : ℕ
file_limit = 67108864

-- ---- what stands in the bytes

-- the four numbers behind the magic
pub record Header : Type 0 where
  pub spad : ℕ
  pub memory : ℕ
  pub array_count : ℕ
  pub instr_count : ℕ

-- an array's entry: its name and how long that is said to be, the numbers of its kind and its type, its shape and its
-- place
pub record RawEntry : Type 0 where
  pub name_length : ℕ
  pub name : List ℕ
  pub kind : ℕ
  pub elem : ℕ
  pub rows : ℕ
  pub columns : ℕ
  pub place : ℕ

-- ---- the fields and their places

pub data HeaderPart : Type 0 where
  Spad Memory Arrays Instrs : HeaderPart

pub data TableField : Type 0 where
  HeaderField : HeaderPart → TableField
  EntryField : ℕ → EntryPart → TableField

-- where an entry's part begins, behind the entry's beginning, and how many bytes it has, where the name has n
abbrev pub offset_of : EntryPart → ℕ → ℕ
offset_of NameLength n = 0
offset_of NameBytes n = 1
offset_of Kind n = 1 + n
offset_of ElementType n = 2 + n
offset_of Rows n = 3 + n
offset_of Columns n = 7 + n
offset_of Place n = 11 + n

abbrev pub part_size : EntryPart → ℕ → ℕ
part_size NameLength n = 1
part_size NameBytes n = n
part_size Kind n = 1
part_size ElementType n = 1
part_size Rows n = 4
part_size Columns n = 4
part_size Place n = 4

abbrev pub entry_size : RawEntry → ℕ
entry_size entry = 15 + entry.name_length

-- the first entry stands behind magic and header
abbrev pub table_place : ℕ
table_place = 20

-- where entry k begins, of entries that stand one after another from a place on; past the last, where that ends
abbrev pub place_from : ℕ → List RawEntry → ℕ → ℕ
place_from start entries zero = start
place_from start [] (suc k) = start
place_from start (entry ∷ entries) (suc k) = place_from (start + entry_size entry) entries k

abbrev pub entry_place : List RawEntry → ℕ → ℕ
entry_place entries k = place_from table_place entries k

abbrev pub no_entry : RawEntry
no_entry = record { name_length = 0; name = []; kind = 0; elem = 0; rows = 0; columns = 0; place = 0 }

abbrev pub name_length : List RawEntry → ℕ → ℕ
name_length entries k = (slice_index_or entries k no_entry).name_length

abbrev pub header_place : HeaderPart → ℕ
header_place Spad = 4
header_place Memory = 8
header_place Arrays = 12
header_place Instrs = 16

abbrev pub field_place : List RawEntry → TableField → ℕ
field_place entries (HeaderField part) = header_place part
field_place entries (EntryField k part) = entry_place entries k + offset_of part (name_length entries k)

abbrev pub field_size : List RawEntry → TableField → ℕ
field_size entries (HeaderField part) = 4
field_size entries (EntryField k part) = part_size part (name_length entries k)

-- the parts of an entry in their order
abbrev pub part_number : EntryPart → ℕ
part_number NameLength = 0
part_number NameBytes = 1
part_number Kind = 2
part_number ElementType = 3
part_number Rows = 4
part_number Columns = 5
part_number Place = 6

-- ---- the rules

-- a number lies from one number to another
pub record LiesIn (least most n : ℕ) : Type 0 where
  pub from : least ≤ n
  pub to : n ≤ most

-- the least and the greatest number of a part of the header, and the number that stands there
abbrev pub least_of : HeaderPart → ℕ
least_of Spad = 1
least_of part = 0

abbrev pub most_of : HeaderPart → ℕ
most_of Spad = cell_limit
most_of Memory = memory_limit
most_of Arrays = array_limit
most_of Instrs = instruction_limit

abbrev pub header_number : Header → HeaderPart → ℕ
header_number header Spad = header.spad
header_number header Memory = header.memory
header_number header Arrays = header.array_count
header_number header Instrs = header.instr_count

-- the bytes of an array
abbrev pub elem_of : ℕ → Elem
elem_of number = slice_index_or element_types number U8

abbrev pub array_bytes : RawEntry → ℕ
array_bytes entry = entry.rows * entry.columns * size_of (elem_of entry.elem)

-- whether two arrays share a byte
abbrev pub share_byte : RawEntry → RawEntry → Bool
share_byte entry other =
    nat_lt other.place (entry.place + array_bytes entry) && nat_lt entry.place (other.place + array_bytes other)

abbrev pub names_of : List RawEntry → List (List ℕ)
names_of entries = map (λ entry. entry.name) entries

-- a part of an entry breaks its rule, with so much memory and behind these entries; a name is looked at where its
-- length is right, a number of columns where there are rows
abbrev pub BreaksEntry : (memory : ℕ) (earlier : List RawEntry) (entry : RawEntry) → EntryPart → Type 0
BreaksEntry memory earlier entry NameLength = ¬ LiesIn 1 31 entry.name_length
BreaksEntry memory earlier entry NameBytes =
    LiesIn 1 31 entry.name_length × ((¬ IsName entry.name) ⊎ Contains (names_of earlier) entry.name)
BreaksEntry memory earlier entry Kind = 1 < entry.kind
BreaksEntry memory earlier entry ElementType = 5 < entry.elem
BreaksEntry memory earlier entry Rows = entry.rows ≡ 0
BreaksEntry memory earlier entry Columns = (entry.columns ≡ 0) ⊎ (element_limit < entry.rows * entry.columns)
BreaksEntry memory earlier entry Place =
    (memory < entry.place + array_bytes entry) ⊎ IsTrue (list_any (share_byte entry) earlier)

abbrev pub BreaksTable : Header → List RawEntry → TableField → Type 0
BreaksTable header entries (HeaderField part) = ¬ LiesIn (least_of part) (most_of part) (header_number header part)
BreaksTable header entries (EntryField k part) =
    IsSomeAnd (slice_get entries k) (λ entry. BreaksEntry header.memory (take k entries) entry part)

-- a part is the first of an entry that breaks its rule
pub record BreaksFirst (memory : ℕ) (earlier : List RawEntry) (entry : RawEntry) (part : EntryPart) : Type 0 where
  pub breaks : BreaksEntry memory earlier entry part
  pub before : (other : EntryPart) → part_number other < part_number part → ¬ BreaksEntry memory earlier entry other

-- none does
pub record IsRight (memory : ℕ) (earlier : List RawEntry) (entry : RawEntry) : Type 0 where
  pub each : (part : EntryPart) → ¬ BreaksEntry memory earlier entry part
