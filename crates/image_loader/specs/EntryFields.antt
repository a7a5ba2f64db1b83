-- Inner: the checks of an entry's parts.
use Rattle.std.specs.Prelude.{◌≡◌, ◌≢◌, ◌⊎◌, ℕ, ◌*◌, ◌<◌, List, length, Contains}
use Rattle.ven_base.specs.Name.{IsName}
use Rattle.ven_base.specs.Extent.{element_limit}
use Rattle.image_loader.specs.declared.table.EntryFields.{EntryFields}
use Rattle.image_loader.specs.declared.table.EntryPart.{EntryPart}
use Rattle.image_loader.specs.declared.table.EntryPart.TheVariants.{NameLength, NameBytes, Rows, Columns}
use Rattle.image_loader.specs.Table.{RawEntry, LiesIn, names_of}

abbrev pub raw_fields : EntryFields → RawEntry
raw_fields fields = record {
  name_length = length fields.name.now;
  name = fields.name.now;
  kind = fields.kind;
  elem = fields.elem;
  rows = fields.rows;
  columns = fields.columns;
  place = fields.place;
}

pub record IsGoodName (earlier : List RawEntry) (bytes name : List ℕ) : Type 0 where
  pub same : name ≡ bytes
  pub length_is : LiesIn 1 31 (length bytes)
  pub is_name : IsName bytes
  pub is_new : ¬ Contains (names_of earlier) bytes

abbrev pub IsBadName : List RawEntry → List ℕ → EntryPart → Type 0
IsBadName earlier bytes NameLength = ¬ LiesIn 1 31 (length bytes)
IsBadName earlier bytes NameBytes = LiesIn 1 31 (length bytes) × ((¬ IsName bytes) ⊎ Contains (names_of earlier) bytes)
IsBadName earlier bytes part = ⊥

abbrev pub IsBadShape : ℕ → ℕ → EntryPart → Type 0
IsBadShape rows columns Rows = rows ≡ 0
IsBadShape rows columns Columns = (rows ≢ 0) × ((columns ≡ 0) ⊎ (element_limit < rows * columns))
IsBadShape rows columns part = ⊥
