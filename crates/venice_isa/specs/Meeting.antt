-- Inner: how two regions are compared, row by row in the order of their places.
use Rattle.std.specs.Prelude.{◌≡◌, ◌↔◌, ℕ, ◌+◌, ◌-◌, ◌*◌, ◌<◌, ◌≤◌, ◌^◌}
use Rattle.venice_isa.specs.declared.region.Region.{Region}
use Rattle.venice_isa.specs.declared.meeting.Row.{Row}
use Rattle.venice_isa.specs.declared.meeting.Rows.{Rows}
use Rattle.venice_isa.specs.Region.{Covers}

-- the two share a byte
pub record Meet (first second : Region) : Type 0 where
  pub place : ℕ
  pub in_first : Covers first place
  pub in_second : Covers second place

-- every row begins below this place, and where two rows meet, one of them begins at a byte that they share
abbrev pub place_limit : ℕ
place_limit = 2 ^ 64 - 1

-- byte p is one of the row's
pub record IsInRow (row : Row) (p : ℕ) : Type 0 where
  pub from : row.place ≤ p
  pub below : p < row.place + row.bytes

-- two rows share a byte
pub record RowsMeet (first second : Row) : Type 0 where
  pub place : ℕ
  pub in_first : IsInRow first place
  pub in_second : IsInRow second place

-- byte p is one of row k's, counted from the current one on
pub record IsInRows (rows : Rows) (p : ℕ) : Type 0 where
  pub k : ℕ
  pub within : k < rows.left
  pub here : IsInRow (record { place = rows.row.place + k * rows.step; bytes = rows.row.bytes }) p

-- rows with bytes, which begin below the limit
pub record AreRows (rows : Rows) : Type 0 where
  pub some : 0 < rows.left
  pub bytes : 0 < rows.row.bytes
  pub fit : rows.row.place + (rows.left - 1) * rows.step < place_limit

-- two lists of rows share a byte
pub record SomeMeet (first second : Rows) : Type 0 where
  pub place : ℕ
  pub in_first : IsInRows first place
  pub in_second : IsInRows second place

-- below the limit the rows have the region's bytes
abbrev pub StandFor : Region → Rows → Type 0
StandFor region rows = (p : ℕ) → p < place_limit → (Covers region p ↔ IsInRows rows p)

-- below the limit the row has all bytes from the first row's beginning to the last one's end
abbrev pub Spans : Rows → Row → Type 0
Spans rows row =
    (row.place ≡ rows.row.place)
    × ((p : ℕ) → p < place_limit → (p < row.place + row.bytes
    ↔ p < rows.row.place + (rows.left - 1) * rows.step + rows.row.bytes))

-- the rows behind the current one
abbrev pub behind_current : Rows → Rows
behind_current rows = record {
  row = record { place = rows.row.place + rows.step; bytes = rows.row.bytes };
  left = rows.left - 1;
  step = rows.step;
}
