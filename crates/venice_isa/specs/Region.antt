-- Where elements stand: rows of elements, in cells or in memory.
use Rattle.std.specs.Prelude.{◌≡◌, ℕ, ◌+◌, ◌*◌, ◌<◌, ◌≤◌}
use Rattle.venice_isa.specs.declared.region.Region.{Region}

-- where element j of row r stands
abbrev pub place_in : Region → ℕ → ℕ → ℕ
place_in region r j = region.place + r * region.step + j * region.size

-- byte p is one of element j of row r
pub record IsAt (region : Region) (r j p : ℕ) : Type 0 where
  pub row : r < region.rows
  pub column : j < region.columns
  pub from : place_in region r j ≤ p
  pub below : p < place_in region r j + region.size

-- byte p is one of some element's
abbrev pub Covers : Region → ℕ → Type 0
Covers region p = (r : ℕ) × (j : ℕ) × IsAt region r j p

-- every byte lies below the end
abbrev pub LiesBelow : Region → ℕ → Type 0
LiesBelow region end = (p : ℕ) → Covers region p → p < end

-- no byte belongs to two elements
abbrev pub HasElementsApart : Region → Type 0
HasElementsApart region = (p r j r' j' : ℕ) → IsAt region r j p → IsAt region r' j' p → (r ≡ r') × (j ≡ j')

-- no row reaches into the next
abbrev pub HasRowsApart : Region → Type 0
HasRowsApart region = 1 < region.rows → region.columns * region.size ≤ region.step

-- the two share no byte
abbrev pub IsApartFrom : Region → Region → Type 0
IsApartFrom region other = (p : ℕ) → Covers region p → ¬ Covers other p

-- the two have, element by element, the same places and size
pub record HasSamePlaces (region other : Region) : Type 0 where
  pub size : region.size ≡ other.size
  pub rows : region.rows ≡ other.rows
  pub columns : region.columns ≡ other.columns
  pub places : (r j : ℕ) → r < region.rows → j < region.columns → place_in region r j ≡ place_in other r j
