-- Cells and memory together, by their places, and what it means to keep to some of them.
use Rattle.std.specs.Prelude.{◌≡◌, ℕ, ◌<◌, ◌⊎◌, false, List, length, slice_get}
use Rattle.std.specs.Option.{option_map}
use Rattle.std.specs.declared.option.Option.{Option}
use Rattle.ven_base.specs.Cell.{Cell}

-- a cell of the scratchpad, or a byte of memory
pub data Place : Type 0 where
  in_cells : ℕ → Place
  in_memory : ℕ → Place

-- cells and memory together
pub record Store : Type 0 where
  pub cells : List Cell
  pub memory : List ℕ

abbrev pub store_of : List Cell → List ℕ → Store
store_of cells memory = record { cells = cells; memory = memory }

-- what stands at a place, if the store has it; a byte of memory has no flag
abbrev pub content_at : Store → Place → Option Cell
content_at store (in_cells p) = slice_get store.cells p
content_at store (in_memory p) = option_map (λ byte. (byte, false)) (slice_get store.memory p)

-- how many cells and how many bytes of memory there are
pub record Size : Type 0 where
  pub cells : ℕ
  pub memory : ℕ

abbrev pub store_size : Store → Size
store_size store = record { cells = length store.cells; memory = length store.memory }

-- so many cells, and no memory
abbrev pub cells_alone : ℕ → Size
cells_alone count = record { cells = count; memory = 0 }

-- a store of this size has the place
abbrev pub HasPlace : Size → Place → Type 0
HasPlace size (in_cells p) = p < size.cells
HasPlace size (in_memory p) = p < size.memory

-- a store of this size has every place that is read or written
pub record IsInRange (reads writes : Place → Type 0) (size : Size) : Type 0 where
  pub has_reads : (place : Place) → reads place → HasPlace size place
  pub has_writes : (place : Place) → writes place → HasPlace size place

-- two stores have the same at each of these places
abbrev pub AgreeOn : (Place → Type 0) → Store → Store → Type 0
AgreeOn places first second = (place : Place) → places place → content_at second place ≡ content_at first place

-- of two stores that change, each place is one of these and gets the same in both, or is left alone in both
abbrev pub ChangeAlike : (Place → Type 0) → (first first_after second second_after : Store) → Type 0
ChangeAlike places first first_after second second_after =
    (place : Place)
    → (places place × (content_at second_after place ≡ content_at first_after place))
    ⊎ ((content_at first_after place ≡ content_at first place)
    × (content_at second_after place ≡ content_at second place))
