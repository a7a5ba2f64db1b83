-- Whether named arrays fit a table, and why they don't.
use Rattle.std.specs.Prelude.{◌≡◌, ◌≢◌, ℕ, ◌+◌, false, List, length, slice_get, Contains, Some, None}
use Rattle.ven_base.specs.declared.entry.Entry.{Entry}
use Rattle.ven_base.specs.First.{IsFirst}
use Rattle.ven_base.specs.Grid.{Grid}
use Rattle.ven_base.specs.Pairs.{Pairs, names_of, array_named}
use Rattle.array_file.specs.declared.fitting.FitFault.{FitFault}
use Rattle.array_file.specs.declared.fitting.FitFault.TheVariants as answers

-- the entry stands at this place of the table, and is an input
pub record IsInput (table : List Entry) (k : ℕ) (entry : Entry) : Type 0 where
  pub stands : slice_get table k ≡ Some entry
  pub input : entry.output ≡ false

-- an input of the table has this name
pub record ListsInput (table : List Entry) (name : List ℕ) : Type 0 where
  pub k : ℕ
  pub entry : Entry
  pub is_input : IsInput table k entry
  pub named : entry.name ≡ name

-- an array with the entry's name is there
pub record HasArrayFor (arrays : Pairs) (entry : Entry) (grid : Grid) : Type 0 where
  pub is : array_named arrays entry.name ≡ Some grid

-- each input of the table is there, with its type and its shape, and no other array
pub record Fits (arrays : Pairs) (table : List Entry) : Type 0 where
  pub inputs : (k : ℕ) (entry : Entry) → IsInput table k entry
      → (grid : Grid) × HasArrayFor arrays entry grid × (grid.elem ≡ entry.elem) × (grid.shape ≡ entry.shape)
  pub only : (name : List ℕ) → Contains (names_of arrays) name → ListsInput table name

-- why arrays don't fit a table: at one of its entries, or at one of the arrays
pub data Misfit : Type 0 where
  Missing : (k : ℕ) (entry : Entry) → Misfit
  TypeWrong : (k : ℕ) (entry : Entry) → Misfit
  ShapeWrong : (k : ℕ) (entry : Entry) → Misfit
  Extra : (k : ℕ) (name : List ℕ) → Misfit

abbrev pub IsMisfit : Pairs → List Entry → Misfit → Type 0
IsMisfit arrays table (Missing k entry) = IsInput table k entry × (array_named arrays entry.name ≡ None)
IsMisfit arrays table (TypeWrong k entry) =
    IsInput table k entry × ((grid : Grid) × HasArrayFor arrays entry grid × (grid.elem ≢ entry.elem))
IsMisfit arrays table (ShapeWrong k entry) =
    IsInput table k entry × ((grid : Grid) × HasArrayFor arrays entry grid × (grid.shape ≢ entry.shape))
IsMisfit arrays table (Extra k name) = (slice_get (names_of arrays) k ≡ Some name) × (¬ ListsInput table name)

-- the entries come in the table's order, and behind them the arrays in theirs
abbrev pub place_in : List Entry → Misfit → ℕ
place_in table (Missing k entry) = k
place_in table (TypeWrong k entry) = k
place_in table (ShapeWrong k entry) = k
place_in table (Extra k name) = length table + k

-- the order at one entry
abbrev pub rank_of : Misfit → ℕ
rank_of (Missing k entry) = 1
rank_of (TypeWrong k entry) = 2
rank_of (ShapeWrong k entry) = 3
rank_of (Extra k name) = 4

abbrev pub answer_of : Misfit → FitFault
answer_of (Missing k entry) = answers.Missing entry.name
answer_of (TypeWrong k entry) = answers.TypeWrong entry.name
answer_of (ShapeWrong k entry) = answers.ShapeWrong entry.name
answer_of (Extra k name) = answers.Extra name

-- the answer is that of the first misfit
pub record IsUnfit (arrays : Pairs) (table : List Entry) (answer : FitFault) : Type 0 where
  pub misfit : Misfit
  pub first : IsFirst (IsMisfit arrays table) (place_in table) rank_of misfit
  pub is : answer ≡ answer_of misfit
