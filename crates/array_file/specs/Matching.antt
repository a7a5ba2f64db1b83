-- Inner: how far a table's inputs, and then the arrays, have been looked at.
use Rattle.std.specs.Prelude.{◌≡◌, ◌≢◌, ℕ, ◌<◌, false, List, slice_get, Some, None}
use Rattle.ven_base.specs.declared.entry.Entry.{Entry}
use Rattle.ven_base.specs.Grid.{Grid}
use Rattle.ven_base.specs.Pairs.{Pairs, names_of, array_named}
use Rattle.array_file.specs.declared.fitting.FitFault.{FitFault}
use Rattle.array_file.specs.declared.fitting.FitFault.TheVariants as answers
use Rattle.array_file.specs.Fitting.{IsInput, ListsInput, HasArrayFor}

-- the entry is no input, or its array is there with its type and shape
abbrev pub FitsEntry : Pairs → Entry → Type 0
FitsEntry arrays entry =
    entry.output ≡ false
    → (grid : Grid) × HasArrayFor arrays entry grid × (grid.elem ≡ entry.elem) × (grid.shape ≡ entry.shape)

-- why an entry isn't fitted: the first of its causes
abbrev pub Refuses : Pairs → Entry → FitFault → Type 0
Refuses arrays entry (answers.Missing name) =
    (entry.output ≡ false) × (name ≡ entry.name) × (array_named arrays entry.name ≡ None)
Refuses arrays entry (answers.TypeWrong name) =
    (entry.output ≡ false) × (name ≡ entry.name)
    × ((grid : Grid) × HasArrayFor arrays entry grid × (grid.elem ≢ entry.elem))
Refuses arrays entry (answers.ShapeWrong name) =
    (entry.output ≡ false) × (name ≡ entry.name)
    × ((grid : Grid) × HasArrayFor arrays entry grid × (grid.elem ≡ entry.elem) × (grid.shape ≢ entry.shape))
Refuses arrays entry (answers.Extra name) = ⊥

-- the first entries of a table are fitted
abbrev pub FitsUpTo : Pairs → List Entry → ℕ → Type 0
FitsUpTo arrays table n = (k : ℕ) (entry : Entry) → k < n → slice_get table k ≡ Some entry → FitsEntry arrays entry

-- the first arrays are inputs of the table
abbrev pub NamesUpTo : Pairs → List Entry → ℕ → Type 0
NamesUpTo arrays table n =
    (k : ℕ) (name : List ℕ) → k < n → slice_get (names_of arrays) k ≡ Some name → ListsInput table name

-- the entry is an input of this name
abbrev pub IsInputNamed : Entry → List ℕ → Type 0
IsInputNamed entry name = (entry.output ≡ false) × (entry.name ≡ name)

-- none of the first entries is
abbrev pub NoneUpTo : List Entry → List ℕ → ℕ → Type 0
NoneUpTo table name n = (k : ℕ) (entry : Entry) → k < n → slice_get table k ≡ Some entry → ¬ IsInputNamed entry name
