-- What holds of the table of every checked program's split.
use Rattle.std.specs.Prelude.{◌≡◌, ◌≢◌, ℕ, ◌<◌, List, length, map, get_or, slice_get, Contains, Some, false}
use Rattle.std.specs.List.{filter, AllZip, AllPairs}
use Rattle.ven_base.specs.declared.entry.Entry.{Entry}
use Rattle.ven_base.specs.Grid.{Grid, IsGrid}
use Rattle.ven_base.specs.Pairs.{Pairs, array_named}
use Rattle.shape_check.specs.Checked.{IsCheckedProgram}
use Rattle.shape_check.specs.Meaning.{meaning_of, FitInputs}
use Rattle.shape_check.specs.Statement.{Statement}
use Rattle.pass_plan.specs.Pass.{Arrays, arrays_after}
use Rattle.pass_plan.specs.Sound.{Split, no_place, destinations_of}
use Rattle.expr_split.specs.DeclaredTable.{declared_table, unplaced}
use Rattle.expr_split.specs.Places.{IsSplitOf, first_arrays, input_grids}

-- the table has the program's inputs and outputs
abbrev pub TablesAreDeclared : Type 0
TablesAreDeclared =
    (program : List Statement) (split : Split) → IsCheckedProgram program → IsSplitOf program split
    → map unplaced split.table ≡ declared_table program

-- the array of the split with this number stands where the entry says, with its type and shape
pub record StandsAt (split : Split) (entry : Entry) (number : ℕ) : Type 0 where
  pub known : number < length split.arrays
  pub is : get_or split.arrays number no_place ≡ record { elem = entry.elem; shape = entry.shape; place = entry.place }

-- each entry stands for an array of its own
pub record HasNumbers (split : Split) : Type 0 where
  pub numbers : List ℕ
  pub stand : AllZip (StandsAt split) split.table numbers
  pub own : AllPairs (λ a b. a ≢ b) numbers

abbrev pub EntriesAreArrays : Type 0
EntriesAreArrays =
    (program : List Statement) (split : Split) → IsCheckedProgram program → IsSplitOf program split → HasNumbers split

-- an input entry of the table for an array, and the array of that name
pub record IsFrom (split : Split) (inputs : Pairs) (number : ℕ) (array : Grid) : Type 0 where
  pub k : ℕ
  pub entry : Entry
  pub there : slice_get split.table k ≡ Some entry
  pub input : entry.output ≡ false
  pub stands : StandsAt split entry number
  pub is : array_named inputs entry.name ≡ Some array

-- an array that no pass makes is an input's
abbrev pub SourcesAreInputs : Type 0
SourcesAreInputs =
    (program : List Statement) (split : Split) (inputs : Pairs) (number : ℕ)
    → IsCheckedProgram program → FitInputs program inputs → IsSplitOf program split
    → number < length split.arrays → ¬ Contains (destinations_of split.passes) number
    → IsFrom split inputs number (first_arrays (input_grids inputs program) number)

-- an output's entry, and what the program means by it: its array after the passes is the meaning, of the entry's type
-- and shape
pub record IsLeftAs (split : Split) (arrays : Arrays) (entry : Entry) (output : List ℕ × Grid) : Type 0 where
  pub named : entry.name ≡ output.0
  pub number : ℕ
  pub stands : StandsAt split entry number
  pub is : arrays number ≡ output.1
  pub elem_is : output.1.elem ≡ entry.elem
  pub shape_is : output.1.shape ≡ entry.shape
  pub is_grid : IsGrid output.1

abbrev pub OutputsAreLeft : Type 0
OutputsAreLeft =
    (program : List Statement) (split : Split) (inputs : Pairs)
    → IsCheckedProgram program → FitInputs program inputs → IsSplitOf program split
    → AllZip (IsLeftAs split (arrays_after split.passes (first_arrays (input_grids inputs program))))
    (filter (λ (entry : Entry). entry.output) split.table) (meaning_of program inputs)
