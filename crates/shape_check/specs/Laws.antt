-- What holds of checked programs and of what they mean.
use Rattle.std.specs.Prelude.{◌≡◌, ◌↔◌, ℕ, ◌+◌, ◌<◌, ◌≤◌, List, [], ◌++◌, length, slice_get, slice_index_or, Some, All}
use Rattle.ven_base.specs.declared.elem.Elem.{Elem}
use Rattle.ven_base.specs.declared.ops.Fold as ops
use Rattle.ven_base.specs.Folding.{IsFolded}
use Rattle.ven_base.specs.Extent.{Extent, IsExtent, IsIndex}
use Rattle.ven_base.specs.Elem.{IsElement}
use Rattle.ven_base.specs.Grid.{Grid, IsGrid}
use Rattle.ven_base.specs.Pairs.{Pairs}
use Rattle.shape_check.specs.Node.{Node, RowFold, Fold, elem_of, shape_of}
use Rattle.shape_check.specs.Statement.{Statement, in_value}
use Rattle.shape_check.specs.Occurrences.{names_in, uses_of}
use Rattle.shape_check.specs.declared.typed.ArrayType.{ArrayType}
use Rattle.shape_check.specs.Rules.{IsTyped}
use Rattle.shape_check.specs.Meaning.{row_values, values_with, expr_at, arrays_of, FitInputs, AreMeant}
use Rattle.shape_check.specs.Checked.{IsCheckedProgram}
use Rattle.array_syntax.specs.declared.program.Stmt.{Stmt}
use Rattle.shape_check.specs.declared.fault.CheckFault.{CheckFault}
use Rattle.shape_check.specs.Typing.{IsProgramTyping}
use Rattle.shape_check.specs.Faults.{Occurs, IsFirstFault}

-- the names' shapes are shapes
abbrev pub AreShapes : List ArrayType → Type 0
AreShapes types = (k : ℕ) (t : ArrayType) → slice_get types k ≡ Some t → IsExtent t.shape

-- an array of this type and shape
pub record IsArrayIn (type : ArrayType) (array : Grid) : Type 0 where
  pub is_grid : IsGrid array
  pub elem_is : array.elem ≡ type.elem
  pub shape_is : array.shape ≡ type.shape

-- each name has an array of its type and shape
pub record Stands (types : List ArrayType) (arrays : List Grid) : Type 0 where
  pub counted : length types ≤ length arrays
  pub each : (k : ℕ) (type : ArrayType) (d : Grid) → slice_get types k ≡ Some type
      → IsArrayIn type (slice_index_or arrays k d)

-- ---- the meaning

-- a checked program and fitting inputs have one meaning: there are such arrays, and no others
abbrev pub HasOneMeaning : Type 0
HasOneMeaning =
    (program : List Statement) (inputs : Pairs) (arrays : List Grid) → IsCheckedProgram program
    → FitInputs program inputs → AreMeant program inputs arrays ↔ (arrays ≡ arrays_of inputs program)

-- the value of an expression at an index of its shape is a number of its type
abbrev pub HasValuesInType : Type 0
HasValuesInType =
    (types : List ArrayType) (arrays : List Grid) (e : Node) → Stands types arrays → IsTyped types e → (i j : ℕ)
    → IsIndex (shape_of e) i j → IsElement (elem_of e) (expr_at arrays e i j)

-- a reduction gives the wrapped sum of a row or of the array, or a value of it that no other is below, or above
abbrev pub ReducesRows : Type 0
ReducesRows =
    (types : List ArrayType) (arrays : List Grid) (elem : Elem) (shape : Extent) (fold : ops.Fold) (a : Node)
    → Stands types arrays → IsTyped types (RowFold elem shape fold a)
    → (i j : ℕ) → IsIndex shape i j
    → IsFolded fold elem (row_values (shape_of a).cols (expr_at arrays a i))
    (expr_at arrays (RowFold elem shape fold a) i j)

abbrev pub ReducesArrays : Type 0
ReducesArrays =
    (types : List ArrayType) (arrays : List Grid) (elem : Elem) (shape : Extent) (fold : ops.Fold) (a : Node)
    → Stands types arrays → IsTyped types (Fold elem shape fold a)
    → (i j : ℕ) → IsIndex shape i j
    → IsFolded fold elem (values_with (shape_of a) (expr_at arrays a)) (expr_at arrays (Fold elem shape fold a) i j)

-- ---- names

-- a name occurs in all statements as often as in the first of them and in the rest together
abbrev pub CountsUses : Type 0
CountsUses = (program more : List Statement) (k : ℕ) → uses_of (program ++ more) k ≡ uses_of program k + uses_of more k

-- a statement sees the names of earlier statements alone
abbrev pub NamesAreEarlier : Type 0
NamesAreEarlier =
    (program : List Statement) (k : ℕ) (s : Statement) → IsCheckedProgram program → slice_get program k ≡ Some s
    → All (λ n. n < k) (in_value [] names_in s)

-- ---- faults

-- a program that has a checked program has no fault
abbrev pub HasNoFault : Type 0
HasNoFault =
    (program : List Stmt) (checked : List Statement) → IsProgramTyping program checked
    → (place : ℕ) (fault : CheckFault) → ¬ Occurs program place fault

-- a program has at most one checked program
abbrev pub HasOneTyping : Type 0
HasOneTyping = (program : List Stmt) (one other : List Statement)
    → IsProgramTyping program one → IsProgramTyping program other → one ≡ other

-- and at most one first fault
abbrev pub HasOneFirstFault : Type 0
HasOneFirstFault = (program : List Stmt) (one other : CheckFault)
    → IsFirstFault program one → IsFirstFault program other → one ≡ other
