-- What a checked program means: the value of an expression at an index, and the array of each statement.
use Rattle.std.specs.Prelude.{◌≡◌, ℕ, ℤ, List, [], ◌∷◌, ◌++◌, slice_index_or, Some, unwrap_or}
use Rattle.std.specs.Option.{option_map_or}
use Rattle.std.specs.List.{AllZip}
use Rattle.ven_base.specs.declared.elem.Elem.{Elem}
use Rattle.ven_base.specs.Extent.{Extent, IsIndex}
use Rattle.ven_base.specs.Wrap.{wrapped}
use Rattle.ven_base.specs.Operation.{applied1, applied2}
pub use Rattle.ven_base.specs.Operation.{chosen}
use Rattle.ven_base.specs.Mapping.{source_of, fill_of}
use Rattle.ven_base.specs.Folding.{folded}
use Rattle.ven_base.specs.Grid.{Grid, IsGrid, value_at}
pub use Rattle.ven_base.specs.Grid.{row_values, values_with, grid_with}
use Rattle.ven_base.specs.Pairs.{Pairs, array_named}
use Rattle.shape_check.specs.Node.{Node, Name, Literal, One, Two, Cast, Select, Map, RowFold, Fold, elem_of, shape_of}
use Rattle.shape_check.specs.Statement.{Statement, Input, Let, Output}

-- ---- arrays by their values

-- an array that stands where none is
abbrev pub no_grid : Elem → Extent → Grid
no_grid elem shape = record { elem = elem; shape = shape; values = [] }

-- the array of name k, where these are the names' arrays
abbrev pub array_at : List Grid → Elem → Extent → ℕ → Grid
array_at arrays elem shape k = slice_index_or arrays k (no_grid elem shape)

-- ---- expressions

-- the value of an expression in row i and column j, where these are the names' arrays
abbrev pub expr_at : List Grid → Node → ℕ → ℕ → ℤ
expr_at arrays (Name elem shape k) i j = value_at (array_at arrays elem shape k) i j
expr_at arrays (Literal elem shape value) i j = value
expr_at arrays (One elem shape op a) i j = applied1 op elem (expr_at arrays a i j)
expr_at arrays (Two elem shape op a b) i j = applied2 op elem (expr_at arrays a i j) (expr_at arrays b i j)
expr_at arrays (Cast elem shape a) i j = wrapped elem (expr_at arrays a i j)
expr_at arrays (Select elem shape c x y) i j =
    chosen (expr_at arrays c i j) (expr_at arrays x i j) (expr_at arrays y i j)
expr_at arrays (Map elem shape mapping a) i j =
    option_map_or (λ s. expr_at arrays a s.0 s.1) (source_of mapping (shape_of a) i j) (fill_of mapping)
expr_at arrays (RowFold elem shape fold a) i j = folded fold elem (row_values (shape_of a).cols (expr_at arrays a i))
expr_at arrays (Fold elem shape fold a) i j = folded fold elem (values_with (shape_of a) (expr_at arrays a))

-- the array of an expression
abbrev pub array_of : List Grid → Node → Grid
array_of arrays e = grid_with (elem_of e) (shape_of e) (expr_at arrays e)

-- ---- programs

-- the array of an input, by its name
abbrev pub input_array : Pairs → List ℕ → Elem → Extent → Grid
input_array inputs name elem shape = unwrap_or (array_named inputs name) (no_grid elem shape)

-- the array of a statement, where these are the arrays of the earlier ones
abbrev pub statement_array : Pairs → List Grid → Statement → Grid
statement_array inputs arrays (Input name elem shape) = input_array inputs name elem shape
statement_array inputs arrays (Let name value) = array_of arrays value
statement_array inputs arrays (Output name value) = array_of arrays value

-- the arrays of all statements: those of the earlier ones, then those of these
abbrev pub arrays_from : Pairs → List Grid → List Statement → List Grid
arrays_from inputs arrays [] = arrays
arrays_from inputs arrays (statement ∷ more) =
    arrays_from inputs (arrays ++ statement_array inputs arrays statement ∷ []) more

abbrev pub arrays_of : Pairs → List Statement → List Grid
arrays_of inputs program = arrays_from inputs [] program

-- the outputs among statements, with these arrays
abbrev pub outputs_of : List Statement → List Grid → Pairs
outputs_of [] arrays = []
outputs_of (statement ∷ more) [] = []
outputs_of (Output name value ∷ more) (array ∷ arrays) = (name, array) ∷ outputs_of more arrays
outputs_of (statement ∷ more) (array ∷ arrays) = outputs_of more arrays

-- what a program means: its outputs' names and arrays, in the order of its statements
abbrev pub meaning_of : List Statement → Pairs → Pairs
meaning_of program inputs = outputs_of program (arrays_of inputs program)

-- ---- fitting inputs

-- the inputs have an array of this name, type and shape
pub record HasInput (inputs : Pairs) (name : List ℕ) (elem : Elem) (shape : Extent) : Type 0 where
  pub array : Grid
  pub found : array_named inputs name ≡ Some array
  pub elem_is : array.elem ≡ elem
  pub shape_is : array.shape ≡ shape
  pub is_grid : IsGrid array

abbrev pub FitsStatement : Pairs → Statement → Type 0
FitsStatement inputs (Input name elem shape) = HasInput inputs name elem shape
FitsStatement inputs (Let name value) = Unit {0}
FitsStatement inputs (Output name value) = Unit {0}

-- the inputs hold an array of each input's name, with its type and shape
abbrev pub FitInputs : List Statement → Pairs → Type 0
FitInputs [] inputs = Unit {0}
FitInputs (statement ∷ more) inputs = FitsStatement inputs statement × FitInputs more inputs

-- ---- what a meaning is, whoever finds it

-- an array of the expression's type and shape, whose value at each index is the expression's
pub record IsArrayAt (arrays : List Grid) (e : Node) (array : Grid) : Type 0 where
  pub is_grid : IsGrid array
  pub elem_is : array.elem ≡ elem_of e
  pub shape_is : array.shape ≡ shape_of e
  pub values_are : (i j : ℕ) → IsIndex (shape_of e) i j → value_at array i j ≡ expr_at arrays e i j

-- the array of a statement, where these are the arrays of all names
abbrev pub StandsFor : Pairs → List Grid → Statement → Grid → Type 0
StandsFor inputs arrays (Input name elem shape) array = array_named inputs name ≡ Some array
StandsFor inputs arrays (Let name value) array = IsArrayAt arrays value array
StandsFor inputs arrays (Output name value) array = IsArrayAt arrays value array

-- the arrays of all statements: each name stands for its statement's whole array
abbrev pub AreMeant : List Statement → Pairs → List Grid → Type 0
AreMeant program inputs arrays = AllZip (StandsFor inputs arrays) program arrays
