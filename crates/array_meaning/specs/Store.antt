-- Inner: the arrays of statements in code.
use Rattle.std.specs.Prelude.{◌≡◌, ◌≢◌, ◌≤◌, ℕ, List, [], ◌∷◌, ◌++◌, map, length, take, drop, Contains}
use Rattle.std.specs.List.{AllZip}
use Rattle.ven_base.specs.Grid.{Grid}
use Rattle.ven_base.specs.Pairs.{Pairs, names_of as pair_names}
use Rattle.shape_check.specs.declared.checked.CheckedStmt.{CheckedStmt}
use Rattle.shape_check.specs.declared.checked.StmtKind.TheVariants as kinds
use Rattle.shape_check.specs.Statement.{Statement, Input, Output, names_of}
use Rattle.shape_check.specs.Checked.{statement_of, program_of}
use Rattle.shape_check.specs.Meaning.{statement_array, arrays_of, outputs_of}
use Rattle.array_meaning.specs.declared.store.Stored.{Stored}
use Rattle.array_meaning.specs.declared.store.Stored.TheVariants.{Input, Own}

abbrev pub grid_of : Stored → Grid
grid_of (Input array) = array.now
grid_of (Own array) = array

abbrev pub grids_of : List Stored → List Grid
grids_of stored = map grid_of stored

abbrev pub IsOwn : Stored → Type 0
IsOwn (Input array) = ⊥
IsOwn (Own array) = Unit {0}

-- a statement that isn't an input has an array of its own
abbrev pub HasOwn : CheckedStmt → Stored → Type 0
HasOwn stmt stored = stmt.kind ≢ kinds.Input → IsOwn stored

-- the array of a statement, where these are those of the earlier ones
pub record IsArrayFor (inputs : Pairs) (arrays : List Grid) (stmt : CheckedStmt) (stored : Stored) : Type 0 where
  pub is : grid_of stored ≡ statement_array inputs arrays (statement_of stmt)
  pub own : HasOwn stmt stored

-- the pair of a statement's name and array, where the statement is an output
abbrev pub output_with : Statement → Grid → Pairs
output_with (Output name value) grid = (name, grid) ∷ []
output_with _ grid = []

-- ---- loops

-- the first k statements have these arrays
pub record AreWorkedOut (inputs : Pairs) (stmts : List CheckedStmt) (k : ℕ) (arrays : List Stored) : Type 0 where
  pub arrays_are : grids_of arrays ≡ arrays_of inputs (take k (program_of stmts))
  pub own : AllZip HasOwn (take k stmts) arrays

-- these are the outputs among the first k statements, and the arrays of the statements from k on
pub record AreOutputs (stmts : List CheckedStmt) (arrays : List Stored) (k : ℕ)
    (outputs : Pairs) (rest : List Stored) : Type 0 where
  pub among : outputs_of (program_of stmts) (grids_of arrays)
      ≡ outputs ++ outputs_of (program_of (drop k stmts)) (grids_of rest)
  pub own : AllZip HasOwn (drop k stmts) rest
  pub few : length outputs ≤ k
  pub earlier : (name : List ℕ) → Contains (pair_names outputs) name
      → Contains (take k (names_of (program_of stmts))) name
