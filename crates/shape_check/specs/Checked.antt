-- What holds of every checked program.
use Rattle.std.specs.Prelude.{◌≡◌, ◌≢◌, ◌+◌, ◌≤◌, max, ℕ, List, [], map, length, All, Option, Some, MatchOption, true}
use Rattle.std.specs.List.{AllPairs, list_any, sum_by}
use Rattle.ven_base.specs.declared.elem.Elem.{Elem}
use Rattle.ven_base.specs.Extent.{Extent, elements_of}
use Rattle.array_syntax.specs.Limits.{IsFreeName, most_statements, most_nodes, most_height}
use Rattle.shape_check.specs.declared.typed.Typed.{Typed}
use Rattle.shape_check.specs.declared.checked.StmtKind.{StmtKind}
use Rattle.shape_check.specs.declared.checked.StmtKind.TheVariants as kinds
use Rattle.shape_check.specs.declared.checked.CheckedStmt.{CheckedStmt}
use Rattle.shape_check.specs.Node.{Node, Name, Literal, One, Two, Cast, Select, Map, RowFold, Fold}
use Rattle.shape_check.specs.Typed.{node_of}
use Rattle.shape_check.specs.Statement.{Statement, Input, Let, Output, names_of, is_output, in_value}
use Rattle.shape_check.specs.Rules.{AreTyped}

-- ---- the plain value of a statement

abbrev pub statement_with : StmtKind → List ℕ → Elem → Extent → Option Typed → Statement
statement_with kinds.Let name elem shape (Some value) = Let name (node_of value)
statement_with kinds.Output name elem shape (Some value) = Output name (node_of value)
statement_with kind name elem shape value = Input name elem shape

abbrev pub statement_of : CheckedStmt → Statement
statement_of stmt = statement_with stmt.kind stmt.name stmt.elem stmt.shape stmt.value

abbrev pub program_of : List CheckedStmt → List Statement
program_of stmts = map statement_of stmts

-- a statement that isn't an input has an expression, with the statement's type and shape
pub record HasValue (stmt : CheckedStmt) (value : Typed) : Type 0 where
  pub no_input : stmt.kind ≢ kinds.Input
  pub elem_is : value.elem ≡ stmt.elem
  pub shape_is : value.shape ≡ stmt.shape

abbrev pub IsWhole : CheckedStmt → Type 0
IsWhole stmt = MatchOption stmt.value (stmt.kind ≡ kinds.Input) (HasValue stmt)

-- ---- limits

-- how many nodes an expression has
abbrev pub nodes_of : Node → ℕ
nodes_of (Name elem shape k) = 1
nodes_of (Literal elem shape value) = 1
nodes_of (One elem shape op a) = 1 + nodes_of a
nodes_of (Two elem shape op a b) = 1 + nodes_of a + nodes_of b
nodes_of (Cast elem shape a) = 1 + nodes_of a
nodes_of (Select elem shape c x y) = 1 + nodes_of c + nodes_of x + nodes_of y
nodes_of (Map elem shape mapping a) = 1 + nodes_of a
nodes_of (RowFold elem shape fold a) = 1 + nodes_of a
nodes_of (Fold elem shape fold a) = 1 + nodes_of a

-- how high it is: one more than its highest operand
abbrev pub height_of : Node → ℕ
height_of (Name elem shape k) = 1
height_of (Literal elem shape value) = 1
height_of (One elem shape op a) = 1 + height_of a
height_of (Two elem shape op a b) = 1 + max (height_of a) (height_of b)
height_of (Cast elem shape a) = 1 + height_of a
height_of (Select elem shape c x y) = 1 + max (height_of c) (max (height_of x) (height_of y))
height_of (Map elem shape mapping a) = 1 + height_of a
height_of (RowFold elem shape fold a) = 1 + height_of a
height_of (Fold elem shape fold a) = 1 + height_of a

-- the work of an expression: the elements of all its nodes that aren't literals
abbrev pub node_work : Node → ℕ
node_work (Name elem shape k) = elements_of shape
node_work (Literal elem shape value) = 0
node_work (One elem shape op a) = elements_of shape + node_work a
node_work (Two elem shape op a b) = elements_of shape + node_work a + node_work b
node_work (Cast elem shape a) = elements_of shape + node_work a
node_work (Select elem shape c x y) = elements_of shape + node_work c + node_work x + node_work y
node_work (Map elem shape mapping a) = elements_of shape + node_work a
node_work (RowFold elem shape fold a) = elements_of shape + node_work a
node_work (Fold elem shape fold a) = elements_of shape + node_work a

-- and of a statement: an input counts with its elements
abbrev pub statement_work : Statement → ℕ
statement_work (Input name elem shape) = elements_of shape
statement_work (Let name value) = node_work value
statement_work (Output name value) = node_work value

abbrev pub work_of : List Statement → ℕ
work_of program = sum_by statement_work program

-- the most work of a program
abbrev pub work_limit : ℕ
work_limit = 16777216

-- the limits of the language
pub record IsWithinLimits (program : List Statement) : Type 0 where
  pub statements : length program ≤ most_statements
  pub nodes : sum_by (in_value 0 nodes_of) program ≤ most_nodes
  pub heights : All (λ s. in_value 0 height_of s ≤ most_height) program

-- a program that keeps the limits and all rules of checking
pub record IsCheckedProgram (program : List Statement) : Type 0 where
  pub limits : IsWithinLimits program
  pub named : All IsFreeName (names_of program)
  pub distinct : AllPairs (λ a b. a ≢ b) (names_of program)
  pub typed : AreTyped [] program
  pub has_output : list_any is_output program ≡ true
  pub work : work_of program ≤ work_limit

pub record IsChecked (stmts : List CheckedStmt) : Type 0 where
  pub whole : All IsWhole stmts
  pub program : IsCheckedProgram (program_of stmts)
