-- Inner: the values that a node's array has in code.
use Rattle.std.specs.Prelude.{◌≡◌, ℕ, ℤ, pos, ◌+◌, ◌*◌, ◌<◌, List, length, slice_index_or, false, Result, IfOk}
use Rattle.ven_base.specs.declared.elem.Elem.{Elem}
use Rattle.ven_base.specs.Extent.{Extent, IsIndex, elements_of}
use Rattle.ven_base.specs.Grid.{Grid}
use Rattle.shape_check.specs.declared.typed.ArrayType.{ArrayType}
use Rattle.shape_check.specs.Node.{Node, shape_of, is_literal}
use Rattle.shape_check.specs.Statement.{Statement}
use Rattle.shape_check.specs.Rules.{IsTyped, IsTypedStatement}
use Rattle.shape_check.specs.Meaning.{expr_at}
use Rattle.shape_check.specs.Laws.{Stands}
use Rattle.array_meaning.specs.declared.operand.Values.{Values}
use Rattle.array_meaning.specs.declared.operand.Values.TheVariants.{Shared, Own, Same}
use Rattle.array_meaning.specs.declared.operand.Operand.{Operand}
use Rattle.array_meaning.specs.declared.operand.View.{View}

-- the number at a place, where so many numbers lie from one place to the next
abbrev pub number_at : List ℤ → ℕ → ℕ → ℤ
number_at values step place = slice_index_or values (place * step) (pos 0)

-- ---- views

abbrev pub number_in : View → ℕ → ℤ
number_in v place = number_at v.values.now v.step place

-- there is a number at the place
abbrev pub Reaches : View → ℕ → Type 0
Reaches v place = place * v.step < length v.values.now

-- ---- operands

abbrev pub list_in : Values → List ℤ
list_in (Shared values) = values.now
list_in (Own values) = values.items
list_in (Same value) = value

abbrev pub list_of : Operand → List ℤ
list_of o = list_in o.values

abbrev pub step_in : Values → ℕ
step_in (Shared values) = 1
step_in (Own values) = 1
step_in (Same value) = 0

abbrev pub step_of : Operand → ℕ
step_of o = step_in o.values

-- the view has the operand's numbers
pub record IsViewOf (o : Operand) (v : View) : Type 0 where
  pub values_are : v.values.now ≡ list_of o
  pub step_is : v.step ≡ step_of o

-- there is a value for each element, or one for all
abbrev pub AreFull : Values → Extent → Type 0
AreFull (Shared values) shape = length values.now ≡ elements_of shape
AreFull (Own values) shape = length values.items ≡ elements_of shape
AreFull (Same value) shape = length value ≡ 1

abbrev pub IsFull : Operand → Type 0
IsFull o = AreFull o.values o.shape

-- the operand isn't one number
abbrev pub IsSlice : Operand → Type 0
IsSlice o = step_of o ≡ 1

-- the operand has the values of the expression
pub record IsValueOf (arrays : List Grid) (e : Node) (o : Operand) : Type 0 where
  pub shape_is : o.shape ≡ shape_of e
  pub full : IsFull o
  pub values_are : (i j : ℕ) → IsIndex (shape_of e) i j
      → number_at (list_of o) (step_of o) (i * (shape_of e).cols + j) ≡ expr_at arrays e i j
  pub slice : is_literal e ≡ false → IsSlice o

-- the array of this type that has the operand's shape and values
abbrev pub array_with : Elem → Operand → Grid
array_with elem o = record { elem = elem; shape = o.shape; values = list_of o }

-- ---- names

-- the names in the expression have these arrays
pub record IsReady (arrays : List Grid) (e : Node) : Type 0 where
  pub types : List ArrayType
  pub stands : Stands types arrays
  pub typed : IsTyped types e

-- ---- nodes of one operand

-- the operand has the values of some node, and what is made of that node has its names' arrays
pub record IsReadyFor (make : Node → Node) (a : Operand) : Type 0 where
  pub arrays : List Grid
  pub node : Node
  pub ready : IsReady arrays (make node)
  pub value : IsValueOf arrays node a

-- the result has the values of what is made of a node, whichever node the operand has the values of
abbrev pub Makes : {E : Type 0} → (Node → Node) → Operand → Result Operand E → Type 0
Makes make a result = (arrays : List Grid) (e : Node) → IsReady arrays (make e) → IsValueOf arrays e a
    → IfOk result (IsValueOf arrays (make e))

-- ---- statements

-- the names in the statement have these arrays
pub record IsStatementReady (arrays : List Grid) (statement : Statement) : Type 0 where
  pub types : List ArrayType
  pub stands : Stands types arrays
  pub typed : IsTypedStatement types statement
