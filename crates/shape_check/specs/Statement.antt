-- Checked programs as plain lists of statements.
use Rattle.std.specs.Prelude.{ℕ, List, map, Bool, true, false}
use Rattle.ven_base.specs.declared.elem.Elem.{Elem}
use Rattle.ven_base.specs.Extent.{Extent}
use Rattle.shape_check.specs.Node.{Node}

pub data Statement : Type 0 where
  Input : (name : List ℕ) (elem : Elem) (shape : Extent) → Statement
  Let : (name : List ℕ) (value : Node) → Statement
  Output : (name : List ℕ) (value : Node) → Statement

-- the name that a statement declares
abbrev pub name_of : Statement → List ℕ
name_of (Input name elem shape) = name
name_of (Let name value) = name
name_of (Output name value) = name

-- the names of a program, in the order of its statements
abbrev pub names_of : List Statement → List (List ℕ)
names_of program = map name_of program

abbrev pub is_output : Statement → Bool
is_output (Input name elem shape) = false
is_output (Let name value) = false
is_output (Output name value) = true

-- what is made of the statement's expression, where it has one
abbrev pub in_value : {A : Type 0} → A → (Node → A) → Statement → A
in_value none f (Input name elem shape) = none
in_value none f (Let name value) = f value
in_value none f (Output name value) = f value
