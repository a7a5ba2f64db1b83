-- The rules that a checked expression keeps at each node.
use Rattle.std.specs.Prelude.{◌≡◌, ◌≢◌, List, [], ◌∷◌, ◌++◌, Some, slice_get, false, ◌&&◌}
use Rattle.ven_base.specs.declared.elem.Elem.{Elem}
use Rattle.ven_base.specs.declared.mapping.Mapping.{Mapping}
use Rattle.ven_base.specs.declared.mapping.Mapping.TheVariants.{Identity}
use Rattle.ven_base.specs.Elem.{IsElement}
use Rattle.ven_base.specs.Extent.{Extent, IsExtent}
use Rattle.ven_base.specs.Mapping.{result_shape, fill_of, FitsShape}
use Rattle.shape_check.specs.declared.typed.ArrayType.{ArrayType}
use Rattle.shape_check.specs.Node.{Node, Name, Literal, One, Two, Cast, Select, Map, RowFold, Fold, elem_of, shape_of, is_literal}
use Rattle.shape_check.specs.Statement.{Statement, Input, Let, Output}

-- the type and the shape of an expression's array
abbrev pub type_of : Node → ArrayType
type_of e = record { elem = elem_of e; shape = shape_of e }

-- an operand that is no literal
pub record IsArray (e : Node) : Type 0 where
  pub no_literal : is_literal e ≡ false

-- an operand of this type and shape
pub record Has (elem : Elem) (shape : Extent) (e : Node) : Type 0 where
  pub elem_is : elem_of e ≡ elem
  pub shape_is : shape_of e ≡ shape

-- two operands of this type and shape, of which one at least is no literal
pub record HaveBoth (elem : Elem) (shape : Extent) (a b : Node) : Type 0 where
  pub left : Has elem shape a
  pub right : Has elem shape b
  pub no_literals : (is_literal a && is_literal b) ≡ false

-- three operands of this type and shape, of which the first is no literal
pub record HaveAll (elem : Elem) (shape : Extent) (c x y : Node) : Type 0 where
  pub condition : Has elem shape c
  pub chosen : Has elem shape x
  pub other : Has elem shape y
  pub no_literal : is_literal c ≡ false

-- the map may be taken of the operand, and gives this type and shape; where it has no source, it has a number of the
-- type
pub record IsMapOf (elem : Elem) (shape : Extent) (mapping : Mapping) (e : Node) : Type 0 where
  pub moves : mapping ≢ Identity
  pub fits : FitsShape mapping (shape_of e)
  pub fill : IsElement elem (fill_of mapping)
  pub elem_is : elem_of e ≡ elem
  pub shape_is : result_shape mapping (shape_of e) ≡ shape
  pub no_literal : is_literal e ≡ false

-- a reduction of the operand gives its type, and this shape
pub record IsReductionOf (elem : Elem) (shape wanted : Extent) (e : Node) : Type 0 where
  pub elem_is : elem_of e ≡ elem
  pub shape_is : shape ≡ wanted
  pub no_literal : is_literal e ≡ false

-- a cast keeps the shape
pub record IsCastOf (shape : Extent) (e : Node) : Type 0 where
  pub shape_is : shape_of e ≡ shape
  pub no_literal : is_literal e ≡ false

-- an expression in which each node keeps its rule, where these are the types and shapes of the names
abbrev pub IsTyped : List ArrayType → Node → Type 0
IsTyped types (Name elem shape k) = slice_get types k ≡ Some (record { elem = elem; shape = shape })
IsTyped types (Literal elem shape value) = IsElement elem value
IsTyped types (One elem shape op a) = IsTyped types a × Has elem shape a × IsArray a
IsTyped types (Two elem shape op a b) = IsTyped types a × IsTyped types b × HaveBoth elem shape a b
IsTyped types (Cast elem shape a) = IsTyped types a × IsCastOf shape a
IsTyped types (Select elem shape c x y) = IsTyped types c × IsTyped types x × IsTyped types y × HaveAll elem shape c x y
IsTyped types (Map elem shape mapping a) = IsTyped types a × IsMapOf elem shape mapping a
IsTyped types (RowFold elem shape fold a) =
    IsTyped types a × IsReductionOf elem shape (record { rows = (shape_of a).rows; cols = 1 }) a
IsTyped types (Fold elem shape fold a) = IsTyped types a × IsReductionOf elem shape (record { rows = 1; cols = 1 }) a

-- the type and the shape of a statement's array
abbrev pub declared_type : Statement → ArrayType
declared_type (Input name elem shape) = record { elem = elem; shape = shape }
declared_type (Let name value) = type_of value
declared_type (Output name value) = type_of value

-- a statement in which each rule is kept. An expression that is a literal alone has no type
abbrev pub IsTypedStatement : List ArrayType → Statement → Type 0
IsTypedStatement types (Input name elem shape) = IsExtent shape
IsTypedStatement types (Let name value) = IsTyped types value × IsArray value
IsTypedStatement types (Output name value) = IsTyped types value × IsArray value

-- statements after others whose arrays have these types and shapes. An expression sees the names of earlier
-- statements alone
abbrev pub AreTyped : List ArrayType → List Statement → Type 0
AreTyped types [] = Unit {0}
AreTyped types (statement ∷ more) =
    IsTypedStatement types statement × AreTyped (types ++ declared_type statement ∷ []) more
