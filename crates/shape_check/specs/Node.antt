-- Checked expressions as plain trees: each node has first its type and its shape.
use Rattle.std.specs.Prelude.{ℕ, ℤ, Bool, true, false}
use Rattle.ven_base.specs.declared.elem.Elem.{Elem}
use Rattle.ven_base.specs.declared.ops.Op1.{Op1}
use Rattle.ven_base.specs.declared.ops.Op2.{Op2}
use Rattle.ven_base.specs.declared.ops.Fold as ops
use Rattle.ven_base.specs.declared.mapping.Mapping.{Mapping}
use Rattle.ven_base.specs.Extent.{Extent}

pub data Node : Type 0 where
  -- the name that statement k declares
  Name : (elem : Elem) (shape : Extent) (k : ℕ) → Node
  Literal : (elem : Elem) (shape : Extent) (value : ℤ) → Node
  One : (elem : Elem) (shape : Extent) (op : Op1) (a : Node) → Node
  Two : (elem : Elem) (shape : Extent) (op : Op2) (a b : Node) → Node
  Cast : (elem : Elem) (shape : Extent) (a : Node) → Node
  Select : (elem : Elem) (shape : Extent) (c x y : Node) → Node
  Map : (elem : Elem) (shape : Extent) (mapping : Mapping) (a : Node) → Node
  RowFold : (elem : Elem) (shape : Extent) (fold : ops.Fold) (a : Node) → Node
  Fold : (elem : Elem) (shape : Extent) (fold : ops.Fold) (a : Node) → Node

-- the type and the shape of its array
abbrev pub elem_of : Node → Elem
elem_of (Name elem shape k) = elem
elem_of (Literal elem shape value) = elem
elem_of (One elem shape op a) = elem
elem_of (Two elem shape op a b) = elem
elem_of (Cast elem shape a) = elem
elem_of (Select elem shape c x y) = elem
elem_of (Map elem shape mapping a) = elem
elem_of (RowFold elem shape fold a) = elem
elem_of (Fold elem shape fold a) = elem

abbrev pub shape_of : Node → Extent
shape_of (Name elem shape k) = shape
shape_of (Literal elem shape value) = shape
shape_of (One elem shape op a) = shape
shape_of (Two elem shape op a b) = shape
shape_of (Cast elem shape a) = shape
shape_of (Select elem shape c x y) = shape
shape_of (Map elem shape mapping a) = shape
shape_of (RowFold elem shape fold a) = shape
shape_of (Fold elem shape fold a) = shape

abbrev pub is_literal : Node → Bool
is_literal (Literal elem shape value) = true
is_literal _ = false
