-- The trees of passes, over leaves of any kind, and their values.
use Rattle.std.specs.Prelude.{◌≡◌, ℕ, ◌+◌, max, ℤ, Bool, true, false, List, [], ◌∷◌, ◌++◌}
use Rattle.ven_base.specs.declared.elem.Elem.{Elem}
use Rattle.ven_base.specs.declared.elem.Elem.TheVariants.{U8}
use Rattle.ven_base.specs.declared.ops.Op1.{Op1}
use Rattle.ven_base.specs.declared.ops.Op2.{Op2}
use Rattle.ven_base.specs.Elem.{size_of}
use Rattle.ven_base.specs.Wrap.{wrapped}
use Rattle.ven_base.specs.Operation.{applied1, applied2}
pub use Rattle.ven_base.specs.Operation.{chosen}
use Rattle.pass_plan.specs.declared.tree.TreeOp.{TreeOp}
use Rattle.pass_plan.specs.declared.tree.TreeOp.TheVariants as tree_op

-- a tree whose leaves are of kind L: leaves by array and map, or by their numbers
pub data TreeOver (L : Type 0) : Type 0 where
  AtLeaf : (leaf : L) → TreeOver L
  Literal : (n : ℤ) → TreeOver L
  One : (op : Op1) (elem : Elem) (a : TreeOver L) → TreeOver L
  Two : (op : Op2) (elem : Elem) (a b : TreeOver L) → TreeOver L
  Cast : (elem from : Elem) (a : TreeOver L) → TreeOver L
  Move : (elem : Elem) (a : TreeOver L) → TreeOver L
  Select : (elem : Elem) (c x y : TreeOver L) → TreeOver L

-- a tree's value, where these are the leaves' values
abbrev pub value_of : {L : Type 0} → TreeOver L → (L → ℤ) → ℤ
value_of (AtLeaf l) at = at l
value_of (Literal n) at = n
value_of (One op elem a) at = applied1 op elem (value_of a at)
value_of (Two op elem a b) at = applied2 op elem (value_of a at) (value_of b at)
value_of (Cast elem from a) at = wrapped elem (value_of a at)
value_of (Move elem a) at = value_of a at
value_of (Select elem c x y) at = chosen (value_of c at) (value_of x at) (value_of y at)

-- neither a leaf nor a literal
abbrev pub is_computed : {L : Type 0} → TreeOver L → Bool
is_computed (AtLeaf l) = false
is_computed (Literal n) = false
is_computed _ = true

-- the type of an inner node's results
abbrev pub elem_of : {L : Type 0} → TreeOver L → Elem
elem_of (One op elem a) = elem
elem_of (Two op elem a b) = elem
elem_of (Cast elem from a) = elem
elem_of (Move elem a) = elem
elem_of (Select elem c x y) = elem
elem_of _ = U8

-- the type that an inner node asks of its operands
abbrev pub from_of : {L : Type 0} → TreeOver L → Elem
from_of (Cast elem from a) = from
from_of t = elem_of t

-- what an inner node does
abbrev pub op_of : {L : Type 0} → TreeOver L → TreeOp
op_of (One op elem a) = tree_op.One op
op_of (Two op elem a b) = tree_op.Two op
op_of (Cast elem from a) = tree_op.Cast
op_of (Select elem c x y) = tree_op.Select
op_of _ = tree_op.Move

-- a node's operands from left to right
abbrev pub operands_of : {L : Type 0} → TreeOver L → List (TreeOver L)
operands_of (AtLeaf l) = []
operands_of (Literal n) = []
operands_of (One op elem a) = a ∷ []
operands_of (Two op elem a b) = a ∷ b ∷ []
operands_of (Cast elem from a) = a ∷ []
operands_of (Move elem a) = a ∷ []
operands_of (Select elem c x y) = c ∷ x ∷ y ∷ []

-- how many nodes a tree has, each occurrence of a leaf and each literal among them
abbrev pub nodes_of : {L : Type 0} → TreeOver L → ℕ
nodes_of (AtLeaf l) = 1
nodes_of (Literal n) = 1
nodes_of (One op elem a) = 1 + nodes_of a
nodes_of (Two op elem a b) = 1 + nodes_of a + nodes_of b
nodes_of (Cast elem from a) = 1 + nodes_of a
nodes_of (Move elem a) = 1 + nodes_of a
nodes_of (Select elem c x y) = 1 + nodes_of c + nodes_of x + nodes_of y

abbrev pub height_of : {L : Type 0} → TreeOver L → ℕ
height_of (AtLeaf l) = 1
height_of (Literal n) = 1
height_of (One op elem a) = height_of a + 1
height_of (Two op elem a b) = max (height_of a) (height_of b) + 1
height_of (Cast elem from a) = height_of a + 1
height_of (Move elem a) = height_of a + 1
height_of (Select elem c x y) = max (height_of c) (max (height_of x) (height_of y)) + 1

-- the greatest size in bytes of the results of its inner nodes
abbrev pub widest_of : {L : Type 0} → TreeOver L → ℕ
widest_of (AtLeaf l) = 0
widest_of (Literal n) = 0
widest_of (One op elem a) = max (size_of elem) (widest_of a)
widest_of (Two op elem a b) = max (size_of elem) (max (widest_of a) (widest_of b))
widest_of (Cast elem from a) = max (size_of elem) (widest_of a)
widest_of (Move elem a) = max (size_of elem) (widest_of a)
widest_of (Select elem c x y) = max (size_of elem) (max (widest_of c) (max (widest_of x) (widest_of y)))

-- the leaves of its occurrences, from left to right
abbrev pub leaves_of : {L : Type 0} → TreeOver L → List L
leaves_of (AtLeaf l) = l ∷ []
leaves_of (Literal n) = []
leaves_of (One op elem a) = leaves_of a
leaves_of (Two op elem a b) = leaves_of a ++ leaves_of b
leaves_of (Cast elem from a) = leaves_of a
leaves_of (Move elem a) = leaves_of a
leaves_of (Select elem c x y) = leaves_of c ++ (leaves_of x ++ leaves_of y)

-- the same tree over other leaves
abbrev pub with_leaves : {L M : Type 0} → TreeOver L → (L → M) → TreeOver M
with_leaves (AtLeaf l) f = AtLeaf (f l)
with_leaves (Literal n) f = Literal n
with_leaves (One op elem a) f = One op elem (with_leaves a f)
with_leaves (Two op elem a b) f = Two op elem (with_leaves a f) (with_leaves b f)
with_leaves (Cast elem from a) f = Cast elem from (with_leaves a f)
with_leaves (Move elem a) f = Move elem (with_leaves a f)
with_leaves (Select elem c x y) f = Select elem (with_leaves c f) (with_leaves x f) (with_leaves y f)

-- the types of a tree that is asked for this one agree: each inner node gives the type that its node asks for, and
-- leaves and literals are as the two tests say of that type
abbrev pub TypesAgree : {L : Type 0} → TreeOver L → (L → Elem → Type 0) → (ℤ → Elem → Type 0) → Elem → Type 0
TypesAgree (AtLeaf l) Leaf Number asked = Leaf l asked
TypesAgree (Literal n) Leaf Number asked = Number n asked
TypesAgree (One op elem a) Leaf Number asked = (elem ≡ asked) × TypesAgree a Leaf Number elem
TypesAgree (Two op elem a b) Leaf Number asked =
    (elem ≡ asked) × TypesAgree a Leaf Number elem × TypesAgree b Leaf Number elem
TypesAgree (Cast elem from a) Leaf Number asked = (elem ≡ asked) × TypesAgree a Leaf Number from
TypesAgree (Move elem a) Leaf Number asked = (elem ≡ asked) × TypesAgree a Leaf Number elem
TypesAgree (Select elem c x y) Leaf Number asked =
    (elem ≡ asked) × TypesAgree c Leaf Number elem × TypesAgree x Leaf Number elem × TypesAgree y Leaf Number elem
