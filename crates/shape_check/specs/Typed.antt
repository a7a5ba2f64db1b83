-- The plain tree of a checked expression.
use Rattle.ven_base.specs.declared.elem.Elem.{Elem}
use Rattle.ven_base.specs.Extent.{Extent}
use Rattle.shape_check.specs.declared.typed.Typed.{Typed}
use Rattle.shape_check.specs.declared.typed.TypedKind.{TypedKind, Name, Literal, One', Two', Cast', Select', Map', RowFold', Fold'}
use Rattle.shape_check.specs.Node as plain
use Rattle.shape_check.specs.Node.{Node}

abbrev pub node_with : TypedKind → Elem → Extent → Node
node_with (Name k) elem shape = plain.Name elem shape k
node_with (Literal value) elem shape = plain.Literal elem shape value
node_with (One' op p a ea sa) elem shape = plain.One elem shape op (node_with a ea sa)
node_with (Two' op p a ea sa q b eb sb) elem shape = plain.Two elem shape op (node_with a ea sa) (node_with b eb sb)
node_with (Cast' p a ea sa) elem shape = plain.Cast elem shape (node_with a ea sa)
node_with (Select' p c ec sc q x ex sx r y ey sy) elem shape =
    plain.Select elem shape (node_with c ec sc) (node_with x ex sx) (node_with y ey sy)
node_with (Map' mapping p a ea sa) elem shape = plain.Map elem shape mapping (node_with a ea sa)
node_with (RowFold' fold p a ea sa) elem shape = plain.RowFold elem shape fold (node_with a ea sa)
node_with (Fold' fold p a ea sa) elem shape = plain.Fold elem shape fold (node_with a ea sa)

abbrev pub node_of : Typed → Node
node_of typed = node_with typed.kind typed.elem typed.shape
