-- The type and the shape of a plain tree.
use Rattle.std.proofs.Common.{◌≡◌, refl}
use Rattle.ven_base.specs.declared.elem.Elem.{Elem}
use Rattle.ven_base.specs.Extent.{Extent}
use Rattle.shape_check.specs.declared.typed.TypedKind.{TypedKind, Name, Literal, One', Two', Cast', Select', Map', RowFold', Fold'}
use Rattle.shape_check.specs.Node.{elem_of, shape_of}
use Rattle.shape_check.specs.Typed.{node_with}

pub elem_with : (kind : TypedKind) (elem : Elem) (shape : Extent) → elem_of (node_with kind elem shape) ≡ elem
elem_with (Name k) elem shape = refl
elem_with (Literal value) elem shape = refl
elem_with (One' op p a ea sa) elem shape = refl
elem_with (Two' op p a ea sa q b eb sb) elem shape = refl
elem_with (Cast' p a ea sa) elem shape = refl
elem_with (Select' p c ec sc q x ex sx r y ey sy) elem shape = refl
elem_with (Map' mapping p a ea sa) elem shape = refl
elem_with (RowFold' fold p a ea sa) elem shape = refl
elem_with (Fold' fold p a ea sa) elem shape = refl

pub shape_with : (kind : TypedKind) (elem : Elem) (shape : Extent) → shape_of (node_with kind elem shape) ≡ shape
shape_with (Name k) elem shape = refl
shape_with (Literal value) elem shape = refl
shape_with (One' op p a ea sa) elem shape = refl
shape_with (Two' op p a ea sa q b eb sb) elem shape = refl
shape_with (Cast' p a ea sa) elem shape = refl
shape_with (Select' p c ec sc q x ex sx r y ey sy) elem shape = refl
shape_with (Map' mapping p a ea sa) elem shape = refl
shape_with (RowFold' fold p a ea sa) elem shape = refl
shape_with (Fold' fold p a ea sa) elem shape = refl
