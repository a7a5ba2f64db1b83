use Rattle.std.proofs.Common.{◌≡◌, ◌<◌, ◌∙◌, length, sym, ap, subst, arith}
use Rattle.std.proofs.lemmas.List.{length-map, get_or-map}
use Rattle.std.proofs.lemmas.Option.{slice_get_within}
use Rattle.shape_check.specs.declared.typed.Typed.{Typed}
use Rattle.shape_check.specs.declared.typed.ArrayType.{ArrayType}
use Rattle.shape_check.specs.Node.{Name, One, Two, Cast, Select, Map, RowFold, Fold}
use Rattle.shape_check.specs.Typed.{node_with, node_of}
use Rattle.shape_check.specs.Meaning.{no_grid, array_at}
use Rattle.array_meaning.specs.Operand.{IsReady, IsValueOf}
use Rattle.array_meaning.specs.Store.{grid_of, grids_of}
use Rattle.array_meaning.proofs.Values.{of_node, of_result, two_ready, name_value, two_value, select_value}
use Rattle.array_meaning.proofs.evaluation.+value_of.Goals as goal

pub returns-in-Name : goal.returns-in-Name
returns-in-Name t c =
    let stored = c.args.arrays.now in
    let arrays = grids_of stored in
    let e = c.args.e.now in
    let k = c.in-Name.k in
    let item = c.index-arrays-k.result in
    let is : node_of e ≡ Name e.elem e.shape k = ap (λ kind. node_with kind e.elem e.shape) c.in-Name.is in
    let r : IsReady arrays (Name e.elem e.shape k) = subst (IsReady arrays) is c.requires in
    let type : ArrayType = record { elem = e.elem; shape = e.shape } in
    let within = slice_get_within r.types k type r.typed in
    let below : k < length stored = omega (arith, r.stands.counted, length-map stored grid_of) in
    let same : array_at arrays e.elem e.shape k ≡ grid_of item = get_or-map grid_of stored k item (no_grid e.elem e.shape) below ∙ ap grid_of (sym c.index-arrays-k.is) in
    of_node arrays (node_of e) _ _ is (name_value arrays e.elem e.shape k (grid_of item) c.values.result r same c.values.ensures)

pub one-requires : goal.one-requires
one-requires t c =
    let arrays = grids_of c.args.arrays.now in
    let e = c.args.e.now in
    let op = c.in-One.op in
    let a = node_of c.deref.result.now in
    let is : node_of e ≡ One e.elem e.shape op a = ap (λ kind. node_with kind e.elem e.shape) c.in-One.is ∙ ap (λ (v : Typed). One e.elem e.shape op (node_of v)) (sym c.deref.ensures) in
    record { arrays = arrays; node = a; ready = subst (IsReady arrays) is c.requires; value = c.in_ok-value_of-in-One.ensures }

pub returns-in_ok-value_of-in-One : goal.returns-in_ok-value_of-in-One
returns-in_ok-value_of-in-One t c =
    let arrays = grids_of c.args.arrays.now in
    let e = c.args.e.now in
    let op = c.in-One.op in
    let a = node_of c.deref.result.now in
    let is : node_of e ≡ One e.elem e.shape op a = ap (λ kind. node_with kind e.elem e.shape) c.in-One.is ∙ ap (λ (v : Typed). One e.elem e.shape op (node_of v)) (sym c.deref.ensures) in
    of_result arrays (node_of e) (One e.elem e.shape op a) c.one.result is (c.one.ensures arrays a (subst (IsReady arrays) is c.requires) c.in_ok-value_of-in-One.ensures)

pub two-requires : goal.two-requires
two-requires t c =
    let arrays = grids_of c.args.arrays.now in
    let e = c.args.e.now in
    let op = c.in-Two.op in
    let a = node_of c.deref-in-Two.result.now in
    let b = node_of c.deref-in-Two-2.result.now in
    let is : node_of e ≡ Two e.elem e.shape op a b = ap (λ kind. node_with kind e.elem e.shape) c.in-Two.is ∙ (λ k. Two e.elem e.shape op (node_of (sym c.deref-in-Two.ensures k)) (node_of (sym c.deref-in-Two-2.ensures k))) in
    two_ready arrays e.elem e.shape op a b c.in_ok-a-in-Two.a c.in_ok-b-in-Two.b c.view.result c.view-in-Two.result c.elements-count.result (subst (IsReady arrays) is c.requires)
    c.in_ok-a-in-Two.ensures c.in_ok-b-in-Two.ensures c.view.ensures c.view-in-Two.ensures c.elements-count.ensures.is_shape c.elements-count.ensures.value

pub returns-in_ok-values-in-Two : goal.returns-in_ok-values-in-Two
returns-in_ok-values-in-Two t c =
    let arrays = grids_of c.args.arrays.now in
    let e = c.args.e.now in
    let op = c.in-Two.op in
    let a = node_of c.deref-in-Two.result.now in
    let b = node_of c.deref-in-Two-2.result.now in
    let is : node_of e ≡ Two e.elem e.shape op a b = ap (λ kind. node_with kind e.elem e.shape) c.in-Two.is ∙ (λ k. Two e.elem e.shape op (node_of (sym c.deref-in-Two.ensures k)) (node_of (sym c.deref-in-Two-2.ensures k))) in
    subst (IsValueOf arrays (node_of e)) (sym c.own.ensures)
    (of_node arrays (node_of e) _ _ is
    (two_value arrays e.elem e.shape op a b c.in_ok-a-in-Two.a c.in_ok-b-in-Two.b c.view.result c.view-in-Two.result c.elements-count.result c.in_ok-values-in-Two.values (subst (IsReady arrays) is c.requires)
    c.in_ok-a-in-Two.ensures c.in_ok-b-in-Two.ensures c.view.ensures c.view-in-Two.ensures c.elements-count.ensures.value c.in_ok-values-in-Two.ensures))

pub cast-requires : goal.cast-requires
cast-requires t c =
    let arrays = grids_of c.args.arrays.now in
    let e = c.args.e.now in
    let a = node_of c.deref-in-Cast.result.now in
    let is : node_of e ≡ Cast e.elem e.shape a = ap (λ kind. node_with kind e.elem e.shape) c.in-Cast.is ∙ ap (λ (v : Typed). Cast e.elem e.shape (node_of v)) (sym c.deref-in-Cast.ensures) in
    record { arrays = arrays; node = a; ready = subst (IsReady arrays) is c.requires; value = c.in_ok-value_of-in-Cast.ensures }

pub returns-in_ok-value_of-in-Cast : goal.returns-in_ok-value_of-in-Cast
returns-in_ok-value_of-in-Cast t c =
    let arrays = grids_of c.args.arrays.now in
    let e = c.args.e.now in
    let a = node_of c.deref-in-Cast.result.now in
    let is : node_of e ≡ Cast e.elem e.shape a = ap (λ kind. node_with kind e.elem e.shape) c.in-Cast.is ∙ ap (λ (v : Typed). Cast e.elem e.shape (node_of v)) (sym c.deref-in-Cast.ensures) in
    of_result arrays (node_of e) (Cast e.elem e.shape a) c.cast.result is (c.cast.ensures arrays a (subst (IsReady arrays) is c.requires) c.in_ok-value_of-in-Cast.ensures)

pub returns-in_ok-values-in-Select : goal.returns-in_ok-values-in-Select
returns-in_ok-values-in-Select t c =
    let arrays = grids_of c.args.arrays.now in
    let e = c.args.e.now in
    let a = node_of c.deref-in-Select.result.now in
    let x = node_of c.deref-in-Select-2.result.now in
    let y = node_of c.deref-in-Select-3.result.now in
    let is : node_of e ≡ Select e.elem e.shape a x y =
    ap (λ kind. node_with kind e.elem e.shape) c.in-Select.is ∙ (λ k. Select e.elem e.shape (node_of (sym c.deref-in-Select.ensures k)) (node_of (sym c.deref-in-Select-2.ensures k)) (node_of (sym c.deref-in-Select-3.ensures k))) in
    subst (IsValueOf arrays (node_of e)) (sym c.own-in-Select.ensures)
    (of_node arrays (node_of e) _ _ is
    (select_value arrays e.elem e.shape a x y c.in_ok-c-in-Select.c c.in_ok-x-in-Select.x c.in_ok-y-in-Select.y c.view-in-Select.result c.view-in-Select-2.result c.view-in-Select-3.result c.elements-count.result c.in_ok-values-in-Select.values
    (subst (IsReady arrays) is c.requires) c.in_ok-c-in-Select.ensures c.in_ok-x-in-Select.ensures c.in_ok-y-in-Select.ensures c.view-in-Select.ensures c.view-in-Select-2.ensures c.view-in-Select-3.ensures
    c.elements-count.ensures.value c.in_ok-values-in-Select.ensures))

pub map-requires : goal.map-requires
map-requires t c =
    let arrays = grids_of c.args.arrays.now in
    let e = c.args.e.now in
    let mapping = c.in-Map.mapping in
    let a = node_of c.deref-in-Map.result.now in
    let is : node_of e ≡ Map e.elem e.shape mapping a = ap (λ kind. node_with kind e.elem e.shape) c.in-Map.is ∙ ap (λ (v : Typed). Map e.elem e.shape mapping (node_of v)) (sym c.deref-in-Map.ensures) in
    (e.elem, record { arrays = arrays; node = a; ready = subst (IsReady arrays) is c.requires; value = c.in_ok-value_of-in-Map.ensures })

pub returns-in_ok-value_of-in-Map : goal.returns-in_ok-value_of-in-Map
returns-in_ok-value_of-in-Map t c =
    let arrays = grids_of c.args.arrays.now in
    let e = c.args.e.now in
    let mapping = c.in-Map.mapping in
    let a = node_of c.deref-in-Map.result.now in
    let is : node_of e ≡ Map e.elem e.shape mapping a = ap (λ kind. node_with kind e.elem e.shape) c.in-Map.is ∙ ap (λ (v : Typed). Map e.elem e.shape mapping (node_of v)) (sym c.deref-in-Map.ensures) in
    of_result arrays (node_of e) (Map e.elem e.shape mapping a) c.map.result is (c.map.ensures e.elem arrays a (subst (IsReady arrays) is c.requires) c.in_ok-value_of-in-Map.ensures)

pub rows-requires : goal.rows-requires
rows-requires t c =
    let arrays = grids_of c.args.arrays.now in
    let e = c.args.e.now in
    let fold = c.in-RowFold.fold in
    let a = node_of c.deref-in-RowFold.result.now in
    let is : node_of e ≡ RowFold e.elem e.shape fold a = ap (λ kind. node_with kind e.elem e.shape) c.in-RowFold.is ∙ ap (λ (v : Typed). RowFold e.elem e.shape fold (node_of v)) (sym c.deref-in-RowFold.ensures) in
    record { arrays = arrays; node = a; ready = subst (IsReady arrays) is c.requires; value = c.in_ok-value_of-in-RowFold.ensures }

pub returns-in_ok-value_of-in-RowFold : goal.returns-in_ok-value_of-in-RowFold
returns-in_ok-value_of-in-RowFold t c =
    let arrays = grids_of c.args.arrays.now in
    let e = c.args.e.now in
    let fold = c.in-RowFold.fold in
    let a = node_of c.deref-in-RowFold.result.now in
    let is : node_of e ≡ RowFold e.elem e.shape fold a = ap (λ kind. node_with kind e.elem e.shape) c.in-RowFold.is ∙ ap (λ (v : Typed). RowFold e.elem e.shape fold (node_of v)) (sym c.deref-in-RowFold.ensures) in
    of_result arrays (node_of e) (RowFold e.elem e.shape fold a) c.rows.result is (c.rows.ensures arrays a (subst (IsReady arrays) is c.requires) c.in_ok-value_of-in-RowFold.ensures)

pub whole-requires : goal.whole-requires
whole-requires t c =
    let arrays = grids_of c.args.arrays.now in
    let e = c.args.e.now in
    let fold = c.in-Fold.fold in
    let a = node_of c.deref-in-Fold.result.now in
    let is : node_of e ≡ Fold e.elem e.shape fold a = ap (λ kind. node_with kind e.elem e.shape) c.in-Fold.is ∙ ap (λ (v : Typed). Fold e.elem e.shape fold (node_of v)) (sym c.deref-in-Fold.ensures) in
    record { arrays = arrays; node = a; ready = subst (IsReady arrays) is c.requires; value = c.in_ok-value_of-in-Fold.ensures }

pub returns-in_ok-value_of-in-Fold : goal.returns-in_ok-value_of-in-Fold
returns-in_ok-value_of-in-Fold t c =
    let arrays = grids_of c.args.arrays.now in
    let e = c.args.e.now in
    let fold = c.in-Fold.fold in
    let a = node_of c.deref-in-Fold.result.now in
    let is : node_of e ≡ Fold e.elem e.shape fold a = ap (λ kind. node_with kind e.elem e.shape) c.in-Fold.is ∙ ap (λ (v : Typed). Fold e.elem e.shape fold (node_of v)) (sym c.deref-in-Fold.ensures) in
    of_result arrays (node_of e) (Fold e.elem e.shape fold a) c.whole.result is (c.whole.ensures arrays a (subst (IsReady arrays) is c.requires) c.in_ok-value_of-in-Fold.ensures)
