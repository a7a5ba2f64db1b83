-- Laws of arrays: a type, a shape and a value at each index make one array.
use Rattle.std.proofs.Common.{◌≡◌, ℕ, ◌+◌, ◌*◌, ◌/◌, ◌%◌, ◌<◌, List, length, sym, ap, subst, ◌∙◌, arith}
use Rattle.std.specs.Prelude.{ℤ, pos, slice_index_or}
use Rattle.std.proofs.lemmas.List.{ext_get_or}
use Rattle.std.proofs.lemmas.Nat.{div-add-mod', mod_below}
use Rattle.std.proofs.Math.Nat.{div-lt_iff_lt-mul}
use Rattle.ven_base.specs.declared.ops.Op1.{Op1}
use Rattle.ven_base.specs.declared.ops.Op2.{Op2}
use Rattle.ven_base.specs.declared.mapping.Mapping.{Mapping}
use Rattle.ven_base.specs.Extent.{Extent, IsExtent, IsIndex, elements_of}
use Rattle.ven_base.specs.Grid.{Grid, IsGrid, value_at, IsPointwise1, IsPointwise2, IsMapped}

-- lists of as many values as a shape has elements, with one value at each index, are one
same_values : (shape : Extent) (xs ys : List ℤ) → IsExtent shape → length xs ≡ elements_of shape → length ys ≡ elements_of shape
    → ((i j : ℕ) → IsIndex shape i j → slice_index_or xs (i * shape.cols + j) (pos 0) ≡ slice_index_or ys (i * shape.cols + j) (pos 0)) → xs ≡ ys
same_values shape xs ys e h l same = ext_get_or (pos 0) xs ys (h ∙ sym l) at
  where
    at : (k : ℕ) → k < length xs → slice_index_or xs k (pos 0) ≡ slice_index_or ys k (pos 0)
    at k below =
        let place : k / shape.cols * shape.cols + k % shape.cols ≡ k = div-add-mod' k shape.cols in
        let inside : k < shape.rows * shape.cols = omega (arith, h) in
        let index : IsIndex shape (k / shape.cols) (k % shape.cols) = record { row = (div-lt_iff_lt-mul e.some_cols).1 inside; col = mod_below k shape.cols e.some_cols } in
        let P : ℕ → Type 0 = λ p. slice_index_or xs p (pos 0) ≡ slice_index_or ys p (pos 0) in
        subst P place (same (k / shape.cols) (k % shape.cols) index)

pub same_grids : (a b : Grid) → IsGrid a → IsGrid b → a.elem ≡ b.elem → a.shape ≡ b.shape → ((i j : ℕ) → IsIndex a.shape i j → value_at a i j ≡ value_at b i j) → a ≡ b
same_grids a b h l elem shape same =
    let filled : length b.values ≡ elements_of a.shape = l.filled ∙ ap elements_of (sym shape) in
    let at : (i j : ℕ) → IsIndex a.shape i j → slice_index_or a.values (i * a.shape.cols + j) (pos 0) ≡ slice_index_or b.values (i * a.shape.cols + j) (pos 0) =
    λ i j index. same i j index ∙ ap (λ (s : Extent). slice_index_or b.values (i * s.cols + j) (pos 0)) (sym shape) in
    let values = same_values a.shape a.values b.values h.shaped h.filled filled at in
    λ k. record { elem = elem k; shape = shape k; values = values k }

-- so an operation at each index gives one array
pub IsPointwise1-unique : (op : Op1) (operand a b : Grid) → IsGrid a → IsGrid b → IsPointwise1 op operand a → IsPointwise1 op operand b → a ≡ b
IsPointwise1-unique op operand a b h l p q =
    let shape : a.shape ≡ b.shape = p.shape_is ∙ sym q.shape_is in
    same_grids a b h l (p.elem_is ∙ sym q.elem_is) shape
    (λ i j index. p.values_are i j index ∙ sym (q.values_are i j (subst (λ (s : Extent). IsIndex s i j) shape index)))

pub IsPointwise2-unique : (op : Op2) (left right a b : Grid) → IsGrid a → IsGrid b → IsPointwise2 op left right a → IsPointwise2 op left right b → a ≡ b
IsPointwise2-unique op left right a b h l p q =
    let shape : a.shape ≡ b.shape = p.shape_is ∙ sym q.shape_is in
    same_grids a b h l (p.elem_is ∙ sym q.elem_is) shape
    (λ i j index. p.values_are i j index ∙ sym (q.values_are i j (subst (λ (s : Extent). IsIndex s i j) shape index)))

-- and a mapping does
pub IsMapped-unique : (mapping : Mapping) (operand a b : Grid) → IsGrid a → IsGrid b → IsMapped mapping operand a → IsMapped mapping operand b → a ≡ b
IsMapped-unique mapping operand a b h l p q =
    let shape : a.shape ≡ b.shape = p.shape_is ∙ sym q.shape_is in
    same_grids a b h l (p.elem_is ∙ sym q.elem_is) shape
    (λ i j index. p.values_are i j index ∙ sym (q.values_are i j (subst (λ (s : Extent). IsIndex s i j) shape index)))
