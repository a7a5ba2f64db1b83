-- The values of a node's array, from those of its operands.
use Rattle.std.proofs.Common.{◌≡◌, ℕ, ◌+◌, ◌*◌, ◌/◌, ◌%◌, ◌<◌, ◌≤◌, List, [], ◌∷◌, length, drop, get_or, map, refl, sym, ap, ◌∙◌, subst, arith, Option, None, Some, false, Vec, Global}
use Rattle.std.specs.Prelude.{ℤ, pos, All, IfSome, IfOk, Result}
use Rattle.std.specs.Option.{option_map_or}
use Rattle.std.specs.List.{range_with_len}
use Rattle.std.proofs.lemmas.List.{ext_get_or, get_or-take, get_or-drop, length-take, length-drop}
use Rattle.std.proofs.lemmas.List.FromFn.{length-map-range_with_len, get_or-map-range_with_len}
use Rattle.std.proofs.lemmas.Nat.{div-add-mod', mod_below, row_fits, mul-add-lt}
use Rattle.std.proofs.Math.Nat.{div-lt_iff_lt-mul}
use denote.Ref.{Bor}
use Rattle.ven_base.specs.declared.elem.Elem.{Elem}
use Rattle.ven_base.specs.declared.elem.Elem.TheVariants.{U8}
use Rattle.ven_base.specs.declared.ops.Op1.{Op1}
use Rattle.ven_base.specs.declared.ops.Op2.{Op2}
use Rattle.ven_base.specs.declared.ops.Fold as ops
use Rattle.ven_base.specs.declared.mapping.Mapping.{Mapping}
use Rattle.ven_base.specs.Elem.{IsElement}
use Rattle.ven_base.specs.Extent.{Extent, IsExtent, IsIndex, elements_of, element_limit}
use Rattle.ven_base.specs.Wrap.{wrapped}
use Rattle.ven_base.specs.Operation.{applied1, applied2}
use Rattle.ven_base.specs.Folding.{folded}
use Rattle.ven_base.specs.Mapping.{source_of, fill_of, result_shape}
use Rattle.ven_base.specs.Grid.{Grid, value_at}
use Rattle.ven_base.proofs.Sources.{source_of-inside}
use Rattle.shape_check.specs.declared.typed.ArrayType.{ArrayType}
use Rattle.shape_check.specs.Node.{Node, Name, Literal, One, Two, Cast, Select, Map, RowFold, Fold, elem_of, shape_of, is_literal}
use Rattle.shape_check.specs.Meaning.{row_values, values_with, no_grid, array_at, chosen, expr_at}
use Rattle.shape_check.specs.Laws.{IsArrayIn}
use Rattle.ven_base.proofs.Made.{row_values-length, row_values-at, values_with-length, values_with-all, grid_with-at}
use Rattle.shape_check.proofs.Typing.{shape_of-IsExtent, Stands-AreShapes, expr_at-IsElement}
use Rattle.array_meaning.specs.declared.operand.Values as values_type
use Rattle.array_meaning.specs.declared.operand.Values.TheVariants as values
use Rattle.array_meaning.specs.declared.operand.Operand.{Operand}
use Rattle.array_meaning.specs.declared.operand.View.{View}
use Rattle.array_meaning.specs.Operand.{number_at, number_in, Reaches, list_in, list_of, step_in, step_of, IsViewOf, AreFull, IsFull, IsValueOf, IsReady}
use Rattle.array_meaning.specs.Rows.{row_in, row_reductions}
use Rattle.array_meaning.specs.Sources.{AreThere, AreElements, HaveElements, results1, results2, casts, choices, mapped_at}

-- ---- operands and views

full_there : (v : values_type.Values) (shape : Extent) (k : ℕ) → AreFull v shape → k < elements_of shape → k * step_in v < length (list_in v)
full_there (values.Shared xs) shape k h below = let one : k * 1 ≡ k = omega arith in omega (arith, h)
full_there (values.Own xs) shape k h below = let one : k * 1 ≡ k = omega arith in omega (arith, h)
full_there (values.Same xs) shape k h below = let none : k * 0 ≡ 0 = omega arith in omega (arith, h)

view_reaches : (o : Operand) (v : View) (k : ℕ) → IsViewOf o v → IsFull o → k < elements_of o.shape → Reaches v k
view_reaches o v k h full below =
    subst (λ (n : ℕ). k * n < length v.values.now) (sym h.step_is)
    (subst (λ (xs : List ℤ). k * step_of o < length xs) (sym h.values_are) (full_there o.values o.shape k full below))

view_number : (o : Operand) (v : View) (k : ℕ) → IsViewOf o v → number_in v k ≡ number_at (list_of o) (step_of o) k
view_number o v k h = λ t. number_at (h.values_are t) (h.step_is t) k

-- ---- places and indices

index_of : (shape : Extent) (k : ℕ) → IsExtent shape → k < elements_of shape → IsIndex shape (k / shape.cols) (k % shape.cols)
index_of shape k e below = record { row = (div-lt_iff_lt-mul e.some_cols).1 below; col = mod_below k shape.cols e.some_cols }

place_below : (shape : Extent) (i j : ℕ) → IsIndex shape i j → i * shape.cols + j < elements_of shape
place_below shape i j h = omega (arith, mul-add-lt i shape.cols j shape.rows h.row h.col)

-- the operand's value at an index
pub value_of-at : (arrays : List Grid) (e : Node) (o : Operand) (v : View) (shape : Extent) (i j : ℕ) → IsValueOf arrays e o → IsViewOf o v → shape_of e ≡ shape → IsIndex shape i j → number_in v (i * shape.cols + j) ≡ expr_at arrays e i j
value_of-at arrays e o v shape i j h seen same index =
    view_number o v (i * shape.cols + j) seen ∙ ap (λ (s : Extent). number_at (list_of o) (step_of o) (i * s.cols + j)) (sym same)
    ∙ h.values_are i j (subst (λ (s : Extent). IsIndex s i j) (sym same) index)

element_at : (arrays : List Grid) (e : Node) (o : Operand) (v : View) (shape : Extent) (k : ℕ) → IsReady arrays e → IsValueOf arrays e o → IsViewOf o v → shape_of e ≡ shape → IsExtent shape → k < elements_of shape → IsElement (elem_of e) (number_in v k)
element_at arrays e o v shape k r h seen same extent below =
    let index = index_of shape k extent below in
    let i = k / shape.cols in
    let j = k % shape.cols in
    let place : i * shape.cols + j ≡ k = div-add-mod' k shape.cols in
    let value : number_in v k ≡ expr_at arrays e i j = ap (number_in v) (sym place) ∙ value_of-at arrays e o v shape i j h seen same index in
    subst (IsElement (elem_of e)) (sym value) (expr_at-IsElement r.types arrays e r.stands r.typed i j (subst (λ (s : Extent). IsIndex s i j) (sym same) index))

pub are_there : (arrays : List Grid) (e : Node) (o : Operand) (v : View) (shape : Extent) (count : ℕ) → IsValueOf arrays e o → IsViewOf o v → shape_of e ≡ shape → count ≡ elements_of shape → AreThere count v
are_there arrays e o v shape count h seen same counted = record {
  reaches = λ k below. view_reaches o v k seen h.full (let all : elements_of o.shape ≡ count = ap elements_of (h.shape_is ∙ same) ∙ sym counted in omega (arith, all));
}

pub are_elements : (arrays : List Grid) (e : Node) (o : Operand) (v : View) (elem : Elem) (shape : Extent) (count : ℕ) → IsReady arrays e → IsValueOf arrays e o → IsViewOf o v → elem_of e ≡ elem → shape_of e ≡ shape → IsExtent shape → count ≡ elements_of shape → AreElements elem count v
are_elements arrays e o v elem shape count r h seen typed same extent counted =
    let there = are_there arrays e o v shape count h seen same counted in
    record {
      elements = λ k below. record {
        reaches = there.reaches k below;
        element = subst (λ (t : Elem). IsElement t (number_in v k)) typed (element_at arrays e o v shape k r h seen same extent (omega (arith, counted)));
      };
    }

-- ---- an array of its own

-- values at each place that are the expression's at each index
pub own_value : (arrays : List Grid) (e : Node) (shape : Extent) (count : ℕ) (f : ℕ → ℤ) (v : Vec ℤ Global) → shape ≡ shape_of e → count ≡ elements_of shape → v.items ≡ map f (range_with_len 0 count)
    → ((i j : ℕ) → IsIndex shape i j → f (i * shape.cols + j) ≡ expr_at arrays e i j) → IsValueOf arrays e (record { shape = shape; values = values.Own v })
own_value arrays e shape count f v same counted is h = record {
  shape_is = same;
  full = ap length is ∙ length-map-range_with_len f 0 count ∙ counted;
  values_are = λ i j index.
      let inside : IsIndex shape i j = subst (λ (s : Extent). IsIndex s i j) (sym same) index in
      let p = i * shape.cols + j in
      let place : (i * (shape_of e).cols + j) * 1 ≡ p = ap (λ (s : Extent). (i * s.cols + j) * 1) (sym same) ∙ (let one : p * 1 ≡ p = omega arith in one) in
      let below : p < count = omega (arith, place_below shape i j inside, counted) in
      ap (λ k. get_or v.items k (pos 0)) place ∙ ap (λ xs. get_or xs p (pos 0)) is ∙ get_or-map-range_with_len f 0 count p p (pos 0) below (omega arith) ∙ h i j inside;
  slice = λ plain. refl;
}

-- values at each index that are the expression's
pub whole_value : (arrays : List Grid) (e : Node) (shape : Extent) (f : ℕ → ℕ → ℤ) (v : Vec ℤ Global) → shape ≡ shape_of e → v.items ≡ values_with shape f → ((i j : ℕ) → IsIndex shape i j → f i j ≡ expr_at arrays e i j) → IsValueOf arrays e (record { shape = shape; values = values.Own v })
whole_value arrays e shape f v same is h = record {
  shape_is = same;
  full = ap length is ∙ values_with-length shape f;
  values_are = λ i j index.
      let inside : IsIndex shape i j = subst (λ (s : Extent). IsIndex s i j) (sym same) index in
      let p = i * shape.cols + j in
      let place : (i * (shape_of e).cols + j) * 1 ≡ p = ap (λ (s : Extent). (i * s.cols + j) * 1) (sym same) ∙ (let one : p * 1 ≡ p = omega arith in one) in
      ap (λ k. get_or v.items k (pos 0)) place ∙ ap (λ xs. get_or xs p (pos 0)) is ∙ grid_with-at U8 shape f i j inside ∙ h i j inside;
  slice = λ plain. refl;
}

-- the same of a node that is another
pub of_node : (arrays : List Grid) (m n : Node) (o : Operand) → m ≡ n → IsValueOf arrays n o → IsValueOf arrays m o
of_node arrays m n o is h = subst (λ (e : Node). IsValueOf arrays e o) (sym is) h

pub of_result : {E : Type 0} (arrays : List Grid) (m n : Node) (r : Result Operand E) → m ≡ n → IfOk r (IsValueOf arrays n) → IfOk r (IsValueOf arrays m)
of_result arrays m n r is h = subst (λ (e : Node). IfOk r (IsValueOf arrays e)) (sym is) h

-- ---- nodes with a value at each place of their operands

pub one_value : (arrays : List Grid) (elem : Elem) (shape : Extent) (op : Op1) (a : Node) (x : Operand) (vx : View) (count : ℕ) (v : Vec ℤ Global) → IsReady arrays (One elem shape op a) → IsValueOf arrays a x → IsViewOf x vx → count ≡ elements_of shape
    → v.items ≡ results1 op elem count vx → IsValueOf arrays (One elem shape op a) (record { shape = shape; values = values.Own v })
one_value arrays elem shape op a x vx count v r h hv counted is =
    own_value arrays (One elem shape op a) shape count (λ k. applied1 op elem (number_in vx k)) v refl counted is
    (λ i j index. ap (applied1 op elem) (value_of-at arrays a x vx shape i j h hv r.typed.1.shape_is index))

pub two_value : (arrays : List Grid) (elem : Elem) (shape : Extent) (op : Op2) (a b : Node) (x y : Operand) (vx vy : View) (count : ℕ) (v : Vec ℤ Global) → IsReady arrays (Two elem shape op a b) → IsValueOf arrays a x → IsValueOf arrays b y → IsViewOf x vx → IsViewOf y vy → count ≡ elements_of shape
    → v.items ≡ results2 op elem count vx vy → IsValueOf arrays (Two elem shape op a b) (record { shape = shape; values = values.Own v })
two_value arrays elem shape op a b x y vx vy count v r h l hv lv counted is =
    own_value arrays (Two elem shape op a b) shape count (λ k. applied2 op elem (number_in vx k) (number_in vy k)) v refl counted is
    (λ i j index.
    let p = value_of-at arrays a x vx shape i j h hv r.typed.2.left.shape_is index in
    let q = value_of-at arrays b y vy shape i j l lv r.typed.2.right.shape_is index in
    λ t. applied2 op elem (p t) (q t))

pub cast_value : (arrays : List Grid) (elem : Elem) (shape : Extent) (a : Node) (x : Operand) (vx : View) (count : ℕ) (v : Vec ℤ Global) → IsReady arrays (Cast elem shape a) → IsValueOf arrays a x → IsViewOf x vx → count ≡ elements_of shape
    → v.items ≡ casts elem count vx → IsValueOf arrays (Cast elem shape a) (record { shape = shape; values = values.Own v })
cast_value arrays elem shape a x vx count v r h hv counted is =
    own_value arrays (Cast elem shape a) shape count (λ k. wrapped elem (number_in vx k)) v refl counted is
    (λ i j index. ap (wrapped elem) (value_of-at arrays a x vx shape i j h hv r.typed.1.shape_is index))

pub select_value : (arrays : List Grid) (elem : Elem) (shape : Extent) (a b c : Node) (x y z : Operand) (vx vy vz : View) (count : ℕ) (v : Vec ℤ Global) → IsReady arrays (Select elem shape a b c) → IsValueOf arrays a x → IsValueOf arrays b y → IsValueOf arrays c z
    → IsViewOf x vx → IsViewOf y vy → IsViewOf z vz → count ≡ elements_of shape → v.items ≡ choices count vx vy vz → IsValueOf arrays (Select elem shape a b c) (record { shape = shape; values = values.Own v })
select_value arrays elem shape a b c x y z vx vy vz count v r h l m hv lv mv counted is =
    own_value arrays (Select elem shape a b c) shape count (λ k. chosen (number_in vx k) (number_in vy k) (number_in vz k)) v refl counted is
    (λ i j index.
    let p = value_of-at arrays a x vx shape i j h hv r.typed.3.condition.shape_is index in
    let q = value_of-at arrays b y vy shape i j l lv r.typed.3.chosen.shape_is index in
    let s = value_of-at arrays c z vz shape i j m mv r.typed.3.other.shape_is index in
    λ t. chosen (p t) (q t) (s t))

pub one_ready : (arrays : List Grid) (elem : Elem) (shape : Extent) (op : Op1) (a : Node) (x : Operand) (vx : View) (count : ℕ) → IsReady arrays (One elem shape op a) → IsValueOf arrays a x → IsViewOf x vx → IsExtent shape → count ≡ elements_of shape → AreElements elem count vx
one_ready arrays elem shape op a x vx count r h hv extent counted =
    are_elements arrays a x vx elem shape count (record { types = r.types; stands = r.stands; typed = r.typed.0 }) h hv r.typed.1.elem_is r.typed.1.shape_is extent counted

pub two_ready : (arrays : List Grid) (elem : Elem) (shape : Extent) (op : Op2) (a b : Node) (x y : Operand) (vx vy : View) (count : ℕ) → IsReady arrays (Two elem shape op a b) → IsValueOf arrays a x → IsValueOf arrays b y → IsViewOf x vx → IsViewOf y vy → IsExtent shape → count ≡ elements_of shape
    → HaveElements elem count vx vy
two_ready arrays elem shape op a b x y vx vy count r h l hv lv extent counted = record {
  left = are_elements arrays a x vx elem shape count (record { types = r.types; stands = r.stands; typed = r.typed.0 }) h hv r.typed.2.left.elem_is r.typed.2.left.shape_is extent counted;
  right = are_elements arrays b y vy elem shape count (record { types = r.types; stands = r.stands; typed = r.typed.1 }) l lv r.typed.2.right.elem_is r.typed.2.right.shape_is extent counted;
}

-- ---- whole lists

-- the operand's list has as many values as its shape has elements
pub slice_length : (arrays : List Grid) (e : Node) (o : Operand) → IsValueOf arrays e o → is_literal e ≡ false → length (list_of o) ≡ elements_of o.shape
slice_length arrays e o h plain = full_list o.values o.shape (h.slice plain) h.full
  where
    full_list : (v : values_type.Values) (shape : Extent) → step_in v ≡ 1 → AreFull v shape → length (list_in v) ≡ elements_of shape
    full_list (values.Shared xs) shape s l = l
    full_list (values.Own xs) shape s l = l
    full_list (values.Same xs) shape s l = absurd (cc)

-- its value at an index
slice_at : (arrays : List Grid) (e : Node) (o : Operand) (i j : ℕ) → IsValueOf arrays e o → is_literal e ≡ false → IsIndex (shape_of e) i j → get_or (list_of o) (i * (shape_of e).cols + j) (pos 0) ≡ expr_at arrays e i j
slice_at arrays e o i j h plain index =
    let p = i * (shape_of e).cols + j in
    let place : p * step_of o ≡ p = ap (λ s. p * s) (h.slice plain) ∙ (let one : p * 1 ≡ p = omega arith in one) in
    ap (λ k. get_or (list_of o) k (pos 0)) (sym place) ∙ h.values_are i j index

-- lists of as many values as a shape has elements, with one value at each index, are one
same_values : (shape : Extent) (xs ys : List ℤ) → IsExtent shape → length xs ≡ elements_of shape → length ys ≡ elements_of shape
    → ((i j : ℕ) → IsIndex shape i j → get_or xs (i * shape.cols + j) (pos 0) ≡ get_or ys (i * shape.cols + j) (pos 0)) → xs ≡ ys
same_values shape xs ys e h l same = ext_get_or (pos 0) xs ys (h ∙ sym l) at
  where
    at : (k : ℕ) → k < length xs → get_or xs k (pos 0) ≡ get_or ys k (pos 0)
    at k below =
        let place : k / shape.cols * shape.cols + k % shape.cols ≡ k = div-add-mod' k shape.cols in
        let inside : k < shape.rows * shape.cols = omega (arith, h) in
        let P : ℕ → Type 0 = λ p. get_or xs p (pos 0) ≡ get_or ys p (pos 0) in
        subst P place (same (k / shape.cols) (k % shape.cols) (index_of shape k e inside))

pub extent_of : (arrays : List Grid) (e : Node) → IsReady arrays e → is_literal e ≡ false → IsExtent (shape_of e)
extent_of arrays e r plain = shape_of-IsExtent r.types e (Stands-AreShapes r.types arrays r.stands) r.typed plain

pub whole_list : (arrays : List Grid) (e : Node) (o : Operand) → IsReady arrays e → IsValueOf arrays e o → is_literal e ≡ false → list_of o ≡ values_with (shape_of e) (expr_at arrays e)
whole_list arrays e o r h plain =
    let counted : length (list_of o) ≡ elements_of (shape_of e) = slice_length arrays e o h plain ∙ ap elements_of h.shape_is in
    same_values (shape_of e) (list_of o) (values_with (shape_of e) (expr_at arrays e)) (extent_of arrays e r plain) counted (values_with-length (shape_of e) (expr_at arrays e))
    (λ i j index. slice_at arrays e o i j h plain index ∙ sym (grid_with-at U8 (shape_of e) (expr_at arrays e) i j index))

pub slice_in : (arrays : List Grid) (e : Node) (o : Operand) (elem : Elem) → IsReady arrays e → IsValueOf arrays e o → is_literal e ≡ false → elem_of e ≡ elem → All (IsElement elem) (list_of o)
slice_in arrays e o elem r h plain same =
    subst (All (IsElement elem)) (sym (whole_list arrays e o r h plain))
    (subst (λ (t : Elem). All (IsElement t) (values_with (shape_of e) (expr_at arrays e))) same (values_with-all (IsElement (elem_of e)) (shape_of e) (expr_at arrays e) (expr_at-IsElement r.types arrays e r.stands r.typed)))

-- there is at least one of them, and there are few
pub slice_some : (arrays : List Grid) (e : Node) (o : Operand) → IsReady arrays e → IsValueOf arrays e o → is_literal e ≡ false → 0 < length (list_of o)
slice_some arrays e o r h plain =
    let extent = extent_of arrays e r plain in
    let first : IsIndex (shape_of e) 0 0 = record { row = omega (arith, extent.some_rows); col = omega (arith, extent.some_cols) } in
    let some : 0 < elements_of (shape_of e) = omega (arith, place_below (shape_of e) 0 0 first) in
    subst (λ (n : ℕ). 0 < n) (sym (slice_length arrays e o h plain ∙ ap elements_of h.shape_is)) some

pub slice_few : (arrays : List Grid) (e : Node) (o : Operand) → IsReady arrays e → IsValueOf arrays e o → is_literal e ≡ false → length (list_of o) ≤ element_limit
slice_few arrays e o r h plain =
    subst (λ (n : ℕ). n ≤ element_limit) (sym (slice_length arrays e o h plain ∙ ap elements_of h.shape_is)) (extent_of arrays e r plain).within

-- ---- index maps

from_source : (shape : Extent) (values : List ℤ) (f : ℕ → ℕ → ℤ) (fill : ℤ) (s : Option (ℕ × ℕ)) → IfSome s (λ p. IsIndex shape p.0 p.1) → ((i j : ℕ) → IsIndex shape i j → get_or values (i * shape.cols + j) (pos 0) ≡ f i j)
    → option_map_or (λ p. get_or values (p.0 * shape.cols + p.1) (pos 0)) s fill ≡ option_map_or (λ p. f p.0 p.1) s fill
from_source shape values f fill None inside h = refl
from_source shape values f fill (Some p) inside h = h p.0 p.1 inside

pub map_value : (arrays : List Grid) (elem : Elem) (shape : Extent) (mapping : Mapping) (a : Node) (x : Operand) (v : Vec ℤ Global) → IsReady arrays (Map elem shape mapping a) → IsValueOf arrays a x
    → v.items ≡ values_with (result_shape mapping x.shape) (mapped_at mapping x.shape (list_of x)) → IsValueOf arrays (Map elem shape mapping a) (record { shape = shape; values = values.Own v })
map_value arrays elem shape mapping a x v r h is =
    let own : IsReady arrays a = record { types = r.types; stands = r.stands; typed = r.typed.0 } in
    let extent = extent_of arrays a own r.typed.1.no_literal in
    let to : result_shape mapping x.shape ≡ shape = ap (result_shape mapping) h.shape_is ∙ r.typed.1.shape_is in
    let values_are : v.items ≡ values_with shape (mapped_at mapping (shape_of a) (list_of x)) = is ∙ (λ t. values_with (to t) (mapped_at mapping (h.shape_is t) (list_of x))) in
    whole_value arrays (Map elem shape mapping a) shape (mapped_at mapping (shape_of a) (list_of x)) v refl values_are
    (λ i j index.
    let inside = source_of-inside mapping (shape_of a) i j extent r.typed.1.fits (subst (λ (s : Extent). IsIndex s i j) (sym r.typed.1.shape_is) index) in
    from_source (shape_of a) (list_of x) (expr_at arrays a) (fill_of mapping) (source_of mapping (shape_of a) i j) inside (λ k l at. slice_at arrays a x k l h r.typed.1.no_literal at))

-- ---- reductions

row_of_values : (shape : Extent) (f : ℕ → ℕ → ℤ) (i : ℕ) → i < shape.rows → row_in (values_with shape f) shape.cols i ≡ row_values shape.cols (f i)
row_of_values shape f i h =
    let xs = values_with shape f in
    let row = row_in xs shape.cols i in
    let all = values_with-length shape f in
    let fits : i * shape.cols + shape.cols ≤ shape.rows * shape.cols = omega (arith, row_fits i shape.cols shape.rows shape.cols h (omega arith)) in
    let counted : length row ≡ shape.cols = omega (arith, length-take shape.cols (drop (i * shape.cols) xs), length-drop (i * shape.cols) xs, all, fits) in
    ext_get_or (pos 0) row (row_values shape.cols (f i)) (counted ∙ sym (row_values-length shape.cols (f i)))
    (λ j below.
    let inside : j < shape.cols = omega arith in
    get_or-take shape.cols (drop (i * shape.cols) xs) j (pos 0) inside ∙ get_or-drop (i * shape.cols) xs j (pos 0) ∙ grid_with-at U8 shape f i j (record { row = h; col = inside }) ∙ sym (row_values-at shape.cols (f i) j (pos 0) inside))

pub row_fold_value : (arrays : List Grid) (elem : Elem) (shape : Extent) (fold : ops.Fold) (a : Node) (x : Operand) (v : Vec ℤ Global) → IsReady arrays (RowFold elem shape fold a) → IsValueOf arrays a x
    → v.items ≡ row_reductions fold elem x.shape (list_of x) → IsValueOf arrays (RowFold elem shape fold a) (record { shape = shape; values = values.Own v })
row_fold_value arrays elem shape fold a x v r h is =
    let own : IsReady arrays a = record { types = r.types; stands = r.stands; typed = r.typed.0 } in
    let f = λ (i : ℕ). folded fold elem (row_in (list_of x) x.shape.cols i) in
    let rows : x.shape.rows ≡ (shape_of a).rows = ap (λ (s : Extent). s.rows) h.shape_is in
    let cols : x.shape.cols ≡ (shape_of a).cols = ap (λ (s : Extent). s.cols) h.shape_is in
    let high : shape.rows ≡ (shape_of a).rows = ap (λ (s : Extent). s.rows) r.typed.1.shape_is in
    let wide : shape.cols ≡ 1 = ap (λ (s : Extent). s.cols) r.typed.1.shape_is in
    let all : elements_of shape ≡ shape.rows = ap (λ n. shape.rows * n) wide ∙ (let one : shape.rows * 1 ≡ shape.rows = omega arith in one) in
    own_value arrays (RowFold elem shape fold a) shape x.shape.rows f v refl (rows ∙ sym high ∙ sym all) is
    (λ i j index.
    let below : i < (shape_of a).rows = omega (arith, index.row) in
    let first : j ≡ 0 = omega (arith, index.col) in
    let place : i * shape.cols + j ≡ i = (λ t. i * wide t + first t) ∙ (let flat : i * 1 + 0 ≡ i = omega arith in flat) in
    ap f place ∙ ap (folded fold elem) ((λ t. row_in (whole_list arrays a x own h r.typed.1.no_literal t) (cols t) i) ∙ row_of_values (shape_of a) (expr_at arrays a) i below))

pub fold_value : (arrays : List Grid) (elem : Elem) (shape : Extent) (fold : ops.Fold) (a : Node) (x : Operand) (n : ℤ) (v : Vec ℤ Global) → IsReady arrays (Fold elem shape fold a) → IsValueOf arrays a x → n ≡ folded fold elem (list_of x) → v.items ≡ n ∷ []
    → IsValueOf arrays (Fold elem shape fold a) (record { shape = shape; values = values.Own v })
fold_value arrays elem shape fold a x n v r h is items =
    let own : IsReady arrays a = record { types = r.types; stands = r.stands; typed = r.typed.0 } in
    let all : elements_of shape ≡ 1 = ap elements_of r.typed.1.shape_is in
    own_value arrays (Fold elem shape fold a) shape 1 (λ k. n) v refl (sym all) items
    (λ i j index. is ∙ ap (folded fold elem) (whole_list arrays a x own h r.typed.1.no_literal))

-- ---- leaves

pub name_value : (arrays : List Grid) (elem : Elem) (shape : Extent) (k : ℕ) (grid : Grid) (xs : Bor (List ℤ)) → IsReady arrays (Name elem shape k) → array_at arrays elem shape k ≡ grid → xs.now ≡ grid.values
    → IsValueOf arrays (Name elem shape k) (record { shape = shape; values = values.Shared xs })
name_value arrays elem shape k grid xs r same is =
    let type : ArrayType = record { elem = elem; shape = shape } in
    let here : IsArrayIn type grid = subst (IsArrayIn type) same (r.stands.each k type (no_grid elem shape) r.typed) in
    record {
      shape_is = refl;
      full = ap length is ∙ here.is_grid.filled ∙ ap elements_of here.shape_is;
      values_are = λ i j index.
          let p = i * shape.cols + j in
          let place : p * 1 ≡ p = omega arith in
          (λ t. get_or (is t) (place t) (pos 0)) ∙ ap (λ (s : Extent). get_or grid.values (i * s.cols + j) (pos 0)) (sym here.shape_is) ∙ ap (λ (g : Grid). value_at g i j) (sym same);
      slice = λ plain. refl;
    }

pub literal_value : (arrays : List Grid) (elem : Elem) (shape : Extent) (n : ℤ) (xs : List ℤ) → xs ≡ n ∷ [] → IsValueOf arrays (Literal elem shape n) (record { shape = shape; values = values.Same xs })
literal_value arrays elem shape n xs is = record {
  shape_is = refl;
  full = ap length is;
  values_are = λ i j index.
      let p = i * shape.cols + j in
      let place : p * 0 ≡ 0 = omega arith in
      λ t. get_or (is t) (place t) (pos 0);
  slice = λ plain. absurd (cc);
}
