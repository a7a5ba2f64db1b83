-- Facts of expressions in which each node keeps its rule.
use Rattle.std.proofs.Common.{◌≡◌, ℕ, ◌+◌, ◌*◌, ◌<◌, ◌≤◌, List, [], ◌∷◌, ◌++◌, length, refl, sym, ap, subst, arith, None, Some, Bool, true, false, Option, inl, inr}
use Rattle.std.specs.Prelude.{ℤ, pos, All, IfSome, ◌&&◌, ◌⊎◌}
use Rattle.std.proofs.lemmas.Nat.{mul-add-lt}
use Rattle.std.specs.Option.{option_map_or}
use Rattle.std.proofs.lemmas.List.{get_or_append_left}
use Rattle.std.proofs.lemmas.Option.{slice_get_within}
use Rattle.ven_base.specs.declared.elem.Elem.{Elem}
use Rattle.ven_base.specs.declared.ops.Op1.{Op1}
use Rattle.ven_base.proofs.Operations.{IsElement-applied2, IsElement-chosen}
use Rattle.ven_base.specs.Wrap.{wrapped}
use Rattle.ven_base.specs.declared.ops.Fold as ops
use Rattle.ven_base.specs.Elem.{IsElement}
use Rattle.ven_base.specs.Extent.{Extent, IsExtent, IsIndex}
use Rattle.ven_base.specs.Folding.{folded, IsFolded}
use Rattle.ven_base.specs.Grid.{Grid, IsGrid, value_at}
use Rattle.ven_base.specs.Operation.{exact1, applied1, applied2}
use Rattle.ven_base.specs.Mapping.{source_of, result_shape, fill_of}
use Rattle.ven_base.proofs.Wrapped.{IsElement-wrapped}
use Rattle.ven_base.proofs.Reductions.{IsFolded-folded, IsElement-IsFolded}
use Rattle.ven_base.proofs.Sources.{source_of-inside, result_shape-IsExtent, factor_within}
use Rattle.shape_check.specs.Node.{Node, Name, Literal, One, Two, Cast, Select, Map, RowFold, Fold, elem_of, shape_of, is_literal}
use Rattle.shape_check.specs.declared.typed.ArrayType.{ArrayType}
use Rattle.shape_check.specs.Rules.{IsTyped}
use Rattle.shape_check.specs.Meaning.{row_values, values_with, no_grid, array_at, chosen, expr_at}
use Rattle.shape_check.specs.Laws.{AreShapes, IsArrayIn, Stands}
use Rattle.ven_base.proofs.Made.{row_values-length, row_values-same, row_values-all, values_with-length, values_with-same, values_with-all}

-- ---- shapes

pub column-IsExtent : (shape : Extent) → IsExtent shape → IsExtent (record { rows = shape.rows; cols = 1 })
column-IsExtent shape h = record { some_rows = h.some_rows; some_cols = omega arith; within = let rows = factor_within shape.rows shape.cols 1048576 h.some_cols h.within in omega arith }

pub some_values : (shape : Extent) (f : ℕ → ℕ → ℤ) → IsExtent shape → 0 < length (values_with shape f)
some_values shape f h =
    omega (arith, values_with-length shape f, mul-add-lt 0 shape.cols 0 shape.rows h.some_rows h.some_cols)

one-IsExtent : IsExtent (record { rows = 1; cols = 1 })
one-IsExtent = record { some_rows = omega arith; some_cols = omega arith; within = omega arith }

-- one of two is no literal
pub one_of_two : (a b : Bool) → (a && b) ≡ false → (a ≡ false) ⊎ (b ≡ false)
one_of_two true true h = absurd (cc)
one_of_two true false h = inr refl
one_of_two false b h = inl refl

-- where the names' shapes are shapes, that of an expression is one. A literal has that of its neighbour
pub shape_of-IsExtent : (types : List ArrayType) (e : Node) → AreShapes types → IsTyped types e → is_literal e ≡ false → IsExtent (shape_of e)
shape_of-IsExtent types (Name elem shape k) h typed array = h k (record { elem = elem; shape = shape }) typed
shape_of-IsExtent types (Literal elem shape value) h typed array = absurd (cc)
shape_of-IsExtent types (One elem shape op a) h typed array = subst IsExtent typed.1.shape_is (shape_of-IsExtent types a h typed.0 typed.2.no_literal)
shape_of-IsExtent types (Two elem shape op a b) h typed array =
    elim (one_of_two (is_literal a) (is_literal b) typed.2.no_literals) [
      | inl left ↦ subst IsExtent typed.2.left.shape_is (shape_of-IsExtent types a h typed.0 left)
      | inr right ↦ subst IsExtent typed.2.right.shape_is (shape_of-IsExtent types b h typed.1 right)
    ]
shape_of-IsExtent types (Cast elem shape a) h typed array = subst IsExtent typed.1.shape_is (shape_of-IsExtent types a h typed.0 typed.1.no_literal)
shape_of-IsExtent types (Select elem shape c x y) h typed array = subst IsExtent typed.3.condition.shape_is (shape_of-IsExtent types c h typed.0 typed.3.no_literal)
shape_of-IsExtent types (Map elem shape mapping a) h typed array =
    subst IsExtent typed.1.shape_is (result_shape-IsExtent mapping (shape_of a) (shape_of-IsExtent types a h typed.0 typed.1.no_literal) typed.1.fits)
shape_of-IsExtent types (RowFold elem shape fold a) h typed array =
    subst IsExtent (sym typed.1.shape_is) (column-IsExtent (shape_of a) (shape_of-IsExtent types a h typed.0 typed.1.no_literal))
shape_of-IsExtent types (Fold elem shape fold a) h typed array = subst IsExtent (sym typed.1.shape_is) one-IsExtent

pub Stands-AreShapes : (types : List ArrayType) (arrays : List Grid) → Stands types arrays → AreShapes types
Stands-AreShapes types arrays h k t is =
    let array = h.each k t (no_grid t.elem t.shape) is in
    subst IsExtent array.shape_is array.is_grid.shaped

-- ---- values

value_at-IsElement : (grid : Grid) (i j : ℕ) → IsGrid grid → IsIndex grid.shape i j → IsElement grid.elem (value_at grid i j)
value_at-IsElement grid i j h index =
    let inside : i * grid.shape.cols + j < grid.shape.rows * grid.shape.cols = omega (arith, mul-add-lt i grid.shape.cols j grid.shape.rows index.row index.col) in
    h.typed (i * grid.shape.cols + j) (pos 0) (omega (arith, h.filled))

name-IsElement : (type : ArrayType) (grid : Grid) (i j : ℕ) → IsArrayIn type grid → IsIndex type.shape i j → IsElement type.elem (value_at grid i j)
name-IsElement type grid i j h index =
    subst (λ (e : Elem). IsElement e (value_at grid i j)) h.elem_is
    (value_at-IsElement grid i j h.is_grid (subst (λ (s : Extent). IsIndex s i j) (sym h.shape_is) index))

IsElement-applied1 : (op : Op1) (elem : Elem) (x : ℤ) → IsElement elem (applied1 op elem x)
IsElement-applied1 op elem x = IsElement-wrapped elem (exact1 op x)

pub folded-IsFolded : (fold : ops.Fold) (elem : Elem) (xs : List ℤ) → 0 < length xs → IsFolded fold elem xs (folded fold elem xs)
folded-IsFolded fold elem [] h = absurd (omega arith)
folded-IsFolded fold elem (x ∷ xs) h = IsFolded-folded fold elem x xs

folded-IsElement : (fold : ops.Fold) (elem from : Elem) (xs : List ℤ) → from ≡ elem → 0 < length xs → All (IsElement from) xs → IsElement elem (folded fold elem xs)
folded-IsElement fold elem from xs same some all =
    IsElement-IsFolded fold elem xs (folded fold elem xs) (subst (λ (e : Elem). All (IsElement e) xs) same all) (folded-IsFolded fold elem xs some)

mapped-IsElement : (elem : Elem) (shape : Extent) (f : ℕ → ℕ → ℤ) (fill : ℤ) (o : Option (ℕ × ℕ)) → IfSome o (λ s. IsIndex shape s.0 s.1) → ((i j : ℕ) → IsIndex shape i j → IsElement elem (f i j)) → IsElement elem fill
    → IsElement elem (option_map_or (λ s. f s.0 s.1) o fill)
mapped-IsElement elem shape f fill None inside h l = l
mapped-IsElement elem shape f fill (Some s) inside h l = h s.0 s.1 inside

-- the index of an operand of one shape
index_in : (a b : Extent) (i j : ℕ) → a ≡ b → IsIndex b i j → IsIndex a i j
index_in a b i j same h = subst (λ (s : Extent). IsIndex s i j) (sym same) h

element_in : (a b : Elem) (x : ℤ) → a ≡ b → IsElement a x → IsElement b x
element_in a b x same h = subst (λ (e : Elem). IsElement e x) same h

-- the value of an expression at an index of its shape is a number of its type
pub expr_at-IsElement : (types : List ArrayType) (arrays : List Grid) (e : Node) → Stands types arrays → IsTyped types e → (i j : ℕ) → IsIndex (shape_of e) i j → IsElement (elem_of e) (expr_at arrays e i j)
expr_at-IsElement types arrays (Name elem shape k) h typed i j index =
    name-IsElement (record { elem = elem; shape = shape }) (array_at arrays elem shape k) i j (h.each k (record { elem = elem; shape = shape }) (no_grid elem shape) typed) index
expr_at-IsElement types arrays (Literal elem shape value) h typed i j index = typed
expr_at-IsElement types arrays (One elem shape op a) h typed i j index = IsElement-applied1 op elem (expr_at arrays a i j)
expr_at-IsElement types arrays (Two elem shape op a b) h typed i j index = IsElement-applied2 op elem (expr_at arrays a i j) (expr_at arrays b i j)
expr_at-IsElement types arrays (Cast elem shape a) h typed i j index = IsElement-wrapped elem (expr_at arrays a i j)
expr_at-IsElement types arrays (Select elem shape c x y) h typed i j index =
    IsElement-chosen elem (expr_at arrays c i j) (expr_at arrays x i j) (expr_at arrays y i j)
    (element_in (elem_of x) elem (expr_at arrays x i j) typed.3.chosen.elem_is (expr_at-IsElement types arrays x h typed.1 i j (index_in (shape_of x) shape i j typed.3.chosen.shape_is index)))
    (element_in (elem_of y) elem (expr_at arrays y i j) typed.3.other.elem_is (expr_at-IsElement types arrays y h typed.2 i j (index_in (shape_of y) shape i j typed.3.other.shape_is index)))
expr_at-IsElement types arrays (Map elem shape mapping a) h typed i j index =
    let operand = shape_of-IsExtent types a (Stands-AreShapes types arrays h) typed.0 typed.1.no_literal in
    mapped-IsElement elem (shape_of a) (expr_at arrays a) (fill_of mapping) (source_of mapping (shape_of a) i j)
    (source_of-inside mapping (shape_of a) i j operand typed.1.fits (index_in (result_shape mapping (shape_of a)) shape i j typed.1.shape_is index))
    (λ r c inside. element_in (elem_of a) elem (expr_at arrays a r c) typed.1.elem_is (expr_at-IsElement types arrays a h typed.0 r c inside))
    typed.1.fill
expr_at-IsElement types arrays (RowFold elem shape fold a) h typed i j index =
    let operand = shape_of-IsExtent types a (Stands-AreShapes types arrays h) typed.0 typed.1.no_literal in
    let row = index_in (record { rows = (shape_of a).rows; cols = 1 }) shape i j (sym typed.1.shape_is) index in
    folded-IsElement fold elem (elem_of a) (row_values (shape_of a).cols (expr_at arrays a i)) typed.1.elem_is
    (omega (arith, row_values-length (shape_of a).cols (expr_at arrays a i), operand.some_cols))
    (row_values-all (IsElement (elem_of a)) (shape_of a).cols (expr_at arrays a i) (λ c below. expr_at-IsElement types arrays a h typed.0 i c (record { row = row.row; col = below })))
expr_at-IsElement types arrays (Fold elem shape fold a) h typed i j index =
    let operand = shape_of-IsExtent types a (Stands-AreShapes types arrays h) typed.0 typed.1.no_literal in
    folded-IsElement fold elem (elem_of a) (values_with (shape_of a) (expr_at arrays a)) typed.1.elem_is
    (some_values (shape_of a) (expr_at arrays a) operand)
    (values_with-all (IsElement (elem_of a)) (shape_of a) (expr_at arrays a) (λ r c inside. expr_at-IsElement types arrays a h typed.0 r c inside))

-- ---- more arrays change nothing

mapped_same : (f g : ℕ → ℕ → ℤ) (fill : ℤ) (o : Option (ℕ × ℕ)) → ((i j : ℕ) → f i j ≡ g i j) → option_map_or (λ s. f s.0 s.1) o fill ≡ option_map_or (λ s. g s.0 s.1) o fill
mapped_same f g fill None h = refl
mapped_same f g fill (Some s) h = h s.0 s.1

pub expr_at-append : (types : List ArrayType) (arrays more : List Grid) (e : Node) → length types ≤ length arrays → IsTyped types e → (i j : ℕ) → expr_at (arrays ++ more) e i j ≡ expr_at arrays e i j
expr_at-append types arrays more (Name elem shape k) h typed i j =
    let below = slice_get_within types k (record { elem = elem; shape = shape }) typed in
    let inside : k < length arrays = omega arith in
    ap (λ g. value_at g i j) (get_or_append_left arrays more (no_grid elem shape) k inside)
expr_at-append types arrays more (Literal elem shape value) h typed i j = refl
expr_at-append types arrays more (One elem shape op a) h typed i j = ap (applied1 op elem) (expr_at-append types arrays more a h typed.0 i j)
expr_at-append types arrays more (Two elem shape op a b) h typed i j =
    let x = expr_at-append types arrays more a h typed.0 i j in
    let y = expr_at-append types arrays more b h typed.1 i j in
    λ k. applied2 op elem (x k) (y k)
expr_at-append types arrays more (Cast elem shape a) h typed i j = ap (wrapped elem) (expr_at-append types arrays more a h typed.0 i j)
expr_at-append types arrays more (Select elem shape c x y) h typed i j =
    let p = expr_at-append types arrays more c h typed.0 i j in
    let q = expr_at-append types arrays more x h typed.1 i j in
    let r = expr_at-append types arrays more y h typed.2 i j in
    λ k. chosen (p k) (q k) (r k)
expr_at-append types arrays more (Map elem shape mapping a) h typed i j =
    mapped_same (expr_at (arrays ++ more) a) (expr_at arrays a) (fill_of mapping) (source_of mapping (shape_of a) i j) (λ r c. expr_at-append types arrays more a h typed.0 r c)
expr_at-append types arrays more (RowFold elem shape fold a) h typed i j =
    ap (folded fold elem) (row_values-same (shape_of a).cols (expr_at (arrays ++ more) a i) (expr_at arrays a i) (λ c below. expr_at-append types arrays more a h typed.0 i c))
expr_at-append types arrays more (Fold elem shape fold a) h typed i j =
    ap (folded fold elem) (values_with-same (shape_of a) (expr_at (arrays ++ more) a) (expr_at arrays a) (λ r c inside. expr_at-append types arrays more a h typed.0 r c))
