-- A checked program has one meaning.
use Rattle.std.proofs.Common.{◌≡◌, ℕ, zero, suc, ◌<◌, List, [], ◌∷◌, ◌++◌, length, refl, sym, ap, ◌∙◌, subst, arith, append_assoc, length-append, Some}
use Rattle.std.specs.Prelude.{◌⊎◌, slice_get, unwrap_or, false}
use Rattle.std.proofs.Common.{inl, inr}
use Rattle.std.specs.List.{AllZip}
use Rattle.std.proofs.lemmas.List.{append-nil, get_or_append_left, get_or_at}
use Rattle.std.proofs.lemmas.Option.{slice_get_within}
use Rattle.ven_base.specs.Extent.{Extent, IsIndex}
use Rattle.ven_base.specs.Grid.{Grid, IsGrid}
use Rattle.ven_base.specs.Pairs.{Pairs}
use Rattle.ven_base.proofs.Grids.{same_grids}
use Rattle.shape_check.specs.Node.{Node, elem_of, shape_of, is_literal}
use Rattle.shape_check.specs.Statement.{Statement, Input, Let, Output}
use Rattle.shape_check.specs.declared.typed.ArrayType.{ArrayType}
use Rattle.shape_check.specs.Rules.{declared_type, IsTyped, IsTypedStatement, AreTyped}
use Rattle.shape_check.specs.Meaning.{row_values, values_with, no_grid, expr_at, array_of, input_array, statement_array, arrays_from, arrays_of, FitsStatement, FitInputs, IsArrayAt, StandsFor, AreMeant}
use Rattle.shape_check.specs.Laws.{IsArrayIn, Stands, HasOneMeaning, ReducesRows, ReducesArrays}
use Rattle.ven_base.proofs.Made.{row_values-length, grid_with-at, IsGrid-grid_with}
use Rattle.shape_check.proofs.Typing.{shape_of-IsExtent, Stands-AreShapes, expr_at-IsElement, expr_at-append, folded-IsFolded, some_values}

-- ---- the array of an expression

pub array_of-IsGrid : (types : List ArrayType) (arrays : List Grid) (e : Node) → Stands types arrays → IsTyped types e → is_literal e ≡ false → IsGrid (array_of arrays e)
array_of-IsGrid types arrays e h typed array =
    IsGrid-grid_with (elem_of e) (shape_of e) (expr_at arrays e) (shape_of-IsExtent types e (Stands-AreShapes types arrays h) typed array) (expr_at-IsElement types arrays e h typed)

-- it is the only one with the expression's values
IsArrayAt-unique : (types : List ArrayType) (before more : List Grid) (e : Node) (array : Grid) → Stands types before → IsTyped types e → is_literal e ≡ false → IsArrayAt (before ++ more) e array → array ≡ array_of before e
IsArrayAt-unique types before more e array h typed plain is =
    same_grids array (array_of before e) is.is_grid (array_of-IsGrid types before e h typed plain) is.elem_is is.shape_is
    (λ i j index.
    let inside : IsIndex (shape_of e) i j = subst (λ (s : Extent). IsIndex s i j) is.shape_is index in
    is.values_are i j inside ∙ expr_at-append types before more e h.counted typed i j ∙ sym (grid_with-at (elem_of e) (shape_of e) (expr_at before e) i j inside))

IsArrayAt-array_of : (types : List ArrayType) (before more : List Grid) (e : Node) → Stands types before → IsTyped types e → is_literal e ≡ false → IsArrayAt (before ++ more) e (array_of before e)
IsArrayAt-array_of types before more e h typed plain = record {
  is_grid = array_of-IsGrid types before e h typed plain;
  elem_is = refl;
  shape_is = refl;
  values_are = λ i j index. grid_with-at (elem_of e) (shape_of e) (expr_at before e) i j index ∙ sym (expr_at-append types before more e h.counted typed i j);
}

-- ---- one statement more

-- the last of a list, or one of those before it
get_push : {X : Type 0} (xs : List X) (y x : X) (k : ℕ) → slice_get (xs ++ y ∷ []) k ≡ Some x → (slice_get xs k ≡ Some x) ⊎ ((k ≡ length xs) × (y ≡ x))
get_push [] y x zero h = inr (refl, let e : Some y ≡ Some x = h in cc)
get_push [] y x (suc k) h = absurd (cc)
get_push (z ∷ xs) y x zero h = inl h
get_push (z ∷ xs) y x (suc k) h = elim (get_push xs y x k h) [ inl a ↦ inl a | inr a ↦ inr (let same = a.0 in omega arith, a.1) ]

pub Stands-push : (types : List ArrayType) (arrays : List Grid) (type : ArrayType) (array : Grid) → length arrays ≡ length types → Stands types arrays → IsArrayIn type array → Stands (types ++ type ∷ []) (arrays ++ array ∷ [])
Stands-push types arrays type array counted h is = record {
  counted = omega (arith, length-append types (type ∷ []), length-append arrays (array ∷ []));
  each = λ k t d found.
      elim (get_push types type t k found) [
        | inl before ↦
            let below = slice_get_within types k t before in
            let inside : k < length arrays = omega arith in
            subst (IsArrayIn t) (sym (get_or_append_left arrays (array ∷ []) d k inside)) (h.each k t d before)
        | inr last ↦
            let place : length arrays ≡ k = counted ∙ sym last.0 in
            subst (IsArrayIn t) (sym (get_or_at arrays array [] d k place)) (subst (λ (u : ArrayType). IsArrayIn u array) last.1 is)
      ];
}

-- the array of a statement has its type and shape
pub statement_array-IsArrayIn : (inputs : Pairs) (types : List ArrayType) (arrays : List Grid) (s : Statement) → Stands types arrays → IsTypedStatement types s → FitsStatement inputs s → IsArrayIn (declared_type s) (statement_array inputs arrays s)
statement_array-IsArrayIn inputs types arrays (Input name elem shape) h typed fit =
    let is : fit.array ≡ input_array inputs name elem shape = ap (λ o. unwrap_or o (no_grid elem shape)) (sym fit.found) in
    subst (IsArrayIn (record { elem = elem; shape = shape })) is (record { is_grid = fit.is_grid; elem_is = fit.elem_is; shape_is = fit.shape_is })
statement_array-IsArrayIn inputs types arrays (Let name value) h typed fit =
    record { is_grid = array_of-IsGrid types arrays value h typed.0 typed.1.no_literal; elem_is = refl; shape_is = refl }
statement_array-IsArrayIn inputs types arrays (Output name value) h typed fit =
    record { is_grid = array_of-IsGrid types arrays value h typed.0 typed.1.no_literal; elem_is = refl; shape_is = refl }

-- a statement's array is the only one that stands for it
StandsFor-unique : (inputs : Pairs) (types : List ArrayType) (before more : List Grid) (s : Statement) (array : Grid) → Stands types before → IsTypedStatement types s → FitsStatement inputs s → StandsFor inputs (before ++ more) s array → array ≡ statement_array inputs before s
StandsFor-unique inputs types before more (Input name elem shape) array h typed fit is = sym (ap (λ o. unwrap_or o (no_grid elem shape)) is)
StandsFor-unique inputs types before more (Let name value) array h typed fit is = IsArrayAt-unique types before more value array h typed.0 typed.1.no_literal is
StandsFor-unique inputs types before more (Output name value) array h typed fit is = IsArrayAt-unique types before more value array h typed.0 typed.1.no_literal is

StandsFor-statement_array : (inputs : Pairs) (types : List ArrayType) (before more : List Grid) (s : Statement) → Stands types before → IsTypedStatement types s → FitsStatement inputs s → StandsFor inputs (before ++ more) s (statement_array inputs before s)
StandsFor-statement_array inputs types before more (Input name elem shape) h typed fit =
    fit.found ∙ ap Some (ap (λ o. unwrap_or o (no_grid elem shape)) (sym fit.found))
StandsFor-statement_array inputs types before more (Let name value) h typed fit = IsArrayAt-array_of types before more value h typed.0 typed.1.no_literal
StandsFor-statement_array inputs types before more (Output name value) h typed fit = IsArrayAt-array_of types before more value h typed.0 typed.1.no_literal

-- ---- all statements

push_counted : {X Y : Type 0} (xs : List X) (ys : List Y) (x : X) (y : Y) → length xs ≡ length ys → length (xs ++ x ∷ []) ≡ length (ys ++ y ∷ [])
push_counted xs ys x y h = omega (arith, length-append xs (x ∷ []), length-append ys (y ∷ []))

meant_unique : (inputs : Pairs) (types : List ArrayType) (before rest full : List Grid) (program : List Statement) → full ≡ before ++ rest → length before ≡ length types → Stands types before → AreTyped types program → FitInputs program inputs
    → AllZip (StandsFor inputs full) program rest → full ≡ arrays_from inputs before program
meant_unique inputs types before [] full [] is counted h typed fit each = is ∙ append-nil before
meant_unique inputs types before (a ∷ rest) full [] is counted h typed fit each = absurd each
meant_unique inputs types before [] full (s ∷ program) is counted h typed fit each = absurd each
meant_unique inputs types before (a ∷ rest) full (s ∷ program) is counted h typed fit each =
    let here : StandsFor inputs (before ++ a ∷ rest) s a = subst (λ (all : List Grid). StandsFor inputs all s a) is each.0 in
    let same = StandsFor-unique inputs types before (a ∷ rest) s a h typed.0 fit.0 here in
    let b = statement_array inputs before s in
    let is' : full ≡ (before ++ b ∷ []) ++ rest = is ∙ ap (λ x. before ++ x ∷ rest) same ∙ sym (append_assoc before (b ∷ []) rest) in
    meant_unique inputs (types ++ declared_type s ∷ []) (before ++ b ∷ []) rest full program is' (push_counted before types b (declared_type s) counted)
    (Stands-push types before (declared_type s) b counted h (statement_array-IsArrayIn inputs types before s h typed.0 fit.0)) typed.1 fit.1 each.1

record Meant (inputs : Pairs) (before : List Grid) (program : List Statement) (full : List Grid) : Type 0 where
  rest : List Grid
  is : full ≡ before ++ rest
  each : AllZip (StandsFor inputs full) program rest

meant_there : (inputs : Pairs) (types : List ArrayType) (before : List Grid) (program : List Statement) → length before ≡ length types → Stands types before → AreTyped types program → FitInputs program inputs → Meant inputs before program (arrays_from inputs before program)
meant_there inputs types before [] counted h typed fit = record { rest = []; is = sym (append-nil before); each = tt }
meant_there inputs types before (s ∷ program) counted h typed fit =
    let a = statement_array inputs before s in
    let next = meant_there inputs (types ++ declared_type s ∷ []) (before ++ a ∷ []) program (push_counted before types a (declared_type s) counted)
    (Stands-push types before (declared_type s) a counted h (statement_array-IsArrayIn inputs types before s h typed.0 fit.0)) typed.1 fit.1 in
    let is : arrays_from inputs (before ++ a ∷ []) program ≡ before ++ a ∷ next.rest = next.is ∙ append_assoc before (a ∷ []) next.rest in
    record {
      rest = a ∷ next.rest;
      is = is;
      each = (subst (λ (all : List Grid). StandsFor inputs all s a) (sym is) (StandsFor-statement_array inputs types before (a ∷ next.rest) s h typed.0 fit.0), next.each);
    }

nothing_stands : Stands [] []
nothing_stands = record { counted = omega arith; each = λ k t d found. absurd (cc) }

pub has_one_meaning : HasOneMeaning
has_one_meaning program inputs arrays checked fit = (
  λ meant. meant_unique inputs [] [] arrays arrays program refl refl nothing_stands checked.typed fit meant,
  λ is.
      let there = meant_there inputs [] [] program refl nothing_stands checked.typed fit in
      subst (AreMeant program inputs) (sym is) (subst (λ (rest : List Grid). AllZip (StandsFor inputs (arrays_of inputs program)) program rest) (sym there.is) there.each),
)

-- ---- reductions

pub reduces_rows : ReducesRows
reduces_rows types arrays elem shape fold a h typed i j index =
    let operand = shape_of-IsExtent types a (Stands-AreShapes types arrays h) typed.0 typed.1.no_literal in
    folded-IsFolded fold elem (row_values (shape_of a).cols (expr_at arrays a i)) (omega (arith, row_values-length (shape_of a).cols (expr_at arrays a i), operand.some_cols))

pub reduces_arrays : ReducesArrays
reduces_arrays types arrays elem shape fold a h typed i j index =
    let operand = shape_of-IsExtent types a (Stands-AreShapes types arrays h) typed.0 typed.1.no_literal in
    folded-IsFolded fold elem (values_with (shape_of a) (expr_at arrays a)) (some_values (shape_of a) (expr_at arrays a) operand)
