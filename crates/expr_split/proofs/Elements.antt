-- How many elements all arrays of a program have together.
use Rattle.std.proofs.Common.{◌≡◌, ℕ, ◌+◌, ◌*◌, ◌≤◌, List, [], ◌∷◌, ◌++◌, length, refl, sym, ap, arith, Bool, true, false}
use Rattle.std.specs.List.{sum_by}
use Rattle.std.proofs.lemmas.List.Sums.{sum_by-append, sum_by-cons}
use Rattle.std.proofs.lemmas.Nat.{mul-le}
use Rattle.ven_base.specs.declared.elem.Elem.{Elem}
use Rattle.ven_base.specs.Extent.{Extent, IsExtent, elements_of}
use Rattle.shape_check.specs.declared.typed.ArrayType.{ArrayType}
use Rattle.shape_check.specs.Node.{Node, Name, Literal, One, Two, Cast, Select, Map, RowFold, Fold, elem_of, shape_of, is_literal}
use Rattle.shape_check.specs.Rules.{IsTyped}
use Rattle.shape_check.specs.Checked.{nodes_of, node_work}
use Rattle.shape_check.specs.Laws.{AreShapes}
use Rattle.shape_check.proofs.Typing.{shape_of-IsExtent}
use Rattle.pass_plan.specs.declared.leaf.Leaf.{Leaf}
use Rattle.pass_plan.specs.declared.pass.PassKind.TheVariants as kinds
use Rattle.pass_plan.specs.Tree.{TreeOver}
use Rattle.pass_plan.specs.Pass.{result_of}
use Rattle.expr_split.specs.Cuts.{UnderMap, Inside, Place, is_cut, Draft, Own, draft_of, seen_if, own_of, seen_of}

-- how many elements a pass makes, and passes
abbrev pub draft_elements : Draft → ℕ
draft_elements d = elements_of (result_of d.kind d.domain)

abbrev pub made : List Draft → ℕ
made ds = sum_by draft_elements ds

pub made-append : (ds es : List Draft) → made (ds ++ es) ≡ made ds + made es
made-append ds es = sum_by-append draft_elements ds es

made-one : (d : Draft) → made (d ∷ []) ≡ draft_elements d
made-one d = omega (arith, sum_by-cons draft_elements d [])

pub rows-within : (s : Extent) → IsExtent s → s.rows ≤ elements_of s
rows-within s h = let all = mul-le s.rows 1 s.rows s.cols (omega arith) h.some_cols in omega arith

abbrev area : Node → ℕ
area e = elements_of (shape_of e)

abbrev height : Node → ℕ
height e = (shape_of e).rows

-- a node's pass makes its array
own-area : (types : List ArrayType) (names : List (TreeOver Leaf)) (base : ℕ) (e : Node) → IsTyped types e → draft_elements (draft_of (own_of names base e)) ≡ area e
own-area types names base (Name elem shape k) typed = refl
own-area types names base (Literal elem shape value) typed = refl
own-area types names base (One elem shape op a) typed = refl
own-area types names base (Two elem shape op a b) typed = refl
own-area types names base (Cast elem shape a) typed = refl
own-area types names base (Select elem shape c x y) typed = refl
own-area types names base (Map elem shape mapping a) typed = refl
own-area types names base (RowFold elem shape fold a) typed = ap elements_of (sym typed.1.shape_is)
own-area types names base (Fold elem shape fold a) typed = ap elements_of (sym typed.1.shape_is)

-- an operand makes at most its own array beside those below it
seen-made : (cut : Bool) (elem : Elem) (shape : Extent) (base n : ℕ) (own : Own) → draft_elements (draft_of own) ≡ n → made (seen_if cut elem shape base own).passes ≤ made own.passes + n
seen-made true elem shape base n own h = omega (arith, made-append own.passes (draft_of own ∷ []), made-one (draft_of own))
seen-made false elem shape base n own h = omega arith

seen-plain : (elem : Elem) (shape : Extent) (base : ℕ) (cut : Bool) (own : Own) → cut ≡ false → made (seen_if cut elem shape base own).passes ≡ made own.passes
seen-plain elem shape base true own h = absurd cc
seen-plain elem shape base false own h = refl

-- what is charged to a node: for its own array three elements for two, and one for each node
record Charged (e : Node) (below seen : ℕ) : Type 0 where
  own : is_literal e ≡ false → 2 * below + 2 * area e ≤ 3 * node_work e + nodes_of e
  operand : 2 * seen ≤ 3 * node_work e + nodes_of e
  row : is_literal e ≡ false → 2 * seen + height e ≤ 3 * node_work e + nodes_of e + 3
  rows : is_literal e ≡ false → 2 * seen + 2 * height e ≤ 3 * node_work e + nodes_of e + 2

plain : (e : Node) (below seen : ℕ) → is_literal e ≡ false → seen ≡ below → height e ≤ area e → 2 * below + 2 * area e ≤ 3 * node_work e + nodes_of e → Charged e below seen
plain e below seen array same low h = record { own = λ l. h; operand = omega arith; row = λ l. omega arith; rows = λ l. omega arith }

module _ (types : List ArrayType) (names : List (TreeOver Leaf)) (shapes : AreShapes types) where
  abbrev below : ℕ → Node → ℕ
  below base e = made (own_of names base e).passes

  abbrev seen : ℕ → Node → ℕ
  seen base e = made (seen_of Inside names base e).passes

  low_rows : (e : Node) → IsTyped types e → is_literal e ≡ false → height e ≤ area e
  low_rows e typed array = rows-within (shape_of e) (shape_of-IsExtent types e shapes typed array)

  inside : (base : ℕ) (e : Node) → IsTyped types e → seen base e ≤ below base e + area e
  inside base e typed = seen-made (is_cut Inside e) (elem_of e) (shape_of e) base (area e) (own_of names base e) (own-area types names base e typed)

  mapped : (base : ℕ) (e : Node) → IsTyped types e → is_literal e ≡ false → Charged e (below base e) (seen base e) → 2 * made (seen_of UnderMap names base e).passes ≤ 3 * node_work e + nodes_of e
  mapped base e typed array h =
      let one = seen-made (is_cut UnderMap e) (elem_of e) (shape_of e) base (area e) (own_of names base e) (own-area types names base e typed) in
      let two = h.own array in
      omega arith

  charged : (base : ℕ) (e : Node) → IsTyped types e → Charged e (below base e) (seen base e)
  charged base (Name elem shape k) typed = let low = low_rows (Name elem shape k) typed refl in plain (Name elem shape k) 0 0 refl refl low (omega arith)
  charged base (Literal elem shape value) typed = record { own = λ l. absurd cc; operand = omega arith; row = λ l. absurd cc; rows = λ l. absurd cc }
  charged base (One elem shape op a) typed =
      let h = charged base a typed.0 in
      let e = One elem shape op a in
      plain e (below base e) (seen base e) refl refl (low_rows e typed refl) (omega (arith, h.operand))
  charged base (Two elem shape op a b) typed =
      let left = seen_of Inside names base a in
      let next = base + length left.passes in
      let right = seen_of Inside names next b in
      let h = charged base a typed.0 in
      let g = charged next b typed.1 in
      let e = Two elem shape op a b in
      plain e (below base e) (seen base e) refl refl (low_rows e typed refl) (omega (arith, h.operand, g.operand, made-append left.passes right.passes))
  charged base (Cast elem shape a) typed =
      let h = charged base a typed.0 in
      let e = Cast elem shape a in
      plain e (below base e) (seen base e) refl refl (low_rows e typed refl) (omega (arith, h.operand))
  charged base (Select elem shape c x y) typed =
      let first = seen_of Inside names base c in
      let next = base + length first.passes in
      let second = seen_of Inside names next x in
      let last = next + length second.passes in
      let third = seen_of Inside names last y in
      let h = charged base c typed.0 in
      let g = charged next x typed.1 in
      let k = charged last y typed.2 in
      let e = Select elem shape c x y in
      plain e (below base e) (seen base e) refl refl (low_rows e typed refl)
      (omega (arith, h.operand, g.operand, k.operand, made-append first.passes (second.passes ++ third.passes), made-append second.passes third.passes))
  charged base (Map elem shape mapping a) typed =
      let h = mapped base a typed.0 typed.1.no_literal (charged base a typed.0) in
      let e = Map elem shape mapping a in
      plain e (below base e) (seen base e) refl refl (low_rows e typed refl) (omega (arith, h))
  charged base (RowFold elem shape fold a) typed =
      let h = charged base a typed.0 in
      let row = h.row typed.1.no_literal in
      let e = RowFold elem shape fold a in
      let one = inside base e typed in
      let size : elements_of shape ≡ (shape_of a).rows * 1 = ap elements_of typed.1.shape_is in
      let tall : shape.rows ≡ (shape_of a).rows = ap (λ s. s.rows) typed.1.shape_is in
      record { own = λ l. omega (arith, h.operand); operand = omega (arith, h.operand); row = λ l. omega (arith, h.operand); rows = λ l. omega arith }
  charged base (Fold elem shape fold a) typed =
      let of = seen_of Inside names base a in
      let h = charged base a typed.0 in
      let two = h.rows typed.1.no_literal in
      let e = Fold elem shape fold a in
      let one = inside base e typed in
      let size : elements_of shape ≡ 1 * 1 = ap elements_of typed.1.shape_is in
      let tall : shape.rows ≡ 1 = ap (λ s. s.rows) typed.1.shape_is in
      let first : Own = record { passes = of.passes; kind = kinds.Reduce fold; domain = shape_of a; elem = elem; tree = of.tree } in
      let all = made-append of.passes (draft_of first ∷ []) in
      let column = made-one (draft_of first) in
      record { own = λ l. omega arith; operand = omega arith; row = λ l. omega arith; rows = λ l. omega arith }

  -- an expression's passes make at most three elements for two of its work, and one more for two nodes
  pub expression-made : (place : Place) (base : ℕ) (e : Node) → IsTyped types e → is_literal e ≡ false → 2 * made (seen_of place names base e).passes ≤ 3 * node_work e + nodes_of e
  expression-made place base e typed array =
      let one = seen-made (is_cut place e) (elem_of e) (shape_of e) base (area e) (own_of names base e) (own-area types names base e typed) in
      let two = (charged base e typed).own array in
      omega arith
