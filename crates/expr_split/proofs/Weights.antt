-- How much all passes of a program weigh together, where each node of a tree weighs as much as its pass's domain.
use Rattle.std.proofs.Common.{◌≡◌, ℕ, ◌+◌, ◌-◌, ◌*◌, ◌≤◌, List, [], ◌∷◌, ◌++◌, length, get_or, refl, ap, ◌∙◌, arith, Bool, true, false, Some}
use Rattle.std.specs.Prelude.{slice_get}
use Rattle.std.specs.List.{sum_by}
use Rattle.std.proofs.lemmas.List.Sums.{sum_by-append, sum_by-cons}
use Rattle.std.proofs.Math.Nat.{mul-le-mul_left}
use Rattle.ven_base.specs.declared.elem.Elem.{Elem}
use Rattle.ven_base.specs.Extent.{Extent, IsExtent}
use Rattle.shape_check.specs.declared.typed.ArrayType.{ArrayType}
use Rattle.shape_check.specs.Node.{Node, Name, Literal, One, Two, Cast, Select, Map, RowFold, Fold, elem_of, shape_of}
use Rattle.shape_check.specs.Rules.{IsTyped}
use Rattle.shape_check.specs.Occurrences.{names_in}
use Rattle.shape_check.specs.Laws.{AreShapes}
use Rattle.shape_check.proofs.Typing.{shape_of-IsExtent}
use Rattle.pass_plan.specs.declared.leaf.Leaf.{Leaf}
use Rattle.pass_plan.specs.declared.pass.PassKind.TheVariants as kinds
use Rattle.pass_plan.specs.Tree as tree
use Rattle.pass_plan.specs.Tree.{TreeOver, AtLeaf}
use Rattle.pass_plan.specs.Normal.{normalised}
use Rattle.expr_split.specs.Cuts.{UnderMap, Inside, Place, is_reduction, is_cut, Draft, Own, Seen, draft_of, whole_leaf, seen_if, under, no_tree, as_row, own_of, seen_of}
use Rattle.expr_split.proofs.Expressions.{IsWhole, MapsStand, not_cut, map_operand}
use Rattle.expr_split.proofs.Counts.{normal-count, count-some, extra, extras, extras-append, less-one}

-- the weights of all nodes of an expression
abbrev pub full : (Extent → ℕ) → Node → ℕ
full w (Name elem shape k) = w shape
full w (Literal elem shape value) = w shape
full w (One elem shape op a) = w shape + full w a
full w (Two elem shape op a b) = w shape + full w a + full w b
full w (Cast elem shape a) = w shape + full w a
full w (Select elem shape c x y) = w shape + full w c + full w x + full w y
full w (Map elem shape mapping a) = w shape + full w a
full w (RowFold elem shape fold a) = w shape + full w a
full w (Fold elem shape fold a) = w shape + full w a

-- the weight of a pass, and of passes
abbrev pub draft_weight : (Extent → ℕ) → Draft → ℕ
draft_weight w d = w d.domain * (tree.nodes_of d.tree + 8)

abbrev pub drafts_weight : (Extent → ℕ) → List Draft → ℕ
drafts_weight w ds = sum_by (draft_weight w) ds

pub drafts_weight-append : (w : Extent → ℕ) (ds es : List Draft) → drafts_weight w (ds ++ es) ≡ drafts_weight w ds + drafts_weight w es
drafts_weight-append w ds es = sum_by-append (draft_weight w) ds es

one_weight : (w : Extent → ℕ) (d : Draft) → drafts_weight w (d ∷ []) ≡ draft_weight w d
one_weight w d = omega (arith, sum_by-cons (draft_weight w) d [])

-- a pass of a tree that was normalised
own_weight : (w : Extent → ℕ) (own : Own) → draft_weight w (draft_of own) ≤ 2 * (w own.domain * tree.nodes_of own.tree) + 8 * w own.domain
own_weight w own =
    let more : w own.domain * (tree.nodes_of (normalised own.elem own.tree) + 8) ≤ w own.domain * (2 * tree.nodes_of own.tree + 8) = mul-le-mul_left (w own.domain) (omega (arith, normal-count own.elem own.tree)) in
    omega arith

-- the second pass of a whole reduction
row_weight : (w : Extent → ℕ) (own : Own) (leaf : Leaf) → own.tree ≡ AtLeaf leaf → draft_weight w (draft_of own) ≡ 10 * w own.domain
row_weight w own leaf is = ap (λ t. w own.domain * (tree.nodes_of (normalised own.elem t) + 8)) is ∙ omega arith

-- what a node weighs: as a pass's root, and as an operand
record Weighs (w : Extent → ℕ) (weight : ℕ → ℕ) (names : List (TreeOver Leaf)) (e : Node) (own : Own) : Type 0 where
  inlined : is_reduction e ≡ false → drafts_weight w own.passes + 2 * (w (shape_of e) * tree.nodes_of own.tree) + 28 * w (shape_of e) ≤ 30 * full w e + 2 * extras weight names (names_in e)
  cut : drafts_weight w own.passes + draft_weight w (draft_of own) + 20 * w (shape_of e) ≤ 30 * full w e + 2 * extras weight names (names_in e)

pub record SeenWeighs (w : Extent → ℕ) (weight : ℕ → ℕ) (names : List (TreeOver Leaf)) (e : Node) (seen : Seen) : Type 0 where
  pub is : drafts_weight w seen.passes + 2 * (w (shape_of e) * tree.nodes_of seen.tree) + 18 * w (shape_of e) ≤ 30 * full w e + 2 * extras weight names (names_in e)

seen_weighs : (w : Extent → ℕ) (weight : ℕ → ℕ) (names : List (TreeOver Leaf)) (cut : Bool) (base : ℕ) (e : Node) (own : Own) → (cut ≡ false → is_reduction e ≡ false) → Weighs w weight names e own
    → SeenWeighs w weight names e (seen_if cut (elem_of e) (shape_of e) base own)
seen_weighs w weight names true base e own plain h = record { is = omega (arith, h.cut, drafts_weight-append w own.passes (draft_of own ∷ []), one_weight w (draft_of own)) }
seen_weighs w weight names false base e own plain h = record { is = omega (arith, h.inlined (plain refl)) }

operand_weighs : (w : Extent → ℕ) (weight : ℕ → ℕ) (names : List (TreeOver Leaf)) (place : Place) (base : ℕ) (e : Node) → Weighs w weight names e (own_of names base e) → SeenWeighs w weight names e (seen_of place names base e)
operand_weighs w weight names place base e h = seen_weighs w weight names (is_cut place e) base e (own_of names base e) (not_cut place e) h

-- a tree of the node's own shape
map_weighs : (w : Extent → ℕ) (weight : ℕ → ℕ) (names : List (TreeOver Leaf)) (e : Node) (own : Own) → own.domain ≡ shape_of e
    → drafts_weight w own.passes + 2 * (w (shape_of e) * tree.nodes_of own.tree) + 28 * w (shape_of e) ≤ 30 * full w e + 2 * extras weight names (names_in e) → Weighs w weight names e own
map_weighs w weight names e own same h = record {
  inlined = λ r. h;
  cut = let one = own_weight w own in let dom = ap w same in let prod = ap (λ s. w s * tree.nodes_of own.tree) same in omega arith;
}

whole-count : (elem : Elem) (shape : Extent) (t : TreeOver Leaf) → IsWhole elem shape t → tree.nodes_of t ≡ 1
whole-count elem shape t h = ap (λ (u : TreeOver Leaf). tree.nodes_of u) h.leaf

module _ (w : Extent → ℕ) (weight : ℕ → ℕ) (rows : (s : Extent) → IsExtent s → w (as_row s) ≤ w s) (types : List ArrayType) (names : List (TreeOver Leaf)) (shapes : AreShapes types)
    (known : (k : ℕ) (type : ArrayType) → slice_get types k ≡ Some type → weight k ≡ w type.shape) where
  abbrev X : Node → ℕ
  X e = extras weight names (names_in e)

  own_weighs : (base : ℕ) (e : Node) → IsTyped types e → MapsStand names e → Weighs w weight names e (own_of names base e)
  own_weighs base (Name elem shape k) typed maps =
      let n = tree.nodes_of (get_or names k no_tree) in
      let same = known k (record { elem = elem; shape = shape }) typed in
      let prod : weight k * (n - 1) ≡ w shape * (n - 1) = ap (λ v. v * (n - 1)) same in
      map_weighs w weight names (Name elem shape k) (own_of names base (Name elem shape k)) refl (omega (arith, less-one (w shape) n (count-some (get_or names k no_tree)), prod, sum_by-cons (extra weight names) k []))
  own_weighs base (Literal elem shape value) typed maps = map_weighs w weight names (Literal elem shape value) (own_of names base (Literal elem shape value)) refl (omega arith)
  own_weighs base (One elem shape op a) typed maps =
      let of = seen_of Inside names base a in
      let h = operand_weighs w weight names Inside base a (own_weighs base a typed.0 maps) in
      let same = ap w typed.1.shape_is in
      let prod = ap (λ s. w s * tree.nodes_of of.tree) typed.1.shape_is in
      map_weighs w weight names (One elem shape op a) (own_of names base (One elem shape op a)) refl (omega (arith, h.is))
  own_weighs base (Two elem shape op a b) typed maps =
      let left = seen_of Inside names base a in
      let next = base + length left.passes in
      let right = seen_of Inside names next b in
      let h = operand_weighs w weight names Inside base a (own_weighs base a typed.0 maps.0) in
      let g = operand_weighs w weight names Inside next b (own_weighs next b typed.1 maps.1) in
      let same = ap w typed.2.left.shape_is in
      let same' = ap w typed.2.right.shape_is in
      let prod = ap (λ s. w s * tree.nodes_of left.tree) typed.2.left.shape_is in
      let prod' = ap (λ s. w s * tree.nodes_of right.tree) typed.2.right.shape_is in
      map_weighs w weight names (Two elem shape op a b) (own_of names base (Two elem shape op a b)) refl
      (omega (arith, h.is, g.is, drafts_weight-append w left.passes right.passes, extras-append weight names (names_in a) (names_in b)))
  own_weighs base (Cast elem shape a) typed maps =
      let of = seen_of Inside names base a in
      let h = operand_weighs w weight names Inside base a (own_weighs base a typed.0 maps) in
      let same = ap w typed.1.shape_is in
      let prod = ap (λ s. w s * tree.nodes_of of.tree) typed.1.shape_is in
      map_weighs w weight names (Cast elem shape a) (own_of names base (Cast elem shape a)) refl (omega (arith, h.is))
  own_weighs base (Select elem shape c x y) typed maps =
      let first = seen_of Inside names base c in
      let next = base + length first.passes in
      let second = seen_of Inside names next x in
      let last = next + length second.passes in
      let third = seen_of Inside names last y in
      let h = operand_weighs w weight names Inside base c (own_weighs base c typed.0 maps.0) in
      let g = operand_weighs w weight names Inside next x (own_weighs next x typed.1 maps.1) in
      let k = operand_weighs w weight names Inside last y (own_weighs last y typed.2 maps.2) in
      let same = ap w typed.3.condition.shape_is in
      let same' = ap w typed.3.chosen.shape_is in
      let same'' = ap w typed.3.other.shape_is in
      let prod = ap (λ s. w s * tree.nodes_of first.tree) typed.3.condition.shape_is in
      let prod' = ap (λ s. w s * tree.nodes_of second.tree) typed.3.chosen.shape_is in
      let prod'' = ap (λ s. w s * tree.nodes_of third.tree) typed.3.other.shape_is in
      map_weighs w weight names (Select elem shape c x y) (own_of names base (Select elem shape c x y)) refl
      (omega (
        arith,
        h.is,
        g.is,
        k.is,
        drafts_weight-append w first.passes (second.passes ++ third.passes),
        drafts_weight-append w second.passes third.passes,
        extras-append weight names (names_in c) (names_in x ++ names_in y),
        extras-append weight names (names_in x) (names_in y),
      ))
  own_weighs base (Map elem shape mapping a) typed maps =
      let of = seen_of UnderMap names base a in
      let h = operand_weighs w weight names UnderMap base a (own_weighs base a typed.0 maps.1) in
      let whole = map_operand names base a maps.0 in
      let one : tree.nodes_of (under mapping of.tree) ≡ 1 = ap (λ t. tree.nodes_of (under mapping t)) whole.leaf in
      let prod : w shape * tree.nodes_of (under mapping of.tree) ≡ w shape * 1 = ap (λ n. w shape * n) one in
      map_weighs w weight names (Map elem shape mapping a) (own_of names base (Map elem shape mapping a)) refl (omega (arith, h.is))
  own_weighs base (RowFold elem shape fold a) typed maps =
      let h = operand_weighs w weight names Inside base a (own_weighs base a typed.0 maps) in
      let own = own_of names base (RowFold elem shape fold a) in
      record { inlined = λ r. absurd cc; cut = omega (arith, h.is, own_weight w own) }
  own_weighs base (Fold elem shape fold a) typed maps =
      let of = seen_of Inside names base a in
      let h = operand_weighs w weight names Inside base a (own_weighs base a typed.0 maps) in
      let own = own_of names base (Fold elem shape fold a) in
      let first : Own = record { passes = of.passes; kind = kinds.Reduce fold; domain = shape_of a; elem = elem; tree = of.tree } in
      let few = rows (shape_of a) (shape_of-IsExtent types a shapes typed.0 typed.1.no_literal) in
      record {
        inlined = λ r. absurd cc;
        cut = omega (
          arith,
          h.is,
          own_weight w first,
          row_weight w own (whole_leaf (base + length of.passes) elem (as_row (shape_of a))) refl,
          few,
          drafts_weight-append w of.passes (draft_of first ∷ []),
          one_weight w (draft_of first),
        );
      }

  pub expression_weighs : (place : Place) (base : ℕ) (e : Node) → IsTyped types e → MapsStand names e → SeenWeighs w weight names e (seen_of place names base e)
  expression_weighs place base e typed maps = operand_weighs w weight names place base e (own_weighs base e typed maps)
