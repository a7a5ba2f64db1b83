-- How large the trees of one expression's passes are.
use Rattle.std.proofs.Common.{◌≡◌, ℕ, zero, suc, ◌+◌, ◌-◌, ◌*◌, ◌≤◌, List, [], ◌∷◌, ◌++◌, length, get_or, refl, ap, arith, length-append, Bool, true, false, All}
use Rattle.std.specs.List.{sum_by}
use Rattle.std.proofs.lemmas.List.Sums.{sum_by-append, sum_by-cons}
use Rattle.std.proofs.lemmas.List.Elements.{All-nil, All-cons, All-append}
use Rattle.ven_base.specs.declared.elem.Elem.{Elem}
use Rattle.ven_base.specs.declared.ops.Fold as ops
use Rattle.ven_base.specs.declared.mapping.Mapping.{Mapping}
use Rattle.ven_base.specs.Extent.{Extent}
use Rattle.shape_check.specs.Node.{Node, Name, Literal, One, Two, Cast, Select, Map, RowFold, Fold, elem_of, shape_of}
use Rattle.shape_check.specs.Occurrences.{names_in}
use Rattle.shape_check.specs.Checked.{nodes_of}
use Rattle.pass_plan.specs.declared.leaf.Leaf.{Leaf}
use Rattle.pass_plan.specs.declared.pass.PassKind.TheVariants as kinds
use Rattle.pass_plan.specs.Tree as tree
use Rattle.pass_plan.specs.Tree.{TreeOver, AtLeaf}
use Rattle.pass_plan.specs.Normal.{is_comparison, condition_if, as_computed, with_selects, as_root, normalised}
use Rattle.expr_split.specs.Cuts.{UnderMap, Inside, Place, is_cut, Draft, Own, draft_of, seen_if, under, no_tree, own_of, seen_of}

-- ---- normalising

pub condition-count : {L : Type 0} (b : Bool) (elem : Elem) (t : TreeOver L) → tree.nodes_of (condition_if b elem t) ≤ tree.nodes_of t + 2
condition-count true elem t = omega arith
condition-count false elem t = omega arith

pub as_computed-count : {L : Type 0} (elem : Elem) (t : TreeOver L) → tree.nodes_of (as_computed elem t) ≤ tree.nodes_of t + 1
as_computed-count elem (AtLeaf l) = omega arith
as_computed-count elem (tree.Literal n) = omega arith
as_computed-count elem (tree.One op e a) = omega arith
as_computed-count elem (tree.Two op e a b) = omega arith
as_computed-count elem (tree.Cast e from a) = omega arith
as_computed-count elem (tree.Move e a) = omega arith
as_computed-count elem (tree.Select e c x y) = omega arith

selects-count : {L : Type 0} (t : TreeOver L) → tree.nodes_of (with_selects t) + 1 ≤ 2 * tree.nodes_of t
selects-count (AtLeaf l) = omega arith
selects-count (tree.Literal n) = omega arith
selects-count (tree.One op elem a) = omega (arith, selects-count a)
selects-count (tree.Two op elem a b) = omega (arith, selects-count a, selects-count b)
selects-count (tree.Cast elem from a) = omega (arith, selects-count a)
selects-count (tree.Move elem a) = omega (arith, selects-count a)
selects-count (tree.Select elem c x y) =
    omega (arith, selects-count c, selects-count x, selects-count y, condition-count (is_comparison (with_selects c)) elem (with_selects c), as_computed-count elem (with_selects y))

pub as_root-count : {L : Type 0} (elem : Elem) (t : TreeOver L) → tree.nodes_of (as_root elem t) ≤ tree.nodes_of t + 1
as_root-count elem (AtLeaf l) = omega arith
as_root-count elem (tree.Literal n) = omega arith
as_root-count elem (tree.One op e a) = omega arith
as_root-count elem (tree.Two op e a b) = omega arith
as_root-count elem (tree.Cast e from a) = omega arith
as_root-count elem (tree.Move e a) = omega arith
as_root-count elem (tree.Select e c x y) = omega arith

-- normalising at most doubles a tree
pub normal-count : {L : Type 0} (elem : Elem) (t : TreeOver L) → tree.nodes_of (normalised elem t) ≤ 2 * tree.nodes_of t
normal-count elem t = omega (arith, as_root-count elem (with_selects t), selects-count t)

pub count-some : {L : Type 0} (t : TreeOver L) → 1 ≤ tree.nodes_of t
count-some (AtLeaf l) = omega arith
count-some (tree.Literal n) = omega arith
count-some (tree.One op elem a) = omega arith
count-some (tree.Two op elem a b) = omega arith
count-some (tree.Cast elem from a) = omega arith
count-some (tree.Move elem a) = omega arith
count-some (tree.Select elem c x y) = omega arith

-- ---- how many passes there are

seen-passes : (cut : Bool) (elem : Elem) (shape : Extent) (base n : ℕ) (own : Own) → length own.passes + 1 ≤ n → length (seen_if cut elem shape base own).passes ≤ n
seen-passes true elem shape base n own h = omega (arith, h, length-append own.passes (draft_of own ∷ []))
seen-passes false elem shape base n own h = omega (arith, h)

own-passes : (names : List (TreeOver Leaf)) (base : ℕ) (e : Node) → length (own_of names base e).passes + 1 ≤ 2 * nodes_of e
own-passes names base (Name elem shape k) = omega arith
own-passes names base (Literal elem shape value) = omega arith
own-passes names base (One elem shape op a) =
    omega (arith, seen-passes (is_cut Inside a) (elem_of a) (shape_of a) base (2 * nodes_of a) (own_of names base a) (own-passes names base a))
own-passes names base (Two elem shape op a b) =
    let left = seen_of Inside names base a in
    let next = base + length left.passes in
    let right = seen_of Inside names next b in
    omega (
      arith,
      seen-passes (is_cut Inside a) (elem_of a) (shape_of a) base (2 * nodes_of a) (own_of names base a) (own-passes names base a),
      seen-passes (is_cut Inside b) (elem_of b) (shape_of b) next (2 * nodes_of b) (own_of names next b) (own-passes names next b),
      length-append left.passes right.passes,
    )
own-passes names base (Cast elem shape a) =
    omega (arith, seen-passes (is_cut Inside a) (elem_of a) (shape_of a) base (2 * nodes_of a) (own_of names base a) (own-passes names base a))
own-passes names base (Select elem shape c x y) =
    let first = seen_of Inside names base c in
    let next = base + length first.passes in
    let second = seen_of Inside names next x in
    let last = next + length second.passes in
    let third = seen_of Inside names last y in
    omega (
      arith,
      seen-passes (is_cut Inside c) (elem_of c) (shape_of c) base (2 * nodes_of c) (own_of names base c) (own-passes names base c),
      seen-passes (is_cut Inside x) (elem_of x) (shape_of x) next (2 * nodes_of x) (own_of names next x) (own-passes names next x),
      seen-passes (is_cut Inside y) (elem_of y) (shape_of y) last (2 * nodes_of y) (own_of names last y) (own-passes names last y),
      length-append first.passes (second.passes ++ third.passes),
      length-append second.passes third.passes,
    )
own-passes names base (Map elem shape mapping a) =
    omega (arith, seen-passes (is_cut UnderMap a) (elem_of a) (shape_of a) base (2 * nodes_of a) (own_of names base a) (own-passes names base a))
own-passes names base (RowFold elem shape fold a) =
    omega (arith, seen-passes (is_cut Inside a) (elem_of a) (shape_of a) base (2 * nodes_of a) (own_of names base a) (own-passes names base a))
own-passes names base (Fold elem shape fold a) =
    let of = seen_of Inside names base a in
    omega (arith, seen-passes (is_cut Inside a) (elem_of a) (shape_of a) base (2 * nodes_of a) (own_of names base a) (own-passes names base a), length-append of.passes (rows_draft names base elem fold a ∷ []))
  where
    rows_draft : List (TreeOver Leaf) → ℕ → Elem → ops.Fold → Node → Draft
    rows_draft names base elem fold a = draft_of (record { passes = (seen_of Inside names base a).passes; kind = kinds.Reduce fold; domain = shape_of a; elem = elem; tree = (seen_of Inside names base a).tree })

-- at most two for each node
pub passes-few : (place : Place) (names : List (TreeOver Leaf)) (base : ℕ) (e : Node) → length (seen_of place names base e).passes ≤ 2 * nodes_of e
passes-few place names base e = seen-passes (is_cut place e) (elem_of e) (shape_of e) base (2 * nodes_of e) (own_of names base e) (own-passes names base e)

-- ---- what names add

-- what a name's tree has beyond a leaf, by the weight of the name; and that of all names that occur
abbrev pub extra : (ℕ → ℕ) → List (TreeOver Leaf) → ℕ → ℕ
extra weight names k = weight k * (tree.nodes_of (get_or names k no_tree) - 1)

abbrev pub extras : (ℕ → ℕ) → List (TreeOver Leaf) → List ℕ → ℕ
extras weight names ks = sum_by (extra weight names) ks

pub extras-append : (weight : ℕ → ℕ) (names : List (TreeOver Leaf)) (ks js : List ℕ) → extras weight names (ks ++ js) ≡ extras weight names ks + extras weight names js
extras-append weight names ks js = sum_by-append (extra weight names) ks js

pub less-one : (w n : ℕ) → 1 ≤ n → w * n ≡ w + w * (n - 1)
less-one w zero h = absurd (omega arith)
less-one w (suc n) h = let same : suc n - 1 ≡ n = omega arith in omega (arith, ap (λ m. w * m) same)

-- ---- each tree alone

-- the node's own tree and its passes' trees are small, where the expression and what its names add are
record HasSmallTrees (names : List (TreeOver Leaf)) (most : ℕ) (e : Node) (own : Own) : Type 0 where
  here : tree.nodes_of own.tree ≤ nodes_of e + extras (λ k. 1) names (names_in e)
  below : All (λ (d : Draft). tree.nodes_of d.tree ≤ 2 * most) own.passes

abbrev pub Small : ℕ → Draft → Type 0
Small most d = tree.nodes_of d.tree ≤ 2 * most

seen-small : (cut : Bool) (elem : Elem) (shape : Extent) (base most n : ℕ) (own : Own) → 1 ≤ n → n ≤ most → tree.nodes_of own.tree ≤ n → All (Small most) own.passes
    → (tree.nodes_of (seen_if cut elem shape base own).tree ≤ n) × All (Small most) (seen_if cut elem shape base own).passes
seen-small true elem shape base most n own some low here below =
    (some, All-append (Small most) own.passes (draft_of own ∷ []) below (All-cons (Small most) (draft_of own) [] (omega (arith, normal-count own.elem own.tree)) (All-nil (Small most))))
seen-small false elem shape base most n own some low here below = (here, below)

under-count : (mapping : Mapping) (t : TreeOver Leaf) → tree.nodes_of (under mapping t) ≡ tree.nodes_of t
under-count mapping (AtLeaf l) = refl
under-count mapping (tree.Literal n) = refl
under-count mapping (tree.One op elem a) = refl
under-count mapping (tree.Two op elem a b) = refl
under-count mapping (tree.Cast elem from a) = refl
under-count mapping (tree.Move elem a) = refl
under-count mapping (tree.Select elem c x y) = refl

pub nodes-some : (e : Node) → 1 ≤ nodes_of e
nodes-some (Name elem shape k) = omega arith
nodes-some (Literal elem shape value) = omega arith
nodes-some (One elem shape op a) = omega arith
nodes-some (Two elem shape op a b) = omega arith
nodes-some (Cast elem shape a) = omega arith
nodes-some (Select elem shape c x y) = omega arith
nodes-some (Map elem shape mapping a) = omega arith
nodes-some (RowFold elem shape fold a) = omega arith
nodes-some (Fold elem shape fold a) = omega arith

module _ (names : List (TreeOver Leaf)) (most : ℕ) where
  abbrev added : Node → ℕ
  added e = extras (λ k. 1) names (names_in e)

  -- an operand, from the node's own
  operand-small : (place : Place) (base : ℕ) (e : Node) → nodes_of e + added e ≤ most → HasSmallTrees names most e (own_of names base e)
      → (tree.nodes_of (seen_of place names base e).tree ≤ nodes_of e + added e) × All (Small most) (seen_of place names base e).passes
  operand-small place base e low h =
      seen-small (is_cut place e) (elem_of e) (shape_of e) base most (nodes_of e + added e) (own_of names base e) (omega (arith, nodes-some e)) low h.here h.below

  own-small : (base : ℕ) (e : Node) → nodes_of e + added e ≤ most → HasSmallTrees names most e (own_of names base e)
  own-small base (Name elem shape k) low =
      record { here = omega (arith, count-some (get_or names k no_tree), sum_by-cons (extra (λ k. 1) names) k []); below = All-nil (Small most) }
  own-small base (Literal elem shape value) low = record { here = omega arith; below = All-nil (Small most) }
  own-small base (One elem shape op a) low =
      let h = operand-small Inside base a (omega (arith, low)) (own-small base a (omega (arith, low))) in
      record { here = omega (arith, h.0); below = h.1 }
  own-small base (Two elem shape op a b) low =
      let both = extras-append (λ k. 1) names (names_in a) (names_in b) in
      let left = seen_of Inside names base a in
      let next = base + length left.passes in
      let right = seen_of Inside names next b in
      let h = operand-small Inside base a (omega (arith, low, both)) (own-small base a (omega (arith, low, both))) in
      let g = operand-small Inside next b (omega (arith, low, both)) (own-small next b (omega (arith, low, both))) in
      record { here = omega (arith, h.0, g.0, both); below = All-append (Small most) left.passes right.passes h.1 g.1 }
  own-small base (Cast elem shape a) low =
      let h = operand-small Inside base a (omega (arith, low)) (own-small base a (omega (arith, low))) in
      record { here = omega (arith, h.0); below = h.1 }
  own-small base (Select elem shape c x y) low =
      let all = extras-append (λ k. 1) names (names_in c) (names_in x ++ names_in y) in
      let both = extras-append (λ k. 1) names (names_in x) (names_in y) in
      let first = seen_of Inside names base c in
      let next = base + length first.passes in
      let second = seen_of Inside names next x in
      let last = next + length second.passes in
      let third = seen_of Inside names last y in
      let h = operand-small Inside base c (omega (arith, low, all)) (own-small base c (omega (arith, low, all))) in
      let g = operand-small Inside next x (omega (arith, low, all, both)) (own-small next x (omega (arith, low, all, both))) in
      let k = operand-small Inside last y (omega (arith, low, all, both)) (own-small last y (omega (arith, low, all, both))) in
      record {
        here = omega (arith, h.0, g.0, k.0, all, both);
        below = All-append (Small most) first.passes (second.passes ++ third.passes) h.1 (All-append (Small most) second.passes third.passes g.1 k.1);
      }
  own-small base (Map elem shape mapping a) low =
      let of = seen_of UnderMap names base a in
      let h = operand-small UnderMap base a (omega (arith, low)) (own-small base a (omega (arith, low))) in
      record { here = omega (arith, h.0, under-count mapping of.tree); below = h.1 }
  own-small base (RowFold elem shape fold a) low =
      let h = operand-small Inside base a (omega (arith, low)) (own-small base a (omega (arith, low))) in
      record { here = omega (arith, h.0); below = h.1 }
  own-small base (Fold elem shape fold a) low =
      let of = seen_of Inside names base a in
      let h = operand-small Inside base a (omega (arith, low)) (own-small base a (omega (arith, low))) in
      let d : Draft = record { kind = kinds.Reduce fold; domain = shape_of a; elem = elem; tree = normalised elem of.tree } in
      record {
        here = omega (arith, nodes-some a);
        below = All-append (Small most) of.passes (d ∷ []) h.1 (All-cons (Small most) d [] (omega (arith, h.0, normal-count elem of.tree, low)) (All-nil (Small most)));
      }

  -- where an expression and what its names add have at most so many nodes, its trees have at most twice as many
  pub trees-small : (place : Place) (base : ℕ) (e : Node) → nodes_of e + added e ≤ most
      → (tree.nodes_of (seen_of place names base e).tree ≤ nodes_of e + added e) × All (Small most) (seen_of place names base e).passes
  trees-small place base e low = operand-small place base e low (own-small base e low)
