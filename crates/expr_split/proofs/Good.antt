-- The trees and passes of checked programs have types that agree, and leaves that fit.
use Rattle.std.proofs.Common.{◌≡◌, ℕ, zero, suc, ◌+◌, ◌≤◌, List, [], ◌∷◌, ◌++◌, length, get_or, refl, sym, ap, ◌∙◌, subst, arith, append_assoc, length-append, Bool, true, false, Some, inl, inr}
use Rattle.std.specs.Prelude.{ℤ, slice_get, map, ◌&&◌, ◌⊎◌}
use Rattle.std.proofs.lemmas.List.{append-nil, length-map, map-append}
use Rattle.std.proofs.lemmas.Option.{get_or_from_slice_get}
use Rattle.ven_base.specs.declared.elem.Elem.{Elem}
use Rattle.ven_base.specs.Elem.{IsElement}
use Rattle.ven_base.specs.Extent.{Extent, IsExtent, elements_of}
use Rattle.ven_base.specs.Mapping.{FitsShape, result_shape, fill_of}
use Rattle.ven_base.proofs.Operations.{IsElement-one_or_zero}
use Rattle.shape_check.specs.declared.typed.ArrayType.{ArrayType}
use Rattle.shape_check.specs.Node.{Node, Name, Literal, One, Two, Cast, Select, Map, RowFold, Fold, elem_of, shape_of, is_literal}
use Rattle.shape_check.specs.Rules.{IsTyped, type_of}
use Rattle.shape_check.specs.Laws.{AreShapes}
use Rattle.shape_check.proofs.Typing.{shape_of-IsExtent}
use Rattle.pass_plan.specs.declared.leaf.Leaf.{Leaf}
use Rattle.pass_plan.specs.declared.pass.PassKind.{PassKind}
use Rattle.pass_plan.specs.declared.pass.PassKind.TheVariants as kinds
use Rattle.pass_plan.specs.Tree as tree
use Rattle.pass_plan.specs.Tree.{TreeOver, AtLeaf, is_computed, leaves_of, TypesAgree}
use Rattle.pass_plan.specs.Normal.{is_comparison, HasNormalSelects, IsNormal, condition_if, as_computed, with_selects, as_root, normalised}
use Rattle.expr_split.specs.Cuts.{UnderMap, Inside, Place, is_reduction, is_cut, Draft, Own, Seen, draft_of, whole_leaf, seen_if, under, no_tree, as_row, map_own, own_of, seen_of}
use Rattle.expr_split.specs.Places.{draft_type}
use Rattle.expr_split.proofs.Elements.{rows-within}
use Rattle.expr_split.proofs.Expressions.{MapsStand, not_cut, map_operand}

-- ---- normalising

computed-computed : {L : Type 0} (elem : Elem) (t : TreeOver L) → is_computed (as_computed elem t) ≡ true
computed-computed elem (AtLeaf l) = refl
computed-computed elem (tree.Literal n) = refl
computed-computed elem (tree.One op e a) = refl
computed-computed elem (tree.Two op e a b) = refl
computed-computed elem (tree.Cast e from a) = refl
computed-computed elem (tree.Move e a) = refl
computed-computed elem (tree.Select e c x y) = refl

computed-selects : {L : Type 0} (elem : Elem) (t : TreeOver L) → HasNormalSelects t → HasNormalSelects (as_computed elem t)
computed-selects elem (AtLeaf l) h = tt
computed-selects elem (tree.Literal n) h = tt
computed-selects elem (tree.One op e a) h = h
computed-selects elem (tree.Two op e a b) h = h
computed-selects elem (tree.Cast e from a) h = h
computed-selects elem (tree.Move e a) h = h
computed-selects elem (tree.Select e c x y) h = h

condition-compares : {L : Type 0} (b : Bool) (elem : Elem) (t : TreeOver L) → is_comparison t ≡ b → is_comparison (condition_if b elem t) ≡ true
condition-compares true elem t h = h
condition-compares false elem t h = refl

condition-selects : {L : Type 0} (b : Bool) (elem : Elem) (t : TreeOver L) → HasNormalSelects t → HasNormalSelects (condition_if b elem t)
condition-selects true elem t h = h
condition-selects false elem t h = (h, tt)

selects-normal : {L : Type 0} (t : TreeOver L) → HasNormalSelects (with_selects t)
selects-normal (AtLeaf l) = tt
selects-normal (tree.Literal n) = tt
selects-normal (tree.One op elem a) = selects-normal a
selects-normal (tree.Two op elem a b) = (selects-normal a, selects-normal b)
selects-normal (tree.Cast elem from a) = selects-normal a
selects-normal (tree.Move elem a) = selects-normal a
selects-normal (tree.Select elem c x y) = (
  condition-compares (is_comparison (with_selects c)) elem (with_selects c) refl,
  computed-computed elem (with_selects y),
  condition-selects (is_comparison (with_selects c)) elem (with_selects c) (selects-normal c),
  selects-normal x,
  computed-selects elem (with_selects y) (selects-normal y),
)

root-normal : {L : Type 0} (elem : Elem) (t : TreeOver L) → HasNormalSelects t → IsNormal (as_root elem t)
root-normal elem (AtLeaf l) h = record { selects = tt; root = refl; no_select = refl }
root-normal elem (tree.Literal n) h = record { selects = tt; root = refl; no_select = refl }
root-normal elem (tree.One op e a) h = record { selects = h; root = refl; no_select = refl }
root-normal elem (tree.Two op e a b) h = record { selects = h; root = refl; no_select = refl }
root-normal elem (tree.Cast e from a) h = record { selects = h; root = refl; no_select = refl }
root-normal elem (tree.Move e a) h = record { selects = h; root = refl; no_select = refl }
root-normal elem (tree.Select e c x y) h = record { selects = h; root = refl; no_select = refl }

pub normalised-normal : {L : Type 0} (elem : Elem) (t : TreeOver L) → IsNormal (normalised elem t)
normalised-normal elem t = root-normal elem (with_selects t) (selects-normal t)

-- ---- types

pub types-weaker : {L : Type 0} (t : TreeOver L) (Of Of' : L → Elem → Type 0) (Number : ℤ → Elem → Type 0) (asked : Elem) → ((l : L) (e : Elem) → Of l e → Of' l e) → TypesAgree t Of Number asked → TypesAgree t Of' Number asked
types-weaker (AtLeaf l) Of Of' Number asked f h = f l asked h
types-weaker (tree.Literal n) Of Of' Number asked f h = h
types-weaker (tree.One op elem a) Of Of' Number asked f h = (h.0, types-weaker a Of Of' Number elem f h.1)
types-weaker (tree.Two op elem a b) Of Of' Number asked f h = (h.0, types-weaker a Of Of' Number elem f h.1, types-weaker b Of Of' Number elem f h.2)
types-weaker (tree.Cast elem from a) Of Of' Number asked f h = (h.0, types-weaker a Of Of' Number from f h.1)
types-weaker (tree.Move elem a) Of Of' Number asked f h = (h.0, types-weaker a Of Of' Number elem f h.1)
types-weaker (tree.Select elem c x y) Of Of' Number asked f h = (h.0, types-weaker c Of Of' Number elem f h.1, types-weaker x Of Of' Number elem f h.2, types-weaker y Of Of' Number elem f h.3)

module _ {L : Type 0} (Of : L → Elem → Type 0) where
  abbrev Agree : TreeOver L → Elem → Type 0
  Agree t asked = TypesAgree t Of (λ n of. IsElement of n) asked

  condition-types : (b : Bool) (elem : Elem) (t : TreeOver L) → Agree t elem → Agree (condition_if b elem t) elem
  condition-types true elem t h = h
  condition-types false elem t h = (refl, h, IsElement-one_or_zero elem false)

  computed-types : (elem : Elem) (t : TreeOver L) → Agree t elem → Agree (as_computed elem t) elem
  computed-types elem (AtLeaf l) h = (refl, h)
  computed-types elem (tree.Literal n) h = (refl, h)
  computed-types elem (tree.One op e a) h = h
  computed-types elem (tree.Two op e a b) h = h
  computed-types elem (tree.Cast e from a) h = h
  computed-types elem (tree.Move e a) h = h
  computed-types elem (tree.Select e c x y) h = h

  selects-types : (t : TreeOver L) (asked : Elem) → Agree t asked → Agree (with_selects t) asked
  selects-types (AtLeaf l) asked h = h
  selects-types (tree.Literal n) asked h = h
  selects-types (tree.One op elem a) asked h = (h.0, selects-types a elem h.1)
  selects-types (tree.Two op elem a b) asked h = (h.0, selects-types a elem h.1, selects-types b elem h.2)
  selects-types (tree.Cast elem from a) asked h = (h.0, selects-types a from h.1)
  selects-types (tree.Move elem a) asked h = (h.0, selects-types a elem h.1)
  selects-types (tree.Select elem c x y) asked h = (
    h.0,
    condition-types (is_comparison (with_selects c)) elem (with_selects c) (selects-types c elem h.1),
    selects-types x elem h.2,
    computed-types elem (with_selects y) (selects-types y elem h.3),
  )

  root-types : (elem : Elem) (t : TreeOver L) → Agree t elem → Agree (as_root elem t) elem
  root-types elem (AtLeaf l) h = (refl, h)
  root-types elem (tree.Literal n) h = (refl, h)
  root-types elem (tree.One op e a) h = h
  root-types elem (tree.Two op e a b) h = h
  root-types elem (tree.Cast e from a) h = h
  root-types elem (tree.Move e a) h = h
  root-types elem (tree.Select e c x y) h = (refl, h)

  pub normal-types : (elem : Elem) (t : TreeOver L) → Agree t elem → Agree (normalised elem t) elem
  normal-types elem t h = root-types elem (with_selects t) (selects-types t elem h)

-- ---- leaves

abbrev leafy : {L : Type 0} → TreeOver L → Type 0
leafy t = 1 ≤ length (leaves_of t)

some-left : {X : Type 0} (xs ys : List X) → 1 ≤ length xs → 1 ≤ length (xs ++ ys)
some-left xs ys h = omega (arith, length-append xs ys)

some-right : {X : Type 0} (xs ys : List X) → 1 ≤ length ys → 1 ≤ length (xs ++ ys)
some-right xs ys h = omega (arith, length-append xs ys)

condition-leafy : {L : Type 0} (b : Bool) (elem : Elem) (t : TreeOver L) → leafy t → leafy (condition_if b elem t)
condition-leafy true elem t h = h
condition-leafy false elem t h = some-left (leaves_of t) [] h

computed-leaves : {L : Type 0} (elem : Elem) (t : TreeOver L) → leaves_of (as_computed elem t) ≡ leaves_of t
computed-leaves elem (AtLeaf l) = refl
computed-leaves elem (tree.Literal n) = refl
computed-leaves elem (tree.One op e a) = refl
computed-leaves elem (tree.Two op e a b) = refl
computed-leaves elem (tree.Cast e from a) = refl
computed-leaves elem (tree.Move e a) = refl
computed-leaves elem (tree.Select e c x y) = refl

condition-leaves : {L : Type 0} (b : Bool) (elem : Elem) (t : TreeOver L) → leaves_of (condition_if b elem t) ≡ leaves_of t
condition-leaves true elem t = refl
condition-leaves false elem t = append-nil (leaves_of t)

selects-leaves : {L : Type 0} (t : TreeOver L) → leaves_of (with_selects t) ≡ leaves_of t
selects-leaves (AtLeaf l) = refl
selects-leaves (tree.Literal n) = refl
selects-leaves (tree.One op elem a) = selects-leaves a
selects-leaves (tree.Two op elem a b) = let p = selects-leaves a in let q = selects-leaves b in λ k. p k ++ q k
selects-leaves (tree.Cast elem from a) = selects-leaves a
selects-leaves (tree.Move elem a) = selects-leaves a
selects-leaves (tree.Select elem c x y) =
    let p = condition-leaves (is_comparison (with_selects c)) elem (with_selects c) ∙ selects-leaves c in
    let q = selects-leaves x in
    let r = computed-leaves elem (with_selects y) ∙ selects-leaves y in
    λ k. p k ++ (q k ++ r k)

root-leaves : {L : Type 0} (elem : Elem) (t : TreeOver L) → leaves_of (as_root elem t) ≡ leaves_of t
root-leaves elem (AtLeaf l) = refl
root-leaves elem (tree.Literal n) = refl
root-leaves elem (tree.One op e a) = refl
root-leaves elem (tree.Two op e a b) = refl
root-leaves elem (tree.Cast e from a) = refl
root-leaves elem (tree.Move e a) = refl
root-leaves elem (tree.Select e c x y) = refl

pub normal-leaves : {L : Type 0} (elem : Elem) (t : TreeOver L) → leaves_of (normalised elem t) ≡ leaves_of t
normal-leaves elem t = root-leaves elem (with_selects t) ∙ selects-leaves t

pub get_more : {X : Type 0} (xs ys : List X) (k : ℕ) (x : X) → slice_get xs k ≡ Some x → slice_get (xs ++ ys) k ≡ Some x
get_more [] ys k x h = absurd cc
get_more (z ∷ xs) ys zero x h = h
get_more (z ∷ xs) ys (suc k) x h = get_more xs ys k x h

pub get_here : {X : Type 0} (xs : List X) (x : X) (ys : List X) (k : ℕ) → length xs ≡ k → slice_get (xs ++ x ∷ ys) k ≡ Some x
get_here [] x ys zero h = refl
get_here [] x ys (suc k) h = absurd (omega arith)
get_here (z ∷ xs) x ys zero h = absurd (omega arith)
get_here (z ∷ xs) x ys (suc k) h = get_here xs x ys k (omega arith)

-- a leaf of one of the arrays so far, in its own type and shape
pub record GoodLeaf (known : List ArrayType) (domain : Extent) (leaf : Leaf) : Type 0 where
  pub there : slice_get known leaf.array ≡ Some (record { elem = leaf.elem; shape = leaf.shape })
  pub shaped : IsExtent leaf.shape
  pub fits : FitsShape leaf.map leaf.shape
  pub gives : result_shape leaf.map leaf.shape ≡ domain
  pub fill : IsElement leaf.elem (fill_of leaf.map)

abbrev pub GoodTree : List ArrayType → Extent → Elem → TreeOver Leaf → Type 0
GoodTree known domain elem t = TypesAgree t (λ leaf of. GoodLeaf known domain leaf × (leaf.elem ≡ of)) (λ n of. IsElement of n) elem

GoodTree-more : (known more : List ArrayType) (domain : Extent) (elem : Elem) (t : TreeOver Leaf) → GoodTree known domain elem t → GoodTree (known ++ more) domain elem t
GoodTree-more known more domain elem t h =
    types-weaker t (λ leaf of. GoodLeaf known domain leaf × (leaf.elem ≡ of)) (λ leaf of. GoodLeaf (known ++ more) domain leaf × (leaf.elem ≡ of)) (λ n of. IsElement of n) elem
    (λ leaf e g. (record { there = get_more known more leaf.array (record { elem = leaf.elem; shape = leaf.shape }) g.0.there; shaped = g.0.shaped; fits = g.0.fits; gives = g.0.gives; fill = g.0.fill }, g.1)) h

GoodTree-as : (known : List ArrayType) (domain domain' : Extent) (elem elem' : Elem) (t : TreeOver Leaf) → domain ≡ domain' → elem ≡ elem' → GoodTree known domain elem t → GoodTree known domain' elem' t
GoodTree-as known domain domain' elem elem' t d e h = subst (λ (x : Elem). GoodTree known domain' x t) e (subst (λ (s : Extent). GoodTree known s elem t) d h)

-- a leaf of a pass: `by` gives the shape as which each array is read there
pub record DraftLeaf (known : List ArrayType) (by : ℕ → Extent) (domain : Extent) (leaf : Leaf) : Type 0 where
  pub type : ArrayType
  pub there : slice_get known leaf.array ≡ Some type
  pub elem_is : type.elem ≡ leaf.elem
  pub as_many : elements_of type.shape ≡ elements_of leaf.shape
  pub by_is : leaf.shape ≡ by leaf.array
  pub shaped : IsExtent leaf.shape
  pub fits : FitsShape leaf.map leaf.shape
  pub gives : result_shape leaf.map leaf.shape ≡ domain
  pub fill : IsElement leaf.elem (fill_of leaf.map)

pub record GoodDraft (known : List ArrayType) (d : Draft) : Type 0 where
  pub shaped : IsExtent d.domain
  pub normal : IsNormal d.tree
  pub by : ℕ → Extent
  pub typed : TypesAgree d.tree (λ leaf of. DraftLeaf known by d.domain leaf × (leaf.elem ≡ of)) (λ n of. IsElement of n) d.elem
  pub some : 1 ≤ length (leaves_of d.tree)

abbrev pub GoodFrom : List ArrayType → List Draft → Type 0
GoodFrom known [] = Unit {0}
GoodFrom known (d ∷ ds) = GoodDraft known d × GoodFrom (known ++ draft_type d ∷ []) ds

-- the arrays after passes
abbrev pub after : List ArrayType → List Draft → List ArrayType
after known ds = known ++ map draft_type ds

pub after-append : (known : List ArrayType) (ds es : List Draft) → after known (ds ++ es) ≡ after (after known ds) es
after-append known ds es = ap (λ ts. known ++ ts) (map-append draft_type ds es) ∙ sym (append_assoc known (map draft_type ds) (map draft_type es))

pub after-length : (known : List ArrayType) (ds : List Draft) → length (after known ds) ≡ length known + length ds
after-length known ds = omega (arith, length-append known (map draft_type ds), length-map ds draft_type)

pub GoodFrom-append : (known : List ArrayType) (ds es : List Draft) → GoodFrom known ds → GoodFrom (after known ds) es → GoodFrom known (ds ++ es)
GoodFrom-append known [] es h g = subst (λ (k : List ArrayType). GoodFrom k es) (append-nil known) g
GoodFrom-append known (d ∷ ds) es h g =
    (h.0, GoodFrom-append (known ++ draft_type d ∷ []) ds es h.1 (subst (λ (k : List ArrayType). GoodFrom k es) (sym (append_assoc known (draft_type d ∷ []) (map draft_type ds))) g))

-- a good tree makes a good pass
good_draft : (known : List ArrayType) (kind : PassKind) (domain : Extent) (elem : Elem) (t : TreeOver Leaf) → IsExtent domain → GoodTree known domain elem t → leafy t → GoodDraft known (record { kind = kind; domain = domain; elem = elem; tree = normalised elem t })
good_draft known kind domain elem t shaped h some =
    let one : Extent = record { rows = 1; cols = 1 } in
    let none : ArrayType = record { elem = elem; shape = one } in
    let by : ℕ → Extent = λ k. (get_or known k none).shape in
    record {
      shaped = shaped;
      normal = normalised-normal elem t;
      by = by;
      typed = normal-types (λ leaf of. DraftLeaf known by domain leaf × (leaf.elem ≡ of)) elem t
          (types-weaker t (λ leaf of. GoodLeaf known domain leaf × (leaf.elem ≡ of)) (λ leaf of. DraftLeaf known by domain leaf × (leaf.elem ≡ of)) (λ n of. IsElement of n) elem
          (λ leaf e g. (
            record {
              type = record { elem = leaf.elem; shape = leaf.shape };
              there = g.0.there;
              elem_is = refl;
              as_many = refl;
              by_is = sym (ap (λ (u : ArrayType). u.shape) (get_or_from_slice_get known leaf.array (record { elem = leaf.elem; shape = leaf.shape }) none g.0.there));
              shaped = g.0.shaped;
              fits = g.0.fits;
              gives = g.0.gives;
              fill = g.0.fill;
            },
            g.1,
          )) h);
      some = subst (λ (ls : List Leaf). 1 ≤ length ls) (sym (normal-leaves elem t)) some;
    }

-- ---- nodes

-- a node as a pass's root, and as an operand
record OwnGood (known : List ArrayType) (e : Node) (own : Own) : Type 0 where
  passes : GoodFrom known own.passes
  type : draft_type (draft_of own) ≡ type_of e
  draft : is_literal e ≡ false → GoodDraft (after known own.passes) (draft_of own)
  tree : is_reduction e ≡ false → GoodTree (after known own.passes) (shape_of e) (elem_of e) own.tree
  some : is_literal e ≡ false → is_reduction e ≡ false → leafy own.tree

pub record SeenGood (known : List ArrayType) (e : Node) (seen : Seen) : Type 0 where
  pub passes : GoodFrom known seen.passes
  pub tree : GoodTree (after known seen.passes) (shape_of e) (elem_of e) seen.tree
  pub some : is_literal e ≡ false → 1 ≤ length (leaves_of seen.tree)

seen_good : (cut : Bool) (known : List ArrayType) (base : ℕ) (e : Node) (own : Own) → base ≡ length known → (cut ≡ false → is_reduction e ≡ false) → (cut ≡ true → is_literal e ≡ false) → IsExtent (shape_of e) ⊎ (cut ≡ false) → OwnGood known e own
    → SeenGood known e (seen_if cut (elem_of e) (shape_of e) base own)
seen_good false known base e own counted plain array shaped h = record { passes = h.passes; tree = h.tree (plain refl); some = λ l. h.some l (plain refl) }
seen_good true known base e own counted plain array shaped h =
    let d = draft_of own in
    let all = after-append known own.passes (d ∷ []) in
    let place : length (after known own.passes) ≡ base + length own.passes = omega (arith, after-length known own.passes) in
    let there : slice_get (after known (own.passes ++ d ∷ [])) (base + length own.passes) ≡ Some (type_of e) =
    ap (λ k. slice_get k (base + length own.passes)) all ∙ get_here (after known own.passes) (draft_type d) [] (base + length own.passes) place ∙ ap Some h.type in
    let extent : IsExtent (shape_of e) = elim shaped [ inl s ↦ s | inr n ↦ absurd cc ] in
    record {
      passes = GoodFrom-append known own.passes (d ∷ []) h.passes (h.draft (array refl), tt);
      tree = (record { there = there; shaped = extent; fits = tt; gives = refl; fill = IsElement-one_or_zero (elem_of e) false }, refl);
      some = λ l. omega arith;
    }

map_good : (known : List ArrayType) (e : Node) (ds : List Draft) (t : TreeOver Leaf) → (is_literal e ≡ false → IsExtent (shape_of e)) → GoodFrom known ds → GoodTree (after known ds) (shape_of e) (elem_of e) t → (is_literal e ≡ false → leafy t)
    → OwnGood known e (map_own ds (elem_of e) (shape_of e) t)
map_good known e ds t shaped passes h some = record {
  passes = passes;
  type = refl;
  draft = λ l. good_draft (after known ds) kinds.Map (shape_of e) (elem_of e) t (shaped l) h (some l);
  tree = λ r. h;
  some = λ l r. some l;
}

reduction_no_literal : (e : Node) → is_reduction e ≡ true → is_literal e ≡ false
reduction_no_literal (Name elem shape k) h = cc
reduction_no_literal (Literal elem shape value) h = cc
reduction_no_literal (One elem shape op a) h = refl
reduction_no_literal (Two elem shape op a b) h = refl
reduction_no_literal (Cast elem shape a) h = refl
reduction_no_literal (Select elem shape c x y) h = refl
reduction_no_literal (Map elem shape mapping a) h = refl
reduction_no_literal (RowFold elem shape fold a) h = refl
reduction_no_literal (Fold elem shape fold a) h = refl

-- each name's tree is good
abbrev pub NamesGood : List ArrayType → List ArrayType → List (TreeOver Leaf) → Type 0
NamesGood known types names = (k : ℕ) (type : ArrayType) → slice_get types k ≡ Some type → GoodTree known type.shape type.elem (get_or names k no_tree) × (1 ≤ length (leaves_of (get_or names k no_tree)))

pub NamesGood-more : (known more types : List ArrayType) (names : List (TreeOver Leaf)) → NamesGood known types names → NamesGood (known ++ more) types names
NamesGood-more known more types names h = λ k type found. (GoodTree-more known more type.shape type.elem (get_or names k no_tree) (h k type found).0, (h k type found).1)

one_of_two : (a b : Bool) → (a && b) ≡ false → (a ≡ false) ⊎ (b ≡ false)
one_of_two true true h = absurd cc
one_of_two true false h = inr refl
one_of_two false b h = inl refl

or_literal : (b : Bool) → (b ≡ false) ⊎ (b ≡ true)
or_literal true = inr refl
or_literal false = inl refl

module _ (types : List ArrayType) (names : List (TreeOver Leaf)) (shapes : AreShapes types) where
  extent_of : (e : Node) → IsTyped types e → is_literal e ≡ false → IsExtent (shape_of e)
  extent_of e typed l = shape_of-IsExtent types e shapes typed l

  -- an operand of an operation
  inside_good : (known : List ArrayType) (base : ℕ) (e : Node) → base ≡ length known → IsTyped types e → OwnGood known e (own_of names base e) → SeenGood known e (seen_of Inside names base e)
  inside_good known base e counted typed h =
      seen_good (is_cut Inside e) known base e (own_of names base e) counted (not_cut Inside e) (λ c. reduction_no_literal e c)
      (elim (or_literal (is_reduction e)) [ inl n ↦ inr n | inr r ↦ inl (extent_of e typed (reduction_no_literal e r)) ]) h

  placed_good : (place : Place) (known : List ArrayType) (base : ℕ) (e : Node) → base ≡ length known → IsTyped types e → is_literal e ≡ false → OwnGood known e (own_of names base e) → SeenGood known e (seen_of place names base e)
  placed_good place known base e counted typed array h = seen_good (is_cut place e) known base e (own_of names base e) counted (not_cut place e) (λ c. array) (inl (extent_of e typed array)) h

  next_counted : (known : List ArrayType) (base : ℕ) (ds : List Draft) → base ≡ length known → base + length ds ≡ length (after known ds)
  next_counted known base ds counted = omega (arith, after-length known ds)

  own_good : (known : List ArrayType) (base : ℕ) (e : Node) → base ≡ length known → NamesGood known types names → IsTyped types e → MapsStand names e → OwnGood known e (own_of names base e)
  own_good known base (Name elem shape k) counted good typed maps =
      let g = good k (record { elem = elem; shape = shape }) typed in
      map_good known (Name elem shape k) [] (get_or names k no_tree) (λ l. extent_of (Name elem shape k) typed l) tt (GoodTree-more known [] shape elem (get_or names k no_tree) g.0) (λ l. g.1)
  own_good known base (Literal elem shape value) counted good typed maps = map_good known (Literal elem shape value) [] (tree.Literal value) (λ l. absurd cc) tt typed (λ l. absurd cc)
  own_good known base (One elem shape op a) counted good typed maps =
      let of = seen_of Inside names base a in
      let h = inside_good known base a counted typed.0 (own_good known base a counted good typed.0 maps) in
      map_good known (One elem shape op a) of.passes (tree.One op elem of.tree) (λ l. extent_of (One elem shape op a) typed l) h.passes
      (refl, GoodTree-as (after known of.passes) (shape_of a) shape (elem_of a) elem of.tree typed.1.shape_is typed.1.elem_is h.tree) (λ l. h.some typed.2.no_literal)
  own_good known base (Two elem shape op a b) counted good typed maps =
      let left = seen_of Inside names base a in
      let next = base + length left.passes in
      let right = seen_of Inside names next b in
      let known' = after known left.passes in
      let h = inside_good known base a counted typed.0 (own_good known base a counted good typed.0 maps.0) in
      let counted' = next_counted known base left.passes counted in
      let g = inside_good known' next b counted' typed.1 (own_good known' next b counted' (NamesGood-more known (map draft_type left.passes) types names good) typed.1 maps.1) in
      let all = after-append known left.passes right.passes in
      let p = GoodTree-more known' (map draft_type right.passes) shape elem left.tree (GoodTree-as known' (shape_of a) shape (elem_of a) elem left.tree typed.2.left.shape_is typed.2.left.elem_is h.tree) in
      let q = GoodTree-as (after known' right.passes) (shape_of b) shape (elem_of b) elem right.tree typed.2.right.shape_is typed.2.right.elem_is g.tree in
      map_good known (Two elem shape op a b) (left.passes ++ right.passes) (tree.Two op elem left.tree right.tree) (λ l. extent_of (Two elem shape op a b) typed l) (GoodFrom-append known left.passes right.passes h.passes g.passes)
      (subst (λ (k : List ArrayType). GoodTree k shape elem (tree.Two op elem left.tree right.tree)) (sym all) (refl, p, q))
      (λ l. elim (one_of_two (is_literal a) (is_literal b) typed.2.no_literals) [
        | inl n ↦ some-left (leaves_of left.tree) (leaves_of right.tree) (h.some n)
        | inr n ↦ some-right (leaves_of left.tree) (leaves_of right.tree) (g.some n)
      ])
  own_good known base (Cast elem shape a) counted good typed maps =
      let of = seen_of Inside names base a in
      let h = inside_good known base a counted typed.0 (own_good known base a counted good typed.0 maps) in
      map_good known (Cast elem shape a) of.passes (tree.Cast elem (elem_of a) of.tree) (λ l. extent_of (Cast elem shape a) typed l) h.passes
      (refl, GoodTree-as (after known of.passes) (shape_of a) shape (elem_of a) (elem_of a) of.tree typed.1.shape_is refl h.tree) (λ l. h.some typed.1.no_literal)
  own_good known base (Select elem shape c x y) counted good typed maps =
      let first = seen_of Inside names base c in
      let next = base + length first.passes in
      let second = seen_of Inside names next x in
      let last = next + length second.passes in
      let third = seen_of Inside names last y in
      let known1 = after known first.passes in
      let known2 = after known1 second.passes in
      let counted1 = next_counted known base first.passes counted in
      let counted2 = next_counted known1 next second.passes counted1 in
      let good1 = NamesGood-more known (map draft_type first.passes) types names good in
      let good2 = NamesGood-more known1 (map draft_type second.passes) types names good1 in
      let h = inside_good known base c counted typed.0 (own_good known base c counted good typed.0 maps.0) in
      let g = inside_good known1 next x counted1 typed.1 (own_good known1 next x counted1 good1 typed.1 maps.1) in
      let k = inside_good known2 last y counted2 typed.2 (own_good known2 last y counted2 good2 typed.2 maps.2) in
      let all : after known (first.passes ++ (second.passes ++ third.passes)) ≡ after known2 third.passes = after-append known first.passes (second.passes ++ third.passes) ∙ after-append known1 second.passes third.passes in
      let p = GoodTree-more known2 (map draft_type third.passes) shape elem first.tree
      (GoodTree-more known1 (map draft_type second.passes) shape elem first.tree (GoodTree-as known1 (shape_of c) shape (elem_of c) elem first.tree typed.3.condition.shape_is typed.3.condition.elem_is h.tree)) in
      let q = GoodTree-more known2 (map draft_type third.passes) shape elem second.tree (GoodTree-as known2 (shape_of x) shape (elem_of x) elem second.tree typed.3.chosen.shape_is typed.3.chosen.elem_is g.tree) in
      let r = GoodTree-as (after known2 third.passes) (shape_of y) shape (elem_of y) elem third.tree typed.3.other.shape_is typed.3.other.elem_is k.tree in
      let t = tree.Select elem first.tree second.tree third.tree in
      map_good known (Select elem shape c x y) (first.passes ++ (second.passes ++ third.passes)) t (λ l. extent_of (Select elem shape c x y) typed l)
      (GoodFrom-append known first.passes (second.passes ++ third.passes) h.passes (GoodFrom-append known1 second.passes third.passes g.passes k.passes))
      (subst (λ (k : List ArrayType). GoodTree k shape elem t) (sym all) (refl, p, q, r))
      (λ l. some-left (leaves_of first.tree) (leaves_of second.tree ++ leaves_of third.tree) (h.some typed.3.no_literal))
  own_good known base (Map elem shape mapping a) counted good typed maps =
      let of = seen_of UnderMap names base a in
      let h = placed_good UnderMap known base a counted typed.0 typed.1.no_literal (own_good known base a counted good typed.0 maps.1) in
      let whole = map_operand names base a maps.0 in
      let leaf : GoodTree (after known of.passes) (shape_of a) (elem_of a) (AtLeaf (whole_leaf whole.array (elem_of a) (shape_of a))) = subst (λ (u : TreeOver Leaf). GoodTree (after known of.passes) (shape_of a) (elem_of a) u) whole.leaf h.tree in
      let fill : IsElement (elem_of a) (fill_of mapping) = subst (λ (x : Elem). IsElement x (fill_of mapping)) (sym typed.1.elem_is) typed.1.fill in
      let mapped : GoodTree (after known of.passes) shape elem (under mapping (AtLeaf (whole_leaf whole.array (elem_of a) (shape_of a)))) =
      (record { there = leaf.0.there; shaped = leaf.0.shaped; fits = typed.1.fits; gives = typed.1.shape_is; fill = fill }, typed.1.elem_is) in
      map_good known (Map elem shape mapping a) of.passes (under mapping of.tree) (λ l. extent_of (Map elem shape mapping a) typed l) h.passes
      (subst (λ (u : TreeOver Leaf). GoodTree (after known of.passes) shape elem (under mapping u)) (sym whole.leaf) mapped)
      (λ l. subst (λ (u : TreeOver Leaf). leafy (under mapping u)) (sym whole.leaf) (omega arith))
  own_good known base (RowFold elem shape fold a) counted good typed maps =
      let of = seen_of Inside names base a in
      let h = inside_good known base a counted typed.0 (own_good known base a counted good typed.0 maps) in
      let operand = GoodTree-as (after known of.passes) (shape_of a) (shape_of a) (elem_of a) elem of.tree refl typed.1.elem_is h.tree in
      record {
        passes = h.passes;
        type = ap (λ (s : Extent). let t : ArrayType = record { elem = elem; shape = s } in t) (sym typed.1.shape_is);
        draft = λ l. good_draft (after known of.passes) (kinds.Reduce fold) (shape_of a) elem of.tree (extent_of a typed.0 typed.1.no_literal) operand (h.some typed.1.no_literal);
        tree = λ r. absurd cc;
        some = λ l r. absurd cc;
      }
  own_good known base (Fold elem shape fold a) counted good typed maps =
      let of = seen_of Inside names base a in
      let h = inside_good known base a counted typed.0 (own_good known base a counted good typed.0 maps) in
      let operand = GoodTree-as (after known of.passes) (shape_of a) (shape_of a) (elem_of a) elem of.tree refl typed.1.elem_is h.tree in
      let extent = extent_of a typed.0 typed.1.no_literal in
      let first : Draft = record { kind = kinds.Reduce fold; domain = shape_of a; elem = elem; tree = normalised elem of.tree } in
      let rows = good_draft (after known of.passes) (kinds.Reduce fold) (shape_of a) elem of.tree extent operand (h.some typed.1.no_literal) in
      let place = base + length of.passes in
      let all = after-append known of.passes (first ∷ []) in
      let there : slice_get (after known (of.passes ++ first ∷ [])) place ≡ Some (draft_type first) =
      ap (λ k. slice_get k place) all ∙ get_here (after known of.passes) (draft_type first) [] place (sym (next_counted known base of.passes counted)) in
      let row : IsExtent (as_row (shape_of a)) = row_extent (shape_of a) extent in
      record {
        passes = GoodFrom-append known of.passes (first ∷ []) h.passes (rows, tt);
        type = ap (λ (s : Extent). let t : ArrayType = record { elem = elem; shape = s } in t) (sym typed.1.shape_is);
        draft = λ l. record {
          shaped = row;
          normal = normalised-normal elem (AtLeaf (whole_leaf place elem (as_row (shape_of a))));
          by = λ k. as_row (shape_of a);
          typed = (
            refl,
            (
              record {
                type = draft_type first;
                there = there;
                elem_is = refl {a = elem};
                as_many = omega arith;
                by_is = refl {a = as_row (shape_of a)};
                shaped = row;
                fits = tt;
                gives = refl {a = as_row (shape_of a)};
                fill = IsElement-one_or_zero elem false;
              },
              refl,
            ),
          );
          some = omega arith;
        };
        tree = λ r. absurd cc;
        some = λ l r. absurd cc;
      }
    where
      row_extent : (s : Extent) → IsExtent s → IsExtent (as_row s)
      row_extent s h = record { some_rows = omega arith; some_cols = h.some_rows; within = let low = rows-within s h in omega (arith, h.within) }

  pub expression_good : (place : Place) (known : List ArrayType) (base : ℕ) (e : Node) → base ≡ length known → NamesGood known types names → IsTyped types e → MapsStand names e → is_literal e ≡ false → SeenGood known e (seen_of place names base e)
  expression_good place known base e counted good typed maps array = placed_good place known base e counted typed array (own_good known base e counted good typed maps)
