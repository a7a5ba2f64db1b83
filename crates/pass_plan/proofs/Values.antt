-- Values of trees, normalised and by number, and that a sound pass makes an array.
use Rattle.std.proofs.Common.{◌≡◌, ℕ, zero, suc, ◌+◌, ◌*◌, ◌<◌, ◌≤◌, List, [], ◌∷◌, length, get_or, refl, sym, ap, ◌∙◌, subst, arith, All, Bool, true, false, None, Some, Option, slice_index_or}
use Rattle.std.specs.Prelude.{ℤ, pos, negsuc, not}
use Rattle.std.specs.Option.{option_map_or}
use Rattle.std.specs.Ordering.{int_eq}
use Rattle.std.specs.Bool.{Decides}
use Rattle.std.proofs.lemmas.Bool.Decides.{Decides-int_eq}
use Rattle.ven_base.specs.declared.elem.Elem.{Elem}
use Rattle.ven_base.specs.declared.ops.Op2.TheVariants.{Ne}
use Rattle.ven_base.specs.Elem.{IsElement}
use Rattle.ven_base.specs.Wrap.{wrapped}
use Rattle.ven_base.specs.Operation.{applied1, applied2, exact1, one_or_zero}
use Rattle.ven_base.specs.Folding.{folded, IsFolded}
use Rattle.ven_base.specs.Extent.{IsExtent}
use Rattle.ven_base.specs.Mapping.{source_of, fill_of}
use Rattle.ven_base.specs.Grid.{IsGrid, value_at}
use Rattle.ven_base.proofs.Operations.{IsElement-one_or_zero, IsElement-applied2, IsElement-chosen}
use Rattle.ven_base.proofs.Wrapped.{wrapped_in, IsElement-wrapped}
use Rattle.ven_base.proofs.Reductions.{IsFolded-folded, IsElement-IsFolded}
use Rattle.pass_plan.specs.declared.leaf.Leaf.{Leaf}
use Rattle.pass_plan.specs.declared.split.ArrayPlace.{ArrayPlace}
use Rattle.pass_plan.specs.declared.pass.PassKind.{PassKind}
use Rattle.pass_plan.specs.declared.pass.PassKind.TheVariants.{Map, Reduce}
use Rattle.pass_plan.specs.Tree.{TreeOver, AtLeaf, Literal, One, Two, Cast, Move, Select, chosen, value_of, with_leaves, TypesAgree}
use Rattle.pass_plan.specs.Normal.{is_comparison, condition_if, as_computed, with_selects, as_root, normalised}
use Rattle.pass_plan.specs.Pass.{Pass, Arrays, no_leaf, read_as, leaf_at, tree_at, row_values, result_of, made_at, pass_array}
use Rattle.pass_plan.specs.Sound.{IsNumbering, IsSoundLeaf, IsSoundPass, HasArrays, IsArrayOf, no_place}
use Rattle.pass_plan.proofs.Tilings.{rows_few}
use Rattle.ven_base.proofs.Made.{row_values-length, row_values-all, IsGrid-grid_with}

-- ---- normalising

-- a number that is compared with 0 chooses as the number does
chosen-compared : (elem : Elem) (c x y : ℤ) → chosen (applied2 Ne elem c (pos 0)) x y ≡ chosen c x y
chosen-compared elem c x y = go (int_eq c (pos 0)) refl
  where
    decides : Decides (int_eq c (pos 0)) (c ≡ pos 0)
    decides = Decides-int_eq c (pos 0)

    other : (v : ℤ) → ¬ (v ≡ pos 0) → x ≡ chosen v x y
    other (pos zero) h = absurd (h refl)
    other (pos (suc n)) h = refl
    other (negsuc n) h = refl

    go : (b : Bool) → int_eq c (pos 0) ≡ b → chosen (applied2 Ne elem c (pos 0)) x y ≡ chosen c x y
    go true e =
        ap (λ b. chosen (wrapped elem (one_or_zero (not b))) x y) e ∙ ap (λ v. chosen v x y) (wrapped_in elem (pos 0) (IsElement-one_or_zero elem false))
        ∙ ap (λ v. chosen v x y) (sym (decides.0 e))
    go false e =
        ap (λ b. chosen (wrapped elem (one_or_zero (not b))) x y) e ∙ ap (λ v. chosen v x y) (wrapped_in elem (pos 1) (IsElement-one_or_zero elem true))
        ∙ other c (λ is. let yes' = decides.1 is in absurd cc)

chosen-condition : {L : Type 0} (b : Bool) (elem : Elem) (t : TreeOver L) (at : L → ℤ) (x y : ℤ) → chosen (value_of (condition_if b elem t) at) x y ≡ chosen (value_of t at) x y
chosen-condition true elem t at x y = refl
chosen-condition false elem t at x y = chosen-compared elem (value_of t at) x y

value_of-as_computed : {L : Type 0} (elem : Elem) (t : TreeOver L) (at : L → ℤ) → value_of (as_computed elem t) at ≡ value_of t at
value_of-as_computed elem (AtLeaf l) at = refl
value_of-as_computed elem (Literal n) at = refl
value_of-as_computed elem (One op e a) at = refl
value_of-as_computed elem (Two op e a b) at = refl
value_of-as_computed elem (Cast e from a) at = refl
value_of-as_computed elem (Move e a) at = refl
value_of-as_computed elem (Select e c x y) at = refl

value_of-with_selects : {L : Type 0} (t : TreeOver L) (at : L → ℤ) → value_of (with_selects t) at ≡ value_of t at
value_of-with_selects (AtLeaf l) at = refl
value_of-with_selects (Literal n) at = refl
value_of-with_selects (One op elem a) at = ap (applied1 op elem) (value_of-with_selects a at)
value_of-with_selects (Two op elem a b) at =
    let p = value_of-with_selects a at in
    let q = value_of-with_selects b at in
    λ k. applied2 op elem (p k) (q k)
value_of-with_selects (Cast elem from a) at = ap (wrapped elem) (value_of-with_selects a at)
value_of-with_selects (Move elem a) at = value_of-with_selects a at
value_of-with_selects (Select elem c x y) at =
    let p = value_of-with_selects c at in
    let q = value_of-with_selects x at in
    let r = value_of-as_computed elem (with_selects y) at ∙ value_of-with_selects y at in
    chosen-condition (is_comparison (with_selects c)) elem (with_selects c) at (value_of (with_selects x) at) (value_of (as_computed elem (with_selects y)) at)
    ∙ (λ k. chosen (p k) (q k) (r k))

value_of-as_root : {L : Type 0} (elem : Elem) (t : TreeOver L) (at : L → ℤ) → value_of (as_root elem t) at ≡ value_of t at
value_of-as_root elem (AtLeaf l) at = refl
value_of-as_root elem (Literal n) at = refl
value_of-as_root elem (One op e a) at = refl
value_of-as_root elem (Two op e a b) at = refl
value_of-as_root elem (Cast e from a) at = refl
value_of-as_root elem (Move e a) at = refl
value_of-as_root elem (Select e c x y) at = refl

pub value_of-normalised : {L : Type 0} (elem : Elem) (t : TreeOver L) (at : L → ℤ) → value_of (normalised elem t) at ≡ value_of t at
value_of-normalised elem t at = value_of-as_root elem (with_selects t) at ∙ value_of-with_selects t at

-- ---- leaves by number

pub value_of-with_leaves : {L M : Type 0} (t : TreeOver L) (f : L → M) (at : M → ℤ) → value_of (with_leaves t f) at ≡ value_of t (λ l. at (f l))
value_of-with_leaves (AtLeaf l) f at = refl
value_of-with_leaves (Literal n) f at = refl
value_of-with_leaves (One op elem a) f at = ap (applied1 op elem) (value_of-with_leaves a f at)
value_of-with_leaves (Two op elem a b) f at =
    let p = value_of-with_leaves a f at in
    let q = value_of-with_leaves b f at in
    λ k. applied2 op elem (p k) (q k)
value_of-with_leaves (Cast elem from a) f at = ap (wrapped elem) (value_of-with_leaves a f at)
value_of-with_leaves (Move elem a) f at = value_of-with_leaves a f at
value_of-with_leaves (Select elem c x y) f at =
    let p = value_of-with_leaves c f at in
    let q = value_of-with_leaves x f at in
    let r = value_of-with_leaves y f at in
    λ k. chosen (p k) (q k) (r k)

pub value_of-numbered : (tree : TreeOver Leaf) (leaves : List Leaf) (numbered : TreeOver ℕ) (at : Leaf → ℤ) → IsNumbering tree leaves numbered → value_of numbered (λ k. at (get_or leaves k no_leaf)) ≡ value_of tree at
value_of-numbered tree leaves numbered at is = sym (value_of-with_leaves numbered (λ k. get_or leaves k no_leaf) at) ∙ ap (λ (t : TreeOver Leaf). value_of t at) is.is

-- ---- values in their types

element_as : (a b : Elem) (x : ℤ) → a ≡ b → IsElement a x → IsElement b x
element_as a b x same h = subst (λ (e : Elem). IsElement e x) same h

-- a tree whose types agree gives a number of the type that it is asked for, where leaves and literals do
pub value_of-IsElement : {L : Type 0} (t : TreeOver L) (Of : L → Elem → Type 0) (Number : ℤ → Elem → Type 0) (at : L → ℤ) (asked : Elem)
    → ((l : L) (e : Elem) → Of l e → IsElement e (at l)) → ((n : ℤ) (e : Elem) → Number n e → IsElement e n) → TypesAgree t Of Number asked → IsElement asked (value_of t at)
value_of-IsElement (AtLeaf l) Of Number at asked f g h = f l asked h
value_of-IsElement (Literal n) Of Number at asked f g h = g n asked h
value_of-IsElement (One op elem a) Of Number at asked f g h = element_as elem asked (applied1 op elem (value_of a at)) h.0 (IsElement-wrapped elem (exact1 op (value_of a at)))
value_of-IsElement (Two op elem a b) Of Number at asked f g h = element_as elem asked (applied2 op elem (value_of a at) (value_of b at)) h.0 (IsElement-applied2 op elem (value_of a at) (value_of b at))
value_of-IsElement (Cast elem from a) Of Number at asked f g h = element_as elem asked (wrapped elem (value_of a at)) h.0 (IsElement-wrapped elem (value_of a at))
value_of-IsElement (Move elem a) Of Number at asked f g h = element_as elem asked (value_of a at) h.0 (value_of-IsElement a Of Number at elem f g h.1)
value_of-IsElement (Select elem c x y) Of Number at asked f g h =
    element_as elem asked (chosen (value_of c at) (value_of x at) (value_of y at)) h.0
    (IsElement-chosen elem (value_of c at) (value_of x at) (value_of y at) (value_of-IsElement x Of Number at elem f g h.2) (value_of-IsElement y Of Number at elem f g h.3))

or_zero : (elem : Elem) (xs : List ℤ) (k : ℕ) → All (IsElement elem) xs → IsElement elem (slice_index_or xs k (pos 0))
or_zero elem [] k all = (IsElement-one_or_zero elem false)
or_zero elem (x ∷ xs) zero all = all 0 x (omega arith)
or_zero elem (x ∷ xs) (suc k) all = or_zero elem xs k (λ j d below. all (suc j) d (omega arith))

mapped-IsElement : (elem : Elem) (f : ℕ × ℕ → ℤ) (fill : ℤ) (o : Option (ℕ × ℕ)) → ((s : ℕ × ℕ) → IsElement elem (f s)) → IsElement elem fill → IsElement elem (option_map_or f o fill)
mapped-IsElement elem f fill None h l = l
mapped-IsElement elem f fill (Some s) h l = h s

module _ (places : List ArrayPlace) (later : List ℕ) (pass : Pass) (arrays : Arrays) (sound : IsSoundPass places later pass) (are : HasArrays places arrays pass.leaves) where
  pub leaf_at-IsElement : (leaf : Leaf) (i j : ℕ) → IsSoundLeaf places later pass.domain leaf → IsArrayOf (get_or places leaf.array no_place) (arrays leaf.array) → IsElement leaf.elem (leaf_at arrays leaf i j)
  leaf_at-IsElement leaf i j is here =
      let array = arrays leaf.array in
      let typed : All (IsElement leaf.elem) array.values = subst (λ (e : Elem). All (IsElement e) array.values) is.elem_is here.typed in
      mapped-IsElement leaf.elem (λ s. value_at (read_as leaf array) s.0 s.1) (fill_of leaf.map) (source_of leaf.map leaf.shape i j) (λ s. or_zero leaf.elem array.values (s.0 * leaf.shape.cols + s.1) typed) is.fill

  pub tree_at-IsElement : (i j : ℕ) → IsElement pass.elem (tree_at arrays pass i j)
  tree_at-IsElement i j =
      value_of-IsElement pass.tree (λ k of. (k < length pass.leaves) × ((get_or pass.leaves k no_leaf).elem ≡ of)) (λ n of. IsElement of n) (λ k. leaf_at arrays (get_or pass.leaves k no_leaf) i j) pass.elem
      (λ k e h. element_as (get_or pass.leaves k no_leaf).elem e (leaf_at arrays (get_or pass.leaves k no_leaf) i j) h.1 (leaf_at-IsElement (get_or pass.leaves k no_leaf) i j (sound.leaves k no_leaf h.0) (are k no_leaf h.0)))
      (λ n e h. h) sound.typed

  made_at-IsElement : (kind : PassKind) (i j : ℕ) → IsElement pass.elem (made_at arrays pass kind i j)
  made_at-IsElement Map i j = tree_at-IsElement i j
  made_at-IsElement (Reduce fold) i j =
      let row = row_values pass.domain.cols (tree_at arrays pass i) in
      IsElement-IsFolded fold pass.elem row (folded fold pass.elem row) (row_values-all (IsElement pass.elem) pass.domain.cols (tree_at arrays pass i) (λ c below. tree_at-IsElement i c))
      (is_folded row (omega (arith, row_values-length pass.domain.cols (tree_at arrays pass i), sound.shaped.some_cols)))
    where
      is_folded : (xs : List ℤ) → 1 ≤ length xs → IsFolded fold pass.elem xs (folded fold pass.elem xs)
      is_folded [] h = absurd (omega arith)
      is_folded (x ∷ xs) h = IsFolded-folded fold pass.elem x xs

  result-IsExtent : (kind : PassKind) → IsExtent (result_of kind pass.domain)
  result-IsExtent Map = sound.shaped
  result-IsExtent (Reduce fold) =
      let rows = rows_few pass.domain sound.shaped in
      record { some_rows = sound.shaped.some_rows; some_cols = omega arith; within = omega arith }

  pub pass_array-IsGrid : IsGrid (pass_array arrays pass)
  pass_array-IsGrid = IsGrid-grid_with pass.elem (result_of pass.kind pass.domain) (made_at arrays pass pass.kind) (result-IsExtent pass.kind) (λ i j index. made_at-IsElement pass.kind i j)
