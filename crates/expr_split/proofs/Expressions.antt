-- The passes of an expression leave its values.
use Rattle.std.proofs.Common.{◌≡◌, ℕ, zero, suc, ◌+◌, ◌*◌, ◌<◌, List, [], ◌∷◌, ◌++◌, length, get_or, refl, sym, ap, ◌∙◌, subst, arith, length-append, Bool, true, false, Option, None, Some}
use Rattle.std.specs.Prelude.{ℤ, pos, negsuc, slice_get, slice_index_or, IfSome}
use Rattle.std.specs.Option.{option_map_or}
use Rattle.std.specs.List.{range_with_len}
use Rattle.std.proofs.lemmas.List.FromFn.{length-range_with_len}
use Rattle.ven_base.specs.declared.elem.Elem.{Elem}
use Rattle.ven_base.specs.declared.mapping.Mapping.{Mapping}
use Rattle.ven_base.specs.Extent.{Extent, IsIndex}
use Rattle.ven_base.specs.Wrap.{wrapped}
use Rattle.ven_base.specs.Operation.{applied1, applied2}
use Rattle.ven_base.specs.Folding.{folded}
use Rattle.ven_base.specs.Mapping.{source_of, fill_of}
use Rattle.ven_base.specs.Grid.{Grid, value_at}
use Rattle.ven_base.proofs.Sources.{source_of-inside}
use Rattle.shape_check.specs.declared.typed.ArrayType.{ArrayType}
use Rattle.shape_check.specs.Node.{Node, Name, Literal, One, Two, Cast, Select, Map, RowFold, Fold, elem_of, shape_of}
use Rattle.shape_check.specs.Rules.{IsTyped}
use Rattle.shape_check.specs.Meaning as meaning
use Rattle.shape_check.specs.Meaning.{no_grid, array_at, expr_at, array_of}
use Rattle.shape_check.specs.Laws.{AreShapes}
use Rattle.shape_check.proofs.Typing.{shape_of-IsExtent}
use Rattle.pass_plan.specs.declared.leaf.Leaf.{Leaf}
use Rattle.pass_plan.specs.declared.pass.PassKind.TheVariants as kinds
use Rattle.pass_plan.specs.Tree as tree
use Rattle.pass_plan.specs.Tree.{TreeOver, AtLeaf, chosen, value_of}
use Rattle.pass_plan.specs.Normal.{normalised}
use Rattle.pass_plan.specs.Pass.{Arrays, read_as, leaf_at, row_values, values_with, grid_with}
use Rattle.ven_base.proofs.Made.{row_values-length, row_values-same, grid_with-at, grid_with-same}
use Rattle.pass_plan.proofs.Values.{value_of-normalised}
use Rattle.expr_split.specs.Cuts.{Place, AtOutput, AtLet, UnderMap, Inside, is_reduction, is_cut, Draft, Own, Seen, draft_of, whole_leaf, seen_if, under, no_tree, as_row, map_own, own_of, seen_of}
use Rattle.expr_split.proofs.Runs.{over, array_by, array_by-same, draft_array, run, with_array-here, run-below, run-append}
use Rattle.expr_split.proofs.Parts.{folded_rows}

-- the arrays agree with these below n
pub record Agree (n : ℕ) (arrays other : Arrays) : Type 0 where
  pub below : (k : ℕ) → k < n → other k ≡ arrays k

-- the tree has these values over all arrays that agree with these below n
pub record Holds (shape : Extent) (f : ℕ → ℕ → ℤ) (n : ℕ) (arrays : Arrays) (t : TreeOver Leaf) : Type 0 where
  pub at : (other : Arrays) → Agree n arrays other → (i j : ℕ) → IsIndex shape i j → over other t i j ≡ f i j

pub Holds-later : (shape : Extent) (f : ℕ → ℕ → ℤ) (n : ℕ) (arrays : Arrays) (t : TreeOver Leaf) (ds : List Draft) → Holds shape f n arrays t → Holds shape f (n + length ds) (run n ds arrays) t
Holds-later shape f n arrays t ds h = record {
  at = λ other agree i j index. h.at other (record { below = λ k low. agree.below k (omega arith) ∙ run-below n ds arrays k low }) i j index;
}

Holds-shaped : (a b : Extent) (f : ℕ → ℕ → ℤ) (n : ℕ) (arrays : Arrays) (t : TreeOver Leaf) → a ≡ b → Holds a f n arrays t → Holds b f n arrays t
Holds-shaped a b f n arrays t e h = subst (λ (s : Extent). Holds s f n arrays t) e h

Holds-now : (shape : Extent) (f : ℕ → ℕ → ℤ) (n : ℕ) (arrays : Arrays) (t : TreeOver Leaf) → Holds shape f n arrays t → (i j : ℕ) → IsIndex shape i j → over arrays t i j ≡ f i j
Holds-now shape f n arrays t h i j index = h.at arrays (record { below = λ k low. refl }) i j index

-- what holds after one run and then another
Holds-over : (shape : Extent) (f : ℕ → ℕ → ℤ) (base : ℕ) (ds es : List Draft) (arrays : Arrays) (t : TreeOver Leaf) → Holds shape f (base + length ds + length es) (run (base + length ds) es (run base ds arrays)) t
    → Holds shape f (base + length (ds ++ es)) (run base (ds ++ es) arrays) t
Holds-over shape f base ds es arrays t h =
    let count : base + length ds + length es ≡ base + length (ds ++ es) = omega (arith, length-append ds es) in
    subst (λ (n : ℕ). Holds shape f n (run base (ds ++ es) arrays) t) count (subst (λ (a : Arrays). Holds shape f (base + length ds + length es) a t) (sym (run-append base ds es arrays)) h)

-- a whole array
pub record IsWhole (elem : Elem) (shape : Extent) (t : TreeOver Leaf) : Type 0 where
  pub array : ℕ
  pub leaf : t ≡ AtLeaf (whole_leaf array elem shape)

-- each name's tree has its array's values
abbrev pub NamesHold : List ArrayType → List Grid → ℕ → Arrays → List (TreeOver Leaf) → Type 0
NamesHold types values n arrays names = (k : ℕ) (type : ArrayType) → slice_get types k ≡ Some type
    → Holds type.shape (value_at (slice_index_or values k (no_grid type.elem type.shape))) n arrays (get_or names k no_tree)

pub NamesHold-later : (types : List ArrayType) (values : List Grid) (n : ℕ) (arrays : Arrays) (names : List (TreeOver Leaf)) (ds : List Draft) → NamesHold types values n arrays names → NamesHold types values (n + length ds) (run n ds arrays) names
NamesHold-later types values n arrays names ds h = λ k type found. Holds-later type.shape (value_at (slice_index_or values k (no_grid type.elem type.shape))) n arrays (get_or names k no_tree) ds (h k type found)

-- the names that maps are taken of are whole arrays
abbrev pub NameIsWhole : List (TreeOver Leaf) → Node → Type 0
NameIsWhole names (Name elem shape k) = IsWhole elem shape (get_or names k no_tree)
NameIsWhole names _ = Unit {0}

abbrev pub MapsStand : List (TreeOver Leaf) → Node → Type 0
MapsStand names (Name elem shape k) = Unit {0}
MapsStand names (Literal elem shape value) = Unit {0}
MapsStand names (One elem shape op a) = MapsStand names a
MapsStand names (Two elem shape op a b) = MapsStand names a × MapsStand names b
MapsStand names (Cast elem shape a) = MapsStand names a
MapsStand names (Select elem shape c x y) = MapsStand names c × MapsStand names x × MapsStand names y
MapsStand names (Map elem shape mapping a) = NameIsWhole names a × MapsStand names a
MapsStand names (RowFold elem shape fold a) = MapsStand names a
MapsStand names (Fold elem shape fold a) = MapsStand names a

-- a node as a pass's root, and as an operand
pub record Right (values : List Grid) (base : ℕ) (arrays : Arrays) (e : Node) (own : Own) : Type 0 where
  pub array_is : array_by own.kind own.elem own.domain (over (run base own.passes arrays) own.tree) ≡ array_of values e
  pub tree_is : is_reduction e ≡ false → Holds (shape_of e) (expr_at values e) (base + length own.passes) (run base own.passes arrays) own.tree

pub record SeenRight (values : List Grid) (base : ℕ) (arrays : Arrays) (e : Node) (seen : Seen) : Type 0 where
  pub tree_is : Holds (shape_of e) (expr_at values e) (base + length seen.passes) (run base seen.passes arrays) seen.tree

mapped_right : (values : List Grid) (base : ℕ) (arrays : Arrays) (e : Node) (ds : List Draft) (t : TreeOver Leaf) → Holds (shape_of e) (expr_at values e) (base + length ds) (run base ds arrays) t
    → Right values base arrays e (map_own ds (elem_of e) (shape_of e) t)
mapped_right values base arrays e ds t h = record {
  array_is = grid_with-same (elem_of e) (shape_of e) (over (run base ds arrays) t) (expr_at values e) (Holds-now (shape_of e) (expr_at values e) (base + length ds) (run base ds arrays) t h);
  tree_is = λ r. h;
}

-- the array of a pass is that of its tree before it was normalised
normal_array : (arrays : Arrays) (own : Own) → draft_array arrays (draft_of own) ≡ array_by own.kind own.elem own.domain (over arrays own.tree)
normal_array arrays own =
    array_by-same own.kind own.elem own.domain (over arrays (normalised own.elem own.tree)) (over arrays own.tree) (λ i j index. value_of-normalised own.elem own.tree (λ leaf. leaf_at arrays leaf i j))

-- the array that comes next
next_array : (base : ℕ) (ds : List Draft) (d : Draft) (arrays : Arrays) → run base (ds ++ d ∷ []) arrays (base + length ds) ≡ draft_array (run base ds arrays) d
next_array base ds d arrays =
    ap (λ a. a (base + length ds)) (run-append base ds (d ∷ []) arrays) ∙ with_array-here (run base ds arrays) (base + length ds) (draft_array (run base ds arrays) d)

-- a leaf of an expression's whole array has its values
leaf_holds : (values : List Grid) (e : Node) (n k : ℕ) (arrays : Arrays) → k < n → arrays k ≡ array_of values e → Holds (shape_of e) (expr_at values e) n arrays (AtLeaf (whole_leaf k (elem_of e) (shape_of e)))
leaf_holds values e n k arrays low is = record {
  at = λ other agree i j index.
      ap (λ a. value_at (read_as (whole_leaf k (elem_of e) (shape_of e)) a) i j) (agree.below k low ∙ is) ∙ grid_with-at (elem_of e) (shape_of e) (expr_at values e) i j index;
}

-- a cut's array is the next one
pub cut_array : (values : List Grid) (base : ℕ) (arrays : Arrays) (e : Node) (own : Own) → Right values base arrays e own → run base (own.passes ++ draft_of own ∷ []) arrays (base + length own.passes) ≡ array_of values e
cut_array values base arrays e own h = next_array base own.passes (draft_of own) arrays ∙ normal_array (run base own.passes arrays) own ∙ h.array_is

seen_right : (cut : Bool) (values : List Grid) (base : ℕ) (arrays : Arrays) (e : Node) (own : Own) → (cut ≡ false → is_reduction e ≡ false) → Right values base arrays e own → SeenRight values base arrays e (seen_if cut (elem_of e) (shape_of e) base own)
seen_right false values base arrays e own plain h = record { tree_is = h.tree_is (plain refl) }
seen_right true values base arrays e own plain h = record {
  tree_is =
      leaf_holds values e (base + length (own.passes ++ draft_of own ∷ [])) (base + length own.passes) (run base (own.passes ++ draft_of own ∷ []) arrays)
      (omega (arith, length-append own.passes (draft_of own ∷ []))) (cut_array values base arrays e own h);
}

-- a node that isn't cut where it stands is no reduction
pub not_cut : (place : Place) (e : Node) → is_cut place e ≡ false → is_reduction e ≡ false
not_cut AtOutput e h = cc
not_cut (AtLet true) e h = cc
not_cut (AtLet false) e h = h
not_cut Inside e h = h
not_cut UnderMap (Name elem shape k) h = refl
not_cut UnderMap (Literal elem shape value) h = refl
not_cut UnderMap (One elem shape op a) h = refl
not_cut UnderMap (Two elem shape op a b) h = refl
not_cut UnderMap (Cast elem shape a) h = refl
not_cut UnderMap (Select elem shape c x y) h = refl
not_cut UnderMap (Map elem shape mapping a) h = refl
not_cut UnderMap (RowFold elem shape fold a) h = cc
not_cut UnderMap (Fold elem shape fold a) h = cc

-- the operand of a map is a whole array
pub map_operand : (names : List (TreeOver Leaf)) (base : ℕ) (a : Node) → NameIsWhole names a → IsWhole (elem_of a) (shape_of a) (seen_of UnderMap names base a).tree
map_operand names base (Name elem shape k) h = h
map_operand names base (Literal elem shape value) h = record { array = base + 0; leaf = refl }
map_operand names base (One elem shape op a) h = record { array = base + length (own_of names base (One elem shape op a)).passes; leaf = refl }
map_operand names base (Two elem shape op a b) h = record { array = base + length (own_of names base (Two elem shape op a b)).passes; leaf = refl }
map_operand names base (Cast elem shape a) h = record { array = base + length (own_of names base (Cast elem shape a)).passes; leaf = refl }
map_operand names base (Select elem shape c x y) h = record { array = base + length (own_of names base (Select elem shape c x y)).passes; leaf = refl }
map_operand names base (Map elem shape mapping a) h = record { array = base + length (own_of names base (Map elem shape mapping a)).passes; leaf = refl }
map_operand names base (RowFold elem shape fold a) h = record { array = base + length (own_of names base (RowFold elem shape fold a)).passes; leaf = refl }
map_operand names base (Fold elem shape fold a) h = record { array = base + length (own_of names base (Fold elem shape fold a)).passes; leaf = refl }

mapped_value : (shape : Extent) (f g : ℕ → ℕ → ℤ) (fill : ℤ) (o : Option (ℕ × ℕ)) → IfSome o (λ s. IsIndex shape s.0 s.1) → ((i j : ℕ) → IsIndex shape i j → f i j ≡ g i j)
    → option_map_or (λ s. f s.0 s.1) o fill ≡ option_map_or (λ s. g s.0 s.1) o fill
mapped_value shape f g fill None inside h = refl
mapped_value shape f g fill (Some s) inside h = h s.0 s.1 inside

Holds-under : (elem : Elem) (of shape : Extent) (mapping : Mapping) (f : ℕ → ℕ → ℤ) (n : ℕ) (arrays : Arrays) (t : TreeOver Leaf) → IsWhole elem of t
    → ((i j : ℕ) → IsIndex shape i j → IfSome (source_of mapping of i j) (λ s. IsIndex of s.0 s.1)) → Holds of f n arrays t
    → Holds shape (λ i j. option_map_or (λ s. f s.0 s.1) (source_of mapping of i j) (fill_of mapping)) n arrays (under mapping t)
Holds-under elem of shape mapping f n arrays t whole inside h =
    subst (λ (u : TreeOver Leaf). Holds shape (λ i j. option_map_or (λ s. f s.0 s.1) (source_of mapping of i j) (fill_of mapping)) n arrays (under mapping u)) (sym whole.leaf)
    (record {
      at = λ other agree i j index.
          mapped_value of (value_at (read_as (whole_leaf whole.array elem of) (other whole.array))) f (fill_of mapping) (source_of mapping of i j) (inside i j index)
          (λ r c low. ap (λ u. over other u r c) (sym whole.leaf) ∙ h.at other agree r c low);
    })

chosen-is : (c x y : ℤ) → chosen c x y ≡ meaning.chosen c x y
chosen-is (pos zero) x y = refl
chosen-is (pos (suc c)) x y = refl
chosen-is (negsuc c) x y = refl

-- an operand, after the passes of those before it
operand_right : (place : Place) (values : List Grid) (names : List (TreeOver Leaf)) (base : ℕ) (arrays : Arrays) (e : Node) → Right values base arrays e (own_of names base e) → SeenRight values base arrays e (seen_of place names base e)
operand_right place values names base arrays e h = seen_right (is_cut place e) values base arrays e (own_of names base e) (not_cut place e) h

-- what a column has, seen as one row
column_at : (elem : Elem) (shape : Extent) (f : ℕ → ℕ → ℤ) (k : ℕ) (j : ℕ) → j < shape.rows → value_at (read_as (whole_leaf k elem (as_row shape)) (grid_with elem (record { rows = shape.rows; cols = 1 }) f)) 0 j ≡ f j 0
column_at elem shape f k j low =
    let column = grid_with elem (record { rows = shape.rows; cols = 1 }) f in
    let place : 0 * shape.rows + j ≡ j * 1 + 0 = omega arith in
    ap (λ p. slice_index_or column.values p (pos 0)) place ∙ grid_with-at elem (record { rows = shape.rows; cols = 1 }) f j 0 (record { row = low; col = omega arith })

module _ (types : List ArrayType) (values : List Grid) (names : List (TreeOver Leaf)) (shapes : AreShapes types) where
  -- every node's passes leave its values
  pub own_right : (base : ℕ) (arrays : Arrays) (e : Node) → NamesHold types values base arrays names → IsTyped types e → MapsStand names e → Right values base arrays e (own_of names base e)
  own_right base arrays (Name elem shape k) holds typed maps =
      let count : base ≡ base + 0 = omega arith in
      mapped_right values base arrays (Name elem shape k) [] (get_or names k no_tree)
      (subst (λ (n : ℕ). Holds shape (value_at (array_at values elem shape k)) n arrays (get_or names k no_tree)) count (holds k (record { elem = elem; shape = shape }) typed))
  own_right base arrays (Literal elem shape value) holds typed maps = mapped_right values base arrays (Literal elem shape value) [] (tree.Literal value) (record { at = λ other agree i j index. refl })
  own_right base arrays (One elem shape op a) holds typed maps =
      let of = seen_of Inside names base a in
      let h = operand_right Inside values names base arrays a (own_right base arrays a holds typed.0 maps) in
      let l = Holds-shaped (shape_of a) shape (expr_at values a) (base + length of.passes) (run base of.passes arrays) of.tree typed.1.shape_is h.tree_is in
      mapped_right values base arrays (One elem shape op a) of.passes (tree.One op elem of.tree) (record { at = λ other agree i j index. ap (applied1 op elem) (l.at other agree i j index) })
  own_right base arrays (Two elem shape op a b) holds typed maps =
      let left = seen_of Inside names base a in
      let next = base + length left.passes in
      let right = seen_of Inside names next b in
      let mid = run base left.passes arrays in
      let last = run next right.passes mid in
      let hl = operand_right Inside values names base arrays a (own_right base arrays a holds typed.0 maps.0) in
      let hr = operand_right Inside values names next mid b (own_right next mid b (NamesHold-later types values base arrays names left.passes holds) typed.1 maps.1) in
      let l = Holds-shaped (shape_of a) shape (expr_at values a) (next + length right.passes) last left.tree typed.2.left.shape_is (Holds-later (shape_of a) (expr_at values a) next mid left.tree right.passes hl.tree_is) in
      let r = Holds-shaped (shape_of b) shape (expr_at values b) (next + length right.passes) last right.tree typed.2.right.shape_is hr.tree_is in
      mapped_right values base arrays (Two elem shape op a b) (left.passes ++ right.passes) (tree.Two op elem left.tree right.tree)
      (Holds-over shape (expr_at values (Two elem shape op a b)) base left.passes right.passes arrays (tree.Two op elem left.tree right.tree)
      (record { at = λ other agree i j index. let x = l.at other agree i j index in let y = r.at other agree i j index in λ k. applied2 op elem (x k) (y k) }))
  own_right base arrays (Cast elem shape a) holds typed maps =
      let of = seen_of Inside names base a in
      let h = operand_right Inside values names base arrays a (own_right base arrays a holds typed.0 maps) in
      let l = Holds-shaped (shape_of a) shape (expr_at values a) (base + length of.passes) (run base of.passes arrays) of.tree typed.1.shape_is h.tree_is in
      mapped_right values base arrays (Cast elem shape a) of.passes (tree.Cast elem (elem_of a) of.tree) (record { at = λ other agree i j index. ap (wrapped elem) (l.at other agree i j index) })
  own_right base arrays (Select elem shape c x y) holds typed maps =
      let first = seen_of Inside names base c in
      let next = base + length first.passes in
      let second = seen_of Inside names next x in
      let final = next + length second.passes in
      let third = seen_of Inside names final y in
      let one = run base first.passes arrays in
      let two = run next second.passes one in
      let three = run final third.passes two in
      let holds1 = NamesHold-later types values base arrays names first.passes holds in
      let holds2 = NamesHold-later types values next one names second.passes holds1 in
      let h1 = operand_right Inside values names base arrays c (own_right base arrays c holds typed.0 maps.0) in
      let h2 = operand_right Inside values names next one x (own_right next one x holds1 typed.1 maps.1) in
      let h3 = operand_right Inside values names final two y (own_right final two y holds2 typed.2 maps.2) in
      let t1 = Holds-shaped (shape_of c) shape (expr_at values c) (final + length third.passes) three first.tree typed.3.condition.shape_is
      (Holds-later (shape_of c) (expr_at values c) final two first.tree third.passes (Holds-later (shape_of c) (expr_at values c) next one first.tree second.passes h1.tree_is)) in
      let t2 = Holds-shaped (shape_of x) shape (expr_at values x) (final + length third.passes) three second.tree typed.3.chosen.shape_is (Holds-later (shape_of x) (expr_at values x) final two second.tree third.passes h2.tree_is) in
      let t3 = Holds-shaped (shape_of y) shape (expr_at values y) (final + length third.passes) three third.tree typed.3.other.shape_is h3.tree_is in
      let t = tree.Select elem first.tree second.tree third.tree in
      let f = expr_at values (Select elem shape c x y) in
      mapped_right values base arrays (Select elem shape c x y) (first.passes ++ (second.passes ++ third.passes)) t
      (Holds-over shape f base first.passes (second.passes ++ third.passes) arrays t
      (Holds-over shape f next second.passes third.passes one t
      (record {
        at = λ other agree i j index.
            let u = t1.at other agree i j index in
            let v = t2.at other agree i j index in
            let w = t3.at other agree i j index in
            (λ k. chosen (u k) (v k) (w k)) ∙ chosen-is (expr_at values c i j) (expr_at values x i j) (expr_at values y i j);
      })))
  own_right base arrays (Map elem shape mapping a) holds typed maps =
      let of = seen_of UnderMap names base a in
      let h = operand_right UnderMap values names base arrays a (own_right base arrays a holds typed.0 maps.1) in
      let operand = shape_of-IsExtent types a shapes typed.0 typed.1.no_literal in
      let inside : (i j : ℕ) → IsIndex shape i j → IfSome (source_of mapping (shape_of a) i j) (λ s. IsIndex (shape_of a) s.0 s.1) =
      λ i j index. source_of-inside mapping (shape_of a) i j operand typed.1.fits (subst (λ (s : Extent). IsIndex s i j) (sym typed.1.shape_is) index) in
      mapped_right values base arrays (Map elem shape mapping a) of.passes (under mapping of.tree)
      (Holds-under (elem_of a) (shape_of a) shape mapping (expr_at values a) (base + length of.passes) (run base of.passes arrays) of.tree (map_operand names base a maps.0) inside h.tree_is)
  own_right base arrays (RowFold elem shape fold a) holds typed maps =
      let of = seen_of Inside names base a in
      let h = operand_right Inside values names base arrays a (own_right base arrays a holds typed.0 maps) in
      record {
        array_is =
            array_by-same (kinds.Reduce fold) elem (shape_of a) (over (run base of.passes arrays) of.tree) (expr_at values a) (Holds-now (shape_of a) (expr_at values a) (base + length of.passes) (run base of.passes arrays) of.tree h.tree_is)
            ∙ ap (λ s. grid_with elem s (λ i j. folded fold elem (row_values (shape_of a).cols (expr_at values a i)))) (sym typed.1.shape_is);
        tree_is = λ r. absurd cc;
      }
  own_right base arrays (Fold elem shape fold a) holds typed maps =
      let of = seen_of Inside names base a in
      let h = operand_right Inside values names base arrays a (own_right base arrays a holds typed.0 maps) in
      let operand = shape_of-IsExtent types a shapes typed.0 typed.1.no_literal in
      let rows : Own = record { passes = of.passes; kind = kinds.Reduce fold; domain = shape_of a; elem = elem; tree = of.tree } in
      let place = base + length of.passes in
      let after = run base (of.passes ++ draft_of rows ∷ []) arrays in
      let sums = λ (i : ℕ). folded fold elem (row_values (shape_of a).cols (expr_at values a i)) in
      let column : after place ≡ grid_with elem (record { rows = (shape_of a).rows; cols = 1 }) (λ i j. sums i) =
      next_array base of.passes (draft_of rows) arrays ∙ normal_array (run base of.passes arrays) rows
      ∙ array_by-same (kinds.Reduce fold) elem (shape_of a) (over (run base of.passes arrays) of.tree) (expr_at values a) (Holds-now (shape_of a) (expr_at values a) place (run base of.passes arrays) of.tree h.tree_is) in
      let row : row_values (shape_of a).rows (λ j. leaf_at after (whole_leaf place elem (as_row (shape_of a))) 0 j) ≡ row_values (shape_of a).rows sums =
      row_values-same (shape_of a).rows (λ j. leaf_at after (whole_leaf place elem (as_row (shape_of a))) 0 j) sums
      (λ j low. ap (λ g. value_at (read_as (whole_leaf place elem (as_row (shape_of a))) g) 0 j) column ∙ column_at elem (shape_of a) (λ i j. sums i) place j low) in
      let whole : row_values (shape_of a).rows sums ≡ row_values (shape_of a).rows sums = refl in
      let total : folded fold elem (row_values (shape_of a).rows sums) ≡ folded fold elem (values_with (shape_of a) (expr_at values a)) =
      folded_rows fold elem (λ i. row_values (shape_of a).cols (expr_at values a i)) (λ i. omega (arith, row_values-length (shape_of a).cols (expr_at values a i), operand.some_cols)) (range_with_len 0 (shape_of a).rows)
      (omega (arith, length-range_with_len 0 (shape_of a).rows, operand.some_rows)) in
      record {
        array_is =
            grid_with-same elem (record { rows = 1; cols = 1 }) (λ i j. folded fold elem (row_values (shape_of a).rows (λ j. leaf_at after (whole_leaf place elem (as_row (shape_of a))) i j))) (λ i j. folded fold elem (values_with (shape_of a) (expr_at values a)))
            (λ i j index. let zero_row : i ≡ 0 = omega (arith, index.row) in
            ap (λ r. folded fold elem (row_values (shape_of a).rows (λ j. leaf_at after (whole_leaf place elem (as_row (shape_of a))) r j))) zero_row ∙ ap (folded fold elem) row ∙ total)
            ∙ ap (λ s. grid_with elem s (λ i j. folded fold elem (values_with (shape_of a) (expr_at values a)))) (sym typed.1.shape_is);
        tree_is = λ r. absurd cc;
      }

  -- so an expression that stands somewhere is right there
  pub expression_right : (place : Place) (base : ℕ) (arrays : Arrays) (e : Node) → NamesHold types values base arrays names → IsTyped types e → MapsStand names e
      → Holds (shape_of e) (expr_at values e) (base + length (seen_of place names base e).passes) (run base (seen_of place names base e).passes arrays) (seen_of place names base e).tree
  expression_right place base arrays e holds typed maps = (operand_right place values names base arrays e (own_right base arrays e holds typed maps)).tree_is
