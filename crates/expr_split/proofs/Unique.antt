-- A program has one split: leaves in the order of their first occurrences have one numbering.
use Rattle.std.proofs.Common.{◌≡◌, ◌≢◌, ℕ, ◌+◌, ◌<◌, ◌≤◌, max, List, [], ◌∷◌, ◌++◌, length, get_or, map, refl, sym, ap, ◌∙◌, subst, arith, inl, inr, All}
use Rattle.std.specs.Prelude.{AllPairs}
use Rattle.std.proofs.lemmas.Bool.{cases_order, cases_lt}
use Rattle.std.proofs.lemmas.List.{ext_get_or, map-append}
use Rattle.std.proofs.lemmas.List.Elements.{All-head}
use mathlib.Core.Logic.{⊎_elim}
use Rattle.shape_check.specs.Statement.{Statement}
use Rattle.pass_plan.specs.declared.leaf.Leaf.{Leaf}
use Rattle.pass_plan.specs.Tree.{TreeOver, AtLeaf, Literal, One, Two, Cast, Move, Select, leaves_of, with_leaves}
use Rattle.pass_plan.specs.Pass.{Pass, no_leaf}
use Rattle.pass_plan.specs.Sound.{Split, CountUp, IsNumbering}
use Rattle.expr_split.specs.Cuts.{Draft}
use Rattle.expr_split.specs.Places.{input_types, plan_of, IsPassOf, ArePassesOf, IsSplitOf}
use Rattle.expr_split.proofs.Numbering.{all_left, all_right}
use Rattle.expr_split.proofs.Soundness.{counted-below}

abbrev at : List Leaf → ℕ → Leaf
at leaves k = get_or leaves k no_leaf

abbrev Once : List Leaf → Type 0
Once leaves = AllPairs (λ a b. a ≢ b) leaves

one-place : (leaves : List Leaf) (j k : ℕ) → Once leaves → j < length leaves → k < length leaves → at leaves j ≡ at leaves k → j ≡ k
one-place leaves j k once low low' same =
    ⊎_elim (λ e. e) (⊎_elim (λ less. absurd (once j k no_leaf less low' same)) (λ more. absurd (once k j no_leaf more low (sym same)))) (cases_order j k)

-- ---- leaves

-- the first leaves of two lists are the same
abbrev Agree : ℕ → List Leaf → List Leaf → Type 0
Agree count xs ys = (k : ℕ) → k < count → at xs k ≡ at ys k

-- the next leaf has one number
number-one : (xs ys : List Leaf) (count j k : ℕ) → Once xs → Once ys → Agree count xs ys → count ≤ length xs → count ≤ length ys → j ≤ count → k ≤ count → j < length xs → k < length ys → at xs j ≡ at ys k → j ≡ k
number-one xs ys count j k once once' agree low low' most most' inside inside' same =
    elim (cases_lt j count) [
      | inl old ↦ one-place ys j k once' (omega arith) inside' (sym (agree j old) ∙ same)
      | inr new ↦
          elim (cases_lt k count) [
            | inl old ↦ let e : j ≡ k = one-place xs j k once inside (omega arith) (same ∙ sym (agree k old)) in e
            | inr last ↦ omega arith
          ]
    ]

agree-more : (xs ys : List Leaf) (count j : ℕ) → Agree count xs ys → j ≤ count → at xs j ≡ at ys j → Agree (max count (j + 1)) xs ys
agree-more xs ys count j agree most same i below =
    elim (cases_lt i count) [
      | inl old ↦ agree i old
      | inr new ↦ let e : i ≡ j = omega arith in ap (at xs) e ∙ same ∙ ap (at ys) (sym e)
    ]

leaves-one : (js ks : List ℕ) (xs ys : List Leaf) (count : ℕ) → Once xs → Once ys → Agree count xs ys → CountUp js count (length xs) → CountUp ks count (length ys) → map (at xs) js ≡ map (at ys) ks → xs ≡ ys
leaves-one [] [] xs ys count once once' agree h g same = ext_get_or no_leaf xs ys (omega arith) (λ k low. agree k (omega arith))
leaves-one [] (k ∷ ks) xs ys count once once' agree h g same = absurd cc
leaves-one (j ∷ js) [] xs ys count once once' agree h g same = absurd cc
leaves-one (j ∷ js) (k ∷ ks) xs ys count once once' agree h g same =
    let head : at xs j ≡ at ys k = cc in
    let tail : map (at xs) js ≡ map (at ys) ks = cc in
    let up = (counted-below js (max count (j + 1)) (length xs) h.1).0 in
    let up' = (counted-below ks (max count (k + 1)) (length ys) g.1).0 in
    let one : j ≡ k = number-one xs ys count j k once once' agree (omega arith) (omega arith) h.0 g.0 (omega arith) (omega arith) head in
    leaves-one js ks xs ys (max count (j + 1)) once once' (agree-more xs ys count j agree h.0 (head ∙ ap (at ys) (sym one))) h.1
    (subst (λ (n : ℕ). CountUp ks (max count (n + 1)) (length ys)) (sym one) g.1) tail

-- ---- trees

leaves-map : {L M : Type 0} (t : TreeOver L) (f : L → M) → leaves_of (with_leaves t f) ≡ map f (leaves_of t)
leaves-map (AtLeaf l) f = refl
leaves-map (Literal n) f = refl
leaves-map (One op elem a) f = leaves-map a f
leaves-map (Two op elem a b) f = (λ k. leaves-map a f k ++ leaves-map b f k) ∙ sym (map-append f (leaves_of a) (leaves_of b))
leaves-map (Cast elem from a) f = leaves-map a f
leaves-map (Move elem a) f = leaves-map a f
leaves-map (Select elem c x y) f =
    (λ k. leaves-map c f k ++ (leaves-map x f k ++ leaves-map y f k)) ∙ ap (λ ls. map f (leaves_of c) ++ ls) (sym (map-append f (leaves_of x) (leaves_of y)))
    ∙ sym (map-append f (leaves_of c) (leaves_of x ++ leaves_of y))

module _ (leaves : List Leaf) (once : Once leaves) where
  abbrev Within : TreeOver ℕ → Type 0
  Within t = All (λ k. k < length leaves) (leaves_of t)

  left : (xs ys : List ℕ) → All (λ k. k < length leaves) (xs ++ ys) → All (λ k. k < length leaves) xs
  left xs ys h = all_left (λ k. k < length leaves) xs ys h

  right : (xs ys : List ℕ) → All (λ k. k < length leaves) (xs ++ ys) → All (λ k. k < length leaves) ys
  right xs ys h = all_right (λ k. k < length leaves) xs ys h

  tree-one : (m n : TreeOver ℕ) → Within m → Within n → with_leaves m (at leaves) ≡ with_leaves n (at leaves) → m ≡ n
  tree-one (AtLeaf j) (AtLeaf k) h g same =
      ap AtLeaf (one-place leaves j k once (All-head (λ i. i < length leaves) j [] h) (All-head (λ i. i < length leaves) k [] g) (let e : at leaves j ≡ at leaves k = cc in e))
  tree-one (Literal v) (Literal w) h g same = let e : v ≡ w = cc in ap Literal e
  tree-one (One op elem a) (One op' elem' b) h g same =
      let p = tree-one a b h g cc in
      let o : op ≡ op' = cc in
      let e : elem ≡ elem' = cc in
      λ k. One (o k) (e k) (p k)
  tree-one (Two op elem a b) (Two op' elem' c d) h g same =
      let p = tree-one a c (left (leaves_of a) (leaves_of b) h) (left (leaves_of c) (leaves_of d) g) cc in
      let q = tree-one b d (right (leaves_of a) (leaves_of b) h) (right (leaves_of c) (leaves_of d) g) cc in
      let o : op ≡ op' = cc in
      let e : elem ≡ elem' = cc in
      λ k. Two (o k) (e k) (p k) (q k)
  tree-one (Cast elem from a) (Cast elem' from' b) h g same =
      let p = tree-one a b h g cc in
      let e : elem ≡ elem' = cc in
      let f : from ≡ from' = cc in
      λ k. Cast (e k) (f k) (p k)
  tree-one (Move elem a) (Move elem' b) h g same =
      let p = tree-one a b h g cc in
      let e : elem ≡ elem' = cc in
      λ k. Move (e k) (p k)
  tree-one (Select elem c x y) (Select elem' d v w) h g same =
      let rest = right (leaves_of c) (leaves_of x ++ leaves_of y) h in
      let rest' = right (leaves_of d) (leaves_of v ++ leaves_of w) g in
      let p = tree-one c d (left (leaves_of c) (leaves_of x ++ leaves_of y) h) (left (leaves_of d) (leaves_of v ++ leaves_of w) g) cc in
      let q = tree-one x v (left (leaves_of x) (leaves_of y) rest) (left (leaves_of v) (leaves_of w) rest') cc in
      let r = tree-one y w (right (leaves_of x) (leaves_of y) rest) (right (leaves_of v) (leaves_of w) rest') cc in
      let e : elem ≡ elem' = cc in
      λ k. Select (e k) (p k) (q k) (r k)
  tree-one m n h g same = absurd cc

-- ---- numberings, passes and splits

record SameNumbering (xs ys : List Leaf) (m n : TreeOver ℕ) : Type 0 where
  leaves : xs ≡ ys
  tree : m ≡ n

numbering-one : (t : TreeOver Leaf) (xs ys : List Leaf) (m n : TreeOver ℕ) → IsNumbering t xs m → IsNumbering t ys n → SameNumbering xs ys m n
numbering-one t xs ys m n h g =
    let occurrences : map (at xs) (leaves_of m) ≡ map (at ys) (leaves_of n) = sym (leaves-map m (at xs)) ∙ ap leaves_of (h.is ∙ sym g.is) ∙ leaves-map n (at ys) in
    let same : xs ≡ ys = leaves-one (leaves_of m) (leaves_of n) xs ys 0 h.once g.once (λ k low. absurd (omega arith)) h.counted g.counted occurrences in
    let other : IsNumbering t xs n = subst (λ (ls : List Leaf). IsNumbering t ls n) (sym same) g in
    record {
      leaves = same;
      tree = tree-one xs h.once m n (counted-below (leaves_of m) 0 (length xs) h.counted).1 (counted-below (leaves_of n) 0 (length xs) other.counted).1 (h.is ∙ sym other.is);
    }

pass-one : (dest : ℕ) (draft : Draft) (a b : Pass) → IsPassOf dest draft a → IsPassOf dest draft b → a ≡ b
pass-one dest draft a b h g =
    let same = numbering-one draft.tree a.leaves b.leaves a.tree b.tree h.numbered g.numbered in
    let kind = h.kind_is ∙ sym g.kind_is in
    let domain = h.domain_is ∙ sym g.domain_is in
    let made = h.dest_is ∙ sym g.dest_is in
    let elem = h.elem_is ∙ sym g.elem_is in
    λ k. record { kind = kind k; domain = domain k; leaves = same.leaves k; tree = same.tree k; dest = made k; elem = elem k }

passes-one : (dest : ℕ) (drafts : List Draft) (ps qs : List Pass) → ArePassesOf dest drafts ps → ArePassesOf dest drafts qs → ps ≡ qs
passes-one dest [] [] [] h g = refl
passes-one dest [] [] (q ∷ qs) h g = absurd g
passes-one dest [] (p ∷ ps) qs h g = absurd h
passes-one dest (draft ∷ drafts) [] qs h g = absurd h
passes-one dest (draft ∷ drafts) (p ∷ ps) [] h g = absurd g
passes-one dest (draft ∷ drafts) (p ∷ ps) (q ∷ qs) h g =
    let one = pass-one dest draft p q h.0 g.0 in
    let rest = passes-one (dest + 1) drafts ps qs h.1 g.1 in
    λ k. one k ∷ rest k

pub split_one : (program : List Statement) (a b : Split) → IsSplitOf program a → IsSplitOf program b → a ≡ b
split_one program a b h g =
    let passes = passes-one (length (input_types program)) (plan_of program).passes a.passes b.passes h.passes g.passes in
    let arrays = h.arrays ∙ sym g.arrays in
    let table = h.table ∙ sym g.table in
    let memory = h.memory ∙ sym g.memory in
    λ k. record { passes = passes k; arrays = arrays k; table = table k; memory = memory k }
