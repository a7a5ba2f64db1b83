-- How many leaves of all passes are read under maps: at most the program's map nodes.
use Rattle.std.proofs.Common.{◌≡◌, ℕ, zero, suc, ◌+◌, ◌*◌, ◌≤◌, max, List, [], ◌∷◌, ◌++◌, length, get_or, refl, sym, ap, ◌∙◌, arith, append_assoc, length-append, Bool, true, false, cond, add-mul}
use Rattle.std.specs.Prelude.{◌==◌, ◌||◌, nat_lt}
use Rattle.std.specs.List.{sum_by}
use Rattle.std.proofs.lemmas.Bool.{cases_order, eq-eqb, ltb-false}
use Rattle.std.proofs.lemmas.List.{get_or_at, get_or_append_left, get_or_past}
use Rattle.std.proofs.lemmas.List.Sums.{sum_by-append, sum_by-cons}
use Rattle.std.proofs.lemmas.List.Concat.{flat_map-cons}
use mathlib.Core.Logic.{⊎_elim}
use Rattle.ven_base.specs.declared.elem.Elem.{Elem}
use Rattle.ven_base.specs.declared.mapping.Mapping.{Mapping}
use Rattle.ven_base.specs.declared.mapping.Mapping.TheVariants.{Identity, Shift, Rotate, Section, Stretch, Transpose}
use Rattle.ven_base.specs.Extent.{Extent}
use Rattle.shape_check.specs.Node.{Node, Name, Literal, One, Two, Cast, Select, Map, RowFold, Fold, elem_of, shape_of}
use Rattle.shape_check.specs.Statement.{Statement, Input, Let, Output, in_value}
use Rattle.shape_check.specs.Occurrences.{names_in, all_names, uses_of, is_mapped}
use Rattle.shape_check.specs.Checked.{nodes_of}
use Rattle.pass_plan.specs.declared.leaf.Leaf.{Leaf}
use Rattle.pass_plan.specs.declared.pass.PassKind.TheVariants as kinds
use Rattle.pass_plan.specs.Tree as tree
use Rattle.pass_plan.specs.Tree.{TreeOver, AtLeaf, height_of, leaves_of, with_leaves}
use Rattle.pass_plan.specs.Normal.{is_comparison, condition_if, as_computed, with_selects, as_root, normalised}
use Rattle.pass_plan.specs.Pass.{Pass, no_leaf}
use Rattle.pass_plan.specs.Sound.{Split, CountUp}
use Rattle.pass_plan.specs.Sizes.{map_count, mapped_in}
use Rattle.expr_split.specs.Cuts.{AtOutput, AtLet, UnderMap, Inside, Place, is_reduction, is_cut, height_limit, let_asks, Draft, Own, draft_of, seen_if, under, no_tree, own_of, seen_of, statement_of, inputs_in, plan_from}
use Rattle.expr_split.specs.Places.{input_types, plan_of, IsPassOf, ArePassesOf, IsSplitOf}
use Rattle.expr_split.specs.Maps.{maps_of}
use Rattle.expr_split.proofs.Programs.{stmt_nodes, times, times-rest, or-false}

-- ---- trees

-- how many leaves of a tree stand under maps
abbrev mapped : TreeOver Leaf → ℕ
mapped (AtLeaf leaf) = map_count leaf.map
mapped (tree.Literal n) = 0
mapped (tree.One op elem a) = mapped a
mapped (tree.Two op elem a b) = mapped a + mapped b
mapped (tree.Cast elem from a) = mapped a
mapped (tree.Move elem a) = mapped a
mapped (tree.Select elem c x y) = mapped c + mapped x + mapped y

-- normalising neither brings leaves nor takes any away
condition-mapped : (b : Bool) (elem : Elem) (t : TreeOver Leaf) → mapped (condition_if b elem t) ≡ mapped t
condition-mapped true elem t = refl
condition-mapped false elem t = omega arith

computed-mapped : (elem : Elem) (t : TreeOver Leaf) → mapped (as_computed elem t) ≡ mapped t
computed-mapped elem (AtLeaf l) = refl
computed-mapped elem (tree.Literal n) = refl
computed-mapped elem (tree.One op e a) = refl
computed-mapped elem (tree.Two op e a b) = refl
computed-mapped elem (tree.Cast e from a) = refl
computed-mapped elem (tree.Move e a) = refl
computed-mapped elem (tree.Select e c x y) = refl

selects-mapped : (t : TreeOver Leaf) → mapped (with_selects t) ≡ mapped t
selects-mapped (AtLeaf l) = refl
selects-mapped (tree.Literal n) = refl
selects-mapped (tree.One op elem a) = selects-mapped a
selects-mapped (tree.Two op elem a b) = omega (arith, selects-mapped a, selects-mapped b)
selects-mapped (tree.Cast elem from a) = selects-mapped a
selects-mapped (tree.Move elem a) = selects-mapped a
selects-mapped (tree.Select elem c x y) =
    omega (arith, selects-mapped c, selects-mapped x, selects-mapped y, condition-mapped (is_comparison (with_selects c)) elem (with_selects c), computed-mapped elem (with_selects y))

root-mapped : (elem : Elem) (t : TreeOver Leaf) → mapped (as_root elem t) ≡ mapped t
root-mapped elem (AtLeaf l) = refl
root-mapped elem (tree.Literal n) = refl
root-mapped elem (tree.One op e a) = refl
root-mapped elem (tree.Two op e a b) = refl
root-mapped elem (tree.Cast e from a) = refl
root-mapped elem (tree.Move e a) = refl
root-mapped elem (tree.Select e c x y) = refl

normal-mapped : (elem : Elem) (t : TreeOver Leaf) → mapped (normalised elem t) ≡ mapped t
normal-mapped elem t = root-mapped elem (with_selects t) ∙ selects-mapped t

count-once : (mapping : Mapping) → map_count mapping ≤ 1
count-once Identity = omega arith
count-once (Shift dr dc fill) = omega arith
count-once (Rotate dr dc) = omega arith
count-once (Section r0 nr sr c0 nc sc) = omega arith
count-once (Stretch kr kc) = omega arith
count-once Transpose = omega arith

under-mapped : (mapping : Mapping) (t : TreeOver Leaf) → mapped (under mapping t) ≤ mapped t + 1
under-mapped mapping (AtLeaf l) = omega (arith, count-once mapping)
under-mapped mapping (tree.Literal n) = omega arith
under-mapped mapping (tree.One op elem a) = omega arith
under-mapped mapping (tree.Two op elem a b) = omega arith
under-mapped mapping (tree.Cast elem from a) = omega arith
under-mapped mapping (tree.Move elem a) = omega arith
under-mapped mapping (tree.Select elem c x y) = omega arith

-- ---- passes and names

abbrev drafts_mapped : List Draft → ℕ
drafts_mapped ds = sum_by (λ (d : Draft). mapped d.tree) ds

mapped-append : (ds es : List Draft) → drafts_mapped (ds ++ es) ≡ drafts_mapped ds + drafts_mapped es
mapped-append ds es = sum_by-append (λ (d : Draft). mapped d.tree) ds es

mapped-push : (own : Own) → drafts_mapped (own.passes ++ draft_of own ∷ []) ≡ drafts_mapped own.passes + mapped own.tree
mapped-push own = omega (arith, mapped-append own.passes (draft_of own ∷ []), sum_by-cons (λ (d : Draft). mapped d.tree) (draft_of own) [], normal-mapped own.elem own.tree)

-- what a name's tree has, and those of all names that occur
abbrev brings : List (TreeOver Leaf) → ℕ → ℕ
brings names k = mapped (get_or names k no_tree)

abbrev all_bring : List (TreeOver Leaf) → List ℕ → ℕ
all_bring names ks = sum_by (brings names) ks

bring-append : (names : List (TreeOver Leaf)) (ks js : List ℕ) → all_bring names (ks ++ js) ≡ all_bring names ks + all_bring names js
bring-append names ks js = sum_by-append (brings names) ks js

-- ---- expressions

-- an operand, from the node's own
seen-mapped : (cut : Bool) (elem : Elem) (shape : Extent) (base n : ℕ) (own : Own) → drafts_mapped own.passes + mapped own.tree ≤ n
    → drafts_mapped (seen_if cut elem shape base own).passes + mapped (seen_if cut elem shape base own).tree ≤ n
seen-mapped true elem shape base n own h = omega (arith, h, mapped-push own)
seen-mapped false elem shape base n own h = h

module _ (names : List (TreeOver Leaf)) where
  abbrev most : Node → ℕ
  most e = maps_of e + all_bring names (names_in e)

  operand-mapped : (place : Place) (base : ℕ) (e : Node) → drafts_mapped (own_of names base e).passes + mapped (own_of names base e).tree ≤ most e
      → drafts_mapped (seen_of place names base e).passes + mapped (seen_of place names base e).tree ≤ most e
  operand-mapped place base e h = seen-mapped (is_cut place e) (elem_of e) (shape_of e) base (most e) (own_of names base e) h

  own-mapped : (base : ℕ) (e : Node) → drafts_mapped (own_of names base e).passes + mapped (own_of names base e).tree ≤ most e
  own-mapped base (Name elem shape k) = omega (arith, sum_by-cons (brings names) k [])
  own-mapped base (Literal elem shape value) = omega arith
  own-mapped base (One elem shape op a) = operand-mapped Inside base a (own-mapped base a)
  own-mapped base (Two elem shape op a b) =
      let left = seen_of Inside names base a in
      let next = base + length left.passes in
      let right = seen_of Inside names next b in
      omega (
        arith,
        operand-mapped Inside base a (own-mapped base a),
        operand-mapped Inside next b (own-mapped next b),
        mapped-append left.passes right.passes,
        bring-append names (names_in a) (names_in b),
      )
  own-mapped base (Cast elem shape a) = operand-mapped Inside base a (own-mapped base a)
  own-mapped base (Select elem shape c x y) =
      let first = seen_of Inside names base c in
      let next = base + length first.passes in
      let second = seen_of Inside names next x in
      let last = next + length second.passes in
      let third = seen_of Inside names last y in
      omega (
        arith,
        operand-mapped Inside base c (own-mapped base c),
        operand-mapped Inside next x (own-mapped next x),
        operand-mapped Inside last y (own-mapped last y),
        mapped-append first.passes (second.passes ++ third.passes),
        mapped-append second.passes third.passes,
        bring-append names (names_in c) (names_in x ++ names_in y),
        bring-append names (names_in x) (names_in y),
      )
  own-mapped base (Map elem shape mapping a) =
      omega (arith, operand-mapped UnderMap base a (own-mapped base a), under-mapped mapping (seen_of UnderMap names base a).tree)
  own-mapped base (RowFold elem shape fold a) = operand-mapped Inside base a (own-mapped base a)
  own-mapped base (Fold elem shape fold a) =
      let of = seen_of Inside names base a in
      let rows : Own = record { passes = of.passes; kind = kinds.Reduce fold; domain = shape_of a; elem = elem; tree = of.tree } in
      omega (arith, operand-mapped Inside base a (own-mapped base a), mapped-push rows)

  expression-mapped : (place : Place) (base : ℕ) (e : Node) → drafts_mapped (seen_of place names base e).passes + mapped (seen_of place names base e).tree ≤ most e
  expression-mapped place base e = operand-mapped place base e (own-mapped base e)

-- ---- statements

abbrev stmt_maps : Statement → ℕ
stmt_maps s = in_value 0 maps_of s

statement-mapped : (program : List Statement) (taken : ℕ) (names : List (TreeOver Leaf)) (base : ℕ) (s : Statement)
    → drafts_mapped (statement_of program taken names base s).passes + mapped (statement_of program taken names base s).tree ≤ stmt_maps s + all_bring names (in_value [] names_in s)
statement-mapped program taken names base (Input name elem shape) = omega arith
statement-mapped program taken names base (Let name value) = expression-mapped names (AtLet (let_asks program (length names) (own_of names base value).tree)) base value
statement-mapped program taken names base (Output name value) = expression-mapped names AtOutput base value

-- a tree is a leaf of an array as it stands, or its name occurs at most once
mapped-once : (cut : Bool) (e : Node) (base n : ℕ) (own : Own) → (cut ≡ false → n ≤ 1)
    → n * mapped (seen_if cut (elem_of e) (shape_of e) base own).tree ≤ mapped (seen_if cut (elem_of e) (shape_of e) base own).tree
mapped-once true e base n own h = omega arith
mapped-once false e base zero own h = omega arith
mapped-once false e base (suc zero) own h = omega arith
mapped-once false e base (suc (suc n)) own h = let l = h refl in absurd (omega arith)

statement-once : (program done rest : List Statement) (taken : ℕ) (names : List (TreeOver Leaf)) (base : ℕ) (s : Statement) → program ≡ done ++ s ∷ rest
    → times (length names) (all_names rest) * mapped (statement_of program taken names base s).tree ≤ mapped (statement_of program taken names base s).tree
statement-once program done rest taken names base (Input name elem shape) is = omega arith
statement-once program done rest taken names base (Let name value) is =
    let own = own_of names base value in
    let k = length names in
    let many = nat_lt 1 (uses_of program k) in
    let other = is_mapped program k || nat_lt height_limit (height_of own.tree) in
    mapped-once ((many || other) || is_reduction value) value base (times k (all_names rest)) own
    (λ h.
    let few = ltb-false 1 (uses_of program k) (or-false many other (or-false (many || other) (is_reduction value) h)) in
    let within = times-rest program done rest (Let name value) k is in
    omega arith)
statement-once program done rest taken names base (Output name value) is = omega arith

-- one more name brings what its tree has, at each of its occurrences
brings-push : (names : List (TreeOver Leaf)) (t : TreeOver Leaf) (k : ℕ) → brings (names ++ t ∷ []) k ≤ brings names k + cond (k == length names) 1 0 * mapped t
brings-push names t k =
    ⊎_elim
    (λ same.
    let e = ap mapped (get_or_at names t [] no_tree k (sym same)) in
    let f = ap (λ (b : Bool). cond b 1 0 * mapped t) (eq-eqb k (length names) same) in
    omega arith)
    (⊎_elim
    (λ less. let e = ap mapped (get_or_append_left names (t ∷ []) no_tree k less) in omega arith)
    (λ more. let e = ap mapped (get_or_past (names ++ t ∷ []) k no_tree (omega (arith, length-append names (t ∷ [])))) in omega arith))
    (cases_order k (length names))

bring-push : (names : List (TreeOver Leaf)) (t : TreeOver Leaf) (ks : List ℕ) → all_bring (names ++ t ∷ []) ks ≤ all_bring names ks + times (length names) ks * mapped t
bring-push names t [] = omega arith
bring-push names t (k ∷ ks) =
    let c : ℕ = cond (k == length names) 1 0 in
    let both : (c + times (length names) ks) * mapped t ≡ c * mapped t + times (length names) ks * mapped t = add-mul c (times (length names) ks) (mapped t) in
    omega (
      arith,
      brings-push names t k,
      bring-push names t ks,
      both,
      sum_by-cons (brings (names ++ t ∷ [])) k ks,
      sum_by-cons (brings names) k ks,
      ap (λ n. n * mapped t) (sum_by-cons (λ j. cond (j == length names) 1 0) k ks),
    )

bring-none : (ks : List ℕ) → all_bring [] ks ≡ 0
bring-none [] = refl
bring-none (k ∷ ks) = omega (arith, ap mapped (get_or_past [] k no_tree (omega arith)), sum_by-cons (brings []) k ks, bring-none ks)

plan-mapped : (program done stmts : List Statement) (taken : ℕ) (names : List (TreeOver Leaf)) (base : ℕ) → program ≡ done ++ stmts
    → drafts_mapped (plan_from program taken names base stmts).passes ≤ sum_by stmt_maps stmts + all_bring names (all_names stmts)
plan-mapped program done [] taken names base is = omega arith
plan-mapped program done (s ∷ more) taken names base is =
    let seen = statement_of program taken names base s in
    let t = seen.tree in
    let next = base + length seen.passes in
    let rest = plan_from program (taken + inputs_in s) (names ++ t ∷ []) next more in
    omega (
      arith,
      statement-mapped program taken names base s,
      plan-mapped program (done ++ s ∷ []) more (taken + inputs_in s) (names ++ t ∷ []) next (is ∙ sym (append_assoc done (s ∷ []) more)),
      mapped-append seen.passes rest.passes,
      ap (all_bring names) (flat_map-cons (in_value [] names_in) s more),
      bring-append names (in_value [] names_in s) (all_names more),
      sum_by-cons stmt_maps s more,
      statement-once program done more taken names base s is,
      bring-push names t (all_names more),
    )

-- ---- leaves by number

-- a sum over the numbers below one
abbrev below : ℕ → (ℕ → ℕ) → ℕ
below zero f = 0
below (suc n) f = below n f + f n

below-first : (n : ℕ) (f : ℕ → ℕ) → below (suc n) f ≡ f 0 + below n (λ k. f (suc k))
below-first zero f = omega arith
below-first (suc n) f = omega (arith, below-first n f)

abbrev leaf_maps : Leaf → ℕ
leaf_maps leaf = map_count leaf.map

below-all : (leaves : List Leaf) → sum_by leaf_maps leaves ≡ below (length leaves) (λ k. leaf_maps (get_or leaves k no_leaf))
below-all [] = refl
below-all (leaf ∷ leaves) =
    omega (arith, sum_by-cons leaf_maps leaf leaves, below-all leaves, below-first (length leaves) (λ k. leaf_maps (get_or (leaf ∷ leaves) k no_leaf)))

-- each number below the last occurs
below-next : (f : ℕ → ℕ) (k count : ℕ) → k ≤ count → below (max count (k + 1)) f ≤ below count f + f k
below-next f k count low =
    ⊎_elim
    (λ same.
    let next : max count (k + 1) ≡ suc count = omega arith in
    let e = ap (λ n. below n f) next in
    let g = ap f same in
    omega arith)
    (⊎_elim
    (λ less. let same : max count (k + 1) ≡ count = omega arith in let e = ap (λ n. below n f) same in omega arith)
    (λ more. absurd (omega arith)))
    (cases_order k count)

below-occur : (f : ℕ → ℕ) (ks : List ℕ) (count all : ℕ) → CountUp ks count all → below all f ≤ below count f + sum_by f ks
below-occur f [] count all h = omega (arith, ap (λ n. below n f) h)
below-occur f (k ∷ ks) count all h = omega (arith, below-occur f ks (max count (k + 1)) all h.1, below-next f k count h.0, sum_by-cons f k ks)

occurrences-mapped : (at : ℕ → Leaf) (t : TreeOver ℕ) → mapped (with_leaves t at) ≡ sum_by (λ k. leaf_maps (at k)) (leaves_of t)
occurrences-mapped at (AtLeaf k) = omega (arith, sum_by-cons (λ k. leaf_maps (at k)) k [])
occurrences-mapped at (tree.Literal n) = refl
occurrences-mapped at (tree.One op elem a) = occurrences-mapped at a
occurrences-mapped at (tree.Two op elem a b) = omega (arith, occurrences-mapped at a, occurrences-mapped at b, sum_by-append (λ k. leaf_maps (at k)) (leaves_of a) (leaves_of b))
occurrences-mapped at (tree.Cast elem from a) = occurrences-mapped at a
occurrences-mapped at (tree.Move elem a) = occurrences-mapped at a
occurrences-mapped at (tree.Select elem c x y) =
    omega (
      arith,
      occurrences-mapped at c,
      occurrences-mapped at x,
      occurrences-mapped at y,
      sum_by-append (λ k. leaf_maps (at k)) (leaves_of c) (leaves_of x ++ leaves_of y),
      sum_by-append (λ k. leaf_maps (at k)) (leaves_of x) (leaves_of y),
    )

-- a pass's leaves are no more than its tree's occurrences of them
pass-mapped : (dest : ℕ) (d : Draft) (pass : Pass) → IsPassOf dest d pass → sum_by leaf_maps pass.leaves ≤ mapped d.tree
pass-mapped dest d pass is =
    let at : ℕ → Leaf = λ k. get_or pass.leaves k no_leaf in
    omega (
      arith,
      below-all pass.leaves,
      below-occur (λ k. leaf_maps (at k)) (leaves_of pass.tree) 0 (length pass.leaves) is.numbered.counted,
      occurrences-mapped at pass.tree,
      ap mapped is.numbered.is,
    )

passes-mapped : (dest : ℕ) (ds : List Draft) (passes : List Pass) → ArePassesOf dest ds passes → sum_by (λ (pass : Pass). sum_by leaf_maps pass.leaves) passes ≤ drafts_mapped ds
passes-mapped dest [] [] h = omega arith
passes-mapped dest [] (pass ∷ passes) h = absurd h
passes-mapped dest (d ∷ ds) [] h = absurd h
passes-mapped dest (d ∷ ds) (pass ∷ passes) h =
    omega (
      arith,
      pass-mapped dest d pass h.0,
      passes-mapped (dest + 1) ds passes h.1,
      sum_by-cons (λ (pass : Pass). sum_by leaf_maps pass.leaves) pass passes,
      sum_by-cons (λ (d : Draft). mapped d.tree) d ds,
    )

pub maps_few : (program : List Statement) (split : Split) → IsSplitOf program split → mapped_in split ≤ sum_by stmt_maps program
maps_few program split is =
    omega (
      arith,
      plan-mapped program [] program 0 [] (length (input_types program)) refl,
      bring-none (all_names program),
      passes-mapped (length (input_types program)) (plan_of program).passes split.passes is.passes,
    )

-- ---- map nodes are nodes

maps-nodes : (e : Node) → maps_of e ≤ nodes_of e
maps-nodes (Name elem shape k) = omega arith
maps-nodes (Literal elem shape value) = omega arith
maps-nodes (One elem shape op a) = omega (arith, maps-nodes a)
maps-nodes (Two elem shape op a b) = omega (arith, maps-nodes a, maps-nodes b)
maps-nodes (Cast elem shape a) = omega (arith, maps-nodes a)
maps-nodes (Select elem shape c x y) = omega (arith, maps-nodes c, maps-nodes x, maps-nodes y)
maps-nodes (Map elem shape mapping a) = omega (arith, maps-nodes a)
maps-nodes (RowFold elem shape fold a) = omega (arith, maps-nodes a)
maps-nodes (Fold elem shape fold a) = omega (arith, maps-nodes a)

statement-maps : (s : Statement) → stmt_maps s ≤ stmt_nodes s
statement-maps (Input name elem shape) = omega arith
statement-maps (Let name value) = maps-nodes value
statement-maps (Output name value) = maps-nodes value

pub program-maps : (program : List Statement) → sum_by stmt_maps program ≤ sum_by stmt_nodes program
program-maps [] = omega arith
program-maps (s ∷ more) = omega (arith, statement-maps s, program-maps more, sum_by-cons stmt_maps s more, sum_by-cons stmt_nodes s more)
