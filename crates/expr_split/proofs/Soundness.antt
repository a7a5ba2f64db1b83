-- The split of every checked program is sound.
use Rattle.std.proofs.Common.{◌≡◌, ◌≢◌, ℕ, zero, suc, ◌+◌, ◌<◌, ◌≤◌, max, List, [], ◌∷◌, ◌++◌, length, get_or, refl, sym, ap, ◌∙◌, subst, arith, append_assoc, length-append, false, Some, All, inl, inr, Contains}
use Rattle.std.specs.Prelude.{ℤ, slice_get, map, ◌⊎◌, AllPairs}
use Rattle.std.specs.List.{range_with_len}
use Rattle.std.proofs.lemmas.Bool.{cases_order}
use mathlib.Core.Logic.{⊎_elim}
use Rattle.std.proofs.lemmas.Grind.{div_ceil_times}
use Rattle.std.proofs.lemmas.List.{get_or_at, get_or_append_left, get_or_default}
use Rattle.std.proofs.lemmas.List.Elements.{All-nil, All-cons, All-head, All-tail, All-append, All-weaker}
use Rattle.std.proofs.lemmas.Option.{slice_get_within}
use Rattle.ven_base.specs.declared.elem.Elem.{Elem}
use Rattle.ven_base.specs.Elem.{IsElement}
use Rattle.ven_base.specs.Extent.{Extent, IsExtent, elements_of}
use Rattle.ven_base.proofs.Operations.{IsElement-one_or_zero}
use Rattle.shape_check.specs.declared.typed.ArrayType.{ArrayType}
use Rattle.shape_check.specs.Statement.{Statement, Input, Let, Output}
use Rattle.shape_check.specs.Rules.{IsTypedStatement, AreTyped, declared_type}
use Rattle.shape_check.specs.Checked.{IsCheckedProgram}
use Rattle.pass_plan.specs.declared.leaf.Leaf.{Leaf}
use Rattle.pass_plan.specs.declared.split.ArrayPlace.{ArrayPlace}
use Rattle.pass_plan.specs.declared.pass.PassKind.{PassKind}
use Rattle.pass_plan.specs.declared.pass.PassKind.TheVariants.{Map, Reduce}
use Rattle.pass_plan.specs.Tree as tree
use Rattle.pass_plan.specs.Tree.{TreeOver, AtLeaf, leaves_of, with_leaves, TypesAgree, is_computed}
use Rattle.pass_plan.specs.Normal.{HasNormalSelects, IsNormal, is_comparison, is_select}
use Rattle.pass_plan.specs.Pass.{Pass, no_leaf, result_of}
use Rattle.pass_plan.specs.Sound.{Split, no_place, CountUp, IsSameLeaf, destinations_of, IsSoundLeaf, IsSoundPass, AreSound, IsSound, end_of, ArePlaced}
use Rattle.expr_split.specs.Cuts.{AtOutput, AtLet, let_asks, Draft, own_of, no_tree, statement_of, inputs_in, plan_from}
use Rattle.expr_split.specs.Places.{input_type, input_types, plan_of, draft_type, array_types, round_up, bytes_of, places_from, end_from, IsPassOf, ArePassesOf, IsSplitOf}
use Rattle.expr_split.proofs.Counts.{Small}
use Rattle.expr_split.proofs.Numbering.{all_left, all_right}
use Rattle.expr_split.proofs.Good.{types-weaker, get_more, get_here, GoodTree, DraftLeaf, GoodDraft, GoodFrom, after, after-length, GoodFrom-append, NamesGood, NamesGood-more, expression_good}
use Rattle.expr_split.proofs.Elements.{rows-within}
use Rattle.expr_split.proofs.Statements.{get_push}
use Rattle.expr_split.proofs.Programs.{Trees, no_trees, trees_push, maps_at}
use Rattle.expr_split.proofs.Totals.{few-passes, memory-few, small-trees, pass-count}

-- ---- the statements of a program

-- the inputs are the first arrays
record InputsKnown (known : List ArrayType) (stmts : List Statement) (inputs before : List ArrayType) (taken : ℕ) : Type 0 where
  inputs_are : inputs ≡ before ++ input_types stmts
  taken_is : taken ≡ length before
  there : (k : ℕ) (type : ArrayType) → slice_get inputs k ≡ Some type → slice_get known k ≡ Some type

pub input_length : (s : Statement) → length (input_type s) ≡ inputs_in s
input_length (Input name elem shape) = refl
input_length (Let name value) = refl
input_length (Output name value) = refl

record StatementGood (known : List ArrayType) (s : Statement) (ds : List Draft) (t : TreeOver Leaf) : Type 0 where
  passes : GoodFrom known ds
  tree : GoodTree (after known ds) (declared_type s).shape (declared_type s).elem t
  some : 1 ≤ length (leaves_of t)

statement_good : (program done rest : List Statement) (types : List ArrayType) (taken : ℕ) (names : List (TreeOver Leaf)) (known inputs before : List ArrayType) (base : ℕ) (s : Statement)
    → program ≡ done ++ s ∷ rest → Trees program done types names → base ≡ length known → NamesGood known types names → IsTypedStatement types s → InputsKnown known (s ∷ rest) inputs before taken
    → let seen = statement_of program taken names base s in StatementGood known s seen.passes seen.tree
statement_good program done rest types taken names known inputs before base (Input name elem shape) is trees counted good typed stand =
    let type : ArrayType = record { elem = elem; shape = shape } in
    let there = stand.there taken type (ap (λ k. slice_get k taken) stand.inputs_are ∙ get_here before type (input_types rest) taken (sym stand.taken_is)) in
    record {
      passes = tt;
      tree = (record { there = get_more known [] taken type there; shaped = typed; fits = tt; gives = refl; fill = IsElement-one_or_zero elem false }, refl);
      some = omega arith;
    }
statement_good program done rest types taken names known inputs before base (Let name value) is trees counted good typed stand =
    let place = AtLet (let_asks program (length names) (own_of names base value).tree) in
    let h = expression_good types names trees.shapes place known base value counted good typed.0 (maps_at program done rest (Let name value) value types names is trees typed.0 refl) typed.1.no_literal in
    record { passes = h.passes; tree = h.tree; some = h.some typed.1.no_literal }
statement_good program done rest types taken names known inputs before base (Output name value) is trees counted good typed stand =
    let h = expression_good types names trees.shapes AtOutput known base value counted good typed.0 (maps_at program done rest (Output name value) value types names is trees typed.0 refl) typed.1.no_literal in
    record { passes = h.passes; tree = h.tree; some = h.some typed.1.no_literal }

plan_good : (program done stmts : List Statement) (types : List ArrayType) (taken : ℕ) (names : List (TreeOver Leaf)) (known inputs before : List ArrayType) (base : ℕ)
    → program ≡ done ++ stmts → Trees program done types names → base ≡ length known → NamesGood known types names → AreTyped types stmts → InputsKnown known stmts inputs before taken
    → GoodFrom known (plan_from program taken names base stmts).passes
plan_good program done [] types taken names known inputs before base is trees counted good typed stand = tt
plan_good program done (s ∷ more) types taken names known inputs before base is trees counted good typed stand =
    let seen = statement_of program taken names base s in
    let next = base + length seen.passes in
    let rest = plan_from program (taken + inputs_in s) (names ++ seen.tree ∷ []) next more in
    let known' = after known seen.passes in
    let here = statement_good program done more types taken names known inputs before base s is trees counted good typed.0 stand in
    let many : length names ≡ length types = trees.counted_names ∙ sym trees.counted_types in
    let good' : NamesGood known' (types ++ declared_type s ∷ []) (names ++ seen.tree ∷ []) = λ k u found. elim (get_push types (declared_type s) u k found) [
      | inl old ↦
          let low = slice_get_within types k u old in
          let w : k < length names = omega arith in
          subst (λ (x : TreeOver Leaf). GoodTree known' u.shape u.elem x × (1 ≤ length (leaves_of x))) (sym (get_or_append_left names (seen.tree ∷ []) no_tree k w)) (NamesGood-more known (map draft_type seen.passes) types names good k u old)
      | inr last ↦
          let w : length names ≡ k = many ∙ sym last.0 in
          subst (λ (x : TreeOver Leaf). GoodTree known' u.shape u.elem x × (1 ≤ length (leaves_of x))) (sym (get_or_at names seen.tree [] no_tree k w))
          (subst (λ (x : ArrayType). GoodTree known' x.shape x.elem seen.tree × (1 ≤ length (leaves_of seen.tree))) last.1 (here.tree, here.some))
    ] in
    GoodFrom-append known seen.passes rest.passes here.passes
    (plan_good program (done ++ s ∷ []) more (types ++ declared_type s ∷ []) (taken + inputs_in s) (names ++ seen.tree ∷ []) known' inputs (before ++ input_type s) next
    (is ∙ sym (append_assoc done (s ∷ []) more)) (trees_push program done types names taken base s trees typed.0) (omega (arith, after-length known seen.passes)) good' typed.1
    (record {
      inputs_are = stand.inputs_are ∙ sym (append_assoc before (input_type s) (input_types more));
      taken_is = omega (arith, stand.taken_is, input_length s, length-append before (input_type s));
      there = λ k type found. get_more known (map draft_type seen.passes) k type (stand.there k type found);
    }))

pub program_good : (program : List Statement) → IsCheckedProgram program → GoodFrom (input_types program) (plan_of program).passes
program_good program checked =
    plan_good program [] program [] 0 [] (input_types program) (input_types program) [] (length (input_types program)) refl (no_trees program) refl (λ k type found. absurd cc) checked.typed
    (record { inputs_are = refl; taken_is = refl; there = λ k type found. found })

-- ---- the places of arrays

pub places-length : (start : ℕ) (types : List ArrayType) → length (places_from start types) ≡ length types
places-length start [] = refl
places-length start (t ∷ types) = ap suc (places-length (round_up start + bytes_of t) types)

pub record IsPlaceOf (type : ArrayType) (place : ArrayPlace) : Type 0 where
  pub elem_is : place.elem ≡ type.elem
  pub shape_is : place.shape ≡ type.shape

some_same : {X : Type 0} (x y : X) → Some x ≡ Some y → x ≡ y
some_same x y h = cc

pub place-at : (start : ℕ) (types : List ArrayType) (k : ℕ) (type : ArrayType) → slice_get types k ≡ Some type → IsPlaceOf type (get_or (places_from start types) k no_place)
place-at start [] k type h = absurd cc
place-at start (t ∷ types) zero type h =
    let same : t ≡ type = some_same t type h in record { elem_is = ap (λ (u : ArrayType). u.elem) same; shape_is = ap (λ (u : ArrayType). u.shape) same }
place-at start (t ∷ types) (suc k) type h = place-at (round_up start + bytes_of t) types k type h

round-up : (n : ℕ) → n ≤ round_up n
round-up n = let times = div_ceil_times n 4 (omega arith) in omega arith

pub end-from : (start : ℕ) (types : List ArrayType) → start ≤ end_from start types
end-from start [] = omega arith
end-from start (t ∷ types) = omega (arith, round-up start, end-from (round_up start + bytes_of t) types)

places-inside : (start : ℕ) (types : List ArrayType) → All (λ a. end_of a ≤ end_from start types) (places_from start types)
places-inside start [] = All-nil (λ (a : ArrayPlace). end_of a ≤ start)
places-inside start (t ∷ types) =
    All-cons (λ (a : ArrayPlace). end_of a ≤ end_from start (t ∷ types)) (record { elem = t.elem; shape = t.shape; place = round_up start }) (places_from (round_up start + bytes_of t) types)
    (end-from (round_up start + bytes_of t) types) (places-inside (round_up start + bytes_of t) types)

places-behind : (low start : ℕ) (types : List ArrayType) → low ≤ start → All (λ (a : ArrayPlace). low ≤ a.place) (places_from start types)
places-behind low start [] h = All-nil (λ (a : ArrayPlace). low ≤ a.place)
places-behind low start (t ∷ types) h =
    All-cons (λ (a : ArrayPlace). low ≤ a.place) (record { elem = t.elem; shape = t.shape; place = round_up start }) (places_from (round_up start + bytes_of t) types)
    (omega (arith, round-up start)) (places-behind low (round_up start + bytes_of t) types (omega (arith, round-up start)))

pub pairs_cons : {X : Type 0} (R : X → X → Type 0) (x : X) (xs : List X) → All (R x) xs → AllPairs R xs → AllPairs R (x ∷ xs)
pairs_cons R x xs h g zero zero d below low = absurd (omega arith)
pairs_cons R x xs h g zero (suc j) d below low = h j d (omega arith)
pairs_cons R x xs h g (suc i) zero d below low = absurd (omega arith)
pairs_cons R x xs h g (suc i) (suc j) d below low = g i j d (omega arith) (omega arith)

places-apart : (start : ℕ) (types : List ArrayType) → AllPairs (λ a b. (end_of a ≤ b.place) ⊎ (end_of b ≤ a.place)) (places_from start types)
places-apart start [] = λ i j d below low. absurd (omega arith)
places-apart start (t ∷ types) =
    let first : ArrayPlace = record { elem = t.elem; shape = t.shape; place = round_up start } in
    let rest = places_from (round_up start + bytes_of t) types in
    pairs_cons (λ (a b : ArrayPlace). (end_of a ≤ b.place) ⊎ (end_of b ≤ a.place)) first rest
    (All-weaker (λ (b : ArrayPlace). end_of first ≤ b.place) (λ (b : ArrayPlace). (end_of first ≤ b.place) ⊎ (end_of b ≤ first.place)) (λ b h. inl h) rest
    (places-behind (end_of first) (round_up start + bytes_of t) types (omega arith)))
    (places-apart (round_up start + bytes_of t) types)

places-shaped : (start : ℕ) (types : List ArrayType) → All (λ (t : ArrayType). IsExtent t.shape) types → All (λ a. IsExtent a.shape) (places_from start types)
places-shaped start [] h = All-nil (λ (a : ArrayPlace). IsExtent a.shape)
places-shaped start (t ∷ types) h =
    All-cons (λ (a : ArrayPlace). IsExtent a.shape) (record { elem = t.elem; shape = t.shape; place = round_up start }) (places_from (round_up start + bytes_of t) types)
    (All-head (λ (t : ArrayType). IsExtent t.shape) t types h) (places-shaped (round_up start + bytes_of t) types (All-tail (λ (t : ArrayType). IsExtent t.shape) t types h))

result-IsExtent : (kind : PassKind) (domain : Extent) → IsExtent domain → IsExtent (result_of kind domain)
result-IsExtent Map domain h = h
result-IsExtent (Reduce fold) domain h = record { some_rows = h.some_rows; some_cols = omega arith; within = let low = rows-within domain h in omega (arith, h.within) }

drafts-shaped : (known : List ArrayType) (ds : List Draft) → GoodFrom known ds → All (λ (t : ArrayType). IsExtent t.shape) (map draft_type ds)
drafts-shaped known [] h = All-nil (λ (t : ArrayType). IsExtent t.shape)
drafts-shaped known (d ∷ ds) h =
    All-cons (λ (t : ArrayType). IsExtent t.shape) (draft_type d) (map draft_type ds) (result-IsExtent d.kind d.domain h.0.shaped) (drafts-shaped (known ++ draft_type d ∷ []) ds h.1)

inputs-shaped : (types : List ArrayType) (stmts : List Statement) → AreTyped types stmts → All (λ (t : ArrayType). IsExtent t.shape) (input_types stmts)
inputs-shaped types [] h = All-nil (λ (t : ArrayType). IsExtent t.shape)
inputs-shaped types (s ∷ more) h = All-append (λ (t : ArrayType). IsExtent t.shape) (input_type s) (input_types more) (one s h.0) (inputs-shaped (types ++ declared_type s ∷ []) more h.1)
  where
    one : (s : Statement) → IsTypedStatement types s → All (λ (t : ArrayType). IsExtent t.shape) (input_type s)
    one (Input name elem shape) h = All-cons (λ (t : ArrayType). IsExtent t.shape) (record { elem = elem; shape = shape }) [] h (All-nil (λ (t : ArrayType). IsExtent t.shape))
    one (Let name value) h = All-nil (λ (t : ArrayType). IsExtent t.shape)
    one (Output name value) h = All-nil (λ (t : ArrayType). IsExtent t.shape)

-- ---- passes by number

computed-as : {L M : Type 0} (t : TreeOver L) (f : L → M) → is_computed (with_leaves t f) ≡ is_computed t
computed-as (AtLeaf l) f = refl
computed-as (tree.Literal n) f = refl
computed-as (tree.One op elem a) f = refl
computed-as (tree.Two op elem a b) f = refl
computed-as (tree.Cast elem from a) f = refl
computed-as (tree.Move elem a) f = refl
computed-as (tree.Select elem c x y) f = refl

comparison-as : {L M : Type 0} (t : TreeOver L) (f : L → M) → is_comparison (with_leaves t f) ≡ is_comparison t
comparison-as (AtLeaf l) f = refl
comparison-as (tree.Literal n) f = refl
comparison-as (tree.One op elem a) f = refl
comparison-as (tree.Two op elem a b) f = refl
comparison-as (tree.Cast elem from a) f = refl
comparison-as (tree.Move elem a) f = refl
comparison-as (tree.Select elem c x y) f = refl

select-as : {L M : Type 0} (t : TreeOver L) (f : L → M) → is_select (with_leaves t f) ≡ is_select t
select-as (AtLeaf l) f = refl
select-as (tree.Literal n) f = refl
select-as (tree.One op elem a) f = refl
select-as (tree.Two op elem a b) f = refl
select-as (tree.Cast elem from a) f = refl
select-as (tree.Move elem a) f = refl
select-as (tree.Select elem c x y) f = refl

selects-as : {L M : Type 0} (t : TreeOver L) (f : L → M) → HasNormalSelects (with_leaves t f) → HasNormalSelects t
selects-as (AtLeaf l) f h = tt
selects-as (tree.Literal n) f h = tt
selects-as (tree.One op elem a) f h = selects-as a f h
selects-as (tree.Two op elem a b) f h = (selects-as a f h.0, selects-as b f h.1)
selects-as (tree.Cast elem from a) f h = selects-as a f h
selects-as (tree.Move elem a) f h = selects-as a f h
selects-as (tree.Select elem c x y) f h = (sym (comparison-as c f) ∙ h.0, sym (computed-as y f) ∙ h.1, selects-as c f h.2, selects-as x f h.3, selects-as y f h.4)

pub normal-as : {L M : Type 0} (t : TreeOver L) (f : L → M) → IsNormal (with_leaves t f) → IsNormal t
normal-as t f h = record { selects = selects-as t f h.selects; root = sym (computed-as t f) ∙ h.root; no_select = sym (select-as t f) ∙ h.no_select }

-- the types of a tree are those of its leaves' numbers, where each number is as another test says too
types-as : {L M : Type 0} (t : TreeOver L) (f : L → M) (Of : M → Elem → Type 0) (P : L → Type 0) (Number : ℤ → Elem → Type 0) (asked : Elem) → TypesAgree (with_leaves t f) Of Number asked → All P (leaves_of t)
    → TypesAgree t (λ l e. P l × Of (f l) e) Number asked
types-as {L} (AtLeaf l) f Of P Number asked h p = (All-head P l [] p, h)
types-as (tree.Literal n) f Of P Number asked h p = h
types-as (tree.One op elem a) f Of P Number asked h p = (h.0, types-as a f Of P Number elem h.1 p)
types-as (tree.Two op elem a b) f Of P Number asked h p =
    (h.0, types-as a f Of P Number elem h.1 (all_left P (leaves_of a) (leaves_of b) p), types-as b f Of P Number elem h.2 (all_right P (leaves_of a) (leaves_of b) p))
types-as (tree.Cast elem from a) f Of P Number asked h p = (h.0, types-as a f Of P Number from h.1 p)
types-as (tree.Move elem a) f Of P Number asked h p = (h.0, types-as a f Of P Number elem h.1 p)
types-as (tree.Select elem c x y) f Of P Number asked h p =
    let rest = all_right P (leaves_of c) (leaves_of x ++ leaves_of y) p in (
      h.0,
      types-as c f Of P Number elem h.1 (all_left P (leaves_of c) (leaves_of x ++ leaves_of y) p),
      types-as x f Of P Number elem h.2 (all_left P (leaves_of x) (leaves_of y) rest),
      types-as y f Of P Number elem h.3 (all_right P (leaves_of x) (leaves_of y) rest),
    )

-- what the types say of each leaf
leaves-typed : {L : Type 0} (t : TreeOver L) (Of : L → Elem → Type 0) (P : L → Type 0) (Number : ℤ → Elem → Type 0) (asked : Elem) → ((l : L) (e : Elem) → Of l e → P l) → TypesAgree t Of Number asked → All P (leaves_of t)
leaves-typed (AtLeaf l) Of P Number asked f h = All-cons P l [] (f l asked h) (All-nil P)
leaves-typed (tree.Literal n) Of P Number asked f h = All-nil P
leaves-typed (tree.One op elem a) Of P Number asked f h = leaves-typed a Of P Number elem f h.1
leaves-typed (tree.Two op elem a b) Of P Number asked f h = All-append P (leaves_of a) (leaves_of b) (leaves-typed a Of P Number elem f h.1) (leaves-typed b Of P Number elem f h.2)
leaves-typed (tree.Cast elem from a) Of P Number asked f h = leaves-typed a Of P Number from f h.1
leaves-typed (tree.Move elem a) Of P Number asked f h = leaves-typed a Of P Number elem f h.1
leaves-typed (tree.Select elem c x y) Of P Number asked f h =
    All-append P (leaves_of c) (leaves_of x ++ leaves_of y) (leaves-typed c Of P Number elem f h.1) (All-append P (leaves_of x) (leaves_of y) (leaves-typed x Of P Number elem f h.2) (leaves-typed y Of P Number elem f h.3))

-- numbers that count up are below their count, and each number below it is among them
pub counted-below : (ks : List ℕ) (count all : ℕ) → CountUp ks count all → (count ≤ all) × All (λ k. k < all) ks
counted-below [] count all h = (omega arith, All-nil (λ k. k < all))
counted-below (k ∷ ks) count all h = let g = counted-below ks (max count (k + 1)) all h.1 in (omega (arith, g.0), All-cons (λ j. j < all) k ks (omega (arith, g.0)) g.1)

each-counted : (P : ℕ → Type 0) (ks : List ℕ) (count all : ℕ) → CountUp ks count all → All P ks → (k : ℕ) → count ≤ k → k < all → P k
each-counted P [] count all h p k low high = absurd (omega arith)
each-counted P (j ∷ ks) count all h p k low high =
    ⊎_elim
    (λ same. subst P (sym same) (All-head P j ks p))
    (λ other. each-counted P ks (max count (j + 1)) all h.1 (All-tail P j ks p) k (omega arith) high)
    (k_or_more k j count h.0 low)
  where
    k_or_more : (k j count : ℕ) → j ≤ count → count ≤ k → (k ≡ j) ⊎ (max count (j + 1) ≤ k)
    k_or_more k j count h low = ⊎_elim (λ (e : k ≡ j). inl e) (λ rest. inr (⊎_elim (λ (l : k < j). omega arith) (λ (m : j < k). omega arith) rest)) (cases_order k j)

-- the leaves that are numbered are those of the tree
numbered-leaves : {L M : Type 0} (t : TreeOver L) (f : L → M) (P : M → Type 0) → All P (leaves_of (with_leaves t f)) → All (λ l. P (f l)) (leaves_of t)
numbered-leaves {L} (AtLeaf l) f P h = All-cons (λ (l : L). P (f l)) l [] (All-head P (f l) [] h) (All-nil (λ (l : L). P (f l)))
numbered-leaves {L} (tree.Literal n) f P h = All-nil (λ (l : L). P (f l))
numbered-leaves (tree.One op elem a) f P h = numbered-leaves a f P h
numbered-leaves {L} (tree.Two op elem a b) f P h =
    let x = leaves_of (with_leaves a f) in let y = leaves_of (with_leaves b f) in
    All-append (λ (l : L). P (f l)) (leaves_of a) (leaves_of b) (numbered-leaves a f P (all_left P x y h)) (numbered-leaves b f P (all_right P x y h))
numbered-leaves (tree.Cast elem from a) f P h = numbered-leaves a f P h
numbered-leaves (tree.Move elem a) f P h = numbered-leaves a f P h
numbered-leaves {L} (tree.Select elem c x y) f P h =
    let u = leaves_of (with_leaves c f) in let v = leaves_of (with_leaves x f) in let w = leaves_of (with_leaves y f) in
    let rest = all_right P u (v ++ w) h in
    All-append (λ (l : L). P (f l)) (leaves_of c) (leaves_of x ++ leaves_of y) (numbered-leaves c f P (all_left P u (v ++ w) h))
    (All-append (λ (l : L). P (f l)) (leaves_of x) (leaves_of y) (numbered-leaves x f P (all_left P v w rest)) (numbered-leaves y f P (all_right P v w rest)))

pub leaves-count : {L M : Type 0} (t : TreeOver L) (f : L → M) → length (leaves_of (with_leaves t f)) ≡ length (leaves_of t)
leaves-count (AtLeaf l) f = refl
leaves-count (tree.Literal n) f = refl
leaves-count (tree.One op elem a) f = leaves-count a f
leaves-count (tree.Two op elem a b) f =
    omega (arith, leaves-count a f, leaves-count b f, length-append (leaves_of a) (leaves_of b), length-append (leaves_of (with_leaves a f)) (leaves_of (with_leaves b f)))
leaves-count (tree.Cast elem from a) f = leaves-count a f
leaves-count (tree.Move elem a) f = leaves-count a f
leaves-count (tree.Select elem c x y) f =
    omega (
      arith,
      leaves-count c f,
      leaves-count x f,
      leaves-count y f,
      length-append (leaves_of c) (leaves_of x ++ leaves_of y),
      length-append (leaves_of x) (leaves_of y),
      length-append (leaves_of (with_leaves c f)) (leaves_of (with_leaves x f) ++ leaves_of (with_leaves y f)),
      length-append (leaves_of (with_leaves x f)) (leaves_of (with_leaves y f)),
    )

-- ---- destinations

pub dests-are : (dest : ℕ) (ds : List Draft) (passes : List Pass) → ArePassesOf dest ds passes → destinations_of passes ≡ range_with_len dest (length passes)
dests-are dest [] [] h = refl
dests-are dest [] (pass ∷ passes) h = absurd h
dests-are dest (d ∷ ds) [] h = absurd h
dests-are dest (d ∷ ds) (pass ∷ passes) h = let p = h.0.dest_is in let q = dests-are (dest + 1) ds passes h.1 in λ k. p k ∷ q k

dests-low : (dest : ℕ) (ds : List Draft) (passes : List Pass) → ArePassesOf dest ds passes → (low : ℕ) → low ≤ dest → All (λ k. low ≤ k) (destinations_of passes)
dests-low dest [] [] h low le = All-nil (λ k. low ≤ k)
dests-low dest [] (pass ∷ passes) h low le = absurd h
dests-low dest (d ∷ ds) [] h low le = absurd h
dests-low dest (d ∷ ds) (pass ∷ passes) h low le = All-cons (λ k. low ≤ k) pass.dest (destinations_of passes) (omega (arith, h.0.dest_is)) (dests-low (dest + 1) ds passes h.1 low (omega arith))

dests-apart : (dest : ℕ) (ds : List Draft) (passes : List Pass) → ArePassesOf dest ds passes → AllPairs (λ a b. a ≢ b) (destinations_of passes)
dests-apart dest [] [] h = λ i j d below low. absurd (omega arith)
dests-apart dest [] (pass ∷ passes) h = absurd h
dests-apart dest (d ∷ ds) [] h = absurd h
dests-apart dest (d ∷ ds) (pass ∷ passes) h =
    pairs_cons (λ (a b : ℕ). a ≢ b) pass.dest (destinations_of passes)
    (All-weaker (λ k. dest + 1 ≤ k) (λ k. pass.dest ≢ k) (λ k low e. absurd (omega (arith, h.0.dest_is, low, e))) (destinations_of passes) (dests-low (dest + 1) ds passes h.1 (dest + 1) (omega arith)))
    (dests-apart (dest + 1) ds passes h.1)

not_later : (ks : List ℕ) (k low : ℕ) → k < low → All (λ j. low ≤ j) ks → ¬ Contains ks k
not_later ks k low below all c = let at = all c.0 0 c.1 in absurd (omega (arith, at, get_or_default ks c.0 0 k c.1, c.2))

pub passes-many : (dest : ℕ) (ds : List Draft) (passes : List Pass) → ArePassesOf dest ds passes → length passes ≡ length ds
passes-many dest [] [] h = refl
passes-many dest [] (pass ∷ passes) h = absurd h
passes-many dest (d ∷ ds) [] h = absurd h
passes-many dest (d ∷ ds) (pass ∷ passes) h = ap suc (passes-many (dest + 1) ds passes h.1)

-- ---- one pass

module _ (types : List ArrayType) where
  abbrev places : List ArrayPlace
  places = places_from 0 types

  -- a leaf of a pass reads an array that is there, which no later pass makes
  leaf-sound : (known more : List ArrayType) (by : ℕ → Extent) (domain : Extent) (later : List ℕ) (leaf : Leaf) → types ≡ known ++ more → All (λ j. length known ≤ j) later → DraftLeaf known by domain leaf → IsSoundLeaf places later domain leaf
  leaf-sound known more by domain later leaf is low h =
      let below = slice_get_within known leaf.array h.type h.there in
      let there : slice_get types leaf.array ≡ Some h.type = ap (λ ts. slice_get ts leaf.array) is ∙ get_more known more leaf.array h.type h.there in
      let place = place-at 0 types leaf.array h.type there in
      record {
        known = omega (arith, below, ap length is, length-append known more, places-length 0 types);
        ready = not_later later leaf.array (length known) below low;
        elem_is = place.elem_is ∙ h.elem_is;
        as_many = ap elements_of place.shape_is ∙ h.as_many;
        shaped = h.shaped;
        fits = h.fits;
        gives = h.gives;
        fill = h.fill;
      }

  pass-sound : (known more : List ArrayType) (d : Draft) (pass : Pass) (later : List ℕ) → types ≡ known ++ draft_type d ∷ more → IsPassOf (length known) d pass → GoodDraft known d → tree.nodes_of d.tree ≤ 8192 → All (λ j. length known ≤ j) later → IsSoundPass places later pass
  pass-sound known more d pass later is of good few low =
      let f : ℕ → Leaf = λ k. get_or pass.leaves k no_leaf in
      let n = length pass.leaves in
      let numbered = of.numbered in
      let Good : Leaf → Type 0 = λ leaf. DraftLeaf known good.by d.domain leaf in
      let typed : TypesAgree (with_leaves pass.tree f) (λ leaf e. DraftLeaf known good.by d.domain leaf × (leaf.elem ≡ e)) (λ k e. IsElement e k) d.elem =
      subst (λ (t : TreeOver Leaf). TypesAgree t (λ leaf e. DraftLeaf known good.by d.domain leaf × (leaf.elem ≡ e)) (λ k e. IsElement e k) d.elem) (sym numbered.is) good.typed in
      let each : All Good (leaves_of (with_leaves pass.tree f)) = leaves-typed (with_leaves pass.tree f) (λ leaf e. DraftLeaf known good.by d.domain leaf × (leaf.elem ≡ e)) Good (λ k e. IsElement e k) d.elem (λ leaf e h. h.0) typed in
      let by_number : All (λ k. Good (f k)) (leaves_of pass.tree) = numbered-leaves pass.tree f Good each in
      let leaf_good : (k : ℕ) → k < n → Good (f k) = λ k low. each-counted (λ k. Good (f k)) (leaves_of pass.tree) 0 n numbered.counted by_number k (omega arith) low in
      let below = counted-below (leaves_of pass.tree) 0 n numbered.counted in
      let own = types-as pass.tree f (λ leaf e. DraftLeaf known good.by d.domain leaf × (leaf.elem ≡ e)) (λ k. k < n) (λ k e. IsElement e k) d.elem typed below.1 in
      let there : slice_get types (length known) ≡ Some (draft_type d) = ap (λ ts. slice_get ts (length known)) is ∙ get_here known (draft_type d) more (length known) refl in
      let there' : slice_get types pass.dest ≡ Some (draft_type d) = ap (slice_get types) of.dest_is ∙ there in
      let place = place-at 0 types pass.dest (draft_type d) there' in
      let leaves_are : All (IsSoundLeaf places later d.domain) pass.leaves = λ k x within.
      subst (λ (leaf : Leaf). IsSoundLeaf places later d.domain leaf) (get_or_default pass.leaves k no_leaf x within) (leaf-sound known (draft_type d ∷ more) good.by d.domain later (f k) is low (leaf_good k within)) in
      record {
        shaped = subst IsExtent (sym of.domain_is) good.shaped;
        result = record {
          known = omega (arith, slice_get_within types pass.dest (draft_type d) there', places-length 0 types);
          elem_is = place.elem_is ∙ sym of.elem_is;
          as_many = ap elements_of place.shape_is ∙ (result_as d pass of);
        };
        leaves = subst (λ (s : Extent). All (IsSoundLeaf places later s) pass.leaves) (sym of.domain_is) leaves_are;
        numbered = numbered.counted;
        distinct = λ i j x lower high same. numbered.once i j x lower high (same_leaf pass.leaves good.by d.domain known i j x (omega arith) high leaf_good same);
        normal = normal-as pass.tree f (subst IsNormal (sym numbered.is) good.normal);
        typed = subst (λ (e : Elem). TypesAgree pass.tree (λ k of. (k < n) × ((f k).elem ≡ of)) (λ k of. IsElement of k) e) (sym of.elem_is)
            (types-weaker pass.tree (λ k e. (k < n) × (DraftLeaf known good.by d.domain (f k) × ((f k).elem ≡ e))) (λ k of. (k < n) × ((f k).elem ≡ of)) (λ k of. IsElement of k) d.elem (λ k e h. (h.0, h.1.1)) own);
        few_nodes = omega (arith, few, pass-count (length known) d pass of);
      }
    where
      result_as : (d : Draft) (pass : Pass) → IsPassOf (length known) d pass → elements_of (result_of d.kind d.domain) ≡ elements_of (result_of pass.kind pass.domain)
      result_as d pass of = sym (λ k. elements_of (result_of (of.kind_is k) (of.domain_is k)))

      one_type : (known : List ArrayType) (i j : ℕ) (a b : ArrayType) → slice_get known i ≡ Some a → slice_get known j ≡ Some b → i ≡ j → a ≡ b
      one_type known i j a b h g same = some_same a b (sym h ∙ ap (slice_get known) same ∙ g)

      same_leaf : (leaves : List Leaf) (by : ℕ → Extent) (domain : Extent) (known : List ArrayType) (i j : ℕ) (x : Leaf) → i < length leaves → j < length leaves → ((k : ℕ) → k < length leaves → DraftLeaf known by domain (get_or leaves k no_leaf))
          → IsSameLeaf (get_or leaves i x) (get_or leaves j x) → get_or leaves i x ≡ get_or leaves j x
      same_leaf leaves by domain known i j x low high good same =
          let a = subst (λ (leaf : Leaf). DraftLeaf known by domain leaf) (get_or_default leaves i no_leaf x low) (good i low) in
          let b = subst (λ (leaf : Leaf). DraftLeaf known by domain leaf) (get_or_default leaves j no_leaf x high) (good j high) in
          let types : a.type ≡ b.type = one_type known (get_or leaves i x).array (get_or leaves j x).array a.type b.type a.there b.there same.array in
          let elem : (get_or leaves i x).elem ≡ (get_or leaves j x).elem = sym a.elem_is ∙ ap (λ (t : ArrayType). t.elem) types ∙ b.elem_is in
          let shape : (get_or leaves i x).shape ≡ (get_or leaves j x).shape = a.by_is ∙ ap by same.array ∙ sym b.by_is in
          λ k. record { array = same.array k; elem = elem k; shape = shape k; map = same.map k }

  passes-sound : (known : List ArrayType) (ds : List Draft) (passes : List Pass) → types ≡ known ++ map draft_type ds → ArePassesOf (length known) ds passes → GoodFrom known ds → All (Small 4096) ds → AreSound places passes
  passes-sound known [] [] is of good few = tt
  passes-sound known [] (pass ∷ passes) is of good few = absurd of
  passes-sound known (d ∷ ds) [] is of good few = absurd of
  passes-sound known (d ∷ ds) (pass ∷ passes) is of good few =
      let count : length known + 1 ≡ length (known ++ draft_type d ∷ []) = omega (arith, length-append known (draft_type d ∷ [])) in
      let low = dests-low (length known) (d ∷ ds) (pass ∷ passes) of (length known) (omega arith) in (
        pass-sound known (map draft_type ds) d pass (destinations_of (pass ∷ passes)) is of.0 good.0 (All-head (Small 4096) d ds few) low,
        passes-sound (known ++ draft_type d ∷ []) ds passes (is ∙ sym (append_assoc known (draft_type d ∷ []) (map draft_type ds))) (subst (λ (n : ℕ). ArePassesOf n ds passes) count of.1) good.1 (All-tail (Small 4096) d ds few),
      )

-- ---- the split

pub split_sound : (program : List Statement) (split : Split) → IsCheckedProgram program → IsSplitOf program split → IsSound split
split_sound program split checked is =
    let ds = (plan_of program).passes in
    let base = length (input_types program) in
    let good = program_good program checked in
    record {
      passes = subst (λ (arrays : List ArrayPlace). AreSound arrays split.passes) (sym is.arrays) (passes-sound (array_types program) (input_types program) ds split.passes refl is.passes good (small-trees program checked));
      one_each = dests-apart base ds split.passes is.passes;
      placed = subst (λ (m : ℕ). ArePlaced split.arrays m) (sym is.memory) (subst (λ (arrays : List ArrayPlace). ArePlaced arrays (end_from 0 (array_types program))) (sym is.arrays)
          (record {
            shaped = places-shaped 0 (array_types program) (All-append (λ (t : ArrayType). IsExtent t.shape) (input_types program) (map draft_type ds) (inputs-shaped [] program checked.typed) (drafts-shaped (input_types program) ds good));
            inside = places-inside 0 (array_types program);
            apart = places-apart 0 (array_types program);
            within = memory-few program checked;
          }));
      few_passes = omega (arith, few-passes program checked, passes-many base ds split.passes is.passes);
    }
