-- Passes before their leaves have numbers, done one after another on whole arrays.
use Rattle.std.proofs.Common.{◌≡◌, ℕ, ◌+◌, ◌<◌, List, [], ◌∷◌, ◌++◌, length, refl, ap, ◌∙◌, arith, true, false, cond}
use Rattle.std.specs.Prelude.{ℤ, ◌==◌}
use Rattle.std.proofs.lemmas.Bool.{eq-eqb}
use Rattle.std.proofs.lemmas.Bool.Decides.{nat_tests}
use Rattle.ven_base.specs.declared.elem.Elem.{Elem}
use Rattle.ven_base.specs.Extent.{Extent, IsIndex}
use Rattle.ven_base.specs.Folding.{folded}
use Rattle.ven_base.specs.Grid.{Grid}
use Rattle.pass_plan.specs.declared.leaf.Leaf.{Leaf}
use Rattle.pass_plan.specs.declared.pass.PassKind.{PassKind}
use Rattle.pass_plan.specs.declared.pass.PassKind.TheVariants.{Map, Reduce}
use Rattle.pass_plan.specs.Tree.{TreeOver, value_of}
use Rattle.pass_plan.specs.Pass.{Pass, Arrays, with_array, leaf_at, tree_at, row_values, result_of, made_at, grid_with, pass_array, arrays_after}
use Rattle.ven_base.proofs.Made.{row_values-same, grid_with-same}
use Rattle.pass_plan.proofs.Values.{value_of-numbered}
use Rattle.expr_split.specs.Cuts.{Draft}
use Rattle.expr_split.specs.Places.{IsPassOf, ArePassesOf}

-- a tree's value over arrays
abbrev pub over : Arrays → TreeOver Leaf → (i j : ℕ) → ℤ
over arrays t i j = value_of t (λ leaf. leaf_at arrays leaf i j)

-- what a pass makes of values
abbrev pub made_by : PassKind → Elem → Extent → (ℕ → ℕ → ℤ) → (i j : ℕ) → ℤ
made_by Map elem domain f i j = f i j
made_by (Reduce fold) elem domain f i j = folded fold elem (row_values domain.cols (f i))

abbrev pub array_by : PassKind → Elem → Extent → (ℕ → ℕ → ℤ) → Grid
array_by kind elem domain f = grid_with elem (result_of kind domain) (made_by kind elem domain f)

abbrev pub draft_array : Arrays → Draft → Grid
draft_array arrays d = array_by d.kind d.elem d.domain (over arrays d.tree)

abbrev pub run : ℕ → List Draft → Arrays → Arrays
run base [] arrays = arrays
run base (d ∷ ds) arrays = run (base + 1) ds (with_array arrays base (draft_array arrays d))

-- equal values make equal arrays
pub array_by-same : (kind : PassKind) (elem : Elem) (domain : Extent) (f g : ℕ → ℕ → ℤ) → ((i j : ℕ) → IsIndex domain i j → f i j ≡ g i j) → array_by kind elem domain f ≡ array_by kind elem domain g
array_by-same Map elem domain f g h = grid_with-same elem domain f g h
array_by-same (Reduce fold) elem domain f g h =
    grid_with-same elem (record { rows = domain.rows; cols = 1 }) (made_by (Reduce fold) elem domain f) (made_by (Reduce fold) elem domain g)
    (λ i j index. ap (folded fold elem) (row_values-same domain.cols (f i) (g i) (λ c below. h i c (record { row = index.row; col = below }))))

-- ---- with one array more

eqb-same : (k : ℕ) → (k == k) ≡ true
eqb-same k = eq-eqb k k refl

eqb-less : (k n : ℕ) → k < n → (k == n) ≡ false
eqb-less k n h = grind (arith, nat_tests)

pub with_array-here : (arrays : Arrays) (n : ℕ) (a : Grid) → with_array arrays n a n ≡ a
with_array-here arrays n a = ap (λ b. cond b a (arrays n)) (eqb-same n)

pub with_array-below : (arrays : Arrays) (n : ℕ) (a : Grid) (k : ℕ) → k < n → with_array arrays n a k ≡ arrays k
with_array-below arrays n a k h = ap (λ b. cond b a (arrays k)) (eqb-less k n h)

-- passes leave the arrays before theirs
pub run-below : (base : ℕ) (ds : List Draft) (arrays : Arrays) (k : ℕ) → k < base → run base ds arrays k ≡ arrays k
run-below base [] arrays k h = refl
run-below base (d ∷ ds) arrays k h = run-below (base + 1) ds (with_array arrays base (draft_array arrays d)) k (omega arith) ∙ with_array-below arrays base (draft_array arrays d) k h

pub run-append : (base : ℕ) (ds es : List Draft) (arrays : Arrays) → run base (ds ++ es) arrays ≡ run (base + length ds) es (run base ds arrays)
run-append base [] es arrays = let same : base ≡ base + 0 = omega arith in ap (λ n. run n es arrays) same
run-append base (d ∷ ds) es arrays =
    let next = with_array arrays base (draft_array arrays d) in
    let same : base + 1 + length ds ≡ base + length (d ∷ ds) = omega arith in
    run-append (base + 1) ds es next ∙ ap (λ n. run n es (run (base + 1) ds next)) same

-- ---- the same with leaves by number

made_at-is : (arrays : Arrays) (pass : Pass) (kind : PassKind) (i j : ℕ) → made_at arrays pass kind i j ≡ made_by kind pass.elem pass.domain (tree_at arrays pass) i j
made_at-is arrays pass Map i j = refl
made_at-is arrays pass (Reduce fold) i j = refl

pub pass_array-is : (arrays : Arrays) (dest : ℕ) (d : Draft) (pass : Pass) → IsPassOf dest d pass → pass_array arrays pass ≡ draft_array arrays d
pass_array-is arrays dest d pass is =
    grid_with-same pass.elem (result_of pass.kind pass.domain) (made_at arrays pass pass.kind) (made_by pass.kind pass.elem pass.domain (tree_at arrays pass)) (λ i j index. made_at-is arrays pass pass.kind i j)
    ∙ array_by-same pass.kind pass.elem pass.domain (tree_at arrays pass) (over arrays d.tree) (λ i j index. value_of-numbered d.tree pass.leaves pass.tree (λ leaf. leaf_at arrays leaf i j) is.numbered)
    ∙ (λ k. array_by (is.kind_is k) (is.elem_is k) (is.domain_is k) (over arrays d.tree))

pub arrays_after-is : (base : ℕ) (ds : List Draft) (passes : List Pass) (arrays : Arrays) → ArePassesOf base ds passes → arrays_after passes arrays ≡ run base ds arrays
arrays_after-is base [] [] arrays h = refl
arrays_after-is base [] (pass ∷ passes) arrays h = absurd h
arrays_after-is base (d ∷ ds) [] arrays h = absurd h
arrays_after-is base (d ∷ ds) (pass ∷ passes) arrays h =
    let dest = h.0.dest_is in
    let made = pass_array-is arrays base d pass h.0 in
    ap (arrays_after passes) (λ k. with_array arrays (dest k) (made k)) ∙ arrays_after-is (base + 1) ds passes (with_array arrays base (draft_array arrays d)) h.1
