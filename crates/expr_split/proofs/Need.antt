-- The need of every checked program is at least five bytes.
use Rattle.std.proofs.Common.{◌≡◌, ℕ, ◌+◌, ◌≤◌, max, List, [], ◌∷◌, ◌++◌, length, get_or, sym, ap, ◌∙◌, subst, arith, length-append, true}
use Rattle.std.specs.Prelude.{fold}
use Rattle.std.specs.List.{list_any}
use Rattle.std.proofs.lemmas.Nat.{mul-le}
use Rattle.std.proofs.lemmas.List.Elements.{All-head}
use Rattle.shape_check.specs.declared.typed.ArrayType.{ArrayType}
use Rattle.shape_check.specs.Statement.{Statement, Input, Let, Output, is_output}
use Rattle.shape_check.specs.Checked.{IsCheckedProgram}
use Rattle.pass_plan.specs.declared.leaf.Leaf.{Leaf}
use Rattle.pass_plan.specs.declared.pass.PassKind.{PassKind}
use Rattle.pass_plan.specs.declared.pass.PassKind.TheVariants.{Map, Reduce}
use Rattle.pass_plan.specs.Tree.{TreeOver, leaves_of}
use Rattle.pass_plan.specs.Normal.{IsNormal}
use Rattle.pass_plan.specs.Pass.{Pass, no_leaf}
use Rattle.pass_plan.specs.Need.{buffers_of, result_buffers, widest_in, pass_need, need_of}
use Rattle.pass_plan.specs.Sound.{Split, CountUp}
use Rattle.pass_plan.proofs.Labels.{label-positive}
use Rattle.pass_plan.proofs.Sums.{each_below}
use Rattle.pass_plan.proofs.Tilings.{size_some}
use Rattle.expr_split.specs.Cuts.{Draft, draft_of, own_of, statement_of, plan_from}
use Rattle.expr_split.specs.Places.{input_types, plan_of, IsPassOf, ArePassesOf, IsSplitOf}
use Rattle.expr_split.proofs.Good.{GoodDraft, GoodFrom}
use Rattle.expr_split.proofs.Soundness.{program_good, counted-below, leaves-count, normal-as}

-- a program with an output has a pass
some-passes : (program : List Statement) (taken : ℕ) (names : List (TreeOver Leaf)) (base : ℕ) (stmts : List Statement) → list_any is_output stmts ≡ true → 1 ≤ length (plan_from program taken names base stmts).passes
some-passes program taken names base [] h = absurd cc
some-passes program taken names base (Input name elem shape ∷ more) h =
    let seen = statement_of program taken names base (Input name elem shape) in
    let rest = plan_from program (taken + 1) (names ++ seen.tree ∷ []) (base + 0) more in
    omega (arith, some-passes program (taken + 1) (names ++ seen.tree ∷ []) (base + 0) more h)
some-passes program taken names base (Let name value ∷ more) h =
    let seen = statement_of program taken names base (Let name value) in
    let next = base + length seen.passes in
    let rest = plan_from program (taken + 0) (names ++ seen.tree ∷ []) next more in
    omega (arith, some-passes program (taken + 0) (names ++ seen.tree ∷ []) next more h, length-append seen.passes rest.passes)
some-passes program taken names base (Output name value ∷ more) h =
    let own = own_of names base value in
    let seen = statement_of program taken names base (Output name value) in
    let next = base + length seen.passes in
    let rest = plan_from program (taken + 0) (names ++ seen.tree ∷ []) next more in
    omega (arith, length-append seen.passes rest.passes, length-append own.passes (draft_of own ∷ []))

some-buffers : (kind : PassKind) → 2 ≤ result_buffers kind
some-buffers Map = omega arith
some-buffers (Reduce fold) = omega arith

-- numbers that count up from 0 are none only where there is no leaf
some-count : (ks : List ℕ) (all : ℕ) → CountUp ks 0 all → 1 ≤ length ks → 1 ≤ all
some-count [] all h some = absurd (omega arith)
some-count (k ∷ ks) all h some = let g = counted-below ks (max 0 (k + 1)) all h.1 in omega (arith, g.0)

first-need : (dest : ℕ) (known : List ArrayType) (d : Draft) (pass : Pass) → IsPassOf dest d pass → GoodDraft known d → 5 ≤ pass_need pass
first-need dest known d pass of good =
    let f = λ (k : ℕ). get_or pass.leaves k no_leaf in
    let many : length (leaves_of pass.tree) ≡ length (leaves_of d.tree) = sym (leaves-count pass.tree f) ∙ ap (λ (t : TreeOver Leaf). length (leaves_of t)) of.numbered.is in
    let leaves = some-count (leaves_of pass.tree) (length pass.leaves) of.numbered.counted (omega (arith, good.some)) in
    let root = (normal-as pass.tree f (subst (λ (t : TreeOver Leaf). IsNormal t) (sym of.numbered.is) good.normal)).root in
    let label = label-positive pass.tree root in
    let buffers : 5 ≤ buffers_of pass = omega (arith, some-buffers pass.kind) in
    let wide : 1 ≤ widest_in pass = omega (arith, size_some pass.elem) in
    mul-le 5 1 (buffers_of pass) (widest_in pass) buffers wide

passes-need : (base : ℕ) (known : List ArrayType) (ds : List Draft) (passes : List Pass) → ArePassesOf base ds passes → GoodFrom known ds → 1 ≤ length ds → 5 ≤ need_of passes
passes-need base known [] passes of good some = absurd (omega arith)
passes-need base known (d ∷ ds) [] of good some = absurd of
passes-need base known (d ∷ ds) (pass ∷ passes) of good some =
    omega (arith, first-need base known d pass of.0 good.0, All-head (λ (p : Pass). pass_need p ≤ need_of (pass ∷ passes)) pass passes (each_below pass_need (pass ∷ passes)))

pub need_some : (program : List Statement) (split : Split) → IsCheckedProgram program → IsSplitOf program split → 5 ≤ need_of split.passes
need_some program split checked is =
    passes-need (length (input_types program)) (input_types program) (plan_of program).passes split.passes is.passes (program_good program checked)
    (some-passes program 0 [] (length (input_types program)) program checked.has_output)
