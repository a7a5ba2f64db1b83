-- Loops over statements and names, step by step.
use Rattle.std.proofs.Common.{◌≡◌, ℕ, zero, suc, ◌+◌, ◌<◌, min, List, [], ◌∷◌, ◌++◌, length, get_or, take, refl, sym, ap, ◌∙◌, subst, arith, Bool, false, cond}
use Rattle.std.specs.Prelude.{map, ◌==◌, slice_set}
use Rattle.std.specs.List.{flat_map, count_by}
use Rattle.std.proofs.lemmas.Bool.{cases_order, eq-eqb}
use Rattle.std.proofs.lemmas.Bool.Decides.{nat_tests}
use Rattle.std.proofs.lemmas.Grind.{flat_map-append}
use Rattle.std.proofs.lemmas.List.{append-nil, take_more, get_or-map, length-map, length-set}
use Rattle.std.proofs.lemmas.List.Sums.{sum_by_more}
use mathlib.Core.Logic.{⊎_elim}
use Rattle.shape_check.specs.Node.{Node}
use Rattle.shape_check.specs.Statement.{in_value}
use Rattle.shape_check.specs.declared.checked.CheckedStmt.{CheckedStmt}
use Rattle.shape_check.specs.Checked.{statement_of, program_of}
use Rattle.expr_split.specs.Tally.{bumped, IsTally}

-- the image of one item more
pub map_take_more : {X Y : Type 0} (f : X → Y) (xs : List X) (i : ℕ) (x : X) → i < length xs → x ≡ get_or xs i x → take (i + 1) (map f xs) ≡ take i (map f xs) ++ f x ∷ []
map_take_more f xs i x low is =
    let inside : i < length (map f xs) = subst (λ n. i < n) (sym (length-map xs f)) low in
    take_more (map f xs) i (f x) inside ∙ ap (λ y. take i (map f xs) ++ y ∷ []) (get_or-map f xs i x (f x) low ∙ ap f (sym is))

pub occurrences_more : (f : Node → List ℕ) (stmts : List CheckedStmt) (i : ℕ) (stmt : CheckedStmt) (before after : List ℕ) → i < length stmts → stmt ≡ get_or stmts i stmt → before ≡ flat_map (in_value [] f) (take i (program_of stmts))
    → after ≡ before ++ in_value [] f (statement_of stmt) → after ≡ flat_map (in_value [] f) (take (i + 1) (program_of stmts))
occurrences_more f stmts i stmt before after low is so_far here =
    let g = in_value [] f in
    let one : flat_map g (statement_of stmt ∷ []) ≡ g (statement_of stmt) = append-nil (g (statement_of stmt)) in
    here ∙ ap (λ ks. ks ++ g (statement_of stmt)) so_far ∙ ap (λ ks. flat_map g (take i (program_of stmts)) ++ ks) (sym one)
    ∙ sym (flat_map-append g (take i (program_of stmts)) (statement_of stmt ∷ [])) ∙ ap (flat_map g) (sym (map_take_more statement_of stmts i stmt low is))

set-here : (xs : List ℕ) (k v : ℕ) → k < length xs → get_or (slice_set xs k v) k 0 ≡ v
set-here [] k v h = absurd (omega arith)
set-here (x ∷ xs) zero v h = refl
set-here (x ∷ xs) (suc k) v h = set-here xs k v (omega arith)

set-other : (xs : List ℕ) (j k v : ℕ) → ¬ (j ≡ k) → get_or (slice_set xs k v) j 0 ≡ get_or xs j 0
set-other [] j k v h = refl
set-other (x ∷ xs) zero zero v h = absurd (h refl)
set-other (x ∷ xs) zero (suc k) v h = refl
set-other (x ∷ xs) (suc j) zero v h = refl
set-other (x ∷ xs) (suc j) (suc k) v h = set-other xs j k v (λ e. h (ap suc e))

pub tally_more : (uses names : List ℕ) (count i name : ℕ) → IsTally uses (take i names) count → i < length names → name ≡ get_or names i name → IsTally (bumped uses name) (take (i + 1) names) count
tally_more uses names count i name h low is =
    let v = min (get_or uses name 0) 1 + 1 in
    record {
      counted = length-set uses name v ∙ h.counted;
      each = λ k below.
          let more : count_by (λ j. j == k) (take (i + 1) names) ≡ count_by (λ j. j == k) (take i names) + (let n : ℕ = cond (get_or names i name == k) 1 0 in n) = sum_by_more (λ j. cond (j == k) 1 0) names i name low in
          let old : get_or uses k 0 ≡ min 2 (count_by (λ j. j == k) (take i names)) = h.each k below in
          ⊎_elim
          (λ (same : k ≡ name).
          let hit : ◌≡◌ {A = ℕ} (cond (get_or names i name == k) 1 0) 1 = ap (λ (b : Bool). let n : ℕ = cond b 1 0 in n) (eq-eqb (get_or names i name) k (sym is ∙ sym same)) in
          let inside : name < length uses = omega (arith, h.counted) in
          let set : get_or (bumped uses name) k 0 ≡ min (get_or uses k 0) 1 + 1 = ap (λ j. get_or (bumped uses name) j 0) same ∙ set-here uses name v inside ∙ ap (λ j. min (get_or uses j 0) 1 + 1) (sym same) in
          omega arith)
          (λ other.
          let differ : ¬ (k ≡ name) = λ e. ⊎_elim (λ less. absurd (omega arith)) (λ great. absurd (omega arith)) other in
          let miss : ◌≡◌ {A = ℕ} (cond (get_or names i name == k) 1 0) 0 = ap (λ (b : Bool). let n : ℕ = cond b 1 0 in n) (not_eq (get_or names i name) k (λ e. differ (sym e ∙ sym is))) in
          let set : get_or (bumped uses name) k 0 ≡ get_or uses k 0 = set-other uses k name v differ in
          omega arith)
          (cases_order k name);
    }
  where
    not_eq : (a b : ℕ) → ¬ (a ≡ b) → (a == b) ≡ false
    not_eq a b h = grind (arith, nat_tests)
