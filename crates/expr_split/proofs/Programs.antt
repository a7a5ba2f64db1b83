-- How large all passes of a program are.
use Rattle.std.proofs.Common.{◌≡◌, ℕ, zero, suc, ◌+◌, ◌-◌, ◌*◌, ◌<◌, ◌≤◌, List, [], ◌∷◌, ◌++◌, length, get_or, refl, sym, ap, ◌∙◌, subst, arith, append_assoc, length-append, Bool, true, false, cond, Some, inl, inr, All, add-mul}
use Rattle.std.specs.Prelude.{slice_get, ◌==◌, ◌||◌, nat_lt}
use Rattle.std.specs.List.{sum_by, count_by, flat_map, list_any}
use Rattle.std.proofs.lemmas.Bool.{cases_order, eq-eqb, ltb-false}
use Rattle.std.proofs.lemmas.Grind.{flat_map-append}
use Rattle.std.proofs.lemmas.List.{get_or_at, get_or_append_left, get_or_past}
use Rattle.std.proofs.lemmas.List.Sums.{sum_by-append, sum_by-cons}
use Rattle.std.proofs.lemmas.List.Concat.{flat_map-cons}
use Rattle.std.proofs.lemmas.List.Elements.{All-nil, All-append}
use Rattle.std.proofs.lemmas.Option.{slice_get_within}
use mathlib.Core.Logic.{⊎_elim}
use Rattle.ven_base.specs.Extent.{Extent, IsExtent}
use Rattle.shape_check.specs.declared.typed.ArrayType.{ArrayType}
use Rattle.shape_check.specs.Node.{Node, elem_of, shape_of}
use Rattle.shape_check.specs.Statement.{Statement, Input, Let, Output, in_value}
use Rattle.shape_check.specs.Rules.{IsTyped, IsTypedStatement, AreTyped, declared_type}
use Rattle.shape_check.specs.Occurrences.{names_in, names_under_maps, all_names, uses_of, is_mapped}
use Rattle.shape_check.specs.Checked.{nodes_of, node_work}
use Rattle.shape_check.specs.Laws.{AreShapes}
use Rattle.shape_check.proofs.Typing.{shape_of-IsExtent}
use Rattle.pass_plan.specs.declared.leaf.Leaf.{Leaf}
use Rattle.pass_plan.specs.Tree as tree
use Rattle.pass_plan.specs.Tree.{TreeOver, AtLeaf, height_of}
use Rattle.expr_split.specs.Cuts.{AtOutput, AtLet, is_reduction, height_limit, let_asks, Own, seen_if, no_tree, as_row, own_of, seen_of, statement_of, inputs_in, plan_from}
use Rattle.expr_split.proofs.Expressions.{IsWhole, MapsStand}
use Rattle.expr_split.proofs.Statements.{get_push, let_whole, mapped_here, maps_stand}
use Rattle.expr_split.proofs.Counts.{Small, count-some, extra, extras, extras-append, less-one, trees-small, passes-few}
use Rattle.expr_split.proofs.Elements.{made, made-append, expression-made}
use Rattle.expr_split.proofs.Weights.{full, drafts_weight, drafts_weight-append, expression_weighs}

-- ---- the trees of the names so far

pub record Trees (program done : List Statement) (types : List ArrayType) (names : List (TreeOver Leaf)) : Type 0 where
  pub counted_names : length names ≡ length done
  pub counted_types : length types ≡ length done
  pub shapes : AreShapes types
  pub whole : (k : ℕ) (type : ArrayType) → slice_get types k ≡ Some type → is_mapped program k ≡ true → IsWhole type.elem type.shape (get_or names k no_tree)

pub no_trees : (program : List Statement) → Trees program [] [] []
no_trees program = record { counted_names = refl; counted_types = refl; shapes = λ k type found. absurd cc; whole = λ k type found m. absurd cc }

-- a statement's shape, and its tree where a map asks for it
declared-IsExtent : (types : List ArrayType) (s : Statement) → AreShapes types → IsTypedStatement types s → IsExtent (declared_type s).shape
declared-IsExtent types (Input name elem shape) shapes typed = typed
declared-IsExtent types (Let name value) shapes typed = shape_of-IsExtent types value shapes typed.0 typed.1.no_literal
declared-IsExtent types (Output name value) shapes typed = shape_of-IsExtent types value shapes typed.0 typed.1.no_literal

statement-whole : (program : List Statement) (taken : ℕ) (names : List (TreeOver Leaf)) (base : ℕ) (s : Statement) → is_mapped program (length names) ≡ true
    → IsWhole (declared_type s).elem (declared_type s).shape (statement_of program taken names base s).tree
statement-whole program taken names base (Input name elem shape) m = record { array = taken; leaf = refl }
statement-whole program taken names base (Let name value) m = let_whole program names base value m
statement-whole program taken names base (Output name value) m = record { array = base + length (own_of names base value).passes; leaf = refl }

push_counted : {X Y : Type 0} (xs : List X) (ys : List Y) (x : X) (y : Y) → length xs ≡ length ys → length (xs ++ x ∷ []) ≡ length (ys ++ y ∷ [])
push_counted xs ys x y h = omega (arith, length-append xs (x ∷ []), length-append ys (y ∷ []))

pub trees_push : (program done : List Statement) (types : List ArrayType) (names : List (TreeOver Leaf)) (taken base : ℕ) (s : Statement) → Trees program done types names → IsTypedStatement types s
    → Trees program (done ++ s ∷ []) (types ++ declared_type s ∷ []) (names ++ (statement_of program taken names base s).tree ∷ [])
trees_push program done types names taken base s h typed =
    let t = (statement_of program taken names base s).tree in
    let many : length names ≡ length types = h.counted_names ∙ sym h.counted_types in
    record {
      counted_names = push_counted names done t s h.counted_names;
      counted_types = push_counted types done (declared_type s) s h.counted_types;
      shapes = λ k u found. elim (get_push types (declared_type s) u k found) [
        | inl before ↦ h.shapes k u before
        | inr last ↦ subst (λ (x : ArrayType). IsExtent x.shape) last.1 (declared-IsExtent types s h.shapes typed)
      ];
      whole = λ k u found m. elim (get_push types (declared_type s) u k found) [
        | inl before ↦
            let low = slice_get_within types k u before in
            let w : k < length names = omega arith in
            subst (λ (x : TreeOver Leaf). IsWhole u.elem u.shape x) (sym (get_or_append_left names (t ∷ []) no_tree k w)) (h.whole k u before m)
        | inr last ↦
            let w : length names ≡ k = many ∙ sym last.0 in
            subst (λ (x : TreeOver Leaf). IsWhole u.elem u.shape x) (sym (get_or_at names t [] no_tree k w))
            (subst (λ (x : ArrayType). IsWhole x.elem x.shape t) last.1 (statement-whole program taken names base s (ap (is_mapped program) w ∙ m)))
      ];
    }

pub maps_at : (program done rest : List Statement) (s : Statement) (e : Node) (types : List ArrayType) (names : List (TreeOver Leaf)) → program ≡ done ++ s ∷ rest → Trees program done types names → IsTyped types e
    → in_value [] names_under_maps s ≡ names_under_maps e → MapsStand names e
maps_at program done rest s e types names is trees typed same =
    maps_stand types names e typed (λ k type found m. trees.whole k type found (mapped_here program done rest s k is (ap (list_any (λ j. j == k)) same ∙ m)))

-- ---- passes and elements

abbrev pub stmt_nodes : Statement → ℕ
stmt_nodes s = in_value 0 nodes_of s

abbrev pub value_work : Statement → ℕ
value_work s = in_value 0 node_work s

statement-passes : (program : List Statement) (taken : ℕ) (names : List (TreeOver Leaf)) (base : ℕ) (s : Statement) → length (statement_of program taken names base s).passes ≤ 2 * stmt_nodes s
statement-passes program taken names base (Input name elem shape) = omega arith
statement-passes program taken names base (Let name value) = passes-few (AtLet (let_asks program (length names) (own_of names base value).tree)) names base value
statement-passes program taken names base (Output name value) = passes-few AtOutput names base value

pub plan-passes : (program : List Statement) (taken : ℕ) (names : List (TreeOver Leaf)) (base : ℕ) (stmts : List Statement) → length (plan_from program taken names base stmts).passes ≤ 2 * sum_by stmt_nodes stmts
plan-passes program taken names base [] = omega arith
plan-passes program taken names base (s ∷ more) =
    let seen = statement_of program taken names base s in
    let rest = plan_from program (taken + inputs_in s) (names ++ seen.tree ∷ []) (base + length seen.passes) more in
    omega (
      arith,
      statement-passes program taken names base s,
      plan-passes program (taken + inputs_in s) (names ++ seen.tree ∷ []) (base + length seen.passes) more,
      length-append seen.passes rest.passes,
      sum_by-cons stmt_nodes s more,
    )

statement-made : (program : List Statement) (types : List ArrayType) (taken : ℕ) (names : List (TreeOver Leaf)) (base : ℕ) (s : Statement) → AreShapes types → IsTypedStatement types s
    → 2 * made (statement_of program taken names base s).passes ≤ 3 * value_work s + stmt_nodes s
statement-made program types taken names base (Input name elem shape) shapes typed = omega arith
statement-made program types taken names base (Let name value) shapes typed = expression-made types names shapes (AtLet (let_asks program (length names) (own_of names base value).tree)) base value typed.0 typed.1.no_literal
statement-made program types taken names base (Output name value) shapes typed = expression-made types names shapes AtOutput base value typed.0 typed.1.no_literal

pub plan-made : (program done : List Statement) (types : List ArrayType) (taken : ℕ) (names : List (TreeOver Leaf)) (base : ℕ) (stmts : List Statement) → Trees program done types names → AreTyped types stmts
    → 2 * made (plan_from program taken names base stmts).passes ≤ 3 * sum_by value_work stmts + sum_by stmt_nodes stmts
plan-made program done types taken names base [] trees typed = omega arith
plan-made program done types taken names base (s ∷ more) trees typed =
    let seen = statement_of program taken names base s in
    let rest = plan_from program (taken + inputs_in s) (names ++ seen.tree ∷ []) (base + length seen.passes) more in
    omega (
      arith,
      statement-made program types taken names base s trees.shapes typed.0,
      plan-made program (done ++ s ∷ []) (types ++ declared_type s ∷ []) (taken + inputs_in s) (names ++ seen.tree ∷ []) (base + length seen.passes) more (trees_push program done types names taken base s trees typed.0) typed.1,
      made-append seen.passes rest.passes,
      sum_by-cons stmt_nodes s more,
      sum_by-cons value_work s more,
    )

-- ---- what names add, statement by statement

abbrev pub times : ℕ → List ℕ → ℕ
times k ks = count_by (λ j. j == k) ks

pub no_extras : (weight : ℕ → ℕ) (ks : List ℕ) → extras weight [] ks ≡ 0
no_extras weight [] = refl
no_extras weight (k ∷ ks) =
    let none : tree.nodes_of (get_or [] k no_tree) - 1 ≡ 0 = omega (arith, ap (λ (t : TreeOver Leaf). tree.nodes_of t) (get_or_past [] k no_tree (omega arith))) in
    let prod : weight k * (tree.nodes_of (get_or [] k no_tree) - 1) ≡ weight k * 0 = ap (λ n. weight k * n) none in
    omega (arith, sum_by-cons (extra weight []) k ks, no_extras weight ks)

-- one more name adds what its tree has beyond a leaf, at each of its occurrences
extra-push : (weight : ℕ → ℕ) (names : List (TreeOver Leaf)) (t : TreeOver Leaf) (k : ℕ) → extra weight (names ++ t ∷ []) k ≤ extra weight names k + cond (k == length names) 1 0 * (weight (length names) * (tree.nodes_of t - 1))
extra-push weight names t k =
    ⊎_elim
    (λ same.
    let e = ap (λ (u : TreeOver Leaf). weight k * (tree.nodes_of u - 1)) (get_or_at names t [] no_tree k (sym same)) in
    let g = ap (λ n. weight n * (tree.nodes_of t - 1)) same in
    let f = ap (λ (b : Bool). cond b 1 0 * (weight (length names) * (tree.nodes_of t - 1))) (eq-eqb k (length names) same) in
    omega arith)
    (⊎_elim
    (λ less. let e = ap (λ (u : TreeOver Leaf). weight k * (tree.nodes_of u - 1)) (get_or_append_left names (t ∷ []) no_tree k less) in omega arith)
    (λ more.
    let e = ap (λ (u : TreeOver Leaf). weight k * (tree.nodes_of u - 1)) (get_or_past (names ++ t ∷ []) k no_tree (omega (arith, length-append names (t ∷ [])))) in
    let none : weight k * (tree.nodes_of no_tree - 1) ≡ weight k * 0 = refl in
    omega arith))
    (cases_order k (length names))

pub extras-push : (weight : ℕ → ℕ) (names : List (TreeOver Leaf)) (t : TreeOver Leaf) (ks : List ℕ) → extras weight (names ++ t ∷ []) ks ≤ extras weight names ks + times (length names) ks * (weight (length names) * (tree.nodes_of t - 1))
extras-push weight names t [] = omega arith
extras-push weight names t (k ∷ ks) =
    let c : ℕ = cond (k == length names) 1 0 in
    let x : ℕ = weight (length names) * (tree.nodes_of t - 1) in
    let split : (c + times (length names) ks) * x ≡ c * x + times (length names) ks * x = add-mul c (times (length names) ks) x in
    omega (
      arith,
      extra-push weight names t k,
      extras-push weight names t ks,
      split,
      sum_by-cons (extra weight (names ++ t ∷ [])) k ks,
      sum_by-cons (extra weight names) k ks,
      ap (λ n. n * x) (sum_by-cons (λ j. cond (j == length names) 1 0) k ks),
    )

times-append : (k : ℕ) (xs ys : List ℕ) → times k (xs ++ ys) ≡ times k xs + times k ys
times-append k xs ys = sum_by-append (λ j. cond (j == k) 1 0) xs ys

-- occurrences in what follows are at most all of them
pub times-rest : (program done rest : List Statement) (s : Statement) (k : ℕ) → program ≡ done ++ s ∷ rest → times k (all_names rest) ≤ uses_of program k
times-rest program done rest s k is =
    let f = in_value [] names_in in
    let all : flat_map f program ≡ flat_map f done ++ (f s ++ flat_map f rest) = ap (flat_map f) is ∙ flat_map-append f done (s ∷ rest) in
    omega (arith, ap (times k) all, times-append k (flat_map f done) (f s ++ flat_map f rest), times-append k (f s) (flat_map f rest))

-- a tree is a leaf, or its name occurs at most once
leaf-or-once : (cut : Bool) (e : Node) (base n x : ℕ) (own : Own) → (cut ≡ false → n ≤ 1) → n * (x * (tree.nodes_of (seen_if cut (elem_of e) (shape_of e) base own).tree - 1)) ≤ x * (tree.nodes_of (seen_if cut (elem_of e) (shape_of e) base own).tree - 1)
leaf-or-once true e base n x own h = omega arith
leaf-or-once false e base zero x own h = omega arith
leaf-or-once false e base (suc zero) x own h = omega arith
leaf-or-once false e base (suc (suc n)) x own h = let l = h refl in absurd (omega arith)

pub or-false : (b c : Bool) → (b || c) ≡ false → b ≡ false
or-false true c h = h
or-false false c h = refl

statement-once : (program done rest : List Statement) (taken : ℕ) (names : List (TreeOver Leaf)) (base x : ℕ) (s : Statement) → program ≡ done ++ s ∷ rest
    → times (length names) (all_names rest) * (x * (tree.nodes_of (statement_of program taken names base s).tree - 1)) ≤ x * (tree.nodes_of (statement_of program taken names base s).tree - 1)
statement-once program done rest taken names base x (Input name elem shape) is = omega arith
statement-once program done rest taken names base x (Let name value) is =
    let own = own_of names base value in
    let k = length names in
    let many = nat_lt 1 (uses_of program k) in
    let other = is_mapped program k || nat_lt height_limit (height_of own.tree) in
    leaf-or-once ((many || other) || is_reduction value) value base (times k (all_names rest)) x own
    (λ h.
    let few = ltb-false 1 (uses_of program k) (or-false many other (or-false (many || other) (is_reduction value) h)) in
    let within = times-rest program done rest (Let name value) k is in
    omega arith)
statement-once program done rest taken names base x (Output name value) is = omega arith

-- ---- each tree alone

abbrev adds : List (TreeOver Leaf) → List ℕ → ℕ
adds names ks = extras (λ k. 1) names ks

statement-small : (program : List Statement) (taken : ℕ) (names : List (TreeOver Leaf)) (base most : ℕ) (s : Statement) → stmt_nodes s + adds names (in_value [] names_in s) ≤ most
    → (tree.nodes_of (statement_of program taken names base s).tree ≤ stmt_nodes s + adds names (in_value [] names_in s) + 1) × All (Small most) (statement_of program taken names base s).passes
statement-small program taken names base most (Input name elem shape) low = (omega arith, All-nil (Small most))
statement-small program taken names base most (Let name value) low =
    let h = trees-small names most (AtLet (let_asks program (length names) (own_of names base value).tree)) base value low in (omega (arith, h.0), h.1)
statement-small program taken names base most (Output name value) low = let h = trees-small names most AtOutput base value low in (omega (arith, h.0), h.1)

pub plan-small : (program done stmts : List Statement) (taken : ℕ) (names : List (TreeOver Leaf)) (base most : ℕ) → program ≡ done ++ stmts → sum_by stmt_nodes stmts + adds names (all_names stmts) ≤ most
    → All (Small most) (plan_from program taken names base stmts).passes
plan-small program done [] taken names base most is low = All-nil (Small most)
plan-small program done (s ∷ more) taken names base most is low =
    let seen = statement_of program taken names base s in
    let t = seen.tree in
    let next = base + length seen.passes in
    let rest = plan_from program (taken + inputs_in s) (names ++ t ∷ []) next more in
    let all = ap (adds names) (flat_map-cons (in_value [] names_in) s more) in
    let both = extras-append (λ k. 1) names (in_value [] names_in s) (all_names more) in
    let nodes = sum_by-cons stmt_nodes s more in
    let here = statement-small program taken names base most s (omega (arith, low, all, both, nodes)) in
    let once = statement-once program done more taken names base 1 s is in
    let pushed = extras-push (λ k. 1) names t (all_names more) in
    All-append (Small most) seen.passes rest.passes here.1
    (plan-small program (done ++ s ∷ []) more (taken + inputs_in s) (names ++ t ∷ []) next most (is ∙ sym (append_assoc done (s ∷ []) more)) (omega (arith, low, all, both, nodes, here.0, once, pushed)))

-- ---- all trees together

module _ (w : Extent → ℕ) (weight : ℕ → ℕ) (rows : (s : Extent) → IsExtent s → w (as_row s) ≤ w s) where
  abbrev stmt_full : Statement → ℕ
  stmt_full s = in_value 0 (full w) s

  -- the names' weights are those of their shapes
  abbrev Weighed : List ArrayType → Type 0
  Weighed types = (k : ℕ) (type : ArrayType) → slice_get types k ≡ Some type → weight k ≡ w type.shape

  statement-weighs : (program done rest : List Statement) (types : List ArrayType) (taken : ℕ) (names : List (TreeOver Leaf)) (base : ℕ) (s : Statement) → program ≡ done ++ s ∷ rest → Trees program done types names → IsTypedStatement types s → Weighed types
      → let seen = statement_of program taken names base s in drafts_weight w seen.passes + 2 * (w (declared_type s).shape * (tree.nodes_of seen.tree - 1)) ≤ 30 * stmt_full s + 2 * extras weight names (in_value [] names_in s)
  statement-weighs program done rest types taken names base (Input name elem shape) is trees typed known = omega arith
  statement-weighs program done rest types taken names base (Let name value) is trees typed known =
      let place = AtLet (let_asks program (length names) (own_of names base value).tree) in
      let seen = seen_of place names base value in
      let h = expression_weighs w weight rows types names trees.shapes known place base value typed.0 (maps_at program done rest (Let name value) value types names is trees typed.0 refl) in
      omega (arith, h.is, less-one (w (shape_of value)) (tree.nodes_of seen.tree) (count-some seen.tree))
  statement-weighs program done rest types taken names base (Output name value) is trees typed known =
      let seen = seen_of AtOutput names base value in
      let h = expression_weighs w weight rows types names trees.shapes known AtOutput base value typed.0 (maps_at program done rest (Output name value) value types names is trees typed.0 refl) in
      omega (arith, h.is, less-one (w (shape_of value)) (tree.nodes_of seen.tree) (count-some seen.tree))

  pub plan-weighs : (program done stmts : List Statement) (types : List ArrayType) (taken : ℕ) (names : List (TreeOver Leaf)) (base : ℕ) → program ≡ done ++ stmts → Trees program done types names → AreTyped types stmts
      → ((k : ℕ) (s : Statement) → slice_get program k ≡ Some s → weight k ≡ w (declared_type s).shape) → Weighed types
      → drafts_weight w (plan_from program taken names base stmts).passes ≤ 30 * sum_by stmt_full stmts + 2 * extras weight names (all_names stmts)
  plan-weighs program done [] types taken names base is trees typed by known = omega arith
  plan-weighs program done (s ∷ more) types taken names base is trees typed by known =
      let seen = statement_of program taken names base s in
      let t = seen.tree in
      let next = base + length seen.passes in
      let rest = plan_from program (taken + inputs_in s) (names ++ t ∷ []) next more in
      let all = ap (extras weight names) (flat_map-cons (in_value [] names_in) s more) in
      let both = extras-append weight names (in_value [] names_in s) (all_names more) in
      let here = statement-weighs program done more types taken names base s is trees typed.0 known in
      let mine : weight (length names) ≡ w (declared_type s).shape = by (length names) s (ap (λ p. slice_get p (length names)) is ∙ get_here done s more (length names) (sym trees.counted_names)) in
      let prod : weight (length names) * (tree.nodes_of t - 1) ≡ w (declared_type s).shape * (tree.nodes_of t - 1) = ap (λ x. x * (tree.nodes_of t - 1)) mine in
      let once = statement-once program done more taken names base (weight (length names)) s is in
      let pushed = extras-push weight names t (all_names more) in
      let known' : Weighed (types ++ declared_type s ∷ []) = λ k u found. elim (get_push types (declared_type s) u k found) [
        | inl before ↦ known k u before
        | inr last ↦ ap weight (last.0 ∙ trees.counted_types ∙ sym trees.counted_names) ∙ mine ∙ ap (λ (x : ArrayType). w x.shape) last.1
      ] in
      omega (
        arith,
        here,
        plan-weighs program (done ++ s ∷ []) more (types ++ declared_type s ∷ []) (taken + inputs_in s) (names ++ t ∷ []) next (is ∙ sym (append_assoc done (s ∷ []) more)) (trees_push program done types names taken base s trees typed.0) typed.1 by known',
        drafts_weight-append w seen.passes rest.passes,
        all,
        both,
        sum_by-cons stmt_full s more,
        prod,
        once,
        pushed,
      )
    where
      get_here : {X : Type 0} (xs : List X) (x : X) (ys : List X) (k : ℕ) → length xs ≡ k → slice_get (xs ++ x ∷ ys) k ≡ Some x
      get_here [] x ys zero h = refl
      get_here [] x ys (suc k) h = absurd (omega arith)
      get_here (z ∷ xs) x ys zero h = absurd (omega arith)
      get_here (z ∷ xs) x ys (suc k) h = get_here xs x ys k (omega arith)
