-- How many nodes the trees of all passes have together: at most four times the program's.
use Rattle.std.proofs.Common.{◌≡◌, ℕ, zero, suc, ◌+◌, ◌-◌, ◌*◌, ◌≤◌, List, [], ◌∷◌, ◌++◌, length, get_or, refl, sym, ap, ◌∙◌, arith, append_assoc, Bool, true, false}
use Rattle.std.specs.Prelude.{not, ◌||◌, nat_lt, map}
use Rattle.std.specs.List.{sum_by}
use Rattle.std.proofs.lemmas.Bool.{ltb-false}
use Rattle.std.proofs.lemmas.List.{length-map, map-append}
use Rattle.std.proofs.lemmas.List.Concat.{flat_map-cons}
use Rattle.std.proofs.lemmas.List.Sums.{sum_by-append, sum_by-cons}
use Rattle.ven_base.specs.declared.elem.Elem.{Elem}
use Rattle.shape_check.specs.declared.typed.ArrayType.{ArrayType}
use Rattle.shape_check.specs.Node.{Node, Name, Literal, One, Two, Cast, Select, Map, RowFold, Fold, elem_of, shape_of, is_literal}
use Rattle.shape_check.specs.Statement.{Statement, Input, Let, Output, in_value}
use Rattle.shape_check.specs.Rules.{IsTyped, IsTypedStatement, AreTyped, declared_type}
use Rattle.shape_check.specs.Occurrences.{names_in, all_names, uses_of, is_mapped}
use Rattle.shape_check.specs.Checked.{nodes_of}
use Rattle.pass_plan.specs.declared.leaf.Leaf.{Leaf}
use Rattle.pass_plan.specs.declared.pass.PassKind.TheVariants as kinds
use Rattle.pass_plan.specs.Tree as tree
use Rattle.pass_plan.specs.Tree.{TreeOver, AtLeaf, height_of}
use Rattle.pass_plan.specs.Normal.{is_comparison, with_selects}
use Rattle.expr_split.specs.Cuts.{AtOutput, AtLet, UnderMap, Inside, Place, is_reduction, is_name, is_cut, height_limit, let_asks, Draft, Own, Seen, draft_of, seen_if, under, no_tree, own_of, seen_of, statement_of, inputs_in, plan_from}
use Rattle.expr_split.proofs.Expressions.{MapsStand, not_cut, map_operand}
use Rattle.expr_split.proofs.Counts.{count-some, condition-count, as_computed-count, as_root-count, extra, extras, extras-append}
use Rattle.expr_split.proofs.Programs.{Trees, trees_push, maps_at, stmt_nodes, times, extras-push, times-rest, or-false}

abbrev pub total : List Draft → ℕ
total ds = sum_by (λ (d : Draft). tree.nodes_of d.tree) ds

total-append : (ds es : List Draft) → total (ds ++ es) ≡ total ds + total es
total-append ds es = sum_by-append (λ (d : Draft). tree.nodes_of d.tree) ds es

total-one : (d : Draft) → total (d ∷ []) ≡ tree.nodes_of d.tree
total-one d = omega (arith, sum_by-cons (λ (d : Draft). tree.nodes_of d.tree) d [])

-- ---- trees as they grow where they are normalised, but for the root

abbrev grown : TreeOver Leaf → ℕ
grown t = tree.nodes_of (with_selects t)

grown-select : (elem : Elem) (c x y : TreeOver Leaf) → grown (tree.Select elem c x y) ≤ grown c + grown x + grown y + 4
grown-select elem c x y = omega (arith, condition-count (is_comparison (with_selects c)) elem (with_selects c), as_computed-count elem (with_selects y))

own-grown : (own : Own) → tree.nodes_of (draft_of own).tree ≤ grown own.tree + 1
own-grown own = as_root-count own.elem (with_selects own.tree)

-- the names' trees, and what they add at so many names
abbrev grown_names : List (TreeOver Leaf) → List (TreeOver Leaf)
grown_names names = map with_selects names

abbrev adds : List (TreeOver Leaf) → List ℕ → ℕ
adds names ks = extras (λ k. 1) (grown_names names) ks

grown-name : (names : List (TreeOver Leaf)) (k : ℕ) → get_or (grown_names names) k no_tree ≡ with_selects (get_or names k no_tree)
grown-name [] zero = refl
grown-name [] (suc k) = refl
grown-name (t ∷ names) zero = refl
grown-name (t ∷ names) (suc k) = grown-name names k

-- ---- expressions

-- so many nodes an expression's own trees have: as an operand's tree, as a cut, and as a cut that is an operand
record Grows (names : List (TreeOver Leaf)) (e : Node) (own : Own) : Type 0 where
  inlined : is_reduction e ≡ false → total own.passes + grown own.tree + 3 ≤ 4 * nodes_of e + adds names (names_in e)
  cut : total own.passes + tree.nodes_of (draft_of own).tree + 2 ≤ 4 * nodes_of e + adds names (names_in e)
  operand : is_name e ≡ false → is_literal e ≡ false → total own.passes + tree.nodes_of (draft_of own).tree + 4 ≤ 4 * nodes_of e + adds names (names_in e)

record SeenGrows (names : List (TreeOver Leaf)) (e : Node) (seen : Seen) : Type 0 where
  is : total seen.passes + grown seen.tree + 3 ≤ 4 * nodes_of e + adds names (names_in e)

seen_grows : (names : List (TreeOver Leaf)) (cut : Bool) (base : ℕ) (e : Node) (own : Own) → (cut ≡ false → is_reduction e ≡ false) → (cut ≡ true → (is_name e ≡ false) × (is_literal e ≡ false)) → Grows names e own
    → SeenGrows names e (seen_if cut (elem_of e) (shape_of e) base own)
seen_grows names true base e own plain inner h = record { is = omega (arith, h.operand (inner refl).0 (inner refl).1, total-append own.passes (draft_of own ∷ []), total-one (draft_of own)) }
seen_grows names false base e own plain inner h = record { is = omega (arith, h.inlined (plain refl)) }

-- a reduction is neither a name nor a literal
reduction-inner : (e : Node) → is_reduction e ≡ true → (is_name e ≡ false) × (is_literal e ≡ false)
reduction-inner (Name elem shape k) h = absurd cc
reduction-inner (Literal elem shape value) h = absurd cc
reduction-inner (One elem shape op a) h = (refl, refl)
reduction-inner (Two elem shape op a b) h = (refl, refl)
reduction-inner (Cast elem shape a) h = (refl, refl)
reduction-inner (Select elem shape c x y) h = (refl, refl)
reduction-inner (Map elem shape mapping a) h = (refl, refl)
reduction-inner (RowFold elem shape fold a) h = (refl, refl)
reduction-inner (Fold elem shape fold a) h = (refl, refl)

not-true : (b : Bool) → not b ≡ true → b ≡ false
not-true true h = sym h
not-true false h = refl

inside_grows : (names : List (TreeOver Leaf)) (base : ℕ) (e : Node) → Grows names e (own_of names base e) → SeenGrows names e (seen_of Inside names base e)
inside_grows names base e h = seen_grows names (is_cut Inside e) base e (own_of names base e) (not_cut Inside e) (reduction-inner e) h

mapped_grows : (names : List (TreeOver Leaf)) (base : ℕ) (e : Node) → is_literal e ≡ false → Grows names e (own_of names base e) → SeenGrows names e (seen_of UnderMap names base e)
mapped_grows names base e array h = seen_grows names (is_cut UnderMap e) base e (own_of names base e) (not_cut UnderMap e) (λ c. (not-true (is_name e) c, array)) h

-- an inner node's own tree
inner_grows : (names : List (TreeOver Leaf)) (e : Node) (own : Own) → total own.passes + grown own.tree + 5 ≤ 4 * nodes_of e + adds names (names_in e) → Grows names e own
inner_grows names e own h = record {
  inlined = λ r. omega arith;
  cut = omega (arith, own-grown own);
  operand = λ n l. omega (arith, own-grown own);
}

module _ (types : List ArrayType) (names : List (TreeOver Leaf)) where
  own_grows : (base : ℕ) (e : Node) → IsTyped types e → MapsStand names e → Grows names e (own_of names base e)
  own_grows base (Name elem shape k) typed maps =
      let t = get_or names k no_tree in
      let own = own_of names base (Name elem shape k) in
      let same : tree.nodes_of (get_or (grown_names names) k no_tree) ≡ grown t = ap (λ (u : TreeOver Leaf). tree.nodes_of u) (grown-name names k) in
      let one = sum_by-cons (extra (λ k. 1) (grown_names names)) k [] in
      let some = count-some (with_selects t) in
      record { inlined = λ r. omega arith; cut = omega (arith, own-grown own); operand = λ n l. absurd cc }
  own_grows base (Literal elem shape value) typed maps = record { inlined = λ r. omega arith; cut = omega arith; operand = λ n l. absurd cc }
  own_grows base (One elem shape op a) typed maps =
      let h = inside_grows names base a (own_grows base a typed.0 maps) in
      inner_grows names (One elem shape op a) (own_of names base (One elem shape op a)) (omega (arith, h.is))
  own_grows base (Two elem shape op a b) typed maps =
      let left = seen_of Inside names base a in
      let next = base + length left.passes in
      let right = seen_of Inside names next b in
      let h = inside_grows names base a (own_grows base a typed.0 maps.0) in
      let g = inside_grows names next b (own_grows next b typed.1 maps.1) in
      inner_grows names (Two elem shape op a b) (own_of names base (Two elem shape op a b))
      (omega (arith, h.is, g.is, total-append left.passes right.passes, extras-append (λ k. 1) (grown_names names) (names_in a) (names_in b)))
  own_grows base (Cast elem shape a) typed maps =
      let h = inside_grows names base a (own_grows base a typed.0 maps) in
      inner_grows names (Cast elem shape a) (own_of names base (Cast elem shape a)) (omega (arith, h.is))
  own_grows base (Select elem shape c x y) typed maps =
      let first = seen_of Inside names base c in
      let next = base + length first.passes in
      let second = seen_of Inside names next x in
      let last = next + length second.passes in
      let third = seen_of Inside names last y in
      let h = inside_grows names base c (own_grows base c typed.0 maps.0) in
      let g = inside_grows names next x (own_grows next x typed.1 maps.1) in
      let k = inside_grows names last y (own_grows last y typed.2 maps.2) in
      inner_grows names (Select elem shape c x y) (own_of names base (Select elem shape c x y))
      (omega (
        arith,
        h.is,
        g.is,
        k.is,
        grown-select elem first.tree second.tree third.tree,
        total-append first.passes (second.passes ++ third.passes),
        total-append second.passes third.passes,
        extras-append (λ k. 1) (grown_names names) (names_in c) (names_in x ++ names_in y),
        extras-append (λ k. 1) (grown_names names) (names_in x) (names_in y),
      ))
  own_grows base (Map elem shape mapping a) typed maps =
      let of = seen_of UnderMap names base a in
      let h = mapped_grows names base a typed.1.no_literal (own_grows base a typed.0 maps.1) in
      let whole = map_operand names base a maps.0 in
      let before : grown of.tree ≡ 1 = ap grown whole.leaf in
      let after : grown (under mapping of.tree) ≡ 1 = ap (λ t. grown (under mapping t)) whole.leaf in
      inner_grows names (Map elem shape mapping a) (own_of names base (Map elem shape mapping a)) (omega (arith, h.is))
  own_grows base (RowFold elem shape fold a) typed maps =
      let h = inside_grows names base a (own_grows base a typed.0 maps) in
      let own = own_of names base (RowFold elem shape fold a) in
      record { inlined = λ r. absurd cc; cut = omega (arith, h.is, own-grown own); operand = λ n l. omega (arith, h.is, own-grown own) }
  own_grows base (Fold elem shape fold a) typed maps =
      let of = seen_of Inside names base a in
      let h = inside_grows names base a (own_grows base a typed.0 maps) in
      let first : Own = record { passes = of.passes; kind = kinds.Reduce fold; domain = shape_of a; elem = elem; tree = of.tree } in
      let all = total-append of.passes (draft_of first ∷ []) in
      let one = total-one (draft_of first) in
      record { inlined = λ r. absurd cc; cut = omega (arith, h.is, own-grown first); operand = λ n l. omega (arith, h.is, own-grown first) }

  -- wherever an expression stands, but for a leaf's worth of its tree
  expression_grows : (place : Place) (base : ℕ) (e : Node) → IsTyped types e → MapsStand names e
      → total (seen_of place names base e).passes + (grown (seen_of place names base e).tree - 1) ≤ 4 * nodes_of e + adds names (names_in e)
  expression_grows place base e typed maps = go (is_cut place e) (own_of names base e) (not_cut place e) (own_grows base e typed maps)
    where
      go : (cut : Bool) (own : Own) → (cut ≡ false → is_reduction e ≡ false) → Grows names e own
          → total (seen_if cut (elem_of e) (shape_of e) base own).passes + (grown (seen_if cut (elem_of e) (shape_of e) base own).tree - 1) ≤ 4 * nodes_of e + adds names (names_in e)
      go true own plain h = omega (arith, h.cut, total-append own.passes (draft_of own ∷ []), total-one (draft_of own))
      go false own plain h = omega (arith, h.inlined (plain refl))

-- ---- statements

statement-grows : (program done rest : List Statement) (types : List ArrayType) (taken : ℕ) (names : List (TreeOver Leaf)) (base : ℕ) (s : Statement) → program ≡ done ++ s ∷ rest → Trees program done types names → IsTypedStatement types s
    → total (statement_of program taken names base s).passes + (grown (statement_of program taken names base s).tree - 1) ≤ 4 * stmt_nodes s + adds names (in_value [] names_in s)
statement-grows program done rest types taken names base (Input name elem shape) is trees typed = omega arith
statement-grows program done rest types taken names base (Let name value) is trees typed =
    expression_grows types names (AtLet (let_asks program (length names) (own_of names base value).tree)) base value typed.0 (maps_at program done rest (Let name value) value types names is trees typed.0 refl)
statement-grows program done rest types taken names base (Output name value) is trees typed =
    expression_grows types names AtOutput base value typed.0 (maps_at program done rest (Output name value) value types names is trees typed.0 refl)

-- a tree is a leaf, or its name occurs at most once
grown-once : (cut : Bool) (e : Node) (base n : ℕ) (own : Own) → (cut ≡ false → n ≤ 1)
    → n * (1 * (grown (seen_if cut (elem_of e) (shape_of e) base own).tree - 1)) ≤ grown (seen_if cut (elem_of e) (shape_of e) base own).tree - 1
grown-once true e base n own h = omega arith
grown-once false e base zero own h = omega arith
grown-once false e base (suc zero) own h = omega arith
grown-once false e base (suc (suc n)) own h = let l = h refl in absurd (omega arith)

statement-once : (program done rest : List Statement) (taken : ℕ) (names : List (TreeOver Leaf)) (base : ℕ) (s : Statement) → program ≡ done ++ s ∷ rest
    → times (length names) (all_names rest) * (1 * (grown (statement_of program taken names base s).tree - 1)) ≤ grown (statement_of program taken names base s).tree - 1
statement-once program done rest taken names base (Input name elem shape) is = omega arith
statement-once program done rest taken names base (Let name value) is =
    let own = own_of names base value in
    let k = length names in
    let many = nat_lt 1 (uses_of program k) in
    let other = is_mapped program k || nat_lt height_limit (height_of own.tree) in
    grown-once ((many || other) || is_reduction value) value base (times k (all_names rest)) own
    (λ h.
    let few = ltb-false 1 (uses_of program k) (or-false many other (or-false (many || other) (is_reduction value) h)) in
    let within = times-rest program done rest (Let name value) k is in
    omega arith)
statement-once program done rest taken names base (Output name value) is = omega arith

pub plan-grows : (program done stmts : List Statement) (types : List ArrayType) (taken : ℕ) (names : List (TreeOver Leaf)) (base : ℕ) → program ≡ done ++ stmts → Trees program done types names → AreTyped types stmts
    → total (plan_from program taken names base stmts).passes ≤ 4 * sum_by stmt_nodes stmts + adds names (all_names stmts)
plan-grows program done [] types taken names base is trees typed = omega arith
plan-grows program done (s ∷ more) types taken names base is trees typed =
    let seen = statement_of program taken names base s in
    let t = seen.tree in
    let next = base + length seen.passes in
    let rest = plan_from program (taken + inputs_in s) (names ++ t ∷ []) next more in
    let all = ap (adds names) (flat_map-cons (in_value [] names_in) s more) in
    let both = extras-append (λ k. 1) (grown_names names) (in_value [] names_in s) (all_names more) in
    let here = statement-grows program done more types taken names base s is trees typed.0 in
    let once = statement-once program done more taken names base s is in
    let same : adds (names ++ t ∷ []) (all_names more) ≡ extras (λ k. 1) (grown_names names ++ with_selects t ∷ []) (all_names more) = ap (λ (ts : List (TreeOver Leaf)). extras (λ k. 1) ts (all_names more)) (map-append with_selects names (t ∷ [])) in
    let many : times (length (grown_names names)) (all_names more) * (1 * (grown t - 1)) ≡ times (length names) (all_names more) * (1 * (grown t - 1)) =
    ap (λ n. times n (all_names more) * (1 * (grown t - 1))) (length-map names with_selects) in
    omega (
      arith,
      here,
      plan-grows program (done ++ s ∷ []) more (types ++ declared_type s ∷ []) (taken + inputs_in s) (names ++ t ∷ []) next (is ∙ sym (append_assoc done (s ∷ []) more)) (trees_push program done types names taken base s trees typed.0) typed.1,
      total-append seen.passes rest.passes,
      all,
      both,
      sum_by-cons stmt_nodes s more,
      once,
      same,
      many,
      extras-push (λ k. 1) (grown_names names) (with_selects t) (all_names more),
    )
