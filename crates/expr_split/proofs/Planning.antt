-- The loop over a program's statements.
use Rattle.std.proofs.Common.{◌≡◌, ℕ, zero, suc, ◌+◌, ◌*◌, ◌<◌, ◌≤◌, min, List, [], ◌∷◌, ◌++◌, length, get_or, drop, drop-cons, refl, sym, ap, ◌∙◌, arith, append_assoc, length-append, Bool, true, false, cond}
use Rattle.std.specs.Prelude.{map, ◌==◌, ◌||◌, nat_lt}
use Rattle.std.specs.List.{count_by, sum_by, list_any}
use Rattle.std.proofs.lemmas.Bool.Decides.{nat_tests}
use Rattle.std.proofs.lemmas.List.{append-nil, length-map, map-append, get_or-map}
use Rattle.std.proofs.lemmas.List.Sums.{sum_by-cons}
use Rattle.ven_base.specs.declared.elem.Elem.{Elem}
use Rattle.ven_base.specs.Extent.{Extent}
use Rattle.shape_check.specs.Node.{Node, elem_of, shape_of}
use Rattle.shape_check.specs.Statement.{Statement, Input, Let, Output}
use Rattle.shape_check.specs.Occurrences.{all_mapped, uses_of}
use Rattle.shape_check.specs.declared.checked.CheckedStmt.{CheckedStmt}
use Rattle.shape_check.specs.Checked as checked
use Rattle.shape_check.specs.Checked.{program_of}
use Rattle.pass_plan.specs.declared.leaf.Leaf.{Leaf}
use Rattle.pass_plan.specs.Tree.{TreeOver, height_of}
use Rattle.expr_split.specs.declared.term.Term.{Term}
use Rattle.expr_split.specs.declared.drafts.Plan.{Plan}
use Rattle.expr_split.specs.declared.drafts.Own.{Own}
use Rattle.expr_split.specs.declared.plan.Asks.{Asks}
use Rattle.expr_split.specs.Cuts.{AtLet, is_reduction, height_limit, let_asks, own_of, seen_of, statement_of, inputs_in, plan_from}
use Rattle.expr_split.specs.Places.{input_types}
use Rattle.expr_split.specs.Terms.{term_of, drafts_of, IsOwn, IsSeen, IsCutOf}
use Rattle.expr_split.proofs.Seen.{cut_seen}
use Rattle.expr_split.specs.Asks.{AreAsks, asked_by, statement_asked, stmt_nodes, IsStatement, IsPlanning, IsPlanOf}

-- ---- tallies say what names ask for

test_two : (n : ℕ) → nat_lt 1 (min 2 n) ≡ nat_lt 1 n
test_two zero = refl
test_two (suc zero) = refl
test_two (suc (suc n)) = grind (arith, nat_tests)

some_more : (n : ℕ) → 1 ≤ n → nat_lt 0 (min 2 n) ≡ true
some_more n h = grind (arith, nat_tests)

test_step : (b : Bool) (n : ℕ) (rest : Bool) → nat_lt 0 (min 2 n) ≡ rest → nat_lt 0 (min 2 ((let c : ℕ = cond b 1 0 in c) + n)) ≡ (b || rest)
test_step true n rest h = some_more (1 + n) (omega arith)
test_step false n rest h = let same : 0 + n ≡ n = omega arith in ap (λ m. nat_lt 0 (min 2 m)) same ∙ h

test_any : (ks : List ℕ) (k : ℕ) → nat_lt 0 (min 2 (count_by (λ j. j == k) ks)) ≡ list_any (λ j. j == k) ks
test_any [] k = refl
test_any (j ∷ ks) k =
    ap (λ n. nat_lt 0 (min 2 n)) (sum_by-cons (λ j. cond (j == k) 1 0) j ks) ∙ test_step (j == k) (count_by (λ j. j == k) ks) (list_any (λ j. j == k) ks) (test_any ks k)

asked-is : (program : List Statement) (asks : Asks) (k : ℕ) (t : TreeOver Leaf) → AreAsks program asks → k < length program → asked_by asks k t ≡ let_asks program k t
asked-is program asks k t h low =
    let u = ap (nat_lt 1) (h.uses.each k low) ∙ test_two (uses_of program k) in
    let m = ap (nat_lt 0) (h.mapped.each k low) ∙ test_any (all_mapped program) k in
    λ i. u i || (m i || nat_lt height_limit (height_of t))

statement_asked-is : (program : List Statement) (asks : Asks) (taken : ℕ) (names : List (TreeOver Leaf)) (base : ℕ) (s : Statement) → AreAsks program asks → length names < length program
    → statement_asked asks taken names base s ≡ statement_of program taken names base s
statement_asked-is program asks taken names base (Input name elem shape) h low = refl
statement_asked-is program asks taken names base (Let name value) h low =
    ap (λ (b : Bool). seen_of (AtLet b) names base value) (asked-is program asks (length names) (own_of names base value).tree h low)
statement_asked-is program asks taken names base (Output name value) h low = refl

-- ---- a let's tree

pub let_seen : (asks : Asks) (k : ℕ) (b fold : Bool) (e : Node) (names : List (TreeOver Leaf)) (before mid after : Plan) (own : Own) (t : Term) (elem : Elem) (shape : Extent)
    → elem_of e ≡ elem → shape_of e ≡ shape → b ≡ asked_by asks k (term_of own.term) → fold ≡ is_reduction e → (b || fold) ≡ true → IsOwn own before mid e (own_of names before.next e) → IsCutOf t elem shape own mid after
    → IsSeen t before after e (seen_of (AtLet (asked_by asks k (own_of names before.next e).tree)) names before.next e)
let_seen asks k b fold e names before mid after own t elem shape elem_is shape_is asked is_fold cut h g =
    let is = own_of names before.next e in
    let same : asked_by asks k is.tree ≡ b = ap (asked_by asks k) (sym h.term) ∙ sym asked in
    let cuts : (asked_by asks k is.tree || is_reduction e) ≡ true = (λ i. same i || sym is_fold i) ∙ cut in
    cut_seen (AtLet (asked_by asks k is.tree)) e names before mid after own t elem shape elem_is shape_is cuts h g

-- ---- the loop

pub planning-start : (program : List Statement) (plan : Plan) → plan.next ≡ length (input_types program) → drafts_of plan ≡ [] → length (input_types program) + 2 * sum_by stmt_nodes program ≤ 10000 → IsPlanning program 0 0 [] plan
planning-start program plan next none few = record {
  passes = ap (λ n. (plan_from program 0 [] n program).passes) (sym next) ∙ ap (λ ds. ds ++ (plan_from program 0 [] plan.next program).passes) (sym none);
  trees = ap (λ n. (plan_from program 0 [] n program).names) (sym next);
  few = omega arith;
  counted = refl;
  taken_few = omega arith;
}

drop_here : (program : List Statement) (stmts : List CheckedStmt) (i : ℕ) (stmt : CheckedStmt) → program ≡ program_of stmts → i < length stmts → stmt ≡ get_or stmts i stmt → drop i program ≡ checked.statement_of stmt ∷ drop (i + 1) program
drop_here program stmts i stmt is low here =
    let s = checked.statement_of stmt in
    let count : length program ≡ length stmts = ap length is ∙ length-map stmts checked.statement_of in
    let inside : i < length program = omega arith in
    let item : get_or program i s ≡ s = ap (λ p. get_or p i s) is ∙ get_or-map checked.statement_of stmts i stmt s low ∙ ap checked.statement_of (sym here) in
    let next : suc i ≡ i + 1 = omega arith in
    drop-cons program i s inside ∙ ap (λ x. x ∷ drop (suc i) program) item ∙ ap (λ n. s ∷ drop n program) next

pub planning-few : (program : List Statement) (stmts : List CheckedStmt) (i taken : ℕ) (names : List Term) (plan : Plan) (stmt : CheckedStmt) → program ≡ program_of stmts → IsPlanning program i taken names plan → i < length stmts → stmt ≡ get_or stmts i stmt
    → plan.next + 2 * stmt_nodes (checked.statement_of stmt) ≤ 10000
planning-few program stmts i taken names plan stmt is h low here =
    omega (arith, h.few, ap (sum_by stmt_nodes) (drop_here program stmts i stmt is low here), sum_by-cons stmt_nodes (checked.statement_of stmt) (drop (i + 1) program))

pub planning-more : (program : List Statement) (stmts : List CheckedStmt) (asks : Asks) (i taken taken' : ℕ) (names names' : List Term) (before after : Plan) (stmt : CheckedStmt) (term : Term)
    → program ≡ program_of stmts → AreAsks program asks → IsPlanning program i taken names before → i < length stmts → stmt ≡ get_or stmts i stmt
    → IsStatement before after (checked.statement_of stmt) term (statement_asked asks taken (map term_of names) before.next (checked.statement_of stmt)) → names' ≡ names ++ term ∷ [] → taken' ≡ taken + inputs_in (checked.statement_of stmt)
    → IsPlanning program (i + 1) taken' names' after
planning-more program stmts asks i taken taken' names names' before after stmt term is are h low here made pushed took =
    let s = checked.statement_of stmt in
    let trees = map term_of names in
    let count : length program ≡ length stmts = ap length is ∙ length-map stmts checked.statement_of in
    let few_names : length trees < length program = omega (arith, h.counted, length-map names term_of) in
    let seen = statement_of program taken trees before.next s in
    let same : statement_asked asks taken trees before.next s ≡ seen = statement_asked-is program asks taken trees before.next s are few_names in
    let rest = drop (i + 1) program in
    let more = plan_from program (taken + inputs_in s) (trees ++ seen.tree ∷ []) (before.next + length seen.passes) rest in
    let split = drop_here program stmts i stmt is low here in
    let tree : term_of term ≡ seen.tree = made.term_is ∙ ap (λ x. x.tree) same in
    let all_trees : map term_of names' ≡ trees ++ seen.tree ∷ [] = ap (map term_of) pushed ∙ map-append term_of names (term ∷ []) ∙ ap (λ t. trees ++ t ∷ []) tree in
    let next : after.next ≡ before.next + length seen.passes = made.counted ∙ ap (λ x. before.next + length x.passes) same in
    let passes : drafts_of after ≡ drafts_of before ++ seen.passes = made.passes ∙ ap (λ x. drafts_of before ++ x.passes) same in
    let plans : plan_from program taken' (map term_of names') after.next rest ≡ more = λ k. plan_from program (took k) (all_trees k) (next k) rest in
    record {
      passes =
          h.passes ∙ ap (λ ss. drafts_of before ++ (plan_from program taken trees before.next ss).passes) split
          ∙ sym (append_assoc (drafts_of before) seen.passes more.passes) ∙ ap (λ ds. ds ++ more.passes) (sym passes) ∙ ap (λ p. drafts_of after ++ p.passes) (sym plans);
      trees = h.trees ∙ ap (λ ss. (plan_from program taken trees before.next ss).names) split ∙ ap (λ p. p.names) (sym plans);
      few = omega (arith, h.few, made.few, ap (sum_by stmt_nodes) split, sum_by-cons stmt_nodes s rest);
      counted = omega (arith, h.counted, ap length pushed, length-append names (term ∷ []));
      taken_few = omega (arith, h.taken_few, took, one s);
    }
  where
    one : (s : Statement) → inputs_in s ≤ 1
    one (Input name elem shape) = omega arith
    one (Let name value) = omega arith
    one (Output name value) = omega arith

pub planning-end : (program : List Statement) (i taken : ℕ) (names : List Term) (plan : Plan) → IsPlanning program i taken names plan → length program ≤ i → IsPlanOf program names plan
planning-end program i taken names plan h all =
    let none : drop i program ≡ [] = drop-past program i all in
    record {
      passes = sym (h.passes ∙ ap (λ ss. drafts_of plan ++ (plan_from program taken (map term_of names) plan.next ss).passes) none ∙ append-nil (drafts_of plan));
      trees = sym (h.trees ∙ ap (λ ss. (plan_from program taken (map term_of names) plan.next ss).names) none);
    }
  where
    drop-past : (xs : List Statement) (n : ℕ) → length xs ≤ n → drop n xs ≡ []
    drop-past [] zero h = refl
    drop-past [] (suc n) h = refl
    drop-past (x ∷ xs) zero h = absurd (omega arith)
    drop-past (x ∷ xs) (suc n) h = drop-past xs n (omega arith)
