-- A list of numbers gone through place by place.
use Rattle.std.proofs.Common.{◌≡◌, ℕ, zero, suc, ◌+◌, ◌-◌, ◌<◌, ◌≤◌, List, [], ◌∷◌, ◌++◌, length, get_or, take, map, refl, sym, ap, ◌∙◌, subst, arith, Bool, true, false}
use Rattle.std.specs.Prelude.{set, replicate, if◌then◌else◌}
use Rattle.std.specs.List.{range_with_len}
use Rattle.std.proofs.lemmas.Bool.{cases_eq, cases_lt}
use Rattle.std.proofs.lemmas.List.{get_or-set_same, get_or-set_other, length-set, length-map, length-replicate, get_or-map as get_or-map'}
use Rattle.std.proofs.Math.Seq.{take-length}
use mathlib.Core.Logic.{⊎_elim}
use Rattle.pass_plan.specs.Tree.{AtLeaf, Literal, One, Two, Cast, Move, Select}
use Rattle.pass_plan.specs.declared.turn.Turn.{Turn}
use Rattle.pass_plan.specs.declared.node.NumberedNode.{NumberedNode}
use Rattle.pass_plan.specs.Numbers.{Node, inner_of, nodes_from}
use Rattle.pass_plan.specs.NumberShown.{node_of}
use Rattle.pass_plan.proofs.Nodes.{length-nodes}
use Rattle.pass_plan.proofs.Each.{Each, Each-map}
use Rattle.eval_order.specs.Order.{Tree, Done, done_by, AreDone, MayCome, IsOrder, IsFault, no_node, numbered_node}
use Rattle.eval_order.specs.Held.{held_here, held_in, held_at, held_of}
use Rattle.eval_order.specs.Walk.{in_list, IsReady, trues, HasWalked}
use Rattle.eval_order.proofs.Nodes.{Each-append, Each-get, one_if, least_few, lookup}
use Rattle.eval_order.proofs.LowerBound.{least_some}
use Rattle.eval_order.proofs.OneStep.{one_more}
use Rattle.eval_order.proofs.Orders.{done_next, done_now, AreDone-more, ComeUpTo, closed_at}

-- ---- lists of tests

none_in : (n k : ℕ) → in_list (replicate n false) k ≡ false
none_in zero k = refl
none_in (suc n) zero = refl
none_in (suc n) (suc k) = none_in n k

no_trues : (n : ℕ) → trues (replicate n false) ≡ 0
no_trues zero = refl
no_trues (suc n) = let r = no_trues n in omega arith

trues-set : (bs : List Bool) (k : ℕ) → k < length bs → in_list bs k ≡ false → trues (set bs k true) ≡ trues bs + 1
trues-set [] k h e = absurd (omega arith)
trues-set (b ∷ bs) zero h e = let f = ap one_if e in omega arith
trues-set (b ∷ bs) (suc k) h e = let r = trues-set bs k (omega arith) e in omega arith

one_or_none : (b : Bool) → (if b then 1 else 0) ≤ 1
one_or_none true = omega arith
one_or_none false = omega arith

trues_few : (bs : List Bool) → trues bs ≤ length bs
trues_few [] = omega arith
trues_few (b ∷ bs) = let r = trues_few bs in let o = one_or_none b in omega arith

all_true : (bs : List Bool) (i : ℕ) → length bs ≤ trues bs → i < length bs → in_list bs i ≡ true
all_true [] i h l = absurd (omega arith)
all_true (true ∷ bs) zero h l = refl
all_true (false ∷ bs) zero h l = let f = trues_few bs in absurd (omega arith)
all_true (b ∷ bs) (suc i) h l = let o = one_or_none b in all_true bs i (omega arith) (omega arith)

some_false : (bs : List Bool) → trues bs < length bs → (i : ℕ) × (i < length bs) × (in_list bs i ≡ false)
some_false [] h = absurd (omega arith)
some_false (false ∷ bs) h = (0, omega arith, refl)
some_false (true ∷ bs) h = let r = some_false bs (omega arith) in (suc r.0, omega (arith, r.1), r.2)

-- the tests behind the first, which is false
rest_many : (came : List Bool) → in_list came 0 ≡ false → 1 ≤ length came → trues came + 1 ≤ length came
rest_many [] e h = absurd (omega arith)
rest_many (b ∷ bs) e h = let f = ap one_if e in let r = trues_few bs in omega arith

rest_all : (came : List Bool) (k : ℕ) → in_list came 0 ≡ false → length came ≤ trues came + 1 → 1 ≤ k → k < length came → in_list came k ≡ true
rest_all [] k e h one l = absurd (omega arith)
rest_all (b ∷ bs) zero e h one l = absurd (omega arith)
rest_all (b ∷ bs) (suc k) e h one l = let f = ap one_if e in all_true bs k (omega arith) (omega arith)

rest_some : (came : List Bool) → in_list came 0 ≡ false → trues came + 1 < length came → (k : ℕ) × (1 ≤ k) × (k < length came) × (in_list came k ≡ false)
rest_some [] e h = absurd (omega arith)
rest_some (b ∷ bs) e h = let f = ap one_if e in let r = some_false bs (omega arith) in (suc r.0, omega arith, omega (arith, r.1), r.2)

-- a node holds one result or two at its own place
abbrev IsSmall : Node → Type 0
IsSmall x = (1 ≤ x.least) × (x.least ≤ 2)

small_from : (t : Tree) (n : ℕ) → Each IsSmall (nodes_from t n)
small_from (AtLeaf l) n = tt
small_from (Literal v) n = tt
small_from (One op elem a) n = ((least_some (One op elem a), least_few (One op elem a)), small_from a (n + 1))
small_from (Two op elem a b) n = ((least_some (Two op elem a b), least_few (Two op elem a b)), Each-append IsSmall (nodes_from a (n + 1)) (nodes_from b (n + 1 + inner_of a)) (small_from a (n + 1)) (small_from b (n + 1 + inner_of a)))
small_from (Cast elem from a) n = ((least_some (Cast elem from a), least_few (Cast elem from a)), small_from a (n + 1))
small_from (Move elem a) n = ((least_some (Move elem a), least_few (Move elem a)), small_from a (n + 1))
small_from (Select elem c x y) n =
    let j = n + 1 + inner_of c in
    let k = n + 1 + inner_of c + inner_of x in
    ((least_some (Select elem c x y), least_few (Select elem c x y)), Each-append IsSmall (nodes_from c (n + 1)) (nodes_from x j ++ nodes_from y k) (small_from c (n + 1)) (Each-append IsSmall (nodes_from x j) (nodes_from y k) (small_from x j) (small_from y k)))

-- ---- one place

module _ (tree : Tree) (order : List ℕ) (at : ℕ) (each : ComeUpTo tree order at) (below : at < length order) (may : MayCome tree (take at order) (get_or order at 0)) where
  abbrev here : ℕ
  here = get_or order at 0

  abbrev before : Done
  before = done_by (take at order)

  abbrev after : Done
  after = done_by (take (at + 1) order)

  that : Each (λ x. x.number ≡ here → numbered_node tree here ≡ x) (nodes_from tree 1)
  that = Each-map (λ x. numbered_node tree x.number ≡ x) (λ x. x.number ≡ here → numbered_node tree here ≡ x) (nodes_from tree 1) (λ x e same. ap (numbered_node tree) (sym same) ∙ e) (lookup tree)

  -- what is held at the place
  pub held_then : held_at tree order at + length (numbered_node tree here).turns ≡ held_in tree before before 1 false + (numbered_node tree here).least
  held_then =
      let r = one_more before after before here (λ j n. done_next order at j below n) (λ j n. refl) may.new (done_now order at below) (numbered_node tree here) may.operands tree 1 (closed_at tree order at each) that may.low (let h = may.high in omega arith) in
      let own = ap (λ (b : Bool). if b then 1 else (numbered_node tree here).least) may.new in
      omega arith

  -- what rests after it
  pub rests_then : held_in tree after after 1 false + length (numbered_node tree here).turns ≡ held_in tree before before 1 false + 1
  rests_then =
      let r = one_more before after after here (λ j n. done_next order at j below n) (λ j n. done_next order at j below n) may.new (done_now order at below) (numbered_node tree here) may.operands tree 1 (closed_at tree order at each) that may.low (let h = may.high in omega arith) in
      let own = ap (λ (b : Bool). if b then 1 else (numbered_node tree here).least) (done_now order at below) in
      omega arith

pub many_of : (tree : Tree) (nodes : List NumberedNode) → map node_of nodes ≡ nodes_from tree 1 → length nodes ≡ inner_of tree
many_of tree nodes is = sym (length-map nodes node_of) ∙ ap length is ∙ length-nodes tree 1

-- ---- nothing done, nothing held

here_none : (t : Tree) (above : Bool) (b : Bool) → b ≡ false → held_here t b b above ≡ 0
here_none t above true e = cc
here_none t above false e = refl

pub nothing_held : (t : Tree) (S : Done) (n : ℕ) (above : Bool) → ((k : ℕ) → S k ≡ false) → held_in t S S n above ≡ 0
nothing_held (AtLeaf l) S n above none = refl
nothing_held (Literal v) S n above none = refl
nothing_held (One op elem a) S n above none = let h = here_none (One op elem a) above (S n) (none n) in let r = nothing_held a S (n + 1) (S n) none in omega arith
nothing_held (Two op elem a b) S n above none =
    let h = here_none (Two op elem a b) above (S n) (none n) in let r = nothing_held a S (n + 1) (S n) none in let s = nothing_held b S (n + 1 + inner_of a) (S n) none in omega arith
nothing_held (Cast elem from a) S n above none = let h = here_none (Cast elem from a) above (S n) (none n) in let r = nothing_held a S (n + 1) (S n) none in omega arith
nothing_held (Move elem a) S n above none = let h = here_none (Move elem a) above (S n) (none n) in let r = nothing_held a S (n + 1) (S n) none in omega arith
nothing_held (Select elem c x y) S n above none =
    let h = here_none (Select elem c x y) above (S n) (none n) in
    let r = nothing_held c S (n + 1) (S n) none in
    let s = nothing_held x S (n + 1 + inner_of c) (S n) none in
    let u = nothing_held y S (n + 1 + inner_of c + inner_of x) (S n) none in
    omega arith

pub done_none : (xs : List ℕ) (k : ℕ) → done_by (take 0 xs) k ≡ false
done_none [] k = refl
done_none (x ∷ xs) k = refl

pub walked_first : (tree : Tree) (order all : List ℕ) (came : List Bool) (n : ℕ) → came ≡ replicate n false → n ≡ inner_of tree + 1 → all ≡ [] → HasWalked tree order 0 came 0 all
walked_first tree order all came n is many empty = record {
  each = λ t h. absurd (omega arith);
  came_are = λ k. ap (λ bs. in_list bs k) is ∙ none_in n k ∙ sym (done_none order k);
  long = ap length is ∙ length-replicate n false ∙ many;
  none_zero = ap (λ bs. in_list bs 0) is ∙ none_in n 0;
  count = ap trues is ∙ no_trues n;
  results = sym (nothing_held tree (done_by (take 0 order)) 1 false (done_none order));
  few = omega arith;
  held = empty;
}

map_range : (f : ℕ → ℕ) (a n : ℕ) → map f (range_with_len a (n + 1)) ≡ map f (range_with_len a n) ++ f (a + n) ∷ []
map_range f a zero = let e : a ≡ a + 0 = omega arith in ap (λ k. f k ∷ []) e
map_range f a (suc n) =
    let e : suc n + 1 ≡ suc (n + 1) = omega arith in
    let g : a + 1 + n ≡ a + suc n = omega arith in
    ap (λ k. map f (range_with_len a k)) e ∙ ap (λ ks. f a ∷ ks) (map_range f (a + 1) n) ∙ ap (λ k. f a ∷ (map f (range_with_len (a + 1) n) ++ f k ∷ [])) g

AreDone-same : (S S' : Done) (turns : List Turn) → ((k : ℕ) → S k ≡ S' k) → AreDone S turns → AreDone S' turns
AreDone-same S S' turns same h = AreDone-more S S' turns (λ k e. sym (same k) ∙ e) h

module _ (tree : Tree) (order : List ℕ) (nodes : List NumberedNode) (is : map node_of nodes ≡ nodes_from tree 1) (at : ℕ) (came : List Bool) (resting : ℕ) (all : List ℕ) (walked : HasWalked tree order at came resting all) where
  many_nodes : length nodes ≡ inner_of tree
  many_nodes = sym (length-map nodes node_of) ∙ ap length is ∙ length-nodes tree 1

  pub few_places : at ≤ inner_of tree
  few_places = let r = rest_many came walked.none_zero (let l = walked.long in omega arith) in let l = walked.long in let c = walked.count in omega arith

  may_from : (k : ℕ) → IsReady nodes came k → MayCome tree (take at order) k
  may_from k ready = record {
    low = ready.low;
    high = let h = ready.high in let m = many_nodes in omega arith;
    new = sym (walked.came_are k) ∙ ready.new;
    operands = subst (λ (ns : List Node). AreDone (done_by (take at order)) (get_or ns (k - 1) no_node).turns) is (AreDone-same (in_list came) (done_by (take at order)) _ walked.came_are ready.operands);
  }

  ready_from : (k : ℕ) → MayCome tree (take at order) k → IsReady nodes came k
  ready_from k may = record {
    low = may.low;
    high = let h = may.high in let m = many_nodes in omega arith;
    new = walked.came_are k ∙ may.new;
    operands = subst (λ (ns : List Node). AreDone (in_list came) (get_or ns (k - 1) no_node).turns) (sym is) (AreDone-same (done_by (take at order)) (in_list came) _ (λ j. sym (walked.came_are j)) may.operands);
  }

  -- a number that may not come
  pub walked_fault : at < length order → (IsReady nodes came (get_or order at 0) → ⊥) → IsFault tree order at
  walked_fault below no' = record {
    earlier = walked.each;
    within = omega arith;
    here = λ l may. no' (ready_from (get_or order at 0) may);
    missing = λ e. absurd (omega arith);
  }

  -- a node that is missing
  pub walked_missing : at ≡ length order → at < inner_of tree → IsFault tree order at
  walked_missing end short = record {
    earlier = walked.each;
    within = omega arith;
    here = λ l may. absurd (omega arith);
    missing = λ e.
        let r = rest_some came walked.none_zero (let l = walked.long in let c = walked.count in omega arith) in
        let l = walked.long in
        (r.0, r.1, omega (arith, r.2), ap (λ xs. done_by xs r.0) (sym (take-length order) ∙ ap (λ n. take n order) (sym end)) ∙ sym (walked.came_are r.0) ∙ r.3);
  }

  -- all came
  pub walked_order : at ≡ length order → inner_of tree ≤ at → IsOrder tree order
  walked_order end full = record {
    each = λ t h. walked.each t (omega arith);
    all = λ k low high.
        let l = walked.long in
        let c = walked.count in
        ap (λ xs. done_by xs k) (sym (take-length order) ∙ ap (λ n. take n order) (sym end)) ∙ sym (walked.came_are k) ∙ rest_all came k walked.none_zero (omega arith) low (omega arith);
  }

  pub walked_all : at ≡ length order → all ≡ held_of tree order
  walked_all end = walked.held ∙ ap (λ n. map (held_at tree order) (range_with_len 0 n)) end

  module _ (below : at < length order) (ready : IsReady nodes came (get_or order at 0)) where
    abbrev k : ℕ
    k = get_or order at 0

    abbrev S' : Done
    S' = done_by (take (at + 1) order)

    may : MayCome tree (take at order) k
    may = may_from k ready

    abbrev node : Node
    node = numbered_node tree k

    pub least_is : (1 ≤ node.least) × (node.least ≤ 2)
    least_is = let low = ready.low in let high = ready.high in let many = many_nodes in Each-get IsSmall (nodes_from tree 1) (k - 1) no_node (omega (arith, length-nodes tree 1)) (small_from tree 1)

    -- the operands' results rest, so that they can be taken off
    pub turns_rest : length node.turns ≤ resting + 1
    turns_rest = let r = rests_then tree order at walked.each below may in let b = walked.results in omega arith

    pub node_is : (d : NumberedNode) → node_of (get_or nodes (k - 1) d) ≡ node
    node_is d =
        let low = ready.low in
        let high = ready.high in
        sym (get_or-map' node_of nodes (k - 1) d no_node (omega arith)) ∙ ap (λ ns. get_or ns (k - 1) no_node) is

    pub walked_next : (came' : List Bool) (resting' held' : ℕ) (all' : List ℕ) → came' ≡ set came k true → resting' ≡ resting + 1 - length node.turns → held' ≡ resting' + node.least - 1 → all' ≡ all ++ held' ∷ [] → HasWalked tree order (at + 1) came' resting' all'
    walked_next came' resting' held' all' came_is resting_is held_is all_is =
        let long = walked.long in
        let high = may.high in
        let low = may.low in
        let inside : k < length came = omega arith in
        let rests = rests_then tree order at walked.each below may in
        let holds = held_then tree order at walked.each below may in
        let before = walked.results in
        let new = ready.new in
        let results : resting' ≡ held_in tree S' S' 1 false = omega arith in
        let held : held' ≡ held_at tree order at = omega arith in
        let few = walked.few in
        let zero_at : 0 + at ≡ at = omega arith in
        record {
          each = λ t h. ⊎_elim (λ l. walked.each t l) (λ l. let e : at ≡ t = omega arith in subst (λ (j : ℕ). MayCome tree (take j order) (get_or order j 0)) e may) (cases_lt t at);
          came_are = λ j. ap (λ bs. in_list bs j) came_is ∙ ⊎_elim
              (λ e. ap (λ i. in_list (set came k true) i) e ∙ get_or-set_same came k true false inside ∙ sym (done_now order at below) ∙ ap (done_by (take (at + 1) order)) (sym e))
              (λ n. get_or-set_other came k j true false n ∙ walked.came_are j ∙ sym (done_next order at j below n)) (cases_eq j k);
          long = ap length came_is ∙ length-set came k true ∙ long;
          none_zero = ap (λ bs. in_list bs 0) came_is ∙ get_or-set_other came k 0 true false (λ e. absurd (omega arith)) ∙ walked.none_zero;
          count = ap trues came_is ∙ trues-set came k inside new ∙ ap (λ c. c + 1) walked.count;
          results = results;
          few = omega arith;
          held = all_is ∙ ap (λ xs. xs ++ held' ∷ []) walked.held ∙ ap (λ h. map (held_at tree order) (range_with_len 0 at) ++ h ∷ []) (held ∙ ap (held_at tree order) (sym zero_at)) ∙ sym (map_range (held_at tree order) 0 at);
        }
