-- The best order is an order, and holds at most the label.
use Rattle.std.proofs.Common.{◌≡◌, ◌⊎◌, ℕ, zero, suc, ◌+◌, ◌-◌, ◌<◌, ◌≤◌, List, [], ◌∷◌, ◌++◌, length, get_or, take, map, inl, inr, refl, sym, ap, ◌∙◌, subst, arith, Bool, true, false}
use Rattle.std.specs.Prelude.{◌==◌, ◌||◌}
use Rattle.std.proofs.lemmas.Bool.{cases_lt, eq-eqb, false≢true}
use Rattle.std.proofs.lemmas.List.{length-map}
use Rattle.std.proofs.lemmas.List.FromFn.{length-map-range_with_len, get_or-map-range_with_len}
use Rattle.pass_plan.specs.declared.turn.Turn.{Turn}
use mathlib.Core.Logic.{⊎_elim}
use Rattle.pass_plan.specs.Tree.{is_computed, operands_of, nodes_of}
use Rattle.pass_plan.specs.Label.{label_of, needed}
use Rattle.pass_plan.specs.Numbers.{Node, inner_of, operand_number, turns_of, places_of, nodes_from}
use Rattle.pass_plan.specs.NumberShown.{no_tree}
use Rattle.pass_plan.proofs.Nodes.{nodes_whole}
use Rattle.pass_plan.proofs.Turns.{label_is}
use Rattle.pass_plan.proofs.Each.{Each, Each-map, Each-both, EachPlace-map, operands_at, places_each, labels_by_place}
use Rattle.eval_order.specs.Order.{Tree, Done, done_by, AreDone, IsOrder, IsFault, numbered_node}
use Rattle.eval_order.specs.Held.{held_in, held_at, held_of}
use Rattle.eval_order.specs.BestOrder.{in_turn, best_from, best_order}
use Rattle.eval_order.proofs.Nodes.{Each-append, Each-get, nodes_in, nodes_positive, nodes_below, computed_in, length-turns, lookup}
use Rattle.eval_order.specs.Fault.{SomeIsAtLeast, IsGreatest}
use Rattle.eval_order.proofs.Orders.{label_held}
use Rattle.eval_order.proofs.Places.{held_then, rests_then, nothing_held, done_none}
use Rattle.eval_order.proofs.Ranges.{operand_at, places_below, orders_from, order_at, best_whole, nodes_at}
use Rattle.eval_order.proofs.Coming.{add, after, Come, best_comes}

-- ---- the best order is one

after_done : (S : Done) (xs : List ℕ) (j : ℕ) → after S xs j ≡ (done_by xs j || S j)
after_done S [] j = refl
after_done S (x ∷ xs) j = after_done (add S x) xs j ∙ swap (done_by xs j) (x == j) (S j)
  where
    swap : (a b c : Bool) → (a || (b || c)) ≡ ((b || a) || c)
    swap true true c = refl
    swap true false c = refl
    swap false true c = refl
    swap false false c = refl

or_false : (b : Bool) → (b || false) ≡ b
or_false true = refl
or_false false = refl

came : (xs : List ℕ) (j : ℕ) → after (λ k. false) xs j ≡ done_by xs j
came xs j = after_done (λ k. false) xs j ∙ or_false (done_by xs j)

come_at : (node : ℕ → Node) (S : Done) (ks : List ℕ) (t : ℕ) → Come node S ks → t < length ks → (after S (take t ks) (get_or ks t 0) ≡ false) × AreDone (after S (take t ks)) (node (get_or ks t 0)).turns
come_at node S [] t h l = absurd (omega arith)
come_at node S (k ∷ ks) zero h l = (h.0, h.1)
come_at node S (k ∷ ks) (suc t) h l = come_at node (add S k) ks t h.2 (omega arith)

listed : (xs : List ℕ) (t : ℕ) → t < length xs → done_by xs (get_or xs t 0) ≡ true
listed [] t h = absurd (omega arith)
listed (x ∷ xs) zero h = ap (λ b. b || done_by xs x) (eq-eqb x x refl)
listed (x ∷ xs) (suc t) h = ap (λ b. (x == get_or xs t 0) || b) (listed xs t (omega arith)) ∙ or_true (x == get_or xs t 0)
  where
    or_true : (b : Bool) → (b || true) ≡ true
    or_true true = refl
    or_true false = refl

pub best_is_order : (tree : Tree) → IsOrder tree (best_order tree)
best_is_order tree =
    let node : ℕ → Node = numbered_node tree in
    let order = best_order tree in
    let c = best_comes node (nodes_of tree) tree 1 (λ k. false) (omega arith) (lookup tree) (λ j low high. refl) in
    record {
      each = λ t h.
          let k = get_or order t 0 in
          let at = come_at node (λ k. false) order t c.come h in
          let here = listed order t h in
          let inside : (j : ℕ) → (j < 1) ⊎ (1 + inner_of tree ≤ j) → done_by order j ≡ false = λ j o. sym (came order j) ∙ c.others j o in
          record {
            low = ⊎_elim (λ l. absurd (false≢true (sym (inside k (inl l)) ∙ here))) (λ g. g) (cases_lt k 1);
            high = ⊎_elim (λ l. omega arith) (λ g. absurd (false≢true (sym (inside k (inr g)) ∙ here))) (cases_lt k (1 + inner_of tree));
            new = sym (came (take t order) k) ∙ at.0;
            operands = done_same (after (λ k. false) (take t order)) (done_by (take t order)) (node k).turns (λ j. came (take t order) j) at.1;
          };
      all = λ k low high. sym (came order k) ∙ c.all k low (omega arith);
    }
  where
    done_same : (S S' : Done) (turns : List Turn) → ((j : ℕ) → S j ≡ S' j) → AreDone S turns → AreDone S' turns
    done_same S S' [] f h = tt
    done_same S S' (turn ∷ turns) f h = (sym (f turn.number) ∙ h.0, done_same S S' turns f h.1)

-- ---- counting along an order

module _ (node : ℕ → Node) where
  abbrev next : ℕ → ℕ → ℕ
  next h k = h + 1 - length (node k).turns

  abbrev run : ℕ → List ℕ → List ℕ
  run h [] = []
  run h (k ∷ ks) = (next h k + (node k).least - 1) ∷ run (next h k) ks

  abbrev rest : ℕ → List ℕ → ℕ
  rest h [] = h
  rest h (k ∷ ks) = rest (next h k) ks

  run-append : (h : ℕ) (xs ys : List ℕ) → run h (xs ++ ys) ≡ run h xs ++ run (rest h xs) ys
  run-append h [] ys = refl
  run-append h (x ∷ xs) ys = ap (λ zs. (next h x + (node x).least - 1) ∷ zs) (run-append (next h x) xs ys)

  rest-append : (h : ℕ) (xs ys : List ℕ) → rest h (xs ++ ys) ≡ rest (rest h xs) ys
  rest-append h [] ys = refl
  rest-append h (x ∷ xs) ys = rest-append (next h x) xs ys

  length-run : (h : ℕ) (ks : List ℕ) → length (run h ks) ≡ length ks
  length-run h [] = refl
  length-run h (k ∷ ks) = let r = length-run (next h k) ks in omega arith

  run-at : (h : ℕ) (ks : List ℕ) (t : ℕ) → t < length ks → get_or (run h ks) t 0 ≡ next (rest h (take t ks)) (get_or ks t 0) + (node (get_or ks t 0)).least - 1
  run-at h [] t l = absurd (omega arith)
  run-at h (k ∷ ks) zero l = refl
  run-at h (k ∷ ks) (suc t) l = run-at (next h k) ks t (omega arith)

  rest-next : (h : ℕ) (ks : List ℕ) (t : ℕ) → t < length ks → rest h (take (t + 1) ks) ≡ next (rest h (take t ks)) (get_or ks t 0)
  rest-next h [] t l = absurd (omega arith)
  rest-next h (k ∷ ks) zero l = refl
  rest-next h (k ∷ ks) (suc t) l = let e : suc t + 1 ≡ suc (t + 1) = omega arith in ap (λ j. rest h (take j (k ∷ ks))) e ∙ rest-next (next h k) ks t (omega arith)

  -- ---- a subtree's best order holds at most its label more

  record Bounded (u : Tree) (h : ℕ) (order : List ℕ) : Type 0 where
    most : Each (λ x. x ≤ h + label_of u) (run h order)
    left : rest h order ≡ h + 1

  module _ (us : List Tree) (m : ℕ) where
    abbrev labels_at : List ℕ → List ℕ
    labels_at ks = map (λ k. label_of (operand_at us k)) ks

    record TurnsBounded (h : ℕ) (ks order : List ℕ) : Type 0 where
      most : Each (λ x. x ≤ h + needed (labels_at ks)) (run h order)
      left : rest h order ≡ h + length ks

    turns_bounded : (ks : List ℕ) (h : ℕ) → Each (λ k. (h : ℕ) → Bounded (operand_at us k) h (get_or (orders_from us m) k [])) ks → TurnsBounded h ks (in_turn ks (orders_from us m))
    turns_bounded [] h good = record { most = tt; left = omega arith }
    turns_bounded (k ∷ ks) h good =
        let order = get_or (orders_from us m) k [] in
        let later = in_turn ks (orders_from us m) in
        let first = good.0 h in
        let more = turns_bounded ks (h + 1) good.1 in
        let left = first.left in
        record {
          most = subst (λ (xs : List ℕ). Each (λ x. x ≤ h + needed (labels_at (k ∷ ks))) xs) (sym (run-append h order later))
              (Each-append (λ x. x ≤ h + needed (labels_at (k ∷ ks))) (run h order) (run (rest h order) later)
              (Each-map (λ x. x ≤ h + label_of (operand_at us k)) (λ x. x ≤ h + needed (labels_at (k ∷ ks))) (run h order) (λ x l. omega arith) first.most)
              (subst (λ (j : ℕ). Each (λ x. x ≤ h + needed (labels_at (k ∷ ks))) (run j later)) (sym left) (Each-map (λ x. x ≤ h + 1 + needed (labels_at ks)) (λ x. x ≤ h + needed (labels_at (k ∷ ks))) (run (h + 1) later) (λ x l. omega arith) more.most)));
          left = rest-append h order later ∙ ap (λ j. rest j later) left ∙ (let l = more.left in omega arith);
        }

  best_bounded : (fuel : ℕ) (t : Tree) (n h : ℕ) → nodes_of t ≤ fuel → is_computed t ≡ true → Each (λ x. node x.number ≡ x) (nodes_from t n) → Bounded t h (best_from t n)
  best_bounded zero t n h fit inner those = let p = nodes_positive t in absurd (omega arith)
  best_bounded (suc fuel) t n h fit inner those =
      let those' = subst (λ (nodes : List Node). Each (λ x. node x.number ≡ x) nodes) (nodes_whole t n inner) those in
      let us = operands_of t in
      let nodes = nodes_below t inner in
      let ks = places_of t in
      let good = Each-both (λ k. k < length us) (λ k. is_computed (operand_at us k) ≡ true) (λ k. (h : ℕ) → Bounded (operand_at us k) h (get_or (orders_from us (n + 1)) k [])) ks
      (λ k low c j. subst (λ (order : List ℕ). Bounded (operand_at us k) j order) (sym (order_at us k (n + 1) low))
      (best_bounded fuel (operand_at us k) (operand_number us k (n + 1)) j (fits us k (omega arith) low) c (nodes_at (λ x. node x.number ≡ x) us k (n + 1) low those'.1)))
      (places_below t) (places_each (λ k. is_computed (operand_at us k) ≡ true) t (EachPlace-map (λ j u. get_or (operands_of t) j no_tree ≡ u) (λ j u. is_computed u ≡ true → is_computed (operand_at us j) ≡ true) us 0 (λ j u e c. ap is_computed e ∙ c) (operands_at t no_tree))) in
      let turns = turns_bounded us (n + 1) ks h good in
      let order = in_turn ks (orders_from us (n + 1)) in
      let label = label_is t 1 inner in
      let by_place = ap needed (labels_by_place t no_tree) in
      let left = turns.left in
      let own = ap (λ x. length x.turns) those'.0 ∙ length-turns us 0 (n + 1) in
      let many = many_places t in
      let least = ap (λ x. x.least) those'.0 in
      let next_is : next (rest h order) n ≡ h + 1 = omega arith in
      subst (λ (o : List ℕ). Bounded t h o) (sym (best_whole t n inner))
      (record {
        most = subst (λ (xs : List ℕ). Each (λ x. x ≤ h + label_of t) xs) (sym (run-append h order (n ∷ [])))
            (Each-append (λ x. x ≤ h + label_of t) (run h order) (run (rest h order) (n ∷ []))
            (Each-map (λ x. x ≤ h + needed (labels_at us (n + 1) ks)) (λ x. x ≤ h + label_of t) (run h order) (λ x l. omega arith) turns.most) (omega arith, tt));
        left = rest-append h order (n ∷ []) ∙ next_is;
      })
    where
      fits : (us : List Tree) (k : ℕ) → nodes_in us ≤ fuel → k < length us → nodes_of (operand_at us k) ≤ fuel
      fits [] k h l = absurd (omega arith)
      fits (u ∷ us) zero h l = omega arith
      fits (u ∷ us) (suc k) h l = fits us k (omega arith) (omega arith)

      many_places : (t : Tree) → length (places_of t) ≡ computed_in (operands_of t)
      many_places t = length-map (turns_of (operands_of t) 0 1) (λ turn. turn.place) ∙ length-turns (operands_of t) 0 1

-- ---- what an order holds, counted along

module _ (tree : Tree) (order : List ℕ) (is : IsOrder tree order) where
  rest_is : (t : ℕ) → t ≤ length order → held_in tree (done_by (take t order)) (done_by (take t order)) 1 false ≡ rest (numbered_node tree) 0 (take t order)
  rest_is zero h = nothing_held tree (done_by (take 0 order)) 1 false (done_none order) ∙ none_rest order
    where
      none_rest : (xs : List ℕ) → 0 ≡ rest (numbered_node tree) 0 (take 0 xs)
      none_rest [] = refl
      none_rest (x ∷ xs) = refl
  rest_is (suc t) h =
      let e : t + 1 ≡ suc t = omega arith in
      let before = rest_is t (omega arith) in
      let one = rests_then tree order t (λ s l. is.each s (omega arith)) (omega arith) (is.each t (omega arith)) in
      let count = rest-next (numbered_node tree) 0 order t (omega arith) in
      let same : held_in tree (done_by (take (t + 1) order)) (done_by (take (t + 1) order)) 1 false ≡ rest (numbered_node tree) 0 (take (t + 1) order) = omega arith in
      subst (λ (j : ℕ). held_in tree (done_by (take j order)) (done_by (take j order)) 1 false ≡ rest (numbered_node tree) 0 (take j order)) e same

  held_is : (t : ℕ) → t < length order → held_at tree order t ≡ get_or (run (numbered_node tree) 0 order) t 0
  held_is t h =
      let before = rest_is t (omega arith) in
      let may = is.each t h in
      let one = held_then tree order t (λ s l. is.each s (omega arith)) h may in
      let two = rests_then tree order t (λ s l. is.each s (omega arith)) h may in
      let at = run-at (numbered_node tree) 0 order t h in
      omega arith

pub best_most : (tree : Tree) → is_computed tree ≡ true → (t : ℕ) → t < length (best_order tree) → held_at tree (best_order tree) t ≤ label_of tree
best_most tree inner t h =
    let order = best_order tree in
    let same = held_is tree order (best_is_order tree) t h in
    let bound = best_bounded (numbered_node tree) (nodes_of tree) tree 1 0 (omega arith) inner (lookup tree) in
    let most = Each-get (λ x. x ≤ 0 + label_of tree) (run (numbered_node tree) 0 order) t 0 (omega (arith, length-run (numbered_node tree) 0 order)) bound.most in
    omega arith

-- ---- the numbers of a place as a list

held_get : (tree : Tree) (order : List ℕ) (t : ℕ) → t < length order → get_or (held_of tree order) t 0 ≡ held_at tree order t
held_get tree order t h = let e : 0 + t ≡ t = omega arith in get_or-map-range_with_len (held_at tree order) 0 (length order) t t 0 h e

pub some_at_least : (tree : Tree) (order all : List ℕ) → is_computed tree ≡ true → IsOrder tree order → all ≡ held_of tree order → SomeIsAtLeast (label_of tree) all
some_at_least tree order all inner is same =
    let r = label_held tree order inner is in
    let many = ap length same ∙ length-map-range_with_len (held_at tree order) 0 (length order) in
    let at = ap (λ xs. get_or xs r.0 0) same ∙ held_get tree order r.0 r.1 in
    (r.0, omega (arith, r.1), omega (arith, r.2))

pub best_greatest : (tree : Tree) (most : ℕ) (all : List ℕ) → is_computed tree ≡ true → all ≡ held_of tree (best_order tree) → most ≡ label_of tree → IsGreatest most all
best_greatest tree most all inner same is =
    let order = best_order tree in
    let many = ap length same ∙ length-map-range_with_len (held_at tree order) 0 (length order) in
    let r = some_at_least tree order all inner (best_is_order tree) same in
    record {
      most = λ t h. let at = ap (λ xs. get_or xs t 0) same ∙ held_get tree order t (omega arith) in let b = best_most tree inner t (omega arith) in omega arith;
      one = (r.0, r.1, (let at = ap (λ xs. get_or xs r.0 0) same ∙ held_get tree order r.0 (omega (arith, r.1)) in let b = best_most tree inner r.0 (omega (arith, r.1)) in omega (arith, r.2)));
    }

-- a list that has a fault is no order
pub no_fault : (tree : Tree) (order : List ℕ) (at : ℕ) → IsOrder tree order → IsFault tree order at → ⊥
no_fault tree order at is fault =
    ⊎_elim (λ l. fault.here l (is.each at l))
    (λ g. let within = fault.within in let e : at ≡ length order = omega arith in let r = fault.missing e in false≢true (sym r.3 ∙ is.all r.0 r.1 r.2))
    (cases_lt at (length order))
