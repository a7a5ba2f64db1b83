-- The nodes of the best order may come one after another.
use Rattle.std.proofs.Common.{◌≡◌, ◌≢◌, ◌⊎◌, ℕ, zero, suc, ◌+◌, ◌<◌, ◌≤◌, List, [], ◌∷◌, ◌++◌, length, get_or, inl, inr, refl, sym, ap, ◌∙◌, subst, arith, true, false}
use Rattle.std.specs.Prelude.{◌==◌, ◌||◌}
use Rattle.std.proofs.lemmas.Bool.{cases_Bool, cases_eq, cases_lt, eq-eqb, ne_eqb}
use mathlib.Core.Logic.{⊎_elim}
use Rattle.pass_plan.specs.Tree.{is_computed, operands_of, nodes_of}
use Rattle.pass_plan.specs.Numbers.{Node, inner_of, operand_number, places_of, node_at, nodes_from}
use Rattle.pass_plan.proofs.Nodes.{nodes_all, nodes_whole}
use Rattle.pass_plan.proofs.TurnLabels.{inner_positive}
use Rattle.pass_plan.proofs.Each.{Each, Each-map, Each-both, Distinct, places_apart, each_place}
use Rattle.eval_order.specs.Order.{Tree, Done, AreDone}
use Rattle.eval_order.specs.BestOrder.{in_turn, node_order, best_from}
use Rattle.eval_order.proofs.Nodes.{EachNumber, inner_in, nodes_in, nodes_positive, nodes_below, inner_below, no_inner}
use Rattle.eval_order.proofs.Ranges.{operand_at, number_low, IsIn, ranges_apart, some_range, at_place, places_below, are_done, orders_from, order_at, best_whole, best_none, nodes_at}

-- the nodes by their numbers, whatever the tree
abbrev Nodes : Type 0
Nodes = ℕ → Node

abbrev AreThose : Nodes → List Node → Type 0
AreThose node nodes = Each (λ x. node x.number ≡ x) nodes

-- ---- sets that grow

abbrev pub add : Done → ℕ → Done
add S k j = (k == j) || S j

abbrev pub after : Done → List ℕ → Done
after S [] = S
after S (k ∷ ks) = after (add S k) ks

abbrev pub Come : Nodes → Done → List ℕ → Type 0
Come node S [] = Unit {0}
Come node S (k ∷ ks) = (S k ≡ false) × AreDone S (node k).turns × Come node (add S k) ks

after-append : (S : Done) (xs ys : List ℕ) → after S (xs ++ ys) ≡ after (after S xs) ys
after-append S [] ys = refl
after-append S (x ∷ xs) ys = after-append (add S x) xs ys

Come-append : (node : Nodes) (S : Done) (xs ys : List ℕ) → Come node S xs → Come node (after S xs) ys → Come node S (xs ++ ys)
Come-append node S [] ys h g = g
Come-append node S (x ∷ xs) ys h g = (h.0, h.1, Come-append node (add S x) xs ys h.2 g)

-- none of the numbers in a range came
abbrev Fresh : Done → ℕ → ℕ → Type 0
Fresh S n many = (j : ℕ) → n ≤ j → j < n + many → S j ≡ false

-- a subtree's best order may come where none of its nodes did; then all came, and no others
pub record Comes (node : Nodes) (S : Done) (n many : ℕ) (order : List ℕ) : Type 0 where
  pub come : Come node S order
  pub all : (j : ℕ) → n ≤ j → j < n + many → after S order j ≡ true
  pub others : (j : ℕ) → (j < n) ⊎ (n + many ≤ j) → after S order j ≡ S j

module _ (node : Nodes) where
  IH : ℕ → Type 0
  IH fuel = (u : Tree) (m : ℕ) (S : Done) → nodes_of u ≤ fuel → AreThose node (nodes_from u m) → Fresh S m (inner_of u) → Comes node S m (inner_of u) (best_from u m)

  module _ (us : List Tree) (m : ℕ) where
    -- operands in turn
    record TurnsCome (S : Done) (ks : List ℕ) (order : List ℕ) : Type 0 where
      come : Come node S order
      all : Each (λ k. (j : ℕ) → IsIn us m k j → after S order j ≡ true) ks
      others : (j : ℕ) → Each (λ k. IsIn us m k j → ⊥) ks → after S order j ≡ S j

    turns_come : (ks : List ℕ) (S : Done) → Each (λ k. k < length us) ks → Distinct ks → Each (λ k. (S : Done) → ((j : ℕ) → IsIn us m k j → S j ≡ false) → Comes node S (operand_number us k m) (inner_of (operand_at us k)) (get_or (orders_from us m) k [])) ks
        → Each (λ k. (j : ℕ) → IsIn us m k j → S j ≡ false) ks → TurnsCome S ks (in_turn ks (orders_from us m))
    turns_come [] S low apart good fresh = record { come = tt; all = tt; others = λ j h. refl }
    turns_come (k ∷ ks) S low apart good fresh =
        let order = get_or (orders_from us m) k [] in
        let first = good.0 S fresh.0 in
        let S1 = after S order in
        let away : (j : ℕ) → (IsIn us m k j → ⊥) → S1 j ≡ S j = λ j n. first.others j (outside k j n) in
        let fresh1 : Each (λ q. (j : ℕ) → IsIn us m q j → S1 j ≡ false) ks =
        Each-both (λ q. q ≢ k) (λ q. (q < length us) × ((j : ℕ) → IsIn us m q j → S j ≡ false)) (λ q. (j : ℕ) → IsIn us m q j → S1 j ≡ false) ks
        (λ q n f j is. away j (λ is'. ranges_apart us q k m j f.0 low.0 n is is') ∙ f.1 j is) apart.0
        (Each-both (λ q. q < length us) (λ q. (j : ℕ) → IsIn us m q j → S j ≡ false) (λ q. (q < length us) × ((j : ℕ) → IsIn us m q j → S j ≡ false)) ks (λ q a b. (a, b)) low.1 fresh.1) in
        let rest = turns_come ks S1 low.1 apart.1 good.1 fresh1 in
        let whole = after-append S order (in_turn ks (orders_from us m)) in
        record {
          come = Come-append node S order (in_turn ks (orders_from us m)) first.come rest.come;
          all = (
            (λ j is. ap (λ (T : Done). T j) whole ∙ rest.others j (Each-both (λ q. q ≢ k) (λ q. q < length us) (λ q. IsIn us m q j → ⊥) ks (λ q n l is'. ranges_apart us q k m j l low.0 n is' is) apart.0 low.1) ∙ first.all j is.0 is.1),
            Each-map (λ q. (j : ℕ) → IsIn us m q j → after S1 (in_turn ks (orders_from us m)) j ≡ true) (λ q. (j : ℕ) → IsIn us m q j → after S (order ++ in_turn ks (orders_from us m)) j ≡ true) ks (λ q f j is. ap (λ (T : Done). T j) whole ∙ f j is) rest.all,
          );
          others = λ j h. ap (λ (T : Done). T j) whole ∙ rest.others j h.1 ∙ away j h.0;
        }
      where
        outside : (k j : ℕ) → (IsIn us m k j → ⊥) → (j < operand_number us k m) ⊎ (operand_number us k m + inner_of (operand_at us k) ≤ j)
        outside k j n = ⊎_elim (λ l. inl l) (λ h. ⊎_elim (λ l. absurd (n (h, l))) (λ g. inr g) (cases_lt j (operand_number us k m + inner_of (operand_at us k)))) (cases_lt j (operand_number us k m))

    -- the roots of the operands, by the numbers of all below
    roots_from : (T : Done) (vs : List Tree) (j : ℕ) → ((i : ℕ) → j ≤ i → i < j + inner_in vs → T i ≡ true) → EachNumber (λ i u. is_computed u ≡ true → T i ≡ true) vs j
    roots_from T [] j all = tt
    roots_from T (v ∷ vs) j all = ((λ c. let p = inner_positive v c in all j (omega arith) (omega arith)), roots_from T vs (j + inner_of v) (λ i low high. all i (omega arith) (omega arith)))

  best_step : (fuel : ℕ) → ((u : Tree) (m : ℕ) (S : Done) → nodes_of u ≤ fuel → AreThose node (nodes_from u m) → Fresh S m (inner_of u) → Comes node S m (inner_of u) (best_from u m)) → (t : Tree) (n : ℕ) (S : Done) → nodes_of t ≤ suc fuel → Fresh S n (inner_of t) → is_computed t ≡ true → AreThose node (node_at t n ∷ nodes_all (operands_of t) (n + 1)) → Comes node S n (inner_of t) (node_order t (orders_from (operands_of t) (n + 1)) n)
  best_step fuel ih t n S fit fresh inner those' =
      let many = inner_below t inner in
      let nodes = nodes_below t inner in
      let turns = turns_come (operands_of t) (n + 1) (places_of t) S (places_below t) (places_apart t)
      (Each-map (λ k. k < length (operands_of t)) (λ k. (S : Done) → ((j : ℕ) → IsIn (operands_of t) (n + 1) k j → S j ≡ false) → Comes node S (operand_number (operands_of t) k (n + 1)) (inner_of (operand_at (operands_of t) k)) (get_or (orders_from (operands_of t) (n + 1)) k [])) (places_of t)
      (λ k low T f. subst (λ (order : List ℕ). Comes node T (operand_number (operands_of t) k (n + 1)) (inner_of (operand_at (operands_of t) k)) order) (sym (order_at (operands_of t) k (n + 1) low))
      (ih (operand_at (operands_of t) k) (operand_number (operands_of t) k (n + 1)) T (fits (operands_of t) k (omega arith) low) (nodes_at (λ x. node x.number ≡ x) (operands_of t) k (n + 1) low those'.1) (λ j a b. f j (a, b)))) (places_below t))
      (Each-map (λ k. k < length (operands_of t)) (λ k. (j : ℕ) → IsIn (operands_of t) (n + 1) k j → S j ≡ false) (places_of t) (λ k low j is. let r = number_low (operands_of t) k (n + 1) low in fresh j (let a = is.0 in omega (arith, r.0)) (let b = is.1 in omega (arith, r.1))) (places_below t)) in
      let order = in_turn (places_of t) (orders_from (operands_of t) (n + 1)) in
      let T = after S order in
      let outside : (j : ℕ) → (j < n + 1) ⊎ (n + 1 + inner_in (operands_of t) ≤ j) → T j ≡ S j = λ j h. turns.others j (Each-map (λ k. k < length (operands_of t)) (λ k. IsIn (operands_of t) (n + 1) k j → ⊥) (places_of t) (λ k low is. let r = number_low (operands_of t) k (n + 1) low in let a = is.0 in let b = is.1 in ⊎_elim (λ l. omega (arith, r.0)) (λ g. omega (arith, r.1)) h) (places_below t)) in
      let inside : (j : ℕ) → n + 1 ≤ j → j < n + 1 + inner_in (operands_of t) → T j ≡ true = λ j low high.
      (let r = some_range (operands_of t) (n + 1) j low high in
      let c = computed_there (operands_of t) r.0 (n + 1) j r.2 in
      let at = at_place (λ k u. is_computed u ≡ true → (j : ℕ) → IsIn (operands_of t) (n + 1) k j → T j ≡ true) (operands_of t) 0 r.0 r.1 (each_place (λ k. (j : ℕ) → IsIn (operands_of t) (n + 1) k j → T j ≡ true) t turns.all) in
      let zero_plus : 0 + r.0 ≡ r.0 = omega arith in
      (subst (λ (k : ℕ). is_computed (operand_at (operands_of t) r.0) ≡ true → (j : ℕ) → IsIn (operands_of t) (n + 1) k j → T j ≡ true) zero_plus at) c j r.2) in
      let new : T n ≡ false = outside n (inl (omega arith)) ∙ fresh n (omega arith) (omega arith) in
      let ready = subst (λ (x : Node). AreDone T x.turns) (sym those'.0) (are_done T (operands_of t) 0 (n + 1) (roots_from (operands_of t) (n + 1) T (operands_of t) (n + 1) inside)) in
      let end = after-append S order (n ∷ []) in
      record {
        come = Come-append node S order (n ∷ []) turns.come (new, ready, tt);
        all = λ j low high. ap (λ (U : Done). U j) end ∙ ⊎_elim (λ e. ap (λ b. b || T j) (eq-eqb n j (sym e))) (λ g. ap (λ b. b || T j) (ne_eqb n j (λ e. g (sym e))) ∙ inside j (next_low j low g) (omega arith)) (cases_eq j n);
        others = λ j h. ap (λ (U : Done). U j) end ∙ ap (λ b. b || T j) (ne_eqb n j (λ e. ⊎_elim (λ l. omega arith) (λ g. omega arith) h)) ∙ outside j (⊎_elim (λ l. inl (omega arith)) (λ g. inr (omega arith)) h);
      }
    where
      next_low : (j : ℕ) → n ≤ j → j ≢ n → n + 1 ≤ j
      next_low j l g = omega arith

      fits : (us : List Tree) (k : ℕ) → nodes_in us ≤ fuel → k < length us → nodes_of (operand_at us k) ≤ fuel
      fits [] k h l = absurd (omega arith)
      fits (u ∷ us) zero h l = omega arith
      fits (u ∷ us) (suc k) h l = fits us k (omega arith) (omega arith)

      computed_there : (us : List Tree) (k m j : ℕ) → IsIn us m k j → is_computed (operand_at us k) ≡ true
      computed_there us k m j is = ⊎_elim (λ e. e) (λ e. let none = no_inner (operand_at us k) e in let a = is.0 in let b = is.1 in absurd (omega arith)) (cases_Bool (is_computed (operand_at us k)))

  pub best_comes : (fuel : ℕ) (t : Tree) (n : ℕ) (S : Done) → nodes_of t ≤ fuel → AreThose node (nodes_from t n) → Fresh S n (inner_of t) → Comes node S n (inner_of t) (best_from t n)
  best_comes zero t n S fit those fresh = let p = nodes_positive t in absurd (omega arith)
  best_comes (suc fuel) t n S fit those fresh =
      ⊎_elim
      (λ inner. subst (λ (order : List ℕ). Comes node S n (inner_of t) order) (sym (best_whole t n inner)) (best_step fuel (λ u m T f a b. best_comes fuel u m T f a b) t n S fit fresh inner (subst (λ (nodes : List Node). AreThose node nodes) (nodes_whole t n inner) those)))
      (λ plain. subst (λ (order : List ℕ). Comes node S n (inner_of t) order) (sym (best_none t n plain)) (let none = no_inner t plain in record { come = tt; all = λ j low high. absurd (omega arith); others = λ j h. refl }))
      (cases_Bool (is_computed t))
