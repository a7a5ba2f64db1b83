-- Orders as lists give growing sets of nodes; so each holds the label at some place.
use Rattle.std.proofs.Common.{◌≡◌, ◌≢◌, ℕ, zero, suc, ◌+◌, ◌-◌, ◌<◌, ◌≤◌, List, [], ◌∷◌, ◌++◌, length, get_or, take, refl, sym, ap, ◌∙◌, subst, arith, Bool, true, false}
use Rattle.std.specs.Prelude.{◌==◌, ◌||◌}
use Rattle.std.proofs.lemmas.Bool.{cases_eq, cases_lt, eq-eqb, ne_eqb, false≢true}
use Rattle.std.proofs.Math.Seq.{take-length}
use mathlib.Core.Logic.{⊎_elim}
use Rattle.pass_plan.specs.Tree.{AtLeaf, Literal, One, Two, Cast, Move, Select, is_computed}
use Rattle.pass_plan.specs.Label.{label_of}
use Rattle.pass_plan.specs.declared.turn.Turn.{Turn}
use Rattle.pass_plan.specs.Numbers.{Node, inner_of, nodes_from}
use Rattle.pass_plan.proofs.Each.{Each, Each-map}
use Rattle.pass_plan.proofs.TurnLabels.{inner_positive}
use Rattle.eval_order.specs.Order.{Tree, Done, done_by, AreDone, MayCome, IsOrder, numbered_node}
use Rattle.eval_order.specs.Held.{held_in, held_at}
use Rattle.eval_order.proofs.Nodes.{Each-left, Each-right, each_number, lookup}
use Rattle.eval_order.proofs.LowerBound.{FollowsOperands, holds_label}
use Rattle.eval_order.proofs.OneStep.{IsClosed}

-- ---- the nodes among the first

pub done_more : (xs : List ℕ) (t k : ℕ) → done_by (take t xs) k ≡ true → done_by (take (suc t) xs) k ≡ true
done_more [] t k h = absurd (none t h)
  where
    none : (t : ℕ) → done_by (take t []) k ≡ true → ⊥
    none zero h = false≢true h
    none (suc t) h = false≢true h
done_more (x ∷ xs) zero k h = absurd (false≢true h)
done_more (x ∷ xs) (suc t) k h = go (x == k) (done_by (take t xs) k) (done_by (take (suc t) xs) k) (done_more xs t k) h
  where
    go : (a b c : Bool) → (b ≡ true → c ≡ true) → (a || b) ≡ true → (a || c) ≡ true
    go true b c f h = refl
    go false b c f h = f h

-- one more: the same but for its number
pub done_next : (xs : List ℕ) (t k : ℕ) → t < length xs → k ≢ get_or xs t 0 → done_by (take (t + 1) xs) k ≡ done_by (take t xs) k
done_next [] t k h n = absurd (omega arith)
done_next (x ∷ xs) zero k h n = ap (λ b. b || false) (ne_eqb x k (λ e. n (sym e)))
done_next (x ∷ xs) (suc t) k h n =
    let e : suc t + 1 ≡ suc (t + 1) = omega arith in
    ap (λ j. done_by (take j (x ∷ xs)) k) e ∙ ap (λ b. (x == k) || b) (done_next xs t k (omega arith) n)

pub done_now : (xs : List ℕ) (t : ℕ) → t < length xs → done_by (take (t + 1) xs) (get_or xs t 0) ≡ true
done_now [] t h = absurd (omega arith)
done_now (x ∷ xs) zero h = ap (λ b. b || false) (eq-eqb x x refl)
done_now (x ∷ xs) (suc t) h =
    let e : suc t + 1 ≡ suc (t + 1) = omega arith in
    ap (λ j. done_by (take j (x ∷ xs)) (get_or xs t 0)) e ∙ ap (λ b. (x == get_or xs t 0) || b) (done_now xs t (omega arith)) ∙ or_true (x == get_or xs t 0)
  where
    or_true : (b : Bool) → (b || true) ≡ true
    or_true true = refl
    or_true false = refl

-- the place at which a node came
came_at : (xs : List ℕ) (t k : ℕ) → done_by (take t xs) k ≡ true → (s : ℕ) × (s < t) × (s < length xs) × (get_or xs s 0 ≡ k)
came_at [] zero k h = absurd (false≢true h)
came_at [] (suc t) k h = absurd (false≢true h)
came_at (x ∷ xs) zero k h = absurd (false≢true h)
came_at (x ∷ xs) (suc t) k h =
    ⊎_elim
    (λ e. (0, omega arith, omega arith, e))
    (λ n. let r = came_at xs t k (sym (ap (λ b. b || done_by (take t xs) k) (ne_eqb x k n)) ∙ h) in (suc r.0, omega (arith, r.1), omega (arith, r.2), r.3))
    (cases_eq x k)

done_by_later : (xs : List ℕ) (s d k : ℕ) → done_by (take s xs) k ≡ true → done_by (take (s + d) xs) k ≡ true
done_by_later xs s zero k h = let e : s ≡ s + 0 = omega arith in subst (λ (t : ℕ). done_by (take t xs) k ≡ true) e h
done_by_later xs s (suc d) k h = let e : suc (s + d) ≡ s + suc d = omega arith in subst (λ (t : ℕ). done_by (take t xs) k ≡ true) e (done_more xs (s + d) k (done_by_later xs s d k h))

pub done_later : (xs : List ℕ) (s t k : ℕ) → s ≤ t → done_by (take s xs) k ≡ true → done_by (take t xs) k ≡ true
done_later xs s t k l h = let e : s + (t - s) ≡ t = omega arith in subst (λ (u : ℕ). done_by (take u xs) k ≡ true) e (done_by_later xs s (t - s) k h)

pub AreDone-more : (S S' : Done) (turns : List Turn) → ((k : ℕ) → S k ≡ true → S' k ≡ true) → AreDone S turns → AreDone S' turns
AreDone-more S S' [] f h = tt
AreDone-more S S' (turn ∷ turns) f h = (f turn.number h.0, AreDone-more S S' turns f h.1)

-- ---- lists each of whose numbers may come at its place

module _ (tree : Tree) (order : List ℕ) where
  abbrev pub ComeUpTo : ℕ → Type 0
  ComeUpTo at = (t : ℕ) → t < at → MayCome tree (take t order) (get_or order t 0)

  -- the operands of a node that came came before it
  operands_came : (at : ℕ) → ComeUpTo at → (t k : ℕ) → t < at → done_by (take (suc t) order) k ≡ true → AreDone (done_by (take t order)) (numbered_node tree k).turns
  operands_came at each t k below came =
      let s = came_at order (suc t) k came in
      let may = each s.0 (omega (arith, s.1)) in
      let ready = subst (λ (j : ℕ). AreDone (done_by (take s.0 order)) (numbered_node tree j).turns) s.3 may.operands in
      AreDone-more (done_by (take s.0 order)) (done_by (take t order)) (numbered_node tree k).turns (λ j h. done_later order s.0 t j (omega (arith, s.1)) h) ready

  -- so the nodes among the first have their operands
  pub closed_at : (at : ℕ) → ComeUpTo at → IsClosed (done_by (take at order)) (nodes_from tree 1)
  closed_at zero each = Each-map (λ x. numbered_node tree x.number ≡ x) (λ x. done_by (take 0 order) x.number ≡ true → AreDone (done_by (take 0 order)) x.turns) (nodes_from tree 1) (λ x e h. absurd (none order x.number h)) (lookup tree)
    where
      none : (xs : List ℕ) (k : ℕ) → done_by (take 0 xs) k ≡ true → ⊥
      none [] k h = false≢true h
      none (x ∷ xs) k h = false≢true h
  closed_at (suc t) each =
      Each-map (λ x. numbered_node tree x.number ≡ x) (λ x. done_by (take (suc t) order) x.number ≡ true → AreDone (done_by (take (suc t) order)) x.turns) (nodes_from tree 1)
      (λ x e h. AreDone-more (done_by (take t order)) (done_by (take (suc t) order)) x.turns (λ k g. done_more order t k g) (subst (λ (y : Node). AreDone (done_by (take t order)) y.turns) e (operands_came (suc t) each t x.number (omega arith) h))) (lookup tree)

-- ---- node after operands, by the tree

abbrev Comes : (ℕ → Done) → Node → Type 0
Comes done x = (time : ℕ) → done (suc time) x.number ≡ true → AreDone (done time) x.turns

follows_from : (t : Tree) (done : ℕ → Done) (n : ℕ) → Each (Comes done) (nodes_from t n) → FollowsOperands t done n
follows_from (AtLeaf l) done n h = tt
follows_from (Literal v) done n h = tt
follows_from (One op elem a) done n h = ((λ c time e. (each_number (done time) (a ∷ []) 0 (n + 1) (h.0 time e)).0 c), follows_from a done (n + 1) h.1)
follows_from (Cast elem from a) done n h = ((λ c time e. (each_number (done time) (a ∷ []) 0 (n + 1) (h.0 time e)).0 c), follows_from a done (n + 1) h.1)
follows_from (Move elem a) done n h = ((λ c time e. (each_number (done time) (a ∷ []) 0 (n + 1) (h.0 time e)).0 c), follows_from a done (n + 1) h.1)
follows_from (Two op elem a b) done n h =
    let j = n + 1 + inner_of a in (
      ((λ c time e. (each_number (done time) (a ∷ b ∷ []) 0 (n + 1) (h.0 time e)).0 c), follows_from a done (n + 1) (Each-left (Comes done) (nodes_from a (n + 1)) (nodes_from b j) h.1)),
      ((λ c time e. (each_number (done time) (a ∷ b ∷ []) 0 (n + 1) (h.0 time e)).1.0 c), follows_from b done j (Each-right (Comes done) (nodes_from a (n + 1)) (nodes_from b j) h.1)),
    )
follows_from (Select elem c x y) done n h =
    let j = n + 1 + inner_of c in
    let k = n + 1 + inner_of c + inner_of x in
    let later = Each-right (Comes done) (nodes_from c (n + 1)) (nodes_from x j ++ nodes_from y k) h.1 in (
      ((λ i time e. (each_number (done time) (c ∷ x ∷ y ∷ []) 0 (n + 1) (h.0 time e)).0 i), follows_from c done (n + 1) (Each-left (Comes done) (nodes_from c (n + 1)) (nodes_from x j ++ nodes_from y k) h.1)),
      (
        ((λ i time e. (each_number (done time) (c ∷ x ∷ y ∷ []) 0 (n + 1) (h.0 time e)).1.0 i), follows_from x done j (Each-left (Comes done) (nodes_from x j) (nodes_from y k) later)),
        ((λ i time e. (each_number (done time) (c ∷ x ∷ y ∷ []) 0 (n + 1) (h.0 time e)).1.1.0 i), follows_from y done k (Each-right (Comes done) (nodes_from x j) (nodes_from y k) later)),
      ),
    )

take_past : (xs : List ℕ) (t : ℕ) → length xs ≤ t → take (suc t) xs ≡ take t xs
take_past [] zero h = refl
take_past [] (suc t) h = refl
take_past (x ∷ xs) zero h = absurd (omega arith)
take_past (x ∷ xs) (suc t) h = ap (λ ys. x ∷ ys) (take_past xs t (omega arith))

-- at some place of an order the label is held
pub label_held : (tree : Tree) (order : List ℕ) → is_computed tree ≡ true → IsOrder tree order → (t : ℕ) × (t < length order) × (label_of tree ≤ held_at tree order t)
label_held tree order inner is =
    let done : ℕ → Done = λ t. done_by (take t order) in
    let comes = Each-map (λ x. numbered_node tree x.number ≡ x) (Comes done) (nodes_from tree 1) (λ x e time h. subst (λ (y : Node). AreDone (done time) y.turns) e (ready time x.number h)) (lookup tree) in
    let root = is.all 1 (omega arith) (inner_positive tree inner) in
    let end : done (length order) 1 ≡ true = ap (λ xs. done_by xs 1) (take-length order) ∙ root in
    let r = holds_label done (λ k. none order k) (λ t k h. done_more order t k h) tree 1 (length order) (follows_from tree done 1 comes) inner end in
    let next : suc r.0 ≡ r.0 + 1 = omega arith in
    (r.0, r.1, subst (λ (j : ℕ). label_of tree ≤ held_in tree (done r.0) (done j) 1 false) next r.2)
  where
    none : (xs : List ℕ) (k : ℕ) → done_by (take 0 xs) k ≡ false
    none [] k = refl
    none (x ∷ xs) k = refl

    ready : (time k : ℕ) → done_by (take (suc time) order) k ≡ true → AreDone (done_by (take time order)) (numbered_node tree k).turns
    ready time k h =
        ⊎_elim (λ l. operands_came tree order (length order) is.each time k l h)
        (λ past. let s = came_at order (suc time) k h in
        let may = is.each s.0 s.2 in
        AreDone-more (done_by (take s.0 order)) (done_by (take time order)) (numbered_node tree k).turns (λ j g. done_later order s.0 time j (omega (arith, s.1)) g) (subst (λ (j : ℕ). AreDone (done_by (take s.0 order)) (numbered_node tree j).turns) s.3 may.operands))
        (cases_lt time (length order))
