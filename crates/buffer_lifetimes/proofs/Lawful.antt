-- The order of a normalised tree is one.
use Rattle.std.proofs.Common.{◌≡◌, ◌≢◌, ℕ, zero, suc, ◌+◌, ◌<◌, ◌≤◌, List, [], ◌∷◌, ◌++◌, length, get_or, refl, sym, ap, ◌∙◌, subst, arith, Bool, true, false}
use Rattle.std.specs.Prelude.{Option, Some, None, ◌==◌, if◌then◌else◌, cond, map, max, not, ◌&&◌, ◌⊎◌}
use Rattle.std.specs.Option.{option_map_or}
use Rattle.std.specs.List.{range_with_len}
use Rattle.std.proofs.lemmas.Bool.{cases_eq, cases_Bool, eq-eqb, ne_eqb, false≢true}
use Rattle.std.proofs.Math.ListN.{get_or-map}
use Rattle.std.proofs.lemmas.List.FromFn.{length-range_with_len}
use mathlib.Core.Logic.{⊎_elim, inl, inr}
use Rattle.ven_base.specs.declared.elem.Elem.{Elem}
use Rattle.ven_base.specs.Elem.{size_of}
use Rattle.pass_plan.specs.Tree.{AtLeaf, Literal, One, Two, Cast, Move, Select, is_computed, op_of, elem_of, from_of, operands_of}
use Rattle.pass_plan.specs.Label.{label_of, needed}
use Rattle.pass_plan.specs.Normal.{HasNormalSelects}
use Rattle.pass_plan.specs.declared.turn.Turn.{Turn}
use Rattle.pass_plan.specs.Numbers.{places_of}
use Rattle.pass_plan.specs.NumberShown.{no_tree}
use Rattle.pass_plan.proofs.Turns.{label_is}
use Rattle.pass_plan.proofs.Each.{Each, Each-map, Each-both, EachPlace, EachPlace-map, EachPlace-both, operands_at, places_each, each_place, Distinct, places_apart, labels_by_place, no_turns}
use Rattle.buffer_lifetimes.specs.declared.step.Operand.{Operand}
use Rattle.buffer_lifetimes.specs.declared.step.Operand.TheVariants as operand
use Rattle.buffer_lifetimes.specs.Step.{Tree}
use Rattle.buffer_lifetimes.specs.Order.{State, no_slots, put, IsArg, without, without_all, AreArgs, KeepsPlace, CanStep, Leads}
use Rattle.buffer_lifetimes.specs.OrderOf.{Code, no_code, remove_slot, put_slot, OperandsCode, operands_code, arg_for, args_for, first_slot, slot_kept, slot_written, step_for, node_code, code_of}
use Rattle.buffer_lifetimes.specs.Laws.{HasOrder}
use Rattle.buffer_lifetimes.proofs.Slots.{if_same, if_other, put_same, put_other}
use Rattle.buffer_lifetimes.proofs.Trees.{Leads-append}

-- ---- lists of slots

abbrev In : ℕ → List ℕ → Type 0
In s [] = ⊥
In s (k ∷ ks) = (s ≡ k) ⊎ In s ks

Each-in : (P : ℕ → Type 0) (xs : List ℕ) (s : ℕ) → Each P xs → In s xs → P s
Each-in P [] s h i = absurd i
Each-in P (k ∷ ks) s h i = ⊎_elim (λ e. subst P (sym e) h.0) (λ r. Each-in P ks s h.1 r) i

remove-cases : (P : List ℕ → Type 0) (s k : ℕ) (ks : List ℕ) → (k ≡ s → P (remove_slot s ks)) → (k ≢ s → P (k ∷ remove_slot s ks)) → P (remove_slot s (k ∷ ks))
remove-cases P s k ks same other =
    ⊎_elim (λ e. subst (λ (b : Bool). P (cond (not b) (k ∷ remove_slot s ks) (remove_slot s ks))) (sym (eq-eqb k s e)) (same e))
    (λ n. subst (λ (b : Bool). P (cond (not b) (k ∷ remove_slot s ks) (remove_slot s ks))) (sym (ne_eqb k s n)) (other n))
    (cases_eq k s)

Each-remove : (P : ℕ → Type 0) (s : ℕ) (xs : List ℕ) → Each P xs → Each P (remove_slot s xs)
Each-remove P s [] h = tt
Each-remove P s (k ∷ ks) h = remove-cases (λ r. Each P r) s k ks (λ e. Each-remove P s ks h.1) (λ n. (h.0, Each-remove P s ks h.1))

remove-other : (s : ℕ) (xs : List ℕ) → Each (λ k. k ≢ s) (remove_slot s xs)
remove-other s [] = tt
remove-other s (k ∷ ks) = remove-cases (λ r. Each (λ j. j ≢ s) r) s k ks (λ e. remove-other s ks) (λ n. (n, remove-other s ks))

Distinct-remove : (s : ℕ) (xs : List ℕ) → Distinct xs → Distinct (remove_slot s xs)
Distinct-remove s [] h = tt
Distinct-remove s (k ∷ ks) h = remove-cases Distinct s k ks (λ e. Distinct-remove s ks h.1) (λ n. (Each-remove (λ j. j ≢ k) s ks h.0, Distinct-remove s ks h.1))

In-remove : (s t : ℕ) (xs : List ℕ) → In t (remove_slot s xs) → In t xs
In-remove s t [] i = i
In-remove s t (k ∷ ks) i = (remove-cases (λ r. In t r → In t (k ∷ ks)) s k ks (λ e i. inr (In-remove s t ks i)) (λ n i. ⊎_elim (λ e. inl e) (λ r. inr (In-remove s t ks r)) i)) i

remove-none : (s : ℕ) (xs : List ℕ) → Each (λ k. k ≢ s) xs → length (remove_slot s xs) ≡ length xs
remove-none s [] h = refl
remove-none s (k ∷ ks) h = remove-cases (λ r. length r ≡ length (k ∷ ks)) s k ks (λ e. absurd (h.0 e)) (λ n. let r = remove-none s ks h.1 in omega arith)

remove-length : (s : ℕ) (xs : List ℕ) → Distinct xs → In s xs → length (remove_slot s xs) + 1 ≡ length xs
remove-length s [] h i = absurd i
remove-length s (k ∷ ks) h i =
    remove-cases (λ r. length r + 1 ≡ length (k ∷ ks)) s k ks
    (λ e. let rest : Each (λ j. j ≢ s) ks = subst (λ (x : ℕ). Each (λ j. j ≢ x) ks) e h.0 in let r = remove-none s ks rest in omega arith)
    (λ n. let r : length (remove_slot s ks) + 1 ≡ length ks = ⊎_elim (λ e. absurd (n (sym e))) (λ later. remove-length s ks h.1 later) i in omega arith)

first_in : (xs : List ℕ) → 1 ≤ length xs → In (get_or xs 0 0) xs
first_in [] h = absurd (omega arith)
first_in (x ∷ xs) h = inl refl

-- ---- operands with their slots

-- a slot that holds nothing and is one of n
abbrev IsEmpty : ℕ → State → ℕ → Type 0
IsEmpty n state s = (state s ≡ None) × (s < n)

record CodeRight (n : ℕ) (state : State) (tree : Tree) (free : List ℕ) (code : Code) : Type 0 where
  in_free : In code.to free
  leads : Leads n state code.steps (put state code.to (Some tree))

-- the code works out its tree on any slots that are free, if there are as many as the label
Good : ℕ → Tree → (List ℕ → Code) → Type 0
Good n tree code = (state : State) (free : List ℕ) → Distinct free → Each (IsEmpty n state) free → label_of tree ≤ length free → CodeRight n state tree free (code free)

module _ (n : ℕ) (tree : ℕ → Tree) (codes : List (List ℕ → Code)) where
  record PlacedRight (state : State) (free ks : List ℕ) (before : ℕ → ℕ) (p : OperandsCode) : Type 0 where
    after : State
    leads : Leads n state p.steps after
    full : Each (λ k. after (p.slot k) ≡ Some (tree k)) ks
    in_free : Each (λ k. In (p.slot k) free) ks
    apart : Each (λ k. Each (λ q. k ≢ q → p.slot k ≢ p.slot q) ks) ks
    others : (s : ℕ) → Each (λ k. p.slot k ≢ s) ks → after s ≡ state s
    left_in : (s : ℕ) → In s p.left → In s free × Each (λ k. p.slot k ≢ s) ks
    left_many : length p.left + length ks ≡ length free
    stays : (k : ℕ) → Each (λ j. j ≢ k) ks → p.slot k ≡ before k

  placed_right : (state : State) (free ks : List ℕ) (before : ℕ → ℕ) → Each (λ k. Good n (tree k) (get_or codes k no_code)) ks → Distinct ks → needed (map (λ k. label_of (tree k)) ks) ≤ length free → Distinct free
      → Each (IsEmpty n state) free → PlacedRight state free ks before (operands_code ks codes before free)
  unfolding Good
  placed_right state free [] before good apart enough distinct empty = record {
    after = state;
    leads = refl;
    full = tt;
    in_free = tt;
    apart = tt;
    others = λ s h. refl;
    left_in = λ s i. (i, tt);
    left_many = omega arith;
    stays = λ k h. refl;
  }
  placed_right state free (k ∷ ks) before good apart enough distinct empty =
      let code = get_or codes k no_code free in
      let to = code.to in
      let h = good.0 state free distinct empty (omega arith) in
      let state1 = put state to (Some (tree k)) in
      let free1 = remove_slot to free in
      let many = remove-length to free distinct h.in_free in
      let empty1 : Each (IsEmpty n state1) free1 = Each-both (λ s. s ≢ to) (IsEmpty n state) (IsEmpty n state1) free1 (λ s other e. (put_other state to (Some (tree k)) s other ∙ e.0, e.1)) (remove-other to free) (Each-remove (IsEmpty n state) to free empty) in
      let before1 = put_slot before k to in
      let r = placed_right state1 free1 ks before1 good.1 apart.1 (omega arith) (Distinct-remove to free distinct) empty1 in
      let rest = operands_code ks codes before1 free1 in
      let own : rest.slot k ≡ to = r.stays k apart.0 ∙ if_same k k to (before k) refl in
      let away : Each (λ q. rest.slot q ≢ to) ks = Each-map (λ q. In (rest.slot q) free1) (λ q. rest.slot q ≢ to) ks (λ q i. Each-in (λ s. s ≢ to) free1 (rest.slot q) (remove-other to free) i) r.in_free in
      record {
        after = r.after;
        leads = Leads-append n code.steps rest.steps state state1 r.after h.leads r.leads;
        full = (ap r.after own ∙ r.others to away ∙ put_same state to (Some (tree k)) to refl, r.full);
        in_free = (subst (λ (s : ℕ). In s free) (sym own) h.in_free, Each-map (λ q. In (rest.slot q) free1) (λ q. In (rest.slot q) free) ks (λ q i. In-remove to (rest.slot q) free i) r.in_free);
        apart = (
          ((λ differ. absurd (differ refl)), Each-map (λ q. rest.slot q ≢ to) (λ q. k ≢ q → rest.slot k ≢ rest.slot q) ks (λ q n differ e. n (sym e ∙ own)) away),
          Each-both (λ q. rest.slot q ≢ to) (λ q. Each (λ u. q ≢ u → rest.slot q ≢ rest.slot u) ks) (λ q. Each (λ u. q ≢ u → rest.slot q ≢ rest.slot u) (k ∷ ks)) ks (λ q n more. ((λ differ e. n (e ∙ own)), more)) away r.apart,
        );
        others = λ s all. let first : s ≢ to = λ e. all.0 (own ∙ sym e) in r.others s all.1 ∙ put_other state to (Some (tree k)) s first;
        left_in = λ s i. let l = r.left_in s i in let first : s ≢ to = Each-in (λ j. j ≢ to) free1 s (remove-other to free) l.0 in (In-remove to s free l.0, ((λ e. first (sym e ∙ own)), l.1));
        left_many = let l = r.left_many in omega arith;
        stays = λ j all. r.stays j all.1 ∙ if_other j k to (before j) (λ e. all.0 (sym e));
      }

-- ---- arguments

arg-computed : (t : Tree) (s : ℕ) → is_computed t ≡ true → arg_for t s ≡ operand.Slot s
arg-computed (AtLeaf k) s h = absurd (false≢true h)
arg-computed (Literal v) s h = absurd (false≢true h)
arg-computed (One op elem a) s h = refl
arg-computed (Two op elem a b) s h = refl
arg-computed (Cast elem from a) s h = refl
arg-computed (Move elem a) s h = refl
arg-computed (Select elem c x y) s h = refl

clash : (b : Bool) → b ≡ true → b ≡ false → ⊥
clash b e f = cc

without-plain : (state : State) (t : Tree) (s : ℕ) → is_computed t ≡ false → without state (arg_for t s) ≡ state
without-plain state (AtLeaf k) s h = refl
without-plain state (Literal v) s h = refl
without-plain state (One op elem a) s h = absurd (clash true refl h)
without-plain state (Two op elem a b) s h = absurd (clash true refl h)
without-plain state (Cast elem from a) s h = absurd (clash true refl h)
without-plain state (Move elem a) s h = absurd (clash true refl h)
without-plain state (Select elem c x y) s h = absurd (clash true refl h)

arg_is : (state : State) (t : Tree) (s : ℕ) → (is_computed t ≡ true → state s ≡ Some t) → IsArg state (arg_for t s) t
arg_is state (AtLeaf k) s h = refl
arg_is state (Literal v) s h = refl
arg_is state (One op elem a) s h = (s, refl, h refl)
arg_is state (Two op elem a b) s h = (s, refl, h refl)
arg_is state (Cast elem from a) s h = (s, refl, h refl)
arg_is state (Move elem a) s h = (s, refl, h refl)
arg_is state (Select elem c x y) s h = (s, refl, h refl)

-- what is left of a state once an operand was read
without-at : (state : State) (t : Tree) (s : ℕ) (P : State → Type 0) → (is_computed t ≡ true → P (put state s None)) → (is_computed t ≡ false → P state) → P (without state (arg_for t s))
without-at state t s P computed plain =
    ⊎_elim (λ e. subst P (sym (ap (without state) (arg-computed t s e))) (computed e)) (λ e. subst P (sym (without-plain state t s e)) (plain e)) (cases_Bool (is_computed t))

-- the slots of those that are computed differ
abbrev SlotsApart : (ℕ → ℕ) → List Tree → ℕ → Type 0
SlotsApart slot [] k = Unit {0}
SlotsApart slot (t ∷ ts) k = (is_computed t ≡ true → EachPlace (λ j u. is_computed u ≡ true → slot j ≢ slot k) ts (k + 1)) × SlotsApart slot ts (k + 1)

args_right : (slot : ℕ → ℕ) (ts : List Tree) (k : ℕ) (state : State) → EachPlace (λ j t. is_computed t ≡ true → state (slot j) ≡ Some t) ts k → SlotsApart slot ts k → AreArgs state (args_for ts slot k) ts
args_right slot [] k state full apart = tt
args_right slot (t ∷ ts) k state full apart = (
  arg_is state t (slot k) full.0,
  args_right slot ts (k + 1) (without state (arg_for t (slot k)))
      (without-at state t (slot k) (λ (s : State). EachPlace (λ j u. is_computed u ≡ true → s (slot j) ≡ Some u) ts (k + 1))
      (λ e. EachPlace-both (λ j u. is_computed u ≡ true → state (slot j) ≡ Some u) (λ j u. is_computed u ≡ true → slot j ≢ slot k) (λ j u. is_computed u ≡ true → put state (slot k) None (slot j) ≡ Some u) ts (k + 1) (λ j u f n c. put_other state (slot k) None (slot j) (n c) ∙ f c) full.1 (apart.0 e))
      (λ e. full.1))
      apart.1,
)

-- all that was filled is read, so the state is as it was
restored : (slot : ℕ → ℕ) (ts : List Tree) (k : ℕ) (state base : State) → ((s : ℕ) → EachPlace (λ j t. is_computed t ≡ true → slot j ≢ s) ts k → state s ≡ base s) → EachPlace (λ j t. is_computed t ≡ true → base (slot j) ≡ None) ts k
    → (s : ℕ) → without_all state (args_for ts slot k) s ≡ base s
restored slot [] k state base same empty s = same s tt
restored slot (t ∷ ts) k state base same empty s =
    restored slot ts (k + 1) (without state (arg_for t (slot k))) base
    (λ j away. without-at state t (slot k) (λ (x : State). x j ≡ base j)
    (λ e. ⊎_elim (λ there. put_same state (slot k) None j there ∙ sym (empty.0 e) ∙ ap base (sym there))
    (λ other. put_other state (slot k) None j other ∙ same j ((λ c back. other (sym back)), away))
    (cases_eq j (slot k)))
    (λ e. same j ((λ c. absurd (clash (is_computed t) c e)), away)))
    empty.1 s

places_from : (ts : List Tree) (low k : ℕ) → low ≤ k → EachPlace (λ j t. low ≤ j) ts k
places_from [] low k h = tt
places_from (t ∷ ts) low k h = (h, places_from ts low (k + 1) (omega arith))

slots_apart : (slot : ℕ → ℕ) (ts : List Tree) (k : ℕ) → EachPlace (λ j t. is_computed t ≡ true → EachPlace (λ q u. is_computed u ≡ true → j ≢ q → slot j ≢ slot q) ts k) ts k → SlotsApart slot ts k
slots_apart slot [] k h = tt
slots_apart slot (t ∷ ts) k h = (
  (λ c. EachPlace-both (λ q u. k + 1 ≤ q) (λ q u. is_computed u ≡ true → k ≢ q → slot k ≢ slot q) (λ q u. is_computed u ≡ true → slot q ≢ slot k) ts (k + 1) (λ q u low f d e. f d (λ x. absurd (omega arith)) (sym e)) (places_from ts (k + 1) (k + 1) (omega arith)) (h.0 c).1),
  slots_apart slot ts (k + 1) (EachPlace-map (λ j u. is_computed u ≡ true → EachPlace (λ q v. is_computed v ≡ true → j ≢ q → slot j ≢ slot q) (t ∷ ts) k) (λ j u. is_computed u ≡ true → EachPlace (λ q v. is_computed v ≡ true → j ≢ q → slot j ≢ slot q) ts (k + 1)) ts (k + 1) (λ j u f c. (f c).1) h.1),
)

-- ---- a node

module _ (n : ℕ) (state : State) (free : List ℕ) (t : Tree) (empty : Each (IsEmpty n state) free) where
  abbrev ops : List Tree
  ops = operands_of t

  abbrev tree_at : ℕ → Tree
  tree_at j = get_or (operands_of t) j no_tree

  -- a node after its operands, into a free slot that it may write
  node_right : (codes : List (List ℕ → Code)) (before : ℕ → ℕ) (p : OperandsCode) → is_computed t ≡ true → PlacedRight n tree_at codes state free (places_of t) before p
      → (to : ℕ) → slot_written t (args_for ops p.slot 0) p.left ≡ to → In to free → KeepsPlace (op_of t) (elem_of t) (from_of t) (args_for ops p.slot 0) to
      → CodeRight n state t free (record { steps = p.steps ++ step_for t (args_for ops p.slot 0) p.left ∷ []; to = slot_written t (args_for ops p.slot 0) p.left })
  node_right codes before p inner right to writes in_free place =
      let args = args_for ops p.slot 0 in
      let step = step_for t args p.left in
      let full = EachPlace-both (λ j u. is_computed u ≡ true → right.after (p.slot j) ≡ Some (tree_at j)) (λ j u. tree_at j ≡ u) (λ j u. is_computed u ≡ true → right.after (p.slot j) ≡ Some u) ops 0 (λ j u f e c. f c ∙ ap (λ v. Some v) e)
      (each_place (λ j. right.after (p.slot j) ≡ Some (tree_at j)) t right.full) (operands_at t no_tree) in
      let pairs = EachPlace-map (λ j u. is_computed u ≡ true → Each (λ q. j ≢ q → p.slot j ≢ p.slot q) (places_of t)) (λ j u. is_computed u ≡ true → EachPlace (λ q v. is_computed v ≡ true → j ≢ q → p.slot j ≢ p.slot q) ops 0) ops 0
      (λ j u f c. each_place (λ q. j ≢ q → p.slot j ≢ p.slot q) t (f c)) (each_place (λ j. Each (λ q. j ≢ q → p.slot j ≢ p.slot q) (places_of t)) t right.apart) in
      let blank = each_place (λ j. state (p.slot j) ≡ None) t (Each-map (λ j. In (p.slot j) free) (λ j. state (p.slot j) ≡ None) (places_of t) (λ j i. (Each-in (IsEmpty n state) free (p.slot j) empty i).0) right.in_free) in
      let back : (s : ℕ) → without_all right.after args s ≡ state s = restored p.slot ops 0 right.after state (λ s away. right.others s (places_each (λ j. p.slot j ≢ s) t away)) blank in
      let here = Each-in (IsEmpty n state) free to empty in_free in
      let free_at : without_all right.after args step.to ≡ None = ap (without_all right.after args) writes ∙ back to ∙ here.0 in
      let can : CanStep n right.after step t = record {
        inner = inner;
        op_is = refl;
        elem_is = refl;
        from_is = refl;
        args_are = args_right p.slot ops 0 right.after full (slots_apart p.slot ops 0 pairs);
        free = free_at;
        within = subst (λ (s : ℕ). s < n) (sym writes) here.1;
        place = subst (λ (s : ℕ). KeepsPlace (op_of t) (elem_of t) (from_of t) args s) (sym writes) place;
      } in
      let whole : without_all right.after args ≡ state = λ j s. back s j in
      record {
        in_free = subst (λ (s : ℕ). In s free) (sym writes) in_free;
        leads = Leads-append n p.steps (step ∷ []) state right.after (put state step.to (Some t)) right.leads (t, can, ap (λ (x : State). put x step.to (Some t)) whole);
      }

-- ---- the slot of a node

-- where no operand is computed, no argument is in a slot; else the first that is has its operand's
data FirstSlot (slot : ℕ → ℕ) (ts : List Tree) (k : ℕ) (free : List ℕ) : Type 0 where
  some_slot : (s : ℕ) → first_slot (args_for ts slot k) ≡ Some s → In s free → FirstSlot slot ts k free
  no_slot : first_slot (args_for ts slot k) ≡ None → EachPlace (λ j t. is_computed t ≡ false) ts k → FirstSlot slot ts k free

first_cases : (slot : ℕ → ℕ) (ts : List Tree) (k : ℕ) (free : List ℕ) → EachPlace (λ j t. is_computed t ≡ true → In (slot j) free) ts k → FirstSlot slot ts k free
first_cases slot [] k free h = no_slot refl tt
first_cases slot (AtLeaf l ∷ ts) k free h = elim (first_cases slot ts (k + 1) free h.1) [ some_slot s e i ↦ some_slot s e i | no_slot e f ↦ no_slot e (refl, f) ]
first_cases slot (Literal v ∷ ts) k free h = elim (first_cases slot ts (k + 1) free h.1) [ some_slot s e i ↦ some_slot s e i | no_slot e f ↦ no_slot e (refl, f) ]
first_cases slot (One op elem a ∷ ts) k free h = some_slot (slot k) refl (h.0 refl)
first_cases slot (Two op elem a b ∷ ts) k free h = some_slot (slot k) refl (h.0 refl)
first_cases slot (Cast elem from a ∷ ts) k free h = some_slot (slot k) refl (h.0 refl)
first_cases slot (Move elem a ∷ ts) k free h = some_slot (slot k) refl (h.0 refl)
first_cases slot (Select elem c x y ∷ ts) k free h = some_slot (slot k) refl (h.0 refl)

-- the first computed operand's slot is a free one, or no operand is computed and the first that is left is
first_free : (t : Tree) (slot : ℕ → ℕ) (free left : List ℕ) → EachPlace (λ j u. is_computed u ≡ true → In (slot j) free) (operands_of t) 0 → ((s : ℕ) → In s left → In s free)
    → length left + length (places_of t) ≡ length free → 1 ≤ length free → In (option_map_or (λ s. s) (first_slot (args_for (operands_of t) slot 0)) (get_or left 0 0)) free
first_free t slot free left in_slot more many one =
    elim (first_cases slot (operands_of t) 0 free in_slot) [
      | some_slot s e i ↦ subst (λ (o : Option ℕ). In (option_map_or (λ s. s) o (get_or left 0 0)) free) (sym e) i
      | no_slot e none ↦
          let none_placed : places_of t ≡ [] = ap (λ turns. map (λ turn. turn.place) turns) (no_turns (operands_of t) 0 1 none) in
          let all = ap length none_placed in
          subst (λ (o : Option ℕ). In (option_map_or (λ s. s) o (get_or left 0 0)) free) (sym e) (more (get_or left 0 0) (first_in left (omega arith)))
    ]

-- what every node has before its own step
record Ready (n : ℕ) (state : State) (t : Tree) (free : List ℕ) (codes : List (List ℕ → Code)) : Type 0 where
  right : PlacedRight n (λ j. get_or (operands_of t) j no_tree) codes state free (places_of t) (λ k. 0) (operands_code (places_of t) codes (λ k. 0) free)

ready : (n : ℕ) (state : State) (t : Tree) (free : List ℕ) → is_computed t ≡ true → EachPlace (λ j u. is_computed u ≡ true → Good n u (code_of u)) (operands_of t) 0 → label_of t ≤ length free → Distinct free → Each (IsEmpty n state) free
    → Ready n state t free (map code_of (operands_of t))
ready n state t free inner good enough distinct empty =
    let codes = map code_of (operands_of t) in
    let labels = label_is t 1 inner in
    let by_place = ap needed (labels_by_place t no_tree) in
    record {
      right = placed_right n (λ j. get_or (operands_of t) j no_tree) codes state free (places_of t) (λ k. 0)
          (places_each (λ j. Good n (get_or (operands_of t) j no_tree) (get_or codes j no_code)) t
          (EachPlace-both (λ j u. is_computed u ≡ true → Good n u (code_of u)) (λ j u. get_or (operands_of t) j no_tree ≡ u) (λ j u. is_computed u ≡ true → Good n (get_or (operands_of t) j no_tree) (get_or codes j no_code)) (operands_of t) 0
          (λ j u f e c. subst (λ (v : Tree). Good n v (get_or codes j no_code)) (sym e) (subst (λ (code : List ℕ → Code). Good n u code) (sym (get_or-map code_of (operands_of t) j no_tree ∙ ap code_of e)) (f c))) good (operands_at t no_tree)))
          (places_apart t) (omega arith) distinct empty;
    }

-- a node that has no rule of its own writes its first computed operand's slot
plain_right : (n : ℕ) (state : State) (free : List ℕ) (t : Tree) → is_computed t ≡ true → EachPlace (λ j u. is_computed u ≡ true → Good n u (code_of u)) (operands_of t) 0 → label_of t ≤ length free → 1 ≤ length free → Distinct free → Each (IsEmpty n state) free
    → ((args : List Operand) → slot_kept (op_of t) (elem_of t) (from_of t) args ≡ first_slot args) → ((args : List Operand) (to : ℕ) → KeepsPlace (op_of t) (elem_of t) (from_of t) args to)
    → CodeRight n state t free (node_code t (map code_of (operands_of t)) free)
plain_right n state free t inner good enough one distinct empty keeps place =
    let all = (ready n state t free inner good enough distinct empty).right in
    let codes = map code_of (operands_of t) in
    let p = operands_code (places_of t) codes (λ k. 0) free in
    let args = args_for (operands_of t) p.slot 0 in
    let to = option_map_or (λ s. s) (first_slot args) (get_or p.left 0 0) in
    let in_free = first_free t p.slot free p.left (each_place (λ j. In (p.slot j) free) t all.in_free) (λ s i. (all.left_in s i).0) all.left_many one in
    node_right n state free t empty codes (λ k. 0) p inner all to (ap (λ o. option_map_or (λ s. s) o (get_or p.left 0 0)) (keeps args)) in_free (place args to)

-- a select writes the slot of its third operand
select_right : (n : ℕ) (state : State) (free : List ℕ) (elem : Elem) (c x y : Tree) → is_computed y ≡ true → EachPlace (λ j u. is_computed u ≡ true → Good n u (code_of u)) (c ∷ x ∷ y ∷ []) 0 → label_of (Select elem c x y) ≤ length free → Distinct free → Each (IsEmpty n state) free
    → CodeRight n state (Select elem c x y) free (node_code (Select elem c x y) (map code_of (c ∷ x ∷ y ∷ [])) free)
select_right n state free elem c x y third good enough distinct empty =
    let t = Select elem c x y in
    let all = (ready n state t free refl good enough distinct empty).right in
    let codes = map code_of (operands_of t) in
    let p = operands_code (places_of t) codes (λ k. 0) free in
    let arg = arg-computed y (p.slot 2) third in
    let in_slot = each_place (λ j. In (p.slot j) free) t all.in_free in
    node_right n state free t empty codes (λ k. 0) p refl all (p.slot 2) (ap (λ a. option_map_or (λ s. s) (first_slot (a ∷ [])) (get_or p.left 0 0)) arg) (in_slot.1.1.0 third) arg

no_leaf : (k s : ℕ) → operand.Leaf k ≡ operand.Slot s → ⊥
no_leaf k s e = cc

no_literal : (v : _) (s : ℕ) → operand.Literal v ≡ operand.Slot s → ⊥
no_literal v s e = cc

one_slot : (s u : ℕ) → operand.Slot s ≡ operand.Slot u → s ≡ u
one_slot s u e = cc

slot_apart : (t : Tree) (s to : ℕ) → (is_computed t ≡ true → s ≢ to) → arg_for t s ≢ operand.Slot to
slot_apart (AtLeaf k) s to h e = no_leaf k to e
slot_apart (Literal v) s to h e = no_literal v to e
slot_apart (One op elem a) s to h e = h refl (one_slot s to e)
slot_apart (Two op elem a b) s to h e = h refl (one_slot s to e)
slot_apart (Cast elem from a) s to h e = h refl (one_slot s to e)
slot_apart (Move elem a) s to h e = h refl (one_slot s to e)
slot_apart (Select elem c x y) s to h e = h refl (one_slot s to e)

two_free : (b : Bool) (k : ℕ) → (if b && true then 2 else 1) ≤ k → (if b then 2 else 1) ≤ k
two_free true k h = h
two_free false k h = h

cast_some : (b : Bool) (m k : ℕ) → max (if b then 2 else 1) m ≤ k → 1 ≤ k
cast_some true m k h = omega arith
cast_some false m k h = omega arith

-- how many slots one operand leaves
left_some : (elem from : Elem) (a : Tree) (left free : ℕ) → (if is_computed a then 2 else 1) ≤ free → left + length (places_of (Cast elem from a)) ≡ free → 1 ≤ left
left_some elem from a left free = go (is_computed a)
  where
    go : (b : Bool) → (if b then 2 else 1) ≤ free → left + length (map (λ (turn : Turn). turn.place) (if b then record { place = 0; number = 1; label = label_of a } ∷ [] else [])) ≡ free → 1 ≤ left
    go true h e = omega arith
    go false h e = omega arith

-- a cast that changes the size takes a slot that is left: with a computed operand there are two free ones at least
cast_right : (n : ℕ) (state : State) (free : List ℕ) (elem from : Elem) (a : Tree) → size_of elem ≢ size_of from → EachPlace (λ j u. is_computed u ≡ true → Good n u (code_of u)) (a ∷ []) 0 → label_of (Cast elem from a) ≤ length free → Distinct free → Each (IsEmpty n state) free
    → CodeRight n state (Cast elem from a) free (node_code (Cast elem from a) (map code_of (a ∷ [])) free)
cast_right n state free elem from a differ good enough distinct empty =
    let t = Cast elem from a in
    let all = (ready n state t free refl good enough distinct empty).right in
    let codes = map code_of (operands_of t) in
    let p = operands_code (places_of t) codes (λ k. 0) free in
    let to = get_or p.left 0 0 in
    let test = ne_eqb (size_of elem) (size_of from) differ in
    let least : (if is_computed a && not (size_of elem == size_of from) then 2 else 1) ≤ length free = omega arith in
    let two = two_free (is_computed a) (length free) (subst (λ (b : Bool). (if is_computed a && not b then 2 else 1) ≤ length free) test least) in
    let some_left : 1 ≤ length p.left = left_some elem from a (length p.left) (length free) two all.left_many in
    let in_left = all.left_in to (first_in p.left some_left) in
    let away = each_place (λ j. p.slot j ≢ to) t in_left.1 in
    node_right n state free t empty codes (λ k. 0) p refl all to (ap (λ b. option_map_or (λ s. s) (if b then first_slot (args_for (operands_of t) p.slot 0) else None) to) test) in_left.0 (λ there. absurd (slot_apart a (p.slot 0) to away.0 there))

code_right : (n : ℕ) (t : Tree) → HasNormalSelects t → is_computed t ≡ true → Good n t (code_of t)
unfolding Good
code_right n (AtLeaf k) normal inner state free distinct empty enough = absurd (false≢true inner)
code_right n (Literal v) normal inner state free distinct empty enough = absurd (false≢true inner)
code_right n (One op elem a) normal inner state free distinct empty enough =
    plain_right n state free (One op elem a) refl (code_right n a normal, tt) enough (omega arith) distinct empty (λ args. refl) (λ args to. tt)
code_right n (Two op elem a b) normal inner state free distinct empty enough =
    plain_right n state free (Two op elem a b) refl (code_right n a normal.0, (code_right n b normal.1, tt)) enough (omega arith) distinct empty (λ args. refl) (λ args to. tt)
code_right n (Move elem a) normal inner state free distinct empty enough =
    plain_right n state free (Move elem a) refl (code_right n a normal, tt) enough (omega arith) distinct empty (λ args. refl) (λ args to. tt)
code_right n (Select elem c x y) normal inner state free distinct empty enough =
    select_right n state free elem c x y normal.1 (code_right n c normal.2, (code_right n x normal.3, (code_right n y normal.4, tt))) enough distinct empty
code_right n (Cast elem from a) normal inner state free distinct empty enough =
    let good : EachPlace (λ j u. is_computed u ≡ true → Good n u (code_of u)) (a ∷ []) 0 = (code_right n a normal, tt) in
    ⊎_elim
    (λ same. let test = eq-eqb (size_of elem) (size_of from) same in
    plain_right n state free (Cast elem from a) refl good enough (cast_some (is_computed a && not (size_of elem == size_of from)) _ _ enough) distinct empty (λ args. ap (λ b. if b then first_slot args else None) test) (λ args to there. sym same))
    (λ differ. cast_right n state free elem from a differ good enough distinct empty)
    (cases_eq (size_of elem) (size_of from))

-- ---- the slots from 0 on

range_each : (P : ℕ → Type 0) (start n : ℕ) → ((s : ℕ) → start ≤ s → s < start + n → P s) → Each P (range_with_len start n)
range_each P start zero h = tt
range_each P start (suc n) h = (h start (omega arith) (omega arith), range_each P (start + 1) n (λ s low high. h s (omega arith) (omega arith)))

range_distinct : (start n : ℕ) → Distinct (range_with_len start n)
range_distinct start zero = tt
range_distinct start (suc n) = (range_each (λ j. j ≢ start) (start + 1) n (λ s low high e. absurd (omega arith)), range_distinct (start + 1) n)

pub has_order : HasOrder
unfolding Good
has_order tree inner normal =
    let n = label_of tree in
    let many = length-range_with_len 0 n in
    let h = code_right n tree normal inner no_slots (range_with_len 0 n) (range_distinct 0 n) (range_each (IsEmpty n no_slots) 0 n (λ s low high. (refl, omega arith))) (omega arith) in
    record { leads = h.leads }
