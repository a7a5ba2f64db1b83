-- The operands of a node have ranges of numbers, one after another.
use Rattle.std.proofs.Common.{◌≡◌, ◌≢◌, ℕ, zero, suc, ◌+◌, ◌<◌, ◌≤◌, List, [], ◌∷◌, ◌++◌, length, get_or, take, map, append_assoc, append-nil, refl, sym, ap, ◌∙◌, subst, arith, Bool, true, false}
use Rattle.std.specs.Prelude.{if◌then◌else◌, nat_lt}
use Rattle.std.proofs.lemmas.Bool.{cases_lt, false≢true}
use Rattle.std.proofs.lemmas.List.{length-map, get_or-map}
use mathlib.Core.Logic.{⊎_elim}
use Rattle.pass_plan.specs.Tree.{AtLeaf, Literal, One, Two, Cast, Move, Select, is_computed, operands_of}
use Rattle.pass_plan.specs.Label.{label_of}
use Rattle.pass_plan.specs.declared.turn.Turn.{Turn}
use Rattle.pass_plan.specs.Numbers.{Node, inner_of, operand_number, insert_turn, turns_of, places_of, nodes_from}
use Rattle.pass_plan.specs.NumberShown.{no_tree}
use Rattle.pass_plan.proofs.Nodes.{nodes_all}
use Rattle.pass_plan.proofs.Each.{Each, EachPlace, with-cases, places_each}
use Rattle.eval_order.specs.Order.{Tree, Done, AreDone}
use Rattle.eval_order.specs.BestOrder.{in_turn, node_order, best_from}
use Rattle.eval_order.proofs.Nodes.{Each-left, Each-right, Each-get, EachNumber, inner_in}

abbrev pub operand_at : List Tree → ℕ → Tree
operand_at us k = get_or us k no_tree

-- ---- the ranges of numbers

pub number_low : (us : List Tree) (k m : ℕ) → k < length us → (m ≤ operand_number us k m) × (operand_number us k m + inner_of (operand_at us k) ≤ m + inner_in us)
number_low [] k m h = absurd (omega arith)
number_low (u ∷ us) zero m h = (omega arith, omega arith)
number_low (u ∷ us) (suc k) m h = let r = number_low us k (m + inner_of u) (omega arith) in (omega (arith, r.0), omega (arith, r.1))

number_later : (us : List Tree) (k j m : ℕ) → k < j → j < length us → operand_number us k m + inner_of (operand_at us k) ≤ operand_number us j m
number_later [] k j m h l = absurd (omega arith)
number_later (u ∷ us) zero zero m h l = absurd (omega arith)
number_later (u ∷ us) zero (suc j) m h l = (number_low us j (m + inner_of u) (omega arith)).0
number_later (u ∷ us) (suc k) zero m h l = absurd (omega arith)
number_later (u ∷ us) (suc k) (suc j) m h l = number_later us k j (m + inner_of u) (omega arith) (omega arith)

abbrev pub IsIn : List Tree → ℕ → ℕ → ℕ → Type 0
IsIn us m k j = (operand_number us k m ≤ j) × (j < operand_number us k m + inner_of (operand_at us k))

-- no number is in two ranges
pub ranges_apart : (us : List Tree) (k k' m j : ℕ) → k < length us → k' < length us → k ≢ k' → IsIn us m k j → IsIn us m k' j → ⊥
ranges_apart us k k' m j h h' n is is' =
    ⊎_elim (λ l. let r = number_later us k k' m l h' in let a = is.1 in let b = is'.0 in omega arith)
    (λ l. let e : k' < k = omega arith in let r = number_later us k' k m e h in let a = is'.1 in let b = is.0 in omega arith)
    (cases_lt k k')

-- each number is in one
pub some_range : (us : List Tree) (m j : ℕ) → m ≤ j → j < m + inner_in us → (k : ℕ) × (k < length us) × IsIn us m k j
some_range [] m j low high = absurd (omega arith)
some_range (u ∷ us) m j low high =
    ⊎_elim (λ here. (0, omega arith, (low, here)))
    (λ later. let r = some_range us (m + inner_of u) j later (omega arith) in (suc r.0, omega (arith, r.1), r.2))
    (cases_lt j (m + inner_of u))

-- what holds of the operands by place, at one place
pub at_place : (P : ℕ → Tree → Type 0) (us : List Tree) (first k : ℕ) → k < length us → EachPlace P us first → P (first + k) (operand_at us k)
at_place P [] first k h e = absurd (omega arith)
at_place P (u ∷ us) first zero h e = let f : first ≡ first + 0 = omega arith in subst (λ (i : ℕ). P i u) f e.0
at_place P (u ∷ us) first (suc k) h e = let f : first + 1 + k ≡ first + suc k = omega arith in subst (λ (i : ℕ). P i (operand_at us k)) f (at_place P us (first + 1) k (omega arith) e.1)

below_end : (us : List Tree) (k n : ℕ) → k + length us ≤ n → EachPlace (λ j u. is_computed u ≡ true → j < n) us k
below_end [] k n h = tt
below_end (u ∷ us) k n h = ((λ c. omega arith), below_end us (k + 1) n (omega arith))

pub places_below : (t : Tree) → Each (λ k. k < length (operands_of t)) (places_of t)
places_below t = places_each (λ k. k < length (operands_of t)) t (below_end (operands_of t) 0 (length (operands_of t)) (omega arith))

-- ---- operands done

AreDone-insert : (done : Done) (turn : Turn) (turns : List Turn) → done turn.number ≡ true → AreDone done turns → AreDone done (insert_turn turn turns)
AreDone-insert done turn [] h g = (h, tt)
AreDone-insert done turn (next ∷ turns) h g = go (nat_lt turn.label next.label) (AreDone-insert done turn turns h g.1)
  where
    go : (b : Bool) → AreDone done (insert_turn turn turns) → AreDone done (if b then next ∷ insert_turn turn turns else turn ∷ next ∷ turns)
    go true r = (g.0, r)
    go false r = (h, g)

pub are_done : (done : Done) (us : List Tree) (k m : ℕ) → EachNumber (λ j u. is_computed u ≡ true → done j ≡ true) us m → AreDone done (turns_of us k m)
are_done done [] k m h = tt
are_done done (u ∷ us) k m h =
    let turn : Turn = record { place = k; number = m; label = label_of u } in
    let later = are_done done us (k + 1) (m + inner_of u) h.1 in
    with-cases (λ r. AreDone done r) u turn (turns_of us (k + 1) (m + inner_of u)) (λ e. AreDone-insert done turn (turns_of us (k + 1) (m + inner_of u)) (h.0 e) later) (λ e. later)

-- ---- the operands' orders

abbrev pub orders_from : List Tree → ℕ → List (List ℕ)
orders_from [] m = []
orders_from (u ∷ us) m = best_from u m ∷ orders_from us (m + inner_of u)

pub order_at : (us : List Tree) (k m : ℕ) → k < length us → get_or (orders_from us m) k [] ≡ best_from (operand_at us k) (operand_number us k m)
order_at [] k m h = absurd (omega arith)
order_at (u ∷ us) zero m h = refl
order_at (u ∷ us) (suc k) m h = order_at us k (m + inner_of u) (omega arith)

pub best_whole : (t : Tree) (n : ℕ) → is_computed t ≡ true → best_from t n ≡ node_order t (orders_from (operands_of t) (n + 1)) n
best_whole (AtLeaf l) n h = absurd (false≢true h)
best_whole (Literal v) n h = absurd (false≢true h)
best_whole (One op elem a) n h = refl
best_whole (Two op elem a b) n h = refl
best_whole (Cast elem from a) n h = refl
best_whole (Move elem a) n h = refl
best_whole (Select elem c x y) n h = refl

pub best_none : (t : Tree) (n : ℕ) → is_computed t ≡ false → best_from t n ≡ []
best_none (AtLeaf l) n h = refl
best_none (Literal v) n h = refl
best_none (One op elem a) n h = absurd (false≢true (sym h))
best_none (Two op elem a b) n h = absurd (false≢true (sym h))
best_none (Cast elem from a) n h = absurd (false≢true (sym h))
best_none (Move elem a) n h = absurd (false≢true (sym h))
best_none (Select elem c x y) n h = absurd (false≢true (sym h))

-- the nodes of the operand at a place
pub nodes_at : (P : Node → Type 0) (us : List Tree) (k m : ℕ) → k < length us → Each P (nodes_all us m) → Each P (nodes_from (operand_at us k) (operand_number us k m))
nodes_at P [] k m h e = absurd (omega arith)
nodes_at P (u ∷ us) zero m h e = Each-left P (nodes_from u m) (nodes_all us (m + inner_of u)) e
nodes_at P (u ∷ us) (suc k) m h e = nodes_at P us k (m + inner_of u) (omega arith) (Each-right P (nodes_from u m) (nodes_all us (m + inner_of u)) e)

-- one more operand in turn
pub in_turn-more : (ks : List ℕ) (orders : List (List ℕ)) (i : ℕ) → i < length ks → in_turn (take (i + 1) ks) orders ≡ in_turn (take i ks) orders ++ get_or orders (get_or ks i 0) []
in_turn-more [] orders i h = absurd (omega arith)
in_turn-more (k ∷ ks) orders zero h = append-nil (get_or orders k [])
in_turn-more (k ∷ ks) orders (suc i) h =
    let e : suc i + 1 ≡ suc (i + 1) = omega arith in
    ap (λ j. in_turn (take j (k ∷ ks)) orders) e ∙ ap (λ xs. get_or orders k [] ++ xs) (in_turn-more ks orders i (omega arith))
    ∙ sym (append_assoc (get_or orders k []) (in_turn (take i ks) orders) (get_or orders (get_or ks i 0) []))

pub place_below : (t : Tree) (turns : List Turn) (d : Turn) (i : ℕ) → map (λ turn. turn.place) turns ≡ places_of t → i < length turns
    → (i < length (places_of t)) × (get_or (places_of t) i 0 ≡ (get_or turns i d).place) × ((get_or turns i d).place < length (operands_of t))
place_below t turns d i is h =
    let below : i < length (places_of t) = omega (arith, ap length is, length-map turns (λ (turn : Turn). turn.place)) in
    let same = ap (λ ks. get_or ks i 0) (sym is) ∙ get_or-map (λ (turn : Turn). turn.place) turns i d 0 h in
    (below, same, subst (λ (k : ℕ). k < length (operands_of t)) same (Each-get (λ k. k < length (operands_of t)) (places_of t) i 0 below (places_below t)))
