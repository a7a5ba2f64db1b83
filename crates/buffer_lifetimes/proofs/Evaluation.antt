-- One operand after another, as the code works them out.
use Rattle.std.proofs.Common.{◌≡◌, ℕ, zero, suc, ◌+◌, ◌<◌, ◌≤◌, List, [], ◌∷◌, ◌++◌, length, get_or, take, drop, set, refl, sym, ap, ◌∙◌, arith, append_assoc, append-nil, true}
use Rattle.std.specs.Prelude.{map}
use Rattle.std.specs.List.{range_with_len}
use Rattle.std.proofs.lemmas.Bool.{cases_eq, false≢true}
use Rattle.std.proofs.Math.Seq.{drop-cons}
use Rattle.std.proofs.Math.ListN.{get_or-map, drop_of_length-le}
use Rattle.std.proofs.lemmas.List.{get_or-set_same, get_or-set_other, length-map, get_or-map as get_or-map'}
use mathlib.Core.Logic.{⊎_elim}
use Rattle.pass_plan.specs.Tree.{AtLeaf, Literal, One, Two, Cast, Move, Select, is_computed, operands_of}
use Rattle.pass_plan.specs.declared.turn.Turn.{Turn}
use Rattle.pass_plan.specs.Numbers.{places_of}
use Rattle.pass_plan.specs.NumberShown.{no_tree}
use Rattle.pass_plan.proofs.Each.{Each, EachPlace, places_each}
use Rattle.buffer_lifetimes.specs.declared.step.Operand.{Operand}
use Rattle.buffer_lifetimes.specs.Step.{Tree, Step}
use Rattle.buffer_lifetimes.specs.OrderOf.{Code, remove_slot, put_slot, OperandsCode, operands_code, arg_for, args_for, step_for, node_code, code_of}
use Rattle.buffer_lifetimes.proofs.Slots.{if_same, if_other}

abbrev pub codes_of : Tree → List (List ℕ → Code)
codes_of t = map code_of (operands_of t)

-- the slots by place, as a list
abbrev pub slot_in : List ℕ → ℕ → ℕ
slot_in slots k = get_or slots k 0

pub code_whole : (t : Tree) (free : List ℕ) → is_computed t ≡ true → code_of t free ≡ node_code t (codes_of t) free
code_whole (AtLeaf k) free h = absurd (false≢true h)
code_whole (Literal v) free h = absurd (false≢true h)
code_whole (One op elem a) free h = refl
code_whole (Two op elem a b) free h = refl
code_whole (Cast elem from a) free h = refl
code_whole (Move elem a) free h = refl
code_whole (Select elem c x y) free h = refl

slot-set : (slots : List ℕ) (place to : ℕ) → place < length slots → put_slot (slot_in slots) place to ≡ slot_in (set slots place to)
slot-set slots place to h = λ i k. at k i
  where
    at : (k : ℕ) → put_slot (slot_in slots) place to k ≡ slot_in (set slots place to) k
    at k = ⊎_elim
        (λ same. if_same k place to (slot_in slots k) same ∙ sym (get_or-set_same slots place to 0 h) ∙ ap (slot_in (set slots place to)) (sym same))
        (λ other. if_other k place to (slot_in slots k) other ∙ sym (get_or-set_other slots place k to 0 other))
        (cases_eq k place)

-- the operands from one on: its steps, and then those of the later ones
abbrev pub with_next : Tree → Code → List ℕ → (ℕ → ℕ) → List ℕ → OperandsCode
with_next t code later slot left =
    let rest = operands_code later (codes_of t) slot (remove_slot code.to left) in
    record { steps = code.steps ++ rest.steps; slot = rest.slot; left = rest.left }

pub one_turn : (t : Tree) (i place : ℕ) (slots left : List ℕ) → i < length (places_of t) → get_or (places_of t) i 0 ≡ place → place < length slots
    → let code = code_of (get_or (operands_of t) place no_tree) left in
    operands_code (drop i (places_of t)) (codes_of t) (slot_in slots) left ≡ with_next t code (drop (i + 1) (places_of t)) (slot_in (set slots place code.to)) left
one_turn t i place slots left below is low =
    let next : suc i ≡ i + 1 = omega arith in
    let code = code_of (get_or (operands_of t) place no_tree) left in
    ap (λ ks. operands_code ks (codes_of t) (slot_in slots) left) (drop-cons (places_of t) i 0 below ∙ ap (λ k. k ∷ drop (suc i) (places_of t)) is ∙ ap (λ j. place ∷ drop j (places_of t)) next)
    ∙ ap (λ (c : List ℕ → Code). with_next t (c left) (drop (i + 1) (places_of t)) (put_slot (slot_in slots) place (c left).to) left) (get_or-map code_of (operands_of t) place no_tree)
    ∙ ap (λ slot. with_next t code (drop (i + 1) (places_of t)) slot left) (slot-set slots place code.to low)

-- ---- places

below_end : (ts : List Tree) (k n : ℕ) → k + length ts ≤ n → EachPlace (λ j t. is_computed t ≡ true → j < n) ts k
below_end [] k n h = tt
below_end (t ∷ ts) k n h = ((λ c. omega arith), below_end ts (k + 1) n (omega arith))

Each-get : (P : ℕ → Type 0) (xs : List ℕ) (i d : ℕ) → i < length xs → Each P xs → P (get_or xs i d)
Each-get P [] i d h e = absurd (omega arith)
Each-get P (x ∷ xs) zero d h e = e.0
Each-get P (x ∷ xs) (suc i) d h e = Each-get P xs i d (omega arith) e.1

pub place_below : (t : Tree) (i : ℕ) → i < length (places_of t) → get_or (places_of t) i 0 < length (operands_of t)
place_below t i h = Each-get (λ k. k < length (operands_of t)) (places_of t) i 0 h (places_each (λ k. k < length (operands_of t)) t (below_end (operands_of t) 0 (length (operands_of t)) (omega arith)))

pub few_operands : (t : Tree) → length (operands_of t) ≤ 3
few_operands (AtLeaf k) = omega arith
few_operands (Literal v) = omega arith
few_operands (One op elem a) = omega arith
few_operands (Two op elem a b) = omega arith
few_operands (Cast elem from a) = omega arith
few_operands (Move elem a) = omega arith
few_operands (Select elem c x y) = omega arith

-- ---- arguments

pub length-args : (ts : List Tree) (slot : ℕ → ℕ) (k : ℕ) → length (args_for ts slot k) ≡ length ts
length-args [] slot k = refl
length-args (t ∷ ts) slot k = let r = length-args ts slot (k + 1) in omega arith

pub args-more : (ts : List Tree) (slot : ℕ → ℕ) (j k : ℕ) (d : Tree) → j < length ts → args_for (take (j + 1) ts) slot k ≡ args_for (take j ts) slot k ++ arg_for (get_or ts j d) (slot (k + j)) ∷ []
args-more [] slot j k d h = absurd (omega arith)
args-more (t ∷ ts) slot zero k d h = let e : k ≡ k + 0 = omega arith in ap (λ m. arg_for t (slot m) ∷ []) e
args-more (t ∷ ts) slot (suc j) k d h =
    let e : suc j + 1 ≡ suc (j + 1) = omega arith in
    let f : k + 1 + j ≡ k + suc j = omega arith in
    ap (λ m. args_for (take m (t ∷ ts)) slot k) e ∙ ap (λ args. arg_for t (slot k) ∷ args) (args-more ts slot j (k + 1) d (omega arith))
    ∙ ap (λ m. arg_for t (slot k) ∷ (args_for (take j ts) slot (k + 1) ++ arg_for (get_or ts j d) (slot m) ∷ [])) f

-- ---- the walk over a node's operands

-- the first i operands in turn are worked out: what was done and what is left to do are together all
pub record Going (t : Tree) (old : List Step) (free : List ℕ) (i : ℕ) (slots left : List ℕ) (now : List Step) : Type 0 where
  pub steps : now ++ (operands_code (drop i (places_of t)) (codes_of t) (slot_in slots) left).steps ≡ old ++ (operands_code (places_of t) (codes_of t) (λ k. 0) free).steps
  pub slot : (operands_code (drop i (places_of t)) (codes_of t) (slot_in slots) left).slot ≡ (operands_code (places_of t) (codes_of t) (λ k. 0) free).slot
  pub left_is : (operands_code (drop i (places_of t)) (codes_of t) (slot_in slots) left).left ≡ (operands_code (places_of t) (codes_of t) (λ k. 0) free).left

slot_zero : slot_in (0 ∷ 0 ∷ 0 ∷ []) ≡ (λ k. 0)
slot_zero = λ i k. at k i
  where
    at : (k : ℕ) → slot_in (0 ∷ 0 ∷ 0 ∷ []) k ≡ 0
    at zero = refl
    at (suc zero) = refl
    at (suc (suc zero)) = refl
    at (suc (suc (suc k))) = refl

pub going_first : (t : Tree) (old : List Step) (free slots left : List ℕ) → slots ≡ 0 ∷ 0 ∷ 0 ∷ [] → left ≡ free → Going t old free 0 slots left old
going_first t old free slots left zeros is =
    let whole : operands_code (places_of t) (codes_of t) (slot_in slots) left ≡ operands_code (places_of t) (codes_of t) (λ k. 0) free = λ j. operands_code (places_of t) (codes_of t) ((ap slot_in zeros ∙ slot_zero) j) (is j) in
    record { steps = ap (λ p. old ++ p.steps) whole; slot = ap (λ p. p.slot) whole; left_is = ap (λ p. p.left) whole }

pub going_next : (t : Tree) (old now next : List Step) (free : List ℕ) (i place to : ℕ) (slots left left' : List ℕ) → Going t old free i slots left now → i < length (places_of t) → get_or (places_of t) i 0 ≡ place → place < length slots
    → (code : Code) → code ≡ code_of (get_or (operands_of t) place no_tree) left → next ≡ now ++ code.steps → to ≡ code.to → left' ≡ remove_slot to left → Going t old free (i + 1) (set slots place to) left' next
going_next t old now next free i place to slots left left' going below is low code same steps to_is left_is =
    let real = code_of (get_or (operands_of t) place no_tree) left in
    let to_real : to ≡ real.to = to_is ∙ ap (λ c. c.to) same in
    let rest : OperandsCode = operands_code (drop (i + 1) (places_of t)) (codes_of t) (slot_in (set slots place real.to)) (remove_slot real.to left) in
    let rest_is : operands_code (drop (i + 1) (places_of t)) (codes_of t) (slot_in (set slots place to)) left' ≡ rest = λ j. operands_code (drop (i + 1) (places_of t)) (codes_of t) (slot_in (set slots place (to_real j))) ((left_is ∙ ap (λ s. remove_slot s left) to_real) j) in
    let one = one_turn t i place slots left below is low in
    record {
      steps = ap (λ p. next ++ p.steps) rest_is ∙ ap (λ s. s ++ rest.steps) (steps ∙ ap (λ c. now ++ c.steps) same) ∙ append_assoc now real.steps rest.steps ∙ ap (λ p. now ++ p.steps) (sym one) ∙ going.steps;
      slot = ap (λ p. p.slot) rest_is ∙ ap (λ p. p.slot) (sym one) ∙ going.slot;
      left_is = ap (λ p. p.left) rest_is ∙ ap (λ p. p.left) (sym one) ∙ going.left_is;
    }

module _ (t : Tree) (old now : List Step) (free : List ℕ) (i : ℕ) (slots left : List ℕ) (going : Going t old free i slots left now) (end : length (places_of t) ≤ i) (inner : is_computed t ≡ true) where
  abbrev all : OperandsCode
  all = operands_code (places_of t) (codes_of t) (λ k. 0) free

  none_left : drop i (places_of t) ≡ []
  none_left = drop_of_length-le (places_of t) end

  steps_are : now ≡ old ++ all.steps
  steps_are = sym (append-nil now) ∙ ap (λ ks. now ++ (operands_code ks (codes_of t) (slot_in slots) left).steps) (sym none_left) ∙ going.steps

  slots_are : slot_in slots ≡ all.slot
  slots_are = ap (λ ks. (operands_code ks (codes_of t) (slot_in slots) left).slot) (sym none_left) ∙ going.slot

  left_are : left ≡ all.left
  left_are = ap (λ ks. (operands_code ks (codes_of t) (slot_in slots) left).left) (sym none_left) ∙ going.left_is

  step_is : (args : List Operand) → args ≡ args_for (operands_of t) (slot_in slots) 0 → step_for t args left ≡ step_for t (args_for (operands_of t) all.slot 0) all.left
  step_is args is = λ j. step_for t ((is ∙ ap (λ slot. args_for (operands_of t) slot 0) slots_are) j) (left_are j)

  pub steps_after : (args : List Operand) (next : List Step) → args ≡ args_for (operands_of t) (slot_in slots) 0 → next ≡ now ++ step_for t args left ∷ [] → next ≡ old ++ (code_of t free).steps
  steps_after args next is steps =
      steps ∙ ap (λ s. s ++ step_for t args left ∷ []) steps_are ∙ append_assoc old all.steps (step_for t args left ∷ []) ∙ ap (λ s. old ++ (all.steps ++ s ∷ [])) (step_is args is) ∙ ap (λ code. old ++ code.steps) (sym (code_whole t free inner))

  pub slot_after : (args : List Operand) → args ≡ args_for (operands_of t) (slot_in slots) 0 → (step_for t args left).to ≡ (code_of t free).to
  slot_after args is = ap (λ s. s.to) (step_is args is) ∙ ap (λ code. code.to) (sym (code_whole t free inner))

-- the place of a turn
pub turn_place : (t : Tree) (turns : List Turn) (d : Turn) (i : ℕ) → map (λ turn. turn.place) turns ≡ places_of t → i < length turns → (i < length (places_of t)) × (get_or (places_of t) i 0 ≡ (get_or turns i d).place)
turn_place t turns d i is below = (
  omega (arith, ap length is, length-map turns (λ (turn : Turn). turn.place)),
  ap (λ ks. get_or ks i 0) (sym is) ∙ get_or-map' (λ (turn : Turn). turn.place) turns i d 0 below,
)

pub one_more_slot : (a n : ℕ) → range_with_len a (n + 1) ≡ range_with_len a n ++ (a + n) ∷ []
one_more_slot a zero = let e : a ≡ a + 0 = omega arith in ap (λ k. k ∷ []) e
one_more_slot a (suc n) =
    let e : suc n + 1 ≡ suc (n + 1) = omega arith in
    let f : a + 1 + n ≡ a + suc n = omega arith in
    ap (range_with_len a) e ∙ ap (λ ks. a ∷ ks) (one_more_slot (a + 1) n) ∙ ap (λ k. a ∷ (range_with_len (a + 1) n ++ k ∷ [])) f
