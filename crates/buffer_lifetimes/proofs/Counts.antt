-- An order has one step for each inner node: each step adds one to the inner nodes of all trees that the slots hold.
use Rattle.std.proofs.Common.{◌≡◌, ℕ, zero, suc, ◌+◌, ◌<◌, ◌≤◌, List, [], ◌∷◌, length, refl, sym, ap, ◌∙◌, subst, arith, true}
use Rattle.std.specs.Prelude.{Option, Some, None}
use Rattle.std.proofs.lemmas.Bool.{cases_eq, false≢true}
use mathlib.Core.Logic.{⊎_elim}
use Rattle.pass_plan.specs.Tree.{AtLeaf, Literal, One, Two, Cast, Move, Select, is_computed, operands_of}
use Rattle.pass_plan.specs.Numbers.{inner_of}
use Rattle.buffer_lifetimes.specs.declared.step.Operand.{Operand}
use Rattle.buffer_lifetimes.specs.declared.step.Operand.TheVariants as operand
use Rattle.buffer_lifetimes.specs.Step.{Tree, Step}
use Rattle.buffer_lifetimes.specs.Order.{State, no_slots, put, IsArg, without, without_all, AreArgs, CanStep, after_step, Leads}
use Rattle.buffer_lifetimes.specs.Laws.{CountsSteps}
use Rattle.buffer_lifetimes.proofs.Slots.{put_same, put_other, none_some}
use Rattle.buffer_lifetimes.proofs.Trees.{stood, stood_all}

abbrev inner_held : Option Tree → ℕ
inner_held None = 0
inner_held (Some t) = inner_of t

-- the inner nodes of all trees in the first slots
abbrev total : ℕ → State → ℕ
total zero state = 0
total (suc n) state = inner_held (state n) + total n state

total-above : (n : ℕ) (state : State) (s : ℕ) (contents : Option Tree) → n ≤ s → total n (put state s contents) ≡ total n state
total-above zero state s contents h = refl
total-above (suc n) state s contents h =
    let here = ap inner_held (put_other state s contents n (λ e. absurd (omega arith))) in
    let rest = total-above n state s contents (omega arith) in
    omega arith

total-put : (n : ℕ) (state : State) (s : ℕ) (contents : Option Tree) → s < n → total n (put state s contents) + inner_held (state s) ≡ total n state + inner_held contents
total-put zero state s contents h = absurd (omega arith)
total-put (suc n) state s contents h =
    ⊎_elim
    (λ same. let here = ap inner_held (put_same state s contents n same) in
    let there = ap (λ k. inner_held (state k)) same in
    let rest = total-above n state s contents (omega arith) in
    omega arith)
    (λ other. let here = ap inner_held (put_other state s contents n other) in
    let rest = total-put n state s contents (omega arith) in
    omega arith)
    (cases_eq n s)

-- only the first slots hold trees
abbrev Fits : ℕ → State → Type 0
Fits n state = (s : ℕ) (u : Tree) → state s ≡ Some u → s < n

slot_read : (n : ℕ) (state : State) (arg : Operand) (t : Tree) → Fits n state → (s : ℕ) × (arg ≡ operand.Slot s) × (state s ≡ Some t) → total n (without state arg) + inner_of t ≡ total n state
slot_read n state arg t fits is =
    let put = total-put n state is.0 None (fits is.0 t is.2) in
    let held = ap inner_held is.2 in
    let same = ap (λ a. total n (without state a)) is.1 in
    omega arith

arg_read : (n : ℕ) (state : State) (arg : Operand) (t : Tree) → Fits n state → IsArg state arg t → total n (without state arg) + inner_of t ≡ total n state
arg_read n state arg (AtLeaf k) fits is = let same = ap (λ a. total n (without state a)) is in omega arith
arg_read n state arg (Literal v) fits is = let same = ap (λ a. total n (without state a)) is in omega arith
arg_read n state arg (One op elem x) fits is = slot_read n state arg (One op elem x) fits is
arg_read n state arg (Two op elem x y) fits is = slot_read n state arg (Two op elem x y) fits is
arg_read n state arg (Cast elem from x) fits is = slot_read n state arg (Cast elem from x) fits is
arg_read n state arg (Move elem x) fits is = slot_read n state arg (Move elem x) fits is
arg_read n state arg (Select elem c x y) fits is = slot_read n state arg (Select elem c x y) fits is

abbrev inner_all : List Tree → ℕ
inner_all [] = 0
inner_all (t ∷ ts) = inner_of t + inner_all ts

args_read : (n : ℕ) (state : State) (args : List Operand) (ts : List Tree) → Fits n state → AreArgs state args ts → total n (without_all state args) + inner_all ts ≡ total n state
args_read n state [] [] fits are = omega arith
args_read n state [] (t ∷ ts) fits are = absurd are
args_read n state (arg ∷ args) [] fits are = absurd are
args_read n state (arg ∷ args) (t ∷ ts) fits are =
    let first = arg_read n state arg t fits are.0 in
    let rest = args_read n (without state arg) args ts (λ s u is. fits s u (stood state arg s u is)) are.1 in
    omega arith

inner_is : (t : Tree) → is_computed t ≡ true → inner_of t ≡ inner_all (operands_of t) + 1
inner_is (AtLeaf k) h = absurd (false≢true h)
inner_is (Literal v) h = absurd (false≢true h)
inner_is (One op elem a) h = omega arith
inner_is (Two op elem a b) h = omega arith
inner_is (Cast elem from a) h = omega arith
inner_is (Move elem a) h = omega arith
inner_is (Select elem c x y) h = omega arith

module _ (n : ℕ) where
  fits_after : (state : State) (step : Step) (t : Tree) → CanStep n state step t → Fits n state → Fits n (after_step state step t)
  fits_after state step t can fits s u is =
      ⊎_elim (λ same. let low = can.within in omega arith) (λ other. fits s u (stood_all state step.args s u (sym (put_other (without_all state step.args) step.to (Some t) s other) ∙ is))) (cases_eq s step.to)

  one_more : (state : State) (step : Step) (t : Tree) → CanStep n state step t → Fits n state → total n (after_step state step t) ≡ total n state + 1
  one_more state step t can fits =
      let read = args_read n state step.args (operands_of t) fits can.args_are in
      let put = total-put n (without_all state step.args) step.to (Some t) can.within in
      let free = ap inner_held can.free in
      let inner = inner_is t can.inner in
      omega arith

  all_more : (steps : List Step) (state last : State) → Leads n state steps last → Fits n state → Fits n last × (total n last ≡ total n state + length steps)
  all_more [] state last leads fits = (subst (λ (s : State). Fits n s) leads fits, (let e = ap (total n) leads in omega arith))
  all_more (step ∷ steps) state last leads fits =
      let t = leads.0 in
      let can = leads.1 in
      let r = all_more steps (after_step state step t) last leads.2 (fits_after state step t can fits) in
      let one = one_more state step t can fits in
      let rest = r.1 in
      (r.0, omega arith)

  nothing : total n no_slots ≡ 0
  nothing = go n
    where
      go : (k : ℕ) → total k no_slots ≡ 0
      go zero = refl
      go (suc k) = let r = go k in omega arith

pub counts_steps : CountsSteps
counts_steps tree slots steps to order =
    let r = all_more slots steps no_slots (put no_slots to (Some tree)) order.leads (λ s u is. absurd (none_some u is)) in
    let below = r.0 to tree (put_same no_slots to (Some tree) to refl) in
    let all = r.1 in
    let last = total-put slots no_slots to (Some tree) below in
    let none = nothing slots in
    omega arith
