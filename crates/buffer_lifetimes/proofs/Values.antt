-- Lawful steps give the tree's values.
use Rattle.std.proofs.Common.{◌≡◌, ℕ, List, [], ◌∷◌, refl, sym, ap, ◌∙◌, subst, true}
use Rattle.std.specs.Prelude.{ℤ, Some, None, map}
use Rattle.std.proofs.lemmas.Bool.{cases_eq, false≢true}
use mathlib.Core.Logic.{⊎_elim}
use Rattle.pass_plan.specs.Tree.{AtLeaf, Literal, One, Two, Cast, Move, Select, value_of, is_computed, op_of, elem_of, operands_of}
use Rattle.buffer_lifetimes.specs.declared.step.Operand.{Operand}
use Rattle.buffer_lifetimes.specs.declared.step.Operand.TheVariants as operand
use Rattle.buffer_lifetimes.specs.Step.{Tree, Step}
use Rattle.buffer_lifetimes.specs.Order.{State, no_slots, put, IsArg, without, without_all, AreArgs, after_step, Leads, Values, arg_value, op_value, step_value, put_values, slots_after}
use Rattle.buffer_lifetimes.specs.Laws.{GivesValues}
use Rattle.buffer_lifetimes.proofs.Slots.{if_same, if_other, put_same, put_other, none_some, some_same}

module _ (leaves : Values) (i : ℕ) where
  -- the value of a tree at the index
  abbrev at : Tree → ℤ
  at t = value_of t (λ k. leaves k i)

  -- each slot that is still to be read has its tree's value
  Agrees : State → Values → Type 0
  Agrees state slots = (s : ℕ) (t : Tree) → state s ≡ Some t → slots s i ≡ at t

  Agrees-put : (state : State) (slots : Values) (s : ℕ) (t : Tree) (v : ℕ → ℤ) → Agrees state slots → v i ≡ at t → Agrees (put state s (Some t)) (put_values slots s v)
  unfolding Agrees
  Agrees-put state slots s t v h e = λ k u held.
      ⊎_elim (λ same. let is : t ≡ u = some_same t u (sym (put_same state s (Some t) k same) ∙ held) in
      ap (λ f. f i) (if_same k s v (slots k) same) ∙ e ∙ ap at is)
      (λ other. ap (λ f. f i) (if_other k s v (slots k) other) ∙ h k u (sym (put_other state s (Some t) k other) ∙ held))
      (cases_eq k s)

  Agrees-without : (state : State) (slots : Values) (arg : Operand) → Agrees state slots → Agrees (without state arg) slots
  unfolding Agrees
  Agrees-without state slots (operand.Leaf k) h = h
  Agrees-without state slots (operand.Literal n) h = h
  Agrees-without state slots (operand.Slot s) h = λ k u held.
      ⊎_elim (λ same. absurd (none_some u (sym (put_same state s None k same) ∙ held)))
      (λ other. h k u (sym (put_other state s None k other) ∙ held))
      (cases_eq k s)

  Agrees-without_all : (state : State) (slots : Values) (args : List Operand) → Agrees state slots → Agrees (without_all state args) slots
  Agrees-without_all state slots [] h = h
  Agrees-without_all state slots (arg ∷ args) h = Agrees-without_all (without state arg) slots args (Agrees-without state slots arg h)

  slot_is : (state : State) (slots : Values) (arg : Operand) (t : Tree) → Agrees state slots → (s : ℕ) × (arg ≡ operand.Slot s) × (state s ≡ Some t) → arg_value leaves slots arg i ≡ at t
  unfolding Agrees
  slot_is state slots arg t h a = ap (λ o. arg_value leaves slots o i) a.1 ∙ h a.0 t a.2

  arg_is : (state : State) (slots : Values) (arg : Operand) (t : Tree) → Agrees state slots → IsArg state arg t → arg_value leaves slots arg i ≡ at t
  arg_is state slots arg (AtLeaf k) h a = ap (λ o. arg_value leaves slots o i) a
  arg_is state slots arg (Literal n) h a = ap (λ o. arg_value leaves slots o i) a
  arg_is state slots arg (One op elem x) h a = slot_is state slots arg (One op elem x) h a
  arg_is state slots arg (Two op elem x y) h a = slot_is state slots arg (Two op elem x y) h a
  arg_is state slots arg (Cast elem from x) h a = slot_is state slots arg (Cast elem from x) h a
  arg_is state slots arg (Move elem x) h a = slot_is state slots arg (Move elem x) h a
  arg_is state slots arg (Select elem c x y) h a = slot_is state slots arg (Select elem c x y) h a

  args_are : (state : State) (slots : Values) (args : List Operand) (ts : List Tree) → Agrees state slots → AreArgs state args ts → map (λ arg. arg_value leaves slots arg i) args ≡ map at ts
  args_are state slots [] [] h a = refl
  args_are state slots [] (t ∷ ts) h a = absurd a
  args_are state slots (arg ∷ args) [] h a = absurd a
  args_are state slots (arg ∷ args) (t ∷ ts) h a =
      let first = arg_is state slots arg t h a.0 in
      let rest = args_are (without state arg) slots args ts (Agrees-without state slots arg h) a.1 in
      λ j. first j ∷ rest j

  -- a node's value is its operation on its operands' values
  node_value : (t : Tree) → is_computed t ≡ true → op_value (op_of t) (elem_of t) (map at (operands_of t)) ≡ at t
  node_value (AtLeaf k) h = absurd (false≢true h)
  node_value (Literal n) h = absurd (false≢true h)
  node_value (One op elem a) h = refl
  node_value (Two op elem a b) h = refl
  node_value (Cast elem from a) h = refl
  node_value (Move elem a) h = refl
  node_value (Select elem c x y) h = refl

  -- each step keeps the agreement, so all do
  steps_agree : (n : ℕ) (steps : List Step) (state last : State) (slots : Values) → Agrees state slots → Leads n state steps last → Agrees last (slots_after leaves steps slots)
  steps_agree n [] state last slots h l = subst (λ (s : State). Agrees s slots) l h
  steps_agree n (step ∷ steps) state last slots h l =
      let t = l.0 in
      let can = l.1 in
      let args = args_are state slots step.args (operands_of t) h can.args_are in
      let same : step_value leaves slots step i ≡ at t = (λ j. op_value (can.op_is j) (can.elem_is j) (args j)) ∙ node_value t can.inner in
      steps_agree n steps (after_step state step t) last (put_values slots step.to (step_value leaves slots step))
      (Agrees-put (without_all state step.args) slots step.to t (step_value leaves slots step) (Agrees-without_all state slots step.args h) same) l.2

  at_last : (tree : Tree) (to : ℕ) (slots : Values) → Agrees (put no_slots to (Some tree)) slots → slots to i ≡ at tree
  unfolding Agrees
  at_last tree to slots h = h to tree (if_same to to (Some tree) None refl)

  nothing : (slots : Values) → Agrees no_slots slots
  unfolding Agrees
  nothing slots = λ s t held. absurd (none_some t held)

pub gives_values : GivesValues
gives_values tree slots steps to order leaves before i = at_last leaves i tree to (slots_after leaves steps before) (steps_agree leaves i slots steps no_slots (put no_slots to (Some tree)) before (nothing leaves i before) order.leads)
