-- The instructions of a tile lead to what those of its root leave; those of a Map pass leave the tree's values.
use Rattle.std.proofs.Common.{◌≡◌, ℕ, ◌+◌, ◌*◌, ◌≤◌, inl, inr, ap, sym, ◌∙◌, subst, refl, arith, List, [], ◌∷◌, length, false, ℤ}
use Rattle.std.specs.Prelude.{Some}
use Rattle.std.proofs.lemmas.Bool.{cases_eq, true≢false}
use Rattle.ven_base.specs.Cell.{Cell}
use Rattle.venice_isa.specs.declared.work.VecWork.{VecWork}
use Rattle.venice_isa.specs.Cell.{cell_at}
use Rattle.pass_plan.specs.Tree.{AtLeaf, Literal, One, Two, Move, Select, Cast, op_of, elem_of, from_of, operands_of}
use Rattle.pass_plan.specs.Normal.{is_select}
use Rattle.buffer_lifetimes.specs.declared.step.Operand.{Operand}
use Rattle.buffer_lifetimes.specs.Step.{Tree, Step}
use Rattle.buffer_lifetimes.specs.Order.{State, no_slots, put, without_all, AreArgs, CanStep, after_step, Leads, IsOrder}
use Rattle.buffer_lifetimes.proofs.Slots.{put_same, put_other, none_some, some_same}
use Rattle.buffer_lifetimes.proofs.Trees.{AreComputed, computed_after, none_computed, HoldsOfAll, holds_of_made, holds_from}
use Rattle.vector_codegen.specs.Work.{Shape, Buffers, out_buffer, step_work}
use Rattle.vector_codegen.specs.TileList.{works_with}
use Rattle.vector_codegen.proofs.Good.{the_output}
use Rattle.vector_codegen.proofs.Held.{Typing, HasType, Holds, HoldsLeaves, AreHeld, values_of, HasRoom, TakesAll}
use Rattle.vector_codegen.proofs.Types.{IsFit, fit_passes}
use Rattle.vector_codegen.proofs.Steps.{MayWrite, IsBufferOf, of_leaf, of_slot, buffer_of_arg, work_gives, step_keeps}

-- where only the tree is left after a step, the step works it out
root_is : (state : State) (step : Step) (t tree : Tree) (to : ℕ) → after_step state step t ≡ put no_slots to (Some tree) → t ≡ tree
root_is state step t tree to last =
    let here : Some t ≡ put no_slots to (Some tree) step.to = sym (put_same (without_all state step.args) step.to (Some t) step.to refl) ∙ ap (λ (state : State). state step.to) last in
    elim (cases_eq step.to to) [
      | inl same ↦ some_same t tree (here ∙ put_same no_slots to (Some tree) step.to same)
      | inr other ↦ absurd (none_some t (sym (here ∙ put_other no_slots to (Some tree) step.to other)))
    ]

module _ (shape : Shape) (b : Buffers) (typing : Typing) (leaf : ℕ → ℕ → ℤ) (first : List Cell) (room : HasRoom shape b typing (length first)) where
  module _ (cells : List Cell) where
    pub out_apart : (state : State) (arg : Operand) (k : ℕ) → b.leaves * 2 + b.slots ≤ k → IsBufferOf shape b typing leaf first room cells state arg k → ⊥
    out_apart state arg k behind (of_leaf j below same) = let half = room.half in let count = room.one_count in omega (arith, below, same)
    out_apart state arg k behind (of_slot s is below same) = omega (arith, below, same)

    -- a root may write behind the slots
    pub root_writes : (state : State) (t : Tree) (args : List Operand) (k : ℕ) → b.leaves * 2 + b.slots ≤ k → is_select t ≡ false → AreHeld shape b typing leaf first state cells → HasType t typing (elem_of t) → AreArgs state args (operands_of t) → MayWrite shape b typing leaf first room cells (op_of t) (elem_of t) (from_of t) args k
    root_writes state (Select elem c x y) args k behind root held type are = absurd (true≢false root)
    root_writes state (Cast elem from x) (arg ∷ args) k behind root held type are = λ there. absurd (out_apart state arg k behind (buffer_of_arg shape b typing leaf first room cells state arg x from k held are.0 type.2 there))
    root_writes state (Cast elem from x) [] k behind root held type are = absurd are
    root_writes state (AtLeaf k') args k behind root held type are = tt
    root_writes state (Literal n) args k behind root held type are = tt
    root_writes state (One op elem x) args k behind root held type are = tt
    root_writes state (Two op elem x y) args k behind root held type are = tt
    root_writes state (Move elem x) args k behind root held type are = tt

  -- the steps before the last keep what is held, and the last step's works take it to the end
  module _ (tree : Tree) (to : ℕ) (root : Step → List VecWork) (Holding : List Cell → Type 0)
      (ends : (state : State) (step : Step) (cells : List Cell) → CanStep b.slots state step tree → HasType tree typing (elem_of tree) → AreHeld shape b typing leaf first state cells → TakesAll (root step) b shape cells Holding) where
    pub steps_lead : (steps : List Step) (step : Step) (state : State) (cells : List Cell) → Leads b.slots state (step ∷ steps) (put no_slots to (Some tree)) → AreComputed state → HoldsOfAll (IsFit typing) (fit_passes typing) (put no_slots to (Some tree)) → AreHeld shape b typing leaf first state cells → TakesAll (works_with root shape b (step ∷ steps)) b shape cells Holding
    steps_lead [] step state cells leads computed typed held =
        let is = root_is state step leads.0 tree to leads.2 in
        let type = holds_of_made (IsFit typing) (fit_passes typing) state step leads.0 (subst (λ (state : State). HoldsOfAll (IsFit typing) (fit_passes typing) state) (sym leads.2) typed) in
        ends state step cells (subst (λ t. CanStep b.slots state step t) is leads.1) (subst (λ t. HasType t typing (elem_of t)) is type) held
    steps_lead (next ∷ steps) step state cells leads computed typed held =
        let t = leads.0 in
        let can = leads.1 in
        let computed' = computed_after b.slots state step t can computed in
        let typed' = holds_from (IsFit typing) (fit_passes typing) b.slots (next ∷ steps) (after_step state step t) (put no_slots to (Some tree)) leads.2 computed' typed in
        let one = step_keeps shape b typing leaf first state step t cells room can (holds_of_made (IsFit typing) (fit_passes typing) state step t typed') held in
        (one.good, λ after whole. steps_lead steps next (after_step state step t) after leads.2 computed' typed (one.takes after whole))

tree_typed : (typing : Typing) (tree : Tree) (to : ℕ) → HasType tree typing (elem_of tree) → HoldsOfAll (IsFit typing) (fit_passes typing) (put no_slots to (Some tree))
tree_typed typing tree to type s u is =
    elim (cases_eq s to) [
      | inl same ↦ let one : tree ≡ u = some_same tree u (sym (put_same no_slots to (Some tree) s same) ∙ is) in rw one at type
      | inr other ↦ absurd (none_some u (sym (put_other no_slots to (Some tree) s other) ∙ is))
    ]

no_steps : (tree : Tree) (to : ℕ) → no_slots ≡ put no_slots to (Some tree) → ⊥
no_steps tree to leads = none_some tree (ap (λ (state : State). state to) leads ∙ put_same no_slots to (Some tree) to refl)

-- from cells that hold the leaves, and have behind the slots what stood there at first
module _ (shape : Shape) (b : Buffers) (typing : Typing) (leaf : ℕ → ℕ → ℤ) (tree : Tree) (first : List Cell) (room : HasRoom shape b typing (length first)) (root : Step → List VecWork) (Holding : List Cell → Type 0)
    (ends : (state : State) (step : Step) (cells : List Cell) → CanStep b.slots state step tree → HasType tree typing (elem_of tree) → AreHeld shape b typing leaf first state cells → TakesAll (root step) b shape cells Holding) where
  pub pass_takes : (steps : List Step) (to : ℕ) (cells : List Cell) → length cells ≡ length first → HoldsLeaves shape b typing leaf cells → ((p : ℕ) → (b.leaves * 2 + b.slots) * shape.room ≤ p → cell_at cells p ≡ cell_at first p) → IsOrder tree b.slots steps to → HasType tree typing (elem_of tree) → TakesAll (works_with root shape b steps) b shape cells Holding
  pass_takes [] to cells long held rest order type = absurd (no_steps tree to order.leads)
  pass_takes (step ∷ steps) to cells long held rest order type =
      steps_lead shape b typing leaf first room tree to root Holding ends
      steps step no_slots cells order.leads none_computed (tree_typed typing tree to type)
      (record { long = long; leaves = held; slots = λ s t is. absurd (none_some t is); rest = rest })

-- the last step of a Map pass
pub map_ends : (shape : Shape) (b : Buffers) (typing : Typing) (leaf : ℕ → ℕ → ℤ) (tree : Tree) (first : List Cell) (room : HasRoom shape b typing (length first)) → is_select tree ≡ false
    → (state : State) (step : Step) (cells : List Cell) → CanStep b.slots state step tree → HasType tree typing (elem_of tree) → AreHeld shape b typing leaf first state cells → TakesAll (step_work shape b false step (out_buffer b) ∷ []) b shape cells (λ after. Holds shape (elem_of tree) after (out_buffer b) (values_of leaf tree))
map_ends shape b typing leaf tree first room root state step cells can type held =
    let given = work_gives shape b typing leaf first room cells state held step tree can type (out_buffer b) (the_output refl) (root_writes shape b typing leaf first room cells state tree step.args (out_buffer b) (omega arith) root held type can.args_are) in
    (given.good, λ after whole. (given.holds after whole).numbers)
