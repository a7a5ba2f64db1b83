-- What holds of lawful orders.
use Rattle.std.specs.Prelude.{◌≡◌, ℕ, List, [], ◌∷◌, ◌++◌, length, Contains, true, Some}
use Rattle.ven_base.specs.Elem.{size_of}
use Rattle.pass_plan.specs.Tree.{value_of, is_computed, operands_of, elem_of}
use Rattle.pass_plan.specs.Label.{label_of}
use Rattle.pass_plan.specs.Normal.{HasNormalSelects}
use Rattle.pass_plan.specs.Sound.{IsTyped}
use Rattle.pass_plan.specs.declared.leaf.Leaf.{Leaf}
use Rattle.ven_base.specs.declared.elem.Elem.{Elem}
use Rattle.pass_plan.specs.Numbers.{inner_of}
use Rattle.buffer_lifetimes.specs.declared.step.Operand.TheVariants as operand
use Rattle.buffer_lifetimes.specs.Step.{Tree, Step}
use Rattle.buffer_lifetimes.specs.Order.{State, no_slots, put, CanStep, after_step, IsOrder, Values, slots_after}
use Rattle.buffer_lifetimes.specs.OrderOf.{order_of}

-- the order of a normalised tree is one, on as many slots as its label
abbrev pub HasOrder : Type 0
HasOrder = (tree : Tree) → is_computed tree ≡ true → HasNormalSelects tree
    → IsOrder tree (label_of tree) (order_of tree).steps (order_of tree).to

-- an order has one step for each inner node
abbrev pub CountsSteps : Type 0
CountsSteps =
    (tree : Tree) (slots : ℕ) (steps : List Step) (to : ℕ) → IsOrder tree slots steps to
    → length steps ≡ inner_of tree

-- a part of a tree: the tree itself, or a part of one of its operands
pub data IsPart (part : Tree) : Tree → Type 0 where
  itself : IsPart part part
  below : (tree operand : Tree) → Contains (operands_of tree) operand → IsPart part operand → IsPart part tree

-- the steps lead from one state to another, and each works out a part of the tree
abbrev pub LeadsIn : Tree → ℕ → State → List Step → State → Type 0
LeadsIn tree slots state [] last = state ≡ last
LeadsIn tree slots state (step ∷ steps) last =
    (t : Tree) × CanStep slots state step t × IsPart t tree × LeadsIn tree slots (after_step state step t) steps last

abbrev pub WorksOutParts : Type 0
WorksOutParts = (tree : Tree) (slots : ℕ) (steps : List Step) (to : ℕ) → IsOrder tree slots steps to
    → LeadsIn tree slots no_slots steps (put no_slots to (Some tree))

-- each inner part of a tree whose types agree has types that agree, and its own type is its node's
abbrev pub PartsAreTyped : Type 0
PartsAreTyped = (leaves : List Leaf) (tree part : Tree) (elem : Elem) → IsTyped leaves tree elem → IsPart part tree
    → is_computed part ≡ true → IsTyped leaves part (elem_of part)

-- each part of a tree with normal selects has them too
abbrev pub PartsAreNormal : Type 0
PartsAreNormal = (tree part : Tree) → HasNormalSelects tree → IsPart part tree → HasNormalSelects part

-- the last step works out the tree itself, into the order's slot
abbrev pub EndsWithRoot : Type 0
EndsWithRoot =
    (tree : Tree) (slots : ℕ) (steps : List Step) (step : Step) (to : ℕ) → IsOrder tree slots (steps ++ step ∷ []) to
    → (state : State) × CanStep slots state step tree × (step.to ≡ to)

-- a step that writes the slot of one of its arguments has one element size
abbrev pub OneSizeInPlace : Type 0
OneSizeInPlace = (slots : ℕ) (state : State) (step : Step) (t : Tree) → CanStep slots state step t
    → Contains step.args (operand.Slot step.to) → size_of step.from ≡ size_of step.elem

-- the steps of an order, done one after another on slots, give the tree's value at each index
abbrev pub GivesValues : Type 0
GivesValues = (tree : Tree) (slots : ℕ) (steps : List Step) (to : ℕ) → IsOrder tree slots steps to
    → (leaves before : Values) (i : ℕ) → slots_after leaves steps before to i ≡ value_of tree (λ k. leaves k i)
