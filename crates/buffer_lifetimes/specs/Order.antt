-- Lawful orders of evaluation: steps on slots, and the tree that each slot holds.
use Rattle.std.specs.Prelude.{◌≡◌, ℕ, ◌<◌, ℤ, pos, List, [], ◌∷◌, map, get_or, true, ◌==◌, if◌then◌else◌, Option, Some, None}
use Rattle.ven_base.specs.declared.elem.Elem.{Elem}
use Rattle.ven_base.specs.Elem.{size_of}
use Rattle.ven_base.specs.Wrap.{wrapped}
use Rattle.ven_base.specs.Operation.{applied1, applied2}
use Rattle.pass_plan.specs.declared.tree.TreeOp.{TreeOp}
use Rattle.pass_plan.specs.declared.tree.TreeOp.TheVariants as tree_op
use Rattle.pass_plan.specs.Tree.{AtLeaf, Literal, chosen, is_computed, op_of, elem_of, from_of, operands_of}
use Rattle.buffer_lifetimes.specs.declared.step.Operand.{Operand}
use Rattle.buffer_lifetimes.specs.declared.step.Operand.TheVariants as operand
use Rattle.buffer_lifetimes.specs.Step.{Tree, Step}

-- ---- what the slots hold

-- the tree whose value each slot holds, if that is still to be read
abbrev pub State : Type 0
State = ℕ → Option Tree

abbrev pub no_slots : State
no_slots s = None

abbrev pub put : State → ℕ → Option Tree → State
put state s contents k = if k == s then contents else state k

-- an argument is the operand: the leaf, the literal, or a slot that holds it
abbrev pub IsArg : State → Operand → Tree → Type 0
IsArg state arg (AtLeaf k) = arg ≡ operand.Leaf k
IsArg state arg (Literal n) = arg ≡ operand.Literal n
IsArg state arg t = (s : ℕ) × (arg ≡ operand.Slot s) × (state s ≡ Some t)

-- a slot that was read holds nothing that is still to be read
abbrev pub without : State → Operand → State
without state (operand.Leaf k) = state
without state (operand.Literal n) = state
without state (operand.Slot s) = put state s None

abbrev pub without_all : State → List Operand → State
without_all state [] = state
without_all state (arg ∷ args) = without_all (without state arg) args

-- the arguments are the operands from left to right, each read once
abbrev pub AreArgs : State → List Operand → List Tree → Type 0
AreArgs state [] [] = Unit {0}
AreArgs state [] (t ∷ ts) = ⊥
AreArgs state (arg ∷ args) [] = ⊥
AreArgs state (arg ∷ args) (t ∷ ts) = IsArg state arg t × AreArgs (without state arg) args ts

-- ---- lawful steps

-- past the last argument
abbrev pub no_operand : Operand
no_operand = operand.Literal (pos 0)

-- a select writes the slot of its third operand, and a cast that changes the size never works in place
abbrev pub KeepsPlace : TreeOp → Elem → Elem → List Operand → ℕ → Type 0
KeepsPlace tree_op.Select elem from args to = get_or args 2 no_operand ≡ operand.Slot to
KeepsPlace tree_op.Cast elem from args to = get_or args 0 no_operand ≡ operand.Slot to → size_of from ≡ size_of elem
KeepsPlace _ elem from args to = Unit {0}

-- the step works out this tree: it has its root's operation and types, its operands are at hand, and it writes no
-- slot whose value is still to be read by another
pub record CanStep (slots : ℕ) (state : State) (step : Step) (t : Tree) : Type 0 where
  pub inner : is_computed t ≡ true
  pub op_is : step.op ≡ op_of t
  pub elem_is : step.elem ≡ elem_of t
  pub from_is : step.from ≡ from_of t
  pub args_are : AreArgs state step.args (operands_of t)
  pub free : without_all state step.args step.to ≡ None
  pub within : step.to < slots
  pub place : KeepsPlace (op_of t) (elem_of t) (from_of t) step.args step.to

abbrev pub after_step : State → Step → Tree → State
after_step state step t = put (without_all state step.args) step.to (Some t)

-- the steps lead from one state to another
abbrev pub Leads : ℕ → State → List Step → State → Type 0
Leads slots state [] last = state ≡ last
Leads slots state (step ∷ steps) last =
    (t : Tree) × CanStep slots state step t × Leads slots (after_step state step t) steps last

-- an order of a tree: from empty slots to the tree alone
pub record IsOrder (tree : Tree) (slots : ℕ) (steps : List Step) (to : ℕ) : Type 0 where
  pub leads : Leads slots no_slots steps (put no_slots to (Some tree))

-- ---- what the steps do with values, at all indices of a piece at once

-- the value that a slot, and a leaf, has at each index
abbrev pub Values : Type 0
Values = (number index : ℕ) → ℤ

abbrev pub arg_value : Values → Values → Operand → ℕ → ℤ
arg_value leaves slots (operand.Leaf k) i = leaves k i
arg_value leaves slots (operand.Literal n) i = n
arg_value leaves slots (operand.Slot s) i = slots s i

abbrev pub op_value : TreeOp → Elem → List ℤ → ℤ
op_value (tree_op.One op) elem (x ∷ []) = applied1 op elem x
op_value (tree_op.Two op) elem (x ∷ y ∷ []) = applied2 op elem x y
op_value tree_op.Cast elem (x ∷ []) = wrapped elem x
op_value tree_op.Move elem (x ∷ []) = x
op_value tree_op.Select elem (c ∷ x ∷ y ∷ []) = chosen c x y
op_value op elem xs = pos 0

-- a step reads its arguments at each index, and writes each index of its slot
abbrev pub step_value : Values → Values → Step → ℕ → ℤ
step_value leaves slots step i = op_value step.op step.elem (map (λ arg. arg_value leaves slots arg i) step.args)

abbrev pub put_values : Values → ℕ → (ℕ → ℤ) → Values
put_values slots s value k = if k == s then value else slots k

abbrev pub slots_after : Values → List Step → Values → Values
slots_after leaves [] slots = slots
slots_after leaves (step ∷ steps) slots =
    slots_after leaves steps (put_values slots step.to (step_value leaves slots step))
