-- The order of a tree.
use Rattle.std.specs.Prelude.{ℕ, ◌+◌, List, [], ◌∷◌, ◌++◌, drop, get_or, not, ◌==◌, if◌then◌else◌, Option, Some, None}
use Rattle.std.specs.Option.{option_map_or}
use Rattle.std.specs.List.{filter, range_with_len}
use Rattle.ven_base.specs.declared.elem.Elem.{Elem}
use Rattle.ven_base.specs.Elem.{size_of}
use Rattle.pass_plan.specs.declared.tree.TreeOp.{TreeOp}
use Rattle.pass_plan.specs.declared.tree.TreeOp.TheVariants as tree_op
use Rattle.pass_plan.specs.Tree.{AtLeaf, Literal, One, Two, Cast, Move, Select, op_of, elem_of, from_of, operands_of}
use Rattle.pass_plan.specs.Label.{label_of}
use Rattle.pass_plan.specs.Numbers.{places_of}
use Rattle.buffer_lifetimes.specs.declared.step.Operand.{Operand}
use Rattle.buffer_lifetimes.specs.declared.step.Operand.TheVariants as operand
use Rattle.buffer_lifetimes.specs.Step.{Tree, Step}

-- the steps of a tree, and the slot that holds it then
pub record Code : Type 0 where
  pub steps : List Step
  pub to : ℕ

abbrev pub no_code : List ℕ → Code
no_code free = record { steps = []; to = 0 }

-- the free slots without one
abbrev pub remove_slot : ℕ → List ℕ → List ℕ
remove_slot s free = filter (λ k. not (k == s)) free

-- the slot of each operand by its place
abbrev pub put_slot : (ℕ → ℕ) → ℕ → ℕ → (ℕ → ℕ)
put_slot slot place s k = if k == place then s else slot k

-- operands that were worked out one after another: their steps, the slot of each, and the slots that are left
pub record OperandsCode : Type 0 where
  pub steps : List Step
  pub slot : ℕ → ℕ
  pub left : List ℕ

-- each operand in turn takes a slot of those that are free
abbrev pub operands_code : List ℕ → List (List ℕ → Code) → (ℕ → ℕ) → List ℕ → OperandsCode
operands_code [] codes slot free = record { steps = []; slot = slot; left = free }
operands_code (place ∷ places) codes slot free =
    let code = get_or codes place no_code free in
    let rest = operands_code places codes (put_slot slot place code.to) (remove_slot code.to free) in
    record { steps = code.steps ++ rest.steps; slot = rest.slot; left = rest.left }

-- the arguments of a node, where its operands are at these slots; the first has place k
abbrev pub arg_for : Tree → ℕ → Operand
arg_for (AtLeaf k) s = operand.Leaf k
arg_for (Literal n) s = operand.Literal n
arg_for t s = operand.Slot s

abbrev pub args_for : List Tree → (ℕ → ℕ) → ℕ → List Operand
args_for [] slot k = []
args_for (t ∷ ts) slot k = arg_for t (slot k) ∷ args_for ts slot (k + 1)

-- the slot of the first argument that is in one
abbrev pub first_slot : List Operand → Option ℕ
first_slot [] = None
first_slot (operand.Leaf k ∷ args) = first_slot args
first_slot (operand.Literal n ∷ args) = first_slot args
first_slot (operand.Slot s ∷ args) = Some s

-- the operand's slot that a node writes: a select that of its third, a cast that changes the size none, any other the
-- first computed one's
abbrev pub slot_kept : TreeOp → Elem → Elem → List Operand → Option ℕ
slot_kept tree_op.Select elem from args = first_slot (drop 2 args)
slot_kept tree_op.Cast elem from args = if size_of elem == size_of from then first_slot args else None
slot_kept _ elem from args = first_slot args

-- a node writes an operand's slot, or else the free one of least number
abbrev pub slot_written : Tree → List Operand → List ℕ → ℕ
slot_written t args left = option_map_or (λ s. s) (slot_kept (op_of t) (elem_of t) (from_of t) args) (get_or left 0 0)

abbrev pub step_for : Tree → List Operand → List ℕ → Step
step_for t args left =
    record { op = op_of t; elem = elem_of t; from = from_of t; args = args; to = slot_written t args left }

-- a node: its computed operands in turn, and then its own step
abbrev pub node_code : Tree → List (List ℕ → Code) → List ℕ → Code
node_code t codes free =
    let all = operands_code (places_of t) codes (λ k. 0) free in
    let step = step_for t (args_for (operands_of t) all.slot 0) all.left in
    record { steps = all.steps ++ step ∷ []; to = step.to }

-- a tree's steps on these free slots
abbrev pub code_of : Tree → List ℕ → Code
code_of (AtLeaf k) = no_code
code_of (Literal n) = no_code
code_of (One op elem a) = node_code (One op elem a) (code_of a ∷ [])
code_of (Two op elem a b) = node_code (Two op elem a b) (code_of a ∷ code_of b ∷ [])
code_of (Cast elem from a) = node_code (Cast elem from a) (code_of a ∷ [])
code_of (Move elem a) = node_code (Move elem a) (code_of a ∷ [])
code_of (Select elem c x y) = node_code (Select elem c x y) (code_of c ∷ code_of x ∷ code_of y ∷ [])

-- the order of a tree: its steps on as many slots as its label, numbered from 0
abbrev pub order_of : Tree → Code
order_of tree = code_of tree (range_with_len 0 (label_of tree))
