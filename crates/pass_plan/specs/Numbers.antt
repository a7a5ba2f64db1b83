-- The inner nodes of a tree by number, and the turn in which a node's operands come.
use Rattle.std.specs.Prelude.{ℕ, zero, suc, ◌+◌, List, [], ◌∷◌, ◌++◌, map, nat_lt, if◌then◌else◌}
use Rattle.pass_plan.specs.Tree.{TreeOver, AtLeaf, Literal, One, Two, Cast, Move, Select, is_computed, operands_of}
use Rattle.pass_plan.specs.Label.{label_of, least_label}
use Rattle.pass_plan.specs.declared.turn.Turn.{Turn}

-- how many inner nodes a tree has
abbrev pub inner_of : {L : Type 0} → TreeOver L → ℕ
inner_of (AtLeaf l) = 0
inner_of (Literal v) = 0
inner_of (One op elem a) = 1 + inner_of a
inner_of (Two op elem a b) = 1 + inner_of a + inner_of b
inner_of (Cast elem from a) = 1 + inner_of a
inner_of (Move elem a) = 1 + inner_of a
inner_of (Select elem c x y) = 1 + inner_of c + inner_of x + inner_of y

-- ---- operands in turn

-- before the first whose label isn't greater
abbrev pub insert_turn : Turn → List Turn → List Turn
insert_turn turn [] = turn ∷ []
insert_turn turn (next ∷ turns) =
    if nat_lt turn.label next.label then next ∷ insert_turn turn turns else turn ∷ next ∷ turns

abbrev pub with_turn : {L : Type 0} → TreeOver L → Turn → List Turn → List Turn
with_turn t turn turns = if is_computed t then insert_turn turn turns else turns

-- the computed operands in falling order of label, the left one first where labels are equal. The first of these
-- operands has place k, and their nodes are numbered from n on
abbrev pub turns_of : {L : Type 0} → List (TreeOver L) → (k n : ℕ) → List Turn
turns_of [] k n = []
turns_of (t ∷ ts) k n =
    with_turn t (record { place = k; number = n; label = label_of t }) (turns_of ts (k + 1) (n + inner_of t))

-- the places of a node's computed operands in turn, whatever their numbers
abbrev pub places_of : {L : Type 0} → TreeOver L → List ℕ
places_of t = map (λ turn. turn.place) (turns_of (operands_of t) 0 1)

-- the number of the operand at a place, where these operands' nodes are numbered from n on
abbrev pub operand_number : {L : Type 0} → List (TreeOver L) → (place n : ℕ) → ℕ
operand_number [] place n = n
operand_number (t ∷ ts) zero n = n
operand_number (t ∷ ts) (suc place) n = operand_number ts place (n + inner_of t)

-- ---- nodes by number

-- an inner node: its number, the label of its tree, how many inner nodes that has, how many results its own step
-- holds, and its computed operands in turn
pub record Node : Type 0 where
  pub number : ℕ
  pub label : ℕ
  pub inner : ℕ
  pub least : ℕ
  pub turns : List Turn

abbrev pub node_at : {L : Type 0} → TreeOver L → ℕ → Node
node_at t n = record {
  number = n;
  label = label_of t;
  inner = inner_of t;
  least = least_label t;
  turns = turns_of (operands_of t) 0 (n + 1);
}

-- the inner nodes of a tree whose root has number n: a node before its operands, operands from left to right
abbrev pub nodes_from : {L : Type 0} → TreeOver L → ℕ → List Node
nodes_from (AtLeaf l) n = []
nodes_from (Literal v) n = []
nodes_from (One op elem a) n = node_at (One op elem a) n ∷ nodes_from a (n + 1)
nodes_from (Two op elem a b) n =
    node_at (Two op elem a b) n ∷ (nodes_from a (n + 1) ++ nodes_from b (n + 1 + inner_of a))
nodes_from (Cast elem from a) n = node_at (Cast elem from a) n ∷ nodes_from a (n + 1)
nodes_from (Move elem a) n = node_at (Move elem a) n ∷ nodes_from a (n + 1)
nodes_from (Select elem c x y) n =
    node_at (Select elem c x y) n
    ∷ (nodes_from c (n + 1)
    ++ (nodes_from x (n + 1 + inner_of c) ++ nodes_from y (n + 1 + inner_of c + inner_of x)))
