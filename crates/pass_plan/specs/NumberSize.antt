-- Inner: nodes by the sizes of their operands.
use Rattle.std.specs.Prelude.{ℕ, ◌+◌, max, List, [], ◌∷◌, map, nat_lt, if◌then◌else◌}
use Rattle.pass_plan.specs.Tree.{TreeOver}
use Rattle.pass_plan.specs.Label.{label_of, needed}
use Rattle.pass_plan.specs.declared.turn.Turn.{Turn}
use Rattle.pass_plan.specs.declared.turn.TreeSize.{TreeSize}
use Rattle.pass_plan.specs.Numbers.{inner_of, insert_turn, Node}

abbrev pub size_of : {L : Type 0} → TreeOver L → TreeSize
size_of t = record { label = label_of t; inner = inner_of t }

abbrev pub turns_by : List TreeSize → (place number : ℕ) → List Turn
turns_by [] k n = []
turns_by (size ∷ sizes) k n =
    if nat_lt 0 size.inner
    then insert_turn (record { place = k; number = n; label = size.label }) (turns_by sizes (k + 1) (n + size.inner))
    else turns_by sizes (k + 1) (n + size.inner)

-- how many of the first have a greater label
abbrev pub turns_above : ℕ → List Turn → ℕ
turns_above l [] = 0
turns_above l (turn ∷ turns) = if nat_lt l turn.label then 1 + turns_above l turns else 0

abbrev pub total_inner : List TreeSize → ℕ
total_inner [] = 0
total_inner (size ∷ sizes) = size.inner + total_inner sizes

-- what operands of these sizes hold in turn
abbrev pub held_by : List TreeSize → ℕ → ℕ
held_by sizes n = needed (map (λ turn. turn.label) (turns_by sizes 0 n))

abbrev pub node_by : List TreeSize → (number least : ℕ) → Node
node_by sizes n least = record {
  number = n;
  label = max least (held_by sizes (n + 1));
  inner = 1 + total_inner sizes;
  least = least;
  turns = turns_by sizes 0 (n + 1);
}

abbrev pub size_by : List TreeSize → (number least : ℕ) → TreeSize
size_by sizes n least = record { label = max least (held_by sizes (n + 1)); inner = 1 + total_inner sizes }

-- the place that is left for a node
abbrev pub no_node : Node
no_node = record { number = 0; label = 0; inner = 0; least = 0; turns = [] }
