-- How many results an order holds at each place.
use Rattle.std.specs.Prelude.{ℕ, ◌+◌, List, map, length, take, Bool, false, not, ◌&&◌, if◌then◌else◌}
use Rattle.std.specs.List.{range_with_len}
use Rattle.pass_plan.specs.Tree.{AtLeaf, Literal, One, Two, Cast, Move, Select}
use Rattle.pass_plan.specs.Label.{least_label}
use Rattle.pass_plan.specs.Numbers.{inner_of}
use Rattle.eval_order.specs.Order.{Tree, Done, done_by}

-- what a node holds at a place: its result, from its own place until that of the node above; at its own place as many
-- as working it out holds, which are 2 at a cast that changes the size of a computed operand
abbrev pub held_here : Tree → (was is above : Bool) → ℕ
held_here t was is above = if is && not above then (if was then 1 else least_label t) else 0

-- what is held of a tree whose root has number n, at the place that leads from these nodes to those; `above` says
-- whether the root's own node is done
abbrev pub held_in : Tree → (before after : Done) → (n : ℕ) → (above : Bool) → ℕ
held_in (AtLeaf l) before after n above = 0
held_in (Literal v) before after n above = 0
held_in (One op elem a) before after n above =
    held_here (One op elem a) (before n) (after n) above + held_in a before after (n + 1) (after n)
held_in (Two op elem a b) before after n above =
    held_here (Two op elem a b) (before n) (after n) above
    + (held_in a before after (n + 1) (after n) + held_in b before after (n + 1 + inner_of a) (after n))
held_in (Cast elem from a) before after n above =
    held_here (Cast elem from a) (before n) (after n) above + held_in a before after (n + 1) (after n)
held_in (Move elem a) before after n above =
    held_here (Move elem a) (before n) (after n) above + held_in a before after (n + 1) (after n)
held_in (Select elem c x y) before after n above =
    held_here (Select elem c x y) (before n) (after n) above
    + (held_in c before after (n + 1) (after n)
    + (held_in x before after (n + 1 + inner_of c) (after n)
    + held_in y before after (n + 1 + inner_of c + inner_of x) (after n)))

-- the number of results that are held at a place of an order
abbrev pub held_at : Tree → List ℕ → ℕ → ℕ
held_at tree order at = held_in tree (done_by (take at order)) (done_by (take (at + 1) order)) 1 false

abbrev pub held_of : Tree → List ℕ → List ℕ
held_of tree order = map (held_at tree order) (range_with_len 0 (length order))
