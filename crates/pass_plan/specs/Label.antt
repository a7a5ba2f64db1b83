-- How many results a tree holds at once.
use Rattle.std.specs.Prelude.{ℕ, ◌+◌, max, List, [], ◌∷◌, ◌&&◌, ◌==◌, not, nat_lt, if◌then◌else◌}
use Rattle.ven_base.specs.Elem.{size_of}
use Rattle.pass_plan.specs.Tree.{TreeOver, AtLeaf, Literal, One, Two, Cast, Move, Select, is_computed}

-- falling order
abbrev pub insert_label : ℕ → List ℕ → List ℕ
insert_label l [] = l ∷ []
insert_label l (m ∷ ms) = if nat_lt l m then m ∷ insert_label l ms else l ∷ m ∷ ms

-- the greatest of the first, the second and 1, the third and 2, and so on
abbrev pub needed : List ℕ → ℕ
needed [] = 0
needed (l ∷ ls) = max l (needed ls + 1)

-- leaves and literals hold nothing
abbrev pub with_label : {L : Type 0} → TreeOver L → ℕ → List ℕ → List ℕ
with_label t l ls = if is_computed t then insert_label l ls else ls

-- a cast that changes the size of a computed operand holds operand and result at once
abbrev pub least_label : {L : Type 0} → TreeOver L → ℕ
least_label (Cast elem from a) = if is_computed a && not (size_of elem == size_of from) then 2 else 1
least_label _ = 1

-- the label of a tree, by those of its computed operands in falling order: they are worked out one after another, and
-- each result is held
abbrev pub label_of : {L : Type 0} → TreeOver L → ℕ
label_of (AtLeaf l) = 0
label_of (Literal n) = 0
label_of (One op elem a) = max 1 (needed (with_label a (label_of a) []))
label_of (Two op elem a b) = max 1 (needed (with_label a (label_of a) (with_label b (label_of b) [])))
label_of (Cast elem from a) = max (least_label (Cast elem from a)) (needed (with_label a (label_of a) []))
label_of (Move elem a) = max 1 (needed (with_label a (label_of a) []))
label_of (Select elem c x y) =
    max 1 (needed (with_label c (label_of c) (with_label x (label_of x) (with_label y (label_of y) []))))

-- Inner: the same by three labels, 0 where there is none
abbrev pub insert_some : ℕ → List ℕ → List ℕ
insert_some l ls = if nat_lt 0 l then insert_label l ls else ls

abbrev pub needed_together : (first second third : ℕ) → ℕ
needed_together first second third = max 1 (needed (insert_some first (insert_some second (insert_some third []))))
