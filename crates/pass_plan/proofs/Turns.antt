-- Operands in turn, by their sizes and by their trees.
use Rattle.std.proofs.Common.{◌≡◌, ℕ, suc, ◌+◌, List, [], ◌∷◌, map, refl, sym, ap, ◌∙◌, subst, arith, Bool, true, false}
use Rattle.std.specs.Prelude.{if◌then◌else◌, nat_lt, max, insert}
use Rattle.std.proofs.lemmas.Bool.{lt-ltb}
use Rattle.pass_plan.specs.Tree.{TreeOver, AtLeaf, Literal, One, Two, Cast, Move, Select, is_computed, operands_of}
use Rattle.pass_plan.specs.Label.{label_of, least_label, needed, insert_label, with_label}
use Rattle.pass_plan.specs.declared.turn.Turn.{Turn}
use Rattle.pass_plan.specs.Numbers.{inner_of, insert_turn, turns_of}
use Rattle.pass_plan.specs.NumberSize.{size_of, turns_by, turns_above}

pub counted : {L : Type 0} (t : TreeOver L) → nat_lt 0 (inner_of t) ≡ is_computed t
counted (AtLeaf l) = refl
counted (Literal v) = refl
counted (One op elem a) = lt-ltb 0 (1 + inner_of a) (omega arith)
counted (Two op elem a b) = lt-ltb 0 (1 + inner_of a + inner_of b) (omega arith)
counted (Cast elem from a) = lt-ltb 0 (1 + inner_of a) (omega arith)
counted (Move elem a) = lt-ltb 0 (1 + inner_of a) (omega arith)
counted (Select elem c x y) = lt-ltb 0 (1 + inner_of c + inner_of x + inner_of y) (omega arith)

pub turns_same : {L : Type 0} (ts : List (TreeOver L)) (k n : ℕ) → turns_by (map size_of ts) k n ≡ turns_of ts k n
turns_same [] k n = refl
turns_same (t ∷ ts) k n =
    let turn : Turn = record { place = k; number = n; label = label_of t } in
    ap (λ later. if nat_lt 0 (inner_of t) then insert_turn turn later else later) (turns_same ts (k + 1) (n + inner_of t))
    ∙ ap (λ b. if b then insert_turn turn (turns_of ts (k + 1) (n + inner_of t)) else turns_of ts (k + 1) (n + inner_of t)) (counted t)

-- ---- labels

labels_of : List Turn → List ℕ
labels_of turns = map (λ turn. turn.label) turns

labels-insert : (turn : Turn) (turns : List Turn) → labels_of (insert_turn turn turns) ≡ insert_label turn.label (labels_of turns)
unfolding labels_of
labels-insert turn [] = refl
labels-insert turn (next ∷ turns) = go (nat_lt turn.label next.label) (labels-insert turn turns)
  where
    go : (b : Bool) → labels_of (insert_turn turn turns) ≡ insert_label turn.label (labels_of turns)
        → labels_of (if b then next ∷ insert_turn turn turns else turn ∷ next ∷ turns) ≡ (if b then next.label ∷ insert_label turn.label (labels_of turns) else turn.label ∷ next.label ∷ labels_of turns)
    go true h = ap (λ ls. next.label ∷ ls) h
    go false h = refl

pub labels-turn : {L : Type 0} (t : TreeOver L) (ts : List (TreeOver L)) (k n : ℕ)
    → map (λ turn. turn.label) (turns_of (t ∷ ts) k n) ≡ with_label t (label_of t) (map (λ turn. turn.label) (turns_of ts (k + 1) (n + inner_of t)))
unfolding labels_of
labels-turn t ts k n = go (record { place = k; number = n; label = label_of t }) (turns_of ts (k + 1) (n + inner_of t)) (is_computed t)
  where
    go : (turn : Turn) (later : List Turn) (b : Bool) → labels_of (if b then insert_turn turn later else later) ≡ (if b then insert_label turn.label (labels_of later) else labels_of later)
    go turn later true = labels-insert turn later
    go turn later false = refl

pub label_is : {L : Type 0} (t : TreeOver L) (n : ℕ) → is_computed t ≡ true → label_of t ≡ max (least_label t) (needed (map (λ turn. turn.label) (turns_of (operands_of t) 0 n)))
label_is (AtLeaf l) n h = cc
label_is (Literal v) n h = cc
label_is (One op elem a) n h = ap (λ ls. max 1 (needed ls)) (sym (labels-turn a [] 0 n))
label_is (Move elem a) n h = ap (λ ls. max 1 (needed ls)) (sym (labels-turn a [] 0 n))
label_is (Cast elem from a) n h = ap (λ ls. max (least_label (Cast elem from a)) (needed ls)) (sym (labels-turn a [] 0 n))
label_is (Two op elem a b) n h =
    ap (λ ls. max 1 (needed ls)) (sym (labels-turn a (b ∷ []) 0 n ∙ ap (with_label a (label_of a)) (labels-turn b [] (0 + 1) (n + inner_of a))))
label_is (Select elem c x y) n h =
    ap (λ ls. max 1 (needed ls)) (sym (labels-turn c (x ∷ y ∷ []) 0 n ∙ ap (with_label c (label_of c)) (labels-turn x (y ∷ []) (0 + 1) (n + inner_of c) ∙ ap (with_label x (label_of x)) (labels-turn y [] (0 + 1 + 1) (n + inner_of c + inner_of x)))))

-- ---- a turn put in

pub insert_is : (turn : Turn) (turns : List Turn) → insert turns (turns_above turn.label turns) turn ≡ insert_turn turn turns
insert_is turn [] = refl
insert_is turn (next ∷ turns) = go (nat_lt turn.label next.label) (insert_is turn turns)
  where
    go : (b : Bool) → insert turns (turns_above turn.label turns) turn ≡ insert_turn turn turns
        → insert (next ∷ turns) (if b then 1 + turns_above turn.label turns else 0) turn ≡ (if b then next ∷ insert_turn turn turns else turn ∷ next ∷ turns)
    go true h = let e : 1 + turns_above turn.label turns ≡ suc (turns_above turn.label turns) = omega arith in ap (λ k. insert (next ∷ turns) k turn) e ∙ ap (λ ts. next ∷ ts) h
    go false h = refl

-- ---- places

places : List Turn → List ℕ
places turns = map (λ turn. turn.place) turns

places-insert : (place label n m : ℕ) (turns others : List Turn) → places turns ≡ places others → labels_of turns ≡ labels_of others
    → places (insert_turn (record { place = place; number = n; label = label }) turns) ≡ places (insert_turn (record { place = place; number = m; label = label }) others)
unfolding places labels_of
places-insert place label n m [] [] e f = refl
places-insert place label n m [] (other ∷ others) e f = cc
places-insert place label n m (turn ∷ turns) [] e f = cc
places-insert place label n m (turn ∷ turns) (other ∷ others) e f =
    let head : turn.label ≡ other.label = cc in
    let first : turn.place ≡ other.place = cc in
    let rest : map (λ turn. turn.place) turns ≡ map (λ turn. turn.place) others = cc in
    let labels : map (λ turn. turn.label) turns ≡ map (λ turn. turn.label) others = cc in
    subst (λ (l : ℕ). places (if nat_lt label turn.label then turn ∷ insert_turn (record { place = place; number = n; label = label }) turns else record { place = place; number = n; label = label } ∷ turn ∷ turns)
    ≡ places (if nat_lt label l then other ∷ insert_turn (record { place = place; number = m; label = label }) others else record { place = place; number = m; label = label } ∷ other ∷ others)) head
    (go (nat_lt label turn.label) first rest (places-insert place label n m turns others rest labels))
  where
    go : (b : Bool) → turn.place ≡ other.place → places turns ≡ places others
        → places (insert_turn (record { place = place; number = n; label = label }) turns) ≡ places (insert_turn (record { place = place; number = m; label = label }) others)
        → places (if b then turn ∷ insert_turn (record { place = place; number = n; label = label }) turns else record { place = place; number = n; label = label } ∷ turn ∷ turns)
        ≡ places (if b then other ∷ insert_turn (record { place = place; number = m; label = label }) others else record { place = place; number = m; label = label } ∷ other ∷ others)
    go true first rest h = λ i. first i ∷ h i
    go false first rest h = λ i. place ∷ (first i ∷ rest i)

labels_alike : {L : Type 0} (ts : List (TreeOver L)) (k n m : ℕ) → labels_of (turns_of ts k n) ≡ labels_of (turns_of ts k m)
unfolding labels_of
labels_alike [] k n m = refl
labels_alike (t ∷ ts) k n m = labels-turn t ts k n ∙ ap (with_label t (label_of t)) (labels_alike ts (k + 1) (n + inner_of t) (m + inner_of t)) ∙ sym (labels-turn t ts k m)

places_same : {L : Type 0} (ts : List (TreeOver L)) (k n m : ℕ) → places (turns_of ts k n) ≡ places (turns_of ts k m)
unfolding places
places_same [] k n m = refl
places_same (t ∷ ts) k n m = go (is_computed t) (places_same ts (k + 1) (n + inner_of t) (m + inner_of t)) (labels_alike ts (k + 1) (n + inner_of t) (m + inner_of t))
  where
    go : (b : Bool) → places (turns_of ts (k + 1) (n + inner_of t)) ≡ places (turns_of ts (k + 1) (m + inner_of t))
        → labels_of (turns_of ts (k + 1) (n + inner_of t)) ≡ labels_of (turns_of ts (k + 1) (m + inner_of t))
        → places (if b then insert_turn (record { place = k; number = n; label = label_of t }) (turns_of ts (k + 1) (n + inner_of t)) else turns_of ts (k + 1) (n + inner_of t))
        ≡ places (if b then insert_turn (record { place = k; number = m; label = label_of t }) (turns_of ts (k + 1) (m + inner_of t)) else turns_of ts (k + 1) (m + inner_of t))
    go true h g = places-insert k (label_of t) n m (turns_of ts (k + 1) (n + inner_of t)) (turns_of ts (k + 1) (m + inner_of t)) h g
    go false h g = h

pub places_alike : {L : Type 0} (ts : List (TreeOver L)) (k n m : ℕ) → map (λ turn. turn.place) (turns_of ts k n) ≡ map (λ turn. turn.place) (turns_of ts k m)
unfolding places
places_alike ts k n m = places_same ts k n m
