-- What holds of each turn, and of each operand by its place.
use Rattle.std.proofs.Common.{◌≡◌, ◌≢◌, ℕ, ◌+◌, ◌≤◌, List, [], ◌∷◌, map, get_or, refl, sym, ap, subst, arith, Bool, true, false}
use Rattle.std.specs.Prelude.{if◌then◌else◌, nat_lt}
use Rattle.std.proofs.lemmas.Bool.{cases_Bool}
use mathlib.Core.Logic.{⊎_elim}
use Rattle.pass_plan.specs.Tree.{TreeOver, AtLeaf, Literal, One, Two, Cast, Move, Select, is_computed, operands_of}
use Rattle.pass_plan.specs.Label.{label_of}
use Rattle.pass_plan.specs.declared.turn.Turn.{Turn}
use Rattle.pass_plan.specs.Numbers.{inner_of, insert_turn, turns_of, places_of}

abbrev pub Each : {A : Type 0} → (A → Type 0) → List A → Type 0
Each P [] = Unit {0}
Each P (x ∷ xs) = P x × Each P xs

pub Each-map : {A : Type 0} (P Q : A → Type 0) (xs : List A) → ((x : A) → P x → Q x) → Each P xs → Each Q xs
Each-map P Q [] f h = tt
Each-map P Q (x ∷ xs) f h = (f x h.0, Each-map P Q xs f h.1)

pub Each-both : {A : Type 0} (P Q R : A → Type 0) (xs : List A) → ((x : A) → P x → Q x → R x) → Each P xs → Each Q xs → Each R xs
Each-both P Q R [] f h g = tt
Each-both P Q R (x ∷ xs) f h g = (f x h.0 g.0, Each-both P Q R xs f h.1 g.1)

pub Each-mapped : {A B : Type 0} (P : B → Type 0) (f : A → B) (xs : List A) → Each (λ x. P (f x)) xs → Each P (map f xs)
Each-mapped P f [] h = tt
Each-mapped P f (x ∷ xs) h = (h.0, Each-mapped P f xs h.1)

pub Each-unmapped : {A B : Type 0} (P : B → Type 0) (f : A → B) (xs : List A) → Each P (map f xs) → Each (λ x. P (f x)) xs
Each-unmapped P f [] h = tt
Each-unmapped P f (x ∷ xs) h = (h.0, Each-unmapped P f xs h.1)

-- of each operand, the first of which has place k
abbrev pub EachPlace : {L : Type 0} → (ℕ → TreeOver L → Type 0) → List (TreeOver L) → ℕ → Type 0
EachPlace P [] k = Unit {0}
EachPlace P (t ∷ ts) k = P k t × EachPlace P ts (k + 1)

pub EachPlace-map : {L : Type 0} (P Q : ℕ → TreeOver L → Type 0) (ts : List (TreeOver L)) (k : ℕ) → ((j : ℕ) (t : TreeOver L) → P j t → Q j t) → EachPlace P ts k → EachPlace Q ts k
EachPlace-map P Q [] k f h = tt
EachPlace-map P Q (t ∷ ts) k f h = (f k t h.0, EachPlace-map P Q ts (k + 1) f h.1)

pub EachPlace-both : {L : Type 0} (P Q R : ℕ → TreeOver L → Type 0) (ts : List (TreeOver L)) (k : ℕ) → ((j : ℕ) (t : TreeOver L) → P j t → Q j t → R j t) → EachPlace P ts k → EachPlace Q ts k → EachPlace R ts k
EachPlace-both P Q R [] k f h g = tt
EachPlace-both P Q R (t ∷ ts) k f h g = (f k t h.0 g.0, EachPlace-both P Q R ts (k + 1) f h.1 g.1)

pub operands_at : {L : Type 0} (t d : TreeOver L) → EachPlace (λ j u. get_or (operands_of t) j d ≡ u) (operands_of t) 0
operands_at (AtLeaf l) d = tt
operands_at (Literal v) d = tt
operands_at (One op elem a) d = (refl, tt)
operands_at (Two op elem a b) d = (refl, (refl, tt))
operands_at (Cast elem from a) d = (refl, tt)
operands_at (Move elem a) d = (refl, tt)
operands_at (Select elem c x y) d = (refl, (refl, (refl, tt)))

-- ---- turns

pub insert-cases : (P : List Turn → Type 0) (turn next : Turn) (turns : List Turn) → P (next ∷ insert_turn turn turns) → P (turn ∷ next ∷ turns) → P (insert_turn turn (next ∷ turns))
insert-cases P turn next turns later first = go (nat_lt turn.label next.label)
  where
    go : (b : Bool) → P (if b then next ∷ insert_turn turn turns else turn ∷ next ∷ turns)
    go true = later
    go false = first

pub Each-insert : (P : Turn → Type 0) (turn : Turn) (turns : List Turn) → P turn → Each P turns → Each P (insert_turn turn turns)
Each-insert P turn [] h g = (h, tt)
Each-insert P turn (next ∷ turns) h g = insert-cases (λ r. Each P r) turn next turns (g.0, Each-insert P turn turns h g.1) (h, g)

pub Each-inserted : (P : Turn → Type 0) (turn : Turn) (turns : List Turn) → Each P (insert_turn turn turns) → P turn × Each P turns
Each-inserted P turn [] g = (g.0, tt)
Each-inserted P turn (next ∷ turns) g =
    (insert-cases (λ r. Each P r → P turn × Each P (next ∷ turns)) turn next turns (λ g. let r = Each-inserted P turn turns g.1 in (r.0, (g.0, r.1))) (λ g. g)) g

-- where an operand is computed, and where not
pub with-cases : {L : Type 0} (P : List Turn → Type 0) (t : TreeOver L) (turn : Turn) (turns : List Turn) → (is_computed t ≡ true → P (insert_turn turn turns)) → (is_computed t ≡ false → P turns)
    → P (if is_computed t then insert_turn turn turns else turns)
with-cases P t turn turns yes' no' =
    ⊎_elim (λ e. subst (λ (b : Bool). P (if b then insert_turn turn turns else turns)) (sym e) (yes' e)) (λ e. subst (λ (b : Bool). P (if b then insert_turn turn turns else turns)) (sym e) (no' e)) (cases_Bool (is_computed t))

pub turns_each : {L : Type 0} (P : Turn → Type 0) (ts : List (TreeOver L)) (k n : ℕ)
    → EachPlace (λ j t. is_computed t ≡ true → (m : ℕ) → P (record { place = j; number = m; label = label_of t })) ts k → Each P (turns_of ts k n)
turns_each P [] k n h = tt
turns_each P (t ∷ ts) k n h =
    let turn : Turn = record { place = k; number = n; label = label_of t } in
    let later = turns_each P ts (k + 1) (n + inner_of t) h.1 in
    with-cases (λ r. Each P r) t turn (turns_of ts (k + 1) (n + inner_of t)) (λ e. Each-insert P turn (turns_of ts (k + 1) (n + inner_of t)) (h.0 e n) later) (λ e. later)

clash : (b : Bool) → b ≡ true → b ≡ false → ⊥
clash b e f = cc

pub each_turn : {L : Type 0} (P : ℕ → Type 0) (ts : List (TreeOver L)) (k n : ℕ) → Each (λ turn. P turn.place) (turns_of ts k n) → EachPlace (λ j t. is_computed t ≡ true → P j) ts k
each_turn P [] k n h = tt
each_turn P (t ∷ ts) k n h =
    let turn : Turn = record { place = k; number = n; label = label_of t } in
    (with-cases (λ r. Each (λ turn. P turn.place) r → EachPlace (λ j t. is_computed t ≡ true → P j) (t ∷ ts) k) t turn (turns_of ts (k + 1) (n + inner_of t))
    (λ e g. let r = Each-inserted (λ turn. P turn.place) turn (turns_of ts (k + 1) (n + inner_of t)) g in ((λ c. r.0), each_turn P ts (k + 1) (n + inner_of t) r.1))
    (λ e g. ((λ c. absurd (clash (is_computed t) c e)), each_turn P ts (k + 1) (n + inner_of t) g))) h

-- what holds of each place of a computed operand
pub places_each : {L : Type 0} (P : ℕ → Type 0) (t : TreeOver L) → EachPlace (λ j u. is_computed u ≡ true → P j) (operands_of t) 0 → Each P (places_of t)
places_each P t h =
    Each-mapped P (λ turn. turn.place) (turns_of (operands_of t) 0 1) (turns_each (λ turn. P turn.place) (operands_of t) 0 1 (EachPlace-map (λ j u. is_computed u ≡ true → P j) (λ j u. is_computed u ≡ true → (m : ℕ) → P j) (operands_of t) 0 (λ j u f c m. f c) h))

pub each_place : {L : Type 0} (P : ℕ → Type 0) (t : TreeOver L) → Each P (places_of t) → EachPlace (λ j u. is_computed u ≡ true → P j) (operands_of t) 0
each_place P t h = each_turn P (operands_of t) 0 1 (Each-unmapped P (λ turn. turn.place) (turns_of (operands_of t) 0 1) h)

-- ---- no place comes twice

abbrev pub Distinct : List ℕ → Type 0
Distinct [] = Unit {0}
Distinct (k ∷ ks) = Each (λ j. j ≢ k) ks × Distinct ks

Distinct-insert : (turn : Turn) (turns : List Turn) → Each (λ other. other.place ≢ turn.place) turns → Distinct (map (λ turn. turn.place) turns) → Distinct (map (λ turn. turn.place) (insert_turn turn turns))
Distinct-insert turn [] h d = (tt, tt)
Distinct-insert turn (next ∷ turns) h d =
    insert-cases (λ r. Distinct (map (λ turn. turn.place) r)) turn next turns
    (Each-mapped (λ j. j ≢ next.place) (λ turn. turn.place) (insert_turn turn turns) (Each-insert (λ other. other.place ≢ next.place) turn turns (λ e. h.0 (sym e)) (Each-unmapped (λ j. j ≢ next.place) (λ turn. turn.place) turns d.0)), Distinct-insert turn turns h.1 d.1)
    (Each-mapped (λ j. j ≢ turn.place) (λ turn. turn.place) (next ∷ turns) h, d)

places_from : {L : Type 0} (ts : List (TreeOver L)) (low k : ℕ) → low ≤ k → EachPlace (λ j t. is_computed t ≡ true → (m : ℕ) → low ≤ j) ts k
places_from [] low k h = tt
places_from (t ∷ ts) low k h = ((λ c m. h), places_from ts low (k + 1) (omega arith))

turns_apart : {L : Type 0} (ts : List (TreeOver L)) (k n : ℕ) → Distinct (map (λ turn. turn.place) (turns_of ts k n))
turns_apart [] k n = tt
turns_apart (t ∷ ts) k n =
    let turn : Turn = record { place = k; number = n; label = label_of t } in
    let turns = turns_of ts (k + 1) (n + inner_of t) in
    let rest = turns_apart ts (k + 1) (n + inner_of t) in
    let high = turns_each (λ other. k + 1 ≤ other.place) ts (k + 1) (n + inner_of t) (places_from ts (k + 1) (k + 1) (omega arith)) in
    with-cases (λ r. Distinct (map (λ turn. turn.place) r)) t turn turns
    (λ e. Distinct-insert turn turns (Each-map (λ other. k + 1 ≤ other.place) (λ other. other.place ≢ k) turns (λ other h same. absurd (omega arith)) high) rest) (λ e. rest)

pub places_apart : {L : Type 0} (t : TreeOver L) → Distinct (places_of t)
places_apart t = turns_apart (operands_of t) 0 1

-- ---- labels by place

labels_at : (f : ℕ → ℕ) (turns : List Turn) → Each (λ turn. turn.label ≡ f turn.place) turns → map (λ turn. turn.label) turns ≡ map f (map (λ turn. turn.place) turns)
labels_at f [] h = refl
labels_at f (turn ∷ turns) h = let e = h.0 in let r = labels_at f turns h.1 in cc

pub labels_by_place : {L : Type 0} (t d : TreeOver L) → map (λ turn. turn.label) (turns_of (operands_of t) 0 1) ≡ map (λ j. label_of (get_or (operands_of t) j d)) (places_of t)
labels_by_place t d =
    labels_at (λ j. label_of (get_or (operands_of t) j d)) (turns_of (operands_of t) 0 1)
    (turns_each (λ turn. turn.label ≡ label_of (get_or (operands_of t) turn.place d)) (operands_of t) 0 1
    (EachPlace-map (λ j u. get_or (operands_of t) j d ≡ u) (λ j u. is_computed u ≡ true → (m : ℕ) → label_of u ≡ label_of (get_or (operands_of t) j d)) (operands_of t) 0 (λ j u e c m. ap label_of (sym e)) (operands_at t d)))

-- ---- none computed

pub no_turns : {L : Type 0} (ts : List (TreeOver L)) (k n : ℕ) → EachPlace (λ j t. is_computed t ≡ false) ts k → turns_of ts k n ≡ []
no_turns [] k n h = refl
no_turns (t ∷ ts) k n h =
    let turn : Turn = record { place = k; number = n; label = label_of t } in
    with-cases (λ r. r ≡ []) t turn (turns_of ts (k + 1) (n + inner_of t)) (λ e. absurd (clash (is_computed t) e h.0)) (λ e. no_turns ts (k + 1) (n + inner_of t) h.1)
