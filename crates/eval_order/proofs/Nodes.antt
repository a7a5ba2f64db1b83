-- The nodes of a tree one after another, with their numbers.
use Rattle.std.proofs.Common.{◌≡◌, ℕ, zero, suc, ◌+◌, ◌-◌, ◌<◌, ◌≤◌, List, [], ◌∷◌, ◌++◌, length, get_or, map, refl, sym, ap, ◌∙◌, subst, arith, length-append, append_assoc, Bool, true, false}
use Rattle.std.specs.Prelude.{if◌then◌else◌, nat_lt, ◌&&◌, ◌==◌, not}
use Rattle.std.proofs.lemmas.Bool.{false≢true}
use Rattle.ven_base.specs.Elem.{size_of}
use Rattle.pass_plan.specs.Tree.{TreeOver, AtLeaf, Literal, One, Two, Cast, Move, Select, is_computed, operands_of, nodes_of}
use Rattle.pass_plan.specs.Label.{label_of, least_label}
use Rattle.pass_plan.specs.declared.turn.Turn.{Turn}
use Rattle.pass_plan.specs.declared.node.NumberedNode.{NumberedNode}
use Rattle.pass_plan.specs.NumberShown.{node_of}
use Rattle.pass_plan.specs.Numbers.{Node, inner_of, insert_turn, turns_of, node_at, nodes_from}
use Rattle.pass_plan.proofs.Nodes.{nodes_all, length-nodes, nodes_whole}
use Rattle.pass_plan.proofs.Each.{Each, with-cases}
use Rattle.eval_order.specs.Order.{Tree, Done, AreDone, no_node, numbered_node}

-- ---- lists

pub Each-append : {A : Type 0} (P : A → Type 0) (xs ys : List A) → Each P xs → Each P ys → Each P (xs ++ ys)
Each-append P [] ys h g = g
Each-append P (x ∷ xs) ys h g = (h.0, Each-append P xs ys h.1 g)

pub Each-left : {A : Type 0} (P : A → Type 0) (xs ys : List A) → Each P (xs ++ ys) → Each P xs
Each-left P [] ys h = tt
Each-left P (x ∷ xs) ys h = (h.0, Each-left P xs ys h.1)

pub Each-right : {A : Type 0} (P : A → Type 0) (xs ys : List A) → Each P (xs ++ ys) → Each P ys
Each-right P [] ys h = h
Each-right P (x ∷ xs) ys h = Each-right P xs ys h.1

pub Each-get : {A : Type 0} (P : A → Type 0) (xs : List A) (i : ℕ) (d : A) → i < length xs → Each P xs → P (get_or xs i d)
Each-get P [] i d h e = absurd (omega arith)
Each-get P (x ∷ xs) zero d h e = e.0
Each-get P (x ∷ xs) (suc i) d h e = Each-get P xs i d (omega arith) e.1

-- ---- numbers

abbrev Numbered : ℕ → List Node → Type 0
Numbered n [] = Unit {0}
Numbered n (x ∷ xs) = (x.number ≡ n) × Numbered (n + 1) xs

Numbered-append : (n m : ℕ) (xs ys : List Node) → Numbered n xs → m ≡ n + length xs → Numbered m ys → Numbered n (xs ++ ys)
Numbered-append n m [] ys h e g = let f : m ≡ n = omega arith in subst (λ (k : ℕ). Numbered k ys) f g
Numbered-append n m (x ∷ xs) ys h e g = (h.0, Numbered-append (n + 1) m xs ys h.1 (omega arith) g)

numbered_from : {L : Type 0} (t : TreeOver L) (n : ℕ) → Numbered n (nodes_from t n)
numbered_from (AtLeaf l) n = tt
numbered_from (Literal v) n = tt
numbered_from (One op elem a) n = (refl, numbered_from a (n + 1))
numbered_from (Two op elem a b) n =
    (refl, Numbered-append (n + 1) (n + 1 + inner_of a) (nodes_from a (n + 1)) (nodes_from b (n + 1 + inner_of a)) (numbered_from a (n + 1)) (let l = length-nodes a (n + 1) in omega arith) (numbered_from b (n + 1 + inner_of a)))
numbered_from (Cast elem from a) n = (refl, numbered_from a (n + 1))
numbered_from (Move elem a) n = (refl, numbered_from a (n + 1))
numbered_from (Select elem c x y) n =
    let j = n + 1 + inner_of c in
    let k = n + 1 + inner_of c + inner_of x in (
      refl,
      Numbered-append (n + 1) j (nodes_from c (n + 1)) (nodes_from x j ++ nodes_from y k) (numbered_from c (n + 1)) (let l = length-nodes c (n + 1) in omega arith)
          (Numbered-append j k (nodes_from x j) (nodes_from y k) (numbered_from x j) (let l = length-nodes x j in omega arith) (numbered_from y k)),
    )

numbered_get : (n : ℕ) (xs : List Node) → Numbered n xs → (all : List Node) (before : List Node) → all ≡ before ++ xs → length before + 1 ≡ n → Each (λ x. get_or all (x.number - 1) no_node ≡ x) xs
numbered_get n [] h all before is e = tt
numbered_get n (x ∷ xs) h all before is e =
    let number = h.0 in
    let at : x.number - 1 ≡ length before = omega arith in
    (ap (λ i. get_or all i no_node) at ∙ ap (λ ys. get_or ys (length before) no_node) is ∙ get_seam x no_node before xs, numbered_get (n + 1) xs h.1 all (before ++ x ∷ []) (is ∙ sym (append_assoc before (x ∷ []) xs)) (let l = length-append before (x ∷ []) in omega arith))
  where
    get_seam : (x d : Node) (before xs : List Node) → get_or (before ++ x ∷ xs) (length before) d ≡ x
    get_seam x d [] xs = refl
    get_seam x d (y ∷ before) xs = get_seam x d before xs

-- the node with a node's number is that node
pub lookup : (tree : Tree) → Each (λ x. numbered_node tree x.number ≡ x) (nodes_from tree 1)
lookup tree = numbered_get 1 (nodes_from tree 1) (numbered_from tree 1) (nodes_from tree 1) [] refl (omega arith)

pub number_at : (tree : Tree) (i : ℕ) → i < inner_of tree → (get_or (nodes_from tree 1) i no_node).number ≡ i + 1
number_at tree i h = let e : 1 + i ≡ i + 1 = omega arith in go 1 (nodes_from tree 1) i (numbered_from tree 1) (omega (arith, length-nodes tree 1)) (omega arith) ∙ e
  where
    go : (n : ℕ) (xs : List Node) (i : ℕ) → Numbered n xs → i < length xs → 1 ≤ n → (get_or xs i no_node).number ≡ n + i
    go n [] i h l one = absurd (omega arith)
    go n (x ∷ xs) zero h l one = let e = h.0 in omega arith
    go n (x ∷ xs) (suc i) h l one = let r = go (n + 1) xs i h.1 (omega arith) (omega arith) in omega arith

-- ---- operands by number

abbrev pub EachNumber : (ℕ → Tree → Type 0) → List Tree → ℕ → Type 0
EachNumber P [] m = Unit {0}
EachNumber P (t ∷ ts) m = P m t × EachNumber P ts (m + inner_of t)

AreDone-inserted : (done : Done) (turn : Turn) (turns : List Turn) → AreDone done (insert_turn turn turns) → (done turn.number ≡ true) × AreDone done turns
AreDone-inserted done turn [] h = (h.0, tt)
AreDone-inserted done turn (next ∷ turns) h = go (nat_lt turn.label next.label) (AreDone-inserted done turn turns) h
  where
    go : (b : Bool) → (AreDone done (insert_turn turn turns) → (done turn.number ≡ true) × AreDone done turns) → AreDone done (if b then next ∷ insert_turn turn turns else turn ∷ next ∷ turns)
        → (done turn.number ≡ true) × AreDone done (next ∷ turns)
    go true ih h = let r = ih h.1 in (r.0, (h.0, r.1))
    go false ih h = h

clash : (b : Bool) → b ≡ true → b ≡ false → ⊥
clash b e f = cc

pub each_number : (done : Done) (ts : List Tree) (k m : ℕ) → AreDone done (turns_of ts k m) → EachNumber (λ j t. is_computed t ≡ true → done j ≡ true) ts m
each_number done [] k m h = tt
each_number done (t ∷ ts) k m h =
    let turn : Turn = record { place = k; number = m; label = label_of t } in
    (with-cases (λ r. AreDone done r → EachNumber (λ j t. is_computed t ≡ true → done j ≡ true) (t ∷ ts) m) t turn (turns_of ts (k + 1) (m + inner_of t))
    (λ e g. let r = AreDone-inserted done turn (turns_of ts (k + 1) (m + inner_of t)) g in ((λ c. r.0), each_number done ts (k + 1) (m + inner_of t) r.1))
    (λ e g. ((λ c. absurd (clash (is_computed t) c e)), each_number done ts (k + 1) (m + inner_of t) g))) h

abbrev pub one_if : Bool → ℕ
one_if b = if b then 1 else 0

-- how many are computed
abbrev pub computed_in : List Tree → ℕ
computed_in [] = 0
computed_in (t ∷ ts) = (if is_computed t then 1 else 0) + computed_in ts

length-insert : (turn : Turn) (turns : List Turn) → length (insert_turn turn turns) ≡ 1 + length turns
length-insert turn [] = refl
length-insert turn (next ∷ turns) = go (nat_lt turn.label next.label) (length-insert turn turns)
  where
    go : (b : Bool) → length (insert_turn turn turns) ≡ 1 + length turns → length (if b then next ∷ insert_turn turn turns else turn ∷ next ∷ turns) ≡ 1 + length (next ∷ turns)
    go true h = omega arith
    go false h = omega arith

pub length-turns : (ts : List Tree) (k m : ℕ) → length (turns_of ts k m) ≡ computed_in ts
length-turns [] k m = refl
length-turns (t ∷ ts) k m = go (is_computed t) (length-turns ts (k + 1) (m + inner_of t)) (length-insert (record { place = k; number = m; label = label_of t }) (turns_of ts (k + 1) (m + inner_of t)))
  where
    go : (b : Bool) → length (turns_of ts (k + 1) (m + inner_of t)) ≡ computed_in ts → length (insert_turn (record { place = k; number = m; label = label_of t }) (turns_of ts (k + 1) (m + inner_of t))) ≡ 1 + length (turns_of ts (k + 1) (m + inner_of t))
        → length (if b then insert_turn (record { place = k; number = m; label = label_of t }) (turns_of ts (k + 1) (m + inner_of t)) else turns_of ts (k + 1) (m + inner_of t)) ≡ (if b then 1 else 0) + computed_in ts
    go true h g = omega arith
    go false h g = omega arith

-- ---- sizes

pub least_few : (t : Tree) → least_label t ≤ 2
least_few (AtLeaf l) = omega arith
least_few (Literal v) = omega arith
least_few (One op elem a) = omega arith
least_few (Two op elem a b) = omega arith
least_few (Cast elem from a) = go (is_computed a && not (size_of elem == size_of from))
  where
    go : (b : Bool) → (if b then 2 else 1) ≤ 2
    go true = omega arith
    go false = omega arith
least_few (Move elem a) = omega arith
least_few (Select elem c x y) = omega arith

pub nodes_positive : (t : Tree) → 1 ≤ nodes_of t
nodes_positive (AtLeaf l) = omega arith
nodes_positive (Literal v) = omega arith
nodes_positive (One op elem a) = omega arith
nodes_positive (Two op elem a b) = omega arith
nodes_positive (Cast elem from a) = omega arith
nodes_positive (Move elem a) = omega arith
nodes_positive (Select elem c x y) = omega arith

abbrev pub nodes_in : List Tree → ℕ
nodes_in [] = 0
nodes_in (t ∷ ts) = nodes_of t + nodes_in ts

abbrev pub inner_in : List Tree → ℕ
inner_in [] = 0
inner_in (t ∷ ts) = inner_of t + inner_in ts

pub nodes_below : (t : Tree) → is_computed t ≡ true → nodes_of t ≡ nodes_in (operands_of t) + 1
nodes_below (AtLeaf l) h = absurd (false≢true h)
nodes_below (Literal v) h = absurd (false≢true h)
nodes_below (One op elem a) h = omega arith
nodes_below (Two op elem a b) h = omega arith
nodes_below (Cast elem from a) h = omega arith
nodes_below (Move elem a) h = omega arith
nodes_below (Select elem c x y) h = omega arith

pub inner_below : (t : Tree) → is_computed t ≡ true → inner_of t ≡ inner_in (operands_of t) + 1
inner_below (AtLeaf l) h = absurd (false≢true h)
inner_below (Literal v) h = absurd (false≢true h)
inner_below (One op elem a) h = omega arith
inner_below (Two op elem a b) h = omega arith
inner_below (Cast elem from a) h = omega arith
inner_below (Move elem a) h = omega arith
inner_below (Select elem c x y) h = omega arith

pub no_inner : (t : Tree) → is_computed t ≡ false → inner_of t ≡ 0
no_inner (AtLeaf l) h = refl
no_inner (Literal v) h = refl
no_inner (One op elem a) h = cc
no_inner (Two op elem a b) h = cc
no_inner (Cast elem from a) h = cc
no_inner (Move elem a) h = cc
no_inner (Select elem c x y) h = cc

-- the first node of a computed tree has its number
pub first_number : (nodes : List NumberedNode) (d : NumberedNode) (t : Tree) (n : ℕ) → map node_of nodes ≡ nodes_from t n → is_computed t ≡ true → (0 < length nodes) × ((get_or nodes 0 d).number ≡ n)
first_number [] d t n is inner = let e : [] ≡ node_at t n ∷ nodes_all (operands_of t) (n + 1) = is ∙ nodes_whole t n inner in absurd (cc)
first_number (node ∷ nodes) d t n is inner =
    let e : node_of node ∷ map node_of nodes ≡ node_at t n ∷ nodes_all (operands_of t) (n + 1) = is ∙ nodes_whole t n inner in
    let same : node_of node ≡ node_at t n = cc in
    (omega arith, ap (λ m. m.number) same)
