-- The nodes of a tree are its root and then those of its operands, one after another.
use Rattle.std.proofs.Common.{◌≡◌, ℕ, zero, suc, ◌+◌, ◌<◌, ◌≤◌, List, [], ◌∷◌, ◌++◌, length, get_or, take, drop, map, refl, sym, ap, ◌∙◌, arith, append_assoc, append-nil, length-append, true, false}
use Rattle.std.proofs.Math.ListN.{set}
use Rattle.std.proofs.Math.Seq.{take-append_seam, drop-append_seam, set-append_seam, drop-cons}
use Rattle.std.proofs.lemmas.List.{take-map, drop-map, length-map}
use Rattle.pass_plan.specs.Tree.{TreeOver, AtLeaf, Literal, One, Two, Cast, Move, Select, is_computed, operands_of}
use Rattle.pass_plan.specs.Label.{label_of}
use Rattle.pass_plan.specs.Numbers.{Node, inner_of, operand_number, turns_of, node_at, nodes_from}
use Rattle.pass_plan.specs.declared.node.NumberedNode.{NumberedNode}
use Rattle.pass_plan.specs.NumberShown.{node_of}

-- the nodes of these trees one after another, numbered from n on
abbrev pub nodes_all : {L : Type 0} → List (TreeOver L) → ℕ → List Node
nodes_all [] n = []
nodes_all (t ∷ ts) n = nodes_from t n ++ nodes_all ts (n + inner_of t)

pub nodes_whole : {L : Type 0} (t : TreeOver L) (n : ℕ) → is_computed t ≡ true → nodes_from t n ≡ node_at t n ∷ nodes_all (operands_of t) (n + 1)
nodes_whole (AtLeaf l) n h = cc
nodes_whole (Literal v) n h = cc
nodes_whole (One op elem a) n h = ap (λ ns. node_at (One op elem a) n ∷ ns) (sym (append-nil (nodes_from a (n + 1))))
nodes_whole (Two op elem a b) n h = ap (λ ns. node_at (Two op elem a b) n ∷ (nodes_from a (n + 1) ++ ns)) (sym (append-nil (nodes_from b (n + 1 + inner_of a))))
nodes_whole (Cast elem from a) n h = ap (λ ns. node_at (Cast elem from a) n ∷ ns) (sym (append-nil (nodes_from a (n + 1))))
nodes_whole (Move elem a) n h = ap (λ ns. node_at (Move elem a) n ∷ ns) (sym (append-nil (nodes_from a (n + 1))))
nodes_whole (Select elem c x y) n h =
    ap (λ ns. node_at (Select elem c x y) n ∷ (nodes_from c (n + 1) ++ (nodes_from x (n + 1 + inner_of c) ++ ns))) (sym (append-nil (nodes_from y (n + 1 + inner_of c + inner_of x))))

pub length-nodes : {L : Type 0} (t : TreeOver L) (n : ℕ) → length (nodes_from t n) ≡ inner_of t
length-nodes (AtLeaf l) n = refl
length-nodes (Literal v) n = refl
length-nodes (One op elem a) n = let r = length-nodes a (n + 1) in omega arith
length-nodes (Two op elem a b) n = let r = length-nodes a (n + 1) in let s = length-nodes b (n + 1 + inner_of a) in let e = length-append (nodes_from a (n + 1)) (nodes_from b (n + 1 + inner_of a)) in omega arith
length-nodes (Cast elem from a) n = let r = length-nodes a (n + 1) in omega arith
length-nodes (Move elem a) n = let r = length-nodes a (n + 1) in omega arith
length-nodes (Select elem c x y) n =
    let j = n + 1 + inner_of c in
    let k = n + 1 + inner_of c + inner_of x in
    let r = length-nodes c (n + 1) in
    let s = length-nodes x j in
    let u = length-nodes y k in
    let d = length-append (nodes_from x j) (nodes_from y k) in
    let e = length-append (nodes_from c (n + 1)) (nodes_from x j ++ nodes_from y k) in
    omega arith

module _ {L : Type 0} (nodes : List NumberedNode) (t : TreeOver L) (n : ℕ) (rest : List Node) (is : map node_of nodes ≡ nodes_from t n ++ rest) where
  pub first_nodes : map node_of (take (inner_of t) nodes) ≡ nodes_from t n
  first_nodes =
      sym (take-map node_of (inner_of t) nodes) ∙ ap (take (inner_of t)) is ∙ ap (λ k. take k (nodes_from t n ++ rest)) (sym (length-nodes t n)) ∙ take-append_seam (nodes_from t n) rest

  pub later_nodes : map node_of (drop (inner_of t) nodes) ≡ rest
  later_nodes =
      sym (drop-map node_of (inner_of t) nodes) ∙ ap (drop (inner_of t)) is ∙ ap (λ k. drop k (nodes_from t n ++ rest)) (sym (length-nodes t n)) ∙ drop-append_seam (nodes_from t n) rest

  pub enough_nodes : inner_of t ≤ length nodes
  enough_nodes = omega (arith, length-nodes t n, ap length is, length-map nodes node_of, length-append (nodes_from t n) rest)

-- a computed tree has a first node, which says how many it has
pub first_inner : {L : Type 0} (nodes : List NumberedNode) (d : NumberedNode) (t : TreeOver L) (n : ℕ) (rest : List Node) → map node_of nodes ≡ nodes_from t n ++ rest → is_computed t ≡ true
    → (0 < length nodes) × ((get_or nodes 0 d).inner ≡ inner_of t)
first_inner [] d t n rest is inner = let e : [] ≡ node_at t n ∷ (nodes_all (operands_of t) (n + 1) ++ rest) = is ∙ ap (λ ns. ns ++ rest) (nodes_whole t n inner) in absurd (cc)
first_inner (node ∷ nodes) d t n rest is inner =
    let e : node_of node ∷ map node_of nodes ≡ node_at t n ∷ (nodes_all (operands_of t) (n + 1) ++ rest) = is ∙ ap (λ ns. ns ++ rest) (nodes_whole t n inner) in
    let same : node_of node ≡ node_at t n = cc in
    (omega arith, ap (λ m. m.inner) same)

-- ---- operands by place

pub operand_number-next : {L : Type 0} (ts : List (TreeOver L)) (k n : ℕ) (d : TreeOver L) → k < length ts → operand_number ts (k + 1) n ≡ operand_number ts k n + inner_of (get_or ts k d)
operand_number-next [] k n d h = absurd (omega arith)
operand_number-next (t ∷ []) zero n d h = refl
operand_number-next (t ∷ u ∷ ts) zero n d h = refl
operand_number-next (t ∷ ts) (suc k) n d h =
    let e : suc k + 1 ≡ suc (k + 1) = omega arith in
    ap (λ j. operand_number (t ∷ ts) j n) e ∙ operand_number-next ts k (n + inner_of t) d (omega arith)

-- ---- one node in its place

pub put_in_place : (before after : List Node) (empty node : Node) (k : ℕ) → k ≡ length before → set (before ++ empty ∷ after) k node ≡ before ++ node ∷ after
put_in_place before after empty node k h = ap (λ j. set (before ++ empty ∷ after) j node) h ∙ set-append_seam before empty after node

pub nodes_all-more : {L : Type 0} (ts : List (TreeOver L)) (k n : ℕ) (d : TreeOver L) → k < length ts
    → nodes_all (take (k + 1) ts) n ≡ nodes_all (take k ts) n ++ nodes_from (get_or ts k d) (operand_number ts k n)
nodes_all-more [] k n d h = absurd (omega arith)
nodes_all-more (t ∷ ts) zero n d h = append-nil (nodes_from t n)
nodes_all-more (t ∷ ts) (suc k) n d h =
    let e : suc k + 1 ≡ suc (k + 1) = omega arith in
    ap (λ j. nodes_all (take j (t ∷ ts)) n) e
    ∙ ap (λ ns. nodes_from t n ++ ns) (nodes_all-more ts k (n + inner_of t) d (omega arith))
    ∙ sym (append_assoc (nodes_from t n) (nodes_all (take k ts) (n + inner_of t)) (nodes_from (get_or ts k d) (operand_number ts k (n + inner_of t))))

pub length-nodes_all : {L : Type 0} (ts : List (TreeOver L)) (k n : ℕ) → k ≤ length ts → n + length (nodes_all (take k ts) n) ≡ operand_number ts k n
length-nodes_all [] zero n h = omega arith
length-nodes_all [] (suc k) n h = absurd (omega arith)
length-nodes_all (t ∷ ts) zero n h = omega arith
length-nodes_all (t ∷ ts) (suc k) n h =
    let r = length-nodes_all ts k (n + inner_of t) (omega arith) in
    let l = length-nodes t n in
    let a = length-append (nodes_from t n) (nodes_all (take k ts) (n + inner_of t)) in
    omega arith

-- one more operand's nodes
pub one_more : {L : Type 0} (before was now : List Node) (empty : Node) (ts : List (TreeOver L)) (k n m : ℕ) (u d : TreeOver L) → k < length ts → u ≡ get_or ts k d → m ≡ operand_number ts k n
    → was ≡ before ++ empty ∷ nodes_all (take k ts) n → now ≡ was ++ nodes_from u m → now ≡ before ++ empty ∷ nodes_all (take (k + 1) ts) n
one_more before was now empty ts k n m u d h e f g is =
    is ∙ ap (λ ns. ns ++ nodes_from u m) g ∙ append_assoc before (empty ∷ nodes_all (take k ts) n) (nodes_from u m)
    ∙ ap (λ t. before ++ empty ∷ (nodes_all (take k ts) n ++ nodes_from t m)) e
    ∙ ap (λ j. before ++ empty ∷ (nodes_all (take k ts) n ++ nodes_from (get_or ts k d) j)) f
    ∙ ap (λ ns. before ++ empty ∷ ns) (sym (nodes_all-more ts k n d h))

-- the root goes to its place
pub whole : {L : Type 0} (before mid now : List Node) (empty node : Node) (t : TreeOver L) (ts : List (TreeOver L)) (at : ℕ) → is_computed t ≡ true → at ≡ length before → ts ≡ operands_of t
    → mid ≡ before ++ empty ∷ nodes_all ts (at + 1 + 1) → node ≡ node_at t (at + 1) → now ≡ set mid at node → now ≡ before ++ nodes_from t (at + 1)
whole before mid now empty node t ts at inner place all is same put =
    put ∙ ap (λ ns. set ns at node) is ∙ put_in_place before (nodes_all ts (at + 1 + 1)) empty node at place
    ∙ ap (λ m. before ++ m ∷ nodes_all ts (at + 1 + 1)) same ∙ ap (λ us. before ++ node_at t (at + 1) ∷ nodes_all us (at + 1 + 1)) all
    ∙ ap (λ ns. before ++ ns) (sym (nodes_whole t (at + 1) inner))

-- the nodes of the operands from one on begin with its own
pub next_operand : {L : Type 0} (nodes : List NumberedNode) (ts : List (TreeOver L)) (k n : ℕ) (d : TreeOver L) → k < length ts → map node_of nodes ≡ nodes_all (drop k ts) n
    → map node_of nodes ≡ nodes_from (get_or ts k d) n ++ nodes_all (drop (k + 1) ts) (n + inner_of (get_or ts k d))
next_operand nodes ts k n d h is =
    let e : suc k ≡ k + 1 = omega arith in
    is ∙ ap (λ us. nodes_all us n) (drop-cons ts k d h) ∙ ap (λ j. nodes_from (get_or ts k d) n ++ nodes_all (drop j ts) (n + inner_of (get_or ts k d))) e

-- behind the root
pub below_root : {L : Type 0} (nodes : List NumberedNode) (t : TreeOver L) (n : ℕ) → is_computed t ≡ true → map node_of nodes ≡ nodes_from t n
    → (1 ≤ length nodes) × (map node_of (drop 1 nodes) ≡ nodes_all (operands_of t) (n + 1))
below_root [] t n inner is = let e : [] ≡ node_at t n ∷ nodes_all (operands_of t) (n + 1) = is ∙ nodes_whole t n inner in absurd (cc)
below_root (node ∷ nodes) t n inner is =
    let e : node_of node ∷ map node_of nodes ≡ node_at t n ∷ nodes_all (operands_of t) (n + 1) = is ∙ nodes_whole t n inner in
    let same : map node_of nodes ≡ nodes_all (operands_of t) (n + 1) = cc in
    (omega arith, same)

pub no_inner : {L : Type 0} (t : TreeOver L) → length (operands_of t) ≡ 0 → inner_of t ≡ 0
no_inner (AtLeaf l) h = refl
no_inner (Literal v) h = refl
no_inner (One op elem a) h = absurd (omega arith)
no_inner (Two op elem a b) h = absurd (omega arith)
no_inner (Cast elem from a) h = absurd (omega arith)
no_inner (Move elem a) h = absurd (omega arith)
no_inner (Select elem c x y) h = absurd (omega arith)

pub some_nodes : {L : Type 0} (nodes : List NumberedNode) (t : TreeOver L) (n : ℕ) (rest : List Node) → map node_of nodes ≡ nodes_from t n ++ rest → is_computed t ≡ true → 0 < length nodes
some_nodes [] t n rest is inner = let e : [] ≡ node_at t n ∷ (nodes_all (operands_of t) (n + 1) ++ rest) = is ∙ ap (λ ns. ns ++ rest) (nodes_whole t n inner) in absurd (cc)
some_nodes (node ∷ nodes) t n rest is inner = omega arith

pub first_turns : {L : Type 0} (nodes : List NumberedNode) (d : NumberedNode) (t : TreeOver L) (n : ℕ) → map node_of nodes ≡ nodes_from t n → is_computed t ≡ true
    → (get_or nodes 0 d).turns.items ≡ turns_of (operands_of t) 0 (n + 1)
first_turns [] d t n is inner = let e : [] ≡ node_at t n ∷ nodes_all (operands_of t) (n + 1) = is ∙ nodes_whole t n inner in absurd (cc)
first_turns (node ∷ nodes) d t n is inner =
    let e : node_of node ∷ map node_of nodes ≡ node_at t n ∷ nodes_all (operands_of t) (n + 1) = is ∙ nodes_whole t n inner in
    let same : node_of node ≡ node_at t n = cc in
    ap (λ m. m.turns) same

pub first_label : {L : Type 0} (nodes : List NumberedNode) (d : NumberedNode) (t : TreeOver L) (n : ℕ) → map node_of nodes ≡ nodes_from t n → is_computed t ≡ true → (get_or nodes 0 d).label ≡ label_of t
first_label [] d t n is inner = let e : [] ≡ node_at t n ∷ nodes_all (operands_of t) (n + 1) = is ∙ nodes_whole t n inner in absurd (cc)
first_label (node ∷ nodes) d t n is inner =
    let e : node_of node ∷ map node_of nodes ≡ node_at t n ∷ nodes_all (operands_of t) (n + 1) = is ∙ nodes_whole t n inner in
    let same : node_of node ≡ node_at t n = cc in
    ap (λ m. m.label) same

pub no_label : {L : Type 0} (t : TreeOver L) → is_computed t ≡ false → label_of t ≡ 0
no_label (AtLeaf l) h = refl
no_label (Literal v) h = refl
no_label (One op elem a) h = cc
no_label (Two op elem a b) h = cc
no_label (Cast elem from a) h = cc
no_label (Move elem a) h = cc
no_label (Select elem c x y) h = cc
