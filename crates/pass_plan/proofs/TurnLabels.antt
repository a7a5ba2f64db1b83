-- A label is at most the number of inner nodes; nodes by the sizes of their operands.
use Rattle.std.proofs.Common.{◌≡◌, ℕ, ◌+◌, ◌<◌, ◌≤◌, List, [], ◌∷◌, ◌++◌, length, get_or, take, map, sym, ap, ◌∙◌, subst, arith, Bool, true, false}
use Rattle.std.specs.Prelude.{if◌then◌else◌, nat_lt, max, ◌&&◌, ◌==◌, not}
use Rattle.std.proofs.lemmas.Bool.{cases_Bool}
use Rattle.std.proofs.lemmas.List.{map_more}
use mathlib.Core.Logic.{⊎_elim}
use Rattle.ven_base.specs.Elem as elem_size
use Rattle.pass_plan.specs.Tree.{TreeOver, AtLeaf, Literal, One, Two, Cast, Move, Select, is_computed, operands_of}
use Rattle.pass_plan.specs.Label.{label_of, least_label, needed, insert_label, with_label}
use Rattle.pass_plan.specs.declared.turn.TreeSize.{TreeSize}
use Rattle.pass_plan.specs.Numbers.{inner_of, node_at}
use Rattle.pass_plan.specs.NumberSize.{size_of, total_inner, held_by, node_by, size_by}
use Rattle.pass_plan.proofs.Turns.{turns_same, label_is}

pub needed-insert : (l : ℕ) (ls : List ℕ) → 1 ≤ l → needed (insert_label l ls) ≤ l + needed ls
needed-insert l [] h = omega arith
needed-insert l (m ∷ ms) h = go (nat_lt l m) (needed-insert l ms h)
  where
    go : (b : Bool) → needed (insert_label l ms) ≤ l + needed ms → needed (if b then m ∷ insert_label l ms else l ∷ m ∷ ms) ≤ l + max m (needed ms + 1)
    go true r = omega arith
    go false r = omega arith

pub label_positive : {L : Type 0} (t : TreeOver L) → is_computed t ≡ true → 1 ≤ label_of t
label_positive (AtLeaf l) h = cc
label_positive (Literal v) h = cc
label_positive (One op elem a) h = omega arith
label_positive (Two op elem a b) h = omega arith
label_positive (Cast elem from a) h = go (is_computed a && not (elem_size.size_of elem == elem_size.size_of from)) (needed (with_label a (label_of a) []))
  where
    go : (b : Bool) (k : ℕ) → 1 ≤ max (if b then 2 else 1) k
    go true k = omega arith
    go false k = omega arith
label_positive (Move elem a) h = omega arith
label_positive (Select elem c x y) h = omega arith

-- one more operand adds at most its label
pub needed-with : {L : Type 0} (t : TreeOver L) (ls : List ℕ) → needed (with_label t (label_of t) ls) ≤ label_of t + needed ls
needed-with t ls =
    ⊎_elim (λ e. subst (λ (b : Bool). needed (if b then insert_label (label_of t) ls else ls) ≤ label_of t + needed ls) (sym e) (needed-insert (label_of t) ls (label_positive t e)))
    (λ e. subst (λ (b : Bool). needed (if b then insert_label (label_of t) ls else ls) ≤ label_of t + needed ls) (sym e) (omega arith))
    (cases_Bool (is_computed t))

pub inner_positive : {L : Type 0} (t : TreeOver L) → is_computed t ≡ true → 1 ≤ inner_of t
inner_positive (AtLeaf l) h = cc
inner_positive (Literal v) h = cc
inner_positive (One op elem a) h = omega arith
inner_positive (Two op elem a b) h = omega arith
inner_positive (Cast elem from a) h = omega arith
inner_positive (Move elem a) h = omega arith
inner_positive (Select elem c x y) h = omega arith

pub least_at_most : {L : Type 0} (elem from : _) (a : TreeOver L) → least_label (Cast elem from a) ≤ 1 + inner_of a
least_at_most elem from a =
    ⊎_elim (λ e. let one = inner_positive a e in subst (λ (b : Bool). (if b && not (elem_size.size_of elem == elem_size.size_of from) then 2 else 1) ≤ 1 + inner_of a) (sym e) (go (not (elem_size.size_of elem == elem_size.size_of from)) (omega arith)))
    (λ e. subst (λ (b : Bool). (if b && not (elem_size.size_of elem == elem_size.size_of from) then 2 else 1) ≤ 1 + inner_of a) (sym e) (omega arith))
    (cases_Bool (is_computed a))
  where
    go : (b : Bool) → 2 ≤ 1 + inner_of a → (if b then 2 else 1) ≤ 1 + inner_of a
    go true h = h
    go false h = omega arith

pub label_at_most : {L : Type 0} (t : TreeOver L) → label_of t ≤ inner_of t
label_at_most (AtLeaf l) = omega arith
label_at_most (Literal v) = omega arith
label_at_most (One op elem a) = let r = label_at_most a in let s = needed-with a [] in omega arith
label_at_most (Two op elem a b) = let r = label_at_most a in let q = label_at_most b in let s = needed-with a (with_label b (label_of b) []) in let u = needed-with b [] in omega arith
label_at_most (Cast elem from a) = let r = label_at_most a in let s = needed-with a [] in let l = least_at_most elem from a in omega arith
label_at_most (Move elem a) = let r = label_at_most a in let s = needed-with a [] in omega arith
label_at_most (Select elem c x y) =
    let r = label_at_most c in
    let q = label_at_most x in
    let p = label_at_most y in
    let s = needed-with c (with_label x (label_of x) (with_label y (label_of y) [])) in
    let u = needed-with x (with_label y (label_of y) []) in
    let v = needed-with y [] in
    omega arith

pub total_is : {L : Type 0} (t : TreeOver L) → is_computed t ≡ true → 1 + total_inner (map size_of (operands_of t)) ≡ inner_of t
total_is (AtLeaf l) h = cc
total_is (Literal v) h = cc
total_is (One op elem a) h = omega arith
total_is (Two op elem a b) h = omega arith
total_is (Cast elem from a) h = omega arith
total_is (Move elem a) h = omega arith
total_is (Select elem c x y) h = omega arith

pub held_is : {L : Type 0} (t : TreeOver L) (n : ℕ) → is_computed t ≡ true → max (least_label t) (held_by (map size_of (operands_of t)) n) ≡ label_of t
held_is t n h = ap (λ turns. max (least_label t) (needed (map (λ turn. turn.label) turns))) (turns_same (operands_of t) 0 n) ∙ sym (label_is t n h)

pub node_same : {L : Type 0} (t : TreeOver L) (n : ℕ) → is_computed t ≡ true → node_by (map size_of (operands_of t)) n (least_label t) ≡ node_at t n
node_same t n h = λ i. record { number = n; label = held_is t (n + 1) h i; inner = total_is t h i; least = least_label t; turns = turns_same (operands_of t) 0 (n + 1) i }

pub size_same : {L : Type 0} (t : TreeOver L) (n : ℕ) → is_computed t ≡ true → size_by (map size_of (operands_of t)) n (least_label t) ≡ size_of t
size_same t n h = λ i. record { label = held_is t (n + 1) h i; inner = total_is t h i }

pub held_at_most : {L : Type 0} (t : TreeOver L) (n : ℕ) → is_computed t ≡ true → held_by (map size_of (operands_of t)) n ≤ inner_of t
held_at_most t n h = let e = held_is t n h in let l = label_at_most t in omega arith

-- one more operand's size
pub sizes_more : {L : Type 0} (ts : List (TreeOver L)) (k : ℕ) (u d : TreeOver L) (now was : List TreeSize) (size : TreeSize) → k < length ts → u ≡ get_or ts k d
    → was ≡ map size_of (take k ts) → size ≡ size_of u → now ≡ was ++ size ∷ [] → now ≡ map size_of (take (k + 1) ts)
sizes_more ts k u d now was size h e f g is =
    is ∙ ap (λ ss. ss ++ size ∷ []) f ∙ ap (λ s. map size_of (take k ts) ++ s ∷ []) (g ∙ ap size_of e) ∙ sym (map_more size_of ts k d h)
