-- Labels: how many results are held at once.
use Rattle.std.proofs.Common.{◌≡◌, ℕ, ◌+◌, ◌≤◌, max, List, [], refl, sym, ap, ◌∙◌, arith, Bool, true, false}
use Rattle.std.specs.Prelude.{if◌then◌else◌, ◌&&◌, not, ◌==◌}
use Rattle.std.proofs.lemmas.Bool.Decides.{nat_tests}
use Rattle.ven_base.specs.declared.elem.Elem.{Elem}
use Rattle.ven_base.specs.declared.ops.Op2.{Op2}
use Rattle.ven_base.specs.Elem.{size_of}
use Rattle.pass_plan.specs.Tree.{TreeOver, AtLeaf, Literal, One, Two, Cast, Move, Select, is_computed, nodes_of}
use Rattle.pass_plan.specs.Label.{insert_label, needed, with_label, label_of, insert_some, needed_together}

pub insert_some-positive : (l : ℕ) (ls : List ℕ) → 1 ≤ l → insert_some l ls ≡ insert_label l ls
insert_some-positive l ls h = grind (arith, nat_tests)

pub label-positive : {L : Type 0} (t : TreeOver L) → is_computed t ≡ true → 1 ≤ label_of t
label-positive (AtLeaf l) h = cc
label-positive (Literal n) h = cc
label-positive (One op elem a) h = omega arith
label-positive (Two op elem a b) h = omega arith
label-positive (Cast elem from a) h = least (is_computed a && not (size_of elem == size_of from)) (needed (with_label a (label_of a) []))
  where
    least : (b : Bool) (n : ℕ) → 1 ≤ max (if b then 2 else 1) n
    least true n = omega arith
    least false n = omega arith
label-positive (Move elem a) h = omega arith
label-positive (Select elem c x y) h = omega arith

pub label-none : {L : Type 0} (t : TreeOver L) → is_computed t ≡ false → label_of t ≡ 0
label-none (AtLeaf l) h = refl
label-none (Literal n) h = refl
label-none (One op elem a) h = cc
label-none (Two op elem a b) h = cc
label-none (Cast elem from a) h = cc
label-none (Move elem a) h = cc
label-none (Select elem c x y) h = cc

pub with_label-some : {L : Type 0} (t : TreeOver L) (ls : List ℕ) → with_label t (label_of t) ls ≡ insert_some (label_of t) ls
with_label-some t ls = go (is_computed t) refl
  where
    go : (b : Bool) → is_computed t ≡ b → with_label t (label_of t) ls ≡ insert_some (label_of t) ls
    go true e = ap (λ b. if b then insert_label (label_of t) ls else ls) e ∙ sym (insert_some-positive (label_of t) ls (label-positive t e))
    go false e = ap (λ b. if b then insert_label (label_of t) ls else ls) e ∙ ap (λ l. insert_some l ls) (sym (label-none t e))

pub needed_together-few : (x y z : ℕ) → needed_together x y z ≤ 1 + x + y + z
needed_together-few x y z = grind (arith, nat_tests)

pub label_two : (x y : ℕ) (ls ms : List ℕ) → ls ≡ insert_some y [] → ms ≡ insert_some x ls → max 1 (needed ms) ≡ needed_together x y 0
label_two x y ls ms e f = ap (λ ns. max 1 (needed ns)) (f ∙ ap (insert_some x) e)

pub label_of-two : {L : Type 0} (t a b : TreeOver L) (elem : Elem) (op : Op2) → t ≡ Two op elem a b → label_of t ≡ needed_together (label_of a) (label_of b) 0
label_of-two t a b elem op e = ap label_of e ∙ ap (λ ns. max 1 (needed ns)) (with_label-some a (with_label b (label_of b) []) ∙ ap (insert_some (label_of a)) (with_label-some b []))

pub label_of-select : {L : Type 0} (t c x y : TreeOver L) (elem : Elem) → t ≡ Select elem c x y → label_of t ≡ needed_together (label_of c) (label_of x) (label_of y)
label_of-select t c x y elem e = ap label_of e ∙ ap (λ ns. max 1 (needed ns)) (
    with_label-some c (with_label x (label_of x) (with_label y (label_of y) []))
    ∙ ap (insert_some (label_of c)) (with_label-some x (with_label y (label_of y) []) ∙ ap (insert_some (label_of x)) (with_label-some y []))
    )

pub label_of-one : {L : Type 0} (a : TreeOver L) → max 1 (needed (with_label a (label_of a) [])) ≡ needed_together (label_of a) 0 0
label_of-one a = ap (λ ns. max 1 (needed ns)) (with_label-some a [])

-- no more than there are nodes
pub label_few : {L : Type 0} (t : TreeOver L) → label_of t ≤ nodes_of t
label_few (AtLeaf l) = omega arith
label_few (Literal n) = omega arith
label_few (One op elem a) = omega (arith, label_of-one a, needed_together-few (label_of a) 0 0, label_few a)
label_few (Two op elem a b) = omega (arith, label_of-two (Two op elem a b) a b elem op refl, needed_together-few (label_of a) (label_of b) 0, label_few a, label_few b)
label_few (Cast elem from a) = least (is_computed a) (not (size_of elem == size_of from)) (needed (with_label a (label_of a) [])) (label_few a) (label_of-one a) refl
  where
    least : (b c : Bool) (n : ℕ) → label_of a ≤ nodes_of a → max 1 n ≡ needed_together (label_of a) 0 0 → is_computed a ≡ b → max (if b && c then 2 else 1) n ≤ 1 + nodes_of a
    least true true n h e f = omega (arith, needed_together-few (label_of a) 0 0, label-positive a f)
    least true false n h e f = omega (arith, needed_together-few (label_of a) 0 0)
    least false c n h e f = omega (arith, needed_together-few (label_of a) 0 0)
label_few (Move elem a) = omega (arith, label_of-one a, needed_together-few (label_of a) 0 0, label_few a)
label_few (Select elem c x y) = omega (arith, label_of-select (Select elem c x y) c x y elem refl, needed_together-few (label_of c) (label_of x) (label_of y), label_few c, label_few x, label_few y)
