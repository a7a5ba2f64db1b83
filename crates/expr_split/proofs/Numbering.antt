-- Numbering the leaves of a tree, operand after operand.
use Rattle.std.proofs.Common.{◌≡◌, ◌≢◌, ℕ, ◌+◌, ◌<◌, ◌≤◌, max, List, [], ◌∷◌, ◌++◌, length, get_or, refl, sym, ap, ◌∙◌, subst, arith, append_assoc, length-append, All}
use Rattle.std.specs.Prelude.{ℤ, AllPairs}
use Rattle.std.proofs.lemmas.List.{append-nil, get_or_at, get_or_append_left, get_or_default}
use Rattle.std.proofs.lemmas.List.Elements.{All-nil, All-cons, All-head, All-tail, All-append, All-weaker}
use Rattle.std.proofs.lemmas.List.Quantifiers.{all_pairs_push}
use Rattle.ven_base.specs.declared.elem.Elem.{Elem}
use Rattle.ven_base.specs.declared.ops.Op1.{Op1}
use Rattle.ven_base.specs.declared.ops.Op2.{Op2}
use Rattle.pass_plan.specs.declared.leaf.Leaf.{Leaf}
use Rattle.pass_plan.specs.Tree.{TreeOver, AtLeaf, Literal, One, Two, Cast, Move, Select, leaves_of, with_leaves}
use Rattle.pass_plan.specs.Pass.{no_leaf}
use Rattle.pass_plan.specs.Sound.{CountUp, IsNumbering}
use Rattle.expr_split.specs.Numbers.{NumbersOnto}

-- the leaf stands at this place and at none before it, or the place is the end and it stands nowhere
pub record IsFirstPlace (leaf : Leaf) (leaves : List Leaf) (place : ℕ) : Type 0 where
  pub within : place ≤ length leaves
  pub before : (k : ℕ) → k < place → get_or leaves k no_leaf ≢ leaf
  pub here : place < length leaves → get_or leaves place no_leaf ≡ leaf

CountUp-append : (xs ys : List ℕ) (a b c : ℕ) → CountUp xs a b → CountUp ys b c → CountUp (xs ++ ys) a c
CountUp-append [] ys a b c h g = subst (λ n. CountUp ys n c) (sym h) g
CountUp-append (x ∷ xs) ys a b c h g = (h.0, CountUp-append xs ys (max a (x + 1)) b c h.1 g)

pub all_left : {X : Type 0} (P : X → Type 0) (xs ys : List X) → All P (xs ++ ys) → All P xs
all_left P xs ys h = λ k d low. subst P (get_or_append_left xs ys d k low) (h k d (omega (arith, length-append xs ys)))

pub all_right : {X : Type 0} (P : X → Type 0) (xs ys : List X) → All P (xs ++ ys) → All P ys
all_right P [] ys h = h
all_right P (x ∷ xs) ys h = all_right P xs ys (All-tail P x (xs ++ ys) h)

with_leaves-same : {L M : Type 0} (t : TreeOver L) (f g : L → M) → All (λ l. f l ≡ g l) (leaves_of t) → with_leaves t f ≡ with_leaves t g
with_leaves-same {L} (AtLeaf l) f g h = ap AtLeaf (All-head (λ (l : L). f l ≡ g l) l [] h)
with_leaves-same (Literal n) f g h = refl
with_leaves-same (One op elem a) f g h = ap (One op elem) (with_leaves-same a f g h)
with_leaves-same {L} (Two op elem a b) f g h =
    let P = λ (l : L). f l ≡ g l in
    let p = with_leaves-same a f g (all_left P (leaves_of a) (leaves_of b) h) in
    let q = with_leaves-same b f g (all_right P (leaves_of a) (leaves_of b) h) in
    λ k. Two op elem (p k) (q k)
with_leaves-same (Cast elem from a) f g h = ap (Cast elem from) (with_leaves-same a f g h)
with_leaves-same (Move elem a) f g h = ap (Move elem) (with_leaves-same a f g h)
with_leaves-same {L} (Select elem c x y) f g h =
    let P = λ (l : L). f l ≡ g l in
    let rest = all_right P (leaves_of c) (leaves_of x ++ leaves_of y) h in
    let p = with_leaves-same c f g (all_left P (leaves_of c) (leaves_of x ++ leaves_of y) h) in
    let q = with_leaves-same x f g (all_left P (leaves_of x) (leaves_of y) rest) in
    let r = with_leaves-same y f g (all_right P (leaves_of x) (leaves_of y) rest) in
    λ k. Select elem (p k) (q k) (r k)

abbrev at : List Leaf → ℕ → Leaf
at leaves k = get_or leaves k no_leaf

-- more leaves behind change nothing
record Later (t : TreeOver Leaf) (after : List Leaf) (n : TreeOver ℕ) : Type 0 where
  is : with_leaves n (at after) ≡ t
  within : All (λ k. k < length after) (leaves_of n)

later : (t : TreeOver Leaf) (before mid after new : List Leaf) (n : TreeOver ℕ) → NumbersOnto t before mid n → after ≡ mid ++ new → Later t after n
later t before mid after new n h is = record {
  is = with_leaves-same n (at after) (at mid) (All-weaker (λ k. k < length mid) (λ k. at after k ≡ at mid k) (λ k low. ap (λ ls. at ls k) is ∙ get_or_append_left mid new no_leaf k low) (leaves_of n) h.within) ∙ h.is;
  within = All-weaker (λ k. k < length mid) (λ k. k < length after) (λ k low. omega (arith, low, ap length is, length-append mid new)) (leaves_of n) h.within;
}

pub onto_there : (leaf : Leaf) (leaves : List Leaf) (place : ℕ) → IsFirstPlace leaf leaves place → ¬ (place ≡ length leaves) → NumbersOnto (AtLeaf leaf) leaves leaves (AtLeaf place)
onto_there leaf leaves place h other =
    let low : place < length leaves = below place (length leaves) h.within other in
    record {
      new = [];
      after_is = sym (append-nil leaves);
      is = ap AtLeaf (h.here low);
      counted = (omega arith, omega arith);
      within = All-cons (λ k. k < length leaves) place [] low (All-nil (λ k. k < length leaves));
      once = λ d. d;
      few = omega arith;
    }
  where
    below : (a b : ℕ) → a ≤ b → ¬ (a ≡ b) → a < b
    below a b h n = grind arith

pub onto_new : (leaf : Leaf) (leaves after : List Leaf) (place : ℕ) → IsFirstPlace leaf leaves place → place ≡ length leaves → after ≡ leaves ++ leaf ∷ [] → NumbersOnto (AtLeaf leaf) leaves after (AtLeaf place)
onto_new leaf leaves after place h same is =
    let count : length after ≡ length leaves + 1 = omega (arith, ap length is, length-append leaves (leaf ∷ [])) in
    record {
      new = leaf ∷ [];
      after_is = is;
      is = ap AtLeaf (ap (λ ls. at ls place) is ∙ get_or_at leaves leaf [] no_leaf place (sym same));
      counted = (omega arith, omega arith);
      within = All-cons (λ k. k < length after) place [] (omega arith) (All-nil (λ k. k < length after));
      once = λ d. subst (λ (ls : List Leaf). AllPairs (λ a b. a ≢ b) ls) (sym is) (all_pairs_push (λ (a b : Leaf). a ≢ b) leaves leaf d (not_there h same));
      few = omega arith;
    }
  where
    not_there : IsFirstPlace leaf leaves place → place ≡ length leaves → All (λ (a : Leaf). a ≢ leaf) leaves
    not_there h same = λ k d low. λ e. h.before k (omega arith) (get_or_default leaves k no_leaf d low ∙ e)

pub onto_literal : (n : ℤ) (leaves : List Leaf) → NumbersOnto (Literal n) leaves leaves (Literal n)
onto_literal n leaves = record { new = []; after_is = sym (append-nil leaves); is = refl; counted = refl; within = All-nil (λ k. k < length leaves); once = λ d. d; few = omega arith }

pub onto_one : (op : Op1) (elem : Elem) (t : TreeOver Leaf) (before after : List Leaf) (n : TreeOver ℕ) → NumbersOnto t before after n → NumbersOnto (One op elem t) before after (One op elem n)
onto_one op elem t before after n h = record { new = h.new; after_is = h.after_is; is = ap (One op elem) h.is; counted = h.counted; within = h.within; once = h.once; few = omega (arith, h.few) }

pub onto_cast : (elem from : Elem) (t : TreeOver Leaf) (before after : List Leaf) (n : TreeOver ℕ) → NumbersOnto t before after n → NumbersOnto (Cast elem from t) before after (Cast elem from n)
onto_cast elem from t before after n h = record { new = h.new; after_is = h.after_is; is = ap (Cast elem from) h.is; counted = h.counted; within = h.within; once = h.once; few = omega (arith, h.few) }

pub onto_move : (elem : Elem) (t : TreeOver Leaf) (before after : List Leaf) (n : TreeOver ℕ) → NumbersOnto t before after n → NumbersOnto (Move elem t) before after (Move elem n)
onto_move elem t before after n h = record { new = h.new; after_is = h.after_is; is = ap (Move elem) h.is; counted = h.counted; within = h.within; once = h.once; few = omega (arith, h.few) }

pub onto_two : (op : Op2) (elem : Elem) (s t : TreeOver Leaf) (before mid after : List Leaf) (m n : TreeOver ℕ) → NumbersOnto s before mid m → NumbersOnto t mid after n → NumbersOnto (Two op elem s t) before after (Two op elem m n)
onto_two op elem s t before mid after m n h g =
    let first = later s before mid after g.new m h g.after_is in
    record {
      new = h.new ++ g.new;
      after_is = g.after_is ∙ ap (λ ls. ls ++ g.new) h.after_is ∙ append_assoc before h.new g.new;
      is = (λ k. Two op elem (first.is k) (g.is k));
      counted = CountUp-append (leaves_of m) (leaves_of n) (length before) (length mid) (length after) h.counted g.counted;
      within = All-append (λ k. k < length after) (leaves_of m) (leaves_of n) first.within g.within;
      once = λ d. g.once (h.once d);
      few = omega (arith, h.few, g.few);
    }

pub onto_select : (elem : Elem) (s t u : TreeOver Leaf) (before one two after : List Leaf) (m n o : TreeOver ℕ) → NumbersOnto s before one m → NumbersOnto t one two n → NumbersOnto u two after o
    → NumbersOnto (Select elem s t u) before after (Select elem m n o)
onto_select elem s t u before one two after m n o h g k =
    let all : after ≡ one ++ (g.new ++ k.new) = k.after_is ∙ ap (λ ls. ls ++ k.new) g.after_is ∙ append_assoc one g.new k.new in
    let first = later s before one after (g.new ++ k.new) m h all in
    let second = later t one two after k.new n g k.after_is in
    record {
      new = h.new ++ (g.new ++ k.new);
      after_is = all ∙ ap (λ ls. ls ++ (g.new ++ k.new)) h.after_is ∙ append_assoc before h.new (g.new ++ k.new);
      is = (λ i. Select elem (first.is i) (second.is i) (k.is i));
      counted = CountUp-append (leaves_of m) (leaves_of n ++ leaves_of o) (length before) (length one) (length after) h.counted (CountUp-append (leaves_of n) (leaves_of o) (length one) (length two) (length after) g.counted k.counted);
      within = All-append (λ k. k < length after) (leaves_of m) (leaves_of n ++ leaves_of o) first.within (All-append (λ k. k < length after) (leaves_of n) (leaves_of o) second.within k.within);
      once = λ d. k.once (g.once (h.once d));
      few = omega (arith, h.few, g.few, k.few);
    }

-- onto no leaves, that is a numbering
pub onto_nothing : (t : TreeOver Leaf) (after : List Leaf) (n : TreeOver ℕ) → NumbersOnto t [] after n → IsNumbering t after n
onto_nothing t after n h = record { is = h.is; counted = h.counted; once = h.once (λ i j d below low. absurd (omega arith)) }

-- the same under equal names
pub onto_as : (s t : TreeOver Leaf) (before after : List Leaf) (m n : TreeOver ℕ) → s ≡ t → m ≡ n → NumbersOnto s before after m → NumbersOnto t before after n
onto_as s t before after m n e f h = subst (λ (x : TreeOver Leaf). NumbersOnto x before after n) e (subst (λ (x : TreeOver ℕ). NumbersOnto s before after x) f h)
