-- No order of evaluation holds fewer results than the label.
use Rattle.std.proofs.Common.{◌≡◌, ℕ, zero, suc, ◌+◌, ◌-◌, ◌<◌, ◌≤◌, List, [], ◌∷◌, length, refl, sym, ap, ◌∙◌, subst, arith, Bool, true, false}
use Rattle.std.specs.Prelude.{if◌then◌else◌, map, max, nat_lt, not, ◌&&◌, ◌==◌}
use Rattle.std.proofs.lemmas.Bool.{cases_Bool, cases_lt, ltb-true, ltb-false, false≢true}
use mathlib.Core.Logic.{⊎_elim}
use Rattle.ven_base.specs.Elem.{size_of}
use Rattle.pass_plan.specs.Tree.{AtLeaf, Literal, One, Two, Cast, Move, Select, is_computed}
use Rattle.pass_plan.specs.Label.{insert_label, needed, with_label, label_of, least_label}
use Rattle.pass_plan.specs.Numbers.{inner_of}
use Rattle.pass_plan.proofs.TurnLabels.{label_positive}
use Rattle.eval_order.specs.Order.{Tree, Done}
use Rattle.eval_order.specs.Held.{held_in}

-- ---- operands that are worked out at their own pace

-- an operand: its label, what it holds at each time, and a time at which that is its label
record Item : Type 0 where
  label : ℕ
  held : ℕ → ℕ
  peak : ℕ

record IsItem (end : ℕ) (item : Item) : Type 0 where
  positive : 1 ≤ item.label
  before : item.peak < end
  reached : item.label ≤ item.held item.peak
  lasts : (s t : ℕ) → s ≤ t → 1 ≤ item.held s → 1 ≤ item.held t

abbrev Each : {A : Type 0} → (A → Type 0) → List A → Type 0
Each P [] = Unit {0}
Each P (x ∷ xs) = P x × Each P xs

abbrev all_held : List Item → ℕ → ℕ
all_held [] t = 0
all_held (x ∷ xs) t = x.held t + all_held xs t

-- at the latest peak all others are under way
record Latest (end least : ℕ) (x : Item) (xs : List Item) : Type 0 where
  time : ℕ
  before : time < end
  holds : least + length xs ≤ all_held (x ∷ xs) time
  goes_on : (t : ℕ) → time ≤ t → length (x ∷ xs) ≤ all_held (x ∷ xs) t

latest : (end least : ℕ) (x : Item) (xs : List Item) → Each (IsItem end) (x ∷ xs) → Each (λ i. least ≤ i.label) (x ∷ xs) → Latest end least x xs
latest end least x [] items low = record {
  time = x.peak;
  before = items.0.before;
  holds = let r = items.0.reached in let l = low.0 in omega arith;
  goes_on = λ t later. let h = items.0.lasts x.peak t later (let r = items.0.reached in let p = items.0.positive in omega arith) in omega arith;
}
latest end least x (y ∷ ys) items low =
    let r = latest end least y ys items.1 low.1 in
    let reached = items.0.reached in
    let positive = items.0.positive in
    let own = low.0 in
    let started : (t : ℕ) → x.peak ≤ t → 1 ≤ x.held t = λ t later. items.0.lasts x.peak t later (omega arith) in
    ⊎_elim
    (λ earlier. record {
      time = x.peak;
      before = items.0.before;
      holds = let g = r.goes_on x.peak (omega arith) in omega arith;
      goes_on = λ t later. let g = r.goes_on t (omega arith) in let s = started t later in omega arith;
    })
    (λ later. record {
      time = r.time;
      before = r.before;
      holds = let g = r.holds in let s = started r.time later in omega arith;
      goes_on = λ t after. let g = r.goes_on t after in let s = started t (omega arith) in omega arith;
    })
    (cases_lt r.time x.peak)

-- falling labels
abbrev Falling : List Item → Type 0
Falling [] = Unit {0}
Falling (x ∷ xs) = Each (λ i. i.label ≤ x.label) xs × Falling xs

labels : List Item → List ℕ
labels xs = map (λ i. i.label) xs

Each-map : {A : Type 0} (P Q : A → Type 0) (xs : List A) → ((x : A) → P x → Q x) → Each P xs → Each Q xs
Each-map P Q [] f h = tt
Each-map P Q (x ∷ xs) f h = (f x h.0, Each-map P Q xs f h.1)

Each-both : {A : Type 0} (P Q R : A → Type 0) (xs : List A) → ((x : A) → P x → Q x → R x) → Each P xs → Each Q xs → Each R xs
Each-both P Q R [] f h g = tt
Each-both P Q R (x ∷ xs) f h g = (f x h.0 g.0, Each-both P Q R xs f h.1 g.1)

-- the operands before hold one each at least, the rest what it needs
needs : (end : ℕ) (xs rest : List Item) → 1 ≤ end → Each (IsItem end) xs → Each (IsItem end) rest → Each (λ a. Each (λ i. i.label ≤ a.label) rest) xs → Falling rest
    → (time : ℕ) × (time < end) × (needed (labels rest) + length xs ≤ all_held xs time + all_held rest time)
unfolding labels
needs end [] [] one items more low falling = (0, omega arith, omega arith)
needs end (x ∷ xs) [] one items more low falling =
    let r = latest end 1 x xs items (Each-map (IsItem end) (λ i. 1 ≤ i.label) (x ∷ xs) (λ i h. h.positive) items) in
    let g = r.holds in
    (r.time, r.before, omega arith)
needs end xs (y ∷ ys) one items more low falling =
    let r = needs end (y ∷ xs) ys one (more.0, items) more.1 (falling.0, Each-map (λ a. Each (λ i. i.label ≤ a.label) (y ∷ ys)) (λ a. Each (λ i. i.label ≤ a.label) ys) xs (λ a h. h.1) low) falling.1 in
    let l = latest end y.label y xs (more.0, items) (omega arith, Each-map (λ a. Each (λ i. i.label ≤ a.label) (y ∷ ys)) (λ i. y.label ≤ i.label) xs (λ a h. h.0) low) in
    let g = r.2 in
    let k = l.holds in
    ⊎_elim (λ less. (r.0, r.1, omega arith)) (λ more'. (l.time, l.before, omega arith)) (cases_lt y.label (needed (labels ys) + 1))

-- ---- in falling order

insert_item : Item → List Item → List Item
insert_item x [] = x ∷ []
insert_item x (y ∷ ys) = if nat_lt x.label y.label then y ∷ insert_item x ys else x ∷ y ∷ ys

insert-cases : (P : List Item → Type 0) (x y : Item) (ys : List Item) → (x.label < y.label → P (y ∷ insert_item x ys)) → (y.label ≤ x.label → P (x ∷ y ∷ ys)) → P (insert_item x (y ∷ ys))
unfolding insert_item
insert-cases P x y ys later first = ⊎_elim
    (λ e. subst (λ (b : Bool). P (if b then y ∷ insert_item x ys else x ∷ y ∷ ys)) (sym e) (later (ltb-true x.label y.label e)))
    (λ e. subst (λ (b : Bool). P (if b then y ∷ insert_item x ys else x ∷ y ∷ ys)) (sym e) (first (ltb-false x.label y.label e)))
    (cases_Bool (nat_lt x.label y.label))

Each-insert : (P : Item → Type 0) (x : Item) (ys : List Item) → P x → Each P ys → Each P (insert_item x ys)
unfolding insert_item
Each-insert P x [] h g = (h, tt)
Each-insert P x (y ∷ ys) h g = insert-cases (λ r. Each P r) x y ys (λ l. (g.0, Each-insert P x ys h g.1)) (λ l. (h, g))

Falling-insert : (x : Item) (ys : List Item) → Falling ys → Falling (insert_item x ys)
unfolding insert_item
Falling-insert x [] f = (tt, tt)
Falling-insert x (y ∷ ys) f = insert-cases Falling x y ys
    (λ l. (Each-insert (λ i. i.label ≤ y.label) x ys (omega arith) f.0, Falling-insert x ys f.1))
    (λ l. ((l, Each-map (λ i. i.label ≤ y.label) (λ i. i.label ≤ x.label) ys (λ i h. omega arith) f.0), f))

held-insert : (x : Item) (ys : List Item) (t : ℕ) → all_held (insert_item x ys) t ≡ x.held t + all_held ys t
unfolding insert_item
held-insert x [] t = refl
held-insert x (y ∷ ys) t = insert-cases (λ r. all_held r t ≡ x.held t + all_held (y ∷ ys) t) x y ys (λ l. let r = held-insert x ys t in omega arith) (λ l. refl)

labels-insert : (x : Item) (ys : List Item) → labels (insert_item x ys) ≡ insert_label x.label (labels ys)
unfolding insert_item labels
labels-insert x [] = refl
labels-insert x (y ∷ ys) = go (nat_lt x.label y.label) (labels-insert x ys)
  where
    go : (b : Bool) → labels (insert_item x ys) ≡ insert_label x.label (labels ys) → labels (if b then y ∷ insert_item x ys else x ∷ y ∷ ys) ≡ (if b then y.label ∷ insert_label x.label (labels ys) else x.label ∷ y.label ∷ labels ys)
    go true h = ap (λ ls. y.label ∷ ls) h
    go false h = refl

-- the operands of a node so far, from the right: what they need and what they hold
record Operands (end : ℕ) (ls : List ℕ) (held : ℕ → ℕ) : Type 0 where
  items : List Item
  are : Each (IsItem end) items
  falling : Falling items
  labelled : labels items ≡ ls
  sum : (t : ℕ) → all_held items t ≡ held t

no_operands : (end : ℕ) → Operands end [] (λ t. 0)
unfolding labels
no_operands end = record { items = []; are = tt; falling = tt; labelled = refl; sum = λ t. refl }

reached_in : (end : ℕ) (ls : List ℕ) (held : ℕ → ℕ) → 1 ≤ end → Operands end ls held → (time : ℕ) × (time < end) × (needed ls ≤ held time)
reached_in end ls held one o =
    let r = needs end [] o.items one tt o.are tt o.falling in
    let s = o.sum r.0 in
    let e = ap needed o.labelled in
    let g = r.2 in
    (r.0, r.1, omega arith)

-- before the first step no operand is done
none_needed : (end : ℕ) (ls : List ℕ) (held : ℕ → ℕ) → end ≡ 0 → Operands end ls held → needed ls ≡ 0
unfolding labels
none_needed end ls held zero' o = go o.items o.are o.labelled
  where
    go : (items : List Item) → Each (IsItem end) items → map (λ i. i.label) items ≡ ls → needed ls ≡ 0
    go [] are e = ap needed (sym e)
    go (x ∷ xs) are e = let b = are.0.before in absurd (omega arith)

-- ---- subtrees

-- what a tree holds at least: a node that is done its own result, another what its operands hold
abbrev pub kept_in : Tree → Done → Done → ℕ → ℕ
kept_in (AtLeaf l) before after n = 0
kept_in (Literal v) before after n = 0
kept_in (One op elem a) before after n = if after n then 1 else kept_in a before after (n + 1)
kept_in (Two op elem a b) before after n = if after n then 1 else (kept_in a before after (n + 1) + kept_in b before after (n + 1 + inner_of a))
kept_in (Cast elem from a) before after n = if after n then (if before n then 1 else least_label (Cast elem from a)) else kept_in a before after (n + 1)
kept_in (Move elem a) before after n = if after n then 1 else kept_in a before after (n + 1)
kept_in (Select elem c x y) before after n = if after n then 1 else (kept_in c before after (n + 1) + (kept_in x before after (n + 1 + inner_of c) + kept_in y before after (n + 1 + inner_of c + inner_of x)))

one_kept : (was is : Bool) (least kept below held : ℕ) → 1 ≤ least → (is ≡ false → kept ≤ held) → below ≡ (if is then (if was then 1 else least) else kept) → below ≤ (if is && not false then (if was then 1 else least) else 0) + held
one_kept true true least kept below held h f e = omega arith
one_kept false true least kept below held h f e = omega arith
one_kept was false least kept below held h f e = let g = f refl in omega arith

pub least_some : (t : Tree) → 1 ≤ least_label t
least_some (AtLeaf l) = omega arith
least_some (Literal v) = omega arith
least_some (One op elem a) = omega arith
least_some (Two op elem a b) = omega arith
least_some (Cast elem from a) = go (is_computed a && not (size_of elem == size_of from))
  where
    go : (b : Bool) → 1 ≤ (if b then 2 else 1)
    go true = omega arith
    go false = omega arith
least_some (Move elem a) = omega arith
least_some (Select elem c x y) = omega arith

same_kept : (was is : Bool) (kept : ℕ) → (if is then 1 else kept) ≡ (if is then (if was then 1 else 1) else kept)
same_kept true true kept = refl
same_kept false true kept = refl
same_kept was false kept = refl

-- so is what is held
pub kept_held : (t : Tree) (before after : Done) (n : ℕ) → kept_in t before after n ≤ held_in t before after n false
kept_held (AtLeaf l) before after n = omega arith
kept_held (Literal v) before after n = omega arith
kept_held (One op elem a) before after n =
    one_kept (before n) (after n) 1 (kept_in a before after (n + 1)) _ _ (omega arith) (λ e. subst (λ (b : Bool). kept_in a before after (n + 1) ≤ held_in a before after (n + 1) b) (sym e) (kept_held a before after (n + 1))) (same_kept (before n) (after n) _)
kept_held (Move elem a) before after n =
    one_kept (before n) (after n) 1 (kept_in a before after (n + 1)) _ _ (omega arith) (λ e. subst (λ (b : Bool). kept_in a before after (n + 1) ≤ held_in a before after (n + 1) b) (sym e) (kept_held a before after (n + 1))) (same_kept (before n) (after n) _)
kept_held (Cast elem from a) before after n =
    one_kept (before n) (after n) (least_label (Cast elem from a)) (kept_in a before after (n + 1)) _ _ (least_some (Cast elem from a)) (λ e. subst (λ (b : Bool). kept_in a before after (n + 1) ≤ held_in a before after (n + 1) b) (sym e) (kept_held a before after (n + 1))) refl
kept_held (Two op elem a b) before after n =
    let j = n + 1 + inner_of a in
    one_kept (before n) (after n) 1 (kept_in a before after (n + 1) + kept_in b before after j) _ _ (omega arith)
    (λ e. subst (λ (p : Bool). kept_in a before after (n + 1) + kept_in b before after j ≤ held_in a before after (n + 1) p + held_in b before after j p) (sym e) (let r = kept_held a before after (n + 1) in let s = kept_held b before after j in omega arith)) (same_kept (before n) (after n) _)
kept_held (Select elem c x y) before after n =
    let j = n + 1 + inner_of c in
    let k = n + 1 + inner_of c + inner_of x in
    one_kept (before n) (after n) 1 (kept_in c before after (n + 1) + (kept_in x before after j + kept_in y before after k)) _ _ (omega arith)
    (λ e. subst (λ (p : Bool). kept_in c before after (n + 1) + (kept_in x before after j + kept_in y before after k) ≤ held_in c before after (n + 1) p + (held_in x before after j p + held_in y before after k p)) (sym e)
    (let r = kept_held c before after (n + 1) in let s = kept_held x before after j in let u = kept_held y before after k in omega arith)) (same_kept (before n) (after n) _)

-- ---- node after operands

-- node k comes after the operand t with number j
abbrev pub Follows : (ℕ → Done) → ℕ → ℕ → Tree → Type 0
Follows done k j t = is_computed t ≡ true → (time : ℕ) → done (suc time) k ≡ true → done time j ≡ true

-- each node comes after its computed operands
abbrev pub FollowsOperands : Tree → (ℕ → Done) → ℕ → Type 0
FollowsOperands (AtLeaf l) done n = Unit {0}
FollowsOperands (Literal v) done n = Unit {0}
FollowsOperands (One op elem a) done n = Follows done n (n + 1) a × FollowsOperands a done (n + 1)
FollowsOperands (Two op elem a b) done n = (Follows done n (n + 1) a × FollowsOperands a done (n + 1)) × (Follows done n (n + 1 + inner_of a) b × FollowsOperands b done (n + 1 + inner_of a))
FollowsOperands (Cast elem from a) done n = Follows done n (n + 1) a × FollowsOperands a done (n + 1)
FollowsOperands (Move elem a) done n = Follows done n (n + 1) a × FollowsOperands a done (n + 1)
FollowsOperands (Select elem c x y) done n =
    (Follows done n (n + 1) c × FollowsOperands c done (n + 1)) × ((Follows done n (n + 1 + inner_of c) x × FollowsOperands x done (n + 1 + inner_of c))
    × (Follows done n (n + 1 + inner_of c + inner_of x) y × FollowsOperands y done (n + 1 + inner_of c + inner_of x)))

one_of_two : (x y x' y' : ℕ) → (1 ≤ x → 1 ≤ x') → (1 ≤ y → 1 ≤ y') → 1 ≤ x + y → 1 ≤ x' + y'
one_of_two x y x' y' f g h = ⊎_elim (λ l. let r = f (omega arith) in omega arith) (λ l. let r = g (omega arith) in omega arith) (cases_lt 0 x)

one_still : (p q : Bool) (w x w' x' : ℕ) → (p ≡ true → q ≡ true) → 1 ≤ w' → (1 ≤ x → 1 ≤ x') → 1 ≤ (if p then w else x) → 1 ≤ (if q then w' else x')
one_still p true w x w' x' up one f h = one
one_still false false w x w' x' up one f h = f h
one_still true false w x w' x' up one f h = absurd (false≢true (up refl))

some_held : (p : Bool) (least : ℕ) → 1 ≤ least → 1 ≤ (if p then 1 else least)
some_held true least h = omega arith
some_held false least h = h

-- what is held stays at least one
lasts : (t : Tree) (a b a' b' : Done) (n : ℕ) → ((k : ℕ) → b k ≡ true → b' k ≡ true) → 1 ≤ kept_in t a b n → 1 ≤ kept_in t a' b' n
lasts (AtLeaf l) a b a' b' n up h = h
lasts (Literal v) a b a' b' n up h = h
lasts (One op elem x) a b a' b' n up h = one_still (b n) (b' n) 1 _ 1 _ (up n) (omega arith) (lasts x a b a' b' (n + 1) up) h
lasts (Two op elem x y) a b a' b' n up h =
    one_still (b n) (b' n) 1 _ 1 _ (up n) (omega arith) (one_of_two _ _ _ _ (lasts x a b a' b' (n + 1) up) (lasts y a b a' b' (n + 1 + inner_of x) up)) h
lasts (Cast elem from x) a b a' b' n up h = one_still (b n) (b' n) _ _ _ _ (up n) (some_held (a' n) (least_label (Cast elem from x)) (least_some (Cast elem from x))) (lasts x a b a' b' (n + 1) up) h
lasts (Move elem x) a b a' b' n up h = one_still (b n) (b' n) 1 _ 1 _ (up n) (omega arith) (lasts x a b a' b' (n + 1) up) h
lasts (Select elem c x y) a b a' b' n up h =
    one_still (b n) (b' n) 1 _ 1 _ (up n) (omega arith)
    (one_of_two _ _ _ _ (lasts c a b a' b' (n + 1) up) (one_of_two _ _ _ _ (lasts x a b a' b' (n + 1 + inner_of c) up) (lasts y a b a' b' (n + 1 + inner_of c + inner_of x) up))) h

nothing_held : (t : Tree) (a b : Done) (n : ℕ) → is_computed t ≡ false → kept_in t a b n ≡ 0
nothing_held (AtLeaf l) a b n h = refl
nothing_held (Literal v) a b n h = refl
nothing_held (One op elem x) a b n h = cc
nothing_held (Two op elem x y) a b n h = cc
nothing_held (Cast elem from x) a b n h = cc
nothing_held (Move elem x) a b n h = cc
nothing_held (Select elem c x y) a b n h = cc

-- ---- orders

module _ (done : ℕ → Done) (none : (k : ℕ) → done 0 k ≡ false) (grows : (time k : ℕ) → done time k ≡ true → done (suc time) k ≡ true) where
  clash : (b : Bool) → b ≡ true → b ≡ false → ⊥
  clash b e f = cc

  grows_by : (s d k : ℕ) → done s k ≡ true → done (s + d) k ≡ true
  grows_by s zero k h = let e : s ≡ s + 0 = omega arith in subst (λ (t : ℕ). done t k ≡ true) e h
  grows_by s (suc d) k h = let e : suc (s + d) ≡ s + suc d = omega arith in subst (λ (t : ℕ). done t k ≡ true) e (grows (s + d) k (grows_by s d k h))

  pub grows_to : (s t k : ℕ) → s ≤ t → done s k ≡ true → done t k ≡ true
  grows_to s t k l h = let e : s + (t - s) ≡ t = omega arith in subst (λ (u : ℕ). done u k ≡ true) e (grows_by s (t - s) k h)

  -- the step at which a node is done
  pub step_of : (k end : ℕ) → done end k ≡ true → (t : ℕ) × (t < end) × (done t k ≡ false) × (done (suc t) k ≡ true)
  step_of k zero h = absurd (clash (done 0 k) h (none k))
  step_of k (suc end) h = ⊎_elim (λ e. let r = step_of k end e in (r.0, omega (arith, r.1), r.2, r.3)) (λ e. (end, omega arith, e, h)) (cases_Bool (done end k))

  not_yet : (s t k : ℕ) → s ≤ t → done t k ≡ false → done s k ≡ false
  not_yet s t k l h = ⊎_elim (λ e. absurd (clash (done t k) (grows_to s t k l e) h)) (λ e. e) (cases_Bool (done s k))

  -- what a subtree holds at the step after a time
  kept_at : Tree → ℕ → ℕ → ℕ
  kept_at tree n time = kept_in tree (done time) (done (suc time)) n

  Reaches : Tree → ℕ → ℕ → Type 0
  Reaches tree n end = (time : ℕ) × (time < end) × (label_of tree ≤ kept_at tree n time)

  -- one more operand
  add_operand : (end n : ℕ) (x : Tree) (ls : List ℕ) (held : ℕ → ℕ) → (is_computed x ≡ true → Reaches x n end) → Operands end ls held → Operands end (with_label x (label_of x) ls) (λ t. kept_at x n t + held t)
  unfolding Reaches kept_at
  add_operand end n x ls held reach o =
      ⊎_elim
      (λ e. let r = reach e in
      let item : Item = record { label = label_of x; held = kept_at x n; peak = r.0 } in
      let is : IsItem end item = record { positive = label_positive x e; before = r.1; reached = r.2; lasts = λ s t l. lasts x (done s) (done (suc s)) (done t) (done (suc t)) n (λ k. grows_to (suc s) (suc t) k (omega arith)) } in
      subst (λ (b : Bool). Operands end (if b then insert_label (label_of x) ls else ls) (λ t. kept_at x n t + held t)) (sym e)
      (record {
        items = insert_item item o.items;
        are = Each-insert (IsItem end) item o.items is o.are;
        falling = Falling-insert item o.items o.falling;
        labelled = labels-insert item o.items ∙ ap (insert_label (label_of x)) o.labelled;
        sum = λ t. held-insert item o.items t ∙ ap (λ k. kept_at x n t + k) (o.sum t);
      }))
      (λ e. subst (λ (b : Bool). Operands end (if b then insert_label (label_of x) ls else ls) (λ t. kept_at x n t + held t)) (sym e)
      (record { items = o.items; are = o.are; falling = o.falling; labelled = o.labelled; sum = λ t. let z = nothing_held x (done t) (done (suc t)) n e in let s = o.sum t in omega arith }))
      (cases_Bool (is_computed x))

  -- a node that holds what its operands hold until its step, and then what it needs itself
  node_reaches : (n end least : ℕ) (tree : Tree) (ls : List ℕ) (held : ℕ → ℕ) (t : ℕ) → t < end → label_of tree ≡ max least (needed ls) → least ≤ kept_at tree n t → ((s : ℕ) → s < t → kept_at tree n s ≡ held s) → Operands t ls held → Reaches tree n end
  unfolding Reaches kept_at
  node_reaches n end least tree ls held t below label own before operands =
      ⊎_elim
      (λ positive. let r = reached_in t ls held positive operands in
      let same = before r.0 r.1 in
      let g = r.2 in
      ⊎_elim (λ l. (r.0, omega (arith, r.1), omega arith)) (λ l. (t, below, omega arith)) (cases_lt least (needed ls)))
      (λ zero'. let z = none_needed t ls held (omega arith) operands in (t, below, omega arith))
      (cases_lt 0 t)

  -- a node of one operand
  reach_one : (n end least : ℕ) (tree a : Tree) → ((time : ℕ) → kept_at tree n time ≡ (if done (suc time) n then (if done time n then 1 else least) else kept_at a (n + 1) time)) → label_of tree ≡ max least (needed (with_label a (label_of a) []))
      → done end n ≡ true → ((t : ℕ) → done (suc t) n ≡ true → is_computed a ≡ true → Reaches a (n + 1) t) → Reaches tree n end
  unfolding kept_at
  reach_one n end least tree a kept label h below =
      let t = step_of n end h in
      let o = add_operand t.0 (n + 1) a [] (λ s. 0) (below t.0 t.3) (no_operands t.0) in
      node_reaches n end least tree (with_label a (label_of a) []) (λ s. kept_at a (n + 1) s + 0) t.0 t.1 label
      (let k = kept t.0 in
      let e = ap (λ (p : Bool). if p then (if done t.0 n then 1 else least) else kept_at a (n + 1) t.0) t.3 in
      let f = ap (λ (p : Bool). if p then 1 else least) t.2 in omega arith)
      (λ s l. let k = kept s in
      let e = ap (λ (p : Bool). if p then (if done s n then 1 else least) else kept_at a (n + 1) s) (not_yet (suc s) t.0 n l t.2) in omega arith)
      o

  reach : (tree : Tree) (n end : ℕ) → FollowsOperands tree done n → is_computed tree ≡ true → done end n ≡ true → Reaches tree n end
  unfolding kept_at
  reach (AtLeaf l) n end follows inner h = absurd (false≢true inner)
  reach (Literal v) n end follows inner h = absurd (false≢true inner)
  reach (One op elem a) n end follows inner h =
      reach_one n end 1 (One op elem a) a (λ time. same_kept (done time n) (done (suc time) n) (kept_at a (n + 1) time)) refl h (λ t e c. reach a (n + 1) t follows.1 c (follows.0 c t e))
  reach (Move elem a) n end follows inner h =
      reach_one n end 1 (Move elem a) a (λ time. same_kept (done time n) (done (suc time) n) (kept_at a (n + 1) time)) refl h (λ t e c. reach a (n + 1) t follows.1 c (follows.0 c t e))
  reach (Cast elem from a) n end follows inner h =
      reach_one n end (least_label (Cast elem from a)) (Cast elem from a) a (λ time. refl) refl h (λ t e c. reach a (n + 1) t follows.1 c (follows.0 c t e))
  reach (Two op elem a b) n end follows inner h =
      let t = step_of n end h in
      let j = n + 1 + inner_of a in
      let o2 = add_operand t.0 j b [] (λ s. 0) (λ c. reach b j t.0 follows.1.1 c (follows.1.0 c t.0 t.3)) (no_operands t.0) in
      let o1 = add_operand t.0 (n + 1) a (with_label b (label_of b) []) (λ s. kept_at b j s + 0) (λ c. reach a (n + 1) t.0 follows.0.1 c (follows.0.0 c t.0 t.3)) o2 in
      node_reaches n end 1 (Two op elem a b) (with_label a (label_of a) (with_label b (label_of b) [])) (λ s. kept_at a (n + 1) s + (kept_at b j s + 0)) t.0 t.1 refl
      (let e = ap (λ (p : Bool). if p then 1 else (kept_at a (n + 1) t.0 + kept_at b j t.0)) t.3 in omega arith)
      (λ s l. let e = ap (λ (p : Bool). if p then 1 else (kept_at a (n + 1) s + kept_at b j s)) (not_yet (suc s) t.0 n l t.2) in omega arith)
      o1
  reach (Select elem c x y) n end follows inner h =
      let t = step_of n end h in
      let j = n + 1 + inner_of c in
      let k = n + 1 + inner_of c + inner_of x in
      let ls3 = with_label y (label_of y) [] in
      let ls2 = with_label x (label_of x) ls3 in
      let o3 = add_operand t.0 k y [] (λ s. 0) (λ e. reach y k t.0 follows.1.1.1 e (follows.1.1.0 e t.0 t.3)) (no_operands t.0) in
      let o2 = add_operand t.0 j x ls3 (λ s. kept_at y k s + 0) (λ e. reach x j t.0 follows.1.0.1 e (follows.1.0.0 e t.0 t.3)) o3 in
      let o1 = add_operand t.0 (n + 1) c ls2 (λ s. kept_at x j s + (kept_at y k s + 0)) (λ e. reach c (n + 1) t.0 follows.0.1 e (follows.0.0 e t.0 t.3)) o2 in
      node_reaches n end 1 (Select elem c x y) (with_label c (label_of c) ls2) (λ s. kept_at c (n + 1) s + (kept_at x j s + (kept_at y k s + 0))) t.0 t.1 refl
      (let e = ap (λ (p : Bool). if p then 1 else (kept_at c (n + 1) t.0 + (kept_at x j t.0 + kept_at y k t.0))) t.3 in omega arith)
      (λ s l. let e = ap (λ (p : Bool). if p then 1 else (kept_at c (n + 1) s + (kept_at x j s + kept_at y k s))) (not_yet (suc s) t.0 n l t.2) in omega arith)
      o1

  pub holds_label : (tree : Tree) (n end : ℕ) → FollowsOperands tree done n → is_computed tree ≡ true → done end n ≡ true → (time : ℕ) × (time < end) × (label_of tree ≤ held_in tree (done time) (done (suc time)) n false)
  unfolding Reaches kept_at
  holds_label tree n end follows inner h =
      let r = reach tree n end follows inner h in
      let k = kept_held tree (done r.0) (done (suc r.0)) n in
      let g = r.2 in
      (r.0, r.1, omega arith)
