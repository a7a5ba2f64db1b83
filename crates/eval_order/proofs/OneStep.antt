-- What one more node changes: its computed operands' results are held no more, and its own is.
use Rattle.std.proofs.Common.{◌≡◌, ◌≢◌, ◌⊎◌, ℕ, zero, suc, ◌+◌, ◌<◌, ◌≤◌, List, [], ◌∷◌, length, inl, inr, refl, sym, ap, ◌∙◌, subst, arith, Bool, true, false}
use Rattle.std.specs.Prelude.{if◌then◌else◌}
use Rattle.std.proofs.lemmas.Bool.{cases_Bool, cases_eq, cases_lt, false≢true}
use mathlib.Core.Logic.{⊎_elim}
use Rattle.pass_plan.specs.Tree.{AtLeaf, Literal, One, Two, Cast, Move, Select, is_computed, operands_of, nodes_of}
use Rattle.pass_plan.specs.Label.{least_label}
use Rattle.pass_plan.specs.Numbers.{Node, inner_of, node_at, nodes_from}
use Rattle.pass_plan.proofs.Nodes.{nodes_all, nodes_whole}
use Rattle.pass_plan.proofs.Each.{Each}
use Rattle.eval_order.specs.Order.{Tree, Done, AreDone}
use Rattle.eval_order.specs.Held.{held_here, held_in}
use Rattle.eval_order.proofs.Nodes.{Each-left, Each-right, EachNumber, each_number, one_if, computed_in, length-turns, nodes_positive, nodes_in, inner_in, nodes_below, inner_below, no_inner}

abbrev pub held_all : List Tree → Done → Done → ℕ → Bool → ℕ
held_all [] before after n above = 0
held_all (u ∷ us) before after n above = held_in u before after n above + held_all us before after (n + inner_of u) above

pub held_whole : (t : Tree) (before after : Done) (n : ℕ) (above : Bool) → is_computed t ≡ true → held_in t before after n above ≡ held_here t (before n) (after n) above + held_all (operands_of t) before after (n + 1) (after n)
held_whole (AtLeaf l) before after n above h = absurd (false≢true h)
held_whole (Literal v) before after n above h = absurd (false≢true h)
held_whole (One op elem a) before after n above h = omega arith
held_whole (Two op elem a b) before after n above h = omega arith
held_whole (Cast elem from a) before after n above h = omega arith
held_whole (Move elem a) before after n above h = omega arith
held_whole (Select elem c x y) before after n above h = omega arith

pub held_none : (t : Tree) (before after : Done) (n : ℕ) (above : Bool) → is_computed t ≡ false → held_in t before after n above ≡ 0
held_none (AtLeaf l) before after n above h = refl
held_none (Literal v) before after n above h = refl
held_none (One op elem a) before after n above h = cc
held_none (Two op elem a b) before after n above h = cc
held_none (Cast elem from a) before after n above h = cc
held_none (Move elem a) before after n above h = cc
held_none (Select elem c x y) before after n above h = cc

-- a number outside of a range
abbrev Out : ℕ → ℕ → ℕ → Type 0
Out k n many = (k < n) ⊎ (n + many ≤ k)

module _ (S S' was : Done) (k : ℕ) (others : (j : ℕ) → j ≢ k → S' j ≡ S j) (others_was : (j : ℕ) → j ≢ k → was j ≡ S j) (new : S k ≡ false) (now : S' k ≡ true) where
  here_same : (t : Tree) (n : ℕ) (above : Bool) → n ≢ k → held_here t (was n) (S' n) above ≡ held_here t (S n) (S n) above
  here_same t n above h = λ i. held_here t (others_was n h i) (others n h i) above

  out_all : (fuel : ℕ) → ((u : Tree) (m : ℕ) (above : Bool) → nodes_of u ≤ fuel → Out k m (inner_of u) → held_in u was S' m above ≡ held_in u S S m above)
      → (us : List Tree) (m : ℕ) (above : Bool) → nodes_in us ≤ fuel → Out k m (inner_in us) → held_all us was S' m above ≡ held_all us S S m above
  out_all fuel ih [] m above fit out = refl
  out_all fuel ih (u ∷ us) m above fit out =
      let first = ih u m above (omega arith) (⊎_elim (λ l. inl l) (λ h. inr (omega arith)) out) in
      let rest = out_all fuel ih us (m + inner_of u) above (omega arith) (⊎_elim (λ l. inl (omega arith)) (λ h. inr (omega arith)) out) in
      omega arith

  out_at : (fuel : ℕ) (u : Tree) (m : ℕ) (above : Bool) → nodes_of u ≤ fuel → Out k m (inner_of u) → held_in u was S' m above ≡ held_in u S S m above
  out_at zero u m above fit out = let p = nodes_positive u in absurd (omega arith)
  out_at (suc fuel) u m above fit out =
      ⊎_elim
      (λ inner.
      let many = inner_below u inner in
      let nodes = nodes_below u inner in
      let differ : m ≢ k = λ e. ⊎_elim (λ l. omega arith) (λ h. omega arith) out in
      let here = here_same u m above differ in
      let below = out_all fuel (λ v j b fit o. out_at fuel v j b fit o) (operands_of u) (m + 1) (S' m) (omega arith) (⊎_elim (λ l. inl (omega arith)) (λ h. inr (omega arith)) out) in
      let same = ap (held_all (operands_of u) S S (m + 1)) (others m differ) in
      let one = held_whole u was S' m above inner in
      let two = held_whole u S S m above inner in
      omega arith)
      (λ plain. held_none u was S' m above plain ∙ sym (held_none u S S m above plain))
      (cases_Bool (is_computed u))

  out_trees : (us : List Tree) (m : ℕ) (above : Bool) → Out k m (inner_in us) → held_all us was S' m above ≡ held_all us S S m above
  out_trees us m above out = out_all (nodes_in us) (λ u j b fit o. out_at (nodes_in us) u j b fit o) us m above (omega arith) out

  -- once the node above is done, the results of done operands are held no more
  rooted : (u : Tree) (m : ℕ) → (is_computed u ≡ true → S m ≡ true) → Out k m (inner_of u) → held_in u was S' m true + (if is_computed u then 1 else 0) ≡ held_in u S S m false
  rooted u m root out =
      ⊎_elim
      (λ inner.
      let many = inner_below u inner in
      let differ : m ≢ k = λ e. ⊎_elim (λ l. omega arith) (λ h. omega arith) out in
      let below = out_trees (operands_of u) (m + 1) (S' m) (⊎_elim (λ l. inl (omega arith)) (λ h. inr (omega arith)) out) in
      let same = ap (held_all (operands_of u) S S (m + 1)) (others m differ) in
      let one = held_whole u was S' m true inner in
      let two = held_whole u S S m false inner in
      let none = nothing_above u (was m) (S' m) in
      let own = ap (λ b. held_here u b b false) (root inner) in
      let count = ap one_if inner in
      omega arith)
      (λ plain. let one = held_none u was S' m true plain in let two = held_none u S S m false plain in let count = ap one_if plain in omega arith)
      (cases_Bool (is_computed u))
    where
      nothing_above : (u : Tree) (was is : Bool) → held_here u was is true ≡ 0
      nothing_above u was true = refl
      nothing_above u was false = refl

  rooted_all : (us : List Tree) (m : ℕ) → EachNumber (λ j u. is_computed u ≡ true → S j ≡ true) us m → Out k m (inner_in us) → held_all us was S' m true + computed_in us ≡ held_all us S S m false
  rooted_all [] m roots out = refl
  rooted_all (u ∷ us) m roots out =
      let first = rooted u m roots.0 (⊎_elim (λ l. inl l) (λ h. inr (omega arith)) out) in
      let rest = rooted_all us (m + inner_of u) roots.1 (⊎_elim (λ l. inl (omega arith)) (λ h. inr (omega arith)) out) in
      omega arith

-- ---- sets that have the operands of their nodes

abbrev pub IsClosed : Done → List Node → Type 0
IsClosed S nodes = Each (λ x. S x.number ≡ true → AreDone S x.turns) nodes

module _ (S : Done) where
  down_all : (fuel : ℕ) → ((u : Tree) (m : ℕ) → nodes_of u ≤ fuel → (is_computed u ≡ true → S m ≡ true) → IsClosed S (nodes_from u m) → (j : ℕ) → m ≤ j → j < m + inner_of u → S j ≡ true)
      → (us : List Tree) (m : ℕ) → nodes_in us ≤ fuel → EachNumber (λ j u. is_computed u ≡ true → S j ≡ true) us m → IsClosed S (nodes_all us m) → (j : ℕ) → m ≤ j → j < m + inner_in us → S j ≡ true
  down_all fuel ih [] m fit roots closed j low high = absurd (omega arith)
  down_all fuel ih (u ∷ us) m fit roots closed j low high =
      ⊎_elim
      (λ here. ih u m (omega arith) roots.0 (Each-left (λ x. S x.number ≡ true → AreDone S x.turns) (nodes_from u m) (nodes_all us (m + inner_of u)) closed) j low here)
      (λ later. down_all fuel ih us (m + inner_of u) (omega arith) roots.1 (Each-right (λ x. S x.number ≡ true → AreDone S x.turns) (nodes_from u m) (nodes_all us (m + inner_of u)) closed) j later (omega arith))
      (cases_lt j (m + inner_of u))

  -- with a node all below it is done
  pub down : (fuel : ℕ) (u : Tree) (m : ℕ) → nodes_of u ≤ fuel → (is_computed u ≡ true → S m ≡ true) → IsClosed S (nodes_from u m) → (j : ℕ) → m ≤ j → j < m + inner_of u → S j ≡ true
  down zero u m fit root closed j low high = let p = nodes_positive u in absurd (omega arith)
  down (suc fuel) u m fit root closed j low high =
      ⊎_elim
      (λ inner.
      let whole = subst (λ (nodes : List Node). IsClosed S nodes) (nodes_whole u m inner) closed in
      let roots = each_number S (operands_of u) 0 (m + 1) (whole.0 (root inner)) in
      let many = inner_below u inner in
      let nodes = nodes_below u inner in
      ⊎_elim (λ e. subst (λ (i : ℕ). S i ≡ true) (sym e) (root inner)) (λ n. down_all fuel (λ v i f r c. down fuel v i f r c) (operands_of u) (m + 1) (omega arith) roots whole.1 j (low_next m j low n) (omega arith)) (cases_eq j m))
      (λ plain. let none = no_inner u plain in absurd (omega arith))
      (cases_Bool (is_computed u))
    where
      low_next : (m j : ℕ) → m ≤ j → j ≢ m → m + 1 ≤ j
      low_next m j l n = omega arith

-- ---- one more node

module _ (S S' was : Done) (k : ℕ) (others : (j : ℕ) → j ≢ k → S' j ≡ S j) (others_was : (j : ℕ) → j ≢ k → was j ≡ S j) (new : S k ≡ false) (now : S' k ≡ true) (node : Node) (ready : AreDone S node.turns) where
  -- what the node itself holds at the place
  abbrev own : ℕ
  own = if was k then 1 else node.least

  IsThat : Node → Type 0
  IsThat x = x.number ≡ k → node ≡ x

  inside_all : (fuel : ℕ) → ((u : Tree) (m : ℕ) → nodes_of u ≤ fuel → IsClosed S (nodes_from u m) → Each IsThat (nodes_from u m) → m ≤ k → k < m + inner_of u → held_in u was S' m false + length node.turns ≡ held_in u S S m false + own)
      → (us : List Tree) (m : ℕ) → nodes_in us ≤ fuel → IsClosed S (nodes_all us m) → Each IsThat (nodes_all us m) → m ≤ k → k < m + inner_in us → held_all us was S' m false + length node.turns ≡ held_all us S S m false + own
  inside_all fuel ih [] m fit closed that low high = absurd (omega arith)
  inside_all fuel ih (u ∷ us) m fit closed that low high =
      let closed_u = Each-left (λ x. S x.number ≡ true → AreDone S x.turns) (nodes_from u m) (nodes_all us (m + inner_of u)) closed in
      let closed_us = Each-right (λ x. S x.number ≡ true → AreDone S x.turns) (nodes_from u m) (nodes_all us (m + inner_of u)) closed in
      let that_u = Each-left IsThat (nodes_from u m) (nodes_all us (m + inner_of u)) that in
      let that_us = Each-right IsThat (nodes_from u m) (nodes_all us (m + inner_of u)) that in
      ⊎_elim
      (λ here. let first = ih u m (omega arith) closed_u that_u low here in let rest = out_trees S S' was k others others_was new now us (m + inner_of u) false (inl here) in omega arith)
      (λ later. let first = out_at S S' was k others others_was new now (nodes_of u) u m false (omega arith) (inr later) in let rest = inside_all fuel ih us (m + inner_of u) (omega arith) closed_us that_us later (omega arith) in omega arith)
      (cases_lt k (m + inner_of u))

  inside : (fuel : ℕ) (u : Tree) (m : ℕ) → nodes_of u ≤ fuel → IsClosed S (nodes_from u m) → Each IsThat (nodes_from u m) → m ≤ k → k < m + inner_of u → held_in u was S' m false + length node.turns ≡ held_in u S S m false + own
  unfolding IsThat
  inside zero u m fit closed that low high = let p = nodes_positive u in absurd (omega arith)
  inside (suc fuel) u m fit closed that low high =
      ⊎_elim
      (λ inner.
      let closed' = subst (λ (nodes : List Node). IsClosed S nodes) (nodes_whole u m inner) closed in
      let that' = subst (λ (nodes : List Node). Each IsThat nodes) (nodes_whole u m inner) that in
      let one = held_whole u was S' m false inner in
      let two = held_whole u S S m false inner in
      let many = inner_below u inner in
      let nodes = nodes_below u inner in
      ⊎_elim
      (λ e. at_root u m inner e (that'.0 e) one two)
      (λ differ.
      let root : S m ≡ false = ⊎_elim (λ yes'. absurd (false≢true (sym new ∙ down S (nodes_of u) u m (omega arith) (λ c. yes') closed k low high))) (λ no'. no') (cases_Bool (S m)) in
      let root' : S' m ≡ false = others m differ ∙ root in
      let here = nothing_here u (was m) (S' m) root' in
      let here' = nothing_here u (S m) (S m) root in
      let above = ap (held_all (operands_of u) was S' (m + 1)) root' in
      let above' = ap (held_all (operands_of u) S S (m + 1)) root in
      let below = inside_all fuel (λ v j f c t l h. inside fuel v j f c t l h) (operands_of u) (m + 1) (omega arith) closed'.1 that'.1 (low_next m low differ) (omega arith) in
      omega arith)
      (cases_eq m k))
      (λ plain. let none = no_inner u plain in absurd (omega arith))
      (cases_Bool (is_computed u))
    where
      low_next : (m : ℕ) → m ≤ k → m ≢ k → m + 1 ≤ k
      low_next m l n = omega arith

      nothing_here : (u : Tree) (was is : Bool) → is ≡ false → held_here u was is false ≡ 0
      nothing_here u was true e = cc
      nothing_here u was false e = refl

      at_root : (u : Tree) (m : ℕ) → is_computed u ≡ true → m ≡ k → node ≡ node_at u m → held_in u was S' m false ≡ held_here u (was m) (S' m) false + held_all (operands_of u) was S' (m + 1) (S' m)
          → held_in u S S m false ≡ held_here u (S m) (S m) false + held_all (operands_of u) S S (m + 1) (S m) → held_in u was S' m false + length node.turns ≡ held_in u S S m false + own
      at_root u m inner e is one two =
          let is_new : S m ≡ false = ap S e ∙ new in
          let is_now : S' m ≡ true = ap S' e ∙ now in
          let here = ap (λ b. held_here u (was m) b false) is_now in
          let here' = nothing_here u (S m) (S m) is_new in
          let above = ap (held_all (operands_of u) was S' (m + 1)) is_now in
          let above' = ap (held_all (operands_of u) S S (m + 1)) is_new in
          let roots = each_number S (operands_of u) 0 (m + 1) (subst (λ (x : Node). AreDone S x.turns) is ready) in
          let rest = rooted_all S S' was k others others_was new now (operands_of u) (m + 1) roots (inl (omega arith)) in
          let turns = ap (λ x. length x.turns) is ∙ length-turns (operands_of u) 0 (m + 1) in
          let least : (if was m then 1 else least_label u) ≡ own = ap (λ j. if was j then 1 else least_label u) e ∙ ap (λ x. if was k then 1 else x.least) (sym is) in
          omega arith

  pub one_more : (tree : Tree) (n : ℕ) → IsClosed S (nodes_from tree n) → Each (λ x. x.number ≡ k → node ≡ x) (nodes_from tree n) → n ≤ k → k < n + inner_of tree
      → held_in tree was S' n false + length node.turns ≡ held_in tree S S n false + (if was k then 1 else node.least)
  unfolding IsThat
  one_more tree n closed that low high = inside (nodes_of tree) tree n (omega arith) closed that low high
