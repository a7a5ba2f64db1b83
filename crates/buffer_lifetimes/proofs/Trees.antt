-- What holds of a tree and passes on to its computed operands holds of the tree of each step.
use Rattle.std.proofs.Common.{◌⊎◌, ◌≡◌, ℕ, inl, inr, ap, sym, ◌∙◌, subst, refl, List, [], ◌∷◌, ◌++◌, true}
use Rattle.std.specs.Prelude.{Some, None}
use Rattle.std.proofs.lemmas.Bool.{cases_eq}
use Rattle.pass_plan.specs.Tree.{AtLeaf, Literal, One, Two, Cast, Move, Select, is_computed, operands_of}
use Rattle.buffer_lifetimes.specs.declared.step.Operand.{Operand}
use Rattle.buffer_lifetimes.specs.declared.step.Operand.TheVariants as operand
use Rattle.buffer_lifetimes.specs.Step.{Tree, Step}
use Rattle.buffer_lifetimes.specs.Order.{State, no_slots, IsArg, without, without_all, AreArgs, CanStep, after_step, Leads}
use Rattle.buffer_lifetimes.proofs.Slots.{put_same, put_other, none_some, some_same}

-- this tree is one of these
abbrev pub IsOne : Tree → List Tree → Type 0
IsOne u [] = ⊥
IsOne u (t ∷ ts) = (u ≡ t) ⊎ IsOne u ts

pub one_slot : (s s' : ℕ) → operand.Slot s ≡ operand.Slot s' → s ≡ s'
one_slot s s' e = cc

module _ (s : ℕ) (u : Tree) where
  slot_read : (state : State) (s' : ℕ) (t : Tree) → (k : ℕ) × (operand.Slot s' ≡ operand.Slot k) × (state k ≡ Some t) → s ≡ s' → state s ≡ Some u → u ≡ t
  slot_read state s' t is same there = some_same u t (sym there ∙ ap state (same ∙ one_slot s' is.0 is.1) ∙ is.2)

  arg_read : (state : State) (s' : ℕ) (t : Tree) → IsArg state (operand.Slot s') t → s ≡ s' → state s ≡ Some u → u ≡ t
  arg_read state s' (AtLeaf k) is same there = cc
  arg_read state s' (Literal n) is same there = cc
  arg_read state s' (One op elem x) is same there = slot_read state s' (One op elem x) is same there
  arg_read state s' (Two op elem x y) is same there = slot_read state s' (Two op elem x y) is same there
  arg_read state s' (Cast elem from x) is same there = slot_read state s' (Cast elem from x) is same there
  arg_read state s' (Move elem x) is same there = slot_read state s' (Move elem x) is same there
  arg_read state s' (Select elem c x y) is same there = slot_read state s' (Select elem c x y) is same there

  -- a slot's tree stays, or it is the operand
  kept_or_read : (state : State) (arg : Operand) (t : Tree) → IsArg state arg t → state s ≡ Some u → (without state arg s ≡ Some u) ⊎ (u ≡ t)
  kept_or_read state (operand.Leaf k) t is there = inl there
  kept_or_read state (operand.Literal n) t is there = inl there
  kept_or_read state (operand.Slot s') t is there =
      elim (cases_eq s s') [
        | inl same ↦ inr (arg_read state s' t is same there)
        | inr other ↦ inl (put_other state s' None s other ∙ there)
      ]

  pub all_kept_or_read : (state : State) (args : List Operand) (ts : List Tree) → AreArgs state args ts → state s ≡ Some u → (without_all state args s ≡ Some u) ⊎ IsOne u ts
  all_kept_or_read state [] [] are there = inl there
  all_kept_or_read state [] (t ∷ ts) are there = absurd are
  all_kept_or_read state (arg ∷ args) [] are there = absurd are
  all_kept_or_read state (arg ∷ args) (t ∷ ts) are there =
      elim (kept_or_read state arg t are.0 there) [
        | inr read ↦ inr (inl read)
        | inl kept ↦ elim (all_kept_or_read (without state arg) args ts are.1 kept) [ inl kept' ↦ inl kept' | inr one ↦ inr (inr one) ]
      ]

-- what a slot holds once others were read, it held before
pub stood : (state : State) (arg : Operand) (s : ℕ) (u : Tree) → without state arg s ≡ Some u → state s ≡ Some u
stood state (operand.Leaf k) s u is = is
stood state (operand.Literal n) s u is = is
stood state (operand.Slot s') s u is =
    elim (cases_eq s s') [
      | inl same ↦ absurd (none_some u (sym (put_same state s' None s same) ∙ is))
      | inr other ↦ sym (put_other state s' None s other) ∙ is
    ]

pub stood_all : (state : State) (args : List Operand) (s : ℕ) (u : Tree) → without_all state args s ≡ Some u → state s ≡ Some u
stood_all state [] s u is = is
stood_all state (arg ∷ args) s u is = stood state arg s u (stood_all (without state arg) args s u is)

-- the slots' trees are computed
abbrev pub AreComputed : State → Type 0
AreComputed state = (s : ℕ) (u : Tree) → state s ≡ Some u → is_computed u ≡ true

pub computed_after : (slots : ℕ) (state : State) (step : Step) (t : Tree) → CanStep slots state step t → AreComputed state → AreComputed (after_step state step t)
computed_after slots state step t can computed s u is =
    elim (cases_eq s step.to) [
      | inl same ↦ let one : t ≡ u = some_same t u (sym (put_same (without_all state step.args) step.to (Some t) s same) ∙ is) in rw one at can.inner
      | inr other ↦ computed s u (stood_all state step.args s u (sym (put_other (without_all state step.args) step.to (Some t) s other) ∙ is))
    ]

pub none_computed : AreComputed no_slots
none_computed s u is = absurd (none_some u is)

-- a fact on trees that passes on to computed operands
module _ (P : Tree → Type 0) (passes : (t u : Tree) → P t → IsOne u (operands_of t) → is_computed u ≡ true → P u) where
  abbrev pub HoldsOfAll : State → Type 0
  HoldsOfAll state = (s : ℕ) (u : Tree) → state s ≡ Some u → P u

  -- it holds of the tree that a step works out
  pub holds_of_made : (state : State) (step : Step) (t : Tree) → HoldsOfAll (after_step state step t) → P t
  holds_of_made state step t all = all step.to t (put_same (without_all state step.args) step.to (Some t) step.to refl)

  -- and of all trees before the step
  pub holds_before : (slots : ℕ) (state : State) (step : Step) (t : Tree) → CanStep slots state step t → AreComputed state → HoldsOfAll (after_step state step t) → HoldsOfAll state
  holds_before slots state step t can computed all s u is =
      elim (all_kept_or_read s u state step.args (operands_of t) can.args_are is) [
        | inr one ↦ passes t u (holds_of_made state step t all) one (computed s u is)
        | inl kept ↦ elim (cases_eq s step.to) [
          | inl same ↦ absurd (none_some u (sym can.free ∙ ap (without_all state step.args) (sym same) ∙ kept))
          | inr other ↦ all s u (put_other (without_all state step.args) step.to (Some t) s other ∙ kept)
        ]
      ]

  -- and so before all steps that lead to such trees
  pub holds_from : (slots : ℕ) (steps : List Step) (state last : State) → Leads slots state steps last → AreComputed state → HoldsOfAll last → HoldsOfAll state
  holds_from slots [] state last leads computed all = subst (λ (state : State). HoldsOfAll state) (sym leads) all
  holds_from slots (step ∷ steps) state last leads computed all =
      let t = leads.0 in
      let can = leads.1 in
      holds_before slots state step t can computed (holds_from slots steps (after_step state step t) last leads.2 (computed_after slots state step t can computed) all)

-- steps one after another
pub Leads-append : (n : ℕ) (ps qs : List Step) (a b c : State) → Leads n a ps b → Leads n b qs c → Leads n a (ps ++ qs) c
Leads-append n [] qs a b c l m = subst (λ (s : State). Leads n s qs c) (sym l) m
Leads-append n (p ∷ ps) qs a b c l m = (l.0, l.1, Leads-append n ps qs (after_step a p l.0) b c l.2 m)

pub Leads-split : (n : ℕ) (ps qs : List Step) (a c : State) → Leads n a (ps ++ qs) c → (b : State) × Leads n a ps b × Leads n b qs c
Leads-split n [] qs a c l = (a, refl, l)
Leads-split n (p ∷ ps) qs a c l = let r = Leads-split n ps qs (after_step a p l.0) c l.2 in (r.0, (l.0, l.1, r.1), r.2)
