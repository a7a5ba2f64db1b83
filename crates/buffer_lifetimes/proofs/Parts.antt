-- The steps of an order work out parts of its tree, and end with the tree itself; in place only with one element size.
use Rattle.std.proofs.Common.{◌≡◌, ℕ, zero, suc, inl, inr, ap, sym, ◌∙◌, subst, refl, arith, List, [], ◌∷◌, true}
use Rattle.std.specs.Prelude.{Some, Contains}
use Rattle.std.proofs.lemmas.Bool.{cases_eq, false≢true}
use Rattle.ven_base.specs.Elem.{size_of}
use Rattle.pass_plan.specs.Tree.{AtLeaf, Literal, One, Two, Cast, Move, Select, is_computed, op_of, elem_of, from_of, operands_of}
use Rattle.buffer_lifetimes.specs.declared.step.Operand.{Operand}
use Rattle.buffer_lifetimes.specs.declared.step.Operand.TheVariants as operand
use Rattle.buffer_lifetimes.specs.Step.{Tree, Step}
use Rattle.buffer_lifetimes.specs.Order.{State, no_slots, put, without_all, AreArgs, KeepsPlace, CanStep, after_step, Leads}
use Rattle.buffer_lifetimes.specs.Laws.{IsPart, itself, below, LeadsIn, WorksOutParts, EndsWithRoot, OneSizeInPlace}
use Rattle.buffer_lifetimes.proofs.Slots.{put_same, put_other, none_some, some_same}
use Rattle.buffer_lifetimes.proofs.Trees.{IsOne, AreComputed, computed_after, none_computed, HoldsOfAll, holds_of_made, holds_from, Leads-split}

contains_one : (u : Tree) (ts : List Tree) → IsOne u ts → Contains ts u
contains_one u [] one = absurd one
contains_one u (t ∷ ts) one = elim one [
  | inl is ↦ (0, omega arith, sym is)
  | inr more ↦ let r = contains_one u ts more in (suc r.0, omega (arith, r.1), r.2)
]

part_below : (t u tree : Tree) → Contains (operands_of t) u → IsPart t tree → IsPart u tree
part_below t u tree is (itself) = below t u is itself
part_below t u tree is (below whole operand of part) = below whole operand of (part_below t u operand is part)

module _ (tree : Tree) where
  part_passes : (t u : Tree) → IsPart t tree → IsOne u (operands_of t) → is_computed u ≡ true → IsPart u tree
  part_passes t u part one inner = part_below t u tree (contains_one u (operands_of t) one) part

  leads_in : (slots : ℕ) (steps : List Step) (state last : State) → Leads slots state steps last → AreComputed state → HoldsOfAll (λ t. IsPart t tree) part_passes last → LeadsIn tree slots state steps last
  leads_in slots [] state last leads computed all = leads
  leads_in slots (step ∷ steps) state last leads computed all =
      let t = leads.0 in
      let can = leads.1 in
      let next = computed_after slots state step t can computed in
      let after = holds_from (λ t. IsPart t tree) part_passes slots steps (after_step state step t) last leads.2 next all in
      (t, can, holds_of_made (λ t. IsPart t tree) part_passes state step t after, leads_in slots steps (after_step state step t) last leads.2 next all)

  alone : (to : ℕ) → HoldsOfAll (λ t. IsPart t tree) part_passes (put no_slots to (Some tree))
  alone to s u is =
      elim (cases_eq s to) [
        | inl same ↦ let one : tree ≡ u = some_same tree u (sym (put_same no_slots to (Some tree) s same) ∙ is) in subst (λ (v : Tree). IsPart v tree) one itself
        | inr other ↦ absurd (none_some u (sym (put_other no_slots to (Some tree) s other) ∙ is))
      ]

pub works_out_parts : WorksOutParts
works_out_parts tree slots steps to order = leads_in tree slots steps no_slots (put no_slots to (Some tree)) order.leads none_computed (alone tree to)

pub ends_with_root : EndsWithRoot
ends_with_root tree slots steps step to order =
    let split = Leads-split slots steps (step ∷ []) no_slots (put no_slots to (Some tree)) order.leads in
    let state = split.0 in
    let last = split.2 in
    let t = last.0 in
    let can = last.1 in
    let there : Some t ≡ put no_slots to (Some tree) step.to = sym (put_same (without_all state step.args) step.to (Some t) step.to refl) ∙ ap (λ (s : State). s step.to) last.2 in
    elim (cases_eq step.to to) [
      | inl same ↦ let one : t ≡ tree = some_same t tree (there ∙ put_same no_slots to (Some tree) step.to same) in (state, subst (λ (u : Tree). CanStep slots state step u) one can, same)
      | inr other ↦ absurd (none_some t (sym (put_other no_slots to (Some tree) step.to other) ∙ sym there))
    ]

-- ---- in place

pub one_size_in_place : OneSizeInPlace
one_size_in_place slots state step t can inside = go t step.args can.inner can.args_are can.elem_is can.from_is can.place inside
  where
    same_size : (t : Tree) → step.elem ≡ elem_of t → step.from ≡ from_of t → from_of t ≡ elem_of t → size_of step.from ≡ size_of step.elem
    same_size t e f g = ap size_of (f ∙ g ∙ sym e)

    go : (t : Tree) (args : List Operand) → is_computed t ≡ true → AreArgs state args (operands_of t) → step.elem ≡ elem_of t → step.from ≡ from_of t → KeepsPlace (op_of t) (elem_of t) (from_of t) args step.to → Contains args (operand.Slot step.to) → size_of step.from ≡ size_of step.elem
    go (AtLeaf k) args inner are e f place inside = absurd (false≢true inner)
    go (Literal n) args inner are e f place inside = absurd (false≢true inner)
    go (One op elem a) args inner are e f place inside = same_size (One op elem a) e f refl
    go (Two op elem a b) args inner are e f place inside = same_size (Two op elem a b) e f refl
    go (Move elem a) args inner are e f place inside = same_size (Move elem a) e f refl
    go (Select elem c x y) args inner are e f place inside = same_size (Select elem c x y) e f refl
    go (Cast elem from a) [] inner are e f place inside = absurd are
    go (Cast elem from a) (arg ∷ []) inner are e f place (zero, low, is) = ap size_of f ∙ place is ∙ ap size_of (sym e)
    go (Cast elem from a) (arg ∷ []) inner are e f place (suc k, low, is) = absurd (omega arith)
    go (Cast elem from a) (arg ∷ more ∷ args) inner are e f place inside = absurd are.1
