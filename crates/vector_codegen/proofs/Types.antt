-- The parts of a tree of a pass have its types and sizes.
use Rattle.std.proofs.Common.{◌≡◌, ℕ, ◌<◌, ◌≤◌, inl, inr, subst, refl, arith, List, length, get_or, true}
use Rattle.std.proofs.lemmas.Bool.{false≢true}
use Rattle.ven_base.specs.declared.elem.Elem.{Elem}
use Rattle.ven_base.specs.Elem.{size_of}
use Rattle.pass_plan.specs.declared.leaf.Leaf.{Leaf}
use Rattle.pass_plan.specs.Tree.{AtLeaf, Literal, One, Two, Move, Select, Cast, elem_of, operands_of, is_computed, widest_of}
use Rattle.pass_plan.specs.Normal.{HasNormalSelects}
use Rattle.pass_plan.specs.Pass.{no_leaf}
use Rattle.pass_plan.specs.Sound.{IsTyped}
use Rattle.buffer_lifetimes.specs.Step.{Tree}
use Rattle.buffer_lifetimes.proofs.Trees.{IsOne}
use Rattle.vector_codegen.proofs.Held.{Typing, HasType}

module _ (typing : Typing) where
  -- the tree has its own type
  abbrev pub IsFit : Tree → Type 0
  IsFit t = HasType t typing (elem_of t)

  pub own_type : (u : Tree) (asked : Elem) → is_computed u ≡ true → HasType u typing asked → HasType u typing (elem_of u)
  own_type (AtLeaf k) asked inner type = absurd (false≢true inner)
  own_type (Literal n) asked inner type = absurd (false≢true inner)
  own_type (One op elem x) asked inner type = (refl, type.1, type.2)
  own_type (Two op elem x y) asked inner type = (refl, type.1, type.2, type.3)
  own_type (Cast elem from x) asked inner type = (refl, type.1, type.2)
  own_type (Move elem x) asked inner type = (refl, type.1, type.2)
  own_type (Select elem c x y) asked inner type = (refl, type.1, type.2, type.3, type.4, type.5)

  -- so have its computed operands
  pub fit_passes : (t u : Tree) → HasType t typing (elem_of t) → IsOne u (operands_of t) → is_computed u ≡ true → HasType u typing (elem_of u)
  fit_passes (AtLeaf k) u type one inner = absurd one
  fit_passes (Literal n) u type one inner = absurd one
  fit_passes (One op elem x) u type one inner = elim one [ inl is ↦ own_type u elem inner (rw is type.2) | inr none ↦ absurd none ]
  fit_passes (Cast elem from x) u type one inner = elim one [ inl is ↦ own_type u from inner (rw is type.2) | inr none ↦ absurd none ]
  fit_passes (Move elem x) u type one inner = elim one [ inl is ↦ own_type u elem inner (rw is type.2) | inr none ↦ absurd none ]
  fit_passes (Two op elem x y) u type one inner = elim one [ inl is ↦ own_type u elem inner (rw is type.2) | inr more ↦ elim more [ inl is ↦ own_type u elem inner (rw is type.3) | inr none ↦ absurd none ] ]
  fit_passes (Select elem c x y) u type one inner = elim one [ inl is ↦ own_type u elem inner (rw is type.2) | inr more ↦ elim more [ inl is ↦ own_type u elem inner (rw is type.3) | inr last ↦ elim last [ inl is ↦ own_type u elem inner (rw is type.4) | inr none ↦ absurd none ] ] ]

-- a tree whose types agree, with normal selects and no node wider than the greatest element size, over leaves that aren't either
module _ (leaves : List Leaf) (most : ℕ) (narrow : (k : ℕ) → k < length leaves → size_of (get_or leaves k no_leaf).elem ≤ most) where
  abbrev pub typing_of : Typing
  typing_of = record { leaves = length leaves; leaf = λ k. (get_or leaves k no_leaf).elem; most = most }

  pub has_type : (t : Tree) (asked : Elem) → IsTyped leaves t asked → HasNormalSelects t → widest_of t ≤ most → HasType t typing_of asked
  has_type (AtLeaf k) asked typed normal few = (typed.0, typed.1, subst (λ e. size_of e ≤ most) typed.1 (narrow k typed.0))
  has_type (Literal n) asked typed normal few = typed
  has_type (One op elem a) asked typed normal few = (typed.0, omega (arith, few), has_type a elem typed.1 normal (omega (arith, few)))
  has_type (Two op elem a b) asked typed normal few = (typed.0, omega (arith, few), has_type a elem typed.1 normal.0 (omega (arith, few)), has_type b elem typed.2 normal.1 (omega (arith, few)))
  has_type (Cast elem from a) asked typed normal few = (typed.0, omega (arith, few), has_type a from typed.1 normal (omega (arith, few)))
  has_type (Move elem a) asked typed normal few = (typed.0, omega (arith, few), has_type a elem typed.1 normal (omega (arith, few)))
  has_type (Select elem c x y) asked typed normal few =
      (typed.0, omega (arith, few), has_type c elem typed.1 normal.2 (omega (arith, few)), has_type x elem typed.2 normal.3 (omega (arith, few)), has_type y elem typed.3 normal.4 (omega (arith, few)), normal.0)
