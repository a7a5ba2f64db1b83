-- The parts of a tree have its types, and its normal selects.
use Rattle.std.proofs.Common.{◌≡◌, zero, suc, List, [], ◌∷◌, subst, refl, arith, true}
use Rattle.std.specs.Prelude.{Contains}
use Rattle.std.proofs.lemmas.Bool.{false≢true}
use Rattle.ven_base.specs.declared.elem.Elem.{Elem}
use Rattle.pass_plan.specs.declared.leaf.Leaf.{Leaf}
use Rattle.pass_plan.specs.Tree.{AtLeaf, Literal, One, Two, Cast, Move, Select, is_computed, elem_of, operands_of}
use Rattle.pass_plan.specs.Normal.{HasNormalSelects}
use Rattle.pass_plan.specs.Sound.{IsTyped}
use Rattle.buffer_lifetimes.specs.Step.{Tree}
use Rattle.buffer_lifetimes.specs.Laws.{IsPart, itself, below, PartsAreTyped, PartsAreNormal}

-- what holds of the only, of both, of all three operands holds of one
of_one : (P : Tree → Type 0) (a u : Tree) → Contains (a ∷ []) u → P a → P u
of_one P a u (zero, low, is) h = subst P is h
of_one P a u (suc k, low, is) h = absurd (omega arith)

of_two : (P : Tree → Type 0) (a b u : Tree) → Contains (a ∷ b ∷ []) u → P a → P b → P u
of_two P a b u (zero, low, is) h g = subst P is h
of_two P a b u (suc zero, low, is) h g = subst P is g
of_two P a b u (suc (suc k), low, is) h g = absurd (omega arith)

of_three : (P : Tree → Type 0) (a b c u : Tree) → Contains (a ∷ b ∷ c ∷ []) u → P a → P b → P c → P u
of_three P a b c u (zero, low, is) h g f = subst P is h
of_three P a b c u (suc zero, low, is) h g f = subst P is g
of_three P a b c u (suc (suc zero), low, is) h g f = subst P is f
of_three P a b c u (suc (suc (suc k)), low, is) h g f = absurd (omega arith)

none : (u : Tree) → Contains [] u → ⊥
none u is = let low = is.1 in omega arith

module _ (leaves : List Leaf) where
  -- the type that is asked of an operand
  Asked : Tree → Type 0
  Asked u = (of : Elem) × IsTyped leaves u of

  asked_below : (t u : Tree) (elem : Elem) → IsTyped leaves t elem → Contains (operands_of t) u → Asked u
  unfolding Asked
  asked_below (AtLeaf k) u elem h is = absurd (none u is)
  asked_below (Literal v) u elem h is = absurd (none u is)
  asked_below (One op e a) u elem h is = of_one Asked a u is (e, h.1)
  asked_below (Two op e a b) u elem h is = of_two Asked a b u is (e, h.1) (e, h.2)
  asked_below (Cast e from a) u elem h is = of_one Asked a u is (from, h.1)
  asked_below (Move e a) u elem h is = of_one Asked a u is (e, h.1)
  asked_below (Select e c x y) u elem h is = of_three Asked c x y u is (e, h.1) (e, h.2) (e, h.3)

  own_type : (t : Tree) (elem : Elem) → is_computed t ≡ true → IsTyped leaves t elem → IsTyped leaves t (elem_of t)
  own_type (AtLeaf k) elem inner h = absurd (false≢true inner)
  own_type (Literal v) elem inner h = absurd (false≢true inner)
  own_type (One op e a) elem inner h = (refl, h.1)
  own_type (Two op e a b) elem inner h = (refl, h.1, h.2)
  own_type (Cast e from a) elem inner h = (refl, h.1)
  own_type (Move e a) elem inner h = (refl, h.1)
  own_type (Select e c x y) elem inner h = (refl, h.1, h.2, h.3)

  typed : (part tree : Tree) (elem : Elem) → IsPart part tree → IsTyped leaves tree elem → is_computed part ≡ true → IsTyped leaves part (elem_of part)
  unfolding Asked
  typed part tree elem itself h inner = own_type tree elem inner h
  typed part tree elem (below whole u is rest) h inner = let asked = asked_below tree u elem h is in typed part u asked.0 rest asked.1 inner

pub parts_are_typed : PartsAreTyped
parts_are_typed leaves tree part elem h is inner = typed leaves part tree elem is h inner

normal_below : (t u : Tree) → HasNormalSelects t → Contains (operands_of t) u → HasNormalSelects u
normal_below (AtLeaf k) u h is = absurd (none u is)
normal_below (Literal v) u h is = absurd (none u is)
normal_below (One op e a) u h is = of_one (λ v. HasNormalSelects v) a u is h
normal_below (Two op e a b) u h is = of_two (λ v. HasNormalSelects v) a b u is h.0 h.1
normal_below (Cast e from a) u h is = of_one (λ v. HasNormalSelects v) a u is h
normal_below (Move e a) u h is = of_one (λ v. HasNormalSelects v) a u is h
normal_below (Select e c x y) u h is = of_three (λ v. HasNormalSelects v) c x y u is h.2 h.3 h.4

normal : (part tree : Tree) → IsPart part tree → HasNormalSelects tree → HasNormalSelects part
normal part tree itself h = h
normal part tree (below whole u is rest) h = normal part u rest (normal_below tree u h is)

pub parts_are_normal : PartsAreNormal
parts_are_normal tree part h is = normal part tree is h
