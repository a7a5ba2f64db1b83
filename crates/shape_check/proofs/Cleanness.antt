-- Nodes that break no rule, and the first rule that a node breaks.
use Rattle.std.proofs.Common.{◌≡◌, ℕ, ◌<◌, ◌≤◌, List, [], ◌∷◌, ◌++◌, refl, sym, ap, ◌∙◌, arith, append_assoc, Option, None, Some, inl, inr}
use Rattle.std.specs.Prelude.{All}
use Rattle.std.proofs.lemmas.Bool.{cases_lt}
use Rattle.std.proofs.lemmas.List.Elements.{All-nil, All-cons, All-append}
use Rattle.array_syntax.specs.Tree.{Tree}
use Rattle.shape_check.specs.declared.fault.CheckFault.{CheckFault}
use Rattle.shape_check.specs.declared.fault.CheckFault.TheVariants.{Twice, Unknown, TypeMismatch, ShapeMismatch, LiteralAlone, LiteralRange, BadShape, BadSection, BadStretch, NoOutput, TooMuchWork, Memory}
use Rattle.shape_check.specs.Scope.{Scope}
use Rattle.shape_check.specs.Faults.{lone_literal, DifferInType, DifferInShape, HasTwo, IsFirstOut, IsBadSection, IsBadStretch, IsUnknown, BreaksAt, rank_of}

pub record IsClean (scope : Scope) (tree : Tree) : Type 0 where
  pub none : (f : CheckFault) → BreaksAt scope tree f → ⊥

pub record FirstAt (scope : Scope) (tree : Tree) (f : CheckFault) : Type 0 where
  pub breaks : BreaksAt scope tree f
  pub first : (g : CheckFault) → BreaksAt scope tree g → rank_of f ≤ rank_of g

-- the rules of rank below n aren't broken
pub record Keeps (n : ℕ) (scope : Scope) (tree : Tree) : Type 0 where
  pub known : 0 < n → ¬ IsUnknown scope tree
  pub no_lone : 1 < n → lone_literal tree ≡ None
  pub one_type : 2 < n → ¬ HasTwo (DifferInType scope) tree
  pub one_shape : 3 < n → ¬ HasTwo (DifferInShape scope) tree
  pub none_out : 4 < n → (p : ℕ) → ¬ IsFirstOut scope tree p
  pub section : 5 < n → ¬ IsBadSection scope tree
  pub stretch : 6 < n → ¬ IsBadStretch scope tree

abbrev at_least : (n k : ℕ) → (k < n → ⊥) → n ≤ k
at_least n k h = elim (cases_lt k n) [ inl less ↦ absurd (h less) | inr more ↦ more ]

no_place : (o : Option ℕ) (p : ℕ) → o ≡ None → o ≡ Some p → ⊥
no_place o p h l = let e : None ≡ Some p = sym h ∙ l in cc

ranked : (n : ℕ) (scope : Scope) (tree : Tree) → Keeps n scope tree → (g : CheckFault) → BreaksAt scope tree g → n ≤ rank_of g
ranked n scope tree k (Unknown p) h = at_least n 0 (λ less. k.known less h.1)
ranked n scope tree k (LiteralAlone p) h = at_least n 1 (λ less. no_place (lone_literal tree) p (k.no_lone less) h)
ranked n scope tree k (TypeMismatch p) h = at_least n 2 (λ less. k.one_type less h.1)
ranked n scope tree k (ShapeMismatch p) h = at_least n 3 (λ less. k.one_shape less h.1)
ranked n scope tree k (LiteralRange p) h = at_least n 4 (λ less. k.none_out less p h)
ranked n scope tree k (BadSection p) h = at_least n 5 (λ less. k.section less h.1)
ranked n scope tree k (BadStretch p) h = at_least n 6 (λ less. k.stretch less h.1)
ranked n scope tree k (Twice p) h = absurd h
ranked n scope tree k (BadShape p) h = absurd h
ranked n scope tree k NoOutput h = absurd h
ranked n scope tree k (TooMuchWork need) h = absurd h
ranked n scope tree k Memory h = absurd h

-- a rule that is broken is the first where those before it are kept
pub FirstAt-kept : (scope : Scope) (tree : Tree) (f : CheckFault) → BreaksAt scope tree f → Keeps (rank_of f) scope tree → FirstAt scope tree f
FirstAt-kept scope tree f h k = record { breaks = h; first = ranked (rank_of f) scope tree k }

below_seven : (g : CheckFault) → rank_of g < 7
below_seven (Unknown p) = omega arith
below_seven (LiteralAlone p) = omega arith
below_seven (TypeMismatch p) = omega arith
below_seven (ShapeMismatch p) = omega arith
below_seven (LiteralRange p) = omega arith
below_seven (BadSection p) = omega arith
below_seven (BadStretch p) = omega arith
below_seven (Twice p) = omega arith
below_seven (BadShape p) = omega arith
below_seven NoOutput = omega arith
below_seven (TooMuchWork need) = omega arith
below_seven Memory = omega arith

-- and where all are kept, none is broken
pub IsClean-kept : (scope : Scope) (tree : Tree) → Keeps 7 scope tree → IsClean scope tree
IsClean-kept scope tree k = record { none = λ g h. let more = ranked 7 scope tree k g h in let less = below_seven g in absurd (omega arith) }

-- ---- the first of several nodes

pub record IsFirstPart (scope : Scope) (parts : List Tree) (f : CheckFault) : Type 0 where
  pub before : List Tree
  pub part : Tree
  pub after : List Tree
  pub is : parts ≡ before ++ part ∷ after
  pub clean : All (IsClean scope) before
  pub here : FirstAt scope part f

pub first_left : (scope : Scope) (xs ys : List Tree) (f : CheckFault) → IsFirstPart scope xs f → IsFirstPart scope (xs ++ ys) f
first_left scope xs ys f h = record {
  before = h.before;
  part = h.part;
  after = h.after ++ ys;
  is = ap (λ all. all ++ ys) h.is ∙ append_assoc h.before (h.part ∷ h.after) ys;
  clean = h.clean;
  here = h.here;
}

pub first_right : (scope : Scope) (xs ys : List Tree) (f : CheckFault) → All (IsClean scope) xs → IsFirstPart scope ys f → IsFirstPart scope (xs ++ ys) f
first_right scope xs ys f clean h = record {
  before = xs ++ h.before;
  part = h.part;
  after = h.after;
  is = ap (λ all. xs ++ all) h.is ∙ sym (append_assoc xs h.before (h.part ∷ h.after));
  clean = All-append (IsClean scope) xs h.before clean h.clean;
  here = h.here;
}

pub first_here : (scope : Scope) (tree : Tree) (f : CheckFault) → FirstAt scope tree f → IsFirstPart scope (tree ∷ []) f
first_here scope tree f h = record { before = []; part = tree; after = []; is = refl; clean = All-nil (IsClean scope); here = h }

pub first_last : (scope : Scope) (xs : List Tree) (tree : Tree) (f : CheckFault) → All (IsClean scope) xs → FirstAt scope tree f → IsFirstPart scope (xs ++ tree ∷ []) f
first_last scope xs tree f clean h = first_right scope xs (tree ∷ []) f clean (first_here scope tree f h)

pub clean_last : (scope : Scope) (xs : List Tree) (tree : Tree) → All (IsClean scope) xs → IsClean scope tree → All (IsClean scope) (xs ++ tree ∷ [])
clean_last scope xs tree clean h = All-append (IsClean scope) xs (tree ∷ []) clean (All-cons (IsClean scope) tree [] h (All-nil (IsClean scope)))
