-- Normalised trees: what lets each inner node be one vector instruction.
use Rattle.std.specs.Prelude.{◌≡◌, pos, Bool, true, false}
use Rattle.ven_base.specs.declared.elem.Elem.{Elem}
use Rattle.ven_base.specs.declared.ops.Op2.{Op2}
use Rattle.ven_base.specs.declared.ops.Op2.TheVariants.{Eq, Ne, Lt, Le, Gt, Ge}
use Rattle.pass_plan.specs.Tree.{TreeOver, AtLeaf, Literal, One, Two, Cast, Move, Select, is_computed}

-- these answer 1 or 0
abbrev pub compares : Op2 → Bool
compares Eq = true
compares Ne = true
compares Lt = true
compares Le = true
compares Gt = true
compares Ge = true
compares _ = false

abbrev pub is_comparison : {L : Type 0} → TreeOver L → Bool
is_comparison (Two op elem a b) = compares op
is_comparison _ = false

abbrev pub is_select : {L : Type 0} → TreeOver L → Bool
is_select (Select elem c x y) = true
is_select _ = false

-- each condition of a select is a comparison, and its third place is computed
abbrev pub HasNormalSelects : {L : Type 0} → TreeOver L → Type 0
HasNormalSelects (AtLeaf l) = Unit {0}
HasNormalSelects (Literal n) = Unit {0}
HasNormalSelects (One op elem a) = HasNormalSelects a
HasNormalSelects (Two op elem a b) = HasNormalSelects a × HasNormalSelects b
HasNormalSelects (Cast elem from a) = HasNormalSelects a
HasNormalSelects (Move elem a) = HasNormalSelects a
HasNormalSelects (Select elem c x y) =
    (is_comparison c ≡ true) × (is_computed y ≡ true) × HasNormalSelects c × HasNormalSelects x × HasNormalSelects y

-- a normalised tree: so are its selects, and its root is an inner node that is no select
pub record IsNormal {L : Type 0} (tree : TreeOver L) : Type 0 where
  pub selects : HasNormalSelects tree
  pub root : is_computed tree ≡ true
  pub no_select : is_select tree ≡ false

-- ---- normalising

abbrev pub condition_if : {L : Type 0} → Bool → Elem → TreeOver L → TreeOver L
condition_if true elem t = t
condition_if false elem t = Two Ne elem t (Literal (pos 0))

-- a condition of this type that is no comparison is compared with 0
abbrev pub as_condition : {L : Type 0} → Elem → TreeOver L → TreeOver L
as_condition elem t = condition_if (is_comparison t) elem t

-- a leaf or a literal becomes a move of it
abbrev pub as_computed : {L : Type 0} → Elem → TreeOver L → TreeOver L
as_computed elem (AtLeaf l) = Move elem (AtLeaf l)
as_computed elem (Literal n) = Move elem (Literal n)
as_computed elem t = t

-- the selects are made normal
abbrev pub with_selects : {L : Type 0} → TreeOver L → TreeOver L
with_selects (AtLeaf l) = AtLeaf l
with_selects (Literal n) = Literal n
with_selects (One op elem a) = One op elem (with_selects a)
with_selects (Two op elem a b) = Two op elem (with_selects a) (with_selects b)
with_selects (Cast elem from a) = Cast elem from (with_selects a)
with_selects (Move elem a) = Move elem (with_selects a)
with_selects (Select elem c x y) =
    Select elem (as_condition elem (with_selects c)) (with_selects x) (as_computed elem (with_selects y))

-- a root that is a leaf, a literal or a select becomes a move of it
abbrev pub as_root : {L : Type 0} → Elem → TreeOver L → TreeOver L
as_root elem (AtLeaf l) = Move elem (AtLeaf l)
as_root elem (Literal n) = Move elem (Literal n)
as_root elem (Select of c x y) = Move elem (Select of c x y)
as_root elem t = t

-- a tree of this type, normalised
abbrev pub normalised : {L : Type 0} → Elem → TreeOver L → TreeOver L
normalised elem t = as_root elem (with_selects t)
