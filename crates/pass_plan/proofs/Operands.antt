-- The operands of a tree are smaller.
use Rattle.std.proofs.Common.{refl, ◌≡◌, ℕ, zero, suc, ◌<◌, ◌≤◌, length, get_or, arith, true}
use Rattle.pass_plan.specs.Tree.{TreeOver, AtLeaf, Literal, One, Two, Cast, Move, Select, is_computed, operands_of, nodes_of}
use Rattle.pass_plan.specs.Numbers.{inner_of}

pub operand_smaller : {L : Type 0} (t : TreeOver L) (k : ℕ) (d : TreeOver L) → k < length (operands_of t) → nodes_of (get_or (operands_of t) k d) < nodes_of t
operand_smaller (AtLeaf l) k d h = absurd (omega arith)
operand_smaller (Literal v) k d h = absurd (omega arith)
operand_smaller (One op elem a) zero d h = omega arith
operand_smaller (One op elem a) (suc k) d h = absurd (omega arith)
operand_smaller (Cast elem from a) zero d h = omega arith
operand_smaller (Cast elem from a) (suc k) d h = absurd (omega arith)
operand_smaller (Move elem a) zero d h = omega arith
operand_smaller (Move elem a) (suc k) d h = absurd (omega arith)
operand_smaller (Two op elem a b) zero d h = omega arith
operand_smaller (Two op elem a b) (suc zero) d h = omega arith
operand_smaller (Two op elem a b) (suc (suc k)) d h = absurd (omega arith)
operand_smaller (Select elem c x y) zero d h = omega arith
operand_smaller (Select elem c x y) (suc zero) d h = omega arith
operand_smaller (Select elem c x y) (suc (suc zero)) d h = omega arith
operand_smaller (Select elem c x y) (suc (suc (suc k))) d h = absurd (omega arith)

-- the operands before one and itself have together fewer inner nodes than the tree
pub inner_fits : {L : Type 0} (t : TreeOver L) → inner_of t ≤ nodes_of t
inner_fits (AtLeaf l) = omega arith
inner_fits (Literal v) = omega arith
inner_fits (One op elem a) = let r = inner_fits a in omega arith
inner_fits (Two op elem a b) = let r = inner_fits a in let s = inner_fits b in omega arith
inner_fits (Cast elem from a) = let r = inner_fits a in omega arith
inner_fits (Move elem a) = let r = inner_fits a in omega arith
inner_fits (Select elem c x y) = let r = inner_fits c in let s = inner_fits x in let u = inner_fits y in omega arith

pub computed_arity : {L : Type 0} (t : TreeOver L) → 0 < length (operands_of t) → is_computed t ≡ true
computed_arity (AtLeaf l) h = absurd (omega arith)
computed_arity (Literal v) h = absurd (omega arith)
computed_arity (One op elem a) h = refl
computed_arity (Two op elem a b) h = refl
computed_arity (Cast elem from a) h = refl
computed_arity (Move elem a) h = refl
computed_arity (Select elem c x y) h = refl
