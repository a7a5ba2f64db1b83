-- The operations of the lanes: which of them take B, which set flags, and the modes that each allows.
use Rattle.std.specs.Prelude.{Bool, true, false, not, ◌&&◌, ◌||◌, ◌≡◌, ◌≢◌, IsTrue}
use Rattle.ven_base.specs.declared.elem.Elem.{Elem}
use Rattle.venice_isa.specs.declared.op.VecOp.{VecOp}
use Rattle.venice_isa.specs.declared.op.VecOp.TheVariants.{Mov, Cast, Abs, Eq, Ne, Lt, Le, Cmov}

-- every operation takes A; these take A alone
abbrev pub uses_b : VecOp → Bool
uses_b Mov = false
uses_b Cast = false
uses_b Abs = false
uses_b _ = true

-- these write 1 or 0 and set flags
abbrev pub is_comparison : VecOp → Bool
is_comparison Eq = true
is_comparison Ne = true
is_comparison Lt = true
is_comparison Le = true
is_comparison _ = false

-- this moves only where a flag is set
abbrev pub is_conditional : VecOp → Bool
is_conditional Cmov = true
is_conditional _ = false

-- whether B may be a scalar and whether a row's results may be added: where there is no B, B is no
-- scalar, and a conditional move looks at B's flags and writes no sum
abbrev pub allows_mode : VecOp → Bool → Bool → Bool
allows_mode Cmov b_scalar acc = not b_scalar && not acc
allows_mode op b_scalar acc = uses_b op || not b_scalar

-- the mode is one of the operation's, and A has the results' type unless it is cast
pub record IsMode (op : VecOp) (elem from : Elem) (b_scalar acc : Bool) : Type 0 where
  pub allowed : IsTrue (allows_mode op b_scalar acc)
  pub one_type : op ≢ Cast → from ≡ elem
