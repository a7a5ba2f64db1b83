-- The vector instructions that the operations of a tree become.
use Rattle.std.specs.Prelude.{Bool, true, false, IsTrue, refl}
use Rattle.ven_base.specs.declared.elem.Elem.{Elem}
use Rattle.ven_base.specs.declared.ops.Op2.{Op2}
use Rattle.ven_base.specs.declared.ops.Op2.TheVariants as op2
use Rattle.venice_isa.specs.declared.kind.VecKind.{VecKind}
use Rattle.venice_isa.specs.declared.op.VecOp.{VecOp}
use Rattle.venice_isa.specs.declared.op.VecOp.TheVariants.{Cast, Add, Sub, Mul, And, Or, Xor, Shl, Shr, Min, Max, Abs, Eq, Ne, Lt, Le, Cmov, Sadd, Ssub}
use Rattle.venice_isa.specs.Mode.{allows_mode}
pub use Rattle.dma_segments.specs.FillWork.{move_kind}

-- the instruction of an operation on two; for > and >= that of < and <=, with the operands turned
abbrev pub vec_of : Op2 → VecOp
vec_of op2.Add = Add
vec_of op2.Sub = Sub
vec_of op2.Mul = Mul
vec_of op2.And = And
vec_of op2.Or = Or
vec_of op2.Xor = Xor
vec_of op2.Shl = Shl
vec_of op2.Shr = Shr
vec_of op2.Min = Min
vec_of op2.Max = Max
vec_of op2.Eq = Eq
vec_of op2.Ne = Ne
vec_of op2.Lt = Lt
vec_of op2.Le = Le
vec_of op2.Gt = Lt
vec_of op2.Ge = Le
vec_of op2.SatAdd = Sadd
vec_of op2.SatSub = Ssub

abbrev pub is_turned : Op2 → Bool
is_turned op2.Gt = true
is_turned op2.Ge = true
is_turned _ = false

-- each allows a scalar B, and sums of rows
pub two_allowed : (op : Op2) (b_scalar acc : Bool) → IsTrue (allows_mode (vec_of op) b_scalar acc)
two_allowed op2.Add b_scalar acc = refl
two_allowed op2.Sub b_scalar acc = refl
two_allowed op2.Mul b_scalar acc = refl
two_allowed op2.And b_scalar acc = refl
two_allowed op2.Or b_scalar acc = refl
two_allowed op2.Xor b_scalar acc = refl
two_allowed op2.Shl b_scalar acc = refl
two_allowed op2.Shr b_scalar acc = refl
two_allowed op2.Min b_scalar acc = refl
two_allowed op2.Max b_scalar acc = refl
two_allowed op2.Eq b_scalar acc = refl
two_allowed op2.Ne b_scalar acc = refl
two_allowed op2.Lt b_scalar acc = refl
two_allowed op2.Le b_scalar acc = refl
two_allowed op2.Gt b_scalar acc = refl
two_allowed op2.Ge b_scalar acc = refl
two_allowed op2.SatAdd b_scalar acc = refl
two_allowed op2.SatSub b_scalar acc = refl

-- an operation on A and B
abbrev pub two_kind : Op2 → Elem → (a_scalar b_scalar acc : Bool) → VecKind
two_kind op elem a_scalar b_scalar acc = record {
  op = vec_of op;
  elem = elem;
  from = elem;
  a_scalar = a_scalar;
  b_scalar = b_scalar;
  acc = acc;
  mode_allowed = two_allowed op b_scalar acc;
  one_type = λ _. refl;
}

-- instructions that take A alone, beside the move
abbrev pub abs_kind : Elem → (a_scalar acc : Bool) → VecKind
abs_kind elem a_scalar acc = record {
  op = Abs;
  elem = elem;
  from = elem;
  a_scalar = a_scalar;
  b_scalar = false;
  acc = acc;
  mode_allowed = refl;
  one_type = λ _. refl;
}

abbrev pub cast_kind : (elem from : Elem) → (a_scalar acc : Bool) → VecKind
cast_kind elem from a_scalar acc = record {
  op = Cast;
  elem = elem;
  from = from;
  a_scalar = a_scalar;
  b_scalar = false;
  acc = acc;
  mode_allowed = refl;
  one_type = λ no_cast. absurd (no_cast refl);
}

-- a move of A where the flags of B are set
abbrev pub conditional_kind : Elem → (a_scalar : Bool) → VecKind
conditional_kind elem a_scalar = record {
  op = Cmov;
  elem = elem;
  from = elem;
  a_scalar = a_scalar;
  b_scalar = false;
  acc = false;
  mode_allowed = refl;
  one_type = λ _. refl;
}
