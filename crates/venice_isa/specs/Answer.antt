-- What the operations of the lanes answer on elements. Those that the array language has too are its
-- operations: they work on whole numbers, and wrap or saturate into the type.
use Rattle.std.specs.Prelude.{ℤ}
use Rattle.ven_base.specs.declared.elem.Elem.{Elem}
use Rattle.ven_base.specs.declared.ops.Op1.TheVariants.{Abs as abs}
use Rattle.ven_base.specs.declared.ops.Op2.TheVariants.{Add as add, Sub as sub, Mul as mul, And as and, Or as or, Xor as xor, Shl as shl, Shr as shr, Min as min, Max as max, Eq as eq, Ne as ne, Lt as lt, Le as le, SatAdd, SatSub}
use Rattle.ven_base.specs.Operation.{applied1, applied2}
use Rattle.ven_base.specs.Wrap.{wrapped}
use Rattle.venice_isa.specs.declared.kind.VecKind.{VecKind}
use Rattle.venice_isa.specs.declared.op.VecOp.{VecOp}
use Rattle.venice_isa.specs.declared.op.VecOp.TheVariants.{Mov, Cast, Add, Sub, Mul, And, Or, Xor, Shl, Shr, Min, Max, Abs, Eq, Ne, Lt, Le, Cmov, Sadd, Ssub}

-- the answer of an operation at a number a of A's type and a number b of the results' type
abbrev pub answer_of : VecOp → Elem → ℤ → ℤ → ℤ
answer_of Mov elem a b = a
answer_of Cast elem a b = wrapped elem a
answer_of Add elem a b = applied2 add elem a b
answer_of Sub elem a b = applied2 sub elem a b
answer_of Mul elem a b = applied2 mul elem a b
answer_of And elem a b = applied2 and elem a b
answer_of Or elem a b = applied2 or elem a b
answer_of Xor elem a b = applied2 xor elem a b
answer_of Shl elem a b = applied2 shl elem a b
answer_of Shr elem a b = applied2 shr elem a b
answer_of Min elem a b = applied2 min elem a b
answer_of Max elem a b = applied2 max elem a b
answer_of Abs elem a b = applied1 abs elem a
answer_of Eq elem a b = applied2 eq elem a b
answer_of Ne elem a b = applied2 ne elem a b
answer_of Lt elem a b = applied2 lt elem a b
answer_of Le elem a b = applied2 le elem a b
answer_of Cmov elem a b = a
answer_of Sadd elem a b = applied2 SatAdd elem a b
answer_of Ssub elem a b = applied2 SatSub elem a b

-- the answer of an instruction
unfoldable pub result_of : VecKind → ℤ → ℤ → ℤ
result_of kind a b = answer_of kind.op kind.elem a b
