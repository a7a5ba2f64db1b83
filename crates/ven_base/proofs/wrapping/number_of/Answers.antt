use Rattle.std.proofs.Common.{arith, refl}
use Rattle.std.proofs.lemmas.Int.{ints}
use Rattle.ven_base.specs.declared.elem.Elem.TheVariants.{U8, I8, U16, I16, U32, I32}
use Rattle.ven_base.proofs.MachineWords.{wrapped-bits}
use Rattle.ven_base.proofs.wrapping.number_of.Goals as goal

pub returns-in-U8 : goal.returns-in-U8
returns-in-U8 c = rw c.in-U8.is (omega (arith, ints, c.from-n.ensures, wrapped-bits U8 0 c.args.bits refl))

pub returns-in-I8 : goal.returns-in-I8
returns-in-I8 c = rw c.in-I8.is (omega (arith, ints, c.from-n.ensures, wrapped-bits I8 128 c.args.bits refl))

pub returns-in-U16 : goal.returns-in-U16
returns-in-U16 c = rw c.in-U16.is (omega (arith, ints, c.from-n.ensures, wrapped-bits U16 0 c.args.bits refl))

pub returns-in-I16 : goal.returns-in-I16
returns-in-I16 c = rw c.in-I16.is (omega (arith, ints, c.from-n.ensures, wrapped-bits I16 32768 c.args.bits refl))

pub returns-in-U32 : goal.returns-in-U32
returns-in-U32 c = rw c.in-U32.is (omega (arith, ints, c.from-n.ensures, wrapped-bits U32 0 c.args.bits refl))

pub returns-in-I32 : goal.returns-in-I32
returns-in-I32 c = rw c.in-I32.is (omega (arith, ints, c.from-n.ensures, wrapped-bits I32 2147483648 c.args.bits refl))
