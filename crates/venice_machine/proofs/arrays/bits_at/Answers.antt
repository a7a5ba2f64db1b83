use Rattle.std.proofs.Common.{◌≡◌, ap, arith, subst, length, ◌≤◌, ◌+◌}
use Rattle.ven_base.specs.Elem.{size_of}
use Rattle.venice_isa.specs.Cell.{part}
use Rattle.venice_isa.specs.Element.{little_endian}
use Rattle.venice_machine.proofs.Stretches.{four_there}
use Rattle.venice_machine.proofs.arrays.bits_at.Goals as goal

pub returns-in-U32 : goal.returns-in-U32
returns-in-U32 c =
    let size : size_of c.args.elem ≡ 4 = grind (arith, c.in-U32.is) in
    let inside = subst (λ n. c.args.place + n ≤ length c.args.memory.now) size c.requires in
    let four = four_there c.args.memory.now c.args.place inside in
    let whole = ap (λ n. little_endian (part c.args.memory.now c.args.place n)) size in
    omega (arith, four, whole, c.two_bytes-in-U32.ensures.value, c.two_bytes-in-U32-2.ensures.value)
