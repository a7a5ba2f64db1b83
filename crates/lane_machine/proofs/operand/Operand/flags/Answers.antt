use Rattle.std.proofs.Common.{◌∙◌, ◌≡◌, ◌+◌, ◌*◌, ◌<◌, ◌≤◌, ap, sym, subst, arith, length}
use Rattle.ven_base.specs.Elem.{size_of}
use Rattle.spad_store.proofs.Bits.{no_ones}
use Rattle.spad_store.specs.Cells.{flags_of, flags_from}
use Rattle.venice_isa.proofs.Wholes.{size_positive}
use Rattle.lane_machine.specs.Operand.{flag_in, end_in}
use Rattle.lane_machine.proofs.Elements.{element_in_row}
use Rattle.lane_machine.proofs.Writing.{flag_read}
use Rattle.lane_machine.proofs.operand.Operand.flags.Goals as goal

pub returns-in-Number : goal.returns-in-Number
returns-in-Number c = λ k below. no_ones (k * size_of c.args.elem) ∙ ap (λ operand. flag_in c.args.elem operand c.args.cells.now k) (sym c.in-Number.is)

pub returns-in-Elements : goal.returns-in-Elements
returns-in-Elements c = λ k below.
    let elem = c.args.elem in
    let size = size_of elem in
    let cells = c.args.cells.now in
    let count = c.args.count in
    let next = c.in-Elements.walk.next_place in
    let inside : next + count * size ≤ length cells = subst (λ operand. end_in elem operand count ≤ (length cells)) c.in-Elements.is c.requires.inside in
    let flags = subst (λ size. flags_of (count * size) c.get_flags.result ≡ flags_from cells next (count * size)) c.size.ensures c.get_flags.ensures.flags in
    flag_read cells next (count * size) (k * size) c.get_flags.result inside (omega (arith, element_in_row k count size below, size_positive elem)) flags
    ∙ ap (λ operand. flag_in elem operand cells k) (sym c.in-Elements.is)
