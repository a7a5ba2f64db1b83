use Rattle.std.proofs.Common.{◌≡◌, ◌+◌, ◌*◌, ◌/◌, ap, sym, subst, take, ℤ, w64, to_z, of_z}
use Rattle.std.proofs.lemmas.Int.{to_z-of_z}
use Rattle.ven_base.specs.Elem.{size_of, IsElement}
use Rattle.spad_store.specs.Cells.{bytes_from}
use Rattle.lane_machine.specs.Elements.{HasNumbers, HasSpelled}
use Rattle.lane_machine.specs.Operand.{number_in}
use Rattle.lane_machine.proofs.Groups.{element_fits}
use Rattle.lane_machine.proofs.Spelled.{repeated_numbers, numbers_read}
use Rattle.lane_machine.proofs.operand.Operand.load.Goals as goal

pub returns-in-Number : goal.returns-in-Number
returns-in-Number c =
    let elem = c.args.elem in
    let cells = c.args.cells.now in
    let in_type = subst (λ operand. IsElement elem (number_in elem operand cells 0)) c.in-Number.is c.requires.in_type in
    let n = c.in-Number.n in
    let read : to_z w64 (of_z w64 n) ≡ n = to_z-of_z w64 n (element_fits elem n in_type) in
    let spelled = subst (λ (m : ℤ). HasSpelled elem (16 / size_of elem) (λ _. m) c.repeat.new.bytes) read c.repeat.ensures in
    subst (λ operand. HasNumbers elem c.args.count (number_in elem operand cells) c.repeat.new.bytes) (sym c.in-Number.is)
    (repeated_numbers elem n c.args.count c.repeat.new.bytes in_type c.requires.few spelled)

pub returns-in-Elements : goal.returns-in-Elements
returns-in-Elements c =
    let elem = c.args.elem in
    let cells = c.args.cells.now in
    let count = c.args.count in
    let next = c.in-Elements.walk.next_place in
    let bytes = c.load_bytes.new.bytes in
    let read = subst (λ size. take (count * size) bytes ≡ bytes_from cells next (count * size)) c.size.ensures c.load_bytes.ensures.bytes in
    subst (λ operand. HasNumbers elem count (number_in elem operand cells) bytes) (sym c.in-Elements.is)
    (numbers_read elem cells next count bytes c.load_bytes.ensures.long read)
