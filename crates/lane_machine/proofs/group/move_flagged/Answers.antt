use Rattle.std.proofs.Common.{◌∙◌, ◌≡◌, ◌+◌, ◌*◌, ◌≤◌, ap, sym, subst, arith, length, take, w64}
use Rattle.std.specs.Prelude.{bit_and, not}
use Rattle.std.specs.Int.{bit_not}
use Rattle.ven_base.specs.Elem.{size_of}
use Rattle.spad_store.specs.Cells.{with_flags, flags_of, bytes_from}
use Rattle.lane_machine.specs.Operand.{flag_in}
use Rattle.lane_machine.proofs.Places.{dst_ends, b_ends, b_flag}
use Rattle.lane_machine.proofs.Spelled.{few_bytes}
use Rattle.lane_machine.proofs.Writing.{moved_put}
use Rattle.lane_machine.proofs.group.move_flagged.Goals as goal

pub overflow_cast-place : goal.overflow_cast-place
overflow_cast-place c =
    let all = dst_ends c.args.work.now c.args.current.now c.requires.placed (length c.args.cells.now) c.requires.inside c.args.count c.requires.some c.requires.in_row c.requires.no_sum in
    omega (arith, all, c.requires.small)

pub flags-requires-clause-inside : goal.flags-requires-clause-inside
flags-requires-clause-inside c =
    b_ends c.args.work.now c.args.current.now c.requires.placed (length c.args.cells.now) c.requires.inside c.args.count c.requires.some c.requires.in_row

pub load_bytes-requires-clause-inside : goal.load_bytes-requires-clause-inside
load_bytes-requires-clause-inside c =
    let all = dst_ends c.args.work.now c.args.current.now c.requires.placed (length c.args.cells.now) c.requires.inside c.args.count c.requires.some c.requires.in_row c.requires.no_sum in
    omega (arith, all, ap (λ size. c.args.count * size) c.size.ensures)

pub get_flags-flags-requires-clause-inside : goal.get_flags-flags-requires-clause-inside
get_flags-flags-requires-clause-inside c =
    let all = dst_ends c.args.work.now c.args.current.now c.requires.placed (length c.args.cells.now) c.requires.inside c.args.count c.requires.some c.requires.in_row c.requires.no_sum in
    omega (arith, all, ap (λ size. c.args.count * size) c.size.ensures)

pub put_first-requires-clause-inside : goal.put_first-requires-clause-inside
put_first-requires-clause-inside c =
    let all = dst_ends c.args.work.now c.args.current.now c.requires.placed (length c.args.cells.now) c.requires.inside c.args.count c.requires.some c.requires.in_row c.requires.no_sum in
    omega (arith, all, ap (λ size. c.args.count * size) c.size.ensures)

pub put_flags-requires-clause-inside : goal.put_flags-requires-clause-inside
put_flags-requires-clause-inside c =
    let all = dst_ends c.args.work.now c.args.current.now c.requires.placed (length c.args.cells.now) c.requires.inside c.args.count c.requires.some c.requires.in_row c.requires.no_sum in
    omega (arith, all, ap (λ size. c.args.count * size) c.size.ensures, c.put_first.ensures.same_length)

pub returns : goal.returns
returns c =
    let work = c.args.work.now in
    let current = c.args.current.now in
    let cells = c.args.cells.now in
    let elem = work.kind.elem in
    let count = c.args.count in
    let place = current.dst.next_place in
    let n = count * c.size.result in
    let n_is : n ≡ count * size_of elem = ap (λ size. count * size) c.size.ensures in
    let all = dst_ends work current c.requires.placed (length cells) c.requires.inside count c.requires.some c.requires.in_row c.requires.no_sum in
    let few = few_bytes elem work.kind.from count c.requires.few in
    let moved = c.whole_elements-moved.result in
    let left = bit_and c.get_flags-flags.result (bit_not w64 moved) in
    c.put_flags.ensures.cells
    ∙ ap (λ cells. with_flags cells place (flags_of n left)) c.put_first.ensures.cells
    ∙ moved_put work cells current.row current.first count place n c.requires.placed.dst_is.next_place_is n_is few.0 (omega (arith, all, n_is)) c.args.results.now c.requires.results c.requires.conditional
    c.load_bytes.new.bytes c.merge.new.bytes c.flags.result moved c.get_flags-flags.result c.load_bytes.ensures.long c.load_bytes.ensures.bytes c.get_flags-flags.ensures.flags c.whole_elements-moved.type_inv c.whole_elements-moved.ensures
    (λ k below. c.flags.ensures k below ∙ b_flag work current c.requires.placed c.requires.conditional cells k)
    c.merge.ensures.long c.merge.ensures.each
