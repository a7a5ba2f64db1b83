use Rattle.std.proofs.Common.{◌∙◌, ◌≡◌, ◌+◌, ◌*◌, ◌≤◌, ap, sym, arith, length}
use Rattle.ven_base.specs.Elem.{size_of}
use Rattle.spad_store.specs.Cells.{with_flags, flags_of}
use Rattle.lane_machine.proofs.Places.{dst_ends}
use Rattle.lane_machine.proofs.Spelled.{few_bytes}
use Rattle.lane_machine.proofs.Writing.{plain_put, flagged_put}
use Rattle.lane_machine.proofs.group.put_all.Goals as goal

pub overflow_cast-place : goal.overflow_cast-place
overflow_cast-place c =
    let all = dst_ends c.args.work.now c.args.current.now c.requires.placed (length c.args.cells.now) c.requires.inside c.args.count c.requires.some c.requires.in_row c.requires.no_sum in
    omega (arith, all, c.requires.small)

pub put_first-requires-clause-inside : goal.put_first-requires-clause-inside
put_first-requires-clause-inside c =
    let all = dst_ends c.args.work.now c.args.current.now c.requires.placed (length c.args.cells.now) c.requires.inside c.args.count c.requires.some c.requires.in_row c.requires.no_sum in
    omega (arith, all, ap (λ size. c.args.count * size) c.size.ensures)

pub put_flags-requires-clause-inside : goal.put_flags-requires-clause-inside
put_flags-requires-clause-inside c =
    let all = dst_ends c.args.work.now c.args.current.now c.requires.placed (length c.args.cells.now) c.requires.inside c.args.count c.requires.some c.requires.in_row c.requires.no_sum in
    omega (arith, all, ap (λ size. c.args.count * size) c.size.ensures, c.put_first.ensures.same_length)

pub returns-then-is_comparison : goal.returns-then-is_comparison
returns-then-is_comparison c =
    let work = c.args.work.now in
    let current = c.args.current.now in
    let cells = c.args.cells.now in
    let count = c.args.count in
    let place = current.dst.next_place in
    let n = count * c.size.result in
    let bits = c.flags_for.result in
    let n_is : n ≡ count * size_of work.kind.elem = ap (λ size. count * size) c.size.ensures in
    let all = dst_ends work current c.requires.placed (length cells) c.requires.inside count c.requires.some c.requires.in_row c.requires.no_sum in
    let few = few_bytes work.kind.elem work.kind.from count c.requires.few in
    c.put_flags.ensures.cells
    ∙ ap (λ cells. with_flags cells place (flags_of n bits)) c.put_first.ensures.cells
    ∙ flagged_put work cells current.row current.first count place n c.requires.placed.dst_is.next_place_is n_is few.0 (omega (arith, all, n_is)) c.args.results.now c.requires.results c.requires.plain bits c.flags_for.ensures

pub returns-else-is_comparison : goal.returns-else-is_comparison
returns-else-is_comparison c =
    let work = c.args.work.now in
    let current = c.args.current.now in
    let cells = c.args.cells.now in
    let count = c.args.count in
    let n = count * c.size.result in
    let n_is : n ≡ count * size_of work.kind.elem = ap (λ size. count * size) c.size.ensures in
    let all = dst_ends work current c.requires.placed (length cells) c.requires.inside count c.requires.some c.requires.in_row c.requires.no_sum in
    let few = few_bytes work.kind.elem work.kind.from count c.requires.few in
    c.put_first.ensures.cells
    ∙ plain_put work cells current.row current.first count current.dst.next_place n c.requires.placed.dst_is.next_place_is n_is few.0 (omega (arith, all, n_is)) c.args.results.now c.requires.results c.requires.plain (sym c.is_comparison.ensures ∙ c.if-is_comparison.false)
