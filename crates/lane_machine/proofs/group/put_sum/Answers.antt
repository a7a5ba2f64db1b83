use Rattle.std.proofs.Common.{arith, length}
use Rattle.venice_isa.specs.Footprint.{destination}
use Rattle.venice_isa.proofs.Walks.{walk_row}
use Rattle.lane_machine.proofs.Places.{sum_end}
use Rattle.lane_machine.proofs.group.put_sum.Goals as goal

pub overflow_cast-current : goal.overflow_cast-current
overflow_cast-current c =
    let work = c.args.work.now in
    let current = c.args.current.now in
    let placed = c.requires.placed in
    let end = sum_end work (length c.args.cells.now) c.requires.inside current.row current.first placed.in_rows placed.in_row c.requires.with_sum in
    omega (arith, end, walk_row (destination work) current.group_items current.row current.first current.dst placed.dst_is, c.requires.small)

pub put_number-requires : goal.put_number-requires
put_number-requires c =
    let work = c.args.work.now in
    let current = c.args.current.now in
    let placed = c.requires.placed in
    let end = sum_end work (length c.args.cells.now) c.requires.inside current.row current.first placed.in_rows placed.in_row c.requires.with_sum in
    omega (arith, end, walk_row (destination work) current.group_items current.row current.first current.dst placed.dst_is)
