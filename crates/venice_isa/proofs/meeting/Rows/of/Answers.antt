use Rattle.std.proofs.Common.{◌≡◌, ◌*◌, arith}
use Rattle.venice_isa.proofs.Meetings.{rows_apart, rows_as_one}
use Rattle.venice_isa.proofs.meeting.Rows.of.Goals as goal

pub returns-then-from-bytes-clause-stand : goal.returns-then-from-bytes-clause-stand
returns-then-from-bytes-clause-stand c =
    let is_place : c.from-3.result ≡ c.args.region.place = cc in
    let is_row : c.from.result * c.from-2.result ≡ c.args.region.columns * c.args.region.size = cc in
    rows_as_one c.args.region c.from-3.result (c.from.result * c.from-2.result) is_place is_row c.as_one.result (omega arith) (omega arith) c.as_one.ensures.one c.as_one.ensures.spans

pub returns-else-from-bytes-clause-stand : goal.returns-else-from-bytes-clause-stand
returns-else-from-bytes-clause-stand c =
    let is_place : c.from-3.result ≡ c.args.region.place = cc in
    let is_row : c.from.result * c.from-2.result ≡ c.args.region.columns * c.args.region.size = cc in
    rows_apart c.args.region c.from-3.result (c.from.result * c.from-2.result) is_place is_row
