use Rattle.std.proofs.Common.{◌<◌, arith}
use Rattle.std.proofs.lemmas.Bool.{leb-true, le-leb}
use Rattle.venice_isa.proofs.Regions.{below_from_end, end_from_below}
use Rattle.venice_isa.proofs.region.Region.lies_below.Goals as goal

pub returns : goal.returns
returns c =
    let some_rows : 0 < c.args.self.rows = omega arith in
    let some_columns : 0 < c.args.self.columns = omega arith in
    let some_bytes : 0 < c.args.self.size = omega arith in (
      λ test. below_from_end c.args.self c.args.end some_rows (omega (arith, leb-true c.place_of.result c.from.result test)),
      λ below. le-leb c.place_of.result c.from.result (omega (arith, end_from_below c.args.self c.args.end some_rows some_columns some_bytes below)),
    )
