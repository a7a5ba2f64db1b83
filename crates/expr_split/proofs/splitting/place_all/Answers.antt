use Rattle.std.proofs.Common.{arith}
use Rattle.expr_split.proofs.Placement.{places_more, end_more, end_low}
use Rattle.expr_split.proofs.splitting.place_all.Goals as goal

pub place-requires : goal.place-requires
place-requires c =
    let l = c.loop-type_ in
    let low = end_low c.args.types.now l.type_-index c.type_-item.result l.placed.end c.loop-type_-test.true c.type_-item.is l.invariant.end in
    omega arith

pub loop-type_-preserved : goal.loop-type_-preserved
loop-type_-preserved c =
    let l = c.loop-type_ in
    record {
      arrays = places_more c.args.types.now l.type_-index c.type_-item.result l.placed.arrays.items c.place.new.placed.arrays.items l.placed.end c.loop-type_-test.true c.type_-item.is l.invariant.arrays l.invariant.end c.in_ok-place.ensures.arrays;
      end = end_more c.args.types.now l.type_-index c.type_-item.result l.placed.end c.place.new.placed.end c.loop-type_-test.true c.type_-item.is l.invariant.end c.in_ok-place.ensures.end;
    }
