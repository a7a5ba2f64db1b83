use Rattle.std.proofs.Common.{arith}
use Rattle.vector_codegen.proofs.HalvingLists.{halving_pushed, halvings_done}
use Rattle.vector_codegen.proofs.reductions.push_halvings.Goals as goal

pub loop-count-preserved : goal.loop-count-preserved
loop-count-preserved c =
    let shape = c.args.shape in
    let m = c.loop-count.count in (
      halving_pushed shape c.args.least c.args.elem c.args.buffer c.args.left c.requires.some c.loop-count.works.items c.push.new.self.items _ m c.halving_work.result c.loop-count-test.true c.in_ok-push.ensures.items c.halving_work.ensures c.loop-count.invariant.0,
      let all = c.loop-count.invariant.1 in omega arith,
    )

pub returns : goal.returns
returns c =
    let shape = c.args.shape in
    halvings_done shape c.args.least c.args.elem c.args.buffer c.args.left c.requires.some c.loop-count.works.items _ c.loop-count.count (let no_more = c.loop-count-test.false in omega arith) c.loop-count.invariant.0
