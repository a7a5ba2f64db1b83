use Rattle.std.proofs.Common.{rules, arith}
use Rattle.dma_segments.specs.Run.{phase}
use Rattle.std.proofs.lemmas.List.FromFn.{map-range_with_len_more}
use Rattle.dma_segments.proofs.runs.phases.Goals as goal

pub loop-p-preserved : goal.loop-p-preserved
loop-p-preserved c =
    let more = map-range_with_len_more (phase c.args.times c.args.start c.args.n) 0 c.loop-p.p c.loop-p.p (omega arith) in
    search (rules, more)
