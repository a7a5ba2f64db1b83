use Rattle.std.proofs.Common.{rules, arith}
use Rattle.dma_segments.specs.Run.{single}
use Rattle.std.proofs.lemmas.List.{append_assoc}
use Rattle.std.proofs.lemmas.List.FromFn.{map-range_with_len_more}
use Rattle.dma_segments.proofs.runs.push_singles.Goals as goal

pub loop-r-preserved : goal.loop-r-preserved
loop-r-preserved c =
    let more = map-range_with_len_more (single c.args.run) 0 c.loop-r.r c.loop-r.r (omega arith) in
    search (rules, more, append_assoc)
