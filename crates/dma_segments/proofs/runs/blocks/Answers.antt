use Rattle.std.proofs.Common.{rules, arith, ◌+◌, ◌-◌, ◌/◌}
use Rattle.dma_segments.specs.Run.{block}
use Rattle.dma_segments.proofs.Axes.{begins_near}
use Rattle.dma_segments.proofs.Axes.{quotient_at_most}
use Rattle.std.proofs.lemmas.List.FromFn.{map-range_with_len_more}
use Rattle.dma_segments.proofs.runs.blocks.Goals as goal

pub block-requires-clause-near : goal.block-requires-clause-near
block-requires-clause-near c =
    let l = quotient_at_most c.args.times c.args.start c.args.n c.requires.some c.requires.any c.args.start (c.args.start + c.args.n - 1) (omega (arith, c.requires.any)) in
    begins_near c.args.times c.args.start c.args.n (c.args.start / c.args.times + c.loop-k.k) c.requires.any (omega (arith, c.loop-k-test.true, l))

pub loop-k-preserved : goal.loop-k-preserved
loop-k-preserved c =
    let more = map-range_with_len_more (block c.args.times c.args.start c.args.n) (c.args.start / c.args.times) c.loop-k.k (c.args.start / c.args.times + c.loop-k.k) (omega arith) in
    search (rules, more)
