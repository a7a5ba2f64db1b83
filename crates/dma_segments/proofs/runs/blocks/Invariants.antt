use Rattle.std.proofs.Common.{◌≡◌, map}
use Rattle.std.specs.List.{range_with_len}
use Rattle.dma_segments.specs.Run.{block}
use Rattle.dma_segments.proofs.runs.blocks.Given as goal

abbrev pub invariant-loop-k : goal.invariant-loop-k
invariant-loop-k l = l.runs.items ≡ map (block l.times l.start l.n) (range_with_len l.first l.k)
