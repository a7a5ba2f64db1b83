use Rattle.std.proofs.Common.{◌≡◌, take}
use Rattle.dma_segments.specs.Patch.{crosses}
use Rattle.dma_segments.proofs.lines.crosses.Given as goal

abbrev pub invariant-loop-a : goal.invariant-loop-a
invariant-loop-a l = l.patches.items ≡ crosses l.layout (take l.a-index l.rows) l.columns
