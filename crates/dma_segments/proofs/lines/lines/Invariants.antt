use Rattle.std.proofs.Common.{◌≡◌, take}
use Rattle.dma_segments.specs.Patch.{lines}
use Rattle.dma_segments.proofs.lines.lines.Given as goal

abbrev pub invariant-loop-a : goal.invariant-loop-a
invariant-loop-a l = l.patches.items ≡ lines l.layout (take l.a-index l.rows) l.columns
