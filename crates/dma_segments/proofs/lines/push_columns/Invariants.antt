use Rattle.std.proofs.Common.{◌≡◌, ◌++◌, map, take}
use Rattle.dma_segments.specs.Patch.{line}
use Rattle.dma_segments.proofs.lines.push_columns.Given as goal

abbrev pub invariant-loop-b : goal.invariant-loop-b
invariant-loop-b l = l.patches.items ≡ l.initial.patches.items ++ map (line l.layout l.a) (take l.b-index l.columns)
