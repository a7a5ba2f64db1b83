use Rattle.std.proofs.Common.{◌≡◌, ◌++◌, map}
use Rattle.std.specs.List.{range_with_len}
use Rattle.dma_segments.specs.Run.{single}
use Rattle.dma_segments.proofs.runs.push_singles.Given as goal

abbrev pub invariant-loop-r : goal.invariant-loop-r
invariant-loop-r l = l.runs.items ≡ l.initial.runs.items ++ map (single l.run) (range_with_len 0 l.r)
