use Rattle.std.proofs.Common.{◌≡◌, take}
use Rattle.dma_segments.specs.Run.{singles}
use Rattle.dma_segments.proofs.runs.singles.Given as goal

abbrev pub invariant-loop-run : goal.invariant-loop-run
invariant-loop-run l = l.all.items ≡ singles (take l.run-index l.runs)
