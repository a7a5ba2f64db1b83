use Rattle.std.proofs.Common.{◌≡◌, map}
use Rattle.std.specs.List.{range_with_len}
use Rattle.dma_segments.specs.Run.{phase}
use Rattle.dma_segments.proofs.runs.phases.Given as goal

abbrev pub invariant-loop-p : goal.invariant-loop-p
invariant-loop-p l = l.runs.items ≡ map (phase l.times l.start l.n) (range_with_len 0 l.p)
