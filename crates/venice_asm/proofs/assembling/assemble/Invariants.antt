use Rattle.std.proofs.Common.{◌-◌, length}
use Rattle.venice_asm.specs.Steps.{IsReading}
use Rattle.venice_asm.proofs.assembling.assemble.Given as goal

abbrev pub invariant-loop-reading : goal.invariant-loop-reading
invariant-loop-reading l = IsReading l.text l.reading

abbrev pub decreases-loop-reading : goal.decreases-loop-reading
decreases-loop-reading l = length l.text - l.reading.from
