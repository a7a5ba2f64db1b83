use Rattle.array_file.specs.Matching.{FitsUpTo}
use Rattle.array_file.proofs.fitting.fit.Given as goal

abbrev pub invariant-loop-entry : goal.invariant-loop-entry
invariant-loop-entry l = FitsUpTo l.arrays l.table l.entry-index
