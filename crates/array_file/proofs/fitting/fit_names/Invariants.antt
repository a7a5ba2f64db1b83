use Rattle.array_file.specs.Matching.{NamesUpTo}
use Rattle.array_file.proofs.fitting.fit_names.Given as goal

abbrev pub invariant-loop-k : goal.invariant-loop-k
invariant-loop-k l = NamesUpTo l.arrays l.table l.k
