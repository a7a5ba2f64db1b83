use Rattle.array_file.specs.Matching.{NoneUpTo}
use Rattle.array_file.proofs.fitting.has_input.Given as goal

abbrev pub invariant-loop-entry : goal.invariant-loop-entry
invariant-loop-entry l = NoneUpTo l.table l.name l.entry-index
