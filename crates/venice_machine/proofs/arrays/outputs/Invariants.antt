use Rattle.venice_machine.proofs.Outgoing.{IsTaken}
use Rattle.venice_machine.proofs.arrays.outputs.Given as goal

abbrev pub invariant-loop-entry : goal.invariant-loop-entry
invariant-loop-entry l = IsTaken l.memory l.table l.entry-index l.arrays
