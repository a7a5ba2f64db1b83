use Rattle.venice_machine.proofs.Inputs.{IsLeft}
use Rattle.venice_machine.proofs.arrays.put_inputs.Given as goal

abbrev pub invariant-loop-entry : goal.invariant-loop-entry
invariant-loop-entry l = IsLeft l.table l.inputs l.entry-index l.fn.memory l.memory
