use Rattle.venice_machine.proofs.Stretches.{IsPut}
use Rattle.venice_machine.proofs.arrays.put_array.Given as goal

abbrev pub invariant-loop-value : goal.invariant-loop-value
invariant-loop-value l = IsPut l.array l.place l.value-index l.next_place l.fn.memory l.memory
