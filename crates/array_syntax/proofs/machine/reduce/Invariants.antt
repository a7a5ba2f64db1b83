use Rattle.std.proofs.Common.{◌≡◌, ℕ, length}
use Rattle.array_syntax.specs.Reading.{reduce}
use Rattle.array_syntax.proofs.machine.reduce.Given as goal

abbrev pub invariant-loop-alloc : goal.invariant-loop-alloc
invariant-loop-alloc l = reduce l.level l.node l.stack ≡ reduce l.initial.level l.initial.node l.initial.stack

abbrev pub decreases-loop-alloc : goal.decreases-loop-alloc
decreases-loop-alloc l = length l.stack
