use Rattle.std.proofs.Common.{◌≤◌, ◌+◌}
use Rattle.machine_tests.proofs.machine.host_cycles.Given as goal

abbrev pub invariant-loop-k : goal.invariant-loop-k
invariant-loop-k l = l.machine.cycles ≤ l.initial.machine.cycles + l._k
