use Rattle.std.proofs.Common.{◌≤◌, ◌-◌}
use Rattle.spad_store.specs.Packed.{HasPut}
use Rattle.spad_store.proofs.flags.fill.Given as goal

abbrev pub invariant-loop-done : goal.invariant-loop-done
invariant-loop-done l = record {
  within : l.done ≤ l.count;
  put : HasPut l.initial.words l.words l.place l.done (λ _. l.flag);
}

abbrev pub decreases-loop-done : goal.decreases-loop-done
decreases-loop-done l = l.count - l.done
