use Rattle.std.proofs.Common.{length, ◌-◌}
use Rattle.venice_machine.specs.Reading.{HasRead}
use Rattle.venice_machine.proofs.grants.read_grants.Given as goal

abbrev pub invariant-loop-at : goal.invariant-loop-at
invariant-loop-at l = HasRead l.text l.at l.grants

abbrev pub decreases-loop-at : goal.decreases-loop-at
decreases-loop-at l = length l.text - l.at
