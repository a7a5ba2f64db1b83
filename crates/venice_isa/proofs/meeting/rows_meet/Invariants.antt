use Rattle.std.proofs.Common.{◌↔◌, ◌+◌}
use Rattle.venice_isa.specs.Meeting.{AreRows, SomeMeet}
use Rattle.venice_isa.proofs.meeting.rows_meet.Given as goal

abbrev pub invariant-loop-first : goal.invariant-loop-first
invariant-loop-first l = AreRows l.first × AreRows l.second × (SomeMeet l.fn.first l.fn.second ↔ SomeMeet l.first l.second)

abbrev pub decreases-loop-first : goal.decreases-loop-first
decreases-loop-first l = l.first.left + l.second.left
