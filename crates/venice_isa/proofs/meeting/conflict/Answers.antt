use Rattle.std.proofs.Common.{IsTrue}
use Rattle.venice_isa.specs.declared.issue.Issue.TheVariants.{Vector, Read, Write}
use Rattle.venice_isa.proofs.Conflicts.{of_first}
use Rattle.venice_isa.proofs.meeting.conflict.Goals as goal

pub returns-in-Vector : goal.returns-in-Vector
returns-in-Vector c = of_first (IsTrue c.conflicts_with_vector.result) (Vector c.in-Vector.vector) c.args.first.now c.args.second.now c.in-Vector.is c.conflicts_with_vector.ensures

pub returns-in-Read : goal.returns-in-Read
returns-in-Read c = of_first (IsTrue c.conflicts_with_read.result) (Read c.in-Read.read) c.args.first.now c.args.second.now c.in-Read.is c.conflicts_with_read.ensures

pub returns-in-Write : goal.returns-in-Write
returns-in-Write c = of_first (IsTrue c.conflicts_with_write.result) (Write c.in-Write.write) c.args.first.now c.args.second.now c.in-Write.is c.conflicts_with_write.ensures
