use Rattle.std.proofs.Common.{◌↔◌, subst, IsTrue}
use Rattle.venice_isa.specs.declared.issue.Issue.TheVariants.{Vector, Read, Write}
use Rattle.venice_isa.specs.Footprint.{Conflicts, cells_of}
use Rattle.venice_isa.specs.Meeting.{Meet}
use Rattle.venice_isa.proofs.Conflicts.{Touches, vector_and_read, two_reads, turned, same_regions, by_law}
use Rattle.venice_isa.proofs.meeting.conflicts_with_read.Goals as goal

pub returns-in-Vector : goal.returns-in-Vector
returns-in-Vector c =
    let read = c.args.read.now in
    let vector = c.in-Vector.vector in
    let touches : IsTrue c.touches.result ↔ Touches vector (cells_of read) = subst (λ region. IsTrue c.touches.result ↔ Touches vector region) c.cells.ensures c.touches.ensures in
    let law = turned (Vector vector) (Read read) (Touches vector (cells_of read)) (vector_and_read vector read) in
    by_law (IsTrue c.touches.result) (Read read) (Vector vector) c.args.other.now (Touches vector (cells_of read)) law c.in-Vector.is touches

pub returns-in-Read : goal.returns-in-Read
returns-in-Read c =
    let read = c.args.read.now in
    let other = c.in-Read.other in
    let meets = same_regions (IsTrue c.meet.result) c.cells-in-Read.result c.cells-in-Read-2.result (cells_of read) (cells_of other) c.cells-in-Read.ensures c.cells-in-Read-2.ensures c.meet.ensures in
    by_law (IsTrue c.meet.result) (Read read) (Read other) c.args.other.now (Meet (cells_of read) (cells_of other)) (two_reads read other) c.in-Read.is meets

pub returns-in-Write : goal.returns-in-Write
returns-in-Write c =
    let read = c.args.read.now in
    let write = c.in-Write.write in
    by_law (IsTrue c.share_bytes.result) (Read read) (Write write) c.args.other.now (Conflicts (Read read) (Write write)) (λ h. h, λ h. h) c.in-Write.is c.share_bytes.ensures
