use Rattle.std.proofs.Common.{◌↔◌, subst, IsTrue}
use Rattle.venice_isa.specs.declared.issue.Issue.TheVariants.{Vector, Read, Write}
use Rattle.venice_isa.specs.Footprint.{Conflicts, destination, cells_of}
use Rattle.venice_isa.specs.Meeting.{Meet}
use Rattle.venice_isa.proofs.Conflicts.{Touches, vector_and_read, vector_and_write, same_regions, by_law}
use Rattle.venice_isa.proofs.meeting.conflicts_with_vector.Goals as goal

pub returns-in-Vector : goal.returns-in-Vector
returns-in-Vector c =
    let work = c.args.vector.now in
    let other = c.in-Vector.other in
    by_law (IsTrue c.vectors_conflict.result) (Vector work) (Vector other) c.args.other.now (Conflicts (Vector work) (Vector other)) (λ h. h, λ h. h) c.in-Vector.is c.vectors_conflict.ensures

pub returns-in-Read : goal.returns-in-Read
returns-in-Read c =
    let work = c.args.vector.now in
    let read = c.in-Read.read in
    let touches : IsTrue c.touches.result ↔ Touches work (cells_of read) = subst (λ region. IsTrue c.touches.result ↔ Touches work region) c.cells.ensures c.touches.ensures in
    by_law (IsTrue c.touches.result) (Vector work) (Read read) c.args.other.now (Touches work (cells_of read)) (vector_and_read work read) c.in-Read.is touches

pub returns-in-Write : goal.returns-in-Write
returns-in-Write c =
    let work = c.args.vector.now in
    let write = c.in-Write.write in
    let meets = same_regions (IsTrue c.meet.result) c.destination.result c.cells-in-Write.result (destination work) (cells_of write) c.destination.ensures c.cells-in-Write.ensures c.meet.ensures in
    by_law (IsTrue c.meet.result) (Vector work) (Write write) c.args.other.now (Meet (destination work) (cells_of write)) (vector_and_write work write) c.in-Write.is meets
