use Rattle.std.proofs.Common.{IsTrue}
use Rattle.venice_isa.specs.declared.issue.Issue.TheVariants.{Vector, Read, Write}
use Rattle.venice_isa.specs.Footprint.{Conflicts, destination, cells_of, memory_of}
use Rattle.venice_isa.specs.Meeting.{Meet}
use Rattle.venice_isa.proofs.Conflicts.{vector_and_write, two_writes, turned, same_regions, by_law}
use Rattle.venice_isa.proofs.meeting.conflicts_with_write.Goals as goal

pub returns-in-Vector : goal.returns-in-Vector
returns-in-Vector c =
    let write = c.args.write.now in
    let vector = c.in-Vector.vector in
    let meets = same_regions (IsTrue c.meet.result) c.destination.result c.cells.result (destination vector) (cells_of write) c.destination.ensures c.cells.ensures c.meet.ensures in
    let law = turned (Vector vector) (Write write) (Meet (destination vector) (cells_of write)) (vector_and_write vector write) in
    by_law (IsTrue c.meet.result) (Write write) (Vector vector) c.args.other.now (Meet (destination vector) (cells_of write)) law c.in-Vector.is meets

pub returns-in-Read : goal.returns-in-Read
returns-in-Read c =
    let write = c.args.write.now in
    let read = c.in-Read.read in
    let law = turned (Read read) (Write write) (Conflicts (Read read) (Write write)) (λ h. h, λ h. h) in
    by_law (IsTrue c.share_bytes.result) (Write write) (Read read) c.args.other.now (Conflicts (Read read) (Write write)) law c.in-Read.is c.share_bytes.ensures

pub returns-in-Write : goal.returns-in-Write
returns-in-Write c =
    let write = c.args.write.now in
    let other = c.in-Write.other in
    let meets = same_regions (IsTrue c.meet-in-Write.result) c.memory.result c.memory-in-Write.result (memory_of write) (memory_of other) c.memory.ensures c.memory-in-Write.ensures c.meet-in-Write.ensures in
    by_law (IsTrue c.meet-in-Write.result) (Write write) (Write other) c.args.other.now (Meet (memory_of write) (memory_of other)) (two_writes write other) c.in-Write.is meets
