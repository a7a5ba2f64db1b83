use Rattle.host_programs.proofs.Rooms.{at_most, at_least_one}
use Rattle.host_programs.proofs.codable.vector_room.Goals as goal

pub returns : goal.returns
returns c =
    let last = at_least_one _ _ _ c.room-3.ensures c.max.ensures in
    let step = at_most _ _ _ _ _ c.room-2.ensures last c.max-2.ensures in
    let steps = at_most _ _ _ _ _ c.room.ensures step c.max-steps.ensures in
    let second = at_most _ _ _ _ _ c.room-6.ensures steps c.max-3.ensures in
    let first = at_most _ _ _ _ _ c.room-5.ensures second c.max-4.ensures in
    let sources = at_most _ _ _ _ _ c.room-4.ensures first c.max-sources.ensures in
    let rows = at_most _ _ _ _ _ c.room-8.ensures sources c.max-5.ensures in
    at_most _ _ _ _ _ c.room-7.ensures rows c.max-6.ensures
