use Rattle.host_programs.proofs.Rooms.{at_most, at_least_one}
use Rattle.host_programs.proofs.codable.transfer_room.Goals as goal

-- rooms are worked out in the order of the text: the two steps, then the other four
pub returns : goal.returns
returns c =
    let step = at_least_one _ _ _ c.room-2.ensures c.max.ensures in
    let steps = at_most _ _ _ _ _ c.room.ensures step c.max-steps.ensures in
    let bytes = at_most _ _ _ _ _ c.room-6.ensures steps c.max-2.ensures in
    let rows = at_most _ _ _ _ _ c.room-5.ensures bytes c.max-3.ensures in
    let spad = at_most _ _ _ _ _ c.room-4.ensures rows c.max-4.ensures in
    at_most _ _ _ _ _ c.room-3.ensures spad c.max-5.ensures
