use Rattle.host_codegen.proofs.SmallRooms.{leaves_are_few, room_is_enough, rooms_are_small}
use Rattle.host_codegen.proofs.laws.room_laws.Goals as goal

pub returns : goal.returns
returns c = record { leaves = leaves_are_few; enough = room_is_enough; small = rooms_are_small }
