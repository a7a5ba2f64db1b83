use Rattle.std.proofs.Common.{rules}
use Rattle.lane_machine.proofs.Kept.{jobs_works}
use Rattle.lane_machine.proofs.lanes.LanesUnit.work.Goals as goal

pub returns : goal.returns
returns c = rw (← c.self.view_is, jobs_works c.self.inside.lanes c.self.inside.queue.items c.self.inside.current) (search rules)
