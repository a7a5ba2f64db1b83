use Rattle.venice_isa.proofs.TestsRight.{decided}
use Rattle.venice_isa.specs.Tests.{are_in_conflict}
use Rattle.venice_machine.proofs.Hazards.{same_truth}
use Rattle.venice_machine.proofs.works.are_in_conflict.Goals as goal

pub returns : goal.returns
returns c = same_truth c.conflict.result (are_in_conflict c.args.first.now c.args.second.now) c.conflict.ensures (decided.conflict c.args.first.now c.args.second.now)
