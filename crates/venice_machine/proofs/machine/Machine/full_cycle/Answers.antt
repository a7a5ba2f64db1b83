use Rattle.venice_machine.proofs.Canonical.{cycle_advances}
use Rattle.venice_machine.proofs.machine.Machine.full_cycle.Goals as goal

pub returns-clause-advances : goal.returns-clause-advances
returns-clause-advances c = cycle_advances c.args.self.now c.args.budget c.requires.going c.cycle.new.self c.cycle.ensures.state

pub returns-then-is_host_alone-clause-advances : goal.returns-then-is_host_alone-clause-advances
returns-then-is_host_alone-clause-advances c = cycle_advances c.args.self.now c.args.budget c.requires.going c.host_cycle.new.self c.host_cycle.ensures.state
