use Rattle.std.proofs.Common.{arith}
use Rattle.venice_machine.proofs.machine.Machine.host_chance.Goals as goal

pub returns-then-moves-clause-answer : goal.returns-then-moves-clause-answer
returns-then-moves-clause-answer c = grind (arith, c.host_move.ensures.steps)
