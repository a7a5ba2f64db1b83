use Rattle.std.proofs.Common.{length}
use Rattle.pass_plan.proofs.turn.+held_in_turn.Given as goal

abbrev pub decreases-held_in_turn : goal.decreases-held_in_turn
decreases-held_in_turn l = length l.turns.now
