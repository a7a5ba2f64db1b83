use Rattle.std.proofs.Common.{◌≡◌, ◌++◌, map, take}
use Rattle.pass_plan.specs.declared.turn.Turn.{Turn}
use Rattle.eval_order.proofs.best.put_operands.Given as goal

abbrev pub invariant-loop-turn : goal.invariant-loop-turn
invariant-loop-turn l = l.waiting.items ≡ l.fn.waiting.items ++ map (λ (turn : Turn). turn.number) (take l.turn-index l.turn-items)
