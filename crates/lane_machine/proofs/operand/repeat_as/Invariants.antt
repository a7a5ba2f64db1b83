use Rattle.lane_machine.specs.Elements.{HasSpelled}
use Rattle.lane_machine.proofs.operand.repeat_as.Given as goal

abbrev pub invariant-loop-k : goal.invariant-loop-k
invariant-loop-k g l = HasSpelled g.E.KnownElem.ELEM l.k (λ _. l.fn.n) l.bytes
