use Rattle.venice_isa.specs.Answer.{answer_of}
use Rattle.lane_machine.specs.Elements.{element_in, HasSpelled}
use Rattle.lane_machine.proofs.kernel.each.Given as goal

abbrev pub invariant-loop-k : goal.invariant-loop-k
invariant-loop-k g l =
    HasSpelled g.E.KnownElem.ELEM l.k (λ k. answer_of l.fn.op g.E.KnownElem.ELEM (element_in g.F.KnownElem.ELEM l.a k) (element_in g.E.KnownElem.ELEM l.b k)) l.answers
