use Rattle.venice_isa.specs.Whole.{flag_for}
use Rattle.lane_machine.specs.Elements.{element_in}
use Rattle.lane_machine.specs.Flags.{HasFlags}
use Rattle.lane_machine.proofs.flags.flags_of.Given as goal

abbrev pub invariant-loop-k : goal.invariant-loop-k
invariant-loop-k g l = HasFlags g.E.KnownElem.ELEM l.k (λ k. flag_for l.fn.kind (element_in g.E.KnownElem.ELEM l.results k)) l.bits
