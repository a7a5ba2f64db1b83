use Rattle.venice_isa.specs.Whole.{flag_for}
use Rattle.lane_machine.specs.Elements.{element_in}
use Rattle.lane_machine.proofs.Flagged.{no_flags}
use Rattle.lane_machine.proofs.flags.flags_of.Goals as goal

pub loop-k-init : goal.loop-k-init
loop-k-init g c = no_flags g.E.KnownElem.ELEM (λ k. flag_for c.args.kind (element_in g.E.KnownElem.ELEM c.args.results.now k))
