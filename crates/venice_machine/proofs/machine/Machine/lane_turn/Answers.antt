use Rattle.std.proofs.Common.{◌∙◌, sym, ap, subst, false}
use Rattle.venice_machine.specs.State.{State}
use Rattle.venice_machine.specs.Step.{TheUnit}
use Rattle.venice_isa.specs.Units.{Lanes}
use Rattle.venice_machine.specs.Machine.{MachineContents, Shows}
use Rattle.venice_machine.specs.Working.{UnitsInside}
use Rattle.venice_machine.specs.Inside.{contents_of, IsMachine}
use Rattle.venice_machine.specs.Kept.{after_chance, counted}
use Rattle.venice_machine.proofs.Turning.{lane_turned, lane_keeps}
use Rattle.venice_machine.proofs.machine.Machine.lane_turn.Goals as goal

pub invariant_of-self : goal.invariant_of-self
invariant_of-self c =
    let beat = c.beat_lanes-beaten in
    subst (λ (units : UnitsInside). IsMachine (contents_of (record c.self.inside { works = units; cells = beat.new.cells; memory = beat.new.memory }))) (sym beat.ensures.works)
    (lane_keeps (contents_of c.self.inside) false beat.new.cells beat.new.memory c.self.invariant beat.ensures.same_size)

pub returns-then-beaten-clause-state : goal.returns-then-beaten-clause-state
returns-then-beaten-clause-state c =
    let beat = c.beat_lanes-beaten in
    let new = c.count.ensures.counted ∙ ap (λ (units : UnitsInside). counted c.args.most (contents_of (record c.self.inside { works = units; cells = beat.new.cells; memory = beat.new.memory }))) beat.ensures.works in
    subst (λ (machine : MachineContents). (state : State) → Shows machine state → Shows c.count.new.self (after_chance machine.setup c.args.most false (TheUnit Lanes) state)) c.self.view_is
    (lane_turned (contents_of c.self.inside) c.self.invariant.numbered false c.args.most beat.new.cells beat.new.memory c.count.new.self beat.ensures.store (beat.ensures.beaten.0 c.if-beaten.true) new)
