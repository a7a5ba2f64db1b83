use Rattle.std.proofs.Common.{◌≡◌, subst}
use Rattle.venice_machine.specs.State.{State}
use Rattle.venice_machine.specs.Run.{after_cycle}
use Rattle.venice_machine.specs.Units.{units_of, cycle_answer}
use Rattle.venice_machine.specs.Machine.{MachineContents, Shows}
use Rattle.venice_machine.specs.Inside.{contents_of}
use Rattle.venice_machine.proofs.Cycling.{none_is, cycle_shown, cycle_answered}
use Rattle.venice_machine.proofs.machine.Machine.cycle.Goals as goal

pub returns-clause-state : goal.returns-clause-state
returns-clause-state c =
    let going = none_is c.self.inside.end c.if-is_some.ensures in
    subst (λ (m : MachineContents). (state : State) → Shows m state → Shows c.turns-units.new.self (after_cycle m.setup c.args.most c.args.grant state)) c.self.view_is
    (λ state shows. cycle_shown (contents_of c.self.inside) c.args.most c.args.grant going c.if-most-self.false state shows c.turns-units.new.self c.turns-units.ensures.state)

pub returns-clause-answer : goal.returns-clause-answer
returns-clause-answer c =
    let going = none_is c.self.inside.end c.if-is_some.ensures in
    subst (λ (m : MachineContents). (state : State) → Shows m state → c.answer-2.result ≡ cycle_answer (after_cycle m.setup c.args.most c.args.grant state).end (units_of m.setup c.args.most c.args.grant state)) c.self.view_is
    (λ state shows. cycle_answered (contents_of c.self.inside) c.args.most c.args.grant going c.if-most-self.false state shows c.turns-units.new.self c.turns-units.result c.answer-2.result
    c.turns-units.ensures.state c.turns-units.ensures.units c.answer-2.ensures)
