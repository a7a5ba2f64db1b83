use Rattle.std.proofs.Common.{◌≡◌, subst}
use Rattle.venice_machine.specs.State.{State, number_at, unit_numbered}
use Rattle.venice_machine.specs.Machine.{MachineContents, Shows}
use Rattle.venice_machine.specs.Inside.{contents_of}
use Rattle.venice_machine.proofs.Turning.{number_answer}
use Rattle.venice_machine.proofs.machine.Machine.front.Goals as goal

pub returns : goal.returns
returns c =
    subst (λ (machine : MachineContents). (state : State) → Shows machine state → c.number.result ≡ number_at (unit_numbered c.args.unit) 0 state.jobs) c.self.view_is
    (number_answer (contents_of c.self.inside) c.self.invariant.numbered c.args.unit 0 c.number.result c.number.ensures)
