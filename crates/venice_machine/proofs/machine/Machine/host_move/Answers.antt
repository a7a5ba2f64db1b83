use Rattle.std.proofs.Common.{◌≡◌, sym, subst, false, true}
use Rattle.venice_isa.specs.Host.{deed}
use Rattle.venice_isa.specs.HostState.{host_of}
use Rattle.host_core.specs.Step.{moves}
use Rattle.venice_machine.specs.State.{State}
use Rattle.venice_machine.specs.Step.{TheHost}
use Rattle.venice_machine.specs.Machine.{MachineContents, Shows}
use Rattle.venice_machine.specs.Inside.{contents_of}
use Rattle.venice_machine.specs.Kept.{after_chance}
use Rattle.venice_machine.proofs.Alone.{move_shown}
use Rattle.venice_machine.proofs.machine.Machine.host_move.Goals as goal

pub returns-clause-state : goal.returns-clause-state
returns-clause-state c =
    let machine = contents_of c.self.inside in
    let moving = subst (λ (m : MachineContents). moves (deed m.setup.code.instrs (host_of m.host)) ≡ true) (sym c.self.view_is) c.requires.moves in
    subst (λ (m : MachineContents). (state : State) → Shows m state → Shows c.count.new.self (after_chance m.setup c.args.most false TheHost state)) c.self.view_is
    (move_shown machine c.self.invariant.numbered c.args.most c.move_on.new.self moving c.move_on.ensures.host c.count.new.self c.count.ensures.counted)
