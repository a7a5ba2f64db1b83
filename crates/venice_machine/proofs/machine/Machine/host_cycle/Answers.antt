use Rattle.std.proofs.Common.{◌∙◌, ap, sym, subst}
use Rattle.venice_machine.specs.State.{State}
use Rattle.venice_machine.specs.Run.{all_units, after_cycle}
use Rattle.venice_machine.specs.Machine.{MachineContents, Shows}
use Rattle.venice_machine.specs.Inside.{contents_of}
use Rattle.venice_machine.specs.Kept.{IsHostAlone}
use Rattle.venice_machine.proofs.Alone.{host_alone}
use Rattle.venice_machine.proofs.machine.Machine.host_cycle.Goals as goal

pub returns-clause-state : goal.returns-clause-state
returns-clause-state c =
    let machine = contents_of c.self.inside in
    let alone = subst (IsHostAlone c.args.most) (sym c.self.view_is) c.requires.alone in
    let going = ap (λ (m : MachineContents). m.end) c.self.view_is ∙ c.requires.going in
    subst (λ (m : MachineContents). (state : State) → Shows m state → Shows c.count.new.self (after_cycle m.setup c.args.most all_units state)) c.self.view_is
    (host_alone machine c.self.invariant.numbered c.args.most going alone.more alone.idle c.move_on.new.self alone.moves c.move_on.ensures.host c.count.new.self c.count.ensures.counted)
