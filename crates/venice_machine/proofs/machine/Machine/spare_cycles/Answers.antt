use Rattle.std.proofs.Common.{◌∙◌, ◌+◌, ◌-◌, ◌*◌, ◌/◌, ◌<◌, ◌≤◌, ap, sym, subst, arith}
use Rattle.venice_isa.specs.Host.{deed}
use Rattle.venice_isa.specs.HostState.{host_of}
use Rattle.host_core.specs.Pass.{lets_go_on}
use Rattle.host_core.specs.Step.{wanted_by}
use Rattle.venice_machine.specs.Machine.{MachineContents}
use Rattle.venice_machine.specs.Inside.{contents_of}
use Rattle.venice_machine.specs.Kept.{waiting_in}
use Rattle.venice_machine.specs.AtOnce.{MayMakeMany}
use Rattle.venice_machine.proofs.Together.{host_waits, have_fewer, steps_fit}
use Rattle.venice_machine.proofs.machine.Machine.spare_cycles.Goals as goal

pub returns-clause-may : goal.returns-clause-may
returns-clause-may c = λ some.
    let m = contents_of c.self.inside in
    let what = deed m.setup.code.instrs (host_of m.host) in
    let wait = c.waiting.ensures ∙ ap (λ (m : MachineContents). waiting_in (wanted_by (deed m.setup.code.instrs (host_of m.host))) m.queues) (sym c.self.view_is) in
    let fewer : c.min-count.result ≤ c.spare-spare.result = omega (arith, c.min-count.ensures) in
    let fits : c.min-count.result ≤ (c.args.most - c.self.inside.steps - 1) / c.busy-busy.result = omega (arith, c.min-count.ensures) in
    subst (MayMakeMany c.args.most c.min-count.result) c.self.view_is
    (record {
      going = ap (λ (m : MachineContents). m.end) c.self.view_is ∙ c.requires.going;
      waits = ap (λ w. lets_go_on w what) (sym wait) ∙ host_waits c.waiting.result what (sym c.if-not-waits.false ∙ c.waits.ensures);
      more = have_fewer m.setup.lane_count c.spare-spare.result c.min-count.result m.queues fewer c.spare-spare.ensures.more;
      agree = c.all_agree.ensures c.if-not-all_agree.false;
      room = subst (λ busy. c.self.inside.steps + c.min-count.result * busy < c.args.most) c.busy-busy.ensures.busy
          (steps_fit c.args.most c.self.inside.steps c.busy-busy.result c.min-count.result c.if-most-self.false fits);
    })
