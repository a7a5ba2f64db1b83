use Rattle.std.proofs.Common.{◌∙◌, ap, sym, subst, arith, take, length, ◌<◌}
use Rattle.venice_machine.specs.Run.{after_cycle, after_cycles}
use Rattle.venice_machine.specs.Machine.{Shows}
use Rattle.venice_machine.proofs.Cycling.{one_more}
use Rattle.venice_machine.proofs.machine.Machine.granted_cycles.Goals as goal

pub loop-k-preserved : goal.loop-k-preserved
loop-k-preserved c = record {
  setup = c.cycle.ensures.setup ∙ c.loop-k.invariant.setup;
  cycles = omega (arith, c.cycle.ensures.cycles, c.loop-k.invariant.cycles);
  state = λ state shows.
      let below : c.loop-k.k < length c.args.grants.now = subst (λ n. c.loop-k.k < n) c.len-k-end.ensures.value c.loop-k-test.true in
      let setup = c.args.self.now.setup in
      let before = after_cycles setup c.args.budget (take c.loop-k.k c.args.grants.now) state in
      subst (Shows c.cycle.new.self)
      (ap (λ setup. after_cycle setup c.args.budget c.at.result before) c.loop-k.invariant.setup
      ∙ ap (λ grant. after_cycle setup c.args.budget grant before) c.at.ensures
      ∙ sym (one_more setup c.args.budget c.args.grants.now c.loop-k.k state below))
      (c.cycle.ensures.state before (c.loop-k.invariant.state state shows));
}
