use Rattle.std.proofs.Common.{◌≡◌, ◌∙◌, ◌+◌, ◌*◌, ◌<◌, ap, sym, subst, arith, replicate}
use Rattle.ven_base.specs.Store.{Store, store_of}
use Rattle.venice_machine.specs.State.{State}
use Rattle.venice_machine.specs.Run.{all_units, after_cycles}
use Rattle.venice_machine.specs.Machine.{MachineContents, Shows}
use Rattle.venice_machine.specs.Working.{UnitsInside}
use Rattle.venice_machine.specs.Inside.{contents_of}
use Rattle.venice_machine.specs.AtOnce.{MayMakeMany, busy_units, all_on, after_many}
use Rattle.venice_machine.proofs.Together.{many_shown}
use Rattle.venice_machine.proofs.machine.Machine.many_cycles.Goals as goal

pub invariant_of-self : goal.invariant_of-self
invariant_of-self c =
    let kept = c.self.invariant in
    let may = subst (MayMakeMany c.args.most c.args.count) (sym c.self.view_is) c.requires.may in
    let product : c.args.count * c.busy-busy.result ≡ c.args.count * busy_units c.self.inside.works.queues = ap (λ n. c.args.count * n) c.busy-busy.ensures.busy in
    record {
      of_image = record { image = kept.of_image.image; is_image = kept.of_image.is_image; code_is = kept.of_image.code_is; table_is = kept.of_image.table_is; memory_is = ap (λ size. size.memory) c.beat_all.ensures.same_size ∙ kept.of_image.memory_is };
      numbered = c.beat_all.ensures.numbered;
      in_range = c.beat_all.ensures.inside;
      in_code = kept.in_code;
      few_steps = omega (arith, product, may.room, c.requires.limit);
      few_issues = omega (arith, kept.few_issues);
    }

pub returns-clause-state : goal.returns-clause-state
returns-clause-state c =
    let inside = c.self.inside in
    let m = contents_of inside in
    let count = c.args.count in
    let may = subst (MayMakeMany c.args.most count) (sym c.self.view_is) c.requires.may in
    let some = subst (λ (m : MachineContents). 0 < m.setup.lane_count) (sym c.self.view_is) c.requires.some_lanes in
    let works = all_on m.setup.lane_count count (record { queues = m.queues; store = store_of m.cells m.memory }) in
    let steps : inside.steps + count * c.busy-busy.result ≡ m.steps + count * busy_units m.queues = ap (λ n. inside.steps + count * n) c.busy-busy.ensures.busy in
    let after : MachineContents = contents_of (record inside { works = c.beat_all.new.self; cells = c.beat_all.new.cells; memory = c.beat_all.new.memory; steps = inside.steps + count * c.busy-busy.result; cycles = inside.cycles + count }) in
    let new : after ≡ after_many count m =
    ap (λ (units : UnitsInside). contents_of (record inside { works = units; cells = c.beat_all.new.cells; memory = c.beat_all.new.memory; steps = inside.steps + count * c.busy-busy.result; cycles = inside.cycles + count })) c.beat_all.ensures.works
    ∙ ap (λ (store : Store). record m { queues = works.queues; cells = store.cells; memory = store.memory; steps = inside.steps + count * c.busy-busy.result; cycles = inside.cycles + count }) c.beat_all.ensures.store
    ∙ ap (λ steps. record m { queues = works.queues; cells = works.store.cells; memory = works.store.memory; steps = steps; cycles = inside.cycles + count }) steps in
    subst (λ (old : MachineContents). (state : State) → Shows old state → Shows after (after_cycles old.setup c.args.most (replicate count all_units) state)) c.self.view_is
    (λ state shows. subst (λ m'. Shows m' (after_cycles m.setup c.args.most (replicate count all_units) state)) (sym new) (many_shown c.args.most count m some c.self.invariant.numbered c.self.invariant.in_range may state shows))
