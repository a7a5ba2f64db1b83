use Rattle.std.proofs.Common.{◌∙◌, ◌+◌, ◌≤◌, arith, sym, ap, subst, false, Option, Some}
use Rattle.venice_isa.specs.Host.{deed}
use Rattle.venice_isa.specs.HostState.{host_of}
use Rattle.host_core.specs.Step.{step_of, wanted_by, host_after}
use Rattle.venice_machine.specs.declared.stop.End.TheVariants.{Halted, Stopped}
use Rattle.venice_machine.specs.declared.stop.Stop.{Stop}
use Rattle.venice_isa.specs.declared.issue.Issue.{Issue}
use Rattle.venice_isa.specs.Tests.{has_counts, is_in_range}
use Rattle.ven_base.specs.Store.{store_of, store_size}
use Rattle.venice_machine.specs.State.{State}
use Rattle.venice_machine.specs.Step.{TheHost}
use Rattle.venice_machine.specs.Machine.{MachineContents, Shows}
use Rattle.venice_machine.specs.Working.{UnitsInside}
use Rattle.venice_machine.specs.Inside.{contents_of, IsMachine}
use Rattle.venice_machine.specs.Kept.{HasPlaceFor, queues_with, stop_of, hazard_of, waiting_in, after_chance}
use Rattle.venice_machine.proofs.Hosting.{has_place, waits_by, waits_shown, halted_shown, moved_shown, stopped_shown, issued_shown, issues_it}
use Rattle.venice_isa.specs.Footprint.{HasFootprint}
use Rattle.venice_isa.proofs.TestsRight.{decided}
use Rattle.venice_machine.proofs.Shown.{issue_numbered, issue_lies}
use Rattle.venice_machine.proofs.Turning.{stop_shown, none_in_range}
use Rattle.venice_machine.proofs.machine.Machine.host_turn.Goals as goal

-- what stops it before an issue
abbrev stop_among : Issue → MachineContents → Option Stop
stop_among issue m = stop_of m.host.place m.cycles (has_counts issue) (is_in_range (store_size (store_of m.cells m.memory)) issue) (hazard_of m.setup.code.version issue m.queues)

pub returns-then-waits-clause-state : goal.returns-then-waits-clause-state
returns-then-waits-clause-state c =
    let inside = c.self.inside in
    let machine = contents_of inside in
    let numbered = c.self.invariant.numbered in
    let what = deed inside.code.instrs (host_of inside.host) in
    let wait = c.waiting-waiting.ensures ∙ ap (λ (m : MachineContents). waiting_in (wanted_by (deed m.setup.code.instrs (host_of m.host))) m.queues) (sym c.self.view_is) in
    let told = ap (λ w. step_of w what) (sym wait) ∙ waits_by c.waiting-waiting.result what c.if-waits.ensures in
    subst (λ (m : MachineContents). (state : State) → Shows m state → Shows m (after_chance m.setup c.args.most false TheHost state)) c.self.view_is
    (λ state shows. waits_shown machine numbered c.args.most state shows told)

pub returns-in-Waits-clause-state : goal.returns-in-Waits-clause-state
returns-in-Waits-clause-state c =
    let inside = c.self.inside in
    let machine = contents_of inside in
    let numbered = c.self.invariant.numbered in
    let what = deed inside.code.instrs (host_of inside.host) in
    let wait = c.waiting-waiting.ensures ∙ ap (λ (m : MachineContents). waiting_in (wanted_by (deed m.setup.code.instrs (host_of m.host))) m.queues) (sym c.self.view_is) in
    let told = ap (λ w. step_of w what) (sym wait) ∙ sym c.peek.ensures in
    subst (λ (m : MachineContents). (state : State) → Shows m state → Shows m (after_chance m.setup c.args.most false TheHost state)) c.self.view_is
    (λ state shows. waits_shown machine numbered c.args.most state shows (told ∙ c.in-Waits.is))

pub returns-in-Halted-clause-state : goal.returns-in-Halted-clause-state
returns-in-Halted-clause-state c =
    let inside = c.self.inside in
    let machine = contents_of inside in
    let numbered = c.self.invariant.numbered in
    let what = deed inside.code.instrs (host_of inside.host) in
    let wait = c.waiting-waiting.ensures ∙ ap (λ (m : MachineContents). waiting_in (wanted_by (deed m.setup.code.instrs (host_of m.host))) m.queues) (sym c.self.view_is) in
    let told = ap (λ w. step_of w what) (sym wait) ∙ sym c.peek.ensures in
    subst (λ (m : MachineContents). (state : State) → Shows m state → Shows (contents_of (record c.self.inside { steps = c.self.inside.steps + 1; end = Some Halted })) (after_chance m.setup c.args.most false TheHost state)) c.self.view_is
    (λ state shows. halted_shown machine numbered c.args.most state shows (told ∙ c.in-Halted.is))

pub returns-in-Moved-clause-state : goal.returns-in-Moved-clause-state
returns-in-Moved-clause-state c =
    let inside = c.self.inside in
    let machine = contents_of inside in
    let numbered = c.self.invariant.numbered in
    let what = deed inside.code.instrs (host_of inside.host) in
    let wait = c.waiting-waiting.ensures ∙ ap (λ (m : MachineContents). waiting_in (wanted_by (deed m.setup.code.instrs (host_of m.host))) m.queues) (sym c.self.view_is) in
    let told = ap (λ w. step_of w what) (sym wait) ∙ sym c.peek.ensures in
    subst (λ (m : MachineContents). (state : State) → Shows m state → Shows c.count.new.self (after_chance m.setup c.args.most false TheHost state)) c.self.view_is
    (λ state shows. moved_shown machine numbered c.args.most state shows (told ∙ c.in-Moved.is) c.step.new.self (c.step.ensures.host ∙ ap (λ w. host_after w inside.code.instrs (host_of inside.host)) wait) c.count.new.self c.count.ensures.counted)

pub returns-in-Some-clause-state : goal.returns-in-Some-clause-state
returns-in-Some-clause-state c =
    let inside = c.self.inside in
    let machine = contents_of inside in
    let numbered = c.self.invariant.numbered in
    let what = deed inside.code.instrs (host_of inside.host) in
    let wait = c.waiting-waiting.ensures ∙ ap (λ (m : MachineContents). waiting_in (wanted_by (deed m.setup.code.instrs (host_of m.host))) m.queues) (sym c.self.view_is) in
    let told = ap (λ w. step_of w what) (sym wait) ∙ sym c.peek.ensures in
    subst (λ (m : MachineContents). (state : State) → Shows m state → Shows (contents_of (record c.self.inside { end = Some (Stopped c.in-Some.stop) })) (after_chance m.setup c.args.most false TheHost state)) c.self.view_is
    (λ state shows.
    let it = issues_it machine numbered c.args.most state shows c.in-Issued.issue (told ∙ c.in-Issued.is) in
    let stop = c.stop_before.ensures ∙ ap (stop_among c.in-Issued.issue) (sym c.self.view_is) in
    let stops = stop_shown machine numbered c.in-Issued.issue it.work state shows ∙ sym stop ∙ c.in-Some.is in
    stopped_shown machine numbered c.args.most state shows c.in-Issued.issue (told ∙ c.in-Issued.is) c.in-Some.stop stops)

pub issue-requires-clause-place : goal.issue-requires-clause-place
issue-requires-clause-place c =
    let what = deed c.self.inside.code.instrs (host_of c.self.inside.host) in
    let counted_is = c.self-in-None.view_is ∙ c.count-in-None.ensures.counted in
    let wait = c.waiting-waiting.ensures ∙ ap (λ (m : MachineContents). waiting_in (wanted_by (deed m.setup.code.instrs (host_of m.host))) m.queues) (sym c.self.view_is) in
    let told = ap (λ w. step_of w what) (sym wait) ∙ sym c.peek.ensures ∙ c.in-Issued.is in
    subst (HasPlaceFor c.in-Issued.issue) (sym (ap (λ (m : MachineContents). m.queues) counted_is)) (has_place (wanted_by what) c.self.inside.works.queues what c.in-Issued.issue told)

pub invariant_of-self-in-None-2 : goal.invariant_of-self-in-None-2
invariant_of-self-in-None-2 c =
    let before = contents_of c.self.inside in
    let inside = c.self-in-None.inside in
    let kept = c.self-in-None.invariant in
    let issue = c.in-Issued.issue in
    let counted_is = c.self-in-None.view_is ∙ c.count-in-None.ensures.counted in
    let stop = c.stop_before.ensures ∙ ap (stop_among issue) (sym c.self.view_is) in
    let size = ap (λ (m : MachineContents). store_size (store_of m.cells m.memory)) counted_is in
    let has = (decided.range (store_size (store_of before.cells before.memory)) issue).0 (none_in_range _ _ _ _ _ (sym stop ∙ c.in-None.is)) in
    let room : inside.issues + 1 ≤ inside.steps = omega (arith, c.self.invariant.few_issues, ap (λ (m : MachineContents). m.issues) counted_is, ap (λ (m : MachineContents). m.steps) counted_is) in
    subst (λ (units : UnitsInside). IsMachine (contents_of (record inside { works = units; issues = inside.issues + 1 }))) (sym c.issue.ensures)
    (record {
      of_image = record { image = kept.of_image.image; is_image = kept.of_image.is_image; code_is = kept.of_image.code_is; table_is = kept.of_image.table_is; memory_is = kept.of_image.memory_is };
      numbered = issue_numbered issue (inside.issues + 1) inside.works.queues kept.numbered;
      in_range = issue_lies issue (inside.issues + 1) (store_size (store_of inside.cells inside.memory)) inside.works.queues (subst (λ size. HasFootprint size issue) (sym size) has) kept.in_range;
      in_code = kept.in_code;
      few_steps = kept.few_steps;
      few_issues = room;
    })

pub returns-in-None-clause-state : goal.returns-in-None-clause-state
returns-in-None-clause-state c =
    let inside = c.self.inside in
    let machine = contents_of inside in
    let numbered = c.self.invariant.numbered in
    let what = deed inside.code.instrs (host_of inside.host) in
    let wait = c.waiting-waiting.ensures ∙ ap (λ (m : MachineContents). waiting_in (wanted_by (deed m.setup.code.instrs (host_of m.host))) m.queues) (sym c.self.view_is) in
    let told = ap (λ w. step_of w what) (sym wait) ∙ sym c.peek.ensures in
    let stop = c.stop_before.ensures ∙ ap (stop_among c.in-Issued.issue) (sym c.self.view_is) in
    let host = c.step-in-None.new.self in
    let counted_is = c.self-in-None.view_is ∙ c.count-in-None.ensures.counted in
    let units = ap (λ (units : UnitsInside). contents_of (record c.self-in-None.inside { works = units; issues = c.self-in-None.inside.issues + 1 })) c.issue.ensures in
    let new = units ∙ ap (λ (m : MachineContents). record m { queues = queues_with c.in-Issued.issue (m.issues + 1) m.queues; issues = m.issues + 1 }) counted_is in
    subst (λ (m : MachineContents). (state : State) → Shows m state → Shows (contents_of (record c.self-in-None.inside { works = c.issue.new.self; issues = c.self-in-None.inside.issues + 1 })) (after_chance m.setup c.args.most false TheHost state)) c.self.view_is
    (λ state shows.
    let it = issues_it machine numbered c.args.most state shows c.in-Issued.issue (told ∙ c.in-Issued.is) in
    let none = stop_shown machine numbered c.in-Issued.issue it.work state shows ∙ sym stop ∙ c.in-None.is in
    issued_shown machine numbered c.args.most state shows c.in-Issued.issue (told ∙ c.in-Issued.is) none host
    (c.step-in-None.ensures.host ∙ ap (λ w. host_after w inside.code.instrs (host_of inside.host)) wait) _ new)
