use Rattle.std.proofs.Common.{◌*◌, ◌≤◌, ap, ◌∙◌}
use Rattle.ven_base.specs.Elem.{size_of}
use Rattle.buffer_lifetimes.specs.Step.{step_of}
use Rattle.vector_codegen.specs.Fit.{IsStepOf}
use Rattle.vector_codegen.proofs.TileCode.{all_before, all_last, list_of_none, list_of_some}
use Rattle.vector_codegen.proofs.tile_list.works_in.Goals as goal
use Rattle.vector_codegen.proofs.tile_list.works_in.Goals.{in-Some+in_ok-push_steps-in-Some+in_ok-push_root-in-Some, in-None}

pub push_steps-requires-clause-steps : goal.push_steps-requires-clause-steps
push_steps-requires-clause-steps c =
    all_before (λ step. IsStepOf c.args.b (step_of step)) c.args.steps.now c.in-Some.before.now c.in-Some.last.now c.in-Some.ensures.cases.0 c.requires.steps

pub push_root-requires-clause-step : goal.push_root-requires-clause-step
push_root-requires-clause-step c =
    all_last (λ step. IsStepOf c.args.b (step_of step)) c.args.steps.now c.in-Some.before.now c.in-Some.last.now c.in-Some.ensures.cases.0 c.requires.steps

pub push_root-requires-clause-wide : goal.push_root-requires-clause-wide
push_root-requires-clause-wide c =
    all_last (λ step. c.args.shape.rows * c.args.shape.cols * size_of step.elem ≤ c.args.shape.room) c.args.steps.now c.in-Some.before.now c.in-Some.last.now c.in-Some.ensures.cases.0 c.requires.wide

pub returns : goal.returns
returns c =
    elim c.match-split_last.branch [
      | in-Some+in_ok-push_steps-in-Some+in_ok-push_root-in-Some w ↦ ap (λ works. works.items) w.works-is
          ∙ list_of_some c.args.kind c.args.shape c.args.b c.args.first c.args.fills.now c.args.steps.now c.new-works.result.items c.push_fills.new.works.items c.new-works.ensures.items c.in_ok-push_fills.ensures
          w.in-Some.before.now w.in-Some.last.now w.flat.result w.push_steps.new.works.items w.push_root.new.works.items w.flat.ensures w.in_ok-push_steps-in-Some.ensures w.in_ok-push_root-in-Some.ensures w.in-Some.ensures.cases.0
      | in-None w ↦ ap (λ works. works.items) w.works-is
          ∙ list_of_none c.args.kind c.args.shape c.args.b c.args.first c.args.fills.now c.args.steps.now c.new-works.result.items c.push_fills.new.works.items c.new-works.ensures.items c.in_ok-push_fills.ensures w.in-None.ensures.cases
    ]
