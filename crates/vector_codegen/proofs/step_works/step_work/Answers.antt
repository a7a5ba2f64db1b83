use Rattle.std.proofs.Common.{ap, ◌∙◌, refl}
use Rattle.pass_plan.specs.declared.tree.TreeOp.TheVariants as tree_op
use Rattle.vector_codegen.specs.Kind.{move_kind, cast_kind, conditional_kind}
use Rattle.vector_codegen.specs.Work.{work_of, nothing}
use Rattle.vector_codegen.proofs.StepCode.{same_on_one, with_one, with_select}
use Rattle.vector_codegen.proofs.step_works.step_work.Goals as goal

pub returns-in-One : goal.returns-in-One
returns-in-One c =
    let step = c.args.step.now in
    let a = c.source_at-a.result in
    with_one c.args.shape c.args.b c.args.acc step.elem step.from step.args.items _ c.args.to c.as_slice-args.ensures step.op (tree_op.One c.in-One.op) a c.step_on_one.result c.in-One.is c.requires.step.count refl c.source_at-a.ensures.value
    (c.step_on_one.ensures ∙ same_on_one c.in-One.op c.args.shape c.args.acc step.elem step.from a c.args.to)

pub returns-in-Cast : goal.returns-in-Cast
returns-in-Cast c =
    let step = c.args.step.now in
    let a = c.source_at-a-in-Cast.result in
    with_one c.args.shape c.args.b c.args.acc step.elem step.from step.args.items _ c.args.to c.as_slice-args.ensures step.op tree_op.Cast a c.work_of.result c.in-Cast.is c.requires.step.count refl c.source_at-a-in-Cast.ensures.value
    (c.work_of.ensures ∙ ap (λ kind. work_of c.args.shape kind c.args.to a nothing) (c.cast_kind-kind.ensures ∙ ap (λ scalar. cast_kind step.elem step.from scalar c.args.acc) c.is_scalar.ensures))

pub returns-in-Move : goal.returns-in-Move
returns-in-Move c =
    let step = c.args.step.now in
    let a = c.source_at-a-in-Move.result in
    with_one c.args.shape c.args.b c.args.acc step.elem step.from step.args.items _ c.args.to c.as_slice-args.ensures step.op tree_op.Move a c.work_of-in-Move.result c.in-Move.is c.requires.step.count refl c.source_at-a-in-Move.ensures.value
    (c.work_of-in-Move.ensures ∙ ap (λ kind. work_of c.args.shape kind c.args.to a nothing) (c.move_kind.ensures ∙ ap (λ scalar. move_kind step.elem scalar c.args.acc) c.is_scalar-in-Move.ensures))

pub returns-in-Select : goal.returns-in-Select
returns-in-Select c =
    let step = c.args.step.now in
    let condition = c.source_at-condition.result in
    let a = c.source_at-a-in-Select.result in
    with_select c.args.shape c.args.b c.args.acc step.elem step.from step.args.items _ c.args.to c.as_slice-args.ensures step.op condition a c.work_of-in-Select.result c.in-Select.is c.requires.step.count c.source_at-condition.ensures.value c.source_at-a-in-Select.ensures.value
    (c.work_of-in-Select.ensures ∙ ap (λ kind. work_of c.args.shape kind c.args.to a condition) (c.conditional_kind.ensures ∙ ap (λ scalar. conditional_kind step.elem scalar) c.is_scalar-in-Select.ensures))
