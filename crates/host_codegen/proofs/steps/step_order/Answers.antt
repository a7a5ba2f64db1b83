use Rattle.std.proofs.Common.{◌≡◌, [], ◌∷◌, ap, ◌∙◌, refl}
use Rattle.std.proofs.lemmas.Result.{IfOk-weaker}
use Rattle.pass_plan.specs.declared.tree.TreeOp.TheVariants as tree_op
use Rattle.vector_codegen.specs.Kind.{move_kind, cast_kind, conditional_kind}
use Rattle.host_programs.specs.Shown.{vector_of}
use Rattle.transfer_builder.specs.Shown.{small_of}
use Rattle.host_codegen.specs.StepProgram.{order_with, op_order, nothing}
use Rattle.host_codegen.specs.Shown.{layout_at, rows_at, source_at}
use Rattle.host_codegen.proofs.StepArguments.{same_on_one, with_one, with_select}
use Rattle.host_codegen.proofs.steps.step_order.Goals as goal

pub returns-in-One : goal.returns-in-One
returns-in-One c =
    let step = c.args.step.now in
    let rows = rows_at c.args.shape in
    let a = source_at c.argument-a.result in
    IfOk-weaker c.order_on_one.result (λ o. vector_of o ≡ op_order rows c.args.acc (tree_op.One c.in-One.op) step.elem step.elem (a ∷ []) (small_of c.args.to)) _
    (λ o is. with_one (layout_at c.args.layout) c.args.half rows c.args.acc step.elem step.from step.args.items _ (small_of c.args.to) c.as_slice-args.ensures step.op (tree_op.One c.in-One.op) a (vector_of o) c.in-One.is c.requires.step.count refl c.argument-a.ensures
    (is ∙ same_on_one c.in-One.op rows c.args.acc step.elem step.from a (small_of c.args.to)))
    c.order_on_one.ensures

pub returns-in-Cast : goal.returns-in-Cast
returns-in-Cast c =
    let step = c.args.step.now in
    let rows = rows_at c.args.shape in
    let a = source_at c.argument-a-in-Cast.result in
    let to = small_of c.args.to in
    IfOk-weaker c.order_with.result (λ o. vector_of o ≡ order_with rows c.cast_kind-kind.result to a nothing) _
    (λ o is. with_one (layout_at c.args.layout) c.args.half rows c.args.acc step.elem step.from step.args.items _ to c.as_slice-args.ensures step.op tree_op.Cast a (vector_of o) c.in-Cast.is c.requires.step.count refl c.argument-a-in-Cast.ensures
    (is ∙ ap (λ kind. order_with rows kind to a nothing) (c.cast_kind-kind.ensures ∙ ap (λ scalar. cast_kind step.elem step.from scalar c.args.acc) c.is_scalar.ensures)))
    c.order_with.ensures

pub returns-in-Move : goal.returns-in-Move
returns-in-Move c =
    let step = c.args.step.now in
    let rows = rows_at c.args.shape in
    let a = source_at c.argument-a-in-Move.result in
    let to = small_of c.args.to in
    IfOk-weaker c.order_with-in-Move.result (λ o. vector_of o ≡ order_with rows c.move_kind.result to a nothing) _
    (λ o is. with_one (layout_at c.args.layout) c.args.half rows c.args.acc step.elem step.from step.args.items _ to c.as_slice-args.ensures step.op tree_op.Move a (vector_of o) c.in-Move.is c.requires.step.count refl c.argument-a-in-Move.ensures
    (is ∙ ap (λ kind. order_with rows kind to a nothing) (c.move_kind.ensures ∙ ap (λ scalar. move_kind step.elem scalar c.args.acc) c.is_scalar-in-Move.ensures)))
    c.order_with-in-Move.ensures

pub returns-in-Select : goal.returns-in-Select
returns-in-Select c =
    let step = c.args.step.now in
    let rows = rows_at c.args.shape in
    let condition = source_at c.argument-condition.result in
    let a = source_at c.argument-a-in-Select.result in
    let to = small_of c.args.to in
    IfOk-weaker c.order_with-in-Select.result (λ o. vector_of o ≡ order_with rows c.conditional_kind.result to a condition) _
    (λ o is. with_select (layout_at c.args.layout) c.args.half rows c.args.acc step.elem step.from step.args.items _ to c.as_slice-args.ensures step.op condition a (vector_of o) c.in-Select.is c.requires.step.count c.argument-condition.ensures c.argument-a-in-Select.ensures
    (is ∙ ap (λ kind. order_with rows kind to a condition) (c.conditional_kind.ensures ∙ ap (λ scalar. conditional_kind step.elem scalar) c.is_scalar-in-Select.ensures)))
    c.order_with-in-Select.ensures
