use Rattle.std.proofs.Common.{◌≡◌, ap, ◌∙◌}
use Rattle.std.proofs.lemmas.Result.{IfOk-weaker}
use Rattle.vector_codegen.specs.Kind.{abs_kind}
use Rattle.host_programs.specs.Shown.{vector_of}
use Rattle.transfer_builder.specs.Shown.{small_of}
use Rattle.host_codegen.specs.StepProgram.{order_with, nothing}
use Rattle.host_codegen.specs.Shown.{rows_at, source_at}
use Rattle.host_codegen.proofs.steps.order_on_one.Goals as goal

pub returns-in-Abs : goal.returns-in-Abs
returns-in-Abs c =
    let rows = rows_at c.args.shape in
    let a = source_at c.args.a in
    let to = small_of c.args.to in
    IfOk-weaker c.order_with.result (λ o. vector_of o ≡ order_with rows c.abs_kind-kind.result to a nothing) _
    (λ o is. rw c.in-Abs.is (is ∙ ap (λ kind. order_with rows kind to a nothing) (c.abs_kind-kind.ensures ∙ ap (λ scalar. abs_kind c.args.elem scalar c.args.acc) c.is_scalar.ensures)))
    c.order_with.ensures
