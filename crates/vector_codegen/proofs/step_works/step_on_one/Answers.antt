use Rattle.std.proofs.Common.{ap, ◌∙◌}
use Rattle.vector_codegen.specs.Kind.{abs_kind}
use Rattle.vector_codegen.specs.Work.{work_of, nothing}
use Rattle.vector_codegen.proofs.step_works.step_on_one.Goals as goal

pub returns-in-Abs : goal.returns-in-Abs
returns-in-Abs c =
    let shape = c.args.shape in
    rw c.in-Abs.is (c.work_of.ensures ∙ ap (λ kind. work_of shape kind c.args.to c.args.a nothing) (c.abs_kind.ensures ∙ ap (λ scalar. abs_kind c.args.elem scalar c.args.acc) c.is_scalar.ensures))
