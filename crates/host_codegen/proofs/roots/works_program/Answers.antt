use Rattle.std.proofs.Common.{◌≡◌, ap, sym, ◌∙◌, get_or, length}
use Rattle.std.proofs.lemmas.Result.{IfOk-weaker}
use Rattle.buffer_lifetimes.specs.Step.{step_of, steps_of}
use Rattle.host_programs.specs.Expr.{Variable, Product}
use Rattle.host_programs.specs.Program.{Idle}
use Rattle.host_programs.specs.Shown.{expr_of, program_of}
use Rattle.host_codegen.specs.Sequence.{each_of, all_of}
use Rattle.host_codegen.specs.RootProgram.{steps_programs}
use Rattle.host_codegen.specs.StepProgram.{with_row}
use Rattle.host_codegen.specs.Shown.{layout_at}
use Rattle.host_codegen.proofs.Numbering.{mapped_length, programs_length}
use Rattle.host_codegen.proofs.roots.works_program.Goals as goal

pub returns : goal.returns
returns c =
    let steps = steps_of c.args.steps.now in
    let ps = steps_programs c.args.kind (layout_at c.args.layout) steps in
    let count : c.step_count-count.result ≡ length ps = c.step_count-count.ensures ∙ sym (mapped_length step_of c.args.steps.now) ∙ sym (programs_length c.args.kind (layout_at c.args.layout) steps) in
    let all : program_of c.in_ok-all.all ≡ all_of ps = c.in_ok-all.ensures ∙ ap (λ n. each_of n (λ k. get_or ps k Idle)) count in
    IfOk-weaker c.with_row.result (λ r. program_of r ≡ with_row (expr_of c.in_ok-elements.elements) 11 (program_of c.in_ok-all.all)) _
    (λ r is. is ∙ ap (λ e. with_row e 11 (program_of c.in_ok-all.all)) c.in_ok-elements.ensures ∙ ap (λ p. with_row (Product (Variable 5) (Variable 6)) 11 p) all)
    c.with_row.ensures
