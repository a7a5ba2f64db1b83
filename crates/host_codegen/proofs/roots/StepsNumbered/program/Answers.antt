use Rattle.std.proofs.Common.{◌≡◌, ◌+◌, ◌<◌, ap, sym, subst, ◌∙◌, arith, length, get_or}
use Rattle.std.proofs.lemmas.Bool.Decides.{nat_tests}
use Rattle.std.proofs.lemmas.Result.{IfOk-weaker}
use Rattle.buffer_lifetimes.specs.Step.{step_of, steps_of}
use Rattle.host_programs.specs.Expr.{Number}
use Rattle.host_programs.specs.Shown.{program_of}
use Rattle.host_codegen.specs.RootProgram.{flat_program, root_program}
use Rattle.host_codegen.specs.Shown.{layout_at}
use Rattle.host_codegen.proofs.Numbering.{mapped_length, mapped_at, last_program, earlier_program}
use Rattle.host_codegen.proofs.roots.StepsNumbered.program.Goals as goal

pub returns-then-number-self : goal.returns-then-number-self
returns-then-number-self c =
    let self = c.args.self.now in
    let steps = self.steps.now in
    let here = c.index-self-number.result in
    let step = get_or steps c.args.number here in
    let same : here ≡ step = c.index-self-number.is in
    let at : get_or (steps_of steps) c.args.number (step_of step) ≡ step_of step = subst (λ s. get_or (steps_of steps) c.args.number (step_of s) ≡ step_of s) same (mapped_at step_of steps c.args.number here same) in
    let many = mapped_length step_of steps in
    let end : c.args.number + 1 ≡ length (steps_of steps) = grind (arith, nat_tests, many) in
    IfOk-weaker c.root_program.result (λ p. program_of p ≡ root_program self.kind (layout_at self.layout) (step_of step)) _
    (λ p is. is ∙ sym (last_program self.kind (layout_at self.layout) (steps_of steps) c.args.number (step_of step) end at))
    c.root_program.ensures

pub returns : goal.returns
returns c =
    let self = c.args.self.now in
    let steps = self.steps.now in
    let here = c.index-self-number.result in
    let step = get_or steps c.args.number here in
    let same : here ≡ step = c.index-self-number.is in
    let at : get_or (steps_of steps) c.args.number (step_of step) ≡ step_of step = subst (λ s. get_or (steps_of steps) c.args.number (step_of s) ≡ step_of s) same (mapped_at step_of steps c.args.number here same) in
    let many = mapped_length step_of steps in
    let below = c.requires.within in
    let before : c.args.number + 1 < length (steps_of steps) = grind (arith, nat_tests, many, below) in
    IfOk-weaker c.flat_program.result (λ p. program_of p ≡ flat_program (layout_at self.layout) (step_of step) (Number c.slot_cell.result)) _
    (λ p is. is ∙ ap (λ cell. flat_program (layout_at self.layout) (step_of step) (Number cell)) c.slot_cell.ensures
    ∙ sym (earlier_program self.kind (layout_at self.layout) (steps_of steps) c.args.number (step_of step) before at))
    c.flat_program.ensures
