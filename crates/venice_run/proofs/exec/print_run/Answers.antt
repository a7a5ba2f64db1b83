use Rattle.std.proofs.Common.{◌≡◌, ℕ, List, None, sym, subst, ap, ◌∙◌}
use Rattle.std.proofs.lemmas.Result.{err_from_is_err_and}
use Rattle.venice_machine.specs.Answers.{RunEnds}
use Rattle.venice_machine.specs.Run.{run}
use Rattle.ven_base.specs.declared.entry.Entry.{Entry}
use Rattle.venice_machine.specs.State.{Setup}
use Rattle.venice_run.specs.Answer.{Answer, answer_of, prints}
use Rattle.venice_run.specs.Endings.{machine_ending}
use Rattle.venice_run.specs.Exec.{prints_run, run_text}
use Rattle.venice_run.specs.Stage.{Goes, as_stage}
use Rattle.venice_run.proofs.Stages.{step_ends}
use Rattle.venice_run.proofs.exec.print_run.Goals as goal

pub returns-in_err-counts : goal.returns-in_err-counts
unfolding prints_run
returns-in_err-counts c = λ state shows.
    let end = run c.args.machine.now.setup c.args.budget c.args.grants.now state in
    step_ends machine_ending (RunEnds end) answer_of _ _ c.from_residual.ensures.1 (c.in_err-counts.ensures.answer state shows)

pub returns-in_err-text : goal.returns-in_err-text
unfolding prints_run
returns-in_err-text c = λ state shows.
    let end = run c.args.machine.now.setup c.args.budget c.args.grants.now state in
    let gone = err_from_is_err_and c.from_residual-in_err-text.result c.from_residual-in_err-text.ensures.1 in
    Goes c.in_ok-counts.counts (c.in_ok-counts.ensures.answer state shows)
    (subst (λ r. prints (run_text c.args.machine.now.setup.table end) (as_stage answer_of r)) (sym gone.1) gone.2)

abbrev printed : List ℕ → Answer
printed text = record { save = None; text = text; stop = None }

pub returns : goal.returns
unfolding prints_run
returns c = λ state shows.
    let end = run c.args.machine.now.setup c.args.budget c.args.grants.now state in
    let table : c.run.new.self.setup.table ≡ c.args.machine.now.setup.table = ap (λ (setup : Setup). setup.table) c.in_ok-counts.ensures.setup in
    let text : c.in_ok-text.text.items ≡ run_text c.run.new.self.setup.table end = c.in_ok-text.ensures end (c.in_ok-counts.ensures.state state shows) (c.in_ok-counts.ensures.answer state shows).1 in
    Goes c.in_ok-counts.counts (c.in_ok-counts.ensures.answer state shows)
    (c.printing.ensures ∙ ap printed (text ∙ ap (λ (table : List Entry). run_text table end) table))
