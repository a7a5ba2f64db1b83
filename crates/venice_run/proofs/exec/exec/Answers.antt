use Rattle.std.proofs.Common.{subst, sym, ap, ◌∙◌, Err}
use Rattle.std.proofs.lemmas.Result.{err_from_is_err_and}
use Rattle.venice_machine.specs.Run.{run}
use Rattle.venice_machine.specs.Start.{start_state}
use Rattle.venice_machine.specs.State.{Setup}
use Rattle.venice_run.specs.Answer.{answer_of}
use Rattle.venice_run.specs.Exec.{prints_run, exec}
use Rattle.venice_run.specs.Stage.{Goes, as_stage}
use Rattle.venice_run.proofs.NoFile.{loads_more, counts_none, err_is, went_well, run_no_file}
use Rattle.venice_run.proofs.Promised.{counts_same}
use Rattle.venice_run.proofs.Stages.{ends}
use Rattle.venice_run.proofs.exec.exec.Goals as goal

pub returns-in_err-machine-clause-answer : goal.returns-in_err-machine-clause-answer
unfolding exec
returns-in_err-machine-clause-answer g c = ends answer_of _ _ c.from_residual.ensures.1 c.in_err-machine.ensures.answer

pub returns-in_err-list-clause-answer : goal.returns-in_err-list-clause-answer
unfolding exec
returns-in_err-list-clause-answer g c =
    let ready = c.in_ok-machine.ensures.answer in
    Goes ready.0 ready.1 (ends answer_of _ _ c.from_residual-in_err-list.ensures.1 (rw c.in_ok-machine.ensures.only.content at c.in_err-list.ensures.read))

pub returns-clause-answer : goal.returns-clause-answer
unfolding exec
returns-clause-answer g c =
    let ready = c.in_ok-machine.ensures.answer in
    let start = start_state ready.0.image ready.0.arrays c.args.resources.spad in
    Goes ready.0 ready.1
    (Goes c.in_ok-list.list (rw c.in_ok-machine.ensures.only.content at c.in_ok-list.ensures.read)
    (subst
    (λ (setup : Setup). prints_run setup.table (run setup c.args.resources.budget c.in_ok-list.list start) (as_stage answer_of c.print_run.result))
    ready.2.setup
    (c.print_run.ensures start ready.2.shows)))

pub returns-in_err-list-clause-only : goal.returns-in_err-list-clause-only
returns-in_err-list-clause-only g c =
    let gone = err_from_is_err_and c.from_residual-in_err-list.result c.from_residual-in_err-list.ensures.1 in
    let same = gone.1 ∙ ap Err gone.2 in
    let last = c.in_err-list.ensures.only in
    loads_more (went_well _) c.in_ok-machine.ensures.only
    (record {
      content = last.content;
      loads = counts_same _ _ (λ p. same ∙ ap Err (err_is _ _ p)) (λ q. ap Err (err_is _ _ (sym same ∙ q))) last.loads;
      saves = last.saves;
    })

pub returns-clause-only : goal.returns-clause-only
returns-clause-only g c =
    let ready = c.in_ok-machine.ensures.answer in
    let start = start_state ready.0.image ready.0.arrays c.args.resources.spad in
    let setup = c.in_ok-machine.machine.setup in
    let end = run setup c.args.resources.budget c.in_ok-list.list start in
    let last = c.in_ok-list.ensures.only in
    loads_more (went_well _) c.in_ok-machine.ensures.only
    (record {
      content = last.content;
      loads = counts_none _ _ (went_well _)
          (λ e. run_no_file setup.table end (subst (λ r. prints_run setup.table end (as_stage answer_of r)) e (c.print_run.ensures start ready.2.shows)))
          last.loads;
      saves = last.saves;
    })
