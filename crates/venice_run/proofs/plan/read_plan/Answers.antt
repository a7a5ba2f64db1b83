use Rattle.std.proofs.Common.{subst}
use Rattle.shape_check.specs.Checked.{program_of}
use Rattle.venice_run.specs.Plan.{plan_of, plan_under}
use Rattle.venice_run.specs.Plans.{planned}
use Rattle.venice_run.specs.Stage.{Goes, as_stage}
use Rattle.venice_run.proofs.NoFile.{counts_none, plan_no_file, went_well}
use Rattle.venice_run.proofs.Stages.{ends}
use Rattle.venice_run.proofs.plan.read_plan.Goals as goal

pub returns-in_err-checked-clause-read : goal.returns-in_err-checked-clause-read
unfolding plan_under
returns-in_err-checked-clause-read g c = ends planned _ _ c.from_residual.ensures.1 c.in_err-checked.ensures.read

pub returns-clause-read : goal.returns-clause-read
unfolding plan_under
returns-clause-read g c = Goes (program_of c.in_ok-checked.checked) c.in_ok-checked.ensures.read c.plan_program.ensures.planned

pub returns-clause-only : goal.returns-clause-only
returns-clause-only g c = record {
  content = c.in_ok-checked.ensures.only.content;
  loads = counts_none _ _ (went_well _)
      (λ e. plan_no_file (program_of c.in_ok-checked.checked) c.args.spad
      (subst (λ r. plan_of (program_of c.in_ok-checked.checked) c.args.spad (as_stage planned r)) e c.plan_program.ensures.planned))
      c.in_ok-checked.ensures.only.loads;
  saves = c.in_ok-checked.ensures.only.saves;
}
