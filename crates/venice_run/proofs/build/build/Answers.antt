use Rattle.std.proofs.Common.{subst}
use Rattle.venice_run.specs.Answer.{answer_of}
use Rattle.venice_run.specs.Build.{saves_image, build}
use Rattle.venice_run.specs.Plans.{planned}
use Rattle.venice_run.specs.Stage.{Goes, as_stage}
use Rattle.venice_run.proofs.NoFile.{counts_none, image_saved_no_file}
use Rattle.venice_run.proofs.Stages.{ends}
use Rattle.venice_run.proofs.build.build.Goals as goal

pub returns-in_err-plan-clause-answer : goal.returns-in_err-plan-clause-answer
unfolding build
returns-in_err-plan-clause-answer g c = ends answer_of _ _ c.from_residual.ensures.1 c.in_err-plan.ensures.read

pub returns-clause-answer : goal.returns-clause-answer
unfolding build
returns-clause-answer g c = Goes _ c.in_ok-plan.ensures.read c.save_image.ensures

pub returns-clause-only : goal.returns-clause-only
returns-clause-only g c = record {
  content = c.in_ok-plan.ensures.only.content;
  loads = counts_none _ _ (λ e. absurd cc)
      (λ e. image_saved_no_file c.args.image.now (planned c.in_ok-plan.plan) c.args.spad
      (subst (λ r. saves_image c.args.image.now (planned c.in_ok-plan.plan) c.args.spad (as_stage answer_of r)) e c.save_image.ensures))
      c.in_ok-plan.ensures.only.loads;
  saves = c.in_ok-plan.ensures.only.saves;
}
