use Rattle.std.proofs.Common.{subst}
use Rattle.ven_base.specs.Pairs.{Pairs}
use Rattle.shape_check.specs.Checked.{program_of}
use Rattle.expr_split.specs.DeclaredTable.{input_table}
use Rattle.venice_run.specs.Inputs.{fitting, inputs_under}
use Rattle.venice_run.specs.Stage.{Goes, as_stage}
use Rattle.venice_run.proofs.NoFile.{counts_none, misfit_no_file}
use Rattle.venice_run.proofs.Stages.{ends}
use Rattle.venice_run.proofs.inputs.read_inputs.Goals as goal

pub returns-in_err-arrays-clause-read : goal.returns-in_err-arrays-clause-read
unfolding inputs_under
returns-in_err-arrays-clause-read g c = ends (λ (arrays : Pairs). arrays) _ _ c.from_residual.ensures.1 c.in_err-arrays.ensures.read

pub returns-clause-read : goal.returns-clause-read
unfolding inputs_under
returns-clause-read g c = Goes _ c.in_ok-arrays.ensures.read c.fit_inputs.ensures.fitted

pub returns-clause-only : goal.returns-clause-only
returns-clause-only g c = record {
  content = c.in_ok-arrays.ensures.only.content;
  loads = counts_none _ _ (λ e. absurd cc)
      (λ e. misfit_no_file (input_table (program_of c.args.program.now)) c.in_ok-arrays.arrays
      (subst (λ r. fitting (input_table (program_of c.args.program.now)) c.in_ok-arrays.arrays (as_stage (λ (arrays : Pairs). arrays) r)) e c.fit_inputs.ensures.fitted))
      c.in_ok-arrays.ensures.only.loads;
  saves = c.in_ok-arrays.ensures.only.saves;
}
