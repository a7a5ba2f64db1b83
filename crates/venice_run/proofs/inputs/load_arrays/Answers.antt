use Rattle.std.proofs.Common.{arith, subst}
use Rattle.ven_base.specs.Pairs.{Pairs}
use Rattle.venice_run.specs.Inputs.{arrays_in, arrays_under}
use Rattle.venice_run.specs.Stage.{Goes, as_stage}
use Rattle.venice_run.proofs.NoFile.{counts_none, arrays_no_file}
use Rattle.venice_run.proofs.Stages.{ends}
use Rattle.venice_run.proofs.inputs.load_arrays.Goals as goal

pub arrays_of_text-requires : goal.arrays_of_text-requires
arrays_of_text-requires g c = rw c.deref.ensures.value (omega (arith, c.in_ok-text.ensures.short))

pub returns-in_err-text-clause-read : goal.returns-in_err-text-clause-read
unfolding arrays_under
returns-in_err-text-clause-read g c = ends (λ (arrays : Pairs). arrays) _ _ c.from_residual.ensures.1 c.in_err-text.ensures.read

pub returns-clause-read : goal.returns-clause-read
unfolding arrays_under
returns-clause-read g c = Goes _ c.in_ok-text.ensures.read (rw c.deref.ensures.value at c.arrays_of_text.ensures)

pub returns-clause-only : goal.returns-clause-only
returns-clause-only g c = record {
  content = c.in_ok-text.ensures.only.content;
  loads = counts_none _ _ (λ e. absurd cc)
      (λ e. arrays_no_file c.deref.result.now (subst (λ r. arrays_in c.deref.result.now (as_stage (λ (arrays : Pairs). arrays) r)) e c.arrays_of_text.ensures))
      c.in_ok-text.ensures.only.loads;
  saves = c.in_ok-text.ensures.only.saves;
}
