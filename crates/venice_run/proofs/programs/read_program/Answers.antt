use Rattle.std.proofs.Common.{arith, subst}
use Rattle.shape_check.specs.Checked.{program_of}
use Rattle.venice_run.specs.Programs.{program_in, program_under}
use Rattle.venice_run.specs.Stage.{Goes, as_stage}
use Rattle.venice_run.proofs.NoFile.{counts_none, program_no_file}
use Rattle.venice_run.proofs.Stages.{ends}
use Rattle.venice_run.proofs.programs.read_program.Goals as goal

pub program_of_text-requires : goal.program_of_text-requires
program_of_text-requires g c = rw c.deref.ensures.value (omega (arith, c.in_ok-text.ensures.short))

pub returns-in_err-text-clause-read : goal.returns-in_err-text-clause-read
unfolding program_under
returns-in_err-text-clause-read g c = ends program_of _ _ c.from_residual.ensures.1 c.in_err-text.ensures.read

pub returns-clause-read : goal.returns-clause-read
unfolding program_under
returns-clause-read g c = Goes _ c.in_ok-text.ensures.read (rw c.deref.ensures.value at c.program_of_text.ensures)

pub returns-clause-only : goal.returns-clause-only
returns-clause-only g c = record {
  content = c.in_ok-text.ensures.only.content;
  loads = counts_none _ _ (λ e. absurd cc)
      (λ e. program_no_file c.deref.result.now (subst (λ r. program_in c.deref.result.now (as_stage program_of r)) e c.program_of_text.ensures))
      c.in_ok-text.ensures.only.loads;
  saves = c.in_ok-text.ensures.only.saves;
}
