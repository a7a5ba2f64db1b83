use Rattle.std.proofs.Common.{arith}
use Rattle.venice_run.specs.Answer.{answer_of}
use Rattle.venice_run.specs.Asm.{assembled, asm}
use Rattle.venice_run.specs.Stage.{Goes}
use Rattle.venice_run.proofs.NoFile.{counts_none, assembled_no_file}
use Rattle.venice_run.proofs.Stages.{ends, not_failed}
use Rattle.venice_run.proofs.asm.asm.Goals as goal

pub image_of_text-requires : goal.image_of_text-requires
image_of_text-requires g c = rw c.deref.ensures.value (omega (arith, c.in_ok-lines.ensures.short))

pub returns-in_err-lines-clause-answer : goal.returns-in_err-lines-clause-answer
unfolding asm
returns-in_err-lines-clause-answer g c = ends answer_of _ _ c.from_residual.ensures.1 c.in_err-lines.ensures.read

pub returns-in_err-denoted-clause-answer : goal.returns-in_err-denoted-clause-answer
unfolding asm
returns-in_err-denoted-clause-answer g c =
    Goes _ c.in_ok-lines.ensures.read (ends answer_of _ _ c.from_residual-in_err-denoted.ensures.1 (rw c.deref.ensures.value at c.in_err-denoted.ensures))

pub returns-clause-answer : goal.returns-clause-answer
unfolding asm
returns-clause-answer g c =
    Goes _ c.in_ok-lines.ensures.read (Goes c.in_ok-denoted.denoted (rw c.deref.ensures.value at c.in_ok-denoted.ensures) c.save_image.ensures)

pub returns-in_err-denoted-clause-only : goal.returns-in_err-denoted-clause-only
returns-in_err-denoted-clause-only g c = record {
  content = c.in_ok-lines.ensures.only.content;
  loads = counts_none _ _ (λ e. absurd cc)
      (λ e. not_failed (assembled c.deref.result.now) c.in_err-denoted.field-0.0 c.from_residual-in_err-denoted.result c.from_residual-in_err-denoted.ensures.1 c.in_err-denoted.ensures
      (assembled_no_file c.deref.result.now) e)
      c.in_ok-lines.ensures.only.loads;
  saves = c.in_ok-lines.ensures.only.saves;
}
