use Rattle.venice_run.proofs.top.comes_to.Goals as goal

pub returns-in-Run-clause-answer : goal.returns-in-Run-clause-answer
returns-in-Run-clause-answer g c = rw c.in-Run.is c.run.ensures.answer

pub returns-in-Eval-clause-answer : goal.returns-in-Eval-clause-answer
returns-in-Eval-clause-answer g c = rw c.in-Eval.is c.eval.ensures.answer

pub returns-in-Check-clause-answer : goal.returns-in-Check-clause-answer
returns-in-Check-clause-answer g c = rw c.in-Check.is c.check.ensures.answer

pub returns-in-Exec-clause-answer : goal.returns-in-Exec-clause-answer
returns-in-Exec-clause-answer g c = rw c.in-Exec.is c.exec.ensures.answer

pub returns-in-Asm-clause-answer : goal.returns-in-Asm-clause-answer
returns-in-Asm-clause-answer g c = rw c.in-Asm.is c.asm.ensures.answer

pub returns-in-Disasm-clause-answer : goal.returns-in-Disasm-clause-answer
returns-in-Disasm-clause-answer g c = rw c.in-Disasm.is c.disasm.ensures.answer

pub returns-in-Explain-clause-answer : goal.returns-in-Explain-clause-answer
returns-in-Explain-clause-answer g c = rw c.in-Explain.is c.explain.ensures.answer

pub returns-in-Build-clause-answer : goal.returns-in-Build-clause-answer
returns-in-Build-clause-answer g c = rw c.in-Build.is c.build.ensures.answer
