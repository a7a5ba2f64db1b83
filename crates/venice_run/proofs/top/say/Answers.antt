use Rattle.venice_run.proofs.top.say.Goals as goal

pub returns-in-Done : goal.returns-in-Done
returns-in-Done g c = rw c.in-Done.is (rw (c.status.ensures, c.deref.ensures.value) at c.put_text.ensures)

pub returns-in-NotSaved : goal.returns-in-NotSaved
returns-in-NotSaved g c = rw c.in-NotSaved.is c.put_line.ensures
