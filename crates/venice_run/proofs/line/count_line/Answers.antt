use Rattle.venice_run.proofs.line.count_line.Goals as goal

pub returns : goal.returns
returns c = rw c.bytes.ensures.value at c.line_with.ensures
