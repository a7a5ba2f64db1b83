use Rattle.std.proofs.Common.{add-one}
use Rattle.venice_run.proofs.Cuts.{cut_at, one_line}
use Rattle.venice_run.proofs.lines.line_length.Goals as goal

pub returns-in-Some-clause-cut : goal.returns-in-Some-clause-cut
returns-in-Some-clause-cut c = rw add-one (cut_at c.args.text.now c.in-Some.at c.in-Some.ensures.0.high c.in-Some.ensures.0.before c.in-Some.ensures.1)

pub returns-in-None-clause-cut : goal.returns-in-None-clause-cut
returns-in-None-clause-cut c = one_line c.args.text.now c.requires c.in-None.ensures
