use Rattle.venice_run.proofs.Cuts.{lines_join}
use Rattle.venice_run.proofs.laws.lines_are_the_text.Goals as goal

pub returns : goal.returns
returns c = lines_join
