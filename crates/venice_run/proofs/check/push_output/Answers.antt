use Rattle.venice_run.proofs.Listing.{output_is}
use Rattle.venice_run.proofs.check.push_output.Goals as goal

pub returns-in-Output : goal.returns-in-Output
returns-in-Output c = rw (output_is c.args.stmt.now c.requires c.in-Output.is) c.push_heading.ensures
