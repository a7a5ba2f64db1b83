use Rattle.venice_run.proofs.Listing.{greatest_is}
use Rattle.venice_run.proofs.explain.push_most.Goals as goal

pub returns : goal.returns
returns c =
    let most = greatest_is c.args.explained.now.most c.args.explained.now.held.items c.requires in
    rw most (rw c.from.ensures at c.push_line.ensures)
