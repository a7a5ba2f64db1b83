use Rattle.std.proofs.Common.{sym}
use Rattle.expr_split.proofs.Seen.{elem_of-node}
use Rattle.expr_split.proofs.drafts.elem_of.Goals as goal

pub returns : goal.returns
returns c = sym (elem_of-node c.args.node.now)
