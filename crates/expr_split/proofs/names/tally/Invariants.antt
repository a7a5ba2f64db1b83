use Rattle.std.proofs.Common.{take}
use Rattle.expr_split.specs.Tally.{IsTally}
use Rattle.expr_split.proofs.names.tally.Given as goal

abbrev pub invariant-loop-name : goal.invariant-loop-name
invariant-loop-name l = IsTally l.uses.items (take l.name-index l.names) l.count
