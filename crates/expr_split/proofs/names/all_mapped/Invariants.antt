use Rattle.std.proofs.Common.{◌≡◌, take}
use Rattle.shape_check.specs.Occurrences.{all_mapped}
use Rattle.shape_check.specs.Checked.{program_of}
use Rattle.expr_split.proofs.names.all_mapped.Given as goal

abbrev pub invariant-loop-stmt : goal.invariant-loop-stmt
invariant-loop-stmt l = l.names.items ≡ all_mapped (take l.stmt-index (program_of l.stmts))
