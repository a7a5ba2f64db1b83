use Rattle.std.proofs.Common.{◌≡◌, take}
use Rattle.shape_check.specs.Checked.{program_of}
use Rattle.expr_split.specs.Places.{input_types}
use Rattle.expr_split.proofs.splitting.input_types.Given as goal

abbrev pub invariant-loop-stmt : goal.invariant-loop-stmt
invariant-loop-stmt l = l.types.items ≡ input_types (take l.stmt-index (program_of l.stmts))
