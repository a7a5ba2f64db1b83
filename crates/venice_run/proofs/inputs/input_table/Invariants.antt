use Rattle.std.proofs.Common.{◌≡◌, ◌++◌, drop}
use Rattle.shape_check.specs.Checked.{program_of}
use Rattle.expr_split.specs.DeclaredTable.{input_table}
use Rattle.venice_run.proofs.inputs.input_table.Given as goal

abbrev pub invariant-loop-stmt : goal.invariant-loop-stmt
invariant-loop-stmt l = l.table.items ++ input_table (program_of (drop l.stmt-index l.stmts)) ≡ input_table (program_of l.stmts)
