use Rattle.std.proofs.Common.{◌≡◌, ◌++◌, drop, map}
use Rattle.shape_check.specs.Checked.{program_of}
use Rattle.expr_split.specs.Places.{table_from}
use Rattle.expr_split.specs.Terms.{term_of}
use Rattle.expr_split.proofs.splitting.table_of.Given as goal

abbrev pub invariant-loop-stmt : goal.invariant-loop-stmt
invariant-loop-stmt l = record {
  counted : l.k ≡ l.stmt-index;
  table : table_from l.arrays (program_of l.stmts) (map term_of l.names) ≡ l.table.items ++ table_from l.arrays (drop l.k (program_of l.stmts)) (drop l.k (map term_of l.names));
}
