use Rattle.std.proofs.Common.{◌≡◌, ◌++◌, drop, map}
use Rattle.shape_check.specs.Checked.{statement_of}
use Rattle.venice_run.specs.Check.{output_line}
use Rattle.venice_run.specs.Lines.{lines_from}
use Rattle.venice_run.proofs.check.push_outputs.Given as goal

abbrev pub invariant-loop-stmt : goal.invariant-loop-stmt
invariant-loop-stmt l =
    l.text.items ++ lines_from (λ k. output_line) l.stmt-index (map statement_of (drop l.stmt-index l.stmts))
    ≡ l.initial.text.items ++ lines_from (λ k. output_line) 0 (map statement_of l.stmts)
