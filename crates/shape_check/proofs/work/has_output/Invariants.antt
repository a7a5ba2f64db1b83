use Rattle.std.proofs.Common.{◌≡◌, false, take}
use Rattle.std.specs.List.{list_any}
use Rattle.shape_check.specs.Statement.{is_output}
use Rattle.shape_check.specs.Checked.{statement_of}
use Rattle.shape_check.proofs.work.has_output.Given as goal

abbrev pub invariant-loop-stmt : goal.invariant-loop-stmt
invariant-loop-stmt l = list_any (λ s. is_output (statement_of s)) (take l.stmt-index l.stmts) ≡ false
