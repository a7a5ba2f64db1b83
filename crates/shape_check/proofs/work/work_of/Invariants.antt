use Rattle.std.proofs.Common.{◌≡◌, ◌+◌, ◌*◌, ◌≤◌, take}
use Rattle.std.specs.List.{sum_by}
use Rattle.ven_base.specs.Extent.{element_limit}
use Rattle.shape_check.specs.Statement.{in_value}
use Rattle.shape_check.specs.Checked.{statement_of, nodes_of, statement_work}
use Rattle.shape_check.proofs.work.work_of.Given as goal

abbrev pub invariant-loop-stmt : goal.invariant-loop-stmt
invariant-loop-stmt l = record {
  value : l.work ≡ sum_by (λ s. statement_work (statement_of s)) (take l.stmt-index l.stmts);
  within : l.work ≤ (sum_by (λ s. in_value 0 nodes_of (statement_of s)) (take l.stmt-index l.stmts) + l.stmt-index) * element_limit;
}
