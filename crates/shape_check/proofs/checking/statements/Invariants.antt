use Rattle.std.proofs.Common.{◌≡◌, ◌≤◌, [], length, drop}
use Rattle.std.specs.Prelude.{All}
use Rattle.shape_check.specs.Scope.{scope_of}
use Rattle.shape_check.specs.Checked.{program_of, IsWhole}
use Rattle.shape_check.specs.Judge.{judge_all}
use Rattle.shape_check.proofs.checking.statements.Given as goal

-- the verdict on all is that on the rest, after the statements so far
abbrev pub invariant-loop-stmt : goal.invariant-loop-stmt
invariant-loop-stmt l = record {
  counted : length l.names ≤ l.stmt-index;
  names : l.names ≡ scope_of (program_of l.checked.items);
  verdict : judge_all [] l.stmts ≡ judge_all (program_of l.checked.items) (drop l.stmt-index l.stmts);
  whole : All IsWhole l.checked.items;
}
