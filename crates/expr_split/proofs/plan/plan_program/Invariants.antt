use Rattle.shape_check.specs.Checked.{program_of}
use Rattle.expr_split.specs.Asks.{IsPlanning}
use Rattle.expr_split.proofs.plan.plan_program.Given as goal

abbrev pub invariant-loop-stmt : goal.invariant-loop-stmt
invariant-loop-stmt l = IsPlanning (program_of l.stmts) l.stmt-index l.taken l.names.items l.plan
