use Rattle.shape_check.specs.Occurrences.{names_in}
use Rattle.expr_split.proofs.Loops.{occurrences_more}
use Rattle.expr_split.proofs.names.all_names.Goals as goal

pub loop-stmt-preserved : goal.loop-stmt-preserved
loop-stmt-preserved c =
    occurrences_more names_in c.args.stmts.now c.loop-stmt.stmt-index c.stmt-item.result c.loop-stmt.names.items c.push_statement_names.new.names.items c.loop-stmt-test.true c.stmt-item.is c.loop-stmt.invariant c.in_ok-push_statement_names.ensures
