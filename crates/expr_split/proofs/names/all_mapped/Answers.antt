use Rattle.shape_check.specs.Occurrences.{names_under_maps}
use Rattle.expr_split.proofs.Loops.{occurrences_more}
use Rattle.expr_split.proofs.names.all_mapped.Goals as goal

pub loop-stmt-preserved : goal.loop-stmt-preserved
loop-stmt-preserved c =
    occurrences_more names_under_maps c.args.stmts.now c.loop-stmt.stmt-index c.stmt-item.result c.loop-stmt.names.items c.push_statement_mapped.new.names.items c.loop-stmt-test.true c.stmt-item.is c.loop-stmt.invariant c.in_ok-push_statement_mapped.ensures
