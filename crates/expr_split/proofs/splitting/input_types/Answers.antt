use Rattle.expr_split.proofs.Placement.{inputs_more}
use Rattle.expr_split.proofs.splitting.input_types.Goals as goal

pub loop-stmt-preserved : goal.loop-stmt-preserved
loop-stmt-preserved c = inputs_more c.args.stmts.now c.loop-stmt.stmt-index c.stmt-item.result c.loop-stmt.types.items c.push_input_type.new.types.items c.loop-stmt-test.true c.stmt-item.is c.loop-stmt.invariant c.in_ok-push_input_type.ensures
