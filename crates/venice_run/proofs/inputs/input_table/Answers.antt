use Rattle.venice_run.proofs.Tables.{next_entry, last_entry}
use Rattle.venice_run.proofs.inputs.input_table.Goals as goal

pub loop-stmt-preserved : goal.loop-stmt-preserved
loop-stmt-preserved c =
    next_entry c.stmt-item.result c.loop-stmt.table.items c.push_input.new.table.items _ c.args.stmts.now c.loop-stmt.stmt-index c.stmt-item.is c.loop-stmt-test.true c.loop-stmt.invariant c.in_ok-push_input.ensures

pub returns : goal.returns
returns c = last_entry c.loop-stmt.table.items _ c.args.stmts.now c.loop-stmt.stmt-index c.loop-stmt-test.false c.loop-stmt.invariant
