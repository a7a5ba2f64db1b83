use Rattle.array_syntax.proofs.Lines.{line_put, kept_at, all_put}
use Rattle.array_syntax.proofs.printing.print.Goals as goal

pub print_line-requires : goal.print_line-requires
print_line-requires c = kept_at c.args.program.now.stmts c.as_slice-stmt-items.result.now c.loop-stmt.stmt-index c.stmt-item.result c.as_slice-stmt-items.ensures c.loop-stmt-test.true c.stmt-item.is c.requires.each

pub loop-stmt-preserved : goal.loop-stmt-preserved
loop-stmt-preserved c = line_put c.args.program.now.stmts c.as_slice-stmt-items.result.now c.loop-stmt.stmt-index c.stmt-item.result c.loop-stmt.text.items c.print_line.new.text.items c.as_slice-stmt-items.ensures c.loop-stmt-test.true c.stmt-item.is c.loop-stmt.invariant c.in_ok-print_line.ensures

pub returns-clause-denotes : goal.returns-clause-denotes
returns-clause-denotes c = all_put c.args.program.now c.as_slice-stmt-items.result.now c.loop-stmt.stmt-index c.loop-stmt.text.items c.requires c.as_slice-stmt-items.ensures c.loop-stmt.auto.stmt-index-end c.loop-stmt-test.false c.loop-stmt.invariant
