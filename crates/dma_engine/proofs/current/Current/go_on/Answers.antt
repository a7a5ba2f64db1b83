use Rattle.std.proofs.Common.{arith}
use Rattle.dma_engine.proofs.Rows.{goes_on_in_row, goes_to_next_row}
use Rattle.dma_engine.proofs.current.Current.go_on.Goals as goal

pub returns-then-count-row_left : goal.returns-then-count-row_left
returns-then-count-row_left c = goes_on_in_row c.args.self.now c.requires.under_way c.args.count (omega (arith, c.if-count-row_left.true, c.row_left.ensures.value))

pub returns-else-count-row_left : goal.returns-else-count-row_left
returns-else-count-row_left c = goes_to_next_row c.args.self.now c.requires.under_way c.args.count (omega (arith, c.if-count-row_left.false, c.row_left.ensures.value, c.requires.in_row)) c.requires.more
