use Rattle.venice_run.proofs.Parts.{next_number}
use Rattle.venice_run.proofs.line.push_numbers.Goals as goal

pub loop-number-preserved : goal.loop-number-preserved
loop-number-preserved c =
    next_number _ c.loop-number.text.items c.push_part.new.line.items c.args.numbers.now c.loop-number.number-index c.loop-number-test.true
    c.loop-number.invariant (rw c.from.ensures at c.in_ok-push_part.ensures)
