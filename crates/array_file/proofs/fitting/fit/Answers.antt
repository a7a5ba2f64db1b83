use Rattle.array_file.proofs.Fittings.{item_at, entry_misfit, more_fit}
use Rattle.array_file.proofs.fitting.fit.Goals as goal

pub returns-in-Err : goal.returns-in-Err
returns-in-Err c =
    let entry = c.entry-item.result in
    entry_misfit c.args.arrays.now c.args.table.now c.loop-entry.entry-index entry c.in-Err.fault c.loop-entry.invariant (item_at c.args.table.now c.loop-entry.entry-index entry c.loop-entry-test.true c.entry-item.is) c.in-Err.ensures

pub loop-entry-preserved : goal.loop-entry-preserved
loop-entry-preserved c =
    let entry = c.entry-item.result in
    more_fit c.args.arrays.now c.args.table.now c.loop-entry.entry-index entry c.loop-entry.invariant (item_at c.args.table.now c.loop-entry.entry-index entry c.loop-entry-test.true c.entry-item.is) c.in-Ok.ensures
