use Rattle.image_loader.proofs.Appending.{table_more}
use Rattle.image_loader.proofs.writing.put_table.Goals as goal

pub loop-entry-preserved : goal.loop-entry-preserved
loop-entry-preserved c =
    table_more c.args.arrays.now c.loop-entry.entry-index c.entry-item.result c.args.bytes.now.items c.loop-entry.bytes.items c.put_entry.new.bytes.items
    c.loop-entry-test.true c.entry-item.is c.loop-entry.invariant c.in_ok-put_entry.ensures
