use Rattle.image_loader.specs.Clear.{AreEntriesRead}
use Rattle.image_loader.proofs.reading.read_table.Given as goal

abbrev pub invariant-loop : goal.invariant-loop
invariant-loop l = AreEntriesRead l.bytes l.arrays.items l.place l.counter
