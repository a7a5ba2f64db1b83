use Rattle.std.proofs.Common.{◌≡◌, ◌++◌, take}
use Rattle.image_loader.specs.Image.{table_bytes, raw_entries}
use Rattle.image_loader.proofs.writing.put_table.Given as goal

abbrev pub invariant-loop-entry : goal.invariant-loop-entry
invariant-loop-entry l = l.bytes.items ≡ l.initial.bytes.items ++ table_bytes (raw_entries (take l.entry-index l.arrays))
