use Rattle.std.proofs.Common.{◌≡◌, ◌+◌, ◌*◌, ◌≤◌, take, map}
use Rattle.image_loader.specs.Image.{raw_entries}
use Rattle.image_loader.specs.Table.{entry_place}
use Rattle.venice_asm.specs.Parts.{raw_array}
use Rattle.venice_asm.specs.Steps.{AreRightBefore}
use Rattle.venice_asm.proofs.assembling.table_of.Given as goal

abbrev pub invariant-loop-array : goal.invariant-loop-array
invariant-loop-array l = record {
  same : raw_entries l.entries.items ≡ take l.array-index (map raw_array l.arrays);
  right : AreRightBefore l.memory (map raw_array l.arrays) l.array-index;
  place : l.place ≡ entry_place (map raw_array l.arrays) l.array-index;
  small : l.place ≤ 20 + 46 * l.array-index;
}
