use Rattle.std.proofs.Common.{◌≡◌, length}
use Rattle.image_loader.specs.Reading.{instr_place}
use Rattle.image_loader.specs.Clear.{IsReadTo, AreRead}
use Rattle.image_loader.proofs.reading.read_instrs.Given as goal

abbrev pub invariant-loop-k : goal.invariant-loop-k
invariant-loop-k l = record {
  count : length l.instrs.items ≡ l.k;
  are : AreRead l.bytes l.instrs.items;
  read : IsReadTo l.bytes (instr_place l.bytes l.k);
}
