use Rattle.std.proofs.Common.{refl}
use Rattle.venice_asm.proofs.Starting.{starts}
use Rattle.venice_asm.proofs.reading.Reading.new.Goals as goal

pub returns : goal.returns
returns c text = starts text _ (record {
  version = refl;
  section = refl;
  phase = refl;
  arrays = c.new.ensures.items;
  array_count = refl;
  labels = c.new-2.ensures.empty;
  instrs = c.new-3.ensures.items;
  references = c.new-4.ensures.items;
  from = refl;
})
