use Rattle.std.proofs.Common.{ℕ, ◌<◌}
use Rattle.std.specs.Prelude.{slice_index}
use Rattle.image_loader.specs.Faults.{FitsMagic}
use Rattle.image_loader.specs.Clear.{IsReadTo}
use Rattle.image_loader.proofs.reading.read_magic.Given as goal

abbrev pub invariant-loop-i : goal.invariant-loop-i
invariant-loop-i l = record {
  read : IsReadTo l.bytes l.i;
  fits : (j : ℕ) → j < l.i → FitsMagic j (slice_index l.bytes j);
}
