use Rattle.std.proofs.Common.{◌≡◌, take}
use Rattle.std.specs.Prelude.{map}
use Rattle.dma_segments.specs.Patch.{with_rows_joined}
use Rattle.dma_segments.specs.ReadList.{commands_of, fills_of}
use Rattle.dma_segments.proofs.commands.segments.Given as goal

abbrev pub invariant-loop-patch : goal.invariant-loop-patch
invariant-loop-patch l = record {
  commands : l.found.commands.items ≡ commands_of l.sides (map with_rows_joined (take l.patch-index l.patches));
  fills : l.found.fills.items ≡ fills_of l.sides l.elem l.value (map with_rows_joined (take l.patch-index l.patches));
}
