use Rattle.std.proofs.Common.{◌≡◌, ◌++◌, take}
use Rattle.dma_schedule.proofs.tile_blocks.push_fills.Given as goal

abbrev pub invariant-loop-fill : goal.invariant-loop-fill
invariant-loop-fill l = l.list.items ≡ l.fn.list.items ++ take l.fill-index l.fn.fills
