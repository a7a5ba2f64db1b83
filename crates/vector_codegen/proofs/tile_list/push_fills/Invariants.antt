use Rattle.std.proofs.Common.{◌≡◌, ◌++◌, map, take}
use Rattle.vector_codegen.specs.TileList.{fill_work}
use Rattle.vector_codegen.proofs.tile_list.push_fills.Given as goal

abbrev pub invariant-loop-fill : goal.invariant-loop-fill
invariant-loop-fill l = l.works.items ≡ l.fn.works.items ++ map fill_work (take l.fill-index l.fn.fills)
