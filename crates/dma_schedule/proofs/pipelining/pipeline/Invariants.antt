use Rattle.std.proofs.Common.{◌≡◌, take}
use Rattle.std.specs.List.{flat_map}
use Rattle.pass_plan.specs.Tile.{tile_of}
use Rattle.pass_plan.specs.Shown.{passes_of}
use Rattle.dma_schedule.specs.Blocks.{pass_list}
use Rattle.dma_schedule.specs.PipeList.{blocks_of}
use Rattle.dma_schedule.proofs.pipelining.pipeline.Given as goal

abbrev pub invariant-loop-pass : goal.invariant-loop-pass
invariant-loop-pass l =
    l.list.items ≡ flat_map (λ pass. pass_list (blocks_of l.fn.split.arrays.items pass (tile_of pass l.fn.spad))) (passes_of (take l.pass-index l.fn.split.passes.items))
