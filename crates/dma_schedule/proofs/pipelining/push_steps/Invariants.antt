use Rattle.std.proofs.Common.{◌≡◌, ◌++◌}
use Rattle.pass_plan.specs.Shown.{pass_of}
use Rattle.dma_schedule.specs.Blocks.{tile_steps}
use Rattle.dma_schedule.specs.PipeList.{blocks_of}
use Rattle.dma_schedule.proofs.pipelining.push_steps.Given as goal

abbrev pub invariant-loop-t : goal.invariant-loop-t
invariant-loop-t l = l.list.items ≡ l.fn.list.items ++ tile_steps (blocks_of l.fn.arrays (pass_of l.fn.pass) l.fn.tile) l.t
