use Rattle.std.proofs.Common.{◌≡◌}
use Rattle.pass_plan.specs.Shown.{pass_of}
use Rattle.dma_schedule.specs.PipeList.{tile_fills}
use Rattle.dma_schedule.proofs.tile_blocks.tile_fills.Given as goal

abbrev pub invariant-loop-number : goal.invariant-loop-number
invariant-loop-number l = l.fills.items ≡ tile_fills l.fn.arrays (pass_of l.fn.pass) l.fn.tile l.number l.fn.t
