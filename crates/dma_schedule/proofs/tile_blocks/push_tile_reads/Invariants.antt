use Rattle.std.proofs.Common.{◌≡◌, ◌++◌}
use Rattle.pass_plan.specs.Shown.{pass_of}
use Rattle.dma_schedule.specs.PipeList.{tile_reads}
use Rattle.dma_schedule.proofs.tile_blocks.push_tile_reads.Given as goal

abbrev pub invariant-loop-number : goal.invariant-loop-number
invariant-loop-number l = l.list.items ≡ l.fn.list.items ++ tile_reads l.fn.arrays (pass_of l.fn.pass) l.fn.tile l.number l.fn.t
