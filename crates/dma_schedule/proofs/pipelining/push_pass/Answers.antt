use Rattle.pass_plan.specs.Shown.{pass_of}
use Rattle.dma_schedule.proofs.Ready.{tiles_there}
use Rattle.dma_schedule.proofs.pipelining.push_pass.Goals as goal

pub push_tile_reads-requires-clause-within : goal.push_tile_reads-requires-clause-within
push_tile_reads-requires-clause-within c = tiles_there c.args.arrays.now (pass_of c.args.pass.now) c.args.tile c.requires
