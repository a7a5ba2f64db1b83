use Rattle.std.proofs.Common.{arith}
use Rattle.pass_plan.specs.Shown.{pass_of}
use Rattle.dma_schedule.proofs.Ready.{next_few}
use Rattle.dma_schedule.proofs.pipelining.push_next_reads.Goals as goal

pub overflow_add-t : goal.overflow_add-t
overflow_add-t c = let few = next_few c.args.arrays.now (pass_of c.args.pass.now) c.args.tile c.requires.ready c.args.t c.requires.within in omega (arith, few)
