use Rattle.std.proofs.Common.{arith}
use Rattle.pass_plan.specs.Shown.{pass_of}
use Rattle.dma_schedule.proofs.Ready.{small}
use Rattle.host_codegen.proofs.geometry.leaf_count.Goals as goal

pub overflow_cast-result : goal.overflow_cast-result
overflow_cast-result c =
    let is = small c.args.arrays.now (pass_of c.args.pass.now) c.args.tile c.requires in
    omega (arith, c.len.ensures, is.few_leaves)
