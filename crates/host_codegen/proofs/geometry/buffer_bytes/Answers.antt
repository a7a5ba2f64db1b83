use Rattle.std.proofs.Common.{◌*◌, arith, ap}
use Rattle.pass_plan.specs.Shown.{pass_of}
use Rattle.dma_schedule.proofs.Ready.{bytes_few, elements_few}
use Rattle.host_codegen.proofs.geometry.buffer_bytes.Goals as goal

pub overflow_mul-result : goal.overflow_mul-result
overflow_mul-result c = let few = elements_few c.args.arrays.now (pass_of c.args.pass.now) c.args.tile c.requires in omega (arith, few)

pub overflow_mul-result-2 : goal.overflow_mul-result-2
overflow_mul-result-2 c =
    let few = bytes_few c.args.arrays.now (pass_of c.args.pass.now) c.args.tile c.requires in
    let same = ap (λ size. c.args.tile.h * c.args.tile.w * size) c.widest.ensures.value in
    omega (arith, few, same)
