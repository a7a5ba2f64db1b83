use Rattle.std.proofs.Common.{◌*◌, arith, ap}
use Rattle.pass_plan.specs.Shown.{pass_of}
use Rattle.vector_codegen.proofs.TileCode.{elements_few, room_few}
use Rattle.vector_codegen.proofs.tile_list.tile_shape.Goals as goal

pub overflow_mul-result : goal.overflow_mul-result
overflow_mul-result c = let few = elements_few (pass_of c.args.pass.now) c.args.tile c.args.t c.requires.number in omega (arith, few)

pub overflow_mul-result-2 : goal.overflow_mul-result-2
overflow_mul-result-2 c =
    let few = room_few (pass_of c.args.pass.now) c.args.tile c.args.t c.requires.number in
    let same = ap (λ size. c.args.tile.h * c.args.tile.w * size) c.widest.ensures.value in
    omega (arith, few, same)
