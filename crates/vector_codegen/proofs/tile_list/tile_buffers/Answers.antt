use Rattle.std.proofs.Common.{arith}
use Rattle.pass_plan.specs.Shown.{pass_of}
use Rattle.vector_codegen.proofs.TileCode.{is_small, tile_is_some}
use Rattle.vector_codegen.proofs.tile_list.tile_buffers.Goals as goal

pub overflow_cast-result : goal.overflow_cast-result
overflow_cast-result c =
    let small = is_small (pass_of c.args.pass.now) c.requires.sound in
    let few = small.few_leaves in
    omega (arith, c.len.ensures, few)

pub tiles_per_row-requires : goal.tiles_per_row-requires
tiles_per_row-requires c = (tile_is_some (pass_of c.args.pass.now) c.args.tile c.args.t c.requires.sound c.requires.number).1
