use Rattle.pass_plan.specs.Shown.{pass_of}
use Rattle.dma_schedule.proofs.Ready.{some_sides}
use Rattle.host_codegen.proofs.geometry.layout_of.Goals as goal

pub div_ceil-requires : goal.div_ceil-requires
div_ceil-requires c = (some_sides c.args.arrays.now (pass_of c.args.pass.now) c.args.tile c.requires).1

pub tiles_per_row-requires : goal.tiles_per_row-requires
tiles_per_row-requires c = (some_sides c.args.arrays.now (pass_of c.args.pass.now) c.args.tile c.requires).1
