use Rattle.std.proofs.Common.{◌<◌, sym, subst}
use Rattle.pass_plan.specs.Shown.{pass_of}
use Rattle.dma_schedule.proofs.Ready.{some_per_row, some_sides}
use Rattle.dma_schedule.proofs.layout.output_half.Goals as goal

pub tiles_per_row-requires : goal.tiles_per_row-requires
tiles_per_row-requires c = (some_sides c.args.arrays.now (pass_of c.args.pass.now) c.args.tile c.requires).1

pub nonzero_div-result : goal.nonzero_div-result
nonzero_div-result c = subst (λ n. 0 < n) (sym c.tiles_per_row.ensures) (some_per_row c.args.arrays.now (pass_of c.args.pass.now) c.args.tile c.requires)
