use Rattle.std.proofs.Common.{◌<◌, sym, subst, arith}
use Rattle.pass_plan.specs.Shown.{pass_of}
use Rattle.dma_schedule.proofs.Ready.{some_per_row, some_sides, next_few}
use Rattle.dma_schedule.proofs.CodeLists.{is_last}
use Rattle.dma_schedule.proofs.layout.ends_row.Goals as goal

pub overflow_add-result : goal.overflow_add-result
overflow_add-result c = let few = next_few c.args.arrays.now (pass_of c.args.pass.now) c.args.tile c.requires.ready c.args.t c.requires.within in omega (arith, few)

pub tiles_per_row-requires : goal.tiles_per_row-requires
tiles_per_row-requires c = (some_sides c.args.arrays.now (pass_of c.args.pass.now) c.args.tile c.requires.ready).1

pub nonzero_rem-result : goal.nonzero_rem-result
nonzero_rem-result c = subst (λ n. 0 < n) (sym c.tiles_per_row.ensures) (some_per_row c.args.arrays.now (pass_of c.args.pass.now) c.args.tile c.requires.ready)

pub returns : goal.returns
returns c = is_last c.args.arrays.now (pass_of c.args.pass.now) c.args.tile c.args.t c.tiles_per_row.result c.tiles_per_row.ensures
