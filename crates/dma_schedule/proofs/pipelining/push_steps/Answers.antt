use Rattle.std.proofs.Common.{◌≡◌, ◌++◌, subst, arith}
use Rattle.pass_plan.specs.Tile.{tiles_of}
use Rattle.pass_plan.specs.Shown.{pass_of}
use Rattle.dma_schedule.specs.Blocks.{tile_steps}
use Rattle.dma_schedule.specs.PipeList.{blocks_of}
use Rattle.dma_schedule.proofs.CodeLists.{steps_next}
use Rattle.dma_schedule.proofs.pipelining.push_steps.Goals as goal

pub loop-t-preserved : goal.loop-t-preserved
loop-t-preserved c =
    steps_next (blocks_of c.args.arrays.now (pass_of c.args.pass.now) c.args.tile) c.loop-t.t c.args.list.now.items c.loop-t.list.items c.push_step.new.list.items c.loop-t.invariant c.in_ok-push_step.ensures

pub returns : goal.returns
returns c =
    let end : c.loop-t.t ≡ tiles_of c.args.pass.now.domain c.args.tile = grind (arith, c.loop-t-test.false, c.loop-t.auto.t-end, c.tiles-t-end.ensures) in
    subst (λ n. c.loop-t.list.items ≡ c.args.list.now.items ++ tile_steps (blocks_of c.args.arrays.now (pass_of c.args.pass.now) c.args.tile) n) end c.loop-t.invariant
