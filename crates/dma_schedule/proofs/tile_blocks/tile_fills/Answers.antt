use Rattle.std.proofs.Common.{◌≡◌, length, subst, ◌∙◌, arith}
use Rattle.pass_plan.specs.Shown.{pass_of}
use Rattle.dma_schedule.specs.PipeList.{tile_fills}
use Rattle.dma_schedule.proofs.CodeLists.{fills_next}
use Rattle.dma_schedule.proofs.tile_blocks.tile_fills.Goals as goal

pub loop-number-preserved : goal.loop-number-preserved
loop-number-preserved c =
    fills_next c.args.arrays.now (pass_of c.args.pass.now) c.args.tile c.loop-number.number c.args.t c.loop-number.fills.items c.push_fills.new.list.items c.deref.result.now
    (c.deref.ensures.value ∙ c.in_ok-segments.ensures.fills) c.loop-number.invariant c.in_ok-push_fills.ensures

pub returns : goal.returns
returns c =
    let end : c.loop-number.number ≡ length c.args.pass.now.leaves.items = grind (arith, c.loop-number-test.false, c.loop-number.auto.number-end, c.leaf_count-number-end.ensures) in
    subst (λ n. c.loop-number.fills.items ≡ tile_fills c.args.arrays.now (pass_of c.args.pass.now) c.args.tile n c.args.t) end c.loop-number.invariant
