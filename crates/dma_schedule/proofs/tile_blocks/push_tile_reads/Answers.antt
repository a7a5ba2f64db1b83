use Rattle.std.proofs.Common.{◌≡◌, ◌++◌, length, subst, ◌∙◌, arith}
use Rattle.pass_plan.specs.Shown.{pass_of}
use Rattle.dma_schedule.specs.PipeList.{tile_reads}
use Rattle.dma_schedule.proofs.CodeLists.{reads_next}
use Rattle.dma_schedule.proofs.tile_blocks.push_tile_reads.Goals as goal

pub loop-number-preserved : goal.loop-number-preserved
loop-number-preserved c =
    reads_next c.args.arrays.now (pass_of c.args.pass.now) c.args.tile c.loop-number.number c.args.t c.args.list.now.items c.loop-number.list.items c.push_reads.new.list.items c.deref.result.now
    (c.deref.ensures.value ∙ c.in_ok-segments.ensures.commands) c.loop-number.invariant c.in_ok-push_reads.ensures

pub returns : goal.returns
returns c =
    let end : c.loop-number.number ≡ length c.args.pass.now.leaves.items = grind (arith, c.loop-number-test.false, c.loop-number.auto.number-end, c.leaf_count-number-end.ensures) in
    subst (λ n. c.loop-number.list.items ≡ c.args.list.now.items ++ tile_reads c.args.arrays.now (pass_of c.args.pass.now) c.args.tile n c.args.t) end c.loop-number.invariant
