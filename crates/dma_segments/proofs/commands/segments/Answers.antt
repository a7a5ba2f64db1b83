use Rattle.std.proofs.Common.{subst, sym}
use Rattle.dma_segments.specs.declared.patches.Patch.{Patch}
use Rattle.dma_segments.specs.Rooms.{HasRoom}
use Rattle.dma_segments.proofs.Listed.{commands_grow, fills_grow}
use Rattle.dma_segments.proofs.Rooms.{joined_room}
use Rattle.dma_segments.proofs.commands.segments.Goals as goal

pub push_segment-requires : goal.push_segment-requires
push_segment-requires c =
    subst (λ (p : Patch). HasRoom c.args.sides p) (sym c.with_rows_joined-joined.ensures)
    (joined_room c.args.sides _ (c.requires c.loop-patch.patch-index _ c.loop-patch-test.true))

pub loop-patch-preserved : goal.loop-patch-preserved
loop-patch-preserved c = record {
  commands = commands_grow c.args.sides c.args.patches.now c.loop-patch.patch-index _ c.loop-patch-test.true _ _ _ c.with_rows_joined-joined.ensures c.loop-patch.invariant.commands c.in_ok-push_segment.ensures.commands;
  fills = fills_grow c.args.sides c.args.patches.now c.loop-patch.patch-index _ c.loop-patch-test.true c.args.elem _ _ _ _ c.with_rows_joined-joined.ensures c.loop-patch.invariant.fills c.in_ok-push_segment.ensures.fills;
}
