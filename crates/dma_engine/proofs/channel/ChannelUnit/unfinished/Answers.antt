use Rattle.std.proofs.Common.{subst}
use Rattle.spad_store.specs.Queue.{IsQueue}
use Rattle.dma_engine.specs.Direction.{HasBytes, channel_course}
use Rattle.dma_engine.proofs.Kept.{queue_is}
use Rattle.dma_engine.proofs.channel.ChannelUnit.unfinished.Goals as goal

pub returns-else-is_none-clause-in_order : goal.returns-else-is_none-clause-in_order
returns-else-is_none-clause-in_order g c =
    let direction = g.D.Directed.DIRECTION in
    subst (IsQueue (channel_course direction) HasBytes 8) c.self.view_is (queue_is direction c.self.inside.first c.self.inside.others c.self.invariant)
