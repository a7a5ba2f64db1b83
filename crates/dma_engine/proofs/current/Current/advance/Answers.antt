use Rattle.dma_engine.proofs.Currents.{goes_on, turns, ends}
use Rattle.dma_engine.proofs.current.Current.advance.Goals as goal

pub returns-then-bytes-self-gt-GROUP_BYTES : goal.returns-then-bytes-self-gt-GROUP_BYTES
returns-then-bytes-self-gt-GROUP_BYTES c = goes_on c.args.self.now c.requires c.if-bytes-self-gt-GROUP_BYTES.true

pub returns-then-rows-self-gt1 : goal.returns-then-rows-self-gt1
returns-then-rows-self-gt1 c = turns c.args.self.now c.requires c.if-bytes-self-gt-GROUP_BYTES.false c.if-rows-self-gt1.true

pub returns-else-rows-self-gt1 : goal.returns-else-rows-self-gt1
returns-else-rows-self-gt1 c = ends c.args.self.now c.requires c.if-bytes-self-gt-GROUP_BYTES.false c.if-rows-self-gt1.false
