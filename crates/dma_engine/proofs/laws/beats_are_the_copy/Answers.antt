use Rattle.dma_engine.proofs.Copies.{beats_copy}
use Rattle.dma_engine.proofs.laws.beats_are_the_copy.Goals as goal

pub returns : goal.returns
returns c = beats_copy
