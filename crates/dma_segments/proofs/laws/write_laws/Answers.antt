use Rattle.dma_segments.proofs.WriteEffects.{writes_take, write_cells, tagged_take}
use Rattle.dma_segments.proofs.laws.write_laws.Goals as goal

pub returns : goal.returns
returns c = record {
  cells = write_cells;
  take = λ to piece buffer commands lanes store inside. writes_take to piece buffer inside commands lanes store;
  tags = tagged_take;
}
