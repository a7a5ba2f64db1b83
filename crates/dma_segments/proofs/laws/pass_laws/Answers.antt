use Rattle.dma_segments.proofs.Values.{leaf_cells, reads_show}
use Rattle.dma_segments.proofs.WriteEffects.{result_cells, piece_places, writes_show}
use Rattle.dma_segments.proofs.laws.pass_laws.Goals as goal

pub returns : goal.returns
returns c = record {
  leaf_cells = λ pass tile number t p within. leaf_cells pass tile number t within p;
  leaf_bytes = λ pass tile number t from arrays commands fills lanes store within. reads_show pass tile number t within from arrays commands fills lanes store;
  result_cells = result_cells;
  piece_places = λ pass tile t place p last. piece_places pass tile t place p last;
  piece_bytes = λ pass tile t place arrays commands lanes store inside. writes_show pass tile t place arrays commands lanes store inside;
}
