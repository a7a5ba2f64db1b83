use Rattle.dma_segments.proofs.Effects.{command_cells, command_places, commands_once, reads_bring, fills_fill, puts_hold, tagged_put}
use Rattle.dma_segments.proofs.Values.{piece_has_values}
use Rattle.dma_segments.proofs.laws.read_laws.Goals as goal

pub returns : goal.returns
returns c = record {
  cells = command_cells;
  places = λ leaf from piece buffer commands fills elem_is put. command_places leaf from piece buffer commands fills put elem_is;
  once = commands_once;
  bring = λ leaf from piece buffer commands fills lanes store elem_is put sides. reads_bring leaf from piece buffer commands fills put lanes store elem_is sides;
  fill = λ leaf from piece buffer commands fills before after put done. fills_fill leaf from piece buffer commands fills put before after done;
  hold = λ leaf from piece buffer commands fills lanes store after elem_is put sides done. puts_hold leaf from piece buffer commands fills put lanes store after elem_is sides done;
  values = piece_has_values;
  tags = λ leaf from piece buffer commands fills tag put. tagged_put leaf from piece buffer commands fills put tag;
}
