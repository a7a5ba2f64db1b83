use Rattle.std.proofs.Common.{refl}
use Rattle.dma_segments.proofs.laws.worked_rows.Goals as goal

pub returns : goal.returns
returns c = record {
  shifted_by_one = refl;
  shifted_by_five = refl;
  rotated_back = refl;
  stretched = refl;
  part_of_two_rows = refl;
  whole_rows = refl;
  transposed = refl;
  transposed_row = refl;
  part_written = refl;
  column_written = refl;
}
