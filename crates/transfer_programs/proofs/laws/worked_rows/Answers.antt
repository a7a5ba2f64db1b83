use Rattle.std.proofs.Common.{refl}
use Rattle.transfer_programs.proofs.laws.worked_rows.Goals as goal

pub returns : goal.returns
returns c = record {
  part = refl;
  whole_rows = refl;
  one_row = refl;
  shifted = refl;
  shifted_fills = refl;
  inside_fills = refl;
  back = refl;
  back_fills = refl;
  far = refl;
  far_fills = refl;
  rotated = refl;
  cut = refl;
  stretched = refl;
  transposed = refl;
  part_written = refl;
  column_written = refl;
}
