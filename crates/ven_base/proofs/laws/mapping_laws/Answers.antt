use Rattle.ven_base.proofs.Sources.{source_of-inside, result_shape-IsExtent, source_of-section_piece, IsCut-piece, source_of-shift_piece, source_of-rotate_piece, source_of-stretch_block, source_of-stretch_piece, FitsShape-stretch_piece}
use Rattle.ven_base.proofs.laws.mapping_laws.Goals as goal

pub returns : goal.returns
returns c = record {
  inside = source_of-inside;
  shapes = result_shape-IsExtent;
  sections = source_of-section_piece;
  pieces_fit = IsCut-piece;
  stretches = source_of-stretch_piece;
  stretches_fit = FitsShape-stretch_piece;
  shifts = source_of-shift_piece;
  rotations = source_of-rotate_piece;
  blocks = source_of-stretch_block;
}
