-- The command that takes a piece from its buffer to its place in an array.
use Rattle.std.specs.Prelude.{ℕ, ◌+◌, ◌*◌, Some, List, [], ◌∷◌}
use Rattle.ven_base.specs.Extent.{Extent}
use Rattle.venice_isa.specs.declared.work.DmaWork.{DmaWork}
use Rattle.pass_plan.specs.declared.parts.Piece.{Piece}
use Rattle.pass_plan.specs.declared.split.ArrayPlace.{ArrayPlace}
use Rattle.dma_segments.specs.declared.patches.Patch.{Patch}
use Rattle.dma_segments.specs.Patch.{with_rows_joined}
use Rattle.dma_segments.specs.ReadList.{command_at, sides_of}

-- the number of a piece's first element in an array of this shape
abbrev pub first_element : Extent → Piece → ℕ
first_element shape piece = piece.r0 * shape.cols + piece.c0

-- the whole piece, row by row
abbrev pub whole_patch : Extent → Piece → Patch
whole_patch shape piece = record {
  rows = piece.h;
  cols = piece.w;
  to = 0;
  to_step = piece.w;
  from = Some (first_element shape piece);
  from_step = shape.cols;
}

abbrev pub write_list : ArrayPlace → Piece → (buffer : ℕ) → List DmaWork
write_list to piece buffer =
    command_at (sides_of to.elem to buffer) (with_rows_joined (whole_patch to.shape piece))
    (first_element to.shape piece) ∷ []
