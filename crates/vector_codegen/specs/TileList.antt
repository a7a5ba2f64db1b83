-- The vector instructions of a tile: its fills, one instruction for each step of the order, and those of the root.
use Rattle.std.specs.Prelude.{ℕ, ◌%◌, Bool, true, false, not, List, [], ◌∷◌, ◌++◌, map, length}
use Rattle.venice_isa.specs.declared.work.VecWork.{VecWork}
use Rattle.pass_plan.specs.declared.parts.Tile.{Tile}
use Rattle.pass_plan.specs.declared.pass.PassKind.{PassKind}
use Rattle.pass_plan.specs.Label.{label_of}
use Rattle.pass_plan.specs.Pass.{Pass}
use Rattle.pass_plan.specs.Buffers.{is_map, buffer_bytes, output_half, piece_rows, piece_columns, begins_row}
use Rattle.buffer_lifetimes.specs.Step.{Step}
use Rattle.dma_segments.specs.declared.segments.Fill.{Fill}
pub use Rattle.dma_segments.specs.FillWork.{fill_work}
use Rattle.vector_codegen.specs.Work.{Shape, flat, Buffers, slot_buffer, step_work}
use Rattle.vector_codegen.specs.Root.{root_works}

-- one instruction for each step before the last, and these for the last
abbrev pub works_with : (Step → List VecWork) → Shape → Buffers → List Step → List VecWork
works_with root shape b [] = []
works_with root shape b (step ∷ []) = root step
works_with root shape b (step ∷ next ∷ steps) =
    step_work shape b false step (slot_buffer b step.to) ∷ works_with root shape b (next ∷ steps)

abbrev pub works_in : PassKind → Shape → Buffers → (first : Bool) → List Fill → List Step → List VecWork
works_in kind shape b first fills steps =
    map fill_work fills ++ works_with (root_works kind shape b first) (flat shape) b steps

-- ---- the tile of a pass

abbrev pub tile_shape : Pass → Tile → (t : ℕ) → Shape
tile_shape pass tile t =
    record { room = buffer_bytes pass tile; rows = piece_rows pass tile t; cols = piece_columns pass tile t }

abbrev pub tile_buffers : Pass → Tile → (t : ℕ) → Buffers
tile_buffers pass tile t = record {
  leaves = length pass.leaves;
  slots = label_of pass.tree;
  in_half = t % 2;
  out_half = output_half pass tile t;
  has_partial = not (is_map pass.kind);
}

-- the instructions of tile t
abbrev pub tile_list : Pass → Tile → (t : ℕ) → List Fill → List Step → List VecWork
tile_list pass tile t fills steps =
    works_in pass.kind (tile_shape pass tile t) (tile_buffers pass tile t) (begins_row pass tile t) fills steps
