-- The commands and fills that bring a piece of a leaf into its buffer.
use Rattle.std.specs.Prelude.{ℕ, ℤ, zero, suc, ◌+◌, ◌*◌, Option, None, Some, List, [], ◌∷◌}
use Rattle.std.specs.List.{flat_map}
use Rattle.ven_base.specs.declared.elem.Elem.{Elem}
use Rattle.ven_base.specs.Elem.{size_of}
use Rattle.ven_base.specs.Mapping.{fill_of}
use Rattle.venice_isa.specs.declared.work.DmaWork.{DmaWork}
use Rattle.pass_plan.specs.declared.leaf.Leaf.{Leaf}
use Rattle.pass_plan.specs.declared.parts.Piece.{Piece}
use Rattle.pass_plan.specs.declared.split.ArrayPlace.{ArrayPlace}
use Rattle.dma_segments.specs.declared.segments.Fill.{Fill}
use Rattle.dma_segments.specs.declared.patches.Patch.{Patch}
use Rattle.dma_segments.specs.declared.patches.Sides.{Sides}
use Rattle.dma_segments.specs.Patch.{read_patches}

-- the step from row to row: 0 where there is one row alone
abbrev pub step_between : (rows step : ℕ) → ℕ
step_between zero step = 0
step_between (suc zero) step = 0
step_between (suc (suc rows)) step = step

-- the command of a patch whose first element is this element of the array
abbrev pub command_at : Sides → Patch → ℕ → DmaWork
command_at sides patch source = record {
  mem = sides.array + source * sides.size;
  spad = sides.buffer + patch.to * sides.size;
  rows = patch.rows;
  bytes = patch.cols * sides.size;
  mem_step = step_between patch.rows (patch.from_step * sides.size);
  spad_step = step_between patch.rows (patch.to_step * sides.size);
  tag = 0;
}

abbrev pub fill_at : Sides → Elem → ℤ → Patch → Fill
fill_at sides elem value patch = record {
  at = sides.buffer + patch.to * sides.size;
  elem = elem;
  rows = patch.rows;
  cols = patch.cols;
  step = step_between patch.rows (patch.to_step * sides.size);
  value = value;
}

-- a patch with a source is one command, one without is one fill
abbrev pub command_from : Option ℕ → Sides → Patch → List DmaWork
command_from None sides patch = []
command_from (Some source) sides patch = command_at sides patch source ∷ []

abbrev pub fill_from : Option ℕ → Sides → Elem → ℤ → Patch → List Fill
fill_from None sides elem value patch = fill_at sides elem value patch ∷ []
fill_from (Some source) sides elem value patch = []

abbrev pub commands_of : Sides → List Patch → List DmaWork
commands_of sides patches = flat_map (λ patch. command_from patch.from sides patch) patches

abbrev pub fills_of : Sides → Elem → ℤ → List Patch → List Fill
fills_of sides elem value patches = flat_map (λ patch. fill_from patch.from sides elem value patch) patches

-- where an array's first byte and a buffer's first cell are, for elements of a type
abbrev pub sides_of : Elem → ArrayPlace → ℕ → Sides
sides_of elem array buffer = record { size = size_of elem; array = array.place; buffer = buffer }

pub record ReadList : Type 0 where
  pub commands : List DmaWork
  pub fills : List Fill

abbrev pub read_list : Leaf → ArrayPlace → Piece → (buffer : ℕ) → ReadList
read_list leaf from piece buffer =
    let sides = sides_of leaf.elem from buffer in
    let patches = read_patches leaf.map leaf.shape piece in
    record { commands = commands_of sides patches; fills = fills_of sides leaf.elem (fill_of leaf.map) patches }
