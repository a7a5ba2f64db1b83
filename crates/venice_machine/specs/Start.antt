-- The machine before its first cycle, and the arrays that its memory holds.
use Rattle.std.specs.Prelude.{ℕ, ◌+◌, ◌*◌, false, List, [], ◌∷◌, map, replicate, Option, Some, None, if◌then◌else◌}
use Rattle.std.specs.List.{filter, flat_map, range_with_len}
use Rattle.ven_base.specs.declared.entry.Entry.{Entry}
use Rattle.ven_base.specs.Elem.{size_of}
use Rattle.ven_base.specs.Extent.{elements_of}
use Rattle.ven_base.specs.Grid.{Grid}
use Rattle.ven_base.specs.Pairs.{Pairs, array_named}
use Rattle.ven_base.specs.Store.{store_of}
use Rattle.venice_isa.specs.Cell.{part, overwritten}
use Rattle.venice_isa.specs.Element.{bytes_of, number_of}
use Rattle.venice_isa.specs.Host.{start}
use Rattle.image_loader.specs.Image.{ImageContents}
use Rattle.venice_machine.specs.State.{Setup, State}

-- ---- arrays in memory

-- an array's bytes, row by row
abbrev pub array_bytes : Grid → List ℕ
array_bytes grid = flat_map (bytes_of grid.elem) grid.values

-- memory in which the array stands at a place, if there is one
abbrev pub with_grid_bytes : Option Grid → ℕ → List ℕ → List ℕ
with_grid_bytes None place memory = memory
with_grid_bytes (Some grid) place memory = overwritten memory place (array_bytes grid)

-- memory in which each input of the table stands at its place; all else is left alone
abbrev pub with_inputs : List Entry → Pairs → List ℕ → List ℕ
with_inputs [] inputs memory = memory
with_inputs (entry ∷ entries) inputs memory =
    with_inputs entries inputs
    (if entry.output then memory else with_grid_bytes (array_named inputs entry.name) entry.place memory)

-- the number that stands at element k of an entry's array
abbrev pub element_in : List ℕ → Entry → ℕ → List ℕ
element_in memory entry k = part memory (entry.place + k * size_of entry.elem) (size_of entry.elem)

-- the array that memory holds at an entry's place
abbrev pub array_in : List ℕ → Entry → Grid
array_in memory entry = record {
  elem = entry.elem;
  shape = entry.shape;
  values = map (λ k. number_of entry.elem (element_in memory entry k)) (range_with_len 0 (elements_of entry.shape));
}

-- the arrays of the outputs, in the order of the table
abbrev pub outputs_in : List ℕ → List Entry → Pairs
outputs_in memory table = map (λ entry. (entry.name, array_in memory entry)) (filter (λ entry. entry.output) table)

-- ---- before the first cycle

abbrev pub setup_of : ImageContents → (lane_count : ℕ) → Setup
setup_of image lane_count = record { code = image.code; table = image.arrays; lane_count = lane_count }

-- all numbers are 0 and nothing is unfinished; so many cells are 0 and their flags clear; memory holds the inputs at
-- their places, and 0 elsewhere
abbrev pub start_state : ImageContents → (inputs : Pairs) → (spad : ℕ) → State
start_state image inputs spad = record {
  host = start;
  jobs = [];
  store = store_of (replicate spad (0, false)) (with_inputs image.arrays inputs (replicate image.memory 0));
  issues = 0;
  steps = 0;
  cycles = 0;
  end = None;
}
