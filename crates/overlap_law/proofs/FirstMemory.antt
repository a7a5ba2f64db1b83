-- The first memory of a run has the image's size.
use Rattle.std.proofs.Common.{◌≡◌, inl, inr, ℕ, zero, suc, ◌+◌, ◌*◌, ◌<◌, ◌≤◌, sym, refl, subst, ap, ◌∙◌, arith, List, [], ◌∷◌, length, take, get_or, slice_get, replicate, Option, Some, None, IfSome, Bool, true, false, cond}
use Rattle.std.specs.Prelude.{All, ℤ}
use Rattle.std.specs.List.{sum_by}
use Rattle.std.specs.Option.{IsSomeAnd}
use Rattle.std.proofs.lemmas.Bool.{cases_lt}
use Rattle.std.proofs.lemmas.Option.{same_Some}
use Rattle.std.proofs.lemmas.List.{length-replicate}
use Rattle.std.proofs.lemmas.List.Elements.{All-head, All-tail}
use Rattle.std.proofs.lemmas.List.Concat.{length-flat_map}
use Rattle.std.proofs.lemmas.List.Sums.{sum_by-cons}
use Rattle.std.proofs.lemmas.Map.Views.{IfSome-lookup_from_All}
use Rattle.std.specs.Str.{bytes_eq}
use Rattle.ven_base.specs.declared.elem.Elem.{Elem}
use Rattle.ven_base.specs.declared.elem.Elem.TheVariants.{U8, I8, U16, I16, U32, I32}
use Rattle.ven_base.specs.declared.entry.Entry.{Entry}
use Rattle.ven_base.specs.Elem.{size_of}
use Rattle.ven_base.specs.Extent.{Extent, elements_of}
use Rattle.ven_base.specs.Grid.{Grid, IsGrid}
use Rattle.ven_base.specs.Pairs.{Pairs, ArePairs, array_named}
use Rattle.ven_base.specs.Store.{Place, in_cells, in_memory, Size, HasPlace}
use Rattle.venice_isa.specs.declared.issue.Issue.{Issue}
use Rattle.venice_isa.specs.Element.{bytes_of}
use Rattle.venice_isa.specs.Encoding.{type_number}
use Rattle.venice_isa.proofs.Overwrites.{overwritten_length}
use Rattle.venice_isa.proofs.Spellings.{low_bytes_length}
use Rattle.array_file.specs.Fitting.{Fits}
use Rattle.image_loader.specs.Image.{ImageContents, IsImage, raw_entry, raw_entries}
use Rattle.image_loader.specs.declared.table.EntryPart.TheVariants as parts
use Rattle.image_loader.specs.Table as table
use Rattle.venice_machine.specs.Start.{array_bytes, with_grid_bytes, with_inputs}
use Rattle.overlap_law.specs.Laws.{StartHasSizes, IsInOrder}

-- ---- the bytes of an array

same_for_each : {A : Type 0} (f : A → ℕ) (n : ℕ) → ((x : A) → f x ≡ n) → (xs : List A) → sum_by f xs ≡ length xs * n
same_for_each f n each [] = omega arith
same_for_each f n each (x ∷ xs) = omega (arith, sum_by-cons f x xs, each x, same_for_each f n each xs)

bytes_counted : (grid : Grid) → IsGrid grid → length (array_bytes grid) ≡ elements_of grid.shape * size_of grid.elem
bytes_counted grid is_grid =
    length-flat_map (bytes_of grid.elem) grid.values
    ∙ same_for_each (λ (value : ℤ). length (bytes_of grid.elem value)) (size_of grid.elem) (λ value. low_bytes_length (size_of grid.elem) _) grid.values
    ∙ ap (λ n. n * size_of grid.elem) is_grid.filled

-- ---- memory with inputs

-- an array that is put at the entry's place lies inside
abbrev LiesIn : Pairs → ℕ → Entry → Type 0
LiesIn inputs size entry = entry.output ≡ false → (grid : Grid) → array_named inputs entry.name ≡ Some grid → entry.place + length (array_bytes grid) ≤ size

array_keeps : (found : Option Grid) (place : ℕ) (memory : List ℕ) → ((grid : Grid) → found ≡ Some grid → place + length (array_bytes grid) ≤ length memory) → length (with_grid_bytes found place memory) ≡ length memory
array_keeps None place memory inside = refl
array_keeps (Some grid) place memory inside = overwritten_length memory place (array_bytes grid) (inside grid refl)

inputs_keep : (entries : List Entry) (inputs : Pairs) (memory : List ℕ) → All (LiesIn inputs (length memory)) entries → length (with_inputs entries inputs memory) ≡ length memory
inputs_keep [] inputs memory inside = refl
inputs_keep (entry ∷ entries) inputs memory inside = go entry.output refl (inputs_keep entries inputs)
  where
    here : LiesIn inputs (length memory) entry
    here = All-head (LiesIn inputs (length memory)) entry entries inside

    rest : All (LiesIn inputs (length memory)) entries
    rest = All-tail (LiesIn inputs (length memory)) entry entries inside

    go : (output : Bool) → entry.output ≡ output → ((memory : List ℕ) → All (LiesIn inputs (length memory)) entries → length (with_inputs entries inputs memory) ≡ length memory)
        → length (with_inputs entries inputs (cond output memory (with_grid_bytes (array_named inputs entry.name) entry.place memory))) ≡ length memory
    go true e later = later memory rest
    go false e later =
        let same : length (with_grid_bytes (array_named inputs entry.name) entry.place memory) ≡ length memory = array_keeps (array_named inputs entry.name) entry.place memory (here e) in
        later (with_grid_bytes (array_named inputs entry.name) entry.place memory) (subst (λ n. All (LiesIn inputs n) entries) (sym same) rest) ∙ same

-- ---- the table's rule

elem_is : (elem : Elem) → table.elem_of (type_number elem) ≡ elem
elem_is U8 = refl
elem_is I8 = refl
elem_is U16 = refl
elem_is I16 = refl
elem_is U32 = refl
elem_is I32 = refl

raw_at : (entries : List Entry) (k : ℕ) (d : Entry) → k < length entries → slice_get (raw_entries entries) k ≡ Some (raw_entry (get_or entries k d))
raw_at [] k d within = absurd (omega arith)
raw_at (entry ∷ entries) zero d within = refl
raw_at (entry ∷ entries) (suc k) d within = raw_at entries k d (omega arith)

entry_at : (entries : List Entry) (k : ℕ) (d : Entry) → k < length entries → slice_get entries k ≡ Some (get_or entries k d)
entry_at [] k d within = absurd (omega arith)
entry_at (entry ∷ entries) zero d within = refl
entry_at (entry ∷ entries) (suc k) d within = entry_at entries k d (omega arith)

module _ (image : ImageContents) (is_image : IsImage image) (inputs : Pairs) (are_pairs : ArePairs inputs) (fits : Fits inputs image.arrays) where
  -- each array of the table lies in memory
  stands : (k : ℕ) (d : Entry) → k < length image.arrays → (get_or image.arrays k d).place + elements_of (get_or image.arrays k d).shape * size_of (get_or image.arrays k d).elem ≤ image.memory
  stands k d within =
      let entry = get_or image.arrays k d in
      let size : table.array_bytes (raw_entry entry) ≡ elements_of entry.shape * size_of entry.elem = ap (λ elem. elements_of entry.shape * size_of elem) (elem_is entry.elem) in
      elim (cases_lt image.memory (entry.place + table.array_bytes (raw_entry entry))) [
        | inl past ↦
            absurd (is_image.table (table.EntryField k parts.Place)
            (subst (λ slot. IsSomeAnd slot (λ raw. table.BreaksEntry image.memory (take k (raw_entries image.arrays)) raw parts.Place)) (sym (raw_at image.arrays k d within)) (inl past)))
        | inr inside ↦ omega (arith, inside, size)
      ]

  grid_found : (name : List ℕ) (grid : Grid) → array_named inputs name ≡ Some grid → IsGrid grid
  grid_found name grid found = subst (λ slot. IfSome slot IsGrid) found (IfSome-lookup_from_All IsGrid (bytes_eq name) inputs are_pairs.arrays)

  inputs_inside : All (LiesIn inputs image.memory) image.arrays
  inputs_inside k d within output grid found =
      let entry = get_or image.arrays k d in
      let fitting = fits.inputs k entry (record { stands = entry_at image.arrays k d within; input = output }) in
      let same : fitting.0 ≡ grid = same_Some fitting.0 grid (sym fitting.1.is ∙ found) in
      let elem : grid.elem ≡ entry.elem = ap (λ (g : Grid). g.elem) (sym same) ∙ fitting.2 in
      let shape : grid.shape ≡ entry.shape = ap (λ (g : Grid). g.shape) (sym same) ∙ fitting.3 in
      let bytes : length (array_bytes grid) ≡ elements_of entry.shape * size_of entry.elem =
      bytes_counted grid (grid_found entry.name grid found) ∙ ap (λ (s : Extent). elements_of s * size_of grid.elem) shape ∙ ap (λ e. elements_of entry.shape * size_of e) elem in
      omega (arith, bytes, stands k d within)

  pub memory_size : length (with_inputs image.arrays inputs (replicate image.memory 0)) ≡ image.memory
  memory_size =
      let zeros : length (replicate image.memory 0) ≡ image.memory = length-replicate image.memory 0 in
      inputs_keep image.arrays inputs (replicate image.memory 0) (subst (λ n. All (LiesIn inputs n) image.arrays) (sym zeros) inputs_inside) ∙ zeros

pub start_has_sizes : StartHasSizes
start_has_sizes setting is_image are_pairs fits =
    let cells : length (replicate setting.spad (0, false)) ≡ setting.spad = length-replicate setting.spad (0, false) in
    let memory = memory_size setting.image is_image setting.inputs are_pairs fits in
    λ i. record { cells = cells i; memory = memory i }

-- ---- larger cells and memory

has_place_in_larger : (size larger : Size) (place : Place) → size.cells ≤ larger.cells → size.memory ≤ larger.memory → HasPlace size place → HasPlace larger place
has_place_in_larger size larger (in_cells p) cells memory below = omega arith
has_place_in_larger size larger (in_memory p) cells memory below = omega arith

-- an issue that is in order is so in larger ones
pub in_order_in_larger : (size larger : Size) (issue : Issue) → size.cells ≤ larger.cells → size.memory ≤ larger.memory → IsInOrder size issue → IsInOrder larger issue
in_order_in_larger size larger issue cells memory in_order = record {
  counts = in_order.counts;
  in_range = record {
    has_reads = λ place reads. has_place_in_larger size larger place cells memory (in_order.in_range.has_reads place reads);
    has_writes = λ place writes. has_place_in_larger size larger place cells memory (in_order.in_range.has_writes place writes);
  };
}
