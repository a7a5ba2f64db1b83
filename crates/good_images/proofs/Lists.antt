-- From the first memory the split's list leaves the outputs, where they are done one issue after another.
use Rattle.std.proofs.Common.{◌≡◌, ℕ, ◌+◌, ◌<◌, ◌≤◌, ap, sym, ◌∙◌, refl, subst, arith, List, [], ◌∷◌, length, get_or, map, Contains}
use Rattle.std.specs.Prelude.{All}
use Rattle.std.specs.List.{filter, AllZip}
use Rattle.std.proofs.lemmas.Option.{same_Some, slice_get_within, get_or_from_slice_get}
use Rattle.ven_base.specs.declared.entry.Entry.{Entry}
use Rattle.ven_base.specs.Elem.{IsElement}
use Rattle.ven_base.specs.Extent.{elements_of}
use Rattle.ven_base.specs.Grid.{Grid, IsGrid}
use Rattle.ven_base.specs.Pairs.{Pairs, ArePairs}
use Rattle.ven_base.specs.Store.{Store, Size, store_size}
use Rattle.venice_isa.specs.Beat.{sequential}
use Rattle.venice_isa.specs.Cell.{part}
use Rattle.venice_isa.specs.Code.{Listing}
use Rattle.array_file.specs.Fitting.{Fits}
use Rattle.image_loader.specs.Image.{ImageContents, IsImage}
use Rattle.venice_machine.specs.Start.{array_bytes, array_in}
use Rattle.venice_machine.specs.Inside.{AllStandIn}
use Rattle.venice_machine.proofs.Inputs.{stand_in, input_inside}
use Rattle.shape_check.specs.Checked.{IsCheckedProgram}
use Rattle.shape_check.specs.Meaning.{meaning_of, FitInputs}
use Rattle.shape_check.specs.Statement.{Statement}
use Rattle.pass_plan.specs.Pass.{Arrays, arrays_after}
use Rattle.pass_plan.specs.Sound.{Split, IsArrayOf, no_place, destinations_of}
use Rattle.expr_split.specs.Places.{IsSplitOf, first_arrays, input_grids}
use Rattle.expr_split.specs.TableLaws.{IsFrom, IsLeftAs}
use Rattle.dma_segments.specs.Laws.{HasArray}
use Rattle.dma_schedule.specs.Laws.{HoldsSources}
use Rattle.dma_schedule.specs.PipeList.{pipe_list}
use Rattle.good_images.specs.Good.{Given, IsGiven}
use Rattle.good_images.specs.Laws.{image_with, TheyAreImages, ListsLeaveOutputs}
use Rattle.good_images.proofs.Bytes.{has_array, place_of, array_there}
use Rattle.good_images.proofs.Lower.{LowerLaws}
use Rattle.good_images.proofs.Runs.{first_of, setting_of}
use Rattle.good_images.proofs.FirstInputs.{first_inputs}
use Rattle.good_images.proofs.Tables.{named_grid, tables_fit, inputs_fit}

-- ---- one source

module _ (split : Split) (inputs : Pairs) (are : ArePairs inputs) (fit : Fits inputs split.table) (number : ℕ) (array : Grid)
    (from : IsFrom split inputs number array) where
  source_grid : IsGrid array
  source_grid = named_grid inputs from.entry.name array are from.is

  source_fits : (array.elem ≡ from.entry.elem) × (array.shape ≡ from.entry.shape)
  source_fits =
      let fitting = fit.inputs from.k from.entry (record { stands = from.there; input = from.input }) in
      let same : fitting.0 ≡ array = same_Some fitting.0 array (sym fitting.1.is ∙ from.is) in (
        ap (λ (g : Grid). g.elem) (sym same) ∙ fitting.2,
        ap (λ (g : Grid). g.shape) (sym same) ∙ fitting.3,
      )

  source_is : IsArrayOf (get_or split.arrays number no_place) array
  source_is =
      subst (λ place. IsArrayOf place array) (sym from.stands.is)
      (record {
        elem_is = source_fits.0;
        as_many = source_grid.filled ∙ ap elements_of source_fits.1;
        typed = subst (λ e. All (IsElement e) array.values) source_fits.0 source_grid.typed;
      })

  source_inside : (image : ImageContents) → IsImage image → split.table ≡ image.arrays → from.entry.place + length (array_bytes array) ≤ image.memory
  source_inside image is_image table =
      let stand = subst (AllStandIn image.memory) (sym table) (stand_in image is_image) in
      input_inside image.memory split.table inputs from.k from.entry array stand fit source_grid (slice_get_within split.table from.k from.entry from.there)
      (sym (get_or_from_slice_get split.table from.k from.entry from.entry from.there)) from.input from.is

  source_stands : (store : Store) → from.entry.place + length (array_bytes array) ≤ length store.memory
      → part store.memory from.entry.place (length (array_bytes array)) ≡ array_bytes array → HasArray (get_or split.arrays number no_place) array store
  source_stands store inside bytes =
      subst (λ place. HasArray place array store) (sym from.stands.is) (has_array (place_of from.entry) array store source_fits.0 inside bytes)

-- ---- all of them

-- the arrays of the inputs by number
abbrev pub arrays_of : List Statement → Given → Arrays
arrays_of program given = first_arrays (input_grids given.inputs program)

module _ (laws : LowerLaws) where
  module _ (program : List Statement) (split : Split) (spad : ℕ) (code : Listing) (checked : IsCheckedProgram program) (is_split : IsSplitOf program split)
      (is_image : IsImage (image_with split spad code)) (given : Given) (is_given : IsGiven program spad given) where
    pub fits_table : Fits given.inputs split.table
    fits_table = tables_fit program split.table given.inputs (laws.declared program split checked is_split) is_given.fit

    pub are_given : FitInputs program given.inputs
    are_given = inputs_fit program given.inputs is_given.arrays is_given.fit

    pub first_size : store_size (first_of (image_with split spad code) given) ≡ record { cells = given.spad; memory = split.memory }
    first_size = laws.sizes (setting_of (image_with split spad code) 0 given) is_image is_given.arrays fits_table

    source : (k : ℕ) → k < length split.arrays → ¬ Contains (destinations_of split.passes) k → IsFrom split given.inputs k (arrays_of program given k)
    source k known unmade = laws.sources program split given.inputs k checked are_given is_split known unmade

    stand : (k : ℕ) → k < length split.arrays → ¬ Contains (destinations_of split.passes) k
        → HasArray (get_or split.arrays k no_place) (arrays_of program given k) (first_of (image_with split spad code) given)
    stand k known unmade =
        let image = image_with split spad code in
        let array = arrays_of program given k in
        let from = source k known unmade in
        let inside = source_inside split given.inputs is_given.arrays fits_table k array from image is_image refl in
        let bytes = first_inputs image given.inputs given.spad is_image is_given.arrays fits_table from.k from.entry array
        (record { stands = from.there; input = from.input }) from.is in
        source_stands split given.inputs is_given.arrays fits_table k array from (first_of image given)
        (omega (arith, inside, ap (λ (s : Size). s.memory) first_size)) bytes

    pub holds_sources : HoldsSources split spad (arrays_of program given) (first_of (image_with split spad code) given)
    holds_sources = record {
      cells = omega (arith, ap (λ (s : Size). s.cells) first_size, is_given.enough);
      memory = omega (arith, ap (λ (s : Size). s.memory) first_size);
      are = λ k known unmade. source_is split given.inputs is_given.arrays fits_table k (arrays_of program given k) (source k known unmade);
      stand = stand;
    }

-- ---- the outputs

-- entry by entry
output_there : (split : Split) (arrays : Arrays) (store : Store) (entry : Entry) (output : List ℕ × Grid) → IsLeftAs split arrays entry output
    → ((k : ℕ) → k < length split.arrays → HasArray (get_or split.arrays k no_place) (arrays k) store) → (entry.name, array_in store.memory entry) ≡ output
output_there split arrays store entry output left has =
    let placed = subst (λ place. HasArray place (arrays left.number) store) left.stands.is (has left.number left.stands.known) in
    let has_output = subst (λ array. HasArray (place_of entry) array store) left.is placed in
    let there = array_there entry output.1 store has_output left.is_grid left.elem_is left.shape_is in
    λ i. (left.named i, there i)

outputs_there : (split : Split) (arrays : Arrays) (store : Store) (entries : List Entry) (outputs : Pairs) → AllZip (IsLeftAs split arrays) entries outputs
    → ((k : ℕ) → k < length split.arrays → HasArray (get_or split.arrays k no_place) (arrays k) store)
    → map (λ entry. (entry.name, array_in store.memory entry)) entries ≡ outputs
outputs_there split arrays store [] [] left has = refl
outputs_there split arrays store [] (output ∷ outputs) left has = absurd left
outputs_there split arrays store (entry ∷ entries) [] left has = absurd left
outputs_there split arrays store (entry ∷ entries) (output ∷ outputs) left has =
    ap (λ (p : List ℕ × Grid). p ∷ map (λ entry. (entry.name, array_in store.memory entry)) entries) (output_there split arrays store entry output left.0 has)
    ∙ ap (λ (l : Pairs). output ∷ l) (outputs_there split arrays store entries outputs left.1 has)

module _ (laws : LowerLaws) (images : TheyAreImages) where
  pub lists_leave_outputs : ListsLeaveOutputs
  lists_leave_outputs program split spad code checked is_split enough few is_code given is_given =
      let is_image = images program split spad code checked is_split enough few is_code in
      let arrays = arrays_of program given in
      let store = first_of (image_with split spad code) given in
      let after = sequential (pipe_list split spad) given.lanes store in
      outputs_there split (arrays_after split.passes arrays) after (filter (λ (entry : Entry). entry.output) split.table) (meaning_of program given.inputs)
      (laws.outputs program split given.inputs checked (are_given laws program split spad code checked is_split is_image given is_given) is_split)
      (laws.leave split spad (laws.sound program split checked is_split) enough (omega (arith, few)) arrays given.lanes store
      (omega (arith, is_given.some_lanes))
      (holds_sources laws program split spad code checked is_split is_image given is_given))
