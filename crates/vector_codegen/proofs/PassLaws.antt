-- The laws of a tile's instructions.
use Rattle.std.proofs.Common.{◌≡◌, ℕ, ◌+◌, ◌-◌, ◌*◌, ◌/◌, ◌%◌, ◌<◌, ◌≤◌, max, ap, sym, ◌∙◌, subst, refl, arith, List, [], ◌∷◌, ◌++◌, length, length-append, true, false, not, ℤ, pos, None, Some, All}
use Rattle.std.specs.Option.{option_map_or}
use Rattle.std.proofs.lemmas.List.{length-replicate}
use Rattle.std.proofs.Math.Nat.{mul-le-mul_left, mul-le-mul_right}
use Rattle.std.proofs.lemmas.Bool.{false≢true}
use Rattle.ven_base.specs.declared.elem.Elem.{Elem}
use Rattle.ven_base.specs.declared.ops.Fold.TheVariants as fold
use Rattle.ven_base.specs.Elem.{size_of}
use Rattle.ven_base.specs.Wrap.{wrapped}
use Rattle.ven_base.specs.Cell.{Cell}
use Rattle.ven_base.specs.Mapping.{fill_of}
use Rattle.ven_base.specs.Store.{Store}
use Rattle.ven_base.proofs.Wrapped.{wrapped_in}
use Rattle.ven_base.proofs.Operations.{IsElement-one_or_zero}
use Rattle.venice_isa.specs.declared.work.VecWork.{VecWork}
use Rattle.venice_isa.specs.Region.{IsApartFrom}
use Rattle.venice_isa.proofs.Regions.{item_fits}
use Rattle.pass_plan.specs.declared.parts.Tile.{Tile}
use Rattle.pass_plan.specs.declared.pass.PassKind.{PassKind}
use Rattle.pass_plan.specs.declared.pass.PassKind.TheVariants.{Map, Reduce}
use Rattle.pass_plan.specs.declared.split.ArrayPlace.{ArrayPlace}
use Rattle.pass_plan.specs.Tree.{TreeOver, AtLeaf, Literal, One, Two, Cast, Move, Select, elem_of, nodes_of, leaves_of}
use Rattle.pass_plan.specs.Label.{label_of}
use Rattle.pass_plan.specs.Numbers.{inner_of}
use Rattle.pass_plan.specs.Pass.{Pass}
use Rattle.pass_plan.specs.Need.{buffers_of, widest_in}
use Rattle.pass_plan.specs.Buffers.{is_map, buffer_bytes, begins_row, piece_rows, piece_columns}
use Rattle.pass_plan.specs.Buffers as plan
use Rattle.pass_plan.specs.Sound.{CountUp, IsSoundPass}
use Rattle.pass_plan.proofs.Tilings.{size_some}
use Rattle.buffer_lifetimes.specs.Step.{Step}
use Rattle.buffer_lifetimes.proofs.Counts.{counts_steps}
use Rattle.dma_segments.specs.declared.segments.Fill.{Fill}
use Rattle.dma_segments.specs.Put.{cells_of_fill, source_in}
use Rattle.dma_segments.specs.Laws.{leaf_of}
use Rattle.dma_segments.proofs.Lists.{Each, EachPair, each_all, pairs_all, each_weaker}
use Rattle.vector_codegen.specs.Work.{Shape, column_of, Buffers, leaf_buffer, out_buffer}
use Rattle.vector_codegen.specs.TileList.{tile_list}
use Rattle.vector_codegen.specs.Fit.{buffer_count}
use Rattle.vector_codegen.proofs.Good.{IsNamed, IsGood, IsTileBuffer, a_leaf, a_slot, the_output, the_partial}
use Rattle.vector_codegen.specs.Effect.{IsTileNumber, IsOrderOf, tile_piece, IsTileFill, AreTileFills, KeepsToTile}
use Rattle.vector_codegen.specs.Laws.{TilesLeaveResults, TilesKeepToBuffers, TilesAreFew}
use Rattle.vector_codegen.proofs.Held.{count_of, element_place, Spells, Holds, HasRoom, TakesAll}
use Rattle.vector_codegen.proofs.Elements.{spells_as}
use Rattle.vector_codegen.proofs.Bytes.{zeros, zero_spelled}
use Rattle.vector_codegen.proofs.Blocks.{index_below}
use Rattle.vector_codegen.proofs.Runs.{after_works, tile_buffer, does_all, all_good}
use Rattle.vector_codegen.proofs.Steps.{size_positive_fits}
use Rattle.vector_codegen.proofs.Fills.{IsLeafFill}
use Rattle.vector_codegen.proofs.Counts.{within}
use Rattle.vector_codegen.proofs.FillCounts.{few_elements, has_elements}
use Rattle.vector_codegen.proofs.SumPasses.{column_fits}
use Rattle.vector_codegen.proofs.Tiles.{HasResults, HoldsResults, tile_takes, tile_is_short}
use Rattle.vector_codegen.proofs.PassTiles.{shape, buffers, pass_typing, narrow, counted, has_room, tree_elem, tree_type, row_there, column_there, fill_is, are_fills, but_fills}
use Rattle.vector_codegen.proofs.PassResults.{leaf_values, blank_value, sourced, so_far_of, results_before, results_after}

-- ---- the results

pub tiles_leave_results : TilesLeaveResults
tiles_leave_results pass tile t fills steps somewhere number order fills_are places later arrays lanes store sound are some given =
    let shape = shape pass tile t places later sound number in
    let b = buffers pass tile t places later sound number in
    let typing = pass_typing pass tile t places later sound number in
    let leaf = leaf_values pass tile t places later sound number arrays are in
    let blank = blank_value pass tile t places later sound number arrays are in
    let room = has_room pass tile t places later sound number (length store.cells) given.inside in
    let so_far = so_far_of pass tile t places later sound number arrays are store given pass.kind in
    let first = begins_row pass tile t in
    let takes : TakesAll (tile_list pass tile t fills steps) b shape store.cells (HoldsResults pass.kind shape b leaf pass.tree first so_far) =
    tile_takes shape b typing leaf store.cells room pass.tree first so_far sound.normal.no_select pass.kind fills steps order.to refl
    (are_fills pass tile t places later sound number leaf blank fills (each_all _ fills fills_are.each)) order.order (tree_type pass tile t places later sound number)
    (but_fills pass tile t places later sound number leaf blank fills store.cells fills_are (sourced pass tile t places later sound number arrays are store given))
    (results_before pass tile t places later sound number arrays are store given pass.kind refl) in
    let after = does_all b shape room.half room.out (length store.cells) room.inside (HoldsResults pass.kind shape b leaf pass.tree first so_far) (tile_list pass tile t fills steps) lanes store refl some takes in
    results_after pass tile t places later sound number arrays are store given (after_works (tile_list pass tile t fills steps) lanes store) pass.kind refl after

-- ---- the buffers

-- a tile's buffers by the plan's names
named : (pass : Pass) (tile : Tile) (t k : ℕ) → IsTileBuffer (record { leaves = length pass.leaves; slots = label_of pass.tree; in_half = t % 2; out_half = plan.output_half pass tile t; has_partial = not (is_map pass.kind) }) k → plan.IsTileBuffer pass tile t k
named pass tile t k (a_leaf j below is) = plan.of_leaf j below is
named pass tile t k (a_slot s below is) = plan.of_slot s below is
named pass tile t k (the_output is) = plan.of_output is
named pass tile t k (the_partial has is) = plan.of_partial (negated (is_map pass.kind) has) is
  where
    negated : (c : _) → not c ≡ true → c ≡ false
    negated true e = absurd (false≢true e)
    negated false e = refl

-- the element in no source is 0, and the others have the fills' numbers: cells that are 0 hold that
module _ (pass : Pass) (tile : Tile) (t : ℕ) (places : List ArrayPlace) (later : List ℕ) (sound : IsSoundPass places later pass) (number : IsTileNumber pass tile t) where
  abbrev pub S : Shape
  S = shape pass tile t places later sound number

  abbrev pub B : Buffers
  B = buffers pass tile t places later sound number

  abbrev pub cells : List Cell
  cells = zeros (buffers_of pass * buffer_bytes pass tile)

  abbrev pub zero_values : ℕ → ℕ → ℤ
  zero_values i k = option_map_or (λ index. pos 0) (source_in (leaf_of pass k) (tile_piece pass tile t) (i / S.cols) (i % S.cols)) (fill_of (leaf_of pass k).map)

  zero_value : (k row column : ℕ) → column < S.cols → zero_values (row * S.cols + column) k ≡ option_map_or (λ index. pos 0) (source_in (leaf_of pass k) (tile_piece pass tile t) row column) (fill_of (leaf_of pass k).map)
  zero_value k row column column_within =
      ap (λ x. option_map_or (λ index. pos 0) (source_in (leaf_of pass k) (tile_piece pass tile t) x ((row * S.cols + column) % S.cols)) (fill_of (leaf_of pass k).map)) (row_there pass tile t places later sound number row column column_within)
      ∙ ap (λ x. option_map_or (λ index. pos 0) (source_in (leaf_of pass k) (tile_piece pass tile t) row x) (fill_of (leaf_of pass k).map)) (column_there pass tile t places later sound number row column column_within)

  pub zero_blank : (k row column : ℕ) → k < length pass.leaves → row < S.rows → column < S.cols → source_in (leaf_of pass k) (tile_piece pass tile t) row column ≡ None → zero_values (row * S.cols + column) k ≡ fill_of (leaf_of pass k).map
  zero_blank k row column below row_within column_within blank = zero_value k row column column_within ∙ ap (λ o. option_map_or (λ index. pos 0) o (fill_of (leaf_of pass k).map)) blank

  long : length cells ≡ buffers_of pass * buffer_bytes pass tile
  long = length-replicate {A = Cell} (buffers_of pass * buffer_bytes pass tile) (0, false)

  pub room : HasRoom S B (pass_typing pass tile t places later sound number) (length cells)
  room = has_room pass tile t places later sound number (length cells) (omega (arith, long))

  -- an element of a buffer is 0
  zero_there : (elem : Elem) (k i : ℕ) → k < buffer_count B → i * size_of elem + size_of elem ≤ S.room → Spells elem cells (element_place S elem k i) (pos 0)
  zero_there elem k i below fits =
      let next = item_fits k (buffer_count B) S.room below in
      let all = ap (λ n. n * S.room) (counted pass tile t places later sound number) in
      zero_spelled elem (buffers_of pass * buffer_bytes pass tile) (element_place S elem k i) (omega (arith, next, all, fits))

  zero_sourced : (k row column index : ℕ) → k < length pass.leaves → row < S.rows → column < S.cols → source_in (leaf_of pass k) (tile_piece pass tile t) row column ≡ Some index
      → Spells (leaf_of pass k).elem cells (element_place S (leaf_of pass k).elem (leaf_buffer B k) (row * S.cols + column)) (zero_values (row * S.cols + column) k)
  zero_sourced k row column index below row_within column_within mapped =
      let elem = (leaf_of pass k).elem in
      let i = row * S.cols + column in
      let fits = size_positive_fits S (size_of elem) (widest_in pass) (narrow pass tile t places later sound number k below) room.fits in
      let last = item_fits i (count_of S) (size_of elem) (index_below S row column row_within column_within) in
      let buffer = tile_buffer B S (leaf_buffer B k) room.half room.out (a_leaf k below refl) in
      spells_as elem cells _ _ _ _ (zero_there elem (leaf_buffer B k) i buffer (omega arith)) refl (sym (zero_value k row column column_within ∙ ap (λ o. option_map_or (λ index. pos 0) o (fill_of (leaf_of pass k).map)) mapped))

  zero_column : (value : ℕ → ℤ) → ((r : ℕ) → value r ≡ pos 0) → Holds (column_of S) (elem_of pass.tree) cells (out_buffer B) value
  zero_column value none = record {
    each = λ r below.
        let elem = elem_of pass.tree in
        let wide : size_of elem ≤ widest_in pass = subst (λ e. size_of e ≤ widest_in pass) (sym (tree_elem pass tile t places later sound number)) (omega arith) in
        let fits = column_fits S elem room.some_cols (size_positive_fits S (size_of elem) (widest_in pass) wide room.fits) in
        let last = item_fits r (count_of (column_of S)) (size_of elem) below in
        let buffer = tile_buffer B S (out_buffer B) room.half room.out (the_output refl) in
        spells_as elem cells _ _ _ _ (zero_there elem (out_buffer B) r buffer (omega arith)) refl (sym (none r));
  }

  zero_results : (kind : PassKind) → HasResults kind S B pass.tree (begins_row pass tile t) (λ r. pos 0) cells
  zero_results Map = tt
  zero_results (Reduce fold.Sum) = record { none = λ first r. refl; some = λ later. zero_column (λ r. wrapped (elem_of pass.tree) (pos 0)) (λ r. wrapped_in (elem_of pass.tree) (pos 0) (IsElement-one_or_zero (elem_of pass.tree) false)) }
  zero_results (Reduce fold.Min) = record { some = λ later. zero_column (λ r. pos 0) (λ r. refl) }
  zero_results (Reduce fold.Max) = record { some = λ later. zero_column (λ r. pos 0) (λ r. refl) }

  pub all_are_good : (fills : List Fill) (steps : List Step) → IsOrderOf pass.tree (label_of pass.tree) steps → AreTileFills pass tile t fills → All (IsGood (IsTileBuffer B) S.room) (tile_list pass tile t fills steps)
  all_are_good fills steps order fills_are =
      let Holding : List Cell → Type 0 = HoldsResults pass.kind S B zero_values pass.tree (begins_row pass tile t) (λ r. pos 0) in
      let store : Store = record { cells = cells; memory = [] } in
      all_good B S room.half room.out (length cells) room.inside Holding (tile_list pass tile t fills steps) store refl
      (tile_takes S B (pass_typing pass tile t places later sound number) zero_values cells room pass.tree (begins_row pass tile t) (λ r. pos 0) sound.normal.no_select pass.kind fills steps order.to refl
      (are_fills pass tile t places later sound number zero_values zero_blank fills (each_all _ fills fills_are.each)) order.order (tree_type pass tile t places later sound number)
      (but_fills pass tile t places later sound number zero_values zero_blank fills cells fills_are zero_sourced) (zero_results pass.kind))

  keeps_to_tile : (work : VecWork) → IsGood (IsTileBuffer B) S.room work → KeepsToTile pass tile t work
  keeps_to_tile work good = record { simple = good.simple; reads = λ p read. cell_named p (good.reads p read); writes = λ p written. cell_named p (good.writes p written) }
    where
      cell_named : (p : ℕ) → IsNamed (IsTileBuffer B) S.room p → plan.IsTileCell pass tile t p
      cell_named p is = let from = is.2.begins in let below = is.2.ends in record { buffer = is.0; o = p - is.0 * S.room; is = omega arith; o_within = omega arith; is_tile = named pass tile t is.0 is.1 }

  -- ---- how many

  some_fills : (fills : List Fill) → AreTileFills pass tile t fills → Each (λ fill. (k : ℕ) × IsLeafFill S B (pass_typing pass tile t places later sound number) zero_values fill k) fills
  some_fills fills fills_are =
      each_weaker (λ fill. (k : ℕ) × IsTileFill pass tile t k fill) (λ fill. (k : ℕ) × IsLeafFill S B (pass_typing pass tile t places later sound number) zero_values fill k)
      (λ fill is. (is.0, fill_is pass tile t places later sound number zero_values zero_blank fill is.0 is.1)) fills (each_all _ fills fills_are.each)

pub tiles_keep_to_buffers : TilesKeepToBuffers
tiles_keep_to_buffers pass tile t fills steps somewhere number order fills_are k d below =
    let places = somewhere.0 in
    let later = somewhere.1 in
    let sound = somewhere.2 in
    keeps_to_tile pass tile t places later sound number _ (all_are_good pass tile t places later sound number fills steps order fills_are k d below)

-- ---- how many

-- inner nodes and occurrences of leaves are nodes
pub nodes_at_least : (t : TreeOver ℕ) → inner_of t + length (leaves_of t) ≤ nodes_of t
nodes_at_least (AtLeaf k) = omega arith
nodes_at_least (Literal n) = omega arith
nodes_at_least (One op elem a) = let x = nodes_at_least a in omega arith
nodes_at_least (Cast elem from a) = let x = nodes_at_least a in omega arith
nodes_at_least (Move elem a) = let x = nodes_at_least a in omega arith
nodes_at_least (Two op elem a c) = let x = nodes_at_least a in let y = nodes_at_least c in omega (arith, length-append (leaves_of a) (leaves_of c))
nodes_at_least (Select elem c x y) =
    let nc = nodes_at_least c in
    let nx = nodes_at_least x in
    let ny = nodes_at_least y in
    omega (arith, length-append (leaves_of c) (leaves_of x ++ leaves_of y), length-append (leaves_of x) (leaves_of y))

-- each leaf occurs
pub leaves_occur : (ks : List ℕ) (count all : ℕ) → CountUp ks count all → all ≤ count + length ks
leaves_occur [] count all up = omega (arith, up)
leaves_occur (k ∷ ks) count all up = let rest = leaves_occur ks (max count (k + 1)) all up.1 in let first = up.0 in omega arith

pub tiles_are_few : TilesAreFew
tiles_are_few pass tile t fills steps somewhere number order fills_are lanes some =
    let places = somewhere.0 in
    let later = somewhere.1 in
    let sound = somewhere.2 in
    let S = shape pass tile t places later sound number in
    let B = buffers pass tile t places later sound number in
    let typing = pass_typing pass tile t places later sound number in
    let leaf = zero_values pass tile t places later sound number in
    let room = room pass tile t places later sound number in
    let n = count_of S in
    let each = some_fills pass tile t places later sound number fills fills_are in
    let some_n : 1 ≤ n = let one : 1 * 1 ≤ S.rows * 1 = mul-le-mul_right 1 room.some_rows in let wide : S.rows * 1 ≤ S.rows * S.cols = mul-le-mul_left S.rows room.some_cols in omega arith in
    let fits = λ (k : ℕ) (below : k < typing.leaves). size_positive_fits S (size_of (typing.leaf k)) typing.most (room.leaf_sizes k below) room.fits in
    let some_most : 1 ≤ typing.most = let small = size_some pass.elem in omega arith in
    let some_room : 0 < S.room = let one : 1 * 1 ≤ n * 1 = mul-le-mul_right 1 some_n in let more : n * 1 ≤ n * typing.most = mul-le-mul_left n some_most in let fits = room.fits in omega arith in
    let apart : EachPair (λ a c. IsApartFrom (cells_of_fill a) (cells_of_fill c)) fills = pairs_all _ fills fills_are.apart in
    let few = few_elements S B typing leaf room.half fits some_room fills each apart in
    let has = has_elements S B typing leaf room.half fits some_room fills (typing.leaves * n) each few in
    let short = tile_is_short S B lanes room.some_rows room.some_cols some pass.kind (begins_row pass tile t) fills steps (typing.leaves * n) has in
    let one_each : length steps ≡ inner_of pass.tree = counts_steps pass.tree (label_of pass.tree) steps order.to order.order in
    let occur = leaves_occur (leaves_of pass.tree) 0 (length pass.leaves) sound.numbered in
    let nodes = nodes_at_least pass.tree in
    let count : length pass.leaves + (length steps + 1) ≤ nodes_of pass.tree + 3 = omega arith in
    let all : n * (length pass.leaves + (length steps + 1)) ≤ n * (nodes_of pass.tree + 3) = mul-le-mul_left n count in
    within S B lanes room.some_rows room.some_cols some (tile_list pass tile t fills steps) (typing.leaves * n + n * (length steps + 1)) (n * (nodes_of pass.tree + 3)) (omega arith) short
