-- The same in values, and in the words of a pass's buffers.
use Rattle.std.proofs.Common.{◌≡◌, ℕ, pos, zero, suc, ◌+◌, ◌*◌, ◌/◌, ◌%◌, ◌^◌, ◌<◌, Option, None, Some, List, length, get_or, false, ap, sym, ◌∙◌, refl, subst, arith}
use Rattle.std.specs.Prelude.{◌↔◌, slice_get}
use Rattle.std.specs.Option.{option_map, option_map_or}
use Rattle.std.proofs.lemmas.Option.{get_or_from_slice_get, slice_get-get_or}
use Rattle.std.proofs.Math.Nat.{div-one, div-div-eq-div-mul, pow-succ'}
use Rattle.ven_base.specs.Elem.{size_of}
use Rattle.ven_base.specs.Extent.{IsExtent, elements_of}
use Rattle.ven_base.specs.Mapping.{source_of, fill_of}
use Rattle.ven_base.specs.Operation.{bits_of}
use Rattle.ven_base.specs.Grid.{Grid, value_at, mapped_at}
use Rattle.ven_base.specs.Cell.{Cell}
use Rattle.ven_base.specs.Store.{Store, in_cells, in_memory}
use Rattle.venice_isa.specs.declared.work.DmaWork.{DmaWork}
use Rattle.venice_isa.specs.Cell.{cell_at, byte_of}
use Rattle.venice_isa.specs.Element.{low_bytes}
use Rattle.pass_plan.specs.declared.leaf.Leaf.{Leaf}
use Rattle.pass_plan.specs.declared.parts.Piece.{Piece}
use Rattle.pass_plan.specs.declared.parts.Tile.{Tile}
use Rattle.pass_plan.specs.declared.split.ArrayPlace.{ArrayPlace}
use Rattle.pass_plan.specs.Pass.{Pass, Arrays, read_as}
use Rattle.pass_plan.specs.Tile.{piece_of}
use Rattle.pass_plan.specs.Buffers.{byte_of_value, IsLeafPlace, IsLeafByte}
use Rattle.dma_segments.specs.declared.segments.Fill.{Fill}
use Rattle.dma_segments.specs.Put.{CanRead, IsByteOf, piece_cell, array_byte, source_in, PutPiece}
use Rattle.dma_segments.specs.Effect.{IsSourcedCell, HasSides, HasByte}
use Rattle.dma_segments.specs.Laws.{after_reads, HoldPiece, HasArray, leaf_of, leaf_cell}
use Rattle.dma_segments.proofs.Pieces.{source_inside}
use Rattle.dma_segments.proofs.Effects.{cell_below, source_within, reads_bring}

-- ---- bytes

-- byte b of a number, the lowest first
pub low_byte : (count n b : ℕ) → b < count → get_or (low_bytes count n) b 0 ≡ (n / (256 ^ b)) % 256
low_byte zero n b below = absurd (omega arith)
low_byte (suc count) n zero below = ap (λ m. m % 256) (sym (div-one n))
low_byte (suc count) n (suc b) below =
    low_byte count (n / 256) b (omega arith)
    ∙ ap (λ m. m % 256) (div-div-eq-div-mul n 256 (256 ^ b))
    ∙ ap (λ m. (n / m) % 256) (sym (pow-succ' 256 b))

-- what stands at a place that has a byte
memory_has : (store : Store) (p byte : ℕ) → HasByte store (in_memory p) byte → get_or store.memory p 0 ≡ byte
memory_has store p byte has = by (slice_get store.memory p) refl has
  where
    some_is : (x y : ℕ) → Some x ≡ Some y → x ≡ y
    some_is x y is = cc

    by : (o : Option ℕ) → slice_get store.memory p ≡ o → option_map byte_of (option_map (λ x. (x, false)) o) ≡ Some byte → get_or store.memory p 0 ≡ byte
    by None is h = absurd (cc)
    by (Some x) is h = get_or_from_slice_get store.memory p x 0 is ∙ some_is x byte h

cells_have : (store : Store) (p byte : ℕ) → p < length store.cells → byte_of (cell_at store.cells p) ≡ byte → HasByte store (in_cells p) byte
cells_have store p byte below is = ap (option_map byte_of) (slice_get-get_or store.cells p (0, false) below) ∙ ap (λ x. Some x) is

-- ---- a piece in values

module _ (from : ArrayPlace) (array : Grid) (store : Store) (has : HasArray from array store) where
  -- byte b of an element of the array
  pub array_has : (index b : ℕ) → index < length array.values → b < size_of from.elem → get_or store.memory (array_byte from index b) 0 ≡ byte_of_value from.elem (get_or array.values index (pos 0)) b
  array_has index b within b_within =
      let byte = byte_of_value from.elem (get_or array.values index (pos 0)) b in
      memory_has store (array_byte from index b) byte
      (has (array_byte from index b) byte (record { stands = record { index = index; b = b; within = within; b_within = b_within; is = refl }; is = refl }))

pub piece_has_values : (leaf : Leaf) (from : ArrayPlace) (piece : Piece) (buffer : ℕ) (array : Grid) (store : Store) (after : List Cell)
    → CanRead leaf from piece buffer → IsExtent leaf.shape → length array.values ≡ elements_of from.shape → HasArray from array store → HoldPiece leaf from piece buffer store after
    → (row column b : ℕ) → IsByteOf leaf.elem piece row column b
    → byte_of (cell_at after (piece_cell leaf.elem piece buffer row column b)) ≡ byte_of_value leaf.elem (mapped_at leaf.map (read_as leaf array) (piece.r0 + row) (piece.c0 + column)) b
piece_has_values leaf from piece buffer array store after can e long has hold row column b is =
    by (source_of leaf.map leaf.shape (piece.r0 + row) (piece.c0 + column)) refl
  where
    by : (o : Option (ℕ × ℕ)) → source_of leaf.map leaf.shape (piece.r0 + row) (piece.c0 + column) ≡ o
        → byte_of (cell_at after (piece_cell leaf.elem piece buffer row column b)) ≡ byte_of_value leaf.elem (option_map_or (λ s. value_at (read_as leaf array) s.0 s.1) o (fill_of leaf.map)) b
    by None none =
        ap byte_of (hold.fills row column b is (ap (option_map (λ s. s.0 * leaf.shape.cols + s.1)) none))
        ∙ low_byte (size_of leaf.elem) (bits_of leaf.elem (fill_of leaf.map)) b is.b_within
    by (Some s) some =
        let index = s.0 * leaf.shape.cols + s.1 in
        let mapped : source_in leaf piece row column ≡ Some index = ap (option_map (λ s. s.0 * leaf.shape.cols + s.1)) some in
        let within = source_inside leaf piece e can.fits can.inside row column index is.row_within is.column_within mapped in
        ap byte_of (hold.sources row column b index is mapped)
        ∙ array_has from array store has index b (omega (arith, can.as_many)) (subst (λ t. b < size_of t) (sym can.elem_is) is.b_within)
        ∙ ap (λ t. byte_of_value t (get_or array.values index (pos 0)) b) can.elem_is

-- ---- a leaf's half

module _ (pass : Pass) (tile : Tile) (number t : ℕ) (number_within : number < length pass.leaves) where
  pub leaf_cells : (p : ℕ) → IsSourcedCell (leaf_of pass number) (piece_of pass.domain tile t) (leaf_cell pass tile number t) p ↔ IsLeafPlace pass tile number t p
  leaf_cells p = (
    (λ c. record {
      row = c.cell.row;
      column = c.cell.column;
      b = c.cell.b;
      index = c.index;
      number_within = number_within;
      row_within = c.cell.is_byte.row_within;
      column_within = c.cell.is_byte.column_within;
      b_within = c.cell.is_byte.b_within;
      mapped = c.mapped;
      is = c.cell.is;
    }),
    (λ at. record {
      cell = record { row = at.row; column = at.column; b = at.b; is_byte = record { row_within = at.row_within; column_within = at.column_within; b_within = at.b_within }; is = at.is };
      index = at.index;
      mapped = at.mapped;
    }),
  )

  pub reads_show : (from : ArrayPlace) (arrays : Arrays) (commands : List DmaWork) (fills : List Fill) (lanes : ℕ) (store : Store)
      → from.elem ≡ (leaf_of pass number).elem → length (arrays (leaf_of pass number).array).values ≡ elements_of from.shape
      → PutPiece (leaf_of pass number) from (piece_of pass.domain tile t) (leaf_cell pass tile number t) commands fills
      → HasSides from (piece_of pass.domain tile t) (leaf_cell pass tile number t) store → HasArray from (arrays (leaf_of pass number).array) store
      → (p byte : ℕ) → IsLeafByte pass tile arrays number t p byte → HasByte (after_reads commands lanes store) (in_cells p) byte
  reads_show from arrays commands fills lanes store elem_is long put sides has p byte shown =
      let leaf = leaf_of pass number in
      let piece = piece_of pass.domain tile t in
      let buffer = leaf_cell pass tile number t in
      let at = shown.stands in
      let is : IsByteOf leaf.elem piece at.row at.column at.b = record { row_within = at.row_within; column_within = at.column_within; b_within = at.b_within } in
      let brought = reads_bring leaf from piece buffer commands fills put lanes store elem_is sides in
      let within = source_within leaf from piece buffer commands fills put at.row at.column at.b at.index is at.mapped in
      let below = cell_below leaf.elem piece buffer at.row at.column at.b is in
      let same : piece.h * piece.w * size_of from.elem ≡ piece.h * piece.w * size_of leaf.elem = ap (λ e. piece.h * piece.w * size_of e) elem_is in
      let place : p ≡ piece_cell leaf.elem piece buffer at.row at.column at.b = at.is in
      cells_have (after_reads commands lanes store) p byte (omega (arith, brought.others.same_length, sides.in_cells, place))
      (ap (λ c. byte_of (cell_at (after_reads commands lanes store).cells c)) place
      ∙ ap byte_of (brought.sources at.row at.column at.b at.index is at.mapped)
      ∙ array_has from (arrays leaf.array) store has at.index at.b (omega (arith, long)) (subst (λ e. at.b < size_of e) (sym elem_is) at.b_within)
      ∙ ap (λ e. byte_of_value e (get_or (arrays leaf.array).values at.index (pos 0)) at.b) elem_is ∙ sym shown.is)
