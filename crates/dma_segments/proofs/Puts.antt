-- The list of a piece puts the piece.
use Rattle.std.proofs.Common.{◌≡◌, ℕ, ◌+◌, ◌*◌, ◌/◌, ◌%◌, ◌<◌, ◌≤◌, Option, List, length, ap, sym, ◌∙◌, subst, arith, Result, Ok, Err}
use Rattle.std.specs.Prelude.{All, Any, IfOk}
use Rattle.std.proofs.lemmas.Nat.{div-add-mod', mod_below, div_below, mul-add-lt}
use Rattle.ven_base.specs.Elem.{size_of}
use Rattle.ven_base.specs.Extent.{IsExtent}
use Rattle.ven_base.specs.Mapping.{fill_of}
use Rattle.venice_isa.specs.declared.work.DmaWork.{DmaWork}
use Rattle.venice_isa.specs.Region.{Covers, IsApartFrom, HasRowsApart}
use Rattle.venice_isa.specs.Footprint.{cells_of}
use Rattle.pass_plan.specs.declared.leaf.Leaf.{Leaf}
use Rattle.pass_plan.specs.declared.parts.Piece.{Piece}
use Rattle.pass_plan.specs.declared.split.ArrayPlace.{ArrayPlace}
use Rattle.dma_segments.specs.declared.segments.Fill.{Fill}
use Rattle.dma_segments.specs.Patch.{read_patches}
use Rattle.dma_segments.specs.ReadList.{read_list, sides_of}
use Rattle.dma_segments.specs.Moves.{moves, command_limit, fill_limit}
use Rattle.dma_segments.specs.Put.{CanRead, IsByteOf, piece_cell, source_in, cells_of_fill, regions_of, IsRead, IsFill, PutPiece, HasLongRows, HasLongFillRows}
use Rattle.dma_segments.proofs.Lists.{each_weaker, all_each, any_one, all_pairs}
use Rattle.dma_segments.proofs.Bytes.{ReadsElements, FillsElements, PutElements, buffer_byte, patches_put}
use Rattle.dma_segments.proofs.Pieces.{wanted_of, element_at, plain_patches, read_patches_are}
use Rattle.dma_segments.proofs.Counts.{commands_few, fills_few, both_few, commands_long, fills_long}
use Rattle.dma_segments.proofs.Rooms.{sources_inside}

module _ (leaf : Leaf) (from : ArrayPlace) (piece : Piece) (buffer : ℕ) (can : CanRead leaf from piece buffer) (e : IsExtent leaf.shape) where
  abbrev count : ℕ
  count = piece.h * piece.w

  abbrev wanted : ℕ → Option ℕ
  wanted = wanted_of leaf piece

  -- element p of the piece in its row and column
  byte_of_place : (p b : ℕ) → p < count → b < size_of leaf.elem → IsByteOf leaf.elem piece (p / piece.w) (p % piece.w) b
  byte_of_place p b below b_below = record { row_within = div_below p piece.w piece.h can.inside.some_cols below; column_within = mod_below p piece.w can.inside.some_cols; b_within = b_below }

  cell_of_place : (p b : ℕ) → buffer_byte leaf.elem from.place buffer p b ≡ piece_cell leaf.elem piece buffer (p / piece.w) (p % piece.w) b
  cell_of_place p b =
      let whole : (p / piece.w * piece.w + p % piece.w) * size_of leaf.elem ≡ p * size_of leaf.elem = ap (λ m. m * size_of leaf.elem) (div-add-mod' p piece.w) in
      omega arith

  read_is : (work : DmaWork) → ReadsElements leaf.elem from.place buffer count wanted work → IsRead leaf from piece buffer work
  read_is work reads = record {
    some_rows = reads.some_rows;
    some_bytes = reads.some_bytes_of;
    bytes = λ r j row col.
        let at = reads.bytes r j row col in
        let same : at.s * size_of from.elem ≡ at.s * size_of leaf.elem = ap (λ t. at.s * size_of t) can.elem_is in
        record {
          row = at.p / piece.w;
          column = at.p % piece.w;
          b = at.t;
          index = at.s;
          is_byte = byte_of_place at.p at.t at.inside at.below;
          mapped = at.wanted_is;
          within = sources_inside leaf from piece buffer can e at.p at.s at.inside at.wanted_is;
          cell_is = at.to ∙ cell_of_place at.p at.t;
          byte_is = omega (arith, at.from);
        };
  }

  fill_is : (fill : Fill) → FillsElements leaf.elem from.place buffer count wanted (fill_of leaf.map) fill → IsFill leaf from piece buffer fill
  fill_is fill fills = record {
    some_rows = fills.some_rows;
    some_cols = fills.some_cols;
    elem_is = fills.elem_is;
    value_is = fills.value_is;
    places = λ r k row col.
        let at = fills.places r k row col in
        record {
          row = at.0 / piece.w;
          column = at.0 % piece.w;
          row_within = div_below at.0 piece.w piece.h can.inside.some_cols at.1;
          column_within = mod_below at.0 piece.w can.inside.some_cols;
          blank = at.2;
          cell_is = at.3 ∙ cell_of_place at.0 0;
        };
  }

  -- the element in a row and a column by its number
  number_below : (row column b : ℕ) → IsByteOf leaf.elem piece row column b → row * piece.w + column < count
  number_below row column b is = let l = mul-add-lt row piece.w column piece.h is.row_within is.column_within in omega arith

  number_wanted : (row column b : ℕ) → IsByteOf leaf.elem piece row column b → wanted (row * piece.w + column) ≡ source_in leaf piece row column
  number_wanted row column b is = element_at leaf piece (Option ℕ) (source_in leaf piece) row column is.column_within

  number_cell : (row column b : ℕ) → buffer_byte leaf.elem from.place buffer (row * piece.w + column) b ≡ piece_cell leaf.elem piece buffer row column b
  number_cell row column b = omega arith

  put_of : (commands : List DmaWork) (fills : List Fill) → PutElements leaf.elem from.place buffer count wanted (fill_of leaf.map) commands fills → PutPiece leaf from piece buffer commands fills
  put_of commands fills put = record {
    are_reads = all_each (IsRead leaf from piece buffer) commands (each_weaker (ReadsElements leaf.elem from.place buffer count wanted) (IsRead leaf from piece buffer) read_is commands put.read);
    are_fills = all_each (IsFill leaf from piece buffer) fills (each_weaker (FillsElements leaf.elem from.place buffer count wanted (fill_of leaf.map)) (IsFill leaf from piece buffer) fill_is fills put.fill);
    each_read = λ row column b index is mapped.
        let p = row * piece.w + column in
        let found = put.each_read p index b (number_below row column b is) (number_wanted row column b is ∙ mapped) is.b_within in
        subst (λ c. Any (λ work. Covers (cells_of work) c) commands) (number_cell row column b) (any_one (λ work. Covers (cells_of work) (buffer_byte leaf.elem from.place buffer p b)) commands found);
    each_filled = λ row column b is blank.
        let p = row * piece.w + column in
        let found = put.each_filled p b (number_below row column b is) (number_wanted row column b is ∙ blank) is.b_within in
        subst (λ c. Any (λ fill. Covers (cells_of_fill fill) c) fills) (number_cell row column b) (any_one (λ fill. Covers (cells_of_fill fill) (buffer_byte leaf.elem from.place buffer p b)) fills found);
    rows_apart = all_each HasRowsApart (regions_of commands fills) put.rows_apart;
    once = all_pairs IsApartFrom (regions_of commands fills) put.once;
  }

  -- ---- what `reads` promises of the list, and so of lists that are it

  pub is_put : (commands : List DmaWork) (fills : List Fill) → commands ≡ (read_list leaf from piece buffer).commands → fills ≡ (read_list leaf from piece buffer).fills → PutPiece leaf from piece buffer commands fills
  is_put commands fills c d =
      subst (λ x. PutPiece leaf from piece buffer x fills) (sym c)
      (subst (λ y. PutPiece leaf from piece buffer (read_list leaf from piece buffer).commands y) (sym d)
      (put_of (read_list leaf from piece buffer).commands (read_list leaf from piece buffer).fills
      (patches_put leaf.elem from.place buffer count wanted (fill_of leaf.map) (read_patches leaf.map leaf.shape piece) (read_patches_are leaf piece e can.fits can.inside))))

  pub is_few : (commands : List DmaWork) (fills : List Fill) → commands ≡ (read_list leaf from piece buffer).commands → fills ≡ (read_list leaf from piece buffer).fills → length commands + length fills ≤ moves leaf.map piece
  is_few commands fills c d =
      let l = both_few leaf piece e can.fits can.inside (sides_of leaf.elem from buffer) in
      omega (arith, ap length c, ap length d)

  pub has_few_commands : (commands : List DmaWork) → commands ≡ (read_list leaf from piece buffer).commands → length commands ≤ command_limit leaf.map piece
  has_few_commands commands c =
      let l = commands_few leaf piece e can.fits can.inside (sides_of leaf.elem from buffer) in
      omega (arith, ap length c)

  pub has_few_fills : (fills : List Fill) → fills ≡ (read_list leaf from piece buffer).fills → length fills ≤ fill_limit leaf.map
  has_few_fills fills d =
      let l = fills_few leaf piece e can.fits can.inside (sides_of leaf.elem from buffer) in
      omega (arith, ap length d)

  pub has_long_rows : (commands : List DmaWork) → commands ≡ (read_list leaf from piece buffer).commands → All HasLongRows commands
  has_long_rows commands c = subst (λ x. All HasLongRows x) (sym c) (all_each HasLongRows (read_list leaf from piece buffer).commands (commands_long leaf.elem from.place buffer (plain_patches leaf piece)))

  pub has_long_fills : (fills : List Fill) → fills ≡ (read_list leaf from piece buffer).fills → All HasLongFillRows fills
  has_long_fills fills d = subst (λ x. All HasLongFillRows x) (sym d) (all_each HasLongFillRows (read_list leaf from piece buffer).fills (fills_long leaf.elem from.place buffer (fill_of leaf.map) (plain_patches leaf piece)))

pub ok_one : {S E : Type 0} (P R : S → Type 0) (r : Result S E) → IfOk r P → ((s : S) → P s → R s) → IfOk r R
ok_one P R (Ok s) p f = f s p
ok_one P R (Err e) p f = tt

pub ok_both : {S E : Type 0} (P Q R : S → Type 0) (r : Result S E) → IfOk r P → IfOk r Q → ((s : S) → P s → Q s → R s) → IfOk r R
ok_both P Q R (Ok s) p q f = f s p q
ok_both P Q R (Err e) p q f = tt
